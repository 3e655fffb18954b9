-- The keyholder mask, read off a week and put behind the times. Assumes nothing.
use Prim.Native.Nat.{ℕ, ◌+◌, ◌*◌}
use mathlib.Core.Path.{◌≡◌, refl, sym, ap, ◌∙◌}
use mathlib.Core.List.{List, ◌++◌, append-nil}
use native.Mathlib.Omega.{arith}
use lib.ListN.{length, take, drop}
use lib.Seq.{take_all}
use Rattle.encoding.specs.Bytes.{number, bytes}
use Rattle.weeks.specs.declared.Edition.{Edition}
use Rattle.weeks.specs.Editions.{times_a_week, size, width, mask_size}
use Rattle.weeks.specs.Weeks.{keyholders}
use Rattle.weeks.proofs.Editions.{two_masked, mask_within}

-- w and m are the bytes of a time and of a mask, as the code has them
module _ (e : Edition) {w m : ℕ} (wide : w ≡ width e) (masked : m ≡ mask_size e) where
  pub mask_read : (s : List ℕ) {x : ℕ} → (m ≡ 0 → ⊥) → x ≡ number (take 2 (drop (w * times_a_week) s)) → x ≡ keyholders e s
  unfolding keyholders
  mask_read s l r =
      let two : mask_size e ≡ 2 = two_masked e (λ z. l (masked ∙ z)) in
      rw (← wide, two) r

  pub mask_put : (out next : List ℕ) (x : ℕ) → (m ≡ 0 → ⊥) → length next ≡ size e
      → take (w * times_a_week + 2) next ≡ take (w * times_a_week) out ++ bytes 2 x → next ≡ take (width e * times_a_week) out ++ bytes (mask_size e) x
  mask_put out next x l long r =
      let two : mask_size e ≡ 2 = two_masked e (λ z. l (masked ∙ z)) in
      rw (← wide, two) (sym (take_all (w * times_a_week + 2) next (omega (arith, mask_within e wide masked l))) ∙ r)

pub no_mask_read : (e : Edition) (s : List ℕ) {m : ℕ} → m ≡ mask_size e → m ≡ 0 → 0 ≡ keyholders e s
unfolding keyholders
no_mask_read e s i h = let none : mask_size e ≡ 0 = sym i ∙ h in rw none refl

pub no_mask_put : (o : Edition) (out : List ℕ) (x : ℕ) {m : ℕ} → m ≡ mask_size o → m ≡ 0 → length out ≡ size o
    → out ≡ take (width o * times_a_week) out ++ bytes (mask_size o) x
unfolding size
no_mask_put o out x i h long =
    let times : List ℕ = take (width o * times_a_week) out in
    sym (ap (λ (n : ℕ). times ++ bytes n x) (sym i ∙ h) ∙ append-nil times ∙ take_all (width o * times_a_week) out (omega arith))
