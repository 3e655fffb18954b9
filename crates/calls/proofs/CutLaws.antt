-- What a cut leaves of a sheet when a page's bytes are stored first to last: the first n bytes of the page that a call appended, and
-- all else as it was. Assumes nothing.
use Prim.Native.Nat.{ℕ, zero, suc, ◌+◌, ◌*◌, ◌<◌}
use mathlib.Core.Path.{◌≡◌, refl, sym, ap, ◌∙◌}
use mathlib.Core.List.{List, [], ◌∷◌, ◌++◌}
use mathlib.Core.Bool.{Bool, true, false}
use native.Mathlib.Omega.{arith}
use lib.ListN.{length, take, drop, length-take, length-drop}
use lib.Seq.{ext_get_or, get_or-take, get_or-drop}
use lib.Dec.{ltb}
use borrow.Author.Tests.{ltb-true, ltb-false, lt-ltb, le-ltb}
use Rattle.page.specs.Layout.{page_size}
use Rattle.recovery.specs.Sheet.{page_bytes}
use Rattle.calls.specs.Leaves.{with_page}
use Rattle.calls.specs.Cuts.{mixed, stored_of, first_bytes}
use Rattle.calls.proofs.OnePage.{SameBut}

same_test : (a b c d : ℕ) → (a < b → c < d) → (c < d → a < b) → ltb a b ≡ ltb c d
same_test a b c d f g = go (ltb a b) refl
  where
    go : (x : Bool) → ltb a b ≡ x → x ≡ ltb c d
    go true e = sym (lt-ltb c d (f (ltb-true a b e)))
    go false e = sym (other (ltb c d) refl)
      where
        other : (y : Bool) → ltb c d ≡ y → y ≡ false
        other true q = absurd (omega (arith, g (ltb-true c d q), ltb-false a b e))
        other false q = refl

mixed_cong : (κ ν : ℕ → Bool) (new old : List ℕ) → ((i : ℕ) → κ i ≡ ν i) → mixed κ new old ≡ mixed ν new old
unfolding mixed
mixed_cong κ ν [] old h = refl
mixed_cong κ ν (x ∷ new) [] h = refl
mixed_cong κ ν (x ∷ new) (y ∷ old) h = rw (h 0, mixed_cong (λ i. κ (suc i)) (λ i. ν (suc i)) new old (λ i. h (suc i)))

pub mixed_first : (n : ℕ) (new old : List ℕ) → length old ≡ length new → mixed (first_bytes n) new old ≡ take n new ++ drop n old
unfolding mixed
mixed_first zero [] [] h = refl
mixed_first (suc n) [] [] h = refl
mixed_first n [] (y ∷ old) h = absurd (omega arith)
mixed_first n (x ∷ new) [] h = absurd (omega arith)
mixed_first zero (x ∷ new) (y ∷ old) h =
    ap (λ l. y ∷ l) (mixed_cong (λ i. ltb (suc i) 0) (first_bytes 0) new old (λ i. le-ltb (suc i) 0 (omega arith) ∙ sym (le-ltb i 0 (omega arith))) ∙ mixed_first zero new old (omega arith))
mixed_first (suc n) (x ∷ new) (y ∷ old) h =
    rw (lt-ltb 0 (suc n) (omega arith)) (ap (λ l. x ∷ l) (mixed_cong (λ i. ltb (suc i) (suc n)) (first_bytes n) new old (λ i. same_test (suc i) (suc n) i n (λ k. omega arith) (λ k. omega arith)) ∙ mixed_first n new old (omega arith)))

module _ (q : ℕ) (old new : List ℕ) (h : SameBut q old new) where
  fronts : take (page_size * q) new ≡ take (page_size * q) old
  fronts = ext_get_or 0 (take (page_size * q) new) (take (page_size * q) old) (simp length-take (omega (arith, h.long)))
      (λ i k.
      let u : i < page_size * q = omega (arith, length-take (page_size * q) new) in
      get_or-take (page_size * q) new i 0 u ∙ h.below i u ∙ sym (get_or-take (page_size * q) old i 0 u))

  backs : drop (page_size * q + page_size) new ≡ drop (page_size * q + page_size) old
  backs = ext_get_or 0 (drop (page_size * q + page_size) new) (drop (page_size * q + page_size) old) (simp length-drop (omega (arith, h.long)))
      (λ i k. get_or-drop (page_size * q + page_size) new i 0 ∙ h.above i ∙ sym (get_or-drop (page_size * q + page_size) old i 0))

  pub first_stored : (n : ℕ) → with_page new q (take n (page_bytes new (suc q)) ++ drop n (page_bytes old (suc q))) ≡ stored_of (first_bytes n) q new old
  unfolding with_page
  first_stored n =
      let page : List ℕ = take n (page_bytes new (suc q)) ++ drop n (page_bytes old (suc q)) in
      ap (λ t. t ++ (page ++ drop (page_size * q + page_size) new)) fronts ∙ ap (λ t. take (page_size * q) old ++ (page ++ t)) backs
      ∙ ap (λ p. take (page_size * q) old ++ (p ++ drop (page_size * q + page_size) old)) (sym (mixed_first n (page_bytes new (suc q)) (page_bytes old (suc q)) (simp (length-take, length-drop) (omega (arith, h.long)))))
