-- A sheet with a bad page: the end is not below it, and past line 1 open is refused 2 and names a place not below it. Shuts out an opening
-- that passes a damaged page over. Assumes nothing.
use Prim.Native.Nat.{ℕ, zero, suc, ◌*◌, ◌/◌, ◌≤◌}
use mathlib.Core.Path.{◌≡◌, refl, sym, ap, ◌∙◌}
use mathlib.Core.Bool.{Bool, true, false, true≢false, false≢true}
use mathlib.Core.List.{List}
use native.Mathlib.Omega.{arith}
use borrow.Author.Tests.{eqb-true, eqb-false}
use lib.Dec.{eqb}
use lib.ListN.{length, get_or}
use Rattle.encoding.proofs.Logic.{by_test}
use Rattle.page.specs.Layout.{page_size}
use Rattle.recovery.specs.Places.{nth}
use Rattle.recovery.specs.Log.{Entry, blank, bad}
use Rattle.recovery.specs.Sheet.{sealed, pages}
use Rattle.recovery.specs.World.{down, is_blank, is_bad, end_of, highest_bad, fates_of}
use Rattle.recovery.specs.Lent.{row_length, sizes_right, refused, closed, open_leaves}
use Rattle.recovery.specs.OpenSteps.{refused_opening}
use Rattle.recovery.proofs.Pages.{page_at_place, length_down}
use Rattle.recovery.proofs.Sizes.{Sizes, sizes_right_lem}
use Rattle.recovery.proofs.OpeningLaws.{open_bad}
use Rattle.recovery.specs.declared.Refusal.TheVariants.{BadPage}

module _ (P : List Entry) (p : ℕ) where
  -- a page of which a test says otherwise is another page
  apart : (test : Entry → Bool) {b c : Bool} → (b ≡ c → ⊥) → test (nth blank P p) ≡ b → (m : ℕ) → p ≤ suc m → test (get_or P m blank) ≡ c → p ≤ m
  apart test n here m h e = go (eqb p (suc m)) refl
    where
      go : (t : Bool) → eqb p (suc m) ≡ t → p ≤ m
      go true x = absurd (n (sym here ∙ ap (λ (k : ℕ). test (nth blank P k)) (eqb-true p (suc m) x) ∙ e))
      go false x = omega (arith, eqb-false p (suc m) x)

  -- the end is not below a page that is not blank
  pub used_end : is_blank (nth blank P p) ≡ false → (n : ℕ) → p ≤ n → p ≤ end_of P n
  unfolding end_of
  used_end here zero h = h
  used_end here (suc m) h = by_test (λ (x : ℕ). p ≤ x) (is_blank (get_or P m blank)) (λ e. used_end here m (apart is_blank false≢true here m h e)) (λ e. h)

  -- nor the highest bad place below a bad one
  highest_above : is_bad (nth blank P p) ≡ true → (e : ℕ) → p ≤ e → p ≤ highest_bad (down P e)
  unfolding down highest_bad
  highest_above here zero h = omega arith
  highest_above here (suc m) h =
      by_test (λ (x : ℕ). p ≤ x) (is_bad (get_or P m blank)) (λ e. omega (arith, length_down P m)) (λ e. highest_above here m (apart is_bad true≢false here m h e))

pub bad_refused : (s fates rows : List ℕ) (floor p : ℕ) → sizes_right (length s) (length fates) (length rows) ≡ true → 1 ≤ p → page_size * p ≤ length s
    → sealed (length rows / row_length) s p ≡ bad → (q : ℕ) × (p ≤ q) × (open_leaves s fates rows floor ≡ refused BadPage q s fates rows closed)
bad_refused s fates rows floor p ok low room e =
    let files : ℕ = length rows / row_length in
    let n : ℕ = length s / page_size in
    let k : Sizes (length s) (length fates) (length rows) = sizes_right_lem (length s) (length fates) (length rows) ok in
    let P : List Entry = pages files n s in
    let l : p ≤ n = omega arith in
    let g : nth blank P p ≡ bad = page_at_place files n s p low l ∙ e in
    let highest : ℕ = highest_bad (down P (end_of P n)) in
    let h : p ≤ highest = highest_above P p (ap is_bad g) (end_of P n) (used_end P p (ap is_blank g) n l) in (
      highest,
      h,
      sym (open_bad s fates rows floor ok n files (sym k.fates_are) refl (record { end = end_of P n; bad = highest }) (fates_of n (down P (end_of P n)))
          (record { end_is = refl; bad_is = refl; kept_is = refl }) (λ z. omega arith) (refused_opening BadPage highest) refl),
    )
