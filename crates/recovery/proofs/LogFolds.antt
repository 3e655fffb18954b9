-- Anything that is worked out page by page from a log: what it is up to a place of a sheet, from what it is below
-- that place. Assumes nothing.
use Prim.Native.Nat.{ℕ, zero, suc, min, ◌*◌, ◌-◌, ◌/◌, ◌<◌, ◌≤◌}
use mathlib.Core.Path.{◌≡◌, refl, sym, ap, ◌∙◌}
use mathlib.Core.Bool.{Bool, true, false}
use mathlib.Core.List.{List, ◌∷◌}
use native.Mathlib.Omega.{arith}
use native.Mathlib.Numerals.{sub-one}
use lib.ListN.{length, get_or, get_or-eq_default}
use lib.Dec.{eqb, leb}
use borrow.Author.Tests.{eqb-true, eqb-false, leb-true, leb-false}
use Rattle.page.specs.Layout.{page_size}
use Rattle.recovery.specs.Log.{Entry, blank}
use Rattle.recovery.specs.Sheet.{sealed}
use Rattle.recovery.specs.World.{down}
use Rattle.recovery.specs.Lent.{pages_of}
use Rattle.recovery.proofs.Pages.{page_here, length_down, pages_long}

module _ {A : Type 0} (of : List Entry → A) (step : Entry → ℕ → A → A) (cons : (g : Entry) (l : List Entry) → of (g ∷ l) ≡ step g (suc (length l)) (of l)) (files : ℕ) (s : List ℕ) where
  abbrev up_to : ℕ → A
  up_to p = of (down (pages_of s files) p)

  pub one_more : (p : ℕ) → 0 < p → page_size * p ≤ length s → up_to p ≡ step (sealed files s p) p (up_to (p - 1))
  unfolding down
  one_more zero l h = absurd (omega arith)
  one_more (suc q) l h =
      let k : q < length s / page_size = omega arith in
      cons (get_or (pages_of s files) q blank) (down (pages_of s files) q)
      ∙ rw (length_down (pages_of s files) q, page_here files (length s / page_size) s q k, sub-one)

  -- pages above the sheet are blank
  module _ (blanks : (p : ℕ) (x : A) → step blank p x ≡ x) where
    above : (p : ℕ) → length s / page_size ≤ p → up_to p ≡ up_to (length s / page_size)
    unfolding down
    above zero h = let e : length s / page_size ≡ 0 = omega arith in rw e
    above (suc p) h = go (eqb (length s / page_size) (suc p)) refl (λ l. above p l)
      where
        go : (b : Bool) → eqb (length s / page_size) (suc p) ≡ b → (length s / page_size ≤ p → up_to p ≡ up_to (length s / page_size)) → up_to (suc p) ≡ up_to (length s / page_size)
        go true e f = let z : length s / page_size ≡ suc p = eqb-true _ _ e in ap up_to (sym z)
        go false e f =
            let l : length s / page_size ≤ p = omega (arith, eqb-false (length s / page_size) (suc p) e) in
            let g : get_or (pages_of s files) p blank ≡ blank = get_or-eq_default (pages_of s files) blank (omega (arith, pages_long files (length s / page_size) s)) in
            cons (get_or (pages_of s files) p blank) (down (pages_of s files) p) ∙ rw g (blanks _ _ ∙ f l)

    pub from_end : (end : ℕ) → up_to (min end (length s / page_size)) ≡ up_to end
    from_end end = go (leb end (length s / page_size)) refl
      where
        go : (b : Bool) → leb end (length s / page_size) ≡ b → up_to (min end (length s / page_size)) ≡ up_to end
        go true e = let z : min end (length s / page_size) ≡ end = omega (arith, leb-true end (length s / page_size) e) in ap up_to z
        go false e =
            let k : length s / page_size ≤ end = omega (arith, leb-false end (length s / page_size) e) in
            let z : min end (length s / page_size) ≡ length s / page_size = omega arith in
            ap up_to z ∙ sym (above end k)
