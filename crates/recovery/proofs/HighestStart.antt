-- The highest start of a sheet, as the code walks down to it; and no image of the sheet starts above it. Shuts out one that goes by the
-- newest image, or by the committed ones alone. Assumes nothing.
use Prim.Native.Nat.{ℕ, zero, suc, ◌-◌, ◌/◌, ◌<◌, ◌≤◌}
use mathlib.Core.Path.{◌≡◌, refl, ap, ◌∙◌}
use mathlib.Core.Bool.{Bool, true, false, cond}
use mathlib.Core.List.{List, [], ◌∷◌}
use native.Mathlib.Omega.{arith}
use native.Mathlib.Numerals.{sub-one}
use lib.ListN.{length}
use lib.Dec.{ltb}
use borrow.Author.Tests.{ltb-true, ltb-false}
use Rattle.encoding.proofs.Logic.{by_test, clash}
use Rattle.page.specs.declared.Page.{Page}
use Rattle.page.specs.declared.Unpacked.{Unpacked}
use Rattle.page.specs.declared.Unpacked.TheVariants.{Refused, Blank, Torn, Opening, Image, Outcome, Unfit}
use Rattle.std.specs.Prelude.{Option, Some, None}
use Rattle.page.specs.Layout.{page_size}
use Rattle.page.specs.Answers.{tested, image_above}
use Rattle.recovery.specs.Places.{nth, tabulate}
use Rattle.recovery.specs.Log as log
use Rattle.recovery.specs.Log.{Entry, blank, torn, bad, opening, image, outcome, start_step, highest_start}
use Rattle.recovery.specs.Sheet.{page_bytes, image_from, entry_of, is_opening, seal, decoded, sealed, pages}
use Rattle.recovery.specs.Lent.{pages_of, highest_start_of}
use Rattle.recovery.specs.Steps.{has_place, part_at}
use Rattle.recovery.proofs.Pages.{test_out, place_in, place_out, part_tested, page_at_place, sealed_is}

-- a page lowers nothing
at_least : (g : Entry) (x : ℕ) → x ≤ start_step g x
at_least blank x = omega arith
at_least torn x = omega arith
at_least bad x = omega arith
at_least (opening k) x = omega arith
at_least (image i) x = omega arith
at_least (outcome a c) x = omega arith

module _ (files : ℕ) (s : List ℕ) where
  -- ---- a page, by the quick look

  -- what was found counts if its opening is there
  abbrev or_found : ℕ → Option Page → ℕ
  or_found start (Some x) = cond (is_opening (decoded files s x.action)) x.start start
  or_found start None = start

  looked : (b : List ℕ) (start : ℕ) (u : Unpacked) → or_found start (image_above start u) ≡ start_step (seal (decoded files s) (entry_of b u)) start
  unfolding image_above
  looked b start Refused = refl
  looked b start Blank = refl
  looked b start Torn = refl
  looked b start (Opening p) = refl
  looked b start (Outcome p) = by_test (λ (g : Entry). start ≡ start_step g start) (is_opening (decoded files s p.action)) (λ e. refl) (λ e. refl)
  looked b start Unfit = refl
  looked b start (Image p) = go (ltb start p.start) (is_opening (decoded files s p.action)) refl refl
    where
      go : (z d : Bool) → ltb start p.start ≡ z → is_opening (decoded files s p.action) ≡ d
          → or_found start (cond z (Some p) None) ≡ start_step (cond d (image (image_from b p)) bad) start
      go true true h e = let l : start < p.start = ltb-true start p.start h in rw e (omega arith)
      go true false h e = rw e
      go false true h e = let l : p.start ≤ start = ltb-false start p.start h in omega arith
      go false false h e = refl

  module _ (start place : ℕ) (part : List ℕ) (q : part ≡ part_at s place) where
    by_look : (v : Option Page) → v ≡ image_above start (tested part place files) → or_found start v ≡ start_step (sealed files s place) start
    by_look v e =
        ap (or_found start) (e ∙ ap (λ (b : List ℕ). image_above start (tested b place files)) q ∙ ap (image_above start) (part_tested s place files))
        ∙ looked (page_bytes s place) start (tested (page_bytes s place) place files) ∙ ap (λ (g : Entry). start_step g start) (sealed_is s place files (tested (page_bytes s place) place files) refl)

    pub look_none : None ≡ image_above start (tested part place files) → start ≡ start_step (sealed files s place) start
    look_none e = by_look None e

    module _ (x : Page) (e : Some x ≡ image_above start (tested part place files)) where
      pub look_unsealed : is_opening (decoded files s x.action) ≡ false → start ≡ start_step (sealed files s place) start
      look_unsealed h = rw h at (by_look (Some x) e)

      pub look_sealed : is_opening (decoded files s x.action) ≡ true → x.start ≡ start_step (sealed files s place) start
      look_sealed h = rw h at (by_look (Some x) e)

  -- ---- the walk: the highest start above a place

  abbrev pub start_above : ℕ → ℕ
  start_above place = highest_start (tabulate (sealed files s) place (length s / page_size - place))

  pub none_yet : 0 ≡ start_above (length s / page_size)
  unfolding highest_start tabulate
  none_yet = let z : length s / page_size - length s / page_size ≡ 0 = omega arith in rw z

  pub one_lower : (p : ℕ) → 0 < p → p ≤ length s / page_size → start_step (sealed files s p) (start_above p) ≡ start_above (p - 1)
  unfolding highest_start tabulate
  one_lower zero l h = absurd (omega arith)
  one_lower (suc q) l h =
      let z : length s / page_size - q ≡ suc (length s / page_size - suc q) = omega arith in
      rw (sub-one, z)

  pub all_seen : start_above 0 ≡ highest_start_of s files
  unfolding pages
  all_seen = let z : length s / page_size - 0 ≡ length s / page_size = omega arith in rw z

-- ---- no image starts above it

none_above : (l : List Entry) (p : ℕ) (i : log.Image) → nth blank l p ≡ image i → i.start ≤ highest_start l
unfolding highest_start
none_above l zero i e = clash cc
none_above [] (suc p) i e = clash cc
none_above (g ∷ l) (suc zero) i e = rw e (omega arith)
none_above (g ∷ l) (suc (suc p)) i e = let h = none_above l (suc p) i e in omega (arith, at_least g (highest_start l))

pub none_later : (files : ℕ) (s : List ℕ) (p : ℕ) (i : log.Image) → sealed files s p ≡ image i → i.start ≤ highest_start_of s files
none_later files s p i e = go (has_place s p) refl
  where
    go : (b : Bool) → has_place s p ≡ b → i.start ≤ highest_start_of s files
    go true h = none_above (pages_of s files) p i (page_at_place files (length s / page_size) s p (place_in s p h).0 (place_in s p h).1 ∙ e)
    go false h = let z : bad ≡ image i = sealed_is s p files Refused (test_out s p files (place_out s p h)) ∙ e in clash cc
