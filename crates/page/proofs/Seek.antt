-- The quick looks, by an image's kind and one field more, say what the page test says. Assumes nothing.
use Prim.Native.Nat.{ℕ}
use mathlib.Core.Path.{◌≡◌, refl, sym, ap, ◌∙◌}
use mathlib.Core.Bool.{Bool, true, false, true≢false, false≢true}
use mathlib.Core.List.{List}
use Rattle.encoding.proofs.Logic.{and_true, and_both, is_false}
use lib.Dec.{eqb}
use Rattle.page.specs.declared.Page.{Page}
use Rattle.page.specs.declared.Unpacked.{Unpacked}
use Rattle.page.specs.declared.Unpacked.TheVariants.{Refused, Blank, Torn, Opening, Image, Outcome, Unfit}
use Rattle.std.specs.Prelude.{Option, Some, None, MatchOption}
use Rattle.page.specs.Table.{fields_of}
use Rattle.page.specs.Answers.{tested, is_fit_page, image_that, image_of_file}
use Rattle.page.specs.Steps.{has_kind, named}
use Rattle.page.proofs.Found.{found, fits_kind, told_image}

-- ---- an image that passes a test

module _ (passes : Page → Bool) (s : List ℕ) (place files : ℕ) where
  -- a part that does not have its kind, or whose fields do not pass, is none
  pub no_image : (has_kind s 2 ≡ true → passes (fields_of s) ≡ true → ⊥) → None ≡ image_that passes (tested s place files)
  no_image h = go (tested s place files) refl
    where
      go : (u : Unpacked) → u ≡ tested s place files → None ≡ image_that passes u
      go Refused e = refl
      go Blank e = refl
      go Torn e = refl
      go (Opening p) e = refl
      go (Outcome p) e = refl
      go Unfit e = refl
      go (Image p) e =
          let f = found s place files (Image p) e in
          let other : passes p ≡ false = is_false (passes p) (λ z. h (fits_kind f) (ap passes (sym f.fields_are) ∙ z)) in
          rw other

  -- nor is one that does not fit
  pub unfit_image : is_fit_page (tested s place files) ≡ false → None ≡ image_that passes (tested s place files)
  unfit_image = go (tested s place files)
    where
      go : (u : Unpacked) → is_fit_page u ≡ false → None ≡ image_that passes u
      go Refused e = refl
      go Blank e = refl
      go Torn e = refl
      go (Opening p) e = refl
      go (Image p) e = absurd (true≢false e)
      go (Outcome p) e = refl
      go Unfit e = refl

  -- one whose fields pass, and that the page test calls an image, is
  pub that_image : (x : Page) → Image x ≡ tested s place files → passes (fields_of s) ≡ true → Some x ≡ image_that passes (tested s place files)
  that_image x e h =
      let g : passes x ≡ true = ap passes (found s place files (Image x) e).fields_are ∙ h in
      rw (← e) (rw g)

  -- and so one with its kind that fits, by the fields read from the part
  pub fit_image : (p : Page) → p ≡ fields_of s → has_kind s 2 ≡ true → passes (fields_of s) ≡ true → is_fit_page (tested s place files) ≡ true
      → Some p ≡ image_that passes (tested s place files)
  fit_image p r k h e = ap Some r ∙ that_image (fields_of s) (told_image s place files k e) h

  -- what is found of a part with its kind, whose fields pass
  pub looked_image : (r : Option Page) → has_kind s 2 ≡ true → passes (fields_of s) ≡ true
      → MatchOption r (is_fit_page (tested s place files) ≡ false) (λ p. (p ≡ fields_of s) × (is_fit_page (tested s place files) ≡ true))
      → r ≡ image_that passes (tested s place files)
  looked_image None k h m = unfit_image m
  looked_image (Some p) k h m = fit_image p m.0 k h m.1

-- ---- an image of a file

module _ (s : List ℕ) (place files file : ℕ) where
  abbrev of_file : Page → Bool
  of_file p = eqb p.file file

  -- a part that is not named so is no image of the file
  pub unnamed : named s file ≡ false → None ≡ image_of_file file (tested s place files)
  unfolding named image_of_file
  unnamed h = no_image of_file s place files (λ k f. false≢true (sym h ∙ and_both (has_kind s 2) (of_file (fields_of s)) k f))

  pub named_kind : named s file ≡ true → has_kind s 2 ≡ true
  unfolding named
  named_kind h = (and_true (has_kind s 2) (of_file (fields_of s)) h).0

  named_file : named s file ≡ true → of_file (fields_of s) ≡ true
  unfolding named
  named_file h = (and_true (has_kind s 2) (of_file (fields_of s)) h).1

  -- one that is, and that the page test calls an image, is the file's
  pub named_image : (x : Page) → named s file ≡ true → Image x ≡ tested s place files → Some x ≡ image_of_file file (tested s place files)
  unfolding image_of_file
  named_image x h e = that_image of_file s place files x e (named_file h)

  pub looked_of_file : (r : Option Page) → named s file ≡ true
      → MatchOption r (is_fit_page (tested s place files) ≡ false) (λ p. (p ≡ fields_of s) × (is_fit_page (tested s place files) ≡ true))
      → r ≡ image_of_file file (tested s place files)
  unfolding image_of_file
  looked_of_file r h m = looked_image of_file s place files r (named_kind h) (named_file h) m
