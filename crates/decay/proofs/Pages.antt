-- One spoiled byte of a page that fits: torn where byte 63 became 0, else unfit. Assumes nothing.
use Prim.Native.Nat.{ℕ}
use mathlib.Core.Path.{◌≡◌, refl}
use mathlib.Core.Bool.{Bool, true, false, cond, ◌&&◌}
use mathlib.Core.List.{List}
use borrow.Author.Tests.{eqb-true, eqb-false}
use lib.Dec.{eqb}
use lib.ListN.{length, set}
use Rattle.page.specs.declared.Unpacked.TheVariants.{Torn, Unfit}
use Rattle.page.specs.Layout.{mark_at, most_files}
use Rattle.page.specs.Table.{within}
use Rattle.page.specs.Answers.{in_bounds, tested, is_fit_page}
use Rattle.page.proofs.Rules.{InBounds, within_true, are_in_bounds}
use Rattle.page.proofs.Found.{told_fits}
use Rattle.page.proofs.Spoiled.{mark_zeroed, spoiled_unfit}
use Rattle.decay.specs.Decay.{OtherByte, zeroes_mark}

module _ (s : List ℕ) (place files files' i v : ℕ) (h : is_fit_page (tested s place files) ≡ true) (c : OtherByte s i v) (w : within files' 1 most_files ≡ true) where
  bounds : in_bounds (length s) place files' ≡ true
  bounds =
      let q : InBounds (length s) place files = (told_fits s place files h).0 in
      are_in_bounds (record { size_is = q.size_is; place_is = q.place_is; files_are = within_true files' 1 most_files w })

  unfit : (i ≡ mark_at → v ≡ 0 → ⊥) → tested (set s i v) place files' ≡ Unfit
  unfit = spoiled_unfit s place files h files' bounds i v c.inside c.old c.new c.other

  pub page_spoiled : tested (set s i v) place files' ≡ cond (zeroes_mark i v) Torn Unfit
  page_spoiled = go (eqb i mark_at) (eqb v 0) refl refl
    where
      go : (m z : Bool) → eqb i mark_at ≡ m → eqb v 0 ≡ z → tested (set s i v) place files' ≡ cond (m && z) Torn Unfit
      go true true e f =
          let x : i ≡ mark_at = eqb-true i mark_at e in
          let y : v ≡ 0 = eqb-true v 0 f in
          rw (x, y) (mark_zeroed s place files h files' bounds)
      go true false e f = unfit (λ x y. eqb-false v 0 f y)
      go false z e f = unfit (λ x y. eqb-false i mark_at e x)
