-- `page::Page::value`, by its two ways out. Assumes nothing.
use Rattle.page.specs.Table.{value_of}
use lib.Seq.{length-take-le}
use lib.ListN.{length, drop, length-drop}
use native.Mathlib.Omega.{arith}
use mathlib.Core.Path.{◌≡◌, sym}
use Rattle.page.specs.Answers.{value_in}
use borrow.Author.Tests.{eq-eqb, ne_eqb}
use Rattle.page.proofs.Page.value.Goals as goal

pub returns-then-part-ne-SIZE : goal.returns-then-part-ne-SIZE
unfolding value_in
returns-then-part-ne-SIZE c = simp (ne_eqb _ _ c.if-part-ne-SIZE.true)

pub returns : goal.returns
unfolding value_in
returns c =
    let s = c.args.part.now in
    let l : length (value_of s) ≡ 32 = length-take-le 32 (drop 24 s) (simp length-drop (omega arith)) in
    simp (eq-eqb (length s) 64 c.if-part-ne-SIZE.false) (simp (eq-eqb 32 (length (value_of s)) (sym l)) at c.copy.ensures)
