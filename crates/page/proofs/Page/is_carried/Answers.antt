-- `page::Page::is_carried`: what is no page in size, the small byte, and the test for an opening. Assumes nothing.
use Rattle.page.specs.Layout.{page_size, small_at}
use Rattle.page.specs.Answers.{in_bounds, tested, is_opening_page, is_carried_page}
use Rattle.page.proofs.Found.{carried_by_lem}
use lib.ListN.{length, get_or}
use borrow.Author.Tests.{eq-eqb, ne_eqb}
use mathlib.Core.Bool.{Bool, ◌&&◌}
use mathlib.Core.Path.{sym, ap, ◌∙◌}
use Rattle.page.proofs.Page.is_carried.Goals as goal

pub returns-then-part-ne-SIZE : goal.returns-then-part-ne-SIZE
unfolding tested in_bounds is_carried_page
returns-then-part-ne-SIZE c = simp (ne_eqb (length c.args.part.now) page_size c.if-part-ne-SIZE.true)

pub returns-then-byte_at-ne1 : goal.returns-then-byte_at-ne1
returns-then-byte_at-ne1 c =
    let a = c.args in
    let s = a.part.now in
    ap (λ (b : Bool). b && is_opening_page (tested s a.place a.files)) (sym (ne_eqb (get_or s small_at 0) 1 (λ e. c.if-byte_at-ne1.true (c.byte_at.ensures.value ∙ e)))) ∙ carried_by_lem s a.place a.files

pub returns : goal.returns
returns c =
    let a = c.args in
    let s = a.part.now in
    c.is_opening.ensures ∙ ap (λ (b : Bool). b && is_opening_page (tested s a.place a.files)) (sym (eq-eqb (get_or s small_at 0) 1 (sym c.byte_at.ensures.value ∙ c.if-byte_at-ne1.false)))
    ∙ carried_by_lem s a.place a.files
