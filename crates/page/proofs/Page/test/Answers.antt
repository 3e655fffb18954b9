-- `page::Page::test`: what line 1 refuses, what has no mark, what is unfit, and the fields. Assumes nothing.
use Rattle.page.proofs.Quick.{unmarked_as, marked_as}
use Rattle.page.proofs.Rules.{in_bounds_lem}
use Rattle.page.specs.Answers.{tested}
use mathlib.Core.Path.{refl, sym, ◌∙◌}
use borrow.Author.Rules.{rules}
use Rattle.page.proofs.Page.test.Goals as goal

pub returns-in_default : goal.returns-in_default
unfolding tested
returns-in_default c = rw c.in_default.ensures

pub returns-then-byte_at-eq0 : goal.returns-then-byte_at-eq0
returns-then-byte_at-eq0 c =
    let part = c.in-Some.ensures in
    unmarked_as _ _ part.0 part.1 (search rules) (sym c.byte_at.ensures.value ∙ c.if-byte_at-eq0.true) c.unmarked.ensures

pub is_fit-requires : goal.is_fit-requires
is_fit-requires c =
    let q = in_bounds_lem _ _ _ c.in-Some.ensures.1 in
    (q.place_is.0, q.place_is.1, refl, c.fields-p.ensures)

pub returns-then-not-is_fit : goal.returns-then-not-is_fit
returns-then-not-is_fit c =
    let part = c.in-Some.ensures in
    rw c.if-not-is_fit.true at (marked_as _ _ part.0 part.1 c.fields-p.ensures c.is_fit.ensures (λ z. c.if-byte_at-eq0.false (c.byte_at.ensures.value ∙ z)))

pub returns : goal.returns
returns c =
    let part = c.in-Some.ensures in
    c.by_kind.ensures ∙ rw c.if-not-is_fit.false at (marked_as _ _ part.0 part.1 c.fields-p.ensures c.is_fit.ensures (λ z. c.if-byte_at-eq0.false (c.byte_at.ensures.value ∙ z)))
