-- `page::Page::pack`: what line 1 refuses, what the rules refuse, and the page. Assumes nothing.
use Rattle.page.proofs.Rules.{let_through}
use Rattle.page.specs.Answers.{in_bounds, packs}
use Rattle.encoding.proofs.Logic.{refused, passed}
use mathlib.Core.Path.{refl}
use borrow.Author.Tests.{ne_eqb}
use Rattle.page.proofs.Page.pack.Goals as goal

pub returns-in_default : goal.returns-in_default
unfolding packs in_bounds
returns-in_default c = rw (ne_eqb _ _ c.in_default.ensures.cases)

pub returns-then-not-is_in_bounds : goal.returns-then-not-is_in_bounds
unfolding packs
returns-then-not-is_in_bounds c =
    let out = c.in-Some.ensures.cases in
    rw (out.same, out.long, refused c.is_in_bounds.ensures c.if-not-is_in_bounds.true)

pub is_by_rules-requires : goal.is_by_rules-requires
is_by_rules-requires c = ((let_through c.is_in_bounds.ensures c.if-not-is_in_bounds.false).place_is.0, refl)

pub returns-then-not-is_by_rules : goal.returns-then-not-is_by_rules
unfolding packs
returns-then-not-is_by_rules c =
    let out = c.in-Some.ensures.cases in
    rw (out.same, out.long, passed c.is_in_bounds.ensures c.if-not-is_in_bounds.false, refused c.is_by_rules.ensures c.if-not-is_by_rules.true)

pub returns : goal.returns
unfolding packs
returns c =
    let out = c.in-Some.ensures.cases in
    rw (out.long, passed c.is_in_bounds.ensures c.if-not-is_in_bounds.false, passed c.is_by_rules.ensures c.if-not-is_by_rules.false, c.write.ensures)
