-- `page::Page::is_fit`: the cheap tests in their order say what packing the fields again would say. Assumes nothing.
use Rattle.page.proofs.Quick.{quick, as_page}
use Rattle.encoding.proofs.Logic.{refused, passed}
use lib.Dec.{eqb}
use mathlib.Core.Path.{ap₂}
use native.Mathlib.Omega.{arith}
use borrow.Author.Rules.{rules}
use Rattle.page.proofs.Page.is_fit.Goals as goal

pub returns-then-not-is_framed : goal.returns-then-not-is_framed
unfolding quick
returns-then-not-is_framed c =
    let a = c.args in
    as_page a.part.now (omega arith) (search rules) _ a.self a.place a.files c.requires.1 c.requires.3 (simp (refused c.is_framed.ensures c.if-not-is_framed.true))

pub returns-then-not-is_by_rules : goal.returns-then-not-is_by_rules
unfolding quick
returns-then-not-is_by_rules c =
    let a = c.args in
    as_page a.part.now (omega arith) (search rules) _ a.self a.place a.files c.requires.1 c.requires.3 (simp (passed c.is_framed.ensures c.if-not-is_framed.false, refused c.is_by_rules.ensures c.if-not-is_by_rules.true))

pub returns : goal.returns
unfolding quick
returns c =
    let a = c.args in
    as_page a.part.now (omega arith) (search rules) _ a.self a.place a.files c.requires.1 c.requires.3
    (simp (passed c.is_framed.ensures c.if-not-is_framed.false, passed c.is_by_rules.ensures c.if-not-is_by_rules.false)
    (ap₂ eqb c.field.ensures c.check_word.ensures))
