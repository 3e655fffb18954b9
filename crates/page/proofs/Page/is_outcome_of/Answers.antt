-- `page::Page::is_outcome_of`: what is passed over at once is no outcome of this action, and of all else the page test tells. Assumes nothing.
use Rattle.page.specs.Table.{fields_of}
use Rattle.page.specs.Answers.{is_outcome_of}
use Rattle.page.proofs.Found.{kind_size, no_outcome, off_outcome}
use Rattle.encoding.proofs.Logic.{refused, passed}
use native.Mathlib.Omega.{arith}
use mathlib.Core.Bool.{false≢true}
use mathlib.Core.Path.{sym, ap, ◌∙◌}
use Rattle.page.proofs.Page.is_outcome_of.Goals as goal

pub returns-then-not-has_kind : goal.returns-then-not-has_kind
returns-then-not-has_kind c = no_outcome _ _ _ _ (λ kind action. false≢true (sym (refused c.has_kind.ensures c.if-not-has_kind.true) ∙ kind))

pub field-requires : goal.field-requires
field-requires c = omega (arith, kind_size _ 3 (passed c.has_kind.ensures c.if-not-has_kind.false))

pub returns-then-field-action : goal.returns-then-field-action
unfolding fields_of
returns-then-field-action c = no_outcome _ _ _ _ (λ kind action. c.if-field-action.true (c.field.ensures ∙ action))

pub returns-in_default : goal.returns-in_default
returns-in_default c = off_outcome _ _ c.in_default.not-Outcome ∙ ap (is_outcome_of _) c.test.ensures

pub returns : goal.returns
unfolding is_outcome_of
returns c = ap (is_outcome_of _) (sym c.in-Outcome.is ∙ c.test.ensures)
