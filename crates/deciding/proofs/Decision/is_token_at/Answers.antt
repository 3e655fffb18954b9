-- `deciding::Decision::is_token_at`, by its ways out. Assumes nothing.
use mathlib.Core.Path.{sym, ◌∙◌}
use Rattle.calls.proofs.DecideRows.{token_high, token_none, token_other, token_own}
use borrow.Author.Rules.{rules}
use Rattle.deciding.proofs.Decision.is_token_at.Goals as goal

pub returns-then-self-place : goal.returns-then-self-place
returns-then-self-place c = token_high _ _ _ _ _ _ c.if-self-place.true

pub returns-in_default : goal.returns-in_default
returns-in_default c = token_none _ _ _ _ _ _ c.if-self-place.false (sym c.in_default.is ∙ c.seek_at.ensures)

pub returns-then-image-self : goal.returns-then-image-self
returns-then-image-self c = token_other _ _ _ _ _ _ c.if-self-place.false _ (sym c.in-Some.is ∙ c.seek_at.ensures) c.if-image-self.true

pub returns : goal.returns
returns c = token_own _ _ _ _ _ _ c.if-self-place.false _ (sym c.in-Some.is ∙ c.seek_at.ensures) _ c.if-image-self.false (search rules)
