-- `deciding::Decision::settle_row`: the row stays, or its token is decided. Assumes nothing.
use mathlib.Core.Path.{ap, ◌∙◌}
use Rattle.recovery.specs.declared.Row.{Row}
use Rattle.calls.specs.Calls.{decided}
use Rattle.calls.proofs.DecideRows.{row_same, row_decided}
use Rattle.deciding.specs.Verdicts.{is_commit}
use Rattle.deciding.proofs.Decision.settle_row.Goals as goal

pub returns-then-not-is_token_at : goal.returns-then-not-is_token_at
returns-then-not-is_token_at c =
    row_same _ _ _ _ _ _ _ c.requires _ (ap (λ (r : Row). r.token) c.row_of-token.ensures) _ c.is_token_at.ensures c.if-not-is_token_at.true

pub returns : goal.returns
returns c =
    row_decided _ _ _ _ _ _ _ c.requires _ (ap (λ (c : Row). c.token) c.row_of-token.ensures) _ c.is_token_at.ensures c.if-not-is_token_at.false
    _ (c.settle.ensures ∙ ap (decided (is_commit c.args.self.now.verdict)) c.row_of-row.ensures) _ c.set_row.ensures
