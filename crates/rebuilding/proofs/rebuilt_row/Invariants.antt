-- `rebuilding::rebuilt_row`. The invariant: what is known from above, a token at most, laid over the row of the pages below, is the row. Assumes nothing.
use Rattle.recovery.specs.Steps.{rebuilt_with}
use Rattle.recovery.proofs.WalkDown.{overlay, row_to}
use mathlib.Core.Path.{◌≡◌}
use Rattle.rebuilding.proofs.rebuilt_row.Given as goal

abbrev pub invariant-loop-place : goal.invariant-loop-place
invariant-loop-place l = record {
  from_above : overlay l.row.token l.row.tokenend l.row.tokenaction (row_to l.view.files l.view.sheet.now l.fates l.file l.place) ≡ row_to l.view.files l.view.sheet.now l.fates l.file l.end;
  token_alone : l.row ≡ rebuilt_with 0 0 l.row.token l.row.tokenend l.row.tokenaction;
  nameless : l.row.token ≡ 0 → (l.row.tokenend ≡ 0) × (l.row.tokenaction ≡ 0);
}
