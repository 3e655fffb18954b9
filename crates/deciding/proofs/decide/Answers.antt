-- `deciding::decide`: a decision asked again, a line that refuses, or the rows settled and the outcome appended.
-- Assumes nothing.
use Prim.Native.Nat.{ℕ}
use mathlib.Core.List.{List}
use mathlib.Core.Path.{◌≡◌, sym, ap, ◌∙◌}
use Rattle.std.specs.Prelude.{Err}
use Rattle.calls.specs.LineSteps.{free}
use Rattle.recovery.specs.declared.Refusal.TheVariants.{AlreadyDecided}
use Rattle.recovery.specs.declared.State.{State}
use Rattle.calls.specs.DecideSteps.{decide_line}
use native.Mathlib.Omega.{arith}
use native.Mathlib.Numerals.{sub-one}
use Rattle.calls.proofs.Appends.{appended_is}
use Rattle.calls.proofs.DecideEnds.{Ready, ready, decide_again, decide_refused, end_low, rows_whole, outcome_asked, decide_done}
use Rattle.calls.proofs.Ends.{by_refuse}
use Rattle.deciding.specs.Verdicts.{is_commit}
use Rattle.deciding.proofs.decide.Goals as goal

-- what the lines let through
known_by : {s fs rs : List ℕ} {st : State} {a : ℕ} → free ≡ decide_line s fs rs st a → Ready s fs rs st a
known_by {s} {fs} {rs} {st} {a} = ready s fs rs st a

pub returns-in-AlreadyDecided : goal.returns-in-AlreadyDecided
returns-in-AlreadyDecided c =
    let line : Err AlreadyDecided ≡ decide_line c.args.sheet.now c.args.fates.now c.args.rows.now c.args.state c.args.action =
    ap Err (sym c.in-AlreadyDecided.is) ∙ sym c.in-Err.is ∙ c.decide_line.ensures in
    decide_again _ _ _ _ _ _ line _ (rw c.file_count-files.ensures at c.decided_again.ensures)

pub returns-in_default-why : goal.returns-in_default-why
returns-in_default-why c =
    by_refuse _ _ _ _ _ _ c.refuse.ensures (decide_refused _ _ _ _ _ _ _ (sym c.in-Err.is ∙ c.decide_line.ensures) c.in_default-why.not-AlreadyDecided)

pub settle_rows-requires : goal.settle_rows-requires
settle_rows-requires c =
    let known = known_by (sym c.in_default.is ∙ c.decide_line.ensures) in
    let a = c.args in
    (rows_whole a.sheet.now a.fates.now a.rows.now a.state a.action (is_commit a.verdict) known, c.file_count-files.ensures)

pub overflow_sub-fates : goal.overflow_sub-fates
overflow_sub-fates c =
    let known = known_by (sym c.in_default.is ∙ c.decide_line.ensures) in
    omega (arith, known.act.low)

pub bounds-fates-action : goal.bounds-fates-action
bounds-fates-action c =
    let known = known_by (sym c.in_default.is ∙ c.decide_line.ensures) in
    omega (arith, known.act.low, known.act.high, known.room)

pub overflow_add-result : goal.overflow_add-result
overflow_add-result c =
    let known = known_by (sym c.in_default.is ∙ c.decide_line.ensures) in
    omega (arith, end_low _ _ _ _ _ (is_commit c.args.verdict) known)

pub overflow_add-result-2 : goal.overflow_add-result-2
overflow_add-result-2 c =
    let known = known_by (sym c.in_default.is ∙ c.decide_line.ensures) in
    omega (arith, end_low _ _ _ _ _ (is_commit c.args.verdict) known)

pub returns : goal.returns
returns c =
    let known = known_by (sym c.in_default.is ∙ c.decide_line.ensures) in
    let a = c.args in
    decide_done _ _ _ _ _ _ known _ c.page.ensures _ _ _ _ (c.append.ensures ∙ appended_is _ _ _ _ _ (rw c.file_count-files.ensures (outcome_asked a.sheet.now a.fates.now a.rows.now a.state a.action (is_commit a.verdict) known _ c.page.ensures))) c.fate.ensures (rw c.file_count-files.ensures at c.settle_rows.ensures) (c.saturating_sub.ensures ∙ sub-one c.args.state.undecided)
