-- `writing::beginning::begin`: lines 1, 11 and 12, and the opening that is appended. Assumes nothing.
use lib.ListN.{length}
use mathlib.Core.Bool.{true}
use mathlib.Core.Path.{◌≡◌, ◌∙◌}
use native.Mathlib.Omega.{arith}
use Prim.Native.Nat.{ℕ, ◌+◌, ◌-◌, ◌/◌, ◌≤◌}
use Rattle.page.specs.Layout.{page_size}
use Rattle.recovery.specs.Steps.{line_one}
use Rattle.encoding.proofs.Logic.{refused, passed}
use Rattle.calls.proofs.Ends.{Lent, lent_is, by_refuse, ends_line_1}
use Rattle.calls.proofs.Appends.{appended_is}
use Rattle.calls.proofs.BeginEnds.{begin_refused, begin_room, begin_asked, begin_done}
use Rattle.writing.proofs.beginning.begin.Goals as goal

-- what line 1 let through
lent : {s f r e n : ℕ} → line_one s f r e n ≡ true → Lent s f r e n
lent {s} {f} {r} {e} {n} h = lent_is s f r e n h

pub returns-then-not-is_lent_right : goal.returns-then-not-is_lent_right
returns-then-not-is_lent_right c = by_refuse _ _ _ _ _ _ c.refuse.ensures (ends_line_1 _ _ _ _ _ (refused c.is_lent_right.ensures c.if-not-is_lent_right.true))

pub overflow_add-state : goal.overflow_add-state
overflow_add-state c =
    let fit = passed c.is_lent_right.ensures c.if-not-is_lent_right.false in
    let known = lent fit in
    omega (arith, known, known.sizes)

pub returns-in-Err : goal.returns-in-Err
returns-in-Err c =
    let fit = passed c.is_lent_right.ensures c.if-not-is_lent_right.false in
    by_refuse _ _ _ _ _ _ c.refuse-in-Err.ensures (begin_refused _ _ _ _ fit _ (rw c.file_count-files.ensures at c.room_line.ensures) _ c.in-Err.is)

pub overflow_add-place : goal.overflow_add-place
overflow_add-place c =
    let fit = passed c.is_lent_right.ensures c.if-not-is_lent_right.false in
    let known = lent fit in
    omega (arith, known, known.sizes)

pub bounds-fates-end : goal.bounds-fates-end
bounds-fates-end c =
    let fit = passed c.is_lent_right.ensures c.if-not-is_lent_right.false in
    let known = lent fit in
    let room : c.args.state.undecided + 2 ≤ length c.args.sheet.now / page_size - c.args.state.end = let a = c.args in
    begin_room a.sheet.now a.fates.now a.rows.now a.state fit _ (rw c.file_count-files.ensures at c.room_line.ensures) c.in_default.is in
    let k = known.sizes in omega (arith, k, room)

pub overflow_add-result : goal.overflow_add-result
overflow_add-result c =
    let fit = passed c.is_lent_right.ensures c.if-not-is_lent_right.false in
    let known = lent fit in
    omega (arith, known, known.sizes)

pub returns : goal.returns
returns c =
    let fit = passed c.is_lent_right.ensures c.if-not-is_lent_right.false in
    let a = c.args in
    begin_done _ _ _ _ fit _ (rw c.file_count-files.ensures at c.room_line.ensures) c.in_default.is _ (rw c.opening-page.ensures at (c.append.ensures ∙ appended_is _ _ _ _ _ (rw (c.opening-page.ensures, c.file_count-files.ensures) (begin_asked a.sheet.now a.fates.now a.rows.now a.state fit _ (rw c.file_count-files.ensures at c.room_line.ensures) c.in_default.is))))
