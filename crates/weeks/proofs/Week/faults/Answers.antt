-- `weeks::Week::faults`. The invariant: what was found above day d, with the days up to it, is the lowest of all. Assumes nothing.
use Prim.Native.Nat.{◌+◌, ◌*◌, ◌-◌}
use mathlib.Core.Path.{◌≡◌, ap, ◌∙◌}
use native.Mathlib.Omega.{arith}
use Rattle.weeks.specs.Weeks.{time, wrong_day, uneven_day}
use Rattle.weeks.proofs.DayTests.{is_wrong_day, is_uneven_day, over_start, day_turn, over_end}
use Rattle.weeks.proofs.Week.faults.Goals as goal

pub loop-d-init : goal.loop-d-init
loop-d-init c =
    let a = c.args in
    (over_start (wrong_day a.self.edition a.self.bytes.now) 7, over_start (uneven_day a.self.edition a.o a.self.bytes.now) 7)

pub loop-d-preserved : goal.loop-d-preserved
loop-d-preserved c =
    let a = c.args in
    let s = a.self.bytes.now in
    let d = c.loop-d.d in
    let more = c.loop-d-test.true in
    let day : d - 1 + 1 ≡ d = omega arith in
    let first : 2 * (d - 1) ≡ 2 * d - 2 = omega arith in
    let second : 2 * (d - 1) + 1 ≡ 2 * d - 1 = omega arith in
    let opens = c.time-opens.ensures.value ∙ ap (time a.self.edition s) first in
    let closes = c.time-closes.ensures.value ∙ ap (time a.self.edition s) second in (
      day_turn (wrong_day a.self.edition s) d 7 c.loop-d.wrong more day c.loop-d.invariant.0 (is_wrong_day a.self.edition s d opens closes c.is_wrong.ensures) c.lower-wrong.ensures,
      day_turn (uneven_day a.self.edition a.o s) d 7 c.loop-d.uneven more day c.loop-d.invariant.1 (is_uneven_day a.self.edition s d opens closes a.o c.is_uneven.ensures c.is_uneven-in-loop-d.ensures) c.lower-uneven.ensures,
    )

pub returns : goal.returns
returns c =
    let a = c.args in
    let s = a.self.bytes.now in (
      over_end (wrong_day a.self.edition s) c.loop-d.d 7 c.loop-d.wrong c.loop-d-test.false c.loop-d.invariant.0,
      over_end (uneven_day a.self.edition a.o s) c.loop-d.d 7 c.loop-d.uneven c.loop-d-test.false c.loop-d.invariant.1,
    )
