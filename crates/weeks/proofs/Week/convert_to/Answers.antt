-- `weeks::Week::convert_to`, by its ways out. Assumes nothing.
use mathlib.Core.Path.{refl}
use Rattle.encoding.proofs.Logic.{refused, passed}
use Rattle.weeks.proofs.DayTests.{day_found, none_found}
use Rattle.weeks.proofs.Lines.{step_down, step_wrong, step_few, step_uneven, step_done}
use native.Mathlib.Omega.{arith}
use Rattle.weeks.proofs.Week.convert_to.Goals as goal

pub returns-then-mask_size : goal.returns-then-mask_size
returns-then-mask_size c = let a = c.args in step_down a.self.edition a.o _ _ _ (omega arith)

pub returns-in-Some : goal.returns-in-Some
returns-in-Some c =
    let day = day_found _ c.faults-faults.ensures.0 c.in-Some.is in
    step_wrong _ _ _ _ _ (omega arith) day.0 day.1

pub returns-then-not-enough_keyholders : goal.returns-then-not-enough_keyholders
returns-then-not-enough_keyholders c =
    let right = none_found _ c.faults-faults.ensures.0 cc in
    step_few _ _ _ _ _ (omega arith) refl right (refused c.enough_keyholders.ensures c.if-not-enough_keyholders.true)

pub returns-in-Some-uneven : goal.returns-in-Some-uneven
returns-in-Some-uneven c =
    let right = none_found _ c.faults-faults.ensures.0 c.in_default.is in
    let day = day_found _ c.faults-faults.ensures.1 c.in-Some-uneven.is in
    step_uneven _ _ _ _ _ (omega arith) refl right (passed c.enough_keyholders.ensures c.if-not-enough_keyholders.false) day.0 day.1

pub write-requires : goal.write-requires
write-requires c = (c.requires, none_found _ c.faults-faults.ensures.1 c.in_default-uneven.is)

pub returns : goal.returns
returns c =
    let right = none_found _ c.faults-faults.ensures.0 c.in_default.is in
    let even = none_found _ c.faults-faults.ensures.1 c.in_default-uneven.is in
    let enough = passed c.enough_keyholders.ensures c.if-not-enough_keyholders.false in
    step_done _ _ _ _ _ (omega arith) refl right enough refl even c.write.ensures
