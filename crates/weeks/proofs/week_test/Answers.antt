-- `weeks::week_test`, by its ways out. Assumes nothing.
use mathlib.Core.Path.{refl, ap, ◌∙◌}
use Rattle.std.proofs.lemmas.Result.{err_from_is_err_and}
use Rattle.encoding.proofs.Logic.{refused, passed}
use Rattle.weeks.specs.Weeks.{enough_keyholders}
use Rattle.weeks.specs.Answers.{week_test}
use Rattle.weeks.proofs.DayTests.{day_found, none_found}
use Rattle.weeks.proofs.Editions.{names}
use Rattle.weeks.proofs.Lines.{no_week, one_week, test_unknown, test_wrong, test_few, test_week}
use Rattle.weeks.proofs.week_test.Goals as goal

pub returns-in_err-week : goal.returns-in_err-week
returns-in_err-week c =
    let p = err_from_is_err_and c.from_residual.result c.from_residual.ensures.1 in
    let none = no_week _ _ _ c.of.ensures.edition c.ok_or.ensures.value c.in_err-week.was in
    rw (p.1, p.2, none.1) (test_unknown _ none.0)

pub returns-in-Some : goal.returns-in-Some
returns-in-Some c =
    let w = c.in_ok-week.week in
    let same = one_week _ _ c.of.ensures.bytes c.ok_or.ensures.value c.in_ok-week.was in
    let known = names _ _ w.long in
    let day = day_found _ c.faults.ensures.0 c.in-Some.is in
    test_wrong _ _ known day.0 day.1 ∙ ap week_test same

pub returns-else-enough_keyholders : goal.returns-else-enough_keyholders
returns-else-enough_keyholders c =
    let w = c.in_ok-week.week in
    let same = one_week _ _ c.of.ensures.bytes c.ok_or.ensures.value c.in_ok-week.was in
    let known = names _ _ w.long in
    let enough = c.enough_keyholders.ensures ∙ ap (enough_keyholders _) c.keyholders.ensures in
    test_few _ _ known refl (none_found _ c.faults.ensures.0 c.in_default.is) (refused enough c.if-enough_keyholders.false) ∙ ap week_test same

pub returns-then-enough_keyholders : goal.returns-then-enough_keyholders
returns-then-enough_keyholders c =
    let w = c.in_ok-week.week in
    let same = one_week _ _ c.of.ensures.bytes c.ok_or.ensures.value c.in_ok-week.was in
    let known = names _ _ w.long in
    let enough = c.enough_keyholders.ensures ∙ ap (enough_keyholders _) c.keyholders.ensures in
    rw c.number.ensures (test_week _ _ known refl (none_found _ c.faults.ensures.0 c.in_default.is) (passed enough c.if-enough_keyholders.true) ∙ ap week_test same)
