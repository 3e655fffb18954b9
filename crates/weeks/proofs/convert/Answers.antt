-- `weeks::convert`, by its ways out. Assumes nothing.
use mathlib.Core.Path.{◌∙◌}
use Rattle.std.proofs.lemmas.Result.{err_from_is_err_and}
use Rattle.weeks.proofs.Editions.{length_named, names}
use Rattle.weeks.proofs.Lines.{names_none, names_one, no_week, one_week, convert_unknown, convert_no_output, convert_same, convert_by}
use Rattle.weeks.proofs.convert.Goals as goal

pub returns-in_err-hours : goal.returns-in_err-hours
returns-in_err-hours c =
    let p = err_from_is_err_and c.from_residual.result c.from_residual.ensures.1 in
    let none = no_week _ _ _ c.of.ensures.edition c.ok_or.ensures.value c.in_err-hours.was in
    rw (p.1, p.2, none.1) (convert_unknown _ _ _ none.0)

pub returns-in_err-o : goal.returns-in_err-o
returns-in_err-o c =
    let p = err_from_is_err_and c.from_residual-in_err-o.result c.from_residual-in_err-o.ensures.1 in
    let same = one_week _ _ c.of.ensures.bytes c.ok_or.ensures.value c.in_ok-hours.was in
    let none = names_none _ _ c.of-2.ensures c.ok_or-2.ensures.value c.in_err-o.was in
    rw (p.1, p.2, none.1) (convert_no_output _ _ _ (rw same at (names _ _ c.in_ok-hours.hours.long)) none.0)

pub returns-then-week-out : goal.returns-then-week-out
returns-then-week-out c =
    let same = one_week _ _ c.of.ensures.bytes c.ok_or.ensures.value c.in_ok-hours.was in
    let to = names_one _ _ c.of-2.ensures c.ok_or-2.ensures.value c.in_ok-o.was in
    convert_same _ _ _ (rw same at (names _ _ c.in_ok-hours.hours.long)) to c.if-week-out.true

pub convert_to-requires : goal.convert_to-requires
convert_to-requires c = length_named _ (names_one _ _ c.of-2.ensures c.ok_or-2.ensures.value c.in_ok-o.was)

pub returns : goal.returns
returns c =
    let same = one_week _ _ c.of.ensures.bytes c.ok_or.ensures.value c.in_ok-hours.was in
    let to = names_one _ _ c.of-2.ensures c.ok_or-2.ensures.value c.in_ok-o.was in
    rw same at (c.convert_to.ensures) ∙ convert_by _ _ _ (rw same at (names _ _ c.in_ok-hours.hours.long)) to c.if-week-out.false
