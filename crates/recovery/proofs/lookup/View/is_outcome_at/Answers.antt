-- `recovery::lookup::View::is_outcome_at`: of the part at the place. Assumes nothing.
use Rattle.recovery.proofs.Pages.{place_out}
use Rattle.recovery.proofs.Outcomes.{none_at}
use Rattle.encoding.proofs.Logic.{refused}
use Rattle.recovery.proofs.lookup.View.is_outcome_at.Goals as goal

pub returns-then-not-has_place : goal.returns-then-not-has_place
returns-then-not-has_place c =
    let a = c.args in
    none_at a.self.sheet.now a.place a.self.files a.action (place_out a.self.sheet.now a.place (refused c.has_place.ensures c.if-not-has_place.true))
