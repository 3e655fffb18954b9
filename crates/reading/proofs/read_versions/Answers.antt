-- `reading::read_versions`: no current version, a time below its start, a time from its start on. Assumes nothing.
use mathlib.Core.Path.{sym, ◌∙◌}
use Rattle.reading.proofs.ReadEnds.{versions_met, versions_early}
use Rattle.reading.proofs.read_versions.Goals as goal

pub returns-then-newest-time : goal.returns-then-newest-time
returns-then-newest-time c = versions_met _ _ c.requires c.in-Some.is _ c.current_read-reached.ensures c.if-newest-time.true

pub walk-answer-requires : goal.walk-answer-requires
walk-answer-requires c = sym c.requires.found ∙ c.in-Some.is

pub returns : goal.returns
returns c = versions_early _ _ c.requires c.in-Some.is _ c.walk-answer.ensures c.if-newest-time.false
