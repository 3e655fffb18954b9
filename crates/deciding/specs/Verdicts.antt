-- The verdicts of the code as those of the definitions.
use Rattle.std.specs.Prelude.{Bool, true, false}
use Rattle.deciding.specs.declared.Verdict.{Verdict}
use Rattle.deciding.specs.declared.Verdict.TheVariants.{Commit, Abort}

-- whether it commits
abbrev pub is_commit : Verdict → Bool
is_commit Commit = true
is_commit Abort = false
