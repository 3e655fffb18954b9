-- `desk::exports::desk_inspect`: the answer in one number. Assumes nothing.
use Rattle.desk.proofs.Exported.{inspect_told}
use Rattle.desk.proofs.exports.desk_inspect.Goals as goal

pub returns : goal.returns
returns c = inspect_told _ _ _ _ c.inspect.ensures c.unwrap_or.ensures
