-- `desk::exports::desk_convert`, answer by answer. Assumes nothing.
use mathlib.Core.Path.{refl}
use Rattle.desk.proofs.Exported.{convert_told}
use Rattle.desk.proofs.exports.desk_convert.Goals as goal

pub returns-in-Ok : goal.returns-in-Ok
returns-in-Ok c = convert_told _ c.args.mask _ _ _ _ c.convert.ensures c.in-Ok.is refl

pub returns-in-Err : goal.returns-in-Err
returns-in-Err c = convert_told _ c.args.mask _ _ _ _ c.convert.ensures c.in-Err.is c.from.ensures
