use Rattle.desk.proofs.Exported.{pack_refused, pack_left}
use lib.ListN.{replicate}
use mathlib.Core.Path.{refl}
use Rattle.desk.proofs.exports.desk_pack.Goals as goal

pub returns-then-value-ne-VALUE_SIZE : goal.returns-then-value-ne-VALUE_SIZE
returns-then-value-ne-VALUE_SIZE c = pack_refused _ _ _ _ _ c.if-value-ne-VALUE_SIZE.true

pub returns : goal.returns
returns c = pack_left _ _ _ (replicate 32 0) _ _ _ _ _ _ c.if-value-ne-VALUE_SIZE.false refl c.copy.ensures c.pack-answer.ensures c.pack_number.ensures
