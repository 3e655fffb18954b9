-- `desk::cutting::put_back`. Assumes nothing.
use Rattle.desk.proofs.CallMade.{back_is}
use mathlib.Core.Path.{refl}
use Rattle.desk.proofs.cutting.put_back.Goals as goal

pub returns : goal.returns
returns c =
    let a = c.args in
    let p = c.copy in
    back_is a.page.now _ a.old.now a.at _ c.requires.0 c.requires.1 refl p.auto.out p.ensures
