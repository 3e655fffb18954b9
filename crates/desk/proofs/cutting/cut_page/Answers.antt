-- `desk::cutting::cut_page`: the part of the page put back. Assumes nothing.
use Rattle.desk.proofs.CallMade.{cut_page_is}
use mathlib.Core.Path.{refl}
use Rattle.desk.proofs.cutting.cut_page.Goals as goal

pub returns : goal.returns
returns c =
    let a = c.args in
    cut_page_is a.sheet.now _ a.old.now a.place a.cut _ _ refl refl c.put_back.ensures
