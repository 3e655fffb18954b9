-- `calls::appending::append`: nothing without room, else what pack leaves of the page, put back into the sheet. Assumes nothing.
use Rattle.calls.proofs.Appends.{none_left, pack_left}
use mathlib.Core.Path.{refl}
use native.Mathlib.Omega.{arith}
use Rattle.calls.proofs.appending.append.Goals as goal

pub returns-then-sheet-end : goal.returns-then-sheet-end
returns-then-sheet-end c =
    let a = c.args in
    none_left a.sheet.now a.page a.value.now a.end a.files c.if-sheet-end.true

pub returns : goal.returns
returns c =
    let a = c.args in
    let p = c.pack in
    pack_left a.sheet.now a.page a.value.now a.end a.files p.result p.new.out _ (omega arith) p.ensures refl
