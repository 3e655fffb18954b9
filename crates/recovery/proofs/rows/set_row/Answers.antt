-- `recovery::rows::set_row`: the numbers of the row in its part of the run. Assumes nothing.
use Rattle.recovery.proofs.FlatRows.{put_part}
use Rattle.recovery.proofs.Lookups.{is_file_lem, set_some}
use Rattle.recovery.specs.Lent.{row_length}
use Rattle.encoding.proofs.Logic.{passed}
use Prim.Native.Nat.{◌-◌, ◌/◌}
use lib.ListN.{length}
use native.Mathlib.Omega.{arith}
use mathlib.Core.Path.{◌∙◌}
use Rattle.recovery.proofs.rows.set_row.Goals as goal

pub returns : goal.returns
returns c =
    let a = c.args in
    let h = passed c.has_file.ensures c.if-not-has_file.false in
    let q = is_file_lem (length a.rows.now / row_length) a.file h in
    put_part a.rows.now _ (a.file - 1) a.row (c.copy_from_slice.ensures.after ∙ c.from.ensures) (omega arith) ∙ set_some a.rows.now a.file a.row h
