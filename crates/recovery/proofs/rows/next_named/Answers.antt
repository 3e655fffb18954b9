-- `recovery::rows::next_named`. The loop's invariant: the next row that names the action is the next one from here too. The measure is what is left of the files. Assumes nothing.
use native.Mathlib.Omega.{arith}
use mathlib.Core.Path.{◌∙◌, refl, sym, ap}
use lib.ListN.{length}
use Prim.Native.Nat.{◌/◌}
use Rattle.encoding.proofs.Logic.{refused, passed}
use Rattle.recovery.specs.World.{is_rebuilt_for}
use Rattle.recovery.specs.Lent.{row_length}
use Rattle.recovery.proofs.FlatRows.{chunk_row}
use Rattle.recovery.proofs.Named.{next_end, next_here, next_skipped}
use Rattle.recovery.proofs.rows.next_named.Goals as goal

pub returns-then-is_rebuilt_for : goal.returns-then-is_rebuilt_for
returns-then-is_rebuilt_for c =
    let a = c.args in
    let k = c.loop-k.k in
    let n = c.as_chunks.ensures in
    next_here a.rows.now a.action k (omega (arith, n.front_len, c.loop-k-test.true))
    (ap (is_rebuilt_for a.action) (sym (chunk_row a.rows.now (length a.rows.now / row_length) k _ (omega (arith, n.front_len, c.loop-k-test.true)))) ∙ (rw n.front at (passed c.is_rebuilt_for.ensures c.if-is_rebuilt_for.true)))
    ∙ c.loop-k.invariant

pub loop-k-preserved : goal.loop-k-preserved
loop-k-preserved c =
    let a = c.args in
    let k = c.loop-k.k in
    let n = c.as_chunks.ensures in
    let s = c.skip_fours.ensures in
    next_skipped a.rows.now a.action _ n.front k c.skip_fours.result _ refl (omega (arith, n.front_len, s.0))
    (ap (is_rebuilt_for a.action) (sym (chunk_row a.rows.now (length a.rows.now / row_length) k _ (omega (arith, n.front_len, c.loop-k-test.true)))) ∙ (rw n.front at (refused c.is_rebuilt_for.ensures c.if-is_rebuilt_for.false)))
    s.0 s.1
    ∙ c.loop-k.invariant

pub returns : goal.returns
returns c =
    let a = c.args in
    next_end a.rows.now a.action c.loop-k.k (omega (arith, c.as_chunks.ensures.front_len, c.loop-k-test.false)) ∙ c.loop-k.invariant
