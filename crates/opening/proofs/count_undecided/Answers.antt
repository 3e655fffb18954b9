-- `opening::count_undecided`. The invariant: the count so far and that of the rest make the whole. Assumes nothing.
use native.Mathlib.Omega.{arith}
use Rattle.recovery.proofs.OpeningRuns.{count_one, count_none, count_end}
use Rattle.opening.proofs.count_undecided.Goals.{then-fate-eq1, else-fate-eq1}
use Rattle.opening.proofs.count_undecided.Goals as goal

pub loop-fate-preserved : goal.loop-fate-preserved
loop-fate-preserved c =
    let f = c.args.fates.now in
    let l = c.loop-fate in
    elim c.if-fate-eq1.branch [
      | then-fate-eq1 w ↦ rw w.n-is (omega arith, count_one f l.fate-index l.n (omega arith) l.invariant.1 w.if-fate-eq1.true)
      | else-fate-eq1 w ↦ rw w.n-is (omega arith, count_none f l.fate-index l.n (omega arith) l.invariant.1 w.if-fate-eq1.false)
    ]

pub returns : goal.returns
returns c =
    let l = c.loop-fate in
    count_end c.args.fates.now l.fate-index l.n (omega arith) (omega arith) l.invariant.1
