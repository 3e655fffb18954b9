-- `weeks::Week::write_times`. The invariant: the times before k are written. Assumes nothing.
use Prim.Native.Nat.{ℕ}
use mathlib.Core.Path.{◌≡◌, ap, ◌∙◌}
use native.Mathlib.Omega.{arith}
use native.Mathlib.Nat.{mul-zero}
use lib.ListN.{take}
use Rattle.encoding.specs.Concat.{concat}
use Rattle.encoding.proofs.Concat.{concat_turn}
use Rattle.weeks.specs.Editions.{times_a_week, width}
use Rattle.weeks.specs.Weeks.{time_in, times_in}
use Rattle.weeks.proofs.Written.{put_there}
use Rattle.weeks.proofs.Week.write_times.Goals as goal

pub loop-k-init : goal.loop-k-init
unfolding concat
loop-k-init c =
    let a = c.args in
    ap (λ (n : ℕ). take n a.out.now) (mul-zero (width a.o))

pub loop-k-preserved : goal.loop-k-preserved
loop-k-preserved c =
    let a = c.args in
    let put = c.put_time in
    let units = c.units in
    let there = put_there a.self.edition a.o a.self.bytes.now c.loop-k.out c.loop-k.k units.result c.requires.1 c.loop-k-test.true c.time.ensures.value units.ensures.t_value in
    concat_turn (width a.o) c.loop-k.k c.loop-k.out put.new.out (time_in a.self.edition a.o a.self.bytes.now) c.loop-k.invariant (put.ensures ∙ there)

pub returns : goal.returns
unfolding times_in
returns c =
    let all : c.loop-k.k ≡ times_a_week = omega arith in
    rw all at c.loop-k.invariant
