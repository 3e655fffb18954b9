-- `weeks::times::put_time`: one byte, or two. Assumes nothing.
use native.Mathlib.Omega.{arith}
use Rattle.weeks.proofs.Editions.{one_wide, two_wide, time_within}
use Rattle.weeks.proofs.TimeParts.{put_one, put_two}
use Rattle.weeks.proofs.times.put_time.Goals as goal

pub bounds-out-k : goal.bounds-out-k
bounds-out-k c = let one = one_wide c.in-First.is in omega (arith, rw one at (time_within c.args.o c.args.k c.requires.1))

pub put_two-requires : goal.put_two-requires
put_two-requires c = let two = two_wide c.in-Second.is in omega (arith, rw two at (time_within c.args.o c.args.k c.requires.1))

pub returns-in-First : goal.returns-in-First
returns-in-First c =
    let one = one_wide c.in-First.is in
    put_one c.args.o c.args.k c.args.x c.args.out.now one (omega (arith, rw one at (time_within c.args.o c.args.k c.requires.1)))

pub returns-in-Second : goal.returns-in-Second
returns-in-Second c = put_two c.args.o c.args.k c.args.x c.args.out.now c.put_two.new.out (two_wide c.in-Second.is) c.put_two.ensures
