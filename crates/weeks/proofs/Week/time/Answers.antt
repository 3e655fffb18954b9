-- `weeks::Week::time`: one byte, or two. Assumes nothing.
use native.Mathlib.Omega.{arith}
use Rattle.weeks.proofs.Editions.{one_wide, two_wide, time_within}
use Rattle.weeks.proofs.TimeParts.{one_byte, two_bytes}
use Rattle.weeks.proofs.Week.time.Goals as goal

pub byte-requires : goal.byte-requires
byte-requires c = let one = one_wide c.in-First.is in omega (arith, c.args.self.long, rw one at (time_within c.args.self.edition c.args.k c.requires))

pub two_bytes-requires : goal.two_bytes-requires
two_bytes-requires c = let two = two_wide c.in-Second.is in omega (arith, c.args.self.long, rw two at (time_within c.args.self.edition c.args.k c.requires))

pub returns-in-First-clause-value : goal.returns-in-First-clause-value
returns-in-First-clause-value c = one_byte c.args.self.edition c.args.self.bytes.now c.args.k (one_wide c.in-First.is) c.byte.ensures.value

pub returns-in-Second-clause-value : goal.returns-in-Second-clause-value
returns-in-Second-clause-value c = two_bytes c.args.self.edition c.args.self.bytes.now c.args.k (two_wide c.in-Second.is) c.two_bytes.ensures.value
