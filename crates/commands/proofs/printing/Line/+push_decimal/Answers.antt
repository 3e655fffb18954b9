-- The cycle of calls {push_decimal}: the digits before the last, and the last. Assumes nothing.
use Rattle.std.proofs.Common.{◌+◌, ◌/◌, ◌%◌, [], ◌∷◌, ◌++◌, ap, ◌∙◌, append_assoc, arith}
use Rattle.commands.specs.Replies.{decimal}
use Rattle.commands.proofs.Decimal.{one_digit, last_digit, length_one, length_more, grown}
use Rattle.commands.proofs.printing.Line.+push_decimal.Goals as goal

pub push-requires : goal.push-requires
push-requires t c = omega (arith, c.requires, length_one c.args.x c.if-x-lt10.true)

pub returns-then-x-lt10 : goal.returns-then-x-lt10
returns-then-x-lt10 t c = rw (one_digit c.args.x c.if-x-lt10.true) c.push.ensures

pub push_decimal-requires : goal.push_decimal-requires
push_decimal-requires t c =
    (omega (arith, c.decreases, c.if-x-lt10.false), omega (arith, c.requires, length_more c.args.x c.ranges.x.fits c.if-x-lt10.false))

pub push-requires-2 : goal.push-requires-2
push-requires-2 t c = omega (arith, c.requires, grown c.args.self.now (decimal (c.args.x / 10)) c.push_decimal.ensures, length_more c.args.x c.ranges.x.fits c.if-x-lt10.false)

pub returns : goal.returns
returns t c =
    let x = c.args.x in
    rw (last_digit x c.ranges.x.fits c.if-x-lt10.false)
    (c.push-2.ensures ∙ ap (λ s. s ++ ((48 + x % 10) ∷ [])) c.push_decimal.ensures ∙ append_assoc c.args.self.now _ _)
