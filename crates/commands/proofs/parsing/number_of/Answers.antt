-- `commands::parsing::number_of`. The invariant: the bytes before this one are digits, and n is their value. Assumes nothing.
use Rattle.commands.proofs.Numerals.{reading_turn, reading_stop, reading_end, empty_word}
use mathlib.Core.Path.{refl, sym, ◌∙◌}
use native.Mathlib.Omega.{arith}
use borrow.Author.Tests.{eqb-true, eqb-false}
use Rattle.commands.proofs.parsing.number_of.Goals as goal

pub returns-then-is_empty : goal.returns-then-is_empty
returns-then-is_empty c = empty_word c.args.w.now (eqb-true _ 0 (sym c.is_empty.ensures ∙ c.if-is_empty.true))

pub returns-in_err-n : goal.returns-in_err-n
returns-in_err-n c =
    rw c.from_residual.ensures (sym (reading_stop c.args.w.now c.loop-b.b-index c.loop-b.n _ c.loop-b-test.true refl (sym c.add_digit.ensures ∙ c.in_err-n.was) c.loop-b.invariant))

pub loop-b-preserved : goal.loop-b-preserved
loop-b-preserved c =
    reading_turn c.args.w.now c.loop-b.b-index c.loop-b.n _ _ c.loop-b-test.true refl (sym c.add_digit.ensures ∙ c.in_ok-n.was) c.loop-b.invariant

pub returns : goal.returns
returns c =
    let some = eqb-false _ 0 (sym c.is_empty.ensures ∙ c.if-is_empty.false) in
    reading_end c.args.w.now c.loop-b.b-index c.loop-b.n (omega (arith, some)) (omega arith) c.loop-b.invariant
