-- `commands::parsing::parse`, by how many words the line has. Assumes nothing.
use Rattle.commands.proofs.Counted.{one_word, two_words, open_words, read_words, write_words, other_words, too_long}
use mathlib.Core.Path.{refl}
use native.Mathlib.Omega.{arith}
use Rattle.commands.proofs.parsing.parse.Goals as goal

pub returns-then-size-gt-LONGEST : goal.returns-then-size-gt-LONGEST
returns-then-size-gt-LONGEST c = too_long c.args.line.now c.if-size-gt-LONGEST.true

pub returns-in-1 : goal.returns-in-1
returns-in-1 c =
    one_word c.args.line.now _ _ (omega arith) c.count_words.ensures _ c.in-1.is c.word.ensures.result_value c.alone.ensures

pub returns-in-2 : goal.returns-in-2
returns-in-2 c =
    two_words c.args.line.now _ _ (omega arith) c.count_words.ensures _ _ c.in-2.is c.word-in-2.ensures.result_value c.number_at.ensures c.with_one.ensures

pub returns-in-3 : goal.returns-in-3
returns-in-3 c =
    open_words c.args.line.now _ _ (omega arith) c.count_words.ensures _ _ _ c.in-3.is c.word-in-3.ensures.result_value c.number_at-in-3.ensures c.number_at-in-3-2.ensures c.with_two.ensures

pub returns-in-4 : goal.returns-in-4
returns-in-4 c =
    read_words c.args.line.now _ _ (omega arith) c.count_words.ensures _ _ c.in-4.is c.word-in-4.ensures.result_value c.numbers_in.ensures c.with_three.ensures

pub returns-in-5 : goal.returns-in-5
returns-in-5 c =
    write_words c.args.line.now _ _ (omega arith) c.count_words.ensures _ _ _ c.in-5.is c.word-in-5.ensures.result_value c.numbers_in-in-5.ensures c.word-in-5-2.ensures.result_value c.with_text.ensures

pub returns-in_default : goal.returns-in_default
returns-in_default c =
    other_words c.args.line.now _ _ (omega arith) c.count_words.ensures (λ e. omega arith) (λ e. omega arith) (λ e. omega arith) (λ e. omega arith) (λ e. omega arith) refl
