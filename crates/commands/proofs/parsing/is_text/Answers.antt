-- `commands::parsing::is_text`, by the library's `all`. Assumes nothing.
use mathlib.Core.Path.{sym, ◌∙◌}
use mathlib.Core.Bool.{◌&&◌}
use native.Mathlib.Omega.{arith}
use borrow.Author.Tests.{eqb-false, lt-ltb}
use lib.Dec.{leb}
use lib.ListN.{length}
use Rattle.std.proofs.Common.{rules, tests}
use Rattle.std.proofs.lemmas.Iterator.{YieldsList-from_slice}
use Rattle.std.proofs.lemmas.Iterator.Search.{all_from_yields_List}
use Rattle.commands.specs.Commands.{is_text}
use Rattle.commands.proofs.Lines.{printable_all}
use Rattle.commands.proofs.parsing.is_text.Goals as goal

pub returns-then-not-is_empty : goal.returns-then-not-is_empty
unfolding is_text
returns-then-not-is_empty c =
    let w = c.args.w.now in
    let some = lt-ltb 0 (length w) (omega (arith, eqb-false (length w) 0 (sym c.is_empty.ensures ∙ c.if-not-is_empty.true))) in
    rw some (all_from_yields_List (λ b. leb 33 b && leb b 126) _ _ _ c.all.ensures.ran (YieldsList-from_slice w cc) (λ x b q k. search (rules, tests)) ∙ printable_all w)
