-- `commands::parsing::space_from`: the place that `position` finds. Assumes nothing.
use mathlib.Core.Path.{◌≡◌, ap, ◌∙◌}
use native.Mathlib.Omega.{arith}
use Prim.Native.Nat.{◌+◌, ◌-◌}
use Rattle.std.proofs.Common.{rules, tests, eqb, length, take, drop, unwrap_or}
use Rattle.std.specs.List.{position}
use Rattle.std.proofs.lemmas.Iterator.{YieldsList-from_slice}
use Rattle.std.proofs.lemmas.Iterator.Search.{position_from_yields_List}
use lib.Seq.{take_all}
use lib.ListN.{length-drop}
use Rattle.commands.proofs.Lines.{space_found}
use Rattle.commands.proofs.parsing.space_from.Goals as goal

pub returns-clause-value : goal.returns-clause-value
returns-clause-value c =
    let n = length c.args.line.now - c.args.from in
    let rest = take n (drop c.args.from c.args.line.now) in
    let all : rest ≡ drop c.args.from c.args.line.now = take_all n _ (simp length-drop (omega arith)) in
    let found : c.position.result ≡ position (λ b. eqb b 32) rest = position_from_yields_List (λ b. eqb b 32) _ _ _ c.position.ensures.ran (YieldsList-from_slice rest cc) (λ x b q k. search (rules, tests)) in
    ap (λ k. c.args.from + k) (c.unwrap_or.ensures ∙ ap (λ o. unwrap_or o (length rest)) found ∙ ap (λ s. unwrap_or (position (λ b. eqb b 32) s) (length s)) all ∙ space_found _)
