-- `commands::printing::shown_line`: there is room. Assumes nothing.
use Rattle.std.proofs.Common.{[], ◌∷◌, arith, ap, length}
use Rattle.commands.proofs.Decimal.{grown}
use Rattle.commands.proofs.printing.shown_line.Goals as goal

pub push_spaced-requires-2 : goal.push_spaced-requires-2
push_spaced-requires-2 c = omega (arith, ap length c.new-line.ensures, grown c.new-line.result (114 ∷ 101 ∷ 97 ∷ 100 ∷ []) c.push_run.ensures, c.push_spaced.ensures.within)

pub push-requires : goal.push-requires
push-requires c = omega (arith, ap length c.new-line.ensures, grown c.new-line.result (114 ∷ 101 ∷ 97 ∷ 100 ∷ []) c.push_run.ensures, c.push_spaced.ensures.within, c.push_spaced-2.ensures.within)

pub push_run-requires-2 : goal.push_run-requires-2
push_run-requires-2 c = omega (arith, c.requires, ap length c.new-line.ensures, grown c.new-line.result (114 ∷ 101 ∷ 97 ∷ 100 ∷ []) c.push_run.ensures, c.push_spaced.ensures.within, c.push_spaced-2.ensures.within, grown c.push_spaced-2.new.self (32 ∷ []) c.push.ensures)

pub push-requires-2 : goal.push-requires-2
push-requires-2 c =
    omega (arith, c.requires, ap length c.new-line.ensures, grown c.new-line.result (114 ∷ 101 ∷ 97 ∷ 100 ∷ []) c.push_run.ensures, c.push_spaced.ensures.within, c.push_spaced-2.ensures.within, grown c.push_spaced-2.new.self (32 ∷ []) c.push.ensures, grown c.push.new.self c.args.value.now c.push_run-2.ensures)
