-- `encoding::words::three`: three steps, in each half by itself. Assumes nothing.
use Rattle.encoding.proofs.Halves.{three_ahead}
use Rattle.encoding.specs.WordSteps.{four, three}
use Prim.Native.Nat.{ℕ, ◌+◌}
use mathlib.Core.Path.{◌≡◌}
use native.Mathlib.Omega.{arith}
use Rattle.encoding.proofs.words.three.Goals as goal

pub returns-clause-result_value : goal.returns-clause-result_value
unfolding three
returns-clause-result_value g c =
    let s = c.args.s.now in
    (three_ahead _ _ _ _ _ c.ahead.result (four s _) (four s _) (four s _) (four s _) (four s _) (four s _) (c.fours.ensures.value, c.fours.ensures.fits) c.ahead-a.ensures (c.fours-2.ensures.value, c.fours-2.ensures.fits) c.ahead-b.ensures (c.fours-3.ensures.value, c.fours-3.ensures.fits) c.ahead.ensures).0

pub returns-clause-high : goal.returns-clause-high
unfolding three
returns-clause-high g c =
    let s = c.args.s.now in
    let at : ℕ = g.row.AT in
    let e : at + 4 + 8 ≡ at + 8 + 4 = omega arith in
    let f : at + 4 + 16 ≡ at + 16 + 4 = omega arith in
    rw (e, f)
    (three_ahead _ _ _ _ _ c.ahead.result (four s _) (four s _) (four s _) (four s _) (four s _) (four s _) (c.fours.ensures.value, c.fours.ensures.fits) c.ahead-a.ensures (c.fours-2.ensures.value, c.fours-2.ensures.fits) c.ahead-b.ensures (c.fours-3.ensures.value, c.fours-3.ensures.fits) c.ahead.ensures).1
