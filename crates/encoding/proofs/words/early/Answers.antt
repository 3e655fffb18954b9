-- `encoding::words::early`: one step more, in each half by itself. Assumes nothing.
use Rattle.encoding.proofs.Halves.{ahead_mod}
use Rattle.encoding.specs.WordSteps.{four, three}
use Rattle.encoding.proofs.words.early.Goals as goal

pub returns-clause-result_value : goal.returns-clause-result_value
returns-clause-result_value c =
    let s = c.args.s.now in
    let f = c.fours.ensures in
    (ahead_mod c.three.result c.fours.result c.ahead.result (four s 0) (four s 4) (three s 8) (three s 12) f.value f.fits c.ahead.ensures (c.three.ensures.result_value, c.three.ensures.high)).0

pub returns-clause-high : goal.returns-clause-high
returns-clause-high c =
    let s = c.args.s.now in
    let f = c.fours.ensures in
    (ahead_mod c.three.result c.fours.result c.ahead.result (four s 0) (four s 4) (three s 8) (three s 12) f.value f.fits c.ahead.ensures (c.three.ensures.result_value, c.three.ensures.high)).1
