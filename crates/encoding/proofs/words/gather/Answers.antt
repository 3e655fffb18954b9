-- `encoding::words::gather`: what the four halves leave by 65,521, by their weights. Assumes nothing.
use Rattle.encoding.proofs.Halves.{half_mod}
use Rattle.encoding.proofs.Shifts.{weighed_alike}
use Rattle.encoding.specs.WordSteps.{four, three, gathered}
use Prim.Native.Nat.{ℕ, ◌+◌, ◌*◌, ◌/◌, ◌%◌}
use mathlib.Core.Path.{ap, ◌∙◌}
use borrow.Author.Rules.{rules}
use Rattle.encoding.proofs.words.gather.Goals as goal

pub returns-clause-result_value : goal.returns-clause-result_value
unfolding gathered
returns-clause-result_value c =
    let s = c.args.s.now in
    let t = c.three.ensures in
    let u = c.early.ensures in
    let m = half_mod c.three.result c.fold_halves-a.result (search rules) c.fold_halves-a.ensures in
    let n = half_mod c.early.result c.fold_halves-b.result (search rules) c.fold_halves-b.ensures in
    ap (λ (k : ℕ). k % 65521) c.weigh.ensures
    ∙ weighed_alike c.low_half.result (c.fold_halves-a.result / 4294967296) c.low_half-2.result (c.fold_halves-b.result / 4294967296)
    (three s 32) (three s 36) (480 * three s 8 + 15 * four s 0) (480 * three s 12 + 15 * four s 4)
    (ap (λ (k : ℕ). k % 65521) c.low_half.ensures ∙ m.0 ∙ t.result_value) (m.1 ∙ t.high)
    (ap (λ (k : ℕ). k % 65521) c.low_half-2.ensures ∙ n.0 ∙ u.result_value) (n.1 ∙ u.high)
