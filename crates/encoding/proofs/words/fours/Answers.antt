-- `encoding::words::fours`: the bytes of the number are those of the run. Assumes nothing.
use Rattle.encoding.proofs.Halves.{fours_read}
use Prim.Native.Nat.{ℕ, ◌+◌, ◌*◌}
use mathlib.Core.Path.{ap₂, ◌∙◌}
use Rattle.encoding.proofs.words.fours.Goals as goal

pub returns-clause-value : goal.returns-clause-value
returns-clause-value c =
    let a = c.args in
    let e = fours_read a.s.now a.at a.end c.read_number.result (λ i. (c.shared_slice_known-1.given i).fits) c.requires.0 c.read_number.ensures in
    let f = c.fours_of.ensures in
    f.value ∙ ap₂ (λ (l h : ℕ). l + 4294967296 * h) e.0 e.1
