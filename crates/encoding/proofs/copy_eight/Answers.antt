-- `encoding::copy_eight`: eight bytes read as a number are written as the same eight. Assumes nothing.
use Prim.Native.Nat.{ℕ, ◌+◌, ◌-◌}
use Rattle.encoding.specs.Bytes.{bytes, part}
use Rattle.encoding.proofs.Parts.{put_part, length_part, bytes_of_eight}
use native.Mathlib.Omega.{arith}
use mathlib.Core.Path.{ap, ◌∙◌}
use Rattle.encoding.proofs.copy_eight.Goals as goal

pub returns : goal.returns
returns c =
    let a = c.args in
    let w = c.write_number in
    put_part a.at (a.at + 8) a.out.now w.new.out (part a.at (a.at + 8) a.s.now) (omega arith) (omega arith) w.auto.out
    (w.ensures ∙ ap (λ (n : ℕ). bytes n c.read_number.result) (length_part a.at (a.at + 8) a.out.now (omega arith))
    ∙ ap (bytes (a.at + 8 - a.at)) c.read_number.ensures ∙ bytes_of_eight a.s.now a.at (λ i. (c.shared_slice_known-1.given i).fits) (omega arith))
