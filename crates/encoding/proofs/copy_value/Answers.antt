-- `encoding::copy_value`: four steps of eight bytes. Assumes nothing.
use Rattle.encoding.proofs.Parts.{four_eights}
use mathlib.Core.Path.{◌∙◌}
use Rattle.encoding.proofs.copy_value.Goals as goal

pub returns : goal.returns
returns c =
    let r1 = c.copy_eight in
    let r2 = c.copy_eight-2 in
    let r3 = c.copy_eight-3 in
    let r4 = c.copy_eight-4 in
    four_eights c.args.s.now r1.new.out r2.new.out r3.new.out r4.new.out c.requires.1
    (r4.auto.out ∙ r3.auto.out ∙ r2.auto.out ∙ r1.auto.out ∙ c.requires.0) r1.ensures r2.ensures r3.ensures r4.ensures
