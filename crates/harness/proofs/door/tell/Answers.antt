-- `harness::door::tell`: the answer's numbers copied, then the state's stored. Assumes nothing.
use mathlib.Core.Path.{◌≡◌}
use Rattle.harness.proofs.ToldNumbers.{told_are}
use Rattle.harness.proofs.door.tell.Goals as goal

pub returns : goal.returns
returns c =
    let a = c.args in
    let copied : c.copy_from_slice.new.self ≡ c.from-numbers.result = c.copy_from_slice.ensures.after in
    rw copied (told_are a.out.now c.from-numbers.result a.done.answer a.done.state c.requires c.from-numbers.ensures)
