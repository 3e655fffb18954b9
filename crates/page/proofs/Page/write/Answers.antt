-- `page::Page::write`: each part is written after those before it. Assumes nothing.
use Rattle.page.proofs.Written.{written}
use Rattle.page.specs.Layout.{page_size}
use lib.ListN.{length}
use mathlib.Core.Path.{◌≡◌, ◌∙◌}
use native.Mathlib.Omega.{arith}
use Rattle.page.proofs.Page.write.Goals as goal

pub returns : goal.returns
returns c =
    let long : length c.write_head.new.out ≡ page_size = omega arith in
    let r6 = c.put_number-4 in
    let r5 = c.put_number-3 in
    let r4 = c.put_number-2 in
    let word = c.check_word-word in
    let r3 = c.put_number in
    let r2 = c.put_run in
    let r1 = c.write_head in
    written c.args.self c.args.value.now c.args.place word.result
    r1.new.out r2.new.out r3.new.out r4.new.out r5.new.out r6.new.out
    r1.ensures r2.ensures r3.ensures word.ensures r4.ensures r5.ensures r6.ensures
    (r6.auto.out ∙ r5.auto.out ∙ r4.auto.out ∙ r3.auto.out ∙ r2.auto.out ∙ long)
