-- `page::Page::is_blank`: what line 1 refuses, and zeros. Assumes nothing.
use Rattle.page.proofs.Quick.{zeros_blank}
use Rattle.page.specs.Answers.{tested}
use Rattle.encoding.specs.Bytes.{zeros}
use mathlib.Core.Path.{ap, ◌∙◌}
use Rattle.page.proofs.Page.is_blank.Goals as goal

pub returns-in_default : goal.returns-in_default
unfolding tested
returns-in_default c = rw c.in_default.ensures

pub returns : goal.returns
returns c =
    let a = c.args in
    let part = c.in-Some.ensures in
    c.is_zero.ensures ∙ ap zeros part.0 ∙ zeros_blank a.part.now a.place a.files part.1
