-- `page::Page::is_fit_image`: what line 1 refuses, and the rules of the kind that is known. Assumes nothing.
use Rattle.page.proofs.Quick.{told_as}
use Rattle.page.proofs.Rules.{in_bounds_lem}
use Rattle.page.proofs.Found.{kind_of_lem}
use Rattle.page.specs.Table.{fields_of}
use Rattle.page.specs.Answers.{tested}
use Rattle.page.specs.declared.Page.{Page}
use mathlib.Core.List.{List}
use Prim.Native.Nat.{ℕ}
use mathlib.Core.Path.{ap, ◌∙◌}
use borrow.Author.Rules.{rules}
use Rattle.page.proofs.Page.is_fit_image.Goals as goal

pub returns-in_default : goal.returns-in_default
unfolding tested
returns-in_default c = rw c.in_default.ensures

pub is_fit-requires : goal.is_fit-requires
is_fit-requires c =
    let part = c.in-Some.ensures in
    let q = in_bounds_lem _ _ _ part.1 in
    let kind = ap (λ (p : Page). p.kind) c.fields.ensures ∙ ap (λ (s : List ℕ). (fields_of s).kind) part.0 ∙ kind_of_lem c.args.part.now 2 c.requires in
    (q.place_is.0, q.place_is.1, kind, c.fields.ensures)

pub returns : goal.returns
returns c =
    let part = c.in-Some.ensures in
    told_as _ _ part.0 part.1 c.fields.ensures c.is_fit.ensures (search rules)
