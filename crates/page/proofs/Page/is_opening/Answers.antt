-- `page::Page::is_opening`: what line 1 refuses, and the bytes that the place and the small byte give. Assumes nothing.
use Rattle.page.proofs.Opening.{opening_same, opening_large}
use Rattle.page.proofs.Rules.{in_bounds_lem}
use Rattle.page.specs.Layout.{small_at, value_size}
use Rattle.page.specs.Table.{packed, opening_as}
use Rattle.page.specs.Answers.{tested, is_opening_page}
use Rattle.encoding.specs.Bytes.{same}
use lib.ListN.{get_or, replicate}
use mathlib.Core.List.{List}
use Prim.Native.Nat.{ℕ}
use mathlib.Core.Path.{ap, ◌∙◌}
use native.Mathlib.Omega.{arith}
use Rattle.page.proofs.Page.is_opening.Goals as goal

pub returns-in_default : goal.returns-in_default
unfolding tested is_opening_page
returns-in_default c = rw c.in_default.ensures

pub returns-then-small-gt1 : goal.returns-then-small-gt1
returns-then-small-gt1 c =
    let a = c.args in
    let part = c.in-Some.ensures in
    let small = c.byte_at-small.ensures.value ∙ ap (λ (s : List ℕ). get_or s small_at 0) part.0 in
    opening_large a.part.now a.place a.files (in_bounds_lem _ _ _ part.1) c.byte_at-small.result small c.if-small-gt1.true

pub is_packed_opening-requires : goal.is_packed_opening-requires
is_packed_opening-requires c = (omega arith, (in_bounds_lem _ _ _ c.in-Some.ensures.1).place_is.1)

pub returns : goal.returns
returns c =
    let a = c.args in
    let part = c.in-Some.ensures in
    let small = c.byte_at-small.ensures.value ∙ ap (λ (s : List ℕ). get_or s small_at 0) part.0 in
    c.is_packed_opening.ensures
    ∙ ap (λ (s : List ℕ). same s (packed (opening_as c.byte_at-small.result a.place) (replicate value_size 0) a.place)) part.0
    ∙ opening_same a.part.now a.place a.files (in_bounds_lem _ _ _ part.1) c.byte_at-small.result small c.if-small-gt1.false
