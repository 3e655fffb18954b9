-- A page that is written from its first byte to its last is the one that the table gives. Assumes nothing.
use Prim.Native.Nat.{ℕ}
use mathlib.Core.Path.{◌≡◌, sym, ◌∙◌}
use mathlib.Core.List.{List, ◌++◌}
use native.Mathlib.Omega.{arith}
use lib.ListN.{length, take}
use lib.Seq.{take_all}
use Rattle.encoding.specs.Bytes.{check}
use Rattle.page.specs.declared.Page.{Page}
use Rattle.page.specs.Layout.{value_at, place_at, check_at, spare_end_at, mark_at, page_size, end_mark}
use Rattle.page.specs.Table.{cell, head, front, packed}
use Rattle.page.proofs.OneByte.{by_field}

pub written : (p : Page) (value : List ℕ) (place word : ℕ) (o1 o2 o3 o4 o5 o6 : List ℕ)
    → take value_at o1 ≡ head p
    → take place_at o2 ≡ take value_at o1 ++ value
    → take check_at o3 ≡ take place_at o2 ++ cell place_at check_at place
    → word ≡ check (take check_at o3)
    → take spare_end_at o4 ≡ take check_at o3 ++ cell check_at spare_end_at word
    → take mark_at o5 ≡ take spare_end_at o4 ++ cell spare_end_at mark_at 0
    → take page_size o6 ≡ take mark_at o5 ++ cell mark_at page_size end_mark
    → length o6 ≡ page_size
    → o6 ≡ packed p value place
unfolding front
written p value place word o1 o2 o3 o4 o5 o6 e1 e2 e3 ew e4 e5 e6 l =
    sym (take_all page_size o6 (omega arith)) ∙ rw (e6, e5, e4, ew, e3, e2, e1) (sym (by_field p value place))
