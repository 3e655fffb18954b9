-- The last four bytes of a page follow from the sixty before them; so no two pages of the table at one place differ in one byte alone,
-- whatever the file counts. Shuts out a check word over bytes 0 to 54, which leaves out the last byte of a value, and an end mark that is not
-- compared. Assumes nothing.
use Prim.Native.Nat.{ℕ, ◌+◌, ◌-◌, ◌≤◌, ◌<◌}
use mathlib.Core.Path.{◌≡◌, refl, sym, ap, ◌∙◌}
use mathlib.Core.Bool.{Bool, true, false}
use mathlib.Core.List.{List, ◌++◌, append_assoc}
use native.Mathlib.Omega.{arith}
use borrow.Author.Tests.{ltb-true, ltb-false}
use lib.Dec.{ltb}
use lib.ListN.{length, take, drop, get_or, set, length-append, length-set}
use lib.Seq.{take_at, drop_at, length-take-le, take-set-le, take-set-lt, drop-set-lt, get_or-set_same, get_or-take, get_or-drop}
use Rattle.encoding.specs.Bytes.{number, check}
use Rattle.encoding.proofs.Logic.{and_true}
use Rattle.encoding.proofs.Numbers.{number_bytes, same_true}
use Rattle.encoding.proofs.Parts.{length_part}
use Rattle.encoding.proofs.CheckWord.{check_small, word_tells}
use Rattle.page.specs.declared.Page.{Page}
use Rattle.page.specs.Layout.{place_at, value_at, check_at, spare_end_at, mark_at, page_size, end_mark, value_size}
use Rattle.page.specs.Table.{cell, head, front, closing, packed, fields_of, value_of, meets_rules, is_page_of, fits}

-- ---- bytes 60 to 63 of a page

pub closing_word : (f : List ℕ) → number (take (spare_end_at - check_at) (closing f)) ≡ check f
closing_word f = number_bytes 2 (check f) (omega (arith, check_small f))

pub length_front : (p : Page) (value : List ℕ) (place : ℕ) → length value ≡ value_size → length (front p value place) ≡ check_at
unfolding front head
length_front p value place l = simp length-append (omega arith)

-- field by field, as it is written
pub by_field : (p : Page) (value : List ℕ) (place : ℕ)
    → packed p value place ≡ front p value place ++ cell check_at spare_end_at (check (front p value place)) ++ cell spare_end_at mark_at 0 ++ cell mark_at page_size end_mark
unfolding packed
by_field p value place = simp append_assoc

module _ (p : Page) (value : List ℕ) (place : ℕ) (l : length value ≡ value_size) (s : List ℕ) (e : s ≡ packed p value place) where
  before_check : take check_at s ≡ front p value place
  unfolding packed
  before_check = ap (take check_at) e ∙ take_at (front p value place) _ check_at (length_front p value place l)

  pub from_check : drop check_at s ≡ closing (take check_at s)
  unfolding packed
  from_check = ap (drop check_at) e ∙ drop_at (front p value place) _ check_at (length_front p value place l) ∙ ap closing (sym before_check)

  pub mark_is : get_or s mark_at 0 ≡ end_mark
  mark_is = sym (get_or-drop check_at s 3 0) ∙ ap (λ (t : List ℕ). get_or t 3 0) from_check

-- ---- a page that fits is the page of its own fields

module _ (s : List ℕ) (place files : ℕ) (h : fits s place files ≡ true) where
  pub fits_packed : s ≡ packed (fields_of s) (value_of s) place
  unfolding is_page_of
  fits_packed = same_true s _ (and_true (meets_rules (fields_of s) (value_of s) place files) _ h).1

  module _ (l : length s ≡ page_size) where
    value_long : length (value_of s) ≡ value_size
    value_long = length_part value_at place_at s (omega arith)

    fits_closed : drop check_at s ≡ closing (take check_at s)
    fits_closed = from_check (fields_of s) (value_of s) place value_long s fits_packed

    pub fits_marked : get_or s mark_at 0 ≡ end_mark
    fits_marked = mark_is (fields_of s) (value_of s) place value_long s fits_packed

-- ---- two pages that fit and differ in one byte at most do not differ

module _ (s : List ℕ) (i v : ℕ) (a : drop check_at s ≡ closing (take check_at s)) (b : drop check_at (set s i v) ≡ closing (take check_at (set s i v))) where
  -- below 60 the check word would differ
  below_word : check_at ≤ length s → i < check_at → get_or s i 0 < 256 → v < 256 → v ≡ get_or s i 0
  below_word l n old new =
      let word : check (take check_at (set s i v)) ≡ check (take check_at s) =
      sym (closing_word (take check_at (set s i v))) ∙ ap (λ (r : List ℕ). number (take (spare_end_at - check_at) r)) (sym b ∙ drop-set-lt check_at s i v n ∙ a) ∙ closing_word (take check_at s) in
      let same : get_or (take check_at s) i 0 ≡ get_or s i 0 = get_or-take check_at s i 0 n in
      word_tells (take check_at s) i v (omega (arith, length-take-le check_at s l)) (rw same old) new (ap check (sym (take-set-lt check_at s i v n)) ∙ word) ∙ same

  -- from 60 on there is no choice
  above_word : check_at ≤ i → i < length s → v ≡ get_or s i 0
  above_word n l =
      let back : check_at + (i - check_at) ≡ i = omega arith in
      let byte : (r : List ℕ) → get_or (drop check_at r) (i - check_at) 0 ≡ get_or r i 0 = λ r. get_or-drop check_at r (i - check_at) 0 ∙ ap (λ (k : ℕ). get_or r k 0) back in
      sym (get_or-set_same s i v 0 l) ∙ sym (byte (set s i v))
      ∙ ap (λ (r : List ℕ). get_or r (i - check_at) 0) (b ∙ ap closing (take-set-le check_at s i v n) ∙ sym a) ∙ byte s

pub one_byte : (s : List ℕ) (place files files' i v : ℕ) → length s ≡ page_size → i < page_size → get_or s i 0 < 256 → v < 256
    → fits s place files ≡ true → fits (set s i v) place files' ≡ true → v ≡ get_or s i 0
one_byte s place files files' i v l inside old new h k = go (ltb i check_at) refl
  where
    a : drop check_at s ≡ closing (take check_at s)
    a = fits_closed s place files h l

    b : drop check_at (set s i v) ≡ closing (take check_at (set s i v))
    b = fits_closed (set s i v) place files' k (length-set s i v ∙ l)

    go : (t : Bool) → ltb i check_at ≡ t → v ≡ get_or s i 0
    go true e = below_word s i v a b (omega arith) (ltb-true i check_at e) old new
    go false e = above_word s i v a b (ltb-false i check_at e) (omega arith)
