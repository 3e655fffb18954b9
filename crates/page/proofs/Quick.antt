-- The cheap tests, in their order, say what packing the fields again would say. Assumes nothing.
use Prim.Native.Nat.{ℕ, ◌+◌, ◌-◌, ◌≤◌, ◌<◌}
use mathlib.Core.Path.{◌≡◌, refl, sym, ap, ap₂, ◌∙◌}
use mathlib.Core.Bool.{Bool, true, false, ◌&&◌, cond}
use mathlib.Core.List.{List, ◌++◌, append_assoc}
use native.Mathlib.Omega.{arith}
use borrow.Author.Tests.{eqb-true, eqb-false, eq-eqb, ne_eqb}
use lib.Dec.{eqb}
use lib.ListN.{length, take, drop, get_or, length-append}
use lib.Seq.{drop_at, take_all, take-add, get_or-drop}
use Rattle.encoding.specs.Bytes.{AreBytes, part, number, bytes, zeros, same, check}
use Rattle.encoding.proofs.Logic.{and_true, and_both, and_false, bool_ext, by_test}
use Rattle.encoding.proofs.Numbers.{bytes_number, number_bytes, number_byte, part_bytes, same_refl, same_true, zeros_at, not_zeros}
use Rattle.encoding.proofs.Parts.{length_part}
use Rattle.page.specs.declared.Page.{Page}
use Rattle.page.specs.declared.Unpacked.{Unpacked}
use Rattle.page.specs.declared.Unpacked.TheVariants.{Blank, Torn, Opening, Image, Outcome, Unfit}
use Rattle.page.specs.Layout.{kind_at, small_at, spare_at, file_at, action_at, link_at, start_at, value_at, place_at, check_at, spare_end_at, mark_at, page_size, end_mark, most_places, value_size}
use Rattle.page.specs.Table.{cell, head, front, closing, packed, field, fields_of, value_of, within, meets_rules, is_page_of, fits, torn}
use Rattle.page.specs.Steps.{framed}
use Rattle.page.specs.Answers.{in_bounds, by_kind, tested, is_fit_page, is_blank_page}
use Rattle.page.proofs.Rules.{within_true, InBounds, in_bounds_lem}
use Rattle.page.proofs.OneByte.{closing_word, by_field, from_check, mark_is}

-- what the code tests, in its order
unfoldable pub quick : Page → List ℕ → ℕ → ℕ → Bool
quick p s place files =
    framed s place && (meets_rules p (value_of s) place files && eqb (field check_at spare_end_at s) (check (part kind_at check_at s)))

length_value_end : (p : Page) (v : List ℕ) → length v ≡ value_size → length (head p ++ v) ≡ place_at
unfolding head
length_value_end p v k = simp length-append (omega arith)

module _ (s : List ℕ) (l : length s ≡ page_size) (b : AreBytes s) where
  -- a field's number gives its bytes again
  pub cell_as : (from to x : ℕ) → from ≤ to → to ≤ page_size → field from to s ≡ x → cell from to x ≡ part from to s
  cell_as from to x h k e = ap (bytes (to - from)) (sym e) ∙ rw (length_part from to s (omega arith)) at (bytes_number (part from to s) (part_bytes s from to b))

  cell_is : (from to : ℕ) → from ≤ to → to ≤ page_size → cell from to (field from to s) ≡ part from to s
  cell_is from to h k = cell_as from to (field from to s) h k refl

  -- the bytes before an index, and the part after it
  pub on : (from to : ℕ) {xs ys : List ℕ} → from ≤ to → xs ≡ take from s → ys ≡ part from to s → xs ++ ys ≡ take to s
  on from to h e f =
      let k : from + (to - from) ≡ to = omega arith in
      ap₂ ◌++◌ e f ∙ rw k at (sym (take-add from (to - from) s))

  head_is : field spare_at file_at s ≡ 0 → head (fields_of s) ≡ take value_at s
  unfolding head fields_of
  head_is z =
      on start_at value_at (omega arith)
      (on link_at start_at (omega arith)
      (on action_at link_at (omega arith)
      (on file_at action_at (omega arith)
      (on spare_at file_at (omega arith)
      (on small_at spare_at (omega arith) (cell_is kind_at small_at (omega arith) (omega arith))
      (cell_is small_at spare_at (omega arith) (omega arith)))
      (cell_as spare_at file_at 0 (omega arith) (omega arith) z))
      (cell_is file_at action_at (omega arith) (omega arith)))
      (cell_is action_at link_at (omega arith) (omega arith)))
      (cell_is link_at start_at (omega arith) (omega arith)))
      (cell_is start_at value_at (omega arith) (omega arith))

  front_is : (place : ℕ) → field spare_at file_at s ≡ 0 → field place_at check_at s ≡ place → front (fields_of s) (value_of s) place ≡ take check_at s
  unfolding front
  front_is place z e =
      on place_at check_at (omega arith) (on value_at place_at (omega arith) (head_is z) refl) (cell_as place_at check_at place (omega arith) (omega arith) e)

  byte_cell : (i x : ℕ) → i < page_size → get_or s i 0 ≡ x → cell i (i + 1) x ≡ part i (i + 1) s
  byte_cell i x h e =
      let one : i + 1 - i ≡ 1 = omega arith in
      cell_as i (i + 1) x (omega arith) (omega arith) (rw one (number_byte s i) ∙ e)

  packed_is : (place : ℕ) → field spare_at file_at s ≡ 0 → field place_at check_at s ≡ place → get_or s spare_end_at 0 ≡ 0 → get_or s mark_at 0 ≡ end_mark
      → field check_at spare_end_at s ≡ check (part kind_at check_at s) → packed (fields_of s) (value_of s) place ≡ s
  packed_is place z e y m w =
      let f = front_is place z e in
      by_field (fields_of s) (value_of s) place
      ∙ on mark_at page_size (omega arith)
      (on spare_end_at mark_at (omega arith)
      (on check_at spare_end_at (omega arith) f (cell_as check_at spare_end_at _ (omega arith) (omega arith) (w ∙ ap check (sym f))))
      (byte_cell spare_end_at 0 (omega arith) y))
      (byte_cell mark_at end_mark (omega arith) m)
      ∙ take_all page_size s (omega arith)

  -- what a page that is packed holds
  module _ (p : Page) (v : List ℕ) (place : ℕ) (h : place ≤ most_places) (k : length v ≡ value_size) (e : s ≡ packed p v place) where
    spare_zero : field spare_at file_at s ≡ 0
    unfolding packed front head
    spare_zero = ap (λ (t : List ℕ). field spare_at file_at t) e

    from_place : drop place_at s ≡ cell place_at check_at place ++ closing (front p v place)
    unfolding packed front
    from_place =
        ap (drop place_at) (e ∙ append_assoc (head p ++ v) (cell place_at check_at place) (closing (front p v place)))
        ∙ drop_at (head p ++ v) _ place_at (length_value_end p v k)

    place_is : field place_at check_at s ≡ place
    place_is = ap (λ (t : List ℕ). number (take 4 t)) from_place ∙ number_bytes 4 place (omega arith)

    end_zero : get_or s spare_end_at 0 ≡ 0
    end_zero = sym (get_or-drop check_at s 2 0) ∙ ap (λ (t : List ℕ). get_or t 2 0) (from_check p v place k s e)

    word_is : field check_at spare_end_at s ≡ check (part kind_at check_at s)
    word_is = ap (λ (t : List ℕ). number (take 2 t)) (from_check p v place k s e) ∙ closing_word (take check_at s)

  quick_fits : (place files : ℕ) → place ≤ most_places → quick (fields_of s) s place files ≡ is_page_of (fields_of s) s place files
  unfolding quick is_page_of framed
  quick_fits place files h = bool_ext _ _ there back
    where
      there : quick (fields_of s) s place files ≡ true → is_page_of (fields_of s) s place files ≡ true
      there q =
          let f4 = and_true (framed s place) _ q in
          let f3 = and_true _ (eqb (get_or s spare_end_at 0) 0) f4.0 in
          let f2 = and_true _ (eqb (field spare_at file_at s) 0) f3.0 in
          let f1 = and_true (eqb (get_or s mark_at 0) end_mark) (eqb (field place_at check_at s) place) f2.0 in
          let rest = and_true (meets_rules (fields_of s) (value_of s) place files) _ f4.1 in
          let e = packed_is place (eqb-true _ _ f2.1) (eqb-true _ _ f1.1) (eqb-true _ _ f3.1) (eqb-true _ _ f1.0) (eqb-true _ _ rest.1) in
          and_both _ _ rest.0 (rw e (same_refl s))

      back : is_page_of (fields_of s) s place files ≡ true → quick (fields_of s) s place files ≡ true
      back f =
          let t = and_true (meets_rules (fields_of s) (value_of s) place files) (same s (packed (fields_of s) (value_of s) place)) f in
          let e = same_true s (packed (fields_of s) (value_of s) place) t.1 in
          let k : length (value_of s) ≡ value_size = length_part value_at place_at s (omega arith) in
          let p = fields_of s in
          let v = value_of s in
          and_both _ _
          (and_both _ _ (and_both _ _ (and_both _ _ (eq-eqb _ _ (mark_is p v place k s e)) (eq-eqb _ _ (place_is p v place h k e))) (eq-eqb _ _ (spare_zero p v place h k e))) (eq-eqb _ _ (end_zero p v place h k e)))
          (and_both _ _ t.0 (eq-eqb _ _ (word_is p v place h k e)))

  -- an answer by the cheap tests is the answer
  pub as_page : (r : Bool) (p : Page) (place files : ℕ) → place ≤ most_places → p ≡ fields_of s → r ≡ quick p s place files → r ≡ is_page_of p s place files
  as_page r p place files h e q = q ∙ ap (λ (x : Page). quick x s place files) e ∙ quick_fits place files h ∙ ap (λ (x : Page). is_page_of x s place files) (sym e)

  no_mark : (place files : ℕ) → place ≤ most_places → get_or s mark_at 0 ≡ 0 → fits s place files ≡ false
  unfolding quick framed
  no_mark place files h z = sym (as_page false (fields_of s) place files h refl (simp (ne_eqb (get_or s mark_at 0) end_mark (λ e. omega arith))))

-- ---- the page test by its mark

torn_some : (s : List ℕ) → torn s ≡ true → zeros s ≡ true → ⊥
unfolding torn
torn_some s t z =
    let w = within_true (get_or s kind_at 0) 1 3 (and_true _ _ t).0 in
    omega (arith, zeros_at s kind_at z)

pub unmarked_tested : (s : List ℕ) (place files : ℕ) → in_bounds (length s) place files ≡ true → AreBytes s → get_or s mark_at 0 ≡ 0
    → tested s place files ≡ cond (torn s) Torn (cond (zeros s) Blank Unfit)
unfolding tested
unmarked_tested s place files a b z = go (torn s) (zeros s) refl refl
  where
    q : InBounds (length s) place files
    q = in_bounds_lem (length s) place files a

    go : (t u : Bool) → torn s ≡ t → zeros s ≡ u → tested s place files ≡ cond (torn s) Torn (cond (zeros s) Blank Unfit)
    go true true e f = absurd (torn_some s e f)
    go true false e f = simp (a, e, f)
    go false true e f = simp (a, e, f)
    go false false e f = simp (a, e, f, no_mark s q.size_is b place files q.place_is.1 z)

pub marked_tested : (s : List ℕ) (place files : ℕ) → in_bounds (length s) place files ≡ true → (get_or s mark_at 0 ≡ 0 → ⊥)
    → tested s place files ≡ cond (fits s place files) (by_kind (fields_of s)) Unfit
unfolding tested torn
marked_tested s place files a m =
    simp (a, not_zeros s mark_at m, and_false (within (get_or s kind_at 0) 1 3) (eqb (get_or s mark_at 0) 0) (ne_eqb (get_or s mark_at 0) 0 m))

-- ---- a page that fits, of what the page test says

pub fits_told : (s : List ℕ) (place files : ℕ) → in_bounds (length s) place files ≡ true → AreBytes s → fits s place files ≡ is_fit_page (tested s place files)
fits_told s place files a b = go (eqb (get_or s mark_at 0) 0) refl
  where
    q : InBounds (length s) place files
    q = in_bounds_lem (length s) place files a

    unmarked : (t z : Bool) → false ≡ is_fit_page (cond t Torn (cond z Blank Unfit))
    unmarked true z = refl
    unmarked false true = refl
    unmarked false false = refl

    marked : (f k1 k2 : Bool) → f ≡ is_fit_page (cond f (cond k1 (Opening (fields_of s)) (cond k2 (Image (fields_of s)) (Outcome (fields_of s)))) Unfit)
    marked true true k2 = refl
    marked true false true = refl
    marked true false false = refl
    marked false k1 k2 = refl

    go : (m : Bool) → eqb (get_or s mark_at 0) 0 ≡ m → fits s place files ≡ is_fit_page (tested s place files)
    go true e =
        let z : get_or s mark_at 0 ≡ 0 = eqb-true (get_or s mark_at 0) 0 e in
        rw (unmarked_tested s place files a b z, no_mark s q.size_is b place files q.place_is.1 z) (unmarked (torn s) (zeros s))
    go false e =
        rw (marked_tested s place files a (eqb-false (get_or s mark_at 0) 0 e)) (marked (fits s place files) (eqb (fields_of s).kind 1) (eqb (fields_of s).kind 2))

-- ---- a blank page is one of zeros

pub zeros_blank : (s : List ℕ) (place files : ℕ) → in_bounds (length s) place files ≡ true → zeros s ≡ is_blank_page (tested s place files)
unfolding tested
zeros_blank s place files a = simp a (go (zeros s))
  where
    kinds : false ≡ is_blank_page (by_kind (fields_of s))
    kinds =
        by_test (λ (u : Unpacked). false ≡ is_blank_page u) (eqb (fields_of s).kind 1) (λ e. refl)
        (λ e. by_test (λ (u : Unpacked). false ≡ is_blank_page u) (eqb (fields_of s).kind 2) (λ f. refl) (λ f. refl))

    other : false ≡ is_blank_page (cond (torn s) Torn (cond (fits s place files) (by_kind (fields_of s)) Unfit))
    other =
        by_test (λ (u : Unpacked). false ≡ is_blank_page u) (torn s) (λ e. refl)
        (λ e. by_test (λ (u : Unpacked). false ≡ is_blank_page u) (fits s place files) (λ f. kinds) (λ f. refl))

    go : (z : Bool) → z ≡ is_blank_page (cond z Blank (cond (torn s) Torn (cond (fits s place files) (by_kind (fields_of s)) Unfit)))
    go true = refl
    go false = other

-- ---- the same of the bytes of a part that line 1 let through

module _ {s t : List ℕ} (place files : ℕ) (e : t ≡ s) (a : in_bounds (length s) place files ≡ true) where
  pub unmarked_as : {u : Unpacked} → AreBytes s → get_or t mark_at 0 ≡ 0 → u ≡ cond (torn t) Torn (cond (zeros t) Blank Unfit) → u ≡ tested s place files
  unmarked_as b m u = u ∙ ap (λ (l : List ℕ). cond (torn l) Torn (cond (zeros l) Blank Unfit)) e ∙ sym (unmarked_tested s place files a b (ap (λ (l : List ℕ). get_or l mark_at 0) (sym e) ∙ m))

  module _ {p : Page} {r : Bool} (f : p ≡ fields_of t) (h : r ≡ is_page_of p t place files) where
    fits_as : r ≡ fits s place files
    fits_as = h ∙ ap₂ (λ (x : Page) (l : List ℕ). is_page_of x l place files) (f ∙ ap fields_of e) e

    pub marked_as : (get_or t mark_at 0 ≡ 0 → ⊥) → cond r (by_kind p) Unfit ≡ tested s place files
    marked_as m =
        ap₂ (λ (b : Bool) (x : Page). cond b (by_kind x) Unfit) fits_as (f ∙ ap fields_of e)
        ∙ sym (marked_tested s place files a (λ z. m (ap (λ (l : List ℕ). get_or l mark_at 0) e ∙ z)))

    pub told_as : AreBytes s → r ≡ is_fit_page (tested s place files)
    told_as b = fits_as ∙ fits_told s place files a b
