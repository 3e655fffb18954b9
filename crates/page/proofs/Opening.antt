-- An opening is known by its small byte and its place: the check word and all 64 bytes, eight at a time. Assumes nothing.
use Prim.Native.Nat.{ℕ, zero, suc, ◌+◌, ◌*◌, ◌%◌, ◌^◌, ◌≤◌, ◌<◌}
use mathlib.Core.Path.{◌≡◌, refl, sym, ap, subst, ◌∙◌}
use mathlib.Core.Bool.{Bool, true, false, ◌&&◌, cond, false≢true}
use mathlib.Core.List.{List, ◌++◌}
use native.Mathlib.Omega.{arith}
use borrow.Author.Tests.{eqb-true, eq-eqb}
use lib.Dec.{eqb}
use lib.ListN.{length, get_or, replicate}
use lib.Seq.{take_all}
use Rattle.encoding.specs.Bytes.{AreBytes, bytes, zeros, same, check}
use Rattle.encoding.specs.WordSteps.{few}
use Rattle.encoding.proofs.Logic.{and_true, and_both, bool_ext, is_false}
use Rattle.encoding.proofs.Numbers.{bytes_join, number_byte, number_bytes, zeros_are, same_refl, same_true}
use Rattle.encoding.proofs.Parts.{length_part}
use Rattle.encoding.proofs.CheckWord.{check_small}
use Rattle.page.specs.declared.Page.{Page}
use Rattle.page.specs.declared.Unpacked.{Unpacked}
use Rattle.page.specs.declared.Unpacked.TheVariants.{Refused, Blank, Torn, Opening, Image, Outcome, Unfit}
use Rattle.page.specs.Layout.{kind_at, small_at, spare_at, action_at, start_at, value_at, place_at, check_at, spare_end_at, mark_at, page_size, end_mark, most_places, value_size}
use Rattle.page.specs.Table.{cell, head, front, packed, field, fields_of, value_of, opening_as, lowest, highest, between, meets_rules, is_page_of}
use Rattle.page.specs.Answers.{tested, is_opening_page}
use Rattle.page.proofs.Rules.{InBounds}
use Rattle.page.proofs.OneByte.{by_field}
use Rattle.page.proofs.RoundTrip.{packed_tested, ruled}
use Rattle.page.proofs.Quick.{cell_as, on}
use Rattle.page.proofs.Found.{found, opening_is}
use Rattle.page.proofs.Obeyed.{opening_rules}

-- ---- the check word: the 60 bytes below it are few

pub few_word : (small place : ℕ) → small ≤ 1 → check (few (cond (eqb small 1) 1 0) place) ≡ check (front (opening_as small place) (replicate value_size 0) place)
unfolding front head few
few_word zero place h = refl
few_word (suc zero) place h = refl
few_word (suc (suc n)) place h = absurd (omega arith)

-- ---- the bytes, eight at a time

-- the last eight as a number, by the check word
abbrev end : ℕ → ℕ → ℕ
end place word = place + 4294967296 * (word + 16777216 * end_mark)

-- the first eight and the last eight as the code works them out, by shifts
pub first_shift : (small : ℕ) → small ≤ 1 → 1 + small * 256 % 18446744073709551616 ≡ 1 + 256 * small
first_shift small h = omega arith

pub end_shifts : (place word : ℕ) → word < 65521 → place + word * 4294967296 % 18446744073709551616 + end_mark * 72057594037927936 % 18446744073709551616 ≡ end place word
end_shifts place word h = omega arith

wide_place : (place : ℕ) → place ≤ most_places → bytes 4 place ++ bytes 4 0 ≡ bytes 8 place
wide_place place h =
    let e : place + 256 ^ 4 * 0 ≡ place = omega arith in
    rw e at (sym (bytes_join 4 4 place 0 (omega arith)))

last_eight : (place word : ℕ) → place ≤ most_places → word < 65521
    → bytes 4 place ++ (bytes 2 word ++ (bytes 1 0 ++ bytes 1 end_mark)) ≡ bytes 8 (end place word)
last_eight place word h k =
    let e : word + 256 ^ 2 * (0 + 256 ^ 1 * end_mark) ≡ word + 16777216 * end_mark = omega arith in
    let f : bytes 2 word ++ (bytes 1 0 ++ bytes 1 end_mark) ≡ bytes 4 (word + 16777216 * end_mark) =
    rw e at (sym (bytes_join 2 2 word (256 ^ 1 * end_mark) (omega arith))) in
    ap (λ (t : List ℕ). bytes 4 place ++ t) f ∙ sym (bytes_join 4 4 place (word + 16777216 * end_mark) (omega arith))

-- all 64 by numbers of eight bytes
abbrev eights : ℕ → ℕ → ℕ → List ℕ
eights small place word =
    cell kind_at action_at (1 + 256 * small) ++ cell action_at start_at place ++ cell start_at value_at 0 ++ replicate value_size 0 ++ cell place_at page_size (end place word)

front_eights : (small place : ℕ) → small ≤ 1 → place ≤ most_places → front (opening_as small place) (replicate value_size 0) place
    ≡ cell kind_at action_at (1 + 256 * small) ++ cell action_at start_at place ++ cell start_at value_at 0 ++ replicate value_size 0 ++ cell place_at check_at place
unfolding front head
front_eights zero place hs h = ap (λ (t : List ℕ). cell kind_at action_at 1 ++ t ++ cell start_at value_at 0 ++ replicate value_size 0 ++ cell place_at check_at place) (wide_place place h)
front_eights (suc zero) place hs h = ap (λ (t : List ℕ). cell kind_at action_at 257 ++ t ++ cell start_at value_at 0 ++ replicate value_size 0 ++ cell place_at check_at place) (wide_place place h)
front_eights (suc (suc n)) place hs h = absurd (omega arith)

module _ (small place : ℕ) (hs : small ≤ 1) (h : place ≤ most_places) where
  word : ℕ
  word = check (front (opening_as small place) (replicate value_size 0) place)

  the_page : List ℕ
  the_page = packed (opening_as small place) (replicate value_size 0) place

  in_eights : the_page ≡ eights small place word
  unfolding the_page word
  in_eights =
      by_field (opening_as small place) (replicate value_size 0) place
      ∙ ap (λ (t : List ℕ). t ++ cell check_at spare_end_at word ++ cell spare_end_at mark_at 0 ++ cell mark_at page_size end_mark) (front_eights small place hs h)
      ∙ ap (λ (t : List ℕ). cell kind_at action_at (1 + 256 * small) ++ cell action_at start_at place ++ cell start_at value_at 0 ++ replicate value_size 0 ++ t)
      (last_eight place word h (check_small (front (opening_as small place) (replicate value_size 0) place)))

  -- 64 bytes are the opening's exactly if their numbers are
  module _ (s : List ℕ) (l : length s ≡ page_size) (b : AreBytes s) where
    no_value : zeros (value_of s) ≡ true → replicate value_size 0 ≡ value_of s
    no_value z = sym (rw (length_part value_at place_at s (omega arith)) at (zeros_are (value_of s) z))

    from_numbers : field kind_at action_at s ≡ 1 + 256 * small → field action_at start_at s ≡ place → field start_at value_at s ≡ 0 → zeros (value_of s) ≡ true
        → field place_at page_size s ≡ end place word → s ≡ the_page
    from_numbers e1 e2 e3 z e4 =
        sym (in_eights
        ∙ on s l b place_at page_size (omega arith)
        (on s l b value_at place_at (omega arith)
        (on s l b start_at value_at (omega arith)
        (on s l b action_at start_at (omega arith) (cell_as s l b kind_at action_at (1 + 256 * small) (omega arith) (omega arith) e1)
        (cell_as s l b action_at start_at place (omega arith) (omega arith) e2))
        (cell_as s l b start_at value_at 0 (omega arith) (omega arith) e3))
        (no_value z))
        (cell_as s l b place_at page_size (end place word) (omega arith) (omega arith) e4)
        ∙ take_all page_size s (omega arith))

    pub opening_numbers : {n1 n2 n3 n4 k m w : ℕ} {z : Bool} → n1 ≡ field kind_at action_at s → n2 ≡ field action_at start_at s → n3 ≡ field start_at value_at s
        → z ≡ zeros (value_of s) → n4 ≡ field place_at page_size s → k ≡ 1 + 256 * small → m ≡ end place w
        → w ≡ check (front (opening_as small place) (replicate value_size 0) place)
        → (eqb n1 k && eqb n2 place && eqb n3 0 && z && eqb n4 m) ≡ same s (packed (opening_as small place) (replicate value_size 0) place)
    unfolding the_page word
    opening_numbers {n1} {n2} {n3} {n4} {k} {m} {w} {z} e1 e2 e3 ez e4 ek em ew = rw (ek, em) (bool_ext _ _ there back)
      where
        there : (eqb n1 (1 + 256 * small) && eqb n2 place && eqb n3 0 && z && eqb n4 (end place w)) ≡ true → same s (packed (opening_as small place) (replicate value_size 0) place) ≡ true
        there t =
            let t4 = and_true _ (eqb n4 (end place w)) t in
            let t3 = and_true _ z t4.0 in
            let t2 = and_true _ (eqb n3 0) t3.0 in
            let t1 = and_true (eqb n1 (1 + 256 * small)) (eqb n2 place) t2.0 in
            let e = from_numbers (sym e1 ∙ eqb-true _ _ t1.0) (sym e2 ∙ eqb-true _ _ t1.1) (sym e3 ∙ eqb-true _ _ t2.1) (sym ez ∙ t3.1)
            (sym e4 ∙ eqb-true _ _ t4.1 ∙ ap (end place) ew) in
            ap (same s) (sym e) ∙ same_refl s

        back : same s (packed (opening_as small place) (replicate value_size 0) place) ≡ true → (eqb n1 (1 + 256 * small) && eqb n2 place && eqb n3 0 && z && eqb n4 (end place w)) ≡ true
        back t =
            let e : s ≡ eights small place word = same_true s _ t ∙ in_eights in
            let low : word < 65521 = check_small (front (opening_as small place) (replicate value_size 0) place) in
            and_both _ _
            (and_both _ _
            (and_both _ _
            (and_both _ _ (eq-eqb n1 (1 + 256 * small) (e1 ∙ ap (field kind_at action_at) e ∙ number_bytes 8 (1 + 256 * small) (omega arith)))
            (eq-eqb n2 place (e2 ∙ ap (field action_at start_at) e ∙ number_bytes 8 place (omega arith))))
            (eq-eqb n3 0 (e3 ∙ ap (field start_at value_at) e)))
            (ez ∙ ap (λ (t : List ℕ). zeros (value_of t)) e))
            (eq-eqb n4 (end place w) (e4 ∙ ap (field place_at page_size) e ∙ number_bytes 8 (end place word) (omega arith) ∙ ap (end place) (sym ew)))

-- ---- the page test finds an opening exactly in those bytes

module _ (s : List ℕ) (place files : ℕ) (q : InBounds (length s) place files) where
  abbrev small : ℕ
  small = field small_at spare_at s

  opened : small ≤ 1 → s ≡ packed (opening_as small place) (replicate value_size 0) place → is_opening_page (tested s place files) ≡ true
  unfolding is_opening_page
  opened h e =
      let q64 : InBounds page_size place files = record { size_is = refl; place_is = q.place_is; files_are = q.files_are } in
      let p : Page = opening_as small place in
      let rules = opening_rules small place files h in
      ap (λ (t : List ℕ). is_opening_page (tested t place files)) e
      ∙ ap is_opening_page (packed_tested p (replicate value_size 0) place refl files q64 (ruled p (replicate value_size 0) place files q64 rules).widths)
      ∙ simp rules

  -- the small byte and all bytes of an opening that was found
  pub record Stored (n : ℕ) : Type 0 where
    pub small_is : n ≤ 1
    pub bytes_are : s ≡ packed (opening_as n place) (replicate value_size 0) place

  from_opening : (u : Unpacked) → u ≡ tested s place files → is_opening_page u ≡ true → Stored small
  unfolding is_opening_page is_page_of meets_rules fields_of
  from_opening Refused e o = absurd (false≢true o)
  from_opening Blank e o = absurd (false≢true o)
  from_opening Torn e o = absurd (false≢true o)
  from_opening (Opening p) e o =
      let h = found s place files (Opening p) e in
      let i = opening_is s place files p e in
      let byte : p.small ≡ small = ap (λ (x : Page). x.small) h.fields_are in
      let fields : fields_of s ≡ opening_as small place = sym h.fields_are ∙ i.is ∙ ap (λ (n : ℕ). opening_as n place) byte in
      let fits-so : is_page_of (opening_as small place) s place files ≡ true = subst (λ (x : Page). is_page_of x s place files ≡ true) fields h.fits_is in
      let both = and_true (meets_rules (opening_as small place) (value_of s) place files) _ fits-so in
      let value : value_of s ≡ replicate value_size 0 = rw (length_part value_at place_at s (omega (arith, q.size_is))) at (zeros_are (value_of s) (and_true (between (opening_as small place) (lowest 1 place) (highest 1 place files)) _ both.0).1) in
      record { small_is = rw byte at i.small; bytes_are = same_true s _ both.1 ∙ ap (λ (v : List ℕ). packed (opening_as small place) v place) value }
  from_opening (Image p) e o = absurd (false≢true o)
  from_opening (Outcome p) e o = absurd (false≢true o)
  from_opening Unfit e o = absurd (false≢true o)

  pub opening_same : (n : ℕ) → n ≡ get_or s small_at 0 → n ≤ 1 → same s (packed (opening_as n place) (replicate value_size 0) place) ≡ is_opening_page (tested s place files)
  opening_same n b h =
      let e : n ≡ small = b ∙ sym (number_byte s small_at) in
      let k : small ≤ 1 = rw e at h in
      rw e (bool_ext _ _ (λ t. opened k (same_true s _ t))
      (λ o. ap (same s) (sym (from_opening _ refl o).bytes_are) ∙ same_refl s))

  -- no opening has a small byte above 1
  pub opening_large : (n : ℕ) → n ≡ get_or s small_at 0 → 1 < n → false ≡ is_opening_page (tested s place files)
  opening_large n b h =
      let e : n ≡ small = b ∙ sym (number_byte s small_at) in
      sym (is_false _ (λ o. omega (arith, (from_opening _ refl o).small_is)))
