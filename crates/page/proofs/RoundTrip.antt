-- The round trips: fields packed and unpacked are the same fields, and a page that fits, unpacked and packed, is the same 64
-- bytes; pack refuses (2) exactly what the page test calls unfit; and what the page test says of an append that is cut.
-- Assumes nothing.
use Prim.Native.Nat.{ℕ, zero, suc, ◌+◌, ◌-◌, ◌^◌, ◌≤◌, ◌<◌}
use mathlib.Core.Path.{◌≡◌, refl, sym, ap, ◌∙◌}
use mathlib.Core.Bool.{Bool, true, false, cond}
use mathlib.Core.List.{List, ◌++◌, append_assoc, append-nil}
use native.Mathlib.Omega.{arith}
use borrow.Author.Tests.{eqb-true, eqb-false, ltb-true, ltb-false, ne_eqb}
use lib.Dec.{eqb, ltb}
use lib.ListN.{length, take, get_or, replicate, length-append, length-replicate, get_or-append}
use lib.Seq.{take_at, take_all, get_or-append-add, get_or-take, length-take-le}
use Rattle.encoding.specs.Bytes.{zeros}
use Rattle.encoding.proofs.Logic.{and_true, and_end, and_false, by_test}
use Rattle.encoding.proofs.Numbers.{number_bytes, number_byte, same_refl, zeros_replicate, not_zeros}
use Rattle.page.specs.declared.Page.{Page}
use Rattle.page.specs.declared.Unpacked.TheVariants.{Blank, Torn, Opening, Image, Outcome, Unfit}
use Rattle.page.specs.declared.PackError.{PackError}
use Rattle.std.specs.Prelude.{Result, Ok}
use Rattle.page.specs.Layout.{kind_at, place_at, check_at, mark_at, page_size, end_mark, value_size}
use Rattle.page.specs.Table.{cell, head, front, closing, packed, fields_of, value_of, lowest, highest, within, meets_rules, is_page_of, fits, torn}
use Rattle.page.specs.Answers.{in_bounds, by_kind, tested, is_fit_page, packs, cut}
use Rattle.page.proofs.Rules.{within_both, Between, between_true, InBounds, in_bounds_lem, are_in_bounds}
use Rattle.page.proofs.OneByte.{length_front, mark_is, fits_packed}

-- ---- numbers that fit the bytes of their field

pub record InWidths (p : Page) : Type 0 where
  pub kind : p.kind < 256
  pub small : p.small < 256
  pub file : p.file < 256 ^ 4
  pub action : p.action < 256 ^ 4
  pub link : p.link < 256 ^ 4
  pub start : p.start < 256 ^ 8

-- fields that obey the rules do, and their kind is 1, 2 or 3
pub record Ruled (p : Page) : Type 0 where
  pub widths : InWidths p
  pub kind : (1 ≤ p.kind) × (p.kind ≤ 3)

module _ (p : Page) (value : List ℕ) (place files : ℕ) (q : InBounds page_size place files) (h : meets_rules p value place files ≡ true) where
  pub ruled : Ruled p
  unfolding meets_rules lowest highest
  ruled = go (eqb p.kind 1) (eqb p.kind 2) refl refl
    where
      b : Between p (lowest p.kind place) (highest p.kind place files)
      b = between_true _ _ _ (and_true _ _ h).0

      go : (b1 b2 : Bool) → eqb p.kind 1 ≡ b1 → eqb p.kind 2 ≡ b2 → Ruled p
      go true b2 e1 e2 =
          let r = simp e1 at b in
          record { widths = record { kind = omega arith; small = omega arith; file = omega arith; action = omega arith; link = omega arith; start = omega arith }; kind = omega arith }
      go false true e1 e2 =
          let r = simp (e1, e2) at b in
          record { widths = record { kind = omega arith; small = omega arith; file = omega arith; action = omega arith; link = omega arith; start = omega arith }; kind = omega arith }
      go false false e1 e2 =
          let r = simp (e1, e2) at b in
          record { widths = record { kind = omega arith; small = omega arith; file = omega arith; action = omega arith; link = omega arith; start = omega arith }; kind = omega arith }

-- ---- a page that was packed

module _ (p : Page) (value : List ℕ) (place : ℕ) (l : length value ≡ value_size) where
  pub length_packed : length (packed p value place) ≡ page_size
  unfolding packed
  length_packed = simp length-append (omega (arith, length_front p value place l))

  pub value_back : value_of (packed p value place) ≡ value
  unfolding packed front head
  value_back =
      ap (take value_size) (append_assoc value (cell place_at check_at place) (closing (front p value place)))
      ∙ take_at value (cell place_at check_at place ++ closing (front p value place)) value_size l

  pub last_byte : get_or (packed p value place) mark_at 0 ≡ end_mark
  last_byte = mark_is p value place l (packed p value place) refl

  -- the fields come back
  pub fields_back : InWidths p → fields_of (packed p value place) ≡ p
  unfolding fields_of packed front head
  fields_back w = λ i. record {
    kind = number_bytes 1 p.kind w.kind i;
    small = number_bytes 1 p.small w.small i;
    file = number_bytes 4 p.file w.file i;
    action = number_bytes 4 p.action w.action i;
    link = number_bytes 4 p.link w.link i;
    start = number_bytes 8 p.start w.start i;
  }

  first_byte : InWidths p → get_or (packed p value place) kind_at 0 ≡ p.kind
  unfolding packed front head
  first_byte w = sym (number_byte (packed p value place) kind_at) ∙ number_bytes 1 p.kind w.kind

  not_blank : zeros (packed p value place) ≡ false
  not_blank = not_zeros (packed p value place) mark_at (λ e. omega (arith, last_byte))

  not_torn : torn (packed p value place) ≡ false
  unfolding torn
  not_torn = and_false (within (get_or (packed p value place) kind_at 0) 1 3) _ (ne_eqb (get_or (packed p value place) mark_at 0) 0 (λ e. omega (arith, last_byte)))

  page_of_lem : (files : ℕ) → is_page_of p (packed p value place) place files ≡ meets_rules p value place files
  unfolding is_page_of
  page_of_lem files = simp (value_back, same_refl (packed p value place)) (and_end (meets_rules p value place files))

  -- the page test on the page of fields that fit their bytes: the fields if they obey the rules, else unfit
  pub packed_tested : (files : ℕ) → InBounds page_size place files → InWidths p
      → tested (packed p value place) place files ≡ cond (meets_rules p value place files) (by_kind p) Unfit
  unfolding tested
  packed_tested files q w = simp (length_packed, are_in_bounds q, not_blank, not_torn, fields_back w, page_of_lem files)

-- ---- a refused pack writes nothing

pub refused_unwritten : (p : Page) (value out : List ℕ) (place files : ℕ) → ((packs p value place files out).0 ≡ Ok tt → ⊥) → (packs p value place files out).1 ≡ out
unfolding packs
refused_unwritten p value out place files =
    by_test (λ (r : Result (Unit {0}) PackError × List ℕ). (r.0 ≡ Ok tt → ⊥) → r.1 ≡ out) (in_bounds (length out) place files)
    (λ e. by_test (λ (r : Result (Unit {0}) PackError × List ℕ). (r.0 ≡ Ok tt → ⊥) → r.1 ≡ out) (meets_rules p value place files) (λ e h. absurd (h refl)) (λ e h. refl))
    (λ e h. refl)

-- ---- the first round trip: fields packed and unpacked are the same fields

pub packed_unpacked : (p : Page) (value out s : List ℕ) (place files : ℕ) → length value ≡ value_size
    → packs p value place files out ≡ (Ok tt, s) → (tested s place files ≡ by_kind p) × (value_of s ≡ value)
unfolding packs
packed_unpacked p value out s place files l e = go (in_bounds (length out) place files) (meets_rules p value place files) refl refl
  where
    wrong : {r : Result (Unit {0}) PackError} → (r ≡ Ok tt → ⊥) → ◌≡◌ {A = Result (Unit {0}) PackError × List ℕ} (r, out) (Ok tt, s) → (tested s place files ≡ by_kind p) × (value_of s ≡ value)
    wrong f x = absurd (f (ap (λ (y : Result (Unit {0}) PackError × List ℕ). y.0) x))

    go : (b m : Bool) → in_bounds (length out) place files ≡ b → meets_rules p value place files ≡ m
        → (tested s place files ≡ by_kind p) × (value_of s ≡ value)
    go false m eb em = wrong (λ z. let y : ◌≡◌ {A = ℕ} 0 1 = cc in omega arith) (simp eb at e)
    go true false eb em = wrong (λ z. let y : ◌≡◌ {A = ℕ} 0 1 = cc in omega arith) (simp (eb, em) at e)
    go true true eb em =
        let q : InBounds (length out) place files = in_bounds_lem _ _ _ eb in
        let q64 : InBounds page_size place files = record { size_is = refl; place_is = q.place_is; files_are = q.files_are } in
        let s-is : packed p value place ≡ s = ap (λ (y : Result (Unit {0}) PackError × List ℕ). y.1) (simp (eb, em) at e) in
        (rw (← s-is) (packed_tested p value place l files q64 (ruled p value place files q64 em).widths ∙ simp em), rw (← s-is) (value_back p value place l))

-- what pack wrote fits
pub packed_fits : (p : Page) (value out s : List ℕ) (place files : ℕ) → length value ≡ value_size → packs p value place files out ≡ (Ok tt, s)
    → is_fit_page (tested s place files) ≡ true
packed_fits p value out s place files l e = ap is_fit_page (packed_unpacked p value out s place files l e).0 ∙ go (eqb p.kind 1) (eqb p.kind 2)
  where
    go : (a b : Bool) → is_fit_page (cond a (Opening p) (cond b (Image p) (Outcome p))) ≡ true
    go true b = refl
    go false true = refl
    go false false = refl

-- ---- the second: a page that fits, unpacked and packed, is the same 64 bytes

pub unpacked_packed : (s out : List ℕ) (place files : ℕ) → in_bounds (length out) place files ≡ true → fits s place files ≡ true
    → packs (fields_of s) (value_of s) place files out ≡ (Ok tt, s)
unfolding packs is_page_of
unpacked_packed s out place files b h =
    simp (b, (and_true (meets_rules (fields_of s) (value_of s) place files) _ h).0) (ap (λ (t : List ℕ). (Ok tt, t)) (sym (fits_packed s place files h)))

-- ---- an append that is cut

length_cut : (n : ℕ) (s : List ℕ) → n ≤ length s → length (cut n s) ≡ length s
length_cut n s h = simp (length-append, length-replicate, length-take-le n s h) (omega arith)

get_d_cut : (n : ℕ) (s : List ℕ) (i : ℕ) → i < n → n ≤ length s → get_or (cut n s) i 0 ≡ get_or s i 0
get_d_cut n s i h k = get_or-append (take n s) _ 0 i (rw (length-take-le n s k) h) ∙ get_or-take n s i 0 h

get_d_zeros : (n i : ℕ) → get_or {A = ℕ} (replicate n 0) i 0 ≡ 0
get_d_zeros zero i = refl
get_d_zeros (suc n) zero = refl
get_d_zeros (suc n) (suc i) = get_d_zeros n i

get_d_cut_past : (n : ℕ) (s : List ℕ) (i : ℕ) → n ≤ i → n ≤ length s → get_or (cut n s) i 0 ≡ 0
get_d_cut_past n s i h k =
    let r : List ℕ = replicate (length s - n) 0 in
    let e : length (take n s) + (i - n) ≡ i = omega (arith, length-take-le n s k) in
    rw e at (get_or-append-add (take n s) r (i - n) 0) ∙ get_d_zeros (length s - n) (i - n)

pub cut_whole : (n : ℕ) (s : List ℕ) → n ≡ length s → cut n s ≡ s
cut_whole n s e =
    let z : length s - n ≡ 0 = omega arith in
    rw (z, take_all n s (omega arith)) (append-nil s)

blank_tested : (s : List ℕ) (place files : ℕ) → in_bounds (length s) place files ≡ true → zeros s ≡ true → tested s place files ≡ Blank
unfolding tested
blank_tested s place files a z = simp (a, z)

pub torn_tested : (s : List ℕ) (place files : ℕ) → in_bounds (length s) place files ≡ true → 1 ≤ get_or s kind_at 0 → get_or s kind_at 0 ≤ 3 → get_or s mark_at 0 ≡ 0
    → tested s place files ≡ Torn
unfolding tested torn
torn_tested s place files a l h z =
    simp (a, not_zeros s kind_at (λ e. omega arith), within_both (get_or s kind_at 0) 1 3 l h, z)

module _ (p : Page) (value : List ℕ) (place files : ℕ) (l : length value ≡ value_size) (q : InBounds page_size place files) (h : meets_rules p value place files ≡ true) where
  long : length (packed p value place) ≡ page_size
  long = length_packed p value place l

  cut_bounds : (n : ℕ) → n ≤ page_size → in_bounds (length (cut n (packed p value place))) place files ≡ true
  cut_bounds n k = rw (length_cut n (packed p value place) (omega (arith, long)), long) (are_in_bounds q)

  cut_kind : (n : ℕ) → n ≤ page_size → 1 ≤ n → get_or (cut n (packed p value place)) kind_at 0 ≡ p.kind
  cut_kind n k some = get_d_cut n (packed p value place) kind_at some (omega (arith, long)) ∙ first_byte p value place l (ruled p value place files q h).widths

  -- an append at a blank place that is cut after n bytes: blank for 0, torn for 1 to 63, the fields for all 64
  pub cut_tested : (n : ℕ) → n ≤ page_size → tested (cut n (packed p value place)) place files ≡ cond (eqb n 0) Blank (cond (ltb n page_size) Torn (by_kind p))
  cut_tested n k = go (eqb n 0) (ltb n page_size) refl refl
    where
      go : (b c : Bool) → eqb n 0 ≡ b → ltb n page_size ≡ c
          → tested (cut n (packed p value place)) place files ≡ cond (eqb n 0) Blank (cond (ltb n page_size) Torn (by_kind p))
      go true c e f =
          let z : n ≡ 0 = eqb-true n 0 e in
          simp e (blank_tested (cut n (packed p value place)) place files (cut_bounds n k) (rw z (zeros_replicate (length (packed p value place) - 0))))
      go false true e f =
          let some : 1 ≤ n = omega (arith, eqb-false n 0 e) in
          let kind_is = cut_kind n k some in
          let r = ruled p value place files q h in
          simp (e, f) (torn_tested (cut n (packed p value place)) place files (cut_bounds n k) (omega (arith, r.kind)) (omega (arith, r.kind))
          (get_d_cut_past n (packed p value place) mark_at (omega (arith, ltb-true n page_size f)) (omega (arith, long))))
      go false false e f =
          simp (e, f) (rw (cut_whole n (packed p value place) (omega (arith, long, ltb-false n page_size f)))
          (packed_tested p value place l files q (ruled p value place files q h).widths ∙ simp h))
