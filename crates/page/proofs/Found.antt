-- What an answer of the page test tells: the laws that the layers above cite. Assumes nothing.
use Prim.Native.Nat.{ℕ, ◌≤◌, ◌<◌}
use mathlib.Core.Path.{◌≡◌, refl, sym, ap, subst, ◌∙◌}
use mathlib.Core.Bool.{Bool, true, false, cond, ◌&&◌, false≢true}
use mathlib.Core.List.{List}
use native.Mathlib.Omega.{arith}
use borrow.Author.Tests.{eqb-true, eq-eqb, ne_eqb}
use lib.Dec.{eqb}
use lib.ListN.{length, get_or}
use Rattle.encoding.specs.Bytes.{zeros}
use Rattle.encoding.proofs.Logic.{and_true, and_both, and_end, and_false}
use Rattle.encoding.proofs.Numbers.{number_byte}
use Rattle.page.specs.declared.Page.{Page}
use Rattle.page.specs.declared.Unpacked.{Unpacked}
use Rattle.page.specs.declared.Unpacked.TheVariants.{Refused, Blank, Torn, Opening, Image, Outcome, Unfit}
use Rattle.page.specs.Layout.{value_size, page_size, small_at}
use Rattle.page.specs.Table.{fields_of, opening_as, lowest, highest, meets_rules, is_page_of, fits, torn}
use Rattle.page.specs.Answers.{in_bounds, by_kind, tested, is_fit_page, is_opening_page, is_carried_page, on_image, is_outcome_of}
use Rattle.page.specs.Steps.{has_kind}
use Rattle.page.proofs.Rules.{Between, between_true, InBounds, in_bounds_lem}

-- the fields of a page of one kind that fits
pub record Fits (s : List ℕ) (place files : ℕ) (p : Page) (kind : ℕ) : Type 0 where
  pub bounds : InBounds (length s) place files
  pub fits_is : fits s place files ≡ true
  pub fields_are : p ≡ fields_of s
  pub kind_is : p.kind ≡ kind

abbrev pub Found : List ℕ → ℕ → ℕ → Unpacked → Type 0
Found s place files Refused = in_bounds (length s) place files ≡ false
Found s place files Blank = InBounds (length s) place files × (zeros s ≡ true)
Found s place files Torn = InBounds (length s) place files × (zeros s ≡ false) × (torn s ≡ true)
Found s place files (Opening p) = Fits s place files p 1
Found s place files (Image p) = Fits s place files p 2
Found s place files (Outcome p) = Fits s place files p 3
Found s place files Unfit = InBounds (length s) place files × (zeros s ≡ false) × (torn s ≡ false) × (fits s place files ≡ false)

fits_between : (s : List ℕ) (place files : ℕ) → fits s place files ≡ true
    → Between (fields_of s) (lowest (fields_of s).kind place) (highest (fields_of s).kind place files)
unfolding is_page_of meets_rules
fits_between s place files h = between_true _ _ _ (and_true _ _ (and_true _ _ h).0).0

kind_three : (s : List ℕ) (place files : ℕ) → fits s place files ≡ true → eqb (fields_of s).kind 1 ≡ false → eqb (fields_of s).kind 2 ≡ false → (fields_of s).kind ≡ 3
unfolding lowest highest
kind_three s place files h e1 e2 = let b = simp (e1, e2) at (fits_between s place files h).kind in omega arith

pub found : (s : List ℕ) (place files : ℕ) (u : Unpacked) → u ≡ tested s place files → Found s place files u
unfolding tested
found s place files u e =
    subst (Found s place files) (sym e)
    (go (in_bounds (length s) place files) (zeros s) (torn s) (fits s place files) (eqb (fields_of s).kind 1) (eqb (fields_of s).kind 2) refl refl refl refl refl refl)
  where
    go : (a z t f k1 k2 : Bool) → in_bounds (length s) place files ≡ a → zeros s ≡ z → torn s ≡ t → fits s place files ≡ f
        → eqb (fields_of s).kind 1 ≡ k1 → eqb (fields_of s).kind 2 ≡ k2
        → Found s place files (cond a (cond z Blank (cond t Torn (cond f (cond k1 (Opening (fields_of s)) (cond k2 (Image (fields_of s)) (Outcome (fields_of s)))) Unfit))) Refused)
    go false z t f k1 k2 ea ez et ef e1 e2 = ea
    go true true t f k1 k2 ea ez et ef e1 e2 = (in_bounds_lem _ _ _ ea, ez)
    go true false true f k1 k2 ea ez et ef e1 e2 = (in_bounds_lem _ _ _ ea, ez, et)
    go true false false false k1 k2 ea ez et ef e1 e2 = (in_bounds_lem _ _ _ ea, ez, et, ef)
    go true false false true true k2 ea ez et ef e1 e2 = record { bounds = in_bounds_lem _ _ _ ea; fits_is = ef; fields_are = refl; kind_is = eqb-true _ _ e1 }
    go true false false true false true ea ez et ef e1 e2 = record { bounds = in_bounds_lem _ _ _ ea; fits_is = ef; fields_are = refl; kind_is = eqb-true _ _ e2 }
    go true false false true false false ea ez et ef e1 e2 = record { bounds = in_bounds_lem _ _ _ ea; fits_is = ef; fields_are = refl; kind_is = kind_three s place files ef e1 e2 }

-- an answer with fields tells that the page fits
pub told_fits : (s : List ℕ) (place files : ℕ) → is_fit_page (tested s place files) ≡ true → InBounds (length s) place files × (fits s place files ≡ true)
told_fits s place files = go (tested s place files) (found s place files _ refl)
  where
    go : (u : Unpacked) → Found s place files u → is_fit_page u ≡ true → InBounds (length s) place files × (fits s place files ≡ true)
    go Refused f h = absurd (false≢true h)
    go Blank f h = absurd (false≢true h)
    go Torn f h = absurd (false≢true h)
    go (Opening p) f h = (f.bounds, f.fits_is)
    go (Image p) f h = (f.bounds, f.fits_is)
    go (Outcome p) f h = (f.bounds, f.fits_is)
    go Unfit f h = absurd (false≢true h)

-- ---- the numbers of a page that fits, by kind

pub record ImageIs (p : Page) (place files : ℕ) : Type 0 where
  pub kind : p.kind ≡ 2
  pub size : p.small ≤ value_size
  pub file : (1 ≤ p.file) × (p.file ≤ files)
  pub action : (1 ≤ p.action) × (p.action < place)
  pub link : p.link < place
  pub start : 1 ≤ p.start

pub record OutcomeIs (p : Page) (place : ℕ) : Type 0 where
  pub kind : p.kind ≡ 3
  pub verdict : (1 ≤ p.small) × (p.small ≤ 2)
  pub action : (1 ≤ p.action) × (p.action < place)
  pub rest : (p.file ≡ 0) × (p.link ≡ 0) × (p.start ≡ 0)

-- the ranges of the kind that was found
ranges : {s : List ℕ} {place files kind : ℕ} {p : Page} → Fits s place files p kind → Between p (lowest p.kind place) (highest p.kind place files)
ranges {s} {place} {files} h =
    subst (λ (x : Page). Between x (lowest x.kind place) (highest x.kind place files)) (sym h.fields_are) (fits_between s place files h.fits_is)

pub image_is : (s : List ℕ) (place files : ℕ) (p : Page) → Image p ≡ tested s place files → ImageIs p place files
unfolding lowest highest
image_is s place files p e =
    let h = found s place files (Image p) e in
    let k : p.kind ≡ 2 = h.kind_is in
    let b = simp (ne_eqb p.kind 1 (λ z. omega arith), eq-eqb p.kind 2 k) at (ranges h) in
    record { kind = k; size = omega arith; file = omega arith; action = omega (arith, h.bounds); link = omega (arith, h.bounds); start = omega arith }

pub outcome_is : (s : List ℕ) (place files : ℕ) (p : Page) → Outcome p ≡ tested s place files → OutcomeIs p place
unfolding lowest highest
outcome_is s place files p e =
    let h = found s place files (Outcome p) e in
    let k : p.kind ≡ 3 = h.kind_is in
    let b = simp (ne_eqb p.kind 1 (λ z. omega arith), ne_eqb p.kind 2 (λ z. omega arith)) at (ranges h) in
    record { kind = k; verdict = omega arith; action = omega (arith, h.bounds); rest = (omega arith, omega arith, omega arith) }

-- an opening has no choice but its small byte
pub record OpeningIs (p : Page) (place : ℕ) : Type 0 where
  pub small : p.small ≤ 1
  pub is : p ≡ opening_as p.small place

pub opening_is : (s : List ℕ) (place files : ℕ) (p : Page) → Opening p ≡ tested s place files → OpeningIs p place
unfolding lowest highest
opening_is s place files p e =
    let h = found s place files (Opening p) e in
    let k : p.kind ≡ 1 = h.kind_is in
    let b = simp (eq-eqb p.kind 1 k) at (ranges h) in
    let file : p.file ≡ 0 = omega arith in
    let action : p.action ≡ place = omega arith in
    let link : p.link ≡ 0 = omega arith in
    let start : p.start ≡ 0 = omega arith in
    record { small = omega arith; is = λ i. record { kind = k i; small = p.small; file = file i; action = action i; link = link i; start = start i } }

-- a carried opening is an opening with 1 in its small byte
pub carried_by_lem : (s : List ℕ) (place files : ℕ) → (eqb (get_or s small_at 0) 1 && is_opening_page (tested s place files)) ≡ is_carried_page (tested s place files)
unfolding is_opening_page is_carried_page fields_of
carried_by_lem s place files = go (tested s place files) (found s place files _ refl)
  where
    none : (eqb (get_or s small_at 0) 1 && false) ≡ false
    none = and_false (eqb (get_or s small_at 0) 1) false refl

    go : (u : Unpacked) → Found s place files u → (eqb (get_or s small_at 0) 1 && is_opening_page u) ≡ is_carried_page u
    go Refused f = none
    go Blank f = none
    go Torn f = none
    go (Opening p) f = and_end (eqb (get_or s small_at 0) 1) ∙ ap (λ (n : ℕ). eqb n 1) (sym (ap (λ (q : Page). q.small) f.fields_are ∙ number_byte s 1))
    go (Image p) f = none
    go (Outcome p) f = none
    go Unfit f = none

-- ---- what `let Unpacked::Image(p) = u else { .. }` tells in its else, or with an outcome: it is no such page

pub off_image : {A : Type 0} (u : Unpacked) (f : Page → A) (d : A) → ((p : Page) → u ≡ Image p → ⊥) → d ≡ on_image u f d
off_image Refused f d k = refl
off_image Blank f d k = refl
off_image Torn f d k = refl
off_image (Opening p) f d k = refl
off_image (Image p) f d k = absurd (k p refl)
off_image (Outcome p) f d k = refl
off_image Unfit f d k = refl

pub off_outcome : (a : ℕ) (u : Unpacked) → ((p : Page) → u ≡ Outcome p → ⊥) → false ≡ is_outcome_of a u
unfolding is_outcome_of
off_outcome a Refused k = refl
off_outcome a Blank k = refl
off_outcome a Torn k = refl
off_outcome a (Opening p) k = refl
off_outcome a (Image p) k = refl
off_outcome a (Outcome p) k = absurd (k p refl)
off_outcome a Unfit k = refl

-- ---- the size and the kind

pub kind_size : (s : List ℕ) (kind : ℕ) → has_kind s kind ≡ true → length s ≡ page_size
unfolding has_kind
kind_size s kind h = eqb-true (length s) page_size (and_true (eqb (length s) page_size) (eqb (fields_of s).kind kind) h).0

pub kind_of_lem : (s : List ℕ) (kind : ℕ) → has_kind s kind ≡ true → (fields_of s).kind ≡ kind
unfolding has_kind
kind_of_lem s kind h = eqb-true (fields_of s).kind kind (and_true (eqb (length s) page_size) (eqb (fields_of s).kind kind) h).1

pub fits_kind : {s : List ℕ} {place files kind : ℕ} {p : Page} → Fits s place files p kind → has_kind s kind ≡ true
unfolding has_kind
fits_kind {s} {kind = kind} h =
    and_both (eqb (length s) page_size) (eqb (fields_of s).kind kind) (eq-eqb (length s) page_size h.bounds.size_is)
    (eq-eqb (fields_of s).kind kind (ap (λ (x : Page). x.kind) (sym h.fields_are) ∙ h.kind_is))

-- ---- an answer with fields, where the page fits

module _ (s : List ℕ) (place files : ℕ) where
  pub told_fields : is_fit_page (tested s place files) ≡ true → tested s place files ≡ by_kind (fields_of s)
  unfolding tested
  told_fields = go (in_bounds (length s) place files) (zeros s) (torn s) (fits s place files)
    where
      answer : (a z t f : Bool) → Unpacked
      answer a z t f = cond a (cond z Blank (cond t Torn (cond f (by_kind (fields_of s)) Unfit))) Refused

      go : (a z t f : Bool) → is_fit_page (answer a z t f) ≡ true → answer a z t f ≡ by_kind (fields_of s)
      go false z t f h = absurd (false≢true h)
      go true true t f h = absurd (false≢true h)
      go true false true f h = absurd (false≢true h)
      go true false false true h = refl
      go true false false false h = absurd (false≢true h)

  pub told_image : has_kind s 2 ≡ true → is_fit_page (tested s place files) ≡ true → Image (fields_of s) ≡ tested s place files
  told_image k h = let e : (fields_of s).kind ≡ 2 = kind_of_lem s 2 k in sym (told_fields h ∙ rw e)

  -- ---- an outcome of an action, by its fields

  module _ (a : ℕ) where
    -- a part that does not have its kind or its action is none
    pub no_outcome : (has_kind s 3 ≡ true → (fields_of s).action ≡ a → ⊥) → false ≡ is_outcome_of a (tested s place files)
    unfolding is_outcome_of
    no_outcome h = go (tested s place files) refl
      where
        go : (u : Unpacked) → u ≡ tested s place files → false ≡ is_outcome_of a u
        go Refused e = refl
        go Blank e = refl
        go Torn e = refl
        go (Opening p) e = refl
        go (Image p) e = refl
        go Unfit e = refl
        go (Outcome p) e =
            let f = found s place files (Outcome p) e in
            sym (ne_eqb p.action a (λ z. h (fits_kind f) (ap (λ (x : Page). x.action) (sym f.fields_are) ∙ z)))
