-- A page that fits, of what the page test says: for another file count it is the same, unfit or refused; with one byte spoiled it is torn
-- where byte 63 became 0, else unfit, for every file count. Assumes nothing.
use Prim.Native.Nat.{ℕ, ◌≤◌, ◌<◌}
use mathlib.Core.Path.{◌≡◌, refl, sym, ap, ◌∙◌, subst}
use mathlib.Core.Bool.{Bool, true, false, cond}
use mathlib.Core.List.{List}
use native.Mathlib.Omega.{arith}
use borrow.Author.Tests.{eqb-true, eqb-false}
use lib.Dec.{eqb}
use lib.ListN.{length, get_or, set, length-set}
use lib.Seq.{get_or-set_same, get_or-set_other}
use Rattle.encoding.proofs.Logic.{is_false, and_true}
use Rattle.encoding.proofs.Numbers.{number_byte}
use Rattle.page.specs.declared.Unpacked.TheVariants.{Refused, Torn, Unfit}
use Rattle.page.specs.Layout.{kind_at, mark_at, page_size, end_mark}
use Rattle.page.specs.Table.{fields_of, value_of, meets_rules, is_page_of, fits}
use Rattle.page.specs.Answers.{in_bounds, tested, is_fit_page}
use Rattle.page.proofs.Rules.{InBounds}
use Rattle.page.proofs.OneByte.{fits_marked, one_byte}
use Rattle.page.proofs.RoundTrip.{ruled, torn_tested}
use Rattle.page.proofs.Quick.{marked_tested}
use Rattle.page.proofs.Found.{told_fits, told_fields}

module _ (s : List ℕ) (place files : ℕ) (h : is_fit_page (tested s place files) ≡ true) where
  long : length s ≡ page_size
  long = (told_fits s place files h).0.size_is

  fit : fits s place files ≡ true
  fit = (told_fits s place files h).1

  kind_is : (1 ≤ get_or s kind_at 0) × (get_or s kind_at 0 ≤ 3)
  unfolding is_page_of fields_of
  kind_is =
      let q : InBounds page_size place files = subst (λ (n : ℕ). InBounds n place files) long (told_fits s place files h).0 in
      let k = (ruled (fields_of s) (value_of s) place files q (and_true (meets_rules (fields_of s) (value_of s) place files) _ fit).0).kind in
      let b = number_byte s kind_at in
      (omega arith, omega arith)

  mark_is : get_or s mark_at 0 ≡ end_mark
  mark_is = fits_marked s place files fit long

  -- for another file count it is the same page, or none
  pub other_count : (files' : ℕ) → tested s place files' ≡ cond (in_bounds (length s) place files') (cond (fits s place files') (tested s place files) Unfit) Refused
  unfolding tested
  other_count files' = go (in_bounds (length s) place files') refl
    where
      go : (b : Bool) → in_bounds (length s) place files' ≡ b → tested s place files' ≡ cond b (cond (fits s place files') (tested s place files) Unfit) Refused
      go true e = marked_tested s place files' e (λ z. omega (arith, mark_is)) ∙ rw (told_fields s place files h)
      go false e = rw e

  module _ (files' : ℕ) (b : in_bounds (length s) place files' ≡ true) where
    still : (i v : ℕ) → in_bounds (length (set s i v)) place files' ≡ true
    still i v = ap (λ (n : ℕ). in_bounds n place files') (length-set s i v) ∙ b

    pub mark_zeroed : tested (set s mark_at 0) place files' ≡ Torn
    mark_zeroed =
        let same : get_or (set s mark_at 0) kind_at 0 ≡ get_or s kind_at 0 = get_or-set_other s mark_at kind_at 0 0 (λ y. omega arith) in
        torn_tested (set s mark_at 0) place files' (still mark_at 0) (omega (arith, kind_is)) (omega (arith, kind_is)) (get_or-set_same s mark_at 0 0 (omega (arith, long)))

    module _ (i v : ℕ) (inside : i < page_size) (old : get_or s i 0 < 256) (new : v < 256) (other : v ≡ get_or s i 0 → ⊥) where
      -- byte 63 afterwards, if it did not become 0
      marked : (i ≡ mark_at → v ≡ 0 → ⊥) → get_or (set s i v) mark_at 0 ≡ 0 → ⊥
      marked n z = go (eqb i mark_at) refl
        where
          go : (t : Bool) → eqb i mark_at ≡ t → ⊥
          go true e =
              let here : i ≡ mark_at = eqb-true i mark_at e in
              n here (sym (get_or-set_same s i v 0 (omega (arith, long))) ∙ ap (λ (k : ℕ). get_or (set s i v) k 0) here ∙ z)
          go false e =
              let same : get_or (set s i v) mark_at 0 ≡ get_or s mark_at 0 = get_or-set_other s i mark_at v 0 (λ y. eqb-false i mark_at e (sym y)) in
              omega (arith, mark_is)

      pub spoiled_unfit : (i ≡ mark_at → v ≡ 0 → ⊥) → tested (set s i v) place files' ≡ Unfit
      spoiled_unfit n =
          let no : fits (set s i v) place files' ≡ false = is_false _ (λ k. other (one_byte s place files files' i v long inside old new fit k)) in
          marked_tested (set s i v) place files' (still i v) (marked n) ∙ rw no
