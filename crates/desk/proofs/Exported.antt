-- What the functions for C leave, in the shape of their contracts.
use Prim.Native.Nat.{ℕ}
use mathlib.Core.Path.{◌≡◌, sym, ap, ap₂, ◌∙◌, refl}
use mathlib.Core.List.{List}
use mathlib.Core.Bool.{cond}
use Rattle.std.proofs.Common.{Result}
use lib.ListN.{length}
use lib.Dec.{eqb}
use borrow.Author.Tests.{eq-eqb, ne_eqb}
use Rattle.page.specs.declared.Page.{Page}
use Rattle.page.specs.declared.PackError.{PackError}
use Rattle.page.specs.declared.Unpacked.{Unpacked}
use Rattle.page.specs.Layout.{value_size}
use Rattle.page.specs.Answers.{packs, pack_number, tested, test_number, test_values}
use Rattle.inspection.specs.declared.InspectError.{InspectError}
use Rattle.std.specs.Prelude.{Result, Ok, Err}
use Rattle.std.specs.Result.{result_unwrap_or}
use Rattle.inspection.specs.Inspected.{inspected, inspect_number, inspect_place}
use Rattle.weeks.specs.declared.Refusal.{Refusal}
use Rattle.weeks.specs.Answers.{week_test, converted, test_code, conversion_code}
use Rattle.desk.specs.Exports.{field_count, numbered, packed_for, fields_given, tested_for, refusal_number, inspected_for, week_tested_for, converted_for}

-- ---- the page test

pub test_refused : (part : List ℕ) (place files : ℕ) (fields : List ℕ) → (length fields ≡ field_count → ⊥) → ◌≡◌ {A = ℕ × List ℕ} (1, fields) (tested_for part place files fields)
unfolding tested_for
test_refused part place files fields h = rw (ne_eqb (length fields) field_count h)

pub test_given : (part : List ℕ) (place files : ℕ) (fields left : List ℕ) (r : ℕ) (u : Unpacked) → length fields ≡ field_count → u ≡ tested part place files
    → ◌≡◌ {A = ℕ × List ℕ} (r, left) (fields_given u fields) → ◌≡◌ {A = ℕ × List ℕ} (r, left) (tested_for part place files fields)
unfolding tested_for
test_given part place files fields left r u l e h = rw (eq-eqb (length fields) field_count l) (h ∙ ap (λ x. fields_given x fields) e)

-- ---- pack

pub pack_refused : (p : Page) (value : List ℕ) (place files : ℕ) (out : List ℕ) → (length value ≡ value_size → ⊥) → ◌≡◌ {A = ℕ × List ℕ} (1, out) (packed_for p value place files out)
unfolding packed_for
pack_refused p value place files out h = rw (ne_eqb (length value) value_size h)

pub pack_left : (p : Page) (value bytes zeros : List ℕ) (place files : ℕ) (out left : List ℕ) (a : Result (Unit {0}) PackError) (r : ℕ) → length value ≡ value_size → length zeros ≡ value_size
    → bytes ≡ cond (eqb (length zeros) (length value)) value zeros → ◌≡◌ {A = Result (Unit {0}) PackError × List ℕ} (a, left) (packs p bytes place files out) → r ≡ pack_number a
    → ◌≡◌ {A = ℕ × List ℕ} (r, left) (packed_for p value place files out)
unfolding packed_for
pack_left p value bytes zeros place files out left a r l z b h n =
    let c : bytes ≡ value = b ∙ ap (λ t. cond t value zeros) (eq-eqb (length zeros) (length value) (z ∙ sym l)) in
    let k : ◌≡◌ {A = Result (Unit {0}) PackError × List ℕ} (a, left) (packs p value place files out) = h ∙ ap (λ v. packs p v place files out) c in
    rw (eq-eqb (length value) value_size l) (ap (λ x. (x, left)) n ∙ ap numbered k)

-- ---- inspection

-- the answer in one number
told_is : (a : Result ℕ InspectError) → cond (eqb (inspect_number a) 0) (inspect_place a) refusal_number ≡ result_unwrap_or a refusal_number
told_is (Ok p) = refl
told_is (Err e) = refl

pub inspect_told : (s : List ℕ) (files n : ℕ) (a : Result ℕ InspectError) → a ≡ inspected s files → n ≡ result_unwrap_or a refusal_number → n ≡ inspected_for s files
unfolding inspected_for
inspect_told s files n a e h = h ∙ sym (told_is a) ∙ ap (λ (x : Result ℕ InspectError). cond (eqb (inspect_number x) 0) (inspect_place x) refusal_number) e

-- ---- weeks

pub week_told : (s : List ℕ) (a v : Result ℕ Refusal) → a ≡ week_test s → a ≡ v → test_code v ≡ week_tested_for s
unfolding week_tested_for
week_told s a v e h = ap test_code (sym h ∙ e)

pub convert_told : (s : List ℕ) (m : ℕ) (out left : List ℕ) (a v : Result (Unit {0}) Refusal) → ◌≡◌ {A = Result (Unit {0}) Refusal × List ℕ} (a, left) (converted s m out)
    → a ≡ v → {n : ℕ} → n ≡ conversion_code v → ◌≡◌ {A = ℕ × List ℕ} (n, left) (converted_for s m out)
unfolding converted_for
convert_told s m out left a v e h i = ap₂ (λ (k : ℕ) (t : List ℕ). (k, t)) (i ∙ ap conversion_code (sym h) ∙ ap (λ x. conversion_code x.0) e) (ap (λ x. x.1) e)
