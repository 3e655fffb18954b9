-- Each contract of the page layer allows one outcome; and an answer's number and values tell it from every other. Assumes nothing.
use Prim.Native.Nat.{ℕ}
use mathlib.Core.Path.{◌≡◌, refl, sym, ap, ap₂, ◌∙◌}
use mathlib.Core.Bool.{cond}
use mathlib.Core.List.{List}
use native.Mathlib.Omega.{arith}
use borrow.Author.Tests.{eq-eqb, ne_eqb}
use lib.Dec.{eqb}
use lib.ListN.{get_or}
use Rattle.page.specs.declared.Page.{Page}
use Rattle.page.specs.declared.Unpacked.{Unpacked}
use Rattle.page.specs.declared.Unpacked.TheVariants.{Refused, Blank, Torn, Opening, Image, Outcome, Unfit}
use Rattle.page.specs.declared.PackError as pack_error
use Rattle.page.specs.declared.PackError.{PackError}
use Rattle.std.specs.Prelude.{Result, Ok, Err}
use Rattle.page.specs.Answers.{by_kind, tested, test_number, test_values, packs, pack_number}
use Rattle.page.proofs.Found.{Found, found}

-- a contract that is an equation allows one outcome
once : {A : Type 0} {x y z : A} → x ≡ z → y ≡ z → x ≡ y
once e f = e ∙ sym f

pub test_once : (s : List ℕ) (place files : ℕ) {r r' : Unpacked} → r ≡ tested s place files → r' ≡ tested s place files → r ≡ r'
test_once s place files = once

pub pack_once : (p : Page) (value : List ℕ) (place files : ℕ) (out : List ℕ) {r r' : Result (Unit {0}) PackError} {left left' : List ℕ}
    → (r, left) ≡ packs p value place files out → (r', left') ≡ packs p value place files out → (r ≡ r') × (left ≡ left')
pack_once p value place files out e f = (ap (λ (x : Result (Unit {0}) PackError × List ℕ). x.0) (once e f), ap (λ (x : Result (Unit {0}) PackError × List ℕ). x.1) (once e f))

-- ---- an answer is found again from its number and values

packed_as : ℕ → Result (Unit {0}) PackError
packed_as n = cond (eqb n 0) (Ok tt) (cond (eqb n 1) (Err pack_error.PackError.OutOfBounds) (Err pack_error.PackError.Unfit))

unpacked_as : ℕ → List ℕ → Unpacked
unpacked_as n v =
    cond (eqb n 1) Refused
    (cond (eqb n 2) Unfit
    (cond (eqb n 3) Blank
    (cond (eqb n 4) Torn
    (by_kind (record { kind = get_or v 0 0; small = get_or v 1 0; file = get_or v 2 0; action = get_or v 3 0; link = get_or v 4 0; start = get_or v 5 0 })))))

packed_again : (r : Result (Unit {0}) PackError) → packed_as (pack_number r) ≡ r
unfolding packed_as
packed_again (Ok tt) = refl
packed_again (Err pack_error.PackError.OutOfBounds) = refl
packed_again (Err pack_error.PackError.Unfit) = refl

pub pack_number_once : {r r' : Result (Unit {0}) PackError} → pack_number r ≡ pack_number r' → r ≡ r'
pack_number_once {r} {r'} e = sym (packed_again r) ∙ ap packed_as e ∙ packed_again r'

unpacked_again : (s : List ℕ) (place files : ℕ) (u : Unpacked) → Found s place files u → unpacked_as (test_number u) (test_values u) ≡ u
unfolding unpacked_as
unpacked_again s place files Refused h = refl
unpacked_again s place files Blank h = refl
unpacked_again s place files Torn h = refl
unpacked_again s place files (Opening p) h = simp (eq-eqb p.kind 1 h.kind_is)
unpacked_again s place files (Image p) h = let k : p.kind ≡ 2 = h.kind_is in simp (ne_eqb p.kind 1 (λ z. omega arith), eq-eqb p.kind 2 k)
unpacked_again s place files (Outcome p) h = let k : p.kind ≡ 3 = h.kind_is in simp (ne_eqb p.kind 1 (λ z. omega arith), ne_eqb p.kind 2 (λ z. omega arith))
unpacked_again s place files Unfit h = refl

pub test_numbers_once : (s t : List ℕ) (place place' files files' : ℕ)
    → test_number (tested s place files) ≡ test_number (tested t place' files') → test_values (tested s place files) ≡ test_values (tested t place' files')
    → tested s place files ≡ tested t place' files'
test_numbers_once s t place place' files files' e f =
    sym (unpacked_again s place files _ (found s place files _ refl)) ∙ ap₂ unpacked_as e f ∙ unpacked_again t place' files' _ (found t place' files' _ refl)
