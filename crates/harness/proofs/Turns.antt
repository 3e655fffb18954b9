-- One turn of the timed loops. Assumes nothing.
use Prim.Native.Nat.{ℕ, ◌+◌, ◌-◌, ◌*◌, ◌≤◌}
use mathlib.Core.Path.{◌≡◌, refl, ap, ap₂, ◌∙◌}
use native.Mathlib.Omega.{arith}
use native.Mathlib.Numerals.{add-one}
use mathlib.Core.Bool.{Bool, true, false, cond}
use mathlib.Core.List.{List}
use Rattle.page.specs.declared.Page.{Page}
use Rattle.page.specs.declared.PackError as pack_error
use Rattle.page.specs.declared.PackError.{PackError}
use Rattle.std.specs.Prelude.{Result, Ok, Err}
use Rattle.page.specs.Layout.{page_size}
use Rattle.page.specs.Table.{image}
use Rattle.page.specs.Answers.{packs}
use Rattle.calls.proofs.Appends.{put_page}
use borrow.Rule.Slice.PartMut.{put_mid}
use mir.Val.{bool_byte}
use Rattle.std.specs.Result.{is_ok}
use Rattle.harness.specs.Counts.{page_at, written, counted, packed_into, packed_to}

pub start : (f : ℕ → ℕ) → 0 ≡ counted f 0
unfolding counted
start f = refl

pub turn : (f : ℕ → ℕ) (i count x : ℕ) → count ≡ counted f i → x ≡ f i → count + x ≡ counted f (i + 1)
unfolding counted
turn f i count x e h = rw (add-one i) (ap₂ ◌+◌ e h)

-- a test as a number
pub bit_le : (b : Bool) (x : ℕ) → x ≡ bool_byte b → x ≤ 1
bit_le true x e = omega arith
bit_le false x e = omega arith

pub bit_is : (b : Bool) (x y : ℕ) → x ≡ bool_byte b → cond b 1 0 ≡ y → x ≡ y
bit_is true x y e h = e ∙ h
bit_is false x y e h = e ∙ h

pub written_is : (r : Result (Unit {0}) PackError) (b : Bool) → b ≡ is_ok r → cond b 1 0 ≡ written r
written_is (Ok tt) b e = rw e
written_is (Err pack_error.PackError.OutOfBounds) b e = rw e
written_is (Err pack_error.PackError.Unfit) b e = rw e

-- no page packed, and one more
pub pack_start : (size files : ℕ) (value s : List ℕ) → ◌≡◌ {A = ℕ × List ℕ} (0, s) (packed_to size value files s 0)
unfolding packed_to
pack_start size files value s = refl

pub pack_turn : (size files i count x : ℕ) (value s sheet left : List ℕ) (p : Page) (r : Result (Unit {0}) PackError) → ◌≡◌ {A = ℕ × List ℕ} (count, sheet) (packed_to size value files s i)
    → p ≡ image size 1 1 0 (i + 1) → ◌≡◌ {A = Result (Unit {0}) PackError × List ℕ} (r, left) (packs p value (i + 1) files (page_at sheet i)) → x ≡ written r
    → ◌≡◌ {A = ℕ × List ℕ} (count + x, put_mid (page_size * i) (page_size * i + page_size - page_size * i) sheet left) (packed_to size value files s (i + 1))
unfolding packed_to
pack_turn size files i count x value s sheet left p r h e q k =
    rw (add-one i)
    ((λ j. (count + k j, put_page sheet i left j))
    ∙ ap (packed_into i (count, sheet)) (q ∙ ap (λ z. packs z value (i + 1) files (page_at sheet i)) e)
    ∙ ap (λ (z : ℕ × List ℕ). packed_into i z (packs (image size 1 1 0 (i + 1)) value (i + 1) files (page_at z.1 i))) h)
