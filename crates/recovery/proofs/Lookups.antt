-- Look-ups that take every number: a page's kind at a place, a fate, a file's row. Assumes nothing.
use Prim.Native.Nat.{ℕ, zero, suc, pred, ◌-◌, ◌/◌, ◌≤◌, ◌<◌}
use mathlib.Core.Path.{◌≡◌, refl, sym, ap, ◌∙◌}
use mathlib.Core.Bool.{Bool, true, false, ◌&&◌, false≢true}
use mathlib.Core.List.{List}
use native.Mathlib.Omega.{arith}
use native.Mathlib.Numerals.{sub-one}
use borrow.Author.Tests.{leb-true, leb-false}
use lib.Dec.{leb}
use lib.ListN.{length, get_or-eq_default}
use Rattle.encoding.proofs.Logic.{and_true}
use Rattle.page.specs.declared.Unpacked.{Unpacked}
use Rattle.page.specs.declared.Unpacked.TheVariants.{Refused, Blank, Torn, Opening, Image, Outcome, Unfit}
use Rattle.page.specs.Layout.{page_size}
use Rattle.page.specs.Answers.{tested, is_opening_page, is_carried_page}
use Rattle.recovery.specs.Places.{nth}
use Rattle.recovery.specs.Sheet.{page_bytes, entry_of, is_opening, decoded}
use Rattle.recovery.specs.World.{cold, is_file, is_carried}
use Rattle.recovery.specs.Lent.{row_length, row_from, rows_of, put_row}
use Rattle.recovery.specs.Steps.{row_of, with_row_of}
use Rattle.recovery.specs.declared.Row.{Row}
use Rattle.recovery.proofs.Pages.{test_out, decoded_is}
use Rattle.recovery.proofs.Places.{get_d_tabulate_out}
use Rattle.recovery.proofs.FlatRows.{row_at_lem}

-- ---- an opening at a place

opening_entry : (b : List ℕ) (u : Unpacked) → is_opening_page u ≡ is_opening (entry_of b u)
unfolding is_opening_page
opening_entry b Refused = refl
opening_entry b Blank = refl
opening_entry b Torn = refl
opening_entry b (Opening x) = refl
opening_entry b (Image x) = refl
opening_entry b (Outcome x) = refl
opening_entry b Unfit = refl

carried_entry : (b : List ℕ) (u : Unpacked) → is_carried_page u ≡ is_carried (entry_of b u)
unfolding is_carried_page
carried_entry b Refused = refl
carried_entry b Blank = refl
carried_entry b Torn = refl
carried_entry b (Opening x) = refl
carried_entry b (Image x) = refl
carried_entry b (Outcome x) = refl
carried_entry b Unfit = refl

pub carried_decoded : (s : List ℕ) (p files : ℕ) → is_carried_page (tested (page_bytes s p) p files) ≡ is_carried (decoded files s p)
unfolding decoded
carried_decoded s p files = carried_entry (page_bytes s p) (tested (page_bytes s p) p files)

pub opening_decoded : (s : List ℕ) (p files : ℕ) → is_opening_page (tested (page_bytes s p) p files) ≡ is_opening (decoded files s p)
unfolding decoded
opening_decoded s p files = opening_entry (page_bytes s p) (tested (page_bytes s p) p files)

-- an opening lies on the sheet
pub opening_low : (s : List ℕ) (p files : ℕ) → is_opening (decoded files s p) ≡ true → p ≤ length s / page_size
opening_low s p files h = go (leb p (length s / page_size)) refl
  where
    go : (b : Bool) → leb p (length s / page_size) ≡ b → p ≤ length s / page_size
    go true e = leb-true p (length s / page_size) e
    go false e =
        let out : Refused ≡ tested (page_bytes s p) p files = test_out s p files (λ k l. omega (arith, leb-false p (length s / page_size) e)) in
        absurd (false≢true (ap is_opening (decoded_is s p files Refused out) ∙ h))

-- ---- an element at a place

pub nth_past : {A : Type 0} (d : A) (l : List A) (p : ℕ) → length l < p → d ≡ nth d l p
nth_past d l zero h = refl
nth_past d l (suc p) h = sym (get_or-eq_default l d (omega arith))

-- ---- a file's row

pub is_file_lem : (n f : ℕ) → is_file n f ≡ true → (1 ≤ f) × (f ≤ n)
is_file_lem n f e = let h = and_true (leb 1 f) (leb f n) e in (leb-true 1 f h.0, leb-true f n h.1)

no_row : (rows : List ℕ) (f : ℕ) → (b : Bool) → leb 1 f ≡ b → (b && leb f (length rows / row_length)) ≡ false → cold ≡ nth cold (rows_of rows) f
unfolding rows_of
no_row rows zero b e h = refl
no_row rows (suc f) true e h = sym (get_d_tabulate_out (λ g. row_from rows (pred g)) 0 (length rows / row_length) f cold (omega (arith, leb-false (suc f) (length rows / row_length) h)))
no_row rows (suc f) false e h = absurd (omega (arith, leb-false 1 (suc f) e))

pub row_none : (rows : List ℕ) (f : ℕ) → is_file (length rows / row_length) f ≡ false → cold ≡ row_of rows f
unfolding row_of
row_none rows f h = no_row rows f (leb 1 f) refl h

pub row_some : (rows : List ℕ) (f : ℕ) → is_file (length rows / row_length) f ≡ true → row_from rows (f - 1) ≡ row_of rows f
unfolding row_of
row_some rows zero h = let q = is_file_lem (length rows / row_length) 0 h in absurd (omega arith)
row_some rows (suc f) h = let q = is_file_lem (length rows / row_length) (suc f) h in rw sub-one (sym (row_at_lem rows (suc f) q.0 q.1))

pub set_none : (rows : List ℕ) (f : ℕ) (r : Row) → is_file (length rows / row_length) f ≡ false → rows ≡ with_row_of rows f r
unfolding with_row_of
set_none rows f r h = simp h

pub set_some : (rows : List ℕ) (f : ℕ) (r : Row) → is_file (length rows / row_length) f ≡ true → put_row rows (f - 1) r ≡ with_row_of rows f r
unfolding with_row_of
set_some rows zero r h = let q = is_file_lem (length rows / row_length) 0 h in absurd (omega arith)
set_some rows (suc f) r h = simp (h, sub-one)
