-- The pages of a move as bytes: each obeys the rules at its place, and the page test on its bytes, or on the first of them over zeros, says
-- what was stored. Assumes nothing.
use Prim.Native.Nat.{ℕ, ◌-◌, ◌^◌, ◌≤◌, ◌<◌}
use mathlib.Core.Path.{◌≡◌, refl, sym, ap, ◌∙◌}
use mathlib.Core.Bool.{Bool, true, false, cond}
use native.Mathlib.Omega.{arith}
use lib.ListN.{length, take, replicate, length-append, length-replicate}
use lib.Seq.{take_at}
use lib.Dec.{eqb, ltb}
use borrow.Author.Tests.{ltb-false}
use Rattle.page.specs.declared.Unpacked.TheVariants.{Blank, Torn}
use Rattle.page.specs.Layout.{page_size, value_size}
use Rattle.page.specs.Table.{meets_rules, value_of}
use Rattle.page.specs.Answers.{tested, by_kind, cut}
use Rattle.page.proofs.Rules.{InBounds, are_in_bounds}
use Rattle.page.proofs.RoundTrip.{value_back, cut_tested, cut_whole}
use Rattle.page.proofs.Obeyed.{opening_rules, image_rules, outcome_rules}
use Rattle.recovery.specs.Log.{Image, Entry, blank, torn, opening, image, outcome}
use Rattle.recovery.specs.Sheet.{entry_of, is_opening, seal}
use Rattle.calls.specs.Leaves.{padded, fields_at, value_at, packed_entry}
use Rattle.calls.proofs.WritePads.{pad_zeros}
use Rattle.moving.specs.Moved.{carried}
use Rattle.moving.proofs.StoredPages.{entry_long}

-- the ranges of an image that the page test lets through
pub record ImageFine (files : ℕ) (i : Image) : Type 0 where
  pub file : (1 ≤ i.file) × (i.file ≤ files)
  pub action : 1 ≤ i.action
  pub start : (1 ≤ i.start) × (i.start < 2 ^ 64)
  pub short : length i.value ≤ value_size

-- an entry whose page obeys the rules at a place, and is read back
pub record PageFits (files p : ℕ) (g : Entry) : Type 0 where
  pub long : length (value_at g) ≡ value_size
  pub rules : meets_rules (fields_at p g) (value_at g) p files ≡ true
  pub back : entry_of (packed_entry p g) (by_kind (fields_at p g)) ≡ g

-- an entry that is sealed if place 1 is an opening
abbrev pub Seals : Entry → Type 0
Seals g = (r : ℕ → Entry) → is_opening (r 1) ≡ true → seal r g ≡ g

module _ (files p : ℕ) where
  pub opening_fits : PageFits files p (opening true)
  opening_fits = record { long = length-replicate {A = ℕ} value_size 0; rules = opening_rules 1 p files (omega arith); back = refl }

  pub outcome_fits : 2 ≤ p → PageFits files p (outcome 1 true)
  outcome_fits h = record {
    long = length-replicate {A = ℕ} value_size 0;
    rules = outcome_rules 1 1 p files (omega arith) (omega arith) (omega arith) (omega arith);
    back = refl;
  }

  module _ (i : Image) (k : ImageFine files i) where
    padded_long : length (padded i.value) ≡ value_size
    padded_long = simp (length-append, length-replicate) (omega (arith, k.short))

    value_is : value_of (packed_entry p (image (carried i))) ≡ padded i.value
    unfolding packed_entry
    value_is = value_back (fields_at p (image (carried i))) (padded i.value) p padded_long

    pub image_fits_lem : 2 ≤ p → PageFits files p (image (carried i))
    image_fits_lem h = record {
      long = padded_long;
      rules = image_rules (length i.value) i.file 1 0 i.start p files (padded i.value) k.short k.file.0 k.file.1 (omega arith) (omega arith) (omega arith)
          k.start.0
          k.start.1
          (pad_zeros i.value);
      back =
          let e : take (length i.value) (value_of (packed_entry p (image (carried i)))) ≡ i.value =
          ap (take (length i.value)) value_is ∙ take_at i.value (replicate (value_size - length i.value) 0) (length i.value) refl in
          λ j. image (record { file = i.file; action = 1; link = 0; start = i.start; value = e j });
    }

pub opening_seals : Seals (opening true)
opening_seals r h = refl

pub outcome_seals : Seals (outcome 1 true)
outcome_seals r h = rw h

pub image_seals : (i : Image) → Seals (image (carried i))
image_seals i r h = rw h

-- the page of an entry when m of its bytes are stored over zeros
abbrev pub partial : ℕ → Entry → Entry
partial m g = cond (eqb m 0) blank (cond (ltb m page_size) torn g)

pub zero_read : (files p : ℕ) → InBounds page_size p files → entry_of (replicate page_size 0) (tested (replicate page_size 0) p files) ≡ blank
unfolding tested
zero_read files p b = rw (length-replicate {A = ℕ} page_size 0, are_in_bounds b)

module _ (files p : ℕ) (g : Entry) (k : PageFits files p g) where
  pub entry_size : length (packed_entry p g) ≡ page_size
  entry_size = entry_long p g k.long

  pub partly_read : InBounds page_size p files → (m : ℕ) → m ≤ page_size
      → entry_of (cut m (packed_entry p g)) (tested (cut m (packed_entry p g)) p files) ≡ partial m g
  unfolding packed_entry
  partly_read b m h = ap (entry_of (cut m (packed_entry p g))) (cut_tested (fields_at p g) (value_at g) p files k.long b k.rules m h) ∙ go (eqb m 0) (ltb m page_size) refl
    where
      go : (x y : Bool) → ltb m page_size ≡ y → entry_of (cut m (packed_entry p g)) (cond x Blank (cond y Torn (by_kind (fields_at p g)))) ≡ cond x blank (cond y torn g)
      go true y e = refl
      go false true e = refl
      go false false e =
          let z : m ≡ length (packed_entry p g) = omega (arith, ltb-false m page_size e, entry_size) in
          rw (cut_whole m (packed_entry p g) z) k.back

  -- all of it
  pub whole_read : InBounds page_size p files → entry_of (packed_entry p g) (tested (packed_entry p g) p files) ≡ g
  whole_read b = rw (cut_whole page_size (packed_entry p g) (sym entry_size)) at (partly_read b page_size (omega arith))
