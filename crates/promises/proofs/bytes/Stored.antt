-- What the page test says of a page that a call appends, when all of its bytes are stored, or some, or none.
use Prim.Native.Nat.{ℕ, ◌-◌, ◌^◌, ◌≤◌, ◌<◌}
use mathlib.Core.Path.{◌≡◌, refl, sym, ap, ◌∙◌}
use mathlib.Core.List.{List}
use mathlib.Core.Bool.{Bool, true, false, cond}
use native.Mathlib.Omega.{arith}
use lib.ListN.{length, take, replicate, length-append, length-replicate}
use lib.Seq.{take_at}
use lib.Dec.{eqb, ltb}
use Rattle.page.specs.declared.Unpacked.TheVariants.{Blank, Torn}
use Rattle.page.specs.Layout.{page_size, value_size, most_places, most_files, kind_at, mark_at}
use Rattle.page.specs.Table.{meets_rules, value_of}
use Rattle.page.specs.Answers.{tested, by_kind}
use Rattle.page.proofs.Rules.{InBounds}
use Rattle.page.proofs.RoundTrip.{length_packed, value_back}
use Rattle.page.proofs.Obeyed.{opening_rules, image_rules, outcome_rules}
use Rattle.recovery.specs.Log.{Image, Entry, blank, torn, bad, opening, image, outcome}
use Rattle.recovery.specs.Sheet.{entry_of}
use Rattle.calls.specs.Leaves.{padded, fields_at, value_at, packed_entry}
use Rattle.calls.proofs.WritePads.{pad_zeros}
use Rattle.calls.specs.Cuts.{mixed}
use Rattle.promises.proofs.bytes.Mixed.{mixed_all, any_cut_tested}
use Rattle.promises.specs.Runs.{Ordered}

-- an entry whose page obeys the rules of its kind at a place
pub record ImageFitting (files p : ℕ) (i : Image) : Type 0 where
  pub file_low : 1 ≤ i.file
  pub file_high : i.file ≤ files
  pub action_low : 1 ≤ i.action
  pub action_high : i.action < p
  pub link_high : i.link < p
  pub start_low : 1 ≤ i.start
  pub start_high : i.start < 2 ^ 64
  pub short : length i.value ≤ value_size

abbrev pub Fitting : ℕ → ℕ → Entry → Type 0
Fitting files p blank = ⊥
Fitting files p torn = ⊥
Fitting files p bad = ⊥
Fitting files p (opening k) = Unit {0}
Fitting files p (image i) = ImageFitting files p i
Fitting files p (outcome a c) = (1 ≤ a) × (a < p)

-- a number for the bytes that are stored: 0 for none, 64 for all, 1 for some
abbrev pub bytes_of : (ℕ → Bool) → ℕ
bytes_of kept = cond (kept kind_at) (cond (kept mark_at) page_size 1) 0

-- the page of an entry when n of its bytes are stored
abbrev pub partial : ℕ → Entry → Entry
partial n g = cond (eqb n 0) blank (cond (ltb n page_size) torn g)

module _ (files p : ℕ) where
  value_long : (g : Entry) → Fitting files p g → length (value_at g) ≡ value_size
  value_long blank h = absurd h
  value_long torn h = absurd h
  value_long bad h = absurd h
  value_long (opening k) h = refl
  value_long (image i) h = simp (length-append, length-replicate) (omega (arith, h.short))
  value_long (outcome a c) h = refl

  rules : (g : Entry) → Fitting files p g → meets_rules (fields_at p g) (value_at g) p files ≡ true
  rules blank h = absurd h
  rules torn h = absurd h
  rules bad h = absurd h
  rules (opening true) h = opening_rules 1 p files (omega arith)
  rules (opening false) h = opening_rules 0 p files (omega arith)
  rules (image i) h =
      image_rules (length i.value) i.file i.action i.link i.start p files (padded i.value)
      h.short h.file_low h.file_high h.action_low h.action_high h.link_high h.start_low h.start_high (pad_zeros i.value)
  rules (outcome a true) h = outcome_rules a 1 p files h.0 h.1 (omega arith) (omega arith)
  rules (outcome a false) h = outcome_rules a 2 p files h.0 h.1 (omega arith) (omega arith)

  pub entry_long : (g : Entry) → Fitting files p g → length (packed_entry p g) ≡ page_size
  unfolding packed_entry
  entry_long g h = length_packed (fields_at p g) (value_at g) p (value_long g h)

  module _ (low : 1 ≤ p) (high : p ≤ most_places) (some : 1 ≤ files) (few : files ≤ most_files) where
    bounds : InBounds page_size p files
    bounds = record { size_is = refl; place_is = (low, high); files_are = (some, few) }

    value_of_lem : (g : Entry) → Fitting files p g → value_of (packed_entry p g) ≡ value_at g
    unfolding packed_entry
    value_of_lem g h = value_back (fields_at p g) (value_at g) p (value_long g h)

    -- its bytes back to the entry
    back : (g : Entry) → Fitting files p g → entry_of (packed_entry p g) (by_kind (fields_at p g)) ≡ g
    back blank h = absurd h
    back torn h = absurd h
    back bad h = absurd h
    back (opening true) h = refl
    back (opening false) h = refl
    back (image i) h =
        let e : take (length i.value) (value_of (packed_entry p (image i))) ≡ i.value =
        ap (take (length i.value)) (value_of_lem (image i) h) ∙ take_at i.value (replicate (value_size - length i.value) 0) (length i.value) refl in
        λ j. image (record { file = i.file; action = i.action; link = i.link; start = i.start; value = e j })
    back (outcome a true) h = refl
    back (outcome a false) h = refl

    -- any of its bytes stored at a blank place
    abbrev bytes_in : (ℕ → Bool) → Entry → List ℕ
    bytes_in kept g = mixed kept (packed_entry p g) (replicate page_size 0)

    test_is : (g : Entry) → Fitting files p g → (kept : ℕ → Bool) → Ordered kept
        → tested (bytes_in kept g) p files ≡ cond (kept kind_at) (cond (kept mark_at) (by_kind (fields_at p g)) Torn) Blank
    unfolding packed_entry
    test_is g h kept o = any_cut_tested (fields_at p g) (value_at g) p files (value_long g h) bounds (rules g h) kept o

    pub partly_stored : (g : Entry) → Fitting files p g → (kept : ℕ → Bool) → Ordered kept → entry_of (bytes_in kept g) (tested (bytes_in kept g) p files) ≡ partial (bytes_of kept) g
    partly_stored g h kept o = ap (entry_of (bytes_in kept g)) (test_is g h kept o) ∙ go (kept kind_at) (kept mark_at) refl
      where
        go : (a b : Bool) → kept mark_at ≡ b → entry_of (bytes_in kept g) (cond a (cond b (by_kind (fields_at p g)) Torn) Blank) ≡ partial (cond a (cond b page_size 1) 0) g
        go false b e = refl
        go true false e = refl
        go true true e =
            let z : bytes_in kept g ≡ packed_entry p g = mixed_all kept (packed_entry p g) (replicate page_size 0) (length-replicate {A = ℕ} page_size 0 ∙ sym (entry_long g h)) (λ i k. o.last e i (omega (arith, entry_long g h))) in
            ap (λ b. entry_of b (by_kind (fields_at p g))) z ∙ back g h
