-- The pass: the turns of the climb, the look for a page that is not blank above it, and the answer. Assumes nothing.
use Prim.Native.Nat.{ℕ, zero, suc, ◌+◌, ◌*◌, ◌/◌, ◌%◌, ◌<◌, ◌≤◌}
use mathlib.Core.Path.{◌≡◌, refl, ap, sym, subst, ◌∙◌}
use mathlib.Core.List.{List, ◌∷◌}
use mathlib.Core.Bool.{Bool, true, false, cond, ◌&&◌, false≢true}
use native.Mathlib.Omega.{arith}
use lib.ListN.{length, get_or, replicate}
use lib.Dec.{eqb, leb}
use borrow.Author.Tests.{leb-true, leb-false, le-leb, lt-leb}
use Rattle.encoding.proofs.Logic.{and_true, refused, passed}
use Rattle.page.specs.declared.Unpacked.{Unpacked}
use Rattle.page.specs.declared.Unpacked.TheVariants.{Refused, Blank, Torn, Opening, Image, Outcome, Unfit}
use Rattle.page.specs.Layout.{page_size, most_places, most_files}
use Rattle.page.specs.Answers.{tested, is_blank_page}
use Rattle.page.proofs.Found.{found, image_is, outcome_is}
use Rattle.recovery.specs.Places.{nth}
use Rattle.recovery.specs.Log.{Entry, blank, fate_of}
use Rattle.recovery.specs.Sheet.{page_bytes, entry_of, is_opening, seal, decoded, sealed}
use Rattle.recovery.specs.World.{down, is_blank, end_of, fate_number}
use Rattle.recovery.specs.Lent.{pages_of}
use Rattle.recovery.proofs.OpeningEnds.{end_le}
use Rattle.recovery.proofs.BadPages.{used_end}
use Rattle.recovery.proofs.Spots.{entry_down}
use Rattle.recovery.proofs.Pages.{page_here, page_at_place, length_down, sealed_is, opening_sealed, blank_sealed}
use Rattle.inspection.specs.Lawful.{fits_below, lawful, lowest_unlawful}
use Rattle.inspection.specs.Inspected.{inspectable, inspected}
use Rattle.inspection.specs.declared.InspectError.TheVariants.{Sizes}
use Rattle.std.specs.Prelude.{Ok, Err, Some, None}
use Rattle.inspection.specs.ClimbSteps.{no_slot, page_fits_in, keep_page, FileInRange, InRange}
use Rattle.inspection.specs.SomePlace.{some_place}
use Rattle.inspection.proofs.SomePlace.{found_none, found_some}
use Rattle.inspection.proofs.LowestUnlawful.{lawful_more, lowest_none, lowest_here, lowest_stays, lowest_cut, lowest_out, lowest_in}
use Rattle.inspection.proofs.LawfulLogs.{fate_place, fate_opens}
use Rattle.inspection.proofs.ArraysKnow.{Knows, Long, knows_none, fits_is, keep}
use Rattle.inspection.specs.declared.climbing.Kept.{Kept}

-- what the page layer tells of the page at a place
pub in_range : (s : List ℕ) (files place : ℕ) (u : Unpacked) → u ≡ tested (page_bytes s place) place files → InRange place u
in_range s files place Refused e = tt
in_range s files place Blank e = tt
in_range s files place Torn e = tt
in_range s files place (Opening p) e = tt
in_range s files place (Image p) e =
    let i = image_is (page_bytes s place) place files p e in
    let b = (found (page_bytes s place) place files (Image p) e).bounds in
    omega arith
in_range s files place (Outcome p) e =
    let i = outcome_is (page_bytes s place) place files p e in
    (i.action.1, i.verdict.0, i.verdict.1)
in_range s files place Unfit e = tt

-- ---- the way up

pub range_file : (place : ℕ) (u : Unpacked) → InRange place u → FileInRange u
range_file place Refused t = tt
range_file place Blank t = tt
range_file place Torn t = tt
range_file place (Opening p) t = tt
range_file place (Image p) t = t
range_file place (Outcome p) t = tt
range_file place Unfit t = tt

-- arrays of nothing know the empty log
pub climb_start : (s : List ℕ) (files N : ℕ) (n : ℕ) → suc n ≡ 1 → Knows {n = N} (down (pages_of s files) n) (record { fates = replicate N 0; newest = replicate (suc most_files) no_slot; below = replicate (suc most_files) no_slot })
unfolding down
climb_start s files N zero e = knows_none N (suc most_files)
climb_start s files N (suc n) e = absurd (omega arith)

module _ (s : List ℕ) (files : ℕ) where
  -- the pages, and what is known of the lowest n
  abbrev log : ℕ → List Entry
  log n = down (pages_of s files) n

  -- the last place
  abbrev m : ℕ
  m = length s / page_size

  module _ {N : ℕ} (n : ℕ) (k : Kept N) (w : Knows (log n) k) where
    -- an action that has a fate below is the place of an opening
    opened : n ≤ m → (a : ℕ) → 1 ≤ fate_number (fate_of (log n) a) → is_opening (decoded files s a) ≡ true
    unfolding sealed
    opened h a d =
        let z = fate_place (log n) a w.lawful_is d in
        let b : a ≤ length s / page_size = omega (arith, length_down (pages_of s files) n) in
        sym (opening_sealed (decoded files s) (decoded files s a))
        ∙ ap is_opening (sym (page_at_place files (length s / page_size) s a z.0 b)
        ∙ sym (entry_down (pages_of s files) n a (omega (arith, length_down (pages_of s files) n)))) ∙ fate_opens (log n) a w.lawful_is d

    module _ (place : ℕ) (at : suc n ≡ place) (h : place ≤ m) (u : Unpacked) (e : u ≡ tested (page_bytes s place) place files) where
      abbrev page : Entry
      page = seal (decoded files s) (entry_of (page_bytes s place) u)

      log_up : log place ≡ page ∷ log n
      unfolding down
      log_up =
          ap log (sym at)
          ∙ ap (λ (g : Entry). g ∷ log n) (page_here files (length s / page_size) s n (omega arith) ∙ ap (sealed files s) at ∙ sym (sealed_is s place files u e))

      place_is : suc (length (log n)) ≡ place
      place_is = omega (arith, length_down (pages_of s files) n)

      module _ (r : Bool) (q : r ≡ page_fits_in k u) where
        page_fits : r ≡ fits_below page (log n)
        page_fits = q ∙ fits_is (log n) k w (decoded files s) (opened (omega arith)) (page_bytes s place) u (range_file place u (in_range s files place u e))

        kept_up : r ≡ true → Long k → m < N → Knows (log place) (keep_page k u place)
        kept_up t long room =
            let step : Knows (page ∷ log n) (keep_page k u (suc (length (log n))))
            = keep (log n) k w long (decoded files s) (page_bytes s place) u (omega (arith, place_is)) (subst (λ (x : ℕ). InRange x u) (sym place_is) (in_range s files place u e)) (passed page_fits t) in
            subst (λ (l : List Entry). Knows l (keep_page k u place)) (sym log_up) (subst (λ (x : ℕ). Knows (page ∷ log n) (keep_page k u x)) place_is step)

        pub climb_again : r ≡ true → Long k → m < N → (k' : Kept N) → k' ≡ keep_page k u place → (n' : ℕ) → suc n' ≡ place + 1 → Knows (log n') k'
        climb_again t long room k' i n' j =
            let z : place ≡ n' = omega arith in
            subst (λ (x : ℕ). Knows (log x) k') z (subst (λ (x : Kept N). Knows (log place) x) (sym i) (kept_up t long room))

        -- the last page fits
        pub climb_last : r ≡ true → m ≤ place → None ≡ some_place (lowest_unlawful (log m))
        climb_last t last =
            let top : place ≡ m = omega arith in
            let fits : lawful (page ∷ log n) ≡ true = lawful_more page (log n) (passed page_fits t) w.lawful_is in
            ap some_place (sym (lowest_none (page ∷ log n) fits) ∙ ap lowest_unlawful (sym log_up) ∙ ap (λ (x : ℕ). lowest_unlawful (log x)) top)

        pub climb_stop : r ≡ false → Some place ≡ some_place (lowest_unlawful (log m))
        climb_stop t =
            let here : lowest_unlawful (log place) ≡ place
            = ap lowest_unlawful log_up ∙ lowest_here page (log n) w.lawful_is (refused page_fits t) ∙ place_is in
            subst (λ (x : ℕ). Some x ≡ some_place x) at refl
            ∙ ap some_place (sym (lowest_stays (pages_of s files) place m h (omega arith) ∙ here))

    pub climb_end : n ≡ m → None ≡ some_place (lowest_unlawful (log m))
    climb_end e = ap some_place (sym (lowest_none (log n) w.lawful_is) ∙ ap (λ (x : ℕ). lowest_unlawful (log x)) e)

-- ---- the end: the pages from a place on are all blank, or one is used

module _ (s : List Entry) where
  -- the end is not blank, and nothing above it is used
  end_used : (n : ℕ) → 1 ≤ end_of s n → is_blank (nth blank s (end_of s n)) ≡ false
  unfolding end_of
  end_used zero h = absurd (omega arith)
  end_used (suc n) h = go (is_blank (get_or s n blank)) refl (end_used n) h
    where
      go : (b : Bool) → is_blank (get_or s n blank) ≡ b → (1 ≤ end_of s n → is_blank (nth blank s (end_of s n)) ≡ false)
          → 1 ≤ cond b (end_of s n) (suc n) → is_blank (nth blank s (cond b (end_of s n) (suc n))) ≡ false
      go true e r h = r h
      go false e r h = e

  pub up_end : (n p : ℕ) → n < p → false ≡ leb p (end_of s n)
  up_end n p h = sym (lt-leb p (end_of s n) (omega (arith, end_le s n)))

  up_more : (n p : ℕ) → 1 ≤ p → is_blank (nth blank s p) ≡ true → leb (p + 1) (end_of s n) ≡ leb p (end_of s n)
  up_more n p low t = go (leb p (end_of s n)) refl
    where
      go : (c : Bool) → leb p (end_of s n) ≡ c → leb (p + 1) (end_of s n) ≡ c
      go true x =
          let y : p ≤ end_of s n = leb-true p (end_of s n) x in
          let z : p ≡ end_of s n → ⊥ = (λ i. false≢true (sym (end_used n (omega arith)) ∙ ap (λ (v : ℕ). is_blank (nth blank s v)) (sym i) ∙ t)) in
          le-leb (p + 1) (end_of s n) (omega (arith, z))
      go false x = lt-leb (p + 1) (end_of s n) (omega (arith, leb-false p (end_of s n) x))

module _ (s : List ℕ) (files p : ℕ) (u : Unpacked) (b : Bool) (low : 1 ≤ p) (high : p ≤ length s / page_size) (e : u ≡ tested (page_bytes s p) p files) (q : b ≡ is_blank_page u) where
  blank_is : b ≡ is_blank (nth blank (pages_of s files) p)
  blank_is =
      q
      ∙ sym (blank_sealed (decoded files s) (page_bytes s p) u)
      ∙ ap is_blank (sealed_is s p files u e ∙ sym (page_at_place files (length s / page_size) s p low (omega arith)))

  pub up_hit : b ≡ false → true ≡ leb p (end_of (pages_of s files) (length s / page_size))
  up_hit t = sym (le-leb p (end_of (pages_of s files) (length s / page_size)) (used_end (pages_of s files) p (refused blank_is t) (length s / page_size) high))

  pub up_miss : b ≡ true → leb (p + 1) (end_of (pages_of s files) (length s / page_size)) ≡ leb p (end_of (pages_of s files) (length s / page_size))
  up_miss t = up_more (pages_of s files) (length s / page_size) p low (passed blank_is t)

-- ---- the answer

-- the three ends of the pass
module _ (s : List ℕ) (files : ℕ) where
  abbrev end : ℕ
  end = end_of (pages_of s files) (length s / page_size)

  le : end ≤ length s / page_size
  le = end_le (pages_of s files) (length s / page_size)

  abbrev lowest_here_of : ℕ → ℕ
  lowest_here_of n = lowest_unlawful (down (pages_of s files) n)

  pub upward_none : None ≡ some_place (lowest_here_of (length s / page_size)) → 0 ≡ lowest_here_of end
  upward_none q = lowest_cut (pages_of s files) end (length s / page_size) le (found_none _ q)

  module _ (p : ℕ) (q : Some p ≡ some_place (lowest_here_of (length s / page_size))) (b : Bool) (e : b ≡ leb p end) where
    is_p : (p ≡ lowest_here_of (length s / page_size)) × (1 ≤ p)
    is_p = found_some _ p q

    pub upward_found : b ≡ true → p ≡ lowest_here_of end
    upward_found t =
        let l : p ≤ end = leb-true p end (sym e ∙ t) in
        is_p.0 ∙ lowest_in (pages_of s files) end (length s / page_size) le (omega (arith, is_p.0, is_p.1)) (omega (arith, is_p.0))

    pub upward_blank : b ≡ false → 0 ≡ lowest_here_of end
    upward_blank t =
        let l : end < p = leb-false p end (sym e ∙ t) in
        lowest_out (pages_of s files) end (length s / page_size) le (omega (arith, is_p.0))

pub most : (size files : ℕ) → inspectable size files ≡ true → size / page_size ≤ most_places
unfolding inspectable
most size files h =
    let a = and_true _ _ h in
    let b = and_true _ _ a.0 in
    let c = and_true (eqb (size % page_size) 0 && leb page_size size) (leb size (most_places * page_size)) b.0 in
    let m : size ≤ most_places * page_size = leb-true size (most_places * page_size) c.1 in
    omega arith

pub inspected_no : (s : List ℕ) (files : ℕ) → inspectable (length s) files ≡ false → Err Sizes ≡ inspected s files
unfolding inspected
inspected_no s files h = rw h

pub inspected_yes : (s : List ℕ) (files r : ℕ) → inspectable (length s) files ≡ true
    → r ≡ lowest_unlawful (down (pages_of s files) (end_of (pages_of s files) (length s / page_size))) → Ok r ≡ inspected s files
unfolding inspected
inspected_yes s files r h q = rw (h, q)
