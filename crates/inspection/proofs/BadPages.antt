-- A sheet with a bad page is not lawful: inspect answers a place not above it. Shuts out an inspection that passes a damaged page over.
-- Assumes nothing.
use Prim.Native.Nat.{ℕ, zero, suc, pred, ◌*◌, ◌/◌, ◌%◌, ◌≤◌}
use mathlib.Core.Path.{◌≡◌, refl, sym, ap, ◌∙◌}
use mathlib.Core.Bool.{Bool, true, false, cond, ◌&&◌}
use mathlib.Core.List.{List, ◌∷◌}
use native.Mathlib.Omega.{arith}
use borrow.Author.Tests.{eqb-false, leb-true}
use lib.Dec.{eqb, leb}
use lib.ListN.{length}
use Rattle.encoding.proofs.Logic.{by_test, and_true, clash}
use Rattle.page.specs.Layout.{page_size, most_places, most_files}
use Rattle.page.specs.Table.{within}
use Rattle.page.proofs.Rules.{within_both}
use Rattle.recovery.specs.Places.{nth}
use Rattle.recovery.specs.Log.{Entry, blank, bad}
use Rattle.recovery.specs.Sheet.{sealed}
use Rattle.recovery.specs.World.{down, is_blank, end_of}
use Rattle.recovery.specs.Lent.{pages_of}
use Rattle.recovery.proofs.Pages.{page_at_place, length_down}
use Rattle.recovery.proofs.BadPages.{used_end}
use Rattle.inspection.specs.Lawful.{lawful, lowest_unlawful}
use Rattle.inspection.specs.Inspected.{inspectable, inspected, inspect_place}
use Rattle.inspection.specs.declared.InspectError.TheVariants.{Sizes}
use Rattle.std.specs.Prelude.{Ok, Err}
use Rattle.inspection.proofs.LowestUnlawful.{none_lawful, lowest_here, lowest_le, lowest_stays, lowest_cut}

-- up to a bad page, and further up
module _ (P : List Entry) where
  lowest_up_to : (p : ℕ) → 1 ≤ p → nth blank P p ≡ bad → (1 ≤ lowest_unlawful (down P p)) × (lowest_unlawful (down P p) ≤ p)
  unfolding down lowest_unlawful
  lowest_up_to zero low here = absurd (omega arith)
  lowest_up_to (suc q) low here =
      rw here
      (by_test (λ (x : ℕ). (1 ≤ x) × (x ≤ suc q)) (eqb (lowest_unlawful (down P q)) 0)
      (λ e. (omega arith, omega (arith, length_down P q)))
      (λ e. (omega (arith, eqb-false (lowest_unlawful (down P q)) 0 e), omega (arith, lowest_le (down P q), length_down P q))))

  lowest_at : (p : ℕ) → 1 ≤ p → nth blank P p ≡ bad → lawful (down P (pred p)) ≡ true → lowest_unlawful (down P p) ≡ p
  unfolding down
  lowest_at zero low here w = absurd (omega arith)
  lowest_at (suc q) low here w = ap (λ (x : Entry). lowest_unlawful (x ∷ down P q)) here ∙ lowest_here bad (down P q) w refl ∙ ap suc (length_down P q)

-- ---- what is inspected

module _ (s : List ℕ) (files : ℕ) where
  abbrev sheet : List Entry
  sheet = pages_of s files

  abbrev end : ℕ
  end = end_of sheet (length s / page_size)

  module _ (ok : inspectable (length s) files ≡ true) where
    pub files_within : within files 1 most_files ≡ true
    unfolding inspectable
    files_within =
        let sized : Bool = eqb (length s % page_size) 0 && leb page_size (length s) && leb (length s) (most_places * page_size) in
        let a = and_true (sized && leb 1 files) (leb files most_files) ok in
        let b = and_true sized (leb 1 files) a.0 in
        within_both files 1 most_files (leb-true 1 files b.1) (leb-true files most_files a.1)

    inspected_is : inspected s files ≡ Ok (lowest_unlawful (down sheet end))
    unfolding inspected
    inspected_is = rw ok

    module _ (p : ℕ) (low : 1 ≤ p) (room : page_size * p ≤ length s) (e : sealed files s p ≡ bad) where
      here : nth blank sheet p ≡ bad
      here = page_at_place files (length s / page_size) s p low (omega arith) ∙ e

      stays : lowest_unlawful (down sheet end) ≡ lowest_unlawful (down sheet p)
      stays = lowest_stays sheet p end (used_end sheet p (ap is_blank here) (length s / page_size) (omega arith)) (lowest_up_to sheet p low here).0

      pub bad_unlawful : (q : ℕ) × (1 ≤ q) × (q ≤ p) × (inspected s files ≡ Ok q)
      bad_unlawful = let h = lowest_up_to sheet p low here in (lowest_unlawful (down sheet p), h.0, h.1, inspected_is ∙ ap (λ (x : ℕ). Ok x) stays)

      -- if all below it is lawful, that page itself
      pub bad_named : lawful (down sheet (pred p)) ≡ true → inspected s files ≡ Ok p
      bad_named w = inspected_is ∙ ap (λ (x : ℕ). Ok x) (stays ∙ lowest_at sheet p low here w)

  module _ (e : inspected s files ≡ Ok 0) where
    -- what is lawful can be inspected, and has no place that does not fit
    pub lawful_is : (inspectable (length s) files ≡ true) × (lowest_unlawful (down sheet end) ≡ 0)
    unfolding inspected
    lawful_is = go (inspectable (length s) files) e
      where
        go : (b : Bool) → cond b (Ok (lowest_unlawful (down sheet end))) (Err Sizes) ≡ Ok 0 → (b ≡ true) × (lowest_unlawful (down sheet end) ≡ 0)
        go true q = (refl, ap inspect_place q)
        go false q = clash cc

    pub lawful_below : (p : ℕ) → p ≤ end → lawful (down sheet p) ≡ true
    lawful_below p h = none_lawful (down sheet p) (sym (lowest_cut sheet p end h lawful_is.1))
