-- A fresh sheet whose move was cut: from its sealed opening until its outcome is stored, an opening of it is refused 24. Assumes nothing.
use Prim.Native.Nat.{ℕ, zero, suc, ◌+◌, ◌-◌, ◌≤◌, ◌<◌}
use mathlib.Core.Path.{◌≡◌, refl, ◌∙◌}
use mathlib.Core.Bool.{true, false, false≢true}
use mathlib.Core.List.{List, [], ◌∷◌, ◌++◌, append_assoc}
use native.Mathlib.Omega.{arith}
use lib.ListN.{length, get_or, length-append}
use lib.Seq.{get_or-append_seam, get_or-append-add}
use Rattle.recovery.specs.Places.{nth}
use Rattle.recovery.specs.Log.{Entry, blank, torn, bad, opening, image, outcome, undecided, fate_of}
use Rattle.inspection.specs.Lawful.{fits_below, lawful}
use Rattle.recovery.specs.declared.Refusal.TheVariants.{UnfinishedMove}
use Rattle.recovery.specs.declared.Row.{Row}
use Rattle.recovery.specs.declared.Answer.TheVariants.{Refused}
use Rattle.recovery.specs.World.{World, down, sizes, is_blank, is_carried, end_of, unfinished, unopened, opened}
use Rattle.inspection.proofs.LowestUnlawful.{lawful_parts, lawful_more}
use Rattle.moving.specs.Moved.{versions_to}
use Rattle.moving.proofs.FreshLog.{log_to, count_to, down_log, log_fate, Carries, log_lawful}
use Rattle.moving.proofs.FreshOpened.{end_at, not_bad, AllBlank}

-- the top page of a lawful log is not blank
fits_solid : (g : Entry) (l : List Entry) → fits_below g l ≡ true → is_blank g ≡ false
fits_solid blank l h = absurd (false≢true h)
fits_solid torn l h = refl
fits_solid bad l h = refl
fits_solid (opening k) l h = refl
fits_solid (image i) l h = refl
fits_solid (outcome a c) l h = refl

top_solid : (s : List Entry) (e : ℕ) → 1 ≤ e → lawful (down s e) ≡ true → is_blank (nth blank s e) ≡ false
unfolding down
top_solid s zero h w = absurd (omega arith)
top_solid s (suc n) h w = fits_solid (get_or s n blank) (down s n) (lawful_parts (get_or s n blank) (down s n) w).0

-- a carried opening at place 1, and a lawful log that does not decide its action
cut_refused : (s : List Entry) (e : ℕ) (fs : List ℕ) (rs : List Row) (t : ℕ) → 1 ≤ e → e ≤ length s → ((p : ℕ) → e < p → nth blank s p ≡ blank)
    → lawful (down s e) ≡ true → is_carried (nth blank s 1) ≡ true → fate_of (down s e) 1 ≡ undecided → sizes (length s) (length fs) (length rs) ≡ true
    → opened s fs rs t ≡ (Refused UnfinishedMove 0, unopened s fs rs)
unfolding opened unfinished
cut_refused s e fs rs t h l c w k f z =
    let end : end_of s (length s) ≡ e = end_at s (length s) e l (λ x. top_solid s e h w) c in
    rw (z, end, not_bad (down s e) w, k, f)

-- what a cut leaves: the opening, the images of files 1 to k, and a torn page or none
abbrev pub cut_sheet : World → ℕ → List Entry → List Entry
cut_sheet w k rest = opening true ∷ (versions_to w k ++ rest)

module _ (w : World) (k : ℕ) (rest : List Entry) (clean : AllBlank rest) (c : Carries w k) (fs : List ℕ) (rs : List Row) (t : ℕ) where
  past : (m : List Entry) (n : ℕ) → length m ≡ n → (p : ℕ) → suc n < p → nth blank (opening true ∷ (m ++ rest)) p ≡ blank
  past m n e zero h = absurd (omega arith)
  past m n e (suc zero) h = absurd (omega arith)
  past m n e (suc (suc j)) h =
      let q : length m + (j - n) ≡ j = omega arith in
      rw q at (get_or-append-add m rest (j - n) blank) ∙ clean (j - n)

  pub whole_cut : sizes (length (cut_sheet w k rest)) (length fs) (length rs) ≡ true
      → opened (cut_sheet w k rest) fs rs t ≡ (Refused UnfinishedMove 0, unopened (cut_sheet w k rest) fs rs)
  whole_cut z =
      cut_refused (cut_sheet w k rest) (suc (count_to w k)) fs rs t (omega arith) (simp length-append (omega arith)) (past (versions_to w k) (count_to w k) refl)
      (rw (down_log w k rest) (log_lawful w k c)) refl (rw (down_log w k rest) (log_fate w k 1)) z

  torn_down : down (cut_sheet w k (torn ∷ rest)) (suc (suc (count_to w k))) ≡ torn ∷ log_to w k
  unfolding down
  torn_down = rw (get_or-append_seam (versions_to w k) torn rest blank, down_log w k (torn ∷ rest))

  torn_above : (p : ℕ) → suc (suc (count_to w k)) < p → nth blank (cut_sheet w k (torn ∷ rest)) p ≡ blank
  torn_above p h =
      let n : length (versions_to w k ++ (torn ∷ [])) ≡ suc (count_to w k) = simp length-append (omega arith) in
      rw append_assoc at (past (versions_to w k ++ (torn ∷ [])) (suc (count_to w k)) n p h)

  torn_fate : fate_of (torn ∷ log_to w k) 1 ≡ undecided
  unfolding fate_of
  torn_fate = log_fate w k 1

  pub torn_cut : sizes (length (cut_sheet w k (torn ∷ rest))) (length fs) (length rs) ≡ true
      → opened (cut_sheet w k (torn ∷ rest)) fs rs t ≡ (Refused UnfinishedMove 0, unopened (cut_sheet w k (torn ∷ rest)) fs rs)
  torn_cut z =
      cut_refused (cut_sheet w k (torn ∷ rest)) (suc (suc (count_to w k))) fs rs t (omega arith) (simp length-append (omega arith)) torn_above
      (rw torn_down (lawful_more torn (log_to w k) refl (log_lawful w k c))) refl (rw torn_down torn_fate) z
