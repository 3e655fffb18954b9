-- A sheet that holds the pages of a move and blank ones above: it is opened, with no open action; each file's row is its carried
-- version alone; and a read at or above its start finds it. Assumes nothing.
use Prim.Native.Nat.{ℕ, zero, suc, ◌+◌, ◌-◌, ◌≤◌, ◌<◌}
use mathlib.Core.Path.{◌≡◌, refl, sym, ap, ◌∙◌}
use mathlib.Core.Bool.{Bool, true, false, cond, false≢true}
use mathlib.Core.List.{List, [], ◌∷◌, ◌++◌, append_assoc}
use mathlib.Core.Option.{Option, some, none}
use native.Mathlib.Omega.{arith}
use lib.ListN.{length, get_or, length-append}
use lib.Seq.{get_or-append_seam, get_or-append-add}
use lib.Dec.{eqb}
use borrow.Author.Tests.{eq-eqb, ne_eqb, eqb-true, eqb-false, le-leb}
use Rattle.recovery.specs.Places.{nth, tabulate}
use Rattle.recovery.specs.Log.{Image, Entry, blank, torn, bad, opening, image, outcome, Fate, unknown, committed, fate_of, images_of, not_by, effective, versions_of, token_of}
use Rattle.inspection.specs.Lawful.{lawful, fits_below}
use Rattle.recovery.specs.declared.Row.{Row}
use Rattle.recovery.specs.declared.Answer.TheVariants.{Opened, Value, Nothing}
use Rattle.recovery.specs.World.{World, Result, down, sizes, cold, is_blank, end_of, is_bad, highest_bad, fate_number, fate_from, fate_in, fates_of, undecided_of, cold_rows, started, unfinished, opened, rebuilt_row, warm_row, with_row, row_holds, lent_right}
use Rattle.recovery.proofs.Places.{length_tabulate, nth_tabulate}
use Rattle.inspection.proofs.LowestUnlawful.{lawful_parts}
use Rattle.calls.proofs.LinkByLink.{reached}
use Rattle.calls.specs.Calls.{read, call, image_of, is_carried_at, on_token}
use Rattle.moving.specs.Moved.{version_of, carried, versions_to}
use Rattle.moving.proofs.FreshLog.{move_log, count_to, count_le, down_move, page_of_file, move_fate, Carries, placed_by, one_image, move_lawful}

-- ---- laws of openings

-- the end is the highest page that is not blank
pub end_at : (s : List Entry) (n e : ℕ) → e ≤ n → (1 ≤ e → is_blank (nth blank s e) ≡ false) → ((p : ℕ) → e < p → nth blank s p ≡ blank) → end_of s n ≡ e
unfolding end_of
end_at s zero e h k c = omega arith
end_at s (suc p) e h k c = go (eqb e (suc p)) refl (λ l. end_at s p e l k c)
  where
    go : (b : Bool) → eqb e (suc p) ≡ b → (e ≤ p → end_of s p ≡ e) → cond (is_blank (get_or s p blank)) (end_of s p) (suc p) ≡ e
    go true q r = let z : e ≡ suc p = eqb-true e (suc p) q in
        let y : is_blank (get_or s p blank) ≡ false = rw z at (k (omega arith)) in rw y (sym z)
    go false q r = let z : e < suc p = omega (arith, eqb-false e (suc p) q) in rw (c (suc p) z) (r (omega arith))

-- no page of a lawful log is bad
pub not_bad : (l : List Entry) → lawful l ≡ true → highest_bad l ≡ 0
unfolding highest_bad
not_bad [] w = refl
not_bad (g ∷ l) w = go g (lawful_parts g l w).0 (not_bad l (lawful_parts g l w).1)
  where
    go : (g : Entry) → fits_below g l ≡ true → highest_bad l ≡ 0 → cond (is_bad g) (suc (length l)) (highest_bad l) ≡ 0
    go blank h r = absurd (false≢true h)
    go torn h r = r
    go bad h r = absurd (false≢true h)
    go (opening k) h r = r
    go (image i) h r = r
    go (outcome a c) h r = r

pub none_undecided : (φ : ℕ → ℕ) (i n : ℕ) → ((a : ℕ) → eqb (φ a) 1 ≡ false) → undecided_of (tabulate φ i n) ≡ 0
unfolding undecided_of tabulate
none_undecided φ i zero h = refl
none_undecided φ i (suc n) h = rw (h (suc i), none_undecided φ (suc i) n h)

get_d_cold : (n i : ℕ) → get_or (cold_rows n) i cold ≡ cold
unfolding cold_rows
get_d_cold zero i = refl
get_d_cold (suc n) zero = refl
get_d_cold (suc n) (suc i) = get_d_cold n i

pub nth_cold : (n f : ℕ) → nth cold (cold_rows n) f ≡ cold
nth_cold n zero = refl
nth_cold n (suc i) = get_d_cold n i

pub length_cold : (n : ℕ) → length (cold_rows n) ≡ n
unfolding cold_rows
length_cold zero = refl
length_cold (suc n) = ap suc (length_cold n)

-- ---- a fresh sheet

-- the pages that the move stored for files 1 to k, and blank ones
abbrev pub fresh_sheet : World → ℕ → List Entry → List Entry
fresh_sheet w k rest = opening true ∷ ((versions_to w k ++ (outcome 1 true ∷ [])) ++ rest)

abbrev pub AllBlank : List Entry → Type 0
AllBlank rest = (p : ℕ) → get_or rest p blank ≡ blank

-- how many pages were stored
abbrev pub pages_to : World → ℕ → ℕ
pages_to w k = suc (suc (count_to w k))

-- the row that a carried version gives, and none
abbrev pub row_by : ℕ → Option Image → Row
row_by p none = record { mark = 1; current = 0; currentend = 0; token = 0; tokenend = 0; tokenaction = 0 }
row_by p (some i) = record { mark = 1; current = p; currentend = i.start; token = 0; tokenend = 0; tokenaction = 0 }

row_of_images : (l : List Entry) (φ : ℕ → Fate) (f p : ℕ) (v : Option Image) → φ 1 ≡ committed → images_of l f ≡ placed_by p v → rebuilt_row l φ f ≡ row_by p v
unfolding not_by effective versions_of token_of
row_of_images l φ f p none h e = rw e
row_of_images l φ f p (some i) h e = rw (e, h)

module _ (w : World) (k : ℕ) (rest : List Entry) (clean : AllBlank rest) (c : Carries w k) where
  abbrev s : List Entry
  s = fresh_sheet w k rest

  fresh_long : pages_to w k ≤ length s
  fresh_long = simp length-append (omega arith)

  top : nth blank s (pages_to w k) ≡ outcome 1 true
  top = rw append_assoc (get_or-append_seam (versions_to w k) (outcome 1 true) rest blank)

  pub above : (p : ℕ) → pages_to w k < p → nth blank s p ≡ blank
  above zero h = absurd (omega arith)
  above (suc q) h = go q (omega arith)
    where
      go : (q : ℕ) → pages_to w k ≤ q → get_or (fresh_sheet w k rest) q blank ≡ blank
      go zero h = absurd (omega arith)
      go (suc j) h =
          let n : length (versions_to w k ++ (outcome 1 true ∷ [])) ≡ suc (count_to w k) = simp length-append (omega arith) in
          let e : length (versions_to w k ++ (outcome 1 true ∷ [])) + (j - suc (count_to w k)) ≡ j = omega arith in
          rw e at (get_or-append-add (versions_to w k ++ (outcome 1 true ∷ [])) rest (j - suc (count_to w k)) blank) ∙ clean (j - suc (count_to w k))

  pub fresh_end : end_of s (length s) ≡ pages_to w k
  fresh_end = end_at s (length s) (pages_to w k) fresh_long (λ h. rw top) above

  pub fresh_log_lem : down s (pages_to w k) ≡ move_log w k
  fresh_log_lem = down_move w k rest

  fresh_undecided : undecided_of (fates_of (length s) (down s (pages_to w k))) ≡ 0
  fresh_undecided = rw fresh_log_lem (none_undecided (λ a. fate_number (fate_of (move_log w k) a)) 0 (length s) (λ a. rw (move_fate w k a) (go (eqb a 1))))
    where
      go : (b : Bool) → eqb (fate_number (cond b committed unknown)) 1 ≡ false
      go true = refl
      go false = refl

  fresh_finished : unfinished s (pages_to w k) ≡ false
  unfolding unfinished
  fresh_finished = rw (fresh_log_lem, move_fate w k 1)

  -- it is opened: its end is its last stored page, and no action is open
  pub fresh_opened : (fs : List ℕ) (rs : List Row) (t : ℕ) → sizes (length s) (length fs) (length rs) ≡ true
      → opened s fs rs t ≡ (Opened (pages_to w k) 0, started s (pages_to w k) (length rs) t)
  unfolding opened
  fresh_opened fs rs t h =
      let z : highest_bad (down s (pages_to w k)) ≡ 0 = rw fresh_log_lem (not_bad (move_log w k) (move_lawful w k c)) in
      rw (h, fresh_end, z, fresh_finished, fresh_undecided)

  -- ---- the rows

  fate_one : fate_in (fates_of (length s) (down s (pages_to w k))) 1 ≡ committed
  fate_one =
      ap fate_from (nth_tabulate (λ a. fate_number (fate_of (down s (pages_to w k)) a)) (length s) 1 0 (omega arith) (omega (arith, fresh_long)))
      ∙ rw (fresh_log_lem, move_fate w k 1)

  module _ (t f : ℕ) (h : 1 ≤ f) (l : f ≤ k) where
    abbrev n : World
    n = started s (pages_to w k) k t

    images_are : images_of (down s (pages_to w k)) f ≡ placed_by (suc (count_to w f)) (version_of w f)
    unfolding images_of
    images_are = rw fresh_log_lem (one_image w k f c h l)

    pub fresh_row : warm_row n f ≡ row_by (suc (count_to w f)) (version_of w f)
    unfolding warm_row
    fresh_row = rw (nth_cold k f) (row_of_images (down s (pages_to w k)) (fate_in (fates_of (length s) (down s (pages_to w k)))) f (suc (count_to w f)) (version_of w f) fate_one images_are)

    -- a file's version stands at its place
    pub fresh_page : (i : Image) → version_of w f ≡ some i → nth blank s (suc (count_to w f)) ≡ image (carried i)
    fresh_page i e = rw append_assoc (page_of_file w k f i ((outcome 1 true ∷ []) ++ rest) h l e)

    -- ---- reads outside any action

    module _ (time : ℕ) (fits : sizes (length s) (length s) k ≡ true) where
      fresh_lent : lent_right n ≡ true
      unfolding lent_right
      fresh_lent =
          rw (length_tabulate (λ a. fate_number (fate_of (down s (pages_to w k)) a)) 0 (length s), length_cold k, fits, fresh_undecided, le-leb (pages_to w k) (length s) fresh_long, le-leb 0 (pages_to w k) (omega arith))

      -- a read past the lines before 7
      reads_as : (r : Row) → warm_row n f ≡ r → row_holds (with_row n f r) f r ≡ true
          → call n (read f time 0) ≡ on_token (with_row n f r) f time 0 r (image_of (nth blank s r.token))
      unfolding call
      reads_as r e q = rw (fresh_lent, length_cold k, le-leb 1 f h, le-leb f k l, e, q)

      place_in : suc (count_to w f) ≤ pages_to w k
      place_in = omega (arith, count_le w f k l)

      pub fresh_read : (i : Image) → version_of w f ≡ some i → i.start ≤ time
          → (call n (read f time 0)).0 ≡ Value (suc (count_to w f)) i.start (length i.value)
      unfolding row_holds
      fresh_read i e late =
          let p : ℕ = suc (count_to w f) in
          let here : nth blank s p ≡ image (carried i) = fresh_page i e in
          let row : warm_row n f ≡ row_by p (some i) = fresh_row ∙ rw e in
          let held : row_holds (with_row n f (row_by p (some i))) f (row_by p (some i)) ≡ true =
          rw (here, ne_eqb p 0 (λ z. omega arith), le-leb p (pages_to w k) place_in, eq-eqb i.file f (c.file_is f i h l e)) in
          ap (λ (x : Result). x.0) (reads_as (row_by p (some i)) row held)
          ∙ rw (here, le-leb i.start time late, reached (is_carried_at n) s f time false (record { place = p; image = carried i }) late)

      pub fresh_none : version_of w f ≡ none → (call n (read f time 0)).0 ≡ Nothing
      unfolding row_holds
      fresh_none e = ap (λ (x : Result). x.0) (reads_as (row_by 0 none) (fresh_row ∙ rw e) refl)
