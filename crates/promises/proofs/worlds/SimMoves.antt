-- What a move finds of a world that stands for a log and the object model: rows that hold, the model's newest versions, its pending actions
-- and when each file was asked for last.
use Prim.Native.Nat.{ℕ, zero, suc, ◌≤◌}
use mathlib.Core.Path.{◌≡◌, refl, sym, ap, ◌∙◌}
use mathlib.Core.List.{List, [], ◌∷◌}
use mathlib.Core.Bool.{true, false, not}
use mathlib.Core.Option.{Option, some, none}
use native.Mathlib.Omega.{arith}
use lib.ListN.{length, length-append}
use lib.Dec.{eqb}
use borrow.Author.Tests.{le-leb}
use Rattle.recovery.specs.Places.{nth}
use Rattle.recovery.specs.Log.{Image, Entry, outcome, Fate, unknown, undecided, committed, aborted, Placed, fate_of, outcome_of, place_of}
use Rattle.recovery.specs.World.{World, entry_at, row_at, cold, fate_number, warm_row, row_holds, is_file}
use Rattle.recovery.specs.declared.Row.{Row}
use Rattle.recovery.proofs.Places.{nth_tabulate, length_tabulate}
use Rattle.recovery.proofs.Spots.{Lies}
use Rattle.recovery.proofs.Lookups.{is_file_lem}
use Rattle.inspection.specs.Lawful.{versions, current}
use Rattle.calls.specs.Calls.{image_of}
use Rattle.encoding.proofs.Lowest.{lowest_cong, lowest_zero}
use Rattle.moving.specs.Moved.{lowest_undecided, lowest_damaged, warm_rows, version_of, carried_by, versions_to, move_pages, highest_end}
use Rattle.promises.specs.Model.{Model, newest, asked_to, one_of, count_to, moved_pages, is_pending, lowest_pending}
use Rattle.promises.specs.FromLog.{status_of, version_in}
use Rattle.promises.proofs.logs.Histories.{newest_is}
use Rattle.promises.proofs.worlds.Sim.{row_for, Sim, warm_eq, lies_at, row_holds_lem, current_lies}

pending_test : (x : Fate) (place : ℕ) → eqb (fate_number x) 1 ≡ is_pending (status_of x place)
pending_test unknown place = refl
pending_test undecided place = refl
pending_test committed place = refl
pending_test aborted place = refl

-- a version's image
abbrev pub image_in : Option Placed → Option Image
image_in none = none
image_in (some x) = some x.image

one_image : (z : Option Placed) → length (carried_by (image_in z)) ≡ one_of (version_in z)
one_image none = refl
one_image (some x) = refl

module _ (w : World) (l : List Entry) (m : Model) (s : Sim w l m) where
  abbrev v : World
  v = warm_rows w

  file_of_lem : (k : ℕ) → suc k ≤ m.files → is_file m.files (suc k) ≡ true
  file_of_lem k h = rw (le-leb 1 (suc k) (omega arith), le-leb (suc k) m.files h)

  pub rows_long : length v.rows ≡ m.files
  rows_long = length_tabulate (warm_row w) 0 (length w.rows) ∙ s.files

  pub row_is : (f : ℕ) → is_file m.files f ≡ true → row_at v f ≡ row_for l (m.object f) f
  row_is f i =
      let k = is_file_lem m.files f i in
      nth_tabulate (warm_row w) (length w.rows) f cold k.0 (omega (arith, s.files)) ∙ warm_eq w l m s f i

  -- the world with every row rebuilt stands for the same
  pub sim_warmed : Sim v l m
  sim_warmed = record {
    says = s.says;
    lawful = s.lawful;
    room = s.room;
    long = s.long;
    files = rows_long;
    fits = s.fits;
    ends = s.ends;
    log = s.log;
    clean = s.clean;
    fates = s.fates;
    undecided = s.undecided;
    floor = s.floor;
    rows = λ f i. rw (row_is f i);
  }

  pub none_damaged : lowest_damaged v (length v.rows) ≡ 0
  none_damaged = rw rows_long (lowest_zero (λ f. not (row_holds v f (row_at v f))) m.files holds)
    where
      holds : (f : ℕ) → 1 ≤ f → f ≤ m.files → not (row_holds v f (row_at v f)) ≡ false
      holds f a b =
          let i : is_file m.files f ≡ true = rw (le-leb 1 f a, le-leb f m.files b) in
          ap (λ (r : Row). not (row_holds v f r)) (row_is f i) ∙ ap not (row_holds_lem v l m sim_warmed f)

  pub version_is : (f : ℕ) → is_file m.files f ≡ true → version_of v f ≡ image_in (current l f)
  version_is f i = ap (λ (r : Row). image_of (entry_at w r.current)) (row_is f i) ∙ go (current l f) (current_lies l f)
    where
      go : (z : Option Placed) → Lies l f z → image_of (entry_at w (place_of z)) ≡ image_in z
      go none h = refl
      go (some x) h = ap image_of (lies_at w l m s f x h)

  pub newest_in : (f : ℕ) → newest (m.object f).history ≡ version_in (current l f)
  newest_in f = ap newest (s.says.history f) ∙ newest_is (versions l f)

  pub count_is : (k : ℕ) → k ≤ m.files → length (versions_to v k) ≡ count_to m.object k
  unfolding versions_to count_to
  count_is zero h = refl
  count_is (suc k) h =
      length-append (versions_to v k) (carried_by (version_of v (suc k)))
      ∙ rw (count_is k (omega arith), version_is (suc k) (file_of_lem k h), newest_in (suc k), one_image (current l (suc k)))

  pub pages_are : length (move_pages v) ≡ moved_pages m
  unfolding move_pages
  pages_are = rw rows_long (omega (arith, length-append (versions_to v m.files) (outcome 1 true ∷ []), count_is m.files (omega arith)))

  highest_is : (k : ℕ) → k ≤ m.files → highest_end v.floor v.rows k ≡ asked_to m.floor m.object k
  unfolding highest_end asked_to
  highest_is zero h = s.floor
  highest_is (suc k) h = rw (highest_is k (omega arith), row_is (suc k) (file_of_lem k h))

  pub floor_is : highest_end v.floor v.rows (length v.rows) ≡ asked_to m.floor m.object m.files
  floor_is = rw rows_long (highest_is m.files (omega arith))

  pub pending_is : lowest_undecided w.fates w.end ≡ lowest_pending m
  pending_is =
      ap (lowest_undecided w.fates) (s.ends ∙ sym s.says.used)
      ∙ lowest_cong (λ p. eqb (nth 0 w.fates p) 1) (λ a. is_pending (m.status a)) m.used same
    where
      same : (p : ℕ) → 1 ≤ p → p ≤ m.used → eqb (nth 0 w.fates p) 1 ≡ is_pending (m.status p)
      same p a b =
          let e : nth 0 w.fates p ≡ fate_number (fate_of l p) =
          ap (λ (fs : List ℕ). nth 0 fs p) s.fates ∙ nth_tabulate (λ q. fate_number (fate_of l q)) m.pages p 0 a (omega (arith, s.says.used, s.room)) in
          ap (λ (n : ℕ). eqb n 1) e ∙ pending_test (fate_of l p) (outcome_of l p) ∙ ap is_pending (sym (s.says.status p))
