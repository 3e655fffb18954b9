-- Where an image of a run's sheet comes from: a write stored it there, or it was carried over, and a write stored on a sheet before one with its
-- file, start and value, which was a version of that sheet.
use Prim.Native.Nat.{ℕ, zero, suc, ◌≤◌}
use mathlib.Core.Path.{◌≡◌, refl, sym, ap, ◌∙◌, subst}
use mathlib.Core.List.{List, [], ◌∷◌, ◌++◌, head?, append_assoc}
use mathlib.Core.Bool.{Bool, true, false, ◌||◌}
use mathlib.Core.Option.{Option, some, none}
use mathlib.Core.Logic.{◌⊎◌, inl, inr}
use native.Mathlib.Omega.{arith}
use lib.ListN.{length}
use borrow.Author.Tests.{le-leb}
use Rattle.encoding.proofs.Logic.{clash}
use Rattle.recovery.specs.Log.{Image, Entry, opening, image, outcome, Placed, fate_of, effective_of}
use Rattle.recovery.specs.Sheet.{sealed}
use Rattle.recovery.specs.World.{World, is_file}
use Rattle.recovery.specs.Lent.{Left}
use Rattle.inspection.specs.Lawful.{versions, current}
use Rattle.moving.specs.Moved.{version_of, carried, warm_rows}
use Rattle.moving.specs.Promised.{SameVersion}
use Rattle.moving.proofs.FreshLog.{topped, log_to, move_log}
use Rattle.promises.specs.Runs.{Box, on, off, sheet_of, Event, calls, opens, cuts, moves, cuts_move, is_moved, moved_in, after, runs, AllAllowed, blank_box, Run}
use Rattle.promises.specs.Promises.{IsVersion}
use Rattle.promises.proofs.logs.Outcomes.{Lies, lies_cons}
use Rattle.promises.proofs.logs.Logs.{known_place}
use Rattle.promises.proofs.logs.Versions.{Among, first, versions_among}
use Rattle.promises.proofs.logs.Newest.{effective_spot}
use Rattle.promises.proofs.worlds.SimMoves.{image_in, version_is}
use Rattle.promises.proofs.worlds.Visible.{shared}
use Rattle.promises.proofs.boxes.Boxes.{world_in, is_on, Reached, sim}
use Rattle.promises.proofs.boxes.BoxPages.{solid_image, image_same, page_lies_in, effective_out}
use Rattle.promises.proofs.boxes.BoxShown.{committed_told}
use Rattle.promises.proofs.boxes.BoxRuns.{pages_after, log_after, reached_next, reached_blank}
use Rattle.promises.proofs.answers.Origins.{Adds, Added, from_event, from_move_of}

-- ---- a version of the log is one of the box

module _ (n files : ℕ) (b : Box) (r : Reached n files b) (o : is_on b ≡ true) where
  pub log_version : (file : ℕ) (x : Placed) → Among x (versions r.log file) → IsVersion files b file x.place x.image
  log_version file x a =
      let p = versions_among (fate_of r.log) x (effective_of r.log file) a in
      let k = known_place r.log x.image.action r.at.holds.lawful (rw p.0 (omega arith)) in (
        effective_out n files b r file x p.1,
        (effective_spot r.log file x p.1).mine,
        committed_told n files b r file 0 0 x.image o (shared p.0) (λ e. omega (arith, k.0)),
      )

-- ---- an image of the fresh log is the version of a file, carried over

record Carries (v : World) (k : ℕ) (i : Image) : Type 0 where
  file : ℕ
  low : 1 ≤ file
  high : file ≤ k
  old : Image
  was : version_of v file ≡ some old
  is : i ≡ carried old

from_log : (v : World) (k p : ℕ) (i : Image) → Lies (log_to v k) p (image i) → Carries v k i
unfolding log_to
from_log v zero p i h = only (lies_cons (opening true) [] p (image i) h)
  where
    only : Lies [] p (image i) ⊎ ((p ≡ 1) × (opening true ≡ image i)) → Carries v 0 i
    only (inl y) = absurd (omega (arith, y.low, y.high))
    only (inr y) = let z = y.1 in clash cc
from_log v (suc k) p i h = go (version_of v (suc k)) refl (from_log v k p i) h
  where
    more : Carries v k i → Carries v (suc k) i
    more c = record { file = c.file; low = c.low; high = omega (arith, c.high); old = c.old; was = c.was; is = c.is }

    go : (z : Option Image) → version_of v (suc k) ≡ z → (Lies (log_to v k) p (image i) → Carries v k i) → Lies (topped z (log_to v k)) p (image i) → Carries v (suc k) i
    go none e r h = more (r h)
    go (some j) e r h = only (lies_cons (image (carried j)) (log_to v k) p (image i) h)
      where
        only : Lies (log_to v k) p (image i) ⊎ ((p ≡ suc (length (log_to v k))) × (image (carried j) ≡ image i)) → Carries v (suc k) i
        only (inl y) = more (r y)
        only (inr y) = record { file = suc k; low = omega arith; high = omega arith; old = j; was = e; is = sym (image_same y.1) }

from_move_log : (v : World) (k p : ℕ) (i : Image) → Lies (move_log v k) p (image i) → Carries v k i
from_move_log v k p i h = only (lies_cons (outcome 1 true) (log_to v k) p (image i) h)
  where
    only : Lies (log_to v k) p (image i) ⊎ ((p ≡ suc (length (log_to v k))) × (outcome 1 true ≡ image i)) → Carries v k i
    only (inl y) = from_log v k p i y
    only (inr y) = let z = y.1 in clash cc

head_among : (vs : List Placed) (x : Placed) → head? vs ≡ some x → Among x vs
head_among [] x e = clash cc
head_among (y ∷ vs) x e = let z : y ≡ x = cc in subst (λ w. Among x (w ∷ vs)) (sym z) first

-- the version of a box that an image was before
record Before (files : ℕ) (b : Box) (i : Image) : Type 0 where
  place : ℕ
  old : Image
  version : IsVersion files b old.file place old
  same : SameVersion old i

module _ (n files : ℕ) (m : Left) (r : Reached n files (on m)) where
  was_version : (i : Image) → Carries (warm_rows (world_in n files m)) files i → Before files (on m) i
  was_version i c = go (current r.log c.file) refl (sym (version_is (world_in n files m) r.log r.model (sim n files m r) c.file in_range) ∙ c.was)
    where
      in_range : is_file r.model.files c.file ≡ true
      in_range = rw (r.at.files_are, le-leb 1 c.file c.low, le-leb c.file files c.high)

      go : (z : Option Placed) → current r.log c.file ≡ z → image_in z ≡ some c.old → Before files (on m) i
      go none e h = clash cc
      go (some x) e h =
          let o : x.image ≡ c.old = cc in
          let v = log_version n files (on m) r refl c.file x (head_among (versions r.log c.file) x e) in
          record {
            place = x.place;
            old = x.image;
            version = (v.0, refl, v.2);
            same = record {
              file = ap (λ (y : Image). y.file) o ∙ sym (ap (λ (y : Image). y.file) c.is);
              start = ap (λ (y : Image). y.start) o ∙ sym (ap (λ (y : Image). y.start) c.is);
              value = ap (λ (y : Image). y.value) o ∙ sym (ap (λ (y : Image). y.value) c.is);
            };
          }

before_move : (n files : ℕ) (b : Box) (r : Reached n files b) (x : Event) → is_moved b x ≡ true → (q : ℕ) (j : Image) → Lies (log_after n files b r x) q (image j) → Before files b j
before_move n files (on u) r x m q j y =
    was_version n files u r j (from_move_log (warm_rows (world_in n files u)) files q j (subst (λ l. Lies l q (image j)) (from_move_of n files u r x m) y))
before_move n files (off u) r (calls k) m q j y = clash cc
before_move n files (off u) r (opens floor fates rows) m q j y = clash cc
before_move n files (off u) r (cuts k kept) m q j y = clash cc
before_move n files (off u) r (moves fresh) m q j y = clash cc
before_move n files (off u) r (cuts_move fresh k) m q j y = clash cc

-- ---- along a run

same_same : (i : Image) → SameVersion i i
same_same i = record { file = refl; start = refl; value = refl }

same_then : {i j k : Image} → SameVersion i j → SameVersion j k → SameVersion i k
same_then x y = record { file = x.file ∙ y.file; start = x.start ∙ y.start; value = x.value ∙ y.value }

-- before a move of the run it was a version of the sheet
pub record WasVersion (files : ℕ) (b : Box) (es : List Event) (i : Image) : Type 0 where
  pub before : List Event
  pub rest : List Event
  pub parts : es ≡ before ++ rest
  pub moved : moved_in (runs b before) rest ≡ true
  pub place : ℕ
  pub old : Image
  pub version : IsVersion files (runs b before) old.file place old
  pub same : SameVersion old i

-- it was there and no move took place; it was added since the last one; it was a version that was there, at the first move; or one that had
-- been added
data Past (files : ℕ) (b : Box) (l : List Entry) (es : List Event) (p : ℕ) (i : Image) : Type 0 where
  there : moved_in b es ≡ false → Lies l p (image i) → Past files b l es p i
  added : Added b es p (image i) → Past files b l es p i
  left : (v : WasVersion files b es i) → moved_in b v.before ≡ false → Lies l v.place (image v.old) → Past files b l es p i
  since : (v : WasVersion files b es i) → Added b v.before v.place (image v.old) → Past files b l es p i

module _ (x : Event) where
  abbrev later_added : {b : Box} {es : List Event} {p : ℕ} {g : Entry} → Added (after b x) es p g → Added b (x ∷ es) p g
  later_added y = record { before = x ∷ y.before; event = y.event; rest = y.rest; parts = ap (λ l. x ∷ l) y.parts; adds = y.adds; since = y.since }

  abbrev later_version : {files : ℕ} {b : Box} {es : List Event} {i : Image} → WasVersion files (after b x) es i → WasVersion files b (x ∷ es) i
  later_version y = record { before = x ∷ y.before; rest = y.rest; parts = ap (λ l. x ∷ l) y.parts; moved = y.moved; place = y.place; old = y.old; version = y.version; same = y.same }

past : (n files : ℕ) (b : Box) (r : Reached n files b) (es : List Event) → AllAllowed files b es → (p : ℕ) (i : Image) → sealed files (sheet_of (runs b es)) p ≡ image i
    → Past files b r.log es p i
past n files b r [] al p i e = there refl (page_lies_in n files b r p (image i) (solid_image i) e)
past n files b r (x ∷ es) al p i e = go (is_moved b x) refl (past (pages_after n b x) files (after b x) (reached_next n files b r x al.0) es al.1 p i e)
  where
    by_move : is_moved b x ≡ true → (q : ℕ) (j : Image) → Lies (log_after n files b r x) q (image j) → SameVersion j i → Past files b r.log (x ∷ es) p i
    by_move m q j y s =
        let k = before_move n files b r x m q j y in
        left (record { before = []; rest = x ∷ es; parts = refl; moved = ap (λ c. c || moved_in (after b x) es) m; place = k.place; old = k.old; version = k.version; same = same_then k.same s })
        refl (page_lies_in n files b r k.place (image k.old) (solid_image k.old) k.version.0.here)

    here : is_moved b x ≡ false → moved_in (after b x) es ≡ false → Lies r.log p (image i) ⊎ Adds b x p (image i) → Past files b r.log (x ∷ es) p i
    here m q (inl y) = there (rw (m, q)) y
    here m q (inr y) = added (record { before = []; event = x; rest = es; parts = refl; adds = y; since = q })

    behind : is_moved b x ≡ false → (v : WasVersion files (after b x) es i) → moved_in (after b x) v.before ≡ false
        → Lies r.log v.place (image v.old) ⊎ Adds b x v.place (image v.old) → Past files b r.log (x ∷ es) p i
    behind m v q (inl y) = left (later_version x v) (rw (m, q)) y
    behind m v q (inr y) = since (later_version x v) (record { before = []; event = x; rest = v.before; parts = refl; adds = y; since = q })

    go : (c : Bool) → is_moved b x ≡ c → Past files (after b x) (log_after n files b r x) es p i → Past files b r.log (x ∷ es) p i
    go c m (added y) = added (later_added x y)
    go c m (since v y) = since (later_version x v) (later_added x y)
    go false m (there q y) = here m q (from_event n files b r x m p (image i) (solid_image i) y)
    go true m (there q y) = by_move m p i y (same_same i)
    go false m (left v q y) = behind m v q (from_event n files b r x m v.place (image v.old) (solid_image v.old) y)
    go true m (left v q y) = by_move m v.place v.old y v.same

-- ---- on a sheet that began blank

-- an event of a part of a run is one of the whole run
pub longer : (es before rest before' rest' : List Event) (e : Event) → es ≡ before ++ rest → before ≡ before' ++ e ∷ rest' → es ≡ before' ++ e ∷ (rest' ++ rest)
longer es before rest before' rest' e p q = p ∙ ap (λ l. l ++ rest) q ∙ append_assoc before' (e ∷ rest') rest

module _ (n files : ℕ) (es : List Event) (r : Run n files es) (p : ℕ) (i : Image) (e : sealed files (sheet_of (runs (blank_box n) es)) p ≡ image i) where
  pub whence : Added (blank_box n) es p (image i) ⊎ ((v : WasVersion files (blank_box n) es i) × Added (blank_box n) v.before v.place (image v.old))
  whence = go (past n files (blank_box n) (reached_blank n files r.sized) es r.allowed p i e)
    where
      go : Past files (blank_box n) [] es p i → Added (blank_box n) es p (image i) ⊎ ((v : WasVersion files (blank_box n) es i) × Added (blank_box n) v.before v.place (image v.old))
      go (there q y) = absurd (omega (arith, y.low, y.high))
      go (added y) = inl y
      go (left v q y) = absurd (omega (arith, y.low, y.high))
      go (since v y) = inr (v, y)

  -- in short: a write stored it once, or one like it
  pub record OnceAdded : Type 0 where
    pub before : List Event
    pub event : Event
    pub rest : List Event
    pub parts : es ≡ before ++ event ∷ rest
    pub place : ℕ
    pub first : Image
    pub adds : Adds (runs (blank_box n) before) event place (image first)
    pub same : SameVersion first i

  pub once : OnceAdded
  once = go whence
    where
      go : Added (blank_box n) es p (image i) ⊎ ((v : WasVersion files (blank_box n) es i) × Added (blank_box n) v.before v.place (image v.old)) → OnceAdded
      go (inl a) = record { before = a.before; event = a.event; rest = a.rest; parts = a.parts; place = p; first = i; adds = a.adds; same = same_same i }
      go (inr y) = let v = y.0 in let a = y.1 in
          record { before = a.before; event = a.event; rest = a.rest ++ v.rest; parts = longer es v.before v.rest a.before a.rest a.event v.parts a.parts; place = v.place; first = v.old; adds = a.adds; same = v.same }
