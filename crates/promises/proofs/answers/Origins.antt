-- Every page of a run's sheet that is not torn has an origin: a call that was answered, or cut with its whole page stored.
use Rattle.moving.proofs.FreshVersions.{move_carried}
use Rattle.moving.proofs.FreshLog.{topped, log_to, move_log, log_long}
use Rattle.moving.specs.Moved.{version_of, carried, warm_rows}
use Rattle.recovery.specs.World.{World, is_carried}
use Rattle.promises.proofs.boxes.Extends.{stays}
use Rattle.promises.proofs.boxes.BoxMoves.{fresh_log}
use Prim.Native.Nat.{ℕ, suc, zero}
use mathlib.Core.Path.{◌≡◌, refl, sym, ap, ◌∙◌, subst}
use mathlib.Core.List.{List, [], ◌∷◌, ◌++◌}
use mathlib.Core.Bool.{Bool, true, false, cond, false≢true}
use mathlib.Core.Option.{some, Option, none}
use mathlib.Core.Logic.{◌⊎◌, inl, inr}
use native.Mathlib.Omega.{arith}
use lib.ListN.{length}
use borrow.Author.Tests.{eq-eqb, ne_eqb}
use Rattle.page.specs.Layout.{page_size, kind_at, mark_at}
use Rattle.recovery.specs.Log.{Entry, torn, Image, blank, bad, opening, image, outcome}
use Rattle.recovery.specs.Sheet.{sealed}
use Rattle.recovery.specs.declared.Answer.TheVariants.{Stored}
use Rattle.recovery.specs.Lent.{Left}
use Rattle.calls.specs.Calls.{Call}
use Rattle.recovery.proofs.Spots.{entry_top, entry_in}
use Rattle.promises.specs.Runs.{Box, on, off, sheet_of, Event, calls, opens, cuts, answer_to, after, runs, AllAllowed, blank_box, Run, moves, cuts_move, is_moved, moved_in}
use Rattle.promises.specs.Promises.{IsPageOf, IsWhole, Did}
use Rattle.promises.specs.Model.{model_call}
use Rattle.promises.proofs.logs.Outcomes.{Lies, lies_cons}
use Rattle.promises.proofs.worlds.Sim.{Writes, Step, stay, add}
use Rattle.promises.proofs.bytes.Stored.{bytes_of}
use Rattle.promises.proofs.bytes.Cuts.{cut_log, partial_log}
use Rattle.promises.proofs.boxes.BoxPages.{Solid, page_lies_in}
use Rattle.promises.proofs.boxes.Found.{writes_page}
use Rattle.promises.proofs.boxes.Boxes.{Reached, agrees, model_says, world_in}
use Rattle.promises.proofs.boxes.BoxRuns.{log_after, reached_next, reached_blank, pages_after}
use Rattle.promises.proofs.answers.Heard.{hears}

-- ---- what an event adds

pub record Adds (b : Box) (e : Event) (p : ℕ) (g : Entry) : Type 0 where
  pub by : Call
  pub whole : IsWhole by e
  pub stored : answer_to b (calls by) ≡ some (Stored p)
  pub page : IsPageOf by g

module _ (n files : ℕ) where
  module _ (m : Left) (r : Reached n files (on m)) (k : Call) (p : ℕ) (g : Entry) (s : Solid g) where
    abbrev l : List Entry
    l = r.log

    -- the page that it wrote
    new : (e : Event) → IsWhole k e → (x : Entry) → Writes r.model.files l k x → (model_call r.model k).0 ≡ Stored (suc (length l)) → p ≡ suc (length l) → x ≡ g → Adds (on m) e p g
    new e w x h q a c = record {
      by = k;
      whole = w;
      stored = ap some (model_says n files m r k ∙ q ∙ ap Stored (sym a));
      page = subst (IsPageOf k) c (writes_page r.model.files l k x h);
    }

    -- of a log with that page, it is one of the others or that page
    last : (e : Event) → IsWhole k e → (x : Entry) → Writes r.model.files l k x → (model_call r.model k).0 ≡ Stored (suc (length l)) → Lies (x ∷ l) p g → Lies l p g ⊎ Adds (on m) e p g
    last e w x h q y = turn (lies_cons x l p g y)
      where
        turn : Lies l p g ⊎ ((p ≡ suc (length l)) × (x ≡ g)) → Lies l p g ⊎ Adds (on m) e p g
        turn (inl y) = inl y
        turn (inr y) = inr (new e w x h q y.0 y.1)

    from_call : {u : List Entry} → Step r.model.files k l (model_call r.model k).0 u → Lies u p g → Lies l p g ⊎ Adds (on m) (calls k) p g
    from_call (stay q) y = inl y
    from_call (add x h q) y = last (calls k) refl x h q y

    -- a cut adds nothing, a torn page, or the whole page
    from_cut : (kept : ℕ → Bool) {u : List Entry} → Step r.model.files k l (model_call r.model k).0 u → Lies (cut_log l u (bytes_of kept)) p g → Lies l p g ⊎ Adds (on m) (cuts k kept) p g
    unfolding cut_log
    from_cut kept (stay q) y = inl (rw (eq-eqb (length l) (length l) refl) at y)
    from_cut kept (add x h q) y = cases (kept kind_at) (kept mark_at) refl (rw (ne_eqb (suc (length l)) (length l) (λ e. omega arith), entry_top x l) at y)
      where
        torn_part : Lies (torn ∷ l) p g → Lies l p g
        torn_part q = turn (lies_cons torn l p g q)
          where
            turn : Lies l p g ⊎ ((p ≡ suc (length l)) × (torn ≡ g)) → Lies l p g
            turn (inl y) = y
            turn (inr y) = absurd (s.not_torn (sym y.1))

        cases : (a b : Bool) → kept mark_at ≡ b → Lies (partial_log (cond a (cond b page_size 1) 0) x l) p g → Lies l p g ⊎ Adds (on m) (cuts k kept) p g
        cases false b e y = inl y
        cases true false e y = inl (torn_part y)
        cases true true e y = last (cuts k kept) (refl, e) x h q y

  pub from_event : (b : Box) (r : Reached n files b) (e : Event) → is_moved b e ≡ false → (p : ℕ) (g : Entry) → Solid g
      → Lies (log_after n files b r e) p g → Lies r.log p g ⊎ Adds b e p g
  from_event (on m) r (calls k) t p g s h = from_call m r k p g s (agrees n files m r k).step h
  from_event (off u) r (calls k) t p g s h = inl h
  from_event (on m) r (opens floor fates rows) t p g s h = inl h
  from_event (off u) r (opens floor fates rows) t p g s h = inl h
  from_event (on m) r (cuts k kept) t p g s h = from_cut m r k p g s kept (agrees n files m r k).step h
  from_event (off u) r (cuts k kept) t p g s h = inl h
  from_event (on m) r (moves fresh) t p g s h = inl (subst (λ c. Lies (cond c (fresh_log n files m r fresh) r.log) p g) t h)
  from_event (off u) r (moves fresh) t p g s h = inl h
  from_event (on m) r (cuts_move fresh k) t p g s h = inl (subst (λ c. Lies (cond c (fresh_log n files m r fresh) r.log) p g) t h)
  from_event (off u) r (cuts_move fresh k) t p g s h = inl h

  -- a move that takes place leaves the fresh log
  pub from_move_of : (m : Left) (r : Reached n files (on m)) (e : Event) → is_moved (on m) e ≡ true → log_after n files (on m) r e ≡ move_log (warm_rows (world_in n files m)) files
  from_move_of m r (calls k) t = absurd (false≢true t)
  from_move_of m r (opens floor fates rows) t = absurd (false≢true t)
  from_move_of m r (cuts k kept) t = absurd (false≢true t)
  from_move_of m r (moves fresh) t = ap (λ c. cond c (fresh_log n files m r fresh) r.log) t
  from_move_of m r (cuts_move fresh k) t = ap (λ c. cond c (fresh_log n files m r fresh) r.log) t

  from_move : (b : Box) (r : Reached n files b) (e : Event) → is_moved b e ≡ true → (v : World) × (log_after n files b r e ≡ move_log v files)
  from_move (on m) r e t = (warm_rows (world_in n files m), from_move_of m r e t)
  from_move (off u) r (calls k) t = absurd (false≢true t)
  from_move (off u) r (opens floor fates rows) t = absurd (false≢true t)
  from_move (off u) r (cuts k kept) t = absurd (false≢true t)
  from_move (off u) r (moves fresh) t = absurd (false≢true t)
  from_move (off u) r (cuts_move fresh k) t = absurd (false≢true t)

-- ---- what a move carries over

-- its pages: the carried opening, images and the outcome of action 1
abbrev pub OfMove : Entry → Type 0
OfMove blank = ⊥
OfMove torn = ⊥
OfMove bad = ⊥
OfMove (opening k) = k ≡ true
OfMove (image i) = i.action ≡ 1
OfMove (outcome a c) = (a ≡ 1) × (c ≡ true)

log_of_move : (v : World) (k p : ℕ) (g : Entry) → Lies (log_to v k) p g → OfMove g
unfolding log_to
log_of_move v zero p g h = only (lies_cons (opening true) [] p g h)
  where
    only : Lies [] p g ⊎ ((p ≡ 1) × (opening true ≡ g)) → OfMove g
    only (inl y) = absurd (omega (arith, y.low, y.high))
    only (inr y) = subst OfMove y.1 refl
log_of_move v (suc k) p g h = go (version_of v (suc k)) (log_of_move v k p g) h
  where
    go : (z : Option Image) → (Lies (log_to v k) p g → OfMove g) → Lies (topped z (log_to v k)) p g → OfMove g
    go none r h = r h
    go (some i) r h = only (lies_cons (image (carried i)) (log_to v k) p g h)
      where
        only : Lies (log_to v k) p g ⊎ ((p ≡ suc (length (log_to v k))) × (image (carried i) ≡ g)) → OfMove g
        only (inl y) = r y
        only (inr y) = subst OfMove y.1 refl

pub of_move : (v : World) (k p : ℕ) (g : Entry) → Lies (move_log v k) p g → OfMove g
of_move v k p g h = only (lies_cons (outcome 1 true) (log_to v k) p g h)
  where
    only : Lies (log_to v k) p g ⊎ ((p ≡ suc (length (log_to v k))) × (outcome 1 true ≡ g)) → OfMove g
    only (inl y) = log_of_move v k p g y
    only (inr y) = subst OfMove y.1 (refl, refl)

pub carried_first : (g : Entry) → is_carried g ≡ true → g ≡ opening true
carried_first blank e = absurd (false≢true e)
carried_first torn e = absurd (false≢true e)
carried_first bad e = absurd (false≢true e)
carried_first (opening k) e = ap opening e
carried_first (image i) e = absurd (false≢true e)
carried_first (outcome a c) e = absurd (false≢true e)

move_first : (v : World) (k : ℕ) → Lies (move_log v k) 1 (opening true)
move_first v k = record { low = omega arith; high = omega (arith, log_long v k); here = carried_first (entry_in (move_log v k) 1) (move_carried v k 1) }

-- ---- what a run adds, on the sheet that it comes to

pub record Added (b : Box) (es : List Event) (p : ℕ) (g : Entry) : Type 0 where
  pub before : List Event
  pub event : Event
  pub rest : List Event
  pub parts : es ≡ before ++ event ∷ rest
  pub adds : Adds (runs b before) event p g
  pub since : moved_in (after (runs b before) event) rest ≡ false

-- a page was there and no move took place, or was added since the last one, or was stored by that
pub data From (files : ℕ) (b : Box) (l : List Entry) (es : List Event) (p : ℕ) (g : Entry) : Type 0 where
  there : moved_in b es ≡ false → Lies l p g → From files b l es p g
  added : Added b es p g → From files b l es p g
  moved : OfMove g → sealed files (sheet_of (runs b es)) 1 ≡ opening true → From files b l es p g

pub from_run : (n files : ℕ) (b : Box) (r : Reached n files b) (es : List Event) → AllAllowed files b es → (p : ℕ) (g : Entry) → Solid g
    → sealed files (sheet_of (runs b es)) p ≡ g → From files b r.log es p g
from_run n files b r [] al p g s e = there refl (page_lies_in n files b r p g s e)
from_run n files b r (x ∷ es) al p g s e =
    go (is_moved b x) refl (from_run (pages_after n b x) files (after b x) (reached_next n files b r x al.0) es al.1 p g s e)
  where
    turn : moved_in (after b x) es ≡ false → is_moved b x ≡ false → Lies r.log p g ⊎ Adds b x p g → From files b r.log (x ∷ es) p g
    turn q m (inl y) = there (rw (m, q)) y
    turn q m (inr y) = added (record { before = []; event = x; rest = es; parts = refl; adds = y; since = q })

    by_move : is_moved b x ≡ true → moved_in (after b x) es ≡ false → Lies (log_after n files b r x) p g → From files b r.log (x ∷ es) p g
    by_move m q y =
        let f = from_move n files b r x m in
        let o : Lies (log_after n files b r x) 1 (opening true) = subst (λ l. Lies l 1 (opening true)) (sym f.1) (move_first f.0 files) in
        moved (of_move f.0 files p g (subst (λ l. Lies l p g) f.1 y))
        (stays (pages_after n b x) files (after b x) (reached_next n files b r x al.0) es al.1 q 1 (opening true) o.low o.high o.here)

    go : (c : Bool) → is_moved b x ≡ c → From files (after b x) (log_after n files b r x) es p g → From files b r.log (x ∷ es) p g
    go c m (added y) = added (record { before = x ∷ y.before; event = y.event; rest = y.rest; parts = ap (λ l. x ∷ l) y.parts; adds = y.adds; since = y.since })
    go c m (moved o q) = moved o q
    go false m (there q y) = turn q m (from_event n files b r x m p g s y)
    go true m (there q y) = by_move m q y

-- ---- on a sheet that began blank

module _ (n files : ℕ) where
  pub origin : (es : List Event) → Run n files es → (p : ℕ) (g : Entry) → Solid g → sealed files (sheet_of (runs (blank_box n) es)) p ≡ g
      → Added (blank_box n) es p g ⊎ (OfMove g × (sealed files (sheet_of (runs (blank_box n) es)) 1 ≡ opening true))
  origin es r p g s e = go (from_run n files (blank_box n) (reached_blank n files r.sized) es r.allowed p g s e)
    where
      go : From files (blank_box n) [] es p g → Added (blank_box n) es p g ⊎ (OfMove g × (sealed files (sheet_of (runs (blank_box n) es)) 1 ≡ opening true))
      go (there q y) = absurd (omega (arith, y.low, y.high))
      go (added y) = inl y
      go (moved o q) = inr (o, q)

  pub did : (es : List Event) (p : ℕ) (g : Entry) (a : Added (blank_box n) es p g) → Did n files es a.adds.by p
  did es p g a = record {
    once = record {
      before = a.before;
      event = a.event;
      rest = a.rest;
      parts = a.parts;
      whole = a.adds.whole;
      stored = hears (runs (blank_box n) a.before) (calls a.adds.by) (Stored p) a.adds.stored;
    };
    since = a.since;
  }
