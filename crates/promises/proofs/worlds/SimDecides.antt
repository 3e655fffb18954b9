-- Commit and abort do what the model does, on rebuilt rows and on cold ones.
use mathlib.Core.Path.{◌≡◌, refl, ap, ◌∙◌}
use mathlib.Core.List.{List, ◌∷◌}
use mathlib.Core.Bool.{Bool, true, false, cond, ◌&&◌}
use mathlib.Core.Option.{Option, some, none}
use Prim.Native.Nat.{ℕ, zero, suc, pred, ◌+◌, ◌-◌, ◌≤◌, ◌<◌}
use native.Mathlib.Omega.{arith}
use lib.ListN.{length}
use lib.Dec.{eqb}
use borrow.Author.Tests.{eqb-true, leb-true, eq-eqb, le-leb}
use Rattle.encoding.proofs.Logic.{and_false, and_same}
use Rattle.recovery.specs.Places.{nth, put}
use Rattle.recovery.specs.Log.{Entry, outcome, undecided, Placed, verdict, fate_of, place_of, start_of, action_of}
use Rattle.recovery.specs.World.{World, fate_number, cold, rebuilt_row, row_at, is_file}
use Rattle.recovery.specs.declared.Refusal.TheVariants.{NoRoom}
use Rattle.recovery.specs.declared.Row.{Row}
use Rattle.recovery.proofs.Lookups.{is_file_lem}
use Rattle.recovery.proofs.LogFates.{undecided_known}
use Rattle.inspection.specs.Lawful.{current, token}
use Rattle.calls.specs.Calls as store
use Rattle.calls.specs.Calls.{decide, append, decided, is_token_at, settled, each_row, on_decide}
use Rattle.calls.proofs.DecideRows.{row_each, row_each_long}
use Rattle.recovery.proofs.Spots.{Lies}
use Rattle.promises.specs.Model.{Object, Model, changed, stores, stored, refuses, has_room, decided_as, current_end, token_end}
use Rattle.promises.proofs.logs.Logs.{known_place}
use Rattle.promises.proofs.logs.Appends.{owns, outcome_current, outcome_token}
use Rattle.promises.proofs.logs.Fates.{outcome_fates}
use Rattle.promises.proofs.worlds.LogSays.{left_current, left_end, left, left_is, outcome_says}
use Rattle.promises.proofs.worlds.Sim.{warm_of, row_for, Sim, Agrees, agrees_cond, refused, token_lies, room_eq, blank_ok, lies_at, sim_append, appended}

nth_each : (k : ℕ → Row → Row) (rs : List Row) (f : ℕ) → 1 ≤ f → f ≤ length rs → nth cold (each_row k 0 rs) f ≡ k f (nth cold rs f)
nth_each k rs zero h l = absurd (omega arith)
nth_each k rs (suc j) h l = let z : 0 + j ≡ j = omega arith in rw z at (row_each k 0 rs j l)

module _ (w : World) (l : List Entry) (m : Model) (s : Sim w l m) where
  -- a row's token is the action's if both the row and the page say so
  own_eq : (f a : ℕ) (z : Option Placed) → Lies l f z → (eqb (action_of z) a && is_token_at w a f (place_of z)) ≡ owns a z
  own_eq f a none h = rw (le-leb 0 w.end (omega arith)) (and_false (eqb 0 a) false refl)
  own_eq f a (some x) h = rw (s.ends, le-leb x.place (length l) h.high, lies_at w l m s f x h, eq-eqb x.image.file f h.mine) (and_same (eqb x.image.action a))

  module _ (a : ℕ) (c : Bool) (o : fate_of l a ≡ undecided) where
    abbrev objects : ℕ → Object
    objects = left m a c

    -- the row of a file, where the action owns the token or does not, and commits or aborts
    abbrev after : (b c : Bool) (t k : Option Placed) (x y : ℕ) → Row
    after b c t k x y = record {
      mark = 1;
      current = place_of (cond b (cond c t k) k);
      currentend = cond b (cond c x y) y;
      token = place_of (cond b none t);
      tokenend = cond b 0 x;
      tokenaction = action_of (cond b none t);
    }

    row_is : (f : ℕ) → row_for (outcome a c ∷ l) (objects f) f ≡ after (owns a (token l f)) c (token l f) (current l f) (token_end (m.object f)) (current_end (m.object f))
    row_is f = rw (
      outcome_current a c l f o s.lawful,
      outcome_token a c l f o s.lawful,
      left_is l m s.says a c f,
      left_current a c (m.object f) (token l f) (s.says.token f),
      left_end a c (m.object f) (token l f),
    )

    cold_case : (b c : Bool) (t k : Option Placed)
        → record {
          mark = 1;
          current = place_of (cond b (cond c t k) k);
          currentend = start_of (cond b (cond c t k) k);
          token = place_of (cond b none t);
          tokenend = start_of (cond b none t);
          tokenaction = action_of (cond b none t);
        } ≡ after b c t k (start_of t) (start_of k)
    cold_case true true t k = refl
    cold_case true false t k = refl
    cold_case false c t k = refl

    warm_case : (b c : Bool) (t k : Option Placed) (x y : ℕ) (z : Row) →
        let r : Row = record { mark = 1; current = place_of k; currentend = y; token = place_of t; tokenend = x; tokenaction = action_of t } in
        cond (eqb (cond b (decided c r) r).mark 0) z (cond b (decided c r) r) ≡ after b c t k x y
    warm_case true true t k x y z = refl
    warm_case true false t k x y z = refl
    warm_case false c t k x y z = refl

    -- a cold row is rebuilt later to what a rebuilt one becomes now
    settled_eq : (f : ℕ) (r : Row) → warm_of r l f ≡ row_for l (m.object f) f → warm_of (settled w a c f r) (outcome a c ∷ l) f ≡ row_for (outcome a c ∷ l) (objects f) f
    settled_eq f r h = rw (row_is f) (go (eqb r.mark 0) refl)
      where
        go : (b : Bool) → eqb r.mark 0 ≡ b
            → warm_of (settled w a c f r) (outcome a c ∷ l) f ≡ after (owns a (token l f)) c (token l f) (current l f) (token_end (m.object f)) (current_end (m.object f))
        go true e =
            let q : rebuilt_row l (fate_of l) f ≡ row_for l (m.object f) f = rw e at h in
            let x : start_of (current l f) ≡ current_end (m.object f) = ap (λ r. r.currentend) q in
            let y : start_of (token l f) ≡ token_end (m.object f) = ap (λ r. r.tokenend) q in
            rw (eqb-true r.mark 0 e, outcome_current a c l f o s.lawful, outcome_token a c l f o s.lawful, ← x, ← y) (cold_case (owns a (token l f)) c (token l f) (current l f))
        go false e =
            let q : r ≡ row_for l (m.object f) f = rw e at h in
            rw (q, own_eq f a (token l f) (token_lies l f)) (warm_case (owns a (token l f)) c (token l f) (current l f) (token_end (m.object f)) (current_end (m.object f)) _)

    fs : List ℕ
    fs = put w.fates a (fate_number (verdict c))

    rs : List Row
    rs = each_row (settled w a c) 0 w.rows

    rows_in : (f : ℕ) → is_file m.files f ≡ true → warm_of (nth cold rs f) (outcome a c ∷ l) f ≡ row_for (outcome a c ∷ l) (objects f) f
    unfolding rs
    rows_in f h =
        let b = is_file_lem m.files f h in
        rw (nth_each (settled w a c) w.rows f b.0 (rw s.files b.1)) (settled_eq f (row_at w f) (s.rows f h))

    new : length l < m.pages → Sim (append w (outcome a c) fs rs (pred w.undecided)) (outcome a c ∷ l) (stores m (pred m.undecided) (changed m.status a (some (decided_as c (suc m.used)))) objects)
    unfolding fs rs
    new k =
        sim_append w l m s (outcome a c) fs rs (pred w.undecided) (pred m.undecided) (changed m.status a (some (decided_as c (suc m.used)))) objects o k
        (rw s.fates (outcome_fates m.pages l a c (known_place l a s.lawful (undecided_known o)).0)) (ap pred s.undecided)
        (row_each_long (settled w a c) 0 w.rows ∙ s.files) rows_in (outcome_says l m s.says s.lawful s.room a c o)

    pub sim_decide : Agrees m.files (decide a c) l (on_decide w a c) (cond (has_room m 1) (stored m (pred m.undecided) (changed m.status a (some (decided_as c (suc m.used)))) objects) (refuses NoRoom 0 m))
    unfolding fs rs
    sim_decide =
        agrees_cond (store.has_room w 1) (has_room m 1) (room_eq w l m s 1)
        (λ e. rw (blank_ok w l m s) (appended w l m s (outcome a c) _ _ _ _ refl (new (omega (arith, s.says.used, leb-true 1 (m.pages - m.used) e)))))
        (λ e. refused NoRoom 0 0 refl s)
