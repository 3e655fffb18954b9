-- In a run no undecided action is a carried one: what was carried over to a sheet is committed before the sheet is used. So no opening
-- finds a move unfinished, and no version that is committed later is a carried one.
use Prim.Native.Nat.{ℕ, suc, ◌*◌, ◌/◌}
use mathlib.Core.Path.{◌≡◌, refl, sym, ap, subst, ◌∙◌}
use mathlib.Core.List.{List, [], ◌∷◌}
use mathlib.Core.Bool.{Bool, true, false, cond, not, ◌||◌}
use mathlib.Core.Option.{Option, some, none}
use native.Mathlib.Omega.{arith}
use lib.ListN.{length}
use lib.Dec.{eqb, leb}
use borrow.Author.Tests.{eqb-true}
use Rattle.encoding.proofs.Logic.{by_test, and_false, clash}
use Rattle.page.specs.Layout.{page_size, kind_at, mark_at}
use Rattle.recovery.specs.Numbers.{is_refused}
use Rattle.calls.specs.Calls.{Call, begin, write, read, test, decide, rebuild}
use Rattle.promises.specs.Runs.{Box, Event, calls, opens, cuts, moves, cuts_move, after, AllAllowed}
use Rattle.promises.specs.Model.{Status, pending, committed, aborted, Model, Reply, stores, decided_as, model_call, model_opened, model_cut, is_pending, moved_pages, model_moved, model_move, is_unfinished, is_opened, model_after}
use Rattle.promises.proofs.worlds.LogSays.{carried_above}
use Rattle.promises.proofs.worlds.ModelCalls.{begins, writes, reads, tests, decides, rebuilds}
use Rattle.promises.proofs.boxes.Boxes.{is_on, Reached}
use Rattle.promises.proofs.boxes.BoxRuns.{pages_after, move_model, reached_next, reached_on}

abbrev pub Settled : Model → Type 0
Settled m = (a : ℕ) → m.status a ≡ some pending → m.carried a ≡ false

pub never_unfinished : (m : Model) → Settled m → is_unfinished m ≡ false
never_unfinished m h = go (m.status 1) refl
  where
    go : (z : Option Status) → m.status 1 ≡ z → is_unfinished m ≡ false
    go none e = and_false (m.carried 1) (is_pending (m.status 1)) (ap is_pending e)
    go (some pending) e = rw (h 1 e)
    go (some (committed p)) e = and_false (m.carried 1) (is_pending (m.status 1)) (ap is_pending e)
    go (some (aborted p)) e = and_false (m.carried 1) (is_pending (m.status 1)) (ap is_pending e)

module _ (m : Model) (h : Settled m) (above : m.carried (suc m.used) ≡ false) where
  abbrev Keeps : Reply → Type 0
  Keeps r = Settled r.1

  begin_keeps : (a : ℕ) (b : Bool) → eqb a (suc m.used) ≡ b → cond b (some pending) (m.status a) ≡ some pending → m.carried a ≡ false
  begin_keeps a true e p = ap m.carried (eqb-true a (suc m.used) e) ∙ above
  begin_keeps a false e p = h a p

  decide_keeps : (a : ℕ) (b c : Bool) → cond b (some (decided_as c (suc m.used))) (m.status a) ≡ some pending → m.carried a ≡ false
  decide_keeps a true true p = clash cc
  decide_keeps a true false p = clash cc
  decide_keeps a false c p = h a p

  call_settled : (k : Call) → Settled (model_call m k).1
  call_settled begin = begins Keeps m (λ n p. h) (λ e a p. begin_keeps a (eqb a (suc m.used)) refl p)
  call_settled (write f start a v) = writes Keeps m (λ n p. h) f start a v (λ j k e. h)
  call_settled (read f t a) = reads Keeps m (λ n p. h) f t a (λ x e. h) (λ e. h) (λ x e j k. h)
  call_settled (test a) = tests Keeps m (λ n p. h) a (λ n p. h)
  call_settled (decide a c) = decides Keeps m (λ n p. h) a c (λ p. h) (λ q e b p. decide_keeps b (eqb b a) c p)
  call_settled (rebuild f) = rebuilds Keeps m (λ n p. h) f (λ x. h)

  cut_settled : (k : Call) (kept : ℕ → Bool) → Settled (model_cut m k kept)
  cut_settled k kept = go (eqb (model_call m k).1.used m.used || not (kept kind_at)) (kept mark_at)
    where
      go : (a b : Bool) → Settled (cond a m (cond b (model_call m k).1 (stores m m.undecided m.status m.object)))
      go true b = h
      go false true = call_settled k
      go false false = h

open_settled : (m : Model) → Settled m → (floor : ℕ) (c : Bool) → Settled (cond c (model_opened m floor) m)
open_settled m h floor true = h
open_settled m h floor false = h

move_settled : (m : Model) → Settled m → (fresh : List ℕ) → Settled (model_move m fresh).1
move_settled m h fresh = subst Settled (sym (move_model m fresh)) (go (is_refused (model_move m fresh).0))
  where
    none_pending : (b : Bool) (p : ℕ) → cond b (some (committed p)) none ≡ some pending → ⊥
    none_pending true p e = clash cc
    none_pending false p e = clash cc

    go : (c : Bool) → Settled (cond c m (model_moved m (length fresh / page_size)))
    go true = h
    go false = λ a p. absurd (none_pending (eqb a 1) (moved_pages m) p)

pub settled_next : (n files : ℕ) (b : Box) (r : Reached n files b) (e : Event) → Settled r.model → Settled (model_after (is_on b) r.model e)
settled_next n files b r e h = go (is_on b) e
  where
    above : r.model.carried (suc r.model.used) ≡ false
    above = r.at.says.carried (suc r.model.used) ∙ carried_above r.log (suc r.model.used) (omega (arith, r.at.says.used))

    go : (o : Bool) (e : Event) → Settled (model_after o r.model e)
    go true (calls k) = call_settled r.model h above k
    go false (calls k) = h
    go o (opens floor fates rows) = open_settled r.model h floor (is_opened r.model fates rows)
    go true (cuts k kept) = cut_settled r.model h above k kept
    go false (cuts k kept) = h
    go true (moves fresh) = move_settled r.model h fresh
    go false (moves fresh) = h
    go true (cuts_move fresh k) = by_test Settled (leb (page_size * moved_pages r.model) k) (λ e. move_settled r.model h fresh) (λ e. h)
    go false (cuts_move fresh k) = h

pub settled_on : (n files : ℕ) (b : Box) (r : Reached n files b) (es : List Event) (al : AllAllowed files b es) → Settled r.model → Settled (reached_on n files b r es al).model
settled_on n files b r [] al h = h
settled_on n files b r (e ∷ es) al h = settled_on (pages_after n b e) files (after b e) (reached_next n files b r e al.0) es al.1 (settled_next n files b r e h)
