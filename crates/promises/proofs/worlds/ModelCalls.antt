-- Each call of the object model is refused, or does the one thing that it is for: what holds of a refusal and of that thing holds of
-- the call.
use mathlib.Core.Path.{◌≡◌, refl}
use mathlib.Core.List.{List}
use mathlib.Core.Bool.{Bool, true, false, cond, not, ◌&&◌, ◌||◌}
use mathlib.Core.Option.{Option, some, none}
use Prim.Native.Nat.{ℕ, suc, pred, max, ◌+◌, ◌≤◌, ◌<◌}
use native.Mathlib.Omega.{arith}
use lib.ListN.{length}
use lib.Dec.{eqb, leb, ltb}
use borrow.Author.Tests.{eqb-true, ltb-true, leb-true}
use Rattle.encoding.proofs.Logic.{by_test, and_true}
use Rattle.page.specs.Layout.{value_size, kind_at, mark_at}
use Rattle.recovery.specs.declared.Refusal.{Refusal}
use Rattle.recovery.specs.declared.Refusal.TheVariants.{NoFile, LongValue, NoAction, AlreadyDecided, OtherToken, HangingRead, EarlyStart, NoRoom, OnOlderSheet}
use Rattle.recovery.specs.declared.Answer.{Answer}
use Rattle.recovery.specs.declared.Answer.TheVariants.{Stored, Nothing, Told}
use Rattle.calls.specs.Calls.{Call, begin, write, read, test, decide, rebuild}
use Rattle.promises.specs.Model.{Version, object, Status, pending, committed, aborted, Model, Reply, newest, since, latest, shows, has_carried, refuses, changed, with_object, stores, stored, has_room, of_file, of_pending, is_free_for, action_of, asked_at, read_version, reading, testing, decided_as, deciding, model_call, model_cut, current_end}
use Rattle.promises.proofs.worlds.LogSays.{given, left}

module _ (P : Reply → Type 0) (m : Model) (no : (n : Refusal) (p : ℕ) → P (refuses n p m)) where
  of_file_lem : (f : ℕ) (r : Reply) → P r → P (of_file m f r)
  of_file_lem f r h = by_test P (leb 1 f && leb f m.files) (λ e. h) (λ e. no NoFile 0)

  of_pending_lem : (z : Option Status) (r : Reply) → P r → P (of_pending m z r)
  of_pending_lem none r h = no NoAction 0
  of_pending_lem (some pending) r h = h
  of_pending_lem (some (committed p)) r h = no AlreadyDecided 0
  of_pending_lem (some (aborted p)) r h = no AlreadyDecided 0

  pub begins : (has_room m (m.undecided + 2) ≡ true → P (stored m (suc m.undecided) (changed m.status (suc m.used) (some pending)) m.object)) → P (model_call m begin)
  begins h = by_test P (has_room m (m.undecided + 2)) h (λ e. no NoRoom 0)

  -- a write starts above what was read and above the floor
  pub writes : (f start a : ℕ) (v : List ℕ)
      → (current_end (m.object f) < start → m.floor < start → has_room m (m.undecided + 1) ≡ true → P (stored m m.undecided m.status (changed m.object f (given m f start a v))))
      → P (model_call m (write f start a v))
  writes f start a v h = of_file_lem f _ (by_test P (leb (length v) value_size) (λ e. of_pending_lem (m.status a) _ (by_test P (is_free_for a (m.object f).token) (λ q. timely) (λ q. no OtherToken (action_of (m.object f).token)))) (λ e. no LongValue 0))
    where
      timely : P (cond (ltb (since (newest (m.object f).history)) start && ltb (m.object f).asked start && ltb m.floor start)
          (cond (has_room m (m.undecided + 1)) (stored m m.undecided m.status (changed m.object f (given m f start a v))) (refuses NoRoom 0 m)) (refuses EarlyStart 0 m))
      timely =
          by_test P (ltb (since (newest (m.object f).history)) start && ltb (m.object f).asked start && ltb m.floor start)
          (λ e.
          let b = and_true (ltb (since (newest (m.object f).history)) start && ltb (m.object f).asked start) (ltb m.floor start) e in
          let c = and_true (ltb (since (newest (m.object f).history)) start) (ltb (m.object f).asked start) b.0 in
          by_test P (has_room m (m.undecided + 1)) (h (omega (arith, ltb-true (since (newest (m.object f).history)) start c.0, ltb-true (m.object f).asked start c.1)) (ltb-true m.floor start b.1)) (λ q. no NoRoom 0))
          (λ e. no EarlyStart 0)

  -- a read finds a version or none, or the action's own token
  pub reads : (f time a : ℕ)
      → ((x : Version) → latest time (m.object f).history ≡ some x → P (shows x, with_object m f (asked_at time (m.object f))))
      → (latest time (m.object f).history ≡ none → P (Nothing, with_object m f (asked_at time (m.object f))))
      → ((x : Version) → (m.object f).token ≡ some x → x.start ≤ time → x.action ≡ a
      → P (shows x, with_object m f (object (m.object f).history (m.object f).asked (m.object f).token (max (m.object f).tokenasked time))))
      → P (model_call m (read f time a))
  reads f time a h i k =
      let r = go (m.object f).token refl in
      of_file_lem f _ (by_test P (eqb a 0) (λ e. r) (λ e. of_pending_lem (m.status a) _ r))
    where
      in_history : (z : Option Version) → latest time (m.object f).history ≡ z → P (read_version m f time (m.object f) z)
      in_history none e = by_test P (has_carried m.carried (m.object f).history) (λ q. no OnOlderSheet 0) (λ q. i e)
      in_history (some x) e = h x e

      go : (z : Option Version) → (m.object f).token ≡ z → P (reading m f time a (m.object f) z)
      go none e = in_history (latest time (m.object f).history) refl
      go (some x) e =
          by_test P (leb x.start time)
          (λ q. by_test P (eqb x.action a) (λ r. k x e (leb-true x.start time q) (eqb-true x.action a r)) (λ r. no HangingRead x.action))
          (λ q. in_history (latest time (m.object f).history) refl)

  pub tests : (a : ℕ) → ((n p : ℕ) → P (Told n p, m)) → P (model_call m (test a))
  tests a h = go (m.status a)
    where
      go : (z : Option Status) → P (testing m z)
      go none = no NoAction 0
      go (some pending) = h 1 0
      go (some (committed p)) = h 2 p
      go (some (aborted p)) = h 3 p

  -- a decision is told where it lies, or made
  pub decides : (a : ℕ) (c : Bool) → ((p : ℕ) → P (Stored p, m)) → (m.status a ≡ some pending → has_room m 1 ≡ true → P (stored m (pred m.undecided) (changed m.status a (some (decided_as c (suc m.used)))) (left m a c)))
      → P (model_call m (decide a c))
  decides a c again h = go c (m.status a) refl _ (λ e. by_test P (has_room m 1) (h e) (λ q. no NoRoom 0))
    where
      go : (c : Bool) (z : Option Status) → m.status a ≡ z → (r : Reply) → (m.status a ≡ some pending → P r) → P (deciding m c z r)
      go c none e r q = no NoAction 0
      go c (some pending) e r q = q e
      go true (some (committed p)) e r q = again p
      go true (some (aborted p)) e r q = no AlreadyDecided 0
      go false (some (committed p)) e r q = no AlreadyDecided 0
      go false (some (aborted p)) e r q = again p

  pub rebuilds : (f : ℕ) → ((x : Answer) → P (x, m)) → P (model_call m (rebuild f))
  rebuilds f h = of_file_lem f _ (h _)

-- ---- how large the store is, and what was carried over to it, no call changes

pub record Sized (m m' : Model) : Type 0 where
  pub pages : m'.pages ≡ m.pages
  pub files : m'.files ≡ m.files
  pub carried : m'.carried ≡ m.carried

module _ (m : Model) where
  abbrev As : Reply → Type 0
  As r = Sized m r.1

  as_large : (m' : Model) → m'.pages ≡ m.pages → m'.files ≡ m.files → m'.carried ≡ m.carried → Sized m m'
  as_large m' p f c = record { pages = p; files = f; carried = c }

  pub call_sized : (k : Call) → Sized m (model_call m k).1
  call_sized begin = begins As m (λ n p. as_large _ refl refl refl) (λ e. as_large _ refl refl refl)
  call_sized (write f start a v) = writes As m (λ n p. as_large _ refl refl refl) f start a v (λ j k e. as_large _ refl refl refl)
  call_sized (read f time a) = reads As m (λ n p. as_large _ refl refl refl) f time a (λ x e. as_large _ refl refl refl) (λ e. as_large _ refl refl refl) (λ x e j k. as_large _ refl refl refl)
  call_sized (test a) = tests As m (λ n p. as_large _ refl refl refl) a (λ n p. as_large _ refl refl refl)
  call_sized (decide a c) = decides As m (λ n p. as_large _ refl refl refl) a c (λ p. as_large _ refl refl refl) (λ q e. as_large _ refl refl refl)
  call_sized (rebuild f) = rebuilds As m (λ n p. as_large _ refl refl refl) f (λ x. as_large _ refl refl refl)

  pub cut_sized : (k : Call) (kept : ℕ → Bool) → Sized m (model_cut m k kept)
  cut_sized k kept = go (eqb (model_call m k).1.used m.used || not (kept kind_at)) (kept mark_at)
    where
      go : (a b : Bool) → Sized m (cond a m (cond b (model_call m k).1 (stores m m.undecided m.status m.object)))
      go true b = as_large m refl refl refl
      go false true = call_sized k
      go false false = as_large _ refl refl refl
