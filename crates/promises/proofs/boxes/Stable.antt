-- A read outside any action, once answered without a refusal, is answered alike again; and nothing is written that starts by its time.
use mathlib.Core.Path.{◌≡◌, refl, sym, ap, ◌∙◌, subst}
use mathlib.Core.List.{List}
use mathlib.Core.Bool.{Bool, true, false, cond, ◌&&◌, true≢false}
use mathlib.Core.Option.{Option, some, none}
use Prim.Native.Nat.{ℕ, zero, suc, max, ◌/◌, ◌%◌, ◌≤◌, ◌<◌}
use native.Mathlib.Omega.{arith}
use lib.Dec.{eqb, leb}
use borrow.Author.Tests.{eqb-true, eqb-false, eq-eqb, leb-true, leb-false, le-leb, lt-leb}
use lib.ListN.{length}
use Rattle.encoding.specs.Bytes.{zeros}
use Rattle.encoding.proofs.Logic.{by_test, and_true, and_both, clash}
use Rattle.page.specs.Layout.{page_size}
use Rattle.recovery.specs.Log.{Entry, undecided, Placed, fate_of, effective_of}
use Rattle.recovery.specs.Lent.{Left}
use Rattle.recovery.specs.Numbers.{is_refused}
use Rattle.recovery.specs.declared.Refusal.TheVariants.{WrongSizes, NoRoom, NotBlank, UndecidedAction}
use Rattle.recovery.specs.declared.Answer.{Answer}
use Rattle.recovery.specs.declared.Answer.TheVariants.{Stored, Nothing, Moved}
use Rattle.recovery.proofs.LogFates.{undecided_known}
use Rattle.inspection.specs.Lawful.{token}
use Rattle.calls.specs.Calls.{write, read}
use Rattle.promises.specs.Runs.{Box, on, off, Event, calls, moves, call_on, answer_to, after, runs, moved_in, AllAllowed}
use Rattle.promises.specs.Model.{Version, Object, Model, Reply, refuses, with_object, asked_at, asked_to, moved_pages, lowest_pending, model_moved, model_move, newest, since, latest, shows, has_carried, read_history, reading, model_call, current_end, is_size}
use Rattle.promises.specs.FromLog.{version_in}
use Rattle.promises.proofs.logs.Logs.{Lawful, not_unknown, fate_zero}
use Rattle.promises.proofs.logs.Chains.{token_live}
use Rattle.promises.proofs.worlds.LogSays.{Says}
use Rattle.promises.proofs.worlds.ModelCalls.{writes}
use Rattle.promises.proofs.boxes.Boxes.{is_on, Reached, model_says}
use Rattle.promises.proofs.boxes.BoxRuns.{pages_on, reached_next, reached_on}
use Rattle.promises.proofs.boxes.BoxMoves.{move_says}
use Rattle.promises.proofs.boxes.Found.{some_is, not_heard}
use Rattle.promises.proofs.boxes.Settled.{Settled, settled_next}
use Rattle.promises.proofs.boxes.Lasting.{Clear, Shows, not_yet, this, Lasts, FloorsFrom, lasts}

-- a version, or none
abbrev pub told_as : Option Version → Answer
told_as none = Nothing
told_as (some x) = shows x

-- the first read
pub record ToldAt (m : Model) (f t : ℕ) : Type 0 where
  pub file : (leb 1 f && leb f m.files) ≡ true
  pub says : (model_call m (read f t 0)).0 ≡ told_as (latest t (m.object f).history)
  pub lasting : Lasts false true (model_call m (read f t 0)).1 f t (latest t (m.object f).history)

module _ (l : List Entry) (m : Model) (w : Lawful l) (s : Says l m) (f t : ℕ) where
  told_history : (leb 1 f && leb f m.files) ≡ true → Clear t (m.object f).token → reading m f t 0 (m.object f) (m.object f).token ≡ read_history m f t (m.object f)
      → is_refused (model_call m (read f t 0)).0 ≡ false → ToldAt m f t
  unfolding is_refused
  told_history e c q r = go (latest t (m.object f).history) refl (has_carried m.carried (m.object f).history) refl
    where
      high : (b : Bool) → leb (since (newest (m.object f).history)) t ≡ b
          → t ≤ max (max (since (newest (m.object f).history)) (cond b (max (m.object f).asked t) (m.object f).asked)) m.floor
      high true q = omega arith
      high false q = omega (arith, leb-false (since (newest (m.object f).history)) t q)

      left : Model
      left = with_object m f (asked_at t (m.object f))

      lasting_at : (v : Option Version) → Shows false m.carried (m.object f).history t v → Lasts false true left f t v
      lasting_at v x = record {
        clear = rw (eq-eqb f f refl) c;
        shows = rw (eq-eqb f f refl) x;
        bound = λ z. rw (eq-eqb f f refl) (high (leb (since (newest (m.object f).history)) t) refl);
      }

      go : (z : Option Version) → latest t (m.object f).history ≡ z → (b : Bool) → has_carried m.carried (m.object f).history ≡ b → ToldAt m f t
      go none i true j = absurd (true≢false (rw (e, q, i, j) at r))
      go none i false j = record { file = e; says = rw (e, q, i, j); lasting = rw (e, q, i, j) (lasting_at none (not_yet i j)) }
      go (some x) i b j = record { file = e; says = rw (e, q, i); lasting = rw (e, q, i) (lasting_at (some x) (this x x i refl)) }

  -- a token's action is none that a read outside any action could own
  no_owner : (z : Option Placed) → token l f ≡ z → (x : Version) → version_in z ≡ some x → x.action ≡ 0 → ⊥
  no_owner none i x e k = clash cc
  no_owner (some y) i x e k =
      let q : y.image.action ≡ 0 = ap (λ (v : Version). v.action) (same e) ∙ k in
      let z : fate_of l 0 ≡ undecided = rw q at (token_live (fate_of l) (effective_of l f) y i) in
      not_unknown (fate_of l 0) (undecided_known z) (fate_zero l w)
    where
      same : {u v : Version} → some u ≡ some v → u ≡ v
      same e = cc

  pub told : is_refused (model_call m (read f t 0)).0 ≡ false → ToldAt m f t
  unfolding is_refused
  told h = by_file (leb 1 f && leb f m.files) refl
    where
      by_own : (x : Version) → (m.object f).token ≡ some x → (leb 1 f && leb f m.files) ≡ true → leb x.start t ≡ true → (b : Bool) → eqb x.action 0 ≡ b → ToldAt m f t
      by_own x q e k true o = absurd (no_owner (token l f) refl x (sym (s.token f) ∙ q) (eqb-true x.action 0 o))
      by_own x q e k false o = absurd (true≢false (rw (e, q, k, o) at h))

      by_start : (x : Version) → (m.object f).token ≡ some x → (leb 1 f && leb f m.files) ≡ true → (b : Bool) → leb x.start t ≡ b → ToldAt m f t
      by_start x q e true k = by_own x q e k (eqb x.action 0) refl
      by_start x q e false k = told_history e (rw q (leb-false x.start t k)) (rw (q, k)) h

      by_token : (z : Option Version) → (m.object f).token ≡ z → (leb 1 f && leb f m.files) ≡ true → ToldAt m f t
      by_token none q e = told_history e (rw q tt) (rw q) h
      by_token (some x) q e = by_start x q e (leb x.start t) refl

      by_file : (b : Bool) → (leb 1 f && leb f m.files) ≡ b → ToldAt m f t
      by_file true e = by_token (m.object f).token refl e
      by_file false e = absurd (true≢false (rw e at h))

-- what such a model answers: that version, none, or that it is left behind
pub again : (m : Model) (f t : ℕ) → (leb 1 f && leb f m.files) ≡ true → Clear t (m.object f).token → (model_call m (read f t 0)).0 ≡ (read_history m f t (m.object f)).0
again m f t e c = rw e (go (m.object f).token c)
  where
    go : (z : Option Version) → Clear t z → (reading m f t 0 (m.object f) z).0 ≡ (read_history m f t (m.object f)).0
    go none c = refl
    go (some x) c = rw (lt-leb x.start t c)

-- a move's floor is at least the old one, and each file's ends
asked_high : (floor : ℕ) (objects : ℕ → Object) (k f : ℕ) → (leb 1 f && leb f k) ≡ true → (floor ≤ asked_to floor objects k) × (current_end (objects f) ≤ asked_to floor objects k)
unfolding asked_to
asked_high floor objects zero f i = let p = and_true (leb 1 f) (leb f 0) i in absurd (omega (arith, leb-true 1 f p.0, leb-true f 0 p.1))
asked_high floor objects (suc k) f i = go (eqb f (suc k)) refl (asked_high floor objects k f)
  where
    low : (k : ℕ) → floor ≤ asked_to floor objects k
    low zero = omega arith
    low (suc k) = omega (arith, low k)

    go : (b : Bool) → eqb f (suc k) ≡ b → ((leb 1 f && leb f k) ≡ true → (floor ≤ asked_to floor objects k) × (current_end (objects f) ≤ asked_to floor objects k))
        → (floor ≤ asked_to floor objects (suc k)) × (current_end (objects f) ≤ asked_to floor objects (suc k))
    go true e r = let z : f ≡ suc k = eqb-true f (suc k) e in (omega (arith, low k), rw z (omega arith))
    go false e r =
        let p = and_true (leb 1 f) (leb f (suc k)) i in
        let h = r (and_both (leb 1 f) (leb f k) p.0 (le-leb f k (omega (arith, leb-true f (suc k) p.1, eqb-false f (suc k) e)))) in
        (omega (arith, h.0), omega (arith, h.1))

move_floor : (m : Model) (fresh : List ℕ) (floor : ℕ) → (model_move m fresh).0 ≡ Moved floor → asked_to m.floor m.object m.files ≡ floor
move_floor m fresh floor =
    by_test (λ (r : Reply). r.0 ≡ Moved floor → asked_to m.floor m.object m.files ≡ floor) (eqb (length fresh % page_size) 0 && is_size (length fresh / page_size)) {y = refuses WrongSizes 0 m}
    (λ a. by_test (λ (r : Reply). r.0 ≡ Moved floor → asked_to m.floor m.object m.files ≡ floor) (eqb (lowest_pending m) 0) {y = refuses UndecidedAction (lowest_pending m) m}
    (λ b. by_test (λ (r : Reply). r.0 ≡ Moved floor → asked_to m.floor m.object m.files ≡ floor) (leb (moved_pages m) (length fresh / page_size)) {y = refuses NoRoom 0 m}
    (λ c. by_test (λ (r : Reply). r.0 ≡ Moved floor → asked_to m.floor m.object m.files ≡ floor) (zeros fresh)
    {x = (Moved (asked_to m.floor m.object m.files), model_moved m (length fresh / page_size))} {y = refuses NotBlank 0 m} (λ d e. cc) (λ d e. clash cc)) (λ c e. clash cc)) (λ b e. clash cc)) (λ a e. clash cc)

-- where no write can start by a time, what is written starts later
written_later : (m : Model) (f t start a p : ℕ) (v : List ℕ) → t ≤ max (current_end (m.object f)) m.floor → (model_call m (write f start a v)).0 ≡ Stored p → t < start
written_later m f t start a p v h =
    writes (λ (r : Reply). r.0 ≡ Stored p → t < start) m (λ x y e. clash cc) f start a v (λ j k e q. omega (arith, h))

-- ---- of a box: after a read outside any action that was answered, and any further events, calls cut at any byte and moves among them, if each
-- later opening's floor is at least the time that was read

module _ (n files : ℕ) (m : Left) (r : Reached n files (on m)) (z : Settled r.model) (file time : ℕ) (x : Answer) (e : (call_on m (read file time 0)).answer ≡ x) (ok : is_refused x ≡ false)
    (es : List Event) (al : AllAllowed files (after (on m) (calls (read file time 0))) es) (f : FloorsFrom time es) where
  pub told_first : ToldAt r.model file time
  told_first = told r.log r.model r.at.holds.lawful r.at.says file time (ap is_refused (sym (model_says n files m r (read file time 0)) ∙ e) ∙ ok)

  abbrev pub v : Option Version
  v = latest time (r.model.object file).history

  pub first_is : x ≡ told_as v
  first_is = sym e ∙ model_says n files m r (read file time 0) ∙ told_first.says

  pub in_range : (leb 1 file && leb file files) ≡ true
  in_range = subst (λ k. (leb 1 file && leb file k) ≡ true) r.at.files_are told_first.file

  abbrev pub b₁ : Box
  b₁ = after (on m) (calls (read file time 0))

  abbrev read_box : Reached n files b₁
  read_box = reached_next n files (on m) r (calls (read file time 0)) tt

  abbrev pub late : Reached (pages_on n b₁ es) files (runs b₁ es)
  late = reached_on n files b₁ read_box es al

  pub last : Lasts (moved_in b₁ es) (is_on (runs b₁ es)) late.model file time v
  last = lasts n files file time v false b₁ read_box es al (settled_next n files (on m) r (calls (read file time 0)) z) in_range f told_first.lasting

module _ (n files : ℕ) (file time : ℕ) (x : Answer) (ok : is_refused x ≡ false) (es : List Event) (f : FloorsFrom time es) where
  -- nothing is written to the file that starts by then
  pub box_above : (b : Box) (r : Reached n files b) → Settled r.model → AllAllowed files (after b (calls (read file time 0))) es → answer_to b (calls (read file time 0)) ≡ some x
      → (start a place : ℕ) (v : List ℕ) → answer_to (runs (after b (calls (read file time 0))) es) (calls (write file start a v)) ≡ some (Stored place) → time < start
  box_above (on m) r z al e start a place v h = above (runs (b₁ n files m r z file time x (some_is e) ok es al f) es) (late n files m r z file time x (some_is e) ok es al f) (last n files m r z file time x (some_is e) ok es al f) h
    where
      above : {k : ℕ} {g : Bool} {u : Option Version} (b : Box) (q : Reached k files b) → Lasts g (is_on b) q.model file time u → answer_to b (calls (write file start a v)) ≡ some (Stored place) → time < start
      above {k} (on m') q h p = written_later q.model file time start a place v (h.bound refl) (sym (model_says k files m' q (write file start a v)) ∙ some_is p)
      above (off s) q h p = not_heard p
  box_above (off s) r z al e start a place v h = not_heard e

  -- and a move answers a floor that is at least it
  pub box_floor : (b : Box) (r : Reached n files b) → Settled r.model → AllAllowed files (after b (calls (read file time 0))) es → answer_to b (calls (read file time 0)) ≡ some x
      → (fresh : List ℕ) (floor : ℕ) → answer_to (runs (after b (calls (read file time 0))) es) (moves fresh) ≡ some (Moved floor) → time ≤ floor
  box_floor (on m) r z al e fresh floor h =
      above (runs (b₁ n files m r z file time x (some_is e) ok es al f) es) (late n files m r z file time x (some_is e) ok es al f) (last n files m r z file time x (some_is e) ok es al f) h
    where
      above : {k : ℕ} {g : Bool} {u : Option Version} (b : Box) (q : Reached k files b) → Lasts g (is_on b) q.model file time u → answer_to b (moves fresh) ≡ some (Moved floor) → time ≤ floor
      above {k} (on m') q h p =
          let i = in_range n files m r z file time x (some_is e) ok es al f in
          let c = asked_high q.model.floor q.model.object q.model.files file (rw q.at.files_are i) in
          omega (arith, h.bound refl, c.0, c.1, move_floor q.model fresh floor (sym (move_says k files m' q fresh) ∙ some_is p))
      above (off s) q h p = not_heard p
  box_floor (off s) r z al e fresh floor h = not_heard e
