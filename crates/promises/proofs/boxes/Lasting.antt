-- What the model shows of a file at a time stays, through any run in which no write can start by then.
use mathlib.Core.Path.{◌≡◌, refl, sym, ap, subst, ◌∙◌}
use mathlib.Core.List.{List, [], ◌∷◌, ◌++◌}
use mathlib.Core.Bool.{Bool, true, false, cond, not, ◌&&◌, ◌||◌, false≢true}
use mathlib.Core.Option.{Option, some, none}
use Prim.Native.Nat.{ℕ, suc, max, ◌/◌, ◌≤◌, ◌<◌}
use native.Mathlib.Omega.{arith}
use lib.ListN.{length}
use lib.Dec.{eqb, leb}
use borrow.Author.Tests.{eqb-true, lt-leb}
use Rattle.encoding.proofs.Logic.{by_test, clash}
use Rattle.page.specs.Layout.{page_size, kind_at, mark_at}
use Rattle.calls.specs.Calls.{Call, begin, write, read, test, decide, rebuild}
use Rattle.promises.specs.Runs.{Box, on, off, Event, calls, opens, cuts, moves, cuts_move, move_on, takes_place, bytes_of_move, is_moved, after, runs, moved_in, Allowed, AllAllowed}
use Rattle.promises.specs.Model.{Version, Object, object, pending, Model, Reply, carried_to, count_to, current_end, model_moved, newest, since, latest, has_carried, changed, stores, ended, ended_by, model_call, model_opened, model_cut, is_opened}
use Rattle.promises.proofs.worlds.LogSays.{given}
use Rattle.promises.proofs.worlds.ModelCalls.{begins, writes, reads, tests, decides, rebuilds}
use Rattle.promises.proofs.boxes.Boxes.{is_on, Reached}
use Rattle.promises.proofs.boxes.BoxRuns.{pages_after, model_is, cut_model, reached_next, reached_on, power_is}
use Rattle.promises.proofs.boxes.Settled.{Settled, settled_next}

-- a token starts after a time
abbrev pub Clear : ℕ → Option Version → Type 0
Clear t none = Unit {0}
Clear t (some x) = t < x.start

-- the same version; once a move has taken place, but for its place and action
abbrev pub Like : Bool → Version → Version → Type 0
Like false v u = u ≡ v
Like true v u = (u.start ≡ v.start) × (u.value ≡ v.value)

-- what a history shows at a time, of what was shown first: nothing yet, and nothing was carried over; the version; or, once a move has
-- taken place, that what was shown is left behind
pub data Shows (g : Bool) (c : ℕ → Bool) (h : List Version) (t : ℕ) : Option Version → Type 0 where
  not_yet : latest t h ≡ none → has_carried c h ≡ false → Shows g c h t none
  this : (v u : Version) → latest t h ≡ some u → Like g v u → Shows g c h t (some v)
  gone : (z : Option Version) → g ≡ true → latest t h ≡ none → has_carried c h ≡ true → Shows g c h t z

-- a file's token starts after the time; and while a box is on, no write can start by it either
pub record Lasts (g b : Bool) (m : Model) (f t : ℕ) (v : Option Version) : Type 0 where
  pub clear : Clear t (m.object f).token
  pub shows : Shows g m.carried (m.object f).history t v
  pub bound : b ≡ true → t ≤ max (current_end (m.object f)) m.floor

like_more : (g d : Bool) (v u : Version) → Like g v u → Like (g || d) v u
like_more true d v u h = h
like_more false true v u h = (ap (λ (x : Version). x.start) h, ap (λ (x : Version). x.value) h)
like_more false false v u h = h

or_true : (g d : Bool) → g ≡ true → (g || d) ≡ true
or_true true d e = refl
or_true false d e = absurd (false≢true e)

shows_more : (g d : Bool) (c : ℕ → Bool) (h : List Version) (t : ℕ) (v : Option Version) → Shows g c h t v → Shows (g || d) c h t v
shows_more g d c h t v (not_yet e k) = not_yet e k
shows_more g d c h t v (this w u e k) = this w u e (like_more g d w u k)
shows_more g d c h t v (gone z q e k) = gone z (or_true g d q) e k

-- a later version on top, which is no carried one
shows_later : (g : Bool) (c : ℕ → Bool) (h : List Version) (t : ℕ) (v : Option Version) (y : Version) → t < y.start → c y.action ≡ false → Shows g c h t v → Shows g c (y ∷ h) t v
unfolding latest has_carried
shows_later g c h t v y late here (not_yet e k) = not_yet (rw (lt-leb y.start t late) e) (rw (here, k))
shows_later g c h t v y late here (this w u e k) = this w u (rw (lt-leb y.start t late) e) k
shows_later g c h t v y late here (gone z q e k) = gone z q (rw (lt-leb y.start t late) e) (rw here k)

-- only the newest is carried over
shows_carried : (g : Bool) (c : ℕ → Bool) (h : List Version) (t : ℕ) (v : Option Version) (p : ℕ) → Shows g c h t v → Shows true (λ a. eqb a 1) (carried_to p (newest h)) t v
unfolding latest has_carried
shows_carried g c [] t v p (not_yet e k) = not_yet refl refl
shows_carried g c [] t v p (this w u e k) = clash cc
shows_carried g c [] t v p (gone z q e k) = absurd (false≢true k)
shows_carried g c (x ∷ h) t v p s = go (leb x.start t) refl s
  where
    found : (b : Bool) (w : Option Version) (y : Version) → cond b (some x) w ≡ some y → b ≡ true → x ≡ y
    found b w y e i = let z : some x ≡ some y = rw i at e in cc

    behind : leb x.start t ≡ false → (z : Option Version) → Shows true (λ a. eqb a 1) (carried_to p (some x)) t z
    behind i z = gone z refl (rw i) refl

    like_first : (g : Bool) (v : Version) → Like g v x → Like true v (record { place = p; action = 1; start = x.start; value = x.value })
    like_first true v k = k
    like_first false v k = (ap (λ (y : Version). y.start) k, ap (λ (y : Version). y.value) k)

    go : {v : Option Version} (b : Bool) → leb x.start t ≡ b → Shows g c (x ∷ h) t v → Shows true (λ a. eqb a 1) (carried_to p (some x)) t v
    go false i (not_yet e k) = behind i none
    go false i (this w u e k) = behind i (some w)
    go false i (gone z q e k) = behind i z
    go true i (not_yet e k) = let z : some x ≡ none = rw i at e in clash cc
    go true i (gone z q e k) = let y : some x ≡ none = rw i at e in clash cc
    go true i (this w u e k) = this w (record { place = p; action = 1; start = x.start; value = x.value }) (rw i) (like_first g w (subst (Like g w) (sym (found (leb x.start t) (latest t h) u e i)) k))

module _ (m : Model) (q : Settled m) (f t : ℕ) (v : Option Version) (g : Bool) (h : Lasts g true m f t v) where
  abbrev Goes : Reply → Type 0
  Goes r = Lasts g true r.1 f t v

  -- an object, and where a write to it can start
  record ObjectLasts (x : Object) : Type 0 where
    clear : Clear t x.token
    shows : Shows g m.carried x.history t v
    bound : t ≤ max (current_end x) m.floor

  as_was : ObjectLasts (m.object f)
  as_was = record { clear = h.clear; shows = h.shows; bound = h.bound refl }

  -- one object changed
  object_goes : (o : ℕ) (x : Object) → (f ≡ o → ObjectLasts x) → ObjectLasts (changed m.object o x f)
  object_goes o x k = by_test ObjectLasts (eqb f o) (λ e. k (eqb-true f o e)) (λ e. as_was)

  write_goes : (o start a : ℕ) (w : List ℕ) → current_end (m.object o) < start → m.floor < start → f ≡ o → ObjectLasts (given m o start a w)
  write_goes o start a w j k e =
      let u : current_end (m.object f) < start = rw (← e) at j in
      rw (← e) (record { clear = omega (arith, h.bound refl); shows = h.shows; bound = h.bound refl })

  -- asked for at another time
  asked_goes : (o c k : ℕ) → (m.object o).asked ≤ c → f ≡ o → ObjectLasts (object (m.object o).history c (m.object o).token k)
  asked_goes o c k l e =
      let u : (m.object f).asked ≤ c = rw (← e) at l in
      rw (← e) (record { clear = h.clear; shows = h.shows; bound = omega (arith, h.bound refl) })

  asked_more : (b : Bool) (a s : ℕ) → a ≤ cond b (max a s) a
  asked_more true a s = omega arith
  asked_more false a s = omega arith

  decide_goes : (a : ℕ) (c : Bool) → m.status a ≡ some pending → (z : Option Version) → (m.object f).token ≡ z → ObjectLasts (ended_by a c (m.object f) z)
  decide_goes a c p none e = as_was
  decide_goes a c p (some y) e = go (eqb y.action a) refl c
    where
      late : t < y.start
      late = subst (Clear t) e h.clear

      go : (b : Bool) → eqb y.action a ≡ b → (c : Bool) → ObjectLasts (cond b (ended c (m.object f) y) (m.object f))
      go true i true =
          let here : m.carried y.action ≡ false = ap m.carried (eqb-true y.action a i) ∙ q a p in
          record { clear = tt; shows = shows_later g m.carried (m.object f).history t v y late here h.shows; bound = omega (arith, late) }
      go true i false = record { clear = tt; shows = h.shows; bound = h.bound refl }
      go false i c = as_was

  -- the model with its objects changed, but not its floor
  goes_on : (m' : Model) → m'.carried ≡ m.carried → m'.floor ≡ m.floor → ObjectLasts (m'.object f) → Lasts g true m' f t v
  goes_on m' c k o = record { clear = o.clear; shows = rw c o.shows; bound = λ e. rw k o.bound }

  call_lasts : (k : Call) → Goes (model_call m k)
  call_lasts begin = begins Goes m (λ n p. h) (λ e. goes_on _ refl refl as_was)
  call_lasts (write o start a w) = writes Goes m (λ n p. h) o start a w (λ j k e. goes_on _ refl refl (object_goes o (given m o start a w) (write_goes o start a w j k)))
  call_lasts (read o s a) = reads Goes m (λ n p. h) o s a
      (λ x e. goes_on _ refl refl (object_goes o _ (asked_goes o _ (m.object o).tokenasked (asked_more (leb (since (newest (m.object o).history)) s) (m.object o).asked s))))
      (λ e. goes_on _ refl refl (object_goes o _ (asked_goes o _ (m.object o).tokenasked (asked_more (leb (since (newest (m.object o).history)) s) (m.object o).asked s))))
      (λ x e j k. goes_on _ refl refl (object_goes o _ (asked_goes o (m.object o).asked _ (omega arith))))
  call_lasts (test a) = tests Goes m (λ n p. h) a (λ n p. h)
  call_lasts (decide a c) = decides Goes m (λ n p. h) a c (λ p. h) (λ p e. goes_on _ refl refl (decide_goes a c p (m.object f).token refl))
  call_lasts (rebuild o) = rebuilds Goes m (λ n p. h) o (λ x. h)

turned_off : (g b : Bool) (m : Model) (f t : ℕ) (v : Option Version) → Lasts g b m f t v → Lasts g false m f t v
turned_off g b m f t v h = record { clear = h.clear; shows = h.shows; bound = λ e. absurd (false≢true e) }

cut_lasts : (m : Model) → Settled m → (f t : ℕ) (v : Option Version) (g : Bool) → Lasts g true m f t v → (k : Call) (kept : ℕ → Bool) → Lasts g false (model_cut m k kept) f t v
cut_lasts m q f t v g h k kept = go (eqb (model_call m k).1.used m.used || not (kept kind_at)) (kept mark_at)
  where
    go : (a b : Bool) → Lasts g false (cond a m (cond b (model_call m k).1 (stores m m.undecided m.status m.object))) f t v
    go true b = turned_off g true m f t v h
    go false true = turned_off g true (model_call m k).1 f t v (call_lasts m q f t v g h k)
    go false false = record { clear = h.clear; shows = h.shows; bound = λ e. absurd (false≢true e) }

-- a move that takes place
moved_lasts : (g b : Bool) (m : Model) (f t : ℕ) (v : Option Version) → (leb 1 f && leb f m.files) ≡ true → Lasts g b m f t v → (n : ℕ) → Lasts true false (model_moved m n) f t v
moved_lasts g b m f t v i h n = record {
  clear = tt;
  shows = rw i (shows_carried g m.carried (m.object f).history t v (suc (count_to m.object f)) h.shows);
  bound = λ e. absurd (false≢true e);
}

-- of two equal runs the first events, and the rest
pub head_is : {x y : Event} {xs ys : List Event} → x ∷ xs ≡ y ∷ ys → x ≡ y
head_is e = cc

pub tail_is : {x y : Event} {xs ys : List Event} → x ∷ xs ≡ y ∷ ys → xs ≡ ys
tail_is e = cc

-- each opening of a run has a floor that is at least a time
abbrev pub FloorsFrom : ℕ → List Event → Type 0
FloorsFrom t es = (es₂ es₃ : List Event) (floor : ℕ) (fates rows : List ℕ) → es ≡ es₂ ++ opens floor fates rows ∷ es₃ → t ≤ floor

open_lasts : (g b : Bool) (m : Model) (f t : ℕ) (v : Option Version) (floor : ℕ) → t ≤ floor → Lasts g b m f t v → (c : Bool) → Lasts g c (cond c (model_opened m floor) m) f t v
open_lasts g b m f t v floor q h true = record { clear = h.clear; shows = h.shows; bound = λ e. omega arith }
open_lasts g b m f t v floor q h false = turned_off g b m f t v h

-- a move of a box, cut or not: it takes place, or nothing changes
module _ (g : Bool) (m : Model) (f t : ℕ) (v : Option Version) (i : (leb 1 f && leb f m.files) ≡ true) (h : Lasts g true m f t v) (n : ℕ) where
  by_place : (c : Bool) → Lasts (g || c) (not c) (cond c (model_moved m n) m) f t v
  by_place true = subst (λ d. Lasts d false (model_moved m n) f t v) (sym (or_end g)) (moved_lasts g true m f t v i h n)
    where
      or_end : (g : Bool) → (g || true) ≡ true
      or_end true = refl
      or_end false = refl
  by_place false = record { clear = h.clear; shows = shows_more g false m.carried (m.object f).history t v h.shows; bound = h.bound }

module _ (n files f t : ℕ) (v : Option Version) (g : Bool) where
  event_lasts : (b : Box) (r : Reached n files b) (e : Event) (al : Allowed files b e) → Settled r.model → (leb 1 f && leb f files) ≡ true → FloorsFrom t (e ∷ []) → Lasts g (is_on b) r.model f t v
      → Lasts (g || is_moved b e) (is_on (after b e)) (reached_next n files b r e al).model f t v
  event_lasts b r e al z i q h = go b r e al z q h
    where
      same : {b : Bool} {m : Model} → Lasts g b m f t v → Lasts (g || false) b m f t v
      same {b} {m} h = record { clear = h.clear; shows = shows_more g false m.carried (m.object f).history t v h.shows; bound = h.bound }

      in_range : {b : Box} (r : Reached n files b) → (leb 1 f && leb f r.model.files) ≡ true
      in_range r = rw r.at.files_are i

      go : (b : Box) (r : Reached n files b) (e : Event) (al : Allowed files b e) → Settled r.model → FloorsFrom t (e ∷ []) → Lasts g (is_on b) r.model f t v
          → Lasts (g || is_moved b e) (is_on (after b e)) (reached_next n files b r e al).model f t v
      go (on m) r (calls k) al z q h = same (call_lasts r.model z f t v g h k)
      go (off s) r (calls k) al z q h = same h
      go (on m) r (opens floor fates rows) al z q h =
          same (subst (λ c. Lasts g c (reached_next n files (on m) r (opens floor fates rows) al).model f t v) (sym (power_is n files (on m) r (opens floor fates rows) al))
          (open_lasts g true r.model f t v floor (q [] [] floor fates rows refl) h (is_opened r.model fates rows)))
      go (off s) r (opens floor fates rows) al z q h =
          same (subst (λ c. Lasts g c (reached_next n files (off s) r (opens floor fates rows) al).model f t v) (sym (power_is n files (off s) r (opens floor fates rows) al))
          (open_lasts g false r.model f t v floor (q [] [] floor fates rows refl) h (is_opened r.model fates rows)))
      go (on m) r (cuts k kept) al z q h = same (cut_lasts r.model z f t v g h k kept)
      go (off s) r (cuts k kept) al z q h = same h
      go (on m) r (moves fresh) al z q h =
          subst (λ x. Lasts (g || takes_place m fresh) (is_on (after (on m) (moves fresh))) x f t v) (sym (model_is n files m r fresh))
          (subst (λ c. Lasts (g || takes_place m fresh) c (cond (takes_place m fresh) (model_moved r.model (length fresh / page_size)) r.model) f t v) (is_on_lem (takes_place m fresh))
          (by_place g r.model f t v (in_range r) h (length fresh / page_size) (takes_place m fresh)))
        where
          is_on_lem : (c : Bool) → not c ≡ is_on (cond c (off (move_on m fresh).fresh) (on (move_on m fresh).left))
          is_on_lem true = refl
          is_on_lem false = refl
      go (off s) r (moves fresh) al z q h = same h
      go (on m) r (cuts_move fresh k) al z q h =
          let c : Bool = takes_place m fresh && leb (bytes_of_move m) k in
          subst (λ x. Lasts (g || c) false x f t v) (sym (cut_model n files m r fresh k))
          (turned_off (g || c) (not c) (cond c (model_moved r.model (length fresh / page_size)) r.model) f t v (by_place g r.model f t v (in_range r) h (length fresh / page_size) c))
      go (off s) r (cuts_move fresh k) al z q h = same h

-- ---- a run

or_turn : (a b c : Bool) → ((a || b) || c) ≡ (a || (b || c))
or_turn true b c = refl
or_turn false b c = refl

or_none : (a : Bool) → a ≡ (a || false)
or_none true = refl
or_none false = refl

pub lasts : (n files f t : ℕ) (v : Option Version) (g : Bool) (b : Box) (r : Reached n files b) (es : List Event) (al : AllAllowed files b es) → Settled r.model → (leb 1 f && leb f files) ≡ true → FloorsFrom t es
    → Lasts g (is_on b) r.model f t v → Lasts (g || moved_in b es) (is_on (runs b es)) (reached_on n files b r es al).model f t v
lasts n files f t v g b r [] al z i q h = subst (λ c. Lasts c (is_on b) r.model f t v) (or_none g) h
lasts n files f t v g b r (e ∷ es) al z i q h =
    subst (λ c. Lasts c (is_on (runs (after b e) es)) (reached_on (pages_after n b e) files (after b e) (reached_next n files b r e al.0) es al.1).model f t v) (or_turn g (is_moved b e) (moved_in (after b e) es))
    (lasts (pages_after n b e) files f t v (g || is_moved b e) (after b e) (reached_next n files b r e al.0) es al.1 (settled_next n files b r e z) i
    (λ es₂ es₃ floor fates rows p. q (e ∷ es₂) es₃ floor fates rows (ap (λ l. e ∷ l) p))
    (event_lasts n files f t v g b r e al.0 z i (first_floor e) h))
  where
    first_floor : (e' : Event) → FloorsFrom t (e ∷ [])
    first_floor e' [] es₃ floor fates rows p = q [] es floor fates rows (ap (λ x. x ∷ es) (head_is p))
    first_floor e' (x ∷ es₂) es₃ floor fates rows p = none_behind es₂ (tail_is p)
      where
        none_behind : (es₂ : List Event) → [] ≡ es₂ ++ opens floor fates rows ∷ es₃ → t ≤ floor
        none_behind [] p = clash cc
        none_behind (y ∷ es₂) p = clash cc
