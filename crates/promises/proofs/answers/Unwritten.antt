-- Read alike after the move: a file that is not written again has, on every sheet after, the one version that was carried over, or none.
use Prim.Native.Nat.{ℕ, suc, ◌/◌, ◌≤◌}
use mathlib.Core.Path.{◌≡◌, refl, sym, ap, ◌∙◌, subst}
use mathlib.Core.List.{List, [], ◌∷◌, map}
use mathlib.Core.Bool.{Bool, true, false, cond, not, ◌&&◌, ◌||◌}
use mathlib.Core.Option.{Option, some, none}
use native.Mathlib.Omega.{arith}
use lib.ListN.{length}
use lib.Dec.{eqb, leb}
use borrow.Author.Tests.{eqb-true, le-leb}
use Rattle.encoding.proofs.Logic.{by_test, clash}
use Rattle.page.specs.Layout.{page_size, kind_at, mark_at}
use Rattle.recovery.specs.Log.{Image, image, Placed, fate_of, effective_of}
use Rattle.recovery.specs.Lent.{Left}
use Rattle.recovery.specs.Numbers.{is_refused}
use Rattle.recovery.specs.declared.Answer.{Answer}
use Rattle.inspection.specs.Lawful.{versions}
use Rattle.calls.specs.Calls.{Call, begin, write, read, test, decide, rebuild}
use Rattle.promises.specs.Runs.{Box, on, off, Event, calls, opens, cuts, moves, cuts_move, call_on, takes_place, bytes_of_move, answer_to, after, runs, AllAllowed}
use Rattle.promises.specs.Model.{Version, Object, object, Model, Reply, newest, latest, has_carried, changed, stores, ended_by, carried_to, count_to, model_moved, model_call, model_opened, model_cut, is_opened, read_version}
use Rattle.promises.specs.FromLog.{version_of}
use Rattle.promises.specs.Promises.{page_in, WritesTo, NoWrite, Alike}
use Rattle.promises.proofs.logs.Versions.{Among, first, versions_among}
use Rattle.promises.proofs.logs.Newest.{effective_spot}
use Rattle.promises.proofs.worlds.LogSays.{given}
use Rattle.promises.proofs.worlds.ModelCalls.{begins, writes, reads, tests, decides, rebuilds}
use Rattle.promises.proofs.boxes.Boxes.{Reached, model_says}
use Rattle.promises.proofs.boxes.BoxPages.{effective_out}
use Rattle.promises.proofs.boxes.BoxRuns.{pages_after, model_is, cut_model, reached_next, reached_on}
use Rattle.promises.proofs.boxes.Found.{some_is, not_heard}
use Rattle.promises.proofs.boxes.Lasting.{Shows, not_yet, this}
use Rattle.promises.proofs.boxes.Stable.{ToldAt, told_as, told, again}
use Rattle.promises.proofs.answers.MovedReads.{alike_by}

-- one version like another, or none
abbrev Only : List Version → Option Version → Type 0
Only h none = h ≡ []
Only h (some v) = (u : Version) × (h ≡ u ∷ []) × (u.start ≡ v.start) × (u.value ≡ v.value)

record Still (x : Object) (z : Option Version) : Type 0 where
  free : x.token ≡ none
  alone : Only x.history z

-- carried over
carry_first : (h : List Version) (p : ℕ) → Only (carried_to p (newest h)) (newest h)
carry_first [] p = refl
carry_first (v ∷ h) p = (record { place = p; action = 1; start = v.start; value = v.value }, refl, refl, refl)

carry_again : (h : List Version) (p : ℕ) (z : Option Version) → Only h z → Only (carried_to p (newest h)) z
carry_again h p none e = rw e
carry_again h p (some v) e = (record { place = p; action = 1; start = e.0.start; value = e.0.value }, ap (λ (k : List Version). carried_to p (newest k)) e.1, e.2, e.3)

moved_still : (m : Model) (f : ℕ) (z : Option Version) (n : ℕ) → (leb 1 f && leb f m.files) ≡ true → ((p : ℕ) → Only (carried_to p (newest (m.object f).history)) z) → Still ((model_moved m n).object f) z
moved_still m f z n i h = record { free = refl; alone = rw i (h (suc (count_to m.object f))) }

module _ (m : Model) (f : ℕ) (z : Option Version) (h : Still (m.object f) z) where
  abbrev Goes : Reply → Type 0
  Goes r = Still (r.1.object f) z

  asked_still : (g c k : ℕ) → f ≡ g → Still (object (m.object g).history c (m.object g).token k) z
  asked_still g c k e = rw (← e) (record { free = h.free; alone = h.alone })

  one_changed : (g : ℕ) (x : Object) → (f ≡ g → Still x z) → Still (changed m.object g x f) z
  one_changed g x k = by_test (λ (y : Object). Still y z) (eqb f g) (λ e. k (eqb-true f g e)) (λ e. h)

  ended_still : (a : ℕ) (c : Bool) → Still (ended_by a c (m.object f) (m.object f).token) z
  ended_still a c = subst (λ (t : Option Version). Still (ended_by a c (m.object f) t) z) (sym h.free) h

  call_still : (k : Call) → (WritesTo f k → ⊥) → Goes (model_call m k)
  call_still begin w = begins Goes m (λ n p. h) (λ e. h)
  call_still (write g start a v) w = writes Goes m (λ n p. h) g start a v (λ j k e. one_changed g (given m g start a v) (λ q. absurd (w (sym q))))
  call_still (read g t a) w = reads Goes m (λ n p. h) g t a (λ x e. one_changed g _ (asked_still g _ (m.object g).tokenasked)) (λ e. one_changed g _ (asked_still g _ (m.object g).tokenasked))
      (λ x e j k. one_changed g _ (asked_still g (m.object g).asked _))
  call_still (test a) w = tests Goes m (λ n p. h) a (λ n p. h)
  call_still (decide a c) w = decides Goes m (λ n p. h) a c (λ p. h) (λ p e. ended_still a c)
  call_still (rebuild g) w = rebuilds Goes m (λ n p. h) g (λ x. h)

  cut_still : (k : Call) (kept : ℕ → Bool) → (WritesTo f k → ⊥) → Still ((model_cut m k kept).object f) z
  cut_still k kept w = go (eqb (model_call m k).1.used m.used || not (kept kind_at)) (kept mark_at)
    where
      go : (a b : Bool) → Still ((cond a m (cond b (model_call m k).1 (stores m m.undecided m.status m.object))).object f) z
      go true b = h
      go false true = call_still k w
      go false false = h

  open_still : (floor : ℕ) (c : Bool) → Still ((cond c (model_opened m floor) m).object f) z
  open_still floor true = record { free = h.free; alone = h.alone }
  open_still floor false = h

  by_place : (leb 1 f && leb f m.files) ≡ true → (n : ℕ) (c : Bool) → Still ((cond c (model_moved m n) m).object f) z
  by_place i n true = moved_still m f z n i (λ p. carry_again (m.object f).history p z h.alone)
  by_place i n false = h

event_still : (n files f : ℕ) (z : Option Version) (b : Box) (r : Reached n files b) (e : Event) (es : List Event) (al : AllAllowed files b (e ∷ es)) → (leb 1 f && leb f files) ≡ true → NoWrite f (e ∷ es)
    → Still (r.model.object f) z → Still ((reached_next n files b r e al.0).model.object f) z × NoWrite f es
event_still n files f z (on m) r (calls k) es al i w h = (call_still r.model f z h k w.0, w.1)
event_still n files f z (off s) r (calls k) es al i w h = (h, w.1)
event_still n files f z (on m) r (opens floor fates rows) es al i w h = (open_still r.model f z h floor (is_opened r.model fates rows), w)
event_still n files f z (off s) r (opens floor fates rows) es al i w h = (open_still r.model f z h floor (is_opened r.model fates rows), w)
event_still n files f z (on m) r (cuts k kept) es al i w h = (cut_still r.model f z h k kept w.0, w.1)
event_still n files f z (off s) r (cuts k kept) es al i w h = (h, w.1)
event_still n files f z (on m) r (moves fresh) es al i w h =
    (subst (λ (x : Model). Still (x.object f) z) (sym (model_is n files m r fresh)) (by_place r.model f z h (rw r.at.files_are i) (length fresh / page_size) (takes_place m fresh)), w)
event_still n files f z (off s) r (moves fresh) es al i w h = (h, w)
event_still n files f z (on m) r (cuts_move fresh k) es al i w h =
    (subst (λ (x : Model). Still (x.object f) z) (sym (cut_model n files m r fresh k)) (by_place r.model f z h (rw r.at.files_are i) (length fresh / page_size) (takes_place m fresh && leb (bytes_of_move m) k)), w)
event_still n files f z (off s) r (cuts_move fresh k) es al i w h = (h, w)

run_still : (n files f : ℕ) (z : Option Version) (b : Box) (r : Reached n files b) (es : List Event) (al : AllAllowed files b es) → (leb 1 f && leb f files) ≡ true → NoWrite f es
    → Still (r.model.object f) z → Still ((reached_on n files b r es al).model.object f) z
run_still n files f z b r [] al i w h = h
run_still n files f z b r (e ∷ es) al i w h =
    let k = event_still n files f z b r e es al i w h in
    run_still (pages_after n b e) files f z (after b e) (reached_next n files b r e al.0) es al.1 i k.1 k.0

-- ---- a read of it, from its start on

module _ (m : Model) (f t : ℕ) where
  shows_still : (z : Option Version) → Still (m.object f) z → ((v : Version) → z ≡ some v → v.start ≤ t) → Shows true m.carried (m.object f).history t z
  unfolding latest has_carried
  shows_still none h late = not_yet (rw h.alone) (rw h.alone)
  shows_still (some v) h late =
      let u = h.alone.0 in
      let l : u.start ≤ t = omega (arith, h.alone.2, late v refl) in
      this v u (rw (h.alone.1, le-leb u.start t l)) (h.alone.2, h.alone.3)

  -- the newest version is what a read from its start on shows
  newest_shown : (h : List Version) → ((v : Version) → newest h ≡ some v → v.start ≤ t) → latest t h ≡ newest h
  unfolding latest
  newest_shown [] late = refl
  newest_shown (v ∷ h) late = rw (le-leb v.start t (late v refl))

  not_refused : (z : Option Version) → is_refused (told_as z) ≡ false
  unfolding is_refused
  not_refused none = refl
  not_refused (some v) = refl

  answer_still : (z : Option Version) → Still (m.object f) z → ((v : Version) → z ≡ some v → v.start ≤ t) → is_refused (read_version m f t (m.object f) (latest t (m.object f).history)).0 ≡ false
  unfolding latest has_carried is_refused
  answer_still none h late = rw h.alone
  answer_still (some v) h late =
      let u = h.alone.0 in
      let l : u.start ≤ t = omega (arith, h.alone.2, late v refl) in
      rw (h.alone.1, le-leb u.start t l)

-- ---- of a box

-- the version that was carried over lies on the fresh sheet
first_page : (n files : ℕ) (b : Box) (r : Reached n files b) (f : ℕ) (u : Version) → (r.model.object f).history ≡ u ∷ []
    → (p : ℕ) × (i : Image) × (page_in files b p ≡ image i) × (i.file ≡ f) × (i.start ≡ u.start)
first_page n files b r f u e = go (versions r.log f) (λ x k. (versions_among (fate_of r.log) x (effective_of r.log f) k).1) (sym (r.at.says.history f) ∙ e)
  where
    go : (vs : List Placed) → ((x : Placed) → Among x vs → Among x (effective_of r.log f)) → map version_of vs ≡ u ∷ []
        → (p : ℕ) × (i : Image) × (page_in files b p ≡ image i) × (i.file ≡ f) × (i.start ≡ u.start)
    go [] k q = clash cc
    go (x ∷ vs) k q =
        let a = k x first in
        let s : version_of x ≡ u = cc in
        (x.place, x.image, (effective_out n files b r f x a).here, (effective_spot r.log f x a).mine, ap (λ (v : Version). v.start) s)

module _ (n files : ℕ) (m : Left) (r : Reached n files (on m)) (file time : ℕ) (fresh : List ℕ) (x : Answer) (e : (call_on m (read file time 0)).answer ≡ x) (ok : is_refused x ≡ false)
    (took : takes_place m fresh ≡ true) (late : (p : ℕ) (i : Image) → page_in files (after (on m) (moves fresh)) p ≡ image i → i.file ≡ file → i.start ≤ time)
    (es : List Event) (al : AllAllowed files (after (on m) (moves fresh)) es) (w : NoWrite file es) where
  told_first : ToldAt r.model file time
  told_first = told r.log r.model r.at.holds.lawful r.at.says file time (ap is_refused (sym (model_says n files m r (read file time 0)) ∙ e) ∙ ok)

  in_range : (leb 1 file && leb file files) ≡ true
  in_range = subst (λ k. (leb 1 file && leb file k) ≡ true) r.at.files_are told_first.file

  abbrev z : Option Version
  z = newest (r.model.object file).history

  abbrev after_move : Reached (pages_after n (on m) (moves fresh)) files (after (on m) (moves fresh))
  after_move = reached_next n files (on m) r (moves fresh) tt

  still_first : Still (after_move.model.object file) z
  still_first =
      subst (λ (y : Model). Still (y.object file) z) (sym (model_is n files m r fresh ∙ ap (λ c. cond c (model_moved r.model (length fresh / page_size)) r.model) took))
      (moved_still r.model file z (length fresh / page_size) told_first.file (carry_first (r.model.object file).history))

  from_start : (v : Version) → z ≡ some v → v.start ≤ time
  from_start v q = go z q still_first.alone
    where
      go : (z : Option Version) → z ≡ some v → Only (after_move.model.object file).history z → v.start ≤ time
      go none q k = clash cc
      go (some y) q k =
          let p = first_page (pages_after n (on m) (moves fresh)) files (after (on m) (moves fresh)) after_move file k.0 k.1 in
          let s : y ≡ v = cc in
          omega (arith, late p.0 p.1 p.2 p.3, p.4, k.2, ap (λ (u : Version). u.start) s)

  latest_is : latest time (r.model.object file).history ≡ z
  latest_is = newest_shown r.model file time (r.model.object file).history from_start

  pub alike_moved : (y : Answer) → answer_to (runs (after (on m) (moves fresh)) es) (calls (read file time 0)) ≡ some y
      → (is_refused y ≡ false) × Alike files (on m) (runs (after (on m) (moves fresh)) es) file time x y
  alike_moved y h = go (runs (after (on m) (moves fresh)) es) (reached_on (pages_after n (on m) (moves fresh)) files (after (on m) (moves fresh)) after_move es al)
      (run_still (pages_after n (on m) (moves fresh)) files file z (after (on m) (moves fresh)) after_move es al in_range w still_first) h
    where
      go : {k : ℕ} (b : Box) (q : Reached k files b) → Still (q.model.object file) z → answer_to b (calls (read file time 0)) ≡ some y → (is_refused y ≡ false) × Alike files (on m) b file time x y
      go {k} (on m') q s p =
          let said : y ≡ (read_version q.model file time (q.model.object file) (latest time (q.model.object file).history)).0 =
          sym (some_is p) ∙ model_says k files m' q (read file time 0) ∙ again q.model file time (rw q.at.files_are in_range) (rw s.free tt) in (
            ap is_refused said ∙ answer_still q.model file time z s from_start,
            alike_by n files (on m) r file time true (on m') q refl latest_is (shows_still q.model file time z s from_start) x y
                (sym e ∙ model_says n files m r (read file time 0) ∙ told_first.says ∙ ap told_as latest_is) said,
          )
      go (off t) q s p = not_heard p
