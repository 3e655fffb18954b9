-- A cut call, once the box is opened: as if answered where all its bytes are stored, else as if not asked.
use Prim.Native.Nat.{ℕ, suc, ◌+◌, ◌*◌, ◌≤◌, ◌<◌}
use mathlib.Core.Path.{◌≡◌, refl, sym, ap, ◌∙◌}
use mathlib.Core.List.{List, [], ◌∷◌, ◌++◌}
use mathlib.Core.Bool.{Bool, true, false, cond, not, ◌&&◌, ◌||◌}
use mathlib.Core.Option.{Option, some, none}
use native.Mathlib.Omega.{arith}
use lib.ListN.{length, take, drop, length-take, length-drop}
use lib.Seq.{ext_get_or, get_or-take, get_or-drop}
use lib.Dec.{eqb, leb}
use Rattle.encoding.proofs.Logic.{clash}
use Rattle.page.specs.Layout.{page_size, kind_at, mark_at}
use Rattle.recovery.specs.declared.Refusal.{Refusal}
use Rattle.recovery.specs.declared.Refusal.TheVariants.{WrongSizes, NoFile, NoAction, AlreadyDecided, HangingRead, UnfinishedMove, OnOlderSheet}
use Rattle.recovery.specs.declared.Answer.{Answer}
use Rattle.recovery.specs.declared.Answer.TheVariants.{Refused, Opened, Told}
use Rattle.recovery.specs.Lent.{Left}
use Rattle.recovery.specs.Log.{Entry, opening, image, outcome}
use Rattle.recovery.specs.Sheet.{page_bytes}
use Rattle.calls.specs.Calls.{Call, begin, write, read, test, decide, rebuild}
use Rattle.calls.specs.Leaves.{with_page}
use Rattle.calls.proofs.OnePage.{SameBut, only_one_page}
use Rattle.calls.specs.Cuts.{stored_of}
use Rattle.promises.specs.Runs.{Ordered, Box, on, off, Event, calls, opens, cuts, call_on, answer_to, after, numbered, heard, Typed, Allowed, AllAllowed, moves, cuts_move}
use Rattle.promises.specs.Model.{Version, Status, pending, committed, aborted, Model, Reply, Object, latest, has_carried, read_version, reading, testing, refuses, of_pending, stores, model_call, model_opened, model_answer, model_after, model_heard, is_lent, is_unfinished, is_opened}
use Rattle.promises.specs.Promises.{IsPageOf, Looks}
use Rattle.promises.proofs.worlds.LogSays.{with_objects}
use Rattle.promises.proofs.bytes.Mixed.{mixed_all}
use Rattle.promises.proofs.bytes.ByteCalls.{page_back}
use Rattle.promises.proofs.boxes.Boxes.{is_on, Reached}
use Rattle.promises.proofs.boxes.BoxRuns.{reached_next, answer_is, power_is}
use Rattle.promises.proofs.boxes.Found.{some_is, not_heard}
use Rattle.promises.proofs.answers.ModelRuns.{heard_alike}

-- ---- all bytes stored: the sheet is that of the answered call

-- the new page in the old sheet is the new sheet
new_page : (q : ℕ) (old new : List ℕ) → SameBut q old new → with_page old q (page_bytes new (suc q)) ≡ new
unfolding with_page
new_page q old new h =
    ap (λ t. t ++ (page_bytes new (suc q) ++ drop (page_size * q + page_size) old)) front ∙ ap (λ t. take (page_size * q) new ++ (page_bytes new (suc q) ++ t)) back ∙ page_back new q
  where
    front : take (page_size * q) old ≡ take (page_size * q) new
    front = ext_get_or 0 (take (page_size * q) old) (take (page_size * q) new) (rw (length-take, length-take, h.long))
        (λ i k.
        let u : i < page_size * q = omega (arith, length-take (page_size * q) old) in
        get_or-take (page_size * q) old i 0 u ∙ sym (h.below i u) ∙ sym (get_or-take (page_size * q) new i 0 u))

    back : drop (page_size * q + page_size) old ≡ drop (page_size * q + page_size) new
    back = ext_get_or 0 (drop (page_size * q + page_size) old) (drop (page_size * q + page_size) new) (simp length-drop (omega (arith, h.long)))
        (λ i k. get_or-drop (page_size * q + page_size) old i 0 ∙ sym (h.above i) ∙ sym (get_or-drop (page_size * q + page_size) new i 0))

whole_sheet : (m : Left) (k : Call) (kept : ℕ → Bool) → Ordered kept → kept mark_at ≡ true → stored_of kept m.state.end (call_on m k).sheet m.sheet ≡ (call_on m k).sheet
whole_sheet m k kept o e =
    let h = only_one_page m.sheet m.fates m.rows m.state k in
    let old : List ℕ = page_bytes m.sheet (suc m.state.end) in
    let new : List ℕ = page_bytes (call_on m k).sheet (suc m.state.end) in
    let same : length old ≡ length new = simp (length-take, length-drop) (omega (arith, h.long)) in
    let short : length new ≤ page_size = omega (arith, length-take page_size (drop (page_size * m.state.end) (call_on m k).sheet)) in
    ap (with_page m.sheet m.state.end) (mixed_all kept new old same (λ i u. o.last e i (omega arith))) ∙ new_page m.state.end m.sheet (call_on m k).sheet h

pub cut_as_answered : (b : Box) (k : Call) (kept : ℕ → Bool) (floor : ℕ) (fates rows : List ℕ) → Ordered kept → kept mark_at ≡ true
    → after (after b (cuts k kept)) (opens floor fates rows) ≡ after (after b (calls k)) (opens floor fates rows)
cut_as_answered (on m) k kept floor fates rows o h = ap (λ s. after (off s) (opens floor fates rows)) (whole_sheet m k kept o h)
cut_as_answered (off s) k kept floor fates rows o h = refl

-- ---- a model that has used another number of pages answers alike what stores no page

abbrev pub used_to : ℕ → Model → Model
used_to u m = record { pages = m.pages; files = m.files; used = u; floor = m.floor; undecided = m.undecided; status = m.status; carried = m.carried; object = m.object }

module _ (u : ℕ) where
  record Same (x y : Reply) : Type 0 where
    pub answer : x.0 ≡ y.0
    pub model : x.1 ≡ used_to u y.1

  same_cond : (b : Bool) {x y x' y' : Reply} → Same x x' → Same y y' → Same (cond b x y) (cond b x' y')
  same_cond true e f = e
  same_cond false e f = f

  module _ (m : Model) where
    same : (a : Answer) (h : ℕ → Object) → Same (a, used_to u (with_objects m h)) (a, with_objects m h)
    same a h = record { answer = refl; model = refl }

    refuses_same : (n : Refusal) (p : ℕ) → Same (refuses n p (used_to u m)) (refuses n p m)
    refuses_same n p = record { answer = refl; model = refl }

    same_pending : (z : Option Status) {x x' : Reply} → Same x x' → Same (of_pending (used_to u m) z x) (of_pending m z x')
    same_pending none e = refuses_same NoAction 0
    same_pending (some pending) e = e
    same_pending (some (committed p)) e = refuses_same AlreadyDecided 0
    same_pending (some (aborted p)) e = refuses_same AlreadyDecided 0

    same_version : (f t : ℕ) (x : Object) (z : Option Version) → Same (read_version (used_to u m) f t x z) (read_version m f t x z)
    same_version f t x none = same_cond (has_carried m.carried x.history) (refuses_same OnOlderSheet 0) (same _ _)
    same_version f t x (some v) = same _ _

    same_reading : (f t a : ℕ) (x : Object) (z : Option Version) → Same (reading (used_to u m) f t a x z) (reading m f t a x z)
    same_reading f t a x none = same_version f t x (latest t x.history)
    same_reading f t a x (some z) =
        same_cond (leb z.start t) (same_cond (eqb z.action a) (same _ _) (refuses_same HangingRead z.action)) (same_version f t x (latest t x.history))

    same_testing : (z : Option Status) → Same (testing (used_to u m) z) (testing m z)
    same_testing none = refuses_same NoAction 0
    same_testing (some pending) = same (Told 1 0) m.object
    same_testing (some (committed p)) = same (Told 2 p) m.object
    same_testing (some (aborted p)) = same (Told 3 p) m.object

    same_look : (q : Call) → ((g : Entry) → IsPageOf q g → ⊥) → Same (model_call (used_to u m) q) (model_call m q)
    same_look begin h = absurd (h (opening false) refl)
    same_look (write f s a v) h = absurd (h (image (record { file = f; action = a; link = 0; start = s; value = v })) (0, refl))
    same_look (decide a c) h = absurd (h (outcome a c) refl)
    same_look (read f t a) h =
        let r = same_reading f t a (m.object f) (m.object f).token in
        same_cond (leb 1 f && leb f m.files) (same_cond (eqb a 0) r (same_pending (m.status a) r)) (refuses_same NoFile 0)
    same_look (test a) h = same_testing (m.status a)
    same_look (rebuild f) h = same_cond (leb 1 f && leb f m.files) (same _ m.object) (refuses_same NoFile 0)

  same_looks : (b : Bool) (m : Model) (es : List Event) → Looks es → model_heard b (used_to u m) es ≡ model_heard b m es
  unfolding model_heard
  same_looks b m [] h = refl
  same_looks true m (calls k ∷ es) h =
      let r = same_look m k h.0 in
      ap (λ a. numbered (some a) ∷ model_heard true (model_call (used_to u m) k).1 es) r.answer
      ∙ ap (λ ys. numbered (some (model_call m k).0) ∷ ys) (ap (λ x. model_heard true x es) r.model ∙ same_looks true (model_call m k).1 es h.1)
  same_looks false m (calls k ∷ es) h = ap (λ ys. none ∷ ys) (same_looks false m es h.1)
  same_looks b m (opens floor fates rows ∷ es) h = absurd h
  same_looks b m (cuts k kept ∷ es) h = absurd h
  same_looks b m (moves fresh ∷ es) h = absurd h
  same_looks b m (cuts_move fresh k ∷ es) h = absurd h

looks_allowed : (files : ℕ) (b : Box) (es : List Event) → Looks es → AllAllowed files b es
looks_allowed files b [] h = tt
looks_allowed files b (calls k ∷ es) h = (typed k h.0, looks_allowed files (after b (calls k)) es h.1)
  where
    typed : (q : Call) → ((g : Entry) → IsPageOf q g → ⊥) → Typed q
    typed begin h = tt
    typed (write f s a v) h = absurd (h (image (record { file = f; action = a; link = 0; start = s; value = v })) (0, refl))
    typed (decide a c) h = tt
    typed (read f t a) h = tt
    typed (test a) h = tt
    typed (rebuild f) h = tt
looks_allowed files b (opens floor fates rows ∷ es) h = absurd h
looks_allowed files b (cuts k kept ∷ es) h = absurd h
looks_allowed files b (moves fresh ∷ es) h = absurd h
looks_allowed files b (cuts_move fresh k ∷ es) h = absurd h

-- ---- fewer bytes stored: the model has used one page more, or none

record CutUsed (m : Model) (x : Model) : Type 0 where
  pub used : ℕ
  pub is : x ≡ used_to used m
  pub low : m.used ≤ used
  pub high : used ≤ suc m.used

cut_used : (o : Bool) (m : Model) (k : Call) (kept : ℕ → Bool) → kept mark_at ≡ false → CutUsed m (model_after o m (cuts k kept))
cut_used false m k kept h = record { used = m.used; is = refl; low = omega arith; high = omega arith }
cut_used true m k kept h = go (eqb (model_call m k).1.used m.used || not (kept kind_at))
  where
    go : (c : Bool) → CutUsed m (cond c m (cond (kept mark_at) (model_call m k).1 (stores m m.undecided m.status m.object)))
    go true = record { used = m.used; is = refl; low = omega arith; high = omega arith }
    go false = record { used = suc m.used; is = rw h; low = omega arith; high = omega arith }

module _ (pages files : ℕ) (b : Box) (m : Reached pages files b) (k : Call) (kept : ℕ → Bool) (t : Allowed files b (cuts k kept)) (floor : ℕ) (fates rows : List ℕ)
    (o' : Allowed files (after b (cuts k kept)) (opens floor fates rows)) (h : kept mark_at ≡ false) where
  abbrev cut_box : Reached pages files (after b (cuts k kept))
  cut_box = reached_next pages files b m (cuts k kept) t

  -- the sheet is as long
  o : Allowed files b (opens floor fates rows)
  o q = o' (rw cut_box.at.long (rw m.at.long at q))

  abbrev cut_opened : Reached pages files (after (after b (cuts k kept)) (opens floor fates rows))
  cut_opened = reached_next pages files (after b (cuts k kept)) cut_box (opens floor fates rows) o'

  abbrev uncut_opened : Reached pages files (after b (opens floor fates rows))
  uncut_opened = reached_next pages files b m (opens floor fates rows) o

  -- what is heard of a box that was opened, by the model that it had before
  abbrev opened_heard : Model → List Event → List (Option (List ℕ))
  opened_heard x es = model_heard (is_opened x fates rows) (cond (is_opened x fates rows) (model_opened x floor) x) es

  heard_cut : (es : List Event) → AllAllowed files (after (after b (cuts k kept)) (opens floor fates rows)) es → (u : ℕ) → model_after (is_on b) m.model (cuts k kept) ≡ used_to u m.model
      → heard (after (after b (cuts k kept)) (opens floor fates rows)) es ≡ opened_heard (used_to u m.model) es
  heard_cut es al u e =
      heard_alike pages files (after (after b (cuts k kept)) (opens floor fates rows)) cut_opened es al
      ∙ ap (λ c. model_heard c cut_opened.model es) (power_is pages files (after b (cuts k kept)) cut_box (opens floor fates rows) o')
      ∙ ap (λ x. opened_heard x es) e

  pub cut_as_unasked : (looks : List Event) → Looks looks → heard (after (after b (cuts k kept)) (opens floor fates rows)) looks ≡ heard (after b (opens floor fates rows)) looks
  cut_as_unasked looks a =
      let u = cut_used (is_on b) m.model k kept h in
      let al = looks_allowed files (after b (opens floor fates rows)) looks a in
      heard_cut looks (looks_allowed files (after (after b (cuts k kept)) (opens floor fates rows)) looks a) u.used u.is ∙ go u.used (is_opened m.model fates rows)
      ∙ sym (heard_alike pages files (after b (opens floor fates rows)) uncut_opened looks al ∙ ap (λ c. model_heard c uncut_opened.model looks) (power_is pages files b m (opens floor fates rows) o))
    where
      go : (u : ℕ) (c : Bool) → model_heard c (cond c (model_opened (used_to u m.model) floor) (used_to u m.model)) looks ≡ model_heard c (cond c (model_opened m.model floor) m.model) looks
      go u true = same_looks u true (model_opened m.model floor) looks a
      go u false = same_looks u false m.model looks a

  -- what test told before is told after
  pub cut_same_fate : (action fate place : ℕ) (x : Answer) → answer_to b (calls (test action)) ≡ some (Told fate place)
      → answer_to (after (after b (cuts k kept)) (opens floor fates rows)) (calls (test action)) ≡ some x → x ≡ Told fate place
  cut_same_fate action fate place x e l =
      let u = cut_used (is_on b) m.model k kept h in
      let before : model_answer (is_on b) m.model (calls (test action)) ≡ some (Told fate place) = sym (answer_is pages files b m (calls (test action)) tt) ∙ e in
      let later : opened_answer (used_to u.used m.model) ≡ some x = sym (
      answer_is pages files (after (after b (cuts k kept)) (opens floor fates rows)) cut_opened (calls (test action)) tt
      ∙ ap (λ c. model_answer c cut_opened.model (calls (test action))) (power_is pages files (after b (cuts k kept)) cut_box (opens floor fates rows) o')
      ∙ ap opened_answer u.is) ∙ l in
      go u.used (is_on b) (is_opened m.model fates rows) before later
    where
      opened_answer : Model → Option Answer
      opened_answer x = model_answer (is_opened x fates rows) (cond (is_opened x fates rows) (model_opened x floor) x) (calls (test action))

      go : (u : ℕ) (c d : Bool) → model_answer c m.model (calls (test action)) ≡ some (Told fate place)
          → model_answer d (cond d (model_opened (used_to u m.model) floor) (used_to u m.model)) (calls (test action)) ≡ some x → x ≡ Told fate place
      go u true true p q =
          some_is (sym q ∙ ap some (same_testing u (model_opened m.model floor) (m.model.status action)).answer ∙ status (m.model.status action) ∙ p)
        where
          status : (z : Option Status) → some (testing (model_opened m.model floor) z).0 ≡ some (testing m.model z).0
          status none = refl
          status (some pending) = refl
          status (some (committed p)) = refl
          status (some (aborted p)) = refl
      go u true false p q = not_heard q
      go u false d p q = not_heard p

  -- the opening's own answer
  opened_is : (c u : Bool) (e w x x' : ℕ) → some (cond c (cond u (Refused UnfinishedMove 0) (Opened e w)) (Refused WrongSizes 0)) ≡ some (Opened x x') → (e ≡ x) × (w ≡ x')
  opened_is true true e w x x' p = clash cc
  opened_is true false e w x x' p = (cc, cc)
  opened_is false u e w x x' p = clash cc

  pub cut_same_count : (end end' w w' : ℕ) → answer_to b (opens floor fates rows) ≡ some (Opened end w) → answer_to (after b (cuts k kept)) (opens floor fates rows) ≡ some (Opened end' w')
      → (w' ≡ w) × (end ≤ end') × (end' ≤ suc end)
  cut_same_count end end' w w' p q =
      let u = cut_used (is_on b) m.model k kept h in
      let before = opened_is (is_lent m.model fates rows) (is_unfinished m.model) m.model.used m.model.undecided end w (sym (answer_is pages files b m (opens floor fates rows) o) ∙ p) in
      let later = opened_is (is_lent (used_to u.used m.model) fates rows) (is_unfinished m.model) u.used m.model.undecided end' w'
      (sym (answer_is pages files (after b (cuts k kept)) cut_box (opens floor fates rows) o' ∙ ap (λ x. some (cond (is_lent x fates rows) (cond (is_unfinished x) (Refused UnfinishedMove 0) (Opened x.used x.undecided)) (Refused WrongSizes 0))) u.is) ∙ q) in
      (sym later.1 ∙ before.1, omega (arith, u.low), omega (arith, u.high))
