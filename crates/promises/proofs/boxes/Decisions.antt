-- What became of an action. One that was begun is known ever after; one that was decided is told as it was decided, at the place of its
-- outcome. The same decision asked again is answered with that place and stores nothing, and the opposite one is refused.
use Prim.Native.Nat.{ℕ, suc, ◌≤◌}
use mathlib.Core.Path.{◌≡◌, refl, sym, ap, ◌∙◌, subst}
use mathlib.Core.List.{List, ◌∷◌}
use mathlib.Core.Bool.{Bool, true, false, not}
use mathlib.Core.Option.{some}
use native.Mathlib.Omega.{arith}
use lib.ListN.{length}
use borrow.Author.Tests.{eq-eqb}
use Rattle.recovery.specs.Log.{Entry, opening, outcome, Fate, unknown, undecided, committed, aborted, verdict, fate_of, outcome_of}
use Rattle.recovery.specs.World.{fate_number}
use Rattle.recovery.specs.declared.Refusal.TheVariants.{AlreadyDecided}
use Rattle.recovery.specs.declared.Answer.{Answer}
use Rattle.recovery.specs.declared.Answer.TheVariants.{Refused, Stored, Told}
use Rattle.recovery.proofs.LogFates.{undecided_known}
use Rattle.calls.specs.Calls.{begin, test, decide, call}
use Rattle.promises.specs.Runs.{Box, on, off, sheet_of, Event, calls, opens, cuts, answer_to, after, runs, Allowed, AllAllowed, moves, cuts_move, moved_in}
use Rattle.promises.specs.Model.{Model, Reply, decided_as, deciding, model_call}
use Rattle.promises.specs.FromLog.{status_of}
use Rattle.promises.specs.Promises.{IsWhole}
use Rattle.promises.proofs.logs.Logs.{verdict_decided}
use Rattle.promises.proofs.logs.Outcomes.{DecidedAt, nowhere, outcome_top}
use Rattle.promises.proofs.worlds.LogSays.{verdict_status}
use Rattle.promises.proofs.worlds.Sim.{Step, stay, add}
use Rattle.promises.proofs.bytes.Stored.{bytes_of}
use Rattle.promises.proofs.bytes.Cuts.{cut_log}
use Rattle.promises.proofs.boxes.Boxes.{world_in, Reached, call_is, agrees, model_says, end_is}
use Rattle.promises.proofs.boxes.BoxRuns.{log_after, reached_next, reached_on, pages_after, pages_on}
use Rattle.promises.proofs.boxes.Extends.{extends, ext_refl, ext_decided}
use Rattle.promises.proofs.boxes.Found.{some_is, not_heard, stored_is, whole_log, hears_fate}

-- ---- the log once a begin, or a decision, was answered with a place

opening_fate : (l : List Entry) → fate_of (opening false ∷ l) (suc (length l)) ≡ undecided
unfolding fate_of
opening_fate l = rw (eq-eqb (suc (length l)) (suc (length l)) refl)

outcome_fate : (a : ℕ) (c : Bool) (l : List Entry) → fate_of (outcome a c ∷ l) a ≡ verdict c
unfolding fate_of
outcome_fate a c l = rw (eq-eqb a a refl)

number_high : (x : Fate) → fate_number x ≤ 3
number_high unknown = omega arith
number_high undecided = omega arith
number_high committed = omega arith
number_high aborted = omega arith

module _ {files : ℕ} {l : List Entry} {x : Answer} (p : ℕ) (e : x ≡ Stored p) where
  step_begun : {l' : List Entry} → Step files begin l x l' → fate_of l' p ≡ undecided
  step_begun (stay r) = absurd (r p e)
  step_begun (add g h q) = rw (h, stored_is (sym e ∙ q)) (opening_fate l)

  step_decided : {l' : List Entry} (a : ℕ) (c : Bool) → Step files (decide a c) l x l' → DecidedAt l' a c p
  step_decided a c (stay r) = r p e
  step_decided a c (add g h q) = rw (h, stored_is (sym e ∙ q)) (record { fate = outcome_fate a c l; place = outcome_top l a c })

module _ (n files : ℕ) where
  -- an event that answers a decision, or stores all of it
  event_decided : (b : Box) (r : Reached n files b) (e : Event) (t : Allowed files b e) (a p : ℕ) (c : Bool) → IsWhole (decide a c) e → answer_to b (calls (decide a c)) ≡ some (Stored p)
      → DecidedAt (log_after n files b r e) a c p
  event_decided (off s) r e t a p c w q = not_heard q
  event_decided (on m) r (opens floor fates rows) t a p c w q = absurd w
  event_decided (on m) r (moves fresh) t a p c w q = absurd w
  event_decided (on m) r (cuts_move fresh k) t a p c w q = absurd w
  event_decided (on m) r (calls k) t a p c w q =
      subst (λ k. DecidedAt (agrees n files m r k).log a c p) (sym w) (step_decided p (sym (model_says n files m r (decide a c)) ∙ some_is q) a c (agrees n files m r (decide a c)).step)
  event_decided (on m) r (cuts k kept) t a p c w q =
      let says : (model_call r.model (decide a c)).0 ≡ Stored p = sym (model_says n files m r (decide a c)) ∙ some_is q in
      let s = (agrees n files m r (decide a c)).step in
      subst (λ k. DecidedAt (cut_log r.log (agrees n files m r k).log (bytes_of kept)) a c p) (sym w.0)
      (subst (λ l. DecidedAt l a c p) (sym (whole_log p says kept t.1 w.1 s)) (step_decided p says a c s))

-- a box whose log has a decision
pub record DecidedIn (n files : ℕ) (b : Box) (a : ℕ) (c : Bool) (p : ℕ) : Type 0 where
  pub box : Reached n files b
  pub at : DecidedAt box.log a c p

pub run_decides : (n files : ℕ) (b : Box) (r : Reached n files b) (e : Event) (t : Allowed files b e) (es : List Event) (al : AllAllowed files (after b e) es) → moved_in (after b e) es ≡ false → (a p : ℕ) (c : Bool)
    → IsWhole (decide a c) e → answer_to b (calls (decide a c)) ≡ some (Stored p) → DecidedIn (pages_on (pages_after n b e) (after b e) es) files (runs (after b e) es) a c p
run_decides n files b r e t es al mv a p c w q =
    let d = event_decided n files b r e t a p c w q in
    let first = reached_next n files b r e t in
    record { box = reached_on (pages_after n b e) files (after b e) first es al; at = ext_decided (extends (pages_after n b e) files (after b e) first es al mv first.log (ext_refl first.log)) d }

-- ---- what such a box answers

module _ (n files : ℕ) where
  module _ (b : Box) (a : ℕ) (c : Bool) (p : ℕ) (d : DecidedIn n files b a c p) where
    abbrev m : Model
    m = d.box.model

    pub tells_decided : (x : Answer) → answer_to b (calls (test a)) ≡ some x → x ≡ Told (fate_number (verdict c)) p
    tells_decided x h =
        hears_fate n files b d.box a x (rw d.at.fate (omega (arith, verdict_decided c))) h
        ∙ (λ i. Told (fate_number (d.at.fate i)) (d.at.place i))

    status_is : m.status a ≡ some (decided_as c p)
    status_is = d.box.at.says.status a ∙ (λ i. status_of (d.at.fate i) (d.at.place i)) ∙ verdict_status c p

  by_same : (m : Model) (c : Bool) (p : ℕ) (k : Reply) → deciding m c (some (decided_as c p)) k ≡ (Stored p, m)
  by_same m true p k = refl
  by_same m false p k = refl

  by_other : (m : Model) (c : Bool) (p : ℕ) (k : Reply) → (deciding m (not c) (some (decided_as c p)) k).0 ≡ Refused AlreadyDecided 0
  by_other m true p k = refl
  by_other m false p k = refl

  module _ (a : ℕ) (c : Bool) (p : ℕ) where
    pub same_reply : (b : Box) (d : DecidedIn n files b a c p) → model_call d.box.model (decide a c) ≡ (Stored p, d.box.model)
    same_reply b d = rw (status_is b a c p d) (by_same d.box.model c p _)

    pub again_answer : (b : Box) → DecidedIn n files b a c p → (x : Answer) → answer_to b (calls (decide a c)) ≡ some x → x ≡ Stored p
    again_answer (on m) d x h = sym (some_is h) ∙ model_says n files m d.box (decide a c) ∙ ap (λ r. r.0) (same_reply (on m) d)
    again_answer (off s) d x h = not_heard h

    pub again_sheet : (b : Box) → DecidedIn n files b a c p → sheet_of (after b (calls (decide a c))) ≡ sheet_of b
    again_sheet (on m) d =
        let k = agrees n files m d.box (decide a c) in
        let used : d.box.model.used ≡ length k.log = ap (λ r. r.1.used) (sym (same_reply (on m) d)) ∙ k.after.says.used in
        let same : (call (world_in n files m) (decide a c)).1.end ≡ m.state.end = k.after.ends ∙ sym used ∙ d.box.at.says.used ∙ sym (end_is n files m d.box) in
        ap (λ x. x.sheet) (call_is n files m d.box (decide a c)) ∙ rw (eq-eqb (call (world_in n files m) (decide a c)).1.end m.state.end same)
    again_sheet (off s) d = refl

    pub other_answer : (b : Box) → DecidedIn n files b a c p → (x : Answer) → answer_to b (calls (decide a (not c))) ≡ some x → x ≡ Refused AlreadyDecided 0
    other_answer (on m) d x h =
        let other : (model_call d.box.model (decide a (not c))).0 ≡ Refused AlreadyDecided 0 = rw (status_is (on m) a c p d) (by_other d.box.model c p _) in
        sym (some_is h) ∙ model_says n files m d.box (decide a (not c)) ∙ other
    other_answer (off s) d x h = not_heard h

  pub box_begun : (b : Box) (r : Reached n files b) (es : List Event) (al : AllAllowed files (after b (calls begin)) es) → moved_in (after b (calls begin)) es ≡ false → (place : ℕ) (x : Answer) → answer_to b (calls begin) ≡ some (Stored place)
      → answer_to (runs (after b (calls begin)) es) (calls (test place)) ≡ some x → (fate : ℕ) × (at : ℕ) × (1 ≤ fate) × (fate ≤ 3) × (x ≡ Told fate at) × (fate ≡ 1 → at ≡ 0)
  box_begun (on m) r es al mv place x e h =
      let first = reached_next n files (on m) r (calls begin) tt in
      let z = step_begun place (sym (model_says n files m r begin) ∙ some_is e) (agrees n files m r begin).step in
      let late = reached_on n files (after (on m) (calls begin)) first es al in
      let f = (extends n files (after (on m) (calls begin)) first es al mv first.log (ext_refl first.log)).known place (undecided_known z) in
      (fate_number (fate_of late.log place), outcome_of late.log place, f, number_high (fate_of late.log place), hears_fate (pages_on n (after (on m) (calls begin)) es) files (runs (after (on m) (calls begin)) es) late place x f h, λ e. nowhere late.log place late.at.holds.lawful (λ d. omega arith))
  box_begun (off s) r es al mv place x e h = not_heard e
