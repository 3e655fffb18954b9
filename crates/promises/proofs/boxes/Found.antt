-- What a run has stored is found: the page of every answered call, of a cut one exactly if all its bytes are stored; and the fates.
use Prim.Native.Nat.{ℕ, suc}
use mathlib.Core.Path.{◌≡◌, refl, sym, ap, ◌∙◌, subst}
use mathlib.Core.List.{List, [], ◌∷◌}
use mathlib.Core.Bool.{Bool, true, false}
use mathlib.Core.Option.{some, none}
use native.Mathlib.Omega.{arith}
use lib.ListN.{length}
use borrow.Author.Tests.{eq-eqb, ne_eqb}
use Rattle.encoding.proofs.Logic.{clash}
use Rattle.page.specs.Layout.{kind_at, mark_at}
use Rattle.recovery.specs.Log.{Entry, torn, outcome, Fate, unknown, undecided, committed, aborted, fate_of, outcome_of, place_of}
use Rattle.recovery.specs.Sheet.{sealed}
use Rattle.recovery.specs.World.{fate_number}
use Rattle.recovery.specs.declared.Answer.{Answer}
use Rattle.recovery.specs.declared.Answer.TheVariants.{Stored, Told}
use Rattle.recovery.specs.Lent.{Left}
use Rattle.inspection.specs.Lawful.{current}
use Rattle.recovery.proofs.Spots.{entry_top}
use Rattle.calls.specs.Calls.{Call, begin, write, read, test, decide, rebuild}
use Rattle.promises.specs.Runs.{Ordered, Box, on, off, sheet_of, Event, calls, cuts, call_on, answer_to, after, runs, Typed, AllAllowed, moved_in}
use Rattle.promises.specs.Promises.{IsPageOf}
use Rattle.promises.proofs.logs.Logs.{Known, not_undecided}
use Rattle.promises.proofs.logs.Outcomes.{Lies, lies_top, outcome_lies, nowhere}
use Rattle.promises.specs.Model.{testing, model_call, model_answer}
use Rattle.promises.specs.FromLog.{status_of}
use Rattle.promises.proofs.worlds.Sim.{Writes, Repeats, Step, stay, add}
use Rattle.promises.proofs.bytes.Stored.{bytes_of}
use Rattle.promises.proofs.bytes.Cuts.{cut_log}
use Rattle.promises.proofs.boxes.Boxes.{is_on, Reached, agrees, model_says}
use Rattle.promises.proofs.boxes.BoxRuns.{reached_next, answer_is}
use Rattle.promises.proofs.boxes.Extends.{stays}

-- ---- answers

pub some_is : {A : Type 0} {x y : A} → some x ≡ some y → x ≡ y
some_is e = cc

pub not_heard : {A : Type 0} {x : A} {B : Type 0} → none ≡ some x → B
not_heard e = clash cc

pub writes_page : (files : ℕ) (l : List Entry) (k : Call) (g : Entry) → Writes files l k g → IsPageOf k g
writes_page files l begin g h = h
writes_page files l (write f s a v) g h = (place_of (current l f), h.0)
writes_page files l (read f t a) g h = h
writes_page files l (test a) g h = h
writes_page files l (decide a c) g h = h
writes_page files l (rebuild f) g h = h

-- ---- the page of a call that was answered with a place lies in the log: it was added, or is that of a decision made before

abbrev Has : List Entry → Call → ℕ → Type 0
Has l k p = (g : Entry) × Lies l p g × IsPageOf k g

repeats_has : (l : List Entry) (k : Call) (p : ℕ) → Repeats l k p → Has l k p
repeats_has l begin p h = absurd h
repeats_has l (write f s a v) p h = absurd h
repeats_has l (read f t a) p h = absurd h
repeats_has l (test a) p h = absurd h
repeats_has l (decide a c) p h = (outcome a c, subst (λ q. Lies l q (outcome a c)) h.place (outcome_lies l a c h.fate), refl)
repeats_has l (rebuild f) p h = absurd h

pub stored_is : {p q : ℕ} → Stored p ≡ Stored q → p ≡ q
stored_is e = cc

module _ {files : ℕ} {k : Call} {l : List Entry} {x : Answer} (p : ℕ) (e : x ≡ Stored p) where
  step_has : {l' : List Entry} → Step files k l x l' → Has l' k p
  step_has (stay r) = repeats_has l k p (r p e)
  step_has (add g h q) = (g, subst (λ n. Lies (g ∷ l) n g) (sym (stored_is (sym e ∙ q))) (lies_top g l), writes_page files l k g h)

  module _ (kept : ℕ → Bool) where
    -- a cut with all bytes stored leaves the log of the call
    pub whole_log : {l' : List Entry} → Ordered kept → kept mark_at ≡ true → Step files k l x l' → cut_log l l' (bytes_of kept) ≡ l'
    unfolding cut_log
    whole_log o h (stay r) = rw (eq-eqb (length l) (length l) refl)
    whole_log o h (add g y q) = rw (ne_eqb (suc (length l)) (length l) (λ e. omega arith), entry_top g l, o.last h kind_at (omega arith), h)

    -- one with fewer leaves a torn page, if the page was not there before
    torn_log : {l' : List Entry} → kept kind_at ≡ true → kept mark_at ≡ false → (Has l k p → ⊥) → Step files k l x l' → Lies (cut_log l l' (bytes_of kept)) p torn
    unfolding cut_log
    torn_log h j b (stay r) = absurd (b (repeats_has l k p (r p e)))
    torn_log h j b (add g y q) =
        rw (ne_eqb (suc (length l)) (length l) (λ e. omega arith), entry_top g l, h, j) (subst (λ n. Lies (torn ∷ l) n torn) (sym (stored_is (sym e ∙ q))) (lies_top torn l))

-- ---- a call that was answered with a place, on a box that is on

-- through any run in which no move takes place
there : (n files : ℕ) (b : Box) (q : Reached n files b) (es : List Event) → AllAllowed files b es → moved_in b es ≡ false → (p : ℕ) (g : Entry) → Lies q.log p g → sealed files (sheet_of (runs b es)) p ≡ g
there n files b q es al mv p g h = stays n files b q es al mv p g h.low h.high h.here

had : (n files : ℕ) (b : Box) (q : Reached n files b) (es : List Event) → AllAllowed files b es → moved_in b es ≡ false → (k : Call) (p : ℕ) → Has q.log k p → IsPageOf k (sealed files (sheet_of (runs b es)) p)
had n files b q es al mv k p h = subst (IsPageOf k) (sym (there n files b q es al mv p h.0 h.1)) h.2

module _ (n files : ℕ) where
  module _ (m : Left) (r : Reached n files (on m)) (k : Call) (t : Typed k) (place : ℕ) (e : (call_on m k).answer ≡ Stored place) (es : List Event) where
    says : (model_call r.model k).0 ≡ Stored place
    says = sym (model_says n files m r k) ∙ e

    found_call : AllAllowed files (on (call_on m k)) es → moved_in (on (call_on m k)) es ≡ false → IsPageOf k (sealed files (sheet_of (runs (after (on m) (calls k)) es)) place)
    found_call al mv = had n files (on (call_on m k)) (reached_next n files (on m) r (calls k) t) es al mv k place (step_has place says (agrees n files m r k).step)

    module _ (kept : ℕ → Bool) (o : Ordered kept) (al : AllAllowed files (after (on m) (cuts k kept)) es) (mv : moved_in (after (on m) (cuts k kept)) es ≡ false) where
      abbrev was_cut : Reached n files (after (on m) (cuts k kept))
      was_cut = reached_next n files (on m) r (cuts k kept) (t, o)

      found_whole : kept mark_at ≡ true → IsPageOf k (sealed files (sheet_of (runs (after (on m) (cuts k kept)) es)) place)
      found_whole h =
          had n files (after (on m) (cuts k kept)) was_cut es al mv k place
          (subst (λ l. Has l k place) (sym (whole_log place says kept o h (agrees n files m r k).step)) (step_has place says (agrees n files m r k).step))

      found_torn : kept kind_at ≡ true → kept mark_at ≡ false → (IsPageOf k (sealed files m.sheet place) → ⊥) → sealed files (sheet_of (runs (after (on m) (cuts k kept)) es)) place ≡ torn
      found_torn h j b =
          there n files (after (on m) (cuts k kept)) was_cut es al mv place torn
          (torn_log place says kept h j (λ y. b (had n files (on m) r [] tt refl k place y)) (agrees n files m r k).step)

-- ---- fates

module _ (n files : ℕ) where
  -- a test of a known action tells its fate, and where its outcome lies
  pub tells : (b : Box) (r : Reached n files b) (a : ℕ) → Known (fate_of r.log a) → (testing r.model (r.model.status a)).0 ≡ Told (fate_number (fate_of r.log a)) (outcome_of r.log a)
  tells b r a h = ap (λ z. (testing r.model z).0) (r.at.says.status a) ∙ go (fate_of r.log a) refl h
    where
      go : (x : Fate) → fate_of r.log a ≡ x → Known x → (testing r.model (status_of x (outcome_of r.log a))).0 ≡ Told (fate_number x) (outcome_of r.log a)
      go unknown e h = absurd (omega arith)
      go undecided e h = ap (Told 1) (sym (nowhere r.log a r.at.holds.lawful (λ d. not_undecided (fate_of r.log a) d e)))
      go committed e h = refl
      go aborted e h = refl

  pub test_tells : (m : Left) (r : Reached n files (on m)) (a : ℕ) → Known (fate_of r.log a) → (call_on m (test a)).answer ≡ Told (fate_number (fate_of r.log a)) (outcome_of r.log a)
  test_tells m r a h = model_says n files m r (test a) ∙ tells (on m) r a h

  pub hears_fate : (b : Box) (r : Reached n files b) (a : ℕ) (x : Answer) → Known (fate_of r.log a) → answer_to b (calls (test a)) ≡ some x → x ≡ Told (fate_number (fate_of r.log a)) (outcome_of r.log a)
  hears_fate (on m) r a x h e = sym (some_is e) ∙ test_tells m r a h
  hears_fate (off s) r a x h e = not_heard e

  -- what a test tells is that, on a box that is on
  pub told_fate : (b : Box) (r : Reached n files b) (a fate place : ℕ) → answer_to b (calls (test a)) ≡ some (Told fate place)
      → (is_on b ≡ true) × Known (fate_of r.log a) × (fate_number (fate_of r.log a) ≡ fate) × (outcome_of r.log a ≡ place)
  told_fate b r a fate place e = go (is_on b) (sym (answer_is n files b r (calls (test a)) tt) ∙ e)
    where
      known : (x : Fate) → (testing r.model (status_of x (outcome_of r.log a))).0 ≡ Told fate place → Known x
      known unknown q = clash cc
      known undecided q = omega arith
      known committed q = omega arith
      known aborted q = omega arith

      go : (c : Bool) → model_answer c r.model (calls (test a)) ≡ some (Told fate place)
          → (c ≡ true) × Known (fate_of r.log a) × (fate_number (fate_of r.log a) ≡ fate) × (outcome_of r.log a ≡ place)
      go true q =
          let k : Known (fate_of r.log a) = known (fate_of r.log a) (ap (λ s. (testing r.model s).0) (sym (r.at.says.status a)) ∙ some_is q) in
          let y : Told (fate_number (fate_of r.log a)) (outcome_of r.log a) ≡ Told fate place = sym (tells b r a k) ∙ some_is q in
          (refl, k, cc, cc)
      go false q = not_heard q

  -- ---- by the box

  module _ (b : Box) (r : Reached n files b) (k : Call) (t : Typed k) (place : ℕ) (e : answer_to b (calls k) ≡ some (Stored place)) (es : List Event) where
    pub box_found : AllAllowed files (after b (calls k)) es → moved_in (after b (calls k)) es ≡ false → IsPageOf k (sealed files (sheet_of (runs (after b (calls k)) es)) place)
    box_found = go b r e
      where
        go : (b : Box) → Reached n files b → answer_to b (calls k) ≡ some (Stored place) → AllAllowed files (after b (calls k)) es → moved_in (after b (calls k)) es ≡ false
            → IsPageOf k (sealed files (sheet_of (runs (after b (calls k)) es)) place)
        go (on m) r e al mv = found_call n files m r k t place (some_is e) es al mv
        go (off s) r e al mv = not_heard e

    module _ (kept : ℕ → Bool) (o : Ordered kept) (al : AllAllowed files (after b (cuts k kept)) es) (mv : moved_in (after b (cuts k kept)) es ≡ false) where
      pub box_found_cut : kept mark_at ≡ true → IsPageOf k (sealed files (sheet_of (runs (after b (cuts k kept)) es)) place)
      box_found_cut h = go b r e al mv
        where
          go : (b : Box) → Reached n files b → answer_to b (calls k) ≡ some (Stored place) → AllAllowed files (after b (cuts k kept)) es → moved_in (after b (cuts k kept)) es ≡ false
              → IsPageOf k (sealed files (sheet_of (runs (after b (cuts k kept)) es)) place)
          go (on m) r e al mv = found_whole n files m r k t place (some_is e) es kept o al mv h
          go (off s) r e al mv = not_heard e

      pub box_torn : kept kind_at ≡ true → kept mark_at ≡ false → (IsPageOf k (sealed files (sheet_of b) place) → ⊥) → sealed files (sheet_of (runs (after b (cuts k kept)) es)) place ≡ torn
      box_torn h j = go b r e al mv
        where
          go : (b : Box) → Reached n files b → answer_to b (calls k) ≡ some (Stored place) → AllAllowed files (after b (cuts k kept)) es → moved_in (after b (cuts k kept)) es ≡ false
              → (IsPageOf k (sealed files (sheet_of b) place) → ⊥) → sealed files (sheet_of (runs (after b (cuts k kept)) es)) place ≡ torn
          go (on m) r e al mv y = found_torn n files m r k t place (some_is e) es kept o al mv h j y
          go (off s) r e al mv y = not_heard e
