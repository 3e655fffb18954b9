-- How a run is tried on the promises: its steps as a list, the premises by a test that computes, what is heard by the object model.
use Rattle.promises.proofs.answers.Heard.{answered}
use Rattle.promises.proofs.boxes.Found.{not_heard}
use Rattle.promises.proofs.boxes.BoxMoves.{bytes_are}
use Rattle.recovery.specs.declared.Answer.TheVariants.{Moved}
use Prim.Native.Nat.{ℕ, max, ◌*◌, ◌^◌, ◌≤◌, ◌<◌}
use mathlib.Core.Path.{◌≡◌, refl, sym, ap, ◌∙◌}
use mathlib.Core.List.{List, [], ◌∷◌, ◌++◌}
use mathlib.Core.Bool.{Bool, true, false, ◌&&◌, false≢true}
use mathlib.Core.Option.{Option, some, none}
use native.Mathlib.Omega.{arith}
use lib.ListN.{length, replicate, length-replicate}
use lib.Dec.{leb, ltb}
use borrow.Author.Tests.{leb-true, ltb-true}
use Rattle.encoding.proofs.Logic.{and_true, clash}
use Rattle.page.specs.Layout.{kind_at, mark_at, page_size}
use Rattle.recovery.specs.declared.Answer.{Answer}
use Rattle.recovery.specs.Numbers.{numbers_of}
use Rattle.recovery.specs.Log.{blank}
use Rattle.recovery.specs.Sheet.{sealed}
use Rattle.recovery.specs.World.{sizes}
use Rattle.recovery.specs.Lent.{row_length}
use Rattle.calls.specs.Calls.{Call, begin, write, read, test, decide, rebuild}
use Rattle.calls.specs.Cuts.{first_bytes}
use Rattle.promises.specs.Runs.{Box, sheet_of, Event, calls, opens, cuts, answer_to, after, runs, numbered, Hears, heard, Typed, AllAllowed, Run, blank_box, Floors, moves, cuts_move, on, off}
use Rattle.promises.specs.Model.{Model, blank_model, model_answer, model_after, model_on, model_heard, model_runs, moved_pages}
use Rattle.promises.specs.Promises.{box_after, NoTornOutcome, size_of_move}
use Rattle.promises.proofs.bytes.Mixed.{first_ordered}
use Rattle.promises.proofs.boxes.Boxes.{page_above, Reached}
use Rattle.promises.proofs.boxes.BoxRuns.{reached_blank, pages_on}
use Rattle.promises.proofs.boxes.Lasting.{head_is, tail_is}
use Rattle.promises.proofs.answers.Fallen.{ends}
use Rattle.promises.proofs.Proved.{promised}

-- ---- the steps of a run: a call; an opening with a floor, lent zeros, of a sheet of so many pages or of the first one; a call cut after so many
-- bytes; a move onto a blank sheet of so many pages, whole and cut after so many bytes

pub data Step : Type 0 where
  does : Call → Step
  opened : ℕ → Step
  cut : Call → ℕ → Step
  opened_as : ℕ → ℕ → Step
  moved : ℕ → Step
  cut_move : ℕ → ℕ → Step

module _ (pages files : ℕ) where
  abbrev pub event_of : Step → Event
  event_of (does k) = calls k
  event_of (opened floor) = opens floor (replicate pages 0) (replicate (row_length * files) 0)
  event_of (cut k n) = cuts k (first_bytes n)
  event_of (opened_as n floor) = opens floor (replicate n 0) (replicate (row_length * files) 0)
  event_of (moved n) = moves (replicate (page_size * n) 0)
  event_of (cut_move n k) = cuts_move (replicate (page_size * n) 0) k

  abbrev pub events : List Step → List Event
  events [] = []
  events (x ∷ xs) = event_of x ∷ events xs

  -- ---- the premises of a run

  abbrev is_typed : Call → Bool
  is_typed begin = true
  is_typed (write f start a v) = ltb start (2 ^ 64)
  is_typed (read f t a) = true
  is_typed (test a) = true
  is_typed (decide a c) = true
  is_typed (rebuild f) = true

  abbrev typed_in : List Step → Bool
  typed_in [] = true
  typed_in (does k ∷ xs) = is_typed k && typed_in xs
  typed_in (opened floor ∷ xs) = typed_in xs
  typed_in (cut k n ∷ xs) = is_typed k && typed_in xs
  typed_in (opened_as n floor ∷ xs) = typed_in xs
  typed_in (moved n ∷ xs) = typed_in xs
  typed_in (cut_move n k ∷ xs) = typed_in xs

  typed : (k : Call) → is_typed k ≡ true → Typed k
  typed begin h = tt
  typed (write f start a v) h = ltb-true start (2 ^ 64) h
  typed (read f t a) h = tt
  typed (test a) h = tt
  typed (decide a c) h = tt
  typed (rebuild f) h = tt

  pub allowed : (b : Box) (xs : List Step) → typed_in xs ≡ true → AllAllowed files b (events xs)
  allowed b [] h = tt
  allowed b (does k ∷ xs) h = let p = and_true (is_typed k) (typed_in xs) h in (typed k p.0, allowed (after b (calls k)) xs p.1)
  allowed b (opened floor ∷ xs) h = (λ e. length-replicate {A = ℕ} (row_length * files) 0, allowed (after b (event_of (opened floor))) xs h)
  allowed b (cut k n ∷ xs) h = let p = and_true (is_typed k) (typed_in xs) h in ((typed k p.0, first_ordered n), allowed (after b (cuts k (first_bytes n))) xs p.1)
  allowed b (opened_as n floor ∷ xs) h = (λ e. length-replicate {A = ℕ} (row_length * files) 0, allowed (after b (event_of (opened_as n floor))) xs h)
  allowed b (moved n ∷ xs) h = (tt, allowed (after b (event_of (moved n))) xs h)
  allowed b (cut_move n k ∷ xs) h = (tt, allowed (after b (event_of (cut_move n k))) xs h)

  pub is_run : (xs : List Step) → (sizes pages pages files && typed_in xs) ≡ true → Run pages files (events xs)
  is_run xs h = let p = and_true (sizes pages pages files) (typed_in xs) h in record { sized = p.0; allowed = allowed (blank_box pages) xs p.1 }

  -- ---- floors: every opening's is at least every time read before it

  abbrev time_of : Call → ℕ
  time_of begin = 0
  time_of (write f s a v) = 0
  time_of (read f t a) = t
  time_of (test a) = 0
  time_of (decide a c) = 0
  time_of (rebuild f) = 0

  abbrev floored : ℕ → List Step → Bool
  floored t [] = true
  floored t (does k ∷ xs) = floored (max t (time_of k)) xs
  floored t (opened floor ∷ xs) = leb t floor && floored t xs
  floored t (cut k n ∷ xs) = floored t xs
  floored t (opened_as n floor ∷ xs) = leb t floor && floored t xs
  floored t (moved n ∷ xs) = floored t xs
  floored t (cut_move n k ∷ xs) = floored t xs

  same_floor : {f g : ℕ} {a b c d : List ℕ} → opens f a b ≡ opens g c d → f ≡ g
  same_floor e = cc

  same_call : {k q : Call} → calls k ≡ calls q → k ≡ q
  same_call e = cc

  -- an opening behind
  floor_then : (u t : ℕ) (xs : List Step) → u ≤ t → floored t xs ≡ true → (es₂ es₃ : List Event) (floor : ℕ) (fates rows : List ℕ)
      → events xs ≡ es₂ ++ opens floor fates rows ∷ es₃ → u ≤ floor
  floor_then u t [] h c [] es₃ floor fates rows q = clash cc
  floor_then u t [] h c (x ∷ es₂) es₃ floor fates rows q = clash cc
  floor_then u t (does k ∷ xs) h c [] es₃ floor fates rows q = let z = head_is q in clash cc
  floor_then u t (does k ∷ xs) h c (x ∷ es₂) es₃ floor fates rows q = floor_then u (max t (time_of k)) xs (omega arith) c es₂ es₃ floor fates rows (tail_is q)
  floor_then u t (opened f ∷ xs) h c [] es₃ floor fates rows q =
      omega (arith, leb-true t f (and_true (leb t f) (floored t xs) c).0, same_floor (head_is q))
  floor_then u t (opened f ∷ xs) h c (x ∷ es₂) es₃ floor fates rows q = floor_then u t xs h (and_true (leb t f) (floored t xs) c).1 es₂ es₃ floor fates rows (tail_is q)
  floor_then u t (cut k n ∷ xs) h c [] es₃ floor fates rows q = let z = head_is q in clash cc
  floor_then u t (cut k n ∷ xs) h c (x ∷ es₂) es₃ floor fates rows q = floor_then u t xs h c es₂ es₃ floor fates rows (tail_is q)
  floor_then u t (opened_as n f ∷ xs) h c [] es₃ floor fates rows q =
      omega (arith, leb-true t f (and_true (leb t f) (floored t xs) c).0, same_floor (head_is q))
  floor_then u t (opened_as n f ∷ xs) h c (x ∷ es₂) es₃ floor fates rows q = floor_then u t xs h (and_true (leb t f) (floored t xs) c).1 es₂ es₃ floor fates rows (tail_is q)
  floor_then u t (moved n ∷ xs) h c [] es₃ floor fates rows q = let z = head_is q in clash cc
  floor_then u t (moved n ∷ xs) h c (x ∷ es₂) es₃ floor fates rows q = floor_then u t xs h c es₂ es₃ floor fates rows (tail_is q)
  floor_then u t (cut_move n k ∷ xs) h c [] es₃ floor fates rows q = let z = head_is q in clash cc
  floor_then u t (cut_move n k ∷ xs) h c (x ∷ es₂) es₃ floor fates rows q = floor_then u t xs h c es₂ es₃ floor fates rows (tail_is q)

  floor_from : (t : ℕ) (xs : List Step) → floored t xs ≡ true → (es₁ es₂ es₃ : List Event) (file time floor : ℕ) (fates rows : List ℕ)
      → events xs ≡ es₁ ++ calls (read file time 0) ∷ (es₂ ++ opens floor fates rows ∷ es₃) → time ≤ floor
  floor_from t [] c [] es₂ es₃ file time floor fates rows q = clash cc
  floor_from t [] c (x ∷ es₁) es₂ es₃ file time floor fates rows q = clash cc
  floor_from t (does k ∷ xs) c [] es₂ es₃ file time floor fates rows q =
      let z : time_of k ≡ time = ap time_of (same_call (head_is q)) in
      floor_then time (max t (time_of k)) xs (omega arith) c es₂ es₃ floor fates rows (tail_is q)
  floor_from t (does k ∷ xs) c (x ∷ es₁) es₂ es₃ file time floor fates rows q = floor_from (max t (time_of k)) xs c es₁ es₂ es₃ file time floor fates rows (tail_is q)
  floor_from t (opened f ∷ xs) c [] es₂ es₃ file time floor fates rows q = let z = head_is q in clash cc
  floor_from t (opened f ∷ xs) c (x ∷ es₁) es₂ es₃ file time floor fates rows q = floor_from t xs (and_true (leb t f) (floored t xs) c).1 es₁ es₂ es₃ file time floor fates rows (tail_is q)
  floor_from t (cut k n ∷ xs) c [] es₂ es₃ file time floor fates rows q = let z = head_is q in clash cc
  floor_from t (cut k n ∷ xs) c (x ∷ es₁) es₂ es₃ file time floor fates rows q = floor_from t xs c es₁ es₂ es₃ file time floor fates rows (tail_is q)
  floor_from t (opened_as n f ∷ xs) c [] es₂ es₃ file time floor fates rows q = let z = head_is q in clash cc
  floor_from t (opened_as n f ∷ xs) c (x ∷ es₁) es₂ es₃ file time floor fates rows q = floor_from t xs (and_true (leb t f) (floored t xs) c).1 es₁ es₂ es₃ file time floor fates rows (tail_is q)
  floor_from t (moved n ∷ xs) c [] es₂ es₃ file time floor fates rows q = let z = head_is q in clash cc
  floor_from t (moved n ∷ xs) c (x ∷ es₁) es₂ es₃ file time floor fates rows q = floor_from t xs c es₁ es₂ es₃ file time floor fates rows (tail_is q)
  floor_from t (cut_move n k ∷ xs) c [] es₂ es₃ file time floor fates rows q = let z = head_is q in clash cc
  floor_from t (cut_move n k ∷ xs) c (x ∷ es₁) es₂ es₃ file time floor fates rows q = floor_from t xs c es₁ es₂ es₃ file time floor fates rows (tail_is q)

  pub has_floors : (xs : List Step) → floored 0 xs ≡ true → Floors (blank_box pages) (events xs)
  has_floors xs c es₁ es₂ es₃ file time floor fates rows x e h ok = floor_from 0 xs c es₁ es₂ es₃ file time floor fates rows e

  -- ---- no outcome is torn, since nothing is cut

  abbrev uncut : List Step → Bool
  uncut [] = true
  uncut (does k ∷ xs) = uncut xs
  uncut (opened floor ∷ xs) = uncut xs
  uncut (cut k n ∷ xs) = false
  uncut (opened_as n floor ∷ xs) = uncut xs
  uncut (moved n ∷ xs) = uncut xs
  uncut (cut_move n k ∷ xs) = uncut xs

  no_cut_lem : (xs : List Step) → uncut xs ≡ true → (es₁ es₂ : List Event) (a : ℕ) (c : Bool) (kept : ℕ → Bool) → events xs ≡ es₁ ++ cuts (decide a c) kept ∷ es₂ → kept kind_at ≡ kept mark_at
  no_cut_lem [] h [] es₂ a c kept q = clash cc
  no_cut_lem [] h (x ∷ es₁) es₂ a c kept q = clash cc
  no_cut_lem (does k ∷ xs) h [] es₂ a c kept q = let z = head_is q in clash cc
  no_cut_lem (does k ∷ xs) h (x ∷ es₁) es₂ a c kept q = no_cut_lem xs h es₁ es₂ a c kept (tail_is q)
  no_cut_lem (opened floor ∷ xs) h [] es₂ a c kept q = let z = head_is q in clash cc
  no_cut_lem (opened floor ∷ xs) h (x ∷ es₁) es₂ a c kept q = no_cut_lem xs h es₁ es₂ a c kept (tail_is q)
  no_cut_lem (cut k n ∷ xs) h es₁ es₂ a c kept q = absurd (false≢true h)
  no_cut_lem (opened_as n floor ∷ xs) h [] es₂ a c kept q = let z = head_is q in clash cc
  no_cut_lem (opened_as n floor ∷ xs) h (x ∷ es₁) es₂ a c kept q = no_cut_lem xs h es₁ es₂ a c kept (tail_is q)
  no_cut_lem (moved n ∷ xs) h [] es₂ a c kept q = let z = head_is q in clash cc
  no_cut_lem (moved n ∷ xs) h (x ∷ es₁) es₂ a c kept q = no_cut_lem xs h es₁ es₂ a c kept (tail_is q)
  no_cut_lem (cut_move n k ∷ xs) h [] es₂ a c kept q = let z = head_is q in clash cc
  no_cut_lem (cut_move n k ∷ xs) h (x ∷ es₁) es₂ a c kept q = no_cut_lem xs h es₁ es₂ a c kept (tail_is q)

  pub none_torn : (xs : List Step) → uncut xs ≡ true → NoTornOutcome (blank_box pages) (events xs)
  none_torn xs h es₁ es₂ a c kept q mv = no_cut_lem xs h es₁ es₂ a c kept q

  -- ---- what is heard, by the object model

  abbrev pub last : List (Option (List ℕ)) → Option (List ℕ)
  last [] = none
  last (x ∷ []) = x
  last (x ∷ (y ∷ ys)) = last (y ∷ ys)

  last_heard : (b : Box) (es : List Event) (e : Event) → last (heard b (es ++ e ∷ [])) ≡ numbered (answer_to (runs b es) e)
  unfolding heard
  last_heard b [] e = refl
  last_heard b (d ∷ []) e = refl
  last_heard b (d ∷ (d' ∷ es)) e = last_heard (after b d) (d' ∷ es) e

  pub hears_by : (es : List Event) (e : Event) (x : Answer) → Run pages files (es ++ e ∷ []) → last (model_heard false (blank_model pages files) (es ++ e ∷ [])) ≡ some (numbers_of x)
      → Hears (box_after pages files es) e x
  hears_by es e x r h = sym (last_heard (blank_box pages) es e) ∙ ap last ((promised pages files).as_model (es ++ e ∷ []) r) ∙ h

  -- what the model hears of a cut hangs on the first byte and on the last
  pub same_cut : (b : Bool) (m : Model) (xs es : List Event) (k : Call) (kept kept' : ℕ → Bool) → kept kind_at ≡ kept' kind_at → kept mark_at ≡ kept' mark_at
      → model_heard b m (xs ++ cuts k kept ∷ es) ≡ model_heard b m (xs ++ cuts k kept' ∷ es)
  unfolding model_heard
  same_cut true m [] es k kept kept' e f = ap (λ x. none ∷ model_heard false x es) (rw (e, f))
  same_cut false m [] es k kept kept' e f = refl
  same_cut b m (x ∷ xs) es k kept kept' e f = ap (λ l. numbered (model_answer b m x) ∷ l) (same_cut (model_on b m x) (model_after b m x) xs es k kept kept' e f)

  -- ---- above the pages that the model has used all are blank

  pub blank_above : (es : List Event) → Run pages files es → (p : ℕ) → (model_runs false (blank_model pages files) es).used < p → p ≤ pages_on pages (blank_box pages) es → sealed files (sheet_of (box_after pages files es)) p ≡ blank
  blank_above es r p low high =
      let x = ends pages files (blank_box pages) (reached_blank pages files r.sized) es r.allowed in
      let m = x.with in
      let used : length m.log ≡ (model_runs false (blank_model pages files) es).used = sym m.at.says.used ∙ ap (λ (y : Model). y.used) x.is in
      page_above (pages_on pages (blank_box pages) es) files (box_after pages files es) m p (omega arith) high

  -- the sheet in use has as many bytes as its pages
  pub sheet_long : (es : List Event) → Run pages files es → length (sheet_of (box_after pages files es)) ≡ page_size * pages_on pages (blank_box pages) es
  sheet_long es r = (ends pages files (blank_box pages) (reached_blank pages files r.sized) es r.allowed).with.at.long

  -- how many bytes a move stores, by the model
  pub move_size : (es : List Event) → Run pages files es → (fresh : List ℕ) (floor : ℕ) → Hears (box_after pages files es) (moves fresh) (Moved floor)
      → size_of_move (box_after pages files es) ≡ page_size * moved_pages (model_runs false (blank_model pages files) es)
  move_size es r fresh floor h =
      let x = ends pages files (blank_box pages) (reached_blank pages files r.sized) es r.allowed in
      go (box_after pages files es) x.with (answered (box_after pages files es) (moves fresh) (Moved floor) h) ∙ ap (λ (m : Model). page_size * moved_pages m) x.is
    where
      go : {k : ℕ} (b : Box) (q : Reached k files b) → answer_to b (moves fresh) ≡ some (Moved floor) → size_of_move b ≡ page_size * moved_pages q.model
      go {k} (on m) q e = bytes_are k files m q fresh
      go (off s) q e = not_heard e

-- answers in numbers
abbrev pub in_numbers : List (Option Answer) → List (Option (List ℕ))
in_numbers [] = []
in_numbers (x ∷ xs) = numbered x ∷ in_numbers xs
