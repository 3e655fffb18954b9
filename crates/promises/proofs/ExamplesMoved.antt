-- Runs with moves, and what they hear: a move that is cut after any number of bytes, and two moves in a row. Each premise of the promises
-- about moves is proved of them, so none of those is empty.
use Prim.Native.Nat.{ℕ, ◌*◌, ◌≤◌, ◌<◌}
use mathlib.Core.Path.{◌≡◌, refl, sym, ◌∙◌, ap, subst}
use mathlib.Core.List.{List, [], ◌∷◌, ◌++◌}
use mathlib.Core.Bool.{Bool, true, false, cond, not, ◌&&◌, ◌||◌}
use mathlib.Core.Option.{Option, some, none}
use native.Mathlib.Omega.{arith}
use lib.ListN.{replicate, take, drop}
use lib.Dec.{leb}
use borrow.Author.Tests.{leb-true}
use Rattle.encoding.proofs.Logic.{and_true, clash}
use Rattle.page.specs.Layout.{page_size}
use Rattle.page.specs.Answers.{value_in}
use Rattle.recovery.specs.Log.{Image, image}
use Rattle.recovery.specs.Sheet.{page_bytes}
use Rattle.recovery.specs.Lent.{row_length, open_leaves}
use Rattle.recovery.specs.declared.Refusal.TheVariants.{NoAction, EarlyStart, NoRoom, UndecidedAction, UnfinishedMove, OnOlderSheet}
use Rattle.recovery.specs.declared.Answer.{Answer}
use Rattle.recovery.specs.declared.Answer.TheVariants.{Refused, Opened, Stored, Value, Nothing, Told, Moved}
use Rattle.recovery.specs.Numbers.{is_refused}
use Rattle.calls.specs.Calls.{Call, begin, write, read, test, decide, rebuild}
use Rattle.encoding.specs.Lowest.{lowest}
use Rattle.promises.specs.Runs.{Box, on, off, sheet_of, Event, calls, opens, cuts, moves, cuts_move, after, moved_in, numbered, heard, Hears, Run, Floors, blank_box}
use Rattle.promises.specs.Model.{Model, latest, has_carried, asked_to, count_to, moved_pages, model_move, blank_model, model_answer, model_on, model_after, model_heard, model_runs}
use Rattle.promises.specs.Promises.{box_after, page_in, IsPageOf, IsWhole, IsVersion, IsCarried, fresh_of, size_of_move, Alike, same, AnsweredAlike}
use Rattle.promises.proofs.boxes.BoxPages.{image_same}
use Rattle.promises.proofs.boxes.Found.{some_is, not_heard}
use Rattle.promises.proofs.answers.Heard.{answered}
use Rattle.promises.proofs.answers.Carried as origin
use Rattle.promises.proofs.Proved.{promised}
use Rattle.promises.proofs.Trying.{Step, does, opened, opened_as, moved, cut_move, events, event_of, is_run, has_floors, hears_by, move_size, in_numbers}

-- ---- a box of twelve pages and three files: file 1 from 10 on; files 1 and 2 from 20 on; file 3 is never written. Seven pages are used

abbrev kept : List Step
kept =
    opened 0
    ∷ does begin
    ∷ does (write 1 10 1 (7 ∷ []))
    ∷ does (decide 1 true)
    ∷ does begin
    ∷ does (write 1 20 4 (8 ∷ 9 ∷ []))
    ∷ does (write 2 20 4 (5 ∷ 6 ∷ 7 ∷ []))
    ∷ does (decide 4 true)
    ∷ []

abbrev at : List Step → List Event
at xs = events 12 3 xs

-- ---- a move onto as large a sheet, cut after n bytes: a carried opening, two images and an outcome are 256

abbrev asked : List Step
asked = opened_as 12 20 ∷ does (read 1 25 0) ∷ does (read 2 25 0) ∷ does (read 1 15 0) ∷ does (read 1 5 0) ∷ does (test 1) ∷ does begin ∷ []

abbrev cut_after : ℕ → List Step
cut_after n = kept ++ cut_move 12 n ∷ asked

abbrev answers : List (Option Answer) → List (Option (List ℕ))
answers xs = in_numbers (some (Opened 0 0) ∷ some (Stored 1) ∷ some (Stored 2) ∷ some (Stored 3) ∷ some (Stored 4) ∷ some (Stored 5) ∷ some (Stored 6) ∷ some (Stored 7) ∷ none ∷ xs)

abbrev on_old : List (Option (List ℕ))
on_old = answers (some (Opened 7 0) ∷ some (Value 5 20 2) ∷ some (Value 6 20 3) ∷ some (Value 2 10 1) ∷ some Nothing ∷ some (Told 2 3) ∷ some (Stored 8) ∷ [])

abbrev on_fresh : List (Option (List ℕ))
on_fresh = answers (some (Opened 4 0) ∷ some (Value 2 20 2) ∷ some (Value 3 20 3) ∷ some (Refused OnOlderSheet 0) ∷ some (Refused OnOlderSheet 0) ∷ some (Told 2 4) ∷ some (Stored 5) ∷ [])

-- what the model hears of a cut hangs on whether all bytes are stored
same_cut_move : (b : Bool) (m : Model) (xs es : List Event) (fresh : List ℕ) (n k : ℕ)
    → leb (page_size * moved_pages (model_runs b m xs)) n ≡ leb (page_size * moved_pages (model_runs b m xs)) k
    → model_heard b m (xs ++ cuts_move fresh n ∷ es) ≡ model_heard b m (xs ++ cuts_move fresh k ∷ es)
unfolding model_heard
same_cut_move true m [] es fresh n k e = ap (λ c. none ∷ model_heard false (cond c (model_move m fresh).1 m) es) e
same_cut_move false m [] es fresh n k e = refl
same_cut_move b m (x ∷ xs) es fresh n k e = ap (λ l. numbered (model_answer b m x) ∷ l) (same_cut_move (model_on b m x) (model_after b m x) xs es fresh n k e)

-- for every n: all of the old sheet until the last byte of the outcome is stored, all of the fresh one from then on
pub cut_heard : (n : ℕ) → heard (blank_box 12) (at (cut_after n)) ≡ cond (leb 256 n) on_fresh on_old
unfolding model_heard latest has_carried lowest count_to asked_to is_refused
cut_heard n = (promised 12 3).as_model (at (cut_after n)) (is_run 12 3 (cut_after n) refl) ∙ go (leb 256 n) refl
  where
    like : (k : ℕ) → leb 256 n ≡ leb 256 k → model_heard false (blank_model 12 3) (at (cut_after n)) ≡ model_heard false (blank_model 12 3) (at (cut_after k))
    like k e = same_cut_move false (blank_model 12 3) (at kept) (at asked) (replicate (page_size * 12) 0) n k e

    go : (b : Bool) → leb 256 n ≡ b → model_heard false (blank_model 12 3) (at (cut_after n)) ≡ cond (leb 256 n) on_fresh on_old
    go true e = like 256 e ∙ rw e
    go false e = like 0 e ∙ rw e

-- at every page's edge, and a byte before
abbrev CutHeard : ℕ → List (Option (List ℕ)) → Type 0
CutHeard n xs = heard (blank_box 12) (at (cut_after n)) ≡ xs

pub cut_edges : CutHeard 0 on_old × CutHeard 63 on_old × CutHeard 64 on_old × CutHeard 128 on_old × CutHeard 192 on_old × CutHeard 255 on_old × CutHeard 256 on_fresh
cut_edges = (cut_heard 0, cut_heard 63, cut_heard 64, cut_heard 128, cut_heard 192, cut_heard 255, cut_heard 256)

-- ---- two moves, the second onto a larger sheet: one onto a sheet too small, and one with an action undecided, are refused

abbrev between : List Step
between =
    moved 3
    ∷ moved 12
    ∷ does begin
    ∷ opened_as 12 25
    ∷ does begin
    ∷ does (write 1 25 5 (1 ∷ []))
    ∷ does (write 1 30 5 (1 ∷ []))
    ∷ moved 16
    ∷ does (decide 5 true)
    ∷ does (read 1 25 0)
    ∷ []

abbrev once : List Step
once = kept ++ does (read 1 25 0) ∷ between

abbrev twice : List Step
twice = once ++ moved 16 ∷ opened_as 16 30 ∷ []

abbrev looks : List Step
looks = does (read 1 30 0) ∷ does (read 1 25 0) ∷ does (read 2 25 0) ∷ does (read 3 25 0) ∷ does (test 1) ∷ does (test 5) ∷ []

pub twice_heard : heard (blank_box 12) (at (twice ++ looks)) ≡ in_numbers (
    some (Opened 0 0)
    ∷ some (Stored 1)
    ∷ some (Stored 2)
    ∷ some (Stored 3)
    ∷ some (Stored 4)
    ∷ some (Stored 5)
    ∷ some (Stored 6)
    ∷ some (Stored 7)
    ∷ some (Value 5 20 2)
    ∷ some (Refused NoRoom 0)
    ∷ some (Moved 25)
    ∷ none
    ∷ some (Opened 4 0)
    ∷ some (Stored 5)
    ∷ some (Refused EarlyStart 0)
    ∷ some (Stored 6)
    ∷ some (Refused UndecidedAction 5)
    ∷ some (Stored 7)
    ∷ some (Value 2 20 2)
    ∷ some (Moved 30)
    ∷ some (Opened 4 0)
    ∷ some (Value 2 30 1)
    ∷ some (Refused OnOlderSheet 0)
    ∷ some (Value 3 20 3)
    ∷ some Nothing
    ∷ some (Told 2 4)
    ∷ some (Refused NoAction 0)
    ∷ [])
unfolding model_heard latest has_carried lowest count_to asked_to is_refused
twice_heard = (promised 12 3).as_model (at (twice ++ looks)) (is_run 12 3 (twice ++ looks) refl) ∙ refl

-- ---- each promise about moves

abbrev box_at : List Step → Box
box_at xs = box_after 12 3 (at xs)

abbrev ToldOf : List Step → Step → Answer → Type 0
ToldOf xs x a = Hears (box_at xs) (event_of 12 3 x) a

kept_run : Run 12 3 (at kept)
kept_run = is_run 12 3 kept refl

abbrev fresh : List ℕ
fresh = replicate (page_size * 12) 0

would_move : ToldOf kept (moved 12) (Moved 20)
unfolding model_heard latest has_carried lowest count_to asked_to is_refused
would_move = hears_by 12 3 (at kept) (moves fresh) (Moved 20) (is_run 12 3 (kept ++ moved 12 ∷ []) refl) refl

reads : ToldOf kept (does (read 1 25 0)) (Value 5 20 2)
unfolding model_heard latest has_carried lowest count_to asked_to is_refused
reads = hears_by 12 3 (at kept) (calls (read 1 25 0)) (Value 5 20 2) (is_run 12 3 (kept ++ does (read 1 25 0) ∷ []) refl) refl

moves_again : ToldOf once (moved 16) (Moved 30)
unfolding model_heard latest has_carried lowest count_to asked_to is_refused
moves_again = hears_by 12 3 (at once) (event_of 12 3 (moved 16)) (Moved 30) (is_run 12 3 (once ++ moved 16 ∷ []) refl) refl

-- a read below what was carried over
reads_early : ToldOf twice (does (read 1 25 0)) (Refused OnOlderSheet 0)
unfolding model_heard latest has_carried lowest count_to asked_to is_refused
reads_early = hears_by 12 3 (at twice) (calls (read 1 25 0)) (Refused OnOlderSheet 0) (is_run 12 3 (twice ++ does (read 1 25 0) ∷ []) refl) refl

pub early_only_met : ((p : ℕ) × (i : Image) × IsVersion 3 (box_at twice) 1 p i × IsCarried 3 (box_at twice) i.action)
    × ((p : ℕ) (i : Image) → IsVersion 3 (box_at twice) 1 p i → 25 < i.start)
early_only_met = (promised 12 3).early_only (at twice) 1 25 0 (is_run 12 3 twice refl) reads_early

-- the floor of the second move, and a time asked before the first
pub move_floor_met : 25 ≤ 30
unfolding is_refused
move_floor_met = (promised 12 3).move_floor (at kept) (at between) 1 25 30 (replicate (page_size * 16) 0) (Value 5 20 2) (is_run 12 3 once refl) (has_floors 12 3 once refl) reads refl moves_again

-- ---- a move that is cut, after any number of bytes

size : size_of_move (box_at kept) ≡ 256
unfolding count_to
size = move_size 12 3 (at kept) kept_run fresh 20 would_move

pub lost_move_met : (n : ℕ) → n < 256 → sheet_of (box_at (kept ++ cut_move 12 n ∷ [])) ≡ sheet_of (box_at kept)
lost_move_met n h = (promised 12 3).lost_move (at kept) fresh n kept_run (subst (λ k. n < k) (sym size) h)

pub unfinished_met : (n t : ℕ) → 64 ≤ n → n < 256 → (open_leaves (take n (fresh_of (box_at kept) fresh) ++ drop n fresh) (replicate 12 0) (replicate (row_length * 3) 0) t).answer ≡ Refused UnfinishedMove 0
unfinished_met n t low high =
    (promised 12 3).unfinished (at kept) 20 n t fresh (replicate 12 0) (replicate (row_length * 3) 0) kept_run would_move refl refl low (subst (λ k. n < k) (sym size) high)

pub finished_met : (n : ℕ) → 256 ≤ n → box_at (kept ++ cut_move 12 n ∷ []) ≡ box_at (kept ++ moved 12 ∷ [])
finished_met n h = (promised 12 3).finished (at kept) 20 n fresh kept_run would_move (subst (λ k. k ≤ n) (sym size) h)

-- ---- read alike past a move

-- no image starts above the writes of its run
abbrev call_by : ℕ → Call → Bool
call_by t begin = true
call_by t (write f start a v) = leb start t
call_by t (read f time a) = true
call_by t (test a) = true
call_by t (decide a c) = true
call_by t (rebuild f) = true

abbrev event_by : ℕ → Event → Bool
event_by t (calls k) = call_by t k
event_by t (opens floor fates rows) = true
event_by t (cuts k κ) = call_by t k
event_by t (moves s) = true
event_by t (cuts_move s n) = true

abbrev all_by : ℕ → List Event → Bool
all_by t [] = true
all_by t (e ∷ es) = event_by t e && all_by t es

part_by : (t : ℕ) (es es' : List Event) (e : Event) → all_by t (es ++ e ∷ es') ≡ true → event_by t e ≡ true
part_by t [] es' e h = (and_true (event_by t e) (all_by t es') h).0
part_by t (d ∷ es) es' e h = part_by t es es' e (and_true (event_by t d) (all_by t (es ++ e ∷ es')) h).1

whole_by : (t : ℕ) (k : Call) (e : Event) → IsWhole k e → event_by t e ≡ true → call_by t k ≡ true
whole_by t k (calls c) w h = subst (λ x. call_by t x ≡ true) w h
whole_by t k (opens floor fates rows) w h = absurd w
whole_by t k (cuts c κ) w h = subst (λ x. call_by t x ≡ true) w.0 h
whole_by t k (moves s) w h = absurd w
whole_by t k (cuts_move s n) w h = absurd w

page_by : (t : ℕ) (k : Call) (i : Image) → IsPageOf k (image i) → call_by t k ≡ true → i.start ≤ t
page_by t begin i p h = clash cc
page_by t (write f start a v) i p h = omega (arith, ap (λ (j : Image). j.start) (image_same p.1), leb-true start t h)
page_by t (read f time a) i p h = absurd p
page_by t (test a) i p h = absurd p
page_by t (decide a c) i p h = clash cc
page_by t (rebuild f) i p h = absurd p

image_by_lem : (t : ℕ) (es : List Event) → Run 12 3 es → all_by t es ≡ true → (p : ℕ) (i : Image) → page_in 3 (box_after 12 3 es) p ≡ image i → i.start ≤ t
image_by_lem t es r h p i e =
    let o = origin.once 12 3 es r p i e in
    let w = whole_by t o.adds.by o.event o.adds.whole (part_by t o.before o.rest o.event (subst (λ l. all_by t l ≡ true) o.parts h)) in
    omega (arith, o.same.start, page_by t o.adds.by o.first o.adds.page w)

-- file 2 is written again, file 1 is not; the floor is 0
abbrev then : List Step
then = opened_as 12 0 ∷ does begin ∷ does (write 2 30 5 []) ∷ does (decide 5 true) ∷ []

reads_then : ToldOf (kept ++ moved 12 ∷ then) (does (read 1 25 0)) (Value 2 20 2)
unfolding model_heard latest has_carried lowest count_to asked_to is_refused
reads_then = hears_by 12 3 (at (kept ++ moved 12 ∷ then)) (calls (read 1 25 0)) (Value 2 20 2) (is_run 12 3 (kept ++ moved 12 ∷ then ++ does (read 1 25 0) ∷ []) refl) refl

pub moved_alike_met : (is_refused (Value 2 20 2) ≡ false) × Alike 3 (box_at kept) (box_at (kept ++ moved 12 ∷ then)) 1 25 (Value 5 20 2) (Value 2 20 2)
unfolding is_refused
moved_alike_met = (promised 12 3).moved_alike (at kept) (at then) 1 25 20 fresh (Value 5 20 2) (Value 2 20 2) (is_run 12 3 (kept ++ moved 12 ∷ then) refl) would_move reads refl
    (λ p i e f. image_by_lem 25 (at (kept ++ moved 12 ∷ [])) (is_run 12 3 (kept ++ moved 12 ∷ []) refl) refl p i e)
    (λ e. e, (λ e. omega (arith, e), (λ e. e, tt)))
    reads_then

-- a read before a move and after it: alike but for the place, and 25 below the start of what was carried over
abbrev reread : ℕ → List Step
reread t = kept ++ does (read 1 t 0) ∷ moved 12 ∷ opened_as 12 25 ∷ []

moved_so : (b : Box) (floor : ℕ) (es : List Event) → Hears b (moves fresh) (Moved floor) → moved_in b (moves fresh ∷ es) ≡ true
unfolding is_refused
moved_so (on m) floor es h = ap (λ (x : Answer). not (is_refused x) || moved_in (after (on m) (moves fresh)) es) (some_is (answered (on m) (moves fresh) (Moved floor) h))
moved_so (off s) floor es h = not_heard (answered (off s) (moves fresh) (Moved floor) h)

alike_past : (t floor : ℕ) (x y : Answer) → Floors (blank_box 12) (at (reread t)) → ToldOf kept (does (read 1 t 0)) x → is_refused x ≡ false
    → ToldOf (kept ++ does (read 1 t 0) ∷ []) (moved 12) (Moved floor) → ToldOf (reread t) (does (read 1 t 0)) y → AnsweredAlike 3 true (box_at kept) (box_at (reread t)) 1 t x y
alike_past t floor x y fl h ok g k =
    subst (λ c. AnsweredAlike 3 c (box_at kept) (box_at (reread t)) 1 t x y) (moved_so (box_at (kept ++ does (read 1 t 0) ∷ [])) floor (at (opened_as 12 25 ∷ [])) g)
    ((promised 12 3).alike (at kept) (at (moved 12 ∷ opened_as 12 25 ∷ [])) 1 t x y (is_run 12 3 (reread t) refl) fl h ok k)

moves_after : ToldOf (kept ++ does (read 1 25 0) ∷ []) (moved 12) (Moved 25)
unfolding model_heard latest has_carried lowest count_to asked_to is_refused
moves_after = hears_by 12 3 (at (kept ++ does (read 1 25 0) ∷ [])) (moves fresh) (Moved 25) (is_run 12 3 (kept ++ does (read 1 25 0) ∷ moved 12 ∷ []) refl) refl

reread_same : ToldOf (reread 25) (does (read 1 25 0)) (Value 2 20 2)
unfolding model_heard latest has_carried lowest count_to asked_to is_refused
reread_same = hears_by 12 3 (at (reread 25)) (calls (read 1 25 0)) (Value 2 20 2) (is_run 12 3 (reread 25 ++ does (read 1 25 0) ∷ []) refl) refl

pub alike_same_met : AnsweredAlike 3 true (box_at kept) (box_at (reread 25)) 1 25 (Value 5 20 2) (Value 2 20 2)
unfolding is_refused
alike_same_met = alike_past 25 25 (Value 5 20 2) (Value 2 20 2) (has_floors 12 3 (reread 25) refl) reads refl moves_after reread_same

pub same_bytes : take 2 (value_in (page_bytes (sheet_of (box_at (reread 25))) 2)) ≡ take 2 (value_in (page_bytes (sheet_of (box_at kept)) 5))
same_bytes = go alike_same_met
  where
    go : Alike 3 (box_at kept) (box_at (reread 25)) 1 25 (Value 5 20 2) (Value 2 20 2) → take 2 (value_in (page_bytes (sheet_of (box_at (reread 25))) 2)) ≡ take 2 (value_in (page_bytes (sheet_of (box_at kept)) 5))
    go (same p p' s n e) = e

reads_below : ToldOf kept (does (read 1 15 0)) (Value 2 10 1)
unfolding model_heard latest has_carried lowest count_to asked_to is_refused
reads_below = hears_by 12 3 (at kept) (calls (read 1 15 0)) (Value 2 10 1) (is_run 12 3 (kept ++ does (read 1 15 0) ∷ []) refl) refl

moves_below : ToldOf (kept ++ does (read 1 15 0) ∷ []) (moved 12) (Moved 20)
unfolding model_heard latest has_carried lowest count_to asked_to is_refused
moves_below = hears_by 12 3 (at (kept ++ does (read 1 15 0) ∷ [])) (moves fresh) (Moved 20) (is_run 12 3 (kept ++ does (read 1 15 0) ∷ moved 12 ∷ []) refl) refl

reread_early : ToldOf (reread 15) (does (read 1 15 0)) (Refused OnOlderSheet 0)
unfolding model_heard latest has_carried lowest count_to asked_to is_refused
reread_early = hears_by 12 3 (at (reread 15)) (calls (read 1 15 0)) (Refused OnOlderSheet 0) (is_run 12 3 (reread 15 ++ does (read 1 15 0) ∷ []) refl) refl

pub alike_early_met : AnsweredAlike 3 true (box_at kept) (box_at (reread 15)) 1 15 (Value 2 10 1) (Refused OnOlderSheet 0)
unfolding is_refused
alike_early_met = alike_past 15 20 (Value 2 10 1) (Refused OnOlderSheet 0) (has_floors 12 3 (reread 15) refl) reads_below refl moves_below reread_early
