-- Every call ends in one of four ways: a refusal by one of its lines, an answer, an answer with the row of its file changed, or a page
-- appended where there is room for it. A property of results that all four have is a property of every call. Assumes nothing.
use Prim.Native.Nat.{ℕ, suc, pred, ◌+◌, ◌-◌, ◌<◌, ◌≤◌}
use mathlib.Core.Path.{◌≡◌, refl}
use mathlib.Core.Bool.{Bool, true, false, cond, ◌&&◌}
use mathlib.Core.List.{List}
use mathlib.Core.Option.{Option, some, none}
use native.Mathlib.Omega.{arith}
use lib.ListN.{length, length-append, length-replicate}
use lib.Dec.{eqb, leb, ltb}
use borrow.Author.Tests.{leb-true, ltb-true}
use Rattle.encoding.proofs.Logic.{and_true, by_test}
use Rattle.page.specs.Layout.{value_size}
use Rattle.recovery.specs.Places.{put}
use Rattle.recovery.specs.Log.{Image, Entry, opening, image, outcome, verdict}
use Rattle.recovery.specs.declared.Refusal.{Refusal}
use Rattle.recovery.specs.declared.Refusal.TheVariants.{WrongSizes, NoFile, LongValue, NoAction, AlreadyDecided, DamagedRow, OtherToken, HangingRead, EarlyStart, NoRoom, NotBlank, LostLink, OnOlderSheet}
use Rattle.recovery.specs.declared.Row.{Row}
use Rattle.recovery.specs.declared.Answer.{Answer}
use Rattle.recovery.specs.declared.Answer.TheVariants.{Rebuilt, Stored, Nothing, Told}
use Rattle.recovery.specs.Numbers.{is_refused}
use Rattle.recovery.specs.World.{World, Result, refuse, entry_at, is_blank, with_row, warm_row, row_holds, lent_right, is_file, fate_at, outcome_at, fate_number, answer_row, rebuilt}
use Rattle.calls.specs.Walk.{Walk, met, nothing, early, lost}
use Rattle.calls.specs.Lines.{lines, among}
use Rattle.calls.specs.Leaves.{padded, value_at}
use Rattle.calls.specs.Calls.{Call, begin, write, read, test, decide, rebuild, for_file, for_action, if_undecided, for_undecided, has_action, is_decided, has_room, append, store, on_begin, is_free_for, written, on_write, on_read, on_token, on_versions, answer_walk, version_answer, read_current, read_token, reaches, walk_from, image_of, settled, each_row, on_decide, is_decided_as, unless_decided, on, call}

-- the file that a call asks for, 0 if it asks for none
unfoldable pub file_of : Call → ℕ
file_of begin = 0
file_of (write f start a v) = f
file_of (read f time a) = f
file_of (test a) = 0
file_of (decide a c) = 0
file_of (rebuild f) = f

-- what a call that is not refused has passed: a write starts above the floor
abbrev pub Passed : Call → World → Type 0
Passed begin w = Unit {0}
Passed (write f start a v) w = w.floor < start
Passed (read f time a) w = Unit {0}
Passed (test a) w = Unit {0}
Passed (decide a c) w = Unit {0}
Passed (rebuild f) w = Unit {0}

-- the rows that a call leaves which appends a page
abbrev pub RowsLeft : Call → World → List Row → Type 0
RowsLeft begin w rows = rows ≡ w.rows
RowsLeft (write f start a v) w rows = (r : Row) × (rows ≡ put w.rows f r)
RowsLeft (read f time a) w rows = ⊥
RowsLeft (test a) w rows = ⊥
RowsLeft (decide a c) w rows = rows ≡ each_row (settled w a c) 0 w.rows
RowsLeft (rebuild f) w rows = ⊥

pub record Grows (asked : Call) (w : World) (g : Entry) (rows : List Row) : Type 0 where
  pub room : w.end < length w.sheet
  pub long : length (value_at g) ≡ value_size
  pub left : RowsLeft asked w rows

-- the four ways of a call, from one world
pub record Ways (P : Result → Type 0) (asked : Call) (w : World) : Type 0 where
  pub refusing : (n : Refusal) (p : ℕ) → among (lines asked) n ≡ true → P (refuse n p w)
  pub answering : (a : Answer) → is_refused a ≡ false → Passed asked w → P (a, w)
  pub changing : (a : Answer) (r : Row) → is_refused a ≡ false → Passed asked w → P (a, with_row w (file_of asked) r)
  pub growing : (g : Entry) (fates : List ℕ) (rows : List Row) (n : ℕ) → Grows asked w g rows → Passed asked w → P (Stored (suc w.end), append w g fates rows n)

module _ (P : Result → Type 0) where
  either : (b : Bool) (x y : Result) → P x → P y → P (cond b x y)
  either b x y f g = by_test P b (λ e. f) (λ e. g)

  module _ (asked : Call) (w : World) (h : Ways P asked w) where
    -- it has this line
    abbrev Has : Refusal → Type 0
    Has n = among (lines asked) n ≡ true

    -- lines 11 and 12
    stores : Has NoRoom → Has NotBlank → (m : ℕ) → 1 ≤ m → (g : Entry) (fates : List ℕ) (rows : List Row) (n : ℕ) → length (value_at g) ≡ value_size → RowsLeft asked w rows → Passed asked w
        → P (cond (has_room w m) (store w g fates rows n) (refuse NoRoom 0 w))
    stores l11 l12 m l g fates rows n v k q =
        by_test P (has_room w m) {x = store w g fates rows n} {y = refuse NoRoom 0 w} (λ e.
        let room : m ≤ length w.sheet - w.end = leb-true m (length w.sheet - w.end) e in
        either (is_blank (entry_at w (suc w.end))) (Stored (suc w.end), append w g fates rows n) (refuse NotBlank 0 w)
        (h.growing g fates rows n (record { room = omega arith; long = v; left = k }) q) (h.refusing NotBlank 0 l12)) (λ e. h.refusing NoRoom 0 l11)

    -- line 7
    holds : Has DamagedRow → (f : ℕ) (r : Row) (k : Result) → P k → P (cond (row_holds w f r) k (refuse DamagedRow 0 w))
    holds l7 f r k q = either (row_holds w f r) k (refuse DamagedRow 0 w) q (h.refusing DamagedRow 0 l7)

    -- lines 5 and 6
    actions : Has NoAction → (a : ℕ) (k : Result) → P k → P (for_action w a k)
    actions l5 a k q = either (has_action w a) k (refuse NoAction 0 w) q (h.refusing NoAction 0 l5)

    unlesses : Has AlreadyDecided → (a : ℕ) (k : Result) → P k → P (if_undecided w a k)
    unlesses l6 a k q = either (is_decided (fate_at w a)) (refuse AlreadyDecided 0 w) k (h.refusing AlreadyDecided 0 l6) q

    undecideds : Has NoAction → Has AlreadyDecided → (a : ℕ) (k : Result) → P k → P (for_undecided w a k)
    undecideds l5 l6 a k q = actions l5 a (if_undecided w a k) (unlesses l6 a k q)

    -- line 3
    files : Has NoFile → (f : ℕ) (k : Result) → P k → P (for_file w f k)
    files l3 f k q = either (is_file (length w.rows) f) k (refuse NoFile 0 w) q (h.refusing NoFile 0 l3)

  module _ (w : World) where
    begins : Ways P begin w → P (on_begin w)
    begins h =
        stores begin w h refl refl (w.undecided + 2) (omega arith) (opening false) (put w.fates (suc w.end) 1) w.rows (suc w.undecided)
        (length-replicate {A = ℕ} value_size 0) refl tt

    decides : (a : ℕ) (c : Bool) → Ways P (decide a c) w → P (on_decide w a c)
    decides a c h =
        stores (decide a c) w h refl refl 1 (omega arith) (outcome a c) (put w.fates a (fate_number (verdict c))) (each_row (settled w a c) 0 w.rows)
        (pred w.undecided) (length-replicate {A = ℕ} value_size 0) refl tt

    writes : (f start a : ℕ) (v : List ℕ) (r : Row) → Ways P (write f start a v) w → length v ≤ value_size → P (on_write w f start a v r)
    writes f start a v r h short =
        let g : Entry = image (record { file = f; action = a; link = r.current; start = start; value = v }) in
        let rows : List Row = put w.rows f (written r (suc w.end) start a) in
        let room : Result = cond (has_room w (w.undecided + 1)) (store w g w.fates rows w.undecided) (refuse NoRoom 0 w) in
        let long : length (padded v) ≡ value_size = simp (length-append, length-replicate) (omega arith) in
        let late : Bool = ltb r.currentend start && ltb w.floor start in
        let timely : Result = cond late room (refuse EarlyStart 0 w) in
        holds (write f start a v) w h refl f r (cond (is_free_for a r) timely (refuse OtherToken r.tokenaction w)) (either (is_free_for a r) timely (refuse OtherToken r.tokenaction w)
        (by_test P late {x = room} {y = refuse EarlyStart 0 w} (λ e.
        stores (write f start a v) w h refl refl (w.undecided + 1) (omega arith) g w.fates rows w.undecided long (written r (suc w.end) start a, refl)
        (ltb-true w.floor start (and_true (ltb r.currentend start) (ltb w.floor start) e).1))
        (λ e. h.refusing EarlyStart 0 refl)) (h.refusing OtherToken r.tokenaction refl))

    row_answers : (f : ℕ) (r : Row) → Ways P (rebuild f) w → P (answer_row w f r)
    unfolding is_refused
    row_answers f r h =
        let x : Answer = Rebuilt r.current r.currentend r.token r.tokenend r.tokenaction in holds (rebuild f) w h refl f r (x, w) (h.answering x refl tt)

    module _ (f time a : ℕ) (h : Ways P (read f time a) w) where
      walks : (r : Row) (x : Walk) → P (answer_walk w f r x)
      unfolding is_refused file_of
      walks r (met x) = h.changing (version_answer x) r refl tt
      walks r nothing = h.changing Nothing r refl tt
      walks r early = h.refusing OnOlderSheet 0 refl
      walks r (lost place) = h.refusing LostLink place refl

      versions : (r : Row) → P (on_versions w f time r)
      versions r =
          walks (read_current time (reaches time (image_of (entry_at w r.current))) r) (walk_from w f time r.current (image_of (entry_at w r.current)))

      tokens : (r : Row) (x : Option Image) → P (on_token w f time a r x)
      unfolding is_refused file_of
      tokens r none = versions r
      tokens r (some i) =
          let x : Answer = version_answer (record { place = r.token; image = i }) in
          let own : Result = (x, with_row w f (read_token time r)) in
          either (leb i.start time) (cond (eqb i.action a) own (refuse HangingRead i.action w)) (on_versions w f time r)
          (either (eqb i.action a) own (refuse HangingRead i.action w) (h.changing x (read_token time r) refl tt) (h.refusing HangingRead i.action refl)) (versions r)

      reads : (r : Row) → P (on_read w f time a r)
      reads r = let x : Option Image = image_of (entry_at w r.token) in holds (read f time a) w h refl f r (on_token w f time a r x) (tokens r x)

pub line_1 : (k : Call) → among (lines k) WrongSizes ≡ true
line_1 begin = refl
line_1 (write f start a v) = refl
line_1 (read f time a) = refl
line_1 (test a) = refl
line_1 (decide a c) = refl
line_1 (rebuild f) = refl

-- with the row of a file rebuilt if it is cold
abbrev pub warmed : World → ℕ → World
warmed w f = with_row w f (warm_row w f)

module _ (P : Result → Type 0) (w : World) where
  past_line_1 : (k : Call) → Ways P k w → Ways P k (warmed w (file_of k)) → lent_right w ≡ true → P (on w k)
  unfolding file_of is_refused rebuilt
  past_line_1 begin h g l = begins P w h
  past_line_1 (write f start a v) h g l =
      let x : Result = on_write (warmed w f) f start a v (warm_row w f) in
      files P (write f start a v) w h refl f (cond (leb (length v) value_size) (for_undecided w a x) (refuse LongValue 0 w))
      (by_test P (leb (length v) value_size) {x = for_undecided w a x} {y = refuse LongValue 0 w}
      (λ e. undecideds P (write f start a v) w h refl refl a x (writes P (warmed w f) f start a v (warm_row w f) g (leb-true (length v) value_size e)))
      (λ e. h.refusing LongValue 0 refl))
  past_line_1 (read f time a) h g l =
      let x : Result = on_read (warmed w f) f time a (warm_row w f) in
      let q : P x = reads P (warmed w f) f time a g (warm_row w f) in
      files P (read f time a) w h refl f (cond (eqb a 0) x (for_undecided w a x))
      (either P (eqb a 0) x (for_undecided w a x) q (undecideds P (read f time a) w h refl refl a x q))
  past_line_1 (test a) h g l =
      let x : Answer = Told (fate_number (fate_at w a)) (outcome_at w a) in actions P (test a) w h refl a (x, w) (h.answering x refl tt)
  past_line_1 (decide a c) h g l =
      let x : Answer = Stored (outcome_at w a) in
      let k : Result = if_undecided w a (on_decide w a c) in
      actions P (decide a c) w h refl a (unless_decided w a c (on_decide w a c))
      (either P (is_decided_as c (fate_at w a)) (x, w) k (h.answering x refl tt) (unlesses P (decide a c) w h refl a (on_decide w a c) (decides P w a c h)))
  past_line_1 (rebuild f) h g l =
      rw l (files P (rebuild f) w h refl f (answer_row (warmed w f) f (warm_row w f)) (row_answers P (warmed w f) f (warm_row w f) g))

  pub every_call : (k : Call) → Ways P k w → Ways P k (warmed w (file_of k)) → P (call w k)
  unfolding call
  every_call k h g = by_test P (lent_right w) {x = on w k} {y = refuse WrongSizes 0 w} (past_line_1 k h g) (λ e. h.refusing WrongSizes 0 (line_1 k))
