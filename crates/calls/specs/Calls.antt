-- The calls of the store over decoded pages, on all inputs, line by line in the order of document 01, with the later requests that
-- docs/CHANGES.md names. docs/STORE.md has them in words (The calls), and what each refusal means (Why a call says no).
use Rattle.std.specs.Prelude.{List, [], ◌∷◌, Bool, true, false, cond, not, ◌&&◌, ◌||◌, ℕ, suc, pred, max, ◌+◌, ◌-◌, length, eqb, leb, ltb}
use Rattle.std.proofs.Math.Option.{Option, some, none}
use Rattle.page.specs.Layout.{value_size}
use Rattle.recovery.specs.Places.{put}
use Rattle.recovery.specs.Log.{Image, Entry, blank, torn, bad, opening, image, outcome, Fate, unknown, undecided, committed, aborted, Placed, verdict}
use Rattle.recovery.specs.declared.Refusal.TheVariants.{WrongSizes, NoFile, LongValue, NoAction, AlreadyDecided, DamagedRow, OtherToken, HangingRead, EarlyStart, NoRoom, NotBlank, LostLink, OnOlderSheet}
use Rattle.recovery.specs.declared.Row.{Row}
use Rattle.recovery.specs.declared.Answer.{Answer}
use Rattle.recovery.specs.declared.Answer.TheVariants.{Stored, Value, Nothing, Told}
use Rattle.recovery.specs.World.{World, Result, refuse, entry_at, fate_number, fate_at, outcome_at, is_blank, is_carried, with_row, warm_row, image_action, holds_image, row_holds, is_rebuilt_for, lent_right, is_file, rebuilt}
use Rattle.calls.specs.Walk.{Walk, met, nothing, early, lost, images_below, follow}

-- write: file, start, action, value; read: file, time, action or 0; decide: action, and whether it commits
pub data Call : Type 0 where
  begin : Call
  write : ℕ → ℕ → ℕ → List ℕ → Call
  read : ℕ → ℕ → ℕ → Call
  test : ℕ → Call
  decide : ℕ → Bool → Call
  rebuild : ℕ → Call

-- ---- lines 3, 5, 6, 11

abbrev pub for_file : World → ℕ → Result → Result
for_file w f k = cond (is_file (length w.rows) f) k (refuse NoFile 0 w)

abbrev pub is_known : Fate → Bool
is_known unknown = false
is_known undecided = true
is_known committed = true
is_known aborted = true

abbrev pub is_decided : Fate → Bool
is_decided unknown = false
is_decided undecided = false
is_decided committed = true
is_decided aborted = true

abbrev pub has_action : World → ℕ → Bool
has_action w a = leb 1 a && leb a w.end && is_known (fate_at w a)

abbrev pub for_action : World → ℕ → Result → Result
for_action w a k = cond (has_action w a) k (refuse NoAction 0 w)

abbrev pub if_undecided : World → ℕ → Result → Result
if_undecided w a k = cond (is_decided (fate_at w a)) (refuse AlreadyDecided 0 w) k

abbrev pub for_undecided : World → ℕ → Result → Result
for_undecided w a k = for_action w a (if_undecided w a k)

abbrev pub has_room : World → ℕ → Bool
has_room w n = leb n (length w.sheet - w.end)

-- ---- an append: line 12, and one page at end + 1

abbrev pub append : World → Entry → List ℕ → List Row → ℕ → World
append w g fates rows n = record { sheet = put w.sheet (suc w.end) g; fates = fates; rows = rows; end = suc w.end; floor = w.floor; undecided = n }

abbrev pub store : World → Entry → List ℕ → List Row → ℕ → Result
store w g fates rows n = cond (is_blank (entry_at w (suc w.end))) (Stored (suc w.end), append w g fates rows n) (refuse NotBlank 0 w)

-- ---- begin: lines 11, 12

abbrev pub on_begin : World → Result
on_begin w =
    cond (has_room w (w.undecided + 2))
    (store w (opening false) (put w.fates (suc w.end) 1) w.rows (suc w.undecided))
    (refuse NoRoom 0 w)

-- ---- the image that a place of a row holds

abbrev pub image_of : Entry → Option Image
image_of blank = none
image_of torn = none
image_of bad = none
image_of (opening k) = none
image_of (image i) = some i
image_of (outcome a c) = none

-- ---- write, on a warm row: lines 7, 8, 10, 11, 12

-- no token, or one of this action, which the new one overtakes
abbrev pub is_free_for : ℕ → Row → Bool
is_free_for a r = eqb r.token 0 || eqb r.tokenaction a

-- the token's end once it is written: its start; if it is written again, no less than it was
abbrev pub written_end : Row → ℕ → ℕ
written_end r start = cond (eqb r.token 0) start (max r.tokenend start)

abbrev pub written : Row → ℕ → ℕ → ℕ → Row
written r place start a = record { mark = 1; current = r.current; currentend = r.currentend; token = place; tokenend = written_end r start; tokenaction = a }

abbrev pub on_write : World → ℕ → ℕ → ℕ → List ℕ → Row → Result
on_write w f start a v r =
    cond (row_holds w f r)
    (cond (is_free_for a r)
    (cond (ltb r.currentend start && ltb w.floor start)
    (cond (has_room w (w.undecided + 1))
    (store w (image (record { file = f; action = a; link = r.current; start = start; value = v })) w.fates
    (put w.rows f (written r (suc w.end) start a)) w.undecided)
    (refuse NoRoom 0 w))
    (refuse EarlyStart 0 w))
    (refuse OtherToken r.tokenaction w))
    (refuse DamagedRow 0 w)

-- ---- read, on a warm row: lines 7, 9, 13, 25

-- the action of a carried opening
abbrev pub is_carried_at : World → ℕ → Bool
is_carried_at w a = is_carried (entry_at w a)

-- from the current version down the links
abbrev pub walk_from : World → ℕ → ℕ → ℕ → Option Image → Walk
walk_from w f time place none = nothing
walk_from w f time place (some i) = follow (is_carried_at w) time false (record { place = place; image = i }) (images_below w.sheet place f)

abbrev pub version_answer : Placed → Answer
version_answer x = Value x.place x.image.start (length x.image.value)

abbrev pub answer_walk : World → ℕ → Row → Walk → Result
answer_walk w f r (met x) = (version_answer x, with_row w f r)
answer_walk w f r nothing = (Nothing, with_row w f r)
answer_walk w f r early = refuse OnOlderSheet 0 w
answer_walk w f r (lost place) = refuse LostLink place w

-- the time is at least the current start, or there is no current version
abbrev pub reaches : ℕ → Option Image → Bool
reaches time none = true
reaches time (some i) = leb i.start time

-- a row whose current version, or whose token, was read at a time
abbrev pub read_current : ℕ → Bool → Row → Row
read_current time b r = record {
  mark = r.mark;
  current = r.current;
  currentend = cond b (max r.currentend time) r.currentend;
  token = r.token;
  tokenend = r.tokenend;
  tokenaction = r.tokenaction;
}

abbrev pub read_token : ℕ → Row → Row
read_token time r = record {
  mark = r.mark;
  current = r.current;
  currentend = r.currentend;
  token = r.token;
  tokenend = max r.tokenend time;
  tokenaction = r.tokenaction;
}

abbrev pub on_versions : World → ℕ → ℕ → Row → Result
on_versions w f time r =
    answer_walk w f (read_current time (reaches time (image_of (entry_at w r.current))) r) (walk_from w f time r.current (image_of (entry_at w r.current)))

abbrev pub on_token : World → ℕ → ℕ → ℕ → Row → Option Image → Result
on_token w f time a r none = on_versions w f time r
on_token w f time a r (some i) =
    cond (leb i.start time)
    (cond (eqb i.action a) (version_answer (record { place = r.token; image = i }), with_row w f (read_token time r)) (refuse HangingRead i.action w))
    (on_versions w f time r)

abbrev pub on_read : World → ℕ → ℕ → ℕ → Row → Result
on_read w f time a r = cond (row_holds w f r) (on_token w f time a r (image_of (entry_at w r.token))) (refuse DamagedRow 0 w)

-- ---- commit and abort, asked for the first time: lines 11, 12; and the rows that they change

abbrev pub decided : Bool → Row → Row
decided c r = record {
  mark = r.mark;
  current = cond c r.token r.current;
  currentend = cond c r.tokenend r.currentend;
  token = 0;
  tokenend = 0;
  tokenaction = 0;
}

-- a place up to the old end that holds a sealed image of a file under this action
abbrev pub is_token_at : World → ℕ → ℕ → ℕ → Bool
is_token_at w a f place = holds_image w f place && eqb (image_action (entry_at w place)) a

-- a rebuilt row that names this action, and whose token place holds an image of the file under it
abbrev pub holds_token : World → ℕ → ℕ → Row → Bool
holds_token w a f r = is_rebuilt_for a r && is_token_at w a f r.token

abbrev pub settled : World → ℕ → Bool → ℕ → Row → Row
settled w a c f r = cond (holds_token w a f r) (decided c r) r

unfoldable pub each_row : (ℕ → Row → Row) → ℕ → List Row → List Row
each_row k f [] = []
each_row k f (r ∷ rs) = k (suc f) r ∷ each_row k (suc f) rs

abbrev pub on_decide : World → ℕ → Bool → Result
on_decide w a c =
    cond (has_room w 1)
    (store w (outcome a c) (put w.fates a (fate_number (verdict c))) (each_row (settled w a c) 0 w.rows) (pred w.undecided))
    (refuse NoRoom 0 w)

-- ---- commit and abort, asked again: the action has this fate already

abbrev pub is_decided_as : Bool → Fate → Bool
is_decided_as c unknown = false
is_decided_as c undecided = false
is_decided_as c committed = c
is_decided_as c aborted = not c

-- the same decision is answered with the place of its outcome; line 6 is for the opposite one
abbrev pub unless_decided : World → ℕ → Bool → Result → Result
unless_decided w a c k = cond (is_decided_as c (fate_at w a)) (Stored (outcome_at w a), w) (if_undecided w a k)

-- ---- a call past line 1, and a call

abbrev pub on : World → Call → Result
on w begin = on_begin w
on w (write f start a v) =
    for_file w f (cond (leb (length v) value_size) (for_undecided w a (on_write (with_row w f (warm_row w f)) f start a v (warm_row w f))) (refuse LongValue 0 w))
on w (read f time a) =
    for_file w f (cond (eqb a 0) (on_read (with_row w f (warm_row w f)) f time a (warm_row w f))
    (for_undecided w a (on_read (with_row w f (warm_row w f)) f time a (warm_row w f))))
on w (test a) = for_action w a (Told (fate_number (fate_at w a)) (outcome_at w a), w)
on w (decide a c) = for_action w a (unless_decided w a c (on_decide w a c))
on w (rebuild f) = rebuilt w f

unfoldable pub call : World → Call → Result
call w k = cond (lent_right w) (on w k) (refuse WrongSizes 0 w)
