-- Runs of a box: calls, openings, moves to a fresh sheet and cuts of the supply, in any number and order, what each is answered and what
-- it leaves. The box has one sheet in use; a move leaves it for another.
use Rattle.std.specs.Prelude.{ℕ, ◌*◌, ◌^◌, ◌≤◌, ◌<◌, ◌≡◌, List, [], ◌∷◌, ◌++◌, Bool, true, false, cond, not, ◌&&◌, ◌||◌, length, replicate, leb}
use Rattle.std.proofs.Math.Option.{Option, some, none}
use Rattle.page.specs.Layout.{page_size, kind_at, mark_at}
use Rattle.recovery.specs.declared.Answer.{Answer}
use Rattle.recovery.specs.Numbers.{numbers_of, is_refused}
use Rattle.recovery.specs.World.{sizes}
use Rattle.recovery.specs.Lent.{Left, lent, row_length, sizes_right, open_leaves}
use Rattle.calls.specs.Calls.{Call, begin, write, read, test, decide, rebuild}
use Rattle.calls.specs.Leaves.{call_leaves}
use Rattle.calls.specs.Cuts.{stored_of}
use Rattle.moving.specs.Moved.{warm_rows, move_pages}
use Rattle.moving.specs.MoveLeaves.{MoveLeft, move_leaves}

-- a box is on, with all that the last call left it, or off, with its sheet alone
pub data Box : Type 0 where
  on : Left → Box
  off : List ℕ → Box

abbrev pub sheet_of : Box → List ℕ
sheet_of (on m) = m.sheet
sheet_of (off s) = s

-- a call; an opening, with its floor and with the fates and rows that it is lent, as they are found; a call that is cut when these
-- bytes of the page that it appends, of 0 to 63, are stored; a move onto a fresh sheet, as it is found; a move that is cut when so many
-- bytes of its pages are stored, in order of place and each first to last
pub data Event : Type 0 where
  calls : Call → Event
  opens : ℕ → List ℕ → List ℕ → Event
  cuts : Call → (ℕ → Bool) → Event
  moves : List ℕ → Event
  cuts_move : List ℕ → ℕ → Event

-- a call gets what the last one left, and leaves what its contract says
abbrev pub call_on : Left → Call → Left
call_on m k = call_leaves m.sheet m.fates m.rows m.state k

abbrev pub move_on : Left → List ℕ → MoveLeft
move_on m fresh = move_leaves m.sheet m.fates m.rows m.state fresh

-- a move that is not refused takes place; one that is cut, once its last page, the outcome, is stored
abbrev pub takes_place : Left → List ℕ → Bool
takes_place m fresh = not (is_refused (move_on m fresh).left.answer)

abbrev pub bytes_of_move : Left → ℕ
bytes_of_move m = page_size * length (move_pages (warm_rows (lent m.sheet m.fates m.rows m.state)))

abbrev pub is_moved : Box → Event → Bool
is_moved b (calls k) = false
is_moved b (opens floor fates rows) = false
is_moved b (cuts k kept) = false
is_moved (on m) (moves fresh) = takes_place m fresh
is_moved (off s) (moves fresh) = false
is_moved (on m) (cuts_move fresh n) = takes_place m fresh && leb (bytes_of_move m) n
is_moved (off s) (cuts_move fresh n) = false

-- no call gets a refused opening's state
abbrev pub box_of : Left → Box
box_of x = cond (is_refused x.answer) (off x.sheet) (on x)

-- a box that is off answers no call
abbrev pub answer_to : Box → Event → Option Answer
answer_to (on m) (calls k) = some (call_on m k).answer
answer_to (off s) (calls k) = none
answer_to b (opens floor fates rows) = some (open_leaves (sheet_of b) fates rows floor).answer
answer_to b (cuts k kept) = none
answer_to (on m) (moves fresh) = some (move_on m fresh).left.answer
answer_to (off s) (moves fresh) = none
answer_to b (cuts_move fresh n) = none

-- once a move takes place the box has the fresh sheet, and is off until an opening; else it goes on with the old one
abbrev pub after : Box → Event → Box
after (on m) (calls k) = on (call_on m k)
after (off s) (calls k) = off s
after b (opens floor fates rows) = box_of (open_leaves (sheet_of b) fates rows floor)
after (on m) (cuts k kept) = off (stored_of kept m.state.end (call_on m k).sheet m.sheet)
after (off s) (cuts k kept) = off s
after (on m) (moves fresh) = cond (takes_place m fresh) (off (move_on m fresh).fresh) (on (move_on m fresh).left)
after (off s) (moves fresh) = off s
after (on m) (cuts_move fresh n) = off (cond (takes_place m fresh && leb (bytes_of_move m) n) (move_on m fresh).fresh m.sheet)
after (off s) (cuts_move fresh n) = off s

abbrev pub runs : Box → List Event → Box
runs b [] = b
runs b (e ∷ es) = runs (after b e) es

-- some move of a run takes place
abbrev pub moved_in : Box → List Event → Bool
moved_in b [] = false
moved_in b (e ∷ es) = is_moved b e || moved_in (after b e) es

-- what is heard, in document 01's numbers
abbrev pub numbered : Option Answer → Option (List ℕ)
numbered none = none
numbered (some x) = some (numbers_of x)

abbrev pub Hears : Box → Event → Answer → Type 0
Hears b e x = numbered (answer_to b e) ≡ some (numbers_of x)

unfoldable pub heard : Box → List Event → List (Option (List ℕ))
heard b [] = []
heard b (e ∷ es) = numbered (answer_to b e) ∷ heard (after b e) es

-- ---- the premises

-- what the language's types allow
abbrev pub Typed : Call → Type 0
Typed begin = Unit {0}
Typed (write file start action value) = start < 2 ^ 64
Typed (read file time action) = Unit {0}
Typed (test action) = Unit {0}
Typed (decide action committed) = Unit {0}
Typed (rebuild file) = Unit {0}

-- a cut: any of a page's bytes may be stored, as long as byte 0 is if any is, and byte 63 only if all are
pub record Ordered (kept : ℕ → Bool) : Type 0 where
  pub first : (i : ℕ) → i < page_size → kept i ≡ true → kept kind_at ≡ true
  pub last : kept mark_at ≡ true → (i : ℕ) → i < page_size → kept i ≡ true

-- the file count stays: an opening that line 1 lets pass is lent the rows of that many files
abbrev pub Allowed : ℕ → Box → Event → Type 0
Allowed files b (calls k) = Typed k
Allowed files b (opens floor fates rows) = sizes_right (length (sheet_of b)) (length fates) (length rows) ≡ true → length rows ≡ row_length * files
Allowed files b (cuts k kept) = Typed k × Ordered kept
Allowed files b (moves fresh) = Unit {0}
Allowed files b (cuts_move fresh n) = Unit {0}

abbrev pub AllAllowed : ℕ → Box → List Event → Type 0
AllAllowed files b [] = Unit {0}
AllAllowed files b (e ∷ es) = Allowed files b e × AllAllowed files (after b e) es

-- the events of a box whose first sheet began blank, with so many pages, for so many files
abbrev pub blank_box : ℕ → Box
blank_box pages = off (replicate (page_size * pages) 0)

pub record Run (pages files : ℕ) (es : List Event) : Type 0 where
  pub sized : sizes pages pages files ≡ true
  pub allowed : AllAllowed files (blank_box pages) es

-- each opening's floor is at least every time asked in earlier reads outside any action that were answered without a refusal
abbrev pub Floors : Box → List Event → Type 0
Floors b es = (es₁ es₂ es₃ : List Event) (file time floor : ℕ) (fates rows : List ℕ) (x : Answer) → es ≡ es₁ ++ calls (read file time 0) ∷ (es₂ ++ opens floor fates rows ∷ es₃)
    → Hears (runs b es₁) (calls (read file time 0)) x → is_refused x ≡ false → time ≤ floor
