-- A line said to the program and the event that it is: they leave the same sheet, and the reply is what the box answers. Assumes nothing.
use Rattle.std.proofs.Common.{Option, Some, None, is_some}
use Prim.Native.Nat.{ℕ, ◌*◌, ◌/◌, ◌≤◌}
use mathlib.Core.Path.{◌≡◌, refl, sym, ap, ◌∙◌, subst}
use mathlib.Core.List.{List, [], ◌++◌}
use mathlib.Core.Bool.{Bool, true, false, cond, ◌&&◌}
use native.Mathlib.Omega.{arith}
use lib.ListN.{length, take, drop, length-append, length-drop, length-replicate}
use lib.Seq.{take_at, length-take-le}
use lib.Dec.{eqb}
use Rattle.encoding.proofs.Logic.{by_test, and_true, is_false}
use Rattle.page.specs.Layout.{most_files}
use Rattle.recovery.specs.declared.Refusal.TheVariants.{WrongSizes, UnfinishedMove}
use Rattle.recovery.specs.declared.Answer.{Answer}
use Rattle.recovery.specs.Numbers.{numbers_of, is_refused}
use Rattle.recovery.specs.World.{Result, sizes, is_file, cold_rows, opened, down, end_of, highest_bad, refuse, unopened, unfinished}
use Rattle.recovery.specs.Lent.{Left, row_length, rows_of, flat, pages_of, whole, sizes_right, refused, closed, left_by, open_leaves}
use Rattle.recovery.specs.OpenSteps.{refused_opening}
use Rattle.recovery.proofs.FlatRows.{flat_long}
use Rattle.recovery.proofs.Sizes.{sizes_right_lem}
use Rattle.recovery.proofs.OpeningLaws.{open_refused}
use Rattle.recovery.proofs.OpeningRuns.{cold_flat}
use Rattle.recovery.proofs.Lookups.{is_file_lem}
use Rattle.recovery.proofs.Leaves.{rows_back}
use Rattle.calls.specs.declared.asking.Call as code
use Rattle.calls.specs.Calls.{Call}
use Rattle.calls.specs.Asked.{asked}
use Rattle.calls.specs.Leaves.{call_leaves}
use Rattle.calls.specs.Cuts.{first_bytes}
use Rattle.commands.specs.declared.parsing.Command as command
use Rattle.commands.specs.declared.parsing.Command.{Command}
use Rattle.commands.specs.declared.printing.Reply as reply
use Rattle.desk.specs.Wording.{call_reply, open_reply}
use Rattle.desk.specs.Conversation.{After, cut_of, state_of, answered, lost, is_struck, acted, opened_for, lending, replied, is_open, called_for, started_for, bare_files, bare_floor, conversed}
use Rattle.promises.specs.Runs.{Box, on, off, sheet_of, Event, calls, cuts, box_of, answer_to, numbered, after, runs}
use Rattle.calls.proofs.OtherRows.{rows_as_many}
use Rattle.program.specs.Program.{Memory, memory_of, call_event, open_event, events_of, in_words, reply_heard}

-- ---- the program's memory and a box that has the same

abbrev pub left_for : Memory → Answer → Left
left_for m a = record { answer = a; state = state_of m.desk; sheet = m.sheet; fates = m.fates; rows = take (row_length * m.desk.files) m.rows }

pub data Met (m : Memory) : Box → Type 0 where
  met_on : is_open m.desk ≡ true → (a : Answer) → Met m (on (left_for m a))
  met_off : is_open m.desk ≡ false → Met m (off m.sheet)

pub met_sheet : (m : Memory) (b : Box) → Met m b → m.sheet ≡ sheet_of b
met_sheet m b (met_on o a) = refl
met_sheet m b (met_off o) = refl

-- the rows of as many files as there can be
abbrev pub AllRows : List ℕ → Type 0
AllRows rows = length rows ≡ row_length * most_files

-- rows lent from the front of all there are, and given back
module _ (rows back : List ℕ) (n : ℕ) (l : AllRows rows) (h : n ≤ row_length * most_files) (k : length back ≡ n) where
  front_back : take n (back ++ drop n rows) ≡ back
  front_back = take_at back (drop n rows) n k

  back_long : AllRows (back ++ drop n rows)
  back_long = simp (length-append, length-drop) (omega arith)

-- what a line leaves, and the box after its event
pub record Steps (x : After) (b : Box) (r : reply.Reply) : Type 0 where
  pub next : Met (memory_of x) b
  pub rows : AllRows x.rows
  pub reply : x.turn.reply ≡ r

-- ---- a call

module _ (m : Memory) (s : AllRows m.rows) (c : code.Call) (value : List ℕ) where
  abbrev k : Call
  k = asked c value

  abbrev n : ℕ
  n = row_length * m.desk.files

  abbrev X : Left
  X = call_leaves m.sheet m.fates (take n m.rows) (state_of m.desk) k

  abbrev made_by : Bool → After
  made_by z = lending m.rows n (cond z (lost m.desk m.sheet X) (answered m.desk c X))

  abbrev event_by : Bool → Event
  event_by z = cond z (cuts k (first_bytes (cut_of m.desk))) (calls k)

  abbrev StepsBy : Box → After → Event → Type 0
  StepsBy b x e = Steps x (after b e) (in_words (call_reply c) e (numbered (answer_to b e)))

  module _ (o : is_open m.desk ≡ true) (a : Answer) where
    few : n ≤ row_length * most_files
    few = let f = is_file_lem most_files m.desk.files (and_true (is_some m.desk.state) (is_file most_files m.desk.files) o).1 in omega arith

    rows_are : length X.rows ≡ n
    rows_are = rows_as_many m.sheet m.fates (take n m.rows) (state_of m.desk) k ∙ length-take-le n m.rows (omega (arith, few, s))

    made : (z : Bool) → StepsBy (on (left_for m a)) (made_by z) (event_by z)
    made true = record { next = met_off refl; rows = back_long m.rows X.rows n s few rows_are; reply = refl }
    made false = record {
      next = subst (λ r. Met (memory_of (made_by false)) (on (record { answer = X.answer; state = X.state; sheet = X.sheet; fates = X.fates; rows = r })))
          (front_back m.rows X.rows n s few rows_are) (met_on (and_true (is_some m.desk.state) (is_file most_files m.desk.files) o).1 X.answer);
      rows = back_long m.rows X.rows n s few rows_are;
      reply = refl;
    }

  abbrev struck : Bool
  struck = is_struck m.desk X.state

  -- what is left, and the event, by whether there is a state
  abbrev left_by_open : Bool → After
  left_by_open b = cond b (made_by struck) (replied reply.Reply.Closed m.desk m.sheet m.fates m.rows)

  abbrev event_open : Bool → Event
  event_open b = event_by (b && struck)

  by_open : (b : Box) (z : Bool) → is_open m.desk ≡ z → StepsBy b (left_by_open z) (event_open z) → StepsBy b (called_for m.desk m.sheet m.fates m.rows c value) (call_event m k)
  unfolding called_for acted
  by_open b z e h = subst (λ z. StepsBy b (left_by_open z) (event_open z)) (sym e) h

  call_steps : (b : Box) → Met m b → StepsBy b (called_for m.desk m.sheet m.fates m.rows c value) (call_event m k)
  call_steps b (met_on o a) = by_open (on (left_for m a)) true o (made o a struck)
  call_steps b (met_off o) = by_open (off m.sheet) false o (record { next = met_off o; rows = s; reply = refl })

-- ---- an opening

-- it leaves as many rows
opened_long : (s fates rows : List ℕ) (floor : ℕ) → length (open_leaves s fates rows floor).rows ≡ length rows
unfolding open_leaves opened
opened_long s fates rows floor =
    by_test (λ (x : Left). length x.rows ≡ length rows) (whole (length s) (length rows)) {y = refused WrongSizes 0 s fates rows closed}
    (λ e.
    let back : flat (rows_of rows) ≡ rows = rows_back s fates rows closed e in
    let cold-long : length (flat (cold_rows (length (rows_of rows)))) ≡ length rows =
    ap length (sym (cold_flat (length (rows_of rows)))) ∙ length-replicate (row_length * length (rows_of rows)) 0 ∙ sym (flat_long (rows_of rows)) ∙ ap length back in
    by_test (λ (r : Result). length (flat r.1.rows) ≡ length rows) (sizes (length (pages_of s (length rows / row_length))) (length fates) (length (rows_of rows)))
    {y = refuse WrongSizes 0 (unopened (pages_of s (length rows / row_length)) fates (rows_of rows))}
    (λ k. by_test (λ (r : Result). length (flat r.1.rows) ≡ length rows) (eqb (highest_bad (down (pages_of s (length rows / row_length)) (end_of (pages_of s (length rows / row_length)) (length (pages_of s (length rows / row_length)))))) 0)
    (λ q. by_test (λ (r : Result). length (flat r.1.rows) ≡ length rows) (unfinished (pages_of s (length rows / row_length)) (end_of (pages_of s (length rows / row_length)) (length (pages_of s (length rows / row_length)))))
    {x = refuse UnfinishedMove 0 (unopened (pages_of s (length rows / row_length)) fates (rows_of rows))} (λ u. ap length back) (λ u. cold-long)) (λ q. ap length back)) (λ k. ap length back)) (λ e. refl)

-- with no rows it is refused by line 1
no_rows : (s fates : List ℕ) (floor : ℕ) → left_by (refused_opening WrongSizes 0) s fates [] ≡ open_leaves s fates [] floor
no_rows s fates floor =
    open_refused s fates [] floor (is_false (sizes_right (length s) (length fates) 0) (λ e. omega (arith, (sizes_right_lem (length s) (length fates) 0 e).some_files))) (refused_opening WrongSizes 0) refl

module _ (m : Memory) (s : AllRows m.rows) (files floor : ℕ) where
  abbrev q : ℕ
  q = row_length * files

  abbrev Y : Left
  Y = open_leaves m.sheet m.fates (take q m.rows) floor

  abbrev open_by : Bool → After
  open_by r = lending m.rows q (record {
    turn = record { reply = open_reply (numbers_of Y.answer); desk = record { files = files; state = cond r None (Some Y.state); cut = m.desk.cut } };
    sheet = Y.sheet;
    fates = Y.fates;
    rows = Y.rows;
  })

  -- where there are rows to lend
  module _ (f : is_file most_files files ≡ true) where
    few_rows : q ≤ row_length * most_files
    few_rows = let h = is_file_lem most_files files f in omega arith

    open_rows : length Y.rows ≡ q
    open_rows = opened_long m.sheet m.fates (take q m.rows) floor ∙ length-take-le q m.rows (omega (arith, few_rows, s))

    lends : (r : Bool) → Steps (open_by r) (cond r (off Y.sheet) (on Y)) (open_reply (numbers_of Y.answer))
    lends true = record { next = met_off refl; rows = back_long m.rows Y.rows q s few_rows open_rows; reply = refl }
    lends false = record {
      next = subst (λ r. Met (memory_of (open_by false)) (on (record { answer = Y.answer; state = Y.state; sheet = Y.sheet; fates = Y.fates; rows = r })))
          (front_back m.rows Y.rows q s few_rows open_rows) (met_on f Y.answer);
      rows = back_long m.rows Y.rows q s few_rows open_rows;
      reply = refl;
    }

  abbrev refused_open : After
  refused_open = replied (reply.Reply.No 1 0) (record { files = m.desk.files; state = None; cut = m.desk.cut }) m.sheet m.fates m.rows

  abbrev StepsFrom : List ℕ → After → List ℕ → Type 0
  StepsFrom u x rows = Steps x (box_of (open_leaves u m.fates rows floor)) (open_reply (numbers_of (open_leaves u m.fates rows floor).answer))

  starts : (z : Bool) → is_file most_files files ≡ z → StepsFrom m.sheet (cond z (open_by (is_refused Y.answer)) refused_open) (cond z (take q m.rows) [])
  unfolding is_refused open_reply
  starts true f = lends f (is_refused Y.answer)
  starts false f = subst (λ (x : Left). Steps refused_open (box_of x) (open_reply (numbers_of x.answer))) (no_rows m.sheet m.fates floor) (record { next = met_off refl; rows = s; reply = refl })

  open_steps : (b : Box) → Met m b → Steps (started_for m.desk m.sheet m.fates m.rows files floor) (after b (open_event m files floor)) (in_words open_reply (open_event m files floor) (numbered (answer_to b (open_event m files floor))))
  unfolding started_for opened_for
  open_steps b h = subst (λ u. StepsFrom u (cond (is_file most_files files) (open_by (is_refused Y.answer)) refused_open) (cond (is_file most_files files) (take q m.rows) [])) (met_sheet m b h) (starts (is_file most_files files) refl)

-- ---- every line

-- one that changes the waiting cut alone
waits : (m : Memory) (b : Box) (n : ℕ) → Met m b → Met (record { desk = record { files = m.desk.files; state = m.desk.state; cut = Some n }; sheet = m.sheet; fates = m.fates; rows = m.rows }) b
waits m b n (met_on o a) = met_on o a
waits m b n (met_off o) = met_off o

module _ (m : Memory) (s : AllRows m.rows) (b : Box) (h : Met m b) (line : List ℕ) where
  pub line_steps : (c : Option Command) → Steps (conversed m.desk m.sheet m.fates m.rows c line) (runs b (events_of m c line)) (reply_heard b m c line)
  line_steps None = record { next = h; rows = s; reply = refl }
  line_steps (Some command.Command.BareOpen) = open_steps m s bare_files (bare_floor m.sheet) b h
  line_steps (Some (command.Command.Open files floor)) = open_steps m s files floor b h
  line_steps (Some (command.Command.Cut n)) = record { next = waits m b n h; rows = s; reply = refl }
  line_steps (Some (command.Command.Call k from)) = call_steps m s k (drop from line) b h
