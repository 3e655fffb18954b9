-- A conversation with the command program is a run: its lines are the run's events, its sheet is the run's sheet, and each reply is
-- what the run hears, in document 01's words. So every promise holds of what a person types and reads.
use Rattle.std.specs.Prelude as prelude
use Rattle.std.specs.Prelude.{ℕ, ◌*◌, ◌≡◌, List, [], ◌∷◌, ◌++◌, Bool, true, cond, ◌&&◌, take, drop, replicate, Some, None}
use Rattle.std.proofs.Math.Option.{Option, some, none}
use Rattle.page.specs.Layout.{page_size, most_files}
use Rattle.recovery.specs.World.{is_file}
use Rattle.recovery.specs.Lent.{row_length}
use Rattle.calls.specs.Calls.{Call}
use Rattle.calls.specs.Asked.{asked}
use Rattle.calls.specs.Leaves.{call_leaves}
use Rattle.calls.specs.Cuts.{first_bytes}
use Rattle.commands.specs.declared.parsing.Command as command
use Rattle.commands.specs.declared.parsing.Command.{Command}
use Rattle.commands.specs.declared.printing.Reply as reply
use Rattle.commands.specs.declared.printing.Reply.{Reply}
use Rattle.commands.specs.Commands.{parsed}
use Rattle.desk.specs.declared.talking.Desk.{Desk}
use Rattle.desk.specs.Wording.{call_reply, open_reply}
use Rattle.desk.specs.Conversation.{After, cut_of, state_of, is_open, is_struck, bare_files, bare_floor, conversed, spoken, said_to, first_desk}
use Rattle.promises.specs.Runs.{Box, sheet_of, Event, calls, opens, cuts, moves, cuts_move, answer_to, numbered, Run}
use Rattle.promises.specs.Promises.{box_after}

-- ---- what the program has between two lines

pub record Memory : Type 0 where
  pub desk : Desk
  pub sheet : List ℕ
  pub fates : List ℕ
  pub rows : List ℕ

abbrev pub memory_of : After → Memory
memory_of x = record { desk = x.turn.desk; sheet = x.sheet; fates = x.fates; rows = x.rows }

-- a line said to it, and one line after the other
abbrev pub turned : Memory → List ℕ → After
turned m line = conversed m.desk m.sheet m.fates m.rows (parsed line) line

abbrev pub talked : Memory → List (List ℕ) → Memory
talked m [] = m
talked m (line ∷ lines) = talked (memory_of (turned m line)) lines

-- it begins with a blank sheet, the console's of 256 pages, and no state, whatever the fates and rows hold
abbrev pub first_memory : ℕ → List ℕ → List ℕ → Memory
first_memory pages fates rows = record { desk = first_desk; sheet = replicate (page_size * pages) 0; fates = fates; rows = rows }

-- ---- a line as an event

-- a call, which a waiting cut may strike
abbrev pub strikes : Memory → Call → Bool
strikes m k = is_open m.desk && is_struck m.desk (call_leaves m.sheet m.fates (take (row_length * m.desk.files) m.rows) (state_of m.desk) k).state

abbrev pub call_event : Memory → Call → Event
call_event m k = cond (strikes m k) (cuts k (first_bytes (cut_of m.desk))) (calls k)

-- an opening is lent the rows of its files, or none where there could be none
abbrev pub open_event : Memory → ℕ → ℕ → Event
open_event m files floor = opens floor m.fates (cond (is_file most_files files) (take (row_length * files) m.rows) [])

-- `what` and `cut` are no events
abbrev pub events_of : Memory → prelude.Option Command → List ℕ → List Event
events_of m None line = []
events_of m (Some command.Command.BareOpen) line = open_event m bare_files (bare_floor m.sheet) ∷ []
events_of m (Some (command.Command.Open files floor)) line = open_event m files floor ∷ []
events_of m (Some (command.Command.Cut n)) line = []
events_of m (Some (command.Command.Call k from)) line = call_event m (asked k (drop from line)) ∷ []

abbrev pub events_in : Memory → List (List ℕ) → List Event
events_in m [] = []
events_in m (line ∷ lines) = events_of m (parsed line) line ++ events_in (memory_of (turned m line)) lines

-- ---- what is heard, in 01's words

-- no answer: a call without a state prints `closed`, one that was cut `lost`; no line is a move
abbrev pub unheard : Event → Reply
unheard (calls k) = reply.Reply.Closed
unheard (opens floor fates rows) = reply.Reply.Closed
unheard (cuts k stored) = reply.Reply.Lost
unheard (moves fresh) = reply.Reply.Closed
unheard (cuts_move fresh n) = reply.Reply.Lost

abbrev pub in_words : (List ℕ → Reply) → Event → Option (List ℕ) → Reply
in_words word e (some numbers) = word numbers
in_words word e none = unheard e

abbrev pub open_heard : Box → Memory → ℕ → ℕ → Reply
open_heard b m files floor = in_words open_reply (open_event m files floor) (numbered (answer_to b (open_event m files floor)))

-- the reply to a line, by what the box is heard to answer to its event
abbrev pub reply_heard : Box → Memory → prelude.Option Command → List ℕ → Reply
reply_heard b m None line = reply.Reply.What
reply_heard b m (Some command.Command.BareOpen) line = open_heard b m bare_files (bare_floor m.sheet)
reply_heard b m (Some (command.Command.Open files floor)) line = open_heard b m files floor
reply_heard b m (Some (command.Command.Cut n)) line = reply.Reply.Cut n
reply_heard b m (Some (command.Command.Call k from)) line =
    in_words (call_reply k) (call_event m (asked k (drop from line))) (numbered (answer_to b (call_event m (asked k (drop from line)))))

-- ---- the statements

-- each line's command is so
abbrev pub AllLines : (prelude.Option Command → Type 0) → List (List ℕ) → Type 0
AllLines is [] = Unit {0}
AllLines is (line ∷ lines) = is (parsed line) × AllLines is lines

-- the openings keep one file count: a bare one, which is for eight, and every other that could have rows
abbrev pub Keeps : ℕ → prelude.Option Command → Type 0
Keeps files None = Unit {0}
Keeps files (Some command.Command.BareOpen) = bare_files ≡ files
Keeps files (Some (command.Command.Open n floor)) = is_file most_files n ≡ true → n ≡ files
Keeps files (Some (command.Command.Cut n)) = Unit {0}
Keeps files (Some (command.Command.Call k from)) = Unit {0}

abbrev pub AllKeep : ℕ → List (List ℕ) → Type 0
AllKeep files lines = AllLines (Keeps files) lines

module _ (pages files : ℕ) (fates rows : List ℕ) where
  abbrev pub memory_after : List (List ℕ) → Memory
  memory_after lines = talked (first_memory pages fates rows) lines

  abbrev pub run_of : List (List ℕ) → List Event
  run_of lines = events_in (first_memory pages fates rows) lines

  -- the box that the conversation's run has reached
  abbrev pub box_now : List (List ℕ) → Box
  box_now lines = box_after pages files (run_of lines)

  pub record Program : Type 0 where
    -- a conversation is a run
    pub is_run : (lines : List (List ℕ)) → AllKeep files lines → Run pages files (run_of lines)
    -- its sheet is the run's sheet
    pub same_sheet : (lines : List (List ℕ)) → AllKeep files lines → (memory_after lines).sheet ≡ sheet_of (box_now lines)
    -- the reply to the next line is what the run hears
    pub same_reply : (lines : List (List ℕ)) (line : List ℕ) → AllKeep files lines → (turned (memory_after lines) line).turn.reply ≡ reply_heard (box_now lines) (memory_after lines) (parsed line) line
    -- and its bytes are those of that reply, with all that the program then has
    pub same_bytes : (lines : List (List ℕ)) (line out : List ℕ) → AllKeep files lines
        → said_to (memory_after lines).desk (memory_after lines).sheet (memory_after lines).fates (memory_after lines).rows line out ≡ spoken out (turned (memory_after lines) line)
