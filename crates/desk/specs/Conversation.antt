-- What a command does to the desk, and the reply. The calls are those of the store, and a cut leaves what a cut leaves of them.
use Rattle.std.specs.Prelude.{ℕ, suc, ◌*◌, List, ◌++◌, Bool, cond, not, ◌&&◌, length, take, drop, eqb, leb, Option, Some, None, is_some, unwrap_or}
use Rattle.page.specs.Layout.{page_size, most_files}
use Rattle.recovery.specs.declared.State.{State}
use Rattle.recovery.specs.Numbers.{numbers_of, is_refused}
use Rattle.recovery.specs.World.{is_file}
use Rattle.recovery.specs.Lent.{Left, row_length, highest_start_of, closed, open_leaves}
use Rattle.calls.specs.declared.asking.Call.{Call}
use Rattle.calls.specs.Asked.{asked}
use Rattle.calls.specs.Leaves.{call_leaves}
use Rattle.calls.specs.Cuts.{stored_of, first_bytes}
use Rattle.commands.specs.declared.parsing.Command as command
use Rattle.commands.specs.declared.parsing.Command.{Command}
use Rattle.commands.specs.declared.printing.Reply as reply
use Rattle.commands.specs.declared.printing.Reply.{Reply}
use Rattle.commands.specs.Commands.{parsed}
use Rattle.commands.specs.Replies.{prints}
use Rattle.desk.specs.declared.talking.Desk.{Desk}
use Rattle.desk.specs.declared.talking.Turn.{Turn}
use Rattle.desk.specs.declared.talking.Said.{Said}
use Rattle.desk.specs.Wording.{call_reply, open_reply, shown}

-- all that a command leaves
pub record After : Type 0 where
  pub turn : Turn
  pub sheet : List ℕ
  pub fates : List ℕ
  pub rows : List ℕ

-- ---- a call on a desk that has a state

-- no cut is waiting: above the bytes of a page
abbrev pub no_cut : ℕ
no_cut = suc page_size

-- the bytes after which the next append is cut
abbrev pub cut_of : Desk → ℕ
cut_of d = unwrap_or d.cut no_cut

-- the state, closed where there is none
abbrev pub state_of : Desk → State
state_of d = unwrap_or d.state closed

-- the call is answered
abbrev pub answered : Desk → Call → Left → After
answered d k x = record {
  turn = record { reply = call_reply k (numbers_of x.answer); desk = record { files = d.files; state = Some x.state; cut = d.cut } };
  sheet = x.sheet;
  fates = x.fates;
  rows = x.rows;
}

-- the supply is cut while its page is stored: the cut is used up, and the state is gone
abbrev pub lost : Desk → List ℕ → Left → After
lost d s x = record {
  turn = record { reply = reply.Reply.Lost; desk = record { files = d.files; state = None; cut = None } };
  sheet = stored_of (first_bytes (cut_of d)) (state_of d).end x.sheet s;
  fates = x.fates;
  rows = x.rows;
}

-- a cut that waits strikes a call that appends: one that raises the end
abbrev pub is_struck : Desk → State → Bool
is_struck d left = leb (cut_of d) page_size && not (eqb left.end (state_of d).end)

abbrev pub acted_by : Desk → List ℕ → Call → Left → After
acted_by d s k x = cond (is_struck d x.state) (lost d s x) (answered d k x)

unfoldable pub acted : Desk → List ℕ → List ℕ → List ℕ → Call → List ℕ → After
acted d s fates rows k value = acted_by d s k (call_leaves s fates rows (state_of d) (asked k value))

-- ---- an opening; a refused one leaves no state

abbrev pub opened_by : Desk → ℕ → Left → After
opened_by d files x = record {
  turn = record { reply = open_reply (numbers_of x.answer); desk = record { files = files; state = cond (is_refused x.answer) None (Some x.state); cut = d.cut } };
  sheet = x.sheet;
  fates = x.fates;
  rows = x.rows;
}

unfoldable pub opened_for : Desk → List ℕ → List ℕ → List ℕ → ℕ → ℕ → After
opened_for d s fates rows files floor = opened_by d files (open_leaves s fates rows floor)

-- ---- a command, with all the rows there are: those of the files in use are lent

abbrev pub lending : List ℕ → ℕ → After → After
lending rows n x = record { turn = x.turn; sheet = x.sheet; fates = x.fates; rows = x.rows ++ drop n rows }

abbrev pub replied : Reply → Desk → List ℕ → List ℕ → List ℕ → After
replied r d s fates rows = record { turn = record { reply = r; desk = d }; sheet = s; fates = fates; rows = rows }

-- there is a state, for files whose rows can be lent
abbrev pub is_open : Desk → Bool
is_open d = is_some d.state && is_file most_files d.files

-- without a state a call is not made
unfoldable pub called_for : Desk → List ℕ → List ℕ → List ℕ → Call → List ℕ → After
called_for d s fates rows k value =
    cond (is_open d) (lending rows (row_length * d.files) (acted d s fates (take (row_length * d.files) rows) k value)) (replied reply.Reply.Closed d s fates rows)

-- line 1 of an opening, where there could be no rows to lend
unfoldable pub started_for : Desk → List ℕ → List ℕ → List ℕ → ℕ → ℕ → After
started_for d s fates rows files floor =
    cond (is_file most_files files)
    (lending rows (row_length * files) (opened_for d s fates (take (row_length * files) rows) files floor))
    (replied (reply.Reply.No 1 0) (record { files = d.files; state = None; cut = d.cut }) s fates rows)

-- a bare `open` has no numbers: it is for eight files, and its floor is the highest start on the sheet, so that nothing can be backdated
abbrev pub bare_files : ℕ
bare_files = 8

abbrev pub bare_floor : List ℕ → ℕ
bare_floor s = highest_start_of s bare_files

abbrev pub conversed : Desk → List ℕ → List ℕ → List ℕ → Option Command → List ℕ → After
conversed d s fates rows None line = replied reply.Reply.What d s fates rows
conversed d s fates rows (Some command.Command.BareOpen) line = started_for d s fates rows bare_files (bare_floor s)
conversed d s fates rows (Some (command.Command.Open files floor)) line = started_for d s fates rows files floor
conversed d s fates rows (Some (command.Command.Cut n)) line =
    replied (reply.Reply.Cut n) (record { files = d.files; state = d.state; cut = Some n }) s fates rows
conversed d s fates rows (Some (command.Command.Call k from)) line = called_for d s fates rows k (drop from line)

-- ---- a line of input and the bytes of its reply

pub record Spoken : Type 0 where
  pub said : Said
  pub sheet : List ℕ
  pub fates : List ℕ
  pub rows : List ℕ
  pub out : List ℕ

abbrev pub first_desk : Desk
first_desk = record { files = 0; state = None; cut = None }

abbrev pub spoken : List ℕ → After → Spoken
spoken out x = record {
  said = record { desk = x.turn.desk; count = (prints x.turn.reply (shown x.turn.reply x.sheet) out).0 };
  sheet = x.sheet;
  fates = x.fates;
  rows = x.rows;
  out = (prints x.turn.reply (shown x.turn.reply x.sheet) out).1;
}

-- a line's bytes to the bytes of its reply; with other rows than those of the most files nothing is done
unfoldable pub said_to : Desk → List ℕ → List ℕ → List ℕ → List ℕ → List ℕ → Spoken
said_to d s fates rows line out =
    cond (eqb (length rows) (row_length * most_files)) (spoken out (conversed d s fates rows (parsed line) line))
    (record { said = record { desk = d; count = 0 }; sheet = s; fates = fates; rows = rows; out = out })
