-- What is read was typed: the text that a reply to `read` shows is that of a `write` line typed before, of that file and start.
use Rattle.std.specs.Prelude.{ℕ, ◌≡◌, List, ◌∷◌, ◌++◌, drop, Some}
use Rattle.calls.specs.declared.asking.Call as call
use Rattle.commands.specs.declared.parsing.Command as command
use Rattle.commands.specs.declared.printing.Reply as reply
use Rattle.commands.specs.Commands.{parsed}
use Rattle.desk.specs.Wording.{shown}
use Rattle.desk.specs.Conversation.{After}
use Rattle.program.specs.Program.{turned, memory_after, AllKeep}

pub record WasTyped (lines : List (List ℕ)) (file start : ℕ) (text : List ℕ) : Type 0 where
  pub before : List (List ℕ)
  pub line : List ℕ
  pub rest : List (List ℕ)
  pub parts : lines ≡ before ++ line ∷ rest
  pub action : ℕ
  pub from : ℕ
  pub is : parsed line ≡ Some (command.Command.Call (call.Call.Write file start action) from)
  pub text_is : drop from line ≡ text

-- the bytes of a value that a reply prints
abbrev pub text_of : After → List ℕ
text_of x = shown x.turn.reply x.sheet

abbrev pub ReadsTyped : ℕ → ℕ → List ℕ → List ℕ → Type 0
ReadsTyped pages files fates rows = (lines : List (List ℕ)) (line : List ℕ) (file time action from place start size : ℕ) → AllKeep files lines
    → parsed line ≡ Some (command.Command.Call (call.Call.Read file time action) from)
    → (turned (memory_after pages files fates rows lines) line).turn.reply ≡ reply.Reply.Shown place start size
    → WasTyped lines file start (text_of (turned (memory_after pages files fates rows lines) line))
