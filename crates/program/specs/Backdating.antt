-- Nothing is backdated: from a bare `open` on, past any cuts and bare `open`s more, until an opening with numbers, every image that is stored
-- starts above every one that was on the sheet at that `open`, whatever became of their actions. The openings before were for eight files.
use Rattle.std.specs.Prelude.{ℕ, ◌<◌, ◌≡◌, List, ◌∷◌, ◌++◌, ◌⊎◌, Option, Some, None}
use Rattle.recovery.specs.Log.{Image, Entry, image}
use Rattle.recovery.specs.Sheet.{sealed}
use Rattle.commands.specs.declared.parsing.Command as command
use Rattle.commands.specs.declared.parsing.Command.{Command}
use Rattle.commands.specs.Commands.{parsed}
use Rattle.desk.specs.Conversation.{bare_files}
use Rattle.program.specs.Program.{memory_after, AllLines, AllKeep}

-- no opening with numbers
abbrev pub IsUnnumbered : Option Command → Type 0
IsUnnumbered None = Unit {0}
IsUnnumbered (Some command.Command.BareOpen) = Unit {0}
IsUnnumbered (Some (command.Command.Open files floor)) = ⊥
IsUnnumbered (Some (command.Command.Cut n)) = Unit {0}
IsUnnumbered (Some (command.Command.Call k from)) = Unit {0}

module _ (pages : ℕ) (fates rows : List ℕ) where
  -- the page at a place of the sheet after these lines
  abbrev pub page_after : List (List ℕ) → ℕ → Entry
  page_after lines p = sealed bare_files (memory_after pages bare_files fates rows lines).sheet p

  abbrev pub NothingBackdated : Type 0
  NothingBackdated = (before : List (List ℕ)) (bare : List ℕ) (later : List (List ℕ)) (p q : ℕ) (i j : Image)
      → AllKeep bare_files before → parsed bare ≡ (Some command.Command.BareOpen) → AllLines IsUnnumbered later
      → page_after before p ≡ image i → page_after (before ++ bare ∷ later) q ≡ image j → (page_after before q ≡ image j) ⊎ (i.start < j.start)
