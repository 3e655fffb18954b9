-- Lines and their commands, replies and their lines, worked out by evaluation. Assumes nothing.
use Rattle.std.proofs.Common.{Option, Some, None}
use Prim.Native.Nat.{ℕ, ◌-◌, ◌^◌}
use mathlib.Core.Path.{◌≡◌, refl}
use mathlib.Core.List.{List, [], ◌∷◌, ◌++◌, map}
use lib.ListN.{replicate}
use Rattle.commands.specs.declared.parsing.Command.{Command}
use Rattle.commands.specs.declared.parsing.Command.TheVariants.{BareOpen, Open, Cut, Call}
use Rattle.calls.specs.declared.asking.Call.TheVariants.{Begin, Write, Read, Test}
use Rattle.commands.specs.declared.printing.Reply as reply
use Rattle.commands.specs.Names.{open_name, begin_name, write_name, read_name, test_name, commit_name, abort_name, cut_name, no_name}
use Rattle.commands.specs.Commands.{words, number_of, three, is_text, alone, with_one, with_two, with_three, with_text, command_of, parsed}
use Rattle.commands.specs.Replies.{decimal, spaced, printed}

-- `write 1 1 1` and a text of n bytes
abbrev line_of : ℕ → List ℕ
line_of n = write_name ++ spaced 1 ++ spaced 1 ++ spaced 1 ++ (32 ∷ replicate n 65)

abbrev lines : List (List ℕ)
lines =
    open_name
    ∷ (open_name ++ spaced 8)
    ∷ (open_name ++ spaced 8 ++ spaced 5)
    ∷ []
    ∷ (32 ∷ begin_name)
    ∷ begin_name
    ∷ (begin_name ++ (32 ∷ []))
    ∷ (write_name ++ spaced 3 ++ spaced 10 ++ spaced 1 ++ (32 ∷ 65 ∷ 66 ∷ []))
    ∷ (write_name ++ (32 ∷ spaced 3) ++ spaced 10 ++ spaced 1 ++ (32 ∷ 65 ∷ 66 ∷ []))
    ∷ (write_name ++ spaced 3 ++ spaced 10 ++ spaced 1 ++ (32 ∷ 127 ∷ []))
    ∷ line_of 243
    ∷ line_of 244
    ∷ (read_name ++ spaced 3 ++ spaced 10 ++ spaced 0)
    ∷ (test_name ++ (32 ∷ 48 ∷ 48 ∷ 52 ∷ []))
    ∷ (test_name ++ spaced (2 ^ 64 - 1))
    ∷ (test_name ++ spaced (2 ^ 64))
    ∷ (cut_name ++ spaced 64)
    ∷ (cut_name ++ spaced 65)
    ∷ []

abbrev commands : List (Option Command)
commands =
    Some BareOpen ∷ None ∷ Some (Open 8 5) ∷ None ∷ None ∷ Some (Call Begin 5) ∷ None
    ∷ Some (Call (Write 3 10 1) 13) ∷ None ∷ None ∷ Some (Call (Write 1 1 1) 12) ∷ None
    ∷ Some (Call (Read 3 10 0) 11) ∷ Some (Call (Test 4) 8) ∷ Some (Call (Test (2 ^ 64 - 1)) 25) ∷ None ∷ Some (Cut 64) ∷ None ∷ []

pub commands_of_lines : map parsed lines ≡ commands
unfolding words number_of three is_text alone with_one with_two with_three with_text command_of parsed decimal spaced open_name begin_name write_name read_name test_name commit_name abort_name cut_name
commands_of_lines = refl

-- `read 2 10 AB`
pub read_shown : printed (reply.Reply.Shown 2 10 2) (65 ∷ 66 ∷ []) ≡ 114 ∷ 101 ∷ 97 ∷ 100 ∷ 32 ∷ 50 ∷ 32 ∷ 49 ∷ 48 ∷ 32 ∷ 65 ∷ 66 ∷ 10 ∷ []
unfolding printed spaced decimal read_name
read_shown = refl

-- `no 9 1`
pub refusal : printed (reply.Reply.No 9 1) [] ≡ 110 ∷ 111 ∷ 32 ∷ 57 ∷ 32 ∷ 49 ∷ 10 ∷ []
unfolding printed spaced decimal no_name
refusal = refl
