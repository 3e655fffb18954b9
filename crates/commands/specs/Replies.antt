-- The lines that the command program prints (docs/STORE.md, The command language).
use Rattle.std.specs.Prelude.{ℕ, zero, suc, ◌+◌, ◌/◌, ◌%◌, List, [], ◌∷◌, ◌++◌, ◌||◌, cond, length, drop, ltb}
use Rattle.page.specs.Layout.{value_size}
use Rattle.commands.specs.declared.printing.Reply.{Reply}
use Rattle.commands.specs.declared.printing.Reply.TheVariants.{What, Closed, Lost, Cut, Opened, Begun, Written, Shown, Nothing, Told, Committed, Aborted, No}
use Rattle.commands.specs.Names.{open_name, begin_name, write_name, read_name, test_name, commit_name, abort_name, cut_name, what_name, closed_name, lost_name, none_name, no_name}

-- the decimal digits of a number without leading zeros, where it has at most n + 1 of them
abbrev pub digits_of : ℕ → ℕ → List ℕ
digits_of zero x = (48 + x) ∷ []
digits_of (suc n) x = cond (ltb x 10) ((48 + x) ∷ []) (digits_of n (x / 10) ++ ((48 + x % 10) ∷ []))

-- the decimal digits of a number of 64 bits, which has at most 20
unfoldable pub decimal : ℕ → List ℕ
decimal x = digits_of 19 x

-- a space and a number
unfoldable pub spaced : ℕ → List ℕ
spaced x = 32 ∷ decimal x

abbrev pub newline : List ℕ
newline = 10 ∷ []

-- the line of a reply; the value is printed by a read that shows one
unfoldable pub printed : Reply → List ℕ → List ℕ
printed What value = what_name ++ newline
printed Closed value = closed_name ++ newline
printed Lost value = lost_name ++ newline
printed (Cut n) value = cut_name ++ spaced n ++ newline
printed (Opened end count) value = open_name ++ spaced end ++ spaced count ++ newline
printed (Begun place) value = begin_name ++ spaced place ++ newline
printed (Written place) value = write_name ++ spaced place ++ newline
printed (Shown place start size) value = read_name ++ spaced place ++ spaced start ++ (32 ∷ value) ++ newline
printed Nothing value = none_name ++ newline
printed (Told fate place) value = test_name ++ spaced fate ++ spaced place ++ newline
printed (Committed place) value = commit_name ++ spaced place ++ newline
printed (Aborted place) value = abort_name ++ spaced place ++ newline
printed (No number place) value = no_name ++ spaced number ++ spaced place ++ newline

-- a line laid over the beginning of a run, and its length
abbrev pub laid : List ℕ → List ℕ → ℕ × List ℕ
laid line out = (length line, line ++ drop (length line) out)

-- room for the longest line
abbrev pub room : ℕ
room = 128

-- what `print` answers, and what it leaves of the run: nothing is printed of a value that is too long, or into less room
unfoldable pub prints : Reply → List ℕ → List ℕ → ℕ × List ℕ
prints reply value out = cond (ltb (length out) room || ltb value_size (length value)) (0, out) (laid (printed reply value) out)
