-- The lines that the command program takes, and the command that each one is (docs/STORE.md, The command language).
use Rattle.std.specs.Prelude.{ℕ, ◌+◌, ◌*◌, ◌-◌, ◌^◌, List, [], ◌∷◌, Bool, true, ◌&&◌, cond, length, eqb, ltb, leb, Option, Some, None}
use Rattle.page.specs.Layout.{page_size}
use Rattle.encoding.specs.Bytes.{same}
use Rattle.calls.specs.declared.asking.Call.TheVariants.{Begin, Write, Read, Test, Commit, Abort}
use Rattle.commands.specs.declared.parsing.Command.{Command}
use Rattle.commands.specs.declared.parsing.Command.TheVariants.{BareOpen, Open, Cut, Call}
use Rattle.commands.specs.Names.{open_name, begin_name, write_name, read_name, test_name, commit_name, abort_name, cut_name}

-- a byte put in front of the first word
abbrev pub longer : ℕ → List (List ℕ) → List (List ℕ)
longer b [] = []
longer b (w ∷ ws) = (b ∷ w) ∷ ws

-- the words of a line: what its spaces part. A space at either end, or a second one, parts off an empty word, which no command has
unfoldable pub words : List ℕ → List (List ℕ)
words [] = [] ∷ []
words (b ∷ s) = cond (eqb b 32) ([] ∷ words s) (longer b (words s))

-- every byte is a digit, 0x30 to 0x39
abbrev pub digits : List ℕ → Bool
digits [] = true
digits (b ∷ s) = leb 48 b && leb b 57 && digits s

-- the number whose decimal digits are those of n and then these
abbrev pub value_from : ℕ → List ℕ → ℕ
value_from n [] = n
value_from n (b ∷ s) = value_from (10 * n + (b - 48)) s

-- a word as a number: one or more digits, of a value below 2^64
unfoldable pub number_of : List ℕ → Option ℕ
number_of w = cond (ltb 0 (length w) && digits w && ltb (value_from 0 w) (2 ^ 64)) (Some (value_from 0 w)) None

-- three words as numbers
unfoldable pub three : Option ℕ → Option ℕ → Option ℕ → Option (ℕ × ℕ × ℕ)
three (Some a) (Some b) (Some c) = Some (a, b, c)
three (Some a) (Some b) None = None
three (Some a) None c = None
three None b c = None

-- every byte lies from 0x21 to 0x7E
abbrev pub printable : List ℕ → Bool
printable [] = true
printable (b ∷ s) = leb 33 b && leb b 126 && printable s

-- a text: one or more such bytes
unfoldable pub is_text : List ℕ → Bool
is_text w = ltb 0 (length w) && printable w

-- ---- the commands, by how many words they have, in a line of this size; beside a call stands where a write's text begins, and for
-- the other calls the line's length

-- `open`, `begin`
unfoldable pub alone : ℕ → List ℕ → Option Command
alone size w = cond (same w open_name) (Some BareOpen) (cond (same w begin_name) (Some (Call Begin size)) None)

-- `test A`, `commit A`, `abort A`, `cut N`
unfoldable pub with_one : ℕ → List ℕ → Option ℕ → Option Command
with_one size w (Some n) =
    cond (same w test_name) (Some (Call (Test n) size))
    (cond (same w commit_name) (Some (Call (Commit n) size))
    (cond (same w abort_name) (Some (Call (Abort n) size))
    (cond (same w cut_name && leb n page_size) (Some (Cut n)) None)))
with_one size w None = None

-- `open FILES FLOOR`
unfoldable pub with_two : List ℕ → Option ℕ → Option ℕ → Option Command
with_two w (Some a) (Some b) = cond (same w open_name) (Some (Open a b)) None
with_two w (Some a) None = None
with_two w None b = None

-- `read FILE TIME ACTION`
unfoldable pub with_three : ℕ → List ℕ → Option (ℕ × ℕ × ℕ) → Option Command
with_three size w (Some (a, b, c)) = cond (same w read_name) (Some (Call (Read a b c) size)) None
with_three size w None = None

-- `write FILE START ACTION TEXT`, where the text ends the line
unfoldable pub with_text : ℕ → List ℕ → Option (ℕ × ℕ × ℕ) → List ℕ → Option Command
with_text size w (Some (a, b, c)) t = cond (same w write_name && is_text t) (Some (Call (Write a b c) (size - length t))) None
with_text size w None t = None

unfoldable pub command_of : ℕ → List (List ℕ) → Option Command
command_of size [] = None
command_of size (w ∷ []) = alone size w
command_of size (w ∷ a ∷ []) = with_one size w (number_of a)
command_of size (w ∷ a ∷ b ∷ []) = with_two w (number_of a) (number_of b)
command_of size (w ∷ a ∷ b ∷ c ∷ []) = with_three size w (three (number_of a) (number_of b) (number_of c))
command_of size (w ∷ a ∷ b ∷ c ∷ t ∷ []) = with_text size w (three (number_of a) (number_of b) (number_of c)) t
command_of size (w ∷ a ∷ b ∷ c ∷ t ∷ x ∷ ws) = None

-- the longest line that is taken
abbrev pub longest : ℕ
longest = 255

-- the command that a line is; a longer one is none
unfoldable pub parsed : List ℕ → Option Command
parsed line = cond (ltb longest (length line)) None (command_of (length line) (words line))
