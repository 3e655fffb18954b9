-- How the code reads a line, step by step. A reader of document 01 can pass this file over.
use Rattle.std.specs.Prelude.{ℕ, suc, ◌+◌, ◌*◌, ◌-◌, ◌^◌, List, [], ◌∷◌, ◌&&◌, cond, get_or, eqb, ltb, leb, Option, Some, None}
use Rattle.commands.specs.Commands.{words, number_of, three}

-- where the first space stands, or the length
unfoldable pub space_at : List ℕ → ℕ
space_at [] = 0
space_at (b ∷ s) = cond (eqb b 32) 0 (suc (space_at s))

-- a number with one digit more, if the byte is a digit and the number stays below 2^64
unfoldable pub add_digit : ℕ → ℕ → Option ℕ
add_digit n b = cond (leb 48 b && leb b 57 && ltb (10 * n + (b - 48)) (2 ^ 64)) (Some (10 * n + (b - 48))) None

-- word k of a line as a number
unfoldable pub number_at : List ℕ → ℕ → Option ℕ
number_at line k = number_of (get_or (words line) k [])

-- words 1 to 3 of a line as numbers
unfoldable pub numbers_in : List ℕ → Option (ℕ × ℕ × ℕ)
numbers_in line = three (number_at line 1) (number_at line 2) (number_at line 3)
