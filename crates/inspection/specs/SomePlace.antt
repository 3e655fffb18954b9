-- What a look for a place answers in code, where a definition gives a number: none for 0.
use Rattle.std.specs.Prelude.{ℕ, zero, suc, Option, Some, None}

abbrev pub some_place : ℕ → Option ℕ
some_place zero = None
some_place (suc n) = Some (suc n)
