-- How the code works the check word out: numbers that leave by 65,521 what the word's own steps leave. The products here are sums of
-- shifts in the code.
-- A reader of document 01 can pass this file over: `check` is what the word is, and laws say that this gives the same.
use Rattle.std.specs.Prelude.{ℕ, ◌+◌, ◌*◌, ◌/◌, ◌%◌, List, ◌++◌, get_or, replicate}
use Rattle.encoding.specs.Bytes.{bytes}

-- what lies above 16 bits comes back 15 times, since 65,536 leaves 15 by 65,521
abbrev pub folded : ℕ → ℕ
folded x = x % 65536 + 15 * (x / 65536)

-- four bytes by their weights, 528 for the square of 257
abbrev pub four : List ℕ → ℕ → ℕ
four s i = 135696 * get_or s i 0 + 528 * get_or s (i + 1) 0 + 257 * get_or s (i + 2) 0 + get_or s (i + 3) 0

-- the same of the four bytes of a number
abbrev pub four_of : ℕ → ℕ
four_of x = 135696 * (x % 256) + 528 * (x / 256 % 256) + 257 * (x / 65536 % 256) + x / 16777216

-- what came so far, 32 times, and what stands in front of it, 15 times both
abbrev pub joined : ℕ → ℕ → ℕ
joined a q = 15 * (32 * folded a + q)

-- three groups of four bytes, eight bytes apart
unfoldable pub three : List ℕ → ℕ → ℕ
three s i = 15 * (four s i + 480 * (four s (i + 8) + 480 * four s (i + 16)))

-- the first 56 bytes of 60: 15 times each weight leaves a power of 257, that of its first group's last byte: 24, 20, 56, 52
unfoldable pub gathered : List ℕ → ℕ
gathered s = 58132 * three s 32 + 39269 * three s 36 + 16953 * (480 * three s 8 + 15 * four s 0) + 42009 * (480 * three s 12 + 15 * four s 4)

-- 60 bytes: 1 in byte 0, a small number in byte 1, a number in bytes 8 to 11 and again in bytes 56 to 59, and zeros
unfoldable pub few : ℕ → ℕ → List ℕ
few small x = bytes 1 1 ++ bytes 1 small ++ replicate 6 0 ++ bytes 4 x ++ replicate 44 0 ++ bytes 4 x
