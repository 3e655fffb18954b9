-- Laws of the check word. It tells one changed byte, since its step is one-to-one in the word and in the byte. Shuts out a step that
-- multiplies by 256 and takes the remainder by 65,536, which forgets every byte but the last two. Assumes nothing.
use Prim.Native.Nat.{ℕ, zero, suc, ◌+◌, ◌*◌, ◌/◌, ◌%◌, ◌<◌}
use mathlib.Core.Path.{◌≡◌, sym, ap, ◌∙◌}
use mathlib.Core.List.{List, [], ◌∷◌}
use native.Mathlib.Omega.{arith}
use native.Mathlib.Nat.{mod-lt, mod-eq_of_lt, mul-add-mod_self_left}
use lib.ListN.{length, get_or, set}
use Rattle.encoding.specs.Bytes.{next_word, check_from, check}

-- ---- the word after one byte more

-- one-to-one in the word: 257 × 51,499 leaves 1 by 65,521, so that the word after a byte tells the one before it
next_word_lem : (w x b : ℕ) → w < 65521 → x < 65521 → next_word w b ≡ next_word x b → w ≡ x
next_word_lem w x b h k e =
    let p : ℕ = (257 * w + b) / 65521 in
    let q : ℕ = (257 * x + b) / 65521 in
    let u : 65521 * (202 * w + 51499 * q) + w ≡ 65521 * (202 * x + 51499 * p) + x = omega arith in
    sym (low (202 * w + 51499 * q) w h) ∙ ap (λ (n : ℕ). n % 65521) u ∙ low (202 * x + 51499 * p) x k
  where
    low : (m r : ℕ) → r < 65521 → (65521 * m + r) % 65521 ≡ r
    low m r h = mul-add-mod_self_left 65521 m r ∙ mod-eq_of_lt h

-- and in the byte
next_byte : (w a b : ℕ) → a < 256 → b < 256 → next_word w a ≡ next_word w b → a ≡ b
next_byte w a b h k e = omega arith

next_below : (w b : ℕ) → next_word w b < 65521
next_below w b = mod-lt (257 * w + b) (omega arith)

-- ---- the word of a run with one byte changed

-- words that begin apart end apart
words_apart : (s : List ℕ) (w x : ℕ) → w < 65521 → x < 65521 → check_from w s ≡ check_from x s → w ≡ x
words_apart [] w x h k e = e
words_apart (b ∷ s) w x h k e = next_word_lem w x b h k (words_apart s (next_word w b) (next_word x b) (next_below w b) (next_below x b) e)

tells_from : (s : List ℕ) (w i v : ℕ) → i < length s → get_or s i 0 < 256 → v < 256 → check_from w (set s i v) ≡ check_from w s → v ≡ get_or s i 0
tells_from [] w i v h b k e = absurd (omega arith)
tells_from (a ∷ s) w zero v h b k e = next_byte w v a k b (words_apart s (next_word w v) (next_word w a) (next_below w v) (next_below w a) e)
tells_from (a ∷ s) w (suc i) v h b k e = tells_from s (next_word w a) i v (omega arith) b k e

-- it is the same only if the byte is
pub word_tells : (s : List ℕ) (i v : ℕ) → i < length s → get_or s i 0 < 256 → v < 256 → check (set s i v) ≡ check s → v ≡ get_or s i 0
word_tells s i v h b k e = tells_from s 1 i v h b k e

-- ---- its size

check_below : (w : ℕ) (s : List ℕ) → w < 65521 → check_from w s < 65521
check_below w [] h = h
check_below w (b ∷ s) h = check_below (next_word w b) s (next_below w b)

pub check_small : (s : List ℕ) → check s < 65521
check_small s = check_below 1 s (omega arith)
