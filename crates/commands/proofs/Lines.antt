-- The words of a line, found by walking it. Assumes nothing.
use Prim.Native.Nat.{ℕ, zero, suc, ◌+◌, ◌-◌, ◌≤◌, ◌<◌}
use mathlib.Core.Path.{◌≡◌, refl, sym, ap, ◌∙◌}
use mathlib.Core.Bool.{Bool, true, false, ◌&&◌, not, cond}
use mathlib.Core.List.{List, [], ◌∷◌}
use native.Mathlib.Omega.{arith}
use Rattle.std.proofs.Common.{Some, None, unwrap_or}
use Rattle.std.specs.List.{list_all, position, position_or_len, count_by}
use Rattle.std.proofs.lemmas.List.Sums.{sum_by-cons}
use borrow.Author.Tests.{ltb-false}
use lib.Dec.{eqb, ltb, leb}
use lib.ListN.{length, take, drop, get_or, drop_of_length-le}
use lib.Seq.{drop-drop}
use Rattle.commands.specs.Commands.{words, longer, printable}
use Rattle.commands.specs.ParseSteps.{space_at}

-- ---- the next space

space_first : (s : List ℕ) → position_or_len (λ b. eqb b 32) s ≡ space_at s
unfolding space_at
space_first [] = refl
space_first (b ∷ s) = go (eqb b 32) (space_first s)
  where
    go : (t : Bool) → position_or_len (λ b. eqb b 32) s ≡ space_at s → cond (not t) (1 + position_or_len (λ b. eqb b 32) s) 0 ≡ cond t 0 (suc (space_at s))
    go true e = refl
    go false e = omega arith

space_within : (s : List ℕ) → space_at s ≤ length s
unfolding space_at
space_within [] = omega arith
space_within (b ∷ s) = go (eqb b 32) (space_within s)
  where
    go : (t : Bool) → space_at s ≤ length s → cond t 0 (suc (space_at s)) ≤ suc (length s)
    go true h = omega arith
    go false h = omega arith

-- as `position` finds it
pub space_found : (s : List ℕ) → unwrap_or (position (λ b. eqb b 32) s) (length s) ≡ space_at s
space_found s = ap (λ n. unwrap_or (cond (ltb n (length s)) (Some n) None) (length s)) (space_first s) ∙ go (ltb (space_at s) (length s)) refl
  where
    go : (t : Bool) → ltb (space_at s) (length s) ≡ t → unwrap_or (cond t (Some (space_at s)) None) (length s) ≡ space_at s
    go true e = refl
    go false e = omega (arith, space_within s, ltb-false (space_at s) (length s) e)

pub past_space : (s : List ℕ) (from r : ℕ) → r ≡ from + space_at (drop from s) → drop (r + 1) s ≡ drop (suc (space_at (drop from s))) (drop from s)
past_space s from r e =
    let f : r + 1 ≡ from + suc (space_at (drop from s)) = omega arith in
    rw f (sym (drop-drop (suc (space_at (drop from s))) from s))

pub past_end : (s : List ℕ) (from r : ℕ) → r ≡ from + space_at (drop from s) → length s ≤ r → drop r s ≡ drop (suc (space_at (drop from s))) (drop from s)
past_end s from r e h =
    drop_of_length-le s {i = r} h
    ∙ sym (drop-drop (suc (space_at (drop from s))) from s ∙ drop_of_length-le s {i = from + suc (space_at (drop from s))} (omega arith))

-- ---- words

pub longer_length : (b : ℕ) (ws : List (List ℕ)) → length (longer b ws) ≡ length ws
longer_length b [] = refl
longer_length b (w ∷ ws) = refl

-- one more than the spaces
pub words_counted : (s : List ℕ) → length (words s) ≡ 1 + count_by (λ b. eqb b 32) s
unfolding words
words_counted [] = refl
words_counted (b ∷ s) = rw (sum_by-cons (λ b. cond (eqb b 32) 1 0) b s) (go (eqb b 32) (words_counted s))
  where
    go : (t : Bool) → length (words s) ≡ 1 + count_by (λ b. eqb b 32) s
        → length (cond t ([] ∷ words s) (longer b (words s))) ≡ 1 + (cond t 1 0 + count_by (λ b. eqb b 32) s)
    go true e = omega (arith, e)
    go false e = omega (arith, e, longer_length b (words s))

pub longer_some : (b : ℕ) (ws : List (List ℕ)) → 0 < length ws → get_or (longer b ws) 0 [] ≡ b ∷ get_or ws 0 []
longer_some b [] h = absurd (omega arith)
longer_some b (w ∷ ws) h = refl

pub longer_rest : (b j : ℕ) (ws : List (List ℕ)) → get_or (longer b ws) (suc j) [] ≡ get_or ws (suc j) []
longer_rest b j [] = refl
longer_rest b j (w ∷ ws) = refl

pub words_some : (s : List ℕ) → 0 < length (words s)
unfolding words
words_some [] = omega arith
words_some (b ∷ s) = go (eqb b 32) (words_some s)
  where
    go : (t : Bool) → 0 < length (words s) → 0 < length (cond t ([] ∷ words s) (longer b (words s)))
    go true h = omega arith
    go false h = omega (arith, longer_length b (words s))

-- the first word runs up to the first space
pub first_word : (s : List ℕ) → get_or (words s) 0 [] ≡ take (space_at s) s
unfolding words space_at
first_word [] = refl
first_word (b ∷ s) = go (eqb b 32) (first_word s)
  where
    go : (t : Bool) → get_or (words s) 0 [] ≡ take (space_at s) s → get_or (cond t ([] ∷ words s) (longer b (words s))) 0 [] ≡ take (cond t 0 (suc (space_at s))) (b ∷ s)
    go true e = refl
    go false e = longer_some b (words s) (words_some s) ∙ ap (λ (w : List ℕ). b ∷ w) e

-- the other words are those behind the first space
pub later_word : (s : List ℕ) (j : ℕ) → get_or (words s) (suc j) [] ≡ get_or (words (drop (suc (space_at s)) s)) j []
unfolding words space_at
later_word [] zero = refl
later_word [] (suc j) = refl
later_word (b ∷ s) j = go (eqb b 32) (later_word s j)
  where
    go : (t : Bool) → get_or (words s) (suc j) [] ≡ get_or (words (drop (suc (space_at s)) s)) j [] → get_or (cond t ([] ∷ words s) (longer b (words s))) (suc j) [] ≡ get_or (words (drop (suc (cond t 0 (suc (space_at s)))) (b ∷ s))) j []
    go true e = refl
    go false e = longer_rest b j (words s) ∙ e

-- a step from word n to the next, on the way to word k
pub word_turn : (line s t : List ℕ) (k n : ℕ) → n < k → t ≡ drop (suc (space_at s)) s → get_or (words line) k [] ≡ get_or (words s) (k - n) [] → get_or (words line) k [] ≡ get_or (words t) (k - (n + 1)) []
word_turn line s t k n h e f =
    let more : k - n ≡ suc (k - (n + 1)) = omega arith in
    f ∙ rw (more, e) (later_word s (k - (n + 1)))

-- the part from where word k begins to the next space
pub word_part : (line : List ℕ) (k from to : ℕ) → get_or (words line) k [] ≡ get_or (words (drop from line)) 0 [] → to ≡ from + space_at (drop from line) → take (to - from) (drop from line) ≡ get_or (words line) k []
word_part line k from to e f =
    let g : to - from ≡ space_at (drop from line) = omega arith in
    rw g (sym (e ∙ first_word (drop from line)))

-- ---- texts

pub printable_all : (w : List ℕ) → list_all (λ b. leb 33 b && leb b 126) w ≡ printable w
printable_all [] = refl
printable_all (b ∷ w) = ap (λ t. leb 33 b && leb b 126 && t) (printable_all w)
