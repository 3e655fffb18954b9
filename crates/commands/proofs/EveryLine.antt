-- What holds of every command that a line can be holds of the one that it is. The text of a write is the end of its line. Assumes nothing.
use Rattle.std.proofs.Common.{Option, Some, None}
use Prim.Native.Nat.{ℕ, zero, suc, ◌-◌, ◌^◌, ◌≤◌, ◌<◌}
use mathlib.Core.Path.{◌≡◌, refl, sym, ap, ◌∙◌}
use mathlib.Core.Bool.{Bool, true, false, ◌&&◌, cond}
use mathlib.Core.List.{List, [], ◌∷◌}
use native.Mathlib.Omega.{arith}
use lib.Dec.{eqb, ltb, leb}
use lib.ListN.{length, drop, get_or}
use borrow.Author.Tests.{ltb-true}
use Rattle.encoding.specs.Bytes.{same}
use Rattle.encoding.proofs.Logic.{and_true, by_test}
use Rattle.calls.specs.declared.asking.Call.TheVariants.{Begin, Write, Read, Test, Commit, Abort}
use Rattle.commands.specs.declared.parsing.Command.{Command}
use Rattle.commands.specs.declared.parsing.Command.TheVariants.{BareOpen, Open, Cut, Call}
use Rattle.commands.specs.Names.{open_name, begin_name, write_name, read_name, test_name, commit_name, abort_name, cut_name}
use Rattle.commands.specs.Commands.{words, longer, digits, value_from, is_text, number_of, three, alone, with_one, with_two, with_three, with_text, command_of, parsed}
use Rattle.commands.proofs.Lines.{longer_length, longer_some, longer_rest, words_some}

-- ---- the last word of a line

pub word_fits : (s : List ℕ) (k : ℕ) → length (get_or (words s) k []) ≤ length s
unfolding words
word_fits [] zero = omega arith
word_fits [] (suc k) = omega arith
word_fits (b ∷ s) k = go (eqb b 32) k (word_fits s)
  where
    go : (t : Bool) (k : ℕ) → ((j : ℕ) → length (get_or (words s) j []) ≤ length s) → length (get_or (cond t ([] ∷ words s) (longer b (words s))) k []) ≤ suc (length s)
    go true zero f = omega arith
    go true (suc k) f = omega (arith, f k)
    go false zero f = omega (arith, f 0, ap length (longer_some b (words s) (words_some s)))
    go false (suc k) f = omega (arith, f (suc k), ap length (longer_rest b k (words s)))

only_word : (s : List ℕ) → length (words s) ≡ 1 → get_or (words s) 0 [] ≡ s
unfolding words
only_word [] e = refl
only_word (b ∷ s) e = go (eqb b 32) (only_word s) e
  where
    go : (t : Bool) → (length (words s) ≡ 1 → get_or (words s) 0 [] ≡ s) → length (cond t ([] ∷ words s) (longer b (words s))) ≡ 1
        → get_or (cond t ([] ∷ words s) (longer b (words s))) 0 [] ≡ b ∷ s
    go true f e = absurd (omega (arith, words_some s))
    go false f e = longer_some b (words s) (words_some s) ∙ ap (λ (w : List ℕ). b ∷ w) (f (sym (longer_length b (words s)) ∙ e))

pub last_word : (s : List ℕ) (k : ℕ) → length (words s) ≡ suc k → drop (length s - length (get_or (words s) k [])) s ≡ get_or (words s) k []
unfolding words
last_word s zero e =
    let w : get_or (words s) 0 [] ≡ s = only_word s e in
    let z : length s - length (get_or (words s) 0 []) ≡ 0 = omega (arith, ap length w) in
    rw z (sym w)
last_word [] (suc k) e = absurd (omega arith)
last_word (b ∷ s) (suc k) e = go (eqb b 32) (last_word s k) (last_word s (suc k)) e
  where
    deeper : (w : List ℕ) → length w ≤ length s → drop (length s - length w) s ≡ w → drop (suc (length s) - length w) (b ∷ s) ≡ w
    deeper w h f = let n : suc (length s) - length w ≡ suc (length s - length w) = omega arith in rw n f

    go : (t : Bool)
        → (length (words s) ≡ suc k → drop (length s - length (get_or (words s) k [])) s ≡ get_or (words s) k [])
        → (length (words s) ≡ suc (suc k) → drop (length s - length (get_or (words s) (suc k) [])) s ≡ get_or (words s) (suc k) [])
        → length (cond t ([] ∷ words s) (longer b (words s))) ≡ suc (suc k)
        → drop (suc (length s) - length (get_or (cond t ([] ∷ words s) (longer b (words s))) (suc k) [])) (b ∷ s) ≡ get_or (cond t ([] ∷ words s) (longer b (words s))) (suc k) []
    go true f g e = deeper (get_or (words s) k []) (word_fits s k) (f (omega arith))
    go false f g e = rw (longer_rest b k (words s)) (deeper (get_or (words s) (suc k) []) (word_fits s (suc k)) (g (sym (longer_length b (words s)) ∙ e)))

-- ---- every line

-- whatever holds of each command that a line can be holds of the command that it is
pub record Ways (line : List ℕ) (P : Option Command → Type 0) : Type 0 where
  pub what : P None
  pub opens_bare : P (Some BareOpen)
  pub opens : (files floor : ℕ) → P (Some (Open files floor))
  pub cuts : (n : ℕ) → P (Some (Cut n))
  pub begins : P (Some (Call Begin (length line)))
  pub reads : (file time action : ℕ) → P (Some (Call (Read file time action) (length line)))
  pub tests : (action : ℕ) → P (Some (Call (Test action) (length line)))
  pub commits : (action : ℕ) → P (Some (Call (Commit action) (length line)))
  pub aborts : (action : ℕ) → P (Some (Call (Abort action) (length line)))
  -- the text of a write runs to the line's end, and its start fits 64 bits
  pub writes : (file start action from : ℕ) → start < 2 ^ 64 → from ≤ length line → is_text (drop from line) ≡ true → P (Some (Call (Write file start action) from))

unread : {x : ℕ} → None ≡ Some x → ⊥
unread e = let z : ◌≡◌ {A = ℕ} 0 1 = cc in omega arith

-- a number that was read is below 2^64
below : (w : List ℕ) (x : ℕ) → number_of w ≡ Some x → x < 2 ^ 64
unfolding number_of
below w x e = go (ltb 0 (length w) && digits w) (ltb (value_from 0 w) (2 ^ 64)) refl e
  where
    go : (a b : Bool) → ltb (value_from 0 w) (2 ^ 64) ≡ b → cond (a && b) (Some (value_from 0 w)) None ≡ Some x → x < 2 ^ 64
    go true true h e = let z : value_from 0 w ≡ x = cc in omega (arith, ltb-true (value_from 0 w) (2 ^ 64) h)
    go true false h e = absurd (unread e)
    go false b h e = absurd (unread e)

module _ (line : List ℕ) (P : Option Command → Type 0) (ways : Ways line P) where
  by_one : (w : List ℕ) (a : Option ℕ) → P (with_one (length line) w a)
  unfolding with_one
  by_one w None = ways.what
  by_one w (Some n) =
      by_test P (same w test_name) (λ _. ways.tests n) (λ _.
      by_test P (same w commit_name) (λ _. ways.commits n) (λ _.
      by_test P (same w abort_name) (λ _. ways.aborts n) (λ _.
      by_test P (same w cut_name && leb n 64) (λ _. ways.cuts n) (λ _. ways.what))))

  by_two : (w : List ℕ) (a b : Option ℕ) → P (with_two w a b)
  unfolding with_two
  by_two w (Some a) (Some b) = by_test P (same w open_name) (λ _. ways.opens a b) (λ _. ways.what)
  by_two w (Some a) None = ways.what
  by_two w None b = ways.what

  by_three : (w : List ℕ) (m : Option (ℕ × ℕ × ℕ)) → P (with_three (length line) w m)
  unfolding with_three
  by_three w (Some (a, b, c)) = by_test P (same w read_name) (λ _. ways.reads a b c) (λ _. ways.what)
  by_three w None = ways.what

  by_text : (w t : List ℕ) (a b c : Option ℕ) → ((x : ℕ) → b ≡ Some x → x < 2 ^ 64) → length t ≤ length line → drop (length line - length t) line ≡ t
      → P (with_text (length line) w (three a b c) t)
  unfolding with_text three
  by_text w t (Some a) (Some b) (Some c) f h e =
      by_test P (same w write_name && is_text t)
      (λ k. ways.writes a b c (length line - length t) (f b refl) (omega arith) (rw e (and_true (same w write_name) (is_text t) k).1)) (λ _. ways.what)
  by_text w t (Some a) (Some b) None f h e = ways.what
  by_text w t (Some a) None c f h e = ways.what
  by_text w t None b c f h e = ways.what

  by_words : (ws : List (List ℕ)) → words line ≡ ws → P (command_of (length line) ws)
  unfolding command_of alone
  by_words [] f = ways.what
  by_words (w ∷ []) f = by_test P (same w open_name) (λ _. ways.opens_bare) (λ _. by_test P (same w begin_name) (λ _. ways.begins) (λ _. ways.what))
  by_words (w ∷ a ∷ []) f = by_one w (number_of a)
  by_words (w ∷ a ∷ b ∷ []) f = by_two w (number_of a) (number_of b)
  by_words (w ∷ a ∷ b ∷ c ∷ []) f = by_three w (three (number_of a) (number_of b) (number_of c))
  by_words (w ∷ a ∷ b ∷ c ∷ t ∷ []) f =
      by_text w t (number_of a) (number_of b) (number_of c) (below b) (rw f at (word_fits line 4)) (rw f at (last_word line 4 (ap length f)))
  by_words (w ∷ a ∷ b ∷ c ∷ t ∷ x ∷ ws) f = ways.what

  pub every_line : P (parsed line)
  unfolding parsed
  every_line = by_test P (ltb 255 (length line)) {x = None} {y = command_of (length line) (words line)} (λ _. ways.what) (λ _. by_words (words line) refl)
