-- A line's command, by how many words it has. Assumes nothing.
use Rattle.std.proofs.Common.{Option, None}
use Prim.Native.Nat.{ℕ, ◌≤◌, ◌<◌}
use mathlib.Core.Path.{◌≡◌, refl, sym, ap, ap₂, ◌∙◌}
use mathlib.Core.List.{List, [], ◌∷◌}
use mathlib.Core.Bool.{cond}
use native.Mathlib.Omega.{arith}
use lib.ListN.{length, get_or}
use lib.Dec.{eqb}
use borrow.Author.Tests.{ne_eqb, le-ltb, lt-ltb}
use Rattle.commands.specs.declared.parsing.Command.{Command}
use Rattle.commands.specs.Commands.{words, number_of, three, alone, with_one, with_two, with_three, with_text, command_of, parsed}
use Rattle.commands.specs.ParseSteps.{number_at, numbers_in}

-- as the code goes: by the count, the words being looked up
abbrev by_count : ℕ → List (List ℕ) → ℕ → Option Command
by_count size ws n =
    cond (eqb n 1) (alone size (get_or ws 0 []))
    (cond (eqb n 2) (with_one size (get_or ws 0 []) (number_of (get_or ws 1 [])))
    (cond (eqb n 3) (with_two (get_or ws 0 []) (number_of (get_or ws 1 [])) (number_of (get_or ws 2 [])))
    (cond (eqb n 4) (with_three size (get_or ws 0 []) (three (number_of (get_or ws 1 [])) (number_of (get_or ws 2 [])) (number_of (get_or ws 3 []))))
    (cond (eqb n 5) (with_text size (get_or ws 0 []) (three (number_of (get_or ws 1 [])) (number_of (get_or ws 2 [])) (number_of (get_or ws 3 []))) (get_or ws 4 []))
    None))))

no_count : (size : ℕ) (ws : List (List ℕ)) (n : ℕ) → (n ≡ 1 → ⊥) → (n ≡ 2 → ⊥) → (n ≡ 3 → ⊥) → (n ≡ 4 → ⊥) → (n ≡ 5 → ⊥) → None ≡ by_count size ws n
no_count size ws n h1 h2 h3 h4 h5 = rw (ne_eqb n 1 h1, ne_eqb n 2 h2, ne_eqb n 3 h3, ne_eqb n 4 h4, ne_eqb n 5 h5)

counted : (size : ℕ) (ws : List (List ℕ)) → command_of size ws ≡ by_count size ws (length ws)
unfolding command_of
counted size [] = refl
counted size (w ∷ []) = refl
counted size (w ∷ a ∷ []) = refl
counted size (w ∷ a ∷ b ∷ []) = refl
counted size (w ∷ a ∷ b ∷ c ∷ []) = refl
counted size (w ∷ a ∷ b ∷ c ∷ t ∷ []) = refl
counted size (w ∷ a ∷ b ∷ c ∷ t ∷ x ∷ ws) =
    no_count size (w ∷ a ∷ b ∷ c ∷ t ∷ x ∷ ws) (length (w ∷ a ∷ b ∷ c ∷ t ∷ x ∷ ws)) (λ e. omega arith) (λ e. omega arith) (λ e. omega arith) (λ e. omega arith) (λ e. omega arith)

-- what each way out of `parse` answers
module _ (line : List ℕ) (n : ℕ) (r : Option Command) (fits : length line ≤ 255) (count : n ≡ length (words line)) where
  by : (k : ℕ) → n ≡ k → by_count (length line) (words line) k ≡ parsed line
  unfolding parsed
  by k e = sym (rw (le-ltb 255 (length line) fits) (counted (length line) (words line) ∙ ap (by_count (length line) (words line)) (sym count ∙ e)))

  pub one_word : (w : List ℕ) → n ≡ 1 → w ≡ get_or (words line) 0 [] → r ≡ alone (length line) w → r ≡ parsed line
  one_word w k e f = f ∙ ap (alone (length line)) e ∙ by 1 k

  pub two_words : (w : List ℕ) (a : Option ℕ) → n ≡ 2 → w ≡ get_or (words line) 0 [] → a ≡ number_at line 1 → r ≡ with_one (length line) w a → r ≡ parsed line
  unfolding number_at
  two_words w a k e ea f = f ∙ ap₂ (with_one (length line)) e ea ∙ by 2 k

  pub open_words : (w : List ℕ) (a b : Option ℕ) → n ≡ 3 → w ≡ get_or (words line) 0 [] → a ≡ number_at line 1 → b ≡ number_at line 2 → r ≡ with_two w a b → r ≡ parsed line
  unfolding number_at
  open_words w a b k e ea eb f = f ∙ (λ i. with_two (e i) (ea i) (eb i)) ∙ by 3 k

  pub read_words : (w : List ℕ) (m : Option (ℕ × ℕ × ℕ)) → n ≡ 4 → w ≡ get_or (words line) 0 [] → m ≡ numbers_in line → r ≡ with_three (length line) w m → r ≡ parsed line
  unfolding number_at numbers_in
  read_words w m k e em f = f ∙ ap₂ (with_three (length line)) e em ∙ by 4 k

  pub write_words : (w t : List ℕ) (m : Option (ℕ × ℕ × ℕ)) → n ≡ 5 → w ≡ get_or (words line) 0 [] → m ≡ numbers_in line → t ≡ get_or (words line) 4 [] → r ≡ with_text (length line) w m t → r ≡ parsed line
  unfolding number_at numbers_in
  write_words w t m k e em et f = f ∙ (λ i. with_text (length line) (e i) (em i) (et i)) ∙ by 5 k

  pub other_words : (n ≡ 1 → ⊥) → (n ≡ 2 → ⊥) → (n ≡ 3 → ⊥) → (n ≡ 4 → ⊥) → (n ≡ 5 → ⊥) → r ≡ None → r ≡ parsed line
  other_words h1 h2 h3 h4 h5 f = f ∙ no_count (length line) (words line) n h1 h2 h3 h4 h5 ∙ by n refl

pub too_long : (line : List ℕ) → 255 < length line → None ≡ parsed line
unfolding parsed
too_long line h = rw (lt-ltb 255 (length line) h)
