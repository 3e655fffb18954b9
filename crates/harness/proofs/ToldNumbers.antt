-- The numbers that are given, and all that is left. Assumes nothing.
use Prim.Native.Nat.{ℕ, ◌+◌}
use mathlib.Core.Path.{◌≡◌, refl, ap, ◌∙◌}
use mathlib.Core.List.{List, [], ◌∷◌, ◌++◌, append-nil}
use lib.ListN.{length, take, drop, drop_of_length-le, length-append, length-drop}
use Rattle.std.proofs.lemmas.List.{take-append-le}
use lib.Seq.{sets, sets-eq, take_all}
use native.Mathlib.Omega.{arith}
use borrow.Author.Tests.{eq-eqb, ne_eqb}
use Rattle.recovery.specs.declared.Answer.{Answer}
use Rattle.recovery.specs.declared.Answer.TheVariants.{Refused, Opened, Rebuilt, Stored, Value, Nothing, Told, Moved}
use Rattle.recovery.specs.declared.State.{State}
use Rattle.recovery.specs.declared.Done.{Done}
use Rattle.recovery.specs.Lent.{Left, left_by}
use Rattle.recovery.specs.Numbers.{answer_length, numbers_of}
use Rattle.moving.specs.MoveLeaves.{MoveLeft, move_by}
use Rattle.harness.specs.Door.{Given, number_count, told_numbers, left, given, left_with, given_move}

pub numbers_long : (a : Answer) → length (numbers_of a) ≡ answer_length
numbers_long (Refused n p) = refl
numbers_long (Opened e u) = refl
numbers_long (Rebuilt a b c d e) = refl
numbers_long (Stored p) = refl
numbers_long (Value p s n) = refl
numbers_long Nothing = refl
numbers_long (Told f p) = refl
numbers_long (Moved f) = refl

-- once the answer's numbers are copied, and the state's stored after them
pub told_are : (out ns : List ℕ) (a : Answer) (st : State) → length out ≡ number_count → ns ≡ numbers_of a
    → sets (ns ++ drop answer_length out) answer_length (st.end ∷ st.floor ∷ st.undecided ∷ []) ≡ told_numbers a st
told_are out ns a st l e =
    let long : length ns ≡ answer_length = ap length e ∙ numbers_long a in
    let all : List ℕ = ns ++ drop answer_length out in
    let all_long : length all ≡ number_count = omega (arith, length-append ns (drop answer_length out), length-drop answer_length out) in
    let past : drop (answer_length + 3) all ≡ [] = drop_of_length-le all {i = answer_length + 3} (omega arith) in
    let state : List ℕ = st.end ∷ st.floor ∷ st.undecided ∷ [] in
    let answer : take answer_length all ≡ numbers_of a = take-append-le answer_length ns (drop answer_length out) (omega arith) ∙ take_all answer_length ns (omega arith) ∙ e in
    sets-eq state all answer_length (omega arith) ∙ ap (λ (r : List ℕ). take answer_length all ++ state ++ r) past ∙ append-nil (take answer_length all ++ state)
    ∙ ap (λ (r : List ℕ). r ++ state) answer

module _ (s fates rows out : List ℕ) (x : Left) where
  pub given_none : (length out ≡ number_count → ⊥) → left s fates rows out ≡ given s fates rows out x
  unfolding given
  given_none h = rw (ne_eqb (length out) number_count h)

  pub given_numbers : (done : Done) (s' fates' rows' out' : List ℕ) → length out ≡ number_count → left_by done s' fates' rows' ≡ x → out' ≡ told_numbers done.answer done.state
      → left s' fates' rows' out' ≡ given s fates rows out x
  unfolding given
  given_numbers done s' fates' rows' out' l h q =
      rw (eq-eqb (length out) number_count l, q) (ap (λ (y : Left). left y.sheet y.fates y.rows (told_numbers y.answer y.state)) h)

module _ (s fates rows fresh out : List ℕ) (x : MoveLeft) where
  pub given_move_none : (length out ≡ number_count → ⊥) → left_with (left s fates rows out) fresh ≡ given_move s fates rows fresh out x
  unfolding given_move
  given_move_none h = rw (ne_eqb (length out) number_count h) (ap (λ (g : Given). left_with g fresh) (given_none s fates rows out x.left h))

  pub given_move_lem : (done : Done) (s' fates' rows' fresh' out' : List ℕ) → length out ≡ number_count → move_by done s' fates' rows' fresh' ≡ x
      → out' ≡ told_numbers done.answer done.state → left_with (left s' fates' rows' out') fresh' ≡ given_move s fates rows fresh out x
  unfolding given_move
  given_move_lem done s' fates' rows' fresh' out' l h q =
      rw (eq-eqb (length out) number_count l)
      (ap (λ (g : Given). left_with g fresh') (given_numbers s fates rows out x.left done s' fates' rows' out' l (ap (λ (y : MoveLeft). y.left) h) q)
      ∙ ap (λ (f : List ℕ). left_with (given s fates rows out x.left) f) (ap (λ (y : MoveLeft). y.fresh) h))
