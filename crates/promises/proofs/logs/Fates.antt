-- The lent fates and the log: each fate by its place, and their count.
use mathlib.Core.Path.{◌≡◌, refl, ap, sym, ◌∙◌, fun_ext}
use mathlib.Core.List.{List, [], ◌∷◌}
use mathlib.Core.Bool.{Bool, true, false, cond}
use Prim.Native.Nat.{ℕ, zero, suc, ◌+◌, ◌≤◌, ◌<◌}
use native.Mathlib.Omega.{arith}
use lib.ListN.{length, get_or, set}
use lib.Dec.{eqb, leb}
use borrow.Author.Tests.{leb-true, leb-false, eq-eqb, ne_eqb}
use Rattle.recovery.specs.Places.{nth, put, tabulate}
use Rattle.recovery.specs.Log.{Entry, blank, torn, bad, opening, image, outcome, Fate, unknown, undecided, committed, aborted, verdict, fate_of}
use Rattle.recovery.specs.World.{down, fate_number, fate_from, fate_in, fates_of, undecided_of}
use Rattle.recovery.proofs.Places.{nth_put_other, length_tabulate, get_d_tabulate_out, nth_tabulate, put_tabulate}
use Rattle.recovery.proofs.LogFates.{undecided_known}
use Rattle.promises.proofs.logs.Logs.{Lawful, known_place, fate_above, fate_zero}

from_number : (x : Fate) → fate_from (fate_number x) ≡ x
from_number unknown = refl
from_number undecided = refl
from_number committed = refl
from_number aborted = refl

-- fates with the same number are the same
pub same_fate : {x y : Fate} → fate_number x ≡ fate_number y → x ≡ y
same_fate {x} {y} e = sym (from_number x) ∙ ap fate_from e ∙ from_number y

fate_in_lem : (n : ℕ) (l : List Entry) (a : ℕ) → Lawful l → length l ≤ n → fate_in (fates_of n l) a ≡ fate_of l a
fate_in_lem n l zero w h = sym (fate_zero l w)
fate_in_lem n l (suc k) w h = go (leb (suc k) n) refl
  where
    go : (b : Bool) → leb (suc k) n ≡ b → fate_from (get_or (fates_of n l) k 0) ≡ fate_of l (suc k)
    go true e = ap fate_from (nth_tabulate (λ p. fate_number (fate_of l p)) n (suc k) 0 (omega arith) (leb-true (suc k) n e)) ∙ from_number (fate_of l (suc k))
    go false e = ap fate_from (get_d_tabulate_out (λ p. fate_number (fate_of l p)) 0 n k 0 (omega (arith, leb-false (suc k) n e)))
        ∙ sym (fate_above l (suc k) w (omega (arith, leb-false (suc k) n e)))

pub fates_are : (n : ℕ) (l : List Entry) → Lawful l → length l ≤ n → fate_in (fates_of n l) ≡ fate_of l
fates_are n l w h = fun_ext (λ a. fate_in_lem n l a w h)

-- how many fates are undecided, with one changed
abbrev counts : ℕ → ℕ
counts x = cond (eqb x 1) 1 0

undecided_set : (xs : List ℕ) (k v : ℕ) → k < length xs → undecided_of (set xs k v) + counts (get_or xs k 0) ≡ undecided_of xs + counts v
unfolding undecided_of
undecided_set [] k v h = absurd (omega arith)
undecided_set (x ∷ xs) zero v h = omega arith
undecided_set (x ∷ xs) (suc k) v h = omega (arith, undecided_set xs k v (omega arith))

pub undecided_put : (xs : List ℕ) (a v : ℕ) → 1 ≤ a → a ≤ length xs
    → undecided_of (put xs a v) + counts (nth 0 xs a) ≡ undecided_of xs + counts v
undecided_put xs zero v h k = absurd (omega arith)
undecided_put xs (suc a) v h k = undecided_set xs a v k

-- the fates and their count after an opening and after an outcome
pub opening_fates : (n : ℕ) (l : List Entry) → put (fates_of n l) (suc (length l)) 1 ≡ fates_of n (opening false ∷ l)
unfolding fate_of
opening_fates n l =
    put_tabulate (λ p. fate_number (fate_of l p)) (λ p. fate_number (fate_of (opening false ∷ l) p)) n (suc (length l)) 1 (omega arith)
    (rw (eq-eqb (suc (length l)) (suc (length l)) refl)) (λ b u v q. rw (ne_eqb b (suc (length l)) q))

pub outcome_fates : (n : ℕ) (l : List Entry) (a : ℕ) (c : Bool) → 1 ≤ a → put (fates_of n l) a (fate_number (verdict c)) ≡ fates_of n (outcome a c ∷ l)
unfolding fate_of
outcome_fates n l a c h =
    put_tabulate (λ p. fate_number (fate_of l p)) (λ p. fate_number (fate_of (outcome a c ∷ l) p)) n a (fate_number (verdict c)) h
    (rw (eq-eqb a a refl)) (λ b u v q. rw (ne_eqb b a q))

pub opening_undecided : (n : ℕ) (l : List Entry) → Lawful l → length l < n → undecided_of (fates_of n (opening false ∷ l)) ≡ suc (undecided_of (fates_of n l))
opening_undecided n l w h =
    let p : ℕ = suc (length l) in
    let u : nth 0 (fates_of n l) p ≡ 0 = nth_tabulate (λ a. fate_number (fate_of l a)) n p 0 (omega arith) h ∙ ap fate_number (fate_above l p w (omega arith)) in
    let c = undecided_put (fates_of n l) p 1 (omega arith) (rw length_tabulate h) in
    omega (arith, rw (u, opening_fates n l) at c)

pub outcome_undecided : (n : ℕ) (l : List Entry) (a : ℕ) (c : Bool) → Lawful l → length l ≤ n → fate_of l a ≡ undecided
    → suc (undecided_of (fates_of n (outcome a c ∷ l))) ≡ undecided_of (fates_of n l)
outcome_undecided n l a c w h e =
    let p = known_place l a w (undecided_known e) in
    let u : nth 0 (fates_of n l) a ≡ 1 = nth_tabulate (λ p. fate_number (fate_of l p)) n a 0 p.0 (omega (arith, p.1)) ∙ ap fate_number e in
    let k = undecided_put (fates_of n l) a (fate_number (verdict c)) p.0 (rw length_tabulate (omega arith)) in
    omega (arith, rw (u, outcome_fates n l a c p.0) at k, small c)
  where
    small : (c : Bool) → counts (fate_number (verdict c)) ≡ 0
    small true = refl
    small false = refl

none_open : (n i : ℕ) → undecided_of (tabulate (λ p. fate_number (fate_of [] p)) i n) ≡ 0
unfolding tabulate undecided_of fate_of
none_open zero i = refl
none_open (suc n) i = omega (arith, none_open n (suc i))

-- no more actions are undecided than there are pages
pub undecided_low : (n : ℕ) (l : List Entry) → Lawful l → length l ≤ n → undecided_of (fates_of n l) ≤ length l
unfolding fate_of
undecided_low n [] w h = omega (arith, none_open n 0)
undecided_low n (blank ∷ l) w h = absurd w.0
undecided_low n (torn ∷ l) w h = omega (arith, undecided_low n l w.1 (omega arith))
undecided_low n (bad ∷ l) w h = absurd w.0
undecided_low n (opening k ∷ l) w h = omega (arith, opening_undecided n l w.1 (omega arith), undecided_low n l w.1 (omega arith))
undecided_low n (image i ∷ l) w h = omega (arith, undecided_low n l w.1 (omega arith))
undecided_low n (outcome a c ∷ l) w h = omega (arith, outcome_undecided n l a c w.1 (omega arith) w.0, undecided_low n l w.1 (omega arith))

pub down_put : (s : List Entry) (e p : ℕ) (g : Entry) → e < p → down (put s p g) e ≡ down s e
unfolding down
down_put s zero p g h = refl
down_put s (suc e) p g h = rw (nth_put_other blank s p (suc e) g (λ q. omega arith), down_put s e p g (omega arith))
