-- One turn of a loop that writes, copies or looks for zeros, and the loop's end; a run that is filled by stores. Assumes nothing.
use Prim.Native.Nat.{ℕ, suc, ◌+◌, ◌-◌, ◌/◌, ◌%◌, ◌<◌}
use mathlib.Core.Path.{◌≡◌, refl, sym, ap, ◌∙◌}
use mathlib.Core.Bool.{Bool, true, false, ◌&&◌}
use mathlib.Core.List.{List, [], ◌++◌, append-nil}
use native.Mathlib.Omega.{arith}
use native.Mathlib.Numerals.{add-one}
use borrow.Author.Tests.{ne_eqb, eqb-true, eqb-false}
use lib.Dec.{eqb}
use lib.Bits.{bit_or, or_zero_l, or_add_and, and_le_r}
use lib.ListN.{length, take, drop, get_or, set, drop_of_length-le}
use lib.Seq.{sets, sets-eq, drop-cons, take-suc-set, append_snoc}
use Rattle.encoding.specs.Bytes.{bytes, zeros}
use Rattle.encoding.proofs.Logic.{and_assoc}

pub write_turn : (out t : List ℕ) (n i y : ℕ) → i < length out → length out ≡ n → take i out ++ bytes (n - i) y ≡ t
    → take (i + 1) (set out i (y % 256)) ++ bytes (n - (i + 1)) (y / 256) ≡ t
write_turn out t n i y h l e = rw (add-one, take-suc-set out i (y % 256) h, append_snoc)
    (rw (← e) (ap (λ (r : List ℕ). take i out ++ r) (ap (λ (k : ℕ). bytes k y) (sym step))))
  where
    step : n - i ≡ suc (n - suc i)
    step = omega arith

-- two numbers are 0 exactly if their bits together are
pub or_zero : (x b : ℕ) → eqb (bit_or x b) 0 ≡ (eqb x 0 && eqb b 0)
or_zero x b = go (eqb x 0) refl
  where
    go : (t : Bool) → eqb x 0 ≡ t → eqb (bit_or x b) 0 ≡ (eqb x 0 && eqb b 0)
    go true e = let z : x ≡ 0 = eqb-true x 0 e in rw z (ap (λ (k : ℕ). eqb k 0) (or_zero_l b))
    go false e = simp e (ne_eqb (bit_or x b) 0 (λ z. eqb-false x 0 e (omega (arith, or_add_and x b, and_le_r x b))))

pub zero_turn : (s : List ℕ) (i x : ℕ) → i < length s → (eqb x 0 && zeros (drop i s)) ≡ (eqb (bit_or x (get_or s i 0)) 0 && zeros (drop (i + 1) s))
zero_turn s i x h = rw (add-one, drop-cons s i 0, or_zero x (get_or s i 0)) (and_assoc (eqb x 0) (eqb (get_or s i 0) 0) (zeros (drop (suc i) s)))

-- stores from the first number on fill a run that has as many
pub filled : (vs l : List ℕ) → length l ≡ length vs → sets l 0 vs ≡ vs
filled vs l h =
    let past : drop (0 + length vs) l ≡ [] = drop_of_length-le l {i = 0 + length vs} (omega arith) in
    sets-eq vs l 0 (omega arith) ∙ ap (λ (r : List ℕ). vs ++ r) past ∙ append-nil vs
