-- What follows of an action's fate from its number, and what the fates of a file's images say of its version and token.
-- Assumes nothing.
use Prim.Native.Nat.{ℕ, ◌≤◌}
use mathlib.Core.Path.{◌≡◌, refl}
use mathlib.Core.List.{List, [], ◌∷◌}
use mathlib.Core.Bool.{Bool, true, false, false≢true}
use mathlib.Core.Option.{none}
use native.Mathlib.Omega.{arith}
use lib.Dec.{eqb}
use Rattle.recovery.specs.Log.{Fate, unknown, undecided, committed, aborted, Placed, verdict, token_step, versions_of, token_of, is_undecided}
use Rattle.recovery.specs.World.{fate_number}
use Rattle.recovery.proofs.Effective.{Each}

-- ---- fates

pub undecided_is : (x : Fate) → is_undecided x ≡ true → x ≡ undecided
undecided_is unknown e = absurd (false≢true e)
undecided_is undecided e = refl
undecided_is committed e = absurd (false≢true e)
undecided_is aborted e = absurd (false≢true e)

pub undecided_test : (x : Fate) → eqb (fate_number x) 1 ≡ is_undecided x
undecided_test unknown = refl
undecided_test undecided = refl
undecided_test committed = refl
undecided_test aborted = refl

pub undecided_known : {x : Fate} → x ≡ undecided → 1 ≤ fate_number x
undecided_known e = rw e (omega arith)

pub verdict_known : (c : Bool) → 1 ≤ fate_number (verdict c)
verdict_known true = omega arith
verdict_known false = omega arith

-- ---- the images of a file

-- each has at least this fate
abbrev pub All : ℕ → (ℕ → Fate) → List Placed → Type 0
All n φ = Each (λ x. n ≤ fate_number (φ x.image.action))

abbrev pub rest : List Placed → List Placed
rest [] = []
rest (x ∷ xs) = xs

pub all_keeps : (n : ℕ) (φ ψ : ℕ → Fate) → ((a : ℕ) → n ≤ fate_number (φ a) → n ≤ fate_number (ψ a)) → (xs : List Placed) → All n φ xs → All n ψ xs
all_keeps n φ ψ k [] h = tt
all_keeps n φ ψ k (x ∷ xs) h = (k x.image.action h.0, all_keeps n φ ψ k xs h.1)

pub versions_keep : (φ ψ : ℕ → Fate) → ((a : ℕ) → 2 ≤ fate_number (φ a) → ψ a ≡ φ a) → (xs : List Placed) → All 2 φ xs → versions_of ψ xs ≡ versions_of φ xs
unfolding versions_of
versions_keep φ ψ k [] h = refl
versions_keep φ ψ k (x ∷ xs) h = rw (k x.image.action h.0, versions_keep φ ψ k xs h.1)

-- no token among decided images
pub decided_free : (φ : ℕ → Fate) (xs : List Placed) → All 2 φ xs → token_of φ xs ≡ none
unfolding token_of
decided_free φ [] h = refl
decided_free φ (x ∷ xs) h = rw (decided_free φ xs h.1) (go (φ x.image.action) h.0)
  where
    go : (y : Fate) → 2 ≤ fate_number y → token_step y x none ≡ none
    go unknown k = absurd (omega arith)
    go undecided k = absurd (omega arith)
    go committed k = refl
    go aborted k = refl
