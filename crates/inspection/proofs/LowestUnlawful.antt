-- How inspection's answer reads: it is 0 exactly if the log is lawful, and what is found below a place stays found above it.
-- Assumes nothing.
use Prim.Native.Nat.{ℕ, zero, suc, ◌≤◌, ◌<◌}
use mathlib.Core.Path.{◌≡◌, refl, ap, sym}
use mathlib.Core.List.{List, [], ◌∷◌}
use mathlib.Core.Bool.{Bool, true, false, cond}
use native.Mathlib.Omega.{arith}
use lib.ListN.{length, get_or}
use lib.Dec.{eqb}
use borrow.Author.Tests.{eqb-true, eqb-false, ne_eqb}
use Rattle.encoding.proofs.Logic.{and_true, and_both}
use Rattle.recovery.specs.Log.{Entry, blank}
use Rattle.recovery.specs.World.{down}
use Rattle.recovery.proofs.Pages.{length_down}
use Rattle.inspection.specs.Lawful.{fits_below, lawful, lowest_unlawful}

pub lawful_parts : (g : Entry) (l : List Entry) → lawful (g ∷ l) ≡ true → (fits_below g l ≡ true) × (lawful l ≡ true)
unfolding lawful
lawful_parts g l e = and_true (fits_below g l) (lawful l) e

pub lawful_more : (g : Entry) (l : List Entry) → fits_below g l ≡ true → lawful l ≡ true → lawful (g ∷ l) ≡ true
unfolding lawful
lawful_more g l h w = and_both (fits_below g l) (lawful l) h w

pub lawful_none : lawful [] ≡ true
unfolding lawful
lawful_none = refl

-- ---- 0 says lawful

pub lowest_none : (l : List Entry) → lawful l ≡ true → lowest_unlawful l ≡ 0
unfolding lowest_unlawful
lowest_none [] w = refl
lowest_none (g ∷ l) w =
    let p = lawful_parts g l w in
    rw (lowest_none l p.1, p.0)

pub none_lawful : (l : List Entry) → lowest_unlawful l ≡ 0 → lawful l ≡ true
unfolding lowest_unlawful
none_lawful [] e = lawful_none
none_lawful (g ∷ l) e = go (eqb (lowest_unlawful l) 0) refl (fits_below g l) refl e (none_lawful l)
  where
    go : (b : Bool) → eqb (lowest_unlawful l) 0 ≡ b → (c : Bool) → fits_below g l ≡ c → cond b (cond c 0 (suc (length l))) (lowest_unlawful l) ≡ 0
        → (lowest_unlawful l ≡ 0 → lawful l ≡ true) → lawful (g ∷ l) ≡ true
    go true p true q e r = lawful_more g l q (r (eqb-true (lowest_unlawful l) 0 p))
    go true p false q e r = absurd (omega arith)
    go false p c q e r = absurd (eqb-false (lowest_unlawful l) 0 p e)

-- ---- the first page that does not fit gives its place

pub lowest_here : (g : Entry) (l : List Entry) → lawful l ≡ true → fits_below g l ≡ false → lowest_unlawful (g ∷ l) ≡ suc (length l)
unfolding lowest_unlawful
lowest_here g l w e = rw (lowest_none l w, e)

pub lowest_le : (l : List Entry) → lowest_unlawful l ≤ length l
unfolding lowest_unlawful
lowest_le [] = omega arith
lowest_le (g ∷ l) = go (eqb (lowest_unlawful l) 0) (fits_below g l) (lowest_le l)
  where
    go : (b c : Bool) → lowest_unlawful l ≤ length l → cond b (cond c 0 (suc (length l))) (lowest_unlawful l) ≤ suc (length l)
    go true true h = omega arith
    go true false h = omega arith
    go false c h = omega arith

-- ---- the pages of a sheet up to a place, and up to a higher one

module _ (s : List Entry) where
  -- what is found below stays found
  pub lowest_stays : (n m : ℕ) → n ≤ m → 1 ≤ lowest_unlawful (down s n) → lowest_unlawful (down s m) ≡ lowest_unlawful (down s n)
  unfolding down lowest_unlawful
  lowest_stays n zero h k = let z : 0 ≡ n = omega arith in ap (λ (x : ℕ). lowest_unlawful (down s x)) z
  lowest_stays n (suc m) h k = go (eqb n (suc m)) refl (lowest_stays n m)
    where
      go : (b : Bool) → eqb n (suc m) ≡ b → (n ≤ m → 1 ≤ lowest_unlawful (down s n) → lowest_unlawful (down s m) ≡ lowest_unlawful (down s n))
          → lowest_unlawful (down s (suc m)) ≡ lowest_unlawful (down s n)
      go true e r = ap (λ (x : ℕ). lowest_unlawful (down s x)) (sym (eqb-true n (suc m) e))
      go false e r =
          let q : n ≤ m = omega (arith, eqb-false n (suc m) e) in
          let i : lowest_unlawful (down s m) ≡ lowest_unlawful (down s n) = r q k in
          rw (ne_eqb (lowest_unlawful (down s m)) 0 (λ z. omega arith)) i

  lowest_same : (n m : ℕ) → n ≡ m → lowest_unlawful (down s n) ≡ 0 → 1 ≤ lowest_unlawful (down s m) → ⊥
  lowest_same n m e z k =
      let q : lowest_unlawful (down s n) ≡ lowest_unlawful (down s m) = ap (λ (x : ℕ). lowest_unlawful (down s x)) e in
      omega arith

  lowest_above : (n m : ℕ) → n ≤ m → lowest_unlawful (down s n) ≡ 0 → 1 ≤ lowest_unlawful (down s m) → n < lowest_unlawful (down s m)
  unfolding down lowest_unlawful
  lowest_above n zero h z k = absurd (omega arith)
  lowest_above n (suc m) h z k = go (eqb n (suc m)) refl (eqb (lowest_unlawful (down s m)) 0) refl (fits_below (get_or s m blank) (down s m)) (lowest_above n m) (length_down s m) k
    where
      go : (a : Bool) → eqb n (suc m) ≡ a → (b : Bool) → eqb (lowest_unlawful (down s m)) 0 ≡ b → (c : Bool)
          → (n ≤ m → lowest_unlawful (down s n) ≡ 0 → 1 ≤ lowest_unlawful (down s m) → n < lowest_unlawful (down s m)) → length (down s m) ≡ m
          → 1 ≤ cond b (cond c 0 (suc (length (down s m)))) (lowest_unlawful (down s m)) → n < cond b (cond c 0 (suc (length (down s m)))) (lowest_unlawful (down s m))
      go true i b j c r d k' = absurd (lowest_same n (suc m) (eqb-true n (suc m) i) z k)
      go false i true j true r d k' = absurd (omega arith)
      go false i true j false r d k' = omega (arith, eqb-false n (suc m) i)
      go false i false j c r d k' = r (omega (arith, eqb-false n (suc m) i)) z k'

  module _ (n m : ℕ) (h : n ≤ m) where
    low_here : lowest_unlawful (down s n) ≤ n
    low_here = omega (arith, lowest_le (down s n), length_down s n)

    pub lowest_cut : lowest_unlawful (down s m) ≡ 0 → 0 ≡ lowest_unlawful (down s n)
    lowest_cut e = go (lowest_unlawful (down s n)) (lowest_stays n m h)
      where
        go : (x : ℕ) → (1 ≤ x → lowest_unlawful (down s m) ≡ x) → 0 ≡ x
        go zero r = refl
        go (suc x) r = absurd (omega (arith, r (omega arith)))

    pub lowest_out : n < lowest_unlawful (down s m) → 0 ≡ lowest_unlawful (down s n)
    lowest_out k = go (lowest_unlawful (down s n)) (lowest_stays n m h) low_here
      where
        go : (x : ℕ) → (1 ≤ x → lowest_unlawful (down s m) ≡ x) → x ≤ n → 0 ≡ x
        go zero r l = refl
        go (suc x) r l = absurd (omega (arith, r (omega arith)))

    pub lowest_in : 1 ≤ lowest_unlawful (down s m) → lowest_unlawful (down s m) ≤ n → lowest_unlawful (down s m) ≡ lowest_unlawful (down s n)
    lowest_in k l = go (lowest_unlawful (down s n)) refl (lowest_stays n m h) (lowest_above n m h)
      where
        go : (x : ℕ) → lowest_unlawful (down s n) ≡ x → (1 ≤ x → lowest_unlawful (down s m) ≡ x) → (x ≡ 0 → 1 ≤ lowest_unlawful (down s m) → n < lowest_unlawful (down s m))
            → lowest_unlawful (down s m) ≡ x
        go zero e r a = absurd (omega (arith, a refl k))
        go (suc x) e r a = r (omega arith)
