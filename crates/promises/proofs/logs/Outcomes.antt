-- Where an action's outcome lies: in a lawful log at one place, and there it stays.
use Prim.Native.Nat.{ℕ, suc, ◌≤◌}
use mathlib.Core.Path.{◌≡◌, refl, sym, ap, ◌∙◌, subst}
use mathlib.Core.List.{List, [], ◌∷◌}
use mathlib.Core.Bool.{Bool, true, false, cond}
use mathlib.Core.Logic.{◌⊎◌, inl, inr}
use native.Mathlib.Omega.{arith}
use lib.ListN.{length}
use lib.Dec.{eqb, leb}
use borrow.Author.Tests.{eqb-true, eq-eqb, ne_eqb, leb-true, leb-false}
use Rattle.encoding.proofs.Logic.{clash}
use Rattle.recovery.specs.Log.{Entry, blank, torn, bad, opening, image, outcome, Fate, unknown, undecided, verdict, fate_of, outcome_of}
use Rattle.recovery.specs.World.{fate_number}
use Rattle.recovery.proofs.Spots.{entry_in, entry_cons, entry_top}
use Rattle.promises.proofs.logs.Logs.{Fits, Lawful, Decided, not_undecided, verdict_decided, fate_above}

-- a log has a page at a place
pub record Lies (l : List Entry) (p : ℕ) (g : Entry) : Type 0 where
  pub low : 1 ≤ p
  pub high : p ≤ length l
  pub here : entry_in l p ≡ g

pub lies_more : (x : Entry) (l : List Entry) (p : ℕ) (g : Entry) → Lies l p g → Lies (x ∷ l) p g
lies_more x l p g h = record { low = h.low; high = omega (arith, h.high); here = entry_cons x l p h.high ∙ h.here }

pub lies_top : (x : Entry) (l : List Entry) → Lies (x ∷ l) (suc (length l)) x
lies_top x l = record { low = omega arith; high = omega arith; here = entry_top x l }

-- of a log with one page more, it is that page or one of the others
pub lies_cons : (x : Entry) (l : List Entry) (p : ℕ) (g : Entry) → Lies (x ∷ l) p g → Lies l p g ⊎ ((p ≡ suc (length l)) × (x ≡ g))
lies_cons x l p g h = go (leb p (length l)) refl
  where
    go : (b : Bool) → leb p (length l) ≡ b → Lies l p g ⊎ ((p ≡ suc (length l)) × (x ≡ g))
    go true e = let k : p ≤ length l = leb-true p (length l) e in inl (record { low = h.low; high = k; here = sym (entry_cons x l p k) ∙ h.here })
    go false e =
        let k : p ≡ suc (length l) = omega (arith, leb-false p (length l) e, h.high) in
        inr (k, sym (entry_top x l) ∙ ap (entry_in (x ∷ l)) (sym k) ∙ h.here)

-- ---- the outcome that tells a fate

not_verdict : {A : Type 0} (c : Bool) (x : Fate) → fate_number x ≤ 1 → x ≡ verdict c → A
not_verdict true x h e = let z : fate_number x ≡ 2 = ap fate_number e in absurd (omega arith)
not_verdict false x h e = let z : fate_number x ≡ 3 = ap fate_number e in absurd (omega arith)

verdict_same : (c d : Bool) → verdict d ≡ verdict c → d ≡ c
verdict_same true true e = refl
verdict_same true false e = clash cc
verdict_same false true e = clash cc
verdict_same false false e = refl

-- lies at the place of the newest
pub outcome_lies : (l : List Entry) (a : ℕ) (c : Bool) → fate_of l a ≡ verdict c → Lies l (outcome_of l a) (outcome a c)
unfolding fate_of outcome_of
outcome_lies [] a c e = not_verdict c unknown (omega arith) e
outcome_lies (blank ∷ l) a c e = lies_more blank l (outcome_of l a) (outcome a c) (outcome_lies l a c e)
outcome_lies (torn ∷ l) a c e = lies_more torn l (outcome_of l a) (outcome a c) (outcome_lies l a c e)
outcome_lies (bad ∷ l) a c e = lies_more bad l (outcome_of l a) (outcome a c) (outcome_lies l a c e)
outcome_lies (image i ∷ l) a c e = lies_more (image i) l (outcome_of l a) (outcome a c) (outcome_lies l a c e)
outcome_lies (opening k ∷ l) a c e = go (eqb a (suc (length l))) e (λ q. outcome_lies l a c q)
  where
    go : (b : Bool) → cond b undecided (fate_of l a) ≡ verdict c → (fate_of l a ≡ verdict c → Lies l (outcome_of l a) (outcome a c)) → Lies (opening k ∷ l) (outcome_of l a) (outcome a c)
    go true q r = not_verdict c undecided (omega arith) q
    go false q r = lies_more (opening k) l (outcome_of l a) (outcome a c) (r q)
outcome_lies (outcome x d ∷ l) a c e = go (eqb a x) refl e (λ q. outcome_lies l a c q)
  where
    go : (b : Bool) → eqb a x ≡ b → cond b (verdict d) (fate_of l a) ≡ verdict c → (fate_of l a ≡ verdict c → Lies l (outcome_of l a) (outcome a c))
        → Lies (outcome x d ∷ l) (cond b (suc (length l)) (outcome_of l a)) (outcome a c)
    go true k q r =
        let i : x ≡ a = sym (eqb-true a x k) in
        let j : d ≡ c = verdict_same c d q in
        subst (λ g. Lies (outcome x d ∷ l) (suc (length l)) g) (λ t. outcome (i t) (j t)) (lies_top (outcome x d) l)
    go false k q r = lies_more (outcome x d) l (outcome_of l a) (outcome a c) (r q)

-- an action was decided so, at this place
pub record DecidedAt (l : List Entry) (a : ℕ) (c : Bool) (p : ℕ) : Type 0 where
  pub fate : fate_of l a ≡ verdict c
  pub place : outcome_of l a ≡ p

-- ---- of a lawful log

-- an action that is not decided has none
pub nowhere : (l : List Entry) (a : ℕ) → Lawful l → (Decided (fate_of l a) → ⊥) → outcome_of l a ≡ 0
unfolding fate_of outcome_of
nowhere [] a w h = refl
nowhere (blank ∷ l) a w h = absurd w.0
nowhere (torn ∷ l) a w h = nowhere l a w.1 h
nowhere (bad ∷ l) a w h = absurd w.0
nowhere (image i ∷ l) a w h = nowhere l a w.1 h
nowhere (opening k ∷ l) a w h = nowhere l a w.1 (go (eqb a (suc (length l))) refl h)
  where
    go : (b : Bool) → eqb a (suc (length l)) ≡ b → (Decided (cond b undecided (fate_of l a)) → ⊥) → Decided (fate_of l a) → ⊥
    go true e h d = let z : fate_of l a ≡ unknown = fate_above l a w.1 (omega (arith, eqb-true a (suc (length l)) e)) in omega (arith, rw z at d)
    go false e h d = h d
nowhere (outcome b c ∷ l) a w h = go (eqb a b) h (λ k. nowhere l a w.1 k)
  where
    go : (x : Bool) → (Decided (cond x (verdict c) (fate_of l a)) → ⊥) → ((Decided (fate_of l a) → ⊥) → outcome_of l a ≡ 0) → cond x (suc (length l)) (outcome_of l a) ≡ 0
    go true k r = absurd (k (verdict_decided c))
    go false k r = r k

somewhere : (l : List Entry) (a : ℕ) → Lawful l → 1 ≤ outcome_of l a → Decided (fate_of l a)
somewhere l a w h = go (leb 2 (fate_number (fate_of l a))) refl
  where
    go : (b : Bool) → leb 2 (fate_number (fate_of l a)) ≡ b → Decided (fate_of l a)
    go true e = leb-true 2 (fate_number (fate_of l a)) e
    go false e = absurd (omega (arith, h, nowhere l a w (λ d. omega (arith, leb-false 2 (fate_number (fate_of l a)) e))))

-- a decided one keeps its own
pub outcome_keeps : (g : Entry) (l : List Entry) → Fits g l → (a : ℕ) → Decided (fate_of l a) → outcome_of (g ∷ l) a ≡ outcome_of l a
unfolding outcome_of
outcome_keeps blank l f a d = refl
outcome_keeps torn l f a d = refl
outcome_keeps bad l f a d = refl
outcome_keeps (opening k) l f a d = refl
outcome_keeps (image i) l f a d = refl
outcome_keeps (outcome b c) l f a d = rw (ne_eqb a b (λ e. not_undecided (fate_of l a) d (ap (fate_of l) e ∙ f)))

pub outcome_top : (l : List Entry) (a : ℕ) (c : Bool) → outcome_of (outcome a c ∷ l) a ≡ suc (length l)
unfolding outcome_of
outcome_top l a c = rw (eq-eqb a a refl)

-- and has no other
pub outcome_only : (l : List Entry) (a : ℕ) (c : Bool) (p : ℕ) → Lawful l → Lies l p (outcome a c) → outcome_of l a ≡ p
outcome_only [] a c p w h = absurd (omega (arith, h.low, h.high))
outcome_only (g ∷ l) a c p w h = turn (lies_cons g l p (outcome a c) h) (λ k. outcome_only l a c p w.1 k)
  where
    turn : Lies l p (outcome a c) ⊎ ((p ≡ suc (length l)) × (g ≡ outcome a c)) → (Lies l p (outcome a c) → outcome_of l a ≡ p) → outcome_of (g ∷ l) a ≡ p
    turn (inl k) r = outcome_keeps g l w.0 a (somewhere l a w.1 (omega (arith, k.low, r k))) ∙ r k
    turn (inr k) r = ap (λ x. outcome_of (x ∷ l) a) k.1 ∙ outcome_top l a c ∙ sym k.0
