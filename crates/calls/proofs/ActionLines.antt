-- Lines 5 and 6: the fate of an action as the code looks it up, the line that refuses the action, and the calls that ask them.
-- Assumes nothing.
use Prim.Native.Nat.{ℕ, zero, suc, ◌≤◌}
use mathlib.Core.Path.{◌≡◌, refl, sym, ◌∙◌}
use mathlib.Core.Bool.{Bool, true, false, cond, ◌&&◌, false≢true}
use mathlib.Core.List.{List}
use native.Mathlib.Omega.{arith}
use lib.Dec.{eqb, leb}
use borrow.Author.Tests.{ne_eqb, eqb-true, leb-true}
use Rattle.encoding.proofs.Logic.{and_true, by_test, clash}
use Rattle.std.specs.Prelude.{Ok, Err}
use Rattle.std.specs.Prelude as std
use Rattle.recovery.specs.Places.{nth}
use Rattle.recovery.specs.Log.{unknown, undecided, committed, aborted}
use Rattle.recovery.specs.World.{World, Result, refuse, fate_number, fate_from, fate_in}
use Rattle.calls.specs.Calls.{is_known, is_decided, for_undecided}
use Rattle.calls.specs.LineSteps.{Line, free, and_then, known_fate, action_line}
use Rattle.calls.specs.ReadSteps.{read_line}
use Rattle.recovery.specs.declared.Refusal.{Refusal}
use Rattle.recovery.specs.declared.Refusal.TheVariants.{NoAction, AlreadyDecided}

-- ---- the fate of an action

known_number : (x : ℕ) → is_known (fate_from x) ≡ true → fate_number (fate_from x) ≡ x
known_number x h = go (eqb x 1) refl (eqb x 2) refl (eqb x 3) refl h
  where
    go : (a : Bool) → eqb x 1 ≡ a → (b : Bool) → eqb x 2 ≡ b → (c : Bool) → eqb x 3 ≡ c
        → is_known (cond a undecided (cond b committed (cond c aborted unknown))) ≡ true → fate_number (cond a undecided (cond b committed (cond c aborted unknown))) ≡ x
    go true p b q c r k = sym (eqb-true x 1 p)
    go false p true q c r k = sym (eqb-true x 2 q)
    go false p false q true r k = sym (eqb-true x 3 r)
    go false p false q false r k = let z : ◌≡◌ {A = ℕ} 0 1 = cc in absurd (omega arith)

module _ (fates : List ℕ) (end a : ℕ) where
  -- line 5
  abbrev pub acts : Bool
  acts = leb 1 a && leb a end && is_known (fate_in fates a)

  -- what line 5 lets through, with the number of the fate
  pub record Known (x : ℕ) : Type 0 where
    pub acts_is : acts ≡ true
    pub byte : nth 0 fates a ≡ x
    pub number : fate_number (fate_in fates a) ≡ x
    pub low : 1 ≤ a
    pub high : a ≤ end

  pub record Unknown (why : Refusal) : Type 0 where
    pub acts_not : acts ≡ false
    pub why_is : why ≡ NoAction

  pub fate_none : (why : Refusal) → Err why ≡ known_fate fates end a → Unknown why
  unfolding known_fate
  fate_none why h = go acts refl h
    where
      go : (b : Bool) → acts ≡ b → Err why ≡ cond b (Ok (nth 0 fates a)) (Err NoAction) → Unknown why
      go false p q = record { acts_not = p; why_is = cc }
      go true p q = clash cc

  pub fate_some : (x : ℕ) → Ok x ≡ known_fate fates end a → Known x
  unfolding known_fate
  fate_some x h = go acts refl h
    where
      go : (b : Bool) → acts ≡ b → Ok x ≡ cond b (Ok (nth 0 fates a)) (Err NoAction) → Known x
      go false p q = clash cc
      go true p q =
          let k = and_true (leb 1 a && leb a end) (is_known (fate_in fates a)) p in
          let j = and_true (leb 1 a) (leb a end) k.0 in
          let e : x ≡ nth 0 fates a = cc in
          record { acts_is = p; byte = sym e; number = known_number (nth 0 fates a) k.1 ∙ sym e; low = leb-true 1 a j.0; high = leb-true a end j.1 }

  -- ---- lines 5 and 6

  -- what the two lines let through
  pub acting : free ≡ action_line fates end a → Known 1
  unfolding action_line
  acting h = go (known_fate fates end a) refl h
    where
      go : (f : std.Result ℕ Refusal) → f ≡ known_fate fates end a → free ≡ and_then f (λ fate. cond (eqb fate 1) free (Err AlreadyDecided)) → Known 1
      go (Err why) e q = clash cc
      go (Ok x) e q =
          by_test (λ (l : Line). free ≡ l → Known 1) (eqb x 1) (λ o r. let z : x ≡ 1 = eqb-true x 1 o in fate_some 1 (rw z at e)) (λ o r. clash cc) q

  -- and what line 5 lets through, where line 6 refuses
  pub past_5 : Err AlreadyDecided ≡ action_line fates end a → acts ≡ true
  unfolding action_line
  past_5 h = go (known_fate fates end a) refl h
    where
      go : (f : std.Result ℕ Refusal) → f ≡ known_fate fates end a → Err AlreadyDecided ≡ and_then f (λ fate. cond (eqb fate 1) free (Err AlreadyDecided)) → acts ≡ true
      go (Err why) e q = let k : why ≡ NoAction = (fate_none why e).why_is in clash cc
      go (Ok x) e q = (fate_some x e).acts_is

-- ---- the definitions by those lines

-- a call goes on where the lines let it through
abbrev pub by_line : World → Result → Line → Result
by_line w k (Ok _) = k
by_line w k (Err why) = refuse why 0 w

module _ (w : World) (a : ℕ) (k : Result) where
  by_fate : (x : ℕ) (b : Bool) → (b ≡ true → is_known (fate_from x) ≡ true)
      → cond b (cond (is_decided (fate_from x)) (refuse AlreadyDecided 0 w) k) (refuse NoAction 0 w)
      ≡ by_line w k (and_then (cond b (Ok x) (Err NoAction)) (λ fate. cond (eqb fate 1) free (Err AlreadyDecided)))
  by_fate x false h = refl
  by_fate zero true h = absurd (false≢true (h refl))
  by_fate (suc zero) true h = refl
  by_fate (suc (suc zero)) true h = refl
  by_fate (suc (suc (suc zero))) true h = refl
  by_fate (suc (suc (suc (suc x)))) true h =
      let y : ℕ = suc (suc (suc (suc x))) in
      let z : false ≡ true = simp (ne_eqb y 1 (λ q. omega arith), ne_eqb y 2 (λ q. omega arith), ne_eqb y 3 (λ q. omega arith)) at (h refl) in
      absurd (false≢true z)

  pub undecided_by : for_undecided w a k ≡ by_line w k (action_line w.fates w.end a)
  unfolding action_line known_fate
  undecided_by =
      by_fate (nth 0 w.fates a) (leb 1 a && leb a w.end && is_known (fate_in w.fates a))
      (λ e. (and_true (leb 1 a && leb a w.end) (is_known (fate_in w.fates a)) e).1)

  pub read_by : cond (eqb a 0) k (for_undecided w a k) ≡ by_line w k (read_line w.fates w.end a)
  unfolding read_line
  read_by = go (eqb a 0)
    where
      go : (b : Bool) → cond b k (for_undecided w a k) ≡ by_line w k (cond b free (action_line w.fates w.end a))
      go true = refl
      go false = undecided_by
