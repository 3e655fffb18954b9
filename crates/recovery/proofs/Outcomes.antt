-- The place of an action's newest sealed outcome, as the code walks down to it. Assumes nothing.
use Prim.Native.Nat.{ℕ, zero, suc, min, ◌*◌, ◌-◌, ◌/◌, ◌<◌, ◌≤◌}
use mathlib.Core.Path.{◌≡◌, refl, sym, ap, ◌∙◌}
use mathlib.Core.Bool.{Bool, true, false, cond, ◌&&◌}
use mathlib.Core.List.{List}
use native.Mathlib.Omega.{arith}
use native.Mathlib.Numerals.{sub-one}
use lib.ListN.{length}
use lib.Dec.{eqb}
use borrow.Author.Tests.{eqb-true, eqb-false, eq-eqb, ne_eqb}
use Rattle.encoding.proofs.Logic.{by_test, and_false}
use Rattle.page.specs.declared.Unpacked.{Unpacked}
use Rattle.page.specs.declared.Unpacked.TheVariants.{Refused, Blank, Torn, Opening, Image, Outcome, Unfit}
use Rattle.page.specs.Layout.{page_size}
use Rattle.page.specs.Answers.{tested, is_outcome_of}
use Rattle.page.proofs.Found.{outcome_is}
use Rattle.recovery.specs.Log.{Entry, bad, outcome, outcome_step, outcome_of}
use Rattle.recovery.specs.Sheet.{page_bytes, entry_of, is_opening, seal, decoded}
use Rattle.recovery.specs.World.{down}
use Rattle.recovery.specs.Steps.{outcome_in}
use Rattle.recovery.proofs.Pages.{sealed_is, test_out}
use Rattle.recovery.proofs.LogFolds.{one_more, from_end}

pub none_at : (s : List ℕ) (p files a : ℕ) → (1 ≤ p → page_size * p ≤ length s → ⊥) → false ≡ is_outcome_of a (tested (page_bytes s p) p files)
unfolding is_outcome_of
none_at s p files a h = ap (is_outcome_of a) (test_out s p files h)

module _ (files : ℕ) (s : List ℕ) (a : ℕ) where
  abbrev pub place_to : ℕ → ℕ
  place_to p = outcome_in s files p a

  -- what a page adds, by the page test: it is sealed if the action has an opening
  step_is : (b : List ℕ) (p x : ℕ) (u : Unpacked) → outcome_step (seal (decoded files s) (entry_of b u)) p a x ≡ cond (is_outcome_of a u && is_opening (decoded files s a)) p x
  unfolding is_outcome_of
  step_is b p x Refused = refl
  step_is b p x Blank = refl
  step_is b p x Torn = refl
  step_is b p x (Opening y) = refl
  step_is b p x (Image y) = by_test (λ (g : Entry). outcome_step g p a x ≡ x) (is_opening (decoded files s y.action)) (λ q. refl) (λ q. refl)
  step_is b p x Unfit = refl
  step_is b p x (Outcome y) = go (eqb y.action a) refl
    where
      other : (d : Bool) → (a ≡ y.action → ⊥) → outcome_step (cond d (outcome y.action (eqb y.small 1)) bad) p a x ≡ x
      other true n = rw (ne_eqb a y.action n)
      other false n = refl

      same : (d : Bool) → a ≡ y.action → outcome_step (cond d (outcome y.action (eqb y.small 1)) bad) p a x ≡ cond d p x
      same true e = rw (eq-eqb a y.action e)
      same false e = refl

      go : (d : Bool) → eqb y.action a ≡ d → outcome_step (cond (is_opening (decoded files s y.action)) (outcome y.action (eqb y.small 1)) bad) p a x ≡ cond (d && is_opening (decoded files s a)) p x
      go true e =
          let z : y.action ≡ a = eqb-true y.action a e in
          same (is_opening (decoded files s y.action)) (sym z) ∙ ap (λ n. cond (is_opening (decoded files s n)) p x) z
      go false e = other (is_opening (decoded files s y.action)) (λ z. eqb-false y.action a e (sym z))

  place_down : (p : ℕ) → 0 < p → page_size * p ≤ length s → place_to p ≡ cond (is_outcome_of a (tested (page_bytes s p) p files) && is_opening (decoded files s a)) p (place_to (p - 1))
  unfolding outcome_in outcome_of
  place_down p l h =
      one_more (λ l. outcome_of l a) (λ g p x. outcome_step g p a x) (λ g l. refl) files s p l h
      ∙ ap (λ g. outcome_step g p a (place_to (p - 1))) (sym (sealed_is s p files (tested (page_bytes s p) p files) refl))
      ∙ step_is (page_bytes s p) p (place_to (p - 1)) (tested (page_bytes s p) p files)

  pub place_from : (end : ℕ) → place_to (min end (length s / page_size)) ≡ place_to end
  unfolding outcome_in outcome_of
  place_from = from_end (λ l. outcome_of l a) (λ g p x. outcome_step g p a x) (λ g l. refl) files s (λ p x. refl)

  -- ---- the walk: passed over, found, and the ends

  module _ (p : ℕ) (l : 0 < p) (h : page_size * p ≤ length s) where
    pub place_passed : is_outcome_of a (tested (page_bytes s p) p files) ≡ false → place_to (p - 1) ≡ place_to p
    place_passed e = sym (place_down p l h ∙ rw e)

    pub place_found : is_outcome_of a (tested (page_bytes s p) p files) ≡ true → is_opening (decoded files s a) ≡ true → p ≡ place_to p
    place_found e o = sym (place_down p l h ∙ rw (e, o))

  -- an outcome lies above its action's opening
  low_none : (p : ℕ) → p ≤ a → is_outcome_of a (tested (page_bytes s p) p files) ≡ false
  unfolding is_outcome_of
  low_none p h = go (tested (page_bytes s p) p files) refl
    where
      go : (u : Unpacked) → u ≡ tested (page_bytes s p) p files → is_outcome_of a u ≡ false
      go Refused e = refl
      go Blank e = refl
      go Torn e = refl
      go (Opening y) e = refl
      go (Image y) e = refl
      go Unfit e = refl
      go (Outcome y) e = let o = (outcome_is (page_bytes s p) p files y e).action in ne_eqb y.action a (λ z. omega arith)

  none_to : (n : ℕ) → page_size * n ≤ length s → ((p : ℕ) → p ≤ n → (is_outcome_of a (tested (page_bytes s p) p files) && is_opening (decoded files s a)) ≡ false) → 0 ≡ place_to n
  unfolding outcome_in outcome_of down
  none_to zero l h = refl
  none_to (suc n) l h = none_to n (omega arith) (λ p k. h p (omega arith)) ∙ sym (place_down (suc n) (omega arith) l ∙ rw (h (suc n) (omega arith), sub-one))

  pub place_low : (n : ℕ) → page_size * n ≤ length s → n ≤ a → 0 ≡ place_to n
  place_low n l h = none_to n l (λ p k. rw (low_none p (omega arith)))

  pub place_unopened : (end : ℕ) → is_opening (decoded files s a) ≡ false → 0 ≡ place_to end
  place_unopened end h = none_to (min end (length s / page_size)) (omega arith) (λ p k. and_false (is_outcome_of a (tested (page_bytes s p) p files)) (is_opening (decoded files s a)) h) ∙ place_from end
