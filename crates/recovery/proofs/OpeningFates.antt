-- The fates kept on the way up: which places have one, and what a page changes. Assumes nothing.
use Prim.Native.Nat.{ℕ, zero, suc, ◌+◌, ◌-◌, ◌≤◌, ◌<◌}
use mathlib.Core.Path.{◌≡◌, refl, sym, ap, ◌∙◌}
use mathlib.Core.Bool.{Bool, true, false, not, cond, ◌&&◌}
use mathlib.Core.List.{List, ◌∷◌}
use native.Mathlib.Omega.{arith}
use native.Mathlib.Numerals.{sub-one}
use lib.Dec.{eqb, leb}
use lib.ListN.{length, get_or, set, replicate}
use borrow.Author.Tests.{eqb-true, eqb-false, eq-eqb, ne_eqb, leb-true, le-leb, lt-leb}
use Rattle.encoding.proofs.Logic.{and_both, and_false, bool_ext, by_test}
use Rattle.page.specs.declared.Unpacked.{Unpacked}
use Rattle.page.specs.declared.Unpacked.TheVariants.{Refused, Blank, Torn, Opening, Image, Outcome, Unfit}
use Rattle.page.specs.Answers.{tested}
use Rattle.page.proofs.Found.{image_is, outcome_is}
use Rattle.recovery.specs.Places.{put, tabulate}
use Rattle.recovery.specs.Log.{Entry, blank, opening, outcome, Fate, unknown, undecided, committed, aborted, verdict, fate_step, fate_of}
use Rattle.recovery.specs.Sheet.{page_bytes, entry_of, is_opening, seal, decoded, pages}
use Rattle.recovery.specs.World.{down, fate_number, fates_of}
use Rattle.recovery.specs.OpenSteps.{Bounded}
use Rattle.recovery.proofs.Places.{nth_tabulate, put_tabulate}
use Rattle.recovery.proofs.Pages.{page_here, length_down, decoded_is, sealed_is}

pub bounded_at : (s : List ℕ) (p files : ℕ) (u : Unpacked) → u ≡ tested (page_bytes s p) p files → Bounded p u
bounded_at s p files Refused e = tt
bounded_at s p files Blank e = tt
bounded_at s p files Torn e = tt
bounded_at s p files (Opening q) e = tt
bounded_at s p files (Image q) e = (image_is (page_bytes s p) p files q e).action
bounded_at s p files (Outcome q) e =
    let h = outcome_is (page_bytes s p) p files q e in
    (h.action.0, h.action.1, h.verdict.0, h.verdict.1)
bounded_at s p files Unfit e = tt

-- ---- which places have a fate

abbrev is_known : Fate → Bool
is_known unknown = false
is_known undecided = true
is_known committed = true
is_known aborted = true

known_number : (x : Fate) → eqb (fate_number x) 0 ≡ not (is_known x)
known_number unknown = refl
known_number undecided = refl
known_number committed = refl
known_number aborted = refl

known_verdict : (c : Bool) → is_known (verdict c) ≡ true
known_verdict true = refl
known_verdict false = refl

leb_suc : (a n : ℕ) → (a ≡ suc n → ⊥) → leb a n ≡ leb a (suc n)
leb_suc a n h =
    bool_ext (leb a n) (leb a (suc n)) (λ e. le-leb a (suc n) (omega (arith, leb-true a n e))) (λ e. le-leb a n (omega (arith, h, leb-true a (suc n) e)))

module _ (files : ℕ) (s : List ℕ) where
  -- a place up to n that is an opening
  abbrev opens : ℕ → ℕ → Bool
  opens n a = leb a n && is_opening (decoded files s a)

  -- one more place, which is no opening
  opens_more : (n a : ℕ) → is_opening (decoded files s (suc n)) ≡ false → opens n a ≡ opens (suc n) a
  opens_more n a h = go (eqb a (suc n)) refl
    where
      go : (b : Bool) → eqb a (suc n) ≡ b → opens n a ≡ opens (suc n) a
      go true e =
          let z : is_opening (decoded files s a) ≡ false = rw (eqb-true a (suc n) e) h in
          and_false (leb a n) _ z ∙ sym (and_false (leb a (suc n)) _ z)
      go false e = rw (leb_suc a n (eqb-false a (suc n) e))

  module _ (n : ℕ) (l : List Entry) (long : length l ≡ n) (ih : (a : ℕ) → 1 ≤ a → is_known (fate_of l a) ≡ opens n a) where
    known_opening : (j : Bool) (a : ℕ) → 1 ≤ a → opening j ≡ decoded files s (suc n) → is_known (cond (eqb a (suc (length l))) undecided (fate_of l a)) ≡ opens (suc n) a
    known_opening j a k d =
        by_test (λ x. is_known x ≡ opens (suc n) a) (eqb a (suc (length l)))
        (λ e.
        let m : a ≡ suc n = omega (arith, eqb-true a (suc (length l)) e, long) in
        sym (and_both (leb a (suc n)) _ (le-leb a (suc n) (omega arith)) (ap (λ (x : ℕ). is_opening (decoded files s x)) m ∙ ap is_opening (sym d))))
        (λ e. ih a k ∙ ap (λ (x : Bool). x && is_opening (decoded files s a)) (leb_suc a n (λ m. eqb-false a (suc (length l)) e (omega (arith, m, long)))))

    known_outcome : (a b : ℕ) (c : Bool) → 1 ≤ a → 1 ≤ b → b < suc n → outcome b c ≡ decoded files s (suc n) → is_opening (decoded files s b) ≡ true
        → is_known (cond (eqb a b) (verdict c) (fate_of l a)) ≡ opens (suc n) a
    known_outcome a b c k low high d o =
        by_test (λ x. is_known x ≡ opens (suc n) a) (eqb a b)
        (λ e.
        let m : a ≡ b = eqb-true a b e in
        known_verdict c ∙ sym (and_both (leb a (suc n)) _ (le-leb a (suc n) (omega arith)) (ap (λ (x : ℕ). is_opening (decoded files s x)) m ∙ o)))
        (λ e. ih a k ∙ opens_more n a (ap is_opening (sym d)))

    known_step : (u : Unpacked) → u ≡ tested (page_bytes s (suc n)) (suc n) files → (a : ℕ) → 1 ≤ a
        → is_known (fate_step (seal (decoded files s) (entry_of (page_bytes s (suc n)) u)) (suc (length l)) a (fate_of l a)) ≡ opens (suc n) a
    known_step Refused e a k = ih a k ∙ opens_more n a (ap is_opening (sym (decoded_is s (suc n) files Refused e)))
    known_step Blank e a k = ih a k ∙ opens_more n a (ap is_opening (sym (decoded_is s (suc n) files Blank e)))
    known_step Torn e a k = ih a k ∙ opens_more n a (ap is_opening (sym (decoded_is s (suc n) files Torn e)))
    known_step (Opening q) e a k = known_opening (eqb q.small 1) a k (decoded_is s (suc n) files (Opening q) e)
    known_step (Image q) e a k =
        by_test (λ g. is_known (fate_step g (suc (length l)) a (fate_of l a)) ≡ opens (suc n) a) (is_opening (decoded files s q.action))
        (λ o. ih a k ∙ opens_more n a (ap is_opening (sym (decoded_is s (suc n) files (Image q) e))))
        (λ o. ih a k ∙ opens_more n a (ap is_opening (sym (decoded_is s (suc n) files (Image q) e))))
    known_step (Outcome q) e a k =
        let t = bounded_at s (suc n) files (Outcome q) e in
        let d = decoded_is s (suc n) files (Outcome q) e in
        by_test (λ g. is_known (fate_step g (suc (length l)) a (fate_of l a)) ≡ opens (suc n) a) (is_opening (decoded files s q.action))
        (λ o. known_outcome a q.action (eqb q.small 1) k t.0 t.1 d o)
        (λ o. ih a k ∙ opens_more n a (ap is_opening (sym d)))
    known_step Unfit e a k = ih a k ∙ opens_more n a (ap is_opening (sym (decoded_is s (suc n) files Unfit e)))

  module _ (N : ℕ) where
    -- the page above n, as the page test found it
    pub page_is : (n : ℕ) (u : Unpacked) → u ≡ tested (page_bytes s (suc n)) (suc n) files → n < N
        → get_or (pages files N s) n blank ≡ seal (decoded files s) (entry_of (page_bytes s (suc n)) u)
    page_is n u e h = page_here files N s n h ∙ sym (sealed_is s (suc n) files u e)

    known_is : (n : ℕ) → n ≤ N → (a : ℕ) → 1 ≤ a → is_known (fate_of (down (pages files N s) n) a) ≡ opens n a
    unfolding down fate_of
    known_is zero h a k = sym (ap (λ (x : Bool). x && is_opening (decoded files s a)) (lt-leb a 0 k))
    known_is (suc n) h a k =
        let u = tested (page_bytes s (suc n)) (suc n) files in
        rw (page_is n u refl (omega arith)) (known_step n (down (pages files N s) n) (length_down (pages files N s) n) (known_is n (omega arith)) u refl a k)

    -- so a kept fate is 0 exactly where no opening is
    pub fate_none : (n : ℕ) → n ≤ N → (a : ℕ) → 1 ≤ a → a ≤ n → eqb (fate_number (fate_of (down (pages files N s) n) a)) 0 ≡ not (is_opening (decoded files s a))
    fate_none n h a k m = known_number (fate_of (down (pages files N s) n) a) ∙ ap not (known_is n h a k ∙ ap (λ (x : Bool). x && is_opening (decoded files s a)) (le-leb a n m))

-- ---- what a page changes

abbrev fates_over : ℕ → Entry → ℕ → List Entry → List ℕ
fates_over N g place l = tabulate (λ a. fate_number (fate_step g place a (fate_of l a))) 0 N

pub fates_up : (N : ℕ) (P : List Entry) (n : ℕ) (g : Entry) → get_or P n blank ≡ g → fates_over N g (suc n) (down P n) ≡ fates_of N (down P (suc n))
unfolding down fate_of
fates_up N P n g e =
    ap (λ (m : ℕ). fates_over N g (suc m) (down P n)) (sym (length_down P n)) ∙ ap (λ (x : Entry). fates_over N x (suc (length (down P n))) (down P n)) (sym e)

pub get_fate : (N a : ℕ) (l : List Entry) → 1 ≤ a → a ≤ N → get_or (fates_of N l) (a - 1) 0 ≡ fate_number (fate_of l a)
get_fate N zero l h k = absurd (omega arith)
get_fate N (suc a) l h k = rw sub-one (nth_tabulate (λ b. fate_number (fate_of l b)) N (suc a) 0 h k)

set_put : (l : List ℕ) (a v : ℕ) → 1 ≤ a → set l (a - 1) v ≡ put l a v
set_put l zero v h = absurd (omega arith)
set_put l (suc a) v h = rw sub-one

pub keep_opening : (j : Bool) (N n : ℕ) (l : List Entry) → set (fates_of N l) (suc n - 1) 1 ≡ fates_over N (opening j) (suc n) l
keep_opening j N n l =
    set_put (fates_of N l) (suc n) 1 (omega arith)
    ∙ put_tabulate (λ a. fate_number (fate_of l a)) (λ a. fate_number (fate_step (opening j) (suc n) a (fate_of l a))) N (suc n) 1 (omega arith)
    (ap (λ (b : Bool). fate_number (cond b undecided (fate_of l (suc n)))) (eq-eqb (suc n) (suc n) refl))
    (λ b h k m. ap (λ (x : Bool). fate_number (cond x undecided (fate_of l b))) (ne_eqb b (suc n) m))

verdict_number : (x : ℕ) → 1 ≤ x → x ≤ 2 → fate_number (verdict (eqb x 1)) ≡ x + 1
verdict_number x h k = go (eqb x 1) refl
  where
    go : (b : Bool) → eqb x 1 ≡ b → fate_number (verdict b) ≡ x + 1
    go true e = omega (arith, eqb-true x 1 e)
    go false e = omega (arith, eqb-false x 1 e)

pub keep_outcome : (N a x place : ℕ) (l : List Entry) → 1 ≤ a → 1 ≤ x → x ≤ 2 → set (fates_of N l) (a - 1) (x + 1) ≡ fates_over N (outcome a (eqb x 1)) place l
keep_outcome N a x place l h k m =
    set_put (fates_of N l) a (x + 1) h
    ∙ put_tabulate (λ b. fate_number (fate_of l b)) (λ b. fate_number (fate_step (outcome a (eqb x 1)) place b (fate_of l b))) N a (x + 1) h
    (ap (λ (b : Bool). fate_number (cond b (verdict (eqb x 1)) (fate_of l a))) (eq-eqb a a refl) ∙ verdict_number x k m)
    (λ b i j q. ap (λ (y : Bool). fate_number (cond y (verdict (eqb x 1)) (fate_of l b))) (ne_eqb b a q))

-- none before the first page
zeros_tab : (i n : ℕ) → replicate {A = ℕ} n 0 ≡ tabulate (λ a. 0) i n
unfolding tabulate
zeros_tab i zero = refl
zeros_tab i (suc n) = ap (λ l. 0 ∷ l) (zeros_tab (suc i) n)

pub fates_zero : (N : ℕ) (P : List Entry) → replicate {A = ℕ} N 0 ≡ fates_of N (down P 0)
unfolding down fate_of
fates_zero N P = zeros_tab 0 N
