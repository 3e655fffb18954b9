-- The value that a reply shows, out of the sheet. Assumes nothing.
use Prim.Native.Nat.{ℕ, zero, suc, ◌*◌, ◌/◌, ◌-◌, ◌≤◌}
use mathlib.Core.Path.{◌≡◌, refl, sym, ap, ◌∙◌}
use mathlib.Core.List.{List, []}
use mathlib.Core.Bool.{Bool, true, false, cond, ◌&&◌}
use native.Mathlib.Omega.{arith}
use lib.ListN.{length, take, drop, replicate, length-replicate, length-take, length-drop}
use lib.Seq.{take_all}
use lib.Dec.{eqb, leb}
use borrow.Author.Tests.{eqb-true, ne_eqb, leb-false}
use Rattle.encoding.specs.Bytes.{part}
use Rattle.encoding.proofs.Parts.{length_part}
use Rattle.page.specs.Layout.{page_size, value_size}
use Rattle.page.specs.Answers.{value_in}
use Rattle.recovery.specs.Sheet.{page_bytes}
use Rattle.recovery.specs.Steps.{part_at}
use Rattle.commands.specs.declared.printing.Reply.{Reply}
use Rattle.commands.specs.declared.printing.Reply.TheVariants.{What, Closed, Lost, Cut, Opened, Begun, Written, Shown, Nothing, Told, Committed, Aborted, No}
use Rattle.commands.specs.Replies.{prints}
use Rattle.desk.specs.Wording.{shown}

-- the part of a place has the value that its page's bytes have
pub value_part : (s : List ℕ) (place : ℕ) → value_in (part_at s place) ≡ value_in (page_bytes s place)
unfolding part_at value_in
value_part s place = go (leb 1 place) (leb place (length s / page_size)) refl refl
  where
    short : (p : ℕ) → (1 ≤ p → p ≤ length s / page_size → ⊥) → replicate value_size 0 ≡ cond (eqb (length (page_bytes s p)) page_size) (part 24 56 (page_bytes s p)) (replicate value_size 0)
    short zero h = refl
    short (suc q) h = rw (ne_eqb (length (page_bytes s (suc q))) page_size (λ e. h (omega arith) (omega (arith, e, length-take page_size (drop (page_size * q) s), length-drop (page_size * q) s))))

    go : (b c : Bool) → leb 1 place ≡ b → leb place (length s / page_size) ≡ c
        → cond (eqb (length (cond (b && c) (page_bytes s place) [])) page_size) (part 24 56 (cond (b && c) (page_bytes s place) [])) (replicate value_size 0)
        ≡ cond (eqb (length (page_bytes s place)) page_size) (part 24 56 (page_bytes s place)) (replicate value_size 0)
    go true true e f = refl
    go true false e f = short place (λ u v. omega (arith, leb-false place (length s / page_size) f))
    go false c e f = short place (λ u v. omega (arith, leb-false 1 place e))

value_long : (s : List ℕ) → length (value_in s) ≡ value_size
unfolding value_in
value_long s = go (eqb (length s) page_size) refl
  where
    go : (b : Bool) → eqb (length s) page_size ≡ b → length (cond b (part 24 56 s) (replicate value_size 0)) ≡ value_size
    go true e = length_part 24 56 s (omega (arith, eqb-true (length s) page_size e))
    go false e = length-replicate {A = ℕ} value_size 0

-- ---- a reply and its bytes

-- what `let Reply::Shown(..) = r else { .. }` tells in its else: it is no such reply
none_shown : (r : Reply) (s : List ℕ) → ((place start size : ℕ) → r ≡ Shown place start size → ⊥) → [] ≡ shown r s
none_shown What s k = refl
none_shown Closed s k = refl
none_shown Lost s k = refl
none_shown (Cut n) s k = refl
none_shown (Opened end undecided) s k = refl
none_shown (Begun place) s k = refl
none_shown (Written place) s k = refl
none_shown (Shown place start size) s k = absurd (k place start size refl)
none_shown Nothing s k = refl
none_shown (Told fate place) s k = refl
none_shown (Committed place) s k = refl
none_shown (Aborted place) s k = refl
none_shown (No number place) s k = refl

module _ (r : Reply) (s out out' : List ℕ) (n : ℕ) where
  pub told_other : ((place start size : ℕ) → r ≡ Shown place start size → ⊥) → ◌≡◌ {A = ℕ × List ℕ} (n, out') (prints r [] out) → ◌≡◌ {A = ℕ × List ℕ} (n, out') (prints r (shown r s) out)
  told_other k q = q ∙ ap (λ v. prints r v out) (none_shown r s k)

  module _ (place start size : ℕ) (value : List ℕ) (e : r ≡ Shown place start size) (v : value ≡ value_in (page_bytes s place)) where
    told_shown : (x : List ℕ) → x ≡ take size value → ◌≡◌ {A = ℕ × List ℕ} (n, out') (prints (Shown place start size) x out) → ◌≡◌ {A = ℕ × List ℕ} (n, out') (prints r (shown r s) out)
    told_shown x h q = q ∙ ap (λ y. prints (Shown place start size) y out) (h ∙ ap (take size) v) ∙ sym (ap (λ y. prints y (shown y s) out) e)

    pub told_all : value_size ≤ size → ◌≡◌ {A = ℕ × List ℕ} (n, out') (prints (Shown place start size) value out) → ◌≡◌ {A = ℕ × List ℕ} (n, out') (prints r (shown r s) out)
    told_all h = told_shown value (sym (take_all size value (omega (arith, ap length v, value_long (page_bytes s place)))))

    pub told_some : ◌≡◌ {A = ℕ × List ℕ} (n, out') (prints (Shown place start size) (take (size - 0) (drop 0 value)) out) → ◌≡◌ {A = ℕ × List ℕ} (n, out') (prints r (shown r s) out)
    told_some = let z : size - 0 ≡ size = omega arith in told_shown (take (size - 0) value) (ap (λ i. take i value) z)
