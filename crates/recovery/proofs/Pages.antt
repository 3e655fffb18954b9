-- The page at a place, from its bytes and from what the page test answers. Assumes nothing.
use Prim.Native.Nat.{ℕ, zero, suc, ◌*◌, ◌+◌, ◌-◌, ◌/◌, ◌<◌, ◌≤◌}
use mathlib.Core.Path.{◌≡◌, refl, sym, ap, ◌∙◌}
use mathlib.Core.List.{List, []}
use mathlib.Core.Bool.{Bool, true, false, cond, false≢true}
use native.Mathlib.Omega.{arith}
use borrow.Author.Tests.{ne_eqb, leb-true, le-leb, ltb-true, ltb-false}
use lib.Dec.{leb, ltb}
use lib.ListN.{length, take, drop, get_or, set, length-take, length-drop}
use lib.Seq.{take-set-le, take-set-lt, drop-set-lt, drop-set-add}
use Rattle.encoding.proofs.Logic.{by_test, and_true}
use Rattle.page.specs.declared.Unpacked.{Unpacked}
use Rattle.page.specs.declared.Unpacked.TheVariants.{Refused, Blank, Torn, Opening, Image, Outcome, Unfit}
use Rattle.page.specs.Layout.{page_size}
use Rattle.page.specs.Answers.{in_bounds, tested, is_blank_page}
use Rattle.recovery.specs.Places.{nth}
use Rattle.recovery.specs.Log.{Entry, blank, torn, bad, opening, image, outcome}
use Rattle.recovery.specs.Sheet.{page_bytes, entry_of, is_opening, seal, decoded, sealed, pages}
use Rattle.recovery.specs.World.{down, is_blank, is_carried}
use Rattle.recovery.specs.Steps.{has_place, part_at}
use Rattle.recovery.proofs.Places.{length_tabulate, nth_tabulate}

-- the part from 64 × (place − 1), as the code cuts it
pub part_is : (s : List ℕ) (a e p : ℕ) → 1 ≤ p → a ≡ page_size * (p - 1) → e ≡ a + page_size → take (e - a) (drop a s) ≡ page_bytes s p
part_is s a e zero h ha he = absurd (omega arith)
part_is s a e (suc q) h ha he =
    let n : e - a ≡ page_size = omega arith in
    let k : a ≡ page_size * q = omega arith in
    rw (n, k)

pub test_is : (s : List ℕ) (a e p files : ℕ) → 1 ≤ p → a ≡ page_size * (p - 1) → e ≡ a + page_size → tested (take (e - a) (drop a s)) p files ≡ tested (page_bytes s p) p files
test_is s a e p files h ha he = ap (λ (l : List ℕ). tested l p files) (part_is s a e p h ha he)

-- a place that the sheet does not have
pub test_out : (s : List ℕ) (p files : ℕ) → (1 ≤ p → page_size * p ≤ length s → ⊥) → Refused ≡ tested (page_bytes s p) p files
unfolding tested in_bounds
test_out s zero files h = refl
test_out s (suc q) files h =
    let short : length (take page_size (drop (page_size * q) s)) ≡ page_size → ⊥ = λ e. h (omega arith) (omega (arith, e, length-take page_size (drop (page_size * q) s), length-drop (page_size * q) s)) in
    simp (ne_eqb (length (take page_size (drop (page_size * q) s))) page_size short)

-- the part of a place, as the code cuts it; it is tested as the page's bytes are
module _ (s : List ℕ) (p : ℕ) where
  pub place_in : has_place s p ≡ true → (1 ≤ p) × (p ≤ length s / page_size)
  place_in e = let h = and_true (leb 1 p) (leb p (length s / page_size)) e in (leb-true 1 p h.0, leb-true p (length s / page_size) h.1)

  pub place_out : has_place s p ≡ false → 1 ≤ p → page_size * p ≤ length s → ⊥
  place_out e u v = false≢true (sym (rw (le-leb 1 p u, le-leb p (length s / page_size) (omega arith)) at e))

  pub part_none : has_place s p ≡ false → take (0 - 0) (drop 0 s) ≡ part_at s p
  unfolding part_at
  part_none h = rw h

  pub part_some : (a e : ℕ) → has_place s p ≡ true → a ≡ page_size * (p - 1) → e ≡ a + page_size → take (e - a) (drop a s) ≡ part_at s p
  unfolding part_at
  part_some a e h i j = rw h (part_is s a e p (place_in h).0 i j)

  pub part_tested : (files : ℕ) → tested (part_at s p) p files ≡ tested (page_bytes s p) p files
  unfolding part_at tested in_bounds
  part_tested files = go (has_place s p) refl
    where
      go : (b : Bool) → has_place s p ≡ b → tested (cond b (page_bytes s p) []) p files ≡ tested (page_bytes s p) p files
      go true e = refl
      go false e = test_out s p files (place_out e)

-- ---- one byte of a page changed

module _ (s : List ℕ) (place i v : ℕ) (h : i < page_size) where
  pub byte_here : 1 ≤ place → page_bytes (set s (page_size * (place - 1) + i) v) place ≡ set (page_bytes s place) i v
  byte_here k = go place k
    where
      go : (p : ℕ) → 1 ≤ p → page_bytes (set s (page_size * (p - 1) + i) v) p ≡ set (page_bytes s p) i v
      go zero l = absurd (omega arith)
      go (suc q) l = let e : suc q - 1 ≡ q = omega arith in rw e (ap (take page_size) (drop-set-add (page_size * q) s i v) ∙ take-set-lt page_size (drop (page_size * q) s) i v h)

  -- the other pages keep their bytes
  pub bytes_other : (p : ℕ) → 1 ≤ place → (p ≡ place → ⊥) → page_bytes (set s (page_size * (place - 1) + i) v) p ≡ page_bytes s p
  bytes_other zero k n = refl
  bytes_other (suc q) k n = go (ltb (suc q) place) refl
    where
      j : ℕ
      j = page_size * (place - 1) + i

      go : (b : Bool) → ltb (suc q) place ≡ b → take page_size (drop (page_size * q) (set s j v)) ≡ take page_size (drop (page_size * q) s)
      go true e =
          let at : j ≡ page_size * q + (j - page_size * q) = omega (arith, ltb-true (suc q) place e) in
          ap (λ (x : ℕ). take page_size (drop (page_size * q) (set s x v))) at ∙ ap (take page_size) (drop-set-add (page_size * q) s (j - page_size * q) v)
          ∙ take-set-le page_size (drop (page_size * q) s) (j - page_size * q) v (omega (arith, ltb-true (suc q) place e))
      go false e = ap (take page_size) (drop-set-lt (page_size * q) s j v (omega (arith, ltb-false (suc q) place e)))

pub pages_long : (files n : ℕ) (s : List ℕ) → length (pages files n s) ≡ n
unfolding pages
pages_long files n s = length_tabulate (sealed files s) 0 n

pub page_here : (files n : ℕ) (s : List ℕ) (p : ℕ) → p < n → get_or (pages files n s) p blank ≡ sealed files s (suc p)
unfolding pages
page_here files n s p h = nth_tabulate (sealed files s) n (suc p) blank (omega arith) h

pub page_at_place : (files n : ℕ) (s : List ℕ) (p : ℕ) → 1 ≤ p → p ≤ n → nth blank (pages files n s) p ≡ sealed files s p
unfolding pages
page_at_place files n s p l h = nth_tabulate (sealed files s) n p blank l h

pub length_down : (s : List Entry) (e : ℕ) → length (down s e) ≡ e
unfolding down
length_down s zero = refl
length_down s (suc e) = ap suc (length_down s e)

-- what the page test answers at a place is the page there
module _ (s : List ℕ) (p files : ℕ) (u : Unpacked) (e : u ≡ tested (page_bytes s p) p files) where
  pub decoded_is : entry_of (page_bytes s p) u ≡ decoded files s p
  unfolding decoded
  decoded_is = rw e

  pub sealed_is : seal (decoded files s) (entry_of (page_bytes s p) u) ≡ sealed files s p
  unfolding sealed
  sealed_is = ap (seal (decoded files s)) decoded_is

-- ---- sealing makes and takes no opening and no blank page

pub opening_sealed : (r : ℕ → Entry) (e : Entry) → is_opening (seal r e) ≡ is_opening e
opening_sealed r blank = refl
opening_sealed r torn = refl
opening_sealed r bad = refl
opening_sealed r (opening k) = refl
opening_sealed r (image i) = by_test (λ (x : Entry). is_opening x ≡ false) (is_opening (r i.action)) (λ e. refl) (λ e. refl)
opening_sealed r (outcome a c) = by_test (λ (x : Entry). is_opening x ≡ false) (is_opening (r a)) (λ e. refl) (λ e. refl)

pub carried_sealed : (r : ℕ → Entry) (e : Entry) → is_carried (seal r e) ≡ is_carried e
carried_sealed r blank = refl
carried_sealed r torn = refl
carried_sealed r bad = refl
carried_sealed r (opening k) = refl
carried_sealed r (image i) = by_test (λ (x : Entry). is_carried x ≡ false) (is_opening (r i.action)) (λ e. refl) (λ e. refl)
carried_sealed r (outcome a c) = by_test (λ (x : Entry). is_carried x ≡ false) (is_opening (r a)) (λ e. refl) (λ e. refl)

pub blank_sealed : (r : ℕ → Entry) (b : List ℕ) (u : Unpacked) → is_blank (seal r (entry_of b u)) ≡ is_blank_page u
blank_sealed r b Refused = refl
blank_sealed r b Blank = refl
blank_sealed r b Torn = refl
blank_sealed r b (Opening p) = refl
blank_sealed r b (Image p) = by_test (λ (x : Entry). is_blank x ≡ false) (is_opening (r p.action)) (λ e. refl) (λ e. refl)
blank_sealed r b (Outcome p) = by_test (λ (x : Entry). is_blank x ≡ false) (is_opening (r p.action)) (λ e. refl) (λ e. refl)
blank_sealed r b Unfit = refl
