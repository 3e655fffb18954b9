-- The pages of a sheet when the bytes of one page are replaced: where every page above is blank, that page alone is another.
use Prim.Native.Nat.{ℕ, zero, suc, ◌+◌, ◌-◌, ◌*◌, min, ◌≤◌, ◌<◌}
use mathlib.Core.Path.{◌≡◌, refl, sym, ap, ◌∙◌}
use mathlib.Core.List.{List, ◌++◌}
use mathlib.Core.Bool.{Bool, true, false, cond}
use native.Mathlib.Omega.{arith}
use lib.ListN.{length, get_or, take, drop, length-append, length-take, length-drop, get_or-append}
use lib.Seq.{drop_at, take_at, get_or-take, get_or-drop, ext_get_or, length-take-le, get_or-append-add}
use lib.Dec.{leb, ltb}
use borrow.Author.Tests.{ltb-true, ltb-false, leb-true, leb-false}
use Rattle.page.specs.declared.Unpacked.{Unpacked}
use Rattle.page.specs.declared.Unpacked.TheVariants.{Refused, Blank, Torn, Opening, Image as AnImage, Outcome, Unfit}
use Rattle.page.specs.Layout.{page_size}
use Rattle.page.specs.Answers.{tested}
use Rattle.page.proofs.Found.{image_is, outcome_is}
use Rattle.recovery.specs.Places.{nth, put}
use Rattle.recovery.specs.Log.{Image, Entry, blank, torn, bad, opening, image, outcome}
use Rattle.recovery.specs.Sheet.{page_bytes, entry_of, is_opening, decoded, seal, sealed, pages}
use Rattle.recovery.proofs.Places.{put_tabulate}
use Rattle.recovery.proofs.Pages.{page_at_place}
use Rattle.calls.specs.Leaves.{with_page}

-- ---- the bytes

module _ (s : List ℕ) (n q : ℕ) (x : List ℕ) (long : length s ≡ page_size * n) (h : q < n) (k : length x ≡ page_size) where
  front : length (take (page_size * q) s) ≡ page_size * q
  front = length-take-le (page_size * q) s (omega arith)

  pub replaced_long : length (with_page s q x) ≡ page_size * n
  unfolding with_page
  replaced_long = simp (length-append, length-drop) (omega (arith, front))

  pub replaced_here : page_bytes (with_page s q x) (suc q) ≡ x
  unfolding with_page
  replaced_here = rw (drop_at (take (page_size * q) s) (x ++ drop (page_size * q + page_size) s) (page_size * q) front, take_at x (drop (page_size * q + page_size) s) page_size k)

  byte_other : (i : ℕ) → (page_size * q ≤ i → i < page_size * q + page_size → ⊥) → get_or (with_page s q x) i 0 ≡ get_or s i 0
  unfolding with_page
  byte_other i u = go (ltb i (page_size * q)) refl (ltb i (page_size * q + page_size)) refl
    where
      below : List ℕ
      below = take (page_size * q) s

      above : List ℕ
      above = drop (page_size * q + page_size) s

      go : (b : Bool) → ltb i (page_size * q) ≡ b → (c : Bool) → ltb i (page_size * q + page_size) ≡ c → get_or (below ++ (x ++ above)) i 0 ≡ get_or s i 0
      go true e c f = get_or-append below (x ++ above) 0 i (omega (arith, front, ltb-true i (page_size * q) e)) ∙ get_or-take (page_size * q) s i 0 (ltb-true i (page_size * q) e)
      go false e true f = absurd (u (ltb-false i (page_size * q) e) (ltb-true i (page_size * q + page_size) f))
      go false e false f =
          let c : page_size * q + page_size ≤ i = ltb-false i (page_size * q + page_size) f in
          let j : i ≡ length below + (length x + (i - (page_size * q + page_size))) = omega (arith, front) in
          let y : (page_size * q + page_size) + (i - (page_size * q + page_size)) ≡ i = omega arith in
          ap (λ i. get_or (below ++ (x ++ above)) i 0) j ∙ get_or-append-add below (x ++ above) (length x + (i - (page_size * q + page_size))) 0
          ∙ get_or-append-add x above (i - (page_size * q + page_size)) 0 ∙ get_or-drop (page_size * q + page_size) s (i - (page_size * q + page_size)) 0 ∙ ap (λ i. get_or s i 0) y

  pub replaced_other : (p : ℕ) → (p ≡ suc q → ⊥) → page_bytes (with_page s q x) p ≡ page_bytes s p
  replaced_other zero e = refl
  replaced_other (suc r) e = ext_get_or 0 (page_bytes (with_page s q x) (suc r)) (page_bytes s (suc r)) (rw (size (with_page s q x) replaced_long, size s long)) (λ i u.
      let v : i < page_size = omega (arith, u, size (with_page s q x) replaced_long) in
      look (with_page s q x) i v ∙ byte_other (page_size * r + i) (λ a b. omega arith) ∙ sym (look s i v))
    where
      size : (t : List ℕ) → length t ≡ page_size * n → length (page_bytes t (suc r)) ≡ min page_size (page_size * n - page_size * r)
      size t l = rw (length-take, length-drop, l)

      look : (t : List ℕ) (i : ℕ) → i < page_size → get_or (page_bytes t (suc r)) i 0 ≡ get_or t (page_size * r + i) 0
      look t i v = get_or-take page_size (drop (page_size * r) t) i 0 v ∙ get_or-drop (page_size * r) t i 0

-- ---- sealing

-- a sealed page is what the page test found
module _ (r : ℕ → Entry) where
  kept_by : (g : Entry) (b : Bool) (h : Entry) → (bad ≡ h → ⊥) → cond b g bad ≡ h → g ≡ h
  kept_by g true h n e = e
  kept_by g false h n e = absurd (n e)

  pub unsealed : (g h : Entry) → (bad ≡ h → ⊥) → seal r g ≡ h → g ≡ h
  unsealed blank h n e = e
  unsealed torn h n e = e
  unsealed bad h n e = e
  unsealed (opening k) h n e = e
  unsealed (image i) h n e = kept_by (image i) (is_opening (r i.action)) h n e
  unsealed (outcome a c) h n e = kept_by (outcome a c) (is_opening (r a)) h n e

pub bad_blank : bad ≡ blank → ⊥
bad_blank e = let z : ◌≡◌ {A = ℕ} 0 1 = cc in omega arith

pub bad_image : (i : Image) → bad ≡ image i → ⊥
bad_image i e = let z : ◌≡◌ {A = ℕ} 0 1 = cc in omega arith

-- ---- what the page test found lies below

module _ (files : ℕ) (s : List ℕ) (p : ℕ) where
  abbrev pub Below : Entry → Type 0
  Below blank = Unit {0}
  Below torn = Unit {0}
  Below bad = Unit {0}
  Below (opening k) = Unit {0}
  Below (image i) = (i.action < p) × (1 ≤ i.action) × (1 ≤ i.file) × (i.file ≤ files)
  Below (outcome a c) = a < p

  pub lies_below : Below (decoded files s p)
  unfolding decoded
  lies_below = go (tested (page_bytes s p) p files) refl
    where
      go : (u : Unpacked) → u ≡ tested (page_bytes s p) p files → Below (entry_of (page_bytes s p) u)
      go Refused e = tt
      go Blank e = tt
      go Torn e = tt
      go (Opening x) e = tt
      go (AnImage x) e = let h = image_is (page_bytes s p) p files x e in (h.action.1, h.action.0, h.file.0, h.file.1)
      go (Outcome x) e = (outcome_is (page_bytes s p) p files x e).action.1
      go Unfit e = tt

-- ---- the pages

module _ (files n : ℕ) (s : List ℕ) (e : ℕ) (x : List ℕ) (long : length s ≡ page_size * n) (k : e < n) (l : length x ≡ page_size)
    (clean : (p : ℕ) → e < p → p ≤ n → nth blank (pages files n s) p ≡ blank) where
  pub decoded_other : (p : ℕ) → (p ≡ suc e → ⊥) → decoded files (with_page s e x) p ≡ decoded files s p
  unfolding decoded
  decoded_other p q = ap (λ b. entry_of b (tested b p files)) (replaced_other s n e x long k l p q)

  decoded_here : decoded files (with_page s e x) (suc e) ≡ entry_of x (tested x (suc e) files)
  unfolding decoded
  decoded_here = ap (λ b. entry_of b (tested b (suc e) files)) (replaced_here s n e x long k l)

  sealed_low : (p : ℕ) → p ≤ e → (g : Entry) → Below files s p g → seal (decoded files (with_page s e x)) g ≡ seal (decoded files s) g
  sealed_low p h blank q = refl
  sealed_low p h torn q = refl
  sealed_low p h bad q = refl
  sealed_low p h (opening k) q = refl
  sealed_low p h (image i) q = rw (decoded_other i.action (λ j. omega (arith, q.0)))
  sealed_low p h (outcome a c) q = rw (decoded_other a (λ j. omega arith))

  pub sealed_other : (p : ℕ) → 1 ≤ p → p ≤ n → (p ≡ suc e → ⊥) → sealed files (with_page s e x) p ≡ sealed files s p
  unfolding sealed
  sealed_other p h j q = rw (decoded_other p q) (go (leb p e) refl)
    where
      go : (b : Bool) → leb p e ≡ b → seal (decoded files (with_page s e x)) (decoded files s p) ≡ seal (decoded files s) (decoded files s p)
      go true u = sealed_low p (leb-true p e u) (decoded files s p) (lies_below files s p)
      go false u =
          let z : decoded files s p ≡ blank = unsealed (decoded files s) (decoded files s p) blank bad_blank (sym (page_at_place files n s p h j) ∙ clean p (leb-false p e u) j) in
          rw z

  pub pages_replaced : (g : Entry) → seal (decoded files (with_page s e x)) (entry_of x (tested x (suc e) files)) ≡ g → pages files n (with_page s e x) ≡ put (pages files n s) (suc e) g
  unfolding pages sealed
  pages_replaced g q = sym (put_tabulate (sealed files s) (sealed files (with_page s e x)) n (suc e) g (omega arith) (rw decoded_here q) sealed_other)
