-- A blank sheet: its bytes are zeros exactly if no page of it is used.
use Prim.Native.Nat.{ℕ, zero, suc, ◌-◌, ◌*◌, ◌/◌, ◌%◌, ◌+◌, ◌≤◌, ◌<◌}
use mathlib.Core.Path.{◌≡◌, refl, sym, ap, ◌∙◌}
use mathlib.Core.List.{List, ◌∷◌}
use mathlib.Core.Bool.{Bool, true, false}
use native.Mathlib.Omega.{arith}
use lib.ListN.{length, take, drop, get_or, replicate, length-replicate, get_or-eq_default}
use lib.Seq.{ext_get_or, get_or-take, get_or-drop}
use lib.Dec.{leb}
use borrow.Author.Tests.{leb-true, leb-false, eq-eqb, eqb-true}
use Rattle.encoding.specs.Bytes.{zeros}
use Rattle.encoding.proofs.Logic.{bool_ext}
use Rattle.encoding.proofs.Numbers.{zeros_are}
use Rattle.page.specs.declared.Unpacked.TheVariants.{Blank}
use Rattle.page.specs.Layout.{page_size}
use Rattle.page.specs.Answers.{tested}
use Rattle.page.proofs.Rules.{are_in_bounds}
use Rattle.recovery.specs.Places.{nth}
use Rattle.recovery.specs.Log.{blank}
use Rattle.recovery.specs.Sheet.{page_bytes, entry_of, decoded, seal, sealed, pages}
use Rattle.recovery.specs.World.{end_of}
use Rattle.recovery.specs.Lent.{pages_of}
use Rattle.recovery.proofs.Pages.{page_at_place, pages_long}
use Rattle.moving.specs.Moved.{is_unused}
use Rattle.moving.proofs.Went.{none_used}
use Rattle.moving.proofs.FreshOpened.{end_at}
use Rattle.moving.proofs.FreshBytes.{zero_page}
use Rattle.promises.proofs.bytes.ByteCalls.{drop_zeros}
use Rattle.promises.proofs.boxes.Boxes.{Bounds}

take_zeros : (i n : ℕ) → i ≤ n → take {A = ℕ} i (replicate n 0) ≡ replicate i 0
take_zeros zero n h = refl
take_zeros (suc i) zero h = absurd (omega arith)
take_zeros (suc i) (suc n) h = ap (λ l. 0 ∷ l) (take_zeros i n (omega arith))

zeros_all : (n : ℕ) → zeros (replicate n 0) ≡ true
zeros_all zero = refl
zeros_all (suc n) = zeros_all n

get_d_zeros : (n i : ℕ) → get_or (replicate {A = ℕ} n 0) i 0 ≡ 0
get_d_zeros zero i = refl
get_d_zeros (suc n) zero = refl
get_d_zeros (suc n) (suc i) = get_d_zeros n i

module _ (n files : ℕ) (zs : Bounds n files) where
  page_of_zeros : (q : ℕ) → q < n → page_bytes (replicate (page_size * n) 0) (suc q) ≡ replicate page_size 0
  page_of_zeros q h = ap (take page_size) (drop_zeros (page_size * q) (page_size * n)) ∙ take_zeros page_size (page_size * n - page_size * q) (omega arith)

  zero_test : (q : ℕ) → q < n → tested (replicate page_size 0) (suc q) files ≡ Blank
  unfolding tested
  zero_test q h = simp (are_in_bounds {size = page_size} {place = suc q} {files = files} (record { size_is = refl; place_is = (omega arith, omega (arith, zs.most_pages)); files_are = (zs.some_files, zs.most_files_lem) }))

  zero_decoded : (q : ℕ) → q < n → decoded files (replicate (page_size * n) 0) (suc q) ≡ blank
  unfolding decoded
  zero_decoded q h = ap (λ b. entry_of b (tested b (suc q) files)) (page_of_zeros q h) ∙ ap (entry_of (replicate page_size 0)) (zero_test q h)

  pub zero_clean : (p : ℕ) → 0 < p → nth blank (pages files n (replicate (page_size * n) 0)) p ≡ blank
  unfolding sealed
  zero_clean p h = go p h (leb p n) refl
    where
      go : (p : ℕ) → 0 < p → (b : Bool) → leb p n ≡ b → nth blank (pages files n (replicate (page_size * n) 0)) p ≡ blank
      go zero h b e = refl
      go (suc q) h true e =
          let k : q < n = leb-true (suc q) n e in
          page_at_place files n (replicate (page_size * n) 0) (suc q) (omega arith) k ∙ ap (seal (decoded files (replicate (page_size * n) 0))) (zero_decoded q k)
      go (suc q) h false e =
          get_or-eq_default (pages files n (replicate (page_size * n) 0)) blank (omega (arith, pages_long files n (replicate (page_size * n) 0), leb-false (suc q) n e))

  module _ (s : List ℕ) (long : length s ≡ page_size * n) where
    count : length s / page_size ≡ n
    count = omega arith

    unused_zeros : end_of (pages_of s files) (length (pages_of s files)) ≡ 0 → zeros s ≡ true
    unused_zeros e = ap zeros (ext_get_or 0 s (replicate (length s) 0) (sym (length-replicate (length s) 0)) byte) ∙ zeros_all (length s)
      where
        byte : (i : ℕ) → i < length s → get_or s i 0 ≡ get_or (replicate (length s) 0) i 0
        byte i h =
            let q : ℕ = i / page_size in
            let k : q < length s / page_size = omega (arith, count) in
            let here : page_bytes s (suc q) ≡ replicate page_size 0 = zero_page s files q k (none_used (pages_of s files) (length (pages_of s files)) e q (omega (arith, pages_long files (length s / page_size) s))) in
            let at : page_size * q + i % page_size ≡ i = omega arith in
            let low : i % page_size < page_size = omega arith in
            ap (λ (j : ℕ). get_or s j 0) (sym at) ∙ sym (get_or-drop (page_size * q) s (i % page_size) 0) ∙ sym (get_or-take page_size (drop (page_size * q) s) (i % page_size) 0 low)
            ∙ ap (λ (t : List ℕ). get_or t (i % page_size) 0) here ∙ get_d_zeros page_size (i % page_size) ∙ sym (get_d_zeros (length s) i)

    zeros_unused : zeros s ≡ true → end_of (pages_of s files) (length (pages_of s files)) ≡ 0
    zeros_unused z =
        let e : s ≡ replicate (page_size * n) 0 = zeros_are s z ∙ ap (λ (k : ℕ). replicate k 0) long in
        end_at (pages_of s files) (length (pages_of s files)) 0 (omega arith) (λ h. absurd (omega arith))
        (λ p h. ap (λ (k : ℕ). nth blank (pages files k s) p) count ∙ ap (λ (t : List ℕ). nth blank (pages files n t) p) e ∙ zero_clean p h)

    pub unused_is : is_unused (pages_of s files) ≡ zeros s
    unused_is = bool_ext (is_unused (pages_of s files)) (zeros s) (λ q. unused_zeros (eqb-true (end_of (pages_of s files) (length (pages_of s files))) 0 q)) (λ q. eq-eqb (end_of (pages_of s files) (length (pages_of s files))) 0 (zeros_unused q))
