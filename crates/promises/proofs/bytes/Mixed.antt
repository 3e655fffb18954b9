-- A page of which any bytes are stored, as long as byte 0 is if any is and byte 63 only if all are: at a blank place the page test
-- calls it blank, torn, or the page that was being stored. Shuts out a store that takes such a page for damage, or for a page.
-- Assumes nothing.
use Prim.Native.Nat.{ℕ, zero, suc, ◌≤◌, ◌<◌}
use mathlib.Core.Path.{◌≡◌, refl, sym, ap, ◌∙◌}
use mathlib.Core.List.{List, [], ◌∷◌}
use mathlib.Core.Bool.{Bool, true, false, cond, false≢true}
use native.Mathlib.Omega.{arith}
use lib.ListN.{length, get_or, take, replicate, length-take, length-replicate, get_or-append}
use lib.Seq.{ext_get_or, get_or-take}
use borrow.Author.Tests.{ltb-true, lt-ltb}
use Rattle.encoding.proofs.Logic.{and_true, is_false}
use Rattle.encoding.proofs.Numbers.{not_zeros}
use Rattle.page.specs.declared.Page.{Page}
use Rattle.page.specs.declared.Unpacked.TheVariants.{Blank, Torn}
use Rattle.page.specs.Layout.{page_size, value_size, kind_at, mark_at}
use Rattle.page.specs.Table.{packed, meets_rules, torn}
use Rattle.page.specs.Answers.{tested, by_kind, cut}
use Rattle.page.proofs.Rules.{within_true, within_both, InBounds, are_in_bounds}
use Rattle.page.proofs.Found.{found}
use Rattle.page.proofs.RoundTrip.{length_packed, cut_tested, cut_whole}
use Rattle.calls.specs.Cuts.{mixed, first_bytes}
use Rattle.promises.specs.Runs.{Ordered}

-- ---- bytes mixed

pub mixed_long : (kept : ℕ → Bool) (new old : List ℕ) → length old ≡ length new → length (mixed kept new old) ≡ length new
unfolding mixed
mixed_long kept [] old h = refl
mixed_long kept (x ∷ new) [] h = absurd (omega arith)
mixed_long kept (x ∷ new) (y ∷ old) h = ap suc (mixed_long (λ i. kept (suc i)) new old (omega arith))

pub mixed_at : (kept : ℕ → Bool) (new old : List ℕ) → length old ≡ length new → (i : ℕ) → get_or (mixed kept new old) i 0 ≡ cond (kept i) (get_or new i 0) (get_or old i 0)
unfolding mixed
mixed_at kept [] [] h i = same (kept i)
  where
    same : (b : Bool) → ◌≡◌ {A = ℕ} 0 (cond b 0 0)
    same true = refl
    same false = refl
mixed_at kept [] (y ∷ old) h i = absurd (omega arith)
mixed_at kept (x ∷ new) [] h i = absurd (omega arith)
mixed_at kept (x ∷ new) (y ∷ old) h zero = refl
mixed_at kept (x ∷ new) (y ∷ old) h (suc i) = mixed_at (λ i. kept (suc i)) new old (omega arith) i

module _ (kept : ℕ → Bool) (new old : List ℕ) (h : length old ≡ length new) where
  pub mixed_none : ((i : ℕ) → i < length new → kept i ≡ false) → mixed kept new old ≡ old
  mixed_none k = ext_get_or 0 (mixed kept new old) old (mixed_long kept new old h ∙ sym h)
      (λ i u. mixed_at kept new old h i ∙ rw (k i (omega (arith, mixed_long kept new old h))))

  pub mixed_all : ((i : ℕ) → i < length new → kept i ≡ true) → mixed kept new old ≡ new
  mixed_all k = ext_get_or 0 (mixed kept new old) new (mixed_long kept new old h)
      (λ i u. mixed_at kept new old h i ∙ rw (k i (omega (arith, mixed_long kept new old h))))

pub mixed_same : (kept : ℕ → Bool) (s : List ℕ) → mixed kept s s ≡ s
unfolding mixed
mixed_same kept [] = refl
mixed_same kept (x ∷ s) = go (kept 0) (mixed_same (λ i. kept (suc i)) s)
  where
    go : (b : Bool) → mixed (λ i. kept (suc i)) s s ≡ s → cond b x x ∷ mixed (λ i. kept (suc i)) s s ≡ x ∷ s
    go true e = ap (λ l. x ∷ l) e
    go false e = ap (λ l. x ∷ l) e

-- no byte, if byte 0 is not
pub none_kept : (kept : ℕ → Bool) → Ordered kept → kept kind_at ≡ false → (i : ℕ) → i < page_size → kept i ≡ false
none_kept kept o e i h = is_false (kept i) (λ q. false≢true (sym e ∙ o.first i h q))

-- a page stored first to last is stored so
pub first_ordered : (n : ℕ) → Ordered (first_bytes n)
first_ordered n = record {
  first = λ i h e. lt-ltb kind_at n (omega (arith, ltb-true i n e));
  last = λ e i h. lt-ltb i n (omega (arith, ltb-true mark_at n e));
}

-- ---- the page test

get_d_zeros : (n i : ℕ) → get_or {A = ℕ} (replicate n 0) i 0 ≡ 0
get_d_zeros zero i = refl
get_d_zeros (suc n) zero = refl
get_d_zeros (suc n) (suc i) = get_d_zeros n i

module _ (p : Page) (value : List ℕ) (place files : ℕ) (l : length value ≡ value_size) (q : InBounds page_size place files) (h : meets_rules p value place files ≡ true) where
  abbrev page : List ℕ
  page = packed p value place

  long : length page ≡ page_size
  long = length_packed p value place l

  blank_long : length (replicate {A = ℕ} page_size 0) ≡ length page
  blank_long = length-replicate {A = ℕ} page_size 0 ∙ sym long

  -- its first byte is a kind, since it is torn when that is stored alone
  first_byte : (1 ≤ get_or page kind_at 0) × (get_or page kind_at 0 ≤ 3)
  unfolding torn
  first_byte =
      let t = found (cut 1 page) place files Torn (sym (cut_tested p value place files l q h 1 (omega arith))) in
      let same : get_or (cut 1 page) kind_at 0 ≡ get_or page kind_at 0 =
      get_or-append (take 1 page) _ 0 kind_at (omega (arith, length-take 1 page, long)) ∙ get_or-take 1 page kind_at 0 (omega arith) in
      let w = within_true (get_or (cut 1 page) kind_at 0) 1 3 (and_true _ _ t.2).0 in
      (omega arith, omega arith)

  zero_tested : tested (replicate page_size 0) place files ≡ Blank
  zero_tested = rw long at (cut_tested p value place files l q h 0 (omega arith))

  whole_tested : tested page place files ≡ by_kind p
  whole_tested = rw (cut_whole page_size page (sym long)) at (cut_tested p value place files l q h page_size (omega arith))

  -- some bytes, the first but not the last
  part_tested : (kept : ℕ → Bool) → kept kind_at ≡ true → kept mark_at ≡ false → tested (mixed kept page (replicate page_size 0)) place files ≡ Torn
  unfolding tested torn
  part_tested kept a b =
      let s : List ℕ = mixed kept page (replicate page_size 0) in
      let n : length s ≡ page_size = mixed_long kept page (replicate page_size 0) blank_long ∙ long in
      let first : get_or s kind_at 0 ≡ get_or page kind_at 0 = mixed_at kept page (replicate page_size 0) blank_long kind_at ∙ rw a in
      let last : get_or s mark_at 0 ≡ 0 = mixed_at kept page (replicate page_size 0) blank_long mark_at ∙ rw b (get_d_zeros page_size mark_at) in
      simp (n, are_in_bounds q, not_zeros s kind_at (λ e. omega (arith, first_byte)), first, last, within_both (get_or page kind_at 0) 1 3 first_byte.0 first_byte.1)

  pub any_cut_tested : (kept : ℕ → Bool) → Ordered kept → tested (mixed kept page (replicate page_size 0)) place files ≡ cond (kept kind_at) (cond (kept mark_at) (by_kind p) Torn) Blank
  any_cut_tested kept o = go (kept kind_at) (kept mark_at) refl refl
    where
      go : (a b : Bool) → kept kind_at ≡ a → kept mark_at ≡ b → tested (mixed kept page (replicate page_size 0)) place files ≡ cond a (cond b (by_kind p) Torn) Blank
      go false b e f = ap (λ s. tested s place files) (mixed_none kept page (replicate page_size 0) blank_long (λ i k. none_kept kept o e i (omega (arith, long)))) ∙ zero_tested
      go true true e f = ap (λ s. tested s place files) (mixed_all kept page (replicate page_size 0) blank_long (λ i k. o.last f i (omega (arith, long)))) ∙ whole_tested
      go true false e f = part_tested kept e f
