-- `opening::scan_pages`. The invariant, `Passed`: what is found and kept after n pages; the iterator has those after them. Assumes nothing.
use mathlib.Core.Path.{◌≡◌, refl, sym, ap, ◌∙◌}
use mathlib.Core.List.{List, ◌++◌}
use Prim.Native.Nat.{ℕ, suc, ◌+◌, ◌*◌, ◌<◌, ◌≤◌}
use lib.ListN.{length, take, drop}
use native.Mathlib.Omega.{arith}
use Rattle.std.proofs.lemmas.List.{take_at, drop_at, drop-drop, length-drop, length-append}
use Rattle.page.specs.Layout.{page_size}
use Rattle.page.specs.Answers.{tested}
use Rattle.recovery.specs.Sheet.{page_bytes}
use Rattle.recovery.proofs.OpeningFates.{bounded_at}
use Rattle.recovery.proofs.OpeningPass.{passed_none, passed_turn, passed_all}
use Rattle.opening.proofs.scan_pages.Goals as goal

-- the next part is the next page, and the pages after it are left
module _ (s part left : List ℕ) (n : ℕ) (e : drop (page_size * n) s ≡ part ++ left) (l : length part ≡ page_size) where
  on_sheet : page_size * n + page_size ≤ length s
  on_sheet = omega (arith, l, ap length e, length-drop (page_size * n) s, length-append part left)

  part_is : part ≡ page_bytes s (n + 1)
  part_is = let z : n + 1 ≡ suc n = omega arith in rw z (sym (ap (take page_size) e ∙ take_at part left page_size l))

  left_is : left ≡ drop (page_size * (n + 1)) s
  left_is =
      let z : page_size * n + page_size ≡ page_size * (n + 1) = omega arith in
      sym (drop_at part left page_size l) ∙ ap (drop page_size) (sym e) ∙ drop-drop page_size (page_size * n) s ∙ ap (λ k. drop k s) z

-- what comes at the count of an iterator that has the pages from it on
next_page : {rest part left : List ℕ} {size : ℕ} (s : List ℕ) (n : ℕ) → rest ≡ drop (page_size * n) s → size ≡ page_size → rest ≡ part ++ left → length part ≡ size
    → (part ≡ page_bytes s (n + 1)) × (left ≡ drop (page_size * (n + 1)) s) × (page_size * n + page_size ≤ length s)
next_page s n r z e l =
    let f = sym r ∙ e in
    let k = l ∙ z in
    (part_is s _ _ n f k, left_is s _ _ n f k, on_sheet s _ _ n f k)

-- none comes once the pages are passed
no_page_left : {rest : List ℕ} {size pages : ℕ} (s : List ℕ) (n : ℕ) → rest ≡ drop (page_size * n) s → size ≡ page_size → length rest < size
    → length s ≡ page_size * pages → n ≤ pages → n ≡ pages
no_page_left s n r z h k m = omega (arith, z, h, ap length r, length-drop (page_size * n) s)

pub loop-n-init : goal.loop-n-init
loop-n-init c =
    let a = c.args in
    let e = c.into_iter-n-iterator.ensures.into_iter_gives in
    let s = c.enumerate-n-items.ensures.source in
    let z = c.enumerate-n-items.ensures.count in
    rw (e, s, z) (record {
      long = refl;
      size = c.chunks_exact.ensures.size;
      rest = c.chunks_exact.ensures.rest;
      within = omega arith;
      passed = passed_none a.view.files (length a.kept.now) a.view.sheet.now a.kept.now c.requires.2;
    })

pub step-scan-requires : goal.step-scan-requires
step-scan-requires c =
    let a = c.args in
    let i = c.loop-n.invariant in
    let s = c.in-Some.ensures.steps in
    let m = s.1 in
    let p = next_page a.view.sheet.now _ i.rest i.size s.0.1.0 s.0.1.1 in
    (omega arith, omega (arith, m, p.2, i.long, c.requires.0), bounded_at a.view.sheet.now (c.in-Some.n + 1) a.view.files _ (c.test.ensures ∙ ap (λ b. tested b (c.in-Some.n + 1) a.view.files) (p.0 ∙ ap (λ n. page_bytes a.view.sheet.now (n + 1)) (sym m))))

pub loop-n-preserved : goal.loop-n-preserved
loop-n-preserved c =
    let a = c.args in
    let i = c.loop-n.invariant in
    let s = c.in-Some.ensures.steps in
    let p = next_page a.view.sheet.now _ i.rest i.size s.0.1.0 s.0.1.1 in
    rw s.2 (record {
      long = omega (arith, c.step-scan.auto, i.long);
      size = s.0.0 ∙ i.size;
      rest = p.1;
      within = omega (arith, p.2, c.requires.0);
      passed = passed_turn a.view.files (length a.kept.now) a.view.sheet.now _ c.loop-n.scan c.loop-n.kept i.passed (omega (arith, p.2, c.requires.0)) _ (rw s.1 at (c.test.ensures ∙ ap (λ b. tested b (c.in-Some.n + 1) a.view.files) p.0)) _ _ (rw s.1 at c.step-scan.ensures);
    })

pub returns : goal.returns
returns c =
    let a = c.args in
    let l = c.loop-n in
    let i = c.loop-n.invariant in
    let s = c.in-None.ensures.steps in
    passed_all a.view.files (length a.kept.now) a.view.sheet.now _ l.scan l.kept i.passed (no_page_left a.view.sheet.now _ i.rest i.size s.0.1.0 c.requires.0 i.within)
