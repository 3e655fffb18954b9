-- A page of a `&mut` sheet that was lent to pack and has come back, and the blank test above the end. Assumes nothing.
use Prim.Native.Nat.{ℕ, suc, ◌*◌, ◌+◌, ◌-◌, ◌/◌, ◌≤◌}
use mathlib.Core.Path.{◌≡◌, refl, sym, ap, ◌∙◌}
use mathlib.Core.Bool.{Bool, true, false}
use mathlib.Core.List.{List, ◌++◌}
use native.Mathlib.Omega.{arith}
use native.Mathlib.Numerals.{add-one}
use lib.ListN.{length, take, drop, length-take, length-drop, take-append-drop}
use lib.Seq.{drop-drop}
use borrow.Author.Tests.{le-leb, lt-leb}
use borrow.Rule.Slice.PartMut.{put_mid, Post-is}
use Rattle.page.specs.declared.Page.{Page}
use Rattle.page.specs.declared.PackError.{PackError}
use Rattle.std.specs.Prelude.{Result}
use Rattle.page.specs.Layout.{page_size}
use Rattle.page.specs.Table.{packed, meets_rules}
use Rattle.page.specs.Answers.{in_bounds, tested, is_blank_page, packs}
use Rattle.recovery.specs.Sheet.{page_bytes, decoded, sealed}
use Rattle.recovery.specs.World.{is_blank}
use Rattle.recovery.proofs.Pages.{sealed_is, blank_sealed}
use Rattle.calls.specs.Leaves.{with_page, appended}

pub put_page : (s : List ℕ) (q : ℕ) (new : List ℕ) → put_mid (page_size * q) (page_size * q + page_size - page_size * q) s new ≡ with_page s q new
unfolding with_page
put_page s q new = ap (λ (z : List ℕ). take (page_size * q) s ++ (new ++ z)) (Post-is (page_size * q) (page_size * q + page_size) s (omega arith))

part_long : (s : List ℕ) (q : ℕ) → page_size * q + page_size ≤ length s → length (take (page_size * q + page_size - page_size * q) (drop (page_size * q) s)) ≡ page_size
part_long s q h = simp (length-take, length-drop) (omega arith)

-- the part, put back as it was
part_back : (s : List ℕ) (q : ℕ) → with_page s q (take (page_size * q + page_size - page_size * q) (drop (page_size * q) s)) ≡ s
unfolding with_page
part_back s q =
    let n : page_size * q + page_size - page_size * q ≡ page_size = omega arith in
    let z : drop (page_size * q + page_size) s ≡ drop page_size (drop (page_size * q) s) = sym (drop-drop page_size (page_size * q) s) in
    rw (n, z, take-append-drop) (take-append-drop (page_size * q) s)

module _ (s : List ℕ) (p : Page) (v : List ℕ) (q files : ℕ) where
  abbrev bounds : Bool
  bounds = in_bounds page_size (suc q) files

  abbrev rules : Bool
  rules = meets_rules p v (suc q) files

  abbrev part : List ℕ
  part = take (page_size * q + page_size - page_size * q) (drop (page_size * q) s)

  -- what pack leaves of the part
  pub pack_left : (r : Result (Unit {0}) PackError) (after left : List ℕ) → page_size * q + page_size ≤ length s → ◌≡◌ {A = Result (Unit {0}) PackError × List ℕ} (r, after) (packs p v (q + 1) files part)
      → left ≡ put_mid (page_size * q) (page_size * q + page_size - page_size * q) s after → left ≡ appended s q files p v
  unfolding appended packs
  pack_left r after left l h e = e ∙ put_page s q after ∙ go bounds refl rules refl
    where
      had : length part ≡ page_size
      had = part_long s q l

      go : (b : Bool) → bounds ≡ b → (m : Bool) → rules ≡ m → with_page s q after ≡ appended s q files p v
      go true x true y =
          let z : after ≡ packed p v (suc q) = ap (λ (t : Result (Unit {0}) PackError × List ℕ). t.1) (simp (add-one q, had, x, y) at h) in
          rw (z, le-leb (page_size * q + page_size) (length s) l, x, y)
      go true x false y =
          let z : after ≡ part = ap (λ (t : Result (Unit {0}) PackError × List ℕ). t.1) (simp (add-one q, had, x, y) at h) in
          rw (z, le-leb (page_size * q + page_size) (length s) l, x, y) (part_back s q)
      go false x m y =
          let z : after ≡ part = ap (λ (t : Result (Unit {0}) PackError × List ℕ). t.1) (simp (add-one q, had, x) at h) in
          rw (z, le-leb (page_size * q + page_size) (length s) l, x) (part_back s q)

  -- no room
  pub none_left : length s / page_size ≤ q → s ≡ appended s q files p v
  unfolding appended
  none_left l = rw (lt-leb (page_size * q + page_size) (length s) (omega arith))

  -- a page that obeys the rules, where there is room
  pub appended_is : (page_size * q + page_size ≤ length s) × (in_bounds page_size (suc q) files ≡ true) × (meets_rules p v (suc q) files ≡ true)
      → appended s q files p v ≡ with_page s q (packed p v (suc q))
  unfolding appended
  appended_is h = rw (le-leb (page_size * q + page_size) (length s) h.0, h.1, h.2)

-- ---- blank pages

pub blank_is : (s : List ℕ) (p files : ℕ) → is_blank_page (tested (page_bytes s p) p files) ≡ is_blank (sealed files s p)
blank_is s p files = sym (blank_sealed (decoded files s) (page_bytes s p) (tested (page_bytes s p) p files)) ∙ ap is_blank (sealed_is s p files _ refl)
