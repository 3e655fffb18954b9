-- A blank sheet of any lawful number of pages is opened with end 0 and open count 0. Shuts out a store that refuses always. Assumes
-- nothing.
use Prim.Native.Nat.{ℕ, zero, suc, ◌*◌, ◌-◌, ◌/◌, ◌%◌, ◌≤◌, ◌<◌}
use mathlib.Core.Path.{◌≡◌, refl, ap, ◌∙◌}
use mathlib.Core.List.{List, [], ◌∷◌}
use mathlib.Core.Bool.{true, false}
use native.Mathlib.Omega.{arith}
use lib.ListN.{length, take, drop, replicate, length-replicate}
use borrow.Author.Tests.{le-leb, eq-eqb}
use Rattle.encoding.proofs.Logic.{and_false}
use Rattle.page.specs.declared.Unpacked.TheVariants.{Blank}
use Rattle.page.specs.Layout.{page_size, most_places, most_files}
use Rattle.page.specs.Answers.{in_bounds, tested}
use Rattle.page.proofs.Rules.{are_in_bounds}
use Rattle.recovery.specs.Places.{tabulate, nth}
use Rattle.recovery.specs.Log.{blank, fate_of, Entry}
use Rattle.recovery.specs.Sheet.{page_bytes, decoded, sealed, pages}
use Rattle.recovery.specs.World.{down, end_of, highest_bad, undecided_of, fate_number, opened, is_carried, unfinished}
use Rattle.recovery.specs.declared.Row.{Row}
use Rattle.recovery.specs.declared.Answer.TheVariants.{Opened}
use Rattle.recovery.specs.Lent.{row_length, rows_of, open_leaves}
use Rattle.recovery.proofs.Pages.{pages_long, page_here}
use Rattle.recovery.proofs.FlatRows.{rows_long}

drop_zeros : (i n : ℕ) → drop {A = ℕ} i (replicate n 0) ≡ replicate (n - i) 0
drop_zeros zero n = let z : n - 0 ≡ n = omega arith in rw z
drop_zeros (suc i) zero = let z : 0 - suc i ≡ 0 = omega arith in rw z
drop_zeros (suc i) (suc n) = let z : suc n - suc i ≡ n - i = omega arith in rw z (drop_zeros i n)

take_zeros : (i n : ℕ) → i ≤ n → take {A = ℕ} i (replicate n 0) ≡ replicate i 0
take_zeros zero n h = refl
take_zeros (suc i) zero h = absurd (omega arith)
take_zeros (suc i) (suc n) h = ap (λ (l : List ℕ). 0 ∷ l) (take_zeros i n (omega arith))

-- no place has a fate in an empty log
none_undecided : (i n : ℕ) → undecided_of (tabulate (λ a. fate_number (fate_of [] a)) i n) ≡ 0
unfolding undecided_of tabulate fate_of
none_undecided i zero = refl
none_undecided i (suc n) = let z = none_undecided (suc i) n in omega arith

module _ (files n : ℕ) (some : 1 ≤ n) (most : n ≤ most_places) (one : 1 ≤ files) (few : files ≤ most_files) where
  abbrev s : List ℕ
  s = replicate (page_size * n) 0

  page_zero : (p : ℕ) → p < n → page_bytes s (suc p) ≡ replicate page_size 0
  page_zero p h = ap (take page_size) (drop_zeros (page_size * p) (page_size * n)) ∙ take_zeros page_size (page_size * n - page_size * p) (omega arith)

  page_blank : (p : ℕ) → p < n → tested (page_bytes s (suc p)) (suc p) files ≡ Blank
  unfolding tested
  page_blank p h =
      let long : length (replicate {A = ℕ} page_size 0) ≡ page_size = length-replicate {A = ℕ} page_size 0 in
      let q : in_bounds (length (replicate {A = ℕ} page_size 0)) (suc p) files ≡ true =
      are_in_bounds (record { size_is = long; place_is = (omega arith, omega arith); files_are = (one, few) }) in
      ap (λ l. tested l (suc p) files) (page_zero p h) ∙ rw q

  sealed_blank : (p : ℕ) → p < n → sealed files s (suc p) ≡ blank
  unfolding sealed decoded
  sealed_blank p h = rw (page_blank p h)

  end_zero : (m : ℕ) → m ≤ n → end_of (pages files n s) m ≡ 0
  unfolding end_of
  end_zero zero h = refl
  end_zero (suc p) h = rw (page_here files n s p (omega arith) ∙ sealed_blank p (omega arith)) (end_zero p (omega arith))

  -- no move was begun
  not_begun : (P : List Entry) → unfinished P 0 ≡ false
  unfolding unfinished down fate_of
  not_begun P = and_false (is_carried (nth blank P 1)) false refl

  opened_pages : (fates : List ℕ) (rows : List Row) (floor : ℕ) → length fates ≡ n → length rows ≡ files → (opened (pages files n s) fates rows floor).0 ≡ Opened 0 0
  unfolding opened down highest_bad
  opened_pages fates rows floor f r =
      simp (pages_long files n s, f, r, le-leb 1 n some, le-leb n most_places most, eq-eqb n n refl, le-leb 1 files one, le-leb files most_files few, end_zero n (omega arith), none_undecided 0 n, not_begun (pages files n s))

  pub opened_blank : (fates rows : List ℕ) (floor : ℕ) → length fates ≡ n → length rows ≡ row_length * files → (open_leaves s fates rows floor).answer ≡ Opened 0 0
  unfolding open_leaves
  opened_blank fates rows floor f r =
      let long : length s ≡ page_size * n = length-replicate {A = ℕ} (page_size * n) 0 in
      let bytes : length s % page_size ≡ 0 = omega arith in
      let numbers : length rows % row_length ≡ 0 = omega arith in
      let count : length s / page_size ≡ n = omega arith in
      let many : length rows / row_length ≡ files = omega arith in
      rw (eq-eqb (length s % page_size) 0 bytes, eq-eqb (length rows % row_length) 0 numbers, count, many) (opened_pages fates (rows_of rows) floor f (rows_long rows ∙ many))
