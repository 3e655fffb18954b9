-- What line 1 says of the lengths that are lent. Assumes nothing.
use Prim.Native.Nat.{ℕ, ◌*◌, ◌/◌, ◌%◌, ◌≤◌}
use mathlib.Core.Path.{◌≡◌}
use mathlib.Core.Bool.{true}
use native.Mathlib.Omega.{arith}
use lib.Dec.{eqb, leb}
use borrow.Author.Tests.{eqb-true, leb-true}
use Rattle.encoding.proofs.Logic.{and_true}
use Rattle.page.specs.Layout.{page_size, most_places, most_files}
use Rattle.recovery.specs.World.{sizes}
use Rattle.recovery.specs.Lent.{row_length, whole, sizes_right}

pub record Sizes (size fates numbers : ℕ) : Type 0 where
  pub whole_is : whole size numbers ≡ true
  pub sizes_are : sizes (size / page_size) fates (numbers / row_length) ≡ true
  pub bytes : page_size * (size / page_size) ≡ size
  pub fates_are : fates ≡ size / page_size
  pub some_pages : 1 ≤ size / page_size
  pub most_pages : size / page_size ≤ most_places
  pub numbers_are : row_length * (numbers / row_length) ≡ numbers
  pub some_files : 1 ≤ numbers / row_length
  pub most_files_lem : numbers / row_length ≤ most_files

pub sizes_right_lem : (size fates numbers : ℕ) → sizes_right size fates numbers ≡ true → Sizes size fates numbers
unfolding sizes_right
sizes_right_lem size fates numbers e =
    let a = and_true (whole size numbers) (sizes (size / page_size) fates (numbers / row_length)) e in
    let b = and_true (eqb (size % page_size) 0) (eqb (numbers % row_length) 0) a.0 in
    let c = and_true _ (leb (numbers / row_length) most_files) a.1 in
    let d = and_true _ (leb 1 (numbers / row_length)) c.0 in
    let g = and_true _ (eqb fates (size / page_size)) d.0 in
    let h = and_true (leb 1 (size / page_size)) (leb (size / page_size) most_places) g.0 in
    let x : size % page_size ≡ 0 = eqb-true (size % page_size) 0 b.0 in
    let y : numbers % row_length ≡ 0 = eqb-true (numbers % row_length) 0 b.1 in
    record {
      whole_is = a.0;
      sizes_are = a.1;
      bytes = omega arith;
      fates_are = eqb-true fates (size / page_size) g.1;
      some_pages = leb-true 1 (size / page_size) h.0;
      most_pages = leb-true (size / page_size) most_places h.1;
      numbers_are = omega arith;
      some_files = leb-true 1 (numbers / row_length) d.1;
      most_files_lem = leb-true (numbers / row_length) most_files c.1;
    }
