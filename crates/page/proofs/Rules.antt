-- What the rules of a page say once they are met. Assumes nothing.
use Prim.Native.Nat.{ℕ, ◌≤◌}
use mathlib.Core.Path.{◌≡◌}
use mathlib.Core.Bool.{Bool, true}
use borrow.Author.Tests.{eqb-true, leb-true, le-leb}
use Rattle.encoding.proofs.Logic.{and_true, and_both, passed}
use Rattle.page.specs.declared.Page.{Page}
use Rattle.page.specs.Layout.{page_size, most_places, most_files}
use Rattle.page.specs.Table.{within, between}
use Rattle.page.specs.Answers.{in_bounds}

pub within_true : (x low high : ℕ) → within x low high ≡ true → (low ≤ x) × (x ≤ high)
unfolding within
within_true x low high e =
    let h = and_true _ _ e in
    (leb-true low x h.0, leb-true x high h.1)

pub within_both : (x low high : ℕ) → low ≤ x → x ≤ high → within x low high ≡ true
unfolding within
within_both x low high h k = simp (le-leb low x h, le-leb x high k)

pub record Between (p low high : Page) : Type 0 where
  pub kind : (low.kind ≤ p.kind) × (p.kind ≤ high.kind)
  pub small : (low.small ≤ p.small) × (p.small ≤ high.small)
  pub file : (low.file ≤ p.file) × (p.file ≤ high.file)
  pub action : (low.action ≤ p.action) × (p.action ≤ high.action)
  pub link : (low.link ≤ p.link) × (p.link ≤ high.link)
  pub start : (low.start ≤ p.start) × (p.start ≤ high.start)

pub between_true : (p low high : Page) → between p low high ≡ true → Between p low high
unfolding between
between_true p low high e =
    let h1 = and_true _ _ e in
    let h2 = and_true _ _ h1.0 in
    let h3 = and_true _ _ h2.0 in
    let h4 = and_true _ _ h3.0 in
    let h5 = and_true _ _ h4.0 in
    record {
      kind = within_true _ _ _ h5.0;
      small = within_true _ _ _ h5.1;
      file = within_true _ _ _ h4.1;
      action = within_true _ _ _ h3.1;
      link = within_true _ _ _ h2.1;
      start = within_true _ _ _ h1.1;
    }

-- what line 1 lets through
pub record InBounds (size place files : ℕ) : Type 0 where
  pub size_is : size ≡ page_size
  pub place_is : (1 ≤ place) × (place ≤ most_places)
  pub files_are : (1 ≤ files) × (files ≤ most_files)

pub in_bounds_lem : (size place files : ℕ) → in_bounds size place files ≡ true → InBounds size place files
unfolding in_bounds
in_bounds_lem size place files e =
    let h1 = and_true _ _ e in
    let h2 = and_true _ _ h1.0 in
    record { size_is = eqb-true size page_size h2.0; place_is = within_true _ _ _ h2.1; files_are = within_true _ _ _ h1.1 }

-- the same of a test `if !is_in_bounds(..)`
pub let_through : {r : Bool} {size place files : ℕ} → r ≡ in_bounds size place files → r ≡ true → InBounds size place files
let_through {size = size} {place} {files} e t = in_bounds_lem size place files (passed e t)

pub are_in_bounds : {size place files : ℕ} → InBounds size place files → in_bounds size place files ≡ true
unfolding in_bounds
are_in_bounds {size} {place} {files} q =
    let e : size ≡ page_size = q.size_is in
    rw e (and_both _ _ (within_both place 1 most_places q.place_is.0 q.place_is.1) (within_both files 1 most_files q.files_are.0 q.files_are.1))
