-- What `open` leaves, from what its pass found. Assumes nothing.
use Prim.Native.Nat.{ℕ, ◌/◌, ◌%◌}
use mathlib.Core.Path.{◌≡◌, refl, sym, ap, subst, ◌∙◌}
use mathlib.Core.Bool.{Bool, true, false, cond, ◌&&◌}
use mathlib.Core.List.{List}
use native.Mathlib.Omega.{arith}
use lib.Dec.{eqb}
use lib.ListN.{length, replicate}
use borrow.Author.Tests.{eq-eqb, ne_eqb, eqb-true}
use Rattle.encoding.proofs.Logic.{and_true}
use Rattle.page.specs.Layout.{page_size}
use Rattle.recovery.specs.Places.{nth}
use Rattle.recovery.specs.Log.{Entry, blank, fate_of}
use Rattle.recovery.specs.Sheet.{decoded, sealed}
use Rattle.recovery.specs.World.{Result, refuse, sizes, down, end_of, highest_bad, fates_of, undecided_of, cold_rows, started, unopened, fate_number, unfinished, opened_at, opened}
use Rattle.recovery.specs.Lent.{row_length, rows_of, flat, pages_of, whole, sizes_right, left_by, leaves, refused, closed, open_leaves}
use Rattle.recovery.specs.OpenSteps.{Scanned, unfinished_in, refused_opening}
use Rattle.recovery.specs.declared.Refusal.TheVariants.{WrongSizes, BadPage, UnfinishedMove}
use Rattle.recovery.specs.declared.Answer.TheVariants.{Opened}
use Rattle.recovery.specs.declared.Done.{Done}
use Rattle.recovery.specs.declared.Scan.{Scan}
use Rattle.recovery.proofs.Places.{nth_tabulate}
use Rattle.recovery.proofs.LogFates.{undecided_test}
use Rattle.recovery.proofs.Pages.{pages_long, page_at_place, carried_sealed}
use Rattle.recovery.proofs.FlatRows.{rows_long, rows_flat}
use Rattle.recovery.proofs.Sizes.{Sizes, sizes_right_lem}
use Rattle.recovery.proofs.OpeningRuns.{cold_flat}

module _ (s fates rows : List ℕ) (floor : ℕ) where
  abbrev sheet : List Entry
  sheet = pages_of s (length rows / row_length)

  abbrev end : ℕ
  end = end_of sheet (length sheet)

  abbrev bad : ℕ
  bad = highest_bad (down sheet end)

  abbrev told : List ℕ
  told = fates_of (length sheet) (down sheet end)

  -- the three results that passed line 1
  abbrev yes : Result
  yes = (Opened end (undecided_of told), started sheet end (length (rows_of rows)) floor)

  abbrev no : Result
  no = refuse BadPage bad (unopened sheet fates (rows_of rows))

  abbrev early : Result
  early = refuse UnfinishedMove 0 (unopened sheet fates (rows_of rows))

  abbrev unsized : Result
  unsized = refuse WrongSizes 0 (unopened sheet fates (rows_of rows))

  sized_is : sizes (length sheet) (length fates) (length (rows_of rows)) ≡ sizes (length s / page_size) (length fates) (length rows / row_length)
  sized_is =
      ap (λ (n : ℕ). sizes n (length fates) (length (rows_of rows))) (pages_long (length rows / row_length) (length s / page_size) s)
      ∙ ap (λ (n : ℕ). sizes (length s / page_size) (length fates) n) (rows_long rows)

  opened_by_lem : (b : Bool) → sizes (length s / page_size) (length fates) (length rows / row_length) ≡ b
      → leaves s (cond b (opened_at sheet end fates (rows_of rows) floor) unsized) ≡ leaves s (opened sheet fates (rows_of rows) floor)
  unfolding opened
  opened_by_lem b e = ap (λ (c : Bool). leaves s (cond c (opened_at sheet end fates (rows_of rows) floor) unsized)) (sym (sized_is ∙ e))

  rows_back : whole (length s) (length rows) ≡ true → rows ≡ flat (rows_of rows)
  rows_back w =
      let m : length rows % row_length ≡ 0 = eqb-true (length rows % row_length) 0 (and_true (eqb (length s % page_size) 0) (eqb (length rows % row_length) 0) w).1 in
      sym (rows_flat rows (omega arith))

  -- line 1
  pub open_refused : sizes_right (length s) (length fates) (length rows) ≡ false → (r : Done) → r ≡ refused_opening WrongSizes 0 → left_by r s fates rows ≡ open_leaves s fates rows floor
  unfolding sizes_right open_leaves
  open_refused e r d = ap (λ (x : Done). left_by x s fates rows) d ∙ go (whole (length s) (length rows)) refl e
    where
      go : (w : Bool) → whole (length s) (length rows) ≡ w → (w && sizes (length s / page_size) (length fates) (length rows / row_length)) ≡ false
          → left_by (refused_opening WrongSizes 0) s fates rows ≡ cond w (leaves s (opened sheet fates (rows_of rows) floor)) (refused WrongSizes 0 s fates rows closed)
      go false x y = refl
      go true x y = ap (λ (l : List ℕ). left_by (refused_opening WrongSizes 0) s fates l) (rows_back x) ∙ opened_by_lem false y

  module _ (ok : sizes_right (length s) (length fates) (length rows) ≡ true) where
    k : Sizes (length s) (length fates) (length rows)
    k = sizes_right_lem (length s) (length fates) (length rows) ok

    opened_is : leaves s (opened_at sheet end fates (rows_of rows) floor) ≡ open_leaves s fates rows floor
    unfolding open_leaves
    opened_is =
        opened_by_lem true k.sizes_are
        ∙ ap (λ (b : Bool). cond b (leaves s (opened sheet fates (rows_of rows) floor)) (refused WrongSizes 0 s fates rows closed)) (sym k.whole_is)

    module _ (n files : ℕ) (m : n ≡ length fates) (c : files ≡ length rows / row_length) (sc : Scan) (kept : List ℕ) (h : Scanned files n s sc kept) where
      here : Scanned (length rows / row_length) (length s / page_size) s sc kept
      here = subst (λ (x : ℕ). Scanned (length rows / row_length) x s sc kept) (m ∙ k.fates_are) (subst (λ (x : ℕ). Scanned x n s sc kept) c h)

      long : length s / page_size ≡ length sheet
      long = sym (pages_long (length rows / row_length) (length s / page_size) s)

      end_is : sc.end ≡ end
      end_is = here.end_is ∙ ap (λ (x : ℕ). end_of sheet x) long

      bad_is : sc.bad ≡ bad
      bad_is = here.bad_is ∙ ap (λ (x : ℕ). highest_bad (down sheet (end_of sheet x))) long

      kept_is : kept ≡ told
      kept_is = here.kept_is ∙ ap (λ (x : ℕ). fates_of x (down sheet (end_of sheet x))) long

      -- line 2
      pub open_bad : (sc.bad ≡ 0 → ⊥) → (r : Done) → r ≡ refused_opening BadPage sc.bad → left_by r s fates rows ≡ open_leaves s fates rows floor
      open_bad z r d =
          ap (λ (x : Done). left_by x s fates rows) d
          ∙ ap (λ (x : ℕ). left_by (refused_opening BadPage x) s fates rows) bad_is
          ∙ ap (λ (x : List ℕ). left_by (refused_opening BadPage bad) s fates x) (rows_back k.whole_is)
          ∙ ap (λ (b : Bool). leaves s (cond b (cond (unfinished sheet end) early yes) no)) (sym (ne_eqb bad 0 (λ e. z (bad_is ∙ e))))
          ∙ opened_is

      -- line 24
      unfinished_is : unfinished_in files s kept ≡ unfinished sheet end
      unfolding unfinished_in unfinished sealed
      unfinished_is =
          let one : nth blank sheet 1 ≡ sealed (length rows / row_length) s 1 = page_at_place (length rows / row_length) (length s / page_size) s 1 (omega arith) k.some_pages in
          let fate : nth 0 told 1 ≡ fate_number (fate_of (down sheet end) 1) =
          nth_tabulate (λ a. fate_number (fate_of (down sheet end) a)) (length sheet) 1 0 (omega arith) (omega (arith, k.some_pages, long)) in
          rw (c, kept_is, fate, one, carried_sealed (decoded (length rows / row_length) s) (decoded (length rows / row_length) s 1), undecided_test (fate_of (down sheet end) 1))

      good_is : {b : Bool} → unfinished_in files s kept ≡ b → sc.bad ≡ 0 → leaves s (cond b early yes) ≡ open_leaves s fates rows floor
      good_is e z =
          ap (λ (b : Bool). leaves s (cond b early yes)) (sym e ∙ unfinished_is)
          ∙ ap (λ (b : Bool). leaves s (cond b (cond (unfinished sheet end) early yes) no)) (sym (eq-eqb bad 0 (sym bad_is ∙ z)))
          ∙ opened_is

      pub open_unfinished : unfinished_in files s kept ≡ true → sc.bad ≡ 0 → (r : Done) → r ≡ refused_opening UnfinishedMove 0 → left_by r s fates rows ≡ open_leaves s fates rows floor
      open_unfinished e z r d =
          ap (λ (x : Done). left_by x s fates rows) d
          ∙ ap (λ (x : List ℕ). left_by (refused_opening UnfinishedMove 0) s fates x) (rows_back k.whole_is)
          ∙ good_is e z

      pub open_good : (u : ℕ) (fates' rows' : List ℕ) → unfinished_in files s kept ≡ false → sc.bad ≡ 0 → u ≡ undecided_of kept → length kept ≡ length fates
          → fates' ≡ cond (eqb (length fates) (length kept)) kept fates → rows' ≡ replicate (length rows) 0
          → left_by (record { answer = Opened sc.end u; state = record { end = sc.end; floor = floor; undecided = u } }) s fates' rows' ≡ open_leaves s fates rows floor
      open_good u fates' rows' e z hu hl hf hr =
          let U : u ≡ undecided_of told = hu ∙ ap undecided_of kept_is in
          let F : fates' ≡ told = hf ∙ ap (λ (b : Bool). cond b kept fates) (eq-eqb (length fates) (length kept) (sym hl)) ∙ kept_is in
          let W : rows' ≡ flat (cold_rows (length (rows_of rows))) =
          hr ∙ ap (λ (n : ℕ). replicate n 0) (sym k.numbers_are) ∙ cold_flat (length rows / row_length) ∙ ap (λ (n : ℕ). flat (cold_rows n)) (sym (rows_long rows)) in
          let R : left_by (record { answer = Opened sc.end u; state = record { end = sc.end; floor = floor; undecided = u } }) s fates' rows' ≡ leaves s yes =
          λ i. record { answer = Opened (end_is i) (U i); state = record { end = end_is i; floor = floor; undecided = U i }; sheet = s; fates = F i; rows = W i } in
          R ∙ good_is e z
