-- What rebuild leaves, at each of its ends: each law ends in `rebuild_leaves`, the contract. Assumes nothing.
use Prim.Native.Nat.{ℕ, zero, suc, ◌/◌, ◌%◌}
use mathlib.Core.Path.{◌≡◌, refl, sym, ap, ◌∙◌}
use mathlib.Core.Bool.{Bool, true, false}
use mathlib.Core.List.{List}
use native.Mathlib.Omega.{arith}
use native.Mathlib.Numerals.{sub-one}
use lib.ListN.{length}
use lib.Dec.{eqb}
use borrow.Author.Tests.{eqb-true, eq-eqb, ne_eqb}
use Rattle.encoding.proofs.Logic.{and_true}
use Rattle.page.specs.Layout.{page_size}
use Rattle.recovery.specs.Places.{put}
use Rattle.recovery.specs.World.{lent_right, is_file, warm_row, row_holds, with_row, answer_row, refuse, rebuilt}
use Rattle.recovery.specs.Lent.{row_length, rows_of, flat, put_row, lent, whole, sizes_right, leaves, refused, rebuild_leaves}
use Rattle.recovery.specs.Steps.{row_of, with_row_of, row_from_pages, row_holds_in, warm_row_of, line_one, Warmed}
use Rattle.recovery.specs.declared.Refusal.{Refusal}
use Rattle.recovery.specs.declared.Refusal.TheVariants.{WrongSizes, NoFile, DamagedRow}
use Rattle.recovery.specs.declared.Row.{Row}
use Rattle.recovery.specs.declared.State.{State}
use Rattle.recovery.specs.declared.Answer.{Answer}
use Rattle.recovery.specs.declared.Answer.TheVariants.{Rebuilt}
use Rattle.recovery.proofs.Pages.{pages_long}
use Rattle.recovery.proofs.FlatRows.{rows_long, rows_flat, put_here, put_flat}
use Rattle.recovery.proofs.Lookups.{is_file_lem, row_some, set_some, set_none}

-- ---- a row that is put back as it was

same_row : (rows : List ℕ) (f : ℕ) → rows ≡ with_row_of rows f (row_of rows f)
same_row rows f = go (is_file (length rows / row_length) f) refl
  where
    go : (b : Bool) → is_file (length rows / row_length) f ≡ b → rows ≡ with_row_of rows f (row_of rows f)
    go true e = sym (put_here rows _) ∙ ap (put_row rows _) (row_some rows f e) ∙ set_some rows f (row_of rows f) e
    go false e = set_none rows f (row_of rows f) e

-- what warm_row owes, where the row is not cold and where it is
module _ (s fates rows : List ℕ) (file end : ℕ) (r : Row) (e : r ≡ row_of rows file) where
  pub warm_same : (r.mark ≡ 0 → ⊥) → Warmed s fates rows file end r rows
  unfolding warm_row_of
  warm_same h =
      let k : eqb (row_of rows file).mark 0 ≡ false = ne_eqb _ 0 (λ z. h (ap (λ (x : Row). x.mark) e ∙ z)) in
      record { row_is = simp k e; left_is = same_row rows file ∙ ap (with_row_of rows file) (sym e) }

  pub warm_new : (r.mark ≡ 0) → (n : Row) (left : List ℕ) → n ≡ row_from_pages s fates (length rows / row_length) file end → left ≡ with_row_of rows file n
      → Warmed s fates rows file end n left
  unfolding warm_row_of
  warm_new h n left en el =
      let k : eqb (row_of rows file).mark 0 ≡ true = eq-eqb _ 0 (ap (λ (x : Row). x.mark) (sym e) ∙ h) in
      record { row_is = simp k en; left_is = el }

-- ---- the ends of rebuild

module _ (s fs rs : List ℕ) (st : State) where
  pub rows_back : whole (length s) (length rs) ≡ true → flat (rows_of rs) ≡ rs
  rows_back w =
      let z : length rs % row_length ≡ 0 = eqb-true _ 0 (and_true (eqb (length s % page_size) 0) (eqb (length rs % row_length) 0) w).1 in
      rows_flat rs (omega arith)

  -- a row put into the run is the row put into the list
  pub put_row_lem : (g : ℕ) (r : Row) → whole (length s) (length rs) ≡ true → is_file (length rs / row_length) g ≡ true → with_row_of rs g r ≡ flat (put (rows_of rs) g r)
  put_row_lem zero r w e = let q = is_file_lem (length rs / row_length) 0 e in absurd (omega arith)
  put_row_lem (suc j) r w e =
      let q = is_file_lem (length rs / row_length) (suc j) e in
      let back : flat (rows_of rs) ≡ rs = rows_back w in
      sym (set_some rs (suc j) r e) ∙ rw sub-one (rw back at (put_flat (rows_of rs) j r (omega (arith, rows_long rs))))

  refused_leaves : (n : Refusal) → whole (length s) (length rs) ≡ true → refused n 0 s fs rs st ≡ leaves s (refuse n 0 (lent s fs rs st))
  refused_leaves n w = ap (λ (xs : List ℕ). refused n 0 s fs xs st) (sym (rows_back w))

  pub lent_right_lem : whole (length s) (length rs) ≡ true → lent_right (lent s fs rs st) ≡ line_one (length s) (length fs) (length rs) st.end st.undecided
  unfolding lent_right line_one sizes_right
  lent_right_lem w = simp (w, pages_long (length rs / row_length) (length s / page_size) s, rows_long rs)

  pub whole_is : line_one (length s) (length fs) (length rs) st.end st.undecided ≡ true → whole (length s) (length rs) ≡ true
  unfolding line_one sizes_right
  whole_is h = (and_true _ _ (and_true _ _ (and_true _ _ h).0).0).0

  pub rebuild_line_1 : (f : ℕ) → line_one (length s) (length fs) (length rs) st.end st.undecided ≡ false → refused WrongSizes 0 s fs rs st ≡ rebuild_leaves s fs rs st f
  unfolding rebuild_leaves rebuilt
  rebuild_line_1 f h = go (whole (length s) (length rs)) refl
    where
      go : (b : Bool) → whole (length s) (length rs) ≡ b → refused WrongSizes 0 s fs rs st ≡ rebuild_leaves s fs rs st f
      go true e = simp (e, lent_right_lem e ∙ h) (refused_leaves WrongSizes e)
      go false e = simp e

  module _ (f : ℕ) (h : line_one (length s) (length fs) (length rs) st.end st.undecided ≡ true) where
    pub rebuild_line_3 : is_file (length rs / row_length) f ≡ false → refused NoFile 0 s fs rs st ≡ rebuild_leaves s fs rs st f
    unfolding rebuild_leaves rebuilt
    rebuild_line_3 k = simp (whole_is h, lent_right_lem (whole_is h) ∙ h, rows_long rs, k) (refused_leaves NoFile (whole_is h))

    module _ (k : is_file (length rs / row_length) f ≡ true) (r : Row) (ys : List ℕ) (w : Warmed s fs rs f st.end r ys) where
      warm_is : r ≡ warm_row (lent s fs rs st) f
      unfolding warm_row_of warm_row row_of row_from_pages
      warm_is = w.row_is

      rows_are : ys ≡ flat (put (rows_of rs) f r)
      rows_are = w.left_is ∙ put_row_lem f r (whole_is h) k

      leaves_row : leaves s (answer_row (with_row (lent s fs rs st) f r) f r) ≡ rebuild_leaves s fs rs st f
      unfolding rebuild_leaves rebuilt
      leaves_row =
          simp (whole_is h, lent_right_lem (whole_is h) ∙ h, rows_long rs, k) (ap (λ (x : Row). leaves s (answer_row (with_row (lent s fs rs st) f x) f x)) warm_is)

      holds_same : row_holds (with_row (lent s fs rs st) f r) f r ≡ row_holds_in s (length rs / row_length) st.end f r
      unfolding row_holds_in row_holds
      holds_same = refl

      pub rebuild_line_7 : row_holds_in s (length rs / row_length) st.end f r ≡ false → refused DamagedRow 0 s fs ys st ≡ rebuild_leaves s fs rs st f
      rebuild_line_7 e =
          let n : row_holds (with_row (lent s fs rs st) f r) f r ≡ false = holds_same ∙ e in
          sym (sym leaves_row ∙ simp n (ap (λ (xs : List ℕ). refused DamagedRow 0 s fs xs st) (sym rows_are)))

      pub rebuild_done : row_holds_in s (length rs / row_length) st.end f r ≡ true
          → record { answer = Rebuilt r.current r.currentend r.token r.tokenend r.tokenaction; state = st; sheet = s; fates = fs; rows = ys } ≡ rebuild_leaves s fs rs st f
      rebuild_done e =
          let n : row_holds (with_row (lent s fs rs st) f r) f r ≡ true = holds_same ∙ e in
          let A : Answer = Rebuilt r.current r.currentend r.token r.tokenend r.tokenaction in
          sym (sym leaves_row ∙ simp n (ap (λ (xs : List ℕ). record { answer = A; state = st; sheet = s; fates = fs; rows = xs }) (sym rows_are)))
