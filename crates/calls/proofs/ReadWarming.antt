-- A row that was warmed, and then changed once more: the run of numbers and the list of rows agree. Assumes nothing.
use Prim.Native.Nat.{ℕ, zero, suc, ◌/◌}
use mathlib.Core.Path.{◌≡◌, refl, sym, ap, ◌∙◌}
use mathlib.Core.Bool.{true}
use mathlib.Core.List.{List}
use native.Mathlib.Omega.{arith}
use lib.ListN.{length}
use lib.Seq.{set-set}
use Rattle.recovery.specs.Places.{put}
use Rattle.recovery.specs.declared.Row.{Row}
use Rattle.recovery.specs.declared.State.{State}
use Rattle.recovery.specs.World.{is_file, warm_row}
use Rattle.recovery.specs.Lent.{row_length, rows_of, flat, lent, whole}
use Rattle.recovery.specs.Steps.{line_one, row_of, with_row_of, row_from_pages, warm_row_of, Warmed}
use Rattle.recovery.proofs.Places.{length_put}
use Rattle.recovery.proofs.FlatRows.{rows_long, flat_long, flat_rows}
use Rattle.recovery.proofs.Leaves.{whole_is, put_row_lem}
use Rattle.calls.proofs.Ends.{lent_is}

pub put_twice : {A : Type 0} (l : List A) (p : ℕ) (x y : A) → put (put l p x) p y ≡ put l p y
put_twice l zero x y = refl
put_twice l (suc i) x y = set-set l i x y

module _ (s fs rs : List ℕ) (st : State) (h : line_one (length s) (length fs) (length rs) st.end st.undecided ≡ true) (f : ℕ)
    (g : is_file (length rs / row_length) f ≡ true) (r : Row) (xs : List ℕ) (wm : Warmed s fs rs f st.end r xs) where
  pub warm_is : warm_row (lent s fs rs st) f ≡ r
  unfolding warm_row_of warm_row row_of row_from_pages
  warm_is = sym wm.row_is

  run_is : xs ≡ flat (put (rows_of rs) f r)
  run_is = wm.left_is ∙ put_row_lem s fs rs st f r (whole_is s fs rs st h) g

  run_long : length xs ≡ length rs
  run_long =
      let k = lent_is _ _ _ _ _ h in
      ap length run_is ∙ omega (arith, flat_long (put (rows_of rs) f r), length_put (rows_of rs) f r, rows_long rs, k.sizes)

  run_rows : rows_of xs ≡ put (rows_of rs) f r
  run_rows = ap rows_of run_is ∙ flat_rows (put (rows_of rs) f r)

  -- another row of the file put into the warmed run
  pub put_warm : (y : Row) → with_row_of xs f y ≡ flat (put (put (rows_of rs) f r) f y)
  put_warm y =
      let a : whole (length s) (length xs) ≡ true = rw run_long (whole_is s fs rs st h) in
      let b : is_file (length xs / row_length) f ≡ true = rw run_long g in
      put_row_lem s fs xs st f y a b ∙ ap (λ (l : List Row). flat (put l f y)) run_rows

  pub put_over : (y : Row) → with_row_of xs f y ≡ with_row_of rs f y
  put_over y = put_warm y ∙ ap flat (put_twice (rows_of rs) f r y) ∙ sym (put_row_lem s fs rs st f y (whole_is s fs rs st h) g)
