-- Reads alike, over bytes: the old sheet with its rows as the move left them, and the fresh one as an opening for as many files leaves it.
-- For everything that is lent. Assumes nothing.
use Prim.Native.Nat.{ℕ, ◌/◌, ◌%◌}
use mathlib.Core.Path.{◌≡◌, sym, ap, subst, ◌∙◌}
use mathlib.Core.Bool.{true, false}
use mathlib.Core.List.{List, ◌++◌}
use native.Mathlib.Omega.{arith}
use lib.ListN.{length, drop}
use lib.Dec.{eqb}
use borrow.Author.Tests.{eq-eqb}
use Rattle.encoding.proofs.Logic.{and_true}
use Rattle.page.specs.Layout.{page_size}
use Rattle.recovery.specs.Log.{Entry}
use Rattle.recovery.specs.declared.Row.{Row}
use Rattle.recovery.specs.declared.State.{State}
use Rattle.recovery.specs.declared.Answer.TheVariants.{Moved}
use Rattle.recovery.specs.Numbers.{is_refused}
use Rattle.recovery.specs.World.{World, Result, is_file, cold_rows, started, opened, warm_row}
use Rattle.recovery.specs.Lent.{row_length, rows_of, flat, pages_of, lent, whole, state_of, Left, open_leaves}
use Rattle.recovery.proofs.Places.{length_tabulate}
use Rattle.recovery.proofs.FlatRows.{rows_long, flat_long, flat_rows}
use Rattle.calls.specs.Calls.{Call, read, call}
use Rattle.calls.specs.Leaves.{call_leaves}
use Rattle.moving.specs.Moved.{warm_rows, move_pages, moved}
use Rattle.moving.specs.MoveLeaves.{MoveLeft, move_leaves}
use Rattle.moving.specs.Promised.{FromStart, SameReads}
use Rattle.moving.proofs.FreshOpened.{length_cold}
use Rattle.moving.proofs.ReadAlike.{read_alike, fresh_opens}
use Rattle.moving.proofs.DecodedBytes.{decoded_lent}
use Rattle.moving.proofs.FreshBytes.{passed, moved_is, old_left, pages_are, places, fresh_whole, fresh_opened}

-- rows laid out and read back, for a sheet of as many files
lent_flat : (s fs : List ℕ) (l : List Row) (st : State) (files : ℕ) → length l ≡ files
    → lent s fs (flat l) st ≡ record { sheet = pages_of s files; fates = fs; rows = l; end = st.end; floor = st.floor; undecided = st.undecided }
lent_flat s fs l st files h =
    let n : length (flat l) / row_length ≡ files = omega (arith, flat_long l) in
    rw (n, flat_rows l)

whole_flat : (size : ℕ) (l : List Row) → eqb (size % page_size) 0 ≡ true → whole size (length (flat l)) ≡ true
whole_flat size l h = rw (h, eq-eqb (length (flat l) % row_length) 0 (omega (arith, flat_long l)))

-- a call's answer
answer_is : (s fs rs : List ℕ) (st : State) (c : Call) → whole (length s) (length rs) ≡ true → (call_leaves s fs rs st c).answer ≡ (call (lent s fs rs st) c).0
unfolding call_leaves
answer_is s fs rs st c h = rw h

module _ (s fates rows : List ℕ) (state : State) (fresh : List ℕ) (floor : ℕ) (e : (move_leaves s fates rows state fresh).left.answer ≡ Moved floor) where
  abbrev files : ℕ
  files = length rows / row_length

  abbrev v : World
  v = warm_rows (lent s fates rows state)

  abbrev x : MoveLeft
  x = move_leaves s fates rows state fresh

  abbrev w : World
  w = lent s fates rows state

  abbrev old : List Entry
  old = pages_of fresh files

  abbrev pages : List Entry
  pages = move_pages v ++ drop (length (move_pages v)) old

  made : moved w old ≡ ((Moved floor, v), pages)
  made = moved_is s fates rows state fresh floor e

  even_old : eqb (length s % page_size) 0 ≡ true
  even_old =
      let q = (passed s fates rows state fresh floor e).0 in
      (and_true (eqb (length s % page_size) 0) (eqb (length rows % row_length) 0) (and_true (whole (length s) (length rows)) (eqb (length fresh % page_size) 0) q).0).0

  even_fresh : eqb (length x.fresh % page_size) 0 ≡ true
  even_fresh = (and_true (eqb (length x.fresh % page_size) 0) (eqb (length rows % row_length) 0) (fresh_whole s fates rows state fresh floor e)).0

  many : length v.rows ≡ files
  many = length_tabulate (warm_row (lent s fates rows state)) 0 (length (rows_of rows)) ∙ rows_long rows

  rows_left : x.left.rows ≡ flat v.rows
  rows_left = ap (λ (l : Left). l.rows) (old_left s fates rows state fresh floor e)

  -- the old sheet as the move left it
  pub old_lent : lent s fates x.left.rows state ≡ v
  old_lent = ap (λ (l : List ℕ). lent s fates l state) rows_left ∙ lent_flat s fates v.rows state files many

  module _ (fs rs : List ℕ) (t : ℕ) (hf : length fs ≡ length fresh / page_size) (hr : length rs ≡ length rows) where
    -- the fresh one as an opening leaves it
    abbrev o : Left
    o = open_leaves x.fresh fs rs t

    abbrev begun : World
    begun = started (pages_of x.fresh files) (length (move_pages v)) files t

    left_is : (o.fates ≡ begun.fates) × (o.rows ≡ flat (cold_rows files)) × (o.state ≡ state_of begun)
    left_is =
        let q = fresh_opened s fates rows state fresh floor e fs rs t hf hr in
        (ap (λ (l : Left). l.fates) q, ap (λ (l : Left). l.rows) q, ap (λ (l : Left). l.state) q)

    pub fresh_lent : lent x.fresh o.fates o.rows o.state ≡ begun
    fresh_lent = rw (left_is.0, left_is.1, left_is.2) (lent_flat x.fresh begun.fates (cold_rows files) (state_of begun) files (length_cold files))

    as_many : length (rows_of rs) ≡ length (rows_of rows)
    as_many = rows_long rs ∙ ap (λ (n : ℕ). n / row_length) hr ∙ sym (rows_long rows)

    opened_is : (opened pages fs (rows_of rs) t).1 ≡ begun
    opened_is =
        ap (λ (r : Result). r.1) (fresh_opens w v old pages floor (decoded_lent s fates rows state) made fs (rows_of rs) t (hf ∙ sym (places s fates rows state fresh floor e)) as_many)
        ∙ ap (λ (l : List Entry). started l (length (move_pages v)) (length (rows_of rows)) t) (sym (pages_are s fates rows state fresh floor e))
        ∙ ap (λ (n : ℕ). started (pages_of x.fresh files) (length (move_pages v)) n t) (rows_long rows)

    module _ (n time : ℕ) (hn : is_file files n ≡ true) where
      old_answer : (call_leaves s fates x.left.rows state (read n time 0)).answer ≡ (call v (read n time 0)).0
      old_answer =
          ap (λ (l : List ℕ). (call_leaves s fates l state (read n time 0)).answer) rows_left
          ∙ answer_is s fates (flat v.rows) state (read n time 0) (whole_flat (length s) v.rows even_old)
          ∙ ap (λ (u : World). (call u (read n time 0)).0) (lent_flat s fates v.rows state files many)

      fresh_answer : (call_leaves x.fresh o.fates o.rows o.state (read n time 0)).answer ≡ (call begun (read n time 0)).0
      fresh_answer =
          answer_is x.fresh o.fates o.rows o.state (read n time 0) (rw left_is.1 (whole_flat (length x.fresh) (cold_rows files) even_fresh))
          ∙ ap (λ (u : World). (call u (read n time 0)).0) fresh_lent

      pub bytes_alike : FromStart v n time → is_refused (call_leaves s fates x.left.rows state (read n time 0)).answer ≡ false
          → SameReads v (lent x.fresh o.fates o.rows o.state) (call_leaves s fates x.left.rows state (read n time 0)).answer
          (call_leaves x.fresh o.fates o.rows o.state (read n time 0)).answer
      bytes_alike late a =
          let r = read_alike w v old pages floor (decoded_lent s fates rows state) made fs (rows_of rs) t n time (hf ∙ sym (places s fates rows state fresh floor e)) as_many (rw (rows_long rows) hn) late
          (rw old_answer at a) in
          rw (fresh_lent, old_answer, fresh_answer) (subst (λ (u : World). SameReads v u (call v (read n time 0)).0 (call u (read n time 0)).0) opened_is r)
