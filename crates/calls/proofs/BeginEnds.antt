-- The ways begin and test end. Assumes nothing.
use Prim.Native.Nat.{ℕ, suc, ◌+◌, ◌-◌, ◌*◌, ◌/◌, ◌≤◌}
use mathlib.Core.Path.{◌≡◌, refl, sym, ap, ◌∙◌}
use mathlib.Core.Bool.{true, false}
use mathlib.Core.List.{List}
use native.Mathlib.Omega.{arith}
use Rattle.std.specs.Prelude.{Ok, Err}
use native.Mathlib.Numerals.{add-one}
use lib.ListN.{length, set, replicate}
use Rattle.page.specs.Layout.{page_size, value_size}
use Rattle.page.specs.Table.{packed, meets_rules}
use Rattle.page.specs.Table as table
use Rattle.page.specs.Answers.{in_bounds}
use Rattle.page.proofs.Obeyed.{opening_rules}
use Rattle.recovery.specs.Places.{put}
use Rattle.recovery.specs.Log.{opening}
use Rattle.recovery.specs.declared.Refusal.{Refusal}
use Rattle.recovery.specs.declared.State.{State}
use Rattle.recovery.specs.declared.Answer.TheVariants.{Refused, Stored, Told}
use Rattle.recovery.specs.World.{World}
use Rattle.recovery.specs.Lent.{row_length, rows_of, lent, refused}
use Rattle.recovery.specs.Steps.{line_one, outcome_in}
use Rattle.recovery.proofs.Leaves.{rows_back, whole_is}
use Rattle.calls.specs.Calls.{begin, test, on, append}
use Rattle.calls.specs.Leaves.{packed_entry, with_page, call_leaves}
use Rattle.calls.specs.LineSteps.{Line, free, known_fate, room_line}
use Rattle.calls.proofs.Ends.{ends_same, ends_grown}
use Rattle.calls.proofs.ActionLines.{by_line, fate_none, fate_some}
use Rattle.calls.proofs.RoomLines.{room_is, room_by, append_fits}

module _ (s fs rs : List ℕ) (st : State) (fit : line_one (length s) (length fs) (length rs) st.end st.undecided ≡ true) where
  abbrev w : World
  w = lent s fs rs st

  pub test_none : (a : ℕ) (n : Refusal) → Err n ≡ known_fate fs st.end a → refused n 0 s fs rs st ≡ call_leaves s fs rs st (test a)
  test_none a n h = let k = fate_none fs st.end a n h in ends_same s fs rs st (test a) fit (Refused n 0) (rw (k.acts_not, k.why_is))

  pub test_told : (a x p : ℕ) → Ok x ≡ known_fate fs st.end a → p ≡ outcome_in s (length rs / row_length) st.end a
      → record { answer = Told x p; state = st; sheet = s; fates = fs; rows = rs } ≡ call_leaves s fs rs st (test a)
  unfolding outcome_in
  test_told a x p h e =
      let k = fate_some fs st.end a x h in
      ends_same s fs rs st (test a) fit (Told x p) (rw (k.acts_is, k.number, e))

  module _ (l : Line) (line : l ≡ room_line s st.end (length rs / row_length) (st.undecided + 1 + 1)) where
    line_is : l ≡ room_line s st.end (length rs / row_length) (st.undecided + 2)
    line_is =
        let e : st.undecided + 1 + 1 ≡ st.undecided + 2 = omega arith in
        line ∙ ap (room_line s st.end (length rs / row_length)) e

    on_begin_lem : on w begin ≡ by_line w (Stored (suc st.end), append w (opening false) (put fs (suc st.end) 1) (rows_of rs) (suc st.undecided)) l
    on_begin_lem =
        rw line_is
        (room_by (length rs / row_length) s fs (rows_of rs) st.end st.floor st.undecided (st.undecided + 2) (omega arith)
        (Stored (suc st.end), append w (opening false) (put fs (suc st.end) 1) (rows_of rs) (suc st.undecided)))

    pub begin_refused : (n : Refusal) → l ≡ Err n → refused n 0 s fs rs st ≡ call_leaves s fs rs st begin
    begin_refused n z = ends_same s fs rs st begin fit (Refused n 0) (on_begin_lem ∙ rw z)

    module _ (z : l ≡ free) where
      pub begin_room : st.undecided + 2 ≤ length s / page_size - st.end
      begin_room = room_is s st.end (length rs / row_length) (st.undecided + 2) (sym z ∙ line_is)

      pub begin_asked : (page_size * st.end + page_size ≤ length s) × (in_bounds page_size (suc st.end) (length rs / row_length) ≡ true)
          × (meets_rules (table.opening (st.end + 1)) (replicate value_size 0) (suc st.end) (length rs / row_length) ≡ true)
      begin_asked =
          let q = append_fits (length s) (length fs) (length rs) st.end st.undecided fit (omega (arith, begin_room)) in
          (q.0, q.1, rw add-one (opening_rules 0 (suc st.end) (length rs / row_length) (omega arith)))

      pub begin_done : (s'' : List ℕ) → s'' ≡ with_page s st.end (packed (table.opening (st.end + 1)) (replicate value_size 0) (suc st.end))
          → record { answer = Stored (st.end + 1); state = record { end = st.end + 1; floor = st.floor; undecided = st.undecided + 1 }; sheet = s''; fates = set fs st.end 1; rows = rs }
          ≡ call_leaves s fs rs st begin
      unfolding packed_entry
      begin_done s'' hs =
          let a : st.end + 1 ≡ suc st.end = add-one st.end in
          let c : st.undecided + 1 ≡ suc st.undecided = add-one st.undecided in
          rw (a, c) (ends_grown s fs rs st begin fit (opening false) (put fs (suc st.end) 1) (rows_of rs) (suc st.undecided) (on_begin_lem ∙ rw z)
          (omega (arith, begin_room)) s'' (set fs st.end 1) rs (rw a at hs) refl (sym (rows_back s fs rs st (whole_is s fs rs st fit))))
