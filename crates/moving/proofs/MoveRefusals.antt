-- What a move leaves: the old sheet, its fates and the state always; a refused one the fresh sheet too, and the rows as they were for 1 and
-- 23, else with every cold one rebuilt. And its contract allows one outcome. Assumes nothing.
use Prim.Native.Nat.{ℕ, ◌/◌, ◌%◌}
use mathlib.Core.Path.{◌≡◌, refl, sym, ap, ◌∙◌}
use mathlib.Core.Bool.{Bool, true, false, cond, ◌&&◌, ◌||◌}
use mathlib.Core.List.{List, ◌++◌}
use native.Mathlib.Omega.{arith}
use lib.ListN.{length, drop}
use lib.Dec.{eqb, leb}
use Rattle.encoding.proofs.Logic.{by_test, and_true}
use Rattle.page.specs.Layout.{page_size}
use Rattle.recovery.specs.Log.{Entry}
use Rattle.recovery.specs.declared.Refusal.{Refusal}
use Rattle.recovery.specs.declared.Refusal.TheVariants.{WrongSizes, DamagedRow, NoRoom, NotBlank, UndecidedAction}
use Rattle.recovery.specs.declared.State.{State}
use Rattle.recovery.specs.declared.Answer.TheVariants.{Refused, Moved}
use Rattle.recovery.specs.Numbers.{refusal_number, is_refused}
use Rattle.recovery.specs.World.{World, refuse, lent_right}
use Rattle.recovery.specs.Lent.{row_length, flat, pages_of, state_of, lent, whole}
use Rattle.recovery.proofs.Leaves.{rows_back}
use Rattle.moving.specs.Moved.{is_sheet, is_unused, lowest_undecided, lowest_damaged, warm_rows, move_pages, highest_end, Move, on_rows, moved}
use Rattle.moving.specs.MoveLeaves.{MoveLeft, move_leaves}
use Rattle.moving.specs.MoveSteps.{warm_run}

-- the refusals before the rows are looked at
abbrev pub is_early : Refusal → Bool
is_early n = eqb (refusal_number n) 1 || eqb (refusal_number n) 23

module _ (w : World) (fresh : List Entry) where
  abbrev Kept : Move → Type 0
  Kept m = (m.0.1.sheet ≡ w.sheet) × (m.0.1.fates ≡ w.fates) × (state_of m.0.1 ≡ state_of w)

  abbrev Refuses : Move → Type 0
  Refuses m = (n : Refusal) (p : ℕ) → m.0.0 ≡ Refused n p → (m.1 ≡ fresh) × (m.0.1 ≡ cond (is_early n) w (warm_rows w))

  abbrev Quiet : Move → Type 0
  Quiet m = Kept m × Refuses m

  refusing : (n : Refusal) (p : ℕ) (v : World) → Kept (refuse n p v, fresh) → v ≡ cond (is_early n) w (warm_rows w) → Quiet (refuse n p v, fresh)
  refusing n p v k s = (k, λ i j e. let z : n ≡ i = cc in (refl, rw (← z) s))

  making : (floor : ℕ) (v : World) (f : List Entry) → Kept ((Moved floor, v), f) → Quiet ((Moved floor, v), f)
  making floor v f k = (k, λ n p e. let z : ◌≡◌ {A = ℕ} 0 1 = cc in absurd (omega arith))

  on_rows_lem : Quiet (on_rows (warm_rows w) fresh)
  on_rows_lem =
      let v : World = warm_rows w in
      let kept : Kept ((Moved 0, v), fresh) = (refl, refl, refl) in
      let made : Move = ((Moved (highest_end v.floor v.rows (length v.rows)), v), move_pages v ++ drop (length (move_pages v)) fresh) in
      let unused : Move = cond (is_unused fresh) made (refuse NotBlank 0 v, fresh) in
      let roomy : Move = cond (leb (length (move_pages v)) (length fresh)) unused (refuse NoRoom 0 v, fresh) in
      by_test Quiet (eqb (lowest_damaged v (length v.rows)) 0) {x = roomy} {y = (refuse DamagedRow (lowest_damaged v (length v.rows)) v, fresh)}
      (λ a. by_test Quiet (leb (length (move_pages v)) (length fresh)) {x = unused} {y = (refuse NoRoom 0 v, fresh)}
      (λ b. by_test Quiet (is_unused fresh) {x = made} {y = (refuse NotBlank 0 v, fresh)} (λ c. making _ _ _ kept) (λ c. refusing NotBlank 0 v kept refl))
      (λ b. refusing NoRoom 0 v kept refl))
      (λ a. refusing DamagedRow (lowest_damaged v (length v.rows)) v kept refl)

  pub refused_move : Quiet (moved w fresh)
  unfolding moved
  refused_move =
      let same : Kept ((Moved 0, w), fresh) = (refl, refl, refl) in
      let busy : Move = (refuse UndecidedAction (lowest_undecided w.fates w.end) w, fresh) in
      let past : Move = cond (eqb (lowest_undecided w.fates w.end) 0) (on_rows (warm_rows w) fresh) busy in
      by_test Quiet (lent_right w && is_sheet (length fresh)) {x = past} {y = (refuse WrongSizes 0 w, fresh)}
      (λ a. by_test Quiet (eqb (lowest_undecided w.fates w.end) 0) {x = on_rows (warm_rows w) fresh} {y = busy}
      (λ b. on_rows_lem) (λ b. refusing UndecidedAction (lowest_undecided w.fates w.end) w same refl))
      (λ a. refusing WrongSizes 0 w same refl)

-- ---- over bytes

module _ (s fates rows : List ℕ) (state : State) (fresh : List ℕ) where
  abbrev world : World
  world = lent s fates rows state

  abbrev pages : List Entry
  pages = pages_of fresh (length rows / row_length)

  abbrev OldKept : MoveLeft → Type 0
  OldKept x = (x.left.sheet ≡ s) × (x.left.fates ≡ fates) × (x.left.state ≡ state)

  abbrev FreshKept : MoveLeft → Type 0
  FreshKept x = (n : Refusal) (p : ℕ) → x.left.answer ≡ Refused n p → (x.fresh ≡ fresh) × (x.left.rows ≡ cond (is_early n) rows (warm_run s fates rows state))

  rows_left : whole (length s) (length rows) ≡ true → (n : Refusal) (v : World) → v ≡ cond (is_early n) world (warm_rows world)
      → flat v.rows ≡ cond (is_early n) rows (warm_run s fates rows state)
  unfolding warm_run
  rows_left h n v = go (is_early n)
    where
      go : (b : Bool) → v ≡ cond b world (warm_rows world) → flat v.rows ≡ cond b rows (flat (warm_rows world).rows)
      go true e = ap (λ (u : World). flat u.rows) e ∙ rows_back s fates rows state h
      go false e = ap (λ (u : World). flat u.rows) e

  -- the old sheet, its fates and the state are left
  pub old_kept : OldKept (move_leaves s fates rows state fresh)
  unfolding move_leaves
  old_kept = by_test OldKept (whole (length s) (length rows) && eqb (length fresh % page_size) 0)
      (λ e. let k = (refused_move world pages).0 in (refl, k.1, k.2))
      (λ e. (refl, refl, refl))

  -- a refused move leaves the fresh sheet, and the rows
  pub fresh_kept : FreshKept (move_leaves s fates rows state fresh)
  unfolding move_leaves is_refused
  fresh_kept = by_test FreshKept (whole (length s) (length rows) && eqb (length fresh % page_size) 0)
      (λ e n p a. let k = (refused_move world pages).1 n p a in (rw a, rows_left (and_true _ _ e).0 n _ k.1))
      (λ e n p a. let z : WrongSizes ≡ n = cc in (refl, rw (← z)))

pub move_once : (s fates rows : List ℕ) (state : State) (fresh : List ℕ) {l m : MoveLeft} → l ≡ move_leaves s fates rows state fresh → m ≡ move_leaves s fates rows state fresh → l ≡ m
move_once s fates rows state fresh e f = e ∙ sym f
