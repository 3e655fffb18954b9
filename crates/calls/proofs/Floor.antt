-- The floor: every call leaves it as it was, and a write that is answered starts above it. So where it is no lower than the highest start of
-- a sheet, no write is answered at or below any start there. Shuts out a store that lets a version be backdated. Assumes nothing.
use Prim.Native.Nat.{ℕ, ◌≤◌, ◌<◌}
use mathlib.Core.Path.{◌≡◌, refl, sym, ap}
use mathlib.Core.Bool.{false, false≢true}
use mathlib.Core.List.{List}
use native.Mathlib.Omega.{arith}
use lib.ListN.{length}
use Rattle.encoding.proofs.Logic.{by_test, clash}
use Rattle.recovery.specs.Log.{Image, image}
use Rattle.recovery.specs.Sheet.{sealed}
use Rattle.recovery.specs.declared.Refusal.TheVariants.{WrongSizes}
use Rattle.recovery.specs.declared.State.{State}
use Rattle.recovery.specs.declared.Answer.TheVariants.{Stored}
use Rattle.recovery.specs.Numbers.{is_refused}
use Rattle.recovery.specs.World.{World, Result}
use Rattle.recovery.specs.Lent.{Left, highest_start_of, lent, whole, refused}
use Rattle.recovery.proofs.HighestStart.{none_later}
use Rattle.calls.specs.Calls.{Call, write, call}
use Rattle.calls.specs.Leaves.{lower, call_leaves}
use Rattle.calls.proofs.EveryCall.{Ways, file_of, warmed, every_call}

-- ---- no call changes it

SameFloor : World → Result → Type 0
SameFloor w r = r.1.floor ≡ w.floor

ways : (w : World) (k : Call) (v : World) → v.floor ≡ w.floor → Ways (SameFloor w) k v
unfolding SameFloor
ways w k v h = record { refusing = λ n p l. h; answering = λ a q k. h; changing = λ a r q k. h; growing = λ g fates rows n q k. h }

pub floor_stays : (s fates rows : List ℕ) (state : State) (k : Call) → (call_leaves s fates rows state k).state.floor ≡ state.floor
unfolding call_leaves SameFloor
floor_stays s fates rows state k =
    let w : World = lent s fates rows state in
    by_test (λ (x : Left). x.state.floor ≡ state.floor) (whole (length s) (length rows)) {x = lower s state.end (call w k)} {y = refused WrongSizes 0 s fates rows state}
    (λ e. every_call (SameFloor w) w k (ways w k w refl) (ways w k (warmed w (file_of k)) refl)) (λ e. refl)

-- ---- a write that is answered starts above it

Late : World → ℕ → Result → Type 0
Late w start r = is_refused r.0 ≡ false → w.floor < start

late_ways : (w v : World) (f start a : ℕ) (value : List ℕ) → v.floor ≡ w.floor → Ways (Late w start) (write f start a value) v
unfolding Late is_refused
late_ways w v f start a value h = record {
  refusing = λ n p l q. absurd (false≢true (sym q));
  answering = λ x q k _. rw (← h) k;
  changing = λ x r q k _. rw (← h) k;
  growing = λ g fates rows n q k _. rw (← h) k;
}

module _ (s fates rows : List ℕ) (state : State) (f start a : ℕ) (value : List ℕ) (place : ℕ) where
  pub above_floor : (call_leaves s fates rows state (write f start a value)).answer ≡ Stored place → state.floor < start
  unfolding call_leaves Late is_refused
  above_floor =
      let w : World = lent s fates rows state in
      by_test (λ (x : Left). x.answer ≡ Stored place → state.floor < start) (whole (length s) (length rows))
      {x = lower s state.end (call w (write f start a value))} {y = refused WrongSizes 0 s fates rows state} (λ _ h.
      every_call (Late w start) w (write f start a value) (late_ways w w f start a value refl) (late_ways w (warmed w (file_of (write f start a value))) f start a value refl) (ap is_refused h)) (λ _ h. clash cc)

  -- and so above every sealed image of a sheet whose highest start is no higher than the floor
  pub not_backdated : (t : List ℕ) (files : ℕ) → highest_start_of t files ≤ state.floor → (call_leaves s fates rows state (write f start a value)).answer ≡ Stored place
      → (p : ℕ) (i : Image) → sealed files t p ≡ image i → i.start < start
  not_backdated t files h e p i q = omega (arith, h, above_floor e, none_later files t p i q)
