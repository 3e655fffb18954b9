-- Refusals change nothing: a refused call leaves the sheet, the fates and the state as they were, and the rows too, but that the
-- row asked for may have gone from cold to rebuilt. Shuts out a store that counts an action before it finds no room for it. And a
-- call is refused by its own lines alone, none by 14, whose number is not used. Shuts out a store that gives up a long walk.
-- Assumes nothing.
use Prim.Native.Nat.{ℕ}
use mathlib.Core.Path.{◌≡◌, refl, sym, ap, ◌∙◌}
use mathlib.Core.Bool.{Bool, true, false, cond}
use mathlib.Core.List.{List}
use mathlib.Core.Logic.{◌⊎◌, inl, inr}
use native.Mathlib.Omega.{arith}
use lib.ListN.{length}
use borrow.Author.Tests.{eq-eqb}
use Rattle.encoding.proofs.Logic.{by_test}
use Rattle.recovery.specs.Places.{put}
use Rattle.recovery.specs.declared.Refusal.{Refusal}
use Rattle.recovery.specs.declared.Refusal.TheVariants.{WrongSizes, BadPage, NoFile, LongValue, NoAction, AlreadyDecided, DamagedRow, OtherToken, HangingRead, EarlyStart, NoRoom, NotBlank, LostLink, UndecidedAction, UnfinishedMove, OnOlderSheet}
use Rattle.recovery.specs.declared.State.{State}
use Rattle.recovery.specs.declared.Answer.{Answer}
use Rattle.recovery.specs.declared.Answer.TheVariants.{Refused, Stored}
use Rattle.recovery.specs.World.{World, Result, with_row, warm_row}
use Rattle.recovery.specs.Lent.{Left, lent, whole, rows_of, flat, refused}
use Rattle.recovery.proofs.Leaves.{rows_back}
use Rattle.calls.specs.Calls.{Call, append, call}
use Rattle.calls.specs.Leaves.{lower, call_leaves}
use Rattle.recovery.specs.Numbers.{refusal_number, is_refused}
use Rattle.calls.specs.Lines.{lines, among}
use Rattle.calls.proofs.EveryCall.{Ways, file_of, warmed, line_1, every_call}

-- no refusal has that number
pub no_14 : (n : Refusal) → refusal_number n ≡ 14 → ⊥
no_14 WrongSizes h = absurd (omega arith)
no_14 BadPage h = absurd (omega arith)
no_14 NoFile h = absurd (omega arith)
no_14 LongValue h = absurd (omega arith)
no_14 NoAction h = absurd (omega arith)
no_14 AlreadyDecided h = absurd (omega arith)
no_14 DamagedRow h = absurd (omega arith)
no_14 OtherToken h = absurd (omega arith)
no_14 HangingRead h = absurd (omega arith)
no_14 EarlyStart h = absurd (omega arith)
no_14 NoRoom h = absurd (omega arith)
no_14 NotBlank h = absurd (omega arith)
no_14 LostLink h = absurd (omega arith)
no_14 UndecidedAction h = absurd (omega arith)
no_14 UnfinishedMove h = absurd (omega arith)
no_14 OnOlderSheet h = absurd (omega arith)

-- this world, or this world with the row of a file rebuilt if it is cold
unfoldable pub Same : World → ℕ → World → Type 0
Same w f w' = (w' ≡ w) ⊎ (w' ≡ warmed w f)

-- if a call ends so, refused, it is by one of its lines, and nothing more has changed
abbrev Quiet : World → Call → Result → Type 0
Quiet w k r = (n : Refusal) (p : ℕ) → r.0 ≡ Refused n p → Same w (file_of k) r.1 × (among (lines k) n ≡ true)

module _ (w : World) (k : Call) where
  quiet : (a : Answer) (w' : World) → is_refused a ≡ false → Quiet w k (a, w')
  unfolding is_refused
  quiet a w' h n p e = let z : ◌≡◌ {A = ℕ} 0 1 = ap (λ (b : Bool). cond b 1 0) (sym h ∙ ap is_refused e) in absurd (omega arith)

  ways : (v : World) → Same w (file_of k) v → Ways (Quiet w k) k v
  unfolding is_refused
  ways v s = record {
    refusing = λ n p l m q e. let z : n ≡ m = cc in (s, rw z at l);
    answering = λ a h _. quiet a v h;
    changing = λ a r h _. quiet a (with_row v (file_of k) r) h;
    growing = λ g fates rows n _ _. quiet (Stored _) (append v g fates rows n) refl;
  }

  quietly : Quiet w k (call w k)
  unfolding Same
  quietly = every_call (Quiet w k) w k (ways w (inl refl)) (ways (warmed w (file_of k)) (inr refl))

pub refusals_change_nothing : (w : World) (k : Call) (n : Refusal) (p : ℕ) → (call w k).0 ≡ Refused n p → Same w (file_of k) (call w k).1
refusals_change_nothing w k n p e = (quietly w k n p e).0

-- and so of what is lent
pub record Unchanged (s fs rs : List ℕ) (st : State) (f : ℕ) (l : Left) : Type 0 where
  pub sheet : l.sheet ≡ s
  pub fates : l.fates ≡ fs
  pub state : l.state ≡ st
  pub rows : (l.rows ≡ rs) ⊎ (l.rows ≡ flat (put (rows_of rs) f (warm_row (lent s fs rs st) f)))

module _ (s fs rs : List ℕ) (st : State) where
  lowered : (f : ℕ) (a : Answer) (w : World) → whole (length s) (length rs) ≡ true → Same (lent s fs rs st) f w → Unchanged s fs rs st f (lower s st.end (a, w))
  unfolding Same
  lowered f a w h (inl e) =
      rw e (record { sheet = rw (eq-eqb st.end st.end refl); fates = refl; state = refl; rows = inl (rows_back s fs rs st h) })
  lowered f a w h (inr e) =
      rw e (record { sheet = rw (eq-eqb st.end st.end refl); fates = refl; state = refl; rows = inr refl })

  pub refused_unchanged : (k : Call) (n : Refusal) (p : ℕ) → (call_leaves s fs rs st k).answer ≡ Refused n p → Unchanged s fs rs st (file_of k) (call_leaves s fs rs st k)
  unfolding call_leaves
  refused_unchanged k n p = go (whole (length s) (length rs)) refl
    where
      go : (b : Bool) → whole (length s) (length rs) ≡ b → (cond b (lower s st.end (call (lent s fs rs st) k)) (refused WrongSizes 0 s fs rs st)).answer ≡ Refused n p
          → Unchanged s fs rs st (file_of k) (cond b (lower s st.end (call (lent s fs rs st) k)) (refused WrongSizes 0 s fs rs st))
      go true h e =
          lowered (file_of k) (call (lent s fs rs st) k).0 (call (lent s fs rs st) k).1 h (refusals_change_nothing (lent s fs rs st) k n p e)
      go false h e = record { sheet = refl; fates = refl; state = refl; rows = inl refl }

  -- ---- by which lines

  pub own_lines : (k : Call) (n : Refusal) (p : ℕ) → (call_leaves s fs rs st k).answer ≡ Refused n p → among (lines k) n ≡ true
  unfolding call_leaves
  own_lines k n p =
      by_test (λ (l : Left). l.answer ≡ Refused n p → among (lines k) n ≡ true) (whole (length s) (length rs))
      {x = lower s st.end (call (lent s fs rs st) k)} {y = refused WrongSizes 0 s fs rs st}
      (λ h e. (quietly (lent s fs rs st) k n p e).1) (λ h e. let z : WrongSizes ≡ n = cc in rw z at (line_1 k))

  pub not_14 : (k : Call) (n : Refusal) (p : ℕ) → (call_leaves s fs rs st k).answer ≡ Refused n p → refusal_number n ≡ 14 → ⊥
  not_14 k n p e = no_14 n
