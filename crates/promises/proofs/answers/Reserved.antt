-- The reserve holds: begin and write leave a page for the outcome of every undecided action, also where they are torn.
use Prim.Native.Nat.{ℕ, zero, suc, pred, ◌+◌, ◌-◌, ◌≤◌, ◌/◌}
use mathlib.Core.Path.{◌≡◌, refl, sym, ap, ◌∙◌, subst}
use mathlib.Core.List.{List, [], ◌∷◌}
use mathlib.Core.Bool.{Bool, true, false, cond, not, ◌||◌, true≢false, ◌&&◌}
use mathlib.Core.Option.{some}
use mathlib.Core.Logic.{◌⊎◌, inl, inr}
use native.Mathlib.Omega.{arith}
use lib.ListN.{length, get_or}
use lib.Dec.{eqb, leb}
use borrow.Author.Tests.{leb-true, le-leb, eqb-false, eq-eqb}
use Rattle.page.specs.Layout.{kind_at, mark_at, page_size}
use Rattle.recovery.specs.Places.{nth}
use Rattle.recovery.specs.Log.{undecided, fate_of}
use Rattle.recovery.specs.World.{fate_number, fates_of, undecided_of}
use Rattle.recovery.specs.declared.Answer.TheVariants.{Stored, Told}
use Rattle.recovery.proofs.Places.{nth_tabulate}
use Rattle.recovery.proofs.LogFates.{undecided_known}
use Rattle.calls.specs.Calls.{Call, begin, write, read, test, decide, rebuild}
use Rattle.promises.specs.Runs.{Box, on, off, Event, calls, opens, cuts, moves, cuts_move, takes_place, bytes_of_move, is_moved, moved_in, answer_to, after, runs, AllAllowed, blank_box, Run}
use Rattle.promises.specs.Promises.{NoTornOutcome}
use Rattle.promises.specs.Model.{Model, Reply, stores, has_room, model_call, model_opened, model_cut, model_after, is_opened, model_moved}
use Rattle.promises.proofs.logs.Logs.{known_place}
use Rattle.promises.proofs.worlds.ModelCalls.{begins, writes, reads, tests, decides, rebuilds}
use Rattle.promises.proofs.boxes.Boxes.{is_on, Reached}
use Rattle.promises.proofs.boxes.BoxRuns.{model_is, cut_model, reached_next, reached_on, reached_blank, reached, answer_is, pages_after, pages_on}
use Rattle.promises.proofs.logs.Fates.{same_fate}
use Rattle.promises.proofs.boxes.Found.{told_fate}
use Rattle.promises.proofs.answers.Seen.{status_by}

-- ---- a page is left for each undecided action

-- an outcome's page is stored whole or not at all
abbrev WholeOutcome : Call → (ℕ → Bool) → Type 0
WholeOutcome k kept = (a : ℕ) (c : Bool) → k ≡ decide a c → kept kind_at ≡ kept mark_at

abbrev LeftFor : Model → Type 0
LeftFor m = m.undecided + m.used ≤ m.pages

room_is : (m : Model) (n : ℕ) → 1 ≤ n → has_room m n ≡ true → n + m.used ≤ m.pages
room_is m n h e = omega (arith, leb-true n (m.pages - m.used) e)

module _ (m : Model) (h : LeftFor m) where
  fewer : (u : ℕ) → 1 + m.used ≤ m.pages → u + m.used ≤ m.pages → pred u + suc m.used ≤ m.pages
  fewer zero a b = omega arith
  fewer (suc u) a b = omega arith

  abbrev Keeps : Reply → Type 0
  Keeps r = LeftFor r.1

  call_keeps : (k : Call) → LeftFor (model_call m k).1
  call_keeps begin = begins Keeps m (λ n p. h) (λ e. omega (arith, room_is m (m.undecided + 2) (omega arith) e))
  call_keeps (write f s a v) = writes Keeps m (λ n p. h) f s a v (λ j k e. omega (arith, room_is m (m.undecided + 1) (omega arith) e))
  call_keeps (read f t a) = reads Keeps m (λ n p. h) f t a (λ x e. h) (λ e. h) (λ x e j k. h)
  call_keeps (test a) = tests Keeps m (λ n p. h) a (λ n p. h)
  call_keeps (decide a c) = decides Keeps m (λ n p. h) a c (λ p. h) (λ q e. fewer m.undecided (room_is m 1 (omega arith) e) h)
  call_keeps (rebuild f) = rebuilds Keeps m (λ n p. h) f (λ x. h)

  -- a torn page: none was appended, or there was room for it and the outcomes
  abbrev Tears : Reply → Type 0
  Tears r = (r.1.used ≡ m.used) ⊎ (m.undecided + suc m.used ≤ m.pages)

  call_tears : (k : Call) (kept : ℕ → Bool) → WholeOutcome k kept → kept kind_at ≡ true → kept mark_at ≡ false → Tears (model_call m k)
  call_tears begin kept w p q = begins Tears m (λ n p. inl refl) (λ e. inr (omega (arith, room_is m (m.undecided + 2) (omega arith) e)))
  call_tears (write f s a v) kept w p q = writes Tears m (λ n p. inl refl) f s a v (λ j k e. inr (omega (arith, room_is m (m.undecided + 1) (omega arith) e)))
  call_tears (read f t a) kept w p q = reads Tears m (λ n p. inl refl) f t a (λ x e. inl refl) (λ e. inl refl) (λ x e j k. inl refl)
  call_tears (test a) kept w p q = tests Tears m (λ n p. inl refl) a (λ n p. inl refl)
  call_tears (decide a c) kept w p q = absurd (true≢false (sym p ∙ w a c refl ∙ q))
  call_tears (rebuild f) kept w p q = rebuilds Tears m (λ n p. inl refl) f (λ x. inl refl)

  cut_keeps : (k : Call) (kept : ℕ → Bool) → WholeOutcome k kept → LeftFor (model_cut m k kept)
  cut_keeps k kept w = go (kept kind_at) (kept mark_at) (eqb (model_call m k).1.used m.used) refl refl refl
    where
      go : (a b c : Bool) → kept kind_at ≡ a → kept mark_at ≡ b → eqb (model_call m k).1.used m.used ≡ c
          → LeftFor (cond (c || not a) m (cond b (model_call m k).1 (stores m m.undecided m.status m.object)))
      go a b true e f g = h
      go false b false e f g = h
      go true true false e f g = call_keeps k
      go true false false e f g = torn (call_tears k kept w e f)
        where
          torn : ((model_call m k).1.used ≡ m.used) ⊎ (m.undecided + suc m.used ≤ m.pages) → m.undecided + suc m.used ≤ m.pages
          torn (inl q) = absurd (eqb-false (model_call m k).1.used m.used g q)
          torn (inr q) = q

  open_keeps : (floor : ℕ) (c : Bool) → LeftFor (cond c (model_opened m floor) m)
  open_keeps floor true = h
  open_keeps floor false = h

-- ---- along a run

-- the model of a box's next state: a move that takes place leaves nothing undecided, one that does not leaves it as it was
module _ (n files : ℕ) where
  abbrev Next : (b : Box) (r : Reached n files b) (e : Event) → Bool → Type 0
  Next b r e true = (model_after (is_on b) r.model e).undecided ≡ 0
  Next b r e false = LeftFor r.model → LeftFor (model_after (is_on b) r.model e)

  -- an outcome's page is not torn, while no move takes place since
  abbrev Whole : Event → Type 0
  Whole e = (a : ℕ) (c : Bool) (kept : ℕ → Bool) → e ≡ cuts (decide a c) kept → kept kind_at ≡ kept mark_at

  by_model : (b : Box) (r : Reached n files b) (e : Event) (pages : ℕ) (c : Bool) → model_after (is_on b) r.model e ≡ cond c (model_moved r.model pages) r.model → Next b r e c
  by_model b r e pages true q = ap (λ (m : Model). m.undecided) q
  by_model b r e pages false q = λ h. rw q h

  next : (b : Box) (r : Reached n files b) (e : Event) → Whole e → Next b r e (is_moved b e)
  next (on u) r (calls k) w = λ h. call_keeps r.model h k
  next (off s) r (calls k) w = λ h. h
  next b r (opens floor fates rows) w = λ h. open_keeps r.model h floor (is_opened r.model fates rows)
  next (on u) r (cuts k kept) w = λ h. cut_keeps r.model h k kept (λ a c q. w a c kept (ap (λ x. cuts x kept) q))
  next (off s) r (cuts k kept) w = λ h. h
  next (on u) r (moves fresh) w = by_model (on u) r (moves fresh) (length fresh / page_size) (takes_place u fresh) (model_is n files u r fresh)
  next (off s) r (moves fresh) w = λ h. h
  next (on u) r (cuts_move fresh k) w = by_model (on u) r (cuts_move fresh k) (length fresh / page_size) (takes_place u fresh && leb (bytes_of_move u) k) (cut_model n files u r fresh k)
  next (off s) r (cuts_move fresh k) w = λ h. h

  room_for_none : (b : Box) (r : Reached n files b) → r.model.undecided ≡ 0 → LeftFor r.model
  room_for_none b r z = omega (arith, z, r.at.says.used, r.at.holds.room, r.at.pages_are)

-- unless a move is still to come
abbrev Spares : (n files : ℕ) (b : Box) → Reached n files b → List Event → Type 0
Spares n files b r es = moved_in b es ≡ false → LeftFor r.model

spared : (n files : ℕ) (b : Box) (r : Reached n files b) (es : List Event) (t : AllAllowed files b es) → NoTornOutcome b es → Spares n files b r es → LeftFor (reached_on n files b r es t).model
spared n files b r [] t w h = h refl
spared n files b r (e ∷ es) t w h =
    spared (pages_after n b e) files (after b e) (reached_next n files b r e t.0) es t.1 (λ es₁ es₂ a c kept q. w (e ∷ es₁) es₂ a c kept (ap (λ l. e ∷ l) q))
    (λ q. go (is_moved b e) refl q (next n files b r e (λ a c kept x. w [] es a c kept (ap (λ d. d ∷ es) x) (subst (λ d. moved_in (after b d) es ≡ false) x q))))
  where
    go : (c : Bool) → is_moved b e ≡ c → moved_in (after b e) es ≡ false → Next n files b r e c → LeftFor (reached_next n files b r e t.0).model
    go true m q x = room_for_none (pages_after n b e) files (after b e) (reached_next n files b r e t.0) x
    go false m q x = x (h (rw (m, q)))

-- ---- an undecided action is counted

module _ (n files : ℕ) where
  counted : (l : List ℕ) (i : ℕ) → get_or l i 0 ≡ 1 → 1 ≤ undecided_of l
  unfolding undecided_of
  counted [] i e = absurd (omega arith)
  counted (x ∷ l) zero e = rw (eq-eqb x 1 e) (omega arith)
  counted (x ∷ l) (suc i) e = omega (arith, counted l i e)

  counted_at : (l : List ℕ) (a : ℕ) → nth 0 l a ≡ 1 → 1 ≤ undecided_of l
  counted_at l zero e = absurd (omega arith)
  counted_at l (suc i) e = counted l i e

  some_open : (b : Box) (m : Reached n files b) (a : ℕ) → fate_of m.log a ≡ undecided → 1 ≤ m.model.undecided
  some_open b m a u =
      let p = known_place m.log a m.at.holds.lawful (undecided_known u) in
      let c = counted_at (fates_of m.model.pages m.log) a (nth_tabulate (λ x. fate_number (fate_of m.log x)) m.model.pages a 0 p.0 (omega (arith, p.1, m.at.holds.room, m.at.pages_are)) ∙ ap fate_number u) in
      omega (arith, m.at.says.undecided, c)

  can_decide : (b : Box) (m : Reached n files b) → LeftFor m.model → (action p : ℕ) (c : Bool) → answer_to b (calls (test action)) ≡ some (Told 1 p) → (place : ℕ) × (answer_to b (calls (decide action c)) ≡ some (Stored place))
  can_decide b m h action p c e =
      let t = told_fate n files b m action 1 p e in
      let u : fate_of m.log action ≡ undecided = same_fate t.2 in
      let room : 1 ≤ m.model.pages - m.model.used = omega (arith, some_open b m action u, h) in
      (suc m.model.used, answer_is n files b m (calls (decide action c)) tt ∙ rw (t.0, status_by n files b m action undecided u, le-leb 1 (m.model.pages - m.model.used) room))

pub run_reserved : (n files : ℕ) (es : List Event) → Run n files es → NoTornOutcome (blank_box n) es → (action p : ℕ) (c : Bool) → answer_to (runs (blank_box n) es) (calls (test action)) ≡ some (Told 1 p)
    → (place : ℕ) × (answer_to (runs (blank_box n) es) (calls (decide action c)) ≡ some (Stored place))
run_reserved n files es r w action p c e =
    can_decide (pages_on n (blank_box n) es) files (runs (blank_box n) es) (reached n files es r) (spared n files (blank_box n) (reached_blank n files r.sized) es r.allowed w (λ q. omega arith)) action p c e
