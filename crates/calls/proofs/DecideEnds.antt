-- Commit and abort: a decision asked again, the line that refuses them, what they ask of append and of the rows, and their ends.
-- Assumes nothing.
use Prim.Native.Nat.{ℕ, zero, suc, pred, ◌+◌, ◌-◌, ◌*◌, ◌/◌, ◌≤◌, ◌<◌}
use mathlib.Core.Path.{◌≡◌, refl, sym, ap, ◌∙◌}
use mathlib.Core.Bool.{Bool, true, false, cond, ◌&&◌}
use mathlib.Core.List.{List}
use native.Mathlib.Omega.{arith}
use native.Mathlib.Numerals.{add-one, sub-one}
use lib.ListN.{length, set, replicate}
use lib.Dec.{eqb}
use borrow.Author.Tests.{ne_eqb, eqb-true}
use Rattle.encoding.proofs.Logic.{by_test, and_true, clash}
use Rattle.std.specs.Prelude.{Ok, Err}
use Rattle.page.specs.declared.Page.{Page}
use Rattle.page.specs.Layout.{page_size, most_places, value_size}
use Rattle.page.specs.Table.{packed, meets_rules}
use Rattle.page.specs.Table as table
use Rattle.page.specs.Answers.{in_bounds}
use Rattle.page.proofs.Obeyed.{outcome_rules}
use Rattle.recovery.specs.Places.{nth, put}
use Rattle.recovery.specs.Log.{outcome, verdict}
use Rattle.recovery.specs.declared.Refusal.{Refusal}
use Rattle.recovery.specs.declared.Refusal.TheVariants.{WrongSizes, NoAction, AlreadyDecided}
use Rattle.recovery.specs.declared.State.{State}
use Rattle.recovery.specs.declared.Answer.TheVariants.{Refused, Stored}
use Rattle.recovery.specs.declared.Done.{Done}
use Rattle.recovery.specs.World.{World, Result, refuse, fate_number, fate_from, outcome_at}
use Rattle.recovery.specs.Lent.{row_length, rows_of, lent, refused, left_by}
use Rattle.recovery.specs.Steps.{line_one, outcome_in, refusal}
use Rattle.calls.specs.Calls.{decide, on, append, settled, each_row, on_decide, is_decided_as, if_undecided, for_undecided}
use Rattle.calls.specs.Leaves.{packed_entry, with_page, call_leaves}
use Rattle.calls.specs.LineSteps.{Line, free, and_then, known_fate, action_line, room_line}
use Rattle.calls.specs.DecideSteps.{decide_line, decided_again, settled_rows}
use Rattle.calls.proofs.Ends.{Lent, lent_is, ends_line_1, ends_same, ends_grown}
use Rattle.calls.proofs.AskedAgain.{again_unchanged}
use Rattle.calls.proofs.ActionLines.{acts, Known, acting, past_5, by_line, undecided_by}
use Rattle.calls.proofs.RoomLines.{room_not_6, room_is, room_by, append_fits}

-- ---- an outcome's fate

put_index : (l : List ℕ) (a v : ℕ) → 1 ≤ a → set l (a - 1) v ≡ put l a v
put_index l zero v h = absurd (omega arith)
put_index l (suc a) v h = rw sub-one

-- ---- the same decision, by the lent fate

other_fate : (c : Bool) (x : ℕ) → 3 < x → is_decided_as c (fate_from x) ≡ eqb x (fate_number (verdict c))
other_fate true x h = simp (ne_eqb x 1 (λ q. omega arith), ne_eqb x 2 (λ q. omega arith), ne_eqb x 3 (λ q. omega arith))
other_fate false x h = simp (ne_eqb x 1 (λ q. omega arith), ne_eqb x 2 (λ q. omega arith), ne_eqb x 3 (λ q. omega arith))

decided_as_lem : (c : Bool) (x : ℕ) → is_decided_as c (fate_from x) ≡ eqb x (fate_number (verdict c))
decided_as_lem true zero = refl
decided_as_lem false zero = refl
decided_as_lem true (suc zero) = refl
decided_as_lem false (suc zero) = refl
decided_as_lem true (suc (suc zero)) = refl
decided_as_lem false (suc (suc zero)) = refl
decided_as_lem true (suc (suc (suc zero))) = refl
decided_as_lem false (suc (suc (suc zero))) = refl
decided_as_lem c (suc (suc (suc (suc x)))) = other_fate c (suc (suc (suc (suc x)))) (omega arith)

-- ---- the line that refuses

module _ (s fs rs : List ℕ) (st : State) (a : ℕ) where
  pub line_1 : line_one (length s) (length fs) (length rs) st.end st.undecided ≡ false → Err WrongSizes ≡ decide_line s fs rs st a
  unfolding decide_line
  line_1 h = rw h

  -- what is known where line 6 refuses
  pub record Decided : Type 0 where
    pub fits : line_one (length s) (length fs) (length rs) st.end st.undecided ≡ true
    pub acts_is : acts fs st.end a ≡ true

  pub line_6 : Err AlreadyDecided ≡ decide_line s fs rs st a → Decided
  unfolding decide_line
  line_6 e = go (line_one (length s) (length fs) (length rs) st.end st.undecided) refl (action_line fs st.end a) refl e
    where
      go : (b : Bool) → line_one (length s) (length fs) (length rs) st.end st.undecided ≡ b → (l : Line) → l ≡ action_line fs st.end a
          → Err AlreadyDecided ≡ cond b (and_then l (λ _. room_line s st.end (length rs / row_length) 1)) (Err WrongSizes) → Decided
      go false h l k q = clash cc
      go true h (Ok u) k q = absurd (room_not_6 s st.end (length rs / row_length) 1 q)
      go true h (Err n) k q = record { fits = h; acts_is = past_5 fs st.end a (q ∙ k) }

  -- what is known where no line refuses
  pub record Ready : Type 0 where
    pub fits : line_one (length s) (length fs) (length rs) st.end st.undecided ≡ true
    pub none_is : decide_line s fs rs st a ≡ free
    pub act : Known fs st.end a 1
    pub room : st.end < length fs

  pub ready : free ≡ decide_line s fs rs st a → Ready
  unfolding decide_line
  ready e = go (line_one (length s) (length fs) (length rs) st.end st.undecided) refl (action_line fs st.end a) refl e
    where
      go : (b : Bool) → line_one (length s) (length fs) (length rs) st.end st.undecided ≡ b → (l : Line) → l ≡ action_line fs st.end a
          → free ≡ cond b (and_then l (λ _. room_line s st.end (length rs / row_length) 1)) (Err WrongSizes) → Ready
      go false h l k q = clash cc
      go true h (Err n) k q = clash cc
      go true h (Ok u) k q =
          let j = (lent_is (length s) (length fs) (length rs) st.end st.undecided h).sizes in
          let m = room_is s st.end (length rs / row_length) 1 q in
          record { fits = h; none_is = sym e; act = acting fs st.end a k; room = omega arith }

-- ---- the ends

joined : (a b : Bool) (x y z : Result) → cond a (cond b x y) z ≡ cond (a && b) x (cond a y z)
joined true b x y z = refl
joined false b x y z = refl

two_lines : (k : Result) (w : World) (x y : Line) → by_line w (by_line w k y) x ≡ by_line w k (and_then x (λ _. y))
two_lines k w (Ok u) y = refl
two_lines k w (Err n) y = refl

module _ (s fs rs : List ℕ) (st : State) (a : ℕ) (c : Bool) where
  abbrev w : World
  w = lent s fs rs st

  abbrev stored : Result
  stored = (Stored (suc st.end), append w (outcome a c) (put fs a (fate_number (verdict c))) (each_row (settled w a c) 0 (rows_of rs)) (pred st.undecided))

  first_line : line_one (length s) (length fs) (length rs) st.end st.undecided ≡ true → for_undecided w a (on_decide w a c) ≡ by_line w stored (decide_line s fs rs st a)
  unfolding decide_line
  first_line h =
      rw h
      (undecided_by w a (on_decide w a c)
      ∙ ap (λ (x : Result). by_line w x (action_line fs st.end a))
      (room_by (length rs / row_length) s fs (rows_of rs) st.end st.floor st.undecided 1 (omega arith) stored)
      ∙ two_lines stored w (action_line fs st.end a) (room_line s st.end (length rs / row_length) 1))

  -- asked again, after line 5: line 6 would refuse it
  abbrev again : Bool
  again = acts fs st.end a && eqb (nth 0 fs a) (fate_number (verdict c))

  decide_by : on w (decide a c) ≡ cond again (Stored (outcome_at w a), w) (for_undecided w a (on_decide w a c))
  decide_by = ap (λ b. cond (acts fs st.end a) (cond b (Stored (outcome_at w a), w) (if_undecided w a (on_decide w a c))) (refuse NoAction 0 w)) (decided_as_lem c (nth 0 fs a))
      ∙ joined (acts fs st.end a) (eqb (nth 0 fs a) (fate_number (verdict c))) _ _ _

  again_line : line_one (length s) (length fs) (length rs) st.end st.undecided ≡ true → again ≡ true → decide_line s fs rs st a ≡ Err AlreadyDecided
  unfolding decide_line action_line known_fate
  again_line h e =
      let k = and_true (acts fs st.end a) (eqb (nth 0 fs a) (fate_number (verdict c))) e in
      let n : nth 0 fs a ≡ fate_number (verdict c) = eqb-true _ _ k.1 in
      rw (h, k.0, n, verdict_line c (room_line s st.end (length rs / row_length) 1))
    where
      verdict_line : (d : Bool) (l : Line) → and_then (cond (eqb (fate_number (verdict d)) 1) free (Err AlreadyDecided)) (λ _. l) ≡ Err AlreadyDecided
      verdict_line true l = refl
      verdict_line false l = refl

  on_line : line_one (length s) (length fs) (length rs) st.end st.undecided ≡ true → (decide_line s fs rs st a ≡ Err AlreadyDecided → ⊥)
      → on w (decide a c) ≡ by_line w stored (decide_line s fs rs st a)
  on_line h n =
      decide_by
      ∙ by_test (λ (x : Result). x ≡ by_line w stored (decide_line s fs rs st a)) again
      {x = (Stored (outcome_at w a), w)} {y = for_undecided w a (on_decide w a c)} (λ e. absurd (n (again_line h e))) (λ e. first_line h)

  pub decide_again : Err AlreadyDecided ≡ decide_line s fs rs st a → (d : Done) → d ≡ decided_again s fs (length rs / row_length) st a c → left_by d s fs rs ≡ call_leaves s fs rs st (decide a c)
  unfolding decided_again outcome_in
  decide_again e d hd =
      let k = line_6 s fs rs st a e in
      ap (λ (y : Done). left_by y s fs rs) hd ∙ go k.fits k.acts_is (eqb (nth 0 fs a) (fate_number (verdict c))) refl
    where
      go : line_one (length s) (length fs) (length rs) st.end st.undecided ≡ true → acts fs st.end a ≡ true → (b : Bool) → eqb (nth 0 fs a) (fate_number (verdict c)) ≡ b
          → left_by (cond b (record { answer = Stored (outcome_at w a); state = st }) (refusal AlreadyDecided st)) s fs rs ≡ call_leaves s fs rs st (decide a c)
      go h k true q = sym (again_unchanged s fs rs st a c h k (decided_as_lem c (nth 0 fs a) ∙ q))
      go h k false q =
          let n : again ≡ false = rw (k, q) in
          ends_same s fs rs st (decide a c) h (Refused AlreadyDecided 0) (decide_by ∙ ap (λ b. cond b (Stored (outcome_at w a), w) (for_undecided w a (on_decide w a c))) n ∙ first_line h ∙ rw (← e))

  -- a line refuses
  pub decide_refused : (n : Refusal) → Err n ≡ decide_line s fs rs st a → (n ≡ AlreadyDecided → ⊥) → refused n 0 s fs rs st ≡ call_leaves s fs rs st (decide a c)
  decide_refused n e m = go (line_one (length s) (length fs) (length rs) st.end st.undecided) refl
    where
      go : (b : Bool) → line_one (length s) (length fs) (length rs) st.end st.undecided ≡ b → refused n 0 s fs rs st ≡ call_leaves s fs rs st (decide a c)
      go false h = let k = line_1 s fs rs st a h in let z : n ≡ WrongSizes = cc in rw z (ends_line_1 s fs rs st (decide a c) h)
      go true h = ends_same s fs rs st (decide a c) h (Refused n 0) (on_line h (λ q. m cc) ∙ rw (← e))

  module _ (r : Ready s fs rs st a) where
    sure : Lent (length s) (length fs) (length rs) st.end st.undecided
    sure = lent_is _ _ _ _ _ r.fits

    room' : st.end < length s / page_size
    room' = rw sure.sizes.fates_are at r.room

    -- what the code asks on the way
    pub end_low : st.end < most_places
    end_low = let k = sure.sizes in omega (arith, r.room)

    pub rows_whole : row_length * (length rs / row_length) ≡ length rs
    rows_whole = sure.sizes.numbers_are

    verdict_low : (d : Bool) → (1 ≤ cond d 1 2) × (cond d 1 2 ≤ 2)
    verdict_low true = (omega arith, omega arith)
    verdict_low false = (omega arith, omega arith)

    pub outcome_asked : (page : Page) → page ≡ table.outcome a (cond c 1 2) → (page_size * st.end + page_size ≤ length s) × (in_bounds page_size (suc st.end) (length rs / row_length) ≡ true)
        × (meets_rules page (replicate value_size 0) (suc st.end) (length rs / row_length) ≡ true)
    outcome_asked page e =
        let q = append_fits (length s) (length fs) (length rs) st.end st.undecided r.fits room' in
        let k : a ≤ st.end = r.act.high in
        let m : meets_rules (table.outcome a (cond c 1 2)) (replicate value_size 0) (suc st.end) (length rs / row_length) ≡ true =
        outcome_rules a (cond c 1 2) (suc st.end) (length rs / row_length) r.act.low (omega arith) (verdict_low c).0 (verdict_low c).1 in
        (q.0, q.1, ap (λ (p : Page). meets_rules p (replicate value_size 0) (suc st.end) (length rs / row_length)) e ∙ m)

    pub decide_done : (page : Page) → page ≡ table.outcome a (cond c 1 2) → (s'' rs'' : List ℕ) (q n : ℕ) → s'' ≡ with_page s st.end (packed page (replicate value_size 0) (suc st.end))
        → q ≡ fate_number (verdict c) → rs'' ≡ settled_rows s (length rs / row_length) st.end a c rs → n ≡ pred st.undecided
        → record { answer = Stored (st.end + 1); state = record { end = st.end + 1; floor = st.floor; undecided = n }; sheet = s''; fates = set fs (a - 1) q; rows = rs'' }
        ≡ call_leaves s fs rs st (decide a c)
    unfolding packed_entry settled_rows
    decide_done page hp s'' rs'' q n hs hq hr hn =
        let e : st.end + 1 ≡ suc st.end = add-one st.end in
        rw (e, hn) (ends_grown s fs rs st (decide a c) r.fits (outcome a c) (put fs a (fate_number (verdict c))) (each_row (settled (lent s fs rs st) a c) 0 (rows_of rs)) (pred st.undecided)
        (on_line r.fits (λ q. let n = r.none_is in clash cc) ∙ rw r.none_is) room' s'' (set fs (a - 1) q) rs'' (rw hp at hs) (ap (λ (v : ℕ). set fs (a - 1) v) hq ∙ put_index fs a (fate_number (verdict c)) r.act.low) hr)
