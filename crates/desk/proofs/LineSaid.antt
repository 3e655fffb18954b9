-- A line of input: what its command does, and the bytes of its reply. Assumes nothing.
use Rattle.std.proofs.Common.{Option, Some, None, is_some}
use Prim.Native.Nat.{ℕ, zero, suc, ◌-◌, ◌*◌, min}
use mathlib.Core.Path.{◌≡◌, sym, ap, ◌∙◌}
use mathlib.Core.List.{List, [], ◌∷◌, ◌++◌}
use mathlib.Core.Bool.{true, false, cond}
use native.Mathlib.Omega.{arith}
use lib.ListN.{length, take, drop, length-drop, drop_of_length-le}
use lib.Seq.{take_all}
use borrow.Author.Tests.{eq-eqb, ne_eqb}
use borrow.Rule.Slice.PartMut.{put_mid, Post-is}
use Rattle.encoding.proofs.Logic.{and_false}
use Rattle.page.specs.Layout.{most_files}
use Rattle.recovery.specs.declared.State.{State}
use Rattle.recovery.specs.declared.Done.{Done}
use Rattle.recovery.specs.World.{is_file}
use Rattle.recovery.specs.Lent.{left_by, row_length, open_leaves}
use Rattle.recovery.specs.Numbers.{numbers_of, is_refused}
use Rattle.calls.specs.declared.asking.Call.{Call}
use Rattle.commands.specs.declared.printing.Reply as reply
use Rattle.commands.specs.declared.printing.Reply.{Reply}
use Rattle.commands.specs.Commands.{parsed}
use Rattle.commands.specs.Replies.{prints}
use Rattle.desk.specs.declared.talking.Desk.{Desk}
use Rattle.desk.specs.declared.talking.Turn.{Turn}
use Rattle.desk.specs.Wording.{open_reply, shown}
use Rattle.desk.specs.Conversation.{acted, opened_by, opened_for, lending, replied, is_open, called_for, started_for, conversed, spoken, said_to}
use Rattle.desk.specs.TalkSteps.{left_after, left_said}

-- the rest of a line from an index on, as the code cuts it
pub rest_is : (s : List ℕ) (from at n : ℕ) → n ≡ length s → at ≡ min from n → take (n - at) (drop at s) ≡ drop from s
rest_is s from at n l e = take_all (n - at) (drop at s) (omega (arith, length-drop at s)) ∙ go s from at (rw l at e)
  where
    go : (s : List ℕ) (from at : ℕ) → at ≡ min from (length s) → drop at s ≡ drop from s
    go [] from at e = let z : at ≡ 0 = omega arith in rw z (sym (drop_of_length-le {A = ℕ} [] {i = from} (omega arith)))
    go (b ∷ s) zero at e = let z : at ≡ 0 = omega arith in rw z
    go (b ∷ s) (suc from) zero e = absurd (omega arith)
    go (b ∷ s) (suc from) (suc at) e = go s from at (omega arith)

-- ---- rows lent from the front of all there are

lent_front : (rows ys : List ℕ) (n : ℕ) → put_mid 0 (n - 0) rows ys ≡ ys ++ drop n rows
lent_front rows ys n = ap (λ z. ys ++ z) (Post-is 0 n rows (omega arith))

front_part : (rows : List ℕ) (n : ℕ) → take (n - 0) (drop 0 rows) ≡ take n rows
front_part rows n = let z : n - 0 ≡ n = omega arith in rw z

-- an opening
pub open_left : (d : Desk) (s fates rows s' fates' rows' : List ℕ) (done : Done) (files floor : ℕ) (r : Reply) (o : Option State) → left_by done s' fates' rows' ≡ open_leaves s fates rows floor
    → r ≡ open_reply (numbers_of done.answer) → o ≡ cond (is_refused done.answer) None (Some done.state)
    → left_after (record { reply = r; desk = record { files = files; state = o; cut = d.cut } }) s' fates' rows' ≡ opened_for d s fates rows files floor
unfolding opened_for
open_left d s fates rows s' fates' rows' done files floor r o h p q = rw (p, q) (ap (opened_by d files) h)

module _ (d : Desk) (s fates rows : List ℕ) (t : Turn) where
  pub start_refused : (files floor : ℕ) → is_file most_files files ≡ false
      → t ≡ record { reply = reply.Reply.No 1 0; desk = record { files = d.files; state = None; cut = d.cut } } → left_after t s fates rows ≡ started_for d s fates rows files floor
  unfolding started_for
  start_refused files floor e h = rw (e, h)

  pub start_opened : (files floor n : ℕ) (fates' rows'' : List ℕ) → is_file most_files files ≡ true → n ≡ row_length * files
      → left_after t s fates' rows'' ≡ opened_for d s fates (take (n - 0) (drop 0 rows)) files floor → left_after t s fates' (put_mid 0 (n - 0) rows rows'') ≡ started_for d s fates rows files floor
  unfolding started_for
  start_opened files floor n fates' rows'' e q h =
      let k : left_after t s fates' rows'' ≡ opened_for d s fates (take n rows) files floor = h ∙ ap (λ x. opened_for d s fates x files floor) (front_part rows n) in
      ap (left_after t s fates') (lent_front rows rows'' n) ∙ ap (lending rows n) k
      ∙ ap (λ m. lending rows m (opened_for d s fates (take m rows) files floor)) q
      ∙ sym (ap (λ b. cond b (lending rows (row_length * files) (opened_for d s fates (take (row_length * files) rows) files floor))
      (replied (reply.Reply.No 1 0) (record { files = d.files; state = None; cut = d.cut }) s fates rows)) e)

  -- a call
  module _ (k : Call) (value : List ℕ) where
    pub call_closed : is_open d ≡ false → t ≡ record { reply = reply.Reply.Closed; desk = d } → left_after t s fates rows ≡ called_for d s fates rows k value
    unfolding called_for
    call_closed e h =
        ap (λ u. left_after u s fates rows) h
        ∙ sym (ap (λ b. cond b (lending rows (row_length * d.files) (acted d s fates (take (row_length * d.files) rows) k value)) (replied reply.Reply.Closed d s fates rows)) e)

    pub call_made : (n : ℕ) (s' fates' rows'' : List ℕ) → is_open d ≡ true → n ≡ row_length * d.files
        → left_after t s' fates' rows'' ≡ acted d s fates (take (n - 0) (drop 0 rows)) k value → left_after t s' fates' (put_mid 0 (n - 0) rows rows'') ≡ called_for d s fates rows k value
    unfolding called_for
    call_made n s' fates' rows'' e q h =
        let z : left_after t s' fates' rows'' ≡ acted d s fates (take n rows) k value = h ∙ ap (λ x. acted d s fates x k value) (front_part rows n) in
        ap (left_after t s' fates') (lent_front rows rows'' n) ∙ ap (lending rows n) z ∙ ap (λ m. lending rows m (acted d s fates (take m rows) k value)) q
        ∙ sym (ap (λ b. cond b (lending rows (row_length * d.files) (acted d s fates (take (row_length * d.files) rows) k value)) (replied reply.Reply.Closed d s fates rows)) e)

-- there is a state, for files whose rows can be lent
pub no_state : (d : Desk) → d.state ≡ None → is_open d ≡ false
no_state d e = rw e

pub not_lent : (d : Desk) → is_file most_files d.files ≡ false → is_open d ≡ false
not_lent d f = and_false (is_some d.state) (is_file most_files d.files) f

pub is_lent : (d : Desk) {state : State} → d.state ≡ Some state → is_file most_files d.files ≡ true → is_open d ≡ true
is_lent d e f = rw (e, f)

-- ---- what is said

module _ (d : Desk) (s fates rows line out : List ℕ) where
  pub not_set_up : (length rows ≡ row_length * most_files → ⊥) → left_said (record { desk = d; count = 0 }) s fates rows out ≡ said_to d s fates rows line out
  unfolding said_to
  not_set_up e = rw (ne_eqb (length rows) (row_length * most_files) e)

  pub said_so : (t : Turn) (s' fates' rows' out' : List ℕ) (n : ℕ) → length rows ≡ row_length * most_files → left_after t s' fates' rows' ≡ conversed d s fates rows (parsed line) line
      → ◌≡◌ {A = ℕ × List ℕ} (n, out') (prints t.reply (shown t.reply s') out) → left_said (record { desk = t.desk; count = n }) s' fates' rows' out' ≡ said_to d s fates rows line out
  unfolding said_to
  said_so t s' fates' rows' out' n e h p =
      (λ i. left_said (record { desk = t.desk; count = (p i).0 }) s' fates' rows' (p i).1) ∙ ap (spoken out) h
      ∙ sym (ap (λ b. cond b (spoken out (conversed d s fates rows (parsed line) line)) (record { said = record { desk = d; count = 0 }; sheet = s; fates = fates; rows = rows; out = out }))
      (eq-eqb (length rows) (row_length * most_files) e))
