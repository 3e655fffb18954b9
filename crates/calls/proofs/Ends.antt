-- The ways a call ends, from what it does over decoded pages to what it leaves of what is lent: refused by line 1, an answer
-- alone, one row changed, a page appended. Every law ends in `call_leaves`, the contract. Assumes nothing.
use Prim.Native.Nat.{ℕ, suc, ◌/◌, ◌≤◌, ◌<◌}
use mathlib.Core.Path.{◌≡◌, refl, sym, ap, ◌∙◌}
use mathlib.Core.Bool.{Bool, true, false}
use mathlib.Core.List.{List}
use native.Mathlib.Omega.{arith}
use lib.ListN.{length, get_or, set}
use lib.Seq.{get_or-set_same}
use lib.Dec.{leb}
use borrow.Author.Tests.{eq-eqb, ne_eqb, leb-true}
use Rattle.encoding.proofs.Logic.{and_true}
use Rattle.page.specs.Layout.{page_size}
use Rattle.recovery.specs.Places.{put}
use Rattle.recovery.specs.Log.{Entry, blank}
use Rattle.recovery.specs.declared.Refusal.{Refusal}
use Rattle.recovery.specs.declared.Refusal.TheVariants.{WrongSizes}
use Rattle.recovery.specs.declared.Row.{Row}
use Rattle.recovery.specs.declared.State.{State}
use Rattle.recovery.specs.declared.Answer.{Answer}
use Rattle.recovery.specs.declared.Done.{Done}
use Rattle.recovery.specs.declared.Answer.TheVariants.{Refused, Stored}
use Rattle.recovery.specs.World.{is_file, with_row}
use Rattle.recovery.specs.Lent.{row_length, rows_of, flat, pages_of, lent, whole, Left, left_by, refused}
use Rattle.recovery.specs.Steps.{line_one, refusal, with_row_of}
use Rattle.recovery.proofs.Pages.{pages_long}
use Rattle.recovery.proofs.Sizes.{Sizes, sizes_right_lem}
use Rattle.recovery.proofs.Leaves.{rows_back, lent_right_lem, whole_is, put_row_lem}
use Rattle.calls.specs.Calls.{Call, call, on, append}
use Rattle.calls.specs.Leaves.{packed_entry, with_page, lower, call_leaves}

-- what line 1 lets through
pub record Lent (s f r e n : ℕ) : Type 0 where
  pub sizes : Sizes s f r
  pub end_in : e ≤ s / page_size
  pub few : n ≤ e

pub lent_is : (s f r e n : ℕ) → line_one s f r e n ≡ true → Lent s f r e n
unfolding line_one
lent_is s f r e n h =
    let a = and_true _ (leb n e) h in
    let b = and_true _ (leb e (s / page_size)) a.0 in
    record { sizes = sizes_right_lem s f r b.0; end_in = leb-true e (s / page_size) b.1; few = leb-true n e a.1 }

-- a refusal as the code makes it
pub by_refuse : (d : Done) (n : Refusal) (s fs rs : List ℕ) (st : State) {x : Left} → d ≡ refusal n st → refused n 0 s fs rs st ≡ x → left_by d s fs rs ≡ x
by_refuse d n s fs rs st h e = ap (λ (y : Done). left_by y s fs rs) h ∙ e

module _ (s fs rs : List ℕ) (st : State) (k : Call) where
  -- all that is left where nothing but the rows may change
  abbrev told : Answer → List ℕ → Left
  told a rows = record { answer = a; state = st; sheet = s; fates = fs; rows = rows }

  lower_same : whole (length s) (length rs) ≡ true → (a : Answer) → told a rs ≡ lower s st.end (a, lent s fs rs st)
  lower_same w a = rw (eq-eqb st.end st.end refl) (ap (told a) (sym (rows_back s fs rs st w)))

  -- line 1
  pub ends_line_1 : line_one (length s) (length fs) (length rs) st.end st.undecided ≡ false → refused WrongSizes 0 s fs rs st ≡ call_leaves s fs rs st k
  unfolding call_leaves call
  ends_line_1 h = go (whole (length s) (length rs)) refl
    where
      go : (b : Bool) → whole (length s) (length rs) ≡ b → refused WrongSizes 0 s fs rs st ≡ call_leaves s fs rs st k
      go true e = simp (e, lent_right_lem s fs rs st e ∙ h) (lower_same e (Refused WrongSizes 0))
      go false e = simp e

  module _ (h : line_one (length s) (length fs) (length rs) st.end st.undecided ≡ true) where
    pub leaves_on : call_leaves s fs rs st k ≡ lower s st.end (on (lent s fs rs st) k)
    unfolding call_leaves call
    leaves_on = simp (whole_is s fs rs st h, lent_right_lem s fs rs st (whole_is s fs rs st h) ∙ h)

    -- an answer that changes nothing
    pub ends_same : (a : Answer) → on (lent s fs rs st) k ≡ (a, lent s fs rs st) → told a rs ≡ call_leaves s fs rs st k
    ends_same a e = lower_same (whole_is s fs rs st h) a ∙ ap (lower s st.end) (sym e) ∙ sym leaves_on

    -- an answer that changes one row
    pub ends_row : (f : ℕ) (r : Row) (a : Answer) → on (lent s fs rs st) k ≡ (a, with_row (lent s fs rs st) f r) → is_file (length rs / row_length) f ≡ true
        → (xs : List ℕ) → xs ≡ with_row_of rs f r → told a xs ≡ call_leaves s fs rs st k
    ends_row f r a e g xs hx =
        let step : told a (flat (put (rows_of rs) f r)) ≡ lower s st.end (a, with_row (lent s fs rs st) f r) = rw (eq-eqb st.end st.end refl) in
        ap (told a) (hx ∙ put_row_lem s fs rs st f r (whole_is s fs rs st h) g) ∙ step ∙ ap (lower s st.end) (sym e) ∙ sym leaves_on

    -- a page appended
    pub ends_grown : (g : Entry) (fs' : List ℕ) (rs' : List Row) (n : ℕ) → on (lent s fs rs st) k ≡ (Stored (suc st.end), append (lent s fs rs st) g fs' rs' n)
        → st.end < length s / page_size → (s'' fs'' rs'' : List ℕ) → s'' ≡ with_page s st.end (packed_entry (suc st.end) g) → fs'' ≡ fs' → rs'' ≡ flat rs'
        → record { answer = Stored (suc st.end); state = record { end = suc st.end; floor = st.floor; undecided = n }; sheet = s''; fates = fs''; rows = rs'' } ≡ call_leaves s fs rs st k
    ends_grown g fs' rs' n e l s'' fs'' rs'' hs hf hr =
        let z : get_or (set (pages_of s (length rs / row_length)) st.end g) st.end blank ≡ g =
        get_or-set_same (pages_of s (length rs / row_length)) st.end g blank (rw (pages_long (length rs / row_length) (length s / page_size) s) l) in
        rw (hs, hf, hr, leaves_on, e, ne_eqb (suc st.end) st.end (λ q. omega arith), z)
