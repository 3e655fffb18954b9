-- A call writes nothing of the sheet but the page above the end: every other byte is as it was, and so is the sheet's length. Shuts
-- out a store that mends or moves an old page. Assumes nothing.
use Prim.Native.Nat.{ℕ, suc, ◌+◌, ◌*◌, ◌/◌, ◌≤◌, ◌<◌}
use mathlib.Core.Path.{◌≡◌, refl, sym, ◌∙◌}
use mathlib.Core.Bool.{Bool, true, false, cond}
use mathlib.Core.List.{List, ◌++◌, append_assoc}
use mathlib.Core.Logic.{◌⊎◌, inl, inr}
use native.Mathlib.Omega.{arith}
use lib.ListN.{length, take, drop, get_or, length-append, length-take, length-drop, get_or-append, set}
use lib.Seq.{get_or-take, get_or-drop, get_or-append-add, get_or-set_same}
use lib.Dec.{eqb}
use borrow.Author.Tests.{eq-eqb}
use Rattle.encoding.proofs.Logic.{by_test}
use Rattle.page.specs.Layout.{page_size, value_size}
use Rattle.page.proofs.RoundTrip.{length_packed}
use Rattle.recovery.specs.Log.{Entry, blank}
use Rattle.recovery.specs.declared.Refusal.TheVariants.{WrongSizes}
use Rattle.recovery.specs.declared.State.{State}
use Rattle.recovery.specs.World.{World, Result, entry_at}
use Rattle.recovery.specs.Lent.{lent, whole, row_length, refused}
use Rattle.recovery.proofs.Pages.{pages_long}
use Rattle.calls.specs.Calls.{Call, call}
use Rattle.calls.specs.Leaves.{packed_entry, with_page, fields_at, value_at, grown, lower, call_leaves}
use Rattle.calls.proofs.EveryCall.{Ways, file_of, warmed, every_call}

-- bytes that are the same but for the page above place q
pub record SameBut (q : ℕ) (s t : List ℕ) : Type 0 where
  pub long : length t ≡ length s
  pub below : (i : ℕ) → i < page_size * q → get_or t i 0 ≡ get_or s i 0
  pub above : (i : ℕ) → get_or t (page_size * q + page_size + i) 0 ≡ get_or s (page_size * q + page_size + i) 0

same : (q : ℕ) (s : List ℕ) → SameBut q s s
same q s = record { long = refl; below = λ i h. refl; above = λ i. refl }

above_page : (q : ℕ) (s page : List ℕ) → page_size * q + page_size ≤ length s → length page ≡ page_size → (i : ℕ)
    → get_or ((take (page_size * q) s ++ page) ++ drop (page_size * q + page_size) s) (page_size * q + page_size + i) 0 ≡ get_or s (page_size * q + page_size + i) 0
above_page q s page h l i =
    let n : length (take (page_size * q) s ++ page) ≡ page_size * q + page_size = simp (length-append, length-take) (omega arith) in
    rw n at (get_or-append-add (take (page_size * q) s ++ page) (drop (page_size * q + page_size) s) i 0) ∙ get_or-drop (page_size * q + page_size) s i 0

put : (q : ℕ) (s page : List ℕ) → page_size * q + page_size ≤ length s → length page ≡ page_size → SameBut q s (with_page s q page)
unfolding with_page
put q s page h l =
    let n : length (take (page_size * q) s) ≡ page_size * q = simp length-take (omega arith) in
    record {
      long = simp (length-append, length-drop) (omega arith);
      below = λ i k. get_or-append (take (page_size * q) s) (page ++ drop (page_size * q + page_size) s) 0 i (omega arith) ∙ get_or-take (page_size * q) s i 0 k;
      above = λ i. rw append_assoc at (above_page q s page h l i);
    }

-- ---- what a call makes of the end

-- no new page, or one where there is room for it
Added : World → Result → Type 0
Added w r = (r.1.end ≡ w.end) ⊎ ((w.end < length w.sheet) × (length (value_at (entry_at r.1 (suc w.end))) ≡ value_size))

-- from a world with the end and the sheet of the first
ways : (w : World) (k : Call) (v : World) → v.end ≡ w.end → v.sheet ≡ w.sheet → Ways (Added w) k v
unfolding Added
ways w k v he hs = record {
  refusing = λ n p l. inl he;
  answering = λ a h k. inl he;
  changing = λ a r h k. inl he;
  growing = λ g fates rows n h k.
      let z : get_or (set v.sheet v.end g) v.end blank ≡ g = get_or-set_same v.sheet v.end g blank h.room in
      inr ((rw (he, hs) at h.room), rw (sym he) (rw z h.long));
}

grows : (w : World) (k : Call) → Added w (call w k)
grows w k = every_call (Added w) w k (ways w k w refl refl) (ways w k (warmed w (file_of k)) refl refl)

-- ---- the sheet that a call leaves

module _ (s fs rs : List ℕ) (st : State) where
  lowered : (r : Result) → Added (lent s fs rs st) r → SameBut st.end s (grown s st.end r.1)
  unfolding Added packed_entry
  lowered r (inl e) = rw (e, eq-eqb st.end st.end refl) (same st.end s)
  lowered r (inr h) =
      let room : st.end < length s / page_size = rw (pages_long (length rs / row_length) (length s / page_size) s) at h.0 in
      let g : Entry = entry_at r.1 (suc st.end) in
      by_test (SameBut st.end s) (eqb r.1.end st.end) {x = s} {y = with_page s st.end (packed_entry (suc st.end) g)} (λ e. same st.end s)
      (λ e. put st.end s (packed_entry (suc st.end) g) (omega arith) (length_packed (fields_at (suc st.end) g) (value_at g) (suc st.end) h.1))

  pub only_one_page : (k : Call) → SameBut st.end s (call_leaves s fs rs st k).sheet
  unfolding call_leaves
  only_one_page k = go (whole (length s) (length rs))
    where
      go : (b : Bool) → SameBut st.end s (cond b (lower s st.end (call (lent s fs rs st) k)) (refused WrongSizes 0 s fs rs st)).sheet
      go true = lowered (call (lent s fs rs st) k) (grows (lent s fs rs st) k)
      go false = same st.end s

  -- a call that raises the end had a whole page above it
  raised : (r : Result) → Added (lent s fs rs st) r → (r.1.end ≡ st.end → ⊥) → page_size * st.end + page_size ≤ length s
  unfolding Added
  raised r (inl e) h = absurd (h e)
  raised r (inr g) h = let room : st.end < length s / page_size = rw (pages_long (length rs / row_length) (length s / page_size) s) at g.0 in omega arith

  pub room_above : (k : Call) → ((call_leaves s fs rs st k).state.end ≡ st.end → ⊥) → page_size * st.end + page_size ≤ length s
  unfolding call_leaves
  room_above k = go (whole (length s) (length rs))
    where
      go : (b : Bool) → ((cond b (lower s st.end (call (lent s fs rs st) k)) (refused WrongSizes 0 s fs rs st)).state.end ≡ st.end → ⊥) → page_size * st.end + page_size ≤ length s
      go true h = raised (call (lent s fs rs st) k) (grows (lent s fs rs st) k) h
      go false h = absurd (h refl)
