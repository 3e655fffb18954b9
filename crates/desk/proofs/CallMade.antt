-- A call on a desk that has a state: it is answered, or a waiting cut strikes it and leaves the first bytes of its page. Assumes nothing.
use Prim.Native.Nat.{ℕ, suc, ◌+◌, ◌-◌, ◌*◌, ◌/◌, min, ◌≤◌}
use Rattle.std.proofs.Common.{Some, None, unwrap_or}
use Rattle.std.specs.Bool.{then_some}
use mathlib.Core.Path.{◌≡◌, refl, sym, ap, ◌∙◌, subst}
use mathlib.Core.List.{List, ◌++◌}
use mathlib.Core.Bool.{Bool, true, false, cond, not, false≢true}
use native.Mathlib.Omega.{arith}
use lib.ListN.{length, take, drop, length-take, length-drop}
use lib.Seq.{take_all}
use lib.Dec.{eqb}
use borrow.Author.Tests.{eq-eqb, leb-true, le-leb}
use borrow.Rule.Slice.PartMut.{put_mid, same_len_mid}
use Rattle.encoding.specs.Bytes.{part}
use Rattle.encoding.proofs.Logic.{and_true, clash}
use Rattle.encoding.proofs.Parts.{length_part, put_part}
use Rattle.page.specs.Layout.{page_size}
use Rattle.recovery.specs.declared.State.{State}
use Rattle.recovery.specs.declared.Done.{Done}
use Rattle.recovery.specs.Sheet.{page_bytes}
use Rattle.recovery.specs.Lent.{Left, left_by, closed}
use Rattle.recovery.specs.Steps.{has_place, part_at}
use Rattle.calls.specs.declared.asking.Call.{Call}
use Rattle.calls.specs.Asked.{asked}
use Rattle.calls.specs.Leaves.{with_page, call_leaves}
use Rattle.calls.proofs.OnePage.{SameBut, only_one_page, room_above}
use Rattle.calls.proofs.CutLaws.{first_stored}
use Rattle.calls.proofs.Appends.{put_page}
use Rattle.desk.specs.declared.talking.Desk.{Desk}
use Rattle.desk.specs.declared.talking.Turn.{Turn}
use Rattle.desk.specs.Conversation.{cut_of, state_of, answered, lost, is_struck, acted_by, acted}
use Rattle.desk.specs.TalkSteps.{left_after, answered_turn, lost_turn}

-- the bytes from an index on put back
pub back_is : (s ys old : List ℕ) (at n : ℕ) → at ≤ length s → length old ≡ length s → n ≡ length s → length ys ≡ length (part at n s)
    → ys ≡ cond (eqb (length (part at n s)) (length (part at n old))) (part at n old) (part at n s) → put_mid at (n - at) s ys ≡ take at s ++ drop at old
back_is s ys old at n h l e k q =
    let a = length_part at n s (omega arith) in
    let b = length_part at n old (omega arith) in
    let same : length (part at n s) ≡ length (part at n old) = a ∙ sym b in
    let whole : part at n old ≡ drop at old = take_all (n - at) (drop at old) (omega (arith, length-drop at old)) in
    let y : ys ≡ drop at old = q ∙ ap (λ c. cond c (part at n old) (part at n s)) (eq-eqb _ _ same) ∙ whole in
    sym (take_all n (put_mid at (n - at) s ys) (omega (arith, mid_long))) ∙ put_part at n s ys (drop at old) (omega arith) (omega arith) k y
  where
    mid_long : length (put_mid at (n - at) s ys) ≡ length s
    mid_long = same_len_mid at (n - at) s ys k

-- the page above a place put back in part
pub cut_page_is : (s ys old : List ℕ) (place cut a e : ℕ) → a ≡ page_size * place → e ≡ a + page_size → ys ≡ take cut (take (e - a) (drop a s)) ++ drop cut old
    → put_mid a (e - a) s ys ≡ with_page s place (take cut (page_bytes s (suc place)) ++ drop cut old)
cut_page_is s ys old place cut a e p q h =
    let n : page_size * place + page_size - page_size * place ≡ page_size = omega arith in
    let z : ys ≡ take cut (take (page_size * place + page_size - page_size * place) (drop (page_size * place) s)) ++ drop cut old = rw (q, p) at h in
    rw (q, p) (put_page s place ys ∙ ap (with_page s place) (rw n at z))

-- what `struck_after` answers
pub not_struck : (b : Bool) (x : ℕ) → then_some b x ≡ None → b ≡ false
not_struck true x e = clash cc
not_struck false x e = refl

pub struck_at : (b : Bool) {x y : ℕ} → then_some b x ≡ Some y → (b ≡ true) × (y ≡ x)
struck_at true {x} {y} e = let q : x ≡ y = cc in (refl, sym q)
struck_at false e = clash cc

-- a state that the desk has
pub state_is : (d : Desk) {state : State} → d.state ≡ Some state → state_of d ≡ state
state_is d e = ap (λ o. unwrap_or o closed) e

struck : (d : Desk) (left : State) → is_struck d left ≡ true → (cut_of d ≤ page_size) × (left.end ≡ (state_of d).end → ⊥)
struck d left e =
    let h = and_true _ _ e in
    (leb-true (cut_of d) page_size h.0, λ q. false≢true (sym (ap not (eq-eqb left.end (state_of d).end q)) ∙ h.1))

module _ (d : Desk) (s fates rows : List ℕ) (k : Call) (value : List ℕ) (done : Done) (s' fates' rows' : List ℕ)
    (h : left_by done s' fates' rows' ≡ call_leaves s fates rows (state_of d) (asked k value)) where
  abbrev left : Left
  left = left_by done s' fates' rows'

  pub answered_as : (t : Turn) → is_struck d done.state ≡ false → t ≡ answered_turn d k done → left_after t s' fates' rows' ≡ acted d s fates rows k value
  unfolding acted
  answered_as t e q =
      ap (λ u. left_after u s' fates' rows') q ∙ sym (ap (λ b. cond b (lost d s left) (answered d k left)) e) ∙ ap (acted_by d s k) h

  same_but : SameBut (state_of d).end s s'
  same_but = subst (λ (x : Left). SameBut (state_of d).end s x.sheet) (sym h) (only_one_page s fates rows (state_of d) (asked k value))

  module _ (e : is_struck d done.state ≡ true) where
    room : page_size * (state_of d).end + page_size ≤ length s
    room = room_above s fates rows (state_of d) (asked k value) (λ q. (struck d done.state e).1 (ap (λ (x : Left). x.state.end) h ∙ q))

    pub cut_within : cut_of d ≤ page_size
    cut_within = (struck d done.state e).0

    pub room_left : page_size * (state_of d).end + page_size ≤ length s'
    room_left = omega (arith, room, same_but.long)

    -- the page that was kept aside
    part_kept : (place : ℕ) → place ≡ min (state_of d).end (length s / page_size) + 1 → part_at s place ≡ page_bytes s (suc (state_of d).end)
    unfolding part_at
    part_kept place q =
        let z : place ≡ suc (state_of d).end = omega (arith, room) in
        let has : has_place s (suc (state_of d).end) ≡ true = rw (le-leb 1 (suc (state_of d).end) (omega arith), le-leb (suc (state_of d).end) (length s / page_size) (omega (arith, room))) in
        rw (z, has)

    page_kept : (part zeros old : List ℕ) → part ≡ page_bytes s (suc (state_of d).end) → length zeros ≡ page_size → old ≡ cond (eqb (length zeros) (length part)) part zeros
        → old ≡ page_bytes s (suc (state_of d).end)
    page_kept part zeros old p l q =
        let n : length part ≡ page_size = ap length p ∙ simp (length-take, length-drop) (omega (arith, room)) in
        q ∙ ap (λ b. cond b part zeros) (eq-eqb (length zeros) (length part) (l ∙ sym n)) ∙ p

    pub lost_as : (t : Turn) (part zeros old s'' : List ℕ) (place : ℕ) → place ≡ min (state_of d).end (length s / page_size) + 1 → part ≡ part_at s place → length zeros ≡ page_size → old ≡ cond (eqb (length zeros) (length part)) part zeros
        → t ≡ lost_turn d.files → s'' ≡ with_page s' (state_of d).end (take (cut_of d) (page_bytes s' (suc (state_of d).end)) ++ drop (cut_of d) old)
        → left_after t s'' fates' rows' ≡ acted d s fates rows k value
    unfolding acted
    lost_as t part zeros old s'' place i p l o q b =
        let z : s'' ≡ (lost d s left).sheet =
        b ∙ ap (λ x. with_page s' (state_of d).end (take (cut_of d) (page_bytes s' (suc (state_of d).end)) ++ drop (cut_of d) x)) (page_kept part zeros old (p ∙ part_kept place i) l o)
        ∙ first_stored (state_of d).end s s' same_but (cut_of d) in
        ap (λ u. left_after u s'' fates' rows') q ∙ ap (λ x. left_after (lost_turn d.files) x fates' rows') z
        ∙ sym (ap (λ b. cond b (lost d s left) (answered d k left)) e) ∙ ap (acted_by d s k) h
