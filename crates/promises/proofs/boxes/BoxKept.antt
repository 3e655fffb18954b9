-- A page once stored, whole or in part, keeps its bytes; and a call that is cut before its first byte leaves the sheet as it was.
use Rattle.moving.specs.MoveLeaves.{MoveLeft, lower_move, move_leaves}
use Rattle.moving.specs.Moved.{moved}
use Prim.Native.Nat.{ℕ, zero, suc, ◌+◌, ◌-◌, ◌*◌, ◌/◌, min, ◌≤◌, ◌<◌, ◌%◌}
use mathlib.Core.Path.{◌≡◌, refl, sym, ap, ◌∙◌, subst}
use mathlib.Core.List.{List, [], ◌∷◌, ◌++◌}
use mathlib.Core.Bool.{Bool, true, false, cond, ◌&&◌}
use native.Mathlib.Omega.{arith}
use lib.ListN.{length, get_or, take, drop, length-append, length-take, length-drop, drop_of_length-le, get_or-append}
use lib.Seq.{ext_get_or, get_or-take, get_or-drop, length-take-le}
use lib.Dec.{leb, eqb}
use borrow.Author.Tests.{leb-true, leb-false}
use Rattle.encoding.proofs.Logic.{by_test, or_false}
use Rattle.page.specs.Layout.{page_size, kind_at}
use Rattle.recovery.specs.Log.{blank}
use Rattle.recovery.specs.Sheet.{page_bytes, sealed}
use Rattle.recovery.specs.World.{opened}
use Rattle.recovery.specs.Numbers.{is_refused}
use Rattle.recovery.specs.Lent.{Left, row_length, rows_of, pages_of, whole, leaves, refused, closed, open_leaves, lent}
use Rattle.calls.specs.Calls.{Call}
use Rattle.calls.specs.Leaves.{with_page}
use Rattle.calls.proofs.OnePage.{SameBut, only_one_page}
use Rattle.calls.specs.Cuts.{mixed, stored_of}
use Rattle.promises.specs.Runs.{Ordered, Box, on, off, sheet_of, Event, calls, opens, cuts, call_on, box_of, after, runs, AllAllowed, moves, cuts_move, move_on, is_moved, moved_in}
use Rattle.promises.proofs.bytes.Mixed.{mixed_long, mixed_none, none_kept}
use Rattle.promises.proofs.bytes.ByteCalls.{page_back}
use Rattle.promises.proofs.boxes.Extends.{ext_refl, event_extends}
use Rattle.promises.proofs.boxes.Boxes.{Reached, end_is, page_above}
use Rattle.promises.proofs.boxes.BoxRuns.{reached_next, pages_after}
use Rattle.recovery.specs.declared.Refusal.TheVariants.{WrongSizes}

-- sheets as long, with the same bytes up to a place
pub record SameTo (q : ℕ) (s t : List ℕ) : Type 0 where
  pub long : length t ≡ length s
  pub bytes : (i : ℕ) → i < page_size * q → get_or t i 0 ≡ get_or s i 0

same_page : (q : ℕ) (s t : List ℕ) → SameTo q s t → (p : ℕ) → p ≤ q → page_bytes t p ≡ page_bytes s p
same_page q s t h zero k = refl
same_page q s t h (suc r) k = ext_get_or 0 (page_bytes t (suc r)) (page_bytes s (suc r)) (rw (size t, size s, h.long)) (λ i u.
    let v : i < page_size = omega (arith, u, size t) in
    look t i v ∙ h.bytes (page_size * r + i) (omega arith) ∙ sym (look s i v))
  where
    size : (x : List ℕ) → length (page_bytes x (suc r)) ≡ min page_size (length x - page_size * r)
    size x = rw (length-take, length-drop)

    look : (x : List ℕ) (i : ℕ) → i < page_size → get_or (page_bytes x (suc r)) i 0 ≡ get_or x (page_size * r + i) 0
    look x i v = get_or-take page_size (drop (page_size * r) x) i 0 v ∙ get_or-drop (page_size * r) x i 0

same_all : {q : ℕ} (s : List ℕ) → SameTo q s s
same_all s = record { long = refl; bytes = λ i h. refl }

-- ---- each event

module _ (m : Left) (k : Call) where
  one : SameBut m.state.end m.sheet (call_on m k).sheet
  one = only_one_page m.sheet m.fates m.rows m.state k

  call_same : SameTo m.state.end m.sheet (call_on m k).sheet
  call_same = record { long = one.long; bytes = one.below }

  -- the page above the end, new and old
  pages_long : length (page_bytes m.sheet (suc m.state.end)) ≡ length (page_bytes (call_on m k).sheet (suc m.state.end))
  pages_long = rw (length-take, length-drop, length-take, length-drop, one.long)

  cut_same : (kept : ℕ → Bool) → page_size * m.state.end ≤ length m.sheet → SameTo m.state.end m.sheet (stored_of kept m.state.end (call_on m k).sheet m.sheet)
  unfolding with_page
  cut_same kept h =
      let front : length (take (page_size * m.state.end) m.sheet) ≡ page_size * m.state.end = length-take-le (page_size * m.state.end) m.sheet h in
      let x : List ℕ = mixed kept (page_bytes (call_on m k).sheet (suc m.state.end)) (page_bytes m.sheet (suc m.state.end)) in
      let size : length x ≡ length (page_bytes m.sheet (suc m.state.end)) = mixed_long kept (page_bytes (call_on m k).sheet (suc m.state.end)) (page_bytes m.sheet (suc m.state.end)) pages_long ∙ sym pages_long in
      let room : length (page_bytes m.sheet (suc m.state.end)) ≡ min page_size (length m.sheet - page_size * m.state.end) = rw (length-take, length-drop) in
      record {
        long = simp (length-append, length-drop) (omega arith);
        bytes = λ j u. get_or-append (take (page_size * m.state.end) m.sheet) (x ++ drop (page_size * m.state.end + page_size) m.sheet) 0 j (omega arith) ∙ get_or-take (page_size * m.state.end) m.sheet j 0 u;
      }

  -- cut before the first byte
  pub cut_none : (kept : ℕ → Bool) → Ordered kept → kept kind_at ≡ false → stored_of kept m.state.end (call_on m k).sheet m.sheet ≡ m.sheet
  cut_none kept o e =
      ap (with_page m.sheet m.state.end) (mixed_none kept (page_bytes (call_on m k).sheet (suc m.state.end)) (page_bytes m.sheet (suc m.state.end)) pages_long
      (λ i u. none_kept kept o e i (omega (arith, length-take page_size (drop (page_size * m.state.end) (call_on m k).sheet)))))
      ∙ page_back m.sheet m.state.end

-- an opening leaves the sheet
open_sheet : (s fates rows : List ℕ) (floor : ℕ) → (open_leaves s fates rows floor).sheet ≡ s
unfolding open_leaves
open_sheet s fates rows floor = by_test (λ (x : Left). x.sheet ≡ s) (whole (length s) (length rows))
    {x = leaves s (opened (pages_of s (length rows / row_length)) fates (rows_of rows) floor)} {y = refused WrongSizes 0 s fates rows closed} (λ e. refl) (λ e. refl)

pub open_box : (s fates rows : List ℕ) (floor : ℕ) → sheet_of (box_of (open_leaves s fates rows floor)) ≡ s
open_box s fates rows floor = by_test (λ (b : Box). sheet_of b ≡ s) (is_refused (open_leaves s fates rows floor).answer)
    {x = off (open_leaves s fates rows floor).sheet} {y = on (open_leaves s fates rows floor)} (λ e. open_sheet s fates rows floor) (λ e. open_sheet s fates rows floor)

-- a move leaves the old sheet
move_sheet : (m : Left) (fresh : List ℕ) → (move_on m fresh).left.sheet ≡ m.sheet
unfolding move_leaves
move_sheet m fresh =
    by_test (λ (x : MoveLeft). x.left.sheet ≡ m.sheet) (whole (length m.sheet) (length m.rows) && eqb (length fresh % page_size) 0)
    {x = lower_move m.sheet fresh (moved (lent m.sheet m.fates m.rows m.state) (pages_of fresh (length m.rows / row_length)))}
    {y = record { left = refused WrongSizes 0 m.sheet m.fates m.rows m.state; fresh = fresh }} (λ e. refl) (λ e. refl)

-- ---- a run

module _ (n files : ℕ) where
  event_same : (b : Box) (r : Reached n files b) (e : Event) → is_moved b e ≡ false → SameTo (length r.log) (sheet_of b) (sheet_of (after b e))
  event_same (on m) r (calls k) q = subst (λ q. SameTo q m.sheet (call_on m k).sheet) (end_is n files m r) (call_same m k)
  event_same (off s) r (calls k) q = same_all s
  event_same b r (opens floor fates rows) q =
      let z = open_box (sheet_of b) fates rows floor in
      record { long = ap length z; bytes = λ i h. ap (λ t. get_or t i 0) z }
  event_same (on m) r (cuts k kept) q =
      subst (λ q. SameTo q m.sheet (stored_of kept m.state.end (call_on m k).sheet m.sheet)) (end_is n files m r)
      (cut_same m k kept (omega (arith, end_is n files m r, r.at.holds.room, r.at.long)))
  event_same (off s) r (cuts k kept) q = same_all s
  event_same (on m) r (moves fresh) q = subst (λ c. SameTo (length r.log) m.sheet (sheet_of (cond c (off (move_on m fresh).fresh) (on (move_on m fresh).left)))) (sym q) (subst (SameTo (length r.log) m.sheet) (sym (move_sheet m fresh)) (same_all m.sheet))
  event_same (off s) r (moves fresh) q = same_all s
  event_same (on m) r (cuts_move fresh k) q = subst (λ c. SameTo (length r.log) m.sheet (cond c (move_on m fresh).fresh m.sheet)) (sym q) (same_all m.sheet)
  event_same (off s) r (cuts_move fresh k) q = same_all s

run_kept : (n files : ℕ) (b : Box) (r : Reached n files b) (es : List Event) → AllAllowed files b es → moved_in b es ≡ false → (p : ℕ) → p ≤ length r.log
    → page_bytes (sheet_of (runs b es)) p ≡ page_bytes (sheet_of b) p
run_kept n files b r [] al q p h = refl
run_kept n files b r (e ∷ es) al q p h =
    let z = or_false (is_moved b e) (moved_in (after b e) es) q in
    let g = event_extends n files b r e z.0 r.log (ext_refl r.log) in
    run_kept (pages_after n b e) files (after b e) (reached_next n files b r e al.0) es al.1 z.1 p (omega (arith, g.longer))
    ∙ same_page (length r.log) (sheet_of b) (sheet_of (after b e)) (event_same n files b r e z.0) p h

-- and as many pages
run_long : (n files : ℕ) (b : Box) (r : Reached n files b) (es : List Event) → AllAllowed files b es → moved_in b es ≡ false → length (sheet_of (runs b es)) ≡ length (sheet_of b)
run_long n files b r [] al q = refl
run_long n files b r (e ∷ es) al q =
    let z = or_false (is_moved b e) (moved_in (after b e) es) q in
    run_long (pages_after n b e) files (after b e) (reached_next n files b r e al.0) es al.1 z.1 ∙ (event_same n files b r e z.0).long

module _ (n files : ℕ) where
  no_page : (s : List ℕ) (p : ℕ) → length s ≡ page_size * n → n < p → page_bytes s p ≡ []
  no_page s zero l h = absurd (omega arith)
  no_page s (suc q) l h = ap (take page_size) (drop_of_length-le s {i = page_size * q} (omega arith))

  pub box_kept : (b : Box) → Reached n files b → (es : List Event) → AllAllowed files b es → moved_in b es ≡ false → (p : ℕ) → (sealed files (sheet_of b) p ≡ blank → ⊥)
      → page_bytes (sheet_of (runs b es)) p ≡ page_bytes (sheet_of b) p
  box_kept b r es al mv zero h = refl
  box_kept b r es al mv (suc q) h = go (leb (suc q) n) refl (leb (suc q) (length r.log)) refl
    where
      go : (x : Bool) → leb (suc q) n ≡ x → (y : Bool) → leb (suc q) (length r.log) ≡ y → page_bytes (sheet_of (runs b es)) (suc q) ≡ page_bytes (sheet_of b) (suc q)
      go false e y f =
          no_page (sheet_of (runs b es)) (suc q) (run_long n files b r es al mv ∙ r.at.long) (leb-false (suc q) n e)
          ∙ sym (no_page (sheet_of b) (suc q) r.at.long (leb-false (suc q) n e))
      go true e true f = run_kept n files b r es al mv (suc q) (leb-true (suc q) (length r.log) f)
      go true e false f = absurd (h (page_above n files b r (suc q) (leb-false (suc q) (length r.log) f) (leb-true (suc q) n e)))

  pub box_lost : (b : Box) (k : Call) (kept : ℕ → Bool) → Ordered kept → kept kind_at ≡ false → sheet_of (after b (cuts k kept)) ≡ sheet_of b
  box_lost (on m) k kept o e = cut_none m k kept o e
  box_lost (off s) k kept o e = refl
