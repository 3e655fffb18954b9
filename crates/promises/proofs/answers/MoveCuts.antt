-- A move that is cut: before its last page is stored the box keeps its sheet, and the fresh one is not opened; afterwards it took place.
use Prim.Native.Nat.{ℕ, ◌*◌, ◌≤◌, ◌<◌}
use mathlib.Core.Path.{◌≡◌, refl, sym, ap, ◌∙◌}
use mathlib.Core.List.{List, ◌++◌}
use mathlib.Core.Bool.{true, false, cond, not, ◌&&◌}
use mathlib.Core.Option.{some}
use native.Mathlib.Omega.{arith}
use lib.ListN.{length, take, drop}
use lib.Dec.{leb}
use borrow.Author.Tests.{le-leb, lt-leb}
use Rattle.encoding.proofs.Logic.{and_false}
use Rattle.page.specs.Layout.{page_size}
use Rattle.recovery.specs.Log.{Image, image}
use Rattle.recovery.specs.Numbers.{is_refused}
use Rattle.recovery.specs.Lent.{Left, row_length, open_leaves}
use Rattle.recovery.specs.declared.Refusal.TheVariants.{UnfinishedMove}
use Rattle.recovery.specs.declared.Answer.{Answer}
use Rattle.recovery.specs.declared.Answer.TheVariants.{Refused, Moved}
use Rattle.calls.specs.Calls.{read}
use Rattle.moving.proofs.CutMoves.{move_cut}
use Rattle.promises.specs.Runs.{Box, on, off, sheet_of, Event, calls, moves, cuts_move, move_on, takes_place, bytes_of_move, answer_to, after, runs, AllAllowed}
use Rattle.promises.specs.Promises.{page_in, NoWrite, fresh_of, size_of_move, Alike}
use Rattle.promises.proofs.boxes.Boxes.{Reached}
use Rattle.promises.proofs.boxes.Found.{some_is, not_heard}
use Rattle.promises.proofs.answers.Unwritten.{alike_moved}

-- an answer with a floor: it takes place
takes : (m : Left) (fresh : List ℕ) (floor : ℕ) → (move_on m fresh).left.answer ≡ Moved floor → takes_place m fresh ≡ true
unfolding is_refused
takes m fresh floor e = ap (λ (x : Answer). not (is_refused x)) e

pub move_lost : (b : Box) (fresh : List ℕ) (k : ℕ) → k < size_of_move b → sheet_of (after b (cuts_move fresh k)) ≡ sheet_of b
move_lost (on m) fresh k h = ap (λ c. cond c (move_on m fresh).fresh m.sheet) (and_false (takes_place m fresh) (leb (bytes_of_move m) k) (lt-leb (bytes_of_move m) k h))
move_lost (off s) fresh k h = refl

pub move_finished : (b : Box) (fresh : List ℕ) (floor k : ℕ) → answer_to b (moves fresh) ≡ some (Moved floor) → size_of_move b ≤ k → after b (cuts_move fresh k) ≡ after b (moves fresh)
move_finished (on m) fresh floor k e h =
    let t = takes m fresh floor (some_is e) in
    ap (λ c. off (cond c (move_on m fresh).fresh m.sheet)) (λ i. t i && le-leb (bytes_of_move m) k h i) ∙ ap (λ c. cond c (off (move_on m fresh).fresh) (on (move_on m fresh).left)) (sym t)
move_finished (off s) fresh floor k e h = not_heard e

module _ (n files : ℕ) where
  pub move_unfinished : (b : Box) → Reached n files b → (fresh : List ℕ) (floor : ℕ) → answer_to b (moves fresh) ≡ some (Moved floor) → (fates rows : List ℕ) (t : ℕ)
      → page_size * length fates ≡ length fresh → length rows ≡ row_length * files → (k : ℕ) → page_size ≤ k → k < size_of_move b → (open_leaves (take k (fresh_of b fresh) ++ drop k fresh) fates rows t).answer ≡ Refused UnfinishedMove 0
  move_unfinished (on m) r fresh floor e fates rows t hf hr k low high =
      move_cut m.sheet m.fates m.rows m.state fresh floor (some_is e) fates rows t (omega arith) (hr ∙ sym r.at.stands.1) k low high
  move_unfinished (off s) r fresh floor e fates rows t hf hr k low high = not_heard e

  pub box_moved_alike : (b : Box) → Reached n files b → (file time : ℕ) (fresh : List ℕ) (floor : ℕ) (x : Answer) → answer_to b (moves fresh) ≡ some (Moved floor)
      → answer_to b (calls (read file time 0)) ≡ some x → is_refused x ≡ false → ((p : ℕ) (i : Image) → page_in files (after b (moves fresh)) p ≡ image i → i.file ≡ file → i.start ≤ time)
      → (es : List Event) → AllAllowed files (after b (moves fresh)) es → NoWrite file es → (y : Answer) → answer_to (runs (after b (moves fresh)) es) (calls (read file time 0)) ≡ some y
      → (is_refused y ≡ false) × Alike files b (runs (after b (moves fresh)) es) file time x y
  box_moved_alike (on m) r file time fresh floor x g e ok late es al w y h = alike_moved n files m r file time fresh x (some_is e) ok (takes m fresh floor (some_is g)) late es al w y h
  box_moved_alike (off s) r file time fresh floor x g e ok late es al w y h = not_heard e
