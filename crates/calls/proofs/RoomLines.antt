-- Lines 11 and 12 as the code tests them, the calls that ask them, and what they let through. Assumes nothing.
use Prim.Native.Nat.{ℕ, suc, ◌+◌, ◌-◌, ◌*◌, ◌/◌, ◌≤◌, ◌<◌}
use mathlib.Core.Path.{◌≡◌, refl, ap, ◌∙◌}
use mathlib.Core.Bool.{Bool, true, false, cond}
use mathlib.Core.List.{List}
use native.Mathlib.Omega.{arith}
use native.Mathlib.Numerals.{add-one}
use lib.ListN.{length}
use lib.Dec.{leb}
use borrow.Author.Tests.{le-leb, lt-leb, leb-true}
use Rattle.encoding.proofs.Logic.{by_test, clash}
use Rattle.std.specs.Prelude.{Err}
use Rattle.page.specs.Layout.{page_size}
use Rattle.page.specs.Answers.{in_bounds, tested, is_blank_page}
use Rattle.page.proofs.Rules.{are_in_bounds}
use Rattle.recovery.specs.Sheet.{page_bytes, sealed}
use Rattle.recovery.specs.declared.Refusal.TheVariants.{AlreadyDecided, NoRoom, NotBlank}
use Rattle.recovery.specs.declared.Row.{Row}
use Rattle.recovery.specs.World.{World, Result, refuse, entry_at, is_blank}
use Rattle.recovery.specs.Lent.{row_length, pages_of}
use Rattle.recovery.specs.Steps.{line_one}
use Rattle.recovery.proofs.Pages.{pages_long, page_here}
use Rattle.calls.specs.Calls.{has_room}
use Rattle.calls.specs.LineSteps.{Line, free, room_line}
use Rattle.calls.proofs.ActionLines.{by_line}
use Rattle.calls.proofs.Appends.{blank_is}
use Rattle.calls.proofs.Ends.{lent_is}

module _ (s : List ℕ) (end files n : ℕ) where
  pub line_11 : length s / page_size - end < n → Err NoRoom ≡ room_line s end files n
  unfolding room_line
  line_11 h = rw (lt-leb n (length s / page_size - end) h)

  module _ (h : n ≤ length s / page_size - end) (b : Bool) (hb : b ≡ is_blank_page (tested (page_bytes s (end + 1)) (end + 1) files)) where
    at_blank : cond b free (Err NotBlank) ≡ room_line s end files n
    unfolding room_line
    at_blank =
        let e : b ≡ is_blank (sealed files s (suc end)) = rw add-one at (hb ∙ blank_is s (end + 1) files) in
        rw (le-leb n (length s / page_size - end) h, ← e)

    pub line_12 : b ≡ false → Err NotBlank ≡ room_line s end files n
    line_12 k = rw k at at_blank

    pub line_free : b ≡ true → free ≡ room_line s end files n
    line_free k = rw k at at_blank

  -- they are not line 6
  pub room_not_6 : Err AlreadyDecided ≡ room_line s end files n → ⊥
  unfolding room_line
  room_not_6 h =
      by_test (λ (l : Line). Err AlreadyDecided ≡ l → ⊥) (leb n (length s / page_size - end))
      (λ e. by_test (λ (l : Line). Err AlreadyDecided ≡ l → ⊥) (is_blank (sealed files s (suc end))) (λ b q. clash cc) (λ b q. clash cc)) (λ e q. clash cc) h

  pub room_is : free ≡ room_line s end files n → n ≤ length s / page_size - end
  unfolding room_line
  room_is h =
      by_test (λ (l : Line). free ≡ l → n ≤ length s / page_size - end) (leb n (length s / page_size - end)) (λ e q. leb-true n (length s / page_size - end) e)
      (λ e q. clash cc) h

-- the definitions by those lines
module _ (files : ℕ) (s fates : List ℕ) (rows : List Row) (end floor u n : ℕ) (some : 1 ≤ n) (k : Result) where
  abbrev world : World
  world = record { sheet = pages_of s files; fates = fates; rows = rows; end = end; floor = floor; undecided = u }

  blank_by : (b : Bool) → cond b k (refuse NotBlank 0 world) ≡ by_line world k (cond b free (Err NotBlank))
  blank_by true = refl
  blank_by false = refl

  pub room_by : cond (has_room world n) (cond (is_blank (entry_at world (suc end))) k (refuse NotBlank 0 world)) (refuse NoRoom 0 world) ≡ by_line world k (room_line s end files n)
  unfolding room_line
  room_by = rw (pages_long files (length s / page_size) s) (go (leb n (length s / page_size - end)) refl)
    where
      go : (b : Bool) → leb n (length s / page_size - end) ≡ b
          → cond b (cond (is_blank (entry_at world (suc end))) k (refuse NotBlank 0 world)) (refuse NoRoom 0 world)
          ≡ by_line world k (cond b (cond (is_blank (sealed files s (suc end))) free (Err NotBlank)) (Err NoRoom))
      go false h = refl
      go true h =
          let l = leb-true n (length s / page_size - end) h in
          rw (ap is_blank (page_here files (length s / page_size) s end (omega arith))) (blank_by (is_blank (sealed files s (suc end))))

-- what append asks for above the end
pub append_fits : (s f r e n : ℕ) → line_one s f r e n ≡ true → e < s / page_size → (page_size * e + page_size ≤ s) × (in_bounds page_size (suc e) (r / row_length) ≡ true)
append_fits s f r e n fit h =
    let k = (lent_is s f r e n fit).sizes in
    (omega (arith, k), are_in_bounds (record { size_is = refl; place_is = (omega arith, omega (arith, k)); files_are = (k.some_files, k.most_files_lem) }))
