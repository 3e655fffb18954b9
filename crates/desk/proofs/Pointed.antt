-- The starred points hold.
use Prim.Native.Nat.{ℕ, ◌*◌, ◌-◌, ◌/◌, ◌≤◌}
use mathlib.Core.Path.{◌≡◌, refl, sym, ap, ◌∙◌}
use mathlib.Core.Bool.{true, false}
use mathlib.Core.List.{List, [], ◌∷◌, ◌++◌}
use native.Mathlib.Omega.{arith}
use lib.ListN.{replicate, length-replicate}
use Rattle.page.specs.Layout.{page_size, most_places}
use Rattle.page.specs.Table.{head, front, packed, fields_of, lowest, highest, within, between, meets_rules, is_page_of, torn}
use Rattle.page.specs.Answers.{in_bounds, tested}
use Rattle.recovery.specs.Places.{tabulate}
use Rattle.recovery.specs.Log.{opening, outcome, fate_of, outcome_of, images_of, not_by, effective, versions_of, token_of}
use Rattle.recovery.specs.Sheet.{decoded, sealed, pages}
use Rattle.recovery.specs.World.{down, warm_row, row_holds, lent_right, end_of, highest_bad, undecided_of, cold_rows, opened, unfinished}
use Rattle.recovery.specs.Lent.{Left, row_length, rows_of, flat, sizes_right, open_leaves}
use Rattle.recovery.specs.Numbers.{numbers_of}
use Rattle.recovery.specs.declared.Refusal.TheVariants.{WrongSizes, NoRoom}
use Rattle.recovery.specs.declared.Answer.TheVariants.{Refused, Opened, Stored}
use Rattle.recovery.specs.OpenSteps.{refused_opening}
use Rattle.recovery.proofs.OpeningLaws.{open_refused}
use Rattle.calls.specs.Walk.{follow}
use Rattle.calls.specs.Calls.{Call, begin, write, decide, each_row, call}
use Rattle.calls.specs.Leaves.{packed_entry, with_page, call_leaves}
use Rattle.calls.specs.Cuts.{mixed, stored_of, first_bytes}
use Rattle.desk.specs.Points as point
use Rattle.desk.proofs.BlankSheets.{opened_blank}

-- a sheet of any lawful size, and any other
fits : (n : ℕ) → 1 ≤ n → n ≤ most_places → numbers_of (point.opened (page_size * n)).answer ≡ point.fits
unfolding point.opened
fits n some most =
    let whole : page_size * n / page_size ≡ n = omega arith in
    ap numbers_of (opened_blank 8 n some most (omega arith) (omega arith) (replicate (page_size * n / page_size) 0) (replicate (row_length * 8) 0) 0 (length-replicate {A = ℕ} (page_size * n / page_size) 0 ∙ whole) refl)

refuses : (size : ℕ) → sizes_right size (size / page_size) (row_length * 8) ≡ false → numbers_of (point.opened size).answer ≡ point.refused WrongSizes
unfolding point.opened
refuses size e =
    let a = length-replicate {A = ℕ} size 0 in
    let b = length-replicate {A = ℕ} (size / page_size) 0 in
    ap (λ (x : Left). numbers_of x.answer) (sym (open_refused (replicate size 0) (replicate (size / page_size) 0) (replicate (row_length * 8) 0) 0 (rw (a, b) e) (refused_opening WrongSizes 0) refl))

row : {x y : List ℕ} {xs ys : List (List ℕ)} → x ≡ y → xs ≡ ys → x ∷ xs ≡ y ∷ ys
row e f = λ i. e i ∷ f i

sizes_hold : point.given point.sizes ≡ point.stated point.sizes
unfolding sizes_right
sizes_hold =
    row (fits 1 (omega arith) (omega arith))
    (row (refuses 0 refl)
    (row (refuses 63 refl)
    (row (refuses 65 refl)
    (row (fits most_places (omega arith) (omega arith))
    (row (refuses 4194368 refl)
    refl)))))

-- ---- two pages, from one call to the next

abbrev two : Left
two = record { answer = Opened 0 0; state = record { end = 0; floor = 0; undecided = 0 }; sheet = replicate 128 0; fates = 0 ∷ 0 ∷ []; rows = replicate (row_length * 8) 0 }

abbrev begun : Left
begun = record { answer = Stored 1; state = record { end = 1; floor = 0; undecided = 1 }; sheet = packed_entry 1 (opening false) ++ replicate 64 0; fates = 1 ∷ 0 ∷ []; rows = replicate (row_length * 8) 0 }

abbrev unwritten : Left
unwritten = record { answer = Refused NoRoom 0; state = begun.state; sheet = begun.sheet; fates = begun.fates; rows = 1 ∷ replicate (row_length * 8 - 1) 0 }

abbrev decided : Left
decided = record { answer = Stored 2; state = record { end = 2; floor = 0; undecided = 0 }; sheet = packed_entry 1 (opening false) ++ packed_entry 2 (outcome 1 true); fates = 2 ∷ 0 ∷ []; rows = 1 ∷ replicate (row_length * 8 - 1) 0 }

-- the page that a begin leaves when it is cut after n bytes
abbrev cut_page : ℕ → ℕ
cut_page n = point.kind_of (sealed 8 (stored_of (first_bytes n) 0 begun.sheet two.sheet) 1)

-- each worked out by evaluation
record Computed : Type 0 where
  opens : point.opened 128 ≡ two
  begins : point.then two begin ≡ begun
  writes_not : point.then begun (write 1 1 1 []) ≡ unwritten
  commits : point.then unwritten (decide 1 true) ≡ decided
  commits_once : point.then decided (decide 1 true) ≡ decided
  one_page : point.after 1 (begin ∷ []) ≡ point.refused NoRoom
  cut_none : cut_page 0 ≡ 0
  cut_most : cut_page 63 ≡ 1
  cut_all : cut_page 64 ≡ 3

computed : Computed
unfolding head front packed fields_of lowest highest within between meets_rules is_page_of torn in_bounds tested tabulate fate_of outcome_of images_of not_by effective versions_of token_of decoded sealed pages down warm_row row_holds lent_right end_of highest_bad undecided_of cold_rows unfinished opened rows_of flat sizes_right open_leaves follow each_row call packed_entry with_page call_leaves mixed point.opened
computed = record { opens = refl; begins = refl; writes_not = refl; commits = refl; commits_once = refl; one_page = refl; cut_none = refl; cut_most = refl; cut_all = refl }

step : {x y : Left} (k : Call) → x ≡ y → point.then x k ≡ point.then y k
step k e = ap (λ x. point.then x k) e

first : point.then (point.opened 128) begin ≡ begun
first = step begin computed.opens ∙ computed.begins

second : point.then (point.then (point.opened 128) begin) (write 1 1 1 []) ≡ unwritten
second = step (write 1 1 1 []) first ∙ computed.writes_not

third : point.then (point.then (point.then (point.opened 128) begin) (write 1 1 1 [])) (decide 1 true) ≡ decided
third = step (decide 1 true) second ∙ computed.commits

fourth : point.then (point.then (point.then (point.then (point.opened 128) begin) (write 1 1 1 [])) (decide 1 true)) (decide 1 true) ≡ decided
fourth = step (decide 1 true) third ∙ computed.commits_once

cut_at : (n k : ℕ) → cut_page n ≡ k → point.cut_begin n ≡ k ∷ []
cut_at n k e = (λ i. point.kind_of (sealed 8 (stored_of (first_bytes n) 0 (first i).sheet (computed.opens i).sheet) 1) ∷ []) ∙ ap (λ x. x ∷ []) e

numbers : {x y : Left} → x ≡ y → numbers_of x.answer ≡ numbers_of y.answer
numbers e = ap (λ x. numbers_of x.answer) e

runs_hold : point.given point.runs ≡ point.stated point.runs
runs_hold =
    row computed.one_page
    (row (numbers first)
    (row (numbers second)
    (row (numbers third)
    (row (numbers fourth)
    (row (ap (λ (x : Left). x.sheet) (fourth ∙ sym third))
    (row (cut_at 0 0 computed.cut_none)
    (row (cut_at 63 1 computed.cut_most)
    (row (cut_at 64 3 computed.cut_all)
    refl))))))))

words_hold : point.given point.words ≡ point.stated point.words
words_hold = refl

pub points_hold : point.given point.points ≡ point.stated point.points
points_hold = λ i. words_hold i ++ sizes_hold i ++ runs_hold i
