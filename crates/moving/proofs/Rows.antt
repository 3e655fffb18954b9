-- What the move reads off the rows, file by file; and every row rebuilt, one by one. Assumes nothing.
use Prim.Native.Nat.{ℕ, zero, suc, pred, ◌+◌, ◌/◌, ◌≤◌, ◌<◌}
use mathlib.Core.Path.{◌≡◌, refl, sym, ap, ◌∙◌}
use mathlib.Core.Bool.{Bool, true, false, cond, false≢true}
use mathlib.Core.List.{List}
use native.Mathlib.Omega.{arith}
use native.Mathlib.Numerals.{add-one}
use lib.ListN.{length, get_or}
use lib.Dec.{eqb, leb}
use borrow.Author.Tests.{eqb-true, eqb-false, eq-eqb, ne_eqb, le-leb, lt-leb, leb-true}
use Rattle.encoding.proofs.Logic.{bool_ext}
use Rattle.page.specs.Layout.{page_size}
use Rattle.page.specs.Answers.{tested, is_blank_page}
use Rattle.recovery.specs.Log.{Entry, blank}
use Rattle.recovery.specs.Sheet.{page_bytes}
use Rattle.recovery.specs.Places.{nth, put, tabulate}
use Rattle.recovery.specs.declared.Row.{Row}
use Rattle.recovery.specs.declared.State.{State}
use Rattle.recovery.specs.World.{World, cold, row_at, warm_row, is_file, is_blank, end_of}
use Rattle.inspection.specs.SomePlace.{some_place}
use Rattle.std.specs.Prelude.{Some, None}
use Rattle.std.specs.Option.{option_or}
use Rattle.std.specs.Bool.{then_some}
use Rattle.recovery.specs.Lent.{row_length, row_from, rows_of, flat, put_row, pages_of, lent}
use Rattle.recovery.specs.Steps.{line_one, row_of, row_holds_in, with_row_of, row_from_pages, warm_row_of, Warmed}
use Rattle.recovery.proofs.Places.{length_tabulate, nth_tabulate, tabulate_cong, put_tabulate}
use Rattle.recovery.proofs.FlatRows.{rows_long, row_at_lem, flat_long, flat_rows, put_flat}
use Rattle.recovery.proofs.Leaves.{rows_back, whole_is}
use Rattle.recovery.proofs.Pages.{pages_long, page_here}
use Rattle.calls.proofs.Ends.{lent_is}
use Rattle.calls.proofs.Appends.{blank_is}
use Rattle.encoding.specs.Lowest.{lowest}
use Rattle.encoding.proofs.Lowest.{turn_pass, turn_found}
use Rattle.moving.specs.Moved.{is_unused, highest_end}
use Rattle.moving.specs.MoveSteps.{is_damaged, places_to, survey_to, survey_with, warm_run}
use Rattle.moving.specs.declared.checking.Survey.{Survey}

-- ---- the survey, row by row

pub places_few : (rows : List ℕ) (k : ℕ) → places_to rows k ≤ k
unfolding places_to
places_few rows zero = omega arith
places_few rows (suc k) = go (eqb (row_of rows (suc k)).current 0) (places_few rows k)
  where
    go : (b : Bool) → places_to rows k ≤ k → places_to rows k + cond b 0 1 ≤ suc k
    go true h = omega arith
    go false h = omega arith

module _ (s : List ℕ) (files end : ℕ) (rows : List ℕ) (floor : ℕ) where
  pub survey_start : record { damaged = None; versions = 0; highest = floor } ≡ survey_to s files end rows floor 0
  unfolding survey_to lowest places_to highest_end
  survey_start = refl

  damaged_next : (t : ℕ → Bool) (n : ℕ) → option_or (some_place (lowest t n)) (then_some (t (suc n)) (suc n)) ≡ some_place (lowest t (suc n))
  unfolding lowest
  damaged_next t n = go (lowest t n) (t (suc n))
    where
      go : (k : ℕ) (b : Bool) → option_or (some_place k) (then_some b (suc n)) ≡ some_place (cond (eqb k 0) (cond b (suc n) 0) k)
      go zero true = refl
      go zero false = refl
      go (suc k) b = rw (ne_eqb (suc k) 0 (λ z. omega arith))

  next_survey : (n : ℕ) → survey_with (survey_to s files end rows floor n) (suc n) (row_of rows (suc n)) (row_holds_in s files end (suc n) (row_of rows (suc n))) ≡ survey_to s files end rows floor (suc n)
  unfolding survey_to survey_with places_to highest_end row_of
  next_survey n = λ i. record { damaged = damaged_next (is_damaged s files end rows) n i; versions = places_to rows (suc n); highest = highest_end floor (rows_of rows) (suc n) }

  pub survey_turn : (f : ℕ) (v u : Survey) (r : Row) (holds : Bool) → 1 ≤ f → v ≡ survey_to s files end rows floor (pred f) → r ≡ row_of rows f → holds ≡ row_holds_in s files end f r
      → u ≡ survey_with v f r holds → u ≡ survey_to s files end rows floor (pred (f + 1))
  survey_turn zero v u r holds low hv hr hh hu = absurd (omega arith)
  survey_turn (suc n) v u r holds low hv hr hh hu =
      let holds_is : holds ≡ row_holds_in s files end (suc n) (row_of rows (suc n)) = hh ∙ ap (row_holds_in s files end (suc n)) hr in
      rw add-one (rw (hv, hr, holds_is) at hu ∙ next_survey n)

  pub survey_few : (n : ℕ) (v : Survey) → v ≡ survey_to s files end rows floor n → v.versions ≤ n
  unfolding survey_to
  survey_few n v h = rw h (places_few rows n)

  pub survey_end : (n : ℕ) (v : Survey) → v ≡ survey_to s files end rows floor n → n ≡ files → v ≡ survey_to s files end rows floor files
  survey_end n v h z = h ∙ ap (survey_to s files end rows floor) z

-- ---- the lowest place that meets a test, place by place

module _ (t : ℕ → Bool) where
  pub found_turn : (p : ℕ) → 1 ≤ p → lowest t (pred p) ≡ 0 → t p ≡ false → lowest t (pred (p + 1)) ≡ 0
  found_turn zero low e h = absurd (omega arith)
  found_turn (suc n) low e h = rw add-one (rw add-one at (turn_pass t n e (rw add-one h)))

  pub found_here : (p m : ℕ) → 1 ≤ p → lowest t (pred p) ≡ 0 → t p ≡ true → p ≤ m → Some p ≡ some_place (lowest t m)
  found_here zero m low e h l = absurd (omega arith)
  found_here (suc n) m low e h l = ap some_place (rw add-one at (turn_found t n m e (rw add-one h) (omega arith)))

  pub found_end : (n m : ℕ) → lowest t n ≡ 0 → n ≡ m → None ≡ some_place (lowest t m)
  found_end n m e z = ap some_place (sym e ∙ ap (lowest t) z)

-- ---- rows rebuilt one by one

-- the rows of files 1 to n rebuilt, the others as they were
abbrev pub warm_to : World → ℕ → List Row
warm_to w n = tabulate (λ f. cond (leb f n) (warm_row w f) (row_at w f)) 0 (length w.rows)

module _ (s fs rs : List ℕ) (st : State) (ok : line_one (length s) (length fs) (length rs) st.end st.undecided ≡ true) where
  abbrev w : World
  w = lent s fs rs st

  abbrev files : ℕ
  files = length rs / row_length

  many : length w.rows ≡ files
  many = rows_long rs

  plain : tabulate (row_at w) 0 (length w.rows) ≡ w.rows
  unfolding rows_of
  plain = rw many (tabulate_cong (λ f. row_from rs (pred f)) (row_at w) 0 files (λ b h l. row_at_lem rs b h (omega arith)))

  pub warm_long : (m : ℕ) (ys : List ℕ) → ys ≡ flat (warm_to w m) → length ys ≡ length rs
  warm_long m ys e =
      let k = (lent_is (length s) (length fs) (length rs) st.end st.undecided ok).sizes in
      omega (arith, ap length e, flat_long (warm_to w m), length_tabulate (λ f. cond (leb f m) (warm_row w f) (row_at w f)) 0 (length w.rows), many, k.numbers_are)

  pub warm_start : rs ≡ flat (warm_to w 0)
  warm_start =
      sym (rows_back s fs rs st (whole_is s fs rs st ok)) ∙ ap flat (sym (tabulate_cong (row_at w) (λ f. cond (leb f 0) (warm_row w f) (row_at w f)) 0 (length w.rows)
      (λ b h l. rw (lt-leb b 0 h)) ∙ plain))

  pub warm_end : (n : ℕ) → n ≡ files → flat (warm_to w n) ≡ warm_run s fs rs st
  unfolding warm_run
  warm_end n e = ap flat (tabulate_cong (warm_row w) (λ f. cond (leb f n) (warm_row w f) (row_at w f)) 0 (length w.rows)
      (λ b x y. rw (le-leb b n (omega (arith, many)))))

  module _ (xs : List ℕ) (n : ℕ) (e : xs ≡ flat (warm_to w n)) (h : n < files) where
    long : length (warm_to w n) ≡ files
    long = length_tabulate (λ f. cond (leb f n) (warm_row w f) (row_at w f)) 0 (length w.rows) ∙ many

    rows_are : rows_of xs ≡ warm_to w n
    rows_are = ap rows_of e ∙ flat_rows (warm_to w n)

    count : length xs / row_length ≡ files
    count = omega (arith, ap length e, flat_long (warm_to w n), long)

    row_is : row_of xs (suc n) ≡ row_at w (suc n)
    unfolding row_of
    row_is = ap (λ (l : List Row). nth cold l (suc n)) rows_are
        ∙ nth_tabulate (λ f. cond (leb f n) (warm_row w f) (row_at w f)) (length w.rows) (suc n) cold (omega arith) (omega (arith, many))
        ∙ rw (lt-leb (suc n) n (omega arith))

    warm_row_lem : warm_row_of s fs xs (suc n) st.end ≡ warm_row w (suc n)
    unfolding warm_row_of warm_row row_from_pages
    warm_row_lem = rw (row_is, count)

    more : (r : Row) → r ≡ warm_row w (suc n) → put (warm_to w n) (suc n) r ≡ warm_to w (suc n)
    more r q = put_tabulate (λ f. cond (leb f n) (warm_row w f) (row_at w f)) (λ f. cond (leb f (suc n)) (warm_row w f) (row_at w f)) (length w.rows) (suc n) r (omega arith)
        (rw (le-leb (suc n) (suc n) (omega arith)) (sym q))
        (λ b x y k. let z : leb b (suc n) ≡ leb b n = bool_ext (leb b (suc n)) (leb b n) (λ u. le-leb b n (omega (arith, leb-true b (suc n) u))) (λ u. le-leb b (suc n) (omega (arith, leb-true b n u))) in rw z)

    warm_next : (r : Row) (ys : List ℕ) → Warmed s fs xs (suc n) st.end r ys → ys ≡ flat (warm_to w (suc n))
    unfolding with_row_of
    warm_next r ys k =
        let r-is : r ≡ warm_row w (suc n) = k.row_is ∙ warm_row_lem in
        let put_is : ys ≡ cond (is_file files (suc n)) (put_row xs n r) xs = rw count at k.left_is in
        put_is ∙ rw (le-leb 1 (suc n) (omega arith), le-leb (suc n) files h) (ap (λ (l : List ℕ). put_row l n r) e
        ∙ put_flat (warm_to w n) n r (omega (arith, long)) ∙ ap flat (more r r-is))

  pub warm_turn : (f : ℕ) (xs ys : List ℕ) (r : Row) → 1 ≤ f → f ≤ files → xs ≡ flat (warm_to w (pred f)) → Warmed s fs xs f st.end r ys → ys ≡ flat (warm_to w (pred (f + 1)))
  warm_turn zero xs ys r low high e k = absurd (omega arith)
  warm_turn (suc n) xs ys r low high e k = rw add-one (warm_next xs n e (omega arith) r ys k)

-- ---- no page is used, page by page

module _ (fresh : List ℕ) (files : ℕ) where
  abbrev sheet : List Entry
  sheet = pages_of fresh files

  pub unused_start : end_of sheet 0 ≡ 0
  unfolding end_of
  unused_start = refl

  page_at_lem : (n : ℕ) (r : Bool) → r ≡ is_blank_page (tested (page_bytes fresh (suc n)) (suc n) files) → n < length fresh / page_size → is_blank (get_or sheet n blank) ≡ r
  page_at_lem n r e h = ap is_blank (page_here files (length fresh / page_size) fresh n h) ∙ sym (e ∙ blank_is fresh (suc n) files)

  pub unused_turn : (p : ℕ) (r : Bool) → r ≡ is_blank_page (tested (page_bytes fresh p) p files) → 1 ≤ p → p ≤ length fresh / page_size → r ≡ true
      → end_of sheet (pred p) ≡ 0 → end_of sheet (pred (p + 1)) ≡ 0
  unfolding end_of
  unused_turn zero r e low high t k = absurd (omega arith)
  unused_turn (suc n) r e low high t k = let z : is_blank (get_or sheet n blank) ≡ true = page_at_lem n r e (omega arith) ∙ t in rw (add-one, z) k

  end_rises : (n m : ℕ) → n ≤ m → 1 ≤ end_of sheet n → 1 ≤ end_of sheet m
  unfolding end_of
  end_rises n zero h k = let z : n ≡ 0 = omega arith in rw z at k
  end_rises n (suc m) h k = go (eqb n (suc m)) refl (λ l. end_rises n m l k)
    where
      step : (b : Bool) → 1 ≤ end_of sheet m → 1 ≤ cond b (end_of sheet m) (suc m)
      step true x = x
      step false x = omega arith

      go : (b : Bool) → eqb n (suc m) ≡ b → (n ≤ m → 1 ≤ end_of sheet m) → 1 ≤ end_of sheet (suc m)
      go true e r = let z = eqb-true n (suc m) e in rw z at k
      go false e r = step (is_blank (get_or sheet m blank)) (r (omega (arith, eqb-false n (suc m) e)))

  pub used_here : (p : ℕ) (r : Bool) → r ≡ is_blank_page (tested (page_bytes fresh p) p files) → 1 ≤ p → p ≤ length fresh / page_size → r ≡ false
      → false ≡ is_unused sheet
  unfolding end_of
  used_here zero r e low high t = absurd (omega arith)
  used_here (suc n) r e low high t =
      let z : is_blank (get_or sheet n blank) ≡ false = page_at_lem n r e (omega arith) ∙ t in
      let one : 1 ≤ end_of sheet (suc n) = rw z (omega arith) in
      let long : length sheet ≡ length fresh / page_size = pages_long files (length fresh / page_size) fresh in
      let some = end_rises (suc n) (length sheet) (omega arith) one in
      sym (ne_eqb (end_of sheet (length sheet)) 0 (λ q. omega arith))

  pub unused_first : is_unused sheet ≡ true → 0 < length fresh / page_size → is_blank_page (tested (page_bytes fresh 1) 1 files) ≡ true
  unused_first u h = go (is_blank_page (tested (page_bytes fresh 1) 1 files)) refl
    where
      go : (r : Bool) → r ≡ is_blank_page (tested (page_bytes fresh 1) 1 files) → r ≡ true
      go true e = refl
      go false e = absurd (false≢true (used_here 1 false e (omega arith) (omega arith) refl ∙ u))

  pub unused_end : (n : ℕ) → end_of sheet n ≡ 0 → n ≡ length fresh / page_size → true ≡ is_unused sheet
  unused_end n e h =
      let long : n ≡ length sheet = omega (arith, pages_long files (length fresh / page_size) fresh) in
      sym (eq-eqb (end_of sheet (length sheet)) 0 (rw long at e))
