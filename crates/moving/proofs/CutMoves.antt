-- A move that is cut after n bytes of its pages: before its first page is stored whole the fresh sheet is opened, empty or with one torn
-- page; from then on until its outcome is stored, an opening of it is refused 24. Assumes nothing.
use Prim.Native.Nat.{ℕ, zero, suc, ◌+◌, ◌-◌, ◌*◌, ◌/◌, ◌%◌, ◌≤◌, ◌<◌}
use mathlib.Core.Path.{◌≡◌, refl, sym, ap, ◌∙◌}
use mathlib.Core.Bool.{Bool, true, false}
use mathlib.Core.List.{List, [], ◌∷◌, ◌++◌}
use mathlib.Core.Option.{Option, some, none}
use native.Mathlib.Omega.{arith}
use lib.ListN.{length, take, drop, length-append}
use lib.Seq.{take_all, take-append-le}
use lib.Dec.{eqb, leb}
use borrow.Author.Tests.{eqb-true, eqb-false, eq-eqb, le-leb, leb-true, leb-false}
use Rattle.page.specs.Layout.{page_size, most_places, most_files}
use Rattle.recovery.specs.Places.{nth}
use Rattle.recovery.specs.Log.{Image, Entry, blank, torn, opening, outcome, fate_of}
use Rattle.recovery.specs.declared.Refusal.TheVariants.{UnfinishedMove}
use Rattle.recovery.specs.declared.Row.{Row}
use Rattle.recovery.specs.declared.State.{State}
use Rattle.recovery.specs.declared.Answer.{Answer}
use Rattle.recovery.specs.declared.Answer.TheVariants.{Refused, Opened, Moved}
use Rattle.recovery.specs.World.{World, Result, sizes, down, end_of, highest_bad, fate_number, undecided_of, fates_of, unfinished, opened, warm_row}
use Rattle.recovery.specs.Lent.{row_length, rows_of, pages_of, lent, whole, open_leaves}
use Rattle.recovery.proofs.Places.{length_tabulate}
use Rattle.recovery.proofs.Pages.{pages_long}
use Rattle.recovery.proofs.FlatRows.{rows_long}
use Rattle.moving.specs.Moved.{warm_rows, version_of, carried_by, versions_to, move_pages}
use Rattle.moving.specs.MoveLeaves.{move_leaves}
use Rattle.moving.proofs.FreshLog.{count_to, Carries}
use Rattle.moving.proofs.FreshOpened.{AllBlank, end_at, none_undecided}
use Rattle.moving.proofs.FreshCut.{cut_sheet, whole_cut, torn_cut}
use Rattle.moving.proofs.ReadAlike.{carries}
use Rattle.moving.proofs.DecodedBytes.{decoded_lent}
use Rattle.moving.proofs.CutSheets.{Ready, cut_bytes, cut_long, cut_pages, whole_pages, torn_pages}
use Rattle.moving.proofs.FreshBytes.{ready, moved_is, bytes_are, fresh_size, fresh_whole, few_files, few_pages_lem}

-- ---- openings of an empty sheet, and of one torn page

module _ (fs : List ℕ) (rs : List Row) (t : ℕ) where
  pub empty_opened : (s : List Entry) → AllBlank s → sizes (length s) (length fs) (length rs) ≡ true → (opened s fs rs t).0 ≡ Opened 0 0
  unfolding opened unfinished down highest_bad fate_of
  empty_opened s b z =
      let end : end_of s (length s) ≡ 0 = end_at s (length s) 0 (omega arith) (λ h. absurd (omega arith)) above in
      let open-count : undecided_of (fates_of (length s) []) ≡ 0 = none_undecided (λ a. fate_number (fate_of [] a)) 0 (length s) (λ a. refl) in
      rw (z, end, b 0, open-count)
    where
      above : (p : ℕ) → 0 < p → nth blank s p ≡ blank
      above zero h = absurd (omega arith)
      above (suc p) h = b p

  pub torn_opened : (l : List Entry) → AllBlank l → sizes (suc (length l)) (length fs) (length rs) ≡ true → (opened (torn ∷ l) fs rs t).0 ≡ Opened 1 0
  unfolding opened unfinished down highest_bad fate_of
  torn_opened l b z =
      let end : end_of (torn ∷ l) (suc (length l)) ≡ 1 = end_at (torn ∷ l) (suc (length l)) 1 (omega arith) (λ h. refl) above in
      let open-count : undecided_of (fates_of (suc (length l)) (torn ∷ [])) ≡ 0 = none_undecided (λ a. fate_number (fate_of (torn ∷ []) a)) 0 (suc (length l)) (λ a. refl) in
      rw (z, end, open-count)
    where
      above : (p : ℕ) → 1 < p → nth blank (torn ∷ l) p ≡ blank
      above zero h = absurd (omega arith)
      above (suc zero) h = absurd (omega arith)
      above (suc (suc p)) h = b p

-- ---- the first versions are those of the first files

versions_cut : (w : World) (k c : ℕ) → c ≤ count_to w k → (m : ℕ) × (m ≤ k) × (take c (versions_to w k) ≡ versions_to w m)
unfolding versions_to
versions_cut w zero c h = (0, omega arith, take_all c [] (omega arith))
versions_cut w (suc k) c h = go (leb c (count_to w k)) refl (λ l. versions_cut w k c l)
  where
    one : (o : Option Image) → length (carried_by o) ≤ 1
    one none = omega arith
    one (some i) = omega arith

    go : (b : Bool) → leb c (count_to w k) ≡ b → (c ≤ count_to w k → (m : ℕ) × (m ≤ k) × (take c (versions_to w k) ≡ versions_to w m))
        → (m : ℕ) × (m ≤ suc k) × (take c (versions_to w (suc k)) ≡ versions_to w m)
    go true e r =
        let l : c ≤ count_to w k = leb-true c (count_to w k) e in
        let y = r l in
        (y.0, omega (arith, y.1), take-append-le c (versions_to w k) (carried_by (version_of w (suc k))) l ∙ y.2)
    go false e r =
        let high = leb-false c (count_to w k) e in
        let size = length-append (versions_to w k) (carried_by (version_of w (suc k))) in
        (suc k, omega arith, take_all c (versions_to w k ++ carried_by (version_of w (suc k))) (omega (arith, one (version_of w (suc k)))))

carries_down : (w : World) (k m : ℕ) → m ≤ k → Carries w k → Carries w m
carries_down w k m h c = record {
  file_is = λ f i a b e. c.file_is f i a (omega arith) e;
  started = λ f i a b e. c.started f i a (omega arith) e;
}

-- ---- the cut

module _ (s fates rows : List ℕ) (state : State) (fresh : List ℕ) (floor : ℕ) (e : (move_leaves s fates rows state fresh).left.answer ≡ Moved floor)
    (fs rs : List ℕ) (t : ℕ) (hf : length fs ≡ length fresh / page_size) (hr : length rs ≡ length rows) (n : ℕ) where
  abbrev v : World
  v = warm_rows (lent s fates rows state)

  abbrev files : ℕ
  files = length rows / row_length

  abbrev gs : List Entry
  gs = move_pages v

  k : Ready files fresh gs
  k = ready s fates rows state fresh floor e

  -- the first n bytes of the fresh sheet as the move leaves it, and the rest as it was
  abbrev pub cut_fresh : List ℕ
  cut_fresh = take n (move_leaves s fates rows state fresh).fresh ++ drop n fresh

  abbrev pages : List Entry
  pages = cut_pages files fresh gs k n

  cut_is : cut_fresh ≡ cut_bytes files fresh gs k n
  cut_is = ap (λ (l : List ℕ). take n l ++ drop n fresh) (bytes_are s fates rows state fresh floor e)

  size : length cut_fresh ≡ length fresh
  size = ap length cut_is ∙ cut_long files fresh gs k n

  opens_as : (open_leaves cut_fresh fs rs t).answer ≡ (opened pages fs (rows_of rs) t).0
  unfolding open_leaves
  opens_as =
      let z : whole (length cut_fresh) (length rows) ≡ true = rw (size, ← fresh_size s fates rows state fresh floor e) (fresh_whole s fates rows state fresh floor e) in
      rw (hr, z) (ap (λ (l : List ℕ). (opened (pages_of l files) fs (rows_of rs) t).0) cut_is)

  places : length pages ≡ length fresh / page_size
  places = pages_long files (length (cut_bytes files fresh gs k n) / page_size) (cut_bytes files fresh gs k n) ∙ ap (λ (m : ℕ). m / page_size) (cut_long files fresh gs k n)

  sized : sizes (length pages) (length fs) (length (rows_of rs)) ≡ true
  sized =
      let a = few_pages_lem s fates rows state fresh floor e in
      let b = few_files s fates rows state fresh floor e in
      let r : length (rows_of rs) ≡ files = rows_long rs ∙ rw hr in
      rw (
        places,
        hf,
        r,
        le-leb 1 (length fresh / page_size) a.0,
        le-leb (length fresh / page_size) most_places a.1,
        eq-eqb (length fresh / page_size) (length fresh / page_size) refl,
        le-leb 1 files b.0,
        le-leb files most_files b.1,
      )

  sized_as : (l : List Entry) → pages ≡ l → sizes (length l) (length fs) (length (rows_of rs)) ≡ true
  sized_as l h = ap (λ (m : List Entry). sizes (length m) (length fs) (length (rows_of rs))) (sym h) ∙ sized

  answer_as : (l : List Entry) (a : Answer) → pages ≡ l → (opened l fs (rows_of rs) t).0 ≡ a → (open_leaves cut_fresh fs rs t).answer ≡ a
  answer_as l a h q = opens_as ∙ ap (λ (m : List Entry). (opened m fs (rows_of rs) t).0) h ∙ q

  -- nothing is stored
  pub none_stored : n ≡ 0 → (open_leaves cut_fresh fs rs t).answer ≡ Opened 0 0
  none_stored z =
      let y = whole_pages files fresh gs k n 0 (omega arith) (omega arith) z in
      answer_as pages (Opened 0 0) refl (empty_opened fs (rows_of rs) t pages y.1 sized)

  -- some bytes of the opening
  pub opening_cut : 1 ≤ n → n < page_size → (open_leaves cut_fresh fs rs t).answer ≡ Opened 1 0
  opening_cut l h =
      let y = torn_pages files fresh gs k n 0 (omega arith) (omega arith) k.some (omega arith) (omega arith) in
      answer_as (torn ∷ drop 1 pages) (Opened 1 0) y.0 (torn_opened fs (rows_of rs) t (drop 1 pages) y.1 (sized_as (torn ∷ drop 1 pages) y.0))

  -- ---- the opening is stored

  many : length v.rows ≡ length (rows_of rows)
  many = length_tabulate (warm_row (lent s fates rows state)) 0 (length (rows_of rows))

  carried : Carries v (length v.rows)
  carried = rw many (carries (lent s fates rows state) v (pages_of fresh files) (gs ++ drop (length gs) (pages_of fresh files)) floor (decoded_lent s fates rows state) (moved_is s fates rows state fresh floor e))

  front : (c : ℕ) → suc c < length gs → (m : ℕ) × Carries v m × (take (suc c) gs ≡ opening true ∷ versions_to v m)
  unfolding move_pages
  front c h =
      let l : c ≤ count_to v (length v.rows) = omega (arith, length-append (versions_to v (length v.rows)) (outcome 1 true ∷ [])) in
      let y = versions_cut v (length v.rows) c l in
      (y.0, carries_down v (length v.rows) y.0 y.1 carried, ap (λ (x : List Entry). opening true ∷ x) (take-append-le c (versions_to v (length v.rows)) (outcome 1 true ∷ []) l ∙ y.2))

  module _ (c : ℕ) (h : suc c < length gs) (low : page_size * suc c ≤ n) where
    f : (m : ℕ) × Carries v m × (take (suc c) gs ≡ opening true ∷ versions_to v m)
    f = front c h

    whole_then : n ≡ page_size * suc c → (open_leaves cut_fresh fs rs t).answer ≡ Refused UnfinishedMove 0
    whole_then z =
        let y = whole_pages files fresh gs k n (suc c) (omega arith) low z in
        let rest : List Entry = drop (suc c) pages in
        let p : pages ≡ cut_sheet v f.0 rest = y.0 ∙ ap (λ (l : List Entry). l ++ rest) f.2 in
        answer_as (cut_sheet v f.0 rest) (Refused UnfinishedMove 0) p (ap (λ (r : Result). r.0) (whole_cut v f.0 rest y.1 f.1 fs (rows_of rs) t (sized_as (cut_sheet v f.0 rest) p)))

    torn_then : page_size * suc c < n → n < page_size * suc c + page_size → (open_leaves cut_fresh fs rs t).answer ≡ Refused UnfinishedMove 0
    torn_then a b =
        let y = torn_pages files fresh gs k n (suc c) (omega arith) low h a b in
        let rest : List Entry = drop (suc (suc c)) pages in
        let p : pages ≡ cut_sheet v f.0 (torn ∷ rest) = y.0 ∙ ap (λ (l : List Entry). l ++ (torn ∷ rest)) f.2 in
        answer_as (cut_sheet v f.0 (torn ∷ rest)) (Refused UnfinishedMove 0) p (ap (λ (r : Result). r.0) (torn_cut v f.0 rest y.1 f.1 fs (rows_of rs) t (sized_as (cut_sheet v f.0 (torn ∷ rest)) p)))

  -- and not the outcome
  pub move_cut : page_size ≤ n → n < page_size * length gs → (open_leaves cut_fresh fs rs t).answer ≡ Refused UnfinishedMove 0
  move_cut l h = go (eqb (n % page_size) 0) refl
    where
      c : ℕ
      c = n / page_size - 1

      go : (b : Bool) → eqb (n % page_size) 0 ≡ b → (open_leaves cut_fresh fs rs t).answer ≡ Refused UnfinishedMove 0
      go true q = whole_then c (omega arith) (omega arith) (omega (arith, eqb-true (n % page_size) 0 q))
      go false q = torn_then c (omega arith) (omega arith) (omega (arith, eqb-false (n % page_size) 0 q)) (omega arith)
