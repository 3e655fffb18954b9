-- After a move, a read outside any action at or above a carried start that the old sheet answers is answered alike by the fresh one;
-- the fresh sheet is lawful, and is opened with no open action. For every world that is lent. Assumes nothing.
use Prim.Native.Nat.{ℕ, zero, suc, ◌+◌, ◌≤◌, ◌<◌}
use mathlib.Core.Path.{◌≡◌, refl, sym, ap, ◌∙◌}
use mathlib.Core.Bool.{Bool, true, false, ◌&&◌, ◌||◌, true≢false}
use mathlib.Core.List.{List, [], ◌∷◌}
use mathlib.Core.Option.{Option, some, none}
use native.Mathlib.Omega.{arith}
use lib.ListN.{length, drop, length-append, length-drop}
use lib.Seq.{get_or-drop}
use lib.Dec.{eqb, leb}
use borrow.Author.Tests.{eqb-true, eq-eqb, ne_eqb, le-leb}
use Rattle.encoding.proofs.Logic.{and_true}
use Rattle.page.specs.Layout.{most_places, most_files}
use Rattle.recovery.specs.Places.{nth}
use Rattle.recovery.specs.Log.{Image, Entry, blank, torn, bad, opening, image, outcome}
use Rattle.inspection.specs.Lawful.{lowest_unlawful}
use Rattle.recovery.specs.declared.Row.{Row}
use Rattle.recovery.specs.declared.Answer.{Answer}
use Rattle.recovery.specs.declared.Answer.TheVariants.{Opened, Value, Nothing, Moved}
use Rattle.recovery.specs.Numbers.{is_refused}
use Rattle.recovery.specs.World.{World, sizes, entry_at, row_at, cold, down, end_of, is_image_of, place_holds, token_holds, warm_row, row_holds, lent_right, is_file, with_row, started, opened}
use Rattle.recovery.proofs.Places.{length_tabulate, nth_tabulate}
use Rattle.recovery.proofs.Lookups.{is_file_lem}
use Rattle.inspection.proofs.LowestUnlawful.{lowest_none}
use Rattle.calls.specs.Calls.{read, call, image_of, is_carried_at, on_token, on_versions}
use Rattle.calls.proofs.LinkByLink.{reached}
use Rattle.moving.specs.Moved.{version_of, carried, versions_to, move_pages, moved}
use Rattle.moving.specs.Promised.{Decoded, SameReads, none_both, value_both, FromStart}
use Rattle.moving.proofs.FreshLog.{move_log, count_to, Carries, move_lawful}
use Rattle.moving.proofs.FreshOpened.{AllBlank, fresh_sheet, pages_to, above, fresh_end, fresh_log_lem, fresh_opened, fresh_page, fresh_read, fresh_none}
use Rattle.moving.proofs.Went.{Went, went}

-- ---- the image that a place holds

pub image_is : (g : Entry) (i : Image) → image_of g ≡ some i → g ≡ image i
image_is blank i e = let z : ◌≡◌ {A = ℕ} 0 1 = cc in absurd (omega arith)
image_is torn i e = let z : ◌≡◌ {A = ℕ} 0 1 = cc in absurd (omega arith)
image_is bad i e = let z : ◌≡◌ {A = ℕ} 0 1 = cc in absurd (omega arith)
image_is (opening k) i e = let z : ◌≡◌ {A = ℕ} 0 1 = cc in absurd (omega arith)
image_is (image j) i e = let z : j ≡ i = cc in ap image z
image_is (outcome a c) i e = let z : ◌≡◌ {A = ℕ} 0 1 = cc in absurd (omega arith)

-- line 7: an image at a row's current place is one of the file
file_held : (v : World) (f : ℕ) (r : Row) (i : Image) → row_holds v f r ≡ true → image_of (entry_at v r.current) ≡ some i → i.file ≡ f
unfolding row_holds
file_held v f r i h e =
    go r.current (and_true (leb r.mark 1) (place_holds v f r.current) (and_true (leb r.mark 1 && place_holds v f r.current) (token_holds v f r) h).0).1 e
  where
    there : (p : ℕ) → image_of (entry_at v p) ≡ some i → is_image_of f (entry_at v p) ≡ true → i.file ≡ f
    there p e q = eqb-true i.file f (rw (image_is (entry_at v p) i e) at q)

    by_place : (p : ℕ) (b : Bool) → eqb p 0 ≡ b → (b || (leb p v.end && is_image_of f (entry_at v p))) ≡ true → image_of (entry_at v p) ≡ some i → i.file ≡ f
    by_place zero b q h e = let z : ◌≡◌ {A = ℕ} 0 1 = cc in absurd (omega arith)
    by_place (suc p) true q h e = absurd (omega (arith, eqb-true (suc p) 0 q))
    by_place (suc p) false q h e = there (suc p) e (and_true (leb (suc p) v.end) _ h).1

    go : (p : ℕ) → place_holds v f p ≡ true → image_of (entry_at v p) ≡ some i → i.file ≡ f
    go p h e = by_place p (eqb p 0) refl h e

-- ---- rows that the move left are rebuilt

warm_mark : (w : World) (f : ℕ) → eqb (warm_row w f).mark 0 ≡ false
unfolding warm_row
warm_mark w f = go (eqb (row_at w f).mark 0) refl
  where
    go : (b : Bool) → eqb (row_at w f).mark 0 ≡ b → eqb (warm_row w f).mark 0 ≡ false
    go true e = rw e
    go false e = rw e e

-- line 1 of the files
pub files_lent : (w : World) → lent_right w ≡ true → (leb 1 (length w.rows) ≡ true) × (leb (length w.rows) most_files ≡ true)
unfolding lent_right
files_lent w h =
    let a = length w.sheet in
    let b = length w.fates in
    let k = length w.rows in
    let s1 = and_true (sizes a b k && leb w.end a) (leb w.undecided w.end) h in
    let s2 = and_true (sizes a b k) (leb w.end a) s1.0 in
    let s3 = and_true (leb 1 a && leb a most_places && eqb b a && leb 1 k) (leb k most_files) s2.0 in
    let s4 = and_true (leb 1 a && leb a most_places && eqb b a) (leb 1 k) s3.0 in
    (s4.1, s3.1)

-- what a version answers at or above its start, and no version
abbrev current_answer : ℕ → Option Image → Answer
current_answer p none = Nothing
current_answer p (some i) = Value p i.start (length i.value)

module _ (w v : World) (fresh f : List Entry) (floor : ℕ) (d : Decoded w) (e : moved w fresh ≡ ((Moved floor, v), f)) where
  g : Went w fresh floor v f
  g = went w v fresh f floor e

  abbrev files : ℕ
  files = length w.rows

  long : length v.rows ≡ files
  long = rw g.world (length_tabulate (warm_row w) 0 (length w.rows))

  lent_still : lent_right v ≡ true
  unfolding lent_right
  lent_still = rw (g.world, length_tabulate (warm_row w) 0 (length w.rows)) g.lent

  page_still : (p : ℕ) → entry_at v p ≡ entry_at w p
  page_still p = rw g.world

  row_still : (n : ℕ) → 1 ≤ n → n ≤ files → row_at v n ≡ warm_row w n
  row_still n h l = rw g.world (nth_tabulate (warm_row w) files n cold h l)

  pub carries : Carries v files
  carries = record {
    file_is = λ n i h l q. file_held v n (row_at v n) i (g.held n h (rw long l)) q;
    started = λ n i h l q. (d (row_at v n).current i (sym (page_still (row_at v n).current) ∙ image_is (entry_at v (row_at v n).current) i q)).0;
  }

  -- ---- the old sheet's read

  module _ (n time : ℕ) (h : 1 ≤ n) (l : n ≤ files) where
    warm_still : warm_row v n ≡ row_at v n
    unfolding warm_row
    warm_still = let m : eqb (row_at v n).mark 0 ≡ false = rw (row_still n h l) (warm_mark w n) in rw m

    held_still : row_holds (with_row v n (row_at v n)) n (row_at v n) ≡ true
    unfolding row_holds
    held_still = g.held n h (rw long l)

    reads_as : call v (read n time 0) ≡ on_token (with_row v n (row_at v n)) n time 0 (row_at v n) (image_of (entry_at v (row_at v n).token))
    unfolding call
    reads_as = rw (lent_still, long, le-leb 1 n h, le-leb n files l, warm_still, held_still)

    reads_versions : FromStart v n time → (on_versions (with_row v n (row_at v n)) n time (row_at v n)).0 ≡ current_answer (row_at v n).current (version_of v n)
    reads_versions late = go (version_of v n) refl
      where
        go : (z : Option Image) → version_of v n ≡ z → (on_versions (with_row v n (row_at v n)) n time (row_at v n)).0 ≡ current_answer (row_at v n).current z
        go none q = rw q
        go (some i) q = rw (q, le-leb i.start time (late i q), reached (is_carried_at v) v.sheet n time false (record { place = (row_at v n).current; image = i }) (late i q))

    -- if it is answered, it shows the current version, if there is one
    old_read : FromStart v n time → is_refused (call v (read n time 0)).0 ≡ false → (call v (read n time 0)).0 ≡ current_answer (row_at v n).current (version_of v n)
    unfolding is_refused
    old_read late a = rw reads_as (go (image_of (entry_at v (row_at v n).token)) refl (rw reads_as at a))
      where
        by_start : (i : Image) → entry_at v (row_at v n).token ≡ image i → (b : Bool) → leb i.start time ≡ b
            → is_refused (on_token (with_row v n (row_at v n)) n time 0 (row_at v n) (some i)).0 ≡ false
            → (on_token (with_row v n (row_at v n)) n time 0 (row_at v n) (some i)).0 ≡ current_answer (row_at v n).current (version_of v n)
        by_start i q true z a =
            let own : eqb i.action 0 ≡ false = ne_eqb i.action 0 (λ y. omega (arith, (d (row_at v n).token i (sym (page_still (row_at v n).token) ∙ q)).1)) in
            absurd (true≢false (rw (z, own) at a))
        by_start i q false z a = rw z (reads_versions late)

        go : (x : Option Image) → image_of (entry_at v (row_at v n).token) ≡ x
            → is_refused (on_token (with_row v n (row_at v n)) n time 0 (row_at v n) x).0 ≡ false
            → (on_token (with_row v n (row_at v n)) n time 0 (row_at v n) x).0 ≡ current_answer (row_at v n).current (version_of v n)
        go none q a = reads_versions late
        go (some i) q a = by_start i (image_is (entry_at v (row_at v n).token) i q) (leb i.start time) refl a

  -- ---- the fresh sheet

  abbrev rest : List Entry
  rest = drop (length (move_pages v)) fresh

  rest_blank : AllBlank rest
  rest_blank p = get_or-drop (length (move_pages v)) fresh p blank ∙ g.blank (length (move_pages v) + p)

  fresh_sheet_lem : f ≡ fresh_sheet v files rest
  unfolding move_pages
  fresh_sheet_lem = g.fresh_is ∙ rw long

  pub pages_are : length (move_pages v) ≡ pages_to v files
  unfolding move_pages
  pages_are = rw long (omega (arith, length-append (versions_to v files) (outcome 1 true ∷ [])))

  pub fresh_long : length f ≡ length fresh
  fresh_long = ap length g.fresh_is ∙ simp (length-append, length-drop) (omega (arith, g.room))

  -- it is lawful
  pub fresh_lawful : lowest_unlawful (down f (end_of f (length f))) ≡ 0
  fresh_lawful = rw (fresh_sheet_lem, fresh_end v files rest rest_blank carries, fresh_log_lem v files rest rest_blank carries)
      (lowest_none _ (move_lawful v files carries))

  -- its log, and the blank pages above it
  pub fresh_down : down f (length (move_pages v)) ≡ move_log v files
  fresh_down = rw (pages_are, fresh_sheet_lem) (fresh_log_lem v files rest rest_blank carries)

  pub fresh_above : (p : ℕ) → length (move_pages v) < p → nth blank f p ≡ blank
  fresh_above p h = rw fresh_sheet_lem (above v files rest rest_blank carries p (rw pages_are at h))

  -- ---- it is opened for as many files, with any floor

  pub sized : (m k : ℕ) → m ≡ length f → k ≡ files → sizes (length f) m k ≡ true
  sized m k hm hk =
      let few = files_lent w g.lent in
      rw (hm, hk, eq-eqb (length f) (length f) refl, fresh_long, g.sheet, few.0) few.1

  opens : (fs : List ℕ) (rs : List Row) (t : ℕ) → length fs ≡ length fresh → length rs ≡ files
      → opened f fs rs t ≡ (Opened (pages_to v files) 0, started (fresh_sheet v files rest) (pages_to v files) files t)
  opens fs rs t hf hr =
      rw fresh_sheet_lem (rw hr at (fresh_opened v files rest rest_blank carries fs rs t (rw fresh_sheet_lem at (sized (length fs) (length rs) (hf ∙ sym fresh_long) hr))))

  -- its end is its last stored page, and no action is open
  pub fresh_opens : (fs : List ℕ) (rs : List Row) (t : ℕ) → length fs ≡ length fresh → length rs ≡ files
      → opened f fs rs t ≡ (Opened (length (move_pages v)) 0, started f (length (move_pages v)) files t)
  fresh_opens fs rs t hf hr =
      let same : started (fresh_sheet v files rest) (pages_to v files) files t ≡ started f (length (move_pages v)) files t =
      ap (λ (s : List Entry). started s (pages_to v files) files t) (sym fresh_sheet_lem) ∙ ap (λ (n : ℕ). started f n files t) (sym pages_are) in
      opens fs rs t hf hr ∙ rw (same, ← pages_are)

  -- ---- reads alike

  module _ (fs : List ℕ) (rs : List Row) (t n time : ℕ) (hf : length fs ≡ length fresh) (hr : length rs ≡ files) (hn : is_file files n ≡ true) where
    low : 1 ≤ n
    low = (is_file_lem files n hn).0

    high : n ≤ files
    high = (is_file_lem files n hn).1

    fits : sizes (length (fresh_sheet v files rest)) (length (fresh_sheet v files rest)) files ≡ true
    fits = rw fresh_sheet_lem at (sized (length f) files refl refl)

    abbrev N : World
    N = started (fresh_sheet v files rest) (pages_to v files) files t

    pub read_alike : FromStart v n time → is_refused (call v (read n time 0)).0 ≡ false
        → SameReads v (opened f fs rs t).1 (call v (read n time 0)).0 (call (opened f fs rs t).1 (read n time 0)).0
    read_alike late a = rw (opens fs rs t hf hr) (go (version_of v n) refl)
      where
        go : (z : Option Image) → version_of v n ≡ z → SameReads v N (call v (read n time 0)).0 (call N (read n time 0)).0
        go none q =
            let x : (call v (read n time 0)).0 ≡ Nothing = old_read n time low high late a ∙ rw q in
            let y : (call N (read n time 0)).0 ≡ Nothing = fresh_none v files rest rest_blank carries t n low high time fits q in
            rw (x, y) none_both
        go (some i) q =
            let p : ℕ = (row_at v n).current in
            let x : (call v (read n time 0)).0 ≡ Value p i.start (length i.value) = old_read n time low high late a ∙ rw q in
            let y : (call N (read n time 0)).0 ≡ Value (suc (count_to v n)) i.start (length i.value) =
            fresh_read v files rest rest_blank carries t n low high time fits i q (late i q) in
            rw (x, y) (value_both p (suc (count_to v n)) i (carried i) (image_is (entry_at v p) i q)
            (fresh_page v files rest rest_blank carries t n low high i q) (record { file = refl; start = refl; value = refl }))
