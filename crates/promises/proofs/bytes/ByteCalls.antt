-- A call over bytes is the call over decoded pages: the bytes that it leaves, or that a cut leaves of it, are the pages that it
-- leaves.
use Prim.Native.Nat.{ℕ, zero, suc, ◌-◌, ◌*◌, ◌≤◌, ◌<◌}
use mathlib.Core.Path.{◌≡◌, refl, sym, ap, ◌∙◌}
use mathlib.Core.List.{List, [], ◌∷◌, ◌++◌}
use mathlib.Core.Bool.{Bool, true, false, cond}
use native.Mathlib.Omega.{arith}
use lib.ListN.{length, get_or, take, drop, replicate, length-take, length-drop, length-replicate, take-append-drop}
use lib.Seq.{ext_get_or, drop-drop}
use lib.Dec.{eqb, leb, ltb}
use borrow.Author.Tests.{eqb-true, leb-true, leb-false, eq-eqb, ne_eqb}
use Rattle.encoding.specs.Bytes.{zeros}
use Rattle.encoding.proofs.Logic.{and_true, clash}
use Rattle.page.specs.declared.Unpacked.{Unpacked}
use Rattle.page.specs.declared.Unpacked.TheVariants.{Refused, Blank, Torn, Opening, Image as AnImage, Outcome, Unfit}
use Rattle.page.specs.Layout.{page_size, most_places, most_files}
use Rattle.page.specs.Answers.{tested}
use Rattle.page.proofs.Found.{found}
use Rattle.recovery.specs.Places.{put}
use Rattle.recovery.specs.Log.{Entry, blank, torn, bad, opening, image, outcome, fate_of, undecided}
use Rattle.recovery.specs.Sheet.{page_bytes, entry_of, is_opening, decoded, seal, sealed, pages}
use Rattle.recovery.specs.World.{World, entry_at}
use Rattle.recovery.proofs.Pages.{page_at_place, opening_sealed}
use Rattle.calls.specs.Leaves.{packed_entry, with_page, grown}
use Rattle.calls.specs.Cuts.{mixed, stored_of}
use Rattle.recovery.proofs.Spots.{entry_in, entry_top, entry_down}
use Rattle.recovery.proofs.LogFates.{undecided_known}
use Rattle.promises.proofs.logs.Logs.{known_place, opening_at, Fits}
use Rattle.promises.proofs.worlds.Openings.{Holds}
use Rattle.promises.proofs.bytes.Mixed.{mixed_long, mixed_all, mixed_same}
use Rattle.promises.proofs.bytes.Cuts.{holds_put}
use Rattle.promises.proofs.bytes.Replaced.{replaced_long, replaced_here, unsealed, bad_blank, decoded_other, pages_replaced}
use Rattle.promises.proofs.bytes.Stored.{bytes_of, partial, Fitting, entry_long, partly_stored}
use Rattle.promises.proofs.bytes.Appended.{FitStep, fit_stay, fit_add}
use Rattle.promises.specs.Runs.{Ordered}

-- a sheet is determined by its size and its log
pub holds_unique : (s s' : List Entry) (n : ℕ) (l : List Entry) → Holds s n l → Holds s' n l → s ≡ s'
holds_unique s s' n l h h' = ext_get_or blank s s' (h.long ∙ sym h'.long) (λ i u. go i (leb (suc i) (length l)) refl)
  where
    go : (i : ℕ) → (b : Bool) → leb (suc i) (length l) ≡ b → get_or s i blank ≡ get_or s' i blank
    go i true e =
        let k : suc i ≤ length l = leb-true (suc i) (length l) e in
        sym (entry_down s (length l) (suc i) k) ∙ ap (λ l. entry_in l (suc i)) (h.log ∙ sym h'.log) ∙ entry_down s' (length l) (suc i) k
    go i false e = let k : length l < suc i = leb-false (suc i) (length l) e in h.clean (suc i) k ∙ sym (h'.clean (suc i) k)

-- ---- zeros

zero_all : (b : List ℕ) → zeros b ≡ true → b ≡ replicate (length b) 0
zero_all [] e = refl
zero_all (x ∷ xs) e = let h = and_true (eqb x 0) (zeros xs) e in rw (eqb-true x 0 h.0) (ap (λ l. 0 ∷ l) (zero_all xs h.1))

pub drop_zeros : (i n : ℕ) → drop {A = ℕ} i (replicate n 0) ≡ replicate (n - i) 0
drop_zeros zero n = let z : n - 0 ≡ n = omega arith in rw z
drop_zeros (suc i) zero = let z : 0 - suc i ≡ 0 = omega arith in rw z
drop_zeros (suc i) (suc n) = let z : suc n - suc i ≡ n - i = omega arith in rw z (drop_zeros i n)

-- a page that decodes as blank is all zeros
blank_zero : (files : ℕ) (s : List ℕ) (p : ℕ) → length (page_bytes s p) ≡ page_size → decoded files s p ≡ blank → page_bytes s p ≡ replicate page_size 0
unfolding decoded
blank_zero files s p l e = go (tested (page_bytes s p) p files) refl e
  where
    go : (u : Unpacked) → u ≡ tested (page_bytes s p) p files → entry_of (page_bytes s p) u ≡ blank → page_bytes s p ≡ replicate page_size 0
    go Refused q k = clash cc
    go Blank q k = rw l at (zero_all (page_bytes s p) (found (page_bytes s p) p files Blank q).1)
    go Torn q k = clash cc
    go (Opening x) q k = clash cc
    go (AnImage x) q k = clash cc
    go (Outcome x) q k = clash cc
    go Unfit q k = clash cc

-- a page put where it was
pub page_back : (s : List ℕ) (e : ℕ) → with_page s e (page_bytes s (suc e)) ≡ s
unfolding with_page
page_back s e =
    ap (λ t. take (page_size * e) s ++ (page_bytes s (suc e) ++ t)) (sym (drop-drop page_size (page_size * e) s))
    ∙ ap (λ t. take (page_size * e) s ++ t) (take-append-drop page_size (drop (page_size * e) s)) ∙ take-append-drop (page_size * e) s

-- a cut of a call that stored nothing
pub cut_same : (kept : ℕ → Bool) (s : List ℕ) (e : ℕ) → stored_of kept e s s ≡ s
cut_same kept s e = ap (with_page s e) (mixed_same kept (page_bytes s (suc e))) ∙ page_back s e

-- ---- a page stored above the end

module _ (files n : ℕ) (s : List ℕ) (l : List Entry) (h : Holds (pages files n s) n l)
    (long : length s ≡ page_size * n) (high : n ≤ most_places) (some : 1 ≤ files) (few : files ≤ most_files) where
  -- an undecided action's page decodes as an opening
  live_decoded : (a : ℕ) → fate_of l a ≡ undecided → is_opening (decoded files s a) ≡ true
  unfolding sealed
  live_decoded a e =
      let p = known_place l a h.lawful (undecided_known e) in
      sym (opening_sealed (decoded files s) (decoded files s a))
      ∙ ap is_opening (sym (page_at_place files n s a p.0 (omega (arith, p.1, h.room))) ∙ sym (entry_down (pages files n s) (length l) a p.1) ∙ ap (λ l. entry_in l a) h.log)
      ∙ opening_at l a h.lawful (undecided_known e)

  module _ (room : length l < n) where
    page_zero : page_bytes s (suc (length l)) ≡ replicate page_size 0
    unfolding sealed
    page_zero = blank_zero files s (suc (length l)) (simp (length-take, length-drop) (omega arith))
        (unsealed (decoded files s) (decoded files s (suc (length l))) blank bad_blank
        (sym (page_at_place files n s (suc (length l)) (omega arith) room) ∙ h.clean (suc (length l)) (omega arith)))

    live : (x : List ℕ) → length x ≡ page_size → (a : ℕ) → fate_of l a ≡ undecided → is_opening (decoded files (with_page s (length l) x) a) ≡ true
    live x k a e =
        ap is_opening (decoded_other files n s (length l) x long room k (λ p q r. h.clean p q) a (λ q. omega (arith, (known_place l a h.lawful (undecided_known e)).1))) ∙ live_decoded a e

    seal_new : (x : List ℕ) (g : Entry) → length x ≡ page_size → Fits g l → seal (decoded files (with_page s (length l) x)) g ≡ g
    seal_new x blank k f = refl
    seal_new x torn k f = refl
    seal_new x bad k f = refl
    seal_new x (opening j) k f = refl
    seal_new x (image i) k f = ap (λ (o : Bool). cond o (image i) bad) (live x k i.action f.live)
    seal_new x (outcome a c) k f = ap (λ (o : Bool). cond o (outcome a c) bad) (live x k a f)

    -- the pages, when these bytes of the page are stored
    module _ (g : Entry) (f : Fits g l) (pk : Fitting files (suc (length l)) g) (kept : ℕ → Bool) (o : Ordered kept) where
      abbrev first : List ℕ
      first = mixed kept (packed_entry (suc (length l)) g) (replicate page_size 0)

      page_long : length (packed_entry (suc (length l)) g) ≡ page_size
      page_long = entry_long files (suc (length l)) g pk

      first_long : length first ≡ page_size
      first_long = mixed_long kept (packed_entry (suc (length l)) g) (replicate page_size 0) (length-replicate {A = ℕ} page_size 0 ∙ sym page_long) ∙ page_long

      seal_partial : (b c : Bool) → seal (decoded files (with_page s (length l) first)) (cond b blank (cond c torn g)) ≡ cond b blank (cond c torn g)
      seal_partial true c = refl
      seal_partial false true = refl
      seal_partial false false = seal_new first g first_long f

      pub stored_pages : pages files n (with_page s (length l) first) ≡ put (pages files n s) (suc (length l)) (partial (bytes_of kept) g)
      stored_pages = pages_replaced files n s (length l) first long room first_long (λ p q r. h.clean p q) (partial (bytes_of kept) g)
          (ap (seal (decoded files (with_page s (length l) first))) (partly_stored files (suc (length l)) (omega arith) (omega arith) some few g pk kept o)
          ∙ seal_partial (eqb (bytes_of kept) 0) (ltb (bytes_of kept) page_size))

      -- what the cut leaves of them
      cut_stored : stored_of kept (length l) (with_page s (length l) (packed_entry (suc (length l)) g)) s ≡ with_page s (length l) first
      cut_stored =
          ap (λ b. with_page s (length l) (mixed kept b (page_bytes s (suc (length l))))) (replaced_here s n (length l) (packed_entry (suc (length l)) g) long room page_long)
          ∙ ap (λ b. with_page s (length l) (mixed kept (packed_entry (suc (length l)) g) b)) page_zero

    every : Ordered (λ i. true)
    every = record { first = λ i h e. refl; last = λ e i h. refl }

    stored_whole : (g : Entry) → Fits g l → Fitting files (suc (length l)) g
        → pages files n (with_page s (length l) (packed_entry (suc (length l)) g)) ≡ put (pages files n s) (suc (length l)) g
    stored_whole g f pk =
        let z : mixed (λ i. true) (packed_entry (suc (length l)) g) (replicate page_size 0) ≡ packed_entry (suc (length l)) g =
        mixed_all (λ i. true) (packed_entry (suc (length l)) g) (replicate page_size 0) (length-replicate {A = ℕ} page_size 0 ∙ sym (entry_long files (suc (length l)) g pk)) (λ i k. refl) in
        ap (λ b. pages files n (with_page s (length l) b)) (sym z) ∙ stored_pages g f pk (λ i. true) every

  -- ---- the bytes that a call leaves, or that a cut leaves of it

  new_page : (w : World) (g : Entry) → Holds w.sheet n (g ∷ l) → entry_at w (suc (length l)) ≡ g
  new_page w g k = sym (entry_down w.sheet (suc (length l)) (suc (length l)) (omega arith)) ∙ ap (λ t. entry_in t (suc (length l))) k.log ∙ entry_top g l

  pub call_pages : {l' : List Entry} → FitStep files l l' → (w : World) → Holds w.sheet n l' → w.end ≡ length l' → pages files n (grown s (length l) w) ≡ w.sheet
  call_pages fit_stay w k e = rw (e, eq-eqb (length l) (length l) refl) (holds_unique (pages files n s) w.sheet n l h k)
  call_pages (fit_add g pk) w k e =
      rw (e, ne_eqb (suc (length l)) (length l) (λ q. omega arith), new_page w g k)
      (stored_whole k.room g k.lawful.0 (pk k.lawful)
      ∙ holds_unique (put (pages files n s) (suc (length l)) g) w.sheet n (g ∷ l) (holds_put (pages files n s) n l g h k.lawful.0 k.room) k)

  pub call_long : {l' : List Entry} → FitStep files l l' → (w : World) → Holds w.sheet n l' → w.end ≡ length l' → length (grown s (length l) w) ≡ page_size * n
  call_long fit_stay w k e = rw (e, eq-eqb (length l) (length l) refl) long
  call_long (fit_add g pk) w k e =
      rw (e, ne_eqb (suc (length l)) (length l) (λ q. omega arith), new_page w g k)
      (replaced_long s n (length l) (packed_entry (suc (length l)) g) long k.room (entry_long files (suc (length l)) g (pk k.lawful)))

  pub cut_pages_lem : {l' : List Entry} → FitStep files l l' → (w : World) → Holds w.sheet n l' → w.end ≡ length l' → (kept : ℕ → Bool) → Ordered kept
      → pages files n (stored_of kept (length l) (grown s (length l) w) s)
      ≡ cond (eqb w.end (length l)) (pages files n s) (put (pages files n s) (suc (length l)) (partial (bytes_of kept) (entry_at w (suc (length l)))))
  cut_pages_lem fit_stay w k e kept o = rw (e, eq-eqb (length l) (length l) refl) (ap (pages files n) (cut_same kept s (length l)))
  cut_pages_lem (fit_add g pk) w k e kept o =
      rw (e, ne_eqb (suc (length l)) (length l) (λ q. omega arith), new_page w g k)
      (ap (pages files n) (cut_stored k.room g k.lawful.0 (pk k.lawful) kept o) ∙ stored_pages k.room g k.lawful.0 (pk k.lawful) kept o)

  pub cut_long : {l' : List Entry} → FitStep files l l' → (w : World) → Holds w.sheet n l' → w.end ≡ length l' → (kept : ℕ → Bool) → Ordered kept
      → length (stored_of kept (length l) (grown s (length l) w) s) ≡ page_size * n
  cut_long fit_stay w k e kept o = rw (e, eq-eqb (length l) (length l) refl) (ap length (cut_same kept s (length l)) ∙ long)
  cut_long (fit_add g pk) w k e kept o =
      rw (e, ne_eqb (suc (length l)) (length l) (λ q. omega arith), new_page w g k)
      (ap length (cut_stored k.room g k.lawful.0 (pk k.lawful) kept o)
      ∙ replaced_long s n (length l) (first k.room g k.lawful.0 (pk k.lawful) kept o) long k.room (first_long k.room g k.lawful.0 (pk k.lawful) kept o))
