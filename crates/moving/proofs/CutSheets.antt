-- A blank sheet onto which the first n bytes of pages are stored, one page above another: its pages are those that are stored whole, then
-- one that is torn, or none, and blank ones above. Assumes nothing.
use Prim.Native.Nat.{ℕ, zero, suc, ◌+◌, ◌-◌, ◌*◌, ◌/◌, ◌≤◌, ◌<◌}
use mathlib.Core.Path.{◌≡◌, refl, sym, ap, ◌∙◌}
use mathlib.Core.Bool.{Bool, true, false, cond}
use mathlib.Core.List.{List, [], ◌∷◌, ◌++◌, append_assoc, append-nil}
use native.Mathlib.Omega.{arith}
use lib.ListN.{length, get_or, take, drop, replicate, length-append, length-take, length-drop, length-replicate, take-append-drop, get_or-append, get_or-eq_default}
use lib.Seq.{take_at, take_all, drop-append-add, drop-drop, drop-cons, get_or-take, get_or-drop, get_or-append-add, ext_get_or, length-take-le}
use lib.Dec.{eqb, ltb}
use borrow.Author.Tests.{lt-ltb, le-ltb, ltb-true, ltb-false, eq-eqb, ne_eqb}
use Rattle.encoding.proofs.Logic.{bool_ext}
use Rattle.page.specs.Layout.{page_size, most_places, most_files}
use Rattle.page.specs.Answers.{tested, cut}
use Rattle.page.proofs.Rules.{InBounds}
use Rattle.recovery.specs.Log.{Entry, blank, torn}
use Rattle.recovery.specs.Sheet.{page_bytes, entry_of, is_opening, decoded, seal, sealed}
use Rattle.recovery.specs.Lent.{pages_of}
use Rattle.recovery.proofs.Pages.{pages_long, page_here}
use Rattle.calls.specs.Leaves.{packed_entry}
use Rattle.moving.specs.MoveLeaves.{laid, onto}
use Rattle.moving.proofs.FreshOpened.{AllBlank}
use Rattle.moving.proofs.FittingPages.{PageFits, Seals, partial, entry_size, zero_read, partly_read, whole_read}

-- ---- two runs of bytes, the first up to n

-- the first n bytes of one run, and the rest of another
abbrev pub up_to : ℕ → List ℕ → List ℕ → List ℕ
up_to n new old = take n new ++ drop n old

module _ (n : ℕ) (new old : List ℕ) (same : length new ≡ length old) where
  pub up_to_long : length (up_to n new old) ≡ length old
  up_to_long = simp (length-append, length-take, length-drop) (omega (arith, same))

  up_to_at : (i : ℕ) → i < length old → get_or (up_to n new old) i 0 ≡ cond (ltb i n) (get_or new i 0) (get_or old i 0)
  up_to_at i h = go (ltb i n) refl
    where
      go : (b : Bool) → ltb i n ≡ b → get_or (up_to n new old) i 0 ≡ cond b (get_or new i 0) (get_or old i 0)
      go true e =
          let l : i < n = ltb-true i n e in
          get_or-append (take n new) (drop n old) 0 i (rw length-take (omega arith)) ∙ get_or-take n new i 0 l
      go false e =
          let l : n ≤ i = ltb-false i n e in
          let k : length (take n new) ≡ n = length-take-le n new (omega arith) in
          let j : i ≡ length (take n new) + (i - n) = omega (arith, k) in
          let z : n + (i - n) ≡ i = omega arith in
          ap (λ (x : ℕ). get_or (up_to n new old) x 0) j ∙ get_or-append-add (take n new) (drop n old) (i - n) 0 ∙ get_or-drop n old (i - n) 0 ∙ ap (λ (x : ℕ). get_or old x 0) z

page_size_lem : (s : List ℕ) (q : ℕ) → page_size * q + page_size ≤ length s → length (page_bytes s (suc q)) ≡ page_size
page_size_lem s q h = length-take-le page_size (drop (page_size * q) s) (omega (arith, length-drop (page_size * q) s))

page_byte : (s : List ℕ) (q i : ℕ) → i < page_size → get_or (page_bytes s (suc q)) i 0 ≡ get_or s (page_size * q + i) 0
page_byte s q i h = get_or-take page_size (drop (page_size * q) s) i 0 h ∙ get_or-drop (page_size * q) s i 0

-- page by page
up_to_page : (n : ℕ) (new old : List ℕ) → length new ≡ length old → (q : ℕ) → page_size * q + page_size ≤ length old
    → page_bytes (up_to n new old) (suc q) ≡ up_to (n - page_size * q) (page_bytes new (suc q)) (page_bytes old (suc q))
up_to_page n new old same q h =
    let m : ℕ = n - page_size * q in
    let a : length (page_bytes new (suc q)) ≡ page_size = page_size_lem new q (omega arith) in
    let b : length (page_bytes old (suc q)) ≡ page_size = page_size_lem old q h in
    let c : length (page_bytes (up_to n new old) (suc q)) ≡ page_size = page_size_lem (up_to n new old) q (omega (arith, up_to_long n new old same)) in
    let ab : length (page_bytes new (suc q)) ≡ length (page_bytes old (suc q)) = a ∙ sym b in
    ext_get_or 0 (page_bytes (up_to n new old) (suc q)) (up_to m (page_bytes new (suc q)) (page_bytes old (suc q))) (c ∙ sym (up_to_long m (page_bytes new (suc q)) (page_bytes old (suc q)) ab ∙ b))
    (λ i k.
    let l : i < page_size = omega (arith, c) in
    let t : ltb i m ≡ ltb (page_size * q + i) n =
    bool_ext (ltb i m) (ltb (page_size * q + i) n) (λ u. lt-ltb (page_size * q + i) n (omega (arith, ltb-true i m u))) (λ u. lt-ltb i m (omega (arith, ltb-true (page_size * q + i) n u))) in
    page_byte (up_to n new old) q i l ∙ up_to_at n new old same (page_size * q + i) (omega arith)
    ∙ sym (up_to_at m (page_bytes new (suc q)) (page_bytes old (suc q)) ab i (omega (arith, b)) ∙ rw (t, page_byte new q i l, page_byte old q i l)))

-- over zeros
drop_zeros : (m n : ℕ) → m ≤ n → drop m (replicate {A = ℕ} n 0) ≡ replicate (n - m) 0
drop_zeros zero n h = let z : n - 0 ≡ n = omega arith in rw z
drop_zeros (suc m) zero h = absurd (omega arith)
drop_zeros (suc m) (suc n) h = let z : suc n - suc m ≡ n - m = omega arith in rw z (drop_zeros m n (omega arith))

cut_page_lem : (m : ℕ) (b : List ℕ) → length b ≡ page_size → m ≤ page_size → up_to m b (replicate page_size 0) ≡ cut m b
cut_page_lem m b l h = rw (drop_zeros m page_size h, l)

over_page : (m : ℕ) (b : List ℕ) → length b ≡ page_size → page_size ≤ m → up_to m b (replicate page_size 0) ≡ b
over_page m b l h =
    let none : drop m (replicate {A = ℕ} page_size 0) ≡ [] = lib.ListN.drop_of_length-le (replicate {A = ℕ} page_size 0) {i = m} (omega (arith, length-replicate {A = ℕ} page_size 0)) in
    rw (none, take_all m b (omega arith)) (append-nil b)

-- ---- pages one above another

module _ (rest : List ℕ) where
  laid_page : (p : ℕ) (gs : List Entry) (i : ℕ) → ((j : ℕ) → j < length gs → length (packed_entry (p + j) (get_or gs j blank)) ≡ page_size) → i < length gs
      → take page_size (drop (page_size * i) (laid p gs ++ rest)) ≡ packed_entry (p + i) (get_or gs i blank)
  unfolding laid
  laid_page p [] i h l = absurd (omega arith)
  laid_page p (g ∷ gs) zero h l =
      let z : p + 0 ≡ p = omega arith in
      let size : length (packed_entry p g) ≡ page_size = rw z at (h 0 (omega arith)) in
      rw (z, append_assoc) (take_at (packed_entry p g) (laid (suc p) gs ++ rest) page_size size)
  laid_page p (g ∷ gs) (suc i) h l =
      let z : p + 0 ≡ p = omega arith in
      let size : length (packed_entry p g) ≡ page_size = rw z at (h 0 (omega arith)) in
      let next : page_size * suc i ≡ length (packed_entry p g) + page_size * i = omega arith in
      let up : p + suc i ≡ suc p + i = omega arith in
      rw (append_assoc, next, drop-append-add (packed_entry p g) (laid (suc p) gs ++ rest) (page_size * i), up)
      (laid_page (suc p) gs i (λ j k. let e : suc p + j ≡ p + suc j = omega arith in rw e (h (suc j) (omega arith))) (omega arith))

laid_long : (p : ℕ) (gs : List Entry) → ((j : ℕ) → j < length gs → length (packed_entry (p + j) (get_or gs j blank)) ≡ page_size) → length (laid p gs) ≡ page_size * length gs
unfolding laid
laid_long p [] h = refl
laid_long p (g ∷ gs) h =
    let z : p + 0 ≡ p = omega arith in
    let size : length (packed_entry p g) ≡ page_size = rw z at (h 0 (omega arith)) in
    let below = laid_long (suc p) gs (λ j k. let e : suc p + j ≡ p + suc j = omega arith in rw e (h (suc j) (omega arith))) in
    length-append (packed_entry p g) (laid (suc p) gs) ∙ omega arith

-- ---- what is stored, and onto what

pub record Ready (files : ℕ) (fresh : List ℕ) (gs : List Entry) : Type 0 where
  pub files_are : (1 ≤ files) × (files ≤ most_files)
  pub even : length fresh ≡ page_size * (length fresh / page_size)
  pub few : length fresh / page_size ≤ most_places
  pub room : length gs ≤ length fresh / page_size
  pub some : 1 ≤ length gs
  pub first : is_opening (get_or gs 0 blank) ≡ true
  pub fits : (i : ℕ) → i < length gs → PageFits files (suc i) (get_or gs i blank)
  pub seals : (i : ℕ) → i < length gs → Seals (get_or gs i blank)
  pub clean : (i : ℕ) → i < length fresh / page_size → page_bytes fresh (suc i) ≡ replicate page_size 0

module _ (files : ℕ) (fresh : List ℕ) (gs : List Entry) (k : Ready files fresh gs) where
  abbrev places : ℕ
  places = length fresh / page_size

  sizes : (j : ℕ) → j < length gs → length (packed_entry (1 + j) (get_or gs j blank)) ≡ page_size
  sizes j h = let z : 1 + j ≡ suc j = omega arith in rw z (entry_size files (suc j) (get_or gs j blank) (k.fits j h))

  stored_size : length (laid 1 gs) ≡ page_size * length gs
  stored_size = laid_long 1 gs sizes

  pub onto_long : length (onto fresh gs) ≡ length fresh
  unfolding onto
  onto_long = simp (length-append, length-drop) (omega (arith, stored_size, k.room, k.even))

  page_in_lem : (i : ℕ) → i < length gs → page_bytes (onto fresh gs) (suc i) ≡ packed_entry (suc i) (get_or gs i blank)
  unfolding onto
  page_in_lem i h = let z : 1 + i ≡ suc i = omega arith in rw z at (laid_page (drop (page_size * length gs) fresh) 1 gs i sizes h)

  page_above : (i : ℕ) → length gs ≤ i → page_bytes (onto fresh gs) (suc i) ≡ page_bytes fresh (suc i)
  unfolding onto
  page_above i h =
      let a : page_size * i ≡ length (laid 1 gs) + (page_size * i - page_size * length gs) = omega (arith, stored_size) in
      let b : page_size * length gs + (page_size * i - page_size * length gs) ≡ page_size * i = omega arith in
      let c : drop (length (laid 1 gs) + (page_size * i - page_size * length gs)) (laid 1 gs ++ drop (page_size * length gs) fresh) ≡ drop (page_size * i) fresh =
      drop-append-add (laid 1 gs) (drop (page_size * length gs) fresh) (page_size * i - page_size * length gs) ∙ drop-drop (page_size * i - page_size * length gs) (page_size * length gs) fresh
      ∙ ap (λ (x : ℕ). drop x fresh) b in
      ap (take page_size) (ap (λ (x : ℕ). drop x (laid 1 gs ++ drop (page_size * length gs) fresh)) a ∙ c)

  -- ---- the first n bytes stored

  module _ (n : ℕ) where
    abbrev pub cut_bytes : List ℕ
    cut_bytes = up_to n (onto fresh gs) fresh

    pub cut_long : length cut_bytes ≡ length fresh
    cut_long = up_to_long n (onto fresh gs) fresh onto_long

    -- the page after i others
    abbrev page_at : ℕ → Entry
    page_at i = cond (ltb i (length gs)) (partial (n - page_size * i) (get_or gs i blank)) blank

    bounds : (i : ℕ) → i < places → InBounds page_size (suc i) files
    bounds i h = record { size_is = refl; place_is = (omega arith, omega (arith, k.few)); files_are = k.files_are }

    cut_bytes_lem : (i : ℕ) → i < places → page_bytes cut_bytes (suc i) ≡ up_to (n - page_size * i) (page_bytes (onto fresh gs) (suc i)) (replicate page_size 0)
    cut_bytes_lem i h = up_to_page n (onto fresh gs) fresh onto_long i (omega (arith, k.even)) ∙ rw (k.clean i h)

    read : (i : ℕ) → i < places → decoded files cut_bytes (suc i) ≡ page_at i
    unfolding decoded
    read i h = ap (λ (b : List ℕ). entry_of b (tested b (suc i) files)) (cut_bytes_lem i h) ∙ go (ltb i (length gs)) refl
      where
        m : ℕ
        m = n - page_size * i

        g : Entry
        g = get_or gs i blank

        stored : i < length gs → (b : Bool) → ltb m page_size ≡ b
            → entry_of (up_to m (packed_entry (suc i) g) (replicate page_size 0)) (tested (up_to m (packed_entry (suc i) g) (replicate page_size 0)) (suc i) files) ≡ partial m g
        stored l true e =
            rw (cut_page_lem m (packed_entry (suc i) g) (entry_size files (suc i) g (k.fits i l)) (omega (arith, ltb-true m page_size e)))
            (partly_read files (suc i) g (k.fits i l) (bounds i h) m (omega (arith, ltb-true m page_size e)))
        stored l false e =
            let high : page_size ≤ m = ltb-false m page_size e in
            rw (ne_eqb m 0 (λ z. omega arith), e, over_page m (packed_entry (suc i) g) (entry_size files (suc i) g (k.fits i l)) high)
            (whole_read files (suc i) g (k.fits i l) (bounds i h))

        go : (b : Bool) → ltb i (length gs) ≡ b
            → entry_of (up_to m (page_bytes (onto fresh gs) (suc i)) (replicate page_size 0)) (tested (up_to m (page_bytes (onto fresh gs) (suc i)) (replicate page_size 0)) (suc i) files) ≡ cond b (partial m g) blank
        go true e = let l : i < length gs = ltb-true i (length gs) e in rw (page_in_lem i l) (stored l (ltb m page_size) refl)
        go false e = rw (page_above i (ltb-false i (length gs) e), k.clean i h, take-append-drop m (replicate {A = ℕ} page_size 0)) (zero_read files (suc i) (bounds i h))

    -- sealed: place 1 is an opening once a page is stored, and before that nothing needs one
    read_sealed : (i : ℕ) → i < places → sealed files cut_bytes (suc i) ≡ page_at i
    unfolding sealed
    read_sealed i h = rw (read i h) (by_length (ltb i (length gs)) refl)
      where
        m : ℕ
        m = n - page_size * i

        g : Entry
        g = get_or gs i blank

        r : ℕ → Entry
        r = decoded files cut_bytes

        opened : page_size ≤ m → is_opening (r 1) ≡ true
        opened l =
            let z : n - page_size * 0 ≡ n = omega arith in
            ap is_opening (read 0 (omega arith)) ∙ rw (lt-ltb 0 (length gs) k.some, z, ne_eqb n 0 (λ e. omega arith), le-ltb n page_size (omega arith)) k.first

        by_bytes : i < length gs → (a b : Bool) → ltb m page_size ≡ b → seal r (cond a blank (cond b torn g)) ≡ cond a blank (cond b torn g)
        by_bytes l true b e = refl
        by_bytes l false true e = refl
        by_bytes l false false e = k.seals i l r (opened (ltb-false m page_size e))

        by_length : (b : Bool) → ltb i (length gs) ≡ b → seal r (cond b (partial m g) blank) ≡ cond b (partial m g) blank
        by_length true e = by_bytes (ltb-true i (length gs) e) (eqb m 0) (ltb m page_size) refl
        by_length false e = refl

    -- ---- its pages

    abbrev pub cut_pages : List Entry
    cut_pages = pages_of cut_bytes files

    pages_size : length cut_pages ≡ places
    pages_size = pages_long files (length cut_bytes / page_size) cut_bytes ∙ ap (λ (x : ℕ). x / page_size) cut_long

    page_is : (i : ℕ) → i < places → get_or cut_pages i blank ≡ page_at i
    page_is i h = page_here files (length cut_bytes / page_size) cut_bytes i (omega (arith, cut_long)) ∙ read_sealed i h

    whole_page : (i : ℕ) → i < length gs → page_size * i + page_size ≤ n → get_or cut_pages i blank ≡ get_or gs i blank
    whole_page i h l =
        let m : ℕ = n - page_size * i in
        page_is i (omega (arith, k.room)) ∙ rw (lt-ltb i (length gs) h, ne_eqb m 0 (λ e. omega arith), le-ltb m page_size (omega arith))

    torn_page : (i : ℕ) → i < length gs → page_size * i < n → n < page_size * i + page_size → get_or cut_pages i blank ≡ torn
    torn_page i h l u =
        let m : ℕ = n - page_size * i in
        page_is i (omega (arith, k.room)) ∙ rw (lt-ltb i (length gs) h, ne_eqb m 0 (λ e. omega arith), lt-ltb m page_size (omega arith))

    blank_page : (i : ℕ) → n ≤ page_size * i → get_or cut_pages i blank ≡ blank
    blank_page i l = go (ltb i places) refl
      where
        here : (b : Bool) → cond b (partial (n - page_size * i) (get_or gs i blank)) blank ≡ blank
        here true = rw (eq-eqb (n - page_size * i) 0 (omega arith))
        here false = refl

        go : (b : Bool) → ltb i places ≡ b → get_or cut_pages i blank ≡ blank
        go true e = page_is i (ltb-true i places e) ∙ here (ltb i (length gs))
        go false e = get_or-eq_default cut_pages blank (omega (arith, pages_size, ltb-false i places e))

    module _ (q : ℕ) (h : q ≤ length gs) (low : page_size * q ≤ n) where
      front : take q cut_pages ≡ take q gs
      front =
          let a : length (take q cut_pages) ≡ q = length-take-le q cut_pages (omega (arith, pages_size, k.room)) in
          let b : length (take q gs) ≡ q = length-take-le q gs h in
          ext_get_or blank (take q cut_pages) (take q gs) (a ∙ sym b) (λ i l.
          let j : i < q = omega (arith, a) in
          get_or-take q cut_pages i blank j ∙ whole_page i (omega arith) (omega arith) ∙ sym (get_or-take q gs i blank j))

      parts : cut_pages ≡ take q gs ++ drop q cut_pages
      parts = sym (take-append-drop q cut_pages) ∙ ap (λ (l : List Entry). l ++ drop q cut_pages) front

      above_blank : (j : ℕ) → n ≤ page_size * j → AllBlank (drop j cut_pages)
      above_blank j l p = get_or-drop j cut_pages p blank ∙ blank_page (j + p) (omega arith)

      -- a number of whole pages
      pub whole_pages : n ≡ page_size * q → (cut_pages ≡ take q gs ++ drop q cut_pages) × AllBlank (drop q cut_pages)
      whole_pages e = (parts, above_blank q (omega arith))

      -- and some bytes of the next
      pub torn_pages : q < length gs → page_size * q < n → n < page_size * q + page_size
          → (cut_pages ≡ take q gs ++ (torn ∷ drop (suc q) cut_pages)) × AllBlank (drop (suc q) cut_pages)
      torn_pages l u v =
          let next : drop q cut_pages ≡ torn ∷ drop (suc q) cut_pages = drop-cons cut_pages q blank (omega (arith, pages_size, k.room)) ∙ rw (torn_page q l u v) in
          (rw (← next) parts, above_blank (suc q) (omega arith))

  -- ---- all of it

  blank_alike : (l m : List Entry) → AllBlank l → AllBlank m → length l ≡ length m → l ≡ m
  blank_alike l m a b e = ext_get_or blank l m e (λ i h. a i ∙ sym (b i))

  cut_all : cut_bytes (page_size * length gs) ≡ onto fresh gs
  unfolding onto
  cut_all = rw (take_at (laid 1 gs) (drop (page_size * length gs) fresh) (page_size * length gs) stored_size)

  pub stored_pages : AllBlank (pages_of fresh files) → pages_of (onto fresh gs) files ≡ gs ++ drop (length gs) (pages_of fresh files)
  stored_pages b =
      let n : ℕ = page_size * length gs in
      let z = whole_pages n (length gs) (omega arith) (omega arith) refl in
      let old : length (pages_of fresh files) ≡ places = pages_long files places fresh in
      let rest : drop (length gs) (cut_pages n) ≡ drop (length gs) (pages_of fresh files) =
      blank_alike (drop (length gs) (cut_pages n)) (drop (length gs) (pages_of fresh files)) z.1 (λ p. get_or-drop (length gs) (pages_of fresh files) p blank ∙ b (length gs + p))
      (omega (arith, length-drop (length gs) (cut_pages n), length-drop (length gs) (pages_of fresh files), pages_size n, old)) in
      ap (λ (l : List ℕ). pages_of l files) (sym cut_all) ∙ z.0 ∙ ap (λ (l : List Entry). l ++ drop (length gs) (cut_pages n)) (take_all (length gs) gs (omega arith)) ∙ ap (λ (l : List Entry). gs ++ l) rest
