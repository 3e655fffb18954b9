-- The walk of rebuild: what is known from above, laid over the row of the pages below. Assumes nothing.
use Prim.Native.Nat.{ℕ, zero, suc, min, ◌*◌, ◌-◌, ◌/◌, ◌<◌, ◌≤◌}
use mathlib.Core.Path.{◌≡◌, refl, sym, ap, ◌∙◌}
use mathlib.Core.Bool.{Bool, true, false, cond, ◌||◌}
use mathlib.Core.List.{List, ◌∷◌}
use native.Mathlib.Omega.{arith}
use lib.ListN.{length}
use lib.Dec.{eqb}
use borrow.Author.Tests.{ne_eqb, eqb-true}
use Rattle.encoding.proofs.Logic.{by_test, clash}
use Rattle.page.specs.declared.Page.{Page}
use Rattle.page.specs.declared.Unpacked.{Unpacked}
use Rattle.page.specs.declared.Unpacked.TheVariants.{Refused, Blank, Torn, Opening, Image, Outcome, Unfit}
use Rattle.std.specs.Prelude.{Option, Some, None}
use Rattle.page.specs.Layout.{page_size}
use Rattle.page.specs.Answers.{tested, image_of_file}
use Rattle.recovery.specs.Places.{nth}
use Rattle.recovery.specs.Log.{Entry, blank, torn, bad, opening, image, outcome, Fate, unknown, undecided, committed, aborted, Placed, images_of, not_by, effective, effective_of, versions_of, current_of, token_of, place_of, start_of, action_of}
use Rattle.recovery.specs.Sheet.{page_bytes, entry_of, image_from, is_opening, seal, decoded, sealed}
use Rattle.recovery.specs.World.{down, rebuilt_row, fate_from, fate_in}
use Rattle.recovery.specs.Steps.{counted_fate, rebuilt_with, row_from_pages}
use Rattle.recovery.specs.declared.Row.{Row}
use Rattle.recovery.proofs.Effective.{versions_not_by, token_not_by}
use Rattle.recovery.proofs.Pages.{sealed_is}
use Rattle.recovery.proofs.LogFolds.{one_more, from_end}

-- ---- a row with one page more

abbrev pub add_image : Fate → ℕ → ℕ → ℕ → Row → Row
add_image unknown p st a r = r
add_image undecided p st a r = record { mark = r.mark; current = r.current; currentend = r.currentend; token = p; tokenend = st; tokenaction = a }
add_image committed p st a r = record { mark = r.mark; current = p; currentend = st; token = 0; tokenend = 0; tokenaction = 0 }
add_image aborted p st a r = r

abbrev pub add_page : (ℕ → Fate) → ℕ → ℕ → Entry → Row → Row
add_page φ file p blank r = r
add_page φ file p torn r = r
add_page φ file p bad r = r
add_page φ file p (opening k) r = r
add_page φ file p (image i) r = cond (eqb i.file file) (add_image (φ i.action) p i.start i.action r) r
add_page φ file p (outcome a c) r = r

row_cons : (g : Entry) (l : List Entry) (φ : ℕ → Fate) (f : ℕ) → rebuilt_row (g ∷ l) φ f ≡ add_page φ f (suc (length l)) g (rebuilt_row l φ f)
unfolding images_of effective versions_of token_of
row_cons blank l φ f = refl
row_cons torn l φ f = refl
row_cons bad l φ f = refl
row_cons (opening k) l φ f = refl
row_cons (outcome a c) l φ f = refl
row_cons (image i) l φ f = go (eqb i.file f)
  where
    x : Placed
    x = record { place = suc (length l); image = i }

    row_of : List Placed → Row
    row_of xs = record { mark = 1; current = place_of (current_of φ xs); currentend = start_of (current_of φ xs); token = place_of (token_of φ xs); tokenend = start_of (token_of φ xs); tokenaction = action_of (token_of φ xs) }

    others : List Placed
    others = not_by i.action (effective_of l f)

    new : (q : Fate) → φ i.action ≡ q → row_of (x ∷ others) ≡ add_image q (suc (length l)) i.start i.action (rebuilt_row l φ f)
    new unknown e = rw (e, versions_not_by φ i.action (λ z. clash cc) (effective_of l f), token_not_by φ i.action (λ z. clash cc) (λ z. clash cc) (effective_of l f))
    new undecided e = rw (e, versions_not_by φ i.action (λ z. clash cc) (effective_of l f))
    new committed e = rw e
    new aborted e = rw (e, versions_not_by φ i.action (λ z. clash cc) (effective_of l f), token_not_by φ i.action (λ z. clash cc) (λ z. clash cc) (effective_of l f))

    go : (b : Bool) → row_of (effective (cond b (x ∷ images_of l f) (images_of l f))) ≡ cond b (add_image (φ i.action) (suc (length l)) i.start i.action (rebuilt_row l φ f)) (rebuilt_row l φ f)
    go true = new (φ i.action) refl
    go false = refl

-- the row with an image above it that is the token, if its place t is not 0
unfoldable pub overlay : ℕ → ℕ → ℕ → Row → Row
overlay t v a r = cond (eqb t 0) r (record { mark = r.mark; current = r.current; currentend = r.currentend; token = t; tokenend = v; tokenaction = a })

-- ---- what the quick look tells

pub apart : {A : Type 0} {x : Page} → Some x ≡ None → A
apart e = clash cc

pub found_same : {x y : Page} → Some x ≡ Some y → x ≡ y
found_same e = cc

-- only the fates undecided and committed move a row
by_count_lem : (n p st a : ℕ) (r : Row) (o : Bool)
    → cond o (add_image (fate_from n) p st a r) r ≡ add_image (fate_from (cond (eqb n 1 || eqb n 2) (cond o n 0) 0)) p st a r
by_count_lem n p st a r o = go (eqb n 1) (eqb n 2) (eqb n 3) o refl refl refl
  where
    go : (b1 b2 b3 o : Bool) → eqb n 1 ≡ b1 → eqb n 2 ≡ b2 → eqb n 3 ≡ b3
        → cond o (add_image (fate_from n) p st a r) r ≡ add_image (fate_from (cond (eqb n 1 || eqb n 2) (cond o n 0) 0)) p st a r
    go true b2 b3 true e1 e2 e3 = simp e1
    go false true b3 true e1 e2 e3 = simp (e1, e2)
    go false false true true e1 e2 e3 = simp (e1, e2, e3)
    go false false false true e1 e2 e3 = simp (e1, e2, e3)
    go true b2 b3 false e1 e2 e3 = simp e1
    go false true b3 false e1 e2 e3 = simp (e1, e2)
    go false false b3 false e1 e2 e3 = simp (e1, e2)

-- ---- the walk down

module _ (files : ℕ) (s fs : List ℕ) (file : ℕ) where
  abbrev pub row_to : ℕ → Row
  row_to p = row_from_pages s fs files file p

  pub row_down : (p : ℕ) → 0 < p → page_size * p ≤ length s → row_to p ≡ add_page (fate_in fs) file p (sealed files s p) (row_to (p - 1))
  unfolding row_from_pages
  row_down = one_more (λ l. rebuilt_row l (fate_in fs) file) (λ g p r. add_page (fate_in fs) file p g r) (λ g l. row_cons g l (fate_in fs) file) files s

  pub row_from_lem : (end : ℕ) → row_to (min end (length s / page_size)) ≡ row_to end
  unfolding row_from_pages
  row_from_lem = from_end (λ l. rebuilt_row l (fate_in fs) file) (λ g p r. add_page (fate_in fs) file p g r) (λ g l. row_cons g l (fate_in fs) file) files s (λ p r. refl)

  pub row_mark : (p : ℕ) → (row_to p).mark ≡ 1
  unfolding row_from_pages
  row_mark p = refl

  -- what the quick look found moves the row as its fate says
  pub of_file_lem : (b : List ℕ) (p : ℕ) (u : Unpacked) (x : Page) (r : Row) (w : ℕ) → Some x ≡ image_of_file file u → w ≡ counted_fate files s fs x.action
      → add_page (fate_in fs) file p (seal (decoded files s) (entry_of b u)) r ≡ add_image (fate_from w) p x.start x.action r
  unfolding image_of_file counted_fate
  of_file_lem b p Refused x r w e h = apart e
  of_file_lem b p Blank x r w e h = apart e
  of_file_lem b p Torn x r w e h = apart e
  of_file_lem b p (Opening y) x r w e h = apart e
  of_file_lem b p (Outcome y) x r w e h = apart e
  of_file_lem b p Unfit x r w e h = apart e
  of_file_lem b p (Image y) x r w e h = go (eqb y.file file) refl (λ k. rw k at e)
    where
      to_image : (o : Bool) (y : Page) → eqb y.file file ≡ true
          → add_page (fate_in fs) file p (cond o (image (image_from b y)) bad) r ≡ cond o (add_image (fate_from (nth 0 fs y.action)) p y.start y.action r) r
      to_image true y k = rw k
      to_image false y k = refl

      go : (c : Bool) → eqb y.file file ≡ c → (eqb y.file file ≡ c → Some x ≡ cond c (Some y) None)
          → add_page (fate_in fs) file p (seal (decoded files s) (entry_of b (Image y))) r ≡ add_image (fate_from w) p x.start x.action r
      go true k f =
          let z : x ≡ y = found_same (f k) in
          rw (h, z) (to_image (is_opening (decoded files s y.action)) y k ∙ by_count_lem (nth 0 fs y.action) p y.start y.action r (is_opening (decoded files s y.action)))
      go false k f = apart (f k)

  -- and any other page leaves it
  pub other_page : (b : List ℕ) (p : ℕ) (u : Unpacked) (r : Row) → None ≡ image_of_file file u
      → add_page (fate_in fs) file p (seal (decoded files s) (entry_of b u)) r ≡ r
  unfolding image_of_file
  other_page b p Refused r e = refl
  other_page b p Blank r e = refl
  other_page b p Torn r e = refl
  other_page b p (Opening y) r e = refl
  other_page b p (Outcome y) r e = by_test (λ (g : Entry). add_page (fate_in fs) file p g r ≡ r) (is_opening (decoded files s y.action)) (λ q. refl) (λ q. refl)
  other_page b p Unfit r e = refl
  other_page b p (Image y) r e = go (eqb y.file file) refl (λ k. rw k at e)
    where
      go : (c : Bool) → eqb y.file file ≡ c → (eqb y.file file ≡ c → None ≡ cond c (Some y) None)
          → add_page (fate_in fs) file p (seal (decoded files s) (entry_of b (Image y))) r ≡ r
      go true k f = apart (sym (f k))
      go false k f = by_test (λ (g : Entry). add_page (fate_in fs) file p g r ≡ r) (is_opening (decoded files s y.action)) (λ q. rw k) (λ q. refl)

  -- ---- a turn of the walk down, by what the quick look found at p

  module _ (p : ℕ) (some : 0 < p) (in-sheet : page_size * p ≤ length s) where
    abbrev seen : Option Page
    seen = image_of_file file (tested (page_bytes s p) p files)

    page_is : (r : Row) → add_page (fate_in fs) file p (sealed files s p) r ≡ add_page (fate_in fs) file p (seal (decoded files s) (entry_of (page_bytes s p) (tested (page_bytes s p) p files))) r
    page_is r = ap (λ (g : Entry). add_page (fate_in fs) file p g r) (sym (sealed_is s p files (tested (page_bytes s p) p files) refl))

    -- any other page: what is known from above stays
    pub pass : (known : Row → Row) {x : Row} → None ≡ seen → known (row_to p) ≡ x → known (row_to (p - 1)) ≡ x
    pass known e i =
        ap known (sym (row_down p some in-sheet ∙ page_is (row_to (p - 1)) ∙ other_page (page_bytes s p) p _ (row_to (p - 1)) e)) ∙ i

    module _ (y : Page) (w : ℕ) (found : Some y ≡ seen) (counted : w ≡ counted_fate files s fs y.action) where
      moved : row_to p ≡ add_image (fate_from w) p y.start y.action (row_to (p - 1))
      moved = row_down p some in-sheet ∙ page_is (row_to (p - 1)) ∙ of_file_lem (page_bytes s p) p _ y (row_to (p - 1)) w found counted

      -- an image that moves it
      pub turn : (known known' : Row → Row) {x : Row} → ((r : Row) → known' r ≡ known (add_image (fate_from w) p y.start y.action r))
          → known (row_to p) ≡ x → known' (row_to (p - 1)) ≡ x
      turn known known' h i = h (row_to (p - 1)) ∙ ap known (sym moved) ∙ i

      -- an image that ends the walk
      pub stop : (known : Row → Row) {x z : Row} → ((r : Row) → r.mark ≡ 1 → z ≡ known (add_image (fate_from w) p y.start y.action r)) → known (row_to p) ≡ x → z ≡ x
      stop known h i = h (row_to (p - 1)) (row_mark (p - 1)) ∙ ap known (sym moved) ∙ i

pub over_none : (r : Row) → overlay 0 0 0 r ≡ r
unfolding overlay
over_none r = refl

-- a token over a row that has none; without one its end and action are 0
over_bare : (current currentend t v b : ℕ) → (t ≡ 0 → (v ≡ 0) × (b ≡ 0)) → rebuilt_with current currentend t v b ≡ overlay t v b (rebuilt_with current currentend 0 0 0)
unfolding overlay
over_bare current currentend t v b h = go (eqb t 0) refl
  where
    go : (c : Bool) → eqb t 0 ≡ c → rebuilt_with current currentend t v b ≡ cond c (rebuilt_with current currentend 0 0 0) (rebuilt_with current currentend t v b)
    go true e = let z : t ≡ 0 = eqb-true t 0 e in rw (z, (h z).0, (h z).1)
    go false e = refl

module _ (t v b w p st a : ℕ) (r : Row) where
  pub over_committed : r.mark ≡ 1 → w ≡ 2 → (t ≡ 0 → (v ≡ 0) × (b ≡ 0)) → rebuilt_with p st t v b ≡ overlay t v b (add_image (fate_from w) p st a r)
  over_committed hm hw h = rw (hw, hm) (over_bare p st t v b h)

  pub over_token : w ≡ 1 → t ≡ 0 → 0 < p → overlay p st a r ≡ overlay t v b (add_image (fate_from w) p st a r)
  unfolding overlay
  over_token hw ht l = rw (hw, ht) (rw (ne_eqb p 0 (omega arith)))

  pub over_kept : w ≡ 1 → (t ≡ 0 → ⊥) → overlay t v b r ≡ overlay t v b (add_image (fate_from w) p st a r)
  unfolding overlay
  over_kept hw ht = rw hw (rw (ne_eqb t 0 ht))

  pub over_passed : (w ≡ 2 → ⊥) → (w ≡ 1 → ⊥) → overlay t v b r ≡ overlay t v b (add_image (fate_from w) p st a r)
  over_passed h2 h1 = rw (ne_eqb w 2 h2, ne_eqb w 1 h1) (go (eqb w 3))
    where
      go : (c : Bool) → overlay t v b r ≡ overlay t v b (add_image (cond c aborted unknown) p st a r)
      go true = refl
      go false = refl

-- the end of the walk
pub over_end : (files : ℕ) (s fs : List ℕ) (file p t v b : ℕ) → p ≤ 0 → (t ≡ 0 → (v ≡ 0) × (b ≡ 0)) → rebuilt_with 0 0 t v b ≡ overlay t v b (row_to files s fs file p)
unfolding row_from_pages down images_of effective versions_of token_of
over_end files s fs file (suc p) t v b l h = absurd (omega arith)
over_end files s fs file zero t v b l h = over_bare 0 0 t v b h
