-- The climb's arrays say what the log says: how they start, what they answer, and what a page does to them. Assumes nothing.
use Prim.Native.Nat.{ℕ, suc, ◌<◌, ◌≤◌}
use mathlib.Core.Path.{◌≡◌, refl, ap, sym, subst, ◌∙◌}
use mathlib.Core.List.{List, [], ◌∷◌, head?}
use mathlib.Core.Bool.{Bool, true, false, cond, not, ◌&&◌, false≢true}
use mathlib.Core.Option.{Option, some, none}
use native.Mathlib.Omega.{arith}
use lib.ListN.{length, get_or, set, replicate, length-set, length-replicate, get_or-replicate, get_or-eq_default}
use lib.Seq.{get_or-set_same, get_or-set_other}
use lib.Dec.{eqb, ltb}
use borrow.Author.Tests.{eqb-true, eqb-false, ltb-true, ltb-false}
use Rattle.encoding.proofs.Logic.{is_false, by_test, clash}
use Rattle.page.specs.declared.Page.{Page}
use Rattle.page.specs.declared.Unpacked.{Unpacked}
use Rattle.page.specs.declared.Unpacked.TheVariants.{Refused, Blank, Torn, Opening, Image, Outcome, Unfit}
use Rattle.page.specs.Layout.{most_files}
use Rattle.recovery.specs.Log.{Entry, torn, opening, image, outcome, Fate, unknown, undecided, committed, aborted, Placed, verdict, fate_of, images_of, effective, effective_of, versions_step, token_step, versions_of, current_of, token_of, place_of, start_of, is_undecided}
use Rattle.recovery.specs.Sheet.{image_from, entry_of, is_opening, seal}
use Rattle.recovery.specs.World.{fate_number}
use Rattle.recovery.proofs.Effective.{versions_not_by}
use Rattle.recovery.proofs.LogFates.{undecided_is, undecided_test, undecided_known, All, rest, versions_keep, decided_free}
use Rattle.inspection.specs.declared.climbing.Slot.{Slot}
use Rattle.inspection.specs.declared.climbing.Kept.{Kept}
use Rattle.inspection.specs.Lawful.{current, token, is_free_for, image_fits, fits_below, lawful}
use Rattle.inspection.specs.ClimbSteps.{no_slot, slot_at, newest_fate, version_in, is_free_in, image_fits_in, page_fits_in, keep_image, keep_page, FileInRange, InRange}
use Rattle.inspection.proofs.LowestUnlawful.{lawful_none, lawful_more}
use Rattle.inspection.proofs.LawfulLogs.{fate_zero, fate_keeps, good}

-- ---- what is kept, after a store and where nothing was stored

-- an element of a list after a store
get_d_set : (l : List ℕ) (i v a : ℕ) → i < length l → get_or (set l i v) a 0 ≡ cond (eqb a i) v (get_or l a 0)
get_d_set l i v a h =
    sym
    (by_test (λ (x : ℕ). x ≡ get_or (set l i v) a 0) (eqb a i)
    (λ e. let z : a ≡ i = eqb-true a i e in rw z (sym (get_or-set_same l i v 0 h)))
    (λ e. sym (get_or-set_other l i a v 0 (eqb-false a i e))))

slot_put : (l : List Slot) (f g : ℕ) (s : Slot) → f < length l → slot_at (set l f s) g ≡ cond (eqb f g) s (slot_at l g)
slot_put l f g s h =
    sym
    (by_test (λ (x : Slot). x ≡ slot_at (set l f s) g) (eqb f g)
    (λ e. let z : f ≡ g = eqb-true f g e in rw (← z) (sym (get_or-set_same l f s no_slot h)))
    (λ e. sym (get_or-set_other l f g s no_slot (λ q. eqb-false f g e (sym q)))))

get_d_same : {A : Type 0} (d : A) (n i : ℕ) → get_or (replicate n d) i d ≡ d
get_d_same d n i = go (ltb i n) refl
  where
    go : (b : Bool) → ltb i n ≡ b → get_or (replicate n d) i d ≡ d
    go true e = get_or-replicate n i d d (ltb-true i n e)
    go false e = get_or-eq_default (replicate n d) d (omega (arith, length-replicate n d, ltb-false i n e))

abbrev slot_of : Placed → Slot
slot_of x = record { place = x.place; action = x.image.action; start = x.image.start }

abbrev pub top : List Placed → Slot
top [] = no_slot
top (x ∷ xs) = slot_of x

abbrev pub slot_in : Option Placed → Slot
slot_in none = no_slot
slot_in (some x) = slot_of x

place_in : (o : Option Placed) → (slot_in o).place ≡ place_of o
place_in none = refl
place_in (some x) = refl

start_in : (o : Option Placed) → (slot_in o).start ≡ start_of o
start_in none = refl
start_in (some x) = refl

not_not : (b : Bool) → not (not b) ≡ b
not_not true = refl
not_not false = refl

-- the newest image and what lies below it give the version, and whether an action may write
version_top : (φ : ℕ → Fate) (xs : List Placed) → cond (eqb (fate_number (φ (top xs).action)) 2) (top xs) (slot_in (current_of φ (rest xs))) ≡ slot_in (current_of φ xs)
unfolding versions_of
version_top φ [] = by_test (λ (x : Slot). x ≡ no_slot) (eqb (fate_number (φ 0)) 2) (λ e. refl) (λ e. refl)
version_top φ (x ∷ xs) = go (φ x.image.action) (versions_of φ xs)
  where
    go : (y : Fate) (vs : List Placed) → cond (eqb (fate_number y) 2) (slot_of x) (slot_in (head? vs)) ≡ slot_in (head? (versions_step y x vs))
    go unknown vs = refl
    go undecided vs = refl
    go committed vs = refl
    go aborted vs = refl

token_top : (φ : ℕ → Fate) (xs : List Placed) (a : ℕ) → fate_number (φ 0) ≡ 0 → All 2 φ (rest xs)
    → not (eqb (fate_number (φ (top xs).action)) 1 && not (eqb (top xs).action a)) ≡ is_free_for a (token_of φ xs)
unfolding token_of
token_top φ [] a z h = rw z
token_top φ (x ∷ xs) a z h = rw (decided_free φ xs h) (go (φ x.image.action))
  where
    go : (y : Fate) → not (eqb (fate_number y) 1 && not (eqb x.image.action a)) ≡ is_free_for a (token_step y x none)
    go unknown = refl
    go undecided = not_not (eqb x.image.action a)
    go committed = refl
    go aborted = refl

-- ---- what is kept of a log

pub record Knows {n : ℕ} (l : List Entry) (k : Kept n) : Type 0 where
  pub lawful_is : lawful l ≡ true
  pub fates_are : (a : ℕ) → get_or k.fates a 0 ≡ fate_number (fate_of l a)
  pub newest_are : (f : ℕ) → f ≤ most_files → slot_at k.newest f ≡ top (effective_of l f)
  pub below_are : (f : ℕ) → f ≤ most_files → slot_at k.below f ≡ slot_in (current_of (fate_of l) (rest (effective_of l f)))

-- as the climb begins
pub knows_none : (n m : ℕ) → Knows {n = n} [] (record { fates = replicate n 0; newest = replicate m no_slot; below = replicate m no_slot })
unfolding fate_of images_of effective versions_of
knows_none n m = record {
  lawful_is = lawful_none;
  fates_are = get_d_same 0 n;
  newest_are = λ f h. get_d_same no_slot m f;
  below_are = λ f h. get_d_same no_slot m f;
}

-- its arrays are as long as they are declared
pub record Long {n : ℕ} (k : Kept n) : Type 0 where
  pub fates_long : length k.fates ≡ n
  pub newest_long : length k.newest ≡ suc most_files
  pub below_long : length k.below ≡ suc most_files

pub long_none : (n : ℕ) → Long {n = n} (record { fates = replicate n 0; newest = replicate (suc most_files) no_slot; below = replicate (suc most_files) no_slot })
long_none n = record {
  fates_long = length-replicate n 0;
  newest_long = length-replicate (suc most_files) no_slot;
  below_long = length-replicate (suc most_files) no_slot;
}

long_image : {n : ℕ} (k : Kept n) (p : Page) (place : ℕ) → Long k → Long (keep_image k p place)
unfolding keep_image
long_image k p place h = record { fates_long = h.fates_long; newest_long = simp length-set h.newest_long; below_long = simp length-set h.below_long }

pub long_kept : {n : ℕ} (k : Kept n) (u : Unpacked) (place : ℕ) → Long k → Long (keep_page k u place)
long_kept k Refused place h = h
long_kept k Blank place h = h
long_kept k Torn place h = h
long_kept k (Opening p) place h = record { fates_long = simp length-set h.fates_long; newest_long = h.newest_long; below_long = h.below_long }
long_kept k (Image p) place h = long_image k p place h
long_kept k (Outcome p) place h = record { fates_long = simp length-set h.fates_long; newest_long = h.newest_long; below_long = h.below_long }
long_kept k Unfit place h = h

module _ {n : ℕ} (l : List Entry) (k : Kept n) (w : Knows l k) where
  -- ---- what the arrays answer

  fate_is : (f : ℕ) → f ≤ most_files → newest_fate k f ≡ fate_number (fate_of l (top (effective_of l f)).action)
  fate_is f h = w.fates_are (slot_at k.newest f).action ∙ ap (λ (x : Slot). fate_number (fate_of l x.action)) (w.newest_are f h)

  version_is : (f : ℕ) → f ≤ most_files → version_in k f ≡ slot_in (current l f)
  unfolding version_in
  version_is f h = rw (fate_is f h, w.newest_are f h, w.below_are f h) (version_top (fate_of l) (effective_of l f))

  token_is : (f a : ℕ) → f ≤ most_files → is_free_in k f a ≡ is_free_for a (token l f)
  token_is f a h = rw (fate_is f h, w.newest_are f h) (token_top (fate_of l) (effective_of l f) a (fate_zero l w.lawful_is) (good l f w.lawful_is).decided)

  live_is : (a : ℕ) → eqb (get_or k.fates a 0) 1 ≡ is_undecided (fate_of l a)
  live_is a = rw (w.fates_are a) (undecided_test (fate_of l a))

  image_is_fit : (b : List ℕ) (p : Page) → p.file ≤ most_files → image_fits_in k p ≡ image_fits (image_from b p) l
  unfolding image_fits_in
  image_is_fit b p h = rw (live_is p.action, token_is p.file p.action h, version_is p.file h, place_in (current l p.file), start_in (current l p.file))

  module _ (r : ℕ → Entry) (opened : (a : ℕ) → 1 ≤ fate_number (fate_of l a) → is_opening (r a) ≡ true) (b : List ℕ) where
    -- an action that is not the place of an opening has no fate
    unsealed : (a : ℕ) → is_opening (r a) ≡ false → is_undecided (fate_of l a) ≡ false
    unsealed a e = is_false (is_undecided (fate_of l a)) (λ z. false≢true (sym e ∙ opened a (undecided_known (undecided_is (fate_of l a) z))))

    pub fits_is : (u : Unpacked) → FileInRange u → page_fits_in k u ≡ fits_below (seal r (entry_of b u)) l
    fits_is Refused t = refl
    fits_is Blank t = refl
    fits_is Torn t = refl
    fits_is (Opening p) t = refl
    fits_is (Image p) t = by_test (λ (x : Entry). image_fits_in k p ≡ fits_below x l) (is_opening (r p.action))
        (λ e. image_is_fit b p t)
        (λ e. image_is_fit b p t ∙ rw (unsealed p.action e))
    fits_is (Outcome p) t = by_test (λ (x : Entry). eqb (get_or k.fates p.action 0) 1 ≡ fits_below x l) (is_opening (r p.action))
        (λ e. live_is p.action)
        (λ e. live_is p.action ∙ unsealed p.action e)
    fits_is Unfit t = refl

  -- ---- what a page that fits does to them

  -- a page that is no image
  below_same : (g : Entry) → fits_below g l ≡ true → (f : ℕ) → f ≤ most_files → slot_at k.below f ≡ slot_in (current_of (fate_of (g ∷ l)) (rest (effective_of l f)))
  below_same g h f b =
      w.below_are f b
      ∙ ap (λ vs. slot_in (head? vs)) (sym (versions_keep (fate_of l) (fate_of (g ∷ l)) (fate_keeps g l h w.lawful_is) (rest (effective_of l f)) (good l f w.lawful_is).decided))

  module _ (long : Long k) where
    -- a fate stored at a place
    fates_set : (i v : ℕ) → i < n → (x : Fate) → v ≡ fate_number x → (a : ℕ) → get_or (set k.fates i v) a 0 ≡ fate_number (cond (eqb a i) x (fate_of l a))
    fates_set i v h x e a =
        get_d_set k.fates i v a (omega (arith, long.fates_long))
        ∙ by_test (λ (y : Fate). cond (eqb a i) v (get_or k.fates a 0) ≡ fate_number y) (eqb a i) (λ t. rw t e) (λ t. rw t (w.fates_are a))

    keep_opening : (p : Page) → suc (length l) < n → Knows (opening (eqb p.small 1) ∷ l) (keep_page k (Opening p) (suc (length l)))
    unfolding fate_of images_of
    keep_opening p b = record {
      lawful_is = lawful_more (opening (eqb p.small 1)) l refl w.lawful_is;
      fates_are = λ a. fates_set (suc (length l)) 1 b undecided refl a;
      newest_are = w.newest_are;
      below_are = below_same (opening (eqb p.small 1)) refl;
    }

    verdict_is : (x : ℕ) → 1 ≤ x → x ≤ 2 → suc x ≡ fate_number (verdict (eqb x 1))
    verdict_is x a b = go (eqb x 1) refl
      where
        go : (c : Bool) → eqb x 1 ≡ c → suc x ≡ fate_number (verdict c)
        go true e = let z : x ≡ 1 = eqb-true x 1 e in omega arith
        go false e = omega (arith, eqb-false x 1 e)

    keep_outcome : (p : Page) → p.action < n → 1 ≤ p.small → p.small ≤ 2 → fits_below (outcome p.action (eqb p.small 1)) l ≡ true → (place : ℕ)
        → Knows (outcome p.action (eqb p.small 1) ∷ l) (keep_page k (Outcome p) place)
    unfolding fate_of images_of
    keep_outcome p b lo hi h place = record {
      lawful_is = lawful_more (outcome p.action (eqb p.small 1)) l h w.lawful_is;
      fates_are = λ a. fates_set p.action (suc p.small) b (verdict (eqb p.small 1)) (verdict_is p.small lo hi) a;
      newest_are = w.newest_are;
      below_are = below_same (outcome p.action (eqb p.small 1)) h;
    }

    abbrev new_image : Page → Slot
    new_image p = record { place = suc (length l); action = p.action; start = p.start }

    keep_image_lem : (b : List ℕ) (p : Page) → p.file ≤ most_files → fits_below (image (image_from b p)) l ≡ true → Knows (image (image_from b p) ∷ l) (keep_image k p (suc (length l)))
    unfolding fate_of images_of effective keep_image
    keep_image_lem b p m h = record {
      lawful_is = lawful_more (image (image_from b p)) l h w.lawful_is;
      fates_are = w.fates_are;
      newest_are = λ f c.
          slot_put k.newest p.file f (new_image p) (omega (arith, long.newest_long))
          ∙ by_test (λ (xs : List Placed). cond (eqb p.file f) (new_image p) (slot_at k.newest f) ≡ top (effective xs)) (eqb p.file f)
          (λ e. rw e)
          (λ e. rw e (w.newest_are f c));
      below_are = λ f c.
          slot_put k.below p.file f (version_in k p.file) (omega (arith, long.below_long))
          ∙ by_test (λ (xs : List Placed). cond (eqb p.file f) (version_in k p.file) (slot_at k.below f) ≡ slot_in (current_of (fate_of l) (rest (effective xs)))) (eqb p.file f)
          (λ e. rw (e, versions_not_by (fate_of l) p.action (λ z. clash cc) (effective_of l f)) (subst (λ (x : ℕ). version_in k p.file ≡ slot_in (current l x)) (eqb-true p.file f e) (version_is p.file m)))
          (λ e. rw e (w.below_are f c));
    }

    keep_torn : Knows (torn ∷ l) k
    unfolding fate_of images_of
    keep_torn = record {
      lawful_is = lawful_more torn l refl w.lawful_is;
      fates_are = w.fates_are;
      newest_are = w.newest_are;
      below_are = w.below_are;
    }

    pub keep : (r : ℕ → Entry) (b : List ℕ) (u : Unpacked) → suc (length l) < n → InRange (suc (length l)) u → fits_below (seal r (entry_of b u)) l ≡ true
        → Knows (seal r (entry_of b u) ∷ l) (keep_page k u (suc (length l)))
    keep r b Refused m t h = absurd (false≢true h)
    keep r b Blank m t h = absurd (false≢true h)
    keep r b Torn m t h = keep_torn
    keep r b (Opening p) m t h = keep_opening p m
    keep r b (Image p) m t h = by_test (λ (x : Entry). fits_below x l ≡ true → Knows (x ∷ l) (keep_image k p (suc (length l)))) (is_opening (r p.action))
        (λ e q. keep_image_lem b p t q)
        (λ e q. absurd (false≢true q))
        h
    keep r b (Outcome p) m t h = by_test (λ (x : Entry). fits_below x l ≡ true → Knows (x ∷ l) (keep_page k (Outcome p) (suc (length l)))) (is_opening (r p.action))
        (λ e q. keep_outcome p (omega (arith, t.0)) t.1 t.2 q (suc (length l)))
        (λ e q. absurd (false≢true q))
        h
    keep r b Unfit m t h = absurd (false≢true h)
