-- The log of a fresh sheet, newest first: its fates, each file's one image, and that it is lawful. Assumes nothing.
use Prim.Native.Nat.{ℕ, zero, suc, ◌+◌, ◌≤◌, ◌<◌}
use mathlib.Core.Path.{◌≡◌, refl, ap, sym, subst, ◌∙◌}
use mathlib.Core.Bool.{Bool, true, false, cond}
use mathlib.Core.List.{List, [], ◌∷◌, ◌++◌, append_assoc, append-nil}
use mathlib.Core.Option.{Option, some, none}
use native.Mathlib.Omega.{arith}
use lib.ListN.{length, get_or, length-append}
use lib.Seq.{get_or-append_seam}
use lib.Dec.{eqb}
use borrow.Author.Tests.{eq-eqb, ne_eqb, eqb-true, eqb-false, lt-ltb}
use Rattle.recovery.specs.Log.{Image, Entry, blank, opening, image, outcome, unknown, undecided, committed, Placed, fate_of, images_of, effective, token_of, versions_of}
use Rattle.inspection.specs.Lawful.{lawful}
use Rattle.recovery.specs.World.{World, down}
use Rattle.inspection.proofs.LowestUnlawful.{lawful_more, lawful_none}
use Rattle.moving.specs.Moved.{version_of, carried, carried_by, versions_to}

-- ---- the log by files

abbrev pub topped : Option Image → List Entry → List Entry
topped none l = l
topped (some i) l = image (carried i) ∷ l

unfoldable pub log_to : World → ℕ → List Entry
log_to w zero = opening true ∷ []
log_to w (suc k) = topped (version_of w (suc k)) (log_to w k)

abbrev pub move_log : World → ℕ → List Entry
move_log w k = outcome 1 true ∷ log_to w k

-- how many pages the versions of files 1 to k take
abbrev pub count_to : World → ℕ → ℕ
count_to w k = length (versions_to w k)

counted : (w : World) (k : ℕ) → count_to w (suc k) ≡ count_to w k + length (carried_by (version_of w (suc k)))
unfolding versions_to
counted w k = length-append (versions_to w k) (carried_by (version_of w (suc k)))

pub log_long : (w : World) (k : ℕ) → length (log_to w k) ≡ suc (count_to w k)
unfolding log_to versions_to
log_long w zero = refl
log_long w (suc k) = go (version_of w (suc k)) (log_long w k)
  where
    go : (v : Option Image) → length (log_to w k) ≡ suc (count_to w k) → length (topped v (log_to w k)) ≡ suc (length (versions_to w k ++ carried_by v))
    go none h = simp length-append (omega arith)
    go (some i) h = simp length-append (omega arith)

pub count_le : (w : World) (f k : ℕ) → f ≤ k → count_to w f ≤ count_to w k
count_le w f zero h = let z : f ≡ 0 = omega arith in rw z (omega arith)
count_le w f (suc k) h = go (eqb f (suc k)) refl (λ l. count_le w f k l)
  where
    go : (b : Bool) → eqb f (suc k) ≡ b → (f ≤ k → count_to w f ≤ count_to w k) → count_to w f ≤ count_to w (suc k)
    go true e r = let z = eqb-true f (suc k) e in rw z (omega arith)
    go false e r = let z = r (omega (arith, eqb-false f (suc k) e)) in omega (arith, counted w k)

-- ---- the pages of the sheet from the top of the images downward

-- one page more on top
top_is : (a : List Entry) (x : Entry) (rest : List Entry)
    → down (opening true ∷ (a ++ (x ∷ rest))) (suc (suc (length a))) ≡ x ∷ down (opening true ∷ (a ++ (x ∷ rest))) (suc (length a))
unfolding down
top_is a x rest = rw (get_or-append_seam a x rest blank)

down_push : (a : List Entry) (x : Entry) (rest l : List Entry) (n : ℕ) → l ≡ a ++ (x ∷ rest) → n ≡ suc (length a)
    → down (opening true ∷ l) (suc n) ≡ x ∷ down (opening true ∷ (a ++ (x ∷ rest))) (suc (length a))
down_push a x rest l n s e = rw (s, e) (top_is a x rest)

pub down_log : (w : World) (k : ℕ) (rest : List Entry) → down (opening true ∷ (versions_to w k ++ rest)) (suc (count_to w k)) ≡ log_to w k
unfolding down log_to versions_to
down_log w zero rest = refl
down_log w (suc k) rest = go (version_of w (suc k)) (down_log w k)
  where
    go : (v : Option Image) → ((more : List Entry) → down (opening true ∷ (versions_to w k ++ more)) (suc (count_to w k)) ≡ log_to w k)
        → down (opening true ∷ ((versions_to w k ++ carried_by v) ++ rest)) (suc (length (versions_to w k ++ carried_by v))) ≡ topped v (log_to w k)
    go none h = subst (λ (l : List Entry). down (opening true ∷ (l ++ rest)) (suc (length l)) ≡ log_to w k) (sym (append-nil (versions_to w k))) (h rest)
    go (some i) h =
        let n : length (versions_to w k ++ (image (carried i) ∷ [])) ≡ suc (length (versions_to w k)) = simp length-append (omega arith) in
        down_push (versions_to w k) (image (carried i)) rest _ _ (append_assoc (versions_to w k) (image (carried i) ∷ []) rest) n
        ∙ ap (λ (l : List Entry). image (carried i) ∷ l) (h (image (carried i) ∷ rest))

pub down_move : (w : World) (k : ℕ) (rest : List Entry)
    → down (opening true ∷ ((versions_to w k ++ (outcome 1 true ∷ [])) ++ rest)) (suc (suc (count_to w k))) ≡ move_log w k
down_move w k rest =
    down_push (versions_to w k) (outcome 1 true) rest _ _ (append_assoc (versions_to w k) (outcome 1 true ∷ []) rest) refl
    ∙ ap (λ (l : List Entry). outcome 1 true ∷ l) (down_log w k (outcome 1 true ∷ rest))

-- a file's image stands at its place
pub page_of_file : (w : World) (k f : ℕ) (i : Image) (rest : List Entry) → 1 ≤ f → f ≤ k → version_of w f ≡ some i
    → get_or (opening true ∷ (versions_to w k ++ rest)) (count_to w f) blank ≡ image (carried i)
unfolding versions_to
page_of_file w zero f i rest h l e = absurd (omega arith)
page_of_file w (suc k) f i rest h l e = go (eqb f (suc k)) refl (λ more m. page_of_file w k f i more h m e)
  where
    here : f ≡ suc k → get_or (opening true ∷ (versions_to w (suc k) ++ rest)) (count_to w f) blank ≡ image (carried i)
    here q =
        let v : version_of w (suc k) ≡ some i = rw q at e in
        let n : length (versions_to w k ++ (image (carried i) ∷ [])) ≡ suc (length (versions_to w k)) = simp length-append (omega arith) in
        rw (q, v, n, append_assoc) (get_or-append_seam (versions_to w k) (image (carried i)) rest blank)

    go : (b : Bool) → eqb f (suc k) ≡ b → ((more : List Entry) → f ≤ k → get_or (opening true ∷ (versions_to w k ++ more)) (count_to w f) blank ≡ image (carried i))
        → get_or (opening true ∷ (versions_to w (suc k) ++ rest)) (count_to w f) blank ≡ image (carried i)
    go true q r = here (eqb-true f (suc k) q)
    go false q r = rw append_assoc (r (carried_by (version_of w (suc k)) ++ rest) (omega (arith, eqb-false f (suc k) q)))

-- ---- fates

pub log_fate : (w : World) (k a : ℕ) → fate_of (log_to w k) a ≡ cond (eqb a 1) undecided unknown
unfolding log_to fate_of
log_fate w zero a = refl
log_fate w (suc k) a = go (version_of w (suc k)) (log_fate w k a)
  where
    go : (v : Option Image) → fate_of (log_to w k) a ≡ cond (eqb a 1) undecided unknown → fate_of (topped v (log_to w k)) a ≡ cond (eqb a 1) undecided unknown
    go none h = h
    go (some i) h = h

pub move_fate : (w : World) (k a : ℕ) → fate_of (move_log w k) a ≡ cond (eqb a 1) committed unknown
unfolding fate_of
move_fate w k a = go (eqb a 1) refl
  where
    go : (b : Bool) → eqb a 1 ≡ b → cond (eqb a 1) committed (fate_of (log_to w k) a) ≡ cond (eqb a 1) committed unknown
    go true e = rw e
    go false e = rw e (log_fate w k a ∙ rw e)

-- ---- images

-- the versions are images of their files, with a start of 1 or more
pub record Carries (w : World) (k : ℕ) : Type 0 where
  pub file_is : (f : ℕ) (i : Image) → 1 ≤ f → f ≤ k → version_of w f ≡ some i → i.file ≡ f
  pub started : (f : ℕ) (i : Image) → 1 ≤ f → f ≤ k → version_of w f ≡ some i → 1 ≤ i.start

pub carries_less : (w : World) (k : ℕ) → Carries w (suc k) → Carries w k
carries_less w k c = record {
  file_is = λ f i h l e. c.file_is f i h (omega arith) e;
  started = λ f i h l e. c.started f i h (omega arith) e;
}

abbrev pub placed_by : ℕ → Option Image → List Placed
placed_by p none = []
placed_by p (some i) = record { place = p; image = carried i } ∷ []

module _ (w : World) where
  pub none_above : (k f : ℕ) → Carries w k → k < f → images_of (log_to w k) f ≡ []
  unfolding log_to images_of
  none_above zero f c h = refl
  none_above (suc k) f c h = go (version_of w (suc k)) refl (none_above k f (carries_less w k c) (omega arith))
    where
      go : (v : Option Image) → version_of w (suc k) ≡ v → images_of (log_to w k) f ≡ [] → images_of (topped v (log_to w k)) f ≡ []
      go none e r = r
      go (some i) e r =
          let q = c.file_is (suc k) i (omega arith) (omega arith) e in
          rw (ne_eqb i.file f (λ z. omega arith)) r

  -- no image is one of file 0
  pub none_zero : (k : ℕ) → Carries w k → images_of (log_to w k) 0 ≡ []
  unfolding log_to images_of
  none_zero zero c = refl
  none_zero (suc k) c = go (version_of w (suc k)) refl (none_zero k (carries_less w k c))
    where
      go : (v : Option Image) → version_of w (suc k) ≡ v → images_of (log_to w k) 0 ≡ [] → images_of (topped v (log_to w k)) 0 ≡ []
      go none e r = r
      go (some i) e r =
          let q = c.file_is (suc k) i (omega arith) (omega arith) e in
          rw (ne_eqb i.file 0 (λ z. omega arith)) r

  -- each file's one image, at its place
  pub one_image : (k f : ℕ) → Carries w k → 1 ≤ f → f ≤ k → images_of (log_to w k) f ≡ placed_by (suc (count_to w f)) (version_of w f)
  unfolding log_to images_of
  one_image zero f c h l = absurd (omega arith)
  one_image (suc k) f c h l = go (eqb f (suc k)) refl (λ m. one_image k f (carries_less w k c) h m)
    where
      top : (v : Option Image) → version_of w (suc k) ≡ v → images_of (topped v (log_to w k)) (suc k) ≡ placed_by (suc (count_to w (suc k))) v
      top none e = none_above k (suc k) (carries_less w k c) (omega arith)
      top (some i) e =
          let q = c.file_is (suc k) i (omega arith) (omega arith) e in
          let n : count_to w (suc k) ≡ suc (count_to w k) = counted w k ∙ rw e (omega arith) in
          rw (eq-eqb i.file (suc k) q, none_above k (suc k) (carries_less w k c) (omega arith), log_long w k, n)

      below : (v : Option Image) → version_of w (suc k) ≡ v → f ≤ k → images_of (log_to w k) f ≡ placed_by (suc (count_to w f)) (version_of w f)
          → images_of (topped v (log_to w k)) f ≡ placed_by (suc (count_to w f)) (version_of w f)
      below none e m r = r
      below (some i) e m r =
          let q = c.file_is (suc k) i (omega arith) (omega arith) e in
          rw (ne_eqb i.file f (λ z. omega arith)) r

      go : (b : Bool) → eqb f (suc k) ≡ b → (f ≤ k → images_of (log_to w k) f ≡ placed_by (suc (count_to w f)) (version_of w f))
          → images_of (log_to w (suc k)) f ≡ placed_by (suc (count_to w f)) (version_of w f)
      go true e r = let q = eqb-true f (suc k) e in rw q (top (version_of w (suc k)) refl)
      go false e r = let m : f ≤ k = omega (arith, eqb-false f (suc k) e) in below (version_of w (suc k)) refl m (r m)

  -- ---- lawful

  pub log_lawful : (k : ℕ) → Carries w k → lawful (log_to w k) ≡ true
  unfolding log_to effective token_of versions_of
  log_lawful zero c = lawful_more (opening true) [] refl lawful_none
  log_lawful (suc k) c = go (version_of w (suc k)) refl (log_lawful k (carries_less w k c))
    where
      fits : (i : Image) → version_of w (suc k) ≡ some i → lawful (log_to w k) ≡ true → lawful (image (carried i) ∷ log_to w k) ≡ true
      fits i e r =
          let q = c.file_is (suc k) i (omega arith) (omega arith) e in
          let z = none_above k i.file (carries_less w k c) (omega arith) in
          lawful_more (image (carried i)) (log_to w k)
          (rw (z, log_fate w k 1, lt-ltb 0 i.start (c.started (suc k) i (omega arith) (omega arith) e)))
          r

      go : (v : Option Image) → version_of w (suc k) ≡ v → lawful (log_to w k) ≡ true → lawful (topped v (log_to w k)) ≡ true
      go none e r = r
      go (some i) e r = fits i e r

  pub move_lawful : (k : ℕ) → Carries w k → lawful (move_log w k) ≡ true
  move_lawful k c = lawful_more (outcome 1 true) (log_to w k) (rw (log_fate w k 1)) (log_lawful k c)
