-- The walk goes link by link. It ends at an image that starts by the time, at link 0, and at a link to no image of the file; else it
-- goes on from the page that the link names, and keeps whether the image that it leaves is carried. Shuts out a walk that passes over a
-- version, and one that forgets a carried one. Assumes nothing.
use Prim.Native.Nat.{ℕ, zero, suc, pred, ◌≤◌, ◌<◌}
use mathlib.Core.Path.{◌≡◌, refl, sym, ap, ◌∙◌}
use mathlib.Core.Bool.{Bool, true, false, cond, ◌||◌}
use mathlib.Core.List.{List, [], ◌∷◌}
use native.Mathlib.Omega.{arith}
use lib.ListN.{get_or}
use lib.Dec.{eqb, leb}
use borrow.Author.Tests.{eq-eqb, ne_eqb, le-leb, lt-leb, eqb-true, eqb-false}
use Rattle.encoding.proofs.Logic.{by_test, clash}
use Rattle.recovery.specs.Places.{nth}
use Rattle.recovery.specs.Log.{Image, Entry, blank, torn, bad, opening, image, outcome, Placed, images_step, images_of}
use Rattle.recovery.specs.World.{down, is_image_of}
use Rattle.recovery.proofs.Pages.{length_down}
use Rattle.recovery.proofs.Spots.{Spots, image_spots, entry_down}
use Rattle.calls.specs.Walk.{Walk, met, lost, none_below, images_below, follow}
use Rattle.calls.specs.Links.{Links, here, on}

-- ---- one image

module _ (c : ℕ → Bool) (t : ℕ) (b : Bool) (x : Placed) where
  stops : (xs : List Placed) → leb x.image.start t ≡ true → follow c t b x xs ≡ met x
  unfolding follow
  stops [] e = rw e
  stops (y ∷ xs) e = rw e

  tested_once : (xs : List Placed) → cond (leb x.image.start t) (met x) (follow c t b x xs) ≡ follow c t b x xs
  tested_once xs = go (leb x.image.start t) refl
    where
      go : (o : Bool) → leb x.image.start t ≡ o → cond o (met x) (follow c t b x xs) ≡ follow c t b x xs
      go true e = sym (stops xs e)
      go false e = refl

  -- a page that the link does not name
  passed_over : (f p : ℕ) (g : Entry) (xs : List Placed) → (x.image.link ≡ p → ⊥) → follow c t b x (images_step g p f xs) ≡ follow c t b x xs
  unfolding follow
  passed_over f p blank xs h = refl
  passed_over f p torn xs h = refl
  passed_over f p bad xs h = refl
  passed_over f p (opening k) xs h = refl
  passed_over f p (outcome a d) xs h = refl
  passed_over f p (image i) xs h = by_test (λ (ys : List Placed). follow c t b x ys ≡ follow c t b x xs) (eqb i.file f) (λ e. rw (ne_eqb x.image.link p h) (tested_once xs)) (λ e. refl)

not_added : (f p : ℕ) (g : Entry) (xs : List Placed) → is_image_of f g ≡ false → images_step g p f xs ≡ xs
not_added f p blank xs h = refl
not_added f p torn xs h = refl
not_added f p bad xs h = refl
not_added f p (opening k) xs h = refl
not_added f p (outcome a c) xs h = refl
not_added f p (image i) xs h = rw h

-- ---- the file's images at places 1 to n

module _ (c : ℕ → Bool) (sheet : List Entry) (f t : ℕ) (b : Bool) (x : Placed) where
  abbrev up_to : ℕ → List Placed
  up_to n = images_of (down sheet n) f

  up_to_suc : (q : ℕ) → up_to (suc q) ≡ images_step (get_or sheet q blank) (suc q) f (up_to q)
  unfolding down images_of
  up_to_suc q = rw (length_down sheet q)

  -- pages from m + 1 to n, if the link names none of them
  skipped : (n m : ℕ) → m ≤ n → ((p : ℕ) → m < p → p ≤ n → x.image.link ≡ p → ⊥) → follow c t b x (up_to n) ≡ follow c t b x (up_to m)
  skipped zero m l h = let e : m ≡ 0 = omega arith in rw e
  skipped (suc q) m l h =
      go (eqb m (suc q)) refl (λ k. skipped q m k (λ p u v. h p u (omega arith)))
    where
      go : (o : Bool) → eqb m (suc q) ≡ o → (m ≤ q → follow c t b x (up_to q) ≡ follow c t b x (up_to m)) → follow c t b x (up_to (suc q)) ≡ follow c t b x (up_to m)
      go true e r = rw (eqb-true m (suc q) e)
      go false e r =
          let k : m ≤ q = omega (arith, eqb-false m (suc q) e) in
          ap (follow c t b x) (up_to_suc q) ∙ passed_over c t b x f (suc q) (get_or sheet q blank) (up_to q) (h (suc q) (omega arith) (omega arith)) ∙ r k

  -- among the images up to any place that is not below its own, an image's walk is the same
  pub same_among : (n : ℕ) → x.image.link < x.place → x.place ≤ n → follow c t b x (up_to n) ≡ follow c t b x (images_below sheet x.place f)
  same_among n l h = skipped n (pred x.place) (omega arith) (λ p u v e. omega arith)

  abbrev walk : Walk
  walk = follow c t b x (images_below sheet x.place f)

  pub reached : x.image.start ≤ t → walk ≡ met x
  reached h = stops c t b x (images_below sheet x.place f) (le-leb x.image.start t h)

  module _ (early : t < x.image.start) where
    pub unlinked : x.image.link ≡ 0 → walk ≡ none_below (b || c x.image.action)
    unfolding follow images_of down
    unlinked e =
        skipped (pred x.place) 0 (omega arith) (λ p u v q. omega arith) ∙ rw (lt-leb x.image.start t early, eq-eqb x.image.link 0 e)

    module _ (low : x.image.link < x.place) where
      to_link : walk ≡ follow c t b x (up_to x.image.link)
      to_link = skipped (pred x.place) x.image.link (omega arith) (λ p u v e. omega arith)

      pub linked : (j : Image) → nth blank sheet x.image.link ≡ image j → j.file ≡ f
          → walk ≡ follow c t (b || c x.image.action) (record { place = x.image.link; image = j }) (images_below sheet x.image.link f)
      unfolding follow
      linked j h mine = to_link ∙ go x.image.link refl h
        where
          go : (p : ℕ) → x.image.link ≡ p → nth blank sheet p ≡ image j → follow c t b x (up_to p) ≡ follow c t (b || c x.image.action) (record { place = p; image = j }) (images_below sheet p f)
          go zero e k = clash cc
          go (suc q) e k = ap (follow c t b x) (up_to_suc q) ∙ rw (k, eq-eqb j.file f mine, lt-leb x.image.start t early, eq-eqb x.image.link (suc q) e)

      pub mislinked : (x.image.link ≡ 0 → ⊥) → is_image_of f (nth blank sheet x.image.link) ≡ false → walk ≡ lost x.place
      unfolding follow images_of down
      mislinked some h = to_link ∙ go x.image.link refl h
        where
          go : (p : ℕ) → x.image.link ≡ p → is_image_of f (nth blank sheet p) ≡ false → follow c t b x (up_to p) ≡ lost x.place
          go zero e k = absurd (some e)
          go (suc q) e k =
              ap (follow c t b x) (up_to_suc q ∙ not_added f (suc q) (get_or sheet q blank) (up_to q) k)
              ∙ skipped q 0 (omega arith) (λ p u v z. omega arith) ∙ rw (lt-leb x.image.start t early, ne_eqb x.image.link 0 some)

-- ---- where it ends

module _ (c : ℕ → Bool) (sheet : List Entry) (f t : ℕ) where
  -- at an image that links lead to, it comes to what that image comes to alone, some carried one passed or none: the image, none, none
  -- here, or a link that leads nowhere
  pub record Ends (x : Placed) (w : Walk) : Type 0 where
    pub last : Placed
    pub passed : Bool
    pub count : ℕ
    pub led : Links (λ p. nth blank sheet p) x count last
    pub comes : w ≡ follow c t passed last []

  ends_at : (b : Bool) (x z : Placed) (xs : List Placed) → nth blank sheet z.place ≡ image z.image → Ends z (follow c t (b || c x.image.action) z xs) → Ends x (follow c t b x xs)
      → (o : Bool) → leb x.image.start t ≡ o → (q : Bool) → eqb x.image.link z.place ≡ q → Ends x (follow c t b x (z ∷ xs))
  unfolding follow
  ends_at b x z xs h e d true o q k = record { last = x; passed = b; count = 0; led = here; comes = rw o }
  ends_at b x z xs h e d false o true k =
      let l : x.image.link ≡ z.place = eqb-true x.image.link z.place k in
      record { last = e.last; passed = e.passed; count = suc e.count; led = on {x = x} {y = e.last} {n = e.count} z.image (rw l h) (rw l e.led); comes = rw (o, k) e.comes }
  ends_at b x z xs h e d false o false k = record { last = d.last; passed = d.passed; count = d.count; led = d.led; comes = rw (o, k) d.comes }

  ends : (n : ℕ) (b : Bool) (x : Placed) (xs : List Placed) → Spots (down sheet n) f xs → Ends x (follow c t b x xs)
  ends n b x [] h = record { last = x; passed = b; count = 0; led = here; comes = refl }
  ends n b x (z ∷ xs) h =
      ends_at b x z xs (sym (entry_down sheet n z.place (rw (length_down sheet n) at h.0.high)) ∙ h.0.here) (ends n (b || c x.image.action) z xs h.1) (ends n b x xs h.1)
      (leb x.image.start t) refl (eqb x.image.link z.place) refl

  pub walk_ends : (b : Bool) (x : Placed) → Ends x (follow c t b x (images_below sheet x.place f))
  walk_ends b x = ends (pred x.place) b x (images_below sheet x.place f) (image_spots (down sheet (pred x.place)) f)
