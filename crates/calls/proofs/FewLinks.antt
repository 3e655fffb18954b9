-- Following links from an image at a place takes fewer links than that place, and so fewer than the sheet has pages, whatever bytes
-- the sheet holds: a sealed image links below its own place. Shuts out a store whose links may lead upward, or in a ring. Assumes
-- nothing.
use Prim.Native.Nat.{ℕ, zero, suc, ◌/◌, ◌≤◌, ◌<◌}
use mathlib.Core.Path.{◌≡◌, refl, sym, ap, ◌∙◌}
use mathlib.Core.Bool.{Bool, true}
use mathlib.Core.List.{List}
use native.Mathlib.Omega.{arith}
use lib.ListN.{length}
use borrow.Author.Tests.{eq-eqb}
use Rattle.encoding.proofs.Logic.{clash}
use Rattle.page.specs.declared.Page.{Page}
use Rattle.std.specs.Prelude.{Option, is_some, Some, None}
use Rattle.page.specs.Layout.{page_size}
use Rattle.recovery.specs.Places.{nth}
use Rattle.recovery.specs.Log.{Image, Entry, blank, image, Placed, images_of}
use Rattle.recovery.specs.World.{down}
use Rattle.recovery.specs.Sheet.{page_bytes, image_from}
use Rattle.recovery.specs.Lent.{pages_of}
use Rattle.recovery.specs.Steps.{sealed_image}
use Rattle.recovery.proofs.Held.{held_in}
use Rattle.calls.specs.Walk.{images_below, follow}
use Rattle.calls.specs.Links.{Links, here, on}
use Rattle.calls.specs.ReadSteps.{carried_in}
use Rattle.calls.proofs.ReadImages.{met_at}
use Rattle.calls.proofs.LinkByLink.{same_among, walk_ends}

module _ (files : ℕ) (s : List ℕ) where
  abbrev page : ℕ → Entry
  page p = nth blank (pages_of s files) p

  -- where a sealed image lies, and where it links
  record Lies (p : ℕ) (i : Image) : Type 0 where
    low : 1 ≤ p
    high : p ≤ length s / page_size
    link : i.link < p

  image_lies : (p : ℕ) (i : Image) → page p ≡ image i → Lies p i
  image_lies zero i e = clash cc
  image_lies (suc q) i e =
      go (sealed_image files s i.file (suc q)) refl (sym (held_in files s i.file (suc q)) ∙ rw e (eq-eqb i.file i.file refl))
    where
      go : (u : Option Page) → sealed_image files s i.file (suc q) ≡ u → is_some (sealed_image files s i.file (suc q)) ≡ true → Lies (suc q) i
      go (Some x) h k =
          let m = met_at files s i.file (suc q) x h in
          let j : i ≡ image_from (page_bytes s (suc q)) x = cc (sym e ∙ m.page_is) in
          let l : i.link ≡ x.link = ap (λ (k : Image). k.link) j in
          record { low = m.low; high = omega arith; link = omega (arith, m.rules.link) }
      go None h k = clash cc

  pub fewer_links : (x y : Placed) (n : ℕ) → page x.place ≡ image x.image → Links page x n y → n < x.place
  fewer_links x y n e here = (image_lies x.place x.image e).low
  fewer_links x y (suc n) e (on j h l) =
      omega (arith, (image_lies x.place x.image e).link, fewer_links (record { place = x.image.link; image = j }) y n h l)

  pub fewer_than_pages : (x y : Placed) (n : ℕ) → page x.place ≡ image x.image → Links page x n y → n < length s / page_size
  fewer_than_pages x y n e l = omega (arith, (image_lies x.place x.image e).high, fewer_links x y n e l)

  -- a walk ends at an image that links lead to, and so follows no more
  pub walk_few : (f t : ℕ) (b : Bool) (x : Placed) → page x.place ≡ image x.image → (walk_ends (carried_in files s) (pages_of s files) f t b x).count < x.place
  walk_few f t b x e = let w = walk_ends (carried_in files s) (pages_of s files) f t b x in fewer_links x w.last w.count e w.led

  -- among more of the file's images than those below its own place it comes to the same
  pub same_walk : (f t : ℕ) (b : Bool) (x : Placed) (n : ℕ) → page x.place ≡ image x.image → x.place ≤ n
      → follow (carried_in files s) t b x (images_of (down (pages_of s files) n) f) ≡ follow (carried_in files s) t b x (images_below (pages_of s files) x.place f)
  same_walk f t b x n e l = same_among (carried_in files s) (pages_of s files) f t b x n (image_lies x.place x.image e).link l
