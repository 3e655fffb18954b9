-- What the climb keeps in its arrays: a fate for each place, and for each file its newest image and the newest version below that.
-- A reader of document 01 can pass this file over: the laws join it to the log.
use Rattle.std.specs.Prelude.{ℕ, suc, ◌≤◌, ◌<◌, List, Bool, true, false, cond, not, ◌&&◌, get_or, set, eqb, ltb}
use Rattle.page.specs.declared.Page.{Page}
use Rattle.page.specs.declared.Unpacked.{Unpacked}
use Rattle.page.specs.declared.Unpacked.TheVariants.{Refused, Blank, Torn, Opening, Image, Outcome, Unfit}
use Rattle.page.specs.Layout.{most_files}
use Rattle.inspection.specs.declared.climbing.Slot.{Slot}
use Rattle.inspection.specs.declared.climbing.Kept.{Kept}

-- no image
abbrev pub no_slot : Slot
no_slot = record { place = 0; action = 0; start = 0 }

abbrev pub slot_at : List Slot → ℕ → Slot
slot_at l f = get_or l f no_slot

module _ {n : ℕ} where
  -- the fate now of a file's newest image
  abbrev pub newest_fate : Kept n → ℕ → ℕ
  newest_fate k f = get_or k.fates (slot_at k.newest f).action 0

  -- a file's newest version: its newest image if that is committed now
  unfoldable pub version_in : Kept n → ℕ → Slot
  version_in k f = cond (eqb (newest_fate k f) 2) (slot_at k.newest f) (slot_at k.below f)

  -- a file's newest image is no token of another action
  abbrev pub is_free_in : Kept n → ℕ → ℕ → Bool
  is_free_in k f a = not (eqb (newest_fate k f) 1 && not (eqb (slot_at k.newest f).action a))

  unfoldable pub image_fits_in : Kept n → Page → Bool
  image_fits_in k p =
      eqb (get_or k.fates p.action 0) 1
      && is_free_in k p.file p.action
      && eqb p.link (version_in k p.file).place
      && ltb (version_in k p.file).start p.start

  abbrev pub page_fits_in : Kept n → Unpacked → Bool
  page_fits_in k Refused = false
  page_fits_in k Blank = false
  page_fits_in k Torn = true
  page_fits_in k (Opening p) = true
  page_fits_in k (Image p) = image_fits_in k p
  page_fits_in k (Outcome p) = eqb (get_or k.fates p.action 0) 1
  page_fits_in k Unfit = false

  unfoldable pub keep_image : Kept n → Page → ℕ → Kept n
  keep_image k p place = record {
    fates = k.fates;
    newest = set k.newest p.file (record { place = place; action = p.action; start = p.start });
    below = set k.below p.file (version_in k p.file);
  }

  abbrev pub keep_page : Kept n → Unpacked → ℕ → Kept n
  keep_page k Refused place = k
  keep_page k Blank place = k
  keep_page k Torn place = k
  keep_page k (Opening p) place = record { fates = set k.fates place 1; newest = k.newest; below = k.below }
  keep_page k (Image p) place = keep_image k p place
  keep_page k (Outcome p) place = record { fates = set k.fates p.action (suc p.small); newest = k.newest; below = k.below }
  keep_page k Unfit place = k

-- the ranges of what the page test finds: an image's file has a slot
abbrev pub FileInRange : Unpacked → Type 0
FileInRange Refused = Unit {0}
FileInRange Blank = Unit {0}
FileInRange Torn = Unit {0}
FileInRange (Opening p) = Unit {0}
FileInRange (Image p) = p.file ≤ most_files
FileInRange (Outcome p) = Unit {0}
FileInRange Unfit = Unit {0}

-- and an outcome's action lies below its place, and tells committed from aborted
abbrev pub InRange : ℕ → Unpacked → Type 0
InRange place Refused = Unit {0}
InRange place Blank = Unit {0}
InRange place Torn = Unit {0}
InRange place (Opening p) = Unit {0}
InRange place (Image p) = p.file ≤ most_files
InRange place (Outcome p) = (p.action < place) × (1 ≤ p.small) × (p.small ≤ 2)
InRange place Unfit = Unit {0}
