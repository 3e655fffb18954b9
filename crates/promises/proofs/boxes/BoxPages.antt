-- The pages of a box are those of its log.
use Prim.Native.Nat.{ℕ, ◌≤◌}
use mathlib.Core.Path.{◌≡◌, refl, sym, ◌∙◌}
use mathlib.Core.Bool.{Bool, true, false}
use lib.ListN.{length}
use lib.Dec.{leb}
use borrow.Author.Tests.{leb-true, leb-false}
use Rattle.encoding.proofs.Logic.{clash}
use Rattle.recovery.specs.Log.{Image, Entry, blank, torn, bad, opening, image, outcome, Placed, effective_of}
use Rattle.recovery.specs.Sheet.{sealed}
use Rattle.promises.specs.Runs.{Box, sheet_of}
use Rattle.promises.specs.Promises.{IsEffective}
use Rattle.promises.proofs.logs.Outcomes.{Lies}
use Rattle.promises.proofs.logs.Versions.{Among}
use Rattle.promises.proofs.logs.Newest.{among_effective, effective_lies, effective_none_newer}
use Rattle.promises.proofs.boxes.Boxes.{Reached, page_lies, log_page, page_above}

-- ---- a page that is neither blank nor torn nor bad

pub record Solid (g : Entry) : Type 0 where
  pub not_blank : g ≡ blank → ⊥
  pub not_torn : g ≡ torn → ⊥
  pub not_bad : g ≡ bad → ⊥

pub solid_opening : Solid (opening false)
solid_opening = record { not_blank = λ e. clash cc; not_torn = λ e. clash cc; not_bad = λ e. clash cc }

pub solid_image : (i : Image) → Solid (image i)
solid_image i = record { not_blank = λ e. clash cc; not_torn = λ e. clash cc; not_bad = λ e. clash cc }

pub solid_outcome : (a : ℕ) (c : Bool) → Solid (outcome a c)
solid_outcome a c = record { not_blank = λ e. clash cc; not_torn = λ e. clash cc; not_bad = λ e. clash cc }

pub image_same : {x y : Image} → image x ≡ image y → x ≡ y
image_same e = cc

module _ (n files : ℕ) (b : Box) (r : Reached n files b) where
  pub page_lies_in : (p : ℕ) (g : Entry) → Solid g → sealed files (sheet_of b) p ≡ g → Lies r.log p g
  page_lies_in p g s e =
      let in-sheet = page_lies n files (sheet_of b) p g r.at.long (λ q. s.not_bad (sym q)) e in
      go in-sheet.0 in-sheet.1 (leb p (length r.log)) refl
    where
      go : 1 ≤ p → p ≤ n → (c : Bool) → leb p (length r.log) ≡ c → Lies r.log p g
      go low high true q =
          let k : p ≤ length r.log = leb-true p (length r.log) q in
          record { low = low; high = k; here = sym (log_page n files b r p low k) ∙ e }
      go low high false q = absurd (s.not_blank (sym e ∙ page_above n files b r p (leb-false p (length r.log) q) high))

  pub lies_page : (p : ℕ) (g : Entry) → Lies r.log p g → sealed files (sheet_of b) p ≡ g
  lies_page p g h = log_page n files b r p h.low h.high ∙ h.here

  -- and so are its effective images
  pub effective_in : (p : ℕ) (i : Image) → IsEffective files b p i → Among (record { place = p; image = i }) (effective_of r.log i.file)
  effective_in p i h =
      among_effective r.log p i (page_lies_in p (image i) (solid_image i) h.here) (λ q j y. h.none_newer q j (lies_page q (image j) y))

  pub effective_out : (f : ℕ) (x : Placed) → Among x (effective_of r.log f) → IsEffective files b x.place x.image
  effective_out f x h = record {
    here = lies_page x.place (image x.image) (effective_lies r.log f x h);
    none_newer = λ q j e. effective_none_newer r.log f x h q j (page_lies_in q (image j) (solid_image j) e);
  }
