-- Pages that never fit, and pages of which nothing is kept. Assumes nothing.
use Prim.Native.Nat.{ℕ}
use mathlib.Core.Path.{◌≡◌, refl}
use mathlib.Core.Bool.{false}
use Rattle.page.specs.declared.Page.{Page}
use Rattle.page.specs.declared.Unpacked.{Unpacked}
use Rattle.page.specs.declared.Unpacked.TheVariants.{Refused, Blank, Torn, Opening, Image, Outcome, Unfit}
use Rattle.inspection.specs.declared.climbing.Kept.{Kept}
use Rattle.inspection.specs.ClimbSteps.{page_fits_in, keep_page}

module _ {n : ℕ} (k : Kept n) where
  pub never_fits : (u : Unpacked) → (u ≡ Torn → ⊥) → ((p : Page) → u ≡ Opening p → ⊥) → ((p : Page) → u ≡ Image p → ⊥)
      → ((p : Page) → u ≡ Outcome p → ⊥) → false ≡ page_fits_in k u
  never_fits Refused t o i d = refl
  never_fits Blank t o i d = refl
  never_fits Torn t o i d = absurd (t refl)
  never_fits (Opening p) t o i d = absurd (o p refl)
  never_fits (Image p) t o i d = absurd (i p refl)
  never_fits (Outcome p) t o i d = absurd (d p refl)
  never_fits Unfit t o i d = refl

  pub keep_idle : (u : Unpacked) (place : ℕ) → ((p : Page) → u ≡ Opening p → ⊥) → ((p : Page) → u ≡ Image p → ⊥)
      → ((p : Page) → u ≡ Outcome p → ⊥) → k ≡ keep_page k u place
  keep_idle Refused place o i d = refl
  keep_idle Blank place o i d = refl
  keep_idle Torn place o i d = refl
  keep_idle (Opening p) place o i d = absurd (o p refl)
  keep_idle (Image p) place o i d = absurd (i p refl)
  keep_idle (Outcome p) place o i d = absurd (d p refl)
  keep_idle Unfit place o i d = refl
