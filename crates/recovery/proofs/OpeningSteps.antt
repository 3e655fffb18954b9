-- What `step` leaves of a page that is none of those that fit. Assumes nothing.
use Prim.Native.Nat.{ℕ}
use mathlib.Core.Path.{◌≡◌, refl}
use mathlib.Core.List.{List}
use Rattle.page.specs.declared.Page.{Page}
use Rattle.page.specs.declared.Unpacked.{Unpacked}
use Rattle.page.specs.declared.Unpacked.TheVariants.{Refused, Blank, Torn, Opening, Image, Outcome, Unfit}
use Rattle.recovery.specs.OpenSteps.{worse, stepped}
use Rattle.recovery.specs.declared.Scan.{Scan}

pub step_bad : (place : ℕ) (sc : Scan) (k : List ℕ) (u : Unpacked) → (u ≡ Blank → ⊥) → (u ≡ Torn → ⊥)
    → ((p : Page) → u ≡ Opening p → ⊥) → ((p : Page) → u ≡ Image p → ⊥) → ((p : Page) → u ≡ Outcome p → ⊥) → (worse place, k) ≡ stepped u place sc k
step_bad place sc k Refused b t o i d = refl
step_bad place sc k Blank b t o i d = absurd (b refl)
step_bad place sc k Torn b t o i d = absurd (t refl)
step_bad place sc k (Opening p) b t o i d = absurd (o p refl)
step_bad place sc k (Image p) b t o i d = absurd (i p refl)
step_bad place sc k (Outcome p) b t o i d = absurd (d p refl)
step_bad place sc k Unfit b t o i d = refl
