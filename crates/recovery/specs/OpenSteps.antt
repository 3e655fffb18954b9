-- What the steps of `open` leave. A reader of document 01 can pass this file over: the laws join it to `open_leaves`.
use Rattle.std.specs.Prelude.{◌≡◌, List, Bool, cond, ◌&&◌, ℕ, ◌+◌, ◌-◌, ◌≤◌, ◌<◌, get_or, set, eqb, ltb}
use Rattle.page.specs.declared.Unpacked.{Unpacked}
use Rattle.page.specs.declared.Unpacked.TheVariants.{Refused, Blank, Torn, Opening, Image, Outcome, Unfit}
use Rattle.recovery.specs.Places.{nth}
use Rattle.recovery.specs.Sheet.{decoded, pages}
use Rattle.recovery.specs.World.{down, end_of, highest_bad, fates_of, is_carried}
use Rattle.recovery.specs.Lent.{closed}
use Rattle.recovery.specs.declared.Refusal.{Refusal}
use Rattle.recovery.specs.declared.Answer as answers
use Rattle.recovery.specs.declared.Done.{Done}
use Rattle.recovery.specs.declared.Scan.{Scan}

-- what the page test tells of the action and the verdict of a page at a place
abbrev pub Bounded : ℕ → Unpacked → Type 0
Bounded place Refused = Unit
Bounded place Blank = Unit
Bounded place Torn = Unit
Bounded place (Opening p) = Unit
Bounded place (Image p) = (1 ≤ p.action) × (p.action < place)
Bounded place (Outcome p) = (1 ≤ p.action) × (p.action < place) × (1 ≤ p.small) × (p.small ≤ 2)
Bounded place Unfit = Unit

-- a page that is not blank is the end; a blank one just below it is bad
unfoldable pub good : ℕ → Scan → Scan
good place s = record { end = place; bad = cond (ltb s.end (place - 1)) (place - 1) s.bad }

abbrev pub worse : ℕ → Scan
worse place = record { end = place; bad = place }

-- what the page at a place makes of the scan and of the kept fates
abbrev pub stepped : Unpacked → ℕ → Scan → List ℕ → Scan × List ℕ
stepped Refused place s k = (worse place, k)
stepped Blank place s k = (s, k)
stepped Torn place s k = (good place s, k)
stepped (Opening p) place s k = (good place s, set k (place - 1) 1)
stepped (Image p) place s k = cond (eqb (get_or k (p.action - 1) 0) 0) (worse place, k) (good place s, k)
stepped (Outcome p) place s k = cond (eqb (get_or k (p.action - 1) 0) 0) (worse place, k) (good place s, set k (p.action - 1) (p.small + 1))
stepped Unfit place s k = (worse place, k)

-- what the pass over n pages leaves
pub record Scanned (files n : ℕ) (sheet : List ℕ) (s : Scan) (kept : List ℕ) : Type 0 where
  pub end_is : s.end ≡ end_of (pages files n sheet) n
  pub bad_is : s.bad ≡ highest_bad (down (pages files n sheet) (end_of (pages files n sheet) n))
  pub kept_is : kept ≡ fates_of n (down (pages files n sheet) (end_of (pages files n sheet) n))

-- line 24, by the kept fates
unfoldable pub unfinished_in : ℕ → List ℕ → List ℕ → Bool
unfinished_in files sheet kept = is_carried (decoded files sheet 1) && eqb (nth 0 kept 1) 1

-- a refusal and its place, and three zeros
abbrev pub refused_opening : Refusal → ℕ → Done
refused_opening why place = record { answer = answers.Answer.Refused why place; state = closed }
