-- The log: a sheet's pages decoded, the newest first, and what they say of an action and of a file; and of pages in any order, their
-- highest start. The place of the newest page is the length of the log.
use mathlib.Core.List.{List, [], ◌∷◌, head?}
use Rattle.std.specs.Prelude.{Bool, true, false, cond, ℕ, suc, max, length, eqb}
use Rattle.std.proofs.Math.Option.{Option, some, none}

-- an image (a version record): one value of a file
pub record Image : Type 0 where
  pub file : ℕ
  pub action : ℕ
  pub link : ℕ
  pub start : ℕ
  pub value : List ℕ

-- a page decoded: a sealed one by its kind, an opening with whether it is carried (its action's images were carried over from another
-- sheet), an outcome with its action and whether it is committed
pub data Entry : Type 0 where
  blank torn bad : Entry
  opening : Bool → Entry
  image : Image → Entry
  outcome : ℕ → Bool → Entry

-- an action's fate (its transaction status); unknown where no sealed opening lies
pub data Fate : Type 0 where
  unknown undecided committed aborted : Fate

abbrev pub is_undecided : Fate → Bool
is_undecided unknown = false
is_undecided undecided = true
is_undecided committed = false
is_undecided aborted = false

-- an image and the place of its page
pub record Placed : Type 0 where
  pub place : ℕ
  pub image : Image

-- ---- the fate of an action, by its newest outcome

abbrev pub verdict : Bool → Fate
verdict true = committed
verdict false = aborted

abbrev pub fate_step : Entry → ℕ → ℕ → Fate → Fate
fate_step blank place a x = x
fate_step torn place a x = x
fate_step bad place a x = x
fate_step (opening k) place a x = cond (eqb a place) undecided x
fate_step (image i) place a x = x
fate_step (outcome b c) place a x = cond (eqb a b) (verdict c) x

unfoldable pub fate_of : List Entry → ℕ → Fate
fate_of [] a = unknown
fate_of (g ∷ l) a = fate_step g (suc (length l)) a (fate_of l a)

-- ---- the place of an action's newest outcome, 0 if there is none

abbrev pub outcome_step : Entry → ℕ → ℕ → ℕ → ℕ
outcome_step blank place a x = x
outcome_step torn place a x = x
outcome_step bad place a x = x
outcome_step (opening k) place a x = x
outcome_step (image i) place a x = x
outcome_step (outcome b c) place a x = cond (eqb a b) place x

unfoldable pub outcome_of : List Entry → ℕ → ℕ
outcome_of [] a = 0
outcome_of (g ∷ l) a = outcome_step g (suc (length l)) a (outcome_of l a)

-- ---- the images of a file, the newest first

abbrev pub images_step : Entry → ℕ → ℕ → List Placed → List Placed
images_step blank place f xs = xs
images_step torn place f xs = xs
images_step bad place f xs = xs
images_step (opening k) place f xs = xs
images_step (image i) place f xs = cond (eqb i.file f) (record { place = place; image = i } ∷ xs) xs
images_step (outcome b c) place f xs = xs

unfoldable pub images_of : List Entry → ℕ → List Placed
images_of [] f = []
images_of (g ∷ l) f = images_step g (suc (length l)) f (images_of l f)

-- ---- its effective images: what an action does to a file is its newest image there (last write wins), which overtakes the older ones

-- those of other actions
unfoldable pub not_by : ℕ → List Placed → List Placed
not_by a [] = []
not_by a (x ∷ xs) = cond (eqb x.image.action a) (not_by a xs) (x ∷ not_by a xs)

unfoldable pub effective : List Placed → List Placed
effective [] = []
effective (x ∷ xs) = x ∷ not_by x.image.action (effective xs)

abbrev pub effective_of : List Entry → ℕ → List Placed
effective_of l f = effective (images_of l f)

-- ---- a file's versions, those of its effective images whose action is committed, the newest first: its history

abbrev pub versions_step : Fate → Placed → List Placed → List Placed
versions_step unknown x xs = xs
versions_step undecided x xs = xs
versions_step committed x xs = x ∷ xs
versions_step aborted x xs = xs

unfoldable pub versions_of : (ℕ → Fate) → List Placed → List Placed
versions_of φ [] = []
versions_of φ (x ∷ xs) = versions_step (φ x.image.action) x (versions_of φ xs)

-- ---- the current version, the newest one; and the token, the newest undecided image above it

abbrev pub current_of : (ℕ → Fate) → List Placed → Option Placed
current_of φ xs = head? (versions_of φ xs)

abbrev pub token_step : Fate → Placed → Option Placed → Option Placed
token_step unknown x r = r
token_step undecided x r = some x
token_step committed x r = none
token_step aborted x r = r

unfoldable pub token_of : (ℕ → Fate) → List Placed → Option Placed
token_of φ [] = none
token_of φ (x ∷ xs) = token_step (φ x.image.action) x (token_of φ xs)

abbrev pub place_of : Option Placed → ℕ
place_of (some x) = x.place
place_of none = 0

abbrev pub start_of : Option Placed → ℕ
start_of (some x) = x.image.start
start_of none = 0

abbrev pub action_of : Option Placed → ℕ
action_of (some x) = x.image.action
action_of none = 0

-- ---- the highest start of any image, 0 if there is none, whatever became of its action; the order of the pages does not count

abbrev pub start_step : Entry → ℕ → ℕ
start_step blank x = x
start_step torn x = x
start_step bad x = x
start_step (opening k) x = x
start_step (image i) x = max i.start x
start_step (outcome a c) x = x

unfoldable pub highest_start : List Entry → ℕ
highest_start [] = 0
highest_start (g ∷ l) = start_step g (highest_start l)
