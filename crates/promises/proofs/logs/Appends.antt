-- What each append that fits does to a file's versions and token.
use mathlib.Core.Path.{◌≡◌, refl, ap, ◌∙◌}
use mathlib.Core.List.{List, [], ◌∷◌, head?}
use mathlib.Core.Bool.{Bool, true, false, cond}
use mathlib.Core.Option.{Option, some, none}
use Prim.Native.Nat.{ℕ, suc}
use native.Mathlib.Omega.{arith}
use lib.ListN.{length}
use lib.Dec.{eqb}
use borrow.Author.Tests.{eqb-true, eq-eqb}
use Rattle.encoding.proofs.Logic.{by_test}
use Rattle.recovery.specs.Log.{Image, Entry, opening, image, outcome, Fate, unknown, undecided, committed, aborted, Placed, verdict, fate_of, images_of, effective, effective_of, token_step, versions_of, token_of}
use Rattle.recovery.proofs.LogFates.{versions_keep, decided_free}
use Rattle.inspection.specs.Lawful.{versions, current, token}
use Rattle.promises.proofs.logs.Logs.{ImageFits, Lawful, Known, Keeps, not_undecided, not_unknown, fate_above}
use Rattle.promises.proofs.logs.Chains.{Chain, decided_keeps, token_keeps, same_versions, chain}

-- fates that agree wherever they are known
abbrev Agree : (ℕ → Fate) → (ℕ → Fate) → Type 0
Agree φ ψ = (a : ℕ) → Known (φ a) → ψ a ≡ φ a

agree_keeps : (φ ψ : ℕ → Fate) → Agree φ ψ → Keeps φ ψ
agree_keeps φ ψ k a d = k a (omega arith)

versions_agree : (φ ψ : ℕ → Fate) (xs : List Placed) → Agree φ ψ → Chain φ xs → versions_of ψ xs ≡ versions_of φ xs
unfolding versions_of
versions_agree φ ψ [] k h = refl
versions_agree φ ψ (x ∷ xs) k h = rw (k x.image.action h.0, versions_keep φ ψ (agree_keeps φ ψ k) xs h.2)

token_agree : (φ ψ : ℕ → Fate) (xs : List Placed) → Agree φ ψ → Chain φ xs → token_of ψ xs ≡ token_of φ xs
unfolding token_of
token_agree φ ψ [] k h = refl
token_agree φ ψ (x ∷ xs) k h = rw (k x.image.action h.0, token_keeps φ ψ (agree_keeps φ ψ k) xs h.2)

-- an opening changes no history
opening_agree : (l : List Entry) → Lawful l → Agree (fate_of l) (fate_of (opening false ∷ l))
unfolding fate_of
opening_agree l w a d = by_test (λ (x : Fate). x ≡ fate_of l a) (eqb a (suc (length l)))
    (λ e. not_unknown (fate_of l a) d (fate_above l a w (omega (arith, eqb-true a (suc (length l)) e))))
    (λ e. refl)

pub opening_versions : (l : List Entry) (f : ℕ) → Lawful l → versions (opening false ∷ l) f ≡ versions l f
unfolding images_of
opening_versions l f w = versions_agree (fate_of l) (fate_of (opening false ∷ l)) (effective_of l f) (opening_agree l w) (chain l f w)

pub opening_token : (l : List Entry) (f : ℕ) → Lawful l → token (opening false ∷ l) f ≡ token l f
unfolding images_of
opening_token l f w = token_agree (fate_of l) (fate_of (opening false ∷ l)) (effective_of l f) (opening_agree l w) (chain l f w)

-- an image becomes its file's token
pub image_versions : (i : Image) (l : List Entry) (f : ℕ) → ImageFits i l → versions (image i ∷ l) f ≡ versions l f
unfolding images_of effective fate_of versions_of
image_versions i l f h = by_test (λ xs. versions_of (fate_of l) (effective xs) ≡ versions l f) (eqb i.file f)
    (λ e. rw h.live (same_versions (fate_of l) i.action h.live (effective_of l f))) (λ e. refl)

pub image_token : (i : Image) (l : List Entry) (f : ℕ) → ImageFits i l
    → token (image i ∷ l) f ≡ cond (eqb i.file f) (some (record { place = suc (length l); image = i })) (token l f)
unfolding images_of effective fate_of token_of
image_token i l f h = go (eqb i.file f)
  where
    go : (b : Bool) → token_of (fate_of l) (effective (cond b (record { place = suc (length l); image = i } ∷ images_of l f) (images_of l f)))
        ≡ cond b (some (record { place = suc (length l); image = i })) (token l f)
    go true = rw h.live
    go false = refl

-- an outcome ends its action's tokens; a commit makes them current
abbrev pub owns : ℕ → Option Placed → Bool
owns a none = false
owns a (some x) = eqb x.image.action a

abbrev pub turned : ℕ → Bool → (ℕ → Fate) → ℕ → Fate
turned a c φ b = cond (eqb b a) (verdict c) (φ b)

turn_keeps : (a : ℕ) (c : Bool) (φ : ℕ → Fate) → φ a ≡ undecided → Keeps φ (turned a c φ)
turn_keeps a c φ h b d = by_test (λ (x : Fate). x ≡ φ b) (eqb b a) (λ e. not_undecided (φ b) d (rw (eqb-true b a e) h)) (λ e. refl)

-- only a file's newest image can be its token
token_other : (φ : ℕ → Fate) (a : ℕ) (x : Placed) (xs : List Placed) → Chain φ (x ∷ xs) → eqb x.image.action a ≡ false
    → owns a (token_of φ (x ∷ xs)) ≡ false
unfolding token_of
token_other φ a x xs h e = go (φ x.image.action)
  where
    r : token_of φ xs ≡ none
    r = decided_free φ xs h.2

    go : (y : Fate) → owns a (token_step y x (token_of φ xs)) ≡ false
    go unknown = rw r
    go undecided = e
    go committed = refl
    go aborted = rw r

-- the versions with an action's token decided
abbrev pub longer : Bool → Option Placed → List Placed → List Placed
longer c none vs = vs
longer true (some x) vs = x ∷ vs
longer false (some x) vs = vs

turn_versions : (a : ℕ) (c : Bool) (φ : ℕ → Fate) (xs : List Placed) → φ a ≡ undecided → Chain φ xs
    → versions_of (turned a c φ) xs ≡ cond (owns a (token_of φ xs)) (longer c (token_of φ xs) (versions_of φ xs)) (versions_of φ xs)
unfolding versions_of token_of
turn_versions a c φ [] h w = refl
turn_versions a c φ (x ∷ xs) h w = go (eqb x.image.action a) refl c
  where
    ψ : Bool → ℕ → Fate
    ψ c = turned a c φ

    rest : (c : Bool) → versions_of (ψ c) xs ≡ versions_of φ xs
    rest c = versions_keep φ (ψ c) (turn_keeps a c φ h) xs w.2

    go : (t : Bool) → eqb x.image.action a ≡ t → (c : Bool) → versions_of (ψ c) (x ∷ xs)
        ≡ cond (owns a (token_of φ (x ∷ xs))) (longer c (token_of φ (x ∷ xs)) (versions_of φ (x ∷ xs))) (versions_of φ (x ∷ xs))
    go true e true = rw (eqb-true x.image.action a e, h, eq-eqb a a refl, rest true)
    go true e false = rw (eqb-true x.image.action a e, h, eq-eqb a a refl) (rest false)
    go false e c = rw (token_other φ a x xs w e) (rw (e, rest c))

turn_token : (a : ℕ) (c : Bool) (φ : ℕ → Fate) (xs : List Placed) → φ a ≡ undecided → Chain φ xs
    → token_of (turned a c φ) xs ≡ cond (owns a (token_of φ xs)) none (token_of φ xs)
unfolding token_of
turn_token a c φ [] h w = refl
turn_token a c φ (x ∷ xs) h w = go (eqb x.image.action a) refl c
  where
    ψ : Bool → ℕ → Fate
    ψ c = turned a c φ

    keep : (c : Bool) → Keeps φ (ψ c)
    keep c = turn_keeps a c φ h

    rest : (c : Bool) → token_of (ψ c) xs ≡ token_of φ xs
    rest c = token_keeps φ (ψ c) (keep c) xs w.2

    go : (t : Bool) → eqb x.image.action a ≡ t → (c : Bool) → token_of (ψ c) (x ∷ xs)
        ≡ cond (owns a (token_of φ (x ∷ xs))) none (token_of φ (x ∷ xs))
    go true e true = rw (eqb-true x.image.action a e, h, eq-eqb a a refl)
    go true e false = rw (eqb-true x.image.action a e, h, eq-eqb a a refl)
        (decided_free (ψ false) xs (decided_keeps φ (ψ false) (keep false) xs w.2))
    go false e c = rw (token_other φ a x xs w e) (rw (e, rest c))

pub outcome_versions : (a : ℕ) (c : Bool) (l : List Entry) (f : ℕ) → fate_of l a ≡ undecided → Lawful l
    → versions (outcome a c ∷ l) f ≡ cond (owns a (token l f)) (longer c (token l f) (versions l f)) (versions l f)
unfolding images_of fate_of
outcome_versions a c l f h w = turn_versions a c (fate_of l) (effective_of l f) h (chain l f w)

first_longer : (a : ℕ) (c : Bool) (z : Option Placed) (vs : List Placed)
    → head? (cond (owns a z) (longer c z vs) vs) ≡ cond (owns a z) (cond c z (head? vs)) (head? vs)
first_longer a c none vs = refl
first_longer a c (some x) vs = go (eqb x.image.action a) c
  where
    go : (b c : Bool) → head? (cond b (longer c (some x) vs) vs) ≡ cond b (cond c (some x) (head? vs)) (head? vs)
    go true true = refl
    go true false = refl
    go false c = refl

pub outcome_current : (a : ℕ) (c : Bool) (l : List Entry) (f : ℕ) → fate_of l a ≡ undecided → Lawful l
    → current (outcome a c ∷ l) f ≡ cond (owns a (token l f)) (cond c (token l f) (current l f)) (current l f)
outcome_current a c l f h w = ap head? (outcome_versions a c l f h w) ∙ first_longer a c (token l f) (versions l f)

pub outcome_token : (a : ℕ) (c : Bool) (l : List Entry) (f : ℕ) → fate_of l a ≡ undecided → Lawful l
    → token (outcome a c ∷ l) f ≡ cond (owns a (token l f)) none (token l f)
unfolding images_of fate_of
outcome_token a c l f h w = turn_token a c (fate_of l) (effective_of l f) h (chain l f w)
