-- A lawful log, as a type and as the test of inspection; and what a page that fits does to the fates.
use mathlib.Core.Path.{◌≡◌, refl}
use mathlib.Core.List.{List, [], ◌∷◌}
use mathlib.Core.Bool.{Bool, true, false, false≢true}
use Prim.Native.Nat.{ℕ, suc, ◌≤◌, ◌<◌}
use native.Mathlib.Omega.{arith}
use lib.ListN.{length}
use lib.Dec.{eqb}
use borrow.Author.Tests.{eqb-true, ltb-true, eq-eqb, lt-ltb}
use Rattle.encoding.proofs.Logic.{by_test, and_true}
use Rattle.recovery.specs.Log.{Image, Entry, blank, torn, bad, opening, image, outcome, Fate, unknown, undecided, committed, aborted, verdict, fate_of, place_of, start_of}
use Rattle.recovery.specs.Sheet.{is_opening}
use Rattle.recovery.specs.World.{fate_number}
use Rattle.recovery.proofs.LogFates.{undecided_is}
use Rattle.recovery.proofs.Spots.{entry_in}
use Rattle.inspection.specs.Lawful.{current, token, is_free_for, fits_below, lawful}
use Rattle.inspection.proofs.LowestUnlawful.{lawful_parts, lawful_more, lawful_none}
use Rattle.inspection.proofs.LawfulLogs.{fate_place, fate_opens}
use Rattle.inspection.proofs.LawfulLogs as lawfulLogs

-- ---- lawful, as a type: a page fits the log below it, and so does every page of a lawful log

pub record ImageFits (i : Image) (l : List Entry) : Type 0 where
  pub live : fate_of l i.action ≡ undecided
  pub free : is_free_for i.action (token l i.file) ≡ true
  pub links : i.link ≡ place_of (current l i.file)
  pub later : start_of (current l i.file) < i.start

abbrev pub Fits : Entry → List Entry → Type 0
Fits blank l = ⊥
Fits torn l = Unit {0}
Fits bad l = ⊥
Fits (opening k) l = Unit {0}
Fits (image i) l = ImageFits i l
Fits (outcome a c) l = fate_of l a ≡ undecided

abbrev pub Lawful : List Entry → Type 0
Lawful [] = Unit {0}
Lawful (g ∷ l) = Fits g l × Lawful l

-- ---- and as the test of inspection: the two say the same

pub fits_test : (g : Entry) (l : List Entry) → Fits g l → fits_below g l ≡ true
fits_test blank l h = absurd h
fits_test torn l h = refl
fits_test bad l h = absurd h
fits_test (opening k) l h = refl
fits_test (image i) l h =
    rw (h.live, h.free, eq-eqb i.link (place_of (current l i.file)) h.links, lt-ltb (start_of (current l i.file)) i.start h.later)
fits_test (outcome a c) l h = rw h

pub test_fits : (g : Entry) (l : List Entry) → fits_below g l ≡ true → Fits g l
test_fits blank l h = absurd (false≢true h)
test_fits torn l h = tt
test_fits bad l h = absurd (false≢true h)
test_fits (opening k) l h = tt
test_fits (image i) l h =
    let a = and_true _ _ h in
    let b = and_true _ _ a.0 in
    let c = and_true _ _ b.0 in
    record {
      live = undecided_is (fate_of l i.action) c.0;
      free = c.1;
      links = eqb-true i.link (place_of (current l i.file)) b.1;
      later = ltb-true (start_of (current l i.file)) i.start a.1;
    }
test_fits (outcome a c) l h = undecided_is (fate_of l a) h

pub lawful_test : (l : List Entry) → Lawful l → lawful l ≡ true
lawful_test [] w = lawful_none
lawful_test (g ∷ l) w = lawful_more g l (fits_test g l w.0) (lawful_test l w.1)

pub test_lawful : (l : List Entry) → lawful l ≡ true → Lawful l
test_lawful [] w = tt
test_lawful (g ∷ l) w =
    let p = lawful_parts g l w in
    (test_fits g l p.0, test_lawful l p.1)

-- ---- fates

abbrev pub Known : Fate → Type 0
Known x = 1 ≤ fate_number x

abbrev pub Decided : Fate → Type 0
Decided x = 2 ≤ fate_number x

-- decided fates stay
abbrev pub Keeps : (ℕ → Fate) → (ℕ → Fate) → Type 0
Keeps φ ψ = (a : ℕ) → Decided (φ a) → ψ a ≡ φ a

pub not_undecided : {A : Type 0} (x : Fate) → Decided x → x ≡ undecided → A
not_undecided x h e = let z : 2 ≤ 1 = rw e at h in absurd (omega arith)

pub not_unknown : {A : Type 0} (x : Fate) → Known x → x ≡ unknown → A
not_unknown x h e = let z : 1 ≤ 0 = rw e at h in absurd (omega arith)

-- a known action has a place in the log: none is known at place 0 or above the log
pub known_place : (l : List Entry) (a : ℕ) → Lawful l → Known (fate_of l a) → (1 ≤ a) × (a ≤ length l)
known_place l a w h = fate_place l a (lawful_test l w) h

-- which is that of its opening
pub opening_at : (l : List Entry) (a : ℕ) → Lawful l → Known (fate_of l a) → is_opening (entry_in l a) ≡ true
opening_at l a w h = fate_opens l a (lawful_test l w) h

none_known : (x : Fate) → (Known x → ⊥) → x ≡ unknown
none_known unknown h = refl
none_known undecided h = absurd (h (omega arith))
none_known committed h = absurd (h (omega arith))
none_known aborted h = absurd (h (omega arith))

pub fate_above : (l : List Entry) (a : ℕ) → Lawful l → length l < a → fate_of l a ≡ unknown
fate_above l a w h = none_known (fate_of l a) (λ k. omega (arith, (known_place l a w k).1))

pub fate_zero : (l : List Entry) → Lawful l → fate_of l 0 ≡ unknown
fate_zero l w = none_known (fate_of l 0) (λ k. omega (arith, (known_place l 0 w k).0))

-- an append that fits keeps what is decided, and knows what was known
pub fate_keeps : (g : Entry) (l : List Entry) → Fits g l → Lawful l → Keeps (fate_of l) (fate_of (g ∷ l))
fate_keeps g l h w a d = lawfulLogs.fate_keeps g l (fits_test g l h) (lawful_test l w) a d

pub verdict_decided : (c : Bool) → Decided (verdict c)
verdict_decided true = omega arith
verdict_decided false = omega arith

pub fate_knows : (g : Entry) (l : List Entry) (a : ℕ) → Known (fate_of l a) → Known (fate_of (g ∷ l) a)
unfolding fate_of
fate_knows blank l a h = h
fate_knows torn l a h = h
fate_knows bad l a h = h
fate_knows (opening k) l a h = by_test Known (eqb a (suc (length l))) (λ e. omega arith) (λ e. h)
fate_knows (image i) l a h = h
fate_knows (outcome b c) l a h = by_test Known (eqb a b) (λ e. omega (arith, verdict_decided c)) (λ e. h)
