-- A sheet that holds a lawful log is opened, never refused; and inspection finds nothing in it.
use mathlib.Core.Path.{◌≡◌, refl, ap, sym, subst, ◌∙◌}
use mathlib.Core.List.{List, [], ◌∷◌}
use mathlib.Core.Bool.{Bool, true, false, cond}
use Prim.Native.Nat.{ℕ, zero, suc, max, ◌≤◌, ◌<◌}
use native.Mathlib.Omega.{arith}
use lib.ListN.{length, get_or}
use lib.Dec.{eqb, leb}
use borrow.Author.Tests.{eqb-true, eqb-false, leb-true, leb-false}
use Rattle.recovery.specs.Places.{nth}
use Rattle.recovery.specs.Log.{Entry, blank, torn, bad, opening, image, outcome, Fate, unknown, undecided, committed, aborted, is_undecided, fate_of, outcome_of, start_of}
use Rattle.recovery.specs.World.{World, Result, refuse, rebuilt_row, down, sizes, is_blank, is_carried, end_of, highest_bad, fates_of, undecided_of, cold_rows, unopened, unfinished, opened}
use Rattle.recovery.specs.declared.Refusal.TheVariants.{UnfinishedMove}
use Rattle.recovery.specs.declared.Row.{Row}
use Rattle.recovery.specs.declared.Answer.TheVariants.{Refused, Opened}
use Rattle.recovery.proofs.Spots.{entry_in, entry_top, entry_down}
use Rattle.inspection.specs.Lawful.{current, token, lowest_unlawful}
use Rattle.inspection.proofs.LowestUnlawful.{lowest_none}
use Rattle.moving.proofs.FreshOpened.{nth_cold, length_cold}
use Rattle.promises.proofs.logs.Logs.{Lawful, lawful_test}
use Rattle.promises.specs.Model.{Model, newest, since, model_opened, is_pending, is_unfinished}
use Rattle.promises.specs.FromLog.{status_of, carried_of}
use Rattle.promises.proofs.worlds.LogSays.{Says, since_is, newest_since, opened_says, carried_above, carried_entry}
use Rattle.promises.proofs.worlds.Sim.{row_with, row_for, Sim}

-- a sheet of n pages holds a log: these pages, and blank ones above
pub record Holds (s : List Entry) (n : ℕ) (l : List Entry) : Type 0 where
  pub long : length s ≡ n
  pub lawful : Lawful l
  pub room : length l ≤ n
  pub log : down s (length l) ≡ l
  pub clean : (p : ℕ) → length l < p → nth blank s p ≡ blank

pub sim_holds : (w : World) (l : List Entry) (m : Model) → Sim w l m → Holds w.sheet m.pages l
sim_holds w l m s = record { long = s.long; lawful = s.lawful; room = s.room; log = rw (← s.ends) s.log; clean = λ p h. s.clean p (omega (arith, s.ends)) }

-- the end of a sheet is where its log ends
pub top_solid : (l : List Entry) → Lawful l → 1 ≤ length l → is_blank (entry_in l (length l)) ≡ false
top_solid [] w h = absurd (omega arith)
top_solid (blank ∷ l) w h = absurd w.0
top_solid (torn ∷ l) w h = rw (entry_top torn l)
top_solid (bad ∷ l) w h = absurd w.0
top_solid (opening k ∷ l) w h = rw (entry_top (opening k) l)
top_solid (image i ∷ l) w h = rw (entry_top (image i) l)
top_solid (outcome a c ∷ l) w h = rw (entry_top (outcome a c) l)

end_at : (s : List Entry) (n e : ℕ) → e ≤ n → (1 ≤ e → is_blank (nth blank s e) ≡ false) → ((p : ℕ) → e < p → nth blank s p ≡ blank) → end_of s n ≡ e
unfolding end_of
end_at s zero e h k c = omega arith
end_at s (suc p) e h k c = go (eqb e (suc p)) refl (λ l. end_at s p e l k c)
  where
    go : (b : Bool) → eqb e (suc p) ≡ b → (e ≤ p → end_of s p ≡ e) → cond (is_blank (get_or s p blank)) (end_of s p) (suc p) ≡ e
    go true q r = let z : e ≡ suc p = eqb-true e (suc p) q in
        let y : is_blank (get_or s p blank) ≡ false = rw z at (k (omega arith)) in rw y (sym z)
    go false q r = let z : e < suc p = omega (arith, eqb-false e (suc p) q) in rw (c (suc p) z) (r (omega arith))

not_bad : (l : List Entry) → Lawful l → highest_bad l ≡ 0
unfolding highest_bad
not_bad [] w = refl
not_bad (blank ∷ l) w = absurd w.0
not_bad (torn ∷ l) w = not_bad l w.1
not_bad (bad ∷ l) w = absurd w.0
not_bad (opening k ∷ l) w = not_bad l w.1
not_bad (image i ∷ l) w = not_bad l w.1
not_bad (outcome a c ∷ l) w = not_bad l w.1

-- the end is found
pub holds_end : (s : List Entry) (n : ℕ) (l : List Entry) → Holds s n l → end_of s (length s) ≡ length l
holds_end s n l h = end_at s (length s) (length l) (rw h.long h.room)
    (λ e. let a = entry_down s (length l) (length l) (omega arith) in
    rw (← a, h.log) (top_solid l h.lawful e)) h.clean

-- and inspection finds nothing
pub holds_lawful : (s : List Entry) (n : ℕ) (l : List Entry) → Holds s n l → lowest_unlawful (down s (end_of s (length s))) ≡ 0
holds_lawful s n l h = rw (holds_end s n l h, h.log) (lowest_none l (lawful_test l h.lawful))

pending_test : (x : Fate) (place : ℕ) → is_pending (status_of x place) ≡ is_undecided x
pending_test unknown place = refl
pending_test undecided place = refl
pending_test committed place = refl
pending_test aborted place = refl

-- an opening of a sheet that holds a log is not refused, but where a move onto it is not finished, and stands for the model that is opened
module _ (s : List Entry) (l : List Entry) (m : Model) (h : Holds s m.pages l) (y : Says l m) (fits : sizes m.pages m.pages m.files ≡ true) (floor : ℕ) where
  cold_row : (f : ℕ) → rebuilt_row l (fate_of l) f ≡ row_for l ((model_opened m floor).object f) f
  cold_row f = λ i. row_with l f (c i) (t i)
    where
      c : start_of (current l f) ≡ max (since (newest (m.object f).history)) 0
      c = omega (arith, newest_since l m y f)

      t : start_of (token l f) ≡ max (since (m.object f).token) 0
      t = omega (arith, ap since (y.token f) ∙ since_is (token l f))

  abbrev begun : World
  begun = record { sheet = s; fates = fates_of m.pages l; rows = cold_rows m.files; end = length l; floor = floor; undecided = undecided_of (fates_of m.pages l) }

  started : Sim begun l (model_opened m floor)
  started = record {
    says = opened_says l m y floor;
    lawful = h.lawful;
    room = h.room;
    long = h.long;
    files = length_cold m.files;
    fits = fits;
    ends = refl;
    log = h.log;
    clean = h.clean;
    fates = refl;
    undecided = sym y.undecided;
    floor = refl;
    rows = λ f q. rw (nth_cold m.files f) (cold_row f);
  }

  pub record Started (r : Result) : Type 0 where
    pub answer : r.0 ≡ Opened m.used m.undecided
    pub after : Sim r.1 l (model_opened m floor)

  first_is : carried_of l 1 ≡ is_carried (nth blank s 1)
  first_is = go (leb 1 (length l)) refl
    where
      go : (b : Bool) → leb 1 (length l) ≡ b → carried_of l 1 ≡ is_carried (nth blank s 1)
      go true e = carried_entry l 1 ∙ ap is_carried (ap (λ l. entry_in l 1) (sym h.log) ∙ entry_down s (length l) 1 (leb-true 1 (length l) e))
      go false e =
          let k : length l < 1 = leb-false 1 (length l) e in
          carried_above l 1 k ∙ ap is_carried (sym (h.clean 1 k))

  unfinished_is : unfinished s (length l) ≡ is_unfinished m
  unfolding unfinished
  unfinished_is = rw (h.log, y.carried 1, first_is, y.status 1, pending_test (fate_of l 1) (outcome_of l 1))

  module _ (fs : List ℕ) (rs : List Row) (a : length fs ≡ m.pages) (b : length rs ≡ m.files) where
    abbrev by_unfinished : Bool → Result
    by_unfinished u = cond u (refuse UnfinishedMove 0 (unopened s fs rs)) (Opened (length l) (undecided_of (fates_of m.pages l)), begun)

    open_by_lem : opened s fs rs floor ≡ by_unfinished (is_unfinished m)
    unfolding opened
    open_by_lem = rw (a, b, holds_end s m.pages l h, h.log, not_bad l h.lawful, unfinished_is) (rw (h.long, fits))

    pub sim_open : is_unfinished m ≡ false → Started (opened s fs rs floor)
    sim_open e = subst Started (sym (open_by_lem ∙ ap by_unfinished e)) (record { answer = λ i. Opened (sym y.used i) (sym y.undecided i); after = started })

    pub not_finished : is_unfinished m ≡ true → (opened s fs rs floor).0 ≡ Refused UnfinishedMove 0
    not_finished e = ap (λ (r : Result). r.0) (open_by_lem ∙ ap by_unfinished e)
