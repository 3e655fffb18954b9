-- Boxes that a run reaches. Each stands for a log and a state of the object model: its bytes decode to the log, the log says what the
-- model has, and while the box is on its fates and rows say so too.
use Prim.Native.Nat.{ℕ, zero, suc, ◌*◌, ◌/◌, ◌%◌, ◌≤◌, ◌<◌}
use mathlib.Core.Path.{◌≡◌, refl, sym, ap, ◌∙◌}
use mathlib.Core.List.{List}
use mathlib.Core.Bool.{Bool, true, false}
use native.Mathlib.Omega.{arith}
use lib.ListN.{length}
use lib.Dec.{eqb, leb}
use borrow.Author.Tests.{leb-true, leb-false}
use Rattle.encoding.proofs.Logic.{and_true}
use Rattle.page.specs.Layout.{page_size, most_places, most_files}
use Rattle.page.specs.Answers.{in_bounds, tested}
use Rattle.recovery.specs.Places.{nth}
use Rattle.recovery.specs.Log.{Entry, blank, bad}
use Rattle.recovery.specs.Sheet.{page_bytes, entry_of, decoded, seal, sealed, pages}
use Rattle.recovery.specs.World.{World, sizes}
use Rattle.recovery.specs.Lent.{Left, row_length, rows_of, whole, sizes_right}
use Rattle.recovery.proofs.Pages.{page_at_place, test_out}
use Rattle.recovery.proofs.Spots.{entry_in, entry_down}
use Rattle.calls.specs.Calls.{Call, call}
use Rattle.calls.specs.Leaves.{lower, call_leaves}
use Rattle.promises.specs.Runs.{Box, on, off, sheet_of, call_on}
use Rattle.promises.specs.Model.{Model, model_call}
use Rattle.promises.proofs.worlds.LogSays.{Says}
use Rattle.promises.proofs.worlds.Sim.{Sim, Agrees}
use Rattle.promises.proofs.worlds.SimCalls.{sim_call}
use Rattle.promises.proofs.worlds.Openings.{Holds}

-- ---- what the sizes say

pub record Bounds (pages files : ℕ) : Type 0 where
  pub some_pages : 1 ≤ pages
  pub most_pages : pages ≤ most_places
  pub some_files : 1 ≤ files
  pub most_files_lem : files ≤ most_files

pub bounds : (n files : ℕ) → sizes n n files ≡ true → Bounds n files
bounds n files h =
    let a = and_true _ (leb files most_files) h in
    let b = and_true _ (leb 1 files) a.0 in
    let c = and_true _ (eqb n n) b.0 in
    let d = and_true (leb 1 n) (leb n most_places) c.0 in
    record { some_pages = leb-true 1 n d.0; most_pages = leb-true n most_places d.1; some_files = leb-true 1 files b.1; most_files_lem = leb-true files most_files a.1 }

pub sizes_are : (n files : ℕ) (fates rows : List ℕ) → sizes n n files ≡ true → length fates ≡ n → length rows ≡ row_length * files → sizes_right (page_size * n) (length fates) (length rows) ≡ true
unfolding sizes_right
sizes_are n files fates rows sz f r =
    let a : (page_size * n) % page_size ≡ 0 = omega arith in
    let b : length rows % row_length ≡ 0 = omega arith in
    let c : (page_size * n) / page_size ≡ n = omega arith in
    let d : length rows / row_length ≡ files = omega arith in
    rw (a, b, c, d, f) sz

abbrev pub is_on : Box → Bool
is_on (on m) = true
is_on (off s) = false

-- line 1 lets an opening pass
abbrev pub is_right : ℕ → List ℕ → List ℕ → Bool
is_right n fates rows = sizes_right (page_size * n) (length fates) (length rows)

-- ---- a box, its log and its model

module _ (n files : ℕ) where
  abbrev pub world_in : Left → World
  world_in m = record { sheet = pages files n m.sheet; fates = m.fates; rows = rows_of m.rows; end = m.state.end; floor = m.state.floor; undecided = m.state.undecided }

  -- a box that is off has its sheet alone
  abbrev pub Stands : Box → List Entry → Model → Type 0
  Stands (on m) l x = Sim (world_in m) l x × (length m.rows ≡ row_length * files)
  Stands (off s) l x = Unit {0}

  pub record At (b : Box) (l : List Entry) (x : Model) : Type 0 where
    pub sized : sizes n n files ≡ true
    pub long : length (sheet_of b) ≡ page_size * n
    pub pages_are : x.pages ≡ n
    pub files_are : x.files ≡ files
    pub holds : Holds (pages files n (sheet_of b)) n l
    pub says : Says l x
    pub stands : Stands b l x

  pub record Reached (b : Box) : Type 0 where
    pub log : List Entry
    pub model : Model
    pub at : At b log model

  -- a box that is on, in its parts
  module _ (m : Left) (r : Reached (on m)) where
    pub sim : Sim (world_in m) r.log r.model
    sim = r.at.stands.0

    pub whole_is : whole (length m.sheet) (length m.rows) ≡ true
    whole_is =
        let x : length m.sheet % page_size ≡ 0 = omega (arith, r.at.long) in
        let y : length m.rows % row_length ≡ 0 = omega (arith, r.at.stands.1) in
        rw (x, y)

    pub call_is : (k : Call) → call_on m k ≡ lower m.sheet m.state.end (call (world_in m) k)
    unfolding call_leaves
    call_is k =
        let a : length m.sheet / page_size ≡ n = omega (arith, r.at.long) in
        let b : length m.rows / row_length ≡ files = omega (arith, r.at.stands.1) in
        rw (whole_is, a, b)

    -- a call of it, of its world and of its model
    abbrev pub agrees : (k : Call) → Agrees r.model.files k r.log (call (world_in m) k) (model_call r.model k)
    agrees k = sim_call (world_in m) r.log r.model sim k

    pub world_says : (k : Call) → (call_on m k).answer ≡ (call (world_in m) k).0
    world_says k = ap (λ x. x.answer) (call_is k)

    pub model_says : (k : Call) → (call_on m k).answer ≡ (model_call r.model k).0
    model_says k = world_says k ∙ (agrees k).answer

    pub end_is : m.state.end ≡ length r.log
    end_is = sim.ends

  -- ---- the pages of a box

  pub page_in_lem : (s : List ℕ) (p : ℕ) → 1 ≤ p → p ≤ n → nth blank (pages files n s) p ≡ sealed files s p
  page_in_lem s p h k = page_at_place files n s p h k

  -- a page that is not bad lies in the sheet
  pub page_lies : (s : List ℕ) (p : ℕ) (g : Entry) → length s ≡ page_size * n → (bad ≡ g → ⊥) → sealed files s p ≡ g → (1 ≤ p) × (p ≤ n)
  unfolding sealed decoded tested in_bounds
  page_lies s zero g l h e = absurd (h e)
  page_lies s (suc q) g l h e = go (leb (suc q) n) refl
    where
      go : (b : Bool) → leb (suc q) n ≡ b → (1 ≤ suc q) × (suc q ≤ n)
      go true k = (omega arith, leb-true (suc q) n k)
      go false k = absurd (h (ap (λ u. seal (decoded files s) (entry_of (page_bytes s (suc q)) u)) (test_out s (suc q) files (λ a b. omega (arith, leb-false (suc q) n k))) ∙ e))

  -- a page of the log is the box's
  pub log_page : (b : Box) (r : Reached b) (p : ℕ) → 1 ≤ p → p ≤ length r.log → sealed files (sheet_of b) p ≡ entry_in r.log p
  log_page b r p low high =
      let o = r.at.holds in
      sym (page_in_lem (sheet_of b) p low (omega (arith, o.room))) ∙ sym (entry_down (pages files n (sheet_of b)) (length r.log) p high) ∙ ap (λ l. entry_in l p) o.log

  -- above it all is blank
  pub page_above : (b : Box) (r : Reached b) (p : ℕ) → length r.log < p → p ≤ n → sealed files (sheet_of b) p ≡ blank
  page_above b r p low high = sym (page_in_lem (sheet_of b) p (omega arith) high) ∙ r.at.holds.clean p low
