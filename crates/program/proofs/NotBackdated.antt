-- From a bare `open` on nothing is backdated: its floor stays until the next opening, and the next bare one finds the same images. Shuts out a
-- program whose floor is 0 after a cut, or goes by the committed images alone, or is passed over while a cut waits. Assumes nothing.
use Rattle.std.proofs.Common.{Option, Some, None, is_some, unwrap_or}
use Prim.Native.Nat.{ℕ, ◌*◌, ◌≤◌, ◌<◌}
use mathlib.Core.Path.{◌≡◌, refl, sym, ap, ◌∙◌, subst}
use mathlib.Core.List.{List, [], ◌∷◌, ◌++◌}
use mathlib.Core.Bool.{Bool, true, false, cond, false≢true}
use mathlib.Core.Logic.{◌⊎◌, inl, inr}
use native.Mathlib.Omega.{arith}
use lib.ListN.{take, drop}
use Rattle.encoding.proofs.Logic.{by_test, and_true, clash}
use Rattle.page.specs.Layout.{most_files}
use Rattle.recovery.specs.declared.Answer.TheVariants.{Stored}
use Rattle.recovery.specs.declared.State.{State}
use Rattle.recovery.specs.Log.{Image, image}
use Rattle.recovery.specs.Sheet.{sealed}
use Rattle.recovery.specs.Numbers.{is_refused}
use Rattle.recovery.specs.World.{sizes, is_file}
use Rattle.recovery.specs.Lent.{Left, row_length, closed, open_leaves}
use Rattle.recovery.proofs.HighestStart.{none_later}
use Rattle.recovery.proofs.Refused.{opened_floor}
use Rattle.calls.specs.declared.asking.Call as code
use Rattle.calls.specs.Calls.{Call, begin, write, read, test, decide, rebuild}
use Rattle.calls.specs.Asked.{asked}
use Rattle.calls.specs.Leaves.{call_leaves}
use Rattle.calls.proofs.Floor.{floor_stays, above_floor}
use Rattle.commands.specs.declared.parsing.Command as command
use Rattle.commands.specs.declared.parsing.Command.{Command}
use Rattle.commands.specs.declared.printing.Reply as reply
use Rattle.commands.specs.Commands.{parsed}
use Rattle.desk.specs.declared.talking.Desk.{Desk}
use Rattle.desk.specs.Conversation.{After, state_of, answered, lost, is_struck, acted, acted_by, opened_for, lending, replied, is_open, called_for, started_for, bare_files, bare_floor, conversed}
use Rattle.promises.specs.Runs.{Box, sheet_of, Event, is_moved, moved_in, call_on, after, runs, Allowed, AllAllowed, blank_box}
use Rattle.promises.specs.Promises.{IsPageOf}
use Rattle.promises.proofs.logs.Outcomes.{Lies}
use Rattle.promises.proofs.boxes.Boxes.{Reached}
use Rattle.promises.proofs.boxes.BoxRuns.{pages_after, pages_on, reached_next, reached_on, reached}
use Rattle.promises.proofs.boxes.Found.{some_is, not_heard}
use Rattle.promises.proofs.boxes.Extends.{stays}
use Rattle.promises.proofs.boxes.BoxPages.{solid_image, page_lies_in, lies_page}
use Rattle.promises.proofs.answers.Origins.{Adds, from_event}
use Rattle.program.specs.Program.{Memory, memory_of, turned, talked, first_memory, strikes, call_event, open_event, events_of, Keeps, AllLines, memory_after, run_of, box_now}
use Rattle.program.specs.Backdating.{IsUnnumbered, NothingBackdated}
use Rattle.program.proofs.Meets.{Met, met_on, met_off, left_for, met_sheet, AllRows, line_steps}
use Rattle.program.proofs.Proved.{Fits, start_fits, event_allowed, from_first}

is_on_lem : (d : Desk) → is_open d ≡ true → is_some d.state ≡ true
is_on_lem d o = (and_true (is_some d.state) (is_file most_files d.files) o).0

-- what a call stores starts above the floor
late : (m : Left) (k : Call) (q : ℕ) (j : Image) → (call_on m k).answer ≡ Stored q → IsPageOf k (image j) → m.state.floor < j.start
late m begin q j e h = clash cc
late m (write file start action value) q j e h =
    let z : j.start ≡ start = cc in
    omega (arith, above_floor m.sheet m.fates m.rows m.state file start action value q e)
late m (read file time action) q j e h = absurd h
late m (test action) q j e h = absurd h
late m (decide action c) q j e h = clash cc
late m (rebuild file) q j e h = absurd h

-- ---- the floor, while there is a state, is no lower than a time

module _ (low : ℕ) where
  abbrev Above : Desk → Type 0
  Above d = is_some d.state ≡ true → low ≤ (state_of d).floor

  -- the state that an opening leaves: none if it is refused
  opened_above : (r : Bool) (x : State) → (r ≡ false → low ≤ x.floor) → is_some (cond r None (Some x)) ≡ true → low ≤ (unwrap_or (cond r None (Some x)) closed).floor
  opened_above true x f h = absurd (false≢true h)
  opened_above false x f h = f refl

  open_above : (m : Memory) (line : List ℕ) → low ≤ bare_floor m.sheet → Above (conversed m.desk m.sheet m.fates m.rows (Some command.Command.BareOpen) line).turn.desk
  unfolding started_for opened_for
  open_above m line l =
      let x : Left = open_leaves m.sheet m.fates (take (row_length * bare_files) m.rows) (bare_floor m.sheet) in
      opened_above (is_refused x.answer) x.state (λ e. omega (arith, opened_floor m.sheet m.fates (take (row_length * bare_files) m.rows) (bare_floor m.sheet) e))

  call_above : (m : Memory) (k : code.Call) (value : List ℕ) → Above m.desk → Above (called_for m.desk m.sheet m.fates m.rows k value).turn.desk
  unfolding called_for acted
  call_above m k value u =
      let rows : List ℕ = take (row_length * m.desk.files) m.rows in
      let x : Left = call_leaves m.sheet m.fates rows (state_of m.desk) (asked k value) in
      by_test (λ (y : After). Above y.turn.desk) (is_open m.desk)
      {x = lending m.rows (row_length * m.desk.files) (acted_by m.desk m.sheet k x)} {y = replied reply.Reply.Closed m.desk m.sheet m.fates m.rows}
      (λ o. by_test (λ (y : After). Above y.turn.desk) (is_struck m.desk x.state) {x = lost m.desk m.sheet x} {y = answered m.desk k x}
      (λ e h. absurd (false≢true h)) (λ e h. omega (arith, u (is_on_lem m.desk o), floor_stays m.sheet m.fates rows (state_of m.desk) (asked k value)))) (λ o. u)

  adds_late : (m : Memory) (b : Box) → Met m b → Above m.desk → (e : Event) (q : ℕ) (j : Image) → Adds b e q (image j) → low < j.start
  adds_late m b (met_on o a) u e q j h = omega (arith, u (is_on_lem m.desk o), late (left_for m a) h.by q j (some_is h.stored) h.page)
  adds_late m b (met_off o) u e q j h = not_heard h.stored

-- ---- line by line

-- no line is a move
call_stays : (b : Box) (m : Memory) (k : Call) → is_moved b (call_event m k) ≡ false
call_stays b m k = by_test (λ e. is_moved b e ≡ false) (strikes m k) (λ e. refl) (λ e. refl)

no_move : (b : Box) (m : Memory) (c : Option Command) (line : List ℕ) → moved_in b (events_of m c line) ≡ false
no_move b m None line = refl
no_move b m (Some command.Command.BareOpen) line = refl
no_move b m (Some (command.Command.Open files floor)) line = refl
no_move b m (Some (command.Command.Cut n)) line = refl
no_move b m (Some (command.Command.Call k from)) line = rw (call_stays b m (asked k (drop from line)))

module _ (first : List ℕ) (p : ℕ) (i : Image) where
  -- every image was on the first sheet too, or starts above
  abbrev Others : Box → Type 0
  Others b = (q : ℕ) (j : Image) → sealed bare_files (sheet_of b) q ≡ image j → (sealed bare_files first q ≡ image j) ⊎ (i.start < j.start)

  -- a conversation that has reached a box with the image on its sheet
  record Holds (m : Memory) : Type 0 where
    pub box : Box
    pub met : Met m box
    pub rows : AllRows m.rows
    pub pages : ℕ
    pub reached : Reached pages bare_files box
    pub here : sealed bare_files (sheet_of box) p ≡ image i
    pub others : Others box

  keeps : (c : Option Command) → IsUnnumbered c → Keeps bare_files c
  keeps None h = tt
  keeps (Some command.Command.BareOpen) h = refl
  keeps (Some (command.Command.Open files floor)) h = absurd h
  keeps (Some (command.Command.Cut n)) h = tt
  keeps (Some (command.Command.Call k from)) h = tt

  -- ---- an event, and a line of one or none

  module _ (m : Memory) (x : Holds m) where
    goes_on : (m' : Memory) (es : List Event) → AllAllowed bare_files x.box es → moved_in x.box es ≡ false → Met m' (runs x.box es) → AllRows m'.rows → Others (runs x.box es) → Holds m'
    goes_on m' es al mv h long o =
        let l = page_lies_in x.pages bare_files x.box x.reached p (image i) (solid_image i) x.here in
        record {
          box = runs x.box es;
          met = h;
          rows = long;
          pages = pages_on x.pages x.box es;
          reached = reached_on x.pages bare_files x.box x.reached es al;
          here = stays x.pages bare_files x.box x.reached es al mv p (image i) l.low l.high l.here;
          others = o;
        }

    after_event : (e : Event) → Allowed bare_files x.box e → is_moved x.box e ≡ false → ((q : ℕ) (j : Image) → Adds x.box e q (image j) → i.start < j.start) → Others (after x.box e)
    after_event e t mv f q j h =
        go (from_event x.pages bare_files x.box x.reached e mv q (image j) (solid_image j)
        (page_lies_in (pages_after x.pages x.box e) bare_files (after x.box e) (reached_next x.pages bare_files x.box x.reached e t) q (image j) (solid_image j) h))
      where
        go : Lies x.reached.log q (image j) ⊎ Adds x.box e q (image j) → (sealed bare_files first q ≡ image j) ⊎ (i.start < j.start)
        go (inl l) = x.others q j (lies_page x.pages bare_files x.box x.reached q (image j) l)
        go (inr a) = inr (f q j a)

    -- what a line leaves
    module _ (line : List ℕ) where
      abbrev next : Option Command → Memory
      next c = memory_of (conversed m.desk m.sheet m.fates m.rows c line)

      stepped : (c : Option Command) → AllAllowed bare_files x.box (events_of m c line) → Others (runs x.box (events_of m c line)) → Holds (next c)
      stepped c al o = let y = line_steps m x.rows x.box x.met line c in goes_on (next c) (events_of m c line) al (no_move x.box m c line) y.next y.rows o

      allowed : (c : Option Command) → Fits line c → IsUnnumbered c → AllAllowed bare_files x.box (events_of m c line)
      allowed c f h = event_allowed bare_files m x.rows x.box c line f (keeps c h)

      bare_holds : Holds (next (Some command.Command.BareOpen))
      bare_holds = let al = allowed (Some command.Command.BareOpen) tt tt in stepped (Some command.Command.BareOpen) al (after_event (open_event m bare_files (bare_floor m.sheet)) al.0 refl (λ q j h. absurd h.whole))

      bare_above : Above i.start (next (Some command.Command.BareOpen)).desk
      bare_above = open_above i.start m line (none_later bare_files m.sheet p i (ap (λ s. sealed bare_files s p) (met_sheet m x.box x.met) ∙ x.here))

      line_holds : (c : Option Command) → Fits line c → IsUnnumbered c → Above i.start m.desk → Holds (next c)
      line_holds None f h u = stepped None tt x.others
      line_holds (Some command.Command.BareOpen) f h u = bare_holds
      line_holds (Some (command.Command.Open files floor)) f h u = absurd h
      line_holds (Some (command.Command.Cut n)) f h u = stepped (Some (command.Command.Cut n)) tt x.others
      line_holds (Some (command.Command.Call k from)) f h u =
          let c : Option Command = Some (command.Command.Call k from) in
          let e : Event = call_event m (asked k (drop from line)) in
          let al = allowed c f h in
          stepped c al (after_event e al.0 (call_stays x.box m (asked k (drop from line))) (adds_late i.start m x.box x.met u e))

      line_above : (c : Option Command) → IsUnnumbered c → Above i.start m.desk → Above i.start (next c).desk
      line_above None h u = u
      line_above (Some command.Command.BareOpen) h u = bare_above
      line_above (Some (command.Command.Open files floor)) h u = absurd h
      line_above (Some (command.Command.Cut n)) h u = u
      line_above (Some (command.Command.Call k from)) h u = call_above i.start m k (drop from line) u

  lines_hold : (m : Memory) (lines : List (List ℕ)) → AllLines IsUnnumbered lines → Above i.start m.desk → Holds m → Holds (talked m lines)
  lines_hold m [] h u x = x
  lines_hold m (line ∷ lines) h u x =
      lines_hold (memory_of (turned m line)) lines h.1 (line_above m x line (parsed line) h.0 u) (line_holds m x line (parsed line) (start_fits line) h.0 u)

-- ---- a conversation

talked_join : (m : Memory) (xs ys : List (List ℕ)) → talked (talked m xs) ys ≡ talked m (xs ++ ys)
talked_join m [] ys = refl
talked_join m (x ∷ xs) ys = talked_join (memory_of (turned m x)) xs ys

module _ (pages : ℕ) (sized : sizes pages pages bare_files ≡ true) (fates rows : List ℕ) (long : AllRows rows) where
  pub nothing_backdated : NothingBackdated pages fates rows
  nothing_backdated before bare later p q i j keep b none here there =
      let m : Memory = memory_after pages bare_files fates rows before in
      let r = from_first pages bare_files sized fates rows long before keep in
      let b₀ : Box = box_now pages bare_files fates rows before in
      let same : m.sheet ≡ sheet_of b₀ = met_sheet m b₀ r.met in
      let x : Holds m.sheet p i m = record {
        box = b₀;
        met = r.met;
        rows = r.rows;
        pages = pages_on pages (blank_box pages) (run_of pages bare_files fates rows before);
        reached = reached pages bare_files (run_of pages bare_files fates rows before) (record { sized = sized; allowed = r.allowed });
        here = ap (λ s. sealed bare_files s p) (sym same) ∙ here;
        others = λ q j h. inl (ap (λ s. sealed bare_files s q) same ∙ h);
      } in
      let y : Holds m.sheet p i (memory_of (turned m bare)) = subst (λ c. Holds m.sheet p i (memory_of (conversed m.desk m.sheet m.fates m.rows c bare))) (sym b) (bare_holds m.sheet p i m x bare) in
      let u : Above i.start (turned m bare).turn.desk = subst (λ c. Above i.start (conversed m.desk m.sheet m.fates m.rows c bare).turn.desk) (sym b) (bare_above m.sheet p i m x bare) in
      let z = lines_hold m.sheet p i (memory_of (turned m bare)) later none u y in
      z.others q j (ap (λ s. sealed bare_files s q) (sym (met_sheet _ z.box z.met) ∙ ap (λ (v : Memory). v.sheet) (talked_join (first_memory pages fates rows) before (bare ∷ later))) ∙ there)
