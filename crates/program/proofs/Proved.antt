-- A conversation is a run: the one theorem of this crate. Assumes nothing.
use Rattle.std.proofs.Common.{Option, Some, None}
use Prim.Native.Nat.{ℕ, ◌*◌}
use mathlib.Core.Path.{◌≡◌, refl, sym, ap, ◌∙◌, subst}
use mathlib.Core.List.{List, [], ◌∷◌, ◌++◌}
use mathlib.Core.Bool.{Bool, true, false, cond}
use native.Mathlib.Omega.{arith}
use lib.ListN.{length, take, drop}
use lib.Seq.{length-take-le}
use borrow.Author.Tests.{eq-eqb}
use Rattle.encoding.proofs.Logic.{by_test}
use Rattle.page.specs.Layout.{most_files}
use Rattle.recovery.specs.World.{sizes, is_file}
use Rattle.recovery.specs.Lent.{row_length, sizes_right}
use Rattle.recovery.proofs.Sizes.{sizes_right_lem}
use Rattle.recovery.proofs.Lookups.{is_file_lem}
use Rattle.calls.specs.Calls.{Call}
use Rattle.calls.specs.Asked.{asked}
use Rattle.commands.specs.declared.parsing.Command as command
use Rattle.commands.specs.declared.parsing.Command.{Command}
use Rattle.commands.specs.Commands.{parsed}
use Rattle.commands.proofs.EveryLine.{every_line}
use Rattle.desk.specs.Conversation.{cut_of, bare_files, bare_floor, spoken, said_to}
use Rattle.promises.specs.Runs.{Box, sheet_of, Event, after, runs, Typed, Allowed, AllAllowed, blank_box}
use Rattle.promises.proofs.bytes.Mixed.{first_ordered}
use Rattle.promises.proofs.boxes.BoxRuns.{runs_join}
use Rattle.program.specs.Program.{Memory, memory_of, turned, talked, first_memory, strikes, call_event, open_event, events_of, events_in, Keeps, AllKeep, Program}
use Rattle.program.proofs.Meets.{Met, met_off, met_sheet, AllRows, line_steps}

-- ---- each event is allowed

-- a start that was typed fits 64 bits: the parser takes no other number
abbrev pub Fits : List ℕ → Option Command → Type 0
Fits line None = Unit {0}
Fits line (Some command.Command.BareOpen) = Unit {0}
Fits line (Some (command.Command.Open files floor)) = Unit {0}
Fits line (Some (command.Command.Cut n)) = Unit {0}
Fits line (Some (command.Command.Call k from)) = Typed (asked k (drop from line))

pub start_fits : (line : List ℕ) → Fits line (parsed line)
start_fits line = every_line line (Fits line) (record {
  what = tt;
  opens_bare = tt;
  opens = λ files floor. tt;
  cuts = λ n. tt;
  begins = tt;
  reads = λ file time action. tt;
  tests = λ action. tt;
  commits = λ action. tt;
  aborts = λ action. tt;
  writes = λ file start action from fits inside text. fits;
})

module _ (files : ℕ) (m : Memory) (s : AllRows m.rows) (b : Box) where
  call_allowed : (k : Call) → Typed k → Allowed files b (call_event m k)
  call_allowed k h = by_test (Allowed files b) (strikes m k) (λ e. (h, first_ordered (cut_of m.desk))) (λ e. h)

  open_allowed : (n floor : ℕ) → (is_file most_files n ≡ true → n ≡ files) → Allowed files b (open_event m n floor)
  open_allowed n floor h = go (is_file most_files n) refl
    where
      go : (z : Bool) → is_file most_files n ≡ z → sizes_right (length (sheet_of b)) (length m.fates) (length (cond z (take (row_length * n) m.rows) [])) ≡ true
          → length (cond z (take (row_length * n) m.rows) []) ≡ row_length * files
      go true e q =
          let f = is_file_lem most_files n e in
          length-take-le (row_length * n) m.rows (omega (arith, s)) ∙ ap (λ m. row_length * m) (h e)
      go false e q = absurd (omega (arith, (sizes_right_lem (length (sheet_of b)) (length m.fates) 0 q).some_files))

  pub event_allowed : (c : Option Command) (line : List ℕ) → Fits line c → Keeps files c → AllAllowed files b (events_of m c line)
  event_allowed None line f h = tt
  event_allowed (Some command.Command.BareOpen) line f h = (open_allowed bare_files (bare_floor m.sheet) (λ e. h), tt)
  event_allowed (Some (command.Command.Open n floor)) line f h = (open_allowed n floor h, tt)
  event_allowed (Some (command.Command.Cut n)) line f h = tt
  event_allowed (Some (command.Command.Call k from)) line f h = (call_allowed (asked k (drop from line)) f, tt)

-- ---- a conversation

allowed_join : (files : ℕ) (b : Box) (es es' : List Event) → AllAllowed files b es → AllAllowed files (runs b es) es' → AllAllowed files b (es ++ es')
allowed_join files b [] es' h k = k
allowed_join files b (e ∷ es) es' h k = (h.0, allowed_join files (after b e) es es' h.1 k)

pub record Reaches (files : ℕ) (m : Memory) (b : Box) (lines : List (List ℕ)) : Type 0 where
  pub allowed : AllAllowed files b (events_in m lines)
  pub met : Met (talked m lines) (runs b (events_in m lines))
  pub rows : AllRows (talked m lines).rows

reaches : (files : ℕ) (m : Memory) (b : Box) → AllRows m.rows → Met m b → (lines : List (List ℕ)) → AllKeep files lines → Reaches files m b lines
reaches files m b s h [] k = record { allowed = tt; met = h; rows = s }
reaches files m b s h (line ∷ lines) k =
    let x = line_steps m s b h line (parsed line) in
    let e = events_of m (parsed line) line in
    let r = reaches files (memory_of (turned m line)) (runs b e) x.rows x.next lines k.1 in
    record {
      allowed = allowed_join files b e (events_in (memory_of (turned m line)) lines) (event_allowed files m s b (parsed line) line (start_fits line) k.0) r.allowed;
      met = subst (Met (talked m (line ∷ lines))) (sym (runs_join b e (events_in (memory_of (turned m line)) lines))) r.met;
      rows = r.rows;
    }

said_is : (m : Memory) (line out : List ℕ) → AllRows m.rows → said_to m.desk m.sheet m.fates m.rows line out ≡ spoken out (turned m line)
unfolding said_to
said_is m line out s = rw (eq-eqb (length m.rows) (row_length * most_files) s)

module _ (pages files : ℕ) (sized : sizes pages pages files ≡ true) (fates rows : List ℕ) (long : AllRows rows) where
  pub from_first : (lines : List (List ℕ)) → AllKeep files lines → Reaches files (first_memory pages fates rows) (blank_box pages) lines
  from_first lines k = reaches files (first_memory pages fates rows) (blank_box pages) long (met_off refl) lines k

  pub program : Program pages files fates rows
  program = record {
    is_run = λ lines k. record { sized = sized; allowed = (from_first lines k).allowed };
    same_sheet = λ lines k. met_sheet _ _ (from_first lines k).met;
    same_reply = λ lines line k. let r = from_first lines k in (line_steps _ r.rows _ r.met line (parsed line)).reply;
    same_bytes = λ lines line out k. said_is _ line out (from_first lines k).rows;
  }
