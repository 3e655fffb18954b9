-- What is read was typed. Assumes nothing.
use Rattle.std.proofs.Common as prelude
use Rattle.std.proofs.Common.{Some, None}
use Prim.Native.Nat.{ℕ, ◌*◌}
use mathlib.Core.Path.{◌≡◌, refl, sym, ap, ◌∙◌, subst}
use mathlib.Core.List.{List, [], ◌∷◌, ◌++◌}
use mathlib.Core.Bool.{Bool, true, false, cond}
use mathlib.Core.Option.{Option, some, none}
use lib.ListN.{length, take, drop}
use Rattle.encoding.proofs.Logic.{clash}
use Rattle.page.specs.Layout.{most_files}
use Rattle.page.specs.Answers.{value_in}
use Rattle.recovery.specs.Log.{blank, image}
use Rattle.recovery.specs.Sheet.{page_bytes, sealed}
use Rattle.recovery.specs.World.{sizes}
use Rattle.recovery.specs.Lent.{row_length}
use Rattle.recovery.specs.Numbers.{numbers_of}
use Rattle.recovery.specs.declared.Answer as answers
use Rattle.recovery.specs.declared.Answer.{Answer}
use Rattle.calls.specs.declared.asking.Call as code
use Rattle.calls.specs.Asked.{asked}
use Rattle.calls.specs.Calls as call
use Rattle.calls.specs.Calls.{Call}
use Rattle.commands.specs.declared.parsing.Command as command
use Rattle.commands.specs.declared.parsing.Command.{Command}
use Rattle.commands.specs.declared.printing.Reply as reply
use Rattle.commands.specs.Commands.{parsed}
use Rattle.desk.specs.Wording.{call_reply, shown}
use Rattle.desk.specs.Conversation.{After, cut_of, bare_files, bare_floor, conversed}
use Rattle.calls.specs.Cuts.{first_bytes}
use Rattle.promises.specs.Runs.{Box, sheet_of, Event, calls, cuts, answer_to, numbered, after, runs, blank_box, Run}
use Rattle.promises.proofs.boxes.BoxRuns.{pages_on, reached}
use Rattle.promises.proofs.boxes.BoxKept.{box_kept}
use Rattle.promises.proofs.boxes.BoxShown.{box_shows}
use Rattle.promises.specs.Promises.{IsWhole, WasWritten}
use Rattle.promises.proofs.answers.Heard.{hears}
use Rattle.promises.proofs.Proved.{promised}
use Rattle.program.specs.Program.{Memory, memory_of, turned, talked, first_memory, strikes, call_event, open_event, events_of, events_in, in_words, AllKeep}
use Rattle.program.specs.Typing.{WasTyped, text_of, ReadsTyped}
use Rattle.program.proofs.Meets.{met_sheet, line_steps}
use Rattle.program.proofs.Proved.{Reaches, from_first}

-- ---- the line of an event

record LineOf (lines : List (List ℕ)) (e : Event) : Type 0 where
  pub before : List (List ℕ)
  pub line : List ℕ
  pub rest : List (List ℕ)
  pub parts : lines ≡ before ++ line ∷ rest
  pub memory : Memory
  pub is : events_of memory (parsed line) line ≡ e ∷ []

line_of : (m : Memory) (lines : List (List ℕ)) (before rest : List Event) (e : Event) → events_in m lines ≡ before ++ e ∷ rest → LineOf lines e
line_of m [] [] rest e h = clash cc
line_of m [] (x ∷ before) rest e h = clash cc
line_of m (line ∷ lines) before rest e h = go (parsed line) refl h (line_of (memory_of (turned m line)) lines)
  where
    later : LineOf lines e → LineOf (line ∷ lines) e
    later r = record { before = line ∷ r.before; line = r.line; rest = r.rest; parts = ap (λ l. line ∷ l) r.parts; memory = r.memory; is = r.is }

    here : (x : Event) → events_of m (parsed line) line ≡ x ∷ [] → (before : List Event) → x ∷ events_in (memory_of (turned m line)) lines ≡ before ++ e ∷ rest
        → ((before rest : List Event) (e : Event) → events_in (memory_of (turned m line)) lines ≡ before ++ e ∷ rest → LineOf lines e) → LineOf (line ∷ lines) e
    here x q [] h r = let z : x ≡ e = cc in record { before = []; line = line; rest = lines; parts = refl; memory = m; is = q ∙ ap (λ y. y ∷ []) z }
    here x q (y ∷ before) h r = later (r before rest e cc)

    go : (c : prelude.Option Command) → events_of m (parsed line) line ≡ events_of m c line → events_of m c line ++ events_in (memory_of (turned m line)) lines ≡ before ++ e ∷ rest
        → ((before rest : List Event) (e : Event) → events_in (memory_of (turned m line)) lines ≡ before ++ e ∷ rest → LineOf lines e) → LineOf (line ∷ lines) e
    go None q h r = later (r before rest e h)
    go (Some command.Command.BareOpen) q h r = here (open_event m bare_files (bare_floor m.sheet)) q before h r
    go (Some (command.Command.Open files floor)) q h r = here (open_event m files floor) q before h r
    go (Some (command.Command.Cut n)) q h r = later (r before rest e h)
    go (Some (command.Command.Call k from)) q h r = here (call_event m (asked k (drop from line))) q before h r

-- ---- the write of an event

record IsWrite (c : prelude.Option Command) (line : List ℕ) (file start action : ℕ) (value : List ℕ) : Type 0 where
  pub from : ℕ
  pub is : c ≡ Some (command.Command.Call (code.Call.Write file start action) from)
  pub text : drop from line ≡ value

-- the call of an event whose page is stored whole
whole_call : (m : Memory) (c k : Call) (e : Event) → call_event m c ≡ e → IsWhole k e → c ≡ k
whole_call m c k e h w = go (strikes m c) (subst (IsWhole k) (sym h) w)
  where
    go : (b : Bool) → IsWhole k (cond b (cuts c (first_bytes (cut_of m.desk))) (calls c)) → c ≡ k
    go true q = q.0
    go false q = q

one_same : {A : Type 0} {x y : A} → x ∷ [] ≡ y ∷ [] → x ≡ y
one_same e = cc

module _ (m : Memory) (line : List ℕ) (e : Event) (file start action : ℕ) (value : List ℕ) (w : IsWhole (call.write file start action value) e) where
  write_by : (k : code.Call) (from : ℕ) → asked k (drop from line) ≡ call.write file start action value → IsWrite (Some (command.Command.Call k from)) line file start action value
  write_by code.Call.Begin from q = clash cc
  write_by (code.Call.Write f s a) from q =
      let i : f ≡ file = cc in
      let j : s ≡ start = cc in
      let k : a ≡ action = cc in
      let v : drop from line ≡ value = cc in
      record { from = from; is = λ x. Some (command.Command.Call (code.Call.Write (i x) (j x) (k x)) from); text = v }
  write_by (code.Call.Read f time a) from q = clash cc
  write_by (code.Call.Test a) from q = clash cc
  write_by (code.Call.Commit a) from q = clash cc
  write_by (code.Call.Abort a) from q = clash cc

  write_of : (c : prelude.Option Command) → events_of m c line ≡ e ∷ [] → IsWrite c line file start action value
  write_of None h = clash cc
  write_of (Some command.Command.BareOpen) h = absurd (subst (IsWhole (call.write file start action value)) (sym (one_same h)) w)
  write_of (Some (command.Command.Open files floor)) h = absurd (subst (IsWhole (call.write file start action value)) (sym (one_same h)) w)
  write_of (Some (command.Command.Cut n)) h = clash cc
  write_of (Some (command.Command.Call k from)) h = write_by k from (whole_call m (asked k (drop from line)) (call.write file start action value) e (one_same h) w)

-- ---- a reply that shows a value

shown_value : (file time action place start size : ℕ) (x : Answer) → call_reply (code.Call.Read file time action) (numbers_of x) ≡ reply.Reply.Shown place start size
    → x ≡ answers.Answer.Value place start size
unfolding call_reply
shown_value f t a place start size (answers.Answer.Refused n p) h = clash cc
shown_value f t a place start size (answers.Answer.Opened n p) h = clash cc
shown_value f t a place start size (answers.Answer.Rebuilt n m o p q) h = clash cc
shown_value f t a place start size (answers.Answer.Stored p) h = clash cc
shown_value f t a place start size (answers.Answer.Value p s n) h =
    let i : p ≡ place = cc in
    let j : s ≡ start = cc in
    let k : n ≡ size = cc in
    λ x. answers.Answer.Value (i x) (j x) (k x)
shown_value f t a place start size answers.Answer.Nothing h = clash cc
shown_value f t a place start size (answers.Answer.Told n p) h = clash cc
shown_value f t a place start size (answers.Answer.Moved n) h = clash cc

module _ (m : Memory) (b : Box) (file time action place start size : ℕ) where
  abbrev k : Call
  k = call.read file time action

  abbrev words : List ℕ → reply.Reply
  words = call_reply (code.Call.Read file time action)

  -- the event was the call, and the box answered the value
  record Answered : Type 0 where
    pub event : call_event m k ≡ calls k
    pub answer : answer_to b (calls k) ≡ some (answers.Answer.Value place start size)

  was_answered : in_words words (call_event m k) (numbered (answer_to b (call_event m k))) ≡ reply.Reply.Shown place start size → Answered
  was_answered = go (strikes m k) refl
    where
      heard : call_event m k ≡ calls k → (x : Option Answer) → answer_to b (calls k) ≡ x → in_words words (calls k) (numbered x) ≡ reply.Reply.Shown place start size → Answered
      heard q none e h = clash cc
      heard q (some x) e h = record { event = q; answer = e ∙ ap some (shown_value file time action place start size x h) }

      go : (z : Bool) → strikes m k ≡ z → in_words words (cond z (cuts k (first_bytes (cut_of m.desk))) (calls k)) (numbered (answer_to b (cond z (cuts k (first_bytes (cut_of m.desk))) (calls k)))) ≡ reply.Reply.Shown place start size → Answered
      go true e h = clash cc
      go false e h = heard (ap (λ z. cond z (cuts k (first_bytes (cut_of m.desk))) (calls k)) e) (answer_to b (calls k)) refl h

-- ---- so the text was typed

module _ (pages files : ℕ) (sized : sizes pages pages files ≡ true) (fates rows : List ℕ) (long : length rows ≡ row_length * most_files) (lines : List (List ℕ)) (keep : AllKeep files lines) where
  abbrev m₀ : Memory
  m₀ = first_memory pages fates rows

  abbrev m : Memory
  m = talked m₀ lines

  abbrev es : List Event
  es = events_in m₀ lines

  abbrev b : Box
  b = runs (blank_box pages) es

  -- the pages of the sheet in use
  abbrev n : ℕ
  n = pages_on pages (blank_box pages) es

  r : Reaches files m₀ (blank_box pages) lines
  r = from_first pages files sized fates rows long lines keep

  run : Run pages files es
  run = record { sized = sized; allowed = r.allowed }

  module _ (line : List ℕ) (file time action from place start size : ℕ) where
    abbrev c : prelude.Option Command
    c = Some (command.Command.Call (code.Call.Read file time action) from)

    abbrev x : After
    x = conversed m.desk m.sheet m.fates m.rows c line

    module _ (h : x.turn.reply ≡ reply.Reply.Shown place start size) where
      a : Answered m b file time action place start size
      a = was_answered m b file time action place start size (sym (line_steps m r.rows b r.met line c).reply ∙ h)

      written : WasWritten pages files es file action place start size
      written = (promised pages files).was_written es file time action place start size run (hears b (calls (call.read file time action)) (answers.Answer.Value place start size) a.answer)

      sheet_is : x.sheet ≡ sheet_of (after b (calls (call.read file time action)))
      sheet_is = met_sheet (memory_of x) (runs b (events_of m c line)) (line_steps m r.rows b r.met line c).next ∙ ap (λ e. sheet_of (after b e)) a.event

      not_blank : sealed files (sheet_of b) place ≡ blank → ⊥
      not_blank q =
          let v = box_shows n files b (reached pages files es run) file time action place start size a.answer in
          let z : image v.seen ≡ blank = sym v.effective.here ∙ q in clash cc

      page_is : page_bytes x.sheet place ≡ page_bytes (sheet_of b) place
      page_is = ap (λ s. page_bytes s place) sheet_is ∙ box_kept n files b (reached pages files es run) (calls (call.read file time action) ∷ []) (tt, tt) refl place not_blank

      text_is : text_of x ≡ written.value
      text_is = ap (λ y. shown y x.sheet) h ∙ ap (λ p. take size (value_in p)) page_is ∙ written.bytes

      typed : WasTyped lines file start (text_of x)
      typed =
          let d = written.wrote in
          let o = line_of m₀ lines d.before d.rest d.event d.parts in
          let w = write_of o.memory o.line d.event file start written.writer written.value d.whole (parsed o.line) o.is in
          record { before = o.before; line = o.line; rest = o.rest; parts = o.parts; action = written.writer; from = w.from; is = w.is; text_is = w.text ∙ sym text_is }

pub reads_typed : (pages files : ℕ) → sizes pages pages files ≡ true → (fates rows : List ℕ) → length rows ≡ row_length * most_files → ReadsTyped pages files fates rows
reads_typed pages files s fates rows long lines line file time action from place start size keep e =
    let u : Memory = talked (first_memory pages fates rows) lines in
    subst (λ c. (conversed u.desk u.sheet u.fates u.rows c line).turn.reply ≡ reply.Reply.Shown place start size
    → WasTyped lines file start (text_of (conversed u.desk u.sheet u.fates u.rows c line))) (sym e)
    (typed pages files s fates rows long lines keep line file time action from place start size)
