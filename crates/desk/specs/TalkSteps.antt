-- What smaller functions of the conversation leave. A reader of 01 can pass this over.
use Rattle.std.specs.Prelude.{ℕ, List, Some, None}
use Rattle.recovery.specs.declared.Done.{Done}
use Rattle.recovery.specs.Numbers.{numbers_of}
use Rattle.calls.specs.declared.asking.Call.{Call}
use Rattle.commands.specs.declared.printing.Reply as reply
use Rattle.desk.specs.declared.talking.Desk.{Desk}
use Rattle.desk.specs.declared.talking.Turn.{Turn}
use Rattle.desk.specs.declared.talking.Said.{Said}
use Rattle.desk.specs.Wording.{call_reply}
use Rattle.desk.specs.Conversation.{After, Spoken}

abbrev pub left_after : Turn → List ℕ → List ℕ → List ℕ → After
left_after t s fates rows = record { turn = t; sheet = s; fates = fates; rows = rows }

abbrev pub left_said : Said → List ℕ → List ℕ → List ℕ → List ℕ → Spoken
left_said r s fates rows out = record { said = r; sheet = s; fates = fates; rows = rows; out = out }

abbrev pub answered_turn : Desk → Call → Done → Turn
answered_turn d k r = record { reply = call_reply k (numbers_of r.answer); desk = record { files = d.files; state = Some r.state; cut = d.cut } }

abbrev pub lost_turn : ℕ → Turn
lost_turn files = record { reply = reply.Reply.Lost; desk = record { files = files; state = None; cut = None } }
