-- A row that was read: its ends are at least the times. A reader of document 01 can pass this file over: `Calls.read_current` and `read_token` say it.
use Rattle.std.specs.Prelude.{ℕ, max}
use Rattle.recovery.specs.declared.Row.{Row}

abbrev pub raised : Row → ℕ → ℕ → Row
raised r current token = record {
  mark = r.mark;
  current = r.current;
  currentend = max r.currentend current;
  token = r.token;
  tokenend = max r.tokenend token;
  tokenaction = r.tokenaction;
}
