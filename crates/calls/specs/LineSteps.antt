-- The lines of the refusals that several calls test, as the code answers them. A reader of document 01 can pass this file over: the laws join it
-- to `on`.
use Rattle.std.specs.Prelude.{List, cond, ◌&&◌, ℕ, suc, ◌-◌, ◌/◌, length, eqb, leb, ⊤, Result, Ok, Err}
use Rattle.page.specs.Layout.{page_size}
use Rattle.recovery.specs.Places.{nth}
use Rattle.recovery.specs.Sheet.{sealed}
use Rattle.recovery.specs.World.{fate_in, is_blank}
use Rattle.calls.specs.Calls.{is_known}
use Rattle.recovery.specs.declared.Refusal.{Refusal}
use Rattle.recovery.specs.declared.Refusal.TheVariants.{NoAction, AlreadyDecided, NoRoom, NotBlank}

-- whether lines let a call through, or why not
abbrev pub Line : Type 0
Line = Result ⊤ Refusal

abbrev pub free : Line
free = Ok tt

-- and what the next lines say of what the first ones found
abbrev pub and_then : {A : Type 0} → Result A Refusal → (A → Line) → Line
and_then (Ok x) k = k x
and_then (Err why) k = Err why

-- line 5: an action's fate, 1 to 3
unfoldable pub known_fate : List ℕ → ℕ → ℕ → Result ℕ Refusal
known_fate fates end a = cond (leb 1 a && leb a end && is_known (fate_in fates a)) (Ok (nth 0 fates a)) (Err NoAction)

-- lines 5 and 6
unfoldable pub action_line : List ℕ → ℕ → ℕ → Line
action_line fates end a = and_then (known_fate fates end a) (λ fate. cond (eqb fate 1) free (Err AlreadyDecided))

-- lines 11 and 12 for a call that needs n pages above the end
unfoldable pub room_line : List ℕ → ℕ → ℕ → ℕ → Line
room_line s end files n = cond (leb n (length s / page_size - end)) (cond (is_blank (sealed files s (suc end))) free (Err NotBlank)) (Err NoRoom)
