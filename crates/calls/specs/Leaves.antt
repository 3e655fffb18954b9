-- What a call leaves of what is lent: the one form of every call's contract.
use Rattle.std.specs.Prelude.{List, ◌++◌, cond, ◌&&◌, ℕ, suc, ◌+◌, ◌-◌, ◌*◌, length, take, drop, replicate, eqb, leb}
use Rattle.page.specs.declared.Page.{Page}
use Rattle.page.specs.Layout.{page_size, value_size}
use Rattle.page.specs.Table.{packed, meets_rules}
use Rattle.page.specs.Answers.{in_bounds}
use Rattle.page.specs.Table as table
use Rattle.recovery.specs.Log.{Entry, blank, torn, bad, opening, image, outcome}
use Rattle.recovery.specs.declared.Refusal.TheVariants.{WrongSizes}
use Rattle.recovery.specs.declared.State.{State}
use Rattle.recovery.specs.World.{World, Result, entry_at}
use Rattle.recovery.specs.Lent.{Left, lent, whole, state_of, flat, refused}
use Rattle.calls.specs.Calls.{Call, call}

-- ---- a page that is stored, as bytes

-- a value and zeros after it
abbrev pub padded : List ℕ → List ℕ
padded v = v ++ replicate (value_size - length v) 0

abbrev pub fields_at : ℕ → Entry → Page
fields_at place blank = table.opening place
fields_at place torn = table.opening place
fields_at place bad = table.opening place
fields_at place (opening k) = table.opening_as (cond k 1 0) place
fields_at place (image i) = table.image (length i.value) i.file i.action i.link i.start
fields_at place (outcome a c) = table.outcome a (cond c 1 2)

abbrev pub value_at : Entry → List ℕ
value_at blank = replicate value_size 0
value_at torn = replicate value_size 0
value_at bad = replicate value_size 0
value_at (opening k) = replicate value_size 0
value_at (image i) = padded i.value
value_at (outcome a c) = replicate value_size 0

unfoldable pub packed_entry : ℕ → Entry → List ℕ
packed_entry place g = packed (fields_at place g) (value_at g) place

-- the sheet with the page above place q replaced
unfoldable pub with_page : List ℕ → ℕ → List ℕ → List ℕ
with_page s q page = take (page_size * q) s ++ (page ++ drop (page_size * q + page_size) s)

-- the sheet with a page above place q, where there is room for it and it obeys the rules; else as it was
unfoldable pub appended : List ℕ → ℕ → ℕ → Page → List ℕ → List ℕ
appended s q files page value =
    cond (leb (page_size * q + page_size) (length s) && in_bounds page_size (suc q) files && meets_rules page value (suc q) files)
    (with_page s q (packed page value (suc q)))
    s

-- ---- what is left

-- the bytes: with the page that was appended above the old end, if one was
abbrev pub grown : List ℕ → ℕ → World → List ℕ
grown s end w = cond (eqb w.end end) s (with_page s end (packed_entry (suc end) (entry_at w (suc end))))

abbrev pub lower : List ℕ → ℕ → Result → Left
lower s end r = record { answer = r.0; state = state_of r.1; sheet = grown s end r.1; fates = r.1.fates; rows = flat r.1.rows }

unfoldable pub call_leaves : List ℕ → List ℕ → List ℕ → State → Call → Left
call_leaves s fates rows state k =
    cond (whole (length s) (length rows)) (lower s state.end (call (lent s fates rows state) k)) (refused WrongSizes 0 s fates rows state)
