-- `reading::read_row`: line 7, no token, a token above the time, line 9, the token. Assumes nothing.
use Prim.Native.Nat.{ℕ}
use mathlib.Core.List.{List}
use mathlib.Core.Bool.{Bool, true}
use mathlib.Core.Path.{◌≡◌}
use Rattle.page.specs.declared.Page.{Page}
use Rattle.std.specs.Prelude.{Option}
use Rattle.recovery.specs.declared.Row.{Row}
use Rattle.recovery.specs.Steps.{sealed_image, row_holds_by}
use Rattle.encoding.proofs.Logic.{refused, passed}
use Rattle.calls.proofs.ReadImages.{RowHeld, looked_current}
use Rattle.reading.proofs.ReadEnds.{reads_7, reads_free, reads_early, reads_9, reads_own}
use Rattle.reading.proofs.read_row.Goals as goal

-- what line 7 let through
held : {files : ℕ} {s : List ℕ} {e f : ℕ} {u v : Option Page} {b : Bool} (r : Row) → u ≡ sealed_image files s f r.current → v ≡ sealed_image files s f r.token
    → b ≡ row_holds_by e r u v → b ≡ true → RowHeld files s e f r u v
held r u v h t = record { current = u; token = v; holds = passed h t }

pub returns-then-not-row_holds_by : goal.returns-then-not-row_holds_by
returns-then-not-row_holds_by c = reads_7 _ _ _ _ _ _ _ _ _ c.image_at-current.ensures c.image_at-token.ensures (refused c.row_holds_by.ensures c.if-not-row_holds_by.true)

pub read_versions-requires : goal.read_versions-requires
read_versions-requires c =
    let k = held c.args.row c.image_at-current.ensures c.image_at-token.ensures c.row_holds_by.ensures c.if-not-row_holds_by.false in
    looked_current k

pub returns-in_default : goal.returns-in_default
returns-in_default c =
    let k = held c.args.row c.image_at-current.ensures c.image_at-token.ensures c.row_holds_by.ensures c.if-not-row_holds_by.false in
    reads_free _ _ k c.in_default.is _ c.read_versions.ensures

pub read_versions-requires-then-time-x : goal.read_versions-requires-then-time-x
read_versions-requires-then-time-x c =
    let k = held c.args.row c.image_at-current.ensures c.image_at-token.ensures c.row_holds_by.ensures c.if-not-row_holds_by.false in
    looked_current k

pub returns-then-time-x : goal.returns-then-time-x
returns-then-time-x c =
    let k = held c.args.row c.image_at-current.ensures c.image_at-token.ensures c.row_holds_by.ensures c.if-not-row_holds_by.false in
    reads_early _ _ k c.in-Some.is c.if-time-x.true _ c.read_versions-then-time-x.ensures

pub returns-then-x-action : goal.returns-then-x-action
returns-then-x-action c =
    let k = held c.args.row c.image_at-current.ensures c.image_at-token.ensures c.row_holds_by.ensures c.if-not-row_holds_by.false in
    reads_9 _ _ k c.in-Some.is c.if-time-x.false c.if-x-action.true

pub returns : goal.returns
returns c =
    let k = held c.args.row c.image_at-current.ensures c.image_at-token.ensures c.row_holds_by.ensures c.if-not-row_holds_by.false in
    reads_own _ _ k c.in-Some.is c.if-time-x.false c.if-x-action.false _ c.token_read.ensures
