-- `desk::cutting::act`: answered, or struck by a waiting cut. Assumes nothing.
use Rattle.desk.proofs.CallMade.{not_struck, struck_at, state_is, answered_as, cut_within, room_left, lost_as}
use Rattle.desk.specs.Conversation.{state_of}
use Rattle.recovery.specs.declared.State.{State}
use Rattle.recovery.specs.Sheet.{page_bytes}
use Rattle.calls.specs.Asked.{asked}
use Rattle.calls.specs.Leaves.{call_leaves, with_page}
use Prim.Native.Nat.{suc, ◌+◌, ◌/◌, min}
use mathlib.Core.Path.{refl, sym, ap, ◌∙◌}
use mathlib.Core.List.{◌++◌}
use lib.ListN.{length, take, drop, replicate}
use Rattle.desk.proofs.cutting.act.Goals as goal

pub returns-in_default : goal.returns-in_default
returns-in_default c =
    let a = c.args in
    let e = state_is a.desk c.requires in
    let made = c.make-done.ensures ∙ ap (λ (z : State). call_leaves a.sheet.now a.fates.now a.rows.now z (asked a.call a.value.now)) (sym e) in
    answered_as a.desk a.sheet.now a.fates.now a.rows.now a.call a.value.now _ _ _ _ made _ (not_struck _ _ (sym c.struck_after.ensures ∙ c.in_default.is)) c.answered.ensures

pub cut_page-requires : goal.cut_page-requires
cut_page-requires c =
    let a = c.args in
    let e = state_is a.desk c.requires in
    let made = c.make-done.ensures ∙ ap (λ (z : State). call_leaves a.sheet.now a.fates.now a.rows.now z (asked a.call a.value.now)) (sym e) in
    let z = struck_at _ (sym c.struck_after.ensures ∙ c.in-Some.is) in (
      rw e at (room_left a.desk a.sheet.now a.fates.now a.rows.now a.call a.value.now _ _ _ _ made z.0),
      c.copy.auto.out,
      rw z.1 (cut_within a.desk a.sheet.now a.fates.now a.rows.now a.call a.value.now _ _ _ _ made z.0),
    )

pub returns : goal.returns
returns c =
    let a = c.args in
    let e = state_is a.desk c.requires in
    let made = c.make-done.ensures ∙ ap (λ (z : State). call_leaves a.sheet.now a.fates.now a.rows.now z (asked a.call a.value.now)) (sym e) in
    let z = struck_at _ (sym c.struck_after.ensures ∙ c.in-Some.is) in
    let place = ap (λ n. n + 1) c.min.ensures ∙ ap (λ (z : State). min z.end (length a.sheet.now / 64) + 1) (sym e) in
    let left = c.cut_page.ensures
    ∙ ap (λ (z : State). with_page c.make-done.new.sheet z.end (take c.in-Some.cut (page_bytes c.make-done.new.sheet (suc z.end)) ++ drop c.in-Some.cut c.copy.new.out)) (sym e)
    ∙ ap (λ n. with_page c.make-done.new.sheet (state_of a.desk).end (take n (page_bytes c.make-done.new.sheet (suc (state_of a.desk).end)) ++ drop n c.copy.new.out)) z.1 in
    lost_as a.desk a.sheet.now a.fates.now a.rows.now a.call a.value.now _ _ _ _ made z.0 _ _ (replicate 64 0) c.copy.new.out _ _ place c.part_at.ensures refl c.copy.ensures c.lost.ensures left
