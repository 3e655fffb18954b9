-- `harness::bench_pack`. The invariant: count and sheet are those after the pages passed, and the sheet keeps its length. Assumes nothing.
use borrow.Rule.Slice.PartMut.{same_len_mid}
use mathlib.Core.List.{List}
use Rattle.harness.proofs.Turns.{bit_le, bit_is, written_is, pack_start, pack_turn}
use Rattle.harness.specs.Counts.{written}
use native.Mathlib.Omega.{arith}
use mathlib.Core.Path.{◌≡◌, refl, ◌∙◌}
use Prim.Native.Nat.{ℕ, ◌+◌, ◌*◌, ◌-◌}
use Rattle.harness.proofs.bench_pack.Goals as goal

pub loop-i-init : goal.loop-i-init
loop-i-init c = (pack_start _ _ _ _, omega arith, refl)

pub loop-i-preserved : goal.loop-i-preserved
loop-i-preserved c =
    let a = c.args in
    let s : List ℕ = c.loop-i.sheet in
    let k : ℕ = c.loop-i.i in
    let p = c.pack in
    let x : c.from-count.result ≡ written p.result = bit_is _ _ _ c.from-count.ensures (written_is p.result c.is_ok.result c.is_ok.ensures.value) in
    let h = bit_le _ _ c.from-count.ensures in
    (pack_turn a.size a.files k c.loop-i.count c.from-count.result a.value.now a.sheet.now s p.new.out c.image-p.result p.result c.loop-i.invariant.0 c.image-p.ensures p.ensures x, omega arith, same_len_mid (64 * k) (64 * k + 64 - 64 * k) s p.new.out p.auto.out ∙ c.loop-i.invariant.2)
