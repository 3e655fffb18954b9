-- `weeks::Week::keyholders`: none, or two bytes. Assumes nothing.
use native.Mathlib.Omega.{arith}
use Rattle.weeks.proofs.Editions.{mask_within}
use Rattle.weeks.proofs.MaskParts.{no_mask_read, mask_read}
use Rattle.weeks.proofs.Week.keyholders.Goals as goal

pub returns-then-mask_size-eq0 : goal.returns-then-mask_size-eq0
returns-then-mask_size-eq0 c = no_mask_read _ _ c.mask_size.ensures c.if-mask_size-eq0.true

pub two_bytes-requires : goal.two_bytes-requires
two_bytes-requires c = omega (arith, c.args.self.long, mask_within c.args.self.edition c.width.ensures c.mask_size.ensures c.if-mask_size-eq0.false)

pub returns : goal.returns
returns c = mask_read c.args.self.edition c.width.ensures c.mask_size.ensures _ c.if-mask_size-eq0.false c.two_bytes.ensures.value
