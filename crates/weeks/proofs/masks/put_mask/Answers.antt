-- `weeks::masks::put_mask`: nothing, or two bytes. Assumes nothing.
use mathlib.Core.Path.{◌∙◌}
use native.Mathlib.Omega.{arith}
use Rattle.weeks.proofs.Editions.{mask_within}
use Rattle.weeks.proofs.MaskParts.{no_mask_put, mask_put}
use Rattle.weeks.proofs.masks.put_mask.Goals as goal

pub returns-then-mask_size-eq0 : goal.returns-then-mask_size-eq0
returns-then-mask_size-eq0 c = no_mask_put c.args.o c.args.out.now c.args.mask c.mask_size.ensures c.if-mask_size-eq0.true c.requires

pub put_two-requires : goal.put_two-requires
put_two-requires c = omega (arith, c.requires, mask_within c.args.o c.width.ensures c.mask_size.ensures c.if-mask_size-eq0.false)

pub returns : goal.returns
returns c =
    let put = c.put_two in
    mask_put c.args.o c.width.ensures c.mask_size.ensures c.args.out.now put.new.out c.args.mask c.if-mask_size-eq0.false (put.auto.out ∙ c.requires) put.ensures
