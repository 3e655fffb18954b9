-- `moving::carrying::store_version`: nothing, or the page of the image that was found. Assumes nothing.
use Rattle.moving.proofs.CarriedPages.{value_part, stored_is}
use Rattle.calls.proofs.ReadImages.{met_at}
use mathlib.Core.Path.{sym, ◌∙◌}
use Rattle.moving.proofs.carrying.store_version.Goals as goal

pub returns : goal.returns
returns c =
    let a = c.args in
    let m = sym c.image_at-found.ensures ∙ c.in-Some.is in
    let k = met_at a.view.files a.view.sheet.now a.file a.place _ m in
    stored_is a.view.files a.view.sheet.now a.file a.place _ m a.at a.fresh.now _ _ _ c.requires c.image-page.ensures
    (value_part a.view.sheet.now a.place _ _ k.low k.room c.part_at.ensures c.value-value.ensures) c.append.ensures
