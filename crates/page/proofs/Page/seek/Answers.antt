-- `page::Page::seek`: what is passed over at once, or does not fit, is no image of this file. Assumes nothing.
use Rattle.page.proofs.Seek.{unnamed, named_kind, looked_of_file}
use Rattle.encoding.proofs.Logic.{refused, passed}
use Rattle.page.proofs.Page.seek.Goals as goal

pub returns-then-not-names : goal.returns-then-not-names
returns-then-not-names c =
    let a = c.args in
    unnamed a.part.now a.place a.files a.file (refused c.names.ensures c.if-not-names.true)

pub fit_image-requires : goal.fit_image-requires
fit_image-requires c =
    let a = c.args in
    named_kind a.part.now a.place a.files a.file (passed c.names.ensures c.if-not-names.false)

pub returns : goal.returns
returns c =
    let a = c.args in
    looked_of_file a.part.now a.place a.files a.file _ (passed c.names.ensures c.if-not-names.false) c.fit_image.ensures
