-- `writing::pad`: the bytes, and zeros after them. Assumes nothing.
use Rattle.calls.proofs.WritePads.{pad_rest}
use Rattle.writing.proofs.pad.Goals as goal

pub returns : goal.returns
returns c = pad_rest _ _ c.copy_from_slice.ensures.after
