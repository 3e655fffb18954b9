-- `opening::scan_pages`. The invariant, `Passed`: what is found and kept after n pages; the iterator has the pages after them. Assumes nothing.
use mathlib.Core.Path.{◌≡◌}
use Prim.Native.Nat.{◌≤◌, ◌*◌}
use lib.ListN.{length, drop}
use Rattle.std.specs.Iterator.Adapters.{enumerate_count, enumerate_source}
use Rattle.std.specs.Slice.Iter.{chunks_exact_rest, chunks_exact_size}
use Rattle.page.specs.Layout.{page_size}
use Rattle.recovery.proofs.OpeningPass.{Passed}
use Rattle.opening.proofs.scan_pages.Given as goal

abbrev pub invariant-loop-n : goal.invariant-loop-n
invariant-loop-n l = record {
  long : length l.kept ≡ length l.initial.kept;
  size : chunks_exact_size (enumerate_source l.n-iterator) ≡ page_size;
  rest : chunks_exact_rest (enumerate_source l.n-iterator) ≡ drop (page_size * enumerate_count l.n-iterator) l.view.sheet.now;
  within : enumerate_count l.n-iterator ≤ length l.initial.kept;
  passed : Passed l.view.files (length l.initial.kept) l.view.sheet.now (enumerate_count l.n-iterator) (l.scan, l.kept);
}
