-- A box that is given a lawful sheet stands for the model read off its log.
use Prim.Native.Nat.{ℕ, zero, suc, ◌*◌, ◌/◌, ◌≤◌, ◌<◌}
use mathlib.Core.Path.{◌≡◌, refl, ap, subst}
use mathlib.Core.List.{List}
use mathlib.Core.Bool.{Bool, true, false}
use native.Mathlib.Omega.{arith}
use lib.ListN.{length, get_or-eq_default}
use lib.Dec.{leb}
use borrow.Author.Tests.{leb-true, leb-false}
use Rattle.page.specs.Layout.{page_size}
use Rattle.recovery.specs.Places.{nth}
use Rattle.recovery.specs.Log.{Entry, blank}
use Rattle.recovery.specs.Sheet.{pages}
use Rattle.recovery.specs.World.{sizes, down, end_of, is_blank}
use Rattle.recovery.specs.Lent.{pages_of}
use Rattle.recovery.proofs.Pages.{pages_long, length_down}
use Rattle.recovery.proofs.BadPages.{used_end}
use Rattle.recovery.proofs.OpeningEnds.{end_le}
use Rattle.inspection.specs.Inspected.{inspected}
use Rattle.std.specs.Prelude.{Ok}
use Rattle.inspection.proofs.BadPages.{lawful_is}
use Rattle.inspection.proofs.LowestUnlawful.{none_lawful}
use Rattle.promises.specs.Runs.{off, Event, heard, AllAllowed}
use Rattle.promises.specs.Model.{model_heard}
use Rattle.moving.proofs.Went.{blank_entry}
use Rattle.promises.proofs.logs.Logs.{test_lawful}
use Rattle.promises.proofs.worlds.Openings.{Holds}
use Rattle.promises.proofs.answers.ModelRuns.{heard_alike}
use Rattle.promises.proofs.boxes.Boxes.{Reached}
use Rattle.promises.specs.FromLog.{model_of, log_in}

-- above the end all is blank
clean_above : (P : List Entry) (n p : ℕ) → end_of P n < p → p ≤ n → nth blank P p ≡ blank
clean_above P n p h k = go (is_blank (nth blank P p)) refl
  where
    go : (b : Bool) → is_blank (nth blank P p) ≡ b → nth blank P p ≡ blank
    go true e = blank_entry (nth blank P p) e
    go false e = absurd (omega (arith, used_end P p e n k))

module _ (n files : ℕ) (s : List ℕ) (long : length s ≡ page_size * n) (sz : sizes n n files ≡ true) (h : inspected s files ≡ Ok 0) where
  abbrev P : List Entry
  P = pages_of s files

  abbrev e : ℕ
  e = end_of P (length s / page_size)

  abbrev l : List Entry
  l = log_in files s

  n_is : length s / page_size ≡ n
  n_is = omega arith

  l_long : length l ≡ e
  l_long = length_down P e

  holds : Holds P (length s / page_size) l
  holds = record {
    long = pages_long files (length s / page_size) s;
    lawful = test_lawful l (none_lawful l (lawful_is s files h).1);
    room = omega (arith, l_long, end_le P (length s / page_size));
    log = ap (down P) l_long;
    clean = λ p k. go p (omega (arith, l_long)) (leb p (length s / page_size)) refl;
  }
    where
      go : (p : ℕ) → e < p → (b : Bool) → leb p (length s / page_size) ≡ b → nth blank P p ≡ blank
      go zero k b q = refl
      go (suc i) k true q = clean_above P (length s / page_size) (suc i) k (leb-true (suc i) (length s / page_size) q)
      go (suc i) k false q = get_or-eq_default P blank (omega (arith, pages_long files (length s / page_size) s, leb-false (suc i) (length s / page_size) q))

  lies : Holds (pages files n s) n l
  lies = subst (λ m. Holds (pages files m s) m l) n_is holds

  reached : Reached n files (off s)
  reached = record {
    log = l;
    model = model_of n files l;
    at = record {
      sized = sz;
      long = long;
      pages_are = refl;
      files_are = refl;
      holds = lies;
      says = record { used = refl; undecided = refl; status = λ a. refl; carried = λ a. refl; history = λ f. refl; token = λ f. refl };
      stands = tt;
    };
  }

pub any_heard : (n files : ℕ) (s : List ℕ) (es : List Event) → sizes n n files ≡ true → length s ≡ page_size * n → inspected s files ≡ Ok 0 → AllAllowed files (off s) es
    → heard (off s) es ≡ model_heard false (model_of n files (log_in files s)) es
unfolding reached
any_heard n files s es sz long h t = heard_alike n files (off s) (reached n files s long sz h) es t
