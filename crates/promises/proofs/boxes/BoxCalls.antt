-- A call, answered or cut, leads from a box that stands for a log and a model to such a box.
use Prim.Native.Nat.{ℕ, suc, ◌*◌}
use mathlib.Core.Path.{◌≡◌, refl, sym, ap, ◌∙◌, subst}
use mathlib.Core.List.{List}
use mathlib.Core.Bool.{Bool, true, false, cond, not}
use native.Mathlib.Omega.{arith}
use lib.ListN.{length}
use lib.Dec.{eqb}
use borrow.Author.Tests.{eq-eqb, ne_eqb}
use Rattle.page.specs.Layout.{page_size, kind_at, mark_at}
use Rattle.recovery.specs.Places.{put}
use Rattle.recovery.specs.Log.{Entry}
use Rattle.recovery.specs.Sheet.{pages}
use Rattle.recovery.specs.World.{World, entry_at}
use Rattle.recovery.specs.Lent.{Left, row_length, rows_of}
use Rattle.recovery.proofs.FlatRows.{flat_long, flat_rows}
use Rattle.recovery.proofs.Spots.{entry_top}
use Rattle.calls.specs.Calls.{Call, call}
use Rattle.calls.specs.Leaves.{grown}
use Rattle.calls.specs.Cuts.{stored_of}
use Rattle.promises.specs.Runs.{on, cuts, call_on, after, Typed, Ordered}
use Rattle.promises.specs.Model.{stores, model_call, model_cut}
use Rattle.promises.proofs.worlds.LogSays.{Says, torn_says}
use Rattle.promises.proofs.worlds.ModelCalls.{call_sized, cut_sized}
use Rattle.promises.proofs.worlds.Sim.{Sim, Step, stay, add}
use Rattle.promises.proofs.worlds.Openings.{Holds, sim_holds}
use Rattle.promises.proofs.bytes.Stored.{bytes_of, partial}
use Rattle.promises.proofs.bytes.Cuts.{cut_sheet, partial_log, cut_log, cut_holds}
use Rattle.promises.proofs.bytes.Appended.{FitStep, fit}
use Rattle.promises.proofs.bytes.ByteCalls.{call_pages, call_long, cut_pages_lem, cut_long}
use Rattle.promises.proofs.boxes.Boxes.{Bounds, bounds, world_in, At, Reached, sim, call_is, agrees, end_is}

module _ (n files : ℕ) where
  -- a call, and one that is cut
  module _ (m : Left) (r : Reached n files (on m)) (k : Call) (t : Typed k) where
    abbrev l : List Entry
    l = r.log

    abbrev l' : List Entry
    l' = (agrees n files m r k).log

    abbrev w' : World
    w' = (call (world_in n files m) k).1

    z : Bounds n files
    z = bounds n files r.at.sized

    after_call : Sim w' l' (model_call r.model k).1
    after_call = (agrees n files m r k).after

    held_after : Holds w'.sheet n l'
    held_after = subst (λ u. Holds w'.sheet u l') ((call_sized r.model k).pages ∙ r.at.pages_are) (sim_holds w' l' (model_call r.model k).1 after_call)

    fits : FitStep files l l'
    fits = subst (λ u. FitStep u l l') r.at.files_are (fit (agrees n files m r k).step t)

    sheet_is : (call_on m k).sheet ≡ grown m.sheet (length l) w'
    sheet_is = ap (λ x. x.sheet) (call_is n files m r k) ∙ ap (λ e. grown m.sheet e w') (end_is n files m r)

    pages_after_lem : pages files n (call_on m k).sheet ≡ w'.sheet
    pages_after_lem = ap (pages files n) sheet_is
        ∙ call_pages files n m.sheet l r.at.holds r.at.long z.most_pages z.some_files z.most_files_lem fits w' held_after after_call.ends

    world_after : world_in n files (call_on m k) ≡ w'
    world_after = λ i. record {
      sheet = pages_after_lem i;
      fates = (call_is n files m r k i).fates;
      rows = (ap (λ x. rows_of x.rows) (call_is n files m r k) ∙ flat_rows w'.rows) i;
      end = (call_is n files m r k i).state.end;
      floor = (call_is n files m r k i).state.floor;
      undecided = (call_is n files m r k i).state.undecided;
    }

    pub called : At n files (on (call_on m k)) l' (model_call r.model k).1
    called = record {
      sized = r.at.sized;
      long = ap length sheet_is ∙ call_long files n m.sheet l r.at.holds r.at.long z.most_pages z.some_files z.most_files_lem fits w' held_after after_call.ends;
      pages_are = (call_sized r.model k).pages ∙ r.at.pages_are;
      files_are = (call_sized r.model k).files ∙ r.at.files_are;
      holds = subst (λ u. Holds u n l') (sym pages_after_lem) held_after;
      says = after_call.says;
      stands = (
        subst (λ w. Sim w l' (model_call r.model k).1) (sym world_after) after_call,
        ap (λ x. length x.rows) (call_is n files m r k) ∙ flat_long w'.rows ∙ ap (λ x. row_length * x) (after_call.files ∙ (call_sized r.model k).files ∙ r.at.files_are),
      );
    }

    -- the model takes a cut as the log does
    cut_says : (kept : ℕ → Bool) {u : List Entry} → Step r.model.files k l (model_call r.model k).0 u → Says u (model_call r.model k).1 → Says (cut_log l u (bytes_of kept)) (model_cut r.model k kept)
    unfolding cut_log
    cut_says kept (stay q) h = rw (eq-eqb (model_call r.model k).1.used r.model.used (h.used ∙ sym r.at.says.used), eq-eqb (length l) (length l) refl) r.at.says
    cut_says kept (add g q e) h =
        rw (
          ne_eqb (model_call r.model k).1.used r.model.used (λ q. omega (arith, h.used, r.at.says.used)),
          ne_eqb (suc (length l)) (length l) (λ q. omega arith),
          entry_top g l,
        ) (go (kept kind_at) (kept mark_at))
      where
        go : (a b : Bool) → Says (partial_log (cond a (cond b page_size 1) 0) g l) (cond (not a) r.model (cond b (model_call r.model k).1 (stores r.model r.model.undecided r.model.status r.model.object)))
        go false b = r.at.says
        go true false = torn_says l r.model r.at.says
        go true true = h

    pub was_cut : (kept : ℕ → Bool) → Ordered kept → At n files (after (on m) (cuts k kept)) (cut_log l l' (bytes_of kept)) (model_cut r.model k kept)
    unfolding cut_sheet
    was_cut kept o = record {
      sized = r.at.sized;
      long = ap length bytes_are ∙ cut_long files n m.sheet l r.at.holds r.at.long z.most_pages z.some_files z.most_files_lem fits w' held_after after_call.ends kept o;
      pages_are = (cut_sized r.model k kept).pages ∙ r.at.pages_are;
      files_are = (cut_sized r.model k kept).files ∙ r.at.files_are;
      holds = subst (λ u. Holds u n (cut_log l l' (bytes_of kept))) (sym pages_cut)
          (subst (λ u. Holds (cut_sheet (world_in n files m) k (bytes_of kept)) u (cut_log l l' (bytes_of kept))) r.at.pages_are (cut_holds (world_in n files m) l r.model (sim n files m r) k (bytes_of kept)));
      says = cut_says kept (agrees n files m r k).step after_call.says;
      stands = tt;
    }
      where
        bytes_are : stored_of kept m.state.end (call_on m k).sheet m.sheet ≡ stored_of kept (length l) (grown m.sheet (length l) w') m.sheet
        bytes_are = ap (λ t. stored_of kept m.state.end t m.sheet) sheet_is ∙ ap (λ e. stored_of kept e (grown m.sheet (length l) w') m.sheet) (end_is n files m r)

        pages_cut : pages files n (stored_of kept m.state.end (call_on m k).sheet m.sheet)
            ≡ cond (eqb w'.end m.state.end) (pages files n m.sheet) (put (pages files n m.sheet) (suc m.state.end) (partial (bytes_of kept) (entry_at w' (suc m.state.end))))
        pages_cut = ap (pages files n) bytes_are
            ∙ cut_pages_lem files n m.sheet l r.at.holds r.at.long z.most_pages z.some_files z.most_files_lem fits w' held_after after_call.ends kept o
            ∙ ap (λ e. cond (eqb w'.end e) (pages files n m.sheet) (put (pages files n m.sheet) (suc e) (partial (bytes_of kept) (entry_at w' (suc e))))) (sym (end_is n files m r))
