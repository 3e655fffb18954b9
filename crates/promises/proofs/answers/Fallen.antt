-- Starts fall in every history of the model.
use Prim.Native.Nat.{ℕ, ◌<◌}
use mathlib.Core.Path.{◌≡◌, refl, sym, ap, ◌∙◌, subst}
use mathlib.Core.List.{List, [], ◌∷◌, map, head?}
use mathlib.Core.Bool.{false}
use Rattle.recovery.specs.Log.{Placed, fate_of, effective_of}
use Rattle.inspection.specs.Lawful.{versions}
use Rattle.promises.specs.Runs.{Box, Event, after, runs, AllAllowed, blank_box, Run}
use Rattle.promises.specs.Model.{since, Model, blank_model, model_after, model_runs}
use Rattle.promises.proofs.logs.Chains.{Ordered, versions_ordered, chain}
use Rattle.promises.proofs.logs.Histories.{newest_is}
use Rattle.promises.proofs.worlds.LogSays.{since_is}
use Rattle.promises.proofs.boxes.Boxes.{is_on, Reached}
use Rattle.promises.proofs.boxes.BoxRuns.{reached_next, reached_blank, power_is, pages_after, pages_on}
use Rattle.promises.specs.FromLog.{version_of}
use Rattle.promises.specs.Promises.{Falls}

falls_in : (vs : List Placed) → Ordered vs → Falls (map version_of vs)
falls_in [] o = tt
falls_in (x ∷ vs) o = (subst (λ n. n < x.image.start) (sym (ap since (newest_is vs) ∙ since_is (head? vs))) o.0.later, falls_in vs o.1)

-- the model that a run has reached
pub record Ends (n files : ℕ) (b : Box) (m : Model) : Type 0 where
  pub with : Reached n files b
  pub is : with.model ≡ m

pub ends : (n files : ℕ) (b : Box) (k : Reached n files b) (es : List Event) → AllAllowed files b es → Ends (pages_on n b es) files (runs b es) (model_runs (is_on b) k.model es)
ends n files b k [] t = record { with = k; is = refl }
ends n files b k (e ∷ es) t =
    let r = ends (pages_after n b e) files (after b e) (reached_next n files b k e t.0) es t.1 in
    record { with = r.with; is = r.is ∙ ap (λ o. model_runs o (model_after (is_on b) k.model e) es) (power_is n files b k e t.0) }

module _ (files : ℕ) where
  falls_at : (n : ℕ) (b : Box) (k : Reached n files b) (file : ℕ) → Falls (k.model.object file).history
  falls_at n b k file =
      subst Falls (sym (k.at.says.history file)) (falls_in (versions k.log file) (versions_ordered (fate_of k.log) (effective_of k.log file) (chain k.log file k.at.holds.lawful)))

pub fallen : (n files : ℕ) (es : List Event) (file : ℕ) → Run n files es → Falls ((model_runs false (blank_model n files) es).object file).history
fallen n files es file r =
    let x = ends n files (blank_box n) (reached_blank n files r.sized) es r.allowed in
    subst (λ m. Falls (m.object file).history) x.is (falls_at files (pages_on n (blank_box n) es) (runs (blank_box n) es) x.with file)
