-- What a call appends obeys the rules of its page.
use Prim.Native.Nat.{ℕ, suc}
use mathlib.Core.Path.{subst}
use mathlib.Core.List.{List, ◌∷◌}
use native.Mathlib.Omega.{arith}
use lib.ListN.{length}
use Rattle.recovery.specs.Log.{Entry, image, outcome, fate_of, effective_of}
use Rattle.recovery.specs.declared.Answer.{Answer}
use Rattle.recovery.proofs.LogFates.{undecided_known}
use Rattle.recovery.proofs.Lookups.{is_file_lem}
use Rattle.calls.specs.Calls.{Call, begin, write, read, test, decide, rebuild}
use Rattle.recovery.proofs.Spots.{spots}
use Rattle.promises.specs.Runs.{Typed}
use Rattle.promises.proofs.logs.Logs.{Lawful, known_place}
use Rattle.promises.proofs.logs.Chains.{current_high}
use Rattle.promises.proofs.worlds.LogSays.{written}
use Rattle.promises.proofs.worlds.Sim.{Writes, Step, stay, add}
use Rattle.promises.proofs.bytes.Stored.{Fitting}

-- a call appends nothing, or a page that obeys the rules
pub data FitStep (files : ℕ) (l : List Entry) : List Entry → Type 0 where
  fit_stay : FitStep files l l
  fit_add : (g : Entry) → (Lawful (g ∷ l) → Fitting files (suc (length l)) g) → FitStep files l (g ∷ l)

pub fit : {files : ℕ} {k : Call} {l l' : List Entry} {x : Answer} → Step files k l x l' → Typed k → FitStep files l l'
fit (stay n) y = fit_stay
fit {files} {k} {l} (add g h e) y = fit_add g (go k h y)
  where
    go : (k : Call) → Writes files l k g → Typed k → Lawful (g ∷ l) → Fitting files (suc (length l)) g
    go begin h y w = rw h tt
    go (write f t a v) h y w = fitting h (subst (λ g. Lawful (g ∷ l)) h.0 w)
      where
        fitting : Writes files l (write f t a v) g → Lawful (image (written l f t a v) ∷ l) → Fitting files (suc (length l)) g
        fitting h w =
            let p = known_place l a w.1 (undecided_known w.0.live) in
            rw h.0 (record {
              file_low = (is_file_lem files f h.1).0;
              file_high = (is_file_lem files f h.1).1;
              action_low = p.0;
              action_high = omega (arith, p.1);
              link_high = omega (arith, current_high (fate_of l) l f (effective_of l f) (spots l f));
              start_low = omega (arith, w.0.later);
              start_high = y;
              short = h.2;
            })
    go (read f t a) h y w = absurd h
    go (test a) h y w = absurd h
    go (decide a c) h y w =
        let u : Lawful (outcome a c ∷ l) = subst (λ g. Lawful (g ∷ l)) h w in
        let p = known_place l a u.1 (undecided_known u.0) in
        rw h (p.0, omega (arith, p.1))
    go (rebuild f) h y w = absurd h
