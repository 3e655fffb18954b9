-- What a call leaves that is cut after some bytes of the page that it appends: the log, with that page, a torn one or none.
use mathlib.Core.Path.{◌≡◌, refl, ap, sym, ◌∙◌}
use mathlib.Core.List.{List, ◌∷◌}
use mathlib.Core.Bool.{Bool, true, false, cond}
use Prim.Native.Nat.{ℕ, suc, ◌<◌}
use native.Mathlib.Omega.{arith}
use lib.ListN.{length}
use lib.Seq.{get_or-set_same}
use lib.Dec.{eqb, ltb}
use borrow.Author.Tests.{eqb-true, eqb-false, eq-eqb, ne_eqb}
use Rattle.page.specs.Layout.{page_size}
use Rattle.recovery.specs.Places.{nth, put}
use Rattle.recovery.specs.Log.{Entry, blank, torn}
use Rattle.recovery.specs.World.{World, entry_at, down}
use Rattle.recovery.proofs.Places.{nth_put_same, nth_put_other, length_put}
use Rattle.calls.specs.Calls.{Call, call}
use Rattle.recovery.proofs.Spots.{entry_in, entry_top, entry_down}
use Rattle.promises.proofs.bytes.Stored.{partial}
use Rattle.promises.proofs.logs.Logs.{Fits}
use Rattle.promises.proofs.logs.Fates.{down_put}
use Rattle.promises.specs.Model.{Model, model_call}
use Rattle.promises.proofs.worlds.ModelCalls.{call_sized}
use Rattle.promises.proofs.worlds.Sim.{Sim, Step, stay, add}
use Rattle.promises.proofs.worlds.SimCalls.{sim_call}
use Rattle.promises.proofs.worlds.Openings.{Holds, sim_holds}

-- the sheet that a call leaves that is cut after n bytes of the page that it appends
unfoldable pub cut_sheet : World → Call → ℕ → List Entry
cut_sheet w k n = cond (eqb (call w k).1.end w.end) w.sheet (put w.sheet (suc w.end) (partial n (entry_at (call w k).1 (suc w.end))))

abbrev pub partial_log : ℕ → Entry → List Entry → List Entry
partial_log n g l = cond (eqb n 0) l (partial n g ∷ l)

unfoldable pub cut_log : List Entry → List Entry → ℕ → List Entry
cut_log l l' n = cond (eqb (length l') (length l)) l (partial_log n (entry_in l' (suc (length l))) l)

-- a page stored whole, in part or not at all
pub holds_put : (s : List Entry) (n : ℕ) (l : List Entry) (g : Entry) → Holds s n l → Fits g l → length l < n
    → Holds (put s (suc (length l)) g) n (g ∷ l)
unfolding down
holds_put s n l g h f k = record {
  long = length_put s (suc (length l)) g ∙ h.long;
  lawful = (f, h.lawful);
  room = k;
  log = rw (get_or-set_same s (length l) g blank (omega (arith, h.long)), down_put s (length l) (suc (length l)) g (omega arith), h.log);
  clean = λ p q. nth_put_other blank s (suc (length l)) p g (λ e. omega arith) ∙ h.clean p (omega arith);
}

holds_blank : (s : List Entry) (n : ℕ) (l : List Entry) → Holds s n l → length l < n → Holds (put s (suc (length l)) blank) n l
holds_blank s n l h k = record {
  long = length_put s (suc (length l)) blank ∙ h.long;
  lawful = h.lawful;
  room = h.room;
  log = down_put s (length l) (suc (length l)) blank (omega arith) ∙ h.log;
  clean = λ p q. go p q (eqb p (suc (length l))) refl;
}
  where
    go : (p : ℕ) → length l < p → (b : Bool) → eqb p (suc (length l)) ≡ b → nth blank (put s (suc (length l)) blank) p ≡ blank
    go p q true e = rw (eqb-true p (suc (length l)) e, nth_put_same blank s (suc (length l)) blank (omega arith) (omega (arith, h.long)))
    go p q false e = nth_put_other blank s (suc (length l)) p blank (eqb-false p (suc (length l)) e) ∙ h.clean p q

holds_partial : (s : List Entry) (n : ℕ) (l : List Entry) (g : Entry) (b : ℕ) → Holds s n l → Fits g l → length l < n
    → Holds (put s (suc (length l)) (partial b g)) n (partial_log b g l)
holds_partial s n l g b h f k = go (eqb b 0) (ltb b page_size)
  where
    go : (x y : Bool) → Holds (put s (suc (length l)) (cond x blank (cond y torn g))) n (cond x l (cond x blank (cond y torn g) ∷ l))
    go true y = holds_blank s n l h k
    go false true = holds_put s n l torn h tt k
    go false false = holds_put s n l g h f k

pub cut_holds : (w : World) (l : List Entry) (m : Model) (s : Sim w l m) (k : Call) (b : ℕ) → Holds (cut_sheet w k b) m.pages (cut_log l (sim_call w l m s k).log b)
unfolding cut_sheet cut_log
cut_holds w l m s k b =
    let a = sim_call w l m s k in
    go a.step (call w k).1.end (call w k).1.sheet (rw (call_sized m k).pages at (sim_holds (call w k).1 a.log (model_call m k).1 a.after)) a.after.ends
  where
    go : {l' : List Entry} → Step m.files k l (model_call m k).0 l' → (e : ℕ) (u : List Entry) → Holds u m.pages l' → e ≡ length l'
        → Holds (cond (eqb e w.end) w.sheet (put w.sheet (suc w.end) (partial b (nth blank u (suc w.end))))) m.pages
        (cond (eqb (length l') (length l)) l (partial_log b (entry_in l' (suc (length l))) l))
    go (stay n) e u h q = rw (s.ends, q, eq-eqb (length l) (length l) refl) (sim_holds w l m s)
    go (add g x y) e u h q =
        let p : ℕ = suc (length l) in
        let z : nth blank u p ≡ g = sym (entry_down u p p (omega arith)) ∙ ap (λ l. entry_in l p) h.log ∙ entry_top g l in
        rw (s.ends, q, ne_eqb p (length l) (λ e. omega arith), z, eq-eqb p p refl)
        (holds_partial w.sheet m.pages l g b (sim_holds w l m s) h.lawful.0 h.room)
