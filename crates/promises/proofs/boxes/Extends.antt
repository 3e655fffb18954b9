-- A run only adds to the log: its pages stay, what was decided stays decided so, and what was known stays known.
use Rattle.encoding.proofs.Logic.{or_false}
use Rattle.promises.proofs.boxes.BoxMoves.{fresh_log}
use mathlib.Core.Path.{◌≡◌, refl, ◌∙◌, subst, sym}
use mathlib.Core.List.{List, [], ◌∷◌}
use mathlib.Core.Bool.{Bool, true, false, cond}
use Prim.Native.Nat.{ℕ, suc, ◌≤◌}
use native.Mathlib.Omega.{arith}
use lib.ListN.{length}
use lib.Dec.{eqb, ltb}
use borrow.Author.Tests.{eq-eqb, ne_eqb}
use Rattle.page.specs.Layout.{page_size}
use Rattle.recovery.specs.Log.{Entry, blank, torn, fate_of, outcome_of}
use Rattle.recovery.specs.Sheet.{sealed}
use Rattle.recovery.proofs.Spots.{entry_in, entry_cons, entry_top}
use Rattle.promises.proofs.logs.Logs.{Fits, Lawful, Known, Decided, Keeps, verdict_decided, fate_keeps, fate_knows}
use Rattle.promises.proofs.logs.Outcomes.{DecidedAt, outcome_keeps}
use Rattle.calls.specs.Calls.{Call}
use Rattle.recovery.specs.declared.Answer.{Answer}
use Rattle.promises.proofs.worlds.Sim.{Step, stay, add}
use Rattle.promises.proofs.bytes.Cuts.{cut_log}
use Rattle.promises.specs.Runs.{Box, on, off, sheet_of, Event, calls, opens, cuts, after, runs, AllAllowed, moves, cuts_move, is_moved, moved_in}
use Rattle.promises.proofs.bytes.Stored.{bytes_of}
use Rattle.promises.proofs.boxes.Boxes.{Reached, agrees, log_page}
use Rattle.promises.proofs.boxes.BoxRuns.{log_after, reached_next, reached_on, pages_after, pages_on}

-- a log that goes on from another: the same pages, what was decided decided so and at its place, what was known known
pub record Extends (l l' : List Entry) : Type 0 where
  pub longer : length l ≤ length l'
  pub pages : (p : ℕ) → p ≤ length l → entry_in l' p ≡ entry_in l p
  pub fates : Keeps (fate_of l) (fate_of l')
  pub outcomes : (a : ℕ) → Decided (fate_of l a) → outcome_of l' a ≡ outcome_of l a
  pub known : (a : ℕ) → Known (fate_of l a) → Known (fate_of l' a)

pub ext_refl : (l : List Entry) → Extends l l
ext_refl l = record { longer = omega arith; pages = λ p h. refl; fates = λ a d. refl; outcomes = λ a d. refl; known = λ a d. d }

ext_add : (g : Entry) (l l' : List Entry) → Fits g l' → Lawful l' → Extends l l' → Extends l (g ∷ l')
ext_add g l l' f w h = record {
  longer = omega (arith, h.longer);
  pages = λ p q. entry_cons g l' p (omega (arith, h.longer)) ∙ h.pages p q;
  fates = λ a d. fate_keeps g l' f w a (rw (h.fates a d) d) ∙ h.fates a d;
  outcomes = λ a d. outcome_keeps g l' f a (rw (h.fates a d) d) ∙ h.outcomes a d;
  known = λ a d. fate_knows g l' a (h.known a d);
}

pub ext_decided : {l l' : List Entry} {a : ℕ} {c : Bool} {p : ℕ} → Extends l l' → DecidedAt l a c p → DecidedAt l' a c p
ext_decided {l} {l'} {a} {c} x d =
    let h : Decided (fate_of l a) = rw d.fate (verdict_decided c) in record { fate = x.fates a h ∙ d.fate; place = x.outcomes a h ∙ d.place }

ext_step : {files : ℕ} {c : Call} {x : Answer} (l k k' : List Entry) → Step files c k x k' → Lawful k' → Extends l k → Extends l k'
ext_step l k k' (stay q) w h = h
ext_step l k k' (add g q e) w h = ext_add g l k w.0 w.1 h

ext_cut : {files : ℕ} {c : Call} {x : Answer} (l k k' : List Entry) (n : ℕ) → Step files c k x k' → Lawful k' → Extends l k → Extends l (cut_log k k' n)
unfolding cut_log
ext_cut l k k' n (stay q) w h = rw (eq-eqb (length k) (length k) refl) h
ext_cut l k k' n (add g q e) w h = rw (ne_eqb (suc (length k)) (length k) (λ e. omega arith), entry_top g k) (go (eqb n 0) (ltb n page_size))
  where
    go : (x y : Bool) → Extends l (cond x k (cond x blank (cond y torn g) ∷ k))
    go true y = h
    go false true = ext_add torn l k tt w.1 h
    go false false = ext_add g l k w.0 w.1 h

-- ---- an event and a run only add to the log

module _ (n files : ℕ) where
  pub event_extends : (b : Box) (r : Reached n files b) (e : Event) → is_moved b e ≡ false → (l : List Entry) → Extends l r.log → Extends l (log_after n files b r e)
  event_extends (on m) r (calls k) t l h = let a = agrees n files m r k in ext_step l r.log a.log a.step a.after.lawful h
  event_extends (off s) r (calls k) t l h = h
  event_extends (on m) r (opens floor fates rows) t l h = h
  event_extends (off s) r (opens floor fates rows) t l h = h
  event_extends (on m) r (cuts k kept) t l h = let a = agrees n files m r k in ext_cut l r.log a.log (bytes_of kept) a.step a.after.lawful h
  event_extends (off s) r (cuts k kept) t l h = h
  event_extends (on m) r (moves fresh) t l h = subst (λ c. Extends l (cond c (fresh_log n files m r fresh) r.log)) (sym t) h
  event_extends (off s) r (moves fresh) t l h = h
  event_extends (on m) r (cuts_move fresh k) t l h = subst (λ c. Extends l (cond c (fresh_log n files m r fresh) r.log)) (sym t) h
  event_extends (off s) r (cuts_move fresh k) t l h = h

pub extends : (n files : ℕ) (b : Box) (r : Reached n files b) (es : List Event) (t : AllAllowed files b es) → moved_in b es ≡ false → (l : List Entry) → Extends l r.log
    → Extends l (reached_on n files b r es t).log
extends n files b r [] t q l h = h
extends n files b r (e ∷ es) t q l h =
    let z = or_false (is_moved b e) (moved_in (after b e) es) q in
    extends (pages_after n b e) files (after b e) (reached_next n files b r e t.0) es t.1 z.1 l (event_extends n files b r e z.0 l h)

-- a page of the log stays through any run in which no move takes place
pub stays : (n files : ℕ) (b : Box) (r : Reached n files b) (es : List Event) → AllAllowed files b es → moved_in b es ≡ false → (p : ℕ) (g : Entry) → 1 ≤ p → p ≤ length r.log
    → entry_in r.log p ≡ g → sealed files (sheet_of (runs b es)) p ≡ g
stays n files b r es t q p g low high e =
    let x = extends n files b r es t q r.log (ext_refl r.log) in
    log_page (pages_on n b es) files (runs b es) (reached_on n files b r es t) p low (omega (arith, x.longer)) ∙ x.pages p high ∙ e
