-- What overtakes an image, and what does not: a write does whose page is stored whole, and no call that is cut before.
use Prim.Native.Nat.{ℕ, suc, ◌≤◌, ◌<◌}
use mathlib.Core.Path.{◌≡◌, refl, sym, ap, ◌∙◌, subst}
use mathlib.Core.List.{List, [], ◌∷◌}
use mathlib.Core.Bool.{Bool, false, false≢true}
use mathlib.Core.Option.{some}
use mathlib.Core.Logic.{◌⊎◌, inl, inr}
use native.Mathlib.Omega.{arith}
use lib.ListN.{length}
use Rattle.page.specs.Layout.{mark_at}
use Rattle.recovery.specs.Log.{Image, Entry, image}
use Rattle.recovery.specs.Sheet.{sealed}
use Rattle.recovery.specs.declared.Answer.TheVariants.{Stored, Value}
use Rattle.calls.specs.Calls.{Call, write, read}
use Rattle.promises.specs.Runs.{Box, on, off, sheet_of, Event, calls, opens, cuts, answer_to, after, Typed, Allowed, moves, cuts_move, is_moved}
use Rattle.promises.specs.Promises.{IsPageOf, IsWhole, IsEffective}
use Rattle.promises.proofs.logs.Outcomes.{Lies}
use Rattle.promises.proofs.worlds.Sim.{Step, stay, add}
use Rattle.promises.proofs.boxes.Boxes.{Reached, agrees, model_says}
use Rattle.promises.proofs.boxes.BoxRuns.{reached_next, pages_after}
use Rattle.promises.proofs.boxes.Extends.{stays}
use Rattle.promises.proofs.boxes.Found.{some_is, not_heard, stored_is, box_found, box_found_cut}
use Rattle.promises.proofs.boxes.BoxShown.{box_shows}
use Rattle.promises.proofs.boxes.BoxPages.{solid_image, image_same, page_lies_in, lies_page}
use Rattle.promises.proofs.answers.Origins.{Adds, from_event}

one_call : (e : Event) (c d : Call) → IsWhole c e → IsWhole d e → c ≡ d
one_call (calls k) c d x y = sym x ∙ y
one_call (opens floor fates rows) c d x y = absurd x
one_call (cuts k kept) c d x y = sym x.0 ∙ y.0
one_call (moves fresh) c d x y = absurd x
one_call (cuts_move fresh k) c d x y = absurd x

module _ (n files : ℕ) (b : Box) (r : Reached n files b) where
  -- an overtaken image shows to nobody
  pub box_overtaken : (place p file time reader start size : ℕ) (i j : Image) → sealed files (sheet_of b) place ≡ image i → sealed files (sheet_of b) p ≡ image j
      → j.file ≡ i.file → j.action ≡ i.action → place < p → answer_to b (calls (read file time reader)) ≡ some (Value place start size) → ⊥
  box_overtaken place p file time reader start size i j here there f a l e =
      let v = box_shows n files b r file time reader place start size e in
      let s : v.seen ≡ i = image_same (sym v.effective.here ∙ here) in
      omega (arith, v.effective.none_newer p j there (f ∙ ap (λ (x : Image). x.file) (sym s)) (a ∙ ap (λ (x : Image). x.action) (sym s)))

  -- an image of the box after an event was there before it, or is what it added
  there_before : (e : Event) → Allowed files b e → is_moved b e ≡ false → (p : ℕ) (j : Image) → sealed files (sheet_of (after b e)) p ≡ image j → Lies r.log p (image j) ⊎ Adds b e p (image j)
  there_before e t q p j h =
      from_event n files b r e q p (image j) (solid_image j) (page_lies_in (pages_after n b e) files (after b e) (reached_next n files b r e t) p (image j) (solid_image j) h)

  pub box_torn_none : (k : Call) (kept : ℕ → Bool) → Allowed files b (cuts k kept) → kept mark_at ≡ false → (place : ℕ) (i : Image) → IsEffective files b place i
      → IsEffective files (after b (cuts k kept)) place i
  box_torn_none k kept t h place i e = record {
    here = let y = page_lies_in n files b r place (image i) (solid_image i) e.here in stays n files b r (cuts k kept ∷ []) (t, tt) refl place (image i) y.low y.high y.here;
    none_newer = λ p j q f a. turn p j f a (there_before (cuts k kept) t refl p j q);
  }
    where
      turn : (p : ℕ) (j : Image) → j.file ≡ i.file → j.action ≡ i.action → Lies r.log p (image j) ⊎ Adds b (cuts k kept) p (image j) → p ≤ place
      turn p j f a (inl y) = e.none_newer p j (lies_page n files b r p (image j) y) f a
      turn p j f a (inr y) = absurd (false≢true (sym h ∙ y.whole.1))

  module _ (f s a : ℕ) (v : List ℕ) (place : ℕ) (x : answer_to b (calls (write f s a v)) ≡ some (Stored place)) where
    -- its page is the newest of all
    above_all : place ≡ suc (length r.log)
    above_all = go b r x
      where
        by_step : {l u : List Entry} {q : ℕ} → Step q (write f s a v) l (Stored place) u → place ≡ suc (length l)
        by_step (stay k) = absurd (k place refl)
        by_step (add g h q) = stored_is q

        go : (b : Box) (r : Reached n files b) → answer_to b (calls (write f s a v)) ≡ some (Stored place) → place ≡ suc (length r.log)
        go (on m) r x = by_step (subst (λ y. Step r.model.files (write f s a v) r.log y (agrees n files m r (write f s a v)).log) (sym (model_says n files m r (write f s a v)) ∙ some_is x) (agrees n files m r (write f s a v)).step)
        go (off u) r x = not_heard x

    pub box_overtakes : (e : Event) → Allowed files b e → IsWhole (write f s a v) e
        → (link : ℕ) × IsEffective files (after b e) place (record { file = f; action = a; link = link; start = s; value = v })
    box_overtakes e t w = let k = page e t w in (k.0, record { here = k.1; none_newer = λ p j q g c. turn p j (there_before e t (not_moved e w) p j q) })
      where
        not_moved : (e : Event) → IsWhole (write f s a v) e → is_moved b e ≡ false
        not_moved (calls k) w = refl
        not_moved (opens floor fates rows) w = absurd w
        not_moved (cuts k kept) w = refl
        not_moved (moves fresh) w = absurd w
        not_moved (cuts_move fresh k) w = absurd w

        page : (e : Event) → Allowed files b e → IsWhole (write f s a v) e → IsPageOf (write f s a v) (sealed files (sheet_of (after b e)) place)
        page (calls k) t w = subst (λ c. IsPageOf (write f s a v) (sealed files (sheet_of (after b (calls c))) place)) (sym w) (box_found n files b r (write f s a v) (subst Typed w t) place x [] tt refl)
        page (opens floor fates rows) t w = absurd w
        page (moves fresh) t w = absurd w
        page (cuts_move fresh k) t w = absurd w
        page (cuts k kept) t w = subst (λ c. IsPageOf (write f s a v) (sealed files (sheet_of (after b (cuts c kept))) place)) (sym w.0) (box_found_cut n files b r (write f s a v) (subst Typed w.0 t.0) place x [] kept t.1 tt refl w.1)

        turn : (p : ℕ) (j : Image) → Lies r.log p (image j) ⊎ Adds b e p (image j) → p ≤ place
        turn p j (inl y) = omega (arith, y.high, above_all)
        turn p j (inr y) =
            let c : y.by ≡ write f s a v = one_call e y.by (write f s a v) y.whole w in
            let z : p ≡ place = stored_is (some_is (sym y.stored ∙ ap (λ k. answer_to b (calls k)) c ∙ x)) in
            omega arith
