-- Whole or not at all, of a box that a run has reached: a committed action shows its effective images, any other none outside itself.
use Prim.Native.Nat.{ℕ, ◌≤◌, ◌<◌}
use mathlib.Core.Path.{◌≡◌, refl, sym, ap, ◌∙◌, subst}
use mathlib.Core.Bool.{Bool, true, false, ◌&&◌}
use mathlib.Core.Option.{some}
use native.Mathlib.Omega.{arith}
use lib.ListN.{length}
use lib.Dec.{leb}
use borrow.Author.Tests.{le-leb}
use Rattle.recovery.specs.Log.{Image, image, committed, fate_of, outcome_of, effective_of}
use Rattle.recovery.specs.Sheet.{decoded, sealed}
use Rattle.recovery.specs.World.{fate_number}
use Rattle.recovery.specs.declared.Answer.{Answer}
use Rattle.recovery.specs.declared.Answer.TheVariants.{Value, Nothing, Told}
use Rattle.calls.specs.Calls.{Call, read, test}
use Rattle.promises.specs.Runs.{Box, sheet_of, calls, answer_to, Typed}
use Rattle.promises.specs.Model.{model_call, model_answer}
use Rattle.promises.specs.Promises.{TellsFate, IsEffective, IsVersion, Shown}
use Rattle.promises.proofs.logs.Logs.{Lawful}
use Rattle.promises.proofs.logs.Versions.{Among}
use Rattle.promises.proofs.logs.Fates.{same_fate}
use Rattle.promises.proofs.worlds.Shown.{committed_shown, own_shown}
use Rattle.promises.proofs.worlds.Visible.{Whose, shared, own, read_shows, read_none}
use Rattle.promises.proofs.bytes.Replaced.{unsealed, bad_image, lies_below, Below}
use Rattle.promises.proofs.boxes.Boxes.{is_on, Reached}
use Rattle.promises.proofs.boxes.BoxPages.{effective_in, effective_out}
use Rattle.promises.proofs.boxes.BoxRuns.{answer_is}
use Rattle.promises.proofs.boxes.Found.{some_is, not_heard, tells, told_fate}
use Rattle.promises.proofs.answers.Heard.{answered, hears}

module _ (n files : ℕ) (b : Box) (r : Reached n files b) where
  lawful : Lawful r.log
  lawful = r.at.holds.lawful

  -- the numbers of an image's page
  numbers : (p : ℕ) (i : Image) → sealed files (sheet_of b) p ≡ image i → (i.action < p) × (1 ≤ i.action) × (1 ≤ i.file) × (i.file ≤ files)
  unfolding sealed
  numbers p i e =
      let d : decoded files (sheet_of b) p ≡ image i = unsealed (decoded files (sheet_of b)) (decoded files (sheet_of b) p) (image i) (bad_image i) e in
      subst (Below files (sheet_of b) p) d (lies_below files (sheet_of b) p)

  file_in : (p : ℕ) (i : Image) → sealed files (sheet_of b) p ≡ image i → (leb 1 i.file && leb i.file r.model.files) ≡ true
  file_in p i e = let k = numbers p i e in rw (r.at.files_are, le-leb 1 i.file k.2, le-leb i.file files k.3)

  -- ---- an effective image shows

  module _ (place : ℕ) (i : Image) (h : IsEffective files b place i) where
    pub box_all : (q : ℕ) → answer_to b (calls (test i.action)) ≡ some (Told 2 q) → answer_to b (calls (read i.file i.start 0)) ≡ some (Value place i.start (length i.value))
    box_all q t =
        let k = told_fate n files b r i.action 2 q t in
        answer_is n files b r (calls (read i.file i.start 0)) tt
        ∙ rw k.0 (ap some (committed_shown r.log r.model lawful r.at.says place i (effective_in n files b r place i h) (file_in place i h.here) (same_fate k.2)))

    pub box_own : (q : ℕ) → answer_to b (calls (test i.action)) ≡ some (Told 1 q) → (time : ℕ) → i.start ≤ time
        → answer_to b (calls (read i.file time i.action)) ≡ some (Value place i.start (length i.value))
    box_own q t time l =
        let k = told_fate n files b r i.action 1 q t in
        answer_is n files b r (calls (read i.file time i.action)) tt
        ∙ rw k.0 (ap some (own_shown r.log r.model lawful r.at.says place i time (effective_in n files b r place i h) (file_in place i h.here) (same_fate k.2) l))

  -- ---- what a read shows

  -- a box that answers is on, and answers as the model
  pub heard_on : (k : Call) → Typed k → (x : Answer) → answer_to b (calls k) ≡ some x → (is_on b ≡ true) × ((model_call r.model k).0 ≡ x)
  heard_on k t x e = go (is_on b) refl (sym (answer_is n files b r (calls k) t) ∙ e)
    where
      go : (c : Bool) → is_on b ≡ c → model_answer c r.model (calls k) ≡ some x → (is_on b ≡ true) × ((model_call r.model k).0 ≡ x)
      go true o q = (o, some_is q)
      go false o q = not_heard q

  module _ (f t a : ℕ) where
    pub committed_told : (i : Image) → is_on b ≡ true → Whose r.log a i → (i.action ≡ a → ⊥) → TellsFate files b i.action 2
    committed_told i on (shared c) o =
        let e = tells n files b r i.action (rw c (omega arith)) ∙ ap (λ x. Told (fate_number x) (outcome_of r.log i.action)) c in
        (outcome_of r.log i.action, hears b (calls (test i.action)) (Told 2 (outcome_of r.log i.action)) (answer_is n files b r (calls (test i.action)) tt ∙ rw on (ap some e)))
    committed_told i on (own h q) o = absurd (o q)

    pub box_shows : (p s l : ℕ) → answer_to b (calls (read f t a)) ≡ some (Value p s l) → Shown files b f t a p s l
    box_shows p s l e =
        let k = heard_on (read f t a) tt (Value p s l) e in
        let v = read_shows r.log r.model lawful r.at.says f t a p s l k.1 in
        let h = effective_out n files b r f (record { place = p; image = v.seen }) v.effective in
        record {
          seen = v.seen;
          effective = h;
          is = (v.file, v.start, v.len, v.in_time, (numbers p v.seen h.here).1);
          whose = λ o. committed_told v.seen k.0 v.whose o;
        }

    -- the highest start that is not above the time
    module _ (q : ℕ) (i : Image) (v : IsVersion files b f q i) where
      pub effective_of_lem : Among (record { place = q; image = i }) (effective_of r.log f)
      effective_of_lem = subst (λ g. Among (record { place = q; image = i }) (effective_of r.log g)) v.1 (effective_in n files b r q i v.0)

      pub fate : fate_of r.log i.action ≡ committed
      fate = same_fate (told_fate n files b r i.action 2 v.2.0 (answered b (calls (test i.action)) (Told 2 v.2.0) v.2.1)).2

    pub box_highest : (p s l : ℕ) → answer_to b (calls (read f t a)) ≡ some (Value p s l) → (q : ℕ) (i : Image) → IsVersion files b f q i → i.start ≤ t → i.start ≤ s
    box_highest p s l e q i v =
        (read_shows r.log r.model lawful r.at.says f t a p s l (heard_on (read f t a) tt (Value p s l) e).1).latest (record { place = q; image = i }) (effective_of_lem q i v) (fate q i v)

    pub box_later : answer_to b (calls (read f t a)) ≡ some Nothing → (q : ℕ) (i : Image) → IsVersion files b f q i → t < i.start
    box_later e q i v = read_none r.log r.model lawful r.at.says f t a (heard_on (read f t a) tt Nothing e).1 (record { place = q; image = i }) (effective_of_lem q i v) (fate q i v)
