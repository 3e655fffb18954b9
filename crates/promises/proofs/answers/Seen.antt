-- What people see, traced to the calls: fates to begins and decisions, values to writes; and whole or not at all.
use Rattle.moving.specs.Promised.{SameVersion}
use Rattle.promises.proofs.answers.Carried.{WasVersion, whence, longer}
use Prim.Native.Nat.{ℕ, suc, ◌-◌, ◌≤◌, ◌<◌}
use mathlib.Core.Path.{◌≡◌, refl, sym, ap, ◌∙◌, subst}
use mathlib.Core.List.{List, ◌++◌}
use mathlib.Core.Bool.{Bool, true, false, cond, false≢true}
use mathlib.Core.Option.{some}
use mathlib.Core.Logic.{◌⊎◌, inl, inr}
use native.Mathlib.Omega.{arith}
use lib.ListN.{length, take, replicate}
use lib.Seq.{length-take-le}
use lib.Dec.{eqb, leb}
use borrow.Author.Tests.{eq-eqb, le-leb, leb-true, leb-false}
use Rattle.encoding.proofs.Logic.{clash}
use Rattle.encoding.proofs.Parts.{length_part}
use Rattle.page.specs.declared.Unpacked.{Unpacked}
use Rattle.page.specs.declared.Unpacked.TheVariants.{Refused, Blank, Torn, Opening, Image as AnImage, Outcome, Unfit}
use Rattle.page.specs.Layout.{page_size, value_size}
use Rattle.page.specs.Table.{value_of}
use Rattle.page.specs.Answers.{tested, value_in}
use Rattle.page.proofs.Found.{found, image_is}
use Rattle.recovery.specs.Log.{Image, Entry, blank, torn, bad, opening, image, outcome, Fate, unknown, undecided, committed, aborted, verdict, fate_of, outcome_of}
use Rattle.recovery.specs.Sheet.{page_bytes, entry_of, is_opening, decoded, sealed}
use Rattle.recovery.specs.World.{fate_number, is_blank, is_carried}
use Rattle.recovery.specs.declared.Answer.TheVariants.{Stored, Value, Told}
use Rattle.calls.specs.Calls.{Call, begin, write, read, test, decide, rebuild}
use Rattle.recovery.proofs.Spots.{entry_in}
use Rattle.promises.specs.Runs.{Box, sheet_of, Event, calls, answer_to, runs, blank_box, Run}
use Rattle.promises.specs.Model as model
use Rattle.promises.specs.FromLog.{status_of, carried_of}
use Rattle.promises.specs.Promises.{IsPageOf, IsVersion, Did, IsCarried, AllShow, NoneShows, WasWritten, Shown}
use Rattle.promises.proofs.logs.Logs.{Lawful, Known, known_place, opening_at}
use Rattle.promises.proofs.logs.Outcomes.{Lies, outcome_lies, outcome_only}
use Rattle.promises.proofs.logs.Fates.{same_fate}
use Rattle.promises.proofs.worlds.Openings.{top_solid}
use Rattle.promises.proofs.worlds.LogSays.{carried_entry}
use Rattle.promises.proofs.bytes.Replaced.{unsealed, bad_image}
use Rattle.promises.proofs.boxes.Boxes.{is_on, bounds, Reached, log_page}
use Rattle.promises.proofs.boxes.BoxRuns.{pages_on, reached, answer_is}
use Rattle.promises.proofs.boxes.Found.{told_fate}
use Rattle.promises.proofs.boxes.BoxShown.{box_all, box_shows}
use Rattle.promises.proofs.answers.Heard.{answered, hears}
use Rattle.promises.proofs.boxes.BoxPages.{Solid, solid_opening, solid_image, solid_outcome, image_same, page_lies_in, lies_page}
use Rattle.promises.proofs.answers.Origins.{Added, OfMove, carried_first, origin, did}

-- ---- the page that tells a fate

-- a known action's opening stands at its place
opening_is : (g : Entry) → is_opening g ≡ true → is_carried g ≡ false → g ≡ opening false
opening_is blank e k = absurd (false≢true e)
opening_is torn e k = absurd (false≢true e)
opening_is bad e k = absurd (false≢true e)
opening_is (opening c) e k = ap opening k
opening_is (image i) e k = absurd (false≢true e)
opening_is (outcome a c) e k = absurd (false≢true e)

opening_in : (l : List Entry) (a : ℕ) → Lawful l → Known (fate_of l a) → carried_of l a ≡ false → Lies l a (opening false)
opening_in l a w h c = let p = known_place l a w h in record { low = p.0; high = p.1; here = opening_is (entry_in l a) (opening_at l a w h) (sym (carried_entry l a) ∙ c) }

-- ---- the call of a page

call_opening : (k : Call) → IsPageOf k (opening false) → k ≡ begin
call_opening begin h = refl
call_opening (write f s a v) h = let e = h.1 in clash cc
call_opening (read f t a) h = absurd h
call_opening (test a) h = absurd h
call_opening (decide a c) h = clash cc
call_opening (rebuild f) h = absurd h

call_outcome : (k : Call) (a : ℕ) (c : Bool) → IsPageOf k (outcome a c) → k ≡ decide a c
call_outcome begin a c h = clash cc
call_outcome (write f s b v) a c h = let e = h.1 in clash cc
call_outcome (read f t b) a c h = absurd h
call_outcome (test b) a c h = absurd h
call_outcome (decide b d) a c h = let i : b ≡ a = cc in let j : d ≡ c = cc in λ t. decide (i t) (j t)
call_outcome (rebuild f) a c h = absurd h

call_image : (k : Call) (i : Image) → IsPageOf k (image i) → k ≡ write i.file i.start i.action i.value
call_image begin i h = clash cc
call_image (write f s a v) i h =
    let e : i ≡ record { file = f; action = a; link = h.0; start = s; value = v } = image_same h.1 in
    λ t. write (sym e t).file (sym e t).start (sym e t).action (sym e t).value
call_image (read f t a) i h = absurd h
call_image (test a) i h = absurd h
call_image (decide a c) i h = clash cc
call_image (rebuild f) i h = absurd h

-- ---- what a test tells

module _ (n files : ℕ) (b : Box) (m : Reached n files b) where
  -- an action's status, by its fate
  pub status_by : (a : ℕ) (x : Fate) → fate_of m.log a ≡ x → m.model.status a ≡ status_of x (outcome_of m.log a)
  status_by a x e = m.at.says.status a ∙ ap (λ y. status_of y (outcome_of m.log a)) e

-- ---- the bytes of a value

-- the value's bytes in an image's page are the image's value
pub value_bytes : (files : ℕ) (s : List ℕ) (p : ℕ) (i : Image) → sealed files s p ≡ image i → take (length i.value) (value_in (page_bytes s p)) ≡ i.value
unfolding sealed decoded value_in
value_bytes files s p i e = go (tested (page_bytes s p) p files) refl (unsealed (decoded files s) (decoded files s p) (image i) (bad_image i) e)
  where
    go : (u : Unpacked) → u ≡ tested (page_bytes s p) p files → entry_of (page_bytes s p) u ≡ image i
        → take (length i.value) (cond (eqb (length (page_bytes s p)) page_size) (value_of (page_bytes s p)) (replicate value_size 0)) ≡ i.value
    go Refused q k = clash cc
    go Blank q k = clash cc
    go Torn q k = clash cc
    go (Opening x) q k = clash cc
    go (Outcome x) q k = clash cc
    go Unfit q k = clash cc
    go (AnImage x) q k =
        let f = found (page_bytes s p) p files (AnImage x) q in
        let h = image_is (page_bytes s p) p files x q in
        let long : length (page_bytes s p) ≡ page_size = f.bounds.size_is in
        let v : take x.small (value_of (page_bytes s p)) ≡ i.value = ap (λ (y : Image). y.value) (image_same k) in
        let n : length i.value ≡ x.small = ap length (sym v) ∙ length-take-le x.small (value_of (page_bytes s p)) (omega (arith, h.size, length_part 24 56 (page_bytes s p) (omega arith))) in
        rw (eq-eqb (length (page_bytes s p)) page_size long, n) v

-- ---- fates and the calls that made them

pub told_number : (c : Bool) → ◌≡◌ {A = ℕ} (cond c 2 3) (fate_number (verdict c))
told_number true = refl
told_number false = refl

module _ (n files : ℕ) (es : List Event) (r : Run n files es) where
  abbrev box : Box
  box = runs (blank_box n) es

  -- how many pages the sheet in use has
  abbrev N : ℕ
  N = pages_on n (blank_box n) es

  abbrev m : Reached N files box
  m = reached n files es r

  lawful : Lawful m.log
  lawful = m.at.holds.lawful

  -- the page of a call lies in the log: the run did it on this sheet, or a move stored it
  done : (p : ℕ) (g : Entry) (k : Call) → Solid g → ((c : Call) → IsPageOf c g → c ≡ k) → Lies m.log p g → Did n files es k p ⊎ (OfMove g × (sealed files (sheet_of box) 1 ≡ opening true))
  done p g k s only h = go (origin n files es r p g s (lies_page N files box m p g h))
    where
      go : Added (blank_box n) es p g ⊎ (OfMove g × (sealed files (sheet_of box) 1 ≡ opening true)) → Did n files es k p ⊎ (OfMove g × (sealed files (sheet_of box) 1 ≡ opening true))
      go (inl a) = inl (subst (λ c. Did n files es c p) (only a.adds.by a.adds.page) (did n files es p g a))
      go (inr o) = inr o

  -- an action's opening is carried, or not
  pub opening_lies : (a : ℕ) → Known (fate_of m.log a) → Lies m.log a (opening false) ⊎ IsCarried files box a
  opening_lies a h = go (carried_of m.log a) refl
    where
      go : (c : Bool) → carried_of m.log a ≡ c → Lies m.log a (opening false) ⊎ IsCarried files box a
      go false e = inl (opening_in m.log a lawful h e)
      go true e =
          let p = known_place m.log a lawful h in
          inr (log_page N files box m a p.0 p.1 ∙ carried_first (entry_in m.log a) (sym (carried_entry m.log a) ∙ e))

  pub run_begun_only : (action fate place : ℕ) → answer_to box (calls (test action)) ≡ some (Told fate place) → Did n files es begin action ⊎ IsCarried files box action
  run_begun_only action fate place e = go (opening_lies action (told_fate N files box m action fate place e).1)
    where
      turn : Did n files es begin action ⊎ (OfMove (opening false) × (sealed files (sheet_of box) 1 ≡ opening true)) → Did n files es begin action ⊎ IsCarried files box action
      turn (inl d) = inl d
      turn (inr o) = absurd (false≢true o.0)

      go : Lies m.log action (opening false) ⊎ IsCarried files box action → Did n files es begin action ⊎ IsCarried files box action
      go (inl y) = turn (done action (opening false) begin solid_opening call_opening y)
      go (inr y) = inr y

  pub run_decided_only : (action place : ℕ) (c : Bool) → answer_to box (calls (test action)) ≡ some (Told (cond c 2 3) place) → Did n files es (decide action c) place ⊎ (IsCarried files box action × (c ≡ true))
  run_decided_only action place c e =
      let t = told_fate N files box m action (cond c 2 3) place e in
      let o = outcome_lies m.log action c (same_fate (t.2 ∙ told_number c)) in
      go (done place (outcome action c) (decide action c) (solid_outcome action c) (λ k h. call_outcome k action c h) (subst (λ p. Lies m.log p (outcome action c)) t.3 o))
    where
      go : Did n files es (decide action c) place ⊎ (((action ≡ 1) × (c ≡ true)) × (sealed files (sheet_of box) 1 ≡ opening true)) → Did n files es (decide action c) place ⊎ (IsCarried files box action × (c ≡ true))
      go (inl d) = inl d
      go (inr y) = inr (subst (IsCarried files box) (sym y.0.0) y.1, y.0.1)

  -- ---- one outcome

  pub run_one_outcome : (action place place' : ℕ) (c d : Bool) → sealed files (sheet_of box) place ≡ outcome action c → sealed files (sheet_of box) place' ≡ outcome action d → place ≡ place'
  run_one_outcome action place place' c d e f = sym (here place c e) ∙ here place' d f
    where
      here : (p : ℕ) (c : Bool) → sealed files (sheet_of box) p ≡ outcome action c → outcome_of m.log action ≡ p
      here p c e = outcome_only m.log action c p lawful (page_lies_in N files box m p (outcome action c) (solid_outcome action c) e)

  -- ---- an undecided action can be decided

  room_left : sealed files (sheet_of box) N ≡ blank → length m.log < N
  room_left e = go (leb N (length m.log)) refl
    where
      o : length m.log ≤ N
      o = omega (arith, m.at.holds.room)

      go : (b : Bool) → leb N (length m.log) ≡ b → length m.log < N
      go false q = leb-false N (length m.log) q
      go true q =
          let full : length m.log ≡ N = omega (arith, leb-true N (length m.log) q, o) in
          let some : 1 ≤ N = (bounds N files m.at.sized).some_pages in
          let here : sealed files (sheet_of box) N ≡ entry_in m.log N = lies_page N files box m N (entry_in m.log N) (record { low = some; high = omega arith; here = refl }) in
          absurd (false≢true (sym (top_solid m.log lawful (omega arith)) ∙ ap is_blank (ap (entry_in m.log) full ∙ sym here ∙ e)))

  pub run_can_be_decided : (action p : ℕ) (c : Bool) → answer_to box (calls (test action)) ≡ some (Told 1 p) → sealed files (sheet_of box) N ≡ blank
      → (place : ℕ) × (answer_to box (calls (decide action c)) ≡ some (Stored place))
  run_can_be_decided action p c e q =
      let t = told_fate N files box m action 1 p e in
      let u = status_by N files box m action undecided (same_fate t.2) in
      let room : 1 ≤ m.model.pages - m.model.used = omega (arith, room_left q, m.at.pages_are, m.at.says.used) in
      (suc m.model.used, answer_is N files box m (calls (decide action c)) tt ∙ rw (t.0, u, le-leb 1 (m.model.pages - m.model.used) room))

  -- ---- whole or not at all

  told_two : is_on box ≡ true → (action p : ℕ) → m.model.status action ≡ some (model.committed p) → answer_to box (calls (test action)) ≡ some (Told 2 p)
  told_two o action p e = answer_is N files box m (calls (test action)) tt ∙ rw (o, e)

  all_show : (action p : ℕ) → answer_to box (calls (test action)) ≡ some (Told 2 p) → AllShow files box action
  all_show action p h place i here mine = hears box (calls (read i.file i.start 0)) (Value place i.start (length i.value))
      (box_all N files box m place i here p (subst (λ x. answer_to box (calls (test x)) ≡ some (Told 2 p)) (sym mine) h))

  none_shows : (action : ℕ) → ((p : ℕ) → answer_to box (calls (test action)) ≡ some (Told 2 p) → ⊥) → NoneShows files box action
  none_shows action h file time reader place start size i other here mine e =
      let v = box_shows N files box m file time reader place start size (answered box (calls (read file time reader)) (Value place start size) e) in
      let a : v.seen.action ≡ action = ap (λ (x : Image). x.action) (image_same (sym v.effective.here ∙ here)) ∙ mine in
      let w = v.whose (λ q. other (sym q ∙ a)) in
      h w.0 (subst (λ x. answer_to box (calls (test x)) ≡ some (Told 2 w.0)) a (answered box (calls (test v.seen.action)) (Told 2 w.0) w.1))

  not_two : (action : ℕ) (x : Fate) → fate_of m.log action ≡ x → (fate_number x ≡ 2 → ⊥) → NoneShows files box action
  not_two action x e h = none_shows action (λ p q. h (ap fate_number (sym e) ∙ (told_fate N files box m action 2 p q).2))

  pub run_whole_or_none : (action : ℕ) → AllShow files box action ⊎ NoneShows files box action
  run_whole_or_none action = go (is_on box) refl (fate_of m.log action) refl
    where
      go : (c : Bool) → is_on box ≡ c → (x : Fate) → fate_of m.log action ≡ x → AllShow files box action ⊎ NoneShows files box action
      go c o unknown e = inr (not_two action unknown e (λ q. omega arith))
      go c o undecided e = inr (not_two action undecided e (λ q. omega arith))
      go c o aborted e = inr (not_two action aborted e (λ q. omega arith))
      go true o committed e = inl (all_show action _ (told_two o action _ (status_by N files box m action committed e)))
      go false o committed e = inr (none_shows action (λ p q. false≢true (sym o ∙ (told_fate N files box m action 2 p q).0)))

  -- ---- what is read was written

  pub run_was_written : (file time reader place start size : ℕ) → answer_to box (calls (read file time reader)) ≡ some (Value place start size) → WasWritten n files es file reader place start size
  run_was_written file time reader place start size e = go (origin n files es r place (image i) (solid_image i) v.effective.here) (whence n files es r place i v.effective.here)
    where
      v : Shown files box file time reader place start size
      v = box_shows N files box m file time reader place start size e

      i : Image
      i = v.seen

      bytes : take size (value_in (page_bytes (sheet_of box) place)) ≡ i.value
      bytes = ap (λ x. take x (value_in (page_bytes (sheet_of box) place))) (sym v.is.2) ∙ value_bytes files (sheet_of box) place i v.effective.here

      -- the write of an image like it
      as_asked : (j : Image) → SameVersion j i → write j.file j.start j.action j.value ≡ write file start j.action i.value
      as_asked j s = λ t. write ((s.file ∙ v.is.0) t) ((s.start ∙ v.is.1) t) j.action (s.value t)

      by_write : Added (blank_box n) es place (image i) → WasWritten n files es file reader place start size
      by_write a =
          let d : Did n files es (write file start i.action i.value) place =
          subst (λ c. Did n files es c place) (call_image a.adds.by i a.adds.page ∙ as_asked i (record { file = refl; start = refl; value = refl })) (did n files es place (image i) a) in
          record { writer = i.action; value = i.value; at = place; wrote = d.once; bytes = bytes; long = sym v.is.2; whose = inl (d, v.whose) }

      by_move : (k : WasVersion files (blank_box n) es i) → Added (blank_box n) k.before k.place (image k.old) → (i.action ≡ 1) × (sealed files (sheet_of box) 1 ≡ opening true)
          → WasWritten n files es file reader place start size
      by_move k a o =
          let j : Image = k.old in
          let c : a.adds.by ≡ write file start j.action i.value = call_image a.adds.by j a.adds.page ∙ as_asked j k.same in
          let d : Did n files k.before (write file start j.action i.value) k.place = subst (λ c. Did n files k.before c k.place) c (did n files k.before k.place (image j) a) in
          let f : j.file ≡ file = k.same.file ∙ v.is.0 in
          record {
            writer = j.action;
            value = i.value;
            at = k.place;
            wrote = record { before = d.once.before; event = d.once.event; rest = d.once.rest ++ k.rest; parts = longer es k.before k.rest d.once.before d.once.rest d.once.event k.parts d.once.parts; whole = d.once.whole; stored = d.once.stored };
            bytes = bytes;
            long = sym v.is.2;
            whose = inr (
              record {
                before = k.before;
                rest = k.rest;
                parts = k.parts;
                moved = k.moved;
                wrote = d;
                version = (
                  j.link,
                  subst (IsVersion files (runs (blank_box n) k.before) file k.place) (λ t. record { file = f t; action = j.action; link = j.link; start = (k.same.start ∙ v.is.1) t; value = k.same.value t })
                      (subst (λ g. IsVersion files (runs (blank_box n) k.before) g k.place j) f k.version),
                );
              },
              (i, v.effective.here, subst (IsCarried files box) (sym o.0) o.1),
            );
          }

      go : Added (blank_box n) es place (image i) ⊎ ((i.action ≡ 1) × (sealed files (sheet_of box) 1 ≡ opening true))
          → Added (blank_box n) es place (image i) ⊎ ((k : WasVersion files (blank_box n) es i) × Added (blank_box n) k.before k.place (image k.old)) → WasWritten n files es file reader place start size
      go (inl a) y = by_write a
      go (inr o) (inl a) = by_write a
      go (inr o) (inr y) = by_move y.0 y.1 o
