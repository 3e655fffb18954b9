-- Reads past moves: the version that was shown is shown, with its start and its value's bytes, or what was shown is left behind, and the file
-- has a version that was carried over and starts later.
use Prim.Native.Nat.{ℕ, max, ◌<◌}
use mathlib.Core.Path.{◌≡◌, refl, sym, ap, ◌∙◌, subst}
use mathlib.Core.List.{List, [], ◌∷◌, map}
use mathlib.Core.Bool.{Bool, true, false, cond, ◌&&◌, ◌||◌, false≢true}
use mathlib.Core.Option.{Option, some, none}
use native.Mathlib.Omega.{arith}
use lib.ListN.{length, take}
use lib.Dec.{eqb, leb}
use Rattle.encoding.proofs.Logic.{by_test, clash}
use Rattle.page.specs.Answers.{value_in}
use Rattle.recovery.specs.Log.{Image, Placed, fate_of, effective_of}
use Rattle.recovery.specs.Sheet.{page_bytes}
use Rattle.recovery.specs.Numbers.{is_refused}
use Rattle.recovery.specs.declared.Refusal.TheVariants.{NoFile, HangingRead, OnOlderSheet}
use Rattle.recovery.specs.declared.Answer.{Answer}
use Rattle.recovery.specs.declared.Answer.TheVariants.{Refused, Value, Nothing}
use Rattle.recovery.proofs.Spots.{entry_in}
use Rattle.inspection.specs.Lawful.{versions}
use Rattle.calls.specs.Calls.{read}
use Rattle.promises.specs.Runs.{Box, on, off, sheet_of, Event, calls, answer_to, after, runs, moved_in, AllAllowed}
use Rattle.promises.specs.Model as model
use Rattle.promises.specs.Model.{Version, Status, Model, Reply, latest, shows, has_carried, refuses, of_pending, read_version, reading, model_call}
use Rattle.promises.specs.FromLog.{version_of, version_in}
use Rattle.promises.specs.Promises.{IsVersion, IsCarried, Alike, neither, same, early, AnsweredAlike}
use Rattle.promises.proofs.logs.Logs.{known_place}
use Rattle.promises.proofs.logs.Versions as found
use Rattle.promises.proofs.logs.Versions.{version, Among, first, next, among_versions, versions_among, all_later}
use Rattle.promises.proofs.logs.Histories.{latest_is}
use Rattle.promises.proofs.worlds.LogSays.{carried_entry}
use Rattle.promises.proofs.boxes.Boxes.{is_on, Reached, log_page, model_says}
use Rattle.promises.proofs.boxes.BoxPages.{effective_out}
use Rattle.promises.proofs.boxes.BoxShown.{heard_on, effective_of_lem, fate}
use Rattle.promises.proofs.boxes.Found.{some_is, not_heard}
use Rattle.promises.proofs.boxes.Settled.{Settled}
use Rattle.promises.proofs.boxes.Lasting.{Shows, not_yet, this, gone, Lasts, FloorsFrom}
use Rattle.promises.proofs.boxes.Stable.{told_as, again, v, first_is, in_range, late, last}
use Rattle.promises.proofs.answers.Origins.{carried_first}
use Rattle.promises.proofs.answers.Carried.{log_version}
use Rattle.promises.proofs.answers.Seen.{value_bytes}

-- ---- the model's versions on a box's sheet

module _ (n files : ℕ) (b : Box) (r : Reached n files b) (file time : ℕ) where
  latest_in : latest time (r.model.object file).history ≡ version_in (version r.log file time)
  latest_in = ap (latest time) (r.at.says.history file) ∙ latest_is time (versions r.log file)

  -- its value's bytes
  pub value_here : (u : Version) → latest time (r.model.object file).history ≡ some u → take (length u.value) (value_in (page_bytes (sheet_of b) u.place)) ≡ u.value
  value_here u e = go (version r.log file time) refl (sym latest_in ∙ e)
    where
      go : (z : Option Placed) → version r.log file time ≡ z → version_in z ≡ some u → take (length u.value) (value_in (page_bytes (sheet_of b) u.place)) ≡ u.value
      go none q k = clash cc
      go (some x) q k =
          let i : version_of x ≡ u = cc in
          let a = versions_among (fate_of r.log) x (effective_of r.log file) (found.shows time x (versions r.log file) q).among in
          subst (λ (w : Version). take (length w.value) (value_in (page_bytes (sheet_of b) w.place)) ≡ w.value) i
          (value_bytes files (sheet_of b) x.place x.image (effective_out n files b r file x a.1).here)

  none_by : latest time (r.model.object file).history ≡ none → version r.log file time ≡ none
  none_by q = go (version r.log file time) (sym latest_in ∙ q)
    where
      go : (z : Option Placed) → version_in z ≡ none → z ≡ none
      go none e = refl
      go (some x) e = clash cc

  -- a version that was carried over, and that starts later
  pub record CarriedHere : Type 0 where
    pub place : ℕ
    pub seen : Image
    pub version_is : IsVersion files b file place seen
    pub carried_is : IsCarried files b seen.action
    pub later : time < seen.start

  find : (c : ℕ → Bool) (vs : List Placed) → has_carried c (map version_of vs) ≡ true → (x : Placed) × Among x vs × (c x.image.action ≡ true)
  unfolding has_carried
  find c [] e = absurd (false≢true e)
  find c (x ∷ vs) e = go (c x.image.action) refl e (find c vs)
    where
      go : (d : Bool) → c x.image.action ≡ d → (d || has_carried c (map version_of vs)) ≡ true
          → (has_carried c (map version_of vs) ≡ true → (y : Placed) × Among y vs × (c y.image.action ≡ true)) → (y : Placed) × Among y (x ∷ vs) × (c y.image.action ≡ true)
      go true q k r = (x, first, q)
      go false q k r = let f = r k in (f.0, next f.1, f.2)

  pub carried_here : is_on b ≡ true → latest time (r.model.object file).history ≡ none → has_carried r.model.carried (r.model.object file).history ≡ true → CarriedHere
  carried_here o q c =
      let f = find r.model.carried (versions r.log file) (subst (λ (h : List Version). has_carried r.model.carried h ≡ true) (r.at.says.history file) c) in
      let x : Placed = f.0 in
      let a : ℕ = x.image.action in
      let p = versions_among (fate_of r.log) x (effective_of r.log file) f.1 in
      let k = known_place r.log a r.at.holds.lawful (rw p.0 (omega arith)) in
      record {
        place = x.place;
        seen = x.image;
        version_is = log_version n files b r o file x f.1;
        carried_is = log_page n files b r a k.0 k.1 ∙ carried_first (entry_in r.log a) (sym (carried_entry r.log a) ∙ sym (r.at.says.carried a) ∙ f.2);
        later = all_later time x (versions r.log file) f.1 (none_by q);
      }

-- ---- 25

module _ (m : Model) (f t a : ℕ) where
  abbrev Early : Reply → Type 0
  Early x = x.0 ≡ Refused OnOlderSheet 0 → (latest t (m.object f).history ≡ none) × (has_carried m.carried (m.object f).history ≡ true)

  early_version : (z : Option Version) → latest t (m.object f).history ≡ z → Early (read_version m f t (m.object f) z)
  early_version none e = go (has_carried m.carried (m.object f).history) refl
    where
      go : (c : Bool) → has_carried m.carried (m.object f).history ≡ c → Early (cond c (refuses OnOlderSheet 0 m) (Nothing, model.with_object m f (model.asked_at t (m.object f))))
      go true q k = (e, q)
      go false q k = clash cc
  early_version (some x) e = λ k. clash cc

  early_reading : (z : Option Version) → Early (reading m f t a (m.object f) z)
  early_reading none = early_version (latest t (m.object f).history) refl
  early_reading (some x) =
      by_test Early (leb x.start t) (λ q. by_test Early (eqb x.action a)
      {x = (shows x, model.with_object m f (model.object (m.object f).history (m.object f).asked (m.object f).token (max (m.object f).tokenasked t)))} {y = refuses HangingRead x.action m}
      (λ i k. clash cc) (λ i k. clash cc)) (λ q. early_version (latest t (m.object f).history) refl)

  early_pending : (z : Option Status) → Early (of_pending m z (reading m f t a (m.object f) (m.object f).token))
  early_pending none k = clash cc
  early_pending (some model.pending) k = early_reading (m.object f).token k
  early_pending (some (model.committed p)) k = clash cc
  early_pending (some (model.aborted p)) k = clash cc

  model_early : Early (model_call m (read f t a))
  model_early =
      by_test Early (leb 1 f && leb f m.files) {y = refuses NoFile 0 m}
      (λ e. by_test Early (eqb a 0) {x = reading m f t a (m.object f) (m.object f).token} {y = of_pending m (m.status a) (reading m f t a (m.object f) (m.object f).token)}
      (λ q. early_reading (m.object f).token) (λ q. early_pending (m.status a))) (λ e k. clash cc)

module _ (n files : ℕ) (b : Box) (r : Reached n files b) (file time action : ℕ) where
  pub early_only : answer_to b (calls (read file time action)) ≡ some (Refused OnOlderSheet 0)
      → ((p : ℕ) × (i : Image) × IsVersion files b file p i × IsCarried files b i.action) × ((p : ℕ) (i : Image) → IsVersion files b file p i → time < i.start)
  early_only e =
      let k = heard_on n files b r (read file time action) tt (Refused OnOlderSheet 0) e in
      let h = model_early r.model file time action k.1 in
      let c = carried_here n files b r file time k.0 h.0 h.1 in (
        (c.place, c.seen, c.version_is, c.carried_is),
        λ p i w. all_later time (record { place = p; image = i }) (versions r.log file)
            (among_versions (fate_of r.log) (record { place = p; image = i }) (effective_of r.log file) (effective_of_lem n files b r file time action p i w) (fate n files b r file time action p i w)) (none_by n files b r file time h.0),
      )

-- ---- alike

module _ (n files : ℕ) (b : Box) (r : Reached n files b) (file time : ℕ) where
  pub alike_by : {d : ℕ} (g : Bool) (b' : Box) (q : Reached d files b') → is_on b' ≡ true → {z : Option Version} → latest time (r.model.object file).history ≡ z
      → Shows g q.model.carried (q.model.object file).history time z → (x y : Answer) → x ≡ told_as z → y ≡ (read_version q.model file time (q.model.object file) (latest time (q.model.object file).history)).0
      → AnsweredAlike files g b b' file time x y
  alike_by false b' q o l (not_yet e c) x y hx hy = let z : y ≡ Nothing = rw (e, c) at hy in z ∙ sym hx
  alike_by true b' q o l (not_yet e c) x y hx hy =
      let hy' : y ≡ Nothing = rw (e, c) at hy in
      subst (Alike files b b' file time x) (sym hy') (subst (λ (a : Answer). Alike files b b' file time a Nothing) (sym hx) neither)
  alike_by false b' q o l (this w u e k) x y hx hy = let z : y ≡ shows u = rw e at hy in z ∙ ap shows k ∙ sym hx
  alike_by {d} true b' q o l (this w u e k) x y hx hy =
      let z : y ≡ shows u = rw e at hy in
      let hy' : y ≡ Value u.place w.start (length w.value) = z ∙ (λ i. Value u.place (k.0 i) (length (k.1 i))) in
      let bytes : take (length w.value) (value_in (page_bytes (sheet_of b') u.place)) ≡ take (length w.value) (value_in (page_bytes (sheet_of b) w.place)) =
      ap (λ (c : List ℕ). take (length c) (value_in (page_bytes (sheet_of b') u.place))) (sym k.1) ∙ value_here d files b' q file time u e ∙ k.1 ∙ sym (value_here n files b r file time w l) in
      subst (Alike files b b' file time x) (sym hy') (subst (λ (a : Answer). Alike files b b' file time a (Value u.place w.start (length w.value))) (sym hx) (same w.place u.place w.start (length w.value) bytes))
  alike_by false b' q o l (gone z t e c) x y hx hy = absurd (false≢true t)
  alike_by {d} true b' q o l (gone z t e c) x y hx hy =
      let hy' : y ≡ Refused OnOlderSheet 0 = rw (e, c) at hy in
      let h = carried_here d files b' q file time o e c in
      subst (Alike files b b' file time x) (sym hy') (early x h.place h.seen h.version_is h.carried_is h.later)

module _ (n files : ℕ) (file time : ℕ) (x : Answer) (ok : is_refused x ≡ false) (es : List Event) (f : FloorsFrom time es) where
  pub box_alike : (b : Box) (r : Reached n files b) → Settled r.model → AllAllowed files (after b (calls (read file time 0))) es → answer_to b (calls (read file time 0)) ≡ some x
      → (y : Answer) → answer_to (runs (after b (calls (read file time 0))) es) (calls (read file time 0)) ≡ some y
      → AnsweredAlike files (moved_in (after b (calls (read file time 0))) es) b (runs (after b (calls (read file time 0))) es) file time x y
  box_alike (on m) r z al e y h = go (runs (after (on m) (calls (read file time 0))) es) (late n files m r z file time x (some_is e) ok es al f) (last n files m r z file time x (some_is e) ok es al f) h
    where
      go : {k : ℕ} {g : Bool} (b' : Box) (q : Reached k files b') → Lasts g (is_on b') q.model file time (v n files m r z file time x (some_is e) ok es al f) → answer_to b' (calls (read file time 0)) ≡ some y
          → AnsweredAlike files g (on m) b' file time x y
      go {k} {g} (on m') q t p =
          alike_by n files (on m) r file time g (on m') q refl refl t.shows x y (first_is n files m r z file time x (some_is e) ok es al f)
          (sym (some_is p) ∙ model_says k files m' q (read file time 0) ∙ again q.model file time (rw q.at.files_are (in_range n files m r z file time x (some_is e) ok es al f)) t.clear)
      go (off s) q t p = not_heard p
  box_alike (off s) r z al e y h = not_heard e
