-- A log says what the object model has; and what each page that fits makes of it.
use Prim.Native.Nat.{ℕ, suc, pred, max, ◌≤◌, ◌<◌}
use mathlib.Core.Path.{◌≡◌, refl, sym, ap, ◌∙◌}
use mathlib.Core.List.{List, [], ◌∷◌, map}
use mathlib.Core.Bool.{Bool, true, false, cond}
use mathlib.Core.Option.{Option, some, none}
use native.Mathlib.Omega.{arith}
use lib.ListN.{length}
use Rattle.encoding.proofs.Logic.{by_test}
use lib.Dec.{eqb}
use borrow.Author.Tests.{eqb-true, eqb-false, eq-eqb, ne_eqb}
use Rattle.recovery.specs.Log as log
use Rattle.recovery.specs.Log.{Image, Entry, torn, opening, image, outcome, undecided, Placed, fate_of, outcome_of, images_of, verdict, place_of, start_of}
use Rattle.recovery.specs.World.{is_carried, fates_of, undecided_of}
use Rattle.recovery.proofs.Spots.{entry_in}
use Rattle.inspection.specs.Lawful.{versions, current, token}
use Rattle.promises.specs.Model.{Object, object, current_end, token_end, Status, pending, Model, action_of, newest, placed, since, changed, stores, asked_before, decided_as, ended, ended_by, model_opened}
use Rattle.promises.specs.FromLog.{status_of, version_of, version_in, carried_of, history}
use Rattle.promises.proofs.logs.Logs.{ImageFits, Lawful}
use Rattle.promises.proofs.logs.Appends.{opening_versions, opening_token, image_versions, image_token, owns, longer, outcome_versions, outcome_token}
use Rattle.promises.proofs.logs.Fates.{opening_undecided, outcome_undecided}
use Rattle.promises.proofs.logs.Histories.{newest_is}

abbrev pub with_objects : Model → (ℕ → Object) → Model
with_objects m h = record { pages = m.pages; files = m.files; used = m.used; floor = m.floor; undecided = m.undecided; status = m.status; carried = m.carried; object = h }

pub record Says (l : List Entry) (m : Model) : Type 0 where
  pub used : m.used ≡ length l
  pub undecided : m.undecided ≡ undecided_of (fates_of m.pages l)
  pub status : (a : ℕ) → m.status a ≡ status_of (fate_of l a) (outcome_of l a)
  pub carried : (a : ℕ) → m.carried a ≡ carried_of l a
  pub history : (f : ℕ) → (m.object f).history ≡ history l f
  pub token : (f : ℕ) → (m.object f).token ≡ version_in (token l f)

-- an object with the token that is written, and once an action is decided
abbrev pub given : Model → ℕ → ℕ → ℕ → List ℕ → Object
given m f start a v = object (m.object f).history (m.object f).asked (some (record { place = suc m.used; action = a; start = start; value = v })) (asked_before (m.object f).tokenasked (m.object f).token)

abbrev pub left : Model → ℕ → Bool → ℕ → Object
left m a c f = ended_by a c (m.object f) (m.object f).token

-- the image that a write stores
abbrev pub written : List Entry → ℕ → ℕ → ℕ → List ℕ → Image
written l f start a v = record { file = f; action = a; link = place_of (current l f); start = start; value = v }

-- ---- a version in the log and in the model

pub since_is : (z : Option Placed) → since (version_in z) ≡ start_of z
since_is none = refl
since_is (some x) = refl

placed_is : (z : Option Placed) → placed (version_in z) ≡ place_of z
placed_is none = refl
placed_is (some x) = refl

acted_is : (z : Option Placed) → action_of (version_in z) ≡ log.action_of z
acted_is none = refl
acted_is (some x) = refl

version_cond : (b : Bool) (x y : Option Placed) → version_in (cond b x y) ≡ cond b (version_in x) (version_in y)
version_cond true x y = refl
version_cond false x y = refl

pub verdict_status : (c : Bool) (place : ℕ) → status_of (verdict c) place ≡ some (decided_as c place)
verdict_status true place = refl
verdict_status false place = refl

-- ---- carried openings

-- none lies above the log
pub carried_above : (l : List Entry) (a : ℕ) → length l < a → carried_of l a ≡ false
unfolding carried_of
carried_above [] a h = refl
carried_above (g ∷ l) a h = rw (ne_eqb a (suc (length l)) (λ e. omega arith)) (carried_above l a (omega arith))

pub carried_entry : (l : List Entry) (a : ℕ) → carried_of l a ≡ is_carried (entry_in l a)
unfolding carried_of
carried_entry [] a = refl
carried_entry (g ∷ l) a = by_test (λ (x : Entry). cond (eqb a (suc (length l))) (is_carried g) (carried_of l a) ≡ is_carried x) (eqb a (suc (length l))) (λ e. rw e) (λ e. rw e (carried_entry l a))

-- a page that is none, on top
carried_more : (g : Entry) (l : List Entry) → is_carried g ≡ false → (a : ℕ) → carried_of (g ∷ l) a ≡ carried_of l a
unfolding carried_of
carried_more g l h a = by_test (λ (x : Bool). x ≡ carried_of l a) (eqb a (suc (length l))) (λ e. h ∙ sym (carried_above l a (omega (arith, eqb-true a (suc (length l)) e)))) (λ e. refl)

-- ---- one object changed

module _ {A : Type 0} (P : Object → A) (h : ℕ → Object) (f : ℕ) (x : Object) (k : ℕ → A) (same : (g : ℕ) → P (h g) ≡ k g) where
  changed_at : (v : A) → P x ≡ v → (g : ℕ) → P (changed h f x g) ≡ cond (eqb f g) v (k g)
  changed_at v e g = go (eqb g f) refl
    where
      go : (b : Bool) → eqb g f ≡ b → P (cond b x (h g)) ≡ cond (eqb f g) v (k g)
      go true q = rw (eq-eqb f g (sym (eqb-true g f q))) e
      go false q = rw (ne_eqb f g (λ z. eqb-false g f q (sym z))) (same g)

  pub changed_not : P x ≡ k f → (g : ℕ) → P (changed h f x g) ≡ k g
  changed_not e g = go (eqb g f) refl
    where
      go : (b : Bool) → eqb g f ≡ b → P (cond b x (h g)) ≡ k g
      go true q = rw (eqb-true g f q) e
      go false q = same g

-- ---- fates

-- what a log says became of an action
abbrev status_in : List Entry → ℕ → Option Status
status_in l a = status_of (fate_of l a) (outcome_of l a)

opening_status : (l : List Entry) (a : ℕ) → status_in (opening false ∷ l) a ≡ cond (eqb a (suc (length l))) (some pending) (status_in l a)
unfolding fate_of outcome_of
opening_status l a = go (eqb a (suc (length l)))
  where
    go : (b : Bool) → status_of (cond b undecided (fate_of l a)) (outcome_of l a) ≡ cond b (some pending) (status_in l a)
    go true = refl
    go false = refl

image_status : (i : Image) (l : List Entry) (a : ℕ) → status_in (image i ∷ l) a ≡ status_in l a
unfolding fate_of outcome_of
image_status i l a = refl

outcome_status : (b : ℕ) (c : Bool) (l : List Entry) (a : ℕ) → status_in (outcome b c ∷ l) a ≡ cond (eqb a b) (some (decided_as c (suc (length l)))) (status_in l a)
unfolding fate_of outcome_of
outcome_status b c l a = go (eqb a b)
  where
    go : (x : Bool) → status_of (cond x (verdict c) (fate_of l a)) (cond x (suc (length l)) (outcome_of l a)) ≡ cond x (some (decided_as c (suc (length l)))) (status_in l a)
    go true = verdict_status c (suc (length l))
    go false = refl

fates_image : (n : ℕ) (i : Image) (l : List Entry) → fates_of n (image i ∷ l) ≡ fates_of n l
unfolding fate_of
fates_image n i l = refl

-- ---- what an outcome leaves of an object, by its token

module _ (a : ℕ) (c : Bool) (x : Object) where
  left_history : (vs : List Placed) (z : Option Placed) → x.history ≡ map version_of vs → (ended_by a c x (version_in z)).history ≡ map version_of (cond (owns a z) (longer c z vs) vs)
  left_history vs none q = q
  left_history vs (some y) q = go (eqb y.image.action a) c
    where
      go : (b c : Bool) → (cond b (ended c x (version_of y)) x).history ≡ map version_of (cond b (longer c (some y) vs) vs)
      go true true = ap (λ h. version_of y ∷ h) q
      go true false = q
      go false c = q

  left_token : (z : Option Placed) → x.token ≡ version_in z → (ended_by a c x (version_in z)).token ≡ version_in (cond (owns a z) none z)
  left_token none q = q
  left_token (some y) q = go (eqb y.image.action a) c
    where
      go : (b c : Bool) → (cond b (ended c x (version_of y)) x).token ≡ version_in (cond b none (some y))
      go true true = refl
      go true false = refl
      go false c = q

  pub left_current : (z : Option Placed) → x.token ≡ version_in z → current_end (ended_by a c x (version_in z)) ≡ cond (owns a z) (cond c (token_end x) (current_end x)) (current_end x)
  left_current none q = refl
  left_current (some y) q = go (eqb y.image.action a) c
    where
      go : (b c : Bool) → current_end (cond b (ended c x (version_of y)) x) ≡ cond b (cond c (token_end x) (current_end x)) (current_end x)
      go true true = ap (λ t. max (since t) x.tokenasked) (sym q)
      go true false = refl
      go false c = refl

  pub left_end : (z : Option Placed) → token_end (ended_by a c x (version_in z)) ≡ cond (owns a z) 0 (token_end x)
  left_end none = refl
  left_end (some y) = go (eqb y.image.action a) c
    where
      go : (b c : Bool) → token_end (cond b (ended c x (version_of y)) x) ≡ cond b 0 (token_end x)
      go true true = refl
      go true false = refl
      go false c = refl

-- ---- each page that fits, as the model takes it

module _ (l : List Entry) (m : Model) (s : Says l m) where
  pub newest_since : (f : ℕ) → since (newest (m.object f).history) ≡ start_of (current l f)
  newest_since f = ap (λ h. since (newest h)) (s.history f) ∙ ap since (newest_is (versions l f)) ∙ since_is (current l f)

  pub newest_placed : (f : ℕ) → placed (newest (m.object f).history) ≡ place_of (current l f)
  newest_placed f = ap (λ h. placed (newest h)) (s.history f) ∙ ap placed (newest_is (versions l f)) ∙ placed_is (current l f)

  pub token_acted : (f : ℕ) → action_of (m.object f).token ≡ log.action_of (token l f)
  token_acted f = ap action_of (s.token f) ∙ acted_is (token l f)

  pub token_placed : (f : ℕ) → placed (m.object f).token ≡ place_of (token l f)
  token_placed f = ap placed (s.token f) ∙ placed_is (token l f)

  pub opening_says : Lawful l → length l < m.pages → Says (opening false ∷ l) (stores m (suc m.undecided) (changed m.status (suc m.used) (some pending)) m.object)
  opening_says w room = record {
    used = ap suc s.used;
    undecided = ap suc s.undecided ∙ sym (opening_undecided m.pages l w room);
    status = λ a. rw (s.used, s.status a) (sym (opening_status l a));
    carried = λ a. s.carried a ∙ sym (carried_more (opening false) l refl a);
    history = λ f. s.history f ∙ ap (map version_of) (sym (opening_versions l f w));
    token = λ f. s.token f ∙ ap version_in (sym (opening_token l f w));
  }

  pub torn_says : Says (torn ∷ l) (stores m m.undecided m.status m.object)
  unfolding fate_of outcome_of images_of
  torn_says = record { used = ap suc s.used; undecided = s.undecided; status = s.status; carried = λ a. s.carried a ∙ sym (carried_more torn l refl a); history = s.history; token = s.token }

  pub image_says : (f start a : ℕ) (v : List ℕ) → ImageFits (written l f start a v) l
      → Says (image (written l f start a v) ∷ l) (stores m m.undecided m.status (changed m.object f (given m f start a v)))
  image_says f start a v i = record {
    used = ap suc s.used;
    undecided = s.undecided ∙ ap undecided_of (sym (fates_image m.pages (written l f start a v) l));
    status = λ b. s.status b ∙ sym (image_status (written l f start a v) l b);
    carried = λ b. s.carried b ∙ sym (carried_more (image (written l f start a v)) l refl b);
    history = λ g. changed_not (λ x. x.history) m.object f (given m f start a v) (history l) s.history (s.history f) g ∙ ap (map version_of) (sym (image_versions (written l f start a v) l g i));
    token = λ g.
        changed_at (λ x. x.token) m.object f (given m f start a v) (λ h. version_in (token l h)) s.token (some (version_of new)) (ap some new_is) g
        ∙ sym (ap version_in (image_token (written l f start a v) l g i) ∙ version_cond (eqb f g) (some new) (token l g));
  }
    where
      new : Placed
      new = record { place = suc (length l); image = written l f start a v }

      new_is : record { place = suc m.used; action = a; start = start; value = v } ≡ version_of new
      new_is = λ i. record { place = suc (s.used i); action = a; start = start; value = v }

  pub left_is : (a : ℕ) (c : Bool) (f : ℕ) → left m a c f ≡ ended_by a c (m.object f) (version_in (token l f))
  left_is a c f = ap (ended_by a c (m.object f)) (s.token f)

  pub outcome_says : Lawful l → length l ≤ m.pages → (a : ℕ) (c : Bool) → fate_of l a ≡ undecided
      → Says (outcome a c ∷ l) (stores m (pred m.undecided) (changed m.status a (some (decided_as c (suc m.used)))) (left m a c))
  outcome_says w room a c o = record {
    used = ap suc s.used;
    undecided = ap pred (s.undecided ∙ sym (outcome_undecided m.pages l a c w room o));
    status = λ b. rw (s.used, s.status b) (sym (outcome_status a c l b));
    carried = λ b. s.carried b ∙ sym (carried_more (outcome a c) l refl b);
    history = λ f. ap (λ x. x.history) (left_is a c f) ∙ left_history a c (m.object f) (versions l f) (token l f) (s.history f) ∙ ap (map version_of) (sym (outcome_versions a c l f o w));
    token = λ f. ap (λ x. x.token) (left_is a c f) ∙ left_token a c (m.object f) (token l f) (s.token f) ∙ ap version_in (sym (outcome_token a c l f o w));
  }

  pub opened_says : (floor : ℕ) → Says l (model_opened m floor)
  opened_says floor = record { used = s.used; undecided = s.undecided; status = s.status; carried = s.carried; history = s.history; token = s.token }
