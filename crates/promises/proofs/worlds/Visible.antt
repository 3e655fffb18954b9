-- What a read answers is an effective image of the file, committed or of the reader's own action; and of the versions that start by the time
-- none starts after it. Where it answers none, every version starts later.
use mathlib.Core.Path.{◌≡◌, refl, sym, ap, ◌∙◌, subst}
use mathlib.Core.List.{List}
use mathlib.Core.Option.{Option, some, none}
use Prim.Native.Nat.{ℕ, ◌≤◌, ◌<◌}
use native.Mathlib.Omega.{arith}
use lib.ListN.{length}
use Rattle.encoding.proofs.Logic.{clash}
use Rattle.recovery.specs.Log.{Image, Entry, undecided, committed, Placed, fate_of, effective_of}
use Rattle.recovery.specs.declared.Refusal.{Refusal}
use Rattle.recovery.specs.declared.Answer.TheVariants.{Value, Nothing}
use Rattle.recovery.proofs.LogFates.{undecided_known}
use Rattle.inspection.specs.Lawful.{versions, token}
use Rattle.calls.specs.Calls.{read, version_answer}
use Rattle.promises.proofs.logs.Logs.{Lawful, known_place}
use Rattle.promises.proofs.logs.Chains.{Ordered, versions_ordered, chain, token_live}
use Rattle.promises.proofs.logs.Versions as found
use Rattle.promises.proofs.logs.Versions.{version, Among, among_versions, versions_among, newest, Shows, highest, all_later}
use Rattle.promises.proofs.logs.Newest.{token_among, effective_spot}
use Rattle.promises.proofs.logs.Histories.{latest_is}
use Rattle.promises.specs.Model.{Version, Model, Reply, latest, shows, refuses, model_call}
use Rattle.promises.specs.FromLog.{version_of, version_in}
use Rattle.promises.proofs.worlds.ModelCalls.{reads}
use Rattle.promises.proofs.worlds.LogSays.{Says}
use Rattle.promises.proofs.worlds.Shown.{token_later}

pub data Whose (l : List Entry) (a : ℕ) (i : Image) : Type 0 where
  shared : fate_of l i.action ≡ committed → Whose l a i
  own : 1 ≤ a → i.action ≡ a → Whose l a i

-- no version of a file that starts by a time starts after s
abbrev pub Latest : List Entry → ℕ → ℕ → ℕ → Type 0
Latest l f t s = (x : Placed) → Among x (effective_of l f) → fate_of l x.image.action ≡ committed → x.image.start ≤ t → x.image.start ≤ s

abbrev pub AllLater : List Entry → ℕ → ℕ → Type 0
AllLater l f t = (x : Placed) → Among x (effective_of l f) → fate_of l x.image.action ≡ committed → t < x.image.start

pub record Visible (l : List Entry) (f t a p s n : ℕ) : Type 0 where
  pub seen : Image
  pub effective : Among (record { place = p; image = seen }) (effective_of l f)
  pub file : seen.file ≡ f
  pub start : seen.start ≡ s
  pub len : length seen.value ≡ n
  pub in_time : s ≤ t
  pub whose : Whose l a seen
  pub latest : Latest l f t s

module _ (l : List Entry) (m : Model) (w : Lawful l) (s : Says l m) (f t a : ℕ) where
  -- what a result says, if it is a value and if it is none
  record Sees (r : Reply) : Type 0 where
    pub value : (p st n : ℕ) → r.0 ≡ Value p st n → Visible l f t a p st n
    pub nothing : r.0 ≡ Nothing → AllLater l f t

  refused : (x : Refusal) (y : ℕ) → Sees (refuses x y m)
  refused x y = record {
    value = λ p st n e. clash cc;
    nothing = λ e. clash cc;
  }

  version_among : (y : Placed) → Among y (effective_of l f) → fate_of l y.image.action ≡ committed → Among y (versions l f)
  version_among y i c = among_versions (fate_of l) y (effective_of l f) i c

  ordered : Ordered (versions l f)
  ordered = versions_ordered (fate_of l) (effective_of l f) (chain l f w)

  make : (x : Placed) → Among x (effective_of l f) → x.image.start ≤ t → Whose l a x.image → Latest l f t x.image.start → (r : Model) → Sees (version_answer x, r)
  make x y k o h r = record {
    value = λ p st n e.
        let i : x.place ≡ p = cc in
        let j : x.image.start ≡ st = cc in
        record {
          seen = x.image;
          effective = rw i at y;
          file = (effective_spot l f x y).mine;
          start = j;
          len = cc;
          in_time = rw j at k;
          whose = o;
          latest = λ z d c u. rw j at (h z d c u);
        };
    nothing = λ e. clash cc;
  }

  -- outside the token
  sees_none : version l f t ≡ none → (r : Model) → Sees (Nothing, r)
  sees_none q r = record {
    value = λ p st n e. clash cc;
    nothing = λ e z d c. all_later t z (versions l f) (version_among z d c) q;
  }

  sees_version : (x : Placed) → version l f t ≡ some x → (r : Model) → Sees (version_answer x, r)
  sees_version x q r = go
    where
      k : Shows t x (versions l f)
      k = found.shows t x (versions l f) q

      o : (fate_of l x.image.action ≡ committed) × Among x (effective_of l f)
      o = versions_among (fate_of l) x (effective_of l f) k.among

      newest_in : Latest l f t x.image.start
      newest_in y i c u = highest t x y (versions l f) ordered (version_among y i c) u q

      go : Sees (version_answer x, r)
      go = make x o.1 k.in_time (shared o.0) newest_in r

  -- and its own
  sees_own : (x : Placed) → token l f ≡ some x → x.image.start ≤ t → x.image.action ≡ a → (r : Model) → Sees (version_answer x, r)
  sees_own x i q j r = make x (token_among (fate_of l) x (effective_of l f) i) q mine newest_in r
    where
      live : fate_of l x.image.action ≡ undecided
      live = token_live (fate_of l) (effective_of l f) x i

      mine : Whose l a x.image
      mine = own (rw j at (known_place l x.image.action w (undecided_known live)).0) j

      newest_in : Latest l f t x.image.start
      newest_in y n c u =
          omega (arith, newest y (versions l f) ordered (version_among y n c), token_later (fate_of l) (effective_of l f) x (chain l f w) i)

  -- the history, as the log has it
  latest_in : latest t (m.object f).history ≡ version_in (version l f t)
  latest_in = ap (latest t) (s.history f) ∙ latest_is t (versions l f)

  in_history : (z : Option Placed) → version l f t ≡ z → (x : Version) → version_in z ≡ some x → (r : Model) → Sees (shows x, r)
  in_history none q x e r = clash cc
  in_history (some y) q x e r = let i : version_of y ≡ x = cc in subst (λ v. Sees (shows v, r)) i (sees_version y q r)

  not_yet : (z : Option Placed) → version l f t ≡ z → version_in z ≡ none → (r : Model) → Sees (Nothing, r)
  not_yet none q e r = sees_none q r
  not_yet (some y) q e r = clash cc

  -- the token, as the log has it
  own_token : (z : Option Placed) → token l f ≡ z → (x : Version) → version_in z ≡ some x → x.start ≤ t → x.action ≡ a → (r : Model) → Sees (shows x, r)
  own_token none i x e j k r = clash cc
  own_token (some y) i x e j k r =
      let q : version_of y ≡ x = cc in
      subst (λ v. Sees (shows v, r)) q (sees_own y i (rw (← q) at j) (rw (← q) at k) r)

  sees_read : Sees (model_call m (read f t a))
  sees_read = reads Sees m refused f t a (λ x e. in_history (version l f t) refl x (sym latest_in ∙ e) _) (λ e. not_yet (version l f t) refl (sym latest_in ∙ e) _) (λ x e j k. own_token (token l f) refl x (sym (s.token f) ∙ e) j k _)

  pub read_shows : (p st n : ℕ) → (model_call m (read f t a)).0 ≡ Value p st n → Visible l f t a p st n
  read_shows p st n e = sees_read.value p st n e

  pub read_none : (model_call m (read f t a)).0 ≡ Nothing → AllLater l f t
  read_none e = sees_read.nothing e
