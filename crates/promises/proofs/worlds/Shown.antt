-- A committed action shows its effective images: a read at its start finds each. An undecided one shows them to itself.
use mathlib.Core.Path.{◌≡◌, refl, sym, ap, ◌∙◌, subst}
use mathlib.Core.List.{List, [], ◌∷◌, head?}
use mathlib.Core.Bool.{true, ◌&&◌}
use mathlib.Core.Option.{Option, some, none, some-ne-none}
use Prim.Native.Nat.{ℕ, ◌≤◌, ◌<◌}
use native.Mathlib.Omega.{arith}
use lib.ListN.{length}
use lib.Dec.{leb}
use borrow.Author.Tests.{eq-eqb, ne_eqb, le-leb, lt-leb}
use Rattle.recovery.specs.Log.{Image, Entry, Fate, unknown, undecided, committed, aborted, Placed, fate_of, effective_of, versions_step, token_step, versions_of, current_of, token_of, start_of}
use Rattle.recovery.specs.declared.Answer.TheVariants.{Value}
use Rattle.recovery.proofs.LogFates.{undecided_known, decided_free}
use Rattle.inspection.specs.Lawful.{versions, token}
use Rattle.calls.specs.Calls.{read}
use Rattle.promises.proofs.logs.Logs.{Lawful, Known, Decided, not_undecided, known_place}
use Rattle.promises.proofs.logs.Chains.{Ordered, Chain, versions_ordered, chain}
use Rattle.promises.proofs.logs.Versions.{Among, first, next, among_versions, newest, shown}
use Rattle.promises.proofs.logs.Newest.{each_among}
use Rattle.promises.proofs.logs.Histories.{latest_is}
use Rattle.promises.specs.Model.{Model, latest, read_version, read_history, reading, model_call}
use Rattle.promises.specs.FromLog.{version_in}
use Rattle.promises.proofs.worlds.LogSays.{Says}

-- a token starts after every version, and an effective image that is undecided is its file's token
pub token_later : (φ : ℕ → Fate) (xs : List Placed) (y : Placed) → Chain φ xs → token_of φ xs ≡ some y → start_of (current_of φ xs) < y.image.start
unfolding token_of versions_of
token_later φ [] y h e = absurd (some-ne-none _ (sym e))
token_later φ (x ∷ xs) y h e = go (φ x.image.action) h.0 e
  where
    go : (q : Fate) → Known q → token_step q x (token_of φ xs) ≡ some y → start_of (head? (versions_step q x (versions_of φ xs))) < y.image.start
    go unknown k r = absurd (omega arith)
    go undecided k r = let i : x ≡ y = cc in rw (← i) h.1.later
    go committed k r = absurd (some-ne-none _ (sym r))
    go aborted k r = absurd (some-ne-none _ (sym r ∙ decided_free φ xs h.2))

undecided_token : (φ : ℕ → Fate) (x : Placed) (xs : List Placed) → Chain φ xs → Among x xs → φ x.image.action ≡ undecided → token_of φ xs ≡ some x
unfolding token_of
undecided_token φ x xs h first e = rw e
undecided_token φ x xs h (next {y} {xs = ys} m) e = not_undecided (φ x.image.action) (each_among (λ z. Decided (φ z.image.action)) x ys h.2 m) e

module _ (l : List Entry) (m : Model) (w : Lawful l) (s : Says l m) where
  -- a read at its start finds a committed one
  pub committed_shown : (p : ℕ) (i : Image) → Among (record { place = p; image = i }) (effective_of l i.file) → (leb 1 i.file && leb i.file m.files) ≡ true → fate_of l i.action ≡ committed
      → (model_call m (read i.file i.start 0)).0 ≡ Value p i.start (length i.value)
  committed_shown p i h f c =
      rw f (subst (λ z. (reading m i.file i.start 0 (m.object i.file) z).0 ≡ Value p i.start (length i.value)) (sym (s.token i.file)) (go (token l i.file) refl))
    where
      x : Placed
      x = record { place = p; image = i }

      k : Chain (fate_of l) (effective_of l i.file)
      k = chain l i.file w

      o : Ordered (versions l i.file)
      o = versions_ordered (fate_of l) (effective_of l i.file) k

      a : Among x (versions l i.file)
      a = among_versions (fate_of l) x (effective_of l i.file) h c

      found : (read_history m i.file i.start (m.object i.file)).0 ≡ Value p i.start (length i.value)
      found = ap (λ z. (read_version m i.file i.start (m.object i.file) z).0)
          (ap (latest i.start) (s.history i.file) ∙ latest_is i.start (versions l i.file) ∙ ap version_in (shown x (versions l i.file) o a))

      go : (z : Option Placed) → token l i.file ≡ z → (reading m i.file i.start 0 (m.object i.file) (version_in z)).0 ≡ Value p i.start (length i.value)
      go none q = found
      go (some y) q = rw (lt-leb y.image.start i.start (omega (arith, token_later (fate_of l) (effective_of l i.file) y k q, newest x (versions l i.file) o a))) found

  -- a read of its own action finds an undecided one, from its start on
  pub own_shown : (p : ℕ) (i : Image) (t : ℕ) → Among (record { place = p; image = i }) (effective_of l i.file) → (leb 1 i.file && leb i.file m.files) ≡ true → fate_of l i.action ≡ undecided → i.start ≤ t
      → (model_call m (read i.file t i.action)).0 ≡ Value p i.start (length i.value)
  own_shown p i t h f d q = rw (
    f,
    ne_eqb i.action 0 (λ q. omega (arith, (known_place l i.action w (undecided_known d)).0)),
    s.status i.action,
    d,
    s.token i.file,
    undecided_token (fate_of l) (record { place = p; image = i }) (effective_of l i.file) (chain l i.file w) h d,
    le-leb i.start t q,
    eq-eqb i.action i.action refl,
  )
