-- What a read finds outside its file's token: of the versions that start by the time, the one that starts last.
use mathlib.Core.Path.{◌≡◌, refl, sym}
use mathlib.Core.List.{List, [], ◌∷◌, head?}
use mathlib.Core.Bool.{Bool, true, false, cond}
use mathlib.Core.Option.{Option, some, none, some-ne-none}
use Prim.Native.Nat.{ℕ, ◌≤◌, ◌<◌}
use native.Mathlib.Omega.{arith}
use lib.Dec.{leb}
use borrow.Author.Tests.{leb-true, leb-false, le-leb, lt-leb}
use Rattle.recovery.specs.Log.{Entry, Fate, unknown, undecided, committed, aborted, Placed, versions_step, versions_of, start_of}
use Rattle.inspection.specs.Lawful.{versions}
use Rattle.promises.proofs.logs.Chains.{Ordered}

-- the newest version whose start is not above a time
unfoldable pub latest_of : ℕ → List Placed → Option Placed
latest_of t [] = none
latest_of t (x ∷ xs) = cond (leb x.image.start t) (some x) (latest_of t xs)

abbrev pub version : List Entry → ℕ → ℕ → Option Placed
version l f t = latest_of t (versions l f)

-- ---- the versions are those images, of the effective ones, whose action is committed

pub data Among (x : Placed) : List Placed → Type 0 where
  first : {xs : List Placed} → Among x (x ∷ xs)
  next : {y : Placed} {xs : List Placed} → Among x xs → Among x (y ∷ xs)

module _ (φ : ℕ → Fate) where
  pub among_versions : (x : Placed) (xs : List Placed) → Among x xs → φ x.image.action ≡ committed → Among x (versions_of φ xs)
  unfolding versions_of
  among_versions x xs first e = rw e first
  among_versions x xs (next {y} {xs = ys} m) e = go (φ y.image.action) (among_versions x ys m e)
    where
      go : (q : Fate) → Among x (versions_of φ ys) → Among x (versions_step q y (versions_of φ ys))
      go unknown r = r
      go undecided r = r
      go committed r = next r
      go aborted r = r

  abbrev Committed : Placed → List Placed → Type 0
  Committed x xs = (φ x.image.action ≡ committed) × Among x xs

  newest_or : (x y : Placed) (xs vs : List Placed) → φ y.image.action ≡ committed → (Among x vs → Committed x xs) → Among x (y ∷ vs) → Committed x (y ∷ xs)
  newest_or x y xs vs e r first = (e, first)
  newest_or x y xs vs e r (next m) = let k = r m in (k.0, next k.1)

  pub versions_among : (x : Placed) (xs : List Placed) → Among x (versions_of φ xs) → Committed x xs
  unfolding versions_of
  versions_among x [] m = elim m [ ]
  versions_among x (y ∷ ys) m = go (φ y.image.action) refl m (versions_among x ys)
    where
      go : (q : Fate) → φ y.image.action ≡ q → Among x (versions_step q y (versions_of φ ys)) → (Among x (versions_of φ ys) → Committed x ys) → Committed x (y ∷ ys)
      go unknown e m r = let k = r m in (k.0, next k.1)
      go undecided e m r = let k = r m in (k.0, next k.1)
      go committed e m r = newest_or x y ys (versions_of φ ys) e r m
      go aborted e m r = let k = r m in (k.0, next k.1)

-- ---- what is found

pub newest : (x : Placed) (vs : List Placed) → Ordered vs → Among x vs → x.image.start ≤ start_of (head? vs)
newest x vs o first = omega arith
newest x vs o (next {y} {xs = ws} m) = omega (arith, newest x ws o.1 m, o.0.later)

-- a version is found at its own start
pub shown : (x : Placed) (vs : List Placed) → Ordered vs → Among x vs → latest_of x.image.start vs ≡ some x
unfolding latest_of
shown x vs o first = rw (le-leb x.image.start x.image.start (omega arith))
shown x vs o (next {y} {xs = ws} m) =
    rw (lt-leb y.image.start x.image.start (omega (arith, newest x ws o.1 m, o.0.later))) (shown x ws o.1 m)

module _ (t : ℕ) where
  pub record Shows (x : Placed) (vs : List Placed) : Type 0 where
    pub in_time : x.image.start ≤ t
    pub among : Among x vs

  pub shows : (x : Placed) (vs : List Placed) → latest_of t vs ≡ some x → Shows x vs
  unfolding latest_of
  shows x [] e = absurd (some-ne-none _ (sym e))
  shows x (y ∷ ws) e = go (leb y.image.start t) refl e (shows x ws)
    where
      go : (b : Bool) → leb y.image.start t ≡ b → cond b (some y) (latest_of t ws) ≡ some x → (latest_of t ws ≡ some x → Shows x ws) → Shows x (y ∷ ws)
      go true q k r = let i : y ≡ x = cc in rw (← i) (record { in_time = leb-true y.image.start t q; among = first })
      go false q k r = let s = r k in record { in_time = s.in_time; among = next s.among }

  -- none that starts by the time starts after it
  pub highest : (x y : Placed) (vs : List Placed) → Ordered vs → Among y vs → y.image.start ≤ t → latest_of t vs ≡ some x → y.image.start ≤ x.image.start
  unfolding latest_of
  highest x y vs o first k e =
      let i : some y ≡ some x = rw (le-leb y.image.start t k) at e in
      let j : y ≡ x = cc in
      rw j (omega arith)
  highest x y vs o (next {y = z} {xs = ws} m) k e = go (leb z.image.start t) e (highest x y ws o.1 m k)
    where
      go : (b : Bool) → cond b (some z) (latest_of t ws) ≡ some x → (latest_of t ws ≡ some x → y.image.start ≤ x.image.start) → y.image.start ≤ x.image.start
      go true e r = let j : z ≡ x = cc in rw (← j) (omega (arith, newest y ws o.1 m, o.0.later))
      go false e r = r e

  -- where none is found, every version starts later
  pub all_later : (y : Placed) (vs : List Placed) → Among y vs → latest_of t vs ≡ none → t < y.image.start
  unfolding latest_of
  all_later y vs (first {xs = ws}) e = go (leb y.image.start t) refl e
    where
      go : (b : Bool) → leb y.image.start t ≡ b → cond b (some y) (latest_of t ws) ≡ none → t < y.image.start
      go true q e = absurd (some-ne-none _ e)
      go false q e = leb-false y.image.start t q
  all_later y vs (next {y = z} {xs = ws} m) e = go (leb z.image.start t) e (all_later y ws m)
    where
      go : (b : Bool) → cond b (some z) (latest_of t ws) ≡ none → (latest_of t ws ≡ none → t < y.image.start) → t < y.image.start
      go true e r = absurd (some-ne-none _ e)
      go false e r = r e
