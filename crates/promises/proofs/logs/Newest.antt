-- Of a file's images in a log, the effective ones are those that no newer image of the same action overtook.
use mathlib.Core.Path.{◌≡◌, refl, sym, ◌∙◌, subst}
use mathlib.Core.List.{List, [], ◌∷◌}
use mathlib.Core.Bool.{Bool, true, false, cond}
use mathlib.Core.Option.{some, some-ne-none}
use Prim.Native.Nat.{ℕ, suc, ◌≤◌, ◌<◌}
use native.Mathlib.Omega.{arith}
use lib.ListN.{length}
use lib.Dec.{eqb}
use borrow.Author.Tests.{eqb-true, eqb-false, eq-eqb, ne_eqb}
use Rattle.encoding.proofs.Logic.{by_test, clash}
use Rattle.recovery.specs.Log.{Image, Entry, blank, torn, bad, opening, image, outcome, Fate, unknown, undecided, committed, aborted, Placed, images_of, not_by, effective, effective_of, token_step, token_of}
use Rattle.recovery.proofs.Effective.{Each}
use Rattle.recovery.proofs.Spots.{entry_in, Spot, Spots, image_spots, spots}
use Rattle.promises.proofs.logs.Outcomes.{Lies}
use Rattle.promises.proofs.logs.Versions.{Among, first, next}

pub each_among : (P : Placed → Type 0) (x : Placed) (xs : List Placed) → Each P xs → Among x xs → P x
each_among P x xs h first = h.0
each_among P x xs h (next {y} {xs = ys} m) = each_among P x ys h.1 m

-- ---- places fall from the newest to the oldest

abbrev Falling : List Placed → Type 0
Falling [] = Unit {0}
Falling (x ∷ xs) = Each (λ y. y.place < x.place) xs × Falling xs

below_top : (l : List Entry) (f : ℕ) (xs : List Placed) → Spots l f xs → Each (λ y. y.place < suc (length l)) xs
below_top l f [] h = tt
below_top l f (x ∷ xs) h = (omega (arith, h.0.high), below_top l f xs h.1)

images_fall : (l : List Entry) (f : ℕ) → Falling (images_of l f)
unfolding images_of
images_fall [] f = tt
images_fall (blank ∷ l) f = images_fall l f
images_fall (torn ∷ l) f = images_fall l f
images_fall (bad ∷ l) f = images_fall l f
images_fall (opening k ∷ l) f = images_fall l f
images_fall (outcome a c ∷ l) f = images_fall l f
images_fall (image i ∷ l) f = by_test Falling (eqb i.file f) (λ e. (below_top l f (images_of l f) (image_spots l f), images_fall l f)) (λ e. images_fall l f)

-- ---- the images of other actions

among_not_by : (a : ℕ) (x : Placed) (xs : List Placed) → Among x xs → (x.image.action ≡ a → ⊥) → Among x (not_by a xs)
unfolding not_by
among_not_by a x xs first n = rw (ne_eqb x.image.action a n) first
among_not_by a x xs (next {y} {xs = ys} m) n = by_test (Among x) (eqb y.image.action a) (λ e. among_not_by a x ys m n) (λ e. next (among_not_by a x ys m n))

other_first : (a : ℕ) (x y : Placed) (xs ys : List Placed) → (y.image.action ≡ a → ⊥) → (Among x ys → (x.image.action ≡ a → ⊥) × Among x xs)
    → Among x (y ∷ ys) → (x.image.action ≡ a → ⊥) × Among x (y ∷ xs)
other_first a x y xs ys n r first = (n, first)
other_first a x y xs ys n r (next m) = let k = r m in (k.0, next k.1)

not_by_among : (a : ℕ) (x : Placed) (xs : List Placed) → Among x (not_by a xs) → (x.image.action ≡ a → ⊥) × Among x xs
unfolding not_by
not_by_among a x [] m = elim m [ ]
not_by_among a x (y ∷ ys) m = go (eqb y.image.action a) refl m (not_by_among a x ys)
  where
    go : (b : Bool) → eqb y.image.action a ≡ b → Among x (cond b (not_by a ys) (y ∷ not_by a ys)) → (Among x (not_by a ys) → (x.image.action ≡ a → ⊥) × Among x ys)
        → (x.image.action ≡ a → ⊥) × Among x (y ∷ ys)
    go true e m r = let k = r m in (k.0, next k.1)
    go false e m r = other_first a x y ys (not_by a ys) (eqb-false y.image.action a e) r m

-- ---- effective is newest

abbrev IsNewest : Placed → List Placed → Type 0
IsNewest x xs = (y : Placed) → Among y xs → y.image.action ≡ x.image.action → y.place ≤ x.place

newest_effective : (x : Placed) (xs : List Placed) → Falling xs → Among x xs → IsNewest x xs → Among x (effective xs)
unfolding effective
newest_effective x xs h first n = first
newest_effective x xs h (next {y} {xs = ys} m) n =
    next (among_not_by y.image.action x (effective ys) (newest_effective x ys h.1 m (λ z k e. n z (next k) e))
    (λ e. omega (arith, n y first (sym e), each_among (λ z. z.place < y.place) x ys h.0 m)))

newest_or : (x y z : Placed) (xs ys : List Placed) → Each (λ u. u.place < z.place) ys → (Among x xs → x.image.action ≡ z.image.action → ⊥) → (Among x xs → Among y ys → y.place ≤ x.place)
    → y.image.action ≡ x.image.action → Among x (z ∷ xs) → Among y (z ∷ ys) → y.place ≤ x.place
newest_or x y z xs ys h n r e first first = omega arith
newest_or x y z xs ys h n r e first (next k) = omega (arith, each_among (λ u. u.place < x.place) y ys h k)
newest_or x y z xs ys h n r e (next m) first = absurd (n m (sym e))
newest_or x y z xs ys h n r e (next m) (next k) = r m k

effective_newest : (x : Placed) (xs : List Placed) → Falling xs → Among x (effective xs) → IsNewest x xs
unfolding effective
effective_newest x [] h m y k e = elim m [ ]
effective_newest x (z ∷ zs) h m y k e =
    newest_or x y z (not_by z.image.action (effective zs)) zs h.0 (λ q. (not_by_among z.image.action x (effective zs) q).0)
    (λ q p. effective_newest x zs h.1 (not_by_among z.image.action x (effective zs) q).1 y p e) e m k

-- a token is among the images that it is the token of
pub token_among : (φ : ℕ → Fate) (x : Placed) (xs : List Placed) → token_of φ xs ≡ some x → Among x xs
unfolding token_of
token_among φ x [] e = absurd (some-ne-none _ (sym e))
token_among φ x (y ∷ ys) e = go (φ y.image.action) e (token_among φ x ys)
  where
    go : (q : Fate) → token_step q y (token_of φ ys) ≡ some x → (token_of φ ys ≡ some x → Among x ys) → Among x (y ∷ ys)
    go unknown k r = next (r k)
    go undecided k r = let i : y ≡ x = cc in rw (← i) first
    go committed k r = absurd (some-ne-none _ (sym k))
    go aborted k r = next (r k)

-- ---- of a log

-- an image of a log is among its file's images
entry_among : (l : List Entry) (p : ℕ) (i : Image) → entry_in l p ≡ image i → Among (record { place = p; image = i }) (images_of l i.file)
unfolding images_of
entry_among [] p i e = clash cc
entry_among (g ∷ l) p i e = go (eqb p (suc (length l))) refl e (entry_among l p i)
  where
    lift : (g : Entry) → Among (record { place = p; image = i }) (images_of l i.file)
        → Among (record { place = p; image = i }) (images_of (g ∷ l) i.file)
    lift blank h = h
    lift torn h = h
    lift bad h = h
    lift (opening k) h = h
    lift (image j) h = by_test (Among (record { place = p; image = i })) (eqb j.file i.file) (λ q. next h) (λ q. h)
    lift (outcome a c) h = h

    go : (b : Bool) → eqb p (suc (length l)) ≡ b → cond b g (entry_in l p) ≡ image i
        → (entry_in l p ≡ image i → Among (record { place = p; image = i }) (images_of l i.file)) → Among (record { place = p; image = i }) (images_of (g ∷ l) i.file)
    go true q k r = rw (k, eq-eqb i.file i.file refl, ← eqb-true p (suc (length l)) q) first
    go false q k r = lift g (r k)

-- an image of which none of its file and action is newer is effective, and the other way round
abbrev pub NoneNewer : List Entry → ℕ → Image → Type 0
NoneNewer l p i = (q : ℕ) (j : Image) → Lies l q (image j) → j.file ≡ i.file → j.action ≡ i.action → q ≤ p

pub among_effective : (l : List Entry) (p : ℕ) (i : Image) → Lies l p (image i) → NoneNewer l p i → Among (record { place = p; image = i }) (effective_of l i.file)
among_effective l p i h n = newest_effective (record { place = p; image = i }) (images_of l i.file) (images_fall l i.file) (entry_among l p i h.here) (λ y k e.
    let z = each_among (Spot l i.file) y (images_of l i.file) (image_spots l i.file) k in
    n y.place y.image (record { low = z.low; high = z.high; here = z.here }) z.mine e)

module _ (l : List Entry) (f : ℕ) (x : Placed) (h : Among x (effective_of l f)) where
  pub effective_spot : Spot l f x
  effective_spot = each_among (Spot l f) x (effective_of l f) (spots l f) h

  pub effective_lies : Lies l x.place (image x.image)
  effective_lies = let z = effective_spot in record { low = z.low; high = z.high; here = z.here }

  pub effective_none_newer : NoneNewer l x.place x.image
  effective_none_newer q j b g a =
      effective_newest x (images_of l f) (images_fall l f) h (record { place = q; image = j })
      (subst (λ k. Among (record { place = q; image = j }) (images_of l k)) (g ∙ effective_spot.mine) (entry_among l q j b.here)) a
