-- The rebuilt rows that name an action, one after the other. Assumes nothing.
use Prim.Native.Nat.{ℕ, zero, suc, ◌*◌, ◌+◌, ◌-◌, ◌/◌, ◌≤◌, ◌<◌}
use mathlib.Core.Path.{◌≡◌, refl, sym, ap, subst, ◌∙◌}
use mathlib.Core.Bool.{Bool, true, false, cond, ◌||◌}
use mathlib.Core.List.{List, [], ◌∷◌}
use native.Mathlib.Omega.{arith}
use native.Mathlib.Numerals.{add-one}
use borrow.Author.Tests.{ltb-true, ltb-false}
use Rattle.std.specs.Simd.{first_chunks}
use lib.ListN.{length, length-take, get_or, take, drop, drop_of_length-le}
use lib.Seq.{drop-cons, get_or-take, get_or-drop}
use lib.Dec.{eqb, ltb}
use Rattle.encoding.proofs.Logic.{and_false, or_false}
use Rattle.recovery.specs.declared.Row.{Row}
use Rattle.recovery.specs.World.{cold, is_rebuilt_for}
use Rattle.recovery.specs.Lent.{row_length, row_from, rows_of}
use Rattle.recovery.specs.Steps.{row_of, before_named, next_named, names_action, in_four}
use Rattle.recovery.proofs.FlatRows.{rows_long, row_at_lem, chunk_element, chunk_row}

module _ (rows : List ℕ) (a : ℕ) where
  -- ---- one row more

  pub next_end : (k : ℕ) → length rows / row_length ≤ k → k ≡ next_named rows k a
  unfolding next_named before_named
  next_end k h = let none : drop k (rows_of rows) ≡ [] = drop_of_length-le (rows_of rows) {i = k} (omega (arith, rows_long rows)) in rw none

  next_by : (k : ℕ) (b : Bool) → k < length rows / row_length → is_rebuilt_for a (row_from rows k) ≡ b → next_named rows k a ≡ cond b k (next_named rows (k + 1) a)
  unfolding next_named before_named
  next_by k b h e =
      let one : drop k (rows_of rows) ≡ row_from rows k ∷ drop (suc k) (rows_of rows) = drop-cons (rows_of rows) k cold (omega (arith, rows_long rows)) ∙ ap (λ (r : Row). r ∷ drop (suc k) (rows_of rows)) (row_at_lem rows (suc k) (omega arith) h) in
      rw (one, add-one) (ap (λ (c : Bool). cond c k (before_named a (drop (suc k) (rows_of rows)) (suc k))) e)

  pub next_here : (k : ℕ) → k < length rows / row_length → is_rebuilt_for a (row_from rows k) ≡ true → k ≡ next_named rows k a
  next_here k h e = sym (next_by k true h e)

  pub next_on : (k : ℕ) → k < length rows / row_length → is_rebuilt_for a (row_from rows k) ≡ false → next_named rows (k + 1) a ≡ next_named rows k a
  next_on k h e = sym (next_by k false h e)

  -- ---- many rows more

  -- whatever its mark, a row with another action does not name this one
  next_other : (k j : ℕ) → k + 1 ≡ j → k < length rows / row_length → eqb (row_from rows k).tokenaction a ≡ false → next_named rows j a ≡ next_named rows k a
  next_other k j e h n = rw e at (next_on k h (and_false (eqb (row_from rows k).mark 1) (eqb (row_from rows k).tokenaction a) n))

  next_many : (k n j : ℕ) → k + n ≡ j → j ≤ length rows / row_length → ((i : ℕ) → i < n → eqb (row_from rows (k + i)).tokenaction a ≡ false) → next_named rows j a ≡ next_named rows k a
  next_many k zero j e h other = let z : j ≡ k = omega arith in rw z
  next_many k (suc n) j e h other =
      next_other (k + n) j (omega arith) (omega arith) (other n (omega arith)) ∙ next_many k n (k + n) refl (omega arith) (λ i l. other i (omega arith))

  -- past a row that does not name it, and as many more as were passed over, of all rows by their numbers
  module _ (each : List (List ℕ)) (all : each ≡ first_chunks row_length (length rows / row_length) rows) (k : ℕ) where
    abbrev after : List (List ℕ)
    after = take (length each - (k + 1)) (drop (k + 1) each)

    other_row : (n i : ℕ) → n ≤ length after → i < n → k + 1 + i < length rows / row_length → names_action (get_or after i []) a ≡ false → eqb (row_from rows (k + 1 + i)).tokenaction a ≡ false
    other_row n i w l h e =
        let there : get_or after i [] ≡ get_or each (k + 1 + i) [] =
        get_or-take (length each - (k + 1)) (drop (k + 1) each) i [] (omega (arith, w, l, length-take (length each - (k + 1)) (drop (k + 1) each))) ∙ get_or-drop (k + 1) each i [] in
        let row : row_from (get_or after i []) 0 ≡ row_from rows (k + 1 + i) =
        ap (λ (x : List ℕ). row_from x 0) (there ∙ ap (λ (x : List (List ℕ)). get_or x (k + 1 + i) []) all) ∙ chunk_row rows (length rows / row_length) (k + 1 + i) [] h in
        ap (λ (r : Row). eqb r.tokenaction a) (sym row) ∙ e

    pub next_skipped : (n j : ℕ) → k + (1 + n) ≡ j → j ≤ length rows / row_length → is_rebuilt_for a (row_from rows k) ≡ false → n ≤ length after
        → ((i : ℕ) → i < n → names_action (get_or after i []) a ≡ false) → next_named rows j a ≡ next_named rows k a
    next_skipped n j e h here w other = next_many (k + 1) n j (omega arith) h (λ i l. other_row n i w l (omega arith) (other i l)) ∙ next_on k (omega arith) here

  -- ---- from one row that names it to the next

  row_after : (k : ℕ) → k < length rows / row_length → is_rebuilt_for a (row_of rows (suc k)) ≡ is_rebuilt_for a (row_from rows k)
  unfolding row_of
  row_after k h = ap (is_rebuilt_for a) (row_at_lem rows (suc k) (omega arith) h)

  -- what a row that does not name it hands on reaches the next one that does
  pub next_from : (P : ℕ → Type 0) → ((k : ℕ) → k < length rows / row_length → is_rebuilt_for a (row_of rows (suc k)) ≡ false → P k → P (k + 1))
      → (n k : ℕ) → k + n ≡ length rows / row_length → P k → P (next_named rows k a)
  next_from P step zero k h p = subst P (next_end k (omega arith)) p
  next_from P step (suc n) k h p = go (is_rebuilt_for a (row_from rows k)) refl (next_from P step n (k + 1) (omega arith))
    where
      go : (b : Bool) → is_rebuilt_for a (row_from rows k) ≡ b → (P (k + 1) → P (next_named rows (k + 1) a)) → P (next_named rows k a)
      go true e on = subst P (next_here k (omega arith) e) p
      go false e on = subst P (next_on k (omega arith) e) (on (step k (omega arith) (row_after k (omega arith) ∙ e) p))

  pub next_up : (k : ℕ) → k ≤ length rows / row_length → k ≤ next_named rows k a
  next_up k h = next_from (λ j. k ≤ j) (λ j l e p. omega arith) (length rows / row_length - k) k (omega arith) (omega arith)

  module _ (k : ℕ) (h : k ≤ length rows / row_length) where
    abbrev left : ℕ
    left = length rows / row_length - k

    pub next_most : next_named rows k a ≤ length rows / row_length
    next_most = next_from (λ j. j ≤ length rows / row_length) (λ j l e p. omega arith) left k (omega arith) h

    pub next_names : next_named rows k a < length rows / row_length → is_rebuilt_for a (row_of rows (suc (next_named rows k a))) ≡ true
    next_names l = go (is_rebuilt_for a (row_from rows (next_named rows k a))) refl
      where
        again : next_named rows (next_named rows k a) a ≡ next_named rows k a
        again = next_from (λ j. next_named rows j a ≡ next_named rows k a) (λ j q e p. next_on j q (sym (row_after j q) ∙ e) ∙ p) left k (omega arith) refl

        go : (b : Bool) → is_rebuilt_for a (row_from rows (next_named rows k a)) ≡ b → is_rebuilt_for a (row_of rows (suc (next_named rows k a))) ≡ true
        go true e = row_after (next_named rows k a) l ∙ e
        go false e = absurd (omega (arith, next_on (next_named rows k a) l e, again, next_up (next_named rows k a + 1) (omega arith)))

-- ---- four rows at a time

not_in_four : (four : List (List ℕ)) (a j : ℕ) → in_four four a ≡ false → j < 4 → names_action (get_or four j []) a ≡ false
unfolding in_four
not_in_four four a j e l =
    let other : ℕ → Bool = λ i. names_action (get_or four i []) a in
    let r = or_false (other 0 || other 1 || other 2) (other 3) e in
    let q = or_false (other 0 || other 1) (other 2) r.0 in
    let p = or_false (other 0) (other 1) q.0 in
    go j l p.0 p.1 q.1 r.1
  where
    go : (i : ℕ) → i < 4 → names_action (get_or four 0 []) a ≡ false → names_action (get_or four 1 []) a ≡ false → names_action (get_or four 2 []) a ≡ false → names_action (get_or four 3 []) a ≡ false → names_action (get_or four i []) a ≡ false
    go zero l w x y z = w
    go (suc zero) l w x y z = x
    go (suc (suc zero)) l w x y z = y
    go (suc (suc (suc zero))) l w x y z = z
    go (suc (suc (suc (suc i)))) l w x y z = absurd (omega arith)

pub four_passed : (rows : List (List ℕ)) (a m n : ℕ) (d : List (List ℕ)) → n < m → in_four (get_or (first_chunks 4 m rows) n d) a ≡ false
    → ((i : ℕ) → i < 4 * n → names_action (get_or rows i []) a ≡ false) → (i : ℕ) → i < 4 * (n + 1) → names_action (get_or rows i []) a ≡ false
four_passed rows a m n d l e before i h = go (ltb i (4 * n)) refl
  where
    go : (b : Bool) → ltb i (4 * n) ≡ b → names_action (get_or rows i []) a ≡ false
    go true q = before i (ltb-true i (4 * n) q)
    go false q =
        let k : 4 * n ≤ i = ltb-false i (4 * n) q in
        let z : 4 * n + (i - 4 * n) ≡ i = omega arith in
        let here : get_or (get_or (first_chunks 4 m rows) n d) (i - 4 * n) [] ≡ get_or rows i [] = chunk_element 4 rows m n (i - 4 * n) d [] l (omega arith) ∙ ap (λ j. get_or rows j []) z in
        ap (λ (x : List ℕ). names_action x a) (sym here) ∙ not_in_four (get_or (first_chunks 4 m rows) n d) a (i - 4 * n) e (omega arith)
