-- Rows as one run of numbers and as a list of rows. Assumes nothing.
use Prim.Native.Nat.{ℕ, zero, suc, pred, ◌-◌, ◌+◌, ◌*◌, ◌/◌, ◌≤◌, ◌<◌}
use mathlib.Core.Path.{◌≡◌, refl, sym, ap, ◌∙◌}
use mathlib.Core.List.{List, [], ◌∷◌, ◌++◌, append_assoc}
use native.Mathlib.Omega.{arith}
use native.Mathlib.Numerals.{unary_clauses}
use lib.ListN.{length, get_or, set, take, drop, drop_of_length-le}
use lib.Seq.{drop-cons, drop-drop, get_or-take, get_or-drop, sets, sets-eq, set-get_or, ext_get_or}
use borrow.Rule.Slice.PartMut.{put_mid}
use Rattle.std.specs.Simd.{first_chunks}
use Rattle.recovery.specs.Places.{nth, tabulate}
use Rattle.recovery.proofs.Places.{length_tabulate, nth_tabulate}
use Rattle.recovery.specs.declared.Row.{Row}
use Rattle.recovery.specs.World.{cold}
use Rattle.recovery.specs.Lent.{row_length, row_from, rows_of, flat, numbers, put_row}

pub rows_long : (rs : List ℕ) → length (rows_of rs) ≡ length rs / row_length
unfolding rows_of
rows_long rs = length_tabulate (λ f. row_from rs (pred f)) 0 (length rs / row_length)

pub row_at_lem : (rs : List ℕ) (f : ℕ) → 1 ≤ f → f ≤ length rs / row_length → nth cold (rows_of rs) f ≡ row_from rs (pred f)
unfolding rows_of
row_at_lem rs f h k = nth_tabulate (λ f. row_from rs (pred f)) (length rs / row_length) f cold h k

-- ---- the numbers of a row are those of the run from its first on

run : ℕ → List ℕ → ℕ → List ℕ
run zero rs k = []
run (suc n) rs k = get_or rs k 0 ∷ run n rs (suc k)

run_drop : (n : ℕ) (rs : List ℕ) (k : ℕ) → k + n ≤ length rs → run n rs k ++ drop (k + n) rs ≡ drop k rs
unfolding run
run_drop zero rs k h = let e : k + 0 ≡ k = omega arith in rw e
run_drop (suc n) rs k h =
    let e : k + suc n ≡ suc k + n = omega arith in
    rw e (ap (λ l. get_or rs k 0 ∷ l) (run_drop n rs (suc k) (omega arith)) ∙ sym (drop-cons rs k 0 (omega arith)))

row_run : (rs : List ℕ) (j : ℕ) → numbers (row_from rs j) ≡ run row_length rs (row_length * j)
unfolding run
row_run rs j = simp unary_clauses

-- put back, they change nothing
run_sets : (n : ℕ) (rs : List ℕ) (k : ℕ) → sets rs k (run n rs k) ≡ rs
unfolding run
run_sets zero rs k = refl
run_sets (suc n) rs k = ap (λ l. sets l (suc k) (run n rs (suc k))) (set-get_or rs k 0) ∙ run_sets n rs (suc k)

pub put_here : (rs : List ℕ) (j : ℕ) → put_row rs j (row_from rs j) ≡ rs
unfolding put_row
put_here rs j = ap (sets rs (row_length * j)) (row_run rs j) ∙ run_sets row_length rs (row_length * j)

flat_tab : (rs : List ℕ) (i n : ℕ) → length rs ≡ row_length * (i + n) → flat (tabulate (λ f. row_from rs (pred f)) i n) ≡ drop (row_length * i) rs
unfolding flat tabulate
flat_tab rs i zero h = sym (drop_of_length-le rs {i = row_length * i} (omega arith))
flat_tab rs i (suc n) h =
    let e : row_length * suc i ≡ row_length * i + row_length = omega arith in
    let below : flat (tabulate (λ f. row_from rs (pred f)) (suc i) n) ≡ drop (row_length * i + row_length) rs = rw e at (flat_tab rs (suc i) n (omega arith)) in
    ap (λ l. numbers (row_from rs i) ++ l) below ∙ ap (λ l. l ++ drop (row_length * i + row_length) rs) (row_run rs i) ∙ run_drop row_length rs (row_length * i) (omega arith)

-- The rows of a run of whole rows give the run back.
pub rows_flat : (rs : List ℕ) → row_length * (length rs / row_length) ≡ length rs → flat (rows_of rs) ≡ rs
unfolding rows_of
rows_flat rs h = flat_tab rs 0 (length rs / row_length) (omega arith)

-- And a run made of rows gives the rows back.
pub flat_long : (rs : List Row) → length (flat rs) ≡ row_length * length rs
unfolding flat
flat_long [] = refl
flat_long (r ∷ rs) = omega (arith, flat_long rs)

pub row_flat : (rs : List Row) (j : ℕ) → row_from (flat rs) j ≡ get_or rs j cold
unfolding flat
row_flat [] j = refl
row_flat (r ∷ rs) zero = refl
row_flat (r ∷ rs) (suc j) = let e : row_length * suc j ≡ row_length * j + row_length = omega arith in rw e (simp unary_clauses (simp unary_clauses at (row_flat rs j)))

pub flat_rows : (rs : List Row) → rows_of (flat rs) ≡ rs
unfolding rows_of
flat_rows rs =
    let n : length (flat rs) / row_length ≡ length rs = omega (arith, flat_long rs) in
    let m : length (tabulate (λ f. row_from (flat rs) (pred f)) 0 (length (flat rs) / row_length)) ≡ length (flat rs) / row_length = length_tabulate (λ f. row_from (flat rs) (pred f)) 0 (length (flat rs) / row_length) in
    ext_get_or cold (tabulate (λ f. row_from (flat rs) (pred f)) 0 (length (flat rs) / row_length)) rs (m ∙ n)
    (λ i h. nth_tabulate (λ f. row_from (flat rs) (pred f)) (length (flat rs) / row_length) (suc i) cold (omega arith) (rw m at h) ∙ row_flat rs i)

-- A row set in the run is the row set in the list.
pub flat_set : (rs : List Row) (j : ℕ) (r : Row) → j < length rs → sets (flat rs) (row_length * j) (numbers r) ≡ flat (set rs j r)
unfolding flat
flat_set [] j r h = absurd (omega arith)
flat_set (x ∷ rs) zero r h = refl
flat_set (x ∷ rs) (suc j) r h =
    let e : row_length * suc j ≡ row_length * j + row_length = omega arith in
    rw e (simp unary_clauses (ap (λ l. numbers x ++ l) (flat_set rs j r (omega arith))))

pub put_flat : (rs : List Row) (j : ℕ) (r : Row) → j < length rs → put_row (flat rs) j r ≡ flat (set rs j r)
unfolding put_row
put_flat rs j r h = flat_set rs j r h

-- ---- as the code takes a row out of the run and puts it back

-- the elements of a run in chunks of c
pub chunk_at : {A : Type 0} (c : ℕ) (xs : List A) (m k : ℕ) (d : List A) → k < m → get_or (first_chunks c m xs) k d ≡ take c (drop (c * k) xs)
chunk_at c xs zero k d h = absurd (omega arith)
chunk_at c xs (suc m) zero d h = let z : c * 0 ≡ 0 = omega arith in rw z
chunk_at c xs (suc m) (suc k) d h =
    let e : c + c * k ≡ c * suc k = omega arith in
    chunk_at c (drop c xs) m k d (omega arith) ∙ ap (take c) (drop-drop (c * k) c xs ∙ ap (λ n. drop n xs) e)

pub chunk_element : {A : Type 0} (c : ℕ) (xs : List A) (m k i : ℕ) (d : List A) (e : A) → k < m → i < c → get_or (get_or (first_chunks c m xs) k d) i e ≡ get_or xs (c * k + i) e
chunk_element c xs m k i d e h l = ap (λ ys. get_or ys i e) (chunk_at c xs m k d h) ∙ get_or-take c (drop (c * k) xs) i e l ∙ get_or-drop (c * k) xs i e

pub chunk_row : (rows : List ℕ) (m k : ℕ) (d : List ℕ) → k < m → row_from (get_or (first_chunks row_length m rows) k d) 0 ≡ row_from rows k
chunk_row rows m k d h =
    let at : (i : ℕ) → i < row_length → get_or (get_or (first_chunks row_length m rows) k d) i 0 ≡ get_or rows (row_length * k + i) 0 = λ i l. chunk_element row_length rows m k i d 0 h l in
    let first : get_or (get_or (first_chunks row_length m rows) k d) 0 0 ≡ get_or rows (row_length * k) 0 = simp unary_clauses at (at 0 (omega arith)) in
    rw (first, at 1 (omega arith), at 2 (omega arith), at 3 (omega arith), at 4 (omega arith), at 5 (omega arith))

pub put_part : (xs ys : List ℕ) (j : ℕ) (r : Row) → ys ≡ numbers r → row_length * j + row_length ≤ length xs
    → put_mid (row_length * j) (row_length * j + row_length - row_length * j) xs ys ≡ put_row xs j r
unfolding put_row
put_part xs ys j r e h =
    let k : row_length * j + row_length - row_length * j ≡ row_length = omega arith in
    rw (k, e, drop-drop row_length (row_length * j) xs) (sym (sets-eq (numbers r) xs (row_length * j) h ∙ append_assoc (take (row_length * j) xs) (numbers r) (drop (row_length * j + row_length) xs)))
