-- The rows at commit and abort: whether a row's token is decided, one row settled, and all rows settled one by one.
-- Assumes nothing.
use Prim.Native.Nat.{ℕ, zero, suc, ◌+◌, ◌-◌, ◌*◌, ◌/◌, ◌≤◌, ◌<◌}
use mathlib.Core.Path.{◌≡◌, refl, sym, ap, subst, ◌∙◌}
use mathlib.Core.Bool.{Bool, true, false, cond, ◌&&◌}
use mathlib.Core.List.{List, [], ◌∷◌}
use native.Mathlib.Omega.{arith}
use native.Mathlib.Numerals.{add-one, sub-one}
use lib.ListN.{length, get_or, set, length-set}
use lib.Seq.{ext_get_or, get_or-set_same, get_or-set_other, set-get_or}
use lib.Dec.{eqb}
use borrow.Author.Tests.{eq-eqb, ne_eqb, le-leb, lt-leb, eqb-true, eqb-false}
use Rattle.encoding.proofs.Logic.{and_both}
use Rattle.page.specs.declared.Page.{Page}
use Rattle.std.specs.Prelude.{Option, is_some, Some, None}
use Rattle.page.specs.Answers.{tested, image_of_file}
use Rattle.recovery.specs.Places.{nth}
use Rattle.recovery.specs.Log.{Entry, blank}
use Rattle.recovery.specs.Sheet.{page_bytes, is_opening, decoded}
use Rattle.recovery.specs.World.{is_image_of, image_action, is_rebuilt_for, cold, is_file}
use Rattle.recovery.specs.Lent.{row_length, rows_of, flat, pages_of}
use Rattle.recovery.specs.Steps.{sealed_image, action_found, sheet_world, row_of, next_named, with_row_of}
use Rattle.recovery.specs.declared.Row.{Row}
use Rattle.recovery.proofs.FlatRows.{rows_long, rows_flat, flat_rows, flat_long, put_flat}
use Rattle.recovery.proofs.Lookups.{set_some}
use Rattle.recovery.proofs.Named.{next_from, next_up, next_most, next_names}
use Rattle.recovery.proofs.Held.{of_sought, under_action, lies_in, image_none, image_unsealed, image_sealed}
use Rattle.calls.specs.Calls.{holds_token, decided, settled, each_row}
use Rattle.calls.specs.DecideSteps.{is_token_in, settled_row, settled_rows}

-- ---- a token at a place

-- an image that was found is one under an action
abbrev is_under : ℕ → Option Page → Bool
is_under a u = is_some u && eqb (action_found u) a

module _ (s : List ℕ) (files end a f place : ℕ) where
  pub token_high : end < place → false ≡ is_token_in s files end a f place
  unfolding is_token_in
  token_high h = simp (lt-leb place end h)

  module _ (h : place ≤ end) where
    token_by : (u : Option Page) → u ≡ sealed_image files s f place → is_under a u ≡ is_token_in s files end a f place
    unfolding is_token_in
    token_by u e =
        let there : Entry = nth blank (pages_of s files) place in
        simp (le-leb place end h) (ap (λ (x : Bool × ℕ). x.0 && eqb x.1 a) (ap of_sought e ∙ sym (lies_in files s f place)) ∙ under_action true (is_image_of f there) (image_action there) a)

    -- by the quick look, and one look at the action's opening
    pub token_none : None ≡ image_of_file f (tested (page_bytes s place) place files) → false ≡ is_token_in s files end a f place
    token_none e = token_by None (image_none files s f place e)

    module _ (x : Page) (e : Some x ≡ image_of_file f (tested (page_bytes s place) place files)) where
      pub token_other : (x.action ≡ a → ⊥) → false ≡ is_token_in s files end a f place
      token_other o = go (is_opening (decoded files s x.action)) refl
        where
          go : (b : Bool) → is_opening (decoded files s x.action) ≡ b → false ≡ is_token_in s files end a f place
          go true q = sym (ne_eqb x.action a o) ∙ token_by (Some x) (image_sealed files s f place x e q)
          go false q = token_by None (image_unsealed files s f place x e q)

      pub token_own : (b : Bool) → x.action ≡ a → b ≡ is_opening (decoded files s a) → b ≡ is_token_in s files end a f place
      token_own true o q = sym (eq-eqb x.action a o) ∙ token_by (Some x) (image_sealed files s f place x e (ap (λ y. is_opening (decoded files s y)) o ∙ sym q))
      token_own false o q = token_by None (image_unsealed files s f place x e (ap (λ y. is_opening (decoded files s y)) o ∙ sym q))

-- ---- one row

module _ (s : List ℕ) (files end a : ℕ) (c : Bool) (f : ℕ) (xs : List ℕ) where
  by_holding : (b : Bool) → holds_token (sheet_world s files end) a f (row_of xs f) ≡ b → settled_row s files end a c f xs ≡ cond b (with_row_of xs f (decided c (row_of xs f))) xs
  unfolding settled_row
  by_holding b e = ap (λ (o : Bool). cond o (with_row_of xs f (decided c (row_of xs f))) xs) e

  row_unnamed : is_rebuilt_for a (row_of xs f) ≡ false → xs ≡ settled_row s files end a c f xs
  row_unnamed h = sym (by_holding false (rw h))

  -- a row that names the action, by its token's place
  module _ (named : is_rebuilt_for a (row_of xs f) ≡ true) (t : ℕ) (ht : t ≡ (row_of xs f).token) (b : Bool) (hb : b ≡ is_token_in s files end a f t) where
    held : holds_token (sheet_world s files end) a f (row_of xs f) ≡ b
    unfolding is_token_in
    held = rw named (sym (rw ht at hb))

    pub row_same : b ≡ false → xs ≡ settled_row s files end a c f xs
    row_same h = sym (by_holding false (held ∙ h))

    pub row_decided : b ≡ true → (q : Row) → q ≡ decided c (row_of xs f) → (ys : List ℕ) → ys ≡ with_row_of xs f q → ys ≡ settled_row s files end a c f xs
    row_decided h q hq ys hy = hy ∙ ap (with_row_of xs f) hq ∙ sym (by_holding true (held ∙ h))

-- ---- all rows, one by one

module _ (κ : ℕ → Row → Row) where
  unfoldable pub each_to : ℕ → List Row → List Row
  each_to zero rs = rs
  each_to (suc n) rs = set (each_to n rs) n (κ (suc n) (get_or rs n cold))

  each_long : (n : ℕ) (rs : List Row) → length (each_to n rs) ≡ length rs
  unfolding each_to
  each_long zero rs = refl
  each_long (suc n) rs = length-set (each_to n rs) n (κ (suc n) (get_or rs n cold)) ∙ each_long n rs

  each_above : (n : ℕ) (rs : List Row) (i : ℕ) → n ≤ i → get_or (each_to n rs) i cold ≡ get_or rs i cold
  unfolding each_to
  each_above zero rs i h = refl
  each_above (suc n) rs i h = get_or-set_other (each_to n rs) n i (κ (suc n) (get_or rs n cold)) cold (λ q. omega arith) ∙ each_above n rs i (omega arith)

  each_below : (n : ℕ) (rs : List Row) (i : ℕ) → i < n → i < length rs → get_or (each_to n rs) i cold ≡ κ (suc i) (get_or rs i cold)
  unfolding each_to
  each_below zero rs i h l = absurd (omega arith)
  each_below (suc n) rs i h l = go (eqb i n) refl (λ k. each_below n rs i k l)
    where
      go : (b : Bool) → eqb i n ≡ b → (i < n → get_or (each_to n rs) i cold ≡ κ (suc i) (get_or rs i cold))
          → get_or (set (each_to n rs) n (κ (suc n) (get_or rs n cold))) i cold ≡ κ (suc i) (get_or rs i cold)
      go true q y =
          let z : i ≡ n = eqb-true i n q in
          rw z (get_or-set_same (each_to n rs) n (κ (suc n) (get_or rs n cold)) cold (omega (arith, each_long n rs)))
      go false q y =
          let z : (i ≡ n → ⊥) = eqb-false i n q in
          get_or-set_other (each_to n rs) n i (κ (suc n) (get_or rs n cold)) cold z ∙ y (omega arith)

  pub row_each : (f : ℕ) (rs : List Row) (i : ℕ) → i < length rs → get_or (each_row κ f rs) i cold ≡ κ (suc (f + i)) (get_or rs i cold)
  unfolding each_row
  row_each f [] i h = absurd (omega arith)
  row_each f (r ∷ rs) zero h = let z : f + 0 ≡ f = omega arith in rw z
  row_each f (r ∷ rs) (suc i) h = let z : f + suc i ≡ suc f + i = omega arith in rw z (row_each (suc f) rs i (omega arith))

  pub row_each_long : (f : ℕ) (rs : List Row) → length (each_row κ f rs) ≡ length rs
  unfolding each_row
  row_each_long f [] = refl
  row_each_long f (r ∷ rs) = ap suc (row_each_long (suc f) rs)

  each_all : (rs : List Row) → each_to (length rs) rs ≡ each_row κ 0 rs
  each_all rs =
      ext_get_or cold (each_to (length rs) rs) (each_row κ 0 rs) (each_long (length rs) rs ∙ sym (row_each_long 0 rs))
      (λ i h. let l : i < length rs = omega (arith, each_long (length rs) rs) in
      let z : 0 + i ≡ i = omega arith in
      each_below (length rs) rs i l l ∙ sym (rw z at (row_each 0 rs i l)))

-- ---- the lent run after so many rows

-- a row of a run made of rows
row_in : (rs : List Row) (k : ℕ) → row_of (flat rs) (suc k) ≡ get_or rs k cold
unfolding row_of
row_in rs k = ap (λ (l : List Row). get_or l k cold) (flat_rows rs)

put_in : (rs : List Row) (k : ℕ) (r : Row) → k < length rs → with_row_of (flat rs) (suc k) r ≡ flat (set rs k r)
put_in rs k r h =
    let e : is_file (length (flat rs) / row_length) (suc k) ≡ true = and_both _ _ (le-leb 1 (suc k) (omega arith)) (le-leb (suc k) (length (flat rs) / row_length) (omega (arith, flat_long rs))) in
    sym (set_some (flat rs) (suc k) r e) ∙ rw sub-one (put_flat rs k r h)

unfoldable pub run_to : List ℕ → ℕ → ℕ → ℕ → Bool → List ℕ → ℕ → List ℕ
run_to s files end a c xs k = flat (each_to (settled (sheet_world s files end) a c) k (rows_of xs))

module _ (s : List ℕ) (files end a : ℕ) (c : Bool) (xs : List ℕ) where
  abbrev κ : ℕ → Row → Row
  κ = settled (sheet_world s files end) a c

  one_more : (rs : List Row) (k : ℕ) → k < length rs → settled_row s files end a c (suc k) (flat rs) ≡ flat (set rs k (κ (suc k) (get_or rs k cold)))
  unfolding settled_row
  one_more rs k h = rw row_in (go (holds_token (sheet_world s files end) a (suc k) (get_or rs k cold)))
    where
      go : (b : Bool) → cond b (with_row_of (flat rs) (suc k) (decided c (get_or rs k cold))) (flat rs) ≡ flat (set rs k (cond b (decided c (get_or rs k cold)) (get_or rs k cold)))
      go true = put_in rs k (decided c (get_or rs k cold)) h
      go false = ap flat (sym (set-get_or rs k cold))

  pub run_more : (k : ℕ) → k < length xs / row_length → (ys zs : List ℕ) → ys ≡ run_to s files end a c xs k → zs ≡ settled_row s files end a c (k + 1) ys
      → zs ≡ run_to s files end a c xs (k + 1)
  unfolding run_to each_to
  run_more k h ys zs hy hz =
      let rs : List Row = each_to κ k (rows_of xs) in
      let n : k < length rs = omega (arith, each_long κ k (rows_of xs), rows_long xs) in
      let r : get_or rs k cold ≡ get_or (rows_of xs) k cold = each_above κ k (rows_of xs) k (omega arith) in
      rw add-one ((rw (add-one, hy) at hz) ∙ one_more rs k n ∙ ap (λ (q : Row). flat (set rs k (κ (suc k) q))) r)

  module _ (l : row_length * (length xs / row_length) ≡ length xs) where
    pub run_long : (k : ℕ) → length (run_to s files end a c xs k) ≡ length xs
    unfolding run_to
    run_long k = omega (arith, flat_long (each_to κ k (rows_of xs)), each_long κ k (rows_of xs), rows_long xs)

    -- rows that do not name the action are settled as they are
    run_skip : (k : ℕ) → k ≤ length xs / row_length → (ys : List ℕ) → ys ≡ run_to s files end a c xs k → ys ≡ run_to s files end a c xs (next_named ys k a)
    run_skip k h ys hy =
        let long : length ys ≡ length xs = ap length hy ∙ run_long k in
        next_from ys a (λ j. ys ≡ run_to s files end a c xs j) (λ j l e p. run_more j (rw long at l) ys ys p (rw add-one (row_unnamed s files end a c (suc j) ys e)))
        (length ys / row_length - k) k (omega (arith, long)) hy

    -- what is known at the next row that names it
    pub record Reached (ys : List ℕ) (k n : ℕ) : Type 0 where
      pub up : k ≤ n
      pub most : n ≤ length xs / row_length
      pub run : ys ≡ run_to s files end a c xs n
      pub names : n < length xs / row_length → is_rebuilt_for a (row_of ys (suc n)) ≡ true

    pub reached : (ys : List ℕ) (k n : ℕ) → k ≤ length xs / row_length → ys ≡ run_to s files end a c xs k → n ≡ next_named ys k a → Reached ys k n
    reached ys k n h hy e =
        let long : length ys ≡ length xs = ap length hy ∙ run_long k in
        let high : k ≤ length ys / row_length = rw long h in
        subst (Reached ys k) (sym e) (record {
          up = next_up ys a k high;
          most = rw long at (next_most ys a k high);
          run = run_skip k h ys hy;
          names = λ l. next_names ys a k high (rw long l);
        })

    pub run_none : xs ≡ run_to s files end a c xs 0
    unfolding run_to each_to
    run_none = sym (rows_flat xs l)

  pub run_all : (k : ℕ) (ys : List ℕ) → k ≤ length xs / row_length → length xs / row_length ≤ k → ys ≡ run_to s files end a c xs k → ys ≡ settled_rows s files end a c xs
  unfolding run_to settled_rows
  run_all k ys h j hy =
      let z : k ≡ length (rows_of xs) = omega (arith, rows_long xs) in
      hy ∙ ap flat (ap (λ (m : ℕ). each_to κ m (rows_of xs)) z ∙ each_all κ (rows_of xs))
