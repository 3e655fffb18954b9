-- The move over decoded pages, from what its steps on bytes and numbers found and left. Assumes nothing.
use Prim.Native.Nat.{ℕ, zero, suc, ◌/◌, ◌≤◌}
use mathlib.Core.Path.{◌≡◌, refl, sym, ap, ◌∙◌}
use mathlib.Core.Bool.{true, cond, ◌&&◌, true≢false}
use mathlib.Core.List.{List, [], ◌∷◌, ◌++◌}
use mathlib.Core.Option.{Option}
use native.Mathlib.Omega.{arith}
use lib.ListN.{length, length-append, length-replicate}
use lib.Dec.{eqb, leb}
use borrow.Author.Tests.{ne_eqb}
use Rattle.encoding.proofs.Logic.{and_true}
use Rattle.page.specs.declared.Page.{Page}
use Rattle.std.specs.Prelude.{Option as Maybe, Some, None}
use Rattle.page.specs.Layout.{value_size}
use Rattle.page.specs.Table as table
use Rattle.page.specs.Table.{packed}
use Rattle.recovery.specs.Sheet.{page_bytes}
use Rattle.recovery.specs.Log.{Image, Entry, opening, outcome}
use Rattle.recovery.specs.declared.State.{State}
use Rattle.recovery.specs.World.{World, entry_at, row_at, is_image_of, place_holds, token_holds, row_holds}
use Rattle.recovery.specs.Lent.{row_length, lent}
use Rattle.recovery.specs.Steps.{sealed_image, row_of}
use Rattle.recovery.proofs.FlatRows.{rows_long}
use Rattle.calls.specs.Calls.{image_of}
use Rattle.calls.specs.Leaves.{packed_entry, with_page}
use Rattle.calls.specs.ReadSteps.{image_by}
use Rattle.calls.proofs.ReadImages.{met_at, none_at}
use Rattle.moving.specs.Moved.{version_of, carried_by, versions_to, move_pages}
use Rattle.moving.specs.MoveLeaves.{onto}
use Rattle.moving.specs.MoveSteps.{places_to, stores_to, closed_by, stores_all}
use Rattle.moving.proofs.StoredPages.{Long, long_none, long_more, onto_none, onto_more, stored_more, long_stored}

-- ---- a row that holds

module _ (s fs rs : List ℕ) (st : State) where
  abbrev w : World
  w = lent s fs rs st

  abbrev files : ℕ
  files = length rs / row_length

  abbrev place : ℕ → ℕ
  place f = (row_at w f).current

  place_held : (f : ℕ) → row_holds w f (row_at w f) ≡ true → place_holds w f (place f) ≡ true
  unfolding row_holds
  place_held f h = (and_true (leb (row_at w f).mark 1) (place_holds w f (place f)) (and_true (leb (row_at w f).mark 1 && place_holds w f (place f)) (token_holds w f (row_at w f)) h).0).1

  -- what the code finds at its current place is its version
  module _ (f : ℕ) (h : row_holds w f (row_at w f) ≡ true) where
    held_image : (p : ℕ) → place_holds w f p ≡ true → (p ≡ 0 → ⊥) → is_image_of f (entry_at w p) ≡ true
    held_image p q z = (and_true (leb p w.end) _ (rw (ne_eqb p 0 z) at q)).1

    by_find : (p : ℕ) → place_holds w f p ≡ true → (u : Maybe Page) → sealed_image files s f p ≡ u → image_of (entry_at w p) ≡ image_by (page_bytes s p) u
    by_find p q (Some x) m = ap image_of (met_at files s f p x m).page_is
    by_find zero q None m = refl
    by_find (suc p) q None m = absurd (true≢false (sym (held_image (suc p) q (λ z. omega arith)) ∙ none_at files s f (suc p) (sym m)))

    version_is : version_of w f ≡ image_by (page_bytes s (place f)) (sealed_image files s f (place f))
    version_is = by_find (place f) (place_held f h) (sealed_image files s f (place f)) refl

    -- it has one exactly if its current place is not 0
    counted : (p : ℕ) → place_holds w f p ≡ true → (u : Maybe Page) → sealed_image files s f p ≡ u → cond (eqb p 0) 0 1 ≡ length (carried_by (image_by (page_bytes s p) u))
    counted p q (Some x) m = let l = (met_at files s f p x m).low in rw (ne_eqb p 0 (λ z. omega arith))
    counted zero q None m = refl
    counted (suc p) q None m = absurd (true≢false (sym (held_image (suc p) q (λ z. omega arith)) ∙ none_at files s f (suc p) (sym m)))

    one_place : cond (eqb (place f) 0) 0 1 ≡ length (carried_by (version_of w f))
    one_place = counted (place f) (place_held f h) (sealed_image files s f (place f)) refl ∙ ap (λ (v : Option Image). length (carried_by v)) (sym version_is)

  -- ---- the pages

  module _ (held : (f : ℕ) → 1 ≤ f → f ≤ files → row_holds w f (row_at w f) ≡ true) where
    pub places_are : (k : ℕ) → k ≤ files → places_to rs k ≡ length (versions_to w k)
    unfolding places_to versions_to row_of
    places_are zero h = refl
    places_are (suc k) h =
        let e = places_are k (omega arith) in
        let o = one_place (suc k) (held (suc k) (omega arith) h) in
        rw (e, o) (sym (length-append (versions_to w k) (carried_by (version_of w (suc k)))))

    pub record Stands (fresh : List ℕ) (k : ℕ) : Type 0 where
      pub pair : stores_to s files rs (onto fresh (opening true ∷ [])) k ≡ (suc (length (versions_to w k)), onto fresh (opening true ∷ versions_to w k))
      pub long : Long (opening true ∷ versions_to w k)

    first_long : Long (opening true ∷ [])
    first_long = long_more [] (opening true) long_none (length-replicate {A = ℕ} value_size 0)

    stands : (fresh : List ℕ) (k : ℕ) → k ≤ files → Stands fresh k
    unfolding stores_to versions_to row_of
    stands fresh zero h = record { pair = refl; long = first_long }
    stands fresh (suc k) h =
        let r = stands fresh k (omega arith) in
        let v = version_is (suc k) (held (suc k) (omega arith) h) in
        let u = sealed_image files s (suc k) (place (suc k)) in
        let gs : List Entry = opening true ∷ versions_to w k in
        record {
          pair = rw (r.pair, v) (stored_more files s (suc k) (place (suc k)) u refl fresh gs r.long);
          long = rw v (long_stored files s (suc k) (place (suc k)) u refl gs r.long);
        }

    first_is : (fresh : List ℕ) → with_page fresh 0 (packed (table.opening_as 1 1) (lib.ListN.replicate value_size 0) 1) ≡ onto fresh (opening true ∷ [])
    unfolding packed_entry
    first_is fresh = ap (λ (l : List ℕ). with_page l 0 (packed_entry 1 (opening true))) (sym (onto_none fresh)) ∙ onto_more fresh [] (opening true) long_none

    last_is : (fresh : List ℕ) (gs : List Entry) → Long gs → closed_by (length gs, onto fresh gs) ≡ onto fresh (gs ++ (outcome 1 true ∷ []))
    unfolding packed_entry
    last_is fresh gs l = onto_more fresh gs (outcome 1 true) l

    -- what is stored are the pages of the move
    pub stored_pages : (fresh : List ℕ) → stores_all s files rs fresh ≡ onto fresh (move_pages w)
    unfolding stores_all move_pages
    stored_pages fresh =
        let r = stands fresh files (omega arith) in
        ap (λ (l : List ℕ). closed_by (stores_to s files rs l files)) (first_is fresh) ∙ ap closed_by r.pair ∙ last_is fresh (opening true ∷ versions_to w files) r.long
        ∙ rw (rows_long rs)
