-- Of the tokens' pages commit and abort go by those alone whose row names their action: what they leave of the rows hangs on the rows, the
-- end, whether they append, and on these pages as they are sealed, whatever else the sheet and the fates hold. Shuts out a store that settles
-- a row by its token's page whatever action the row names. Assumes nothing.
use Prim.Native.Nat.{ℕ, suc, ◌/◌}
use mathlib.Core.Path.{◌≡◌, refl, sym, ap, ap₂, ◌∙◌}
use mathlib.Core.Bool.{Bool, true, false, cond, ◌&&◌}
use mathlib.Core.List.{List, [], ◌∷◌}
use mathlib.Core.Logic.{◌⊎◌, inl, inr}
use native.Mathlib.Omega.{arith}
use lib.ListN.{length, get_or}
use lib.Dec.{eqb, leb}
use Rattle.recovery.specs.Places.{nth}
use Rattle.recovery.specs.Log.{Entry, blank}
use Rattle.recovery.specs.World.{World, Result, cold, entry_at, is_image_of, image_action, is_rebuilt_for}
use Rattle.recovery.specs.Lent.{row_length, Left, pages_of, lent, whole, rows_of, flat, refused}
use Rattle.recovery.specs.Steps.{row_of, sheet_world}
use Rattle.recovery.specs.declared.Refusal.TheVariants.{WrongSizes}
use Rattle.recovery.specs.declared.Row.{Row}
use Rattle.recovery.specs.declared.State.{State}
use Rattle.recovery.proofs.Leaves.{rows_back}
use Rattle.calls.specs.Calls.{decide, holds_token, decided, settled, each_row, call}
use Rattle.calls.specs.Leaves.{lower, call_leaves}
use Rattle.calls.specs.DecideSteps.{settled_rows}
use Rattle.calls.proofs.EveryCall.{file_of, Ways, every_call}

module _ (a : ℕ) (c : Bool) where
  -- ---- rows settled by one sheet and by another

  module _ (w v : World) (e : v.end ≡ w.end) where
    SamePage : Row → Type 0
    SamePage r = is_rebuilt_for a r ≡ true → entry_at v r.token ≡ entry_at w r.token

    holds_alike : (f : ℕ) (r : Row) → SamePage r → holds_token v a f r ≡ holds_token w a f r
    unfolding SamePage
    holds_alike f r h = rw e (go (is_rebuilt_for a r) h)
      where
        there : Entry → Bool
        there g = leb r.token w.end && is_image_of f g && eqb (image_action g) a

        go : (b : Bool) → (b ≡ true → entry_at v r.token ≡ entry_at w r.token) → (b && there (entry_at v r.token)) ≡ (b && there (entry_at w r.token))
        go true k = ap there (k refl)
        go false k = refl

    each_alike : (f : ℕ) (rs : List Row) → ((i : ℕ) → SamePage (get_or rs i cold)) → each_row (settled v a c) f rs ≡ each_row (settled w a c) f rs
    unfolding each_row
    each_alike f [] h = refl
    each_alike f (r ∷ rs) h = ap₂ ◌∷◌ (ap (λ (b : Bool). cond b (decided c r) r) (holds_alike (suc f) r (h 0))) (each_alike (suc f) rs (λ i. h (suc i)))

  -- ---- a decision that appends nothing leaves the rows, one that appends settles them

  module _ (w : World) where
    Settles : Result → Type 0
    Settles r = ((r.1.end ≡ w.end) × (r.1.rows ≡ w.rows)) ⊎ ((r.1.end ≡ suc w.end) × (r.1.rows ≡ each_row (settled w a c) 0 w.rows))

    ways : Ways Settles (decide a c) w
    unfolding Settles file_of
    ways = record {
      refusing = λ n p l. inl (refl, refl);
      answering = λ x q p. inl (refl, refl);
      changing = λ x r q p. inl (refl, refl);
      growing = λ g fates left n q p. inr (refl, q.left);
    }

    settles : Settles (call w (decide a c))
    unfolding file_of
    settles = every_call Settles w (decide a c) ways ways

  -- ---- of what is lent

  module _ (rows : List ℕ) (state : State) where
    abbrev files : ℕ
    files = length rows / row_length

    Leaves : List ℕ → Left → Type 0
    Leaves s x =
        ((x.state.end ≡ state.end) × (x.rows ≡ rows)) ⊎ ((x.state.end ≡ suc state.end) × (x.rows ≡ settled_rows s files state.end a c rows))

    leaves : (s fates : List ℕ) → Leaves s (call_leaves s fates rows state (decide a c))
    unfolding Leaves Settles call_leaves settled_rows
    leaves s fates = go (whole (length s) (length rows)) refl
      where
        w : World
        w = lent s fates rows state

        lowered : whole (length s) (length rows) ≡ true → Settles w (call w (decide a c)) → Leaves s (lower s state.end (call w (decide a c)))
        lowered e (inl h) = inl (h.0, ap flat h.1 ∙ rows_back s fates rows state e)
        lowered e (inr h) = inr (h.0, ap flat h.1)

        go : (b : Bool) → whole (length s) (length rows) ≡ b → Leaves s (cond b (lower s state.end (call w (decide a c))) (refused WrongSizes 0 s fates rows state))
        go true e = lowered e (settles w)
        go false e = inl (refl, refl)

    -- a page as it is sealed for the files that there are rows for
    abbrev page_of : List ℕ → ℕ → Entry
    page_of s place = nth blank (pages_of s files) place

    module _ (s t fates others : List ℕ) where
      -- both append, or neither; and the pages of the rows that name the action are the same
      pub own_pages : (call_leaves t others rows state (decide a c)).state.end ≡ (call_leaves s fates rows state (decide a c)).state.end
          → ((g : ℕ) → is_rebuilt_for a (row_of rows g) ≡ true → page_of t (row_of rows g).token ≡ page_of s (row_of rows g).token)
          → (call_leaves t others rows state (decide a c)).rows ≡ (call_leaves s fates rows state (decide a c)).rows
      unfolding Leaves SamePage row_of settled_rows
      own_pages e h = go (leaves t others) (leaves s fates)
        where
          alike : settled_rows t files state.end a c rows ≡ settled_rows s files state.end a c rows
          alike = ap flat (each_alike (sheet_world s files state.end) (sheet_world t files state.end) refl 0 (rows_of rows) (λ i. h (suc i)))

          go : Leaves t (call_leaves t others rows state (decide a c)) → Leaves s (call_leaves s fates rows state (decide a c))
              → (call_leaves t others rows state (decide a c)).rows ≡ (call_leaves s fates rows state (decide a c)).rows
          go (inl p) (inl q) = p.1 ∙ sym q.1
          go (inr p) (inr q) = p.1 ∙ alike ∙ sym q.1
          go (inl p) (inr q) = absurd (omega (arith, p.0, q.0, e))
          go (inr p) (inl q) = absurd (omega (arith, p.0, q.0, e))
