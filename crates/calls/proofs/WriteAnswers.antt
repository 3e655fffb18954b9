-- Lines 7 to 12 of write as the code tests them, on a warm row. Assumes nothing.
use Prim.Native.Nat.{ℕ, suc, ◌+◌}
use mathlib.Core.Path.{◌≡◌, sym, ap, ◌∙◌}
use mathlib.Core.Bool.{Bool, true, false}
use mathlib.Core.List.{List}
use native.Mathlib.Numerals.{add-one}
use Rattle.page.specs.declared.Page.{Page}
use Rattle.std.specs.Prelude.{Option}
use Rattle.recovery.specs.declared.Refusal.TheVariants.{DamagedRow, OtherToken}
use Rattle.recovery.specs.declared.Row.{Row}
use Rattle.recovery.specs.declared.State.{State}
use Rattle.recovery.specs.declared.Answer.TheVariants.{Refused}
use Rattle.recovery.specs.Steps.{sealed_image, row_holds_by, row_holds_in}
use Rattle.recovery.proofs.Held.{row_held}
use Rattle.calls.specs.Calls.{is_free_for}
use Rattle.calls.specs.LineSteps.{Line}
use Rattle.calls.specs.ReadSteps.{store_line, stored_at, write_answer}

module _ (s : List ℕ) (files : ℕ) (st : State) (f t a : ℕ) (r : Row) (u v : Option Page) (hu : u ≡ sealed_image files s f r.current) (hv : v ≡ sealed_image files s f r.token) where
  pub write_7 : row_holds_by st.end r u v ≡ false → Refused DamagedRow 0 ≡ write_answer s files st f t a r
  unfolding write_answer
  write_7 h =
      let k : row_holds_in s files st.end f r ≡ false = sym (row_held files s st.end f r u v hu hv) ∙ h in
      simp k

  module _ (h : row_holds_by st.end r u v ≡ true) (b : Bool) (hb : b ≡ is_free_for a r) where
    held : row_holds_in s files st.end f r ≡ true
    held = sym (row_held files s st.end f r u v hu hv) ∙ h

    pub write_8 : b ≡ false → Refused OtherToken r.tokenaction ≡ write_answer s files st f t a r
    unfolding write_answer
    write_8 k = let n : is_free_for a r ≡ false = sym hb ∙ k in rw (held, n)

    pub write_store : b ≡ true → (l : Line) → l ≡ store_line s files st t r → stored_at (st.end + 1) l ≡ write_answer s files st f t a r
    unfolding write_answer
    write_store k l hl = let n : is_free_for a r ≡ true = sym hb ∙ k in rw (held, n, add-one) (ap (stored_at (suc st.end)) hl)
