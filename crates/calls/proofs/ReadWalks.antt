-- The walk down the links as the code goes it, from what is found at each place. Assumes nothing.
use Prim.Native.Nat.{ℕ, zero, suc, ◌*◌, ◌≤◌, ◌<◌}
use mathlib.Core.Path.{◌≡◌, sym, ap, ◌∙◌}
use mathlib.Core.List.{List}
use mathlib.Core.Bool.{Bool, ◌||◌}
use native.Mathlib.Omega.{arith}
use lib.ListN.{length, length-take, length-drop}
use Rattle.page.specs.declared.Page.{Page}
use Rattle.std.specs.Prelude.{Option, Some, None}
use Rattle.page.specs.Layout.{page_size, value_size}
use Rattle.recovery.specs.Log.{Placed}
use Rattle.recovery.specs.Sheet.{page_bytes, image_from, decoded}
use Rattle.recovery.specs.World.{is_carried}
use Rattle.recovery.specs.declared.Refusal.TheVariants.{LostLink}
use Rattle.recovery.specs.declared.Answer.TheVariants.{Refused, Value}
use Rattle.recovery.specs.Lent.{pages_of}
use Rattle.recovery.specs.Steps.{sealed_image}
use Rattle.recovery.proofs.Held.{carried_at}
use Rattle.calls.specs.Walk.{none_below}
use Rattle.calls.specs.ReadSteps.{walk_answer, carried_in, walk_at}
use Rattle.calls.proofs.ReadImages.{Met, met_at, none_at}
use Rattle.calls.proofs.LinkByLink.{reached, unlinked, linked, mislinked}

value_long : (s : List ℕ) (p : ℕ) (x : Page) → 1 ≤ p → page_size * p ≤ length s → x.small ≤ value_size → length (image_from (page_bytes s p) x).value ≡ x.small
value_long s zero x l h k = absurd (omega arith)
value_long s (suc q) x l h k = simp (length-take, length-drop) (omega arith)

pub met_long : (files : ℕ) (s : List ℕ) (f p : ℕ) (x : Page) → Met files s f p x → length (image_from (page_bytes s p) x).value ≡ x.small
met_long files s f p x m = value_long s p x m.low m.room m.rules.size

-- the place that an image links to is lower than its own, so the walk ends
pub falls : (files : ℕ) (s : List ℕ) (f p : ℕ) (x : Page) → sealed_image files s f p ≡ Some x → x.link < p
falls files s f p x m = (met_at files s f p x m).rules.link

module _ (files : ℕ) (s : List ℕ) (f t : ℕ) (b : Bool) (p : ℕ) (x : Page) (m : sealed_image files s f p ≡ Some x) where
  abbrev here : Placed
  here = record { place = p; image = image_from (page_bytes s p) x }

  pub walk_met : x.start ≤ t → Value p x.start x.small ≡ walk_at files s f t b p x
  unfolding walk_at
  walk_met e = sym (ap walk_answer (reached (carried_in files s) (pages_of s files) f t b here e) ∙ ap (Value p x.start) (met_long files s f p x (met_at files s f p x m)))

  -- the flag once this image was passed, by what was found at the place of its action
  module _ (low : t < x.start) (k : Bool) (hk : k ≡ is_carried (decoded files s x.action)) where
    flag : (b || carried_in files s x.action) ≡ (b || k)
    flag = ap (λ (o : Bool). b || o) (sym (hk ∙ carried_at files s x.action))

    pub walk_end : x.link ≡ 0 → walk_answer (none_below (b || k)) ≡ walk_at files s f t b p x
    unfolding walk_at
    walk_end e = sym (ap walk_answer (unlinked (carried_in files s) (pages_of s files) f t b here low e ∙ ap none_below flag))

    module _ (z : x.link ≡ 0 → ⊥) (r : Option Page) (hr : r ≡ sealed_image files s f x.link) where
      pub walk_lost : r ≡ None → Refused LostLink p ≡ walk_at files s f t b p x
      unfolding walk_at
      walk_lost e = sym (ap walk_answer (mislinked (carried_in files s) (pages_of s files) f t b here low (falls files s f p x m) z (none_at files s f x.link (sym e ∙ hr))))

      module _ (y : Page) (e : r ≡ Some y) where
        pub next_is : sealed_image files s f x.link ≡ Some y
        next_is = sym hr ∙ e

        pub walk_on : walk_at files s f t (b || k) x.link y ≡ walk_at files s f t b p x
        unfolding walk_at
        walk_on =
            let m' = met_at files s f x.link y next_is in
            ap (λ (o : Bool). walk_at files s f t o x.link y) (sym flag) ∙ sym (ap walk_answer (linked (carried_in files s) (pages_of s files) f t b here low (falls files s f p x m) (image_from (page_bytes s x.link) y) m'.page_is m'.file_is))
