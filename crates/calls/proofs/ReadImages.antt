-- Sealed images as the code finds them: what the page at a place then holds, and line 7 for a row. Assumes nothing.
use Prim.Native.Nat.{ℕ, zero, suc, ◌*◌, ◌/◌, ◌≤◌}
use mathlib.Core.Path.{◌≡◌, refl, sym, ap, ◌∙◌}
use mathlib.Core.Bool.{Bool, true, false, cond, ◌&&◌, ◌||◌}
use mathlib.Core.List.{List}
use mathlib.Core.Option.{none}
use native.Mathlib.Omega.{arith}
use lib.ListN.{length, drop, length-take, length-drop}
use lib.Dec.{eqb, leb}
use borrow.Author.Tests.{ne_eqb, eqb-true}
use Rattle.encoding.proofs.Logic.{and_true, and_false}
use Rattle.page.specs.declared.Page.{Page}
use Rattle.page.specs.declared.Unpacked.{Unpacked}
use Rattle.page.specs.declared.Unpacked.TheVariants.{Refused, Blank, Torn, Opening, Image, Outcome, Unfit}
use Rattle.std.specs.Prelude.{Option, is_some, Some, None}
use Rattle.page.specs.Layout.{page_size}
use Rattle.page.specs.Answers.{tested, on_image}
use Rattle.page.proofs.Found.{ImageIs, image_is, found}
use Rattle.recovery.specs.Places.{nth}
use Rattle.recovery.specs.Log.{blank, image}
use Rattle.recovery.specs.Sheet.{page_bytes, entry_of, image_from, is_opening, seal, decoded}
use Rattle.recovery.specs.World.{is_image_of}
use Rattle.recovery.specs.Lent.{pages_of}
use Rattle.recovery.specs.Steps.{sealed_image, place_holds_by, action_found, token_holds_by, row_holds_by}
use Rattle.recovery.specs.declared.Row.{Row}
use Rattle.recovery.proofs.Pages.{page_at_place, sealed_is}
use Rattle.recovery.proofs.Held.{held_in}
use Rattle.calls.specs.Calls.{image_of}
use Rattle.calls.specs.ReadSteps.{Looked}

-- ---- what a find tells

pub record Met (files : ℕ) (s : List ℕ) (f p : ℕ) (x : Page) : Type 0 where
  pub page_is : nth blank (pages_of s files) p ≡ image (image_from (page_bytes s p) x)
  pub file_is : x.file ≡ f
  pub rules : ImageIs x p files
  pub low : 1 ≤ p
  pub room : page_size * p ≤ length s

in_room : (s : List ℕ) (p files : ℕ) (x : Page) → Image x ≡ tested (page_bytes s p) p files → (1 ≤ p) × (page_size * p ≤ length s)
in_room s zero files x e = let b = (found (page_bytes s 0) 0 files (Image x) e).bounds in absurd (omega arith)
in_room s (suc q) files x e =
    let b = (found (page_bytes s (suc q)) (suc q) files (Image x) e).bounds in
    (omega arith, omega (arith, b.size_is, length-take page_size (drop (page_size * q) s), length-drop (page_size * q) s))

not_image : {A : Type 0} {x : Page} → None ≡ Some x → A
not_image e = let z : ◌≡◌ {A = ℕ} 0 1 = cc in absurd (omega arith)

module _ (files : ℕ) (s : List ℕ) (f p : ℕ) (x : Page) where
  from_image : (y : Page) → Image y ≡ tested (page_bytes s p) p files → (a : Bool) → eqb y.file f ≡ a → (o : Bool) → is_opening (decoded files s y.action) ≡ o
      → cond (a && o) (Some y) None ≡ Some x → Met files s f p x
  from_image y q true ea true eo k =
      let z : y ≡ x = cc in
      let l = in_room s p files y q in
      let e : seal (decoded files s) (entry_of (page_bytes s p) (Image y)) ≡ image (image_from (page_bytes s p) x) = rw (eo, z) in
      record {
        page_is = page_at_place files (length s / page_size) s p l.0 (omega arith) ∙ sym (sealed_is s p files (Image y) q) ∙ e;
        file_is = rw z at (eqb-true y.file f ea);
        rules = rw z at (image_is (page_bytes s p) p files y q);
        low = l.0;
        room = l.1;
      }
  from_image y q true ea false eo k = not_image k
  from_image y q false ea o eo k = not_image k

  from_test : (u : Unpacked) → u ≡ tested (page_bytes s p) p files
      → on_image u (λ (y : Page). cond (eqb y.file f && is_opening (decoded files s y.action)) (Some y) None) None ≡ Some x
      → Met files s f p x
  from_test Refused q k = not_image k
  from_test Blank q k = not_image k
  from_test Torn q k = not_image k
  from_test (Opening y) q k = not_image k
  from_test (Outcome y) q k = not_image k
  from_test Unfit q k = not_image k
  from_test (Image y) q k = from_image y q (eqb y.file f) refl (is_opening (decoded files s y.action)) refl k

  pub met_at : sealed_image files s f p ≡ Some x → Met files s f p x
  unfolding sealed_image
  met_at e = from_test (tested (page_bytes s p) p files) refl e

pub none_at : (files : ℕ) (s : List ℕ) (f p : ℕ) → None ≡ sealed_image files s f p → is_image_of f (nth blank (pages_of s files) p) ≡ false
none_at files s f p h = held_in files s f p ∙ ap is_some (sym h)

-- ---- line 7

module _ (files : ℕ) (s : List ℕ) (e f p : ℕ) where
  -- what was found at a place that line 7 lets through
  pub looked : (u : Option Page) → u ≡ sealed_image files s f p → place_holds_by e p u ≡ true → Looked files s f p u
  unfolding place_holds_by
  looked (Some x) h k = record { found = h; image_is = ap image_of (met_at files s f p x (sym h)).page_is }
  looked None h k = record { found = h; image_is = go p k }
    where
      go : (p : ℕ) → (eqb p 0 || (leb p e && false)) ≡ true → image_of (nth blank (pages_of s files) p) ≡ none
      go zero q = refl
      go (suc j) q = let y : false ≡ true = simp (ne_eqb (suc j) 0 (λ z. omega arith), and_false (leb (suc j) e) false refl) at q in let r : ◌≡◌ {A = ℕ} 0 1 = cc in absurd (omega arith)

-- what was found at the places of a row that line 7 lets through
pub record RowHeld (files : ℕ) (s : List ℕ) (e f : ℕ) (r : Row) (u v : Option Page) : Type 0 where
  pub current : u ≡ sealed_image files s f r.current
  pub token : v ≡ sealed_image files s f r.token
  pub holds : row_holds_by e r u v ≡ true

module _ {files : ℕ} {s : List ℕ} {e f : ℕ} {r : Row} {u v : Option Page} (k : RowHeld files s e f r u v) where
  each : (place_holds_by e r.current u ≡ true) × (place_holds_by e r.token v ≡ true)
  unfolding row_holds_by token_holds_by
  each =
      let h = and_true (leb r.mark 1 && place_holds_by e r.current u) (token_holds_by e r v) k.holds in
      ((and_true (leb r.mark 1) (place_holds_by e r.current u) h.0).1, (and_true (place_holds_by e r.token v) (eqb (action_found v) r.tokenaction) h.1).0)

  pub looked_current : Looked files s f r.current u
  looked_current = looked files s e f r.current u k.current each.0

  pub looked_token : Looked files s f r.token v
  looked_token = looked files s e f r.token v k.token each.1
