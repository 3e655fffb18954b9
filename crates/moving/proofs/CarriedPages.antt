-- A version that is carried, as bytes: the page obeys the rules, and is the page of the image that is carried. Assumes nothing.
use Prim.Native.Nat.{ℕ, zero, suc, ◌+◌, ◌*◌, ◌/◌, ◌-◌, ◌^◌, ◌≤◌, ◌<◌}
use mathlib.Core.Path.{◌≡◌, refl, sym, ap, subst, ◌∙◌}
use mathlib.Core.Bool.{Bool, true, false, cond, ◌&&◌}
use mathlib.Core.List.{List}
use native.Mathlib.Omega.{arith}
use native.Mathlib.Numerals.{add-one}
use lib.ListN.{length, take, drop, replicate, take-append-drop, length-take, length-drop}
use lib.Seq.{length-take-le}
use lib.Dec.{eqb}
use borrow.Author.Tests.{eq-eqb, ne_eqb, le-leb}
use Rattle.encoding.specs.Bytes.{zeros}
use Rattle.encoding.proofs.Logic.{and_true}
use Rattle.encoding.proofs.Numbers.{zeros_are}
use Rattle.page.specs.declared.Page.{Page}
use Rattle.page.specs.declared.Unpacked.{Unpacked}
use Rattle.page.specs.declared.Unpacked.TheVariants.{Refused, Blank, Torn, Opening, Image, Outcome, Unfit}
use Rattle.std.specs.Prelude.{Some, None}
use Rattle.page.specs.Layout.{page_size, value_size}
use Rattle.page.specs.Table as table
use Rattle.page.specs.Table.{value_of, fields_of, packed, lowest, highest, between, meets_rules, is_page_of}
use Rattle.page.specs.Answers.{in_bounds, tested, on_image, value_in}
use Rattle.page.proofs.Rules.{between_true}
use Rattle.page.proofs.Found.{found, image_is}
use Rattle.page.proofs.Obeyed.{image_rules}
use Rattle.recovery.specs.Sheet.{page_bytes, is_opening, decoded}
use Rattle.recovery.specs.Steps.{part_at, sealed_image}
use Rattle.calls.specs.Leaves.{padded, with_page, appended}
use Rattle.calls.proofs.Appends.{appended_is}
use Rattle.calls.proofs.ReadImages.{Met, met_at}
use Rattle.moving.specs.MoveSteps.{stored_by}

-- a value whose bytes past its length are 0
pub padded_back : (n : ℕ) (v : List ℕ) → length v ≡ value_size → n ≤ value_size → zeros (drop n v) ≡ true → padded (take n v) ≡ v
padded_back n v l h z =
    let short : length (take n v) ≡ n = length-take-le n v (omega arith) in
    let rest : drop n v ≡ replicate (value_size - n) 0 = rw (length-drop n v, l) at (zeros_are (drop n v) z) in
    rw (short, ← rest) (take-append-drop n v)

-- what the page test said of an image that was found
module _ (files : ℕ) (s : List ℕ) (f p : ℕ) (x : Page) where
  from_image : (y : Page) → Image y ≡ tested (page_bytes s p) p files → (b : Bool)
      → cond b (Some y) None ≡ Some x → Image x ≡ tested (page_bytes s p) p files
  from_image y q true k = let z : y ≡ x = cc in rw (← z) q
  from_image y q false k = let z : ◌≡◌ {A = ℕ} 0 1 = cc in absurd (omega arith)

  from_test : (u : Unpacked) → u ≡ tested (page_bytes s p) p files
      → on_image u (λ (y : Page). cond (eqb y.file f && is_opening (decoded files s y.action)) (Some y) None) None ≡ Some x
      → Image x ≡ tested (page_bytes s p) p files
  from_test Refused q k = let z : ◌≡◌ {A = ℕ} 0 1 = cc in absurd (omega arith)
  from_test Blank q k = let z : ◌≡◌ {A = ℕ} 0 1 = cc in absurd (omega arith)
  from_test Torn q k = let z : ◌≡◌ {A = ℕ} 0 1 = cc in absurd (omega arith)
  from_test (Opening y) q k = let z : ◌≡◌ {A = ℕ} 0 1 = cc in absurd (omega arith)
  from_test (Outcome y) q k = let z : ◌≡◌ {A = ℕ} 0 1 = cc in absurd (omega arith)
  from_test Unfit q k = let z : ◌≡◌ {A = ℕ} 0 1 = cc in absurd (omega arith)
  from_test (Image y) q k = from_image y q (eqb y.file f && is_opening (decoded files s y.action)) k

  found_image : sealed_image files s f p ≡ Some x → Image x ≡ tested (page_bytes s p) p files
  unfolding sealed_image
  found_image e = from_test (tested (page_bytes s p) p files) refl e

-- what the rules then say of its start and value
module _ (b : List ℕ) (files p : ℕ) (x : Page) (e : Image x ≡ tested b p files) where
  kind_is : x.kind ≡ 2
  kind_is = (image_is b p files x e).kind

  rules_met : meets_rules x (value_of b) p files ≡ true
  unfolding is_page_of
  rules_met =
      let h = found b p files (Image x) e in
      subst (λ (y : Page). meets_rules y (value_of b) p files ≡ true) (sym h.fields_are) (and_true (meets_rules (fields_of b) (value_of b) p files) _ h.fits_is).0

  rest_zero : zeros (drop x.small (value_of b)) ≡ true
  unfolding meets_rules
  rest_zero =
      let z = (and_true (between x (lowest x.kind p) (highest x.kind p files)) _ rules_met).1 in
      rw (eq-eqb x.kind 2 kind_is) at z

  pub start_high : x.start < 2 ^ 64
  unfolding meets_rules lowest highest
  start_high =
      let i : x.kind ≡ 2 = kind_is in
      let z = (between_true x _ _ (and_true (between x (lowest x.kind p) (highest x.kind p files)) _ rules_met).0).start.1 in
      let y = simp (ne_eqb x.kind 1 (λ q. omega arith), eq-eqb x.kind 2 i) at z in
      omega arith

module _ (files : ℕ) (s : List ℕ) (file place : ℕ) (x : Page) (m : sealed_image files s file place ≡ Some x) where
  abbrev b : List ℕ
  b = page_bytes s place

  k : Met files s file place x
  k = met_at files s file place x m

  told : Image x ≡ tested b place files
  told = found_image files s file place x m

  pub value_rest : zeros (drop x.small (value_of b)) ≡ true
  value_rest = rest_zero b files place x told

  -- the page that the move stores for it obeys the rules
  pub carried_rules : (at : ℕ) → 1 ≤ at → meets_rules (table.image x.small file 1 0 x.start) (value_of b) (suc at) files ≡ true
  carried_rules at h =
      let f = k.file_is in
      image_rules x.small file 1 0 x.start (suc at) files (value_of b) k.rules.size (rw f at k.rules.file.0) (rw f at k.rules.file.1) (omega arith) (omega arith) (omega arith)
      k.rules.start (start_high b files place x told) value_rest

  -- what is left when it was stored
  pub stored_is : (at : ℕ) (fresh left : List ℕ) (p : Page) (v : List ℕ) → (1 ≤ at) × (page_size * at + page_size ≤ length fresh) × (in_bounds page_size (suc at) files ≡ true)
      → p ≡ table.image x.small file 1 0 x.start → v ≡ value_of b
      → left ≡ appended fresh at files p v → ◌≡◌ {A = ℕ × List ℕ} (at + 1, left) (stored_by s file place at fresh (sealed_image files s file place))
  stored_is at fresh left p v r hp hv hl =
      let l : left ≡ with_page fresh at (packed p v (suc at)) = hl ∙ appended_is fresh p v at files (r.1, r.2, rw (hp, hv) (carried_rules at r.0)) in
      rw (m, add-one at, l, hp, hv)

pub value_size_lem : (s : List ℕ) (p : ℕ) → 1 ≤ p → page_size * p ≤ length s → length (value_of (page_bytes s p)) ≡ value_size
value_size_lem s zero h l = absurd (omega arith)
value_size_lem s (suc q) h l = simp (length-take, length-drop) (omega arith)

-- the value at a place
pub value_part : (s : List ℕ) (p : ℕ) (part v : List ℕ) → 1 ≤ p → page_size * p ≤ length s → part ≡ part_at s p → v ≡ value_in part → v ≡ value_of (page_bytes s p)
unfolding value_in part_at
value_part s zero part v h l hp hv = absurd (omega arith)
value_part s (suc q) part v h l hp hv =
    let n : length (take page_size (drop (page_size * q) s)) ≡ page_size = length-take-le page_size (drop (page_size * q) s) (omega (arith, length-drop (page_size * q) s)) in
    let z : part ≡ page_bytes s (suc q) = hp ∙ rw (le-leb 1 (suc q) (omega arith), le-leb (suc q) (length s / page_size) (omega arith)) in
    hv ∙ ap value_in z ∙ rw (eq-eqb (length (take page_size (drop (page_size * q) s))) page_size n)
