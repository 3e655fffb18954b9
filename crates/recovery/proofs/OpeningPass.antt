-- The pass of `open`: what holds after n pages, the step to the next, and what holds at the last. Assumes nothing.
use Prim.Native.Nat.{ℕ, suc, ◌+◌, ◌-◌, ◌≤◌, ◌<◌}
use mathlib.Core.Path.{◌≡◌, sym, ap, subst, ◌∙◌}
use mathlib.Core.Bool.{Bool, true, false, not, cond}
use mathlib.Core.List.{List}
use native.Mathlib.Omega.{arith}
use lib.Dec.{eqb}
use lib.ListN.{get_or, set, replicate}
use Rattle.page.specs.declared.Page.{Page}
use Rattle.page.specs.declared.Unpacked.{Unpacked}
use Rattle.page.specs.declared.Unpacked.TheVariants.{Refused, Blank, Torn, Opening, Image, Outcome, Unfit}
use Rattle.page.specs.Answers.{tested}
use Rattle.recovery.specs.Log.{Entry, blank, torn, bad, opening, image, outcome, fate_of}
use Rattle.recovery.specs.Sheet.{page_bytes, image_from, is_opening, decoded, pages}
use Rattle.recovery.specs.World.{down, end_of, is_blank, is_bad, fate_number, fates_of}
use Rattle.recovery.specs.OpenSteps.{good, worse, stepped, Scanned}
use Rattle.recovery.specs.declared.Scan.{Scan}
use Rattle.recovery.proofs.Places.{tabulate_cong}
use Rattle.recovery.proofs.OpeningEnds.{Ends, ends_none, ends_blank, ends_worse, ends_good, fate_end}
use Rattle.recovery.proofs.OpeningFates.{bounded_at, fate_none, page_is, fates_up, get_fate, keep_opening, keep_outcome, fates_zero}

module _ (files N : ℕ) (s : List ℕ) where
  -- what the scan and the kept fates are after n pages
  pub record Passed (n : ℕ) (x : Scan × List ℕ) : Type 0 where
    pub ends : Ends (pages files N s) n x.0
    pub kept_is : x.1 ≡ fates_of N (down (pages files N s) n)

  pub passed_none : (k : List ℕ) → k ≡ replicate N 0 → Passed 0 (record { end = 0; bad = 0 }, k)
  passed_none k e = record { ends = ends_none (pages files N s); kept_is = e ∙ fates_zero N (pages files N s) }

  module _ (n : ℕ) (sc : Scan) (k : List ℕ) (p : Passed n (sc, k)) where
    -- the page above n is bad, which leaves the fates,
    passed_bad : get_or (pages files N s) n blank ≡ bad → Passed (suc n) (worse (suc n), k)
    passed_bad g = record {
      ends = ends_worse (pages files N s) n sc p.ends (ap is_blank g) (ap is_bad g);
      kept_is = p.kept_is ∙ fates_up N (pages files N s) n bad g;
    }

    -- or is a sealed image, which leaves them too
    passed_image : (q : Page) → get_or (pages files N s) n blank ≡ image (image_from (page_bytes s (suc n)) q) → Passed (suc n) (good (suc n) sc, k)
    passed_image q g = record {
      ends = ends_good (pages files N s) n sc p.ends (ap is_blank g) (ap is_bad g);
      kept_is = p.kept_is ∙ fates_up N (pages files N s) n (image (image_from (page_bytes s (suc n)) q)) g;
    }

    -- a kept fate is 0 exactly where no opening is
    kept_none : (a : ℕ) → n < N → 1 ≤ a → a < suc n → eqb (get_or k (a - 1) 0) 0 ≡ not (is_opening (decoded files s a))
    kept_none a h l m =
        ap (λ (x : List ℕ). eqb (get_or x (a - 1) 0) 0) p.kept_is
        ∙ ap (λ (x : ℕ). eqb x 0) (get_fate N a (down (pages files N s) n) l (omega arith))
        ∙ fate_none files s N n (omega arith) a l (omega arith)

    sealing : (a : ℕ) (g : Entry) (x y : Scan × List ℕ) → n < N → 1 ≤ a → a < suc n
        → get_or (pages files N s) n blank ≡ cond (is_opening (decoded files s a)) g bad
        → (get_or (pages files N s) n blank ≡ bad → Passed (suc n) x) → (get_or (pages files N s) n blank ≡ g → Passed (suc n) y)
        → Passed (suc n) (cond (eqb (get_or k (a - 1) 0) 0) x y)
    sealing a g x y h l m e f t = subst (λ (b : Bool). Passed (suc n) (cond b x y)) (sym (kept_none a h l m)) (go (is_opening (decoded files s a)) e)
      where
        go : (o : Bool) → get_or (pages files N s) n blank ≡ cond o g bad → Passed (suc n) (cond (not o) x y)
        go true e' = t e'
        go false e' = f e'

    passed_step : (u : Unpacked) → u ≡ tested (page_bytes s (suc n)) (suc n) files → n < N → Passed (suc n) (stepped u (suc n) sc k)
    passed_step Refused e h = passed_bad (page_is files s N n Refused e h)
    passed_step Blank e h =
        let g = page_is files s N n Blank e h in
        record {
          ends = ends_blank (pages files N s) n sc p.ends (ap is_blank g);
          kept_is = p.kept_is ∙ fates_up N (pages files N s) n blank g;
        }
    passed_step Torn e h =
        let g = page_is files s N n Torn e h in
        record {
          ends = ends_good (pages files N s) n sc p.ends (ap is_blank g) (ap is_bad g);
          kept_is = p.kept_is ∙ fates_up N (pages files N s) n torn g;
        }
    passed_step (Opening q) e h =
        let g = page_is files s N n (Opening q) e h in
        record {
          ends = ends_good (pages files N s) n sc p.ends (ap is_blank g) (ap is_bad g);
          kept_is = ap (λ (x : List ℕ). set x (suc n - 1) 1) p.kept_is ∙ keep_opening (eqb q.small 1) N n (down (pages files N s) n) ∙ fates_up N (pages files N s) n (opening (eqb q.small 1)) g;
        }
    passed_step (Image q) e h =
        let t = bounded_at s (suc n) files (Image q) e in
        sealing q.action (image (image_from (page_bytes s (suc n)) q)) (worse (suc n), k) (good (suc n) sc, k) h t.0 t.1 (page_is files s N n (Image q) e h)
        passed_bad
        (passed_image q)
    passed_step (Outcome q) e h =
        let t = bounded_at s (suc n) files (Outcome q) e in
        sealing q.action (outcome q.action (eqb q.small 1)) (worse (suc n), k) (good (suc n) sc, set k (q.action - 1) (q.small + 1)) h t.0 t.1 (page_is files s N n (Outcome q) e h)
        passed_bad
        (λ g. record {
          ends = ends_good (pages files N s) n sc p.ends (ap is_blank g) (ap is_bad g);
          kept_is = ap (λ (x : List ℕ). set x (q.action - 1) (q.small + 1)) p.kept_is
              ∙ keep_outcome N q.action q.small (suc n) (down (pages files N s) n) t.0 t.2 t.3
              ∙ fates_up N (pages files N s) n (outcome q.action (eqb q.small 1)) g;
        })
    passed_step Unfit e h = passed_bad (page_is files s N n Unfit e h)

  -- a turn of the loop
  pub passed_turn : (n : ℕ) (sc : Scan) (k : List ℕ) → Passed n (sc, k) → n < N → (u : Unpacked) → u ≡ tested (page_bytes s (n + 1)) (n + 1) files
      → (r : Scan) (k' : List ℕ) → (r, k') ≡ stepped u (n + 1) sc k → Passed (n + 1) (r, k')
  passed_turn n sc k p h u e r k' m =
      let z : n + 1 ≡ suc n = omega arith in
      let e' : u ≡ tested (page_bytes s (suc n)) (suc n) files = subst (λ (x : ℕ). u ≡ tested (page_bytes s x) x files) z e in
      let m' : (r, k') ≡ stepped u (suc n) sc k = m ∙ ap (λ (x : ℕ). stepped u x sc k) z in
      subst (λ (x : ℕ). Passed x (r, k')) (sym z) (subst (Passed (suc n)) (sym m') (passed_step n sc k p u e' h))

  -- the last page
  pub passed_all : (n : ℕ) (sc : Scan) (k : List ℕ) → Passed n (sc, k) → n ≡ N → Scanned files N s sc k
  passed_all n sc k p e =
      let q : Passed N (sc, k) = subst (λ (x : ℕ). Passed x (sc, k)) e p in
      record {
        end_is = q.ends.end_is;
        bad_is = q.ends.bad_is;
        kept_is = q.kept_is
            ∙ tabulate_cong (λ a. fate_number (fate_of (down (pages files N s) (end_of (pages files N s) N)) a)) (λ a. fate_number (fate_of (down (pages files N s) N) a)) 0 N
            (λ b h l. ap fate_number (fate_end (pages files N s) N b));
      }
