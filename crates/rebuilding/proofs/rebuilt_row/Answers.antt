-- `rebuilding::rebuilt_row`. The invariant: what is known from above, a token at most, laid over the row of the pages below, is the row. Assumes nothing.
use Rattle.recovery.proofs.WalkDown.{overlay, row_to, row_from_lem, pass, turn, stop, over_none, over_committed, over_token, over_kept, over_passed, over_end}
use Rattle.recovery.proofs.Pages.{part_is}
use Rattle.recovery.specs.Sheet.{page_bytes}
use Rattle.recovery.specs.declared.Row.{Row}
use Rattle.page.specs.declared.Page.{Page}
use Rattle.page.specs.declared.Unpacked.{Unpacked}
use Rattle.page.specs.declared.Unpacked.TheVariants.{Image}
use Rattle.std.specs.Prelude.{Some, None}
use Rattle.page.specs.Answers.{tested, image_of_file}
use Rattle.page.specs.Steps.{named}
use Rattle.page.proofs.Found.{off_image}
use Rattle.page.proofs.Seek.{unnamed, named_image}
use Rattle.encoding.proofs.Logic.{refused, passed}
use lib.Dec.{eqb}
use lib.ListN.{length}
use native.Mathlib.Nat.{not-suc-le-zero}
use native.Mathlib.Omega.{arith}
use mathlib.Core.Bool.{Bool, true, cond}
use mathlib.Core.List.{List}
use mathlib.Core.Path.{◌≡◌, ◌∙◌, refl, ap, sym}
use Prim.Native.Nat.{ℕ, ◌*◌, ◌/◌, ◌≤◌, min}
use Rattle.rebuilding.proofs.rebuilt_row.Goals.{then-fate-eq1+then-row-eq0, else-fate-eq1, else-fate-eq1-via-then-fate-eq1+else-row-eq0, else-fate-eq1-via-else-fate-eq1}
use Rattle.rebuilding.proofs.rebuilt_row.Goals as goal

-- what the looks at a part say of the page at its place
named_at : {part : List ℕ} {b : Bool} (s : List ℕ) (place file : ℕ) → b ≡ named part file → part ≡ page_bytes s place → b ≡ named (page_bytes s place) file
named_at s place file n p = n ∙ ap (λ l. named l file) p

tested_at : {part : List ℕ} {u : Unpacked} (s : List ℕ) (place files : ℕ) → u ≡ tested part place files → part ≡ page_bytes s place
    → u ≡ tested (page_bytes s place) place files
tested_at s place files e p = e ∙ ap (λ l. tested l place files) p

image_at : {part : List ℕ} {b : Bool} {u : Unpacked} {x : Page} (s : List ℕ) (place files file : ℕ) → b ≡ named part file → b ≡ true
    → u ≡ tested part place files → u ≡ Image x → part ≡ page_bytes s place → Some x ≡ image_of_file file (tested (page_bytes s place) place files)
image_at {x = x} s place files file n t e i p =
    named_image (page_bytes s place) place files file x (passed (named_at s place file n p) t) (sym i ∙ tested_at s place files e p)

-- a place of the walk is one of the sheet
within : {top pages : ℕ} (end place : ℕ) (s : List ℕ) → place ≤ top → top ≡ min end pages → pages ≡ length s / 64 → 64 * place ≤ length s
within end place s h t p = omega (arith, t, p)

pub loop-place-init : goal.loop-place-init
loop-place-init c =
    let a = c.args in
    record {
      from_above = over_none _ ∙ ap (row_to a.view.files a.view.sheet.now a.fates.now a.file) (c.min-top.ensures ∙ ap (min a.end) c.pages.ensures) ∙ row_from_lem a.view.files a.view.sheet.now a.fates.now a.file a.end;
      token_alone = refl;
      nameless = λ z. (refl, refl);
    }

pub loop-place-preserved-then-not-names : goal.loop-place-preserved-then-not-names
loop-place-preserved-then-not-names c =
    let a = c.args in
    let l = c.loop-place in
    let i = l.invariant in
    let n = named_at a.view.sheet.now l.place a.file c.names.ensures (part_is _ _ _ l.place c.loop-place-test.true refl refl) in
    record {
      from_above = pass a.view.files a.view.sheet.now a.fates.now a.file l.place c.loop-place-test.true (within a.end _ a.view.sheet.now l.auto.place c.min-top.ensures c.pages.ensures) (overlay l.row.token l.row.tokenend l.row.tokenaction)
          (unnamed (page_bytes a.view.sheet.now l.place) l.place a.view.files a.file (refused n c.if-not-names.true)) i.from_above;
      token_alone = i.token_alone;
      nameless = i.nameless;
    }

pub loop-place-preserved-in_default : goal.loop-place-preserved-in_default
unfolding image_of_file
loop-place-preserved-in_default c =
    let a = c.args in
    let l = c.loop-place in
    let i = l.invariant in
    let e = tested_at a.view.sheet.now l.place a.view.files c.test.ensures (part_is _ _ _ l.place c.loop-place-test.true refl refl) in
    record {
      from_above = pass a.view.files a.view.sheet.now a.fates.now a.file l.place c.loop-place-test.true (within a.end _ a.view.sheet.now l.auto.place c.min-top.ensures c.pages.ensures) (overlay l.row.token l.row.tokenend l.row.tokenaction)
          (off_image c.test.result (λ (p : Page). cond (eqb p.file a.file) (Some p) None) None c.in_default.not-Image ∙ ap (image_of_file a.file) e) i.from_above;
      token_alone = i.token_alone;
      nameless = i.nameless;
    }

pub returns-then-fate-eq2 : goal.returns-then-fate-eq2
returns-then-fate-eq2 c =
    let a = c.args in
    let l = c.loop-place in
    let i = l.invariant in
    let image = image_at a.view.sheet.now l.place a.view.files a.file c.names.ensures c.if-not-names.false c.test.ensures c.in-Image.is (part_is _ _ _ l.place c.loop-place-test.true refl refl) in
    ap (λ (r : Row). record { mark = r.mark; current = l.place; currentend = c.in-Image.image.start; token = l.row.token; tokenend = l.row.tokenend; tokenaction = l.row.tokenaction }) i.token_alone
    ∙ stop a.view.files a.view.sheet.now a.fates.now a.file l.place c.loop-place-test.true (within a.end _ a.view.sheet.now l.auto.place c.min-top.ensures c.pages.ensures) _ _ image c.counted_fate-fate.ensures
    (overlay l.row.token l.row.tokenend l.row.tokenaction) (λ r m. over_committed _ _ _ _ _ _ _ r m c.if-fate-eq2.true i.nameless) i.from_above

pub loop-place-preserved : goal.loop-place-preserved
loop-place-preserved c =
    let a = c.args in
    let l = c.loop-place in
    let i = l.invariant in
    let image = image_at a.view.sheet.now l.place a.view.files a.file c.names.ensures c.if-not-names.false c.test.ensures c.in-Image.is (part_is _ _ _ l.place c.loop-place-test.true refl refl) in
    let known = overlay l.row.token l.row.tokenend l.row.tokenaction in
    let next = λ (known' : Row → Row). turn a.view.files a.view.sheet.now a.fates.now a.file l.place c.loop-place-test.true (within a.end _ a.view.sheet.now l.auto.place c.min-top.ensures c.pages.ensures) _ _ image c.counted_fate-fate.ensures known known' {x = row_to a.view.files a.view.sheet.now a.fates.now a.file a.end} in
    elim c.if-fate-eq1.branch [
      | then-fate-eq1+then-row-eq0 w ↦ rw w.row-is (record {
        from_above = next (overlay _ _ _) (λ r. over_token _ _ _ _ _ _ _ r w.if-fate-eq1.true w.if-row-eq0.true c.loop-place-test.true) i.from_above;
        token_alone = ap (λ (r : Row). record { mark = r.mark; current = r.current; currentend = r.currentend; token = l.place; tokenend = c.in-Image.image.start; tokenaction = c.in-Image.image.action }) i.token_alone;
        nameless = λ z. absurd (not-suc-le-zero (rw z at c.loop-place-test.true));
      })
      | else-fate-eq1 w ↦ rw w.row-is (record {
        from_above = elim w.else-fate-eq1.branch [
          | else-fate-eq1-via-then-fate-eq1+else-row-eq0 v ↦ next (overlay _ _ _) (λ r. over_kept _ _ _ _ _ _ _ r v.if-fate-eq1.true v.if-row-eq0.false) i.from_above
          | else-fate-eq1-via-else-fate-eq1 v ↦ next (overlay _ _ _) (λ r. over_passed _ _ _ _ _ _ _ r c.if-fate-eq2.false v.if-fate-eq1.false) i.from_above
        ];
        token_alone = i.token_alone;
        nameless = i.nameless;
      })
    ]

pub returns : goal.returns
returns c =
    let a = c.args in
    let l = c.loop-place in
    l.invariant.token_alone ∙ over_end a.view.files a.view.sheet.now a.fates.now a.file l.place l.row.token l.row.tokenend l.row.tokenaction (omega (arith, c.loop-place-test.false)) l.invariant.nameless ∙ l.invariant.from_above
