-- `page::Page::is_by_rules`: the ranges of the kind, then the zeros past the value. Assumes nothing.
use Rattle.page.specs.Table.{lowest, highest, between, used, meets_rules}
use Rattle.page.specs.declared.Page.{Page}
use Rattle.encoding.proofs.Logic.{refused, passed}
use Rattle.encoding.specs.Bytes.{zeros}
use Prim.Native.Nat.{ℕ}
use lib.ListN.{drop}
use mathlib.Core.Bool.{Bool, ◌&&◌}
use mathlib.Core.List.{List}
use mathlib.Core.Path.{◌≡◌, refl, ap, ap₂, sym, ◌∙◌}
use Rattle.page.proofs.Page.is_by_rules.Goals as goal

-- the rules, by the kind
rules_of : (p : Page) (k : ℕ) (value : List ℕ) (place files : ℕ) {t z : Bool} → p.kind ≡ k → t ≡ between p (lowest k place) (highest k place files) → z ≡ zeros (drop (used p) value)
    → (t && z) ≡ meets_rules p value place files
unfolding meets_rules
rules_of p k value place files e et ez =
    ap₂ ◌&&◌ et ez ∙ sym (ap (λ (n : ℕ). between p (lowest n place) (highest n place files) && zeros (drop (used p) value)) e)

pub returns-then-not-is_between : goal.returns-then-not-is_between
returns-then-not-is_between c =
    let a = c.args in
    let b = c.is_between.ensures ∙ ap₂ (between a.self) c.lowest-low.ensures c.highest-high.ensures in
    rules_of a.self a.kind a.value.now a.place a.files c.requires.1 (sym (refused b c.if-not-is_between.true)) refl

pub returns : goal.returns
returns c =
    let a = c.args in
    let b = c.is_between.ensures ∙ ap₂ (between a.self) c.lowest-low.ensures c.highest-high.ensures in
    rules_of a.self a.kind a.value.now a.place a.files c.requires.1 (sym (passed b c.if-not-is_between.false)) (c.is_zero_from.ensures ∙ ap (λ (n : ℕ). zeros (drop n a.value.now)) c.used_bytes.ensures)
