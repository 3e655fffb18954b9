-- A sheet with one byte of a sealed page spoiled: that page, those of its action, and all others. Assumes nothing.
use Prim.Native.Nat.{ℕ, zero, suc, ◌*◌, ◌≤◌, ◌<◌}
use mathlib.Core.Path.{◌≡◌, refl, sym, ap, ◌∙◌}
use mathlib.Core.Bool.{Bool, true, false, cond, ◌&&◌, true≢false, false≢true}
use mathlib.Core.List.{List}
use native.Mathlib.Omega.{arith}
use borrow.Author.Tests.{eqb-true, eqb-false}
use lib.Dec.{eqb}
use lib.ListN.{length, drop, set, length-take, length-drop}
use Rattle.encoding.proofs.Logic.{by_test, and_false, is_false}
use Rattle.page.specs.declared.Unpacked.{Unpacked}
use Rattle.page.specs.declared.Unpacked.TheVariants.{Refused, Blank, Torn, Opening, Image as AnImage, Outcome, Unfit}
use Rattle.page.specs.Layout.{page_size, most_places, most_files}
use Rattle.page.specs.Table.{within, fits}
use Rattle.page.specs.Answers.{in_bounds, tested, is_fit_page, is_blank_page}
use Rattle.page.proofs.Rules.{InBounds}
use Rattle.page.proofs.Found.{told_fits, image_is, outcome_is}
use Rattle.page.proofs.Spoiled.{other_count}
use Rattle.recovery.specs.Log.{Entry, blank, torn, bad, opening, image, outcome}
use Rattle.recovery.specs.Sheet.{page_bytes, image_from, entry_of, is_opening, seal, decoded, sealed}
use Rattle.recovery.specs.World.{is_blank}
use Rattle.recovery.proofs.Pages.{byte_here, bytes_other, sealed_is, opening_sealed, blank_sealed}
use Rattle.decay.specs.Decay.{is_sealed, is_of, OtherByte, zeroes_mark, spoiled}
use Rattle.decay.proofs.Pages.{page_spoiled}

-- a page that is sealed fits
sealed_fits : (s : List ℕ) (files place : ℕ) → is_sealed (sealed files s place) ≡ true → is_fit_page (tested (page_bytes s place) place files) ≡ true
sealed_fits s files place h = go (tested (page_bytes s place) place files) (ap is_sealed (sealed_is s place files _ refl) ∙ h)
  where
    go : (u : Unpacked) → is_sealed (seal (decoded files s) (entry_of (page_bytes s place) u)) ≡ true → is_fit_page u ≡ true
    go Refused x = x
    go Blank x = x
    go Torn x = x
    go (Opening p) x = refl
    go (AnImage p) x = refl
    go (Outcome p) x = refl
    go Unfit x = x

not_blank : (u : Unpacked) → is_fit_page u ≡ true → is_blank_page u ≡ false
not_blank Refused h = refl
not_blank Blank h = sym h
not_blank Torn h = refl
not_blank (Opening p) h = refl
not_blank (AnImage p) h = refl
not_blank (Outcome p) h = refl
not_blank Unfit h = refl

no_opening : (g : Entry) → is_sealed g ≡ false → is_opening g ≡ false
no_opening blank e = refl
no_opening torn e = refl
no_opening bad e = refl
no_opening (opening k) e = e
no_opening (image i) e = refl
no_opening (outcome a c) e = refl

-- a page of an action lies above its opening, and is bad wherever that is no opening
module _ (s : List ℕ) (files p a : ℕ) where
  names : (b : Bool) (x : ℕ) (g : Entry) → is_of a g ≡ eqb x a → is_of a (cond b g bad) ≡ true → x ≡ a
  names true x g e h = eqb-true x a (sym e ∙ h)
  names false x g e h = absurd (false≢true h)

  pub record Names (u : Unpacked) : Type 0 where
    pub fit_is : is_fit_page u ≡ true
    pub above : a < p
    pub under : (r : ℕ → Entry) → is_opening (r a) ≡ false → seal r (entry_of (page_bytes s p) u) ≡ bad

  names_it : (u : Unpacked) → u ≡ tested (page_bytes s p) p files → is_of a (seal (decoded files s) (entry_of (page_bytes s p) u)) ≡ true → Names u
  names_it Refused e h = absurd (false≢true h)
  names_it Blank e h = absurd (false≢true h)
  names_it Torn e h = absurd (false≢true h)
  names_it (Opening q) e h = absurd (false≢true h)
  names_it Unfit e h = absurd (false≢true h)
  names_it (AnImage q) e h =
      let x : q.action ≡ a = names (is_opening (decoded files s q.action)) q.action (image (image_from (page_bytes s p) q)) refl h in
      record { fit_is = refl; above = omega (arith, (image_is (page_bytes s p) p files q e).action); under = λ r n. rw (x, n) }
  names_it (Outcome q) e h =
      let x : q.action ≡ a = names (is_opening (decoded files s q.action)) q.action (outcome q.action (eqb q.small 1)) refl h in
      record { fit_is = refl; above = omega (arith, (outcome_is (page_bytes s p) p files q e).action); under = λ r n. rw (x, n) }

  named_by : is_of a (sealed files s p) ≡ true → Names (tested (page_bytes s p) p files)
  named_by h = names_it _ refl (ap (is_of a) (sealed_is s p files _ refl) ∙ h)

module _ (s : List ℕ) (files place i v : ℕ) (was : is_sealed (sealed files s place) ≡ true) (c : OtherByte (page_bytes s place) i v) where
  abbrev t : List ℕ
  t = spoiled s place i v

  fit : is_fit_page (tested (page_bytes s place) place files) ≡ true
  fit = sealed_fits s files place was

  bounds : InBounds (length (page_bytes s place)) place files
  bounds = (told_fits (page_bytes s place) place files fit).0

  -- the place is one of the sheet's
  pub low : 1 ≤ place
  low = bounds.place_is.0

  pub room : page_size * place ≤ length s
  room = go place low bounds.size_is
    where
      go : (p : ℕ) → 1 ≤ p → length (page_bytes s p) ≡ page_size → page_size * p ≤ length s
      go zero h e = absurd (omega arith)
      go (suc q) h e = omega (arith, length-take page_size (drop (page_size * q) s), length-drop (page_size * q) s)

  -- ---- the spoiled page

  -- by what the page test says of its bytes
  sealed_by : (files' : ℕ) (u : Unpacked) → tested (set (page_bytes s place) i v) place files' ≡ u
      → sealed files' t place ≡ seal (decoded files' t) (entry_of (page_bytes t place) u)
  sealed_by files' u e =
      sym (sealed_is t place files' u (sym (ap (λ (b : List ℕ). tested b place files') (byte_here s place i v c.inside low) ∙ e)))

  pub torn_or_bad : (files' : ℕ) → within files' 1 most_files ≡ true → sealed files' t place ≡ cond (zeroes_mark i v) torn bad
  torn_or_bad files' w = go (zeroes_mark i v) (page_spoiled (page_bytes s place) place files files' i v fit c w)
    where
      go : (b : Bool) → tested (set (page_bytes s place) i v) place files' ≡ cond b Torn Unfit → sealed files' t place ≡ cond b torn bad
      go true e = sealed_by files' Torn e
      go false e = sealed_by files' Unfit e

  refused_out : (files' : ℕ) → within files' 1 most_files ≡ false → tested (set (page_bytes s place) i v) place files' ≡ Refused
  unfolding tested in_bounds
  refused_out files' w = rw (and_false (eqb (length (set (page_bytes s place) i v)) page_size && within place 1 most_places) (within files' 1 most_files) w)

  pub not_sealed : (files' : ℕ) → is_sealed (sealed files' t place) ≡ false
  not_sealed files' = go (within files' 1 most_files) refl
    where
      go : (b : Bool) → within files' 1 most_files ≡ b → is_sealed (sealed files' t place) ≡ false
      go true w = ap is_sealed (torn_or_bad files' w) ∙ by_test (λ (g : Entry). is_sealed g ≡ false) (zeroes_mark i v) (λ e. refl) (λ e. refl)
      go false w = ap is_sealed (sealed_by files' Refused (refused_out files' w))

  -- ---- the other pages, for one file count

  module _ (files' : ℕ) where
    no_opening_here : is_opening (decoded files' t place) ≡ false
    unfolding sealed
    no_opening_here =
        sym (opening_sealed (decoded files' t) (decoded files' t place)) ∙ no_opening (sealed files' t place) (not_sealed files')

    decoded_other : (p : ℕ) → (p ≡ place → ⊥) → decoded files' t p ≡ decoded files' s p
    unfolding decoded
    decoded_other p n = rw (bytes_other s place i v c.inside p low n)

    -- a page of an action: sealed as before, unless the action was the spoiled page's
    by_opening : (a : ℕ) (g : Entry) → is_of place g ≡ eqb a place → is_of place (cond (is_opening (decoded files' s a)) g bad) ≡ false
        → cond (is_opening (decoded files' t a)) g bad ≡ cond (is_opening (decoded files' s a)) g bad
    by_opening a g e h = go (eqb a place) refl
      where
        gone : (b : Bool) → is_of place g ≡ true → is_of place (cond b g bad) ≡ false → bad ≡ cond b g bad
        gone true x y = absurd (true≢false (sym x ∙ y))
        gone false x y = refl

        go : (b : Bool) → eqb a place ≡ b → cond (is_opening (decoded files' t a)) g bad ≡ cond (is_opening (decoded files' s a)) g bad
        go true x =
            let y : a ≡ place = eqb-true a place x in
            ap (λ (k : ℕ). cond (is_opening (decoded files' t k)) g bad) y ∙ rw no_opening_here (gone (is_opening (decoded files' s a)) (e ∙ x) h)
        go false x = rw (decoded_other a (eqb-false a place x))

    resealed : (g : Entry) → is_of place (seal (decoded files' s) g) ≡ false → seal (decoded files' t) g ≡ seal (decoded files' s) g
    resealed blank h = refl
    resealed torn h = refl
    resealed bad h = refl
    resealed (opening k) h = refl
    resealed (image j) h = by_opening j.action (image j) refl h
    resealed (outcome a d) h = by_opening a (outcome a d) refl h

    pub others_stay : (p : ℕ) → (p ≡ place → ⊥) → is_of place (sealed files' s p) ≡ false → sealed files' t p ≡ sealed files' s p
    unfolding sealed
    others_stay p n h = ap (seal (decoded files' t)) (decoded_other p n) ∙ resealed (decoded files' s p) h

    -- ---- the pages of its action, which for another file count are the same or none

    pub action_bad : (p count : ℕ) → is_of place (sealed count s p) ≡ true → sealed files' t p ≡ bad
    unfolding sealed decoded
    action_bad p count h =
        let k : Names s count p place (tested (page_bytes s p) p count) = named_by s count p place h in
        let b : List ℕ = page_bytes s p in
        let r : ℕ → Entry = decoded files' t in
        ap (seal r) (decoded_other p (λ e. omega (arith, k.above))) ∙ ap (λ (u : Unpacked). seal r (entry_of b u)) (other_count b p count k.fit_is files')
        ∙ by_test (λ (u : Unpacked). seal r (entry_of b u) ≡ bad) (in_bounds (length b) p files')
        (λ x. by_test (λ (u : Unpacked). seal r (entry_of b u) ≡ bad) (fits b p files') (λ y. k.under r no_opening_here) (λ y. refl)) (λ x. refl)

    -- ---- before it was spoiled: the page was not blank, for any file count, and the pages below stay

    pub used : is_blank (sealed files' s place) ≡ false
    used =
        let b : List ℕ = page_bytes s place in
        ap is_blank (sym (sealed_is s place files' _ refl)) ∙ blank_sealed (decoded files' s) b (tested b place files') ∙ ap is_blank_page (other_count b place files fit files')
        ∙ by_test (λ (u : Unpacked). is_blank_page u ≡ false) (in_bounds (length b) place files')
        (λ x. by_test (λ (u : Unpacked). is_blank_page u ≡ false) (fits b place files') (λ y. not_blank (tested b place files) fit) (λ y. refl)) (λ x. refl)

    pub below_stays : (p : ℕ) → p < place → sealed files' t p ≡ sealed files' s p
    below_stays p h = others_stay p (λ e. omega arith) (is_false _ (λ e. let k = (named_by s files' p place e).above in omega arith))
