-- Read does what the model does: following the links finds the version that the history has.
use mathlib.Core.Path.{◌≡◌, refl, sym, ap, ◌∙◌, subst}
use mathlib.Core.List.{List, [], ◌∷◌, head?, map}
use mathlib.Core.Bool.{Bool, true, false, cond, ◌||◌}
use mathlib.Core.Option.{Option, some, none}
use Prim.Native.Nat.{ℕ, max, ◌<◌}
use native.Mathlib.Omega.{arith}
use lib.ListN.{length}
use lib.Dec.{eqb, leb}
use borrow.Author.Tests.{eq-eqb, ne_eqb, le-leb, leb-true, leb-false}
use Rattle.encoding.proofs.Logic.{clash}
use Rattle.recovery.specs.Log.{Entry, Placed, fate_of, effective_of, place_of, start_of}
use Rattle.recovery.specs.World.{World, entry_at, with_row, is_file, is_carried}
use Rattle.recovery.specs.declared.Refusal.TheVariants.{HangingRead, OnOlderSheet}
use Rattle.recovery.specs.declared.Row.{Row}
use Rattle.recovery.specs.declared.Answer.TheVariants.{Stored, Nothing}
use Rattle.inspection.specs.Lawful.{versions, current, token}
use Rattle.calls.specs.Walk.{Walk, met, none_below, images_below, follow}
use Rattle.calls.specs.Calls.{read, image_of, is_carried_at, walk_from, answer_walk, reaches, read_current, read_token, on_versions, on_token, on_read}
use Rattle.recovery.proofs.Spots.{Spot, Spots, spots, Lies}
use Rattle.recovery.proofs.Effective.{each_version}
use Rattle.calls.proofs.LinkByLink.{reached, unlinked, linked}
use Rattle.promises.specs.Model.{Version, Object, object, Model, newest, since, latest, shows, has_carried, changed, with_object, read_version, read_history, reading, current_end, token_end}
use Rattle.promises.specs.FromLog.{version_of, version_in, carried_of, history}
use Rattle.promises.proofs.logs.Chains.{Ordered, versions_ordered, chain}
use Rattle.promises.proofs.logs.Versions.{latest_of, version}
use Rattle.promises.proofs.logs.Histories.{latest_is}
use Rattle.promises.proofs.worlds.LogSays.{changed_not, newest_since, carried_above, carried_entry}
use Rattle.promises.proofs.worlds.Sim.{row_with, row_for, Sim, Agrees, agrees_cond, answers, entry_eq, refused, current_lies, token_lies, lies_at, row_holds_lem, sim_set}

-- what a walk comes to that finds a version, or none once a carried one was passed or not
abbrev walked : Bool → Option Placed → Walk
walked b none = none_below b
walked b (some x) = met x

-- a carried version among some
passes : (ℕ → Bool) → List Placed → Bool
passes c [] = false
passes c (x ∷ xs) = c x.image.action || passes c xs

-- the time is at least the start of the current version, or there is none
abbrev within : ℕ → Option Placed → Bool
within t none = true
within t (some x) = leb x.image.start t

within_is : (t : ℕ) (z : Option Placed) → within t z ≡ leb (start_of z) t
within_is t none = sym (le-leb 0 t (omega arith))
within_is t (some x) = refl

not_stored : (x : Version) (p : ℕ) → shows x ≡ Stored p → ⊥
not_stored x p e = clash cc

none_stored : (p : ℕ) → Nothing ≡ Stored p → ⊥
none_stored p e = clash cc

or_none : (b c : Bool) → (b || c) ≡ (b || (c || false))
or_none true c = refl
or_none false true = refl
or_none false false = refl

or_turn : (b c d : Bool) → ((b || c) || d) ≡ (b || (c || d))
or_turn true c d = refl
or_turn false c d = refl

passes_is : (c : ℕ → Bool) (vs : List Placed) → passes c vs ≡ has_carried c (map version_of vs)
unfolding passes has_carried
passes_is c [] = refl
passes_is c (x ∷ vs) = ap (λ (b : Bool). c x.image.action || b) (passes_is c vs)

passes_cong : (c d : ℕ → Bool) (vs : List Placed) → ((x : Placed) → c x.image.action ≡ d x.image.action) → passes c vs ≡ passes d vs
unfolding passes
passes_cong c d [] h = refl
passes_cong c d (x ∷ vs) h = rw (h x, passes_cong c d vs h)

module _ (w : World) (l : List Entry) (m : Model) (s : Sim w l m) where
  -- ---- the walk

  carried_eq : (a : ℕ) → is_carried_at w a ≡ m.carried a
  carried_eq a = go (leb a (length l)) refl ∙ sym (s.says.carried a)
    where
      go : (b : Bool) → leb a (length l) ≡ b → is_carried_at w a ≡ carried_of l a
      go true e = ap is_carried (entry_eq w l m s a (leb-true a (length l) e)) ∙ sym (carried_entry l a)
      go false e =
          let h : length l < a = leb-false a (length l) e in
          ap is_carried (s.clean a (omega (arith, s.ends))) ∙ sym (carried_above l a h)

  module _ (f t : ℕ) where
    abbrev walk : Bool → Placed → Walk
    walk b x = follow (is_carried_at w) t b x (images_below w.sheet x.place f)

    -- a version, or what is found below it
    found_by : (b p : Bool) (x : Placed) (z : Option Placed) → (t < x.image.start → walk b x ≡ walked p z) → walk b x ≡ walked p (cond (leb x.image.start t) (some x) z)
    found_by b p x z h = go (leb x.image.start t) refl
      where
        go : (o : Bool) → leb x.image.start t ≡ o → walk b x ≡ walked p (cond o (some x) z)
        go true e = reached (is_carried_at w) w.sheet f t b x (leb-true x.image.start t e)
        go false e = h (leb-false x.image.start t e)

    walk_finds : (b : Bool) (x : Placed) (vs : List Placed) → Ordered (x ∷ vs) → Spots l f vs → walk b x ≡ walked (b || passes (is_carried_at w) (x ∷ vs)) (latest_of t (x ∷ vs))
    unfolding latest_of passes
    walk_finds b x [] o h =
        found_by b (b || (is_carried_at w x.image.action || false)) x none (λ low.
        unlinked (is_carried_at w) w.sheet f t b x low o.0.links ∙ ap none_below (or_none b (is_carried_at w x.image.action)))
    walk_finds b x (y ∷ vs) o h =
        let c : Bool = is_carried_at w x.image.action in
        found_by b (b || (c || passes (is_carried_at w) (y ∷ vs))) x (latest_of t (y ∷ vs)) (λ low.
        linked (is_carried_at w) w.sheet f t b x low (rw o.0.links o.0.higher) y.image (rw o.0.links (lies_at w l m s f y h.0)) h.0.mine
        ∙ rw o.0.links (walk_finds (b || c) y vs o.1 h.1) ∙ ap (λ (p : Bool). walked p (latest_of t (y ∷ vs))) (or_turn b c (passes (is_carried_at w) (y ∷ vs))))

    walk_eq : (vs : List Placed) → Ordered vs → Spots l f vs
        → walk_from w f t (place_of (head? vs)) (image_of (entry_at w (place_of (head? vs)))) ≡ walked (passes (is_carried_at w) vs) (latest_of t vs)
    unfolding latest_of passes
    walk_eq [] o h = refl
    walk_eq (x ∷ vs) o h = rw (lies_at w l m s f x h.0) (walk_finds false x vs o h.1)

  reach_eq : (f t : ℕ) (z : Option Placed) → Lies l f z → reaches t (image_of (entry_at w (place_of z))) ≡ within t z
  reach_eq f t none h = refl
  reach_eq f t (some x) h = rw (lies_at w l m s f x h)

  -- ---- a row that was read, and its object

  module _ (f t a : ℕ) (i : is_file m.files f ≡ true) where
    abbrev x : Object
    x = m.object f

    read_set : (c k : ℕ) (r : Row) → r ≡ row_for l (object x.history c x.token k) f → Sim (with_row w f r) l (with_object m f (object x.history c x.token k))
    read_set c k r e =
        sim_set w l m s f (changed m.object f (object x.history c x.token k)) r i (rw (eq-eqb f f refl) e) (λ g q. rw (ne_eqb g f (λ z. q (sym z)))) (record {
          used = s.says.used;
          undecided = s.says.undecided;
          status = s.says.status;
          carried = s.says.carried;
          history = changed_not (λ x. x.history) m.object f (object x.history c x.token k) (history l) s.says.history (s.says.history f);
          token = changed_not (λ x. x.token) m.object f (object x.history c x.token k) (λ g. version_in (token l g)) s.says.token (s.says.token f);
        })

    abbrev asked : ℕ
    asked = cond (leb (since (newest x.history)) t) (max x.asked t) x.asked

    row_read : read_current t (within t (current l f)) (row_for l x f) ≡ row_for l (object x.history asked x.token x.tokenasked) f
    row_read = ap (λ n. row_with l f n (token_end x))
        (go (leb (since (newest x.history)) t) (within_is t (current l f) ∙ ap (λ n. leb n t) (sym (newest_since l m s.says f))))
      where
        go : (b : Bool) → within t (current l f) ≡ b → cond (within t (current l f)) (max (current_end x) t) (current_end x) ≡ max (since (newest x.history)) (cond b (max x.asked t) x.asked)
        go true q = rw q (omega arith)
        go false q = rw q

    carried_is : passes (is_carried_at w) (versions l f) ≡ has_carried m.carried x.history
    carried_is =
        passes_cong (is_carried_at w) m.carried (versions l f) (λ y. carried_eq y.image.action) ∙ passes_is m.carried (versions l f)
        ∙ ap (has_carried m.carried) (sym (s.says.history f))

    sim_versions : Agrees m.files (read f t a) l (on_versions w f t (row_for l x f)) (read_history m f t x)
    sim_versions =
        let o = versions_ordered (fate_of l) (effective_of l f) (chain l f s.lawful) in
        let v = each_version (Spot l f) (fate_of l) (effective_of l f) (spots l f) in
        rw (walk_eq f t (versions l f) o v, reach_eq f t (current l f) (current_lies l f))
        (subst (λ z. Agrees m.files (read f t a) l (answer_walk w f row (walked (passes (is_carried_at w) (versions l f)) (version l f t))) (read_version m f t x z))
        (sym (ap (latest t) (s.says.history f) ∙ latest_is t (versions l f)))
        (rw carried_is (go (has_carried m.carried x.history) refl (version l f t))))
      where
        row : Row
        row = read_current t (within t (current l f)) (row_for l x f)

        go : (b : Bool) → has_carried m.carried x.history ≡ b → (z : Option Placed) → Agrees m.files (read f t a) l (answer_walk w f row (walked b z)) (read_version m f t x (version_in z))
        go false e none = rw e (answers none_stored refl (read_set asked x.tokenasked row row_read))
        go true e none = rw e (refused OnOlderSheet 0 0 refl s)
        go b e (some y) = answers (not_stored (version_of y)) refl (read_set asked x.tokenasked row row_read)

    by_token : (z : Option Placed) → token l f ≡ z → Lies l f z
        → Agrees m.files (read f t a) l (on_token w f t a (row_for l x f) (image_of (entry_at w (place_of z)))) (reading m f t a x (version_in z))
    by_token none e h = sim_versions
    by_token (some y) e h = rw (lies_at w l m s f y h) (agrees_cond (leb y.image.start t) (leb y.image.start t) refl
        (λ q. agrees_cond (eqb y.image.action a) (eqb y.image.action a) refl
        (λ r. answers (not_stored (version_of y)) (rw e) (read_set x.asked (max x.tokenasked t) (read_token t (row_for l x f)) token_read))
        (λ r. refused HangingRead y.image.action y.image.action refl s))
        (λ q. sim_versions))
      where
        token_read : read_token t (row_for l x f) ≡ row_for l (object x.history x.asked x.token (max x.tokenasked t)) f
        token_read = ap (λ n. row_with l f (current_end x) n) (omega arith)

    pub sim_read : Agrees m.files (read f t a) l (on_read w f t a (row_for l x f)) (reading m f t a x x.token)
    sim_read = subst (λ z. Agrees m.files (read f t a) l (on_read w f t a (row_for l x f)) (reading m f t a x z)) (sym (s.says.token f))
        (rw (row_holds_lem w l m s f) (by_token (token l f) refl (token_lies l f)))
