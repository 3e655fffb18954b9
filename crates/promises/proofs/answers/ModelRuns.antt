-- A run of a box is answered as the object model's, event by event; so calls that leave the model as it is are not seen, rebuilds among
-- them.
use native.Mathlib.Omega.{arith}
use Prim.Native.Nat.{ℕ}
use mathlib.Core.Path.{◌≡◌, refl, sym, ap, ◌∙◌}
use mathlib.Core.List.{List, [], ◌∷◌}
use mathlib.Core.Bool.{Bool, true, false, cond, ◌&&◌, false≢true}
use mathlib.Core.Option.{none}
use lib.ListN.{length, replicate, length-replicate}
use lib.Dec.{leb}
use Rattle.encoding.proofs.Logic.{by_test}
use Rattle.calls.specs.Calls.{Call, begin, write, read, test, decide, rebuild}
use Rattle.promises.specs.Runs.{Box, on, off, Event, calls, opens, cuts, call_on, answer_to, after, numbered, heard, Typed, AllAllowed, sheet_of, moves, cuts_move, Allowed}
use Rattle.promises.specs.Model.{Model, Reply, model_call, is_lent, model_answer, model_after, model_heard}
use Rattle.promises.specs.Promises.{is_rebuild, others, others_heard}
use Rattle.promises.proofs.boxes.Boxes.{is_on, Reached}
use Rattle.promises.proofs.boxes.BoxRuns.{reached_next, answer_is, power_is, pages_after}

-- ---- a run

pub heard_alike : (n files : ℕ) (b : Box) (r : Reached n files b) (es : List Event) → AllAllowed files b es → heard b es ≡ model_heard (is_on b) r.model es
unfolding heard model_heard
heard_alike n files b r [] t = refl
heard_alike n files b r (e ∷ es) t =
    ap (λ y. numbered y ∷ heard (after b e) es) (answer_is n files b r e t.0)
    ∙ ap (λ ys. numbered (model_answer (is_on b) r.model e) ∷ ys)
    (heard_alike (pages_after n b e) files (after b e) (reached_next n files b r e t.0) es t.1 ∙ ap (λ c. model_heard c (model_after (is_on b) r.model e) es) (power_is n files b r e t.0))

-- what one box is allowed, another is that stands for the same model
module _ (n n' files : ℕ) (b b' : Box) (r : Reached n files b) (r' : Reached n' files b') (x : r'.model ≡ r.model) where
  same_long : length (sheet_of b') ≡ length (sheet_of b)
  same_long = omega (arith, r.at.long, r'.at.long, r.at.pages_are, r'.at.pages_are, ap (λ (m : Model). m.pages) x)

  allowed_too : (e : Event) → Allowed files b e → Allowed files b' e
  allowed_too (calls k) t = t
  allowed_too (opens floor fates rows) t = λ q. t (rw same_long at q)
  allowed_too (cuts k kept) t = t
  allowed_too (moves fresh) t = tt
  allowed_too (cuts_move fresh k) t = tt

allowed_alike : (n n' files : ℕ) (b b' : Box) (r : Reached n files b) (r' : Reached n' files b') → r'.model ≡ r.model → is_on b' ≡ is_on b → (es : List Event) → AllAllowed files b es → AllAllowed files b' es
allowed_alike n n' files b b' r r' x o [] t = tt
allowed_alike n n' files b b' r r' x o (e ∷ es) t =
    let u = allowed_too n n' files b b' r r' x e t.0 in (
      u,
      allowed_alike (pages_after n b e) (pages_after n' b' e) files (after b e) (after b' e) (reached_next n files b r e t.0) (reached_next n' files b' r' e u)
          (rw (x, o)) (power_is n' files b' r' e u ∙ rw (x, o) (sym (power_is n files b r e t.0))) es t.1,
    )

-- a call that leaves the model as it is, is not seen
pub idle_unseen : (n files : ℕ) (b : Box) (r : Reached n files b) (k : Call) → Typed k → (model_call r.model k).1 ≡ r.model → (es : List Event) → AllAllowed files b es → heard (after b (calls k)) es ≡ heard b es
idle_unseen n files (off s) r k t e es al = refl
idle_unseen n files (on m) r k t e es al =
    let next = reached_next n files (on m) r (calls k) t in
    heard_alike n files (on (call_on m k)) next es (allowed_alike n n files (on m) (on (call_on m k)) r next e refl es al) ∙ ap (λ x. model_heard true x es) e ∙ sym (heard_alike n files (on m) r es al)

-- ---- rebuilds

-- a rebuild leaves the model as it is
idle_rebuild : (x : Model) (f : ℕ) → (model_call x (rebuild f)).1 ≡ x
idle_rebuild x f = by_test (λ (r : Reply). r.1 ≡ x) (leb 1 f && leb f x.files) (λ e. refl) (λ e. refl)

idle : (b : Bool) (x : Model) (k : Call) → is_rebuild k ≡ true → model_after b x (calls k) ≡ x
idle b x begin h = absurd (false≢true h)
idle b x (write f s a v) h = absurd (false≢true h)
idle b x (read f t a) h = absurd (false≢true h)
idle b x (test a) h = absurd (false≢true h)
idle b x (decide a c) h = absurd (false≢true h)
idle true x (rebuild f) h = idle_rebuild x f
idle false x (rebuild f) h = refl

-- what the fates and rows hold that an opening is lent does not count
bare_right : (x : Model) (fates rows : List ℕ) → is_lent x (replicate (length fates) 0) (replicate (length rows) 0) ≡ is_lent x fates rows
bare_right x fates rows = rw (length-replicate {A = ℕ} (length fates) 0, length-replicate {A = ℕ} (length rows) 0)

pub others_alike : (n files : ℕ) (b : Box) (r : Reached n files b) (es : List Event) → AllAllowed files b es → others_heard b es ≡ model_heard (is_on b) r.model (others es)
unfolding others_heard model_heard
others_alike n files b r [] t = refl
others_alike n files b r (calls k ∷ es) t =
    go (is_rebuild k) refl (answer_is n files b r (calls k) t.0) (others_alike n files (after b (calls k)) (reached_next n files b r (calls k) t.0) es t.1
    ∙ ap (λ c. model_heard c (model_after (is_on b) r.model (calls k)) (others es)) (power_is n files b r (calls k) t.0))
  where
    go : (c : Bool) → is_rebuild k ≡ c → answer_to b (calls k) ≡ model_answer (is_on b) r.model (calls k)
        → others_heard (after b (calls k)) es ≡ model_heard (is_on b) (model_after (is_on b) r.model (calls k)) (others es)
        → cond c (others_heard (after b (calls k)) es) (numbered (answer_to b (calls k)) ∷ others_heard (after b (calls k)) es) ≡ model_heard (is_on b) r.model (cond c (others es) (calls k ∷ others es))
    go true q a h = h ∙ ap (λ y. model_heard (is_on b) y (others es)) (idle (is_on b) r.model k q)
    go false q a h = ap (λ y. numbered y ∷ others_heard (after b (calls k)) es) a ∙ ap (λ ys. numbered (model_answer (is_on b) r.model (calls k)) ∷ ys) h
others_alike n files b r (opens floor fates rows ∷ es) t =
    let e : Event = opens floor fates rows in
    let h = others_alike n files (after b e) (reached_next n files b r e t.0) es t.1 in
    rw (bare_right r.model fates rows) (ap (λ y. numbered y ∷ others_heard (after b e) es) (answer_is n files b r e t.0)
    ∙ ap (λ ys. numbered (model_answer (is_on b) r.model e) ∷ ys) (h ∙ ap (λ c. model_heard c (model_after (is_on b) r.model e) (others es)) (power_is n files b r e t.0)))
others_alike n files b r (cuts k kept ∷ es) t =
    let e : Event = cuts k kept in
    let h = others_alike n files (after b e) (reached_next n files b r e t.0) es t.1 in
    ap (λ ys. none ∷ ys) (h ∙ ap (λ c. model_heard c (model_after (is_on b) r.model e) (others es)) (power_is n files b r e t.0))
others_alike n files b r (moves fresh ∷ es) t =
    let e : Event = moves fresh in
    let h = others_alike (pages_after n b e) files (after b e) (reached_next n files b r e tt) es t.1 in
    ap (λ y. numbered y ∷ others_heard (after b e) es) (answer_is n files b r e tt)
    ∙ ap (λ ys. numbered (model_answer (is_on b) r.model e) ∷ ys) (h ∙ ap (λ c. model_heard c (model_after (is_on b) r.model e) (others es)) (power_is n files b r e tt))
others_alike n files b r (cuts_move fresh k ∷ es) t =
    let e : Event = cuts_move fresh k in
    let h = others_alike (pages_after n b e) files (after b e) (reached_next n files b r e tt) es t.1 in
    ap (λ ys. none ∷ ys) (h ∙ ap (λ c. model_heard c (model_after (is_on b) r.model e) (others es)) (power_is n files b r e tt))
