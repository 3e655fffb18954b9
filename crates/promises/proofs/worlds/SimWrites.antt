-- Begin and write do what the model does.
use mathlib.Core.Path.{◌≡◌, refl, ap, sym, ◌∙◌}
use mathlib.Core.List.{List, ◌∷◌}
use mathlib.Core.Bool.{Bool, true, false, cond, ◌&&◌, ◌||◌}
use mathlib.Core.Option.{Option, some, none}
use Prim.Native.Nat.{ℕ, suc, max, ◌+◌, ◌-◌, ◌≤◌, ◌<◌}
use native.Mathlib.Omega.{arith}
use lib.ListN.{length}
use lib.Dec.{eqb, ltb}
use borrow.Author.Tests.{eqb-true, eqb-false, ltb-true, ltb-false, leb-true, eq-eqb, ne_eqb, lt-ltb, le-ltb}
use Rattle.encoding.proofs.Logic.{and_true}
use Rattle.page.specs.Layout.{value_size}
use Rattle.recovery.specs.Places.{nth, put}
use Rattle.recovery.specs.Log.{Entry, opening, image, undecided, Placed, fate_of, place_of, action_of}
use Rattle.recovery.specs.World.{World, refuse, cold, is_file}
use Rattle.recovery.specs.declared.Refusal.TheVariants.{OtherToken, EarlyStart, NoRoom}
use Rattle.recovery.specs.declared.Row.{Row}
use Rattle.recovery.proofs.Places.{nth_put_same, nth_put_other, length_put}
use Rattle.recovery.proofs.Lookups.{is_file_lem}
use Rattle.inspection.specs.Lawful.{current, token, is_free_for}
use Rattle.calls.specs.Calls as store
use Rattle.calls.specs.Calls.{begin, write, append, on_begin, on_write}
use Rattle.recovery.proofs.Spots.{Lies}
use Rattle.promises.specs.Model as model
use Rattle.promises.specs.Model.{Object, pending, Model, newest, since, refuses, changed, stores, stored, has_room, asked_before, writing, model_call, current_end}
use Rattle.promises.specs.FromLog.{version_in}
use Rattle.promises.proofs.logs.Logs.{ImageFits}
use Rattle.promises.proofs.logs.Appends.{opening_versions, opening_token, image_versions, image_token}
use Rattle.promises.proofs.logs.Fates.{opening_fates}
use Rattle.promises.proofs.worlds.LogSays.{written, newest_since, token_acted, opening_says, given, image_says}
use Rattle.promises.proofs.worlds.Sim.{warm_of, row_for, Sim, Agrees, agrees_cond, refused, token_lies, room_eq, blank_ok, row_holds_lem, sim_append, appended}

max_below : (a b s : ℕ) → ltb (max a b) s ≡ (ltb a s && ltb b s)
max_below a b s = go (ltb a s) (ltb b s) refl refl
  where
    go : (x y : Bool) → ltb a s ≡ x → ltb b s ≡ y → ltb (max a b) s ≡ (x && y)
    go true true p q = lt-ltb (max a b) s (omega (arith, ltb-true a s p, ltb-true b s q))
    go true false p q = le-ltb (max a b) s (omega (arith, ltb-false b s q))
    go false y p q = le-ltb (max a b) s (omega (arith, ltb-false a s p))

module _ (w : World) (l : List Entry) (m : Model) (s : Sim w l m) where
  room_is : (n : ℕ) → 1 ≤ n → has_room m n ≡ true → length l < m.pages
  room_is n h e = omega (arith, s.says.used, leb-true n (m.pages - m.used) e)

  pub sim_begin : Agrees m.files begin l (on_begin w) (model_call m begin)
  sim_begin =
      agrees_cond (store.has_room w (w.undecided + 2)) (has_room m (m.undecided + 2)) (rw s.undecided (room_eq w l m s (m.undecided + 2)))
      (λ e. rw (blank_ok w l m s) (appended w l m s (opening false) _ _ _ _ refl (go (room_is (m.undecided + 2) (omega arith) e))))
      (λ e. refused NoRoom 0 0 refl s)
    where
      go : length l < m.pages → Sim (append w (opening false) (put w.fates (suc w.end) 1) w.rows (suc w.undecided)) (opening false ∷ l)
          (stores m (suc m.undecided) (changed m.status (suc m.used) (some pending)) m.object)
      go k =
          sim_append w l m s (opening false) (put w.fates (suc w.end) 1) w.rows (suc w.undecided) (suc m.undecided) (changed m.status (suc m.used) (some pending)) m.object tt k
          (rw (s.fates, s.ends) (opening_fates m.pages l)) (ap suc s.undecided) s.files
          (λ f h. rw (opening_versions l f s.lawful, opening_token l f s.lawful) (s.rows f h))
          (opening_says l m s.says s.lawful k)

  -- write, with the row rebuilt
  module _ (f start a : ℕ) (v : List ℕ) (h : is_file m.files f ≡ true) (short : length v ≤ value_size) (o : fate_of l a ≡ undecided) where
    abbrev x : Object
    x = m.object f

    abbrev row : Row
    row = store.written (row_for l x f) (suc w.end) start a

    abbrev objects : ℕ → Object
    objects = changed m.object f (given m f start a v)

    -- the token's end: its start, and what was asked for of the token that it overtakes
    end_is : store.written_end (row_for l x f) start ≡ max start (asked_before x.tokenasked x.token)
    end_is = rw (s.says.token f) (go (token l f) (token_lies l f))
      where
        go : (z : Option Placed) → Lies l f z → cond (eqb (place_of z) 0) start (max (max (since (version_in z)) x.tokenasked) start) ≡ max start (asked_before x.tokenasked (version_in z))
        go none i = omega arith
        go (some y) i = rw (ne_eqb y.place 0 (λ e. omega (arith, i.low))) (omega arith)

    rows_in : ImageFits (written l f start a v) l → (g : ℕ) → is_file m.files g ≡ true → (b : Bool) → eqb f g ≡ b
        → warm_of (nth cold (put w.rows f row) g) (image (written l f start a v) ∷ l) g ≡ row_for (image (written l f start a v) ∷ l) (objects g) g
    rows_in i g q true e = rw (
      ← eqb-true f g e,
      nth_put_same cold w.rows f row (is_file_lem m.files f h).0 (rw s.files (is_file_lem m.files f h).1),
      image_versions (written l f start a v) l f i,
      image_token (written l f start a v) l f i,
      eq-eqb f f refl,
      s.ends,
    ) (λ j. record { mark = 1; current = place_of (current l f); currentend = current_end x; token = suc (length l); tokenend = end_is j; tokenaction = a })
    rows_in i g q false e = rw (
      nth_put_other cold w.rows f g row (λ j. eqb-false f g e (sym j)),
      image_versions (written l f start a v) l g i,
      image_token (written l f start a v) l g i,
      e,
      ne_eqb g f (λ j. eqb-false f g e (sym j)),
    ) (s.rows g q)

    new : is_free_for a (token l f) ≡ true → current_end x < start → length l < m.pages
        → Sim (append w (image (written l f start a v)) w.fates (put w.rows f row) w.undecided) (image (written l f start a v) ∷ l) (stores m m.undecided m.status objects)
    unfolding fate_of
    new e k r =
        let i : ImageFits (written l f start a v) l = record { live = o; free = e; links = refl; later = omega (arith, newest_since l m s.says f) } in
        sim_append w l m s (image (written l f start a v)) w.fates (put w.rows f row) w.undecided m.undecided m.status objects i r
        s.fates s.undecided (length_put w.rows f row ∙ s.files) (λ g q. rows_in i g q (eqb f g) refl)
        (image_says l m s.says f start a v i)

    -- line 10
    abbrev late : Bool
    late = ltb (since (newest x.history)) start && ltb x.asked start && ltb m.floor start

    late_is : (ltb (current_end x) start && ltb w.floor start) ≡ late
    late_is = rw (s.floor, max_below (since (newest x.history)) x.asked start)

    above : late ≡ true → current_end x < start
    above q = ltb-true (current_end x) start (max_below (since (newest x.history)) x.asked start ∙ (and_true (ltb (since (newest x.history)) start && ltb x.asked start) (ltb m.floor start) q).0)

    -- line 8
    free_is : (z : Option Placed) → Lies l f z → (eqb (place_of z) 0 || eqb (action_of z) a) ≡ model.is_free_for a (version_in z)
    free_is none i = refl
    free_is (some y) i = rw (ne_eqb y.place 0 (λ e. omega (arith, i.low)))

    free_log : (z : Option Placed) → model.is_free_for a (version_in z) ≡ true → is_free_for a z ≡ true
    free_log none e = refl
    free_log (some y) e = e

    timely : is_free_for a (token l f) ≡ true
        → Agrees m.files (write f start a v) l
        (cond (ltb (current_end x) start && ltb w.floor start)
        (cond (store.has_room w (w.undecided + 1)) (store.store w (image (written l f start a v)) w.fates (put w.rows f row) w.undecided) (refuse NoRoom 0 w)) (refuse EarlyStart 0 w))
        (cond late (cond (has_room m (m.undecided + 1)) (stored m m.undecided m.status objects) (refuses NoRoom 0 m)) (refuses EarlyStart 0 m))
    timely e =
        agrees_cond (ltb (current_end x) start && ltb w.floor start) late late_is
        (λ q. agrees_cond (store.has_room w (w.undecided + 1)) (has_room m (m.undecided + 1)) (rw s.undecided (room_eq w l m s (m.undecided + 1)))
        (λ r. rw (blank_ok w l m s) (appended w l m s (image (written l f start a v)) _ _ _ _ (refl, h, short) (new e (above q) (room_is (m.undecided + 1) (omega arith) r))))
        (λ r. refused NoRoom 0 0 refl s))
        (λ q. refused EarlyStart 0 0 refl s)

    pub sim_write : Agrees m.files (write f start a v) l (on_write w f start a v (row_for l x f)) (writing m f start a v x x.token)
    sim_write =
        let k : x.token ≡ version_in (token l f) = s.says.token f in
        rw (row_holds_lem w l m s f) (agrees_cond (store.is_free_for a (row_for l x f)) (model.is_free_for a x.token) (free_is (token l f) (token_lies l f) ∙ ap (model.is_free_for a) (sym k))
        (λ e. timely (free_log (token l f) (ap (model.is_free_for a) (sym k) ∙ e)))
        (λ e. refused OtherToken (action_of (token l f)) (model.action_of x.token) (sym (token_acted l m s.says f)) s))
