-- The ways write ends. Assumes nothing.
use Prim.Native.Nat.{ℕ, suc, ◌+◌, ◌*◌, ◌/◌, ◌^◌, ◌≤◌, ◌<◌}
use mathlib.Core.Path.{◌≡◌, refl, sym, ap, ◌∙◌}
use mathlib.Core.Bool.{Bool, true, false, cond, ◌&&◌, ◌||◌}
use mathlib.Core.List.{List}
use native.Mathlib.Omega.{arith}
use lib.ListN.{length}
use lib.Dec.{eqb, leb, ltb}
use borrow.Author.Tests.{leb-false, le-leb, lt-leb, eqb-true, leb-true, ltb-true}
use Rattle.encoding.proofs.Logic.{and_true, clash}
use Rattle.page.specs.declared.Page.{Page}
use Rattle.page.specs.Layout.{page_size, value_size}
use Rattle.page.specs.Table.{packed, meets_rules}
use Rattle.page.specs.Table as table
use Rattle.page.specs.Answers.{in_bounds}
use Rattle.page.proofs.Obeyed.{image_rules}
use Rattle.recovery.specs.Places.{put}
use Rattle.recovery.specs.Log.{Image, image}
use Rattle.recovery.specs.declared.Refusal.{Refusal}
use Rattle.recovery.specs.declared.Refusal.TheVariants.{WrongSizes, NoFile, LongValue, DamagedRow, OtherToken, EarlyStart}
use Rattle.recovery.specs.declared.Row.{Row}
use Rattle.recovery.specs.declared.State.{State}
use Rattle.recovery.specs.declared.Answer.{Answer}
use Rattle.recovery.specs.declared.Answer.TheVariants.{Refused, Stored}
use Rattle.recovery.specs.World.{World, Result, is_file, entry_at, is_image_of, place_holds, token_holds, row_holds, with_row, warm_row}
use Rattle.recovery.specs.Lent.{row_length, rows_of, flat, lent, refused}
use Rattle.recovery.specs.Steps.{line_one, row_holds_in, with_row_of, Warmed}
use Rattle.recovery.proofs.FlatRows.{rows_long}
use Rattle.calls.specs.Calls.{write, on, is_free_for, written, on_write, append}
use Rattle.calls.specs.Leaves.{call_leaves, packed_entry, padded, with_page}
use Rattle.std.specs.Prelude.{Ok, Err}
use Rattle.calls.specs.LineSteps.{Line, free, action_line, room_line}
use Rattle.calls.specs.ReadSteps.{may_write, store_line, stored_at, write_answer}
use Rattle.calls.proofs.Ends.{ends_line_1, ends_same, ends_row, ends_grown}
use Rattle.calls.proofs.ActionLines.{acting, by_line, undecided_by}
use Rattle.calls.proofs.RoomLines.{room_is, room_by, append_fits}
use Rattle.calls.proofs.ReadWarming.{warm_is, put_warm}
use Rattle.calls.proofs.WritePads.{pad_zeros}

-- ---- four tests, one after the other

abbrev answers : ℕ → ℕ → Line → Bool → Bool → Bool → Answer
answers e k l b1 b2 b3 = cond b1 (cond b2 (stored_at e (cond b3 l (Err EarlyStart))) (Refused OtherToken k)) (Refused DamagedRow 0)

abbrev four : ℕ → ℕ → Line → Bool → Bool → Bool → World → World → Result
four e k l b1 b2 b3 g v = cond b1 (cond b2 (cond b3 (by_line v (Stored e, g) l) (Refused EarlyStart 0, v)) (Refused OtherToken k, v)) (Refused DamagedRow 0, v)

with_world : (r a : Answer) (v : World) → r ≡ a → ◌≡◌ {A = Result} (a, v) (r, v)
with_world r a v h = ap (λ (x : Answer). (x, v)) (sym h)

four_no : (e k : ℕ) (l : Line) (b1 b2 b3 : Bool) (g v : World) (r : Answer) → r ≡ answers e k l b1 b2 b3 → ((place : ℕ) → r ≡ Stored place → ⊥) → four e k l b1 b2 b3 g v ≡ (r, v)
four_no e k l false b2 b3 g v r h t = with_world r (Refused DamagedRow 0) v h
four_no e k l true false b3 g v r h t = with_world r (Refused OtherToken k) v h
four_no e k l true true false g v r h t = with_world r (Refused EarlyStart 0) v h
four_no e k (Err n) true true true g v r h t = with_world r (Refused n 0) v h
four_no e k (Ok u) true true true g v r h t = absurd (t e h)

pub record All (e : ℕ) (l : Line) (b1 b2 b3 : Bool) (q : ℕ) : Type 0 where
  pub one : b1 ≡ true
  pub two : b2 ≡ true
  pub three : b3 ≡ true
  pub four_is : l ≡ free
  pub place : q ≡ e

four_yes : (e k : ℕ) (l : Line) (b1 b2 b3 : Bool) (q : ℕ) → Stored q ≡ answers e k l b1 b2 b3 → All e l b1 b2 b3 q
four_yes e k l false b2 b3 q h = clash cc
four_yes e k l true false b3 q h = clash cc
four_yes e k l true true false q h = clash cc
four_yes e k (Err n) true true true q h = clash cc
four_yes e k (Ok u) true true true q h = record { one = refl; two = refl; three = refl; four_is = refl; place = cc }

-- ---- lines 3 to 6

module _ (s fs rs : List ℕ) (st : State) (h : line_one (length s) (length fs) (length rs) st.end st.undecided ≡ true) (f t a : ℕ) (v : List ℕ) where
  abbrev w : World
  w = lent s fs rs st

  pub write_3 : is_file (length rs / row_length) f ≡ false → refused NoFile 0 s fs rs st ≡ call_leaves s fs rs st (write f t a v)
  write_3 k = ends_same s fs rs st (write f t a v) h (Refused NoFile 0) (simp (rows_long rs, k))

  module _ (g : is_file (length rs / row_length) f ≡ true) where
    pub write_4 : value_size < length v → refused LongValue 0 s fs rs st ≡ call_leaves s fs rs st (write f t a v)
    write_4 k = ends_same s fs rs st (write f t a v) h (Refused LongValue 0) (simp (rows_long rs, g, lt-leb (length v) value_size k))

    module _ (short : length v ≤ value_size) where
      on_line : on w (write f t a v)
          ≡ by_line w (on_write (with_row w f (warm_row w f)) f t a v (warm_row w f)) (action_line fs st.end a)
      on_line = simp (rows_long rs, g, le-leb (length v) value_size short) (undecided_by w a (on_write (with_row w f (warm_row w f)) f t a v (warm_row w f)))

      pub write_56 : (n : Refusal) → Err n ≡ action_line fs st.end a → refused n 0 s fs rs st ≡ call_leaves s fs rs st (write f t a v)
      write_56 n hn = ends_same s fs rs st (write f t a v) h (Refused n 0) (on_line ∙ rw (← hn))

      -- ---- lines 7 to 12, and the page

      module _ (may : action_line fs st.end a ≡ free) (r : Row) (xs : List ℕ) (wm : Warmed s fs rs f st.end r xs) where
        abbrev w₁ : World
        w₁ = with_row w f r

        on_warm : on w (write f t a v) ≡ on_write w₁ f t a v r
        on_warm = on_line ∙ rw may (ap (λ (x : Row). on_write (with_row w f x) f t a v x) (warm_is s fs rs st h f g r xs wm))

        abbrev I : Image
        I = record { file = f; action = a; link = r.current; start = t; value = v }

        abbrev r₁ : Row
        r₁ = written r (suc st.end) t a

        abbrev g₁ : World
        g₁ = append w₁ (image I) fs (put (put (rows_of rs) f r) f r₁) st.undecided

        abbrev line : Line
        line = room_line s st.end (length rs / row_length) (st.undecided + 1)

        on_room : on w (write f t a v)
            ≡ four (suc st.end) r.tokenaction line (row_holds w₁ f r) (is_free_for a r) (ltb r.currentend t && ltb st.floor t) g₁ w₁
        on_room =
            on_warm
            ∙ rw (room_by (length rs / row_length) s fs (put (rows_of rs) f r) st.end st.floor st.undecided (st.undecided + 1) (omega arith) (Stored (suc st.end), g₁))

        pub write_refused : (x : Answer) → x ≡ write_answer s (length rs / row_length) st f t a r → ((place : ℕ) → x ≡ Stored place → ⊥)
            → record { answer = x; state = st; sheet = s; fates = fs; rows = xs } ≡ call_leaves s fs rs st (write f t a v)
        unfolding write_answer store_line row_holds_in row_holds
        write_refused x hx q =
            ends_row s fs rs st (write f t a v) h f r x
            (on_room
            ∙ four_no (suc st.end) r.tokenaction line (row_holds w₁ f r) (is_free_for a r) (ltb r.currentend t && ltb st.floor t) g₁ w₁ x hx q)
            g xs wm.left_is

        module _ (q : ℕ) (hq : Stored q ≡ write_answer s (length rs / row_length) st f t a r) where
          all : All (suc st.end) line (row_holds w₁ f r) (is_free_for a r) (ltb r.currentend t && ltb st.floor t) q
          unfolding write_answer store_line row_holds_in row_holds
          all = four_yes (suc st.end) r.tokenaction line (row_holds w₁ f r) (is_free_for a r) (ltb r.currentend t && ltb st.floor t) q hq

          room : st.end < length s / page_size
          room = omega (arith, room_is s st.end (length rs / row_length) (st.undecided + 1) (sym all.four_is))

          link_low : r.current < suc st.end
          unfolding row_holds
          link_low =
              let k : place_holds w₁ f r.current ≡ true = (and_true (leb r.mark 1) (place_holds w₁ f r.current) (and_true (leb r.mark 1 && place_holds w₁ f r.current) (token_holds w₁ f r) all.one).0).1 in
              go (eqb r.current 0) refl k
            where
              go : (b : Bool) → eqb r.current 0 ≡ b → (b || (leb r.current st.end && is_image_of f (entry_at w r.current))) ≡ true → r.current < suc st.end
              go true e k = omega (arith, eqb-true r.current 0 e)
              go false e k = omega (arith, leb-true r.current st.end (and_true (leb r.current st.end) (is_image_of f (entry_at w r.current)) k).0)

          abbrev page : Page
          page = table.image (length v) f a r.current t

          -- what append asks
          pub append_asked : t < 2 ^ 64 → (p : Page) → p ≡ page → (pv : List ℕ) → pv ≡ padded v
              → (page_size * st.end + page_size ≤ length s) × (in_bounds page_size (suc st.end) (length rs / row_length) ≡ true) × (meets_rules p pv (suc st.end) (length rs / row_length) ≡ true)
          append_asked u p hg pv hp =
              let k = append_fits (length s) (length fs) (length rs) st.end st.undecided h room in
              let l = acting fs st.end a (sym may) in
              let i = file_in in
              let c = ltb-true r.currentend t (and_true (ltb r.currentend t) (ltb st.floor t) all.three).0 in (
                k.0,
                k.1,
                ap (λ (x : Page). meets_rules x pv (suc st.end) (length rs / row_length)) hg
                    ∙ rw hp (image_rules (length v) f a r.current t (suc st.end) (length rs / row_length) (padded v) short i.0 i.1 l.low (omega (arith, l)) link_low (omega arith) u (pad_zeros v)),
              )
            where
              file_in : (1 ≤ f) × (f ≤ length rs / row_length)
              file_in = let x = and_true (leb 1 f) (leb f (length rs / row_length)) g in (leb-true 1 f x.0, leb-true f (length rs / row_length) x.1)

          pub write_done : (p : Page) → p ≡ page → (y : Row) → y ≡ written r q t a → (s'' ys pv : List ℕ) → pv ≡ padded v → s'' ≡ with_page s st.end (packed p pv (suc st.end))
              → ys ≡ with_row_of xs f y
              → record { answer = Stored q; state = record { end = q; floor = st.floor; undecided = st.undecided }; sheet = s''; fates = fs; rows = ys } ≡ call_leaves s fs rs st (write f t a v)
          unfolding packed_entry
          write_done p hg y hr s'' ys pv hp hs hy =
              let o : on w (write f t a v) ≡ (Stored (suc st.end), g₁) = on_room ∙ rw (all.one, all.two, all.three, all.four_is) in
              let e : q ≡ suc st.end = all.place in
              let k : y ≡ r₁ = hr ∙ ap (λ (n : ℕ). written r n t a) e in
              let x : s'' ≡ with_page s st.end (packed page (padded v) (suc st.end)) =
              hs ∙ ap (λ (z : Page). with_page s st.end (packed z pv (suc st.end))) hg ∙ ap (λ (z : List ℕ). with_page s st.end (packed page z (suc st.end))) hp in
              let l : ys ≡ flat (put (put (rows_of rs) f r) f r₁) = hy ∙ ap (with_row_of xs f) k ∙ put_warm s fs rs st h f g r xs wm r₁ in
              rw e (ends_grown s fs rs st (write f t a v) h (image I) fs (put (put (rows_of rs) f r) f r₁) st.undecided o room s'' fs ys x refl l)

-- ---- all of these lines

module _ (s fs rs : List ℕ) (st : State) (f a : ℕ) (v : List ℕ) where
  pub record MayWrite : Type 0 where
    pub fits : line_one (length s) (length fs) (length rs) st.end st.undecided ≡ true
    pub file : is_file (length rs / row_length) f ≡ true
    pub short : length v ≤ value_size
    pub acts : action_line fs st.end a ≡ free

  pub allowed : free ≡ may_write s fs rs st f a v → MayWrite
  unfolding may_write
  allowed e = go (line_one (length s) (length fs) (length rs) st.end st.undecided) refl (is_file (length rs / row_length) f) refl (leb (length v) value_size) refl e
    where
      go : (b : Bool) → line_one (length s) (length fs) (length rs) st.end st.undecided ≡ b → (c : Bool) → is_file (length rs / row_length) f ≡ c → (d : Bool) → leb (length v) value_size ≡ d
          → free ≡ cond b (cond c (cond d (action_line fs st.end a) (Err LongValue)) (Err NoFile)) (Err WrongSizes) → MayWrite
      go false h c g d k q = clash cc
      go true h false g d k q = clash cc
      go true h true g false k q = clash cc
      go true h true g true k q = record { fits = h; file = g; short = leb-true (length v) value_size k; acts = sym q }

  pub write_no : (t : ℕ) (n : Refusal) → Err n ≡ may_write s fs rs st f a v → refused n 0 s fs rs st ≡ call_leaves s fs rs st (write f t a v)
  unfolding may_write
  write_no t n e = go (line_one (length s) (length fs) (length rs) st.end st.undecided) refl (is_file (length rs / row_length) f) refl (leb (length v) value_size) refl e
    where
      go : (b : Bool) → line_one (length s) (length fs) (length rs) st.end st.undecided ≡ b → (c : Bool) → is_file (length rs / row_length) f ≡ c → (d : Bool) → leb (length v) value_size ≡ d
          → Err n ≡ cond b (cond c (cond d (action_line fs st.end a) (Err LongValue)) (Err NoFile)) (Err WrongSizes) → refused n 0 s fs rs st ≡ call_leaves s fs rs st (write f t a v)
      go false h c g d k q = let z : n ≡ WrongSizes = cc in rw z (ends_line_1 s fs rs st (write f t a v) h)
      go true h false g d k q = let z : n ≡ NoFile = cc in rw z (write_3 s fs rs st h f t a v g)
      go true h true g false k q = let z : n ≡ LongValue = cc in rw z (write_4 s fs rs st h f t a v g (leb-false (length v) value_size k))
      go true h true g true k q = write_56 s fs rs st h f t a v g (leb-true (length v) value_size k) n q
