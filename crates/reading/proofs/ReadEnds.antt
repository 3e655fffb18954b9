-- Read: of the versions, of the token, and the ways it ends. Assumes nothing.
use Prim.Native.Nat.{ℕ, ◌/◌, ◌≤◌, ◌<◌}
use mathlib.Core.Path.{◌≡◌, refl, sym, ap, ◌∙◌}
use mathlib.Core.Bool.{Bool, true, false}
use mathlib.Core.List.{List}
use lib.ListN.{length}
use borrow.Author.Tests.{eq-eqb, ne_eqb, le-leb, lt-leb}
use Rattle.page.specs.declared.Page.{Page}
use Rattle.std.specs.Prelude.{Option, Some, None}
use Rattle.recovery.specs.Places.{nth, put}
use Rattle.recovery.specs.Log.{blank, Placed}
use Rattle.recovery.specs.Sheet.{page_bytes, image_from}
use Rattle.recovery.specs.declared.Refusal.{Refusal}
use Rattle.recovery.specs.declared.Refusal.TheVariants.{WrongSizes, NoFile, DamagedRow, HangingRead}
use Rattle.recovery.specs.declared.Row.{Row}
use Rattle.recovery.specs.declared.State.{State}
use Rattle.recovery.specs.declared.Answer.{Answer}
use Rattle.recovery.specs.declared.Answer.TheVariants.{Refused, Value, Nothing}
use Rattle.recovery.specs.World.{World, is_file, with_row, warm_row, row_holds}
use Rattle.recovery.specs.Lent.{row_length, rows_of, pages_of, lent, refused}
use Rattle.recovery.specs.Steps.{line_one, sealed_image, row_holds_by, row_holds_in, with_row_of, Warmed}
use Rattle.recovery.proofs.Held.{row_held}
use Rattle.recovery.proofs.FlatRows.{rows_long}
use Rattle.calls.specs.Walk.{Walk, met, nothing, early, lost, images_below, follow}
use Rattle.calls.specs.Calls.{read, on, on_read, on_token, answer_walk, image_of, read_current, read_token}
use Rattle.calls.specs.Leaves.{call_leaves}
use Rattle.std.specs.Prelude.{cond, Err}
use Rattle.calls.specs.LineSteps.{free}
use Rattle.calls.specs.ReadSteps.{read_line, may_read, image_by, Looked, walk_answer, carried_in, walk_at}
use Rattle.reading.specs.declared.Reading.{Reading}
use Rattle.reading.specs.WarmReads.{world, Versions, Reads}
use Rattle.calls.proofs.Ends.{ends_line_1, ends_same, ends_row}
use Rattle.encoding.proofs.Logic.{clash}
use Rattle.calls.proofs.ActionLines.{by_line, read_by}
use Rattle.calls.proofs.ReadImages.{met_at, RowHeld, looked_token}
use Rattle.calls.proofs.LinkByLink.{reached}
use Rattle.calls.proofs.ReadWalks.{met_long}
use Rattle.calls.proofs.ReadWarming.{warm_is, put_twice, put_over}

-- ---- the versions

module _ {files : ℕ} {s : List ℕ} {f : ℕ} {u : Option Page} (t : ℕ) (r : Row) (l : Looked files s f r.current u) where
  current_is : (o : Option Page) → u ≡ o → image_of (nth blank (pages_of s files) r.current) ≡ image_by (page_bytes s r.current) o
  current_is o i = l.image_is ∙ ap (image_by (page_bytes s r.current)) i

  module _ {x : Page} (i : u ≡ Some x) where
    abbrev newest : Placed
    newest = record { place = r.current; image = image_from (page_bytes s r.current) x }

    abbrev steps : Walk
    steps = follow (carried_in files s) t false newest (images_below (pages_of s files) r.current f)

    pub versions_met : (y : Row) → y ≡ read_current t true r → x.start ≤ t → Versions files s f t r (record { answer = Value r.current x.start x.small; row = y })
    versions_met y hy b = record {
      is = λ e fs rs fl n h.
          let k : steps ≡ met newest = reached (carried_in files s) (pages_of s files) f t false newest b in
          rw (current_is (Some x) i, le-leb x.start t b, k, met_long files s f r.current x (met_at files s f r.current x (sym l.found ∙ i)))
          (ap (λ (z : Row). (Value r.current x.start x.small, with_row (world files s e fs rs fl n) f z)) (sym hy));
    }

    still : (e : ℕ) (fs : List ℕ) (rs : List Row) (fl n : ℕ) → put rs f r ≡ rs → (k : Walk)
        → answer_walk (world files s e fs rs fl n) f r k ≡ (walk_answer k, with_row (world files s e fs rs fl n) f r)
    still e fs rs fl n h (met y) = refl
    still e fs rs fl n h nothing = refl
    still e fs rs fl n h early = rw h
    still e fs rs fl n h (lost p) = rw h

    pub versions_early : (q : Answer) → q ≡ walk_at files s f t false r.current x → t < x.start → Versions files s f t r (record { answer = q; row = r })
    unfolding walk_at
    versions_early q hq b = record {
      is = λ e fs rs fl n h.
          rw (current_is (Some x) i, lt-leb x.start t b) (still e fs rs fl n h steps)
          ∙ ap (λ (y : Answer). (y, with_row (world files s e fs rs fl n) f r)) (sym hq);
    }

-- ---- the token

module _ (files : ℕ) (s : List ℕ) (e f t a : ℕ) (r : Row) (u v : Option Page) (hu : u ≡ sealed_image files s f r.current) (hv : v ≡ sealed_image files s f r.token) where
  holds_is : (b : Bool) → row_holds_by e r u v ≡ b → (fs : List ℕ) (rs : List Row) (fl n : ℕ) → row_holds (world files s e fs rs fl n) f r ≡ b
  unfolding row_holds_in row_holds
  holds_is b hb fs rs fl n = sym (row_held files s e f r u v hu hv) ∙ hb

  pub reads_7 : row_holds_by e r u v ≡ false → Reads files s e f t a r (record { answer = Refused DamagedRow 0; row = r })
  reads_7 h = record { is = λ fs rs fl n k. rw (holds_is false h fs rs fl n, k) }

module _ {files : ℕ} {s : List ℕ} {e f : ℕ} {r : Row} {u v : Option Page} (t a : ℕ) (h : RowHeld files s e f r u v) where
  on_held : (fs : List ℕ) (rs : List Row) (fl n : ℕ) (o : Option Page) → v ≡ o
      → on_read (world files s e fs rs fl n) f t a r ≡ on_token (world files s e fs rs fl n) f t a r (image_by (page_bytes s r.token) o)
  on_held fs rs fl n o i =
      let k : image_of (nth blank (pages_of s files) r.token) ≡ image_by (page_bytes s r.token) o =
      (looked_token h).image_is ∙ ap (image_by (page_bytes s r.token)) i in
      rw (holds_is files s e f t a r u v h.current h.token true h.holds fs rs fl n, k)

  pub reads_free : v ≡ None → (x : Reading) → Versions files s f t r x → Reads files s e f t a r x
  reads_free i x vs = record { is = λ fs rs fl n k. on_held fs rs fl n None i ∙ vs.is e fs rs fl n k }

  module _ {x : Page} (i : v ≡ Some x) where
    pub reads_early : t < x.start → (y : Reading) → Versions files s f t r y → Reads files s e f t a r y
    reads_early k y vs = record { is = λ fs rs fl n q. on_held fs rs fl n (Some x) i ∙ rw (lt-leb x.start t k) (vs.is e fs rs fl n q) }

    module _ (k : x.start ≤ t) where
      pub reads_9 : (x.action ≡ a → ⊥) → Reads files s e f t a r (record { answer = Refused HangingRead x.action; row = r })
      reads_9 o = record { is = λ fs rs fl n q. on_held fs rs fl n (Some x) i ∙ rw (le-leb x.start t k, ne_eqb x.action a o, q) }

      pub reads_own : x.action ≡ a → (y : Row) → y ≡ read_token t r → Reads files s e f t a r (record { answer = Value r.token x.start x.small; row = y })
      reads_own o y hy = record {
        is = λ fs rs fl n q.
            on_held fs rs fl n (Some x) i
            ∙ rw (le-leb x.start t k, eq-eqb x.action a o, met_long files s f r.token x (met_at files s f r.token x (sym h.token ∙ i)))
            (ap (λ (z : Row). (Value r.token x.start x.small, with_row (world files s e fs rs fl n) f z)) (sym hy));
      }

-- ---- the ways read ends

module _ (s fs rs : List ℕ) (st : State) (h : line_one (length s) (length fs) (length rs) st.end st.undecided ≡ true) (f t a : ℕ) where
  abbrev w : World
  w = lent s fs rs st

  pub read_3 : is_file (length rs / row_length) f ≡ false → refused NoFile 0 s fs rs st ≡ call_leaves s fs rs st (read f t a)
  read_3 k = ends_same s fs rs st (read f t a) h (Refused NoFile 0) (simp (rows_long rs, k))

  module _ (g : is_file (length rs / row_length) f ≡ true) where
    on_line : on w (read f t a) ≡ by_line w (on_read (with_row w f (warm_row w f)) f t a (warm_row w f)) (read_line fs st.end a)
    on_line = simp (rows_long rs, g) (read_by w a (on_read (with_row w f (warm_row w f)) f t a (warm_row w f)))

    pub read_56 : (n : Refusal) → Err n ≡ read_line fs st.end a → refused n 0 s fs rs st ≡ call_leaves s fs rs st (read f t a)
    read_56 n hn = ends_same s fs rs st (read f t a) h (Refused n 0) (on_line ∙ rw (← hn))

    module _ (may : read_line fs st.end a ≡ free) (r : Row) (xs : List ℕ) (wm : Warmed s fs rs f st.end r xs) where
      on_warm : on w (read f t a) ≡ on_read (with_row w f r) f t a r
      on_warm = on_line ∙ rw may (ap (λ (x : Row). on_read (with_row w f x) f t a x) (warm_is s fs rs st h f g r xs wm))

      pub read_done : (x : Reading) → Reads (length rs / row_length) s st.end f t a r x → (ys : List ℕ) → ys ≡ with_row_of xs f x.row
          → record { answer = x.answer; state = st; sheet = s; fates = fs; rows = ys } ≡ call_leaves s fs rs st (read f t a)
      read_done x rd ys hy =
          let o : on w (read f t a) ≡ (x.answer, with_row w f x.row) =
          on_warm
          ∙ rd.is fs (put (rows_of rs) f r) st.floor st.undecided (put_twice (rows_of rs) f r r)
          ∙ ap (λ (q : List Row). (x.answer, record { sheet = w.sheet; fates = fs; rows = q; end = st.end; floor = st.floor; undecided = st.undecided })) (put_twice (rows_of rs) f r x.row) in
          ends_row s fs rs st (read f t a) h f x.row x.answer o g ys (hy ∙ put_over s fs rs st h f g r xs wm x.row)

-- ---- the lines before 7

module _ (s fs rs : List ℕ) (st : State) (f a : ℕ) where
  pub record MayRead : Type 0 where
    pub fits : line_one (length s) (length fs) (length rs) st.end st.undecided ≡ true
    pub file : is_file (length rs / row_length) f ≡ true
    pub acts : read_line fs st.end a ≡ free

  pub allowed : free ≡ may_read s fs rs st f a → MayRead
  unfolding may_read
  allowed e = go (line_one (length s) (length fs) (length rs) st.end st.undecided) refl (is_file (length rs / row_length) f) refl e
    where
      go : (b : Bool) → line_one (length s) (length fs) (length rs) st.end st.undecided ≡ b → (c : Bool) → is_file (length rs / row_length) f ≡ c
          → free ≡ cond b (cond c (read_line fs st.end a) (Err NoFile)) (Err WrongSizes) → MayRead
      go false h c g q = clash cc
      go true h false g q = clash cc
      go true h true g q = record { fits = h; file = g; acts = sym q }

  pub read_no : (t : ℕ) (n : Refusal) → Err n ≡ may_read s fs rs st f a → refused n 0 s fs rs st ≡ call_leaves s fs rs st (read f t a)
  unfolding may_read
  read_no t n e = go (line_one (length s) (length fs) (length rs) st.end st.undecided) refl (is_file (length rs / row_length) f) refl e
    where
      go : (b : Bool) → line_one (length s) (length fs) (length rs) st.end st.undecided ≡ b → (c : Bool) → is_file (length rs / row_length) f ≡ c
          → Err n ≡ cond b (cond c (read_line fs st.end a) (Err NoFile)) (Err WrongSizes) → refused n 0 s fs rs st ≡ call_leaves s fs rs st (read f t a)
      go false h c g q = let z : n ≡ WrongSizes = cc in rw z (ends_line_1 s fs rs st (read f t a) h)
      go true h false g q = let z : n ≡ NoFile = cc in rw z (read_3 s fs rs st h f t a g)
      go true h true g q = read_56 s fs rs st h f t a g n q
