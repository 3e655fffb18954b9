-- A world stands for a log and the state of the object model: its tests answer what the model says, and a row set or a page appended
-- keeps it so.
use mathlib.Core.Path.{◌≡◌, refl, ap, sym, ◌∙◌, subst}
use mathlib.Core.List.{List, ◌∷◌}
use mathlib.Core.Bool.{Bool, true, false, cond, ◌&&◌, false≢true, true≢false}
use mathlib.Core.Option.{Option}
use Prim.Native.Nat.{ℕ, suc, ◌≤◌, ◌<◌}
use native.Mathlib.Omega.{arith}
use lib.ListN.{length}
use lib.Seq.{get_or-set_same}
use lib.Dec.{eqb, leb}
use borrow.Author.Tests.{eqb-true, eqb-false, le-leb}
use Rattle.encoding.proofs.Logic.{bool_ext, and_true, clash}
use Rattle.page.specs.Layout.{value_size}
use Rattle.recovery.specs.Places.{nth, put}
use Rattle.recovery.specs.Log.{Entry, blank, opening, image, outcome, Fate, unknown, undecided, committed, aborted, Placed, fate_of, effective_of, place_of, action_of}
use Rattle.recovery.specs.World.{World, Result, refuse, entry_at, down, log_of, fate_number, fate_in, fate_at, sizes, cold, rebuilt_row, row_at, with_row, warm_row, row_holds, lent_right, is_file, is_blank, fates_of}
use Rattle.recovery.specs.declared.Refusal.{Refusal}
use Rattle.recovery.specs.declared.Row.{Row}
use Rattle.recovery.specs.declared.Answer.{Answer}
use Rattle.recovery.specs.declared.Answer.TheVariants.{Refused, Stored}
use Rattle.recovery.proofs.Places.{nth_put_same, nth_put_other, length_put, length_tabulate}
use Rattle.recovery.proofs.Lookups.{is_file_lem}
use Rattle.inspection.specs.Lawful.{current, token}
use Rattle.calls.specs.Calls as store
use Rattle.calls.specs.Calls.{Call, begin, write, read, test, decide, rebuild, is_known, has_action, append}
use Rattle.recovery.proofs.Refused.{place_holds_lem, action_holds}
use Rattle.recovery.proofs.Spots.{entry_in, Spot, spots, entry_down, Lies, current_of_lies, token_of_lies}
use Rattle.promises.specs.Model.{Object, Status, Model, Reply, stores, refuses, has_room, current_end, token_end}
use Rattle.promises.proofs.logs.Logs.{Fits, Lawful, known_place}
use Rattle.promises.proofs.logs.Outcomes.{DecidedAt}
use Rattle.promises.proofs.logs.Fates.{fates_are, undecided_low, down_put}
use Rattle.promises.proofs.worlds.LogSays.{with_objects, Says, written}

-- a row as it counts: rebuilt where it is cold
abbrev pub warm_of : Row → List Entry → ℕ → Row
warm_of r l f = cond (eqb r.mark 0) (rebuilt_row l (fate_of l) f) r

-- the row that the store has for a file, once it is rebuilt: with these ends, and with those of its object
abbrev pub row_with : List Entry → ℕ → ℕ → ℕ → Row
row_with l f currentend tokenend = record {
  mark = 1;
  current = place_of (current l f);
  currentend = currentend;
  token = place_of (token l f);
  tokenend = tokenend;
  tokenaction = action_of (token l f);
}

abbrev pub row_for : List Entry → Object → ℕ → Row
row_for l x f = row_with l f (current_end x) (token_end x)

pub record Sim (w : World) (l : List Entry) (m : Model) : Type 0 where
  pub says : Says l m
  pub lawful : Lawful l
  pub room : length l ≤ m.pages
  pub long : length w.sheet ≡ m.pages
  pub files : length w.rows ≡ m.files
  pub fits : sizes m.pages m.pages m.files ≡ true
  pub ends : w.end ≡ length l
  pub log : log_of w ≡ l
  pub clean : (p : ℕ) → w.end < p → entry_at w p ≡ blank
  pub fates : w.fates ≡ fates_of m.pages l
  pub undecided : w.undecided ≡ m.undecided
  pub floor : w.floor ≡ m.floor
  pub rows : (f : ℕ) → is_file m.files f ≡ true → warm_of (row_at w f) l f ≡ row_for l (m.object f) f

-- ---- what a call adds to the log: nothing, or the page that it answers

abbrev pub Writes : ℕ → List Entry → Call → Entry → Type 0
Writes files l begin g = g ≡ opening false
Writes files l (write f start a v) g = (g ≡ image (written l f start a v)) × (is_file files f ≡ true) × (length v ≤ value_size)
Writes files l (read f time a) g = ⊥
Writes files l (test a) g = ⊥
Writes files l (decide a c) g = g ≡ outcome a c
Writes files l (rebuild f) g = ⊥

-- a decision that was made before, and where its outcome lies
abbrev pub Repeats : List Entry → Call → ℕ → Type 0
Repeats l begin p = ⊥
Repeats l (write f start a v) p = ⊥
Repeats l (read f time a) p = ⊥
Repeats l (test a) p = ⊥
Repeats l (decide a c) p = DecidedAt l a c p
Repeats l (rebuild f) p = ⊥

pub data Step (files : ℕ) (k : Call) (l : List Entry) (x : Answer) : List Entry → Type 0 where
  stay : ((p : ℕ) → x ≡ Stored p → Repeats l k p) → Step files k l x l
  add : (g : Entry) → Writes files l k g → x ≡ Stored (suc (length l)) → Step files k l x (g ∷ l)

-- ---- the world and the model answer alike, and go on standing for each other

pub record Agrees (files : ℕ) (k : Call) (l : List Entry) (r : Result) (s : Reply) : Type 0 where
  pub log : List Entry
  pub step : Step files k l s.0 log
  pub answer : r.0 ≡ s.0
  pub after : Sim r.1 log s.1

module _ {files : ℕ} {k : Call} {l : List Entry} where
  pub agrees_cond : (b c : Bool) {x y : Result} {x' y' : Reply} → b ≡ c → (c ≡ true → Agrees files k l x x') → (c ≡ false → Agrees files k l y y')
      → Agrees files k l (cond b x y) (cond c x' y')
  agrees_cond true true e f g = f refl
  agrees_cond true false e f g = absurd (true≢false e)
  agrees_cond false true e f g = absurd (false≢true e)
  agrees_cond false false e f g = g refl

  -- an answer that stores nothing
  pub answers : {w : World} {m : Model} {x y : Answer} → ((p : ℕ) → y ≡ Stored p → ⊥) → x ≡ y → Sim w l m → Agrees files k l (x, w) (y, m)
  answers n e s = record { log = l; step = stay (λ p q. absurd (n p q)); answer = e; after = s }

  pub refused : {w : World} {m : Model} (n : Refusal) (p p' : ℕ) → p ≡ p' → Sim w l m → Agrees files k l (refuse n p w) (refuses n p' m)
  refused n p p' q s = answers (λ r e. clash cc) (ap (Refused n) q) s

pub current_lies : (l : List Entry) (f : ℕ) → Lies l f (current l f)
current_lies l f = current_of_lies l f (fate_of l) (effective_of l f) (spots l f)

pub token_lies : (l : List Entry) (f : ℕ) → Lies l f (token l f)
token_lies l f = token_of_lies l f (fate_of l) (effective_of l f) (spots l f)

known_bool : (x : Fate) → is_known x ≡ true → 1 ≤ fate_number x
known_bool unknown e = absurd (false≢true e)
known_bool undecided e = omega arith
known_bool committed e = omega arith
known_bool aborted e = omega arith

-- ---- what such a world answers to the tests of the calls

module _ (w : World) (l : List Entry) (m : Model) (s : Sim w l m) where
  fate_fun : fate_at w ≡ fate_of l
  fate_fun = ap fate_in s.fates ∙ fates_are m.pages l s.lawful s.room

  pub fate_eq : (a : ℕ) → fate_at w a ≡ fate_of l a
  fate_eq a = ap (λ φ. φ a) fate_fun

  pub entry_eq : (p : ℕ) → p ≤ length l → entry_at w p ≡ entry_in l p
  entry_eq p h = sym (entry_down w.sheet w.end p (omega (arith, s.ends))) ∙ ap (λ l. entry_in l p) s.log

  pub lent_right_lem : lent_right w ≡ true
  unfolding lent_right
  lent_right_lem =
      let k : length w.fates ≡ m.pages = ap length s.fates ∙ length_tabulate (λ p. fate_number (fate_of l p)) 0 m.pages in
      let low : w.undecided ≤ w.end = rw (s.undecided, s.says.undecided, s.ends) (undecided_low m.pages l s.lawful s.room) in
      let high : w.end ≤ m.pages = rw s.ends s.room in
      rw (s.long, k, s.files, s.fits, le-leb w.end m.pages high, le-leb w.undecided w.end low)

  -- a known action has a place in the log
  pub has_action_lem : (a : ℕ) → has_action w a ≡ is_known (fate_of l a)
  has_action_lem a = rw (fate_eq a, s.ends) (bool_ext (leb 1 a && leb a (length l) && is_known (fate_of l a)) (is_known (fate_of l a)) (λ q. (and_true (leb 1 a && leb a (length l)) (is_known (fate_of l a)) q).1) (λ q.
      let p = known_place l a s.lawful (known_bool (fate_of l a) q) in
      rw (le-leb 1 a p.0, le-leb a (length l) p.1) q))

  pub room_eq : (n : ℕ) → store.has_room w n ≡ has_room m n
  room_eq n = rw (s.long, s.ends, s.says.used)

  pub blank_ok : is_blank (entry_at w (suc w.end)) ≡ true
  blank_ok = rw (s.clean (suc w.end) (omega arith))

  pub warm_eq : (f : ℕ) → is_file m.files f ≡ true → warm_row w f ≡ row_for l (m.object f) f
  unfolding warm_row
  warm_eq f h = rw (s.log, fate_fun) (s.rows f h)

  pub lies_at : (f : ℕ) (x : Placed) → Spot l f x → entry_at w x.place ≡ image x.image
  lies_at f x h = entry_eq x.place h.high ∙ h.here

  lies_in : (f : ℕ) (z : Option Placed) → Lies l f z → Lies (log_of w) f z
  lies_in f z h = subst (λ (l : List Entry). Lies l f z) (sym s.log) h

  pub row_holds_lem : (f : ℕ) → row_holds w f (row_for l (m.object f) f) ≡ true
  unfolding row_holds
  row_holds_lem f =
      let t : Lies (log_of w) f (token l f) = lies_in f (token l f) (token_lies l f) in
      rw (place_holds_lem w f (current l f) (lies_in f (current l f) (current_lies l f)), place_holds_lem w f (token l f) t, action_holds w f (token l f) t)

  -- one row set, and its object
  pub sim_set : (f : ℕ) (h : ℕ → Object) (r : Row) → is_file m.files f ≡ true → r ≡ row_for l (h f) f → ((g : ℕ) → (f ≡ g → ⊥) → h g ≡ m.object g)
      → Says l (with_objects m h) → Sim (with_row w f r) l (with_objects m h)
  sim_set f h r i e k o = record {
    says = o;
    lawful = s.lawful;
    room = s.room;
    long = s.long;
    files = length_put w.rows f r ∙ s.files;
    fits = s.fits;
    ends = s.ends;
    log = s.log;
    clean = s.clean;
    fates = s.fates;
    undecided = s.undecided;
    floor = s.floor;
    rows = λ g q. go g q (eqb f g) refl;
  }
    where
      go : (g : ℕ) → is_file m.files g ≡ true → (b : Bool) → eqb f g ≡ b → warm_of (nth cold (put w.rows f r) g) l g ≡ row_for l (h g) g
      go g q true j = rw (← eqb-true f g j, nth_put_same cold w.rows f r (is_file_lem m.files f i).0 (rw s.files (is_file_lem m.files f i).1), e)
      go g q false j = rw (nth_put_other cold w.rows f g r (λ z. eqb-false f g j (sym z)), k g (eqb-false f g j)) (s.rows g q)

  pub sim_warm : (f : ℕ) → is_file m.files f ≡ true → Sim (with_row w f (row_for l (m.object f) f)) l m
  sim_warm f i = sim_set f m.object (row_for l (m.object f) f) i refl (λ g e. refl) s.says

  -- a page appended
  pub sim_append : (g : Entry) (fs : List ℕ) (rs : List Row) (n n' : ℕ) (st : ℕ → Option Status) (h : ℕ → Object) → Fits g l → length l < m.pages
      → fs ≡ fates_of m.pages (g ∷ l) → n ≡ n' → length rs ≡ m.files
      → ((f : ℕ) → is_file m.files f ≡ true → warm_of (nth cold rs f) (g ∷ l) f ≡ row_for (g ∷ l) (h f) f)
      → Says (g ∷ l) (stores m n' st h) → Sim (append w g fs rs n) (g ∷ l) (stores m n' st h)
  unfolding down
  sim_append g fs rs n n' st h f k a b c d o = record {
    says = o;
    lawful = (f, s.lawful);
    room = k;
    long = length_put w.sheet (suc w.end) g ∙ s.long;
    files = c;
    fits = s.fits;
    ends = ap suc s.ends;
    log = rw (get_or-set_same w.sheet w.end g blank (omega (arith, s.long, s.ends)), down_put w.sheet w.end (suc w.end) g (omega arith), s.log);
    clean = λ p q. nth_put_other blank w.sheet (suc w.end) p g (λ e. omega arith) ∙ s.clean p (omega arith);
    fates = a;
    undecided = b;
    floor = s.floor;
    rows = d;
  }

  -- the page and its answer
  pub appended : {files : ℕ} {k : Call} (g : Entry) (w' : World) (n : ℕ) (st : ℕ → Option Status) (h : ℕ → Object) → Writes files l k g → Sim w' (g ∷ l) (stores m n st h)
      → Agrees files k l (Stored (suc w.end), w') (Stored (suc m.used), stores m n st h)
  appended g w' n st h q a = record { log = g ∷ l; step = add g q (ap (λ n. Stored (suc n)) s.says.used); answer = ap (λ n. Stored (suc n)) (s.ends ∙ sym s.says.used); after = a }
