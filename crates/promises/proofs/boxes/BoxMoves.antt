-- A move of a box that stands for a log and a model is answered as the model answers it; refused it leaves the box so, and else a fresh sheet
-- that stands for the model that has moved.
use Prim.Native.Nat.{ℕ, suc, ◌*◌, ◌/◌, ◌%◌, ◌≤◌, ◌<◌}
use mathlib.Core.Path.{◌≡◌, refl, sym, ap, ◌∙◌, subst}
use mathlib.Core.List.{List, [], ◌∷◌, ◌++◌, map}
use mathlib.Core.Bool.{Bool, true, false, cond, not, ◌&&◌, false≢true, true≢false}
use mathlib.Core.Option.{Option, some, none}
use native.Mathlib.Omega.{arith}
use lib.ListN.{length, drop}
use lib.Dec.{eqb, leb}
use borrow.Author.Tests.{eq-eqb, eqb-true, le-leb, leb-true}
use Rattle.encoding.specs.Bytes.{zeros}
use Rattle.encoding.proofs.Logic.{and_true, by_test}
use Rattle.page.specs.Layout.{page_size, most_places, most_files}
use Rattle.recovery.specs.Places.{nth}
use Rattle.recovery.specs.Log.{Image, Entry, blank, Fate, unknown, committed, Placed, fate_of, outcome_of}
use Rattle.recovery.specs.Sheet.{pages}
use Rattle.recovery.specs.World.{World, refuse, lent_right, fate_number, down, is_file}
use Rattle.recovery.specs.Lent.{Left, row_length, rows_of, flat, pages_of, lent, refused}
use Rattle.recovery.specs.Numbers.{is_refused}
use Rattle.recovery.specs.declared.Refusal.{Refusal}
use Rattle.recovery.specs.declared.Refusal.TheVariants.{WrongSizes, DamagedRow, NoRoom, NotBlank, UndecidedAction}
use Rattle.recovery.specs.declared.Answer.{Answer}
use Rattle.recovery.specs.declared.Answer.TheVariants.{Refused, Opened, Rebuilt, Stored, Value, Nothing, Told, Moved}
use Rattle.recovery.proofs.Pages.{pages_long}
use Rattle.recovery.proofs.FlatRows as flatrows
use Rattle.recovery.proofs.FlatRows.{flat_long, flat_rows}
use Rattle.recovery.proofs.Lookups.{is_file_lem}
use Rattle.inspection.specs.Lawful.{versions, current}
use Rattle.moving.specs.Moved.{is_sheet, is_unused, lowest_undecided, warm_rows, versions_to, move_pages, highest_end, Move, on_rows, moved}
use Rattle.moving.specs.MoveLeaves.{MoveLeft, lower_move, move_leaves}
use Rattle.moving.specs.MoveSteps.{warm_run}
use Rattle.moving.proofs.FreshLog.{Carries, move_log, count_to, placed_by, move_fate, move_lawful, log_long}
use Rattle.moving.proofs.FreshOpened.{none_undecided}
use Rattle.moving.proofs.FreshVersions.{move_outcome, move_versions, move_unversioned, move_token, move_carried}
use Rattle.moving.proofs.DecodedBytes.{decoded_lent}
use Rattle.moving.proofs.ReadAlike as alike
use Rattle.moving.specs.Promised.{Decoded}
use Rattle.moving.proofs.FreshBytes as bytes
use Rattle.moving.proofs.MoveRefusals.{is_early, old_kept, fresh_kept}
use Rattle.promises.specs.Runs.{on, off, move_on, takes_place, bytes_of_move}
use Rattle.promises.specs.Model as model
use Rattle.promises.specs.Model.{Model, Reply, refuses, newest, carried_to, asked_to, moved_pages, lowest_pending, model_moved, model_move}
use Rattle.promises.specs.FromLog as fromLog
use Rattle.promises.specs.FromLog.{status_of, version_in, history}
use Rattle.promises.proofs.logs.Logs.{test_lawful}
use Rattle.promises.proofs.worlds.LogSays.{Says, carried_entry}
use Rattle.promises.proofs.worlds.Sim.{Sim, lent_right_lem}
use Rattle.promises.proofs.worlds.SimMoves as sim
use Rattle.promises.proofs.worlds.SimMoves.{image_in}
use Rattle.promises.proofs.worlds.Openings.{Holds}
use Rattle.promises.proofs.boxes.Boxes as boxes
use Rattle.promises.proofs.boxes.Boxes.{world_in, At, Reached, bounds, whole_is}
use Rattle.promises.proofs.boxes.Blanks.{unused_is}

abbrev pub fresh_log : (n files : ℕ) (m : Left) → Reached n files (on m) → List ℕ → List Entry
fresh_log n files m r fresh = move_log (warm_rows (world_in n files m)) files

-- ---- answers

is_refusal : (a : Answer) → is_refused a ≡ true → (k : Refusal) × (p : ℕ) × (a ≡ Refused k p)
unfolding is_refused
is_refusal (Refused k p) e = (k, p, refl)
is_refusal (Opened a b) e = absurd (false≢true e)
is_refusal (Rebuilt a b c d f) e = absurd (false≢true e)
is_refusal (Stored p) e = absurd (false≢true e)
is_refusal (Value p s l) e = absurd (false≢true e)
is_refusal Nothing e = absurd (false≢true e)
is_refusal (Told f p) e = absurd (false≢true e)
is_refusal (Moved f) e = absurd (false≢true e)

-- a model's move that is not refused is answered with its floor
abbrev Answers : Model → Reply → Type 0
Answers m r = is_refused r.0 ≡ false → r.0 ≡ Moved (asked_to m.floor m.object m.files)

model_moved_lem : (m : Model) (fresh : List ℕ) → Answers m (model_move m fresh)
unfolding is_refused
model_moved_lem m fresh =
    by_test (Answers m) (eqb (length fresh % page_size) 0 && is_sheet (length fresh / page_size)) {y = refuses WrongSizes 0 m}
    (λ a. by_test (Answers m) (eqb (lowest_pending m) 0) {y = refuses UndecidedAction (lowest_pending m) m}
    (λ b. by_test (Answers m) (leb (moved_pages m) (length fresh / page_size)) {y = refuses NoRoom 0 m}
    (λ c. by_test (Answers m) (zeros fresh) {x = (Moved (asked_to m.floor m.object m.files), model_moved m (length fresh / page_size))} {y = refuses NotBlank 0 m}
    (λ d e. refl) (λ d e. absurd (true≢false e))) (λ c e. absurd (true≢false e))) (λ b e. absurd (true≢false e))) (λ a e. absurd (true≢false e))

module _ (n files : ℕ) (m : Left) (r : Reached n files (on m)) where
  abbrev w : World
  w = world_in n files m

  abbrev x : Model
  x = r.model

  abbrev s : Sim w r.log x
  s = boxes.sim n files m r

  files_is : length m.rows / row_length ≡ files
  files_is = omega (arith, r.at.stands.1)

  lent_is : lent m.sheet m.fates m.rows m.state ≡ w
  lent_is = let a : length m.sheet / page_size ≡ n = omega (arith, r.at.long) in rw (a, files_is)

  pub bytes_are : (fresh : List ℕ) → bytes_of_move m ≡ page_size * moved_pages x
  bytes_are fresh = ap (λ (u : World). page_size * length (move_pages (warm_rows u))) lent_is ∙ ap (λ k. page_size * k) (sim.pages_are w r.log x s)

  module _ (fresh : List ℕ) where
    abbrev F : ℕ
    F = length fresh / page_size

    move_is : move_on m fresh ≡ cond (eqb (length fresh % page_size) 0) (lower_move m.sheet fresh (moved w (pages_of fresh files))) (record { left = refused WrongSizes 0 m.sheet m.fates m.rows m.state; fresh = fresh })
    unfolding move_leaves
    move_is = rw (whole_is n files m r, lent_is, files_is)

    -- ---- the answer

    abbrev said : Answer
    said = (moved w (pages_of fresh files)).0.0

    -- line by line, as the model has it
    abbrev stops : Refusal → ℕ → World → Move
    stops why place u = (refuse why place u, pages_of fresh files)

    abbrev goes : Move
    goes = ((Moved (asked_to x.floor x.object x.files), warm_rows w), move_pages (warm_rows w) ++ drop (length (move_pages (warm_rows w))) (pages_of fresh files))

    abbrev lines : Bool → Bool → Bool → Move
    lines p q z = cond p (cond q (cond z goes (stops NotBlank 0 (warm_rows w))) (stops NoRoom 0 (warm_rows w))) (stops UndecidedAction (lowest_pending x) w)

    line_1 : (lent_right w && is_sheet (length (pages_of fresh files))) ≡ is_sheet F
    line_1 = ap (λ (b : Bool). b && is_sheet (length (pages_of fresh files))) (lent_right_lem w r.log x s) ∙ ap is_sheet (pages_long files F fresh)

    lines_are : is_sheet F ≡ true → length fresh % page_size ≡ 0 → moved w (pages_of fresh files) ≡ lines (eqb (lowest_pending x) 0) (leb (moved_pages x) F) (zeros fresh)
    unfolding moved
    lines_are h z =
        let k = and_true (leb 1 F) (leb F most_places) h in
        let b = bounds n files r.at.sized in
        let u : is_unused (pages_of fresh files) ≡ zeros fresh =
        unused_is F files (record { some_pages = leb-true 1 F k.0; most_pages = leb-true F most_places k.1; some_files = b.some_files; most_files_lem = b.most_files_lem }) fresh (omega arith) in
        ap (λ (b : Bool). cond {A = Move} b (cond (eqb (lowest_undecided w.fates w.end) 0) (on_rows (warm_rows w) (pages_of fresh files)) (stops UndecidedAction (lowest_undecided w.fates w.end) w)) (stops WrongSizes 0 w)) (line_1 ∙ h)
        ∙ ap (λ (k : ℕ). cond {A = Move} (eqb k 0) (on_rows (warm_rows w) (pages_of fresh files)) (stops UndecidedAction k w)) (sim.pending_is w r.log x s)
        ∙ ap (λ (y : Move). cond {A = Move} (eqb (lowest_pending x) 0) y (stops UndecidedAction (lowest_pending x) w))
        (ap (λ (k : ℕ). cond {A = Move} (eqb k 0) (cond (leb (length (move_pages (warm_rows w))) (length (pages_of fresh files))) (cond (is_unused (pages_of fresh files)) went_by (stops NotBlank 0 (warm_rows w))) (stops NoRoom 0 (warm_rows w))) (stops DamagedRow k (warm_rows w))) (sim.none_damaged w r.log x s)
        ∙ ap (λ (b : Bool). cond {A = Move} b (cond (is_unused (pages_of fresh files)) went_by (stops NotBlank 0 (warm_rows w))) (stops NoRoom 0 (warm_rows w))) (λ i. leb (sim.pages_are w r.log x s i) (pages_long files F fresh i))
        ∙ ap (λ (b : Bool). cond {A = Move} (leb (moved_pages x) F) (cond b went_by (stops NotBlank 0 (warm_rows w))) (stops NoRoom 0 (warm_rows w))) u
        ∙ ap (λ (k : ℕ). cond {A = Move} (leb (moved_pages x) F) (cond (zeros fresh) ((Moved k, warm_rows w), move_pages (warm_rows w) ++ drop (length (move_pages (warm_rows w))) (pages_of fresh files)) (stops NotBlank 0 (warm_rows w))) (stops NoRoom 0 (warm_rows w))) (sim.floor_is w r.log x s))
      where
        went_by : Move
        went_by = ((Moved (highest_end (warm_rows w).floor (warm_rows w).rows (length (warm_rows w).rows)), warm_rows w), move_pages (warm_rows w) ++ drop (length (move_pages (warm_rows w))) (pages_of fresh files))

    says_none : is_sheet F ≡ false → said ≡ Refused WrongSizes 0
    unfolding moved
    says_none h = ap (λ (b : Bool). (cond {A = Move} b (cond (eqb (lowest_undecided w.fates w.end) 0) (on_rows (warm_rows w) (pages_of fresh files)) (stops UndecidedAction (lowest_undecided w.fates w.end) w)) (stops WrongSizes 0 w)).0.0) (line_1 ∙ h)

    pub move_says : (move_on m fresh).left.answer ≡ (model_move x fresh).0
    move_says = ap (λ (y : MoveLeft). y.left.answer) move_is ∙ go (eqb (length fresh % page_size) 0) refl (is_sheet F) refl
      where
        model_cond : (p q z : Bool)
            → (lines p q z).0.0
            ≡ (cond {A = Reply} p (cond q (cond z (Moved (asked_to x.floor x.object x.files), model_moved x F) (refuses NotBlank 0 x)) (refuses NoRoom 0 x)) (refuses UndecidedAction (lowest_pending x) x)).0
        model_cond true true true = refl
        model_cond true true false = refl
        model_cond true false z = refl
        model_cond false q z = refl

        go : (b : Bool) → eqb (length fresh % page_size) 0 ≡ b → (c : Bool) → is_sheet F ≡ c
            → (cond {A = MoveLeft} b (lower_move m.sheet fresh (moved w (pages_of fresh files))) (record { left = refused WrongSizes 0 m.sheet m.fates m.rows m.state; fresh = fresh })).left.answer
            ≡ (cond {A = Reply} (b && c) (cond (eqb (lowest_pending x) 0)
            (cond (leb (moved_pages x) F) (cond (zeros fresh) (Moved (asked_to x.floor x.object x.files), model_moved x F) (refuses NotBlank 0 x)) (refuses NoRoom 0 x)) (refuses UndecidedAction (lowest_pending x) x)) (refuses WrongSizes 0 x)).0
        go true e true f = ap (λ (y : Move). y.0.0) (lines_are f (eqb-true (length fresh % page_size) 0 e)) ∙ model_cond (eqb (lowest_pending x) 0) (leb (moved_pages x) F) (zeros fresh)
        go true e false f = says_none f
        go false e c f = refl

    -- ---- refused

    abbrev left : Left
    left = (move_on m fresh).left

    abbrev Stood : World → Type 0
    Stood u = Sim u r.log x

    pub refused_at : takes_place m fresh ≡ false → At n files (on left) r.log x
    unfolding warm_run
    refused_at e = record {
      sized = r.at.sized;
      long = ap length sheet_is ∙ r.at.long;
      pages_are = r.at.pages_are;
      files_are = r.at.files_are;
      holds = subst (λ (t : List ℕ). Holds (pages files n t) n r.log) (sym sheet_is) r.at.holds;
      says = r.at.says;
      stands = (subst Stood (sym world_is) (stood (is_early k.0)), rows_are (is_early k.0) rows_is);
    }
      where
        kept : (left.sheet ≡ m.sheet) × (left.fates ≡ m.fates) × (left.state ≡ m.state)
        kept = old_kept m.sheet m.fates m.rows m.state fresh

        sheet_is : left.sheet ≡ m.sheet
        sheet_is = kept.0

        refuses_so : (b : Bool) → not b ≡ false → b ≡ true
        refuses_so true h = refl
        refuses_so false h = absurd (true≢false h)

        k : (k : Refusal) × (p : ℕ) × (left.answer ≡ Refused k p)
        k = is_refusal left.answer (refuses_so (is_refused left.answer) e)

        rows_is : left.rows ≡ cond (is_early k.0) m.rows (flat (warm_rows w).rows)
        rows_is = (fresh_kept m.sheet m.fates m.rows m.state fresh k.0 k.1 k.2).1 ∙ run_is
          where
            run_is : cond (is_early k.0) m.rows (warm_run m.sheet m.fates m.rows m.state) ≡ cond (is_early k.0) m.rows (flat (warm_rows w).rows)
            run_is = ap (λ (t : List ℕ). cond (is_early k.0) m.rows t) (ap (λ (u : World). flat (warm_rows u).rows) lent_is)

        back : (b : Bool) → rows_of (cond b m.rows (flat (warm_rows w).rows)) ≡ (cond b w (warm_rows w)).rows
        back true = refl
        back false = flat_rows (warm_rows w).rows

        world_is : world_in n files left ≡ cond (is_early k.0) w (warm_rows w)
        world_is =
            (λ i. record { sheet = pages files n (sheet_is i); fates = kept.1 i; rows = (ap rows_of rows_is ∙ back (is_early k.0)) i; end = (kept.2 i).end; floor = (kept.2 i).floor; undecided = (kept.2 i).undecided })
            ∙ same (is_early k.0)
          where
            same : (b : Bool) → record { sheet = w.sheet; fates = w.fates; rows = (cond b w (warm_rows w)).rows; end = w.end; floor = w.floor; undecided = w.undecided } ≡ cond b w (warm_rows w)
            same true = refl
            same false = refl

        stood : (b : Bool) → Stood (cond b w (warm_rows w))
        stood true = s
        stood false = sim.sim_warmed w r.log x s

        rows_are : (b : Bool) → left.rows ≡ cond b m.rows (flat (warm_rows w).rows) → length left.rows ≡ row_length * files
        rows_are true q = ap length q ∙ r.at.stands.1
        rows_are false q = ap length q ∙ flat_long (warm_rows w).rows ∙ ap (λ k. row_length * k) (sim.rows_long w r.log x s ∙ r.at.files_are)

    -- ---- moved

    pub floor_of : takes_place m fresh ≡ true → left.answer ≡ Moved (asked_to x.floor x.object x.files)
    floor_of e = move_says ∙ model_moved_lem x fresh (not_so (is_refused (model_move x fresh).0) (ap (λ (a : Answer). not (is_refused a)) (sym move_says) ∙ e))
      where
        not_so : (b : Bool) → not b ≡ true → b ≡ false
        not_so true h = absurd (false≢true h)
        not_so false h = refl

    module _ (e : takes_place m fresh ≡ true) where
      abbrev floor : ℕ
      floor = asked_to x.floor x.object x.files

      a : left.answer ≡ Moved floor
      a = floor_of e

      abbrev W : World
      W = lent m.sheet m.fates m.rows m.state

      abbrev Z : World
      Z = warm_rows w

      abbrev fresh' : List ℕ
      fresh' = (move_on m fresh).fresh

      size : length fresh' ≡ length fresh
      size = bytes.fresh_size m.sheet m.fates m.rows m.state fresh floor a

      even : length fresh ≡ page_size * F
      even = (bytes.ready m.sheet m.fates m.rows m.state fresh floor a).even

      few : (1 ≤ F) × (F ≤ most_places)
      few = bytes.few_pages_lem m.sheet m.fates m.rows m.state fresh floor a

      -- the decoded pages of the fresh sheet
      abbrev new : List Entry
      new = move_pages (warm_rows W) ++ drop (length (move_pages (warm_rows W))) (pages_of fresh (length m.rows / row_length))

      pages_is : pages files F fresh' ≡ new
      pages_is =
          ap (λ (k : ℕ). pages files (k / page_size) fresh') (sym size) ∙ ap (λ (k : ℕ). pages_of fresh' k) (sym files_is)
          ∙ bytes.pages_are m.sheet m.fates m.rows m.state fresh floor a

      went : moved W (pages_of fresh (length m.rows / row_length)) ≡ ((Moved floor, warm_rows W), new)
      went = bytes.moved_is m.sheet m.fates m.rows m.state fresh floor a

      many : length W.rows ≡ files
      many = flatrows.rows_long m.rows ∙ files_is

      abbrev sheet : List Entry
      sheet = pages files F fresh'

      record Fresh (v : World) (k : ℕ) : Type 0 where
        holds_versions : Carries v k
        downs : down sheet (length (move_log v k)) ≡ move_log v k
        clear : (p : ℕ) → length (move_log v k) < p → nth blank sheet p ≡ blank
        room : length (move_log v k) ≤ F

      lent_fresh : Fresh (warm_rows W) (length W.rows)
      lent_fresh =
          let long : length (move_pages (warm_rows W)) ≡ length (move_log (warm_rows W) (length W.rows)) =
          alike.pages_are W (warm_rows W) (pages_of fresh (length m.rows / row_length)) new floor d went ∙ ap suc (sym (log_long (warm_rows W) (length W.rows))) in
          record {
            holds_versions = alike.carries W (warm_rows W) (pages_of fresh (length m.rows / row_length)) new floor d went;
            downs = ap (down sheet) (sym long) ∙ ap (λ (l : List Entry). down l (length (move_pages (warm_rows W)))) pages_is ∙ alike.fresh_down W (warm_rows W) (pages_of fresh (length m.rows / row_length)) new floor d went;
            clear = λ p h. ap (λ (l : List Entry). nth blank l p) pages_is ∙ alike.fresh_above W (warm_rows W) (pages_of fresh (length m.rows / row_length)) new floor d went p (omega (arith, long));
            room = omega (arith, long, (bytes.ready m.sheet m.fates m.rows m.state fresh floor a).room);
          }
        where
          d : Decoded W
          d = decoded_lent m.sheet m.fates m.rows m.state

      f : Fresh Z files
      f = subst (λ (k : ℕ). Fresh Z k) many (subst (λ (u : World). Fresh (warm_rows u) (length W.rows)) lent_is lent_fresh)

      abbrev l : List Entry
      l = move_log Z files

      used_is : moved_pages x ≡ length l
      used_is = omega (arith, log_long Z files, ap (λ k. length (versions_to Z k)) r.at.files_are, sim.count_is w r.log x s x.files (omega arith))

      decided_only : (a : ℕ) → eqb (fate_number (fate_of l a)) 1 ≡ false
      decided_only a = ap (λ (z : Fate). eqb (fate_number z) 1) (move_fate Z files a) ∙ go (eqb a 1)
        where
          go : (b : Bool) → eqb (fate_number (cond b committed unknown)) 1 ≡ false
          go true = refl
          go false = refl

      status_is : (a : ℕ) → (model_moved x F).status a ≡ status_of (fate_of l a) (outcome_of l a)
      status_is a = go (eqb a 1) ∙ sym (λ i. status_of (move_fate Z files a i) (move_outcome Z files a i))
        where
          go : (b : Bool) → cond b (some (model.committed (moved_pages x))) none ≡ status_of (cond b committed unknown) (cond b (length l) 0)
          go true = ap (λ k. some (model.committed k)) used_is
          go false = refl

      history_is : (g : ℕ) → ((model_moved x F).object g).history ≡ history l g
      history_is g = go (is_file x.files g) refl
        where
          one : (p q : ℕ) (z : Option Placed) → p ≡ q → carried_to p (version_in z) ≡ map fromLog.version_of (placed_by q (image_in z))
          one p q none e = refl
          one p q (some y) e = ap (λ k. record { place = k; action = 1; start = y.image.start; value = y.image.value } ∷ []) e

          here : is_file x.files g ≡ is_file files g
          here = ap (λ k. is_file k g) r.at.files_are

          go : (b : Bool) → is_file x.files g ≡ b → cond b (carried_to (suc (model.count_to x.object g)) (newest (x.object g).history)) [] ≡ map fromLog.version_of (versions l g)
          go true i =
              let k = is_file_lem x.files g i in
              ap (carried_to (suc (model.count_to x.object g))) (sim.newest_in w r.log x s g)
              ∙ one (suc (model.count_to x.object g)) (suc (count_to Z g)) (current r.log g) (ap suc (sym (sim.count_is w r.log x s g k.1)))
              ∙ ap (λ (z : Option Image). map fromLog.version_of (placed_by (suc (count_to Z g)) z)) (sym (sim.version_is w r.log x s g i))
              ∙ ap (map fromLog.version_of) (sym (move_versions Z files f.holds_versions g (sym here ∙ i)))
          go false i = ap (map fromLog.version_of) (sym (move_unversioned Z files f.holds_versions g (sym here ∙ i)))

      says_fresh : Says l (model_moved x F)
      says_fresh = record {
        used = used_is;
        undecided = sym (none_undecided (λ a. fate_number (fate_of l a)) 0 F decided_only);
        status = status_is;
        carried = λ a. sym (carried_entry l a ∙ move_carried Z files a);
        history = history_is;
        token = λ g. ap version_in (sym (move_token Z files f.holds_versions g));
      }

      pub moved_at : At F files (off fresh') (move_log Z files) (model_moved x F)
      moved_at =
          let b = bounds n files r.at.sized in
          record {
            sized = rw (le-leb 1 F few.0, le-leb F most_places few.1, eq-eqb F F refl, le-leb 1 files b.some_files, le-leb files most_files b.most_files_lem);
            long = size ∙ even;
            pages_are = refl;
            files_are = r.at.files_are;
            holds = record {
              long = pages_long files F fresh';
              lawful = test_lawful l (move_lawful Z files f.holds_versions);
              room = f.room;
              log = f.downs;
              clean = f.clear;
            };
            says = says_fresh;
            stands = tt;
          }
