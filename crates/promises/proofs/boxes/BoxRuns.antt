-- Each event, of a call, an opening or a cut, is answered as the model answers it, and leads from a box that stands for a log and a
-- model to such a box; so a run of a sheet that began blank does.
use Prim.Native.Nat.{ℕ, ◌*◌, ◌/◌, ◌%◌}
use mathlib.Core.Path.{◌≡◌, refl, sym, ap, subst, ◌∙◌}
use mathlib.Core.List.{List, [], ◌∷◌, ◌++◌}
use mathlib.Core.Bool.{Bool, true, false, cond, not, ◌&&◌, false≢true, true≢false}
use mathlib.Core.Option.{some}
use native.Mathlib.Omega.{arith}
use lib.ListN.{length, replicate, length-replicate}
use lib.Dec.{eqb, leb}
use Rattle.page.specs.Layout.{page_size}
use Rattle.recovery.specs.Log.{Entry, fate_of, images_of, effective, versions_of, token_of}
use Rattle.recovery.specs.World.{sizes, down}
use Rattle.recovery.proofs.Pages.{pages_long}
use Rattle.recovery.specs.Lent.{Left}
use Rattle.recovery.specs.Numbers.{is_refused}
use Rattle.recovery.specs.declared.Refusal.TheVariants.{WrongSizes, NoRoom, NotBlank, UndecidedAction}
use Rattle.recovery.specs.declared.Answer.{Answer}
use Rattle.recovery.specs.declared.Answer.TheVariants.{Moved}
use Rattle.encoding.specs.Bytes.{zeros}
use Rattle.encoding.proofs.Logic.{by_test}
use Rattle.promises.specs.Runs.{Box, on, off, Event, calls, opens, cuts, moves, cuts_move, move_on, takes_place, bytes_of_move, is_moved, answer_to, after, runs, Allowed, AllAllowed, blank_box, Run}
use Rattle.promises.specs.FromLog.{carried_of}
use Rattle.promises.specs.Model.{Model, Reply, refuses, asked_to, moved_pages, lowest_pending, model_moved, model_move, model_cut_move, blank_model, model_answer, model_after, model_on, is_size}
use Rattle.promises.proofs.logs.Fates.{undecided_low}
use Rattle.promises.proofs.bytes.Stored.{bytes_of}
use Rattle.promises.proofs.bytes.Cuts.{cut_log}
use Rattle.promises.proofs.boxes.Boxes.{bounds, is_on, At, Reached, agrees, model_says}
use Rattle.promises.proofs.boxes.BoxCalls.{called, was_cut}
use Rattle.promises.proofs.boxes.Blanks.{zero_clean}
use Rattle.promises.proofs.boxes.BoxMoves.{fresh_log, move_says, moved_at, refused_at, bytes_are}
use Rattle.promises.proofs.boxes.BoxOpens.{opened_at_lem, opened_answer_lem, opened_power}

-- ---- events

-- how many pages the sheet in use has after an event, and after a run
abbrev pub pages_after : ℕ → Box → Event → ℕ
pages_after n b (calls k) = n
pages_after n b (opens floor fates rows) = n
pages_after n b (cuts k kept) = n
pages_after n b (moves fresh) = cond (is_moved b (moves fresh)) (length fresh / page_size) n
pages_after n b (cuts_move fresh k) = cond (is_moved b (cuts_move fresh k)) (length fresh / page_size) n

abbrev pub pages_on : ℕ → Box → List Event → ℕ
pages_on n b [] = n
pages_on n b (e ∷ es) = pages_on (pages_after n b e) (after b e) es

-- the model moves exactly if its answer is not a refusal
abbrev Follows : Model → List ℕ → Reply → Type 0
Follows m fresh x = x.1 ≡ cond (is_refused x.0) m (model_moved m (length fresh / page_size))

pub move_model : (m : Model) (fresh : List ℕ) → (model_move m fresh).1 ≡ cond (is_refused (model_move m fresh).0) m (model_moved m (length fresh / page_size))
unfolding is_refused
move_model m fresh =
    by_test (Follows m fresh) (eqb (length fresh % page_size) 0 && is_size (length fresh / page_size)) {y = refuses WrongSizes 0 m}
    (λ a. by_test (Follows m fresh) (eqb (lowest_pending m) 0) {y = refuses UndecidedAction (lowest_pending m) m}
    (λ b. by_test (Follows m fresh) (leb (moved_pages m) (length fresh / page_size)) {y = refuses NoRoom 0 m}
    (λ c. by_test (Follows m fresh) (zeros fresh) {x = (Moved (asked_to m.floor m.object m.files), model_moved m (length fresh / page_size))} {y = refuses NotBlank 0 m} (λ d. refl) (λ d. refl))
    (λ c. refl)) (λ b. refl)) (λ a. refl)

module _ (n files : ℕ) where
  abbrev pub log_after : (b : Box) → Reached n files b → Event → List Entry
  log_after (on m) r (calls k) = (agrees n files m r k).log
  log_after (off s) r (calls k) = r.log
  log_after (on m) r (opens floor fates rows) = r.log
  log_after (off s) r (opens floor fates rows) = r.log
  log_after (on m) r (cuts k kept) = cut_log r.log (agrees n files m r k).log (bytes_of kept)
  log_after (off s) r (cuts k kept) = r.log
  log_after (on m) r (moves fresh) = cond (takes_place m fresh) (fresh_log n files m r fresh) r.log
  log_after (off s) r (moves fresh) = r.log
  log_after (on m) r (cuts_move fresh k) = cond (takes_place m fresh && leb (bytes_of_move m) k) (fresh_log n files m r fresh) r.log
  log_after (off s) r (cuts_move fresh k) = r.log

  module _ (m : Left) (r : Reached n files (on m)) (fresh : List ℕ) where
    abbrev moved : Model
    moved = model_moved r.model (length fresh / page_size)

    -- taking place, by the model's answer
    takes_is : takes_place m fresh ≡ not (is_refused (model_move r.model fresh).0)
    takes_is = ap (λ (x : Answer). not (is_refused x)) (move_says n files m r fresh)

    pub model_is : (model_move r.model fresh).1 ≡ cond (takes_place m fresh) moved r.model
    model_is = move_model r.model fresh ∙ go (is_refused (model_move r.model fresh).0) ∙ ap (λ c. cond c moved r.model) (sym takes_is)
      where
        go : (c : Bool) → cond c r.model moved ≡ cond (not c) moved r.model
        go true = refl
        go false = refl

    still_off : At n files (off m.sheet) r.log r.model
    still_off = record { sized = r.at.sized; long = r.at.long; pages_are = r.at.pages_are; files_are = r.at.files_are; holds = r.at.holds; says = r.at.says; stands = tt }

    move_at : At (pages_after n (on m) (moves fresh)) files (after (on m) (moves fresh)) (log_after (on m) r (moves fresh)) (model_move r.model fresh).1
    move_at = subst (At (pages_after n (on m) (moves fresh)) files (after (on m) (moves fresh)) (log_after (on m) r (moves fresh))) (sym model_is) (go (takes_place m fresh) refl)
      where
        go : (c : Bool) → takes_place m fresh ≡ c
            → At (cond c (length fresh / page_size) n) files (cond c (off (move_on m fresh).fresh) (on (move_on m fresh).left)) (cond c (fresh_log n files m r fresh) r.log) (cond c moved r.model)
        go true e = moved_at n files m r fresh e
        go false e = refused_at n files m r fresh e

    module _ (k : ℕ) where
      abbrev stored : Bool
      stored = leb (bytes_of_move m) k

      pub cut_model : model_cut_move r.model fresh k ≡ cond (takes_place m fresh && stored) moved r.model
      cut_model = rw (← bytes_are n files m r fresh) (ap (λ x. cond stored x r.model) model_is ∙ go (takes_place m fresh) stored)
        where
          go : (c d : Bool) → cond d (cond c moved r.model) r.model ≡ cond (c && d) moved r.model
          go true true = refl
          go true false = refl
          go false true = refl
          go false false = refl

      cut_move_at : At (pages_after n (on m) (cuts_move fresh k)) files (after (on m) (cuts_move fresh k)) (log_after (on m) r (cuts_move fresh k)) (model_cut_move r.model fresh k)
      cut_move_at =
          subst (At (pages_after n (on m) (cuts_move fresh k)) files (after (on m) (cuts_move fresh k)) (log_after (on m) r (cuts_move fresh k))) (sym cut_model) (go (takes_place m fresh) refl stored)
        where
          go : (c : Bool) → takes_place m fresh ≡ c → (d : Bool)
              → At (cond (c && d) (length fresh / page_size) n) files (off (cond (c && d) (move_on m fresh).fresh m.sheet)) (cond (c && d) (fresh_log n files m r fresh) r.log) (cond (c && d) moved r.model)
          go true e true = moved_at n files m r fresh e
          go true e false = still_off
          go false e d = still_off

    move_power : is_on (after (on m) (moves fresh)) ≡ is_refused (model_move r.model fresh).0
    move_power = go (takes_place m fresh) (is_refused (model_move r.model fresh).0) takes_is
      where
        go : (c d : Bool) → c ≡ not d → is_on (cond c (off (move_on m fresh).fresh) (on (move_on m fresh).left)) ≡ d
        go true true e = absurd (true≢false e)
        go true false e = refl
        go false true e = refl
        go false false e = absurd (false≢true e)

  pub at_next : (b : Box) (r : Reached n files b) (e : Event) → Allowed files b e → At (pages_after n b e) files (after b e) (log_after b r e) (model_after (is_on b) r.model e)
  at_next (on m) r (calls k) t = called n files m r k t
  at_next (off s) r (calls k) t = r.at
  at_next (on m) r (opens floor fates rows) t = opened_at_lem n files (on m) r floor fates rows t
  at_next (off s) r (opens floor fates rows) t = opened_at_lem n files (off s) r floor fates rows t
  at_next (on m) r (cuts k kept) t = was_cut n files m r k t.0 kept t.1
  at_next (off s) r (cuts k kept) t = r.at
  at_next (on m) r (moves fresh) t = move_at m r fresh
  at_next (off s) r (moves fresh) t = r.at
  at_next (on m) r (cuts_move fresh k) t = cut_move_at m r fresh k
  at_next (off s) r (cuts_move fresh k) t = r.at

  abbrev pub reached_next : (b : Box) (r : Reached n files b) (e : Event) → Allowed files b e → Reached (pages_after n b e) files (after b e)
  reached_next b r e t = record { log = log_after b r e; model = model_after (is_on b) r.model e; at = at_next b r e t }

  -- each event is answered as the model answers it, and turns the box on or off as the model
  pub answer_is : (b : Box) (r : Reached n files b) (e : Event) → Allowed files b e → answer_to b e ≡ model_answer (is_on b) r.model e
  answer_is (on m) r (calls k) t = ap some (model_says n files m r k)
  answer_is (off s) r (calls k) t = refl
  answer_is (on m) r (opens floor fates rows) t = ap some (opened_answer_lem n files (on m) r floor fates rows t)
  answer_is (off s) r (opens floor fates rows) t = ap some (opened_answer_lem n files (off s) r floor fates rows t)
  answer_is (on m) r (cuts k kept) t = refl
  answer_is (off s) r (cuts k kept) t = refl
  answer_is (on m) r (moves fresh) t = ap some (move_says n files m r fresh)
  answer_is (off s) r (moves fresh) t = refl
  answer_is (on m) r (cuts_move fresh k) t = refl
  answer_is (off s) r (cuts_move fresh k) t = refl

  pub power_is : (b : Box) (r : Reached n files b) (e : Event) → Allowed files b e → is_on (after b e) ≡ model_on (is_on b) r.model e
  power_is (on m) r (calls k) t = refl
  power_is (off s) r (calls k) t = refl
  power_is (on m) r (opens floor fates rows) t = opened_power n files (on m) r floor fates rows t
  power_is (off s) r (opens floor fates rows) t = opened_power n files (off s) r floor fates rows t
  power_is (on m) r (cuts k kept) t = refl
  power_is (off s) r (cuts k kept) t = refl
  power_is (on m) r (moves fresh) t = move_power m r fresh
  power_is (off s) r (moves fresh) t = refl
  power_is (on m) r (cuts_move fresh k) t = refl
  power_is (off s) r (cuts_move fresh k) t = refl

-- ---- runs

abbrev pub reached_on : (n files : ℕ) (b : Box) → Reached n files b → (es : List Event) → AllAllowed files b es → Reached (pages_on n b es) files (runs b es)
reached_on n files b r [] t = r
reached_on n files b r (e ∷ es) t = reached_on (pages_after n b e) files (after b e) (reached_next n files b r e t.0) es t.1

pub runs_join : (b : Box) (es es' : List Event) → runs b (es ++ es') ≡ runs (runs b es) es'
runs_join b [] es' = refl
runs_join b (e ∷ es) es' = runs_join (after b e) es es'

pub allowed_split : (files : ℕ) (b : Box) (es es' : List Event) → AllAllowed files b (es ++ es') → AllAllowed files b es × AllAllowed files (runs b es) es'
allowed_split files b [] es' h = (tt, h)
allowed_split files b (e ∷ es) es' h = let r = allowed_split files (after b e) es es' h.1 in ((h.0, r.0), r.1)

-- ---- a blank sheet

module _ (n files : ℕ) where
  module _ (sz : sizes n n files ≡ true) where
    pub blank_at : At n files (blank_box n) [] (blank_model n files)
    unfolding down fate_of images_of effective versions_of token_of carried_of
    blank_at = record {
      sized = sz;
      long = length-replicate (page_size * n) 0;
      pages_are = refl;
      files_are = refl;
      holds = record { long = pages_long files n (replicate (page_size * n) 0); lawful = tt; room = omega arith; log = refl; clean = λ p h. zero_clean n files (bounds n files sz) p h };
      says = record { used = refl; undecided = omega (arith, undecided_low n [] tt (omega arith)); status = λ a. refl; carried = λ a. refl; history = λ f. refl; token = λ f. refl };
      stands = tt;
    }

    abbrev pub reached_blank : Reached n files (blank_box n)
    reached_blank = record { log = []; model = blank_model n files; at = blank_at }

  abbrev pub reached : (es : List Event) → Run n files es → Reached (pages_on n (blank_box n) es) files (runs (blank_box n) es)
  reached es r = reached_on n files (blank_box n) (reached_blank r.sized) es r.allowed
