-- Every call does what the model does.
use mathlib.Core.Path.{◌≡◌, refl, sym, ap, ◌∙◌, subst}
use mathlib.Core.List.{List}
use mathlib.Core.Bool.{Bool, true, false, ◌&&◌}
use Prim.Native.Nat.{ℕ}
use lib.ListN.{length}
use lib.Dec.{eqb, leb}
use borrow.Author.Tests.{leb-true}
use Rattle.encoding.proofs.Logic.{clash}
use Rattle.page.specs.Layout.{value_size}
use Rattle.recovery.specs.Log.{Entry, Fate, unknown, undecided, committed, aborted, verdict, fate_of, outcome_of, place_of, action_of}
use Rattle.recovery.specs.World.{World, Result, fate_at, outcome_at, fate_number, with_row, is_file, rebuilt}
use Rattle.recovery.specs.declared.Refusal.TheVariants.{NoFile, LongValue, NoAction, AlreadyDecided}
use Rattle.recovery.specs.declared.Answer.TheVariants.{Stored, Rebuilt, Told}
use Rattle.inspection.specs.Lawful.{current, token}
use Rattle.calls.specs.Calls.{Call, begin, write, read, test, decide, rebuild, for_file, for_action, for_undecided, unless_decided, on, call}
use Rattle.promises.specs.Model as model
use Rattle.promises.specs.Model.{Model, Reply, newest, placed, of_file, of_pending, testing, deciding, model_call, current_end, token_end}
use Rattle.promises.specs.FromLog.{status_of}
use Rattle.promises.proofs.logs.Logs.{not_undecided}
use Rattle.promises.proofs.logs.Outcomes.{nowhere}
use Rattle.promises.proofs.worlds.LogSays.{newest_placed, token_placed, token_acted}
use Rattle.promises.proofs.worlds.Sim.{row_for, Sim, stay, Agrees, agrees_cond, answers, refused, fate_eq, lent_right_lem, has_action_lem, warm_eq, row_holds_lem, sim_warm}
use Rattle.promises.proofs.worlds.SimWrites.{sim_begin, sim_write}
use Rattle.promises.proofs.worlds.SimReads.{sim_read}
use Rattle.promises.proofs.worlds.SimDecides.{sim_decide}

module _ (w : World) (l : List Entry) (m : Model) (s : Sim w l m) where
  agrees_file : {k : Call} (f : ℕ) (x : Result) (y : Reply) → (is_file m.files f ≡ true → Agrees m.files k l x y) → Agrees m.files k l (for_file w f x) (of_file m f y)
  agrees_file f x y h = agrees_cond (is_file (length w.rows) f) (leb 1 f && leb f m.files) (rw s.files) h (λ e. refused NoFile 0 0 refl s)

  agrees_pending : {k : Call} (a : ℕ) (x : Result) (y : Reply) → (fate_of l a ≡ undecided → Agrees m.files k l x y) → Agrees m.files k l (for_undecided w a x) (of_pending m (m.status a) y)
  agrees_pending {k} a x y h = subst (λ z. Agrees m.files k l (for_undecided w a x) (of_pending m z y)) (sym (s.says.status a)) (go (fate_of l a) refl)
    where
      go : (q : Fate) → fate_of l a ≡ q → Agrees m.files k l (for_undecided w a x) (of_pending m (status_of q (outcome_of l a)) y)
      go unknown e = rw (has_action_lem w l m s a, e) (refused NoAction 0 0 refl s)
      go undecided e = rw (has_action_lem w l m s a, fate_eq w l m s a, e) (h e)
      go committed e = rw (has_action_lem w l m s a, fate_eq w l m s a, e) (refused AlreadyDecided 0 0 refl s)
      go aborted e = rw (has_action_lem w l m s a, fate_eq w l m s a, e) (refused AlreadyDecided 0 0 refl s)

  -- where the outcome lies
  place_is : (a : ℕ) → outcome_at w a ≡ outcome_of l a
  place_is a = ap (λ x. outcome_of x a) s.log

  tests : (a : ℕ) → Agrees m.files (test a) l (for_action w a (Told (fate_number (fate_at w a)) (outcome_at w a), w)) (testing m (m.status a))
  tests a = subst (λ z. Agrees m.files (test a) l (for_action w a (Told (fate_number (fate_at w a)) (outcome_at w a), w)) (testing m z)) (sym (s.says.status a)) (go (fate_of l a) refl)
    where
      go : (q : Fate) → fate_of l a ≡ q → Agrees m.files (test a) l (for_action w a (Told (fate_number (fate_at w a)) (outcome_at w a), w)) (testing m (status_of q (outcome_of l a)))
      go unknown e = rw (has_action_lem w l m s a, e) (refused NoAction 0 0 refl s)
      go undecided e = rw (has_action_lem w l m s a, fate_eq w l m s a, e) (answers (λ p q. clash cc) (ap (Told 1) (place_is a ∙ nowhere l a s.lawful (λ d. not_undecided (fate_of l a) d e))) s)
      go committed e = rw (has_action_lem w l m s a, fate_eq w l m s a, e) (answers (λ p q. clash cc) (ap (Told 2) (place_is a)) s)
      go aborted e = rw (has_action_lem w l m s a, fate_eq w l m s a, e) (answers (λ p q. clash cc) (ap (Told 3) (place_is a)) s)

  -- a decision asked again
  repeats : (a : ℕ) (c : Bool) → fate_of l a ≡ verdict c → Agrees m.files (decide a c) l (Stored (outcome_at w a), w) (Stored (outcome_of l a), m)
  repeats a c e = record { log = l; step = stay (λ p q. record { fate = e; place = cc }); answer = ap Stored (place_is a); after = s }

  decides : (a : ℕ) (c : Bool) (x : Result) (y : Reply) → (fate_of l a ≡ undecided → Agrees m.files (decide a c) l x y)
      → Agrees m.files (decide a c) l (for_action w a (unless_decided w a c x)) (deciding m c (m.status a) y)
  decides a c x y h =
      subst (λ z. Agrees m.files (decide a c) l (for_action w a (unless_decided w a c x)) (deciding m c z y)) (sym (s.says.status a)) (go c (fate_of l a) refl h)
    where
      go : (c : Bool) (q : Fate) → fate_of l a ≡ q → (fate_of l a ≡ undecided → Agrees m.files (decide a c) l x y)
          → Agrees m.files (decide a c) l (for_action w a (unless_decided w a c x)) (deciding m c (status_of q (outcome_of l a)) y)
      go c unknown e h = rw (has_action_lem w l m s a, fate_eq w l m s a, e) (refused NoAction 0 0 refl s)
      go c undecided e h = rw (has_action_lem w l m s a, fate_eq w l m s a, e) (h e)
      go true committed e h = rw (has_action_lem w l m s a, fate_eq w l m s a, e) (repeats a true e)
      go true aborted e h = rw (has_action_lem w l m s a, fate_eq w l m s a, e) (refused AlreadyDecided 0 0 refl s)
      go false committed e h = rw (has_action_lem w l m s a, fate_eq w l m s a, e) (refused AlreadyDecided 0 0 refl s)
      go false aborted e h = rw (has_action_lem w l m s a, fate_eq w l m s a, e) (repeats a false e)

  warmed : (f : ℕ) → is_file m.files f ≡ true → Sim (with_row w f (row_for l (m.object f) f)) l m
  warmed f h = sim_warm w l m s f h

  rebuilt_is : (f : ℕ) → Rebuilt (place_of (current l f)) (current_end (m.object f)) (place_of (token l f)) (token_end (m.object f)) (action_of (token l f))
      ≡ Rebuilt (placed (newest (m.object f).history)) (current_end (m.object f)) (placed (m.object f).token) (token_end (m.object f)) (model.action_of (m.object f).token)
  rebuilt_is f = λ i. Rebuilt (sym (newest_placed l m s.says f) i) (current_end (m.object f)) (sym (token_placed l m s.says f) i) (token_end (m.object f)) (sym (token_acted l m s.says f) i)

  sim_on : (k : Call) → Agrees m.files k l (on w k) (model_call m k)
  unfolding rebuilt
  sim_on begin = sim_begin w l m s
  sim_on (write f start a v) =
      agrees_file f _ _ (λ h. agrees_cond (leb (length v) value_size) (leb (length v) value_size) refl
      (λ e. agrees_pending a _ _ (λ o. rw (warm_eq w l m s f h) (sim_write (with_row w f (row_for l (m.object f) f)) l m (warmed f h) f start a v h (leb-true (length v) value_size e) o)))
      (λ e. refused LongValue 0 0 refl s))
  sim_on (read f time a) =
      agrees_file f _ _ (λ h. agrees_cond (eqb a 0) (eqb a 0) refl
      (λ e. rw (warm_eq w l m s f h) (sim_read (with_row w f (row_for l (m.object f) f)) l m (warmed f h) f time a h))
      (λ e. agrees_pending a _ _ (λ o. rw (warm_eq w l m s f h) (sim_read (with_row w f (row_for l (m.object f) f)) l m (warmed f h) f time a h))))
  sim_on (test a) = tests a
  sim_on (decide a c) = decides a c _ _ (λ o. sim_decide w l m s a c o)
  sim_on (rebuild f) =
      rw (lent_right_lem w l m s) (agrees_file f _ _ (λ h.
      rw (warm_eq w l m s f h, row_holds_lem (with_row w f (row_for l (m.object f) f)) l m (warmed f h) f) (answers (λ p q. clash cc) (rebuilt_is f) (warmed f h))))

  -- a world that stands for a log and a model answers as the model does, and goes on standing for it
  pub sim_call : (k : Call) → Agrees m.files k l (call w k) (model_call m k)
  unfolding call
  sim_call k = rw (lent_right_lem w l m s) (sim_on k)
