-- An opening is refused by lines 1 and 24 or accepted, and leads from a box that stands for a log and a model to such a box.
use Prim.Native.Nat.{ℕ, ◌*◌, ◌/◌}
use mathlib.Core.Path.{◌≡◌, refl, sym, ap, ◌∙◌, subst}
use mathlib.Core.List.{List}
use mathlib.Core.Bool.{Bool, true, false, cond, not, ◌&&◌}
use native.Mathlib.Omega.{arith}
use lib.ListN.{length}
use lib.Dec.{eqb}
use borrow.Author.Tests.{eqb-true, eq-eqb}
use Rattle.encoding.proofs.Logic.{and_true, by_test, bool_ext}
use Rattle.page.specs.Layout.{page_size}
use Rattle.recovery.specs.Sheet.{pages}
use Rattle.recovery.specs.Numbers.{is_refused}
use Rattle.recovery.specs.World.{Result, sizes, down, end_of, highest_bad, unfinished, opened}
use Rattle.recovery.specs.Lent.{Left, row_length, rows_of, whole, leaves, closed, open_leaves}
use Rattle.recovery.specs.declared.Refusal.TheVariants.{WrongSizes, UnfinishedMove}
use Rattle.recovery.specs.declared.Answer.{Answer}
use Rattle.recovery.specs.declared.Answer.TheVariants.{Refused, Opened}
use Rattle.recovery.proofs.FlatRows.{rows_long, flat_long, flat_rows}
use Rattle.recovery.proofs.Sizes.{Sizes, sizes_right_lem}
use Rattle.recovery.proofs.Refused.{refused_opening_lem}
use Rattle.recovery.proofs.OpeningLaws.{open_refused}
use Rattle.promises.specs.Runs.{Box, on, off, sheet_of, opens, box_of, Allowed}
use Rattle.promises.specs.Model.{Model, model_opened, is_lent, is_unfinished, is_opened}
use Rattle.promises.proofs.worlds.Sim.{Sim}
use Rattle.promises.proofs.worlds.Openings.{Holds, sim_open, not_finished}
use Rattle.promises.proofs.boxes.Boxes.{sizes_are, is_on, is_right, world_in, At, Reached}

module _ (n files : ℕ) where
  -- ---- an opening: refused by line 1, or else accepted

  module _ (b : Box) (r : Reached n files b) (floor : ℕ) (fates rows : List ℕ) (al : Allowed files b (opens floor fates rows)) where
    abbrev s : List ℕ
    s = sheet_of b

    abbrev pub opening : Bool → Model
    opening c = cond c (model_opened r.model floor) r.model

    abbrev pub heard_as : Bool → Bool → Answer
    heard_as c u = cond c (cond u (Refused UnfinishedMove 0) (Opened r.model.used r.model.undecided)) (Refused WrongSizes 0)

    -- lent what line 1 asks for, and unfinished
    pub record Opens (c u : Bool) (x : Left) : Type 0 where
      pub at : At n files (box_of x) r.log (opening (c && not u))
      pub power : is_on (box_of x) ≡ (c && not u)
      pub answer : x.answer ≡ heard_as c u

    still_off : At n files (off s) r.log r.model
    still_off = record { sized = r.at.sized; long = r.at.long; pages_are = r.at.pages_are; files_are = r.at.files_are; holds = r.at.holds; says = r.at.says; stands = tt }

    refuses : (u : Bool) → is_right n fates rows ≡ false → Opens false u (open_leaves s fates rows floor)
    unfolding is_refused
    refuses u e = subst (Opens false u) (open_refused s fates rows floor (rw r.at.long e) (record { answer = Refused WrongSizes 0; state = closed }) refl) (record { at = still_off; power = refl; answer = refl })

    open_sheet : (opened (pages files n s) fates (rows_of rows) floor).1.sheet ≡ pages files n s
    unfolding opened
    open_sheet = by_test (λ (x : Result). x.1.sheet ≡ pages files n s) (sizes (length (pages files n s)) (length fates) (length (rows_of rows)))
        (λ e. by_test (λ (x : Result). x.1.sheet ≡ pages files n s) (eqb (highest_bad (down (pages files n s) (end_of (pages files n s) (length (pages files n s))))) 0)
        (λ e. by_test (λ (x : Result). x.1.sheet ≡ pages files n s) (unfinished (pages files n s) (end_of (pages files n s) (length (pages files n s)))) (λ e. refl) (λ e. refl)) (λ e. refl)) (λ e. refl)

    -- as the premise says it, of the sheet's length
    right_rows : is_right n fates rows ≡ true → length rows ≡ row_length * files
    right_rows e = al (rw r.at.long e)

    abbrev o : Result
    o = opened (pages files n s) fates (rows_of rows) floor

    module _ (e : is_right n fates rows ≡ true) where
      k : Sizes (page_size * n) (length fates) (length rows)
      k = sizes_right_lem (page_size * n) (length fates) (length rows) e

      few : length rows / row_length ≡ files
      few = let z : length rows ≡ row_length * files = right_rows e in omega arith

      left : leaves s o ≡ open_leaves s fates rows floor
      unfolding open_leaves
      left =
          let ns : length s / page_size ≡ n = omega (arith, r.at.long) in
          let w : whole (length s) (length rows) ≡ true = rw r.at.long k.whole_is in
          rw (w, ns, few)

      abbrev sheet_holds : Holds (pages files n s) r.model.pages r.log
      sheet_holds = rw r.at.pages_are r.at.holds

      abbrev fits : sizes r.model.pages r.model.pages r.model.files ≡ true
      fits = rw (r.at.pages_are, r.at.files_are) r.at.sized

      fates_long : length fates ≡ r.model.pages
      fates_long = k.fates_are ∙ (omega (arith, r.at.pages_are))

      rows_many : length (rows_of rows) ≡ r.model.files
      rows_many = rows_long rows ∙ few ∙ sym r.at.files_are

    waits : is_right n fates rows ≡ true → is_unfinished r.model ≡ true → Opens true true (open_leaves s fates rows floor)
    unfolding is_refused
    waits e u =
        let a : (open_leaves s fates rows floor).answer ≡ Refused UnfinishedMove 0 = ap (λ (x : Left). x.answer) (sym (left e)) ∙ not_finished (pages files n s) r.log r.model (sheet_holds e) r.at.says (fits e) floor fates (rows_of rows) (fates_long e) (rows_many e) u in
        subst (Opens true true) (sym (refused_opening_lem s fates rows floor UnfinishedMove 0 a)) (record { at = still_off; power = refl; answer = refl })

    accepts : is_right n fates rows ≡ true → is_unfinished r.model ≡ false → Opens true false (open_leaves s fates rows floor)
    unfolding is_refused
    accepts e u =
        let q = sim_open (pages files n s) r.log r.model (sheet_holds e) r.at.says (fits e) floor fates (rows_of rows) (fates_long e) (rows_many e) u in
        let on-is : box_of (leaves s o) ≡ on (leaves s o) = ap (λ x. cond (is_refused x) (off s) (on (leaves s o))) q.answer in
        let here : world_in n files (leaves s o) ≡ o.1 = λ i. record { sheet = sym open_sheet i; fates = o.1.fates; rows = flat_rows o.1.rows i; end = o.1.end; floor = o.1.floor; undecided = o.1.undecided } in
        subst (Opens true false) (left e) (record {
          at = subst (λ c. At n files c r.log (opening true)) (sym on-is) (record {
            sized = r.at.sized;
            long = r.at.long;
            pages_are = r.at.pages_are;
            files_are = r.at.files_are;
            holds = r.at.holds;
            says = q.after.says;
            stands = (subst (λ u. Sim u r.log (opening true)) (sym here) q.after, flat_long o.1.rows ∙ ap (λ x. row_length * x) (q.after.files ∙ r.at.files_are));
          });
          power = ap is_on on-is;
          answer = q.answer;
        })

    pub was_opened : Opens (is_right n fates rows) (is_unfinished r.model) (open_leaves s fates rows floor)
    was_opened = go (is_right n fates rows) refl (is_unfinished r.model) refl
      where
        go : (c : Bool) → is_right n fates rows ≡ c → (u : Bool) → is_unfinished r.model ≡ u → Opens c u (open_leaves s fates rows floor)
        go true e true f = waits e f
        go true e false f = accepts e f
        go false e u f = refuses u e

    -- line 1 lets an opening pass exactly if it is lent what the model asks for
    right_is : is_lent r.model fates rows ≡ is_right n fates rows
    right_is = rw (r.at.pages_are, r.at.files_are) (bool_ext (eqb (length fates) n && eqb (length rows) (row_length * files)) (is_right n fates rows)
        (λ q. let p = and_true (eqb (length fates) n) (eqb (length rows) (row_length * files)) q in sizes_are n files fates rows r.at.sized (eqb-true (length fates) n p.0) (eqb-true (length rows) (row_length * files) p.1))
        (λ q. rw (eq-eqb (length fates) n ((sizes_right_lem (page_size * n) (length fates) (length rows) q).fates_are ∙ (omega arith)), eq-eqb (length rows) (row_length * files) (right_rows q))))

    pub opened_at_lem : At n files (box_of (open_leaves s fates rows floor)) r.log (opening (is_opened r.model fates rows))
    opened_at_lem = subst (λ c. At n files (box_of (open_leaves s fates rows floor)) r.log (opening (c && not (is_unfinished r.model)))) (sym right_is) was_opened.at

    pub opened_answer_lem : (open_leaves s fates rows floor).answer ≡ heard_as (is_lent r.model fates rows) (is_unfinished r.model)
    opened_answer_lem = was_opened.answer ∙ ap (λ c. heard_as c (is_unfinished r.model)) (sym right_is)

    pub opened_power : is_on (box_of (open_leaves s fates rows floor)) ≡ is_opened r.model fates rows
    opened_power = was_opened.power ∙ ap (λ c. c && not (is_unfinished r.model)) (sym right_is)
