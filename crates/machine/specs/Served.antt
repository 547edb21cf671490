-- What the code does with a request on good images is the theory's outcome, for each code.
--
-- In order: a call by its answer (`by_answer`); forward and backward steps, rollback and roll (`forward_served`, `backward_served`, `rollback_served`, `roll_served`).
-- Assumes nothing.
use Rattle.std.specs.Prelude.{ℕ, ◌≡◌, false, eqb, leb}
use Rattle.std.proofs.Math.Path.{refl, sym, ap}
use Rattle.std.proofs.Common.{◌∙◌, pow_pos}
use Rattle.std.proofs.Math.Bool.{true}
use native.Mathlib.Omega.{arith}
use borrow.Author.Tests.{eqb-true, eqb-false, eq-eqb, ne_eqb, leb-true}
use Rattle.laws.specs.Choice.{cases, and_left}
use Rattle.laws.specs.Sets.{member_empty}
use Rattle.order.specs.KeySets.{empty}
use Rattle.order.specs.Words.{word_of, word_of_is}
use Rattle.names.specs.Names.{locality_count}
use Rattle.names.specs.Localities.{localities}
use Rattle.images.specs.Shape.{ShapedScript, ShapedNet}
use Rattle.images.specs.declared.Script.{Script}
use Rattle.images.specs.declared.Net as Images
use Rattle.nets.specs.Net.{Net}
use Rattle.nets.specs.Forward.{Can}
use Rattle.nets.specs.Undo.{undo, touched}
use Rattle.rules.specs.Instance.{rules_of}
use Rattle.rules.specs.Roots.{rolled_by}
use Rattle.rules.specs.View.{view}
use Rattle.rules.specs.Image.{image_of, image_view}
use Rattle.rules.specs.Theorems.{forward_touches}
use Rattle.requests.specs.Checks.{refusal}
use Rattle.requests.specs.Answers as Theory
use Rattle.requests.specs.Answers.{in_range, places, forward_checks, backward_checks, rollback_checks, roll_checks}
use Rattle.requests.specs.Requests.{asked, is_done, answer_of, done_number, done_zero}
use Rattle.requests.specs.declared.Request.{Request}
use Rattle.requests.specs.declared.Answer.{Answer}
use Rattle.step.specs.Lent.{Good, Outcome, outcome_by}
use Rattle.step.specs.Lent as Lent
use Rattle.step.specs.Change.{refused, stepped, applied, stepped_to}
use Rattle.step.specs.Forward.{forward_answer, forward_done, forward_change, forward_outcome}
use Rattle.step.specs.Backward.{backward_answer, backward_done, undone_at, backward_change, backward_outcome}
use Rattle.step.specs.Laws.{refused_stays, forward_done_lem}
use Rattle.step.proofs.Laws.{forward_gives}
use Rattle.step.proofs.Undone.{undo_is, undo_touched}
use Rattle.ranges.specs.Forward.{forward_in_range, forward_shaped}
use Rattle.ranges.specs.Backward.{accepted_taken, undone_in_range, undone_shaped}
use Rattle.rollback.specs.Rollback.{undone_all, rollback_answer, rollback_outcome, roll_answer, roll_outcome}
use Rattle.machine.specs.Calls.{served}
use Rattle.machine.specs.Bytes.{answer_forward, answer_backward, answer_rollback, answer_roll, done_outcome, served_refused, served_done, backward_allowed}

module _ (s : Script) (w : ShapedScript s) (n : Images.Net) (v : ShapedNet n) (good : Good s n) (r : Request) (range : in_range (asked r) ≡ true) where
  abbrev W : Net (rules_of s)
  W = view s n

  same : image_of s W ≡ n
  same = image_view s n v good.net

  -- a call by its answer: the refusal, or what is done
  by_answer : (k : ℕ) → Theory.answer (rolled_by s) W (asked r) ≡ k → (o : Outcome) → (k ≡ 0 → o ≡ done_outcome s n r)
      → (is_done (answer_of k) ≡ false → o ≡ Lent.refused n (answer_of k)) → o ≡ served s n r
  by_answer k e o done-there refused-there =
      cases (is_done (answer_of k))
      (λ h. let z = done_zero k h in done-there z ∙ sym (served_done s n r (ap (λ (j : ℕ). eqb j 0) (e ∙ z))))
      (λ h.
      refused-there h ∙
      sym (served_refused s n r (ap (λ (j : ℕ). eqb j 0) e ∙ sym (done_number k) ∙ h) ∙ (λ i. Lent.refused (same i) (answer_of (e i)))))

  -- ---- forward

  module _ (code : eqb r.code 0 ≡ true) where
    forward_net : is_done (forward_answer s n r) ≡ true → applied n (forward_change s n r) ≡ image_of s (Theory.net_after (rolled_by s) W (asked r))
    unfolding Theory.net_after
    forward_net h =
        sym
        (image_view s (applied n (forward_change s n r)) (forward_shaped s w n v r range)
        (forward_in_range s w good.script n v good.net r range)) ∙
        ap (image_of s) (forward_gives s w n v.slots r range h) ∙ rw code refl

    forward_touched : is_done (forward_answer s n r) ≡ true → 0 ≡ Theory.touched_word (rolled_by s) W (asked r)
    unfolding Theory.touched_word Theory.net_after
    forward_touched h =
        let can : Can W (places (rolled_by s) W (asked r)) = (forward_done_lem s w n v.slots r range).0 h in
        rw code
        (word_of_is locality_count empty 0 (pow_pos locality_count) (λ x l. member_empty x) ∙
        ap (word_of locality_count) (sym (forward_touches s w good.script W good.accepted (places (rolled_by s) W (asked r)) can)))

    pub forward_served : forward_outcome s n r ≡ served s n r
    unfolding forward_outcome forward_change stepped forward_done refused forward_answer Theory.undone
    forward_served =
        by_answer (refusal (forward_checks (rolled_by s) W (asked r))) (answer_forward s n (asked r) range code) (stepped_to n (forward_change s n r)) yes no_step
      where
        yes : refusal (forward_checks (rolled_by s) W (asked r)) ≡ 0 → stepped_to n (forward_change s n r) ≡ done_outcome s n r
        yes z =
            let h : is_done (forward_answer s n r) ≡ true = ap (λ (j : ℕ). is_done (answer_of j)) z in
            let answers : (forward_change s n r).answer ≡ Answer.Done = rw h refl in
            let undoes : (forward_change s n r).undone ≡ Theory.undone (rolled_by s) W (asked r) = rw (h, code) refl in
            let touches : (forward_change s n r).touched.0 ≡ Theory.touched_word (rolled_by s) W (asked r) = rw h (forward_touched h) in
            λ i. record { answer = answers i; undone = undoes i; touched = localities (touches i); net = forward_net h i }

        no_step : is_done (forward_answer s n r) ≡ false → stepped_to n (forward_change s n r) ≡ Lent.refused n (forward_answer s n r)
        no_step h =
            let c : forward_change s n r ≡ refused n.present (forward_answer s n r) = rw h refl in
            ap (stepped_to n) c ∙
            (λ i. record { answer = forward_answer s n r; undone = 0; touched = localities 0; net = refused_stays n (forward_answer s n r) i })

  -- ---- backward

  module _ (code : eqb r.code 1 ≡ true) where
    not_0 : eqb r.code 0 ≡ false
    not_0 = ne_eqb r.code 0 (λ e. omega (arith, e, eqb-true r.code 1 code))

    answer_there_lem : Theory.answer (rolled_by s) W (asked r) ≡ refusal (backward_checks (rolled_by s) W (asked r))
    answer_there_lem = answer_backward s n (asked r) range not_0 code

    pub backward_served : backward_outcome s n r ≡ served s n r
    unfolding backward_outcome backward_change stepped backward_done refused backward_answer Theory.undone Theory.touched_word Theory.net_after
    backward_served =
        by_answer (refusal (backward_checks (rolled_by s) W (asked r))) answer_there_lem (stepped_to n (backward_change s n r)) yes no_step
      where
        yes : refusal (backward_checks (rolled_by s) W (asked r)) ≡ 0 → stepped_to n (backward_change s n r) ≡ done_outcome s n r
        yes z =
            let h : is_done (backward_answer s n r) ≡ true = ap (λ (j : ℕ). is_done (answer_of j)) z in
            let u = backward_allowed s w n v good r range not_0 code (answer_there_lem ∙ z) in
            let k = r.key in
            let c : backward_change s n r ≡ undone_at s n k = rw h refl in
            let ends : view s (applied n (undone_at s n k)) ≡ undo W k.0 = undo_is s w good.script n v.slots good.accepted k u in
            let image : applied n (undone_at s n k) ≡ image_of s (undo W k.0) =
            sym
            (image_view s (applied n (undone_at s n k)) (undone_shaped s n v k)
            (undone_in_range s n good.net (accepted_taken s W good.accepted) k u.is_past_lem)) ∙
            ap (image_of s) ends in
            let word : (undone_at s n k).touched.0 ≡ word_of locality_count (touched W (undo W k.0)) = undo_touched s w good.script n v.slots good.accepted k u in
            ap (stepped_to n) c ∙
            rw (not_0, code) (λ i. record { answer = Answer.Done; undone = 1; touched = localities (word i); net = image i })

        no_step : is_done (backward_answer s n r) ≡ false → stepped_to n (backward_change s n r) ≡ Lent.refused n (backward_answer s n r)
        no_step h =
            let c : backward_change s n r ≡ refused n.present (backward_answer s n r) = rw h refl in
            ap (stepped_to n) c ∙
            (λ i. record { answer = backward_answer s n r; undone = 0; touched = localities 0; net = refused_stays n (backward_answer s n r) i })

  -- ---- rollback

  module _ (code : eqb r.code 2 ≡ true) where
    differs : (k : ℕ) → eqb k 2 ≡ false → eqb r.code k ≡ false
    differs k h = ne_eqb r.code k (λ e. eqb-false k 2 h (sym e ∙ eqb-true r.code 2 code))

    pub rollback_served : rollback_outcome s n r ≡ served s n r
    unfolding rollback_outcome outcome_by rollback_answer undone_all Theory.undone Theory.touched_word Theory.net_after Theory.event
    rollback_served =
        by_answer (refusal (rollback_checks (rolled_by s) W (asked r))) (answer_rollback s n (asked r) range (differs 0 refl) (differs 1 refl) code)
        (rollback_outcome s n r)
        (λ z.
        let h : is_done (rollback_answer s n r) ≡ true = ap (λ (j : ℕ). is_done (answer_of j)) z in
        rw (h, differs 0 refl, differs 1 refl, differs 3 refl) refl)
        (λ h. rw h refl)

  -- ---- roll

  module _ (one : eqb r.code 0 ≡ false) (two : eqb r.code 1 ≡ false) (three : eqb r.code 2 ≡ false) where
    -- no other code is left
    code_3 : eqb r.code 3 ≡ true
    unfolding in_range
    code_3 =
        eq-eqb r.code 3
        (omega (
          arith,
          leb-true r.code 3 (and_left (leb r.code 3) _ range),
          eqb-false r.code 0 one,
          eqb-false r.code 1 two,
          eqb-false r.code 2 three,
        ))

    pub roll_served : roll_outcome s n r ≡ served s n r
    unfolding roll_outcome outcome_by roll_answer undone_all Theory.undone Theory.touched_word Theory.net_after Theory.event
    roll_served =
        by_answer (refusal (roll_checks (rolled_by s) W (asked r))) (answer_roll s n (asked r) range one two three) (roll_outcome s n r)
        (λ z.
        let h : is_done (roll_answer s n r) ≡ true = ap (λ (j : ℕ). is_done (answer_of j)) z in
        rw (h, one, two, code_3) refl)
        (λ h. rw h refl)
