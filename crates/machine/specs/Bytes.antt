-- Why the demands hold of byte strings: lemmas on one call, for `Demands`. Nothing here must be believed.
--
-- In order: the checks of each code (`forward_numbered` and its kin), and the theory's answer, by the code of the request (`answer_forward` and its kin); its
-- outcome, refused or done (`served_number`, `served_refused`, `served_done`); a call by its first three checks (`Call`, `call`); what a refusal leaves
-- (`left`); images that were read (`Held`, `held_images`, `good_held`, `held_good`), and their bytes again (`net_again`); a call that is done (`Doing`,
-- `doing`, `done_when`); what the checks of each code allow, the net after it (`after_kept`) and how many it undoes (`undone_few`); the bytes that a
-- call leaves (`next_held`, `next_view`, `next_undone`); touched words as sets (`word_union`).
-- Assumes nothing.
use Rattle.std.specs.Prelude.{ℕ, ◌≤◌, ◌≡◌, Bool, ◌&&◌, ◌||◌, List, ltb, leb, length, Option, Some, None, is_some, unwrap_or}
use Rattle.std.proofs.Math.Path.{refl, ap, subst, fun_ext}
use Rattle.std.proofs.Common.{sym, ap₂, ◌∙◌}
use Rattle.std.proofs.Math.Bool.{true, false}
use native.Mathlib.Omega.{arith}
use Rattle.std.proofs.Math.Dec.{eqb}
use borrow.Author.Tests.{eqb-true, eqb-false, eq-eqb, ne_eqb, ltb-true, ltb-false, leb-true}
use Rattle.laws.specs.Choice.{pick, cases, clash, and_left, and_right, and_both}
use Rattle.laws.specs.Sets.{member}
use Rattle.laws.specs.Words.{Bytes}
use Rattle.order.specs.KeySets.{Set, ◌∈◌, ◌∪◌, empty}
use Rattle.order.specs.Words.{word_of, word_of_in, word_of_above}
use Rattle.names.specs.Localities.{localities}
use Rattle.images.specs.Net.{net_bytes, empty_net}
use Rattle.images.specs.Read.{net_formed, read_net}
use Rattle.images.specs.Reading.{net_read}
use Rattle.images.specs.Round.{net_back, shaped_script, shaped_net}
use Rattle.images.specs.Shape.{ShapedScript, ShapedNet}
use Rattle.images.specs.declared.Script.{Script}
use Rattle.images.specs.declared.Net as Images
use Rattle.nets.specs.Net.{Net, events}
use Rattle.nets.specs.Forward.{Can}
use Rattle.nets.specs.Undo.{Undoable}
use Rattle.nets.specs.Accepted.{Accepted}
use Rattle.rules.specs.Instance.{rules_of}
use Rattle.rules.specs.Roots.{rolled_by}
use Rattle.rules.specs.Same.{accepted_is_tested}
use Rattle.rules.specs.View.{view, beyond}
use Rattle.rules.specs.Image.{image_of, image_view}
use Rattle.rules.specs.Theorems.{undone_below}
use Rattle.requests.specs.Checks.{refusal, Numbered, all_hold}
use Rattle.requests.specs.Answers as Theory
use Rattle.requests.specs.Answers.{in_range, forward_checks, backward_checks, rollback_checks, roll_checks}
use Rattle.requests.specs.Laws.{forward_can, undo_can}
use Rattle.requests.specs.Requests.{asked, asked_by, asked_back, number, is_done, answers, answer_of, is_number, number_of, Known, refusal_known, done_number, request_of, read_request}
use Rattle.requests.specs.declared.Request.{Request}
use Rattle.requests.specs.declared.Answer.{Answer}
use Rattle.step.specs.Lent.{Good, Outcome, told, lent_after}
use Rattle.step.specs.Lent as Lent
use Rattle.rollback.specs.Rollback.{roll_answer}
use Rattle.rollback.specs.Checked.{roll_event, roll_held}
use Rattle.machine.specs.Written.{bytes_net}
use Rattle.machine.specs.After.{Kept, kept_of, forward_kept, undo_kept, rollback_kept}
use Rattle.machine.specs.Calls.{script_in, net_in, good_script, good_net, image_answer, GoodImages, told_by, served, Reply, refused_with, reply_to, reply}
use Rattle.machine.specs.Called.{script_formed_lem, net_formed_lem, script_in_lem, net_in_lem, net_range, images_good, good_images}

-- ---- the theory's answer to a request, by its code

module _ (s : Script) (n : Images.Net) (r : Theory.Request) where
  -- no check has the number 0
  pub forward_numbered : Numbered (forward_checks (rolled_by s) (view s n) r)
  unfolding forward_checks
  forward_numbered =
      (λ e. omega arith, (λ e. omega arith, (λ e. omega arith, (λ e. omega arith, (λ e. omega arith, (λ e. omega arith, (λ e. omega arith, (λ e. omega arith, tt))))))))

  pub backward_numbered : Numbered (backward_checks (rolled_by s) (view s n) r)
  unfolding backward_checks
  backward_numbered = (λ e. omega arith, (λ e. omega arith, (λ e. omega arith, tt)))

  pub rollback_numbered : Numbered (rollback_checks (rolled_by s) (view s n) r)
  unfolding rollback_checks
  rollback_numbered = (λ e. omega arith, (λ e. omega arith, (λ e. omega arith, tt)))

  pub roll_numbered : Numbered (roll_checks (rolled_by s) (view s n) r)
  unfolding roll_checks
  roll_numbered = (λ e. omega arith, (λ e. omega arith, (λ e. omega arith, (λ e. omega arith, tt))))

  -- in range check 3 holds, so the answer is the code's
  module _ (range : in_range r ≡ true) where
    abbrev answer : ℕ
    answer = Theory.answer (rolled_by s) (view s n) r

    pub answer_forward : eqb r.code 0 ≡ true → answer ≡ refusal (forward_checks (rolled_by s) (view s n) r)
    unfolding Theory.answer Theory.checks_of refusal
    answer_forward a = rw (range, a) refl

    module _ (a : eqb r.code 0 ≡ false) where
      pub answer_backward : eqb r.code 1 ≡ true → answer ≡ refusal (backward_checks (rolled_by s) (view s n) r)
      unfolding Theory.answer Theory.checks_of refusal
      answer_backward b = rw (range, a, b) refl

      module _ (b : eqb r.code 1 ≡ false) where
        pub answer_rollback : eqb r.code 2 ≡ true → answer ≡ refusal (rollback_checks (rolled_by s) (view s n) r)
        unfolding Theory.answer Theory.checks_of refusal
        answer_rollback c = rw (range, a, b, c) refl

        pub answer_roll : eqb r.code 2 ≡ false → answer ≡ refusal (roll_checks (rolled_by s) (view s n) r)
        unfolding Theory.answer Theory.checks_of refusal
        answer_roll c = rw (range, a, b, c) refl

  -- every check has the number of an answer, and so has the first that fails
  code_known : Known
      (pick (eqb r.code 0) (forward_checks (rolled_by s) (view s n) r)
      (pick (eqb r.code 1) (backward_checks (rolled_by s) (view s n) r)
      (pick (eqb r.code 2) (rollback_checks (rolled_by s) (view s n) r) (roll_checks (rolled_by s) (view s n) r))))
  unfolding forward_checks backward_checks rollback_checks roll_checks
  code_known =
      cases (eqb r.code 0) (λ a. rw a (refl, (refl, (refl, (refl, (refl, (refl, (refl, (refl, tt)))))))))
      (λ a. cases (eqb r.code 1) (λ b. rw (a, b) (refl, (refl, (refl, tt))))
      (λ b. cases (eqb r.code 2) (λ c. rw (a, b, c) (refl, (refl, (refl, tt)))) (λ c. rw (a, b, c) (refl, (refl, (refl, (refl, tt)))))))

  answer_known : is_number (Theory.answer (rolled_by s) (view s n) r) answers ≡ true
  unfolding Theory.answer Theory.checks_of
  answer_known = refusal_known (Theory.checks_of (rolled_by s) (view s n) r) (refl, code_known)

-- ---- its outcome

-- as a reply
abbrev pub outcome_reply : Outcome → Reply
outcome_reply o = record { told = told o; net = net_bytes o.net }

module _ (s : Script) (n : Images.Net) (r : Request) where
  abbrev number_told : ℕ
  number_told = Theory.answer (rolled_by s) (view s n) (asked r)

  abbrev pub refused_outcome : Outcome
  refused_outcome = Lent.refused (image_of s (view s n)) (answer_of number_told)

  abbrev pub done_outcome : Outcome
  done_outcome =
      Lent.done (Theory.undone (rolled_by s) (view s n) (asked r)) (localities (Theory.touched_word (rolled_by s) (view s n) (asked r)))
      (image_of s (Theory.net_after (rolled_by s) (view s n) (asked r)))

  pub served_refused : eqb number_told 0 ≡ false → served s n r ≡ refused_outcome
  unfolding told_by Theory.outcome
  served_refused h = rw h refl

  pub served_done : eqb number_told 0 ≡ true → served s n r ≡ done_outcome
  unfolding told_by Theory.outcome
  served_done h = rw h refl

  pub served_number : number (served s n r).answer ≡ number_told
  served_number =
      cases (eqb number_told 0)
      (λ h. ap (λ (o : Outcome). number o.answer) (served_done h) ∙ sym (eqb-true number_told 0 h))
      (λ h. ap (λ (o : Outcome). number o.answer) (served_refused h) ∙ number_of number_told (answer_known s n (asked r)))

-- ---- a call, by what its first three checks say

-- check 3
abbrev is_read : List ℕ → Bool
is_read Q = eqb (length Q) 6 && in_range (asked_by Q)

module _ (Q : List ℕ) where
  request_read : is_read Q ≡ true → read_request Q ≡ Some (request_of Q)
  unfolding read_request
  request_read h =
      let six : eqb (length Q) 6 ≡ true = and_left (eqb (length Q) 6) _ h in
      let range : in_range (asked_by Q) ≡ true = and_right (eqb (length Q) 6) _ h in
      rw (six, range) refl

  request_bad : is_read Q ≡ false → read_request Q ≡ None
  unfolding read_request
  request_bad h =
      cases (eqb (length Q) 6) (λ six. let range : in_range (asked_by Q) ≡ false = rw six at h in rw (six, range) refl)
      (λ six. rw six refl)

pub data Call (S N Q : List ℕ) : Type 0 where
  bad_script_lem : good_script S ≡ false → reply S N Q ≡ refused_with Answer.BadScript N → Call S N Q
  bad_net_lem : good_script S ≡ true → good_net (script_in S) N ≡ false → reply S N Q ≡ refused_with Answer.BadNet N → Call S N Q
  bad_request : good_script S ≡ true → good_net (script_in S) N ≡ true → is_read Q ≡ false → reply S N Q ≡ refused_with Answer.BadRequest N → Call S N Q
  all_read : good_script S ≡ true → good_net (script_in S) N ≡ true → is_read Q ≡ true
      → reply S N Q ≡ reply_to (script_in S) (net_in N) N (Some (request_of Q)) → Call S N Q

module _ (S N Q : List ℕ) where
  reply_script : good_script S ≡ false → reply S N Q ≡ refused_with Answer.BadScript N
  unfolding reply image_answer
  reply_script h = rw h refl

  reply_net : good_script S ≡ true → good_net (script_in S) N ≡ false → reply S N Q ≡ refused_with Answer.BadNet N
  unfolding reply image_answer
  reply_net g h = rw (g, h) refl

  reply_request : good_script S ≡ true → good_net (script_in S) N ≡ true → reply S N Q ≡ reply_to (script_in S) (net_in N) N (read_request Q)
  unfolding reply image_answer
  reply_request g h = rw (g, h) refl

  pub call : Call S N Q
  call =
      cases (good_script S)
      (λ g.
      cases (good_net (script_in S) N)
      (λ h.
      let by : (q : Option Request) → read_request Q ≡ q → reply S N Q ≡ reply_to (script_in S) (net_in N) N q = λ q e. reply_request g h ∙ ap (reply_to (script_in S) (net_in N) N) e in
      cases (is_read Q) (λ k. all_read g h k (by (Some (request_of Q)) (request_read Q k)))
      (λ k. bad_request g h k (by None (request_bad Q k))))
      (λ h. bad_net_lem g h (reply_net g h)))
      (λ g. bad_script_lem g (reply_script g))

  -- what it tells, once its reply is known
  pub told_as : (a : Reply) → reply S N Q ≡ a → number (reply S N Q).told.answer ≡ number a.told.answer
  told_as a e = ap (λ (o : Reply). number o.told.answer) e

  pub in_range_lem : is_read Q ≡ true → in_range (asked_by Q) ≡ true
  in_range_lem h = and_right (eqb (length Q) 6) _ h

  -- what is asked of the code is what the bytes ask
  pub asked_is : asked (request_of Q) ≡ asked_by Q
  asked_is = asked_back Q

  pub asked_range : is_read Q ≡ true → in_range (asked (request_of Q)) ≡ true
  asked_range h = in_range_lem h

-- ---- a refusal

-- the net as it was, nothing undone and nothing touched
pub record Left (N : List ℕ) (o : Reply) : Type 0 where
  pub net : o.net ≡ N
  pub undone : o.told.undone ≡ 0
  pub touched : o.told.touched.0 ≡ 0

-- an outcome that is refused writes nothing
refused_outcome_lem : (s : Script) (n : Images.Net) (r : Request) (N : List ℕ) → eqb (Theory.answer (rolled_by s) (view s n) (asked r)) 0 ≡ false
    → Left N (record { told = told (refused_outcome s n r); net = lent_after (refused_outcome s n r) N })
unfolding lent_after
refused_outcome_lem s n r N h =
    let no : is_done (refused_outcome s n r).answer ≡ false = done_number (Theory.answer (rolled_by s) (view s n) (asked r)) ∙ h in
    record { net = rw no refl; undone = refl; touched = refl }

pub left : (S N Q : List ℕ) → (number (reply S N Q).told.answer ≡ 0 → ⊥) → Left N (reply S N Q)
left S N Q some = each (call S N Q)
  where
    refused_left : (a : Answer) → reply S N Q ≡ refused_with a N → Left N (reply S N Q)
    refused_left a e = subst (Left N) (sym e) (record { net = refl; undone = refl; touched = refl })

    each : Call S N Q → Left N (reply S N Q)
    each (bad_script_lem g e) = refused_left Answer.BadScript e
    each (bad_net_lem g h e) = refused_left Answer.BadNet e
    each (bad_request g h k e) = refused_left Answer.BadRequest e
    each (all_read g h k e) =
        let s = script_in S in
        let n = net_in N in
        let r = request_of Q in
        let told-number = told_as S N Q _ e ∙ served_number s n r in
        let not-zero = ne_eqb (Theory.answer (rolled_by s) (view s n) (asked r)) 0 (λ z. some (told-number ∙ z)) in
        subst (Left N) (sym (e ∙ ap (λ (o : Outcome). record { told = told o; net = lent_after o N }) (served_refused s n r not-zero)))
        (refused_outcome_lem s n r N not-zero)

-- ---- images that were read

-- both are bytes, and good
pub record Held (S N : List ℕ) : Type 0 where
  pub script_bytes_lem : Bytes S
  pub net_bytes_lem : Bytes N
  pub script : good_script S ≡ true
  pub net : good_net (script_in S) N ≡ true

module _ (S : List ℕ) (b : Bytes S) (h : good_script S ≡ true) where
  script_shaped : ShapedScript (script_in S)
  script_shaped = subst ShapedScript (sym (script_in_lem S (script_formed_lem S h))) (shaped_script S b)

module _ (s : Script) (N : List ℕ) (b : Bytes N) (h : good_net s N ≡ true) where
  formed : net_formed N ≡ true
  formed = net_formed_lem N s h

  net_shaped : ShapedNet (net_in N)
  net_shaped = subst ShapedNet (sym (net_in_lem N formed)) (shaped_net N b)

  -- the image of its view is its bytes
  pub net_again : net_bytes (image_of s (view s (net_in N))) ≡ N
  net_again = ap net_bytes (image_view s (net_in N) net_shaped (net_range N formed) ∙ net_in_lem N formed) ∙ net_back N b formed

pub good_held : (S N : List ℕ) → GoodImages S N → Bytes S → Bytes N → Held S N
good_held S N good bS bN =
    let (g, h) = images_good S N good in
    record { script_bytes_lem = bS; net_bytes_lem = bN; script = g; net = h }

module _ (S N : List ℕ) (h : Held S N) where
  pub held_images : GoodImages S N
  unfolding image_answer
  held_images = rw (h.script, h.net) refl

  pub held_good : Good (script_in S) (net_in N)
  held_good = good_images S N held_images

  pub held_script : ShapedScript (script_in S)
  held_script = script_shaped S h.script_bytes_lem h.script

  pub held_net : ShapedNet (net_in N)
  held_net = net_shaped (script_in S) N h.net_bytes_lem h.net

-- ---- a call that is done

pub record Doing (S N Q : List ℕ) : Type 0 where
  pub script : good_script S ≡ true
  pub net : good_net (script_in S) N ≡ true
  pub request : is_read Q ≡ true
  -- no check of its code refuses
  pub allowed : Theory.answer (rolled_by (script_in S)) (view (script_in S) (net_in N)) (asked (request_of Q)) ≡ 0
  -- and the reply is the theory's
  pub replied : reply S N Q ≡ outcome_reply (done_outcome (script_in S) (net_in N) (request_of Q))

-- an outcome that is done is written
done_outcome_lem : (s : Script) (n : Images.Net) (r : Request) (N : List ℕ) → lent_after (done_outcome s n r) N ≡ net_bytes (done_outcome s n r).net
unfolding lent_after
done_outcome_lem s n r N = refl

pub doing : (S N Q : List ℕ) → number (reply S N Q).told.answer ≡ 0 → Doing S N Q
doing S N Q z = each (call S N Q)
  where
    not_refused : (a : Answer) → 1 ≤ number a → reply S N Q ≡ refused_with a N → ⊥
    not_refused a some e = omega (arith, some, sym (told_as S N Q (refused_with a N) e) ∙ z)

    each : Call S N Q → Doing S N Q
    each (bad_script_lem g e) = absurd (not_refused Answer.BadScript (omega arith) e)
    each (bad_net_lem g h e) = absurd (not_refused Answer.BadNet (omega arith) e)
    each (bad_request g h k e) = absurd (not_refused Answer.BadRequest (omega arith) e)
    each (all_read g h k e) =
        let s = script_in S in
        let n = net_in N in
        let r = request_of Q in
        let zero-there : Theory.answer (rolled_by s) (view s n) (asked r) ≡ 0 = sym (told_as S N Q _ e ∙ served_number s n r) ∙ z in
        record {
          script = g;
          net = h;
          request = k;
          allowed = zero-there;
          replied =
              e ∙
              ap (λ (o : Outcome). record { told = told o; net = lent_after o N })
              (served_done s n r (eq-eqb (Theory.answer (rolled_by s) (view s n) (asked r)) 0 zero-there)) ∙
              ap (λ (b : List ℕ). record { told = told (done_outcome s n r); net = b }) (done_outcome_lem s n r N);
        }

-- good images, a request that is read, and no check that refuses: it is done
pub done_when : (S N Q : List ℕ) → good_script S ≡ true → good_net (script_in S) N ≡ true → is_read Q ≡ true
    → Theory.answer (rolled_by (script_in S)) (view (script_in S) (net_in N)) (asked (request_of Q)) ≡ 0 → number (reply S N Q).told.answer ≡ 0
done_when S N Q g h k z = each (call S N Q)
  where
    each : Call S N Q → number (reply S N Q).told.answer ≡ 0
    each (bad_script_lem g' e) = clash (good_script S) g g'
    each (bad_net_lem g' h' e) = clash (good_net (script_in S) N) h h'
    each (bad_request g' h' k' e) = clash (is_read Q) k k'
    each (all_read g' h' k' e) = told_as S N Q _ e ∙ served_number (script_in S) (net_in N) (request_of Q) ∙ z

-- ---- what the checks of a code allow

module _ (s : Script) (w : ShapedScript s) (n : Images.Net) (v : ShapedNet n) (good : Good s n) (r : Request) (range : in_range (asked r) ≡ true) where
  abbrev W : Net (rules_of s)
  W = view s n

  abbrev Allowed : Type 0
  Allowed = Theory.answer (rolled_by s) W (asked r) ≡ 0

  pub forward_allowed : eqb r.code 0 ≡ true → Allowed → Can W (Theory.places (rolled_by s) W (asked r))
  forward_allowed a z = forward_can (rolled_by s) refl refl W (asked r) range (sym (answer_forward s n (asked r) range a) ∙ z)

  module _ (a : eqb r.code 0 ≡ false) where
    pub backward_allowed : eqb r.code 1 ≡ true → Allowed → Undoable W r.key.0
    unfolding backward_checks
    backward_allowed b z =
        let hold = all_hold (backward_checks (rolled_by s) W (asked r)) ((λ e. omega (arith, e)), ((λ e. omega (arith, e)), ((λ e. omega (arith, e)), tt))) (sym (answer_backward s n (asked r) range a b) ∙ z) in
        undo_can (rolled_by s) refl W good.accepted (asked r) hold.0 hold.1.1.0

    module _ (b : eqb r.code 1 ≡ false) where
      rollback_allowed : eqb r.code 2 ≡ true → Allowed → r.key.0 ∈ events W
      unfolding rollback_checks
      rollback_allowed c z =
          (all_hold (rollback_checks (rolled_by s) W (asked r)) ((λ e. omega (arith, e)), ((λ e. omega (arith, e)), ((λ e. omega (arith, e)), tt))) (sym (answer_rollback s n (asked r) range a b c) ∙ z)).0

      roll_allowed : eqb r.code 2 ≡ false → Allowed → rolled_by s (W.slot r.key.0).body ∈ events W
      unfolding roll_answer
      roll_allowed c z =
          let h : is_done (roll_answer s n r) ≡ true = ap (λ (j : ℕ). is_done (answer_of j)) (sym (answer_roll s n (asked r) range a b c) ∙ z) in
          subst (λ (k : ℕ). k ∈ events W) (roll_held s w.nodes n v r w good h) (roll_event s w.nodes n v r w good h)

      -- what is rolled back is an event
      event_allowed : Allowed → Theory.event (rolled_by s) W (asked r) ∈ events W
      unfolding Theory.event in_range
      event_allowed z =
          cases (eqb r.code 2)
          (λ c. let d : eqb r.code 3 ≡ false = ne_eqb r.code 3 (λ e. omega (arith, e, eqb-true r.code 2 c)) in rw d (rollback_allowed c z))
          (λ c.
          let d : eqb r.code 3 ≡ true =
          eq-eqb r.code 3
          (omega (arith, leb-true r.code 3 (and_left (leb r.code 3) _ range), eqb-false r.code 0 a, eqb-false r.code 1 b, eqb-false r.code 2 c)) in
          rw d (roll_allowed c z))

  -- the net after the call is one that an image holds, and accepted
  pub after_kept : Allowed → Kept s (Theory.net_after (rolled_by s) W (asked r))
  unfolding Theory.net_after
  after_kept z =
      cases (eqb r.code 0) (λ a. rw a (forward_kept s w good.script n v good r range (forward_allowed a z)))
      (λ a. cases (eqb r.code 1) (λ b. rw (a, b) (undo_kept s w good.script n v good r.key.0 (backward_allowed a b z)))
      (λ b.
      rw (a, b)
      (rollback_kept s w good.script W (kept_of s n v good.net W refl good.accepted) (Theory.event (rolled_by s) W (asked r)) (event_allowed a b z))))

  -- "*Undone* is their number, at most 63."
  pub undone_few : Allowed → Theory.undone (rolled_by s) W (asked r) ≤ 63
  unfolding Theory.undone
  undone_few z =
      cases (eqb r.code 0) (λ a. rw a (omega arith))
      (λ a. cases (eqb r.code 1) (λ b. rw (a, b) (omega arith))
      (λ b. rw (a, b) (omega (arith, undone_below s w good.script W good.accepted (Theory.event (rolled_by s) W (asked r)) (event_allowed a b z)))))

-- ---- the bytes that a call leaves

module _ (s : Script) (m : Net (rules_of s)) (k : Kept s m) where
  image_bytes_lem : Bytes (net_bytes (image_of s m))
  image_bytes_lem = bytes_net (image_of s m) k.range

  image_read : read_net (net_bytes (image_of s m)) ≡ Some (image_of s m)
  image_read = (net_read (net_bytes (image_of s m)) (image_of s m) image_bytes_lem k.shaped).1 (refl, k.range)

  image_seen : view s (net_in (net_bytes (image_of s m))) ≡ m
  image_seen = ap (λ (r : Option Images.Net). view s (unwrap_or r empty_net)) image_read ∙ k.viewed

  image_good : good_net s (net_bytes (image_of s m)) ≡ true
  unfolding good_net
  image_good =
      let b = net_bytes (image_of s m) in
      and_both (is_some (read_net b)) _ (ap (λ (r : Option Images.Net). is_some r) image_read)
      ((accepted_is_tested s (view s (net_in b)) (beyond s (net_in b))).1 (subst Accepted (sym image_seen) k.accepted))

module _ (S N Q : List ℕ) (bS : Bytes S) (bN : Bytes N) (d : Doing S N Q) where
  abbrev s : Script
  s = script_in S

  abbrev n : Images.Net
  n = net_in N

  abbrev r : Request
  r = request_of Q

  pub doing_held : Held S N
  doing_held = record { script_bytes_lem = bS; net_bytes_lem = bN; script = d.script; net = d.net }

  kept : Kept s (Theory.net_after (rolled_by s) (view s n) (asked r))
  kept = after_kept s (held_script S N doing_held) n (held_net S N doing_held) (held_good S N doing_held) r (asked_range S N Q d.request) d.allowed

  pub next_bytes : (reply S N Q).net ≡ net_bytes (image_of s (Theory.net_after (rolled_by s) (view s n) (asked r)))
  next_bytes = ap (λ (o : Reply). o.net) d.replied

  pub next_held : Held S (reply S N Q).net
  next_held =
      record {
        script_bytes_lem = bS;
        net_bytes_lem = subst Bytes (sym next_bytes) (image_bytes_lem s _ kept);
        script = d.script;
        net = subst (λ (b : List ℕ). good_net s b ≡ true) (sym next_bytes) (image_good s _ kept);
      }

  pub next_view : view s (net_in (reply S N Q).net) ≡ Theory.net_after (rolled_by s) (view s n) (asked r)
  next_view = ap (λ (b : List ℕ). view s (net_in b)) next_bytes ∙ image_seen s _ kept

  pub next_undone : (reply S N Q).told.undone ≤ 63
  next_undone =
      subst (λ (k : ℕ). k ≤ 63) (sym (ap (λ (o : Reply). o.told.undone) d.replied))
      (undone_few s (held_script S N doing_held) n (held_net S N doing_held) (held_good S N doing_held) r (asked_range S N Q d.request) d.allowed)

-- ---- touched words as sets

-- the members of either word are those of the word of both
pub word_union : (w : ℕ) (A B : Set) → member (word_of w A) ∪ member (word_of w B) ≡ member (word_of w (A ∪ B))
word_union w A B =
    fun_ext
    (λ l.
    cases (ltb l w)
    (λ t.
    let b = ltb-true l w t in
    ap₂ (λ (x y : Bool). x || y) (word_of_in w A l b) (word_of_in w B l b) ∙ sym (word_of_in w (A ∪ B) l b))
    (λ t.
    let b = ltb-false l w t in
    ap₂ (λ (x y : Bool). x || y) (word_of_above w A l b) (word_of_above w B l b) ∙ sym (word_of_above w (A ∪ B) l b)))

pub word_none : (w : ℕ) → empty ≡ member (word_of w empty)
word_none w =
    fun_ext
    (λ l. cases (ltb l w) (λ t. sym (word_of_in w empty l (ltb-true l w t))) (λ t. sym (word_of_above w empty l (ltb-false l w t))))
