-- The checks of a rollback and a roll as the code makes them, on the slot of the named key and its node; and that they are the checks of
-- `requests`, of the net that the slot is from.
-- In order: the key that a node's reference holds (`held_by`); the checks in their order (`rollback_tests`, `roll_tests`), and what they answer
-- (`answered`, `answered_yes`, `answered_no`); a refusal by the second check (`second_fails`); that they are document 01's (`rollback_checked`,
-- `roll_checked`); what a done rollback and roll say of the event (`rollback_event`, `roll_event`, `roll_held`). The same from what was looked up is in
-- proofs/Checked.
-- Assumes nothing.
use Prim.Native.Nat.{ℕ, zero, suc, ◌<◌}
use Rattle.std.proofs.Common.{le_of_suc-le-suc, not-suc-le-zero, ◌∙◌, arith}
use Rattle.std.specs.Prelude.{◌≡◌, Bool, not, ◌&&◌, List, [], ◌∷◌, eqb, ltb, length, get_or, Result, Ok, Err}
use Rattle.std.proofs.Math.Path.{refl, sym, ap, subst}
use Rattle.std.proofs.Math.Bool.{true, false}
use Rattle.std.proofs.lemmas.Bool.{false≢true}
use borrow.Author.Tests.{eqb-true, eqb-false, eq-eqb, ne_eqb, ltb-true, not-true}
use Rattle.laws.specs.Choice.{pick, cases, and_left, and_right, and_both}
use Rattle.laws.specs.Checks.{all, all_at}
use Rattle.order.specs.KeySets.{◌∈◌, any, any_of}
use Rattle.names.specs.Names.{key_count, node_count, reference_count, none, key, is_node, is_locality, is_key_or_none, below_or_none}
use Rattle.names.specs.declared.Key.{Key}
use Rattle.images.specs.Net.{slot_with, refs_in_range, process_in_range}
use Rattle.images.specs.Read.{node_with}
use Rattle.images.specs.Script.{action_at}
use Rattle.images.specs.Shape.{ShapedScript, ShapedNet}
use Rattle.images.specs.declared.Action.{Action}
use Rattle.images.specs.declared.Script.{Script}
use Rattle.images.specs.declared.Slot as Image
use Rattle.images.specs.declared.Net as Images
use Rattle.nets.specs.Rules.{Act, number}
use Rattle.nets.specs.Rules as R
use Rattle.nets.specs.Net as N
use Rattle.nets.specs.Net.{Kind, free, live, past, tuple, consumed, is_live, is_past, events, held}
use Rattle.products.specs.Products.{is_split}
use Rattle.products.specs.Body.{Body, body_of, is_process}
use Rattle.rules.specs.Instance.{rules_of, act_of, same_kind}
use Rattle.rules.specs.Acts.{split_is}
use Rattle.rules.specs.Roots.{refers, rolled_by}
use Rattle.rules.specs.View.{view, view_with, live_is, past_is}
use Rattle.rules.specs.Theorems.{reference_held}
use Rattle.requests.specs.Checks as C
use Rattle.requests.specs.Checks.{check, refusal, all_hold}
use Rattle.requests.specs.Answers.{no_places, rollback_checks, roll_checks}
use Rattle.requests.specs.Requests.{asked, is_done, answer_of, done_number}
use Rattle.requests.specs.declared.Request.{Request}
use Rattle.requests.specs.declared.Answer.{Answer}
use Rattle.step.specs.Lent.{Good}
use Rattle.step.specs.Tested.{kind_is, node_is, no_node}
use Rattle.step.specs.Laws.{done_zero}
use Rattle.ranges.specs.Slots.{free_in_range_lem, live_process_lem, process_node}
use Rattle.ranges.specs.Written.{InRange, slot_with_lem, range_each}
use Rattle.rollback.specs.Rollback.{rollback_answer, roll_answer}

-- the key that the node's reference holds, or none
unfoldable pub held_by : Action → Image.Slot → Key
held_by a x = pick (ltb a.reference.0 reference_count) (get_or x.refs a.reference.0 (key 0)) (key none)

abbrev pub is_held : Key → Bool
is_held e = not (eqb e.0 none)

abbrev pub is_roll : ℕ → Bool
is_roll k = eqb k 7

-- checks 4 to 6, of the event x at the node a
unfoldable pub rollback_tests : Action → Image.Slot → Request → List C.Check
rollback_tests a x r = check 4 (eqb x.kind 2) ∷ check 5 (not (is_split a.kind)) ∷ check 6 (no_places (asked r)) ∷ []

-- checks 4 to 7, of the process x at the node a, whose reference holds e
unfoldable pub roll_tests : Action → Image.Slot → Key → Request → List C.Check
roll_tests a x e r =
    check 4 (eqb x.kind 1) ∷ check 5 (is_roll a.kind) ∷ check 6 (no_places (asked r)) ∷ check 7 (is_held e) ∷ []

-- what checks answer: v where none refuses, and otherwise the answer with the number of the first that does
unfoldable pub answered : {A : Type 0} → A → ℕ → Result A Answer
answered v zero = Ok v
answered v (suc k) = Err (answer_of (suc k))

module _ {A : Type 0} (v : A) where
  pub answered_yes : (k : ℕ) (u : A) → Ok u ≡ answered v k → (is_done (answer_of k) ≡ true) × (u ≡ v)
  unfolding answered
  answered_yes zero u e = (refl, cc)
  answered_yes (suc k) u e = cc

  pub answered_no : (k : ℕ) (o : Answer) → Err o ≡ answered v k → (is_done o ≡ false) × (o ≡ answer_of k)
  unfolding answered
  answered_no zero o e = cc
  answered_no (suc k) o e = let is : o ≡ answer_of (suc k) = cc in (ap is_done is ∙ done_number (suc k) ∙ ne_eqb (suc k) 0 (λ z. omega (arith, z)), is)

-- a refusal by the second check does not look further
second_fails : (b c d e : Bool) (cs ds : List C.Check) → b ≡ c → d ≡ false → e ≡ false → refusal (check 4 b ∷ check 5 d ∷ cs) ≡ refusal (check 4 c ∷ check 5 e ∷ ds)
unfolding refusal
second_fails b c d e cs ds p q o = rw (p, q, o)

-- within a list it does not matter what stands where it ends
get_d_within : {A : Type 0} (xs : List A) (j : ℕ) (c d : A) → j < length xs → get_or xs j c ≡ get_or xs j d
get_d_within [] j c d l = absurd (not-suc-le-zero l)
get_d_within (y ∷ ys) zero c d l = refl
get_d_within (y ∷ ys) (suc j) c d l = get_d_within ys j c d (le_of_suc-le-suc l)

module _ (s : Script) (nodes : length s.nodes ≡ node_count) (n : Images.Net) (v : ShapedNet n) (r : Request) where
  abbrev W : N.Net (rules_of s)
  W = view s n

  abbrev x : Image.Slot
  x = slot_with n r.key

  abbrev a : Action
  a = node_with s x.node

  past_check : eqb x.kind 2 ≡ is_past (W.slot r.key.0).kind
  past_check = sym (ap (λ (z : N.Slot (rules_of s)). is_past z.kind) (view_with s n r.key) ∙ past_is x.kind)

  live_check : eqb x.kind 1 ≡ is_live (W.slot r.key.0).kind
  live_check = sym (ap (λ (z : N.Slot (rules_of s)). is_live z.kind) (view_with s n r.key) ∙ live_is x.kind)

  act_is : (rules_of s).act (W.slot r.key.0).body ≡ act_of a.kind
  act_is =
      ap (λ (z : N.Slot (rules_of s)). (rules_of s).act z.body) (view_with s n r.key) ∙ ap act_of (sym (kind_is s nodes x.node))

  split_check : not (is_split a.kind) ≡ not (R.is_split ((rules_of s).act (W.slot r.key.0).body))
  split_check = ap not (sym (ap R.is_split act_is ∙ split_is a.kind))

  roll_check : is_roll a.kind ≡ eqb (number ((rules_of s).act (W.slot r.key.0).body)) 7
  roll_check = sym (ap (λ (z : Act). eqb (number z) 7) act_is ∙ same_kind a.kind 7 (omega arith) (omega arith))

  -- rollback's checks are document 01's
  pub rollback_checked : answer_of (refusal (rollback_tests a x r)) ≡ rollback_answer s n r
  unfolding rollback_answer rollback_tests rollback_checks
  rollback_checked =
      λ i. answer_of (refusal (check 4 (past_check i) ∷ check 5 (split_check i) ∷ check 6 (no_places (asked r)) ∷ []))

  -- a process has four references
  four : length x.refs ≡ 4
  four = slot_with_lem (λ (z : Image.Slot). length z.refs ≡ 4) n (λ j q. (v.at j q).refs) refl r.key

  held_at : (i : ℕ) → (pick (ltb i reference_count) (get_or x.refs i (key 0)) (key none)).0 ≡ pick (ltb i reference_count) (get_or x.refs i (key none)).0 none
  held_at i =
      cases (ltb i reference_count)
      (λ l. rw l (ap (λ (k : Key). k.0) (get_d_within x.refs i (key 0) (key none) (omega (arith, four, ltb-true i reference_count l)))))
      (λ l. rw l refl)

  held_is : is_node x.node ≡ true → (held_by a x).0 ≡ rolled_by s (W.slot r.key.0).body
  unfolding held_by
  held_is h =
      ap (λ (b : Action). (pick (ltb b.reference.0 reference_count) (get_or x.refs b.reference.0 (key 0)) (key none)).0) (node_is s x.node h) ∙
      held_at (action_at s x.node.0).reference.0 ∙ sym (ap (λ (z : N.Slot (rules_of s)). rolled_by s z.body) (view_with s n r.key))

  pub roll_checked : answer_of (refusal (roll_tests a x (held_by a x) r)) ≡ roll_answer s n r
  unfolding roll_answer roll_tests roll_checks
  roll_checked =
      cases (is_node x.node)
      (λ h.
      λ i. answer_of (refusal (check 4 (live_check i) ∷ check 5 (roll_check i) ∷ check 6 (no_places (asked r)) ∷ check 7 (not (eqb (held_is h i) none)) ∷ [])))
      (λ h.
      let none-there : is_roll a.kind ≡ false = ap is_roll (no_node s nodes x.node h).0 in
      ap answer_of (second_fails _ _ _ _ _ _ live_check none-there (sym roll_check ∙ none-there)))

  -- ---- what is rolled back is an event

  pub rollback_event : is_done (rollback_answer s n r) ≡ true → r.key.0 ∈ events W
  unfolding rollback_answer rollback_checks
  rollback_event h =
      let cs = rollback_checks (rolled_by s) W (asked r) in
      (all_hold cs ((λ z. omega (arith, z)), ((λ z. omega (arith, z)), ((λ z. omega (arith, z)), tt))) (done_zero (refusal cs) h)).0

  module _ (w : ShapedScript s) (good : Good s n) (h : is_done (roll_answer s n r) ≡ true) where
    abbrev b : Body
    b = (W.slot r.key.0).body

    hold : C.Hold (roll_checks (rolled_by s) W (asked r))
    unfolding roll_checks roll_answer
    hold =
        let cs = roll_checks (rolled_by s) W (asked r) in
        all_hold cs ((λ z. omega (arith, z)), ((λ z. omega (arith, z)), ((λ z. omega (arith, z)), ((λ z. omega (arith, z)), tt)))) (zeroed h)
      where
        zeroed : is_done (roll_answer s n r) ≡ true → refusal (roll_checks (rolled_by s) W (asked r)) ≡ 0
        zeroed q = done_zero (refusal (roll_checks (rolled_by s) W (asked r))) q

    -- the slot is a live process in range, so its references hold keys or none
    process : is_process (body_of x) ≡ true
    unfolding roll_checks
    process =
        live_process_lem x (slot_with_lem InRange n (range_each n good.net) free_in_range_lem r.key) (live_check ∙ hold.0)

    references : refs_in_range x.refs ≡ true
    unfolding process_in_range
    references =
        and_left (refs_in_range x.refs) _
        (and_right (eqb x.count 0) _ (and_right (is_node x.node) _ (and_right (is_locality x.locality) _ process)))

    -- what its reference holds is none, which check 7 refuses, or a key that it refers to
    held_none : rolled_by s b ≡ none → ⊥
    unfolding roll_checks
    held_none e = eqb-false (rolled_by s b) none (not-true _ hold.1.1.1.0) e

    refers_held : refers b (rolled_by s b) ≡ true
    unfolding refers refs_in_range
    refers_held =
        let viewed : b ≡ body_of x = ap (λ (z : N.Slot (rules_of s)). z.body) (view_with s n r.key) in
        subst (λ (c : Body). refers c (rolled_by s c) ≡ true) (sym viewed) (held_in_lem (λ e. held_none (ap (rolled_by s) viewed ∙ e)))
      where
        i : ℕ
        i = (action_at s x.node.0).reference.0

        refs_all : refs_in_range x.refs ≡ true → all 4 (λ j. is_key_or_none (get_or x.refs j (key 0))) ≡ true
        refs_all q = q

        key_some : (k : ℕ) → below_or_none key_count k ≡ true → (k ≡ none → ⊥) → ltb k key_count ≡ true
        key_some k q some = cases (eqb k none) (λ e. absurd (some (eqb-true k none e))) (λ e. rw e at q)

        held_in_lem : (rolled_by s (body_of x) ≡ none → ⊥) → refers (body_of x) (rolled_by s (body_of x)) ≡ true
        held_in_lem some =
            cases (ltb i reference_count)
            (λ l.
            let at : rolled_by s (body_of x) ≡ (get_or x.refs i (key none)).0 = rw l refl in
            let same : (get_or x.refs i (key none)).0 ≡ (get_or x.refs i (key 0)).0 = ap (λ (k : Key). k.0) (get_d_within x.refs i (key none) (key 0) (omega (arith, four, ltb-true i reference_count l))) in
            let below : ltb (get_or x.refs i (key 0)).0 key_count ≡ true = key_some (get_or x.refs i (key 0)).0 (all_at 4 (λ j. is_key_or_none (get_or x.refs j (key 0))) (refs_all references) i (ltb-true i reference_count l)) (λ e. some (at ∙ same ∙ e)) in
            subst (λ (k : ℕ). (ltb k key_count && any 4 (λ j. eqb (get_or x.refs j (key 0)).0 k)) ≡ true) (sym (at ∙ same))
            (and_both (ltb (get_or x.refs i (key 0)).0 key_count) _ below
            (any_of 4 (λ j. eqb (get_or x.refs j (key 0)).0 (get_or x.refs i (key 0)).0) i (ltb-true i reference_count l) (eq-eqb (get_or x.refs i (key 0)).0 (get_or x.refs i (key 0)).0 refl))))
            (λ l. absurd (some (rw l refl)))

    -- and so an event
    pub roll_event : (held_by a x).0 ∈ events W
    unfolding roll_checks
    roll_event =
        let e : (held_by a x).0 ≡ rolled_by s b = held_is (process_node (body_of x) process) in
        subst (λ (k : ℕ). k ∈ events W) (sym e)
        (reference_held s w good.script W good.accepted r.key.0 (rolled_by s b) live_held refers_held).past
      where
        held_live : (c : Kind) → is_live c ≡ true → N.is_held c ≡ true
        held_live free q = absurd (false≢true q)
        held_live live q = refl
        held_live past q = refl
        held_live tuple q = refl
        held_live consumed q = refl

        live_held : r.key.0 ∈ held W
        live_held = held_live (W.slot r.key.0).kind hold.0

    pub roll_held : (held_by a x).0 ≡ rolled_by s b
    roll_held = held_is (process_node (body_of x) process)
