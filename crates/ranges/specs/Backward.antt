-- A backward step of a net in range leaves a net in range, of the code's types.
-- The range needs one sentence of acceptance: what a past in took is a consumed tuple (`TakenConsumed`). Without it a past in may name a
-- process as its tuple, which the step would write back as a tuple.
-- In order: that sentence, and that an accepted net has it (`accepted_taken`); the slots that the step puts are in range (`undone_in_range`); the step
-- (`backward_in_range`); the same of shapes (`backward_shaped`).
-- Assumes nothing.
use Rattle.std.specs.Prelude.{ℕ, ◌≡◌, true, ◌&&◌}
use Rattle.std.proofs.Common.{ap, sym, ◌∙◌, subst, arith}
use Rattle.laws.specs.Choice.{cases}
use Rattle.laws.specs.Sets.{excluding_lt}
use Rattle.names.specs.Names.{locality_count, is_key, is_locality}
use Rattle.names.specs.declared.Key.{Key}
use Rattle.names.specs.declared.Locality.{Locality}
use Rattle.names.specs.declared.Localities.{Localities}
use Rattle.images.specs.Script.{action_at}
use Rattle.images.specs.Net.{slot_with, net_in_range}
use Rattle.images.specs.Read.{node_with}
use Rattle.images.specs.Shape.{Word, ShapedSlot, ShapedNet}
use Rattle.images.specs.declared.Action.{Action}
use Rattle.images.specs.declared.Script.{Script}
use Rattle.images.specs.declared.Slot.{Slot}
use Rattle.images.specs.declared.Net.{Net}
use Rattle.nets.specs.Rules.{is_take}
use Rattle.nets.specs.Net as N
use Rattle.nets.specs.Net.{consumed, is_past, is_consumed, takes}
use Rattle.nets.specs.Accepted.{Accepted}
use Rattle.nets.proofs.Events.{take_consumed}
use Rattle.nets.specs.Records.{took_of}
use Rattle.products.specs.Body.{body_of, is_process, is_tuple}
use Rattle.products.specs.Products
use Rattle.rules.specs.Instance.{rules_of}
use Rattle.rules.specs.Acts.{take_is}
use Rattle.rules.specs.Roots.{rolled_by}
use Rattle.rules.specs.View.{view, slot_view, view_with, past_is, consumed_is}
use Rattle.requests.specs.Checks.{refusal, all_hold}
use Rattle.requests.specs.Answers.{backward_checks}
use Rattle.requests.specs.Requests.{asked, is_done}
use Rattle.requests.specs.declared.Request.{Request}
use Rattle.step.specs.Change.{stepped, applied}
use Rattle.step.specs.Backward.{backward_answer, back_put, backward_other, present_before, backward_done, undone_at, backward_change}
use Rattle.step.specs.Laws.{done_zero, refused_stays}
use Rattle.step.specs.Tested.{node_is}
use Rattle.ranges.specs.Slots.{free_in_range_lem, live_in_range, tuple_in_range_lem, past_process, consumed_tuple, process_node, free_shaped, same_shaped}
use Rattle.ranges.specs.Written.{OfPut, InRange, slot_with_lem, range_each, applied_in_range, applied_shaped}

-- ---- what is asked of the net

-- "a consumed tuple is used by exactly one past in, a live one by none": what a past in took is a consumed tuple
abbrev pub TakenConsumed : (s : Script) → N.Net (rules_of s) → Type 0
TakenConsumed s m = (e k : ℕ) → takes m e k ≡ true → (m.slot k).kind ≡ consumed

pub accepted_taken : (s : Script) (m : N.Net (rules_of s)) → Accepted m → TakenConsumed s m
accepted_taken s m ok e k h = take_consumed m ok e k h

-- ---- the slots that are put are in range

module _ (s : Script) (n : Net) (good : net_in_range n ≡ true) (taken : TakenConsumed s (view s n)) where
  module _ (k : Key) (past : is_past ((view s n).slot k.0).kind ≡ true) where
    abbrev x : Slot
    x = slot_with n k

    abbrev t : Slot
    t = slot_with n x.used

    abbrev event : N.Slot (rules_of s)
    event = (view s n).slot k.0

    event_is : event ≡ slot_view s x
    event_is = view_with s n k

    found_in_lem : (i : Key) → InRange (slot_with n i)
    found_in_lem i = slot_with_lem InRange n (range_each n good) free_in_range_lem i

    process : is_process (body_of x) ≡ true
    process =
        past_process x (found_in_lem k) (sym (ap (λ (z : N.Slot (rules_of s)). is_past z.kind) event_is ∙ past_is x.kind) ∙ past)

    -- a process in range is at a node of the script
    at_node : node_with s x.node ≡ action_at s x.node.0
    at_node = node_is s x.node (process_node (body_of x) process)

    -- the tuple of an in
    tuple_in : Products.is_in (node_with s x.node).kind ≡ true → is_tuple (body_of t) ≡ true
    tuple_in i =
        let takes-it : is_take ((rules_of s).act event.body) ≡ true =
        ap (λ (z : N.Slot (rules_of s)). is_take ((rules_of s).act z.body)) event_is ∙ take_is (action_at s x.node.0).kind ∙
        ap (λ (a : Action). Products.is_in a.kind) (sym at_node) ∙ i in
        let used : event.used ≡ x.used.0 = ap (λ (z : N.Slot (rules_of s)). z.used) event_is in
        let there : ((view s n).slot x.used.0).kind ≡ consumed =
        taken k.0 x.used.0 (subst (λ (j : ℕ). takes (view s n) k.0 j ≡ true) used (took_of event past takes-it)) in
        consumed_tuple t (found_in_lem x.used)
        (sym (ap (λ (z : N.Slot (rules_of s)). is_consumed z.kind) (view_with s n x.used) ∙ consumed_is t.kind) ∙ ap is_consumed there)

    other_in : OfPut InRange (backward_other (node_with s x.node) x t)
    unfolding back_put
    other_in =
        cases (is_key x.second) (λ h. rw h (λ _. free_in_range_lem))
        (λ h.
        cases (Products.is_in (node_with s x.node).kind) (λ i. rw (h, i) (λ _. tuple_in_range_lem (body_of t) (tuple_in i)))
        (λ i. rw (h, i) (λ _. free_in_range_lem)))

    pub undone_in_range : net_in_range (applied n (undone_at s n k)) ≡ true
    unfolding backward_done
    undone_in_range =
        applied_in_range n (undone_at s n k) good
        (record { event = λ _. live_in_range (body_of x) process; first = λ _. free_in_range_lem; other = other_in })

  -- ---- the step

  is_past_lem : (r : Request) → is_done (backward_answer s n r) ≡ true → is_past ((view s n).slot r.key.0).kind ≡ true
  unfolding backward_answer backward_checks
  is_past_lem r h =
      let zeroed = done_zero (refusal (backward_checks (rolled_by s) (view s n) (asked r))) h in
      (all_hold (backward_checks (rolled_by s) (view s n) (asked r))
      ((λ z. omega (arith, z)), ((λ z. omega (arith, z)), ((λ z. omega (arith, z)), tt))) zeroed).0

  pub backward_in_range : (r : Request) → net_in_range (applied n (backward_change s n r)) ≡ true
  unfolding backward_change stepped
  backward_in_range r =
      cases (is_done (backward_answer s n r)) (λ h. rw h (undone_in_range r.key (is_past_lem r h)))
      (λ h. rw h (ap net_in_range (refused_stays n (backward_answer s n r)) ∙ good))

-- ---- shapes

present_word : (kind : ℕ) (present : Localities) (l : Locality) → Word present.0 → Word (present_before kind present l).0
unfolding present_before
present_word kind present l h =
    cases (Products.is_newloc kind && is_locality l) (λ t. rw t (excluding_lt locality_count present.0 l.0 h)) (λ t. rw t h)

module _ (s : Script) (n : Net) (v : ShapedNet n) where
  other_shaped : (a : Action) (x t : Slot) → ShapedSlot t → OfPut ShapedSlot (backward_other a x t)
  unfolding back_put
  other_shaped a x t w =
      cases (is_key x.second) (λ h. rw h (λ _. free_shaped))
      (λ h. cases (Products.is_in a.kind) (λ i. rw (h, i) (λ _. same_shaped 3 t w)) (λ i. rw (h, i) (λ _. free_shaped)))

  pub undone_shaped : (k : Key) → ShapedNet (applied n (undone_at s n k))
  unfolding backward_done
  undone_shaped k =
      let x = slot_with n k in
      let found : (i : Key) → ShapedSlot (slot_with n i) = slot_with_lem ShapedSlot n v.at free_shaped in
      applied_shaped n (undone_at s n k) v (present_word (node_with s x.node).kind n.present x.place v.present)
      (record {
        event = λ _. same_shaped 1 x (found k);
        first = λ _. free_shaped;
        other = other_shaped (node_with s x.node) x (slot_with n x.used) (found x.used);
      })

  pub backward_shaped : (r : Request) → ShapedNet (applied n (backward_change s n r))
  unfolding backward_change stepped
  backward_shaped r =
      cases (is_done (backward_answer s n r)) (λ h. rw h (undone_shaped r.key))
      (λ h. rw h (subst ShapedNet (sym (refused_stays n (backward_answer s n r))) v))
