-- A forward step of a net in range leaves a net in range, of the code's types. The net need not be accepted: the checks of the step say that its
-- process is live, that its fields are set, that its tuple is live, and that its locality is one.
-- In order: what the checks say of the slots (`Passed`, `passed`); the slots that the step puts are in range (`puts_in_range`); the step
-- (`forward_in_range`); the same of shapes (`puts_shaped`, `forward_shaped`).
-- Assumes nothing.
use Rattle.std.specs.Prelude.{ℕ, ◌<◌, ◌≡◌, refl, List, true, ◌&&◌, ◌||◌, eqb, ltb, leb, get_or}
use Rattle.std.proofs.Math.Path.{ap, subst}
use Rattle.std.proofs.Common.{sym, ◌∙◌, arith, eqb-true, ltb-true}
use Rattle.std.proofs.Math.Logic.{by_cases}
use Rattle.std.proofs.Math.Decide.{dec_lt}
use Rattle.std.proofs.lemmas.List.{get_or-replicate}
use Rattle.std.proofs.Math.ListN.{get_or-eq_default}
use Rattle.laws.specs.Choice.{cases, clash, and_left, and_right, or_left, or_cases, told}
use Rattle.laws.specs.Lists.{get_d_tab}
use Rattle.laws.specs.Sets.{including_lt}
use Rattle.names.specs.Names.{key_count, locality_count, node_count, none, below_or_none, is_node, is_locality}
use Rattle.names.specs.declared.Node.{Node}
use Rattle.names.specs.declared.Locality.{Locality}
use Rattle.names.specs.declared.Localities.{Localities}
use Rattle.images.specs.Script.{field0, field_at, script_in_range}
use Rattle.images.specs.Net.{datum0, slot_with, is_free, net_in_range}
use Rattle.images.specs.Read.{nil_action, node_with}
use Rattle.images.specs.Shape.{Word, ShapedAction, ShapedScript, ShapedSlot, ShapedNet}
use Rattle.images.specs.declared.Field.{Field}
use Rattle.images.specs.declared.Action.{Action}
use Rattle.images.specs.declared.Script.{Script}
use Rattle.images.specs.declared.Datum.{Datum}
use Rattle.images.specs.declared.Slot.{Slot}
use Rattle.images.specs.declared.Net.{Net}
use Rattle.matching.specs.Evaluate.{actual, is_variable}
use Rattle.products.specs.Body.{Body, body_of, live_process, live_tuple, is_process}
use Rattle.products.specs.Products.{is_step, is_out, is_in, is_newloc, is_eval, is_split, meets_tuple, makes_second, action, ready_by, field_made, variables_after, continued_by, tuple_by, process_by, tuple_made, process_made, continuation, second_slot}
use Rattle.rules.specs.Instance.{makeable}
use Rattle.rules.specs.Laws.{placed, bound_keeps, with_keeps, after_bound, after_made_lem, after_same}
use Rattle.rules.specs.Forms.{continuation_process, made_tuple, made_process}
use Rattle.rules.specs.Roots.{rolled_by}
use Rattle.rules.specs.View.{view}
use Rattle.agreement.specs.Agreed.{whole_next, whole_tuple, whole_process}
use Rattle.requests.specs.Checks.{refusal, all_hold}
use Rattle.requests.specs.Answers.{in_range, forward_checks}
use Rattle.requests.specs.Requests.{asked, is_done}
use Rattle.requests.specs.declared.Request.{Request}
use Rattle.step.specs.Change.{stepped, applied}
use Rattle.step.specs.Forward.{forward_answer, forward_other, present_after, forward_done, forward_change}
use Rattle.step.specs.Laws.{done_zero, forward_stays}
use Rattle.step.specs.Tests.{tuple_there, second_fresh, place_fresh, names_fresh, forward_tests}
use Rattle.step.specs.Tested.{node_is, forward_tests_lem}
use Rattle.ranges.specs.Slots.{free_in_range_lem, live_in_range, tuple_in_range_lem, consumed_in_range, past_in_range, live_process_lem, live_tuple_lem, process_node, Words, free_shaped, record_shaped, shaped_whole, same_shaped, past_shaped}
use Rattle.ranges.specs.Written.{OfPut, Puts, InRange, slot_with_lem, range_each, applied_in_range, applied_shaped}

-- ---- what the checks say

-- of the process x at the node a, which meets the tuple t
record Passed (a : Action) (x t : Slot) (r : Request) : Type 0 where
  is_live_lem : eqb x.kind 1 ≡ true
  acting : is_step a.kind ≡ true
  ready : ready_by a x.contents ≡ true
  tuple : meets_tuple a.kind ≡ true → eqb t.kind 3 ≡ true
  place : is_newloc a.kind ≡ true → r.place.0 < locality_count

passed : (a : Action) (x t f g : Slot) (present : Localities) (r : Request) → refusal (forward_tests a x t f g present r) ≡ 0 → Passed a x t r
unfolding forward_tests tuple_there names_fresh place_fresh
passed a x t f g present r h =
    let (c4, (c5, (c6, (c7, (c8, (c9, (c10, (c11, _)))))))) =
    all_hold (forward_tests a x t f g present r)
    (λ e. omega arith, (λ e. omega arith, (λ e. omega arith, (λ e. omega arith, (λ e. omega arith, (λ e. omega arith, (λ e. omega arith, (λ e. omega arith, tt)))))))) h in
    let fresh_place = and_right (second_fresh a.kind (is_free g) r) _ (and_right (is_free f) _ c11) in
    record {
      is_live_lem = c4;
      acting = c5;
      ready = c7;
      tuple = λ u. and_left (eqb t.kind 3) _ (told (meets_tuple a.kind) _ c9 u);
      place =
          λ u.
          ltb-true r.place.0 locality_count
          (and_right (leb 8 r.place.0) _ (and_left (makeable r.place.0) _ (told (is_newloc a.kind) _ fresh_place u)));
    }

key_below : (r : Request) → in_range (asked r) ≡ true → r.key.0 < key_count
unfolding in_range
key_below r h = ltb-true r.key.0 key_count (and_left (ltb r.key.0 key_count) _ (and_right (leb r.code 3) _ h))

-- ---- the slots that are put are in range

module _ (s : Script) (w : ShapedScript s) (in-form : script_in_range s ≡ true) (x t : Slot) (x-in : InRange x) (t-in : InRange t)
    (r : Request) (range : in_range (asked r) ≡ true) (c : Passed (action s (body_of x)) x t r) where
  abbrev b : Body
  b = body_of x

  abbrev a : Action
  a = action s b

  process : is_process b ≡ true
  process = live_process_lem x x-in c.is_live_lem

  next_in : InRange (live_process (continued_by a r.key b t.contents r.place))
  next_in =
      live_in_range (continuation s r.key b (body_of t) r.place)
      (continuation_process s w in-form b process c.acting r.key (body_of t) r.place (key_below r range)
      (λ u. live_tuple_lem t t-in (c.tuple u)) c.place)

  -- a live tuple, or a live process
  second_in : makes_second a.kind ≡ true → InRange (second_slot a b)
  unfolding second_slot
  second_in h =
      cases (is_out a.kind)
      (λ o. rw o (tuple_in_range_lem (tuple_made s b) (made_tuple s w in-form b process c.acting o c.ready)))
      (λ o.
      rw o
      (live_in_range (process_made s b)
      (made_process s w in-form b process c.acting
      (or_cases (is_out a.kind) (is_eval a.kind || is_split a.kind) h (λ p. clash (is_out a.kind) p o) (λ p. p)))))

  other_in : OfPut InRange (forward_other a x t r)
  unfolding forward_other
  other_in =
      cases (makes_second a.kind) (λ h. rw h (λ _. second_in h))
      (λ h.
      cases (is_in a.kind)
      (λ i. rw (h, i) (λ _. consumed_in_range (body_of t) (live_tuple_lem t t-in (c.tuple (or_left (is_in a.kind) _ i)))))
      (λ i. rw (h, i) (λ _. free_in_range_lem)))

  puts_in_range : (present : Localities) → Puts InRange (forward_done a x t present r)
  unfolding forward_done
  puts_in_range present =
      record { event = λ _. past_in_range x r range process; first = λ _. next_in; other = other_in }

-- ---- the step

module _ (s : Script) (w : ShapedScript s) (in-form : script_in_range s ≡ true) (n : Net) (v : ShapedNet n) (good : net_in_range n ≡ true)
    (r : Request) (range : in_range (asked r) ≡ true) where
  abbrev at : Slot
  at = slot_with n r.key

  abbrev met : Slot
  met = slot_with n r.used

  done_in_range : is_done (forward_answer s n r) ≡ true → net_in_range (applied n (forward_done (node_with s at.node) at met n.present r)) ≡ true
  unfolding forward_answer
  done_in_range h =
      let zeroed = forward_tests_lem s w.nodes n r ∙ done_zero (refusal (forward_checks (rolled_by s) (view s n) (asked r))) h in
      let checks = passed (node_with s at.node) at met (slot_with n r.first) (slot_with n r.second) n.present r zeroed in
      let at_in = slot_with_lem InRange n (range_each n good) free_in_range_lem r.key in
      let met-in = slot_with_lem InRange n (range_each n good) free_in_range_lem r.used in
      -- a process in range is at a node of the script
      let node : node_with s at.node ≡ action s (body_of at) =
      node_is s at.node (process_node (body_of at) (live_process_lem at at_in checks.is_live_lem)) in
      let there = subst (λ (a : Action). Passed a at met r) node checks in
      applied_in_range n (forward_done (node_with s at.node) at met n.present r) good
      (subst (λ (a : Action). Puts InRange (forward_done a at met n.present r)) (sym node)
      (puts_in_range s w in-form at met at_in met-in r range there n.present))

  pub forward_in_range : net_in_range (applied n (forward_change s n r)) ≡ true
  unfolding forward_change stepped
  forward_in_range =
      cases (is_done (forward_answer s n r)) (λ h. rw h (done_in_range h))
      (λ h. ap net_in_range (forward_stays s w n v.slots r range h) ∙ good)

-- ---- shapes

-- a field's number is one of 32 bits, and past the last field stands none
field_word : (a : Action) → ShapedAction a → (j : ℕ) → Word (field_at a j).number
field_word a w j =
    by_cases (dec_lt j 4) (λ l. w.numbers j l)
    (λ l. subst (λ (f : Field). Word f.number) (sym (get_or-eq_default a.fields field0 {n = j} (omega (arith, w.fields)))) (omega arith))

node_shaped : (s : Script) → ShapedScript s → (k : Node) → ShapedAction (node_with s k)
node_shaped s w k = cases (is_node k) (λ t. rw t (w.at k.0 (ltb-true k.0 node_count t))) (λ t. rw t nil_shaped)
  where
    nil_shaped : ShapedAction nil_action
    nil_shaped =
        record {
          fields = refl;
          numbers = λ j h. subst (λ (f : Field). Word f.number) (sym (get_or-replicate 4 j field0 field0 h)) (omega arith);
        }

place_word : (r : Request) → in_range (asked r) ≡ true → Word r.place.0
unfolding in_range
place_word r h =
    let h₁ = and_right (ltb r.key.0 key_count) _ (and_right (leb r.code 3) _ h) in
    let h₂ = and_right (below_or_none key_count r.first.0) _ (and_right (below_or_none key_count r.used.0) _ h₁) in
    let h₃ = and_right (below_or_none key_count r.second.0) _ h₂ in
    cases (eqb r.place.0 none) (λ e. omega (arith, eqb-true r.place.0 none e))
    (λ e. omega (arith, ltb-true r.place.0 locality_count (rw e at h₃)))

module _ (a : Action) (four : ShapedAction a) (x t : Slot) (wx : ShapedSlot x) (wt : ShapedSlot t) (r : Request) (word : Word r.place.0) where
  after_words : Words (variables_after a x.contents t.contents r.place)
  after_words j l =
      let P : Datum → Type 0 = λ d. Word d.number in
      let Q : List Datum → Type 0 = λ vars. P (get_or vars j datum0) in
      let old = wx.numbers j l in
      cases (meets_tuple a.kind)
      (λ u.
      subst Q (sym (after_bound a x.contents t.contents r.place u))
      (bound_keeps P x.contents a t.contents j (λ i h. wt.numbers i (omega arith)) old))
      (λ u. cases (is_newloc a.kind)
      (λ m.
      subst Q (sym (after_made_lem a x.contents t.contents r.place u m))
      (with_keeps P x.contents a.target.number (placed r.place) j word old))
      (λ m. subst Q (sym (after_same a x.contents t.contents r.place u m)) old))

  next_shaped : ShapedSlot (live_process (continued_by a r.key (body_of x) t.contents r.place))
  unfolding continued_by
  next_shaped =
      let b = continued_by a r.key (body_of x) t.contents r.place in
      record_shaped 1 b (whole_next a r.key (body_of x) t.contents r.place (shaped_whole x wx)) after_words

  -- what a field stands for: a variable's number, or its own
  actual_word : (f : Field) → Word f.number → Word (actual x.contents f).number
  unfolding actual
  actual_word f h =
      cases (is_variable f)
      (λ v. rw v (cases (ltb f.number 8) (λ l. rw l (wx.numbers f.number (ltb-true f.number 8 l))) (λ l. rw l (omega arith))))
      (λ v. rw v h)

  made_word : (j : ℕ) → Word (field_made x.contents a.count j (field_at a j)).number
  made_word j =
      cases (ltb j a.count) (λ l. rw l (actual_word (field_at a j) (field_word a four j))) (λ l. rw l (omega arith))

  tuple_shaped : ShapedSlot (live_tuple (tuple_by a (body_of x)))
  unfolding tuple_by
  tuple_shaped =
      record_shaped 3 (tuple_by a (body_of x)) (whole_tuple a (body_of x))
      (λ j l.
      subst (λ (d : Datum). Word d.number) (sym (get_d_tab 8 (λ j. field_made x.contents a.count j (field_at a j)) j datum0 l)) (made_word j))

  process_shaped : ShapedSlot (live_process (process_by a (body_of x)))
  unfolding process_by
  process_shaped = record_shaped 1 (process_by a (body_of x)) (whole_process a (body_of x) (shaped_whole x wx)) wx.numbers

  other_shaped : OfPut ShapedSlot (forward_other a x t r)
  unfolding forward_other second_slot
  other_shaped =
      cases (makes_second a.kind)
      (λ h. rw h (λ _. cases (is_out a.kind) (λ o. rw o tuple_shaped) (λ o. rw o process_shaped)))
      (λ h. cases (is_in a.kind) (λ i. rw (h, i) (λ _. same_shaped 4 t wt)) (λ i. rw (h, i) (λ _. free_shaped)))

  puts_shaped : (present : Localities) → Puts ShapedSlot (forward_done a x t present r)
  unfolding forward_done
  puts_shaped present = record { event = λ _. past_shaped x r wx; first = λ _. next_shaped; other = other_shaped }

present_word : (kind : ℕ) (present : Localities) (l : Locality) → Word present.0 → Word (present_after kind present l).0
unfolding present_after
present_word kind present l h =
    cases (is_newloc kind && is_locality l)
    (λ t. rw t (including_lt locality_count present.0 l.0 h (ltb-true l.0 locality_count (and_right (is_newloc kind) _ t))))
    (λ t. rw t h)

done_word : (a : Action) (x t : Slot) (present : Localities) (r : Request) → Word present.0 → Word (forward_done a x t present r).present.0
unfolding forward_done
done_word a x t present r h = present_word a.kind present r.place h

module _ (s : Script) (w : ShapedScript s) (n : Net) (v : ShapedNet n) (r : Request) (range : in_range (asked r) ≡ true) where
  pub forward_shaped : ShapedNet (applied n (forward_change s n r))
  unfolding forward_change stepped
  forward_shaped =
      let x = slot_with n r.key in
      let t = slot_with n r.used in
      let a = node_with s x.node in
      let found = slot_with_lem ShapedSlot n v.at free_shaped in
      cases (is_done (forward_answer s n r))
      (λ h.
      rw h
      (applied_shaped n (forward_done a x t n.present r) v (done_word a x t n.present r v.present)
      (puts_shaped a (node_shaped s w x.node) x t (found r.key) (found r.used) r (place_word r range) n.present)))
      (λ h. subst ShapedNet (sym (forward_stays s w n v.slots r range h)) v)
