-- A forward step on the lent bytes of good images.
-- In order: the process of a request is at a node of the lent script (`has_node`, `node_here`); what a call gives where a check refuses it (`forward_refused`),
-- and where it is written (`forward_done_lem`).
-- Assumes nothing.
use Rattle.std.specs.Prelude.{ℕ, ◌<◌, ◌≡◌, true, List, eqb, leb, Ok, Err}
use Rattle.std.proofs.Math.Path.{refl, ap, subst}
use Rattle.std.proofs.Common.{sym, ◌∙◌, arith, eqb-true, ltb-true, lt-ltb}
use Rattle.laws.specs.Checks.{all_at}
use Rattle.laws.specs.Choice.{cases, and_left, and_right}
use Rattle.laws.specs.Words.{Bytes}
use Rattle.names.specs.Names.{key_count, node_count, is_node, is_locality}
use Rattle.names.specs.Localities.{localities}
use Rattle.images.specs.Head.{part_at}
use Rattle.images.specs.Net.{slot_at, slot_with, slot_in_range, net_in_range, free_in_range, process_in_range, tuple_in_range, made_are, made_in_range}
use Rattle.images.specs.InPlace.{node_part}
use Rattle.images.specs.Read.{action_of, script_of, net_of, node_with}
use Rattle.images.specs.Round.{shaped_script}
use Rattle.images.specs.Sizes.{node_size}
use Rattle.images.specs.declared.Action.{Action}
use Rattle.images.specs.declared.Script.{Script}
use Rattle.images.specs.declared.Slot.{Slot}
use Rattle.images.specs.declared.Net.{Net}
use Rattle.requests.specs.Answers.{in_range}
use Rattle.requests.specs.Checks as C
use Rattle.requests.specs.Requests.{asked, answer_of, refusal, is_done}
use Rattle.requests.specs.declared.Answer.{Answer}
use Rattle.requests.specs.declared.Request.{Request}
use Rattle.requests.specs.declared.Told.{Told}
use Rattle.step.specs.Lent.{Lent, told_done}
use Rattle.step.specs.Change.{stepped_yes, stepped_no}
use Rattle.step.specs.Forward.{forward_in, forward_change, forward_done, forward_answer, forward_outcome}
use Rattle.step.specs.Tested.{forward_answered}
use Rattle.step.specs.Allowed.{allowed_by, forward_found, refused_found, at_found, in_range_key, slot_with_lem}
use Rattle.step.specs.Stepped.{Serves}
use Rattle.step.proofs.Stepped.{change_refused, change_written}
use Rattle.step.specs.InPlace.{change_bytes}

-- ---- the node

-- a slot in its form names a node: its own, or 0 where it has none
slot_node : (x : Slot) → slot_in_range x ≡ true → is_node x.node ≡ true
unfolding slot_in_range free_in_range process_in_range tuple_in_range
slot_node x h =
    let zero : eqb x.node.0 0 ≡ true → is_node x.node ≡ true = λ e. lt-ltb x.node.0 node_count (omega (arith, eqb-true x.node.0 0 e)) in
    cases (eqb x.kind 0)
    (λ k. zero (and_left _ _ (and_right (eqb x.locality.0 0) _ (rw k at h))))
    (λ k.
    cases (eqb x.kind 1)
    (λ l. and_left _ _ (and_right (is_locality x.locality) _ (and_right (made_are 255 x) _ (rw (k, l) at h))))
    (λ l.
    cases (eqb x.kind 2)
    (λ p. and_left _ _ (and_right (is_locality x.locality) _ (and_right (made_in_range x) _ (rw (k, l, p) at h))))
    (λ p. zero (and_left _ _ (and_right (is_locality x.locality) _ (and_right (leb x.kind 4) _ (rw (k, l, p) at h)))))))

module _ (S N : List ℕ) (lent : Lent S N) (r : Request) (range : in_range (asked r) ≡ true) where
  abbrev s : Script
  s = script_of S

  abbrev n : Net
  n = net_of N

  abbrev x : Slot
  x = slot_with n r.key

  abbrev a : Action
  a = node_with s x.node

  is_node_lem : is_node x.node ≡ true
  unfolding net_in_range
  is_node_lem =
      let l = in_range_key r range in
      ap (λ (z : Slot). is_node z.node) (sym (slot_with_lem n r.key l)) ∙
      slot_node (slot_at n r.key.0) (all_at key_count (λ i. slot_in_range (slot_at n i)) lent.good.net r.key.0 l)

  pub has_node : (y : Slot) → y ≡ x → y.node.0 < node_count
  has_node y is = subst (λ (z : Slot). z.node.0 < node_count) (sym is) (ltb-true x.node.0 node_count is_node_lem)

  pub node_here : (y : Slot) → y ≡ x → (p : List ℕ) → p ≡ part_at node_size S y.node.0 → action_of p ≡ a
  node_here y is p at =
      ap action_of at ∙ ap (λ (z : Slot). action_of (part_at node_size S z.node.0)) is ∙ node_part S x.node.0 (has_node x refl) ∙ rw is_node_lem refl

  -- ---- what a call gives

  module _ (bytesS : Bytes S) (bytes : Bytes N) where
    answer_is : answer_of (C.refusal (forward_found a n r)) ≡ forward_answer s n r
    unfolding forward_found
    answer_is = forward_answered s (shaped_script S bytesS).nodes n r

    pub forward_refused : (q : Answer) → allowed_by a n r ≡ Err q → (z : Told) → z ≡ refusal q → Serves z N (forward_outcome s n r) N
    unfolding forward_outcome forward_change
    forward_refused q e z is-z =
        let (is, h) = refused_found a n r q e in
        change_refused S N lent bytes (forward_change s n r) n.present q (ap is_done is ∙ h)
        (stepped_no n.present (forward_answer s n r) q (is ∙ answer_is) _ _ (ap is_done is ∙ h) refl) z is-z

    pub forward_done_lem : {l : _} → allowed_by a n r ≡ Ok l → (z : Told) → z ≡ told_done 0 (localities 0) → (last : List ℕ)
        → last ≡ change_bytes (forward_in a n r) N → Serves z last (forward_outcome s n r) N
    unfolding forward_outcome forward_change forward_in forward_done
    forward_done_lem {l} e z is-z last is_last =
        let (h, at) = at_found a n r l e in
        change_written S N lent bytes (forward_change s n r) (forward_in a n r) refl
        (stepped_yes n.present (forward_answer s n r) _ answer_is _ _ h refl) z is-z last is_last
