-- The checks that the code makes on slots are the checks of `requests`, of the net that the slots are from.
-- In order: a node of a script, by its number (`node_is`, `no_node`); check by check, of a forward step (`forward_tests_lem`); the answer of a
-- forward step from the slots (`forward_answered`).
-- Assumes nothing.
use Rattle.std.specs.Prelude.{ℕ, ◌≡◌, Bool, true, false, ◌&&◌, not, List, [], ◌∷◌, eqb, ltb, leb, length}
use Rattle.std.proofs.Math.Path.{refl, ap, sym}
use Rattle.std.proofs.Common.{◌∙◌, arith, ltb-false}
use Rattle.std.proofs.Math.ListN.{get_or-eq_default}
use Rattle.laws.specs.Choice.{cases, ◌⇒◌, and_right, or_left, or_right}
use Rattle.laws.specs.Sets.{member}
use Rattle.names.specs.Names.{node_count, locality_count, locality, is_node}
use Rattle.names.specs.declared.Node.{Node}
use Rattle.names.specs.declared.Locality.{Locality}
use Rattle.images.specs.Script.{action0, action_at}
use Rattle.images.specs.Net.{slot_with, is_free}
use Rattle.images.specs.Read.{node_with}
use Rattle.images.specs.declared.Action.{Action}
use Rattle.images.specs.declared.Script.{Script}
use Rattle.images.specs.declared.Slot as Image
use Rattle.images.specs.declared.Net as Images
use Rattle.nets.specs.Rules.{Act, acts, uses, aims}
use Rattle.nets.specs.Net as N
use Rattle.nets.specs.Net.{is_live}
use Rattle.products.specs.Products
use Rattle.products.specs.Products.{is_step, target_by, target_there, ready_by, fits}
use Rattle.products.specs.Acting.{acts_at, acts_there, acts_target}
use Rattle.rules.specs.Instance.{act_of, makeable, rules_of}
use Rattle.rules.specs.Acts.{uses_is, acts_is, aims_is, there_is, newloc_is}
use Rattle.rules.specs.Roots.{rolled_by}
use Rattle.rules.specs.View.{view, view_with, view_present, live_is, tuple_is, free_is}
use Rattle.requests.specs.Checks.{refusal, check}
use Rattle.requests.specs.Checks as C
use Rattle.requests.specs.Answers as A
use Rattle.requests.specs.Answers.{places_of, forward_checks}
use Rattle.requests.specs.Requests.{asked, answer_of}
use Rattle.requests.specs.declared.Request.{Request}
use Rattle.step.specs.Tests.{places_by, tuple_there, template_met, second_fresh, place_fresh, names_fresh, forward_tests}
use Rattle.step.specs.Forward.{forward_answer}

-- ---- a node, by its number

pub node_is : (s : Script) (k : Node) → is_node k ≡ true → node_with s k ≡ action_at s k.0
node_is s k h = rw h

-- past the last node there is none, and what stands there does nothing
pub no_node : (s : Script) → length s.nodes ≡ node_count → (k : Node) → is_node k ≡ false → ((node_with s k).kind ≡ 0) × ((action_at s k.0).kind ≡ 0)
no_node s nodes k h = (
  rw h,
  ap (λ (a : Action). a.kind) (get_or-eq_default s.nodes action0 {n = k.0} (omega (arith, nodes, ltb-false k.0 node_count h))),
)

pub kind_is : (s : Script) → length s.nodes ≡ node_count → (k : Node) → (node_with s k).kind ≡ (action_at s k.0).kind
kind_is s nodes k =
    cases (is_node k) (λ h. ap (λ (a : Action). a.kind) (node_is s k h))
    (λ h. (no_node s nodes k h).0 ∙ sym (no_node s nodes k h).1)

-- ---- places and fresh names

places_is : (k : ℕ) (r : Request) → places_by k r ≡ places_of (act_of k) (asked r)
unfolding places_by places_of
places_is k r = rw (uses_is k, there_is k, newloc_is k)

-- a locality that needs a maker is one that the set may hold
place_is : (s : Script) (n : Images.Net) (p : ℕ) → (makeable p && not (member n.present.0 p)) ≡ (makeable p && not ((view s n).present p))
place_is s n p =
    cases (makeable p)
    (λ t. rw (t, view_present s n p, and_right (leb 8 p) (ltb p locality_count) t))
    (λ t. rw t)

module _ (s : Script) (n : Images.Net) (r : Request) where
  abbrev W : N.Net (rules_of s)
  W = view s n

  abbrev x : Image.Slot
  x = slot_with n r.key

  abbrev t : Image.Slot
  t = slot_with n r.used

  abbrev a : Action
  a = node_with s x.node

  -- the checks of a forward step, with the node in hand
  module _ (b : Action) (there : action_at s x.node.0 ≡ b) where
    live_check : eqb x.kind 1 ≡ is_live (W.slot r.key.0).kind
    live_check = rw (view_with s n r.key) (sym (live_is x.kind))

    ready_check : ready_by b x.contents ≡ (rules_of s).ready (W.slot r.key.0).body
    ready_check = rw (view_with s n r.key, there)

    act_is : (rules_of s).act (W.slot r.key.0).body ≡ act_of b.kind
    act_is =
        ap (λ (z : N.Slot (rules_of s)). (rules_of s).act z.body) (view_with s n r.key) ∙ ap (λ (y : Action). act_of y.kind) there

    at_target : target_there b.kind n.present (locality (target_by b x.contents)) ≡ (aims ((rules_of s).act (W.slot r.key.0).body) ⇒ W.present ((rules_of s).target (W.slot r.key.0).body))
    unfolding target_there
    at_target = rw (act_is, aims_is b.kind, view_with s n r.key, there, view_present s n (target_by b x.contents))

    target_check : target_there b.kind n.present (acts_at b x.locality x.contents) ≡ (aims ((rules_of s).act (W.slot r.key.0).body) ⇒ W.present ((rules_of s).target (W.slot r.key.0).body))
    target_check = acts_there b x.locality x.contents n.present ∙ at_target

    acts_tuple : tuple_there b.kind t (acts_at b x.locality x.contents) ≡ tuple_there b.kind t (locality (target_by b x.contents))
    unfolding tuple_there
    acts_tuple =
        cases (Products.meets_tuple b.kind)
        (λ m. ap (λ (l : Locality). tuple_there b.kind t l) (acts_target b x.locality x.contents (or_right (Products.is_out b.kind) _ (or_left (Products.meets_tuple b.kind) _ m))))
        (λ m. rw m)

    at_tuple : tuple_there b.kind t (locality (target_by b x.contents)) ≡ (uses ((rules_of s).act (W.slot r.key.0).body) ⇒ A.tuple_there (rolled_by s) W (asked r))
    unfolding tuple_there A.tuple_there
    at_tuple = rw (act_is, uses_is b.kind, view_with s n r.key, view_with s n r.used, there, tuple_is t.kind)

    tuple_check : tuple_there b.kind t (acts_at b x.locality x.contents) ≡ (uses ((rules_of s).act (W.slot r.key.0).body) ⇒ A.tuple_there (rolled_by s) W (asked r))
    tuple_check = acts_tuple ∙ at_tuple

    match_check : template_met b x.contents t ≡ (uses ((rules_of s).act (W.slot r.key.0).body) ⇒ (rules_of s).fits (W.slot r.key.0).body (W.slot r.used.0).body)
    unfolding template_met fits
    match_check = rw (act_is, uses_is b.kind, view_with s n r.key, view_with s n r.used, there)

    fresh_check : names_fresh b.kind (is_free (slot_with n r.first)) (is_free (slot_with n r.second)) n.present r ≡ A.fresh_free (rolled_by s) W (asked r)
    unfolding names_fresh second_fresh place_fresh A.fresh_free
    fresh_check =
        rw (
          act_is,
          there_is b.kind,
          newloc_is b.kind,
          view_with s n r.first,
          view_with s n r.second,
          free_is (slot_with n r.first).kind,
          free_is (slot_with n r.second).kind,
          ← place_is s n r.place.0,
        )

    acts_check : is_step b.kind ≡ acts ((rules_of s).act (W.slot r.key.0).body)
    acts_check = sym (ap acts act_is ∙ acts_is b.kind)

    places_check : places_by b.kind r ≡ places_of ((rules_of s).act (W.slot r.key.0).body) (asked r)
    places_check = places_is b.kind r ∙ ap (λ (z : Act). places_of z (asked r)) (sym act_is)

-- a refusal by the second check does not look further
second_fails : (b c d e : Bool) (cs ds : List C.Check) → b ≡ c → d ≡ false → e ≡ false → refusal (check 4 b ∷ check 5 d ∷ cs) ≡ refusal (check 4 c ∷ check 5 e ∷ ds)
unfolding refusal
second_fails b c d e cs ds p q o = rw (p, q, o)

module _ (s : Script) (nodes : length s.nodes ≡ node_count) (n : Images.Net) (r : Request) where
  -- the answers agree: check by check where the process is at a node, and by check 5 where there is no such node
  pub forward_tests_lem : refusal (forward_tests (a s n r) (x s n r) (t s n r) (slot_with n r.first) (slot_with n r.second) n.present r) ≡ refusal (forward_checks (rolled_by s) (W s n r) (asked r))
  unfolding forward_tests forward_checks
  forward_tests_lem =
      cases (is_node (x s n r).node)
      (λ h.
      let there : action_at s (x s n r).node.0 ≡ a s n r = sym (node_is s (x s n r).node h) in
      λ i.
      refusal
      (check 4 (live_check s n r (a s n r) there i) ∷ check 5 (acts_check s n r (a s n r) there i) ∷
      check 6 (places_check s n r (a s n r) there i) ∷ check 7 (ready_check s n r (a s n r) there i) ∷
      check 8 (target_check s n r (a s n r) there i) ∷ check 9 (tuple_check s n r (a s n r) there i) ∷
      check 10 (match_check s n r (a s n r) there i) ∷ check 11 (fresh_check s n r (a s n r) there i) ∷ []))
      (λ h.
      let (here, there) = no_node s nodes (x s n r).node h in
      let same = live_check s n r (action_at s (x s n r).node.0) refl in
      let does_not = sym (acts_check s n r (action_at s (x s n r).node.0) refl) ∙ ap is_step there in
      second_fails _ _ _ _ _ _ same (ap is_step here) does_not)

  -- ---- the forward step, from the slots that the code looks at

  pub forward_answered : answer_of (refusal (forward_tests (a s n r) (x s n r) (t s n r) (slot_with n r.first) (slot_with n r.second) n.present r)) ≡ forward_answer s n r
  unfolding forward_answer
  forward_answered = ap answer_of forward_tests_lem
