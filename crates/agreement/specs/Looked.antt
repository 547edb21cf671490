-- The tests of an event as the code makes them: with the bytes of its node and of its net in hand, and where it acted. They are those of
-- `Agreement`. Nothing here must be believed.
-- In order: the rule applies (`applies_at`) and the second thing stands (`second_stands_at`), of an event that acted at a locality; all of an event
-- in a net (`agrees_in`); the tuple that it used and the node that it is at are read where they lie (`its_tuple`, `its_node`); a slot agrees where it
-- holds no event (`no_event`), and else as its event does (`event_told`). That these tests are the theory's is in proofs/Looked.
-- Assumes nothing.
use Rattle.std.specs.Prelude.{ℕ, ◌≡◌, Bool, true, ◌&&◌, List}
use Rattle.std.proofs.Math.Path.{ap, sym}
use Rattle.std.proofs.Common.{◌∙◌, eq-eqb, ne_eqb, ltb-true}
use Rattle.laws.specs.Choice.{pick, ◌⇒◌}
use Rattle.names.specs.Names.{key_count, node_count, key, is_key, is_node}
use Rattle.names.specs.declared.Key.{Key}
use Rattle.names.specs.declared.Locality.{Locality}
use Rattle.names.specs.declared.Node.{Node}
use Rattle.images.specs.Head.{part_at}
use Rattle.images.specs.Script.{action_at}
use Rattle.images.specs.Net.{slot_at, slot_with}
use Rattle.images.specs.Read.{action_of, script_of, slot_of, net_of}
use Rattle.images.specs.InPlace.{slot_part, node_part}
use Rattle.images.specs.declared.Action.{Action}
use Rattle.images.specs.declared.Script.{Script}
use Rattle.images.specs.declared.Slot.{Slot}
use Rattle.images.specs.declared.Net.{Net}
use Rattle.products.specs.Body.{body_of}
use Rattle.products.specs.Products.{is_step, is_out, meets_tuple, makes_second, target_there}
use Rattle.products.specs.Acting.{second_at}
use Rattle.agreement.specs.Agreement.{placed_by, tuple_fits, stands_as, agrees_by, agrees_at, slot_agrees}

-- the rule of its node applies to the event x, which acted at l
unfoldable pub applies_at : Action → Slot → Locality → Net → Bool
applies_at a x l n =
    is_step a.kind &&
    (placed_by a.kind x &&
    (target_there a.kind n.present l && (meets_tuple a.kind ⇒ tuple_fits a x.contents l (slot_with n x.used))))

-- what is made at l stands there
unfoldable pub second_stands_at : Action → Slot → Locality → Slot → Bool
second_stands_at a x l second =
    makes_second a.kind ⇒
    pick (is_out a.kind) (stands_as second (second_at a (body_of x) l) 4) (stands_as second (second_at a (body_of x) l) 2)

-- the event x with the key k agrees with the rule of the node a
abbrev pub agrees_in : Action → Key → Slot → Net → Bool
agrees_in a k x n = agrees_by a n.present k x (slot_with n x.used) (slot_with n x.first) (slot_with n x.second)

-- ---- what is looked up where it lies

-- the tuple that it used
pub its_tuple : (b : List ℕ) (k : Key) → true ≡ is_key k → slot_of (part_at 56 b k.0) ≡ slot_with (net_of b) k
its_tuple b k named = rw (sym named) (slot_part b k.0 (ltb-true k.0 key_count (sym named)))

-- the node that it is at
pub its_node : (b : List ℕ) (m : Node) → true ≡ is_node m → action_of (part_at 32 b m.0) ≡ action_at (script_of b) m.0
its_node b m named = node_part b m.0 (ltb-true m.0 node_count (sym named))

-- ---- a slot x, as it was looked up

module _ (s : Script) (n : Net) (k : ℕ) {x : Slot} (is_x : x ≡ slot_at n k) where
  -- a slot that holds no event agrees
  pub no_event : (x.kind ≡ 2 → ⊥) → slot_agrees s n k ≡ true
  unfolding slot_agrees
  no_event idle =
      ap (λ (b : Bool). b ⇒ agrees_at s n (key k) (slot_at n k)) (ne_eqb (slot_at n k).kind 2 (λ e. idle (ap (λ (y : Slot). y.kind) is_x ∙ e)))

  -- a slot that holds one agrees as its event does
  pub event_told : {b r : Bool} → x.kind ≡ 2 → b ≡ agrees_at s n (key k) (slot_at n k) → b ≡ r → slot_agrees s n k ≡ r
  unfolding slot_agrees
  event_told event is_b is-r =
      ap (λ (b : Bool). b ⇒ agrees_at s n (key k) (slot_at n k)) (eq-eqb (slot_at n k).kind 2 (sym (ap (λ (y : Slot). y.kind) is_x) ∙ event)) ∙
      sym is_b ∙
      is-r
