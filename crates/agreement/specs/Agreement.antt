-- An event, its rule and what it made, as the code tests them on slots. Nothing here must be believed: `Agreed` proves these tests to be the
-- theory's (`nets`, `Accepting`).
-- In order: the places of an event (`placed_by`); its rule (`tuple_fits`, `ruled_by`); what it made (`stands_as`; `first_stands` and `second_stands`,
-- together `products_stand`); an event that agrees, from what stands beside it (`agrees_by`) and in a net (`agrees_at`), and a slot that agrees if
-- it holds one (`slot_agrees`).
-- Assumes nothing.
use Rattle.std.specs.Prelude.{ℕ, Bool, ◌&&◌, ◌||◌, not, List, eqb, get_or}
use Rattle.laws.specs.Choice.{pick, ◌⇒◌}
use Rattle.laws.specs.Checks.{all}
use Rattle.names.specs.Names.{none, key, is_key, is_node, locality}
use Rattle.names.specs.declared.Key.{Key}
use Rattle.names.specs.declared.Locality.{Locality}
use Rattle.names.specs.declared.Localities.{Localities}
use Rattle.images.specs.Script.{action_at}
use Rattle.images.specs.Net.{datum0, slot_at, slot_with, made_are}
use Rattle.images.specs.declared.Action.{Action}
use Rattle.images.specs.declared.Script.{Script}
use Rattle.images.specs.declared.Datum.{Datum}
use Rattle.images.specs.declared.Slot.{Slot}
use Rattle.images.specs.declared.Net.{Net}
use Rattle.matching.specs.Match.{meets}
use Rattle.products.specs.Body.{body_of, live_process}
use Rattle.products.specs.Products.{is_step, is_out, is_newloc, meets_tuple, makes_second, target_by, target_there, ready_by, continued_by, second_slot}
use Rattle.rules.specs.Instance.{makeable}

-- ---- the places of an event

abbrev pub key_needed : Bool → Key → Bool
key_needed need k = pick need (is_key k) (eqb k.0 none)

abbrev pub place_needed : Bool → Locality → Bool
place_needed need l = pick need (makeable l.0) (eqb l.0 none)

unfoldable pub placed_by : ℕ → Slot → Bool
placed_by kind x =
    is_key x.first &&
    (key_needed (makes_second kind) x.second &&
    (not (eqb x.first.0 x.second.0) && (key_needed (meets_tuple kind) x.used && place_needed (is_newloc kind) x.place)))

-- ---- its rule

-- a tuple, live or consumed
abbrev pub is_tuple : Slot → Bool
is_tuple t = eqb t.kind 3 || eqb t.kind 4

unfoldable pub tuple_fits : Action → List Datum → Locality → Slot → Bool
tuple_fits a vars l t = is_tuple t && (eqb t.locality.0 l.0 && meets vars a t.count t.contents)

unfoldable pub ruled_by : Action → Localities → Slot → Slot → Bool
ruled_by a present x t =
    is_step a.kind &&
    (placed_by a.kind x &&
    (ready_by a x.contents &&
    (target_there a.kind present (locality (target_by a x.contents)) &&
    (meets_tuple a.kind ⇒ tuple_fits a x.contents (locality (target_by a x.contents)) t))))

-- ---- what it made

unfoldable pub same_data : List Datum → List Datum → Bool
same_data a b =
    all 8 (λ j. eqb (get_or a j datum0).tag (get_or b j datum0).tag && eqb (get_or a j datum0).number (get_or b j datum0).number)

unfoldable pub same_refs : List Key → List Key → Bool
same_refs a b = all 4 (λ j. eqb (get_or a j (key 0)).0 (get_or b j (key 0)).0)

unfoldable pub same_record : Slot → Slot → Bool
same_record x y =
    eqb x.locality.0 y.locality.0 &&
    (eqb x.node.0 y.node.0 &&
    (eqb x.count y.count && (same_data x.contents y.contents && same_refs x.refs y.refs)))

-- what was made is there as it was made, or of the kind that it became since
unfoldable pub stands_as : Slot → Slot → ℕ → Bool
stands_as x made since = same_record x made && pick (eqb x.kind made.kind) (made_are none x) (eqb x.kind since)

-- the continuation, from the fields of the tuple that was used
abbrev pub first_stands : Action → Key → Slot → Slot → Slot → Bool
first_stands a k x t first = stands_as first (live_process (continued_by a k (body_of x) t.contents x.place)) 2

unfoldable pub second_stands : Action → Slot → Slot → Bool
second_stands a x second =
    makes_second a.kind ⇒ pick (is_out a.kind) (stands_as second (second_slot a (body_of x)) 4) (stands_as second (second_slot a (body_of x)) 2)

unfoldable pub products_stand : Action → Key → Slot → Slot → Slot → Slot → Bool
products_stand a k x t first second = first_stands a k x t first && second_stands a x second

-- ---- the events of a net

-- the event x with the key k, at the node a; the others stand at the keys that it used and made
unfoldable pub agrees_by : Action → Localities → Key → Slot → Slot → Slot → Slot → Bool
agrees_by a present k x t first second = ruled_by a present x t && products_stand a k x t first second

unfoldable pub agrees_at : Script → Net → Key → Slot → Bool
agrees_at s n k x =
    is_node x.node &&
    agrees_by (action_at s x.node.0) n.present k x (slot_with n x.used) (slot_with n x.first) (slot_with n x.second)

-- a slot that holds no event has nothing to agree with
unfoldable pub slot_agrees : Script → Net → ℕ → Bool
slot_agrees s n k = eqb (slot_at n k).kind 2 ⇒ agrees_at s n (key k) (slot_at n k)
