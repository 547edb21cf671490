-- What a step of a process makes, by the kind of its node. Document 01, "Forward rules"; 004, Tables VII and X.
-- A step makes a continuation; an out also a tuple, an eval and a split also a process; a newloc also a locality. Forward steps write these,
-- acceptance compares what stands there with them, backward steps remove them.
-- Assumes nothing.
use Rattle.std.specs.Prelude.{ℕ, List, Bool, true, false, ◌&&◌, ◌||◌, eqb, ltb, leb, set, replicate, Option, Some, None}
use Rattle.laws.specs.Choice.{pick, ◌⇒◌}
use Rattle.laws.specs.Lists.{tab}
use Rattle.names.specs.Names.{none, reference_count, key, locality, node, is_locality}
use Rattle.names.specs.Localities.{holds}
use Rattle.names.specs.declared.Key.{Key}
use Rattle.names.specs.declared.Locality.{Locality}
use Rattle.names.specs.declared.Localities.{Localities}
use Rattle.images.specs.Script.{action_at, field_at}
use Rattle.images.specs.Net.{datum0}
use Rattle.images.specs.declared.Field.{Field}
use Rattle.images.specs.declared.Action.{Action}
use Rattle.images.specs.declared.Script.{Script}
use Rattle.images.specs.declared.Datum.{Datum}
use Rattle.images.specs.declared.Slot.{Slot}
use Rattle.matching.specs.Evaluate.{actual, target_of, fields_ready}
use Rattle.matching.specs.Match.{meets, bound, with_variable}
use Rattle.products.specs.Body.{Body, live_process, live_tuple}

-- ---- kinds: "0 nil, 1 out, 2 in, 3 read, 4 newloc, 5 eval, 6 split, 7 roll"
-- "a past process is at kinds 1..6"
abbrev pub is_step : ℕ → Bool
is_step k = leb 1 k && leb k 6

abbrev pub is_out : ℕ → Bool
is_out k = eqb k 1

abbrev pub is_in : ℕ → Bool
is_in k = eqb k 2

abbrev pub is_read : ℕ → Bool
is_read k = eqb k 3

abbrev pub is_newloc : ℕ → Bool
is_newloc k = eqb k 4

abbrev pub is_eval : ℕ → Bool
is_eval k = eqb k 5

abbrev pub is_split : ℕ → Bool
is_split k = eqb k 6

-- an in or a read meets a tuple
abbrev pub meets_tuple : ℕ → Bool
meets_tuple k = is_in k || is_read k

-- an out, an eval and a split make a second key
abbrev pub makes_second : ℕ → Bool
makes_second k = is_out k || (is_eval k || is_split k)

-- out, in, read and eval act at a target
abbrev pub has_target : ℕ → Bool
has_target k = is_out k || (meets_tuple k || is_eval k)

-- out, in and read have fields that are evaluated
abbrev pub has_fields : ℕ → Bool
has_fields k = is_out k || meets_tuple k

-- ---- a node and its target, from a process's variables

abbrev pub number_of : Option Locality → ℕ
number_of (Some l) = l.0
number_of None = 0

abbrev pub is_found : Option Locality → Bool
is_found (Some l) = true
is_found None = false

unfoldable pub target_by : Action → List Datum → ℕ
target_by a vars = number_of (target_of vars a.target)

-- what the node needs can be evaluated: "target or actual variable unset, target no locality" (check 7) is not so
unfoldable pub ready_by : Action → List Datum → Bool
ready_by a vars =
    pick (has_target a.kind) (is_found (target_of vars a.target)) true && pick (has_fields a.kind) (fields_ready vars a) true

-- "targets present": where the node acts at a target, that locality is present (check 8)
unfoldable pub target_there : ℕ → Localities → Locality → Bool
target_there kind present l = has_target kind ⇒ (is_locality l && holds present l)

-- ---- the continuation
-- a locality as what a variable holds
abbrev pub made_datum : Locality → Datum
made_datum l = record { tag = 2; number = l.0 }

-- "an in or read binds its formals, newloc binds its variable"
unfoldable pub variables_after : Action → List Datum → List Datum → Locality → List Datum
variables_after a vars fields l =
    pick (meets_tuple a.kind) (bound vars a fields)
    (pick (is_newloc a.kind) (with_variable vars a.target.number (made_datum l)) vars)

-- "the node's reference, if any, takes the old key"
unfoldable pub references_after : Action → Key → List Key → List Key
references_after a k refs = pick (ltb a.reference.0 reference_count) (set refs a.reference.0 k) refs

-- "a new live process at the same locality, node next, same variables and references, changed thus": of the process with this key, from
-- the fields of the tuple it met, with the locality it made
unfoldable pub continued_by : Action → Key → Body → List Datum → Locality → Body
continued_by a k b fields l =
    record {
      locality = b.locality;
      node = a.next;
      count = 0;
      contents = variables_after a b.contents fields l;
      refs = references_after a k b.refs;
    }

-- ---- the second thing made
-- a field of the tuple that an out with so many fields makes
abbrev pub field_made : List Datum → ℕ → ℕ → Field → Datum
field_made vars count j f = pick (ltb j count) (actual vars f) datum0

-- "out: 4 new tuple at the target": its fields, evaluated
unfoldable pub tuple_by : Action → Body → Body
tuple_by a b =
    record {
      locality = locality (target_by a b.contents);
      node = node 0;
      count = a.count;
      contents = tab 8 (λ j. field_made b.contents a.count j (field_at a j));
      refs = replicate reference_count (key none);
    }

-- "eval: 4 a process at the target, node other, variables and references as before the step, without the new reference";
-- "split: 3 left, 4 right, both unchanged otherwise"
unfoldable pub process_by : Action → Body → Body
process_by a b =
    record {
      locality = pick (is_eval a.kind) (locality (target_by a b.contents)) b.locality;
      node = a.other;
      count = 0;
      contents = b.contents;
      refs = b.refs;
    }

unfoldable pub second_by : Action → Body → Body
second_by a b = pick (is_out a.kind) (tuple_by a b) (process_by a b)

-- ---- the same of a process under a script, by its node
abbrev pub action : Script → Body → Action
action s b = action_at s b.node.0

abbrev pub kind_of : Script → Body → ℕ
kind_of s b = (action s b).kind

abbrev pub target : Script → Body → ℕ
target s b = target_by (action s b) b.contents

abbrev pub is_ready : Script → Body → Bool
is_ready s b = ready_by (action s b) b.contents

-- the tuple meets the process's template
unfoldable pub fits : Script → Body → Body → Bool
fits s b t = meets b.contents (action s b) t.count t.contents

abbrev pub continuation : Script → Key → Body → Body → Locality → Body
continuation s k b t l = continued_by (action s b) k b t.contents l

abbrev pub tuple_made : Script → Body → Body
tuple_made s b = tuple_by (action s b) b

abbrev pub process_made : Script → Body → Body
process_made s b = process_by (action s b) b

abbrev pub second_made : Script → Body → Body
second_made s b = second_by (action s b) b

-- ---- as slots
-- what stands at the second key once it is made: a live tuple, or a live process
unfoldable pub second_slot : Action → Body → Slot
second_slot a b = pick (is_out a.kind) (live_tuple (tuple_by a b)) (live_process (process_by a b))
