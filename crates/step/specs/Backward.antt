-- The backward step: document 01's answer from check 4 on, and what changes: "what it made becomes free or absent, a consumed tuple is live
-- again, and it is live as before".
-- In order: the third slot that changes (`backward_other`); the localities (`present_before`); those touched (`freed_at`); a step that is done
-- (`backward_done`, `undone_at`); any step (`backward_change`), and what a call gives (`backward_outcome`); the request that undoes an event (`undoing`).
-- Assumes nothing.
use Rattle.std.specs.Prelude.{ℕ, ◌&&◌}
use Rattle.laws.specs.Choice.{pick}
use Rattle.names.specs.Names.{none, key, locality, is_key, is_locality}
use Rattle.names.specs.Localities.{localities, joined, parted}
use Rattle.names.specs.declared.Key.{Key}
use Rattle.names.specs.declared.Locality.{Locality}
use Rattle.names.specs.declared.Localities.{Localities}
use Rattle.images.specs.Net.{free_slot, slot_with}
use Rattle.images.specs.Read.{node_with}
use Rattle.images.specs.declared.Action.{Action}
use Rattle.images.specs.declared.Script.{Script}
use Rattle.images.specs.declared.Slot.{Slot}
use Rattle.images.specs.declared.Net.{Net}
use Rattle.products.specs.Body.{body_of, live_process, live_tuple}
use Rattle.products.specs.Products.{is_in, is_newloc}
use Rattle.rules.specs.Roots.{rolled_by}
use Rattle.rules.specs.View.{view}
use Rattle.requests.specs.Checks.{refusal}
use Rattle.requests.specs.Answers.{backward_checks}
use Rattle.requests.specs.Requests.{asked, answer_of}
use Rattle.requests.specs.declared.Request.{Request}
use Rattle.requests.specs.declared.Answer.{Answer}
use Rattle.step.specs.Lent.{Outcome}
use Rattle.step.specs.Change.{Put, Change, put, nowhere, stepped, stepped_to}

-- the second thing made becomes free, or the tuple that an in took is live again
unfoldable pub back_put : ℕ → Key → Key → Slot → Put
back_put kind second used t =
    pick (is_key second) (put second free_slot) (pick (is_in kind) (put used (live_tuple (body_of t))) nowhere)

abbrev pub backward_other : Action → Slot → Slot → Put
backward_other a x t = back_put a.kind x.second x.used t

unfoldable pub present_before : ℕ → Localities → Locality → Localities
present_before kind present l = pick (is_newloc kind && is_locality l) (parted present l) present

-- "the localities at which a slot became free": with that of the slot x at the key k
unfoldable pub freed_at : Localities → Key → Slot → Localities
freed_at set k x = pick (is_key k && is_locality x.locality) (joined set x.locality) set

-- the event x at the node a is undone; first, second and t stand at the keys that it made and used
unfoldable pub backward_done : Action → Slot → Slot → Slot → Slot → Localities → Key → Change
backward_done a x first second t present k =
    record {
      answer = Answer.Done;
      undone = 1;
      touched = freed_at (freed_at (localities 0) x.first first) x.second second;
      event = put k (live_process (body_of x));
      first = put x.first free_slot;
      other = backward_other a x t;
      present = present_before a.kind present x.place;
    }

-- document 01's answer: the first of the checks 4, 6 and 12 that does not hold, and done where all do
unfoldable pub backward_answer : Script → Net → Request → Answer
backward_answer s n r = answer_of (refusal (backward_checks (rolled_by s) (view s n) (asked r)))

-- the event is undone
abbrev pub undone_at : Script → Net → Key → Change
undone_at s n k =
    backward_done (node_with s (slot_with n k).node) (slot_with n k) (slot_with n (slot_with n k).first) (slot_with n (slot_with n k).second)
    (slot_with n (slot_with n k).used) n.present k

unfoldable pub backward_change : Script → Net → Request → Change
backward_change s n r = stepped n.present (backward_answer s n r) (undone_at s n r.key)

-- what a call of code 1 gives
unfoldable pub backward_outcome : Script → Net → Request → Outcome
backward_outcome s n r = stepped_to n (backward_change s n r)

-- the request that undoes an event
abbrev pub undoing : Key → Request
undoing k = record { code = 1; key = k; used = key none; first = key none; second = key none; place = locality none }
