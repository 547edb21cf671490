-- The forward step: document 01's answer from check 4 on, and what changes. What the checks are is said in `requests`, and what a rule makes in
-- `products`.
-- In order: the process once it is past (`past_slot`); the third slot that changes (`forward_other`); the localities (`present_after`); a step that
-- is done (`forward_done`, `forward_in`); any step (`forward_change`), and what a call gives (`forward_outcome`).
-- Assumes nothing.
use Rattle.std.specs.Prelude.{ℕ, ◌&&◌}
use Rattle.laws.specs.Choice.{pick}
use Rattle.names.specs.Names.{is_locality}
use Rattle.names.specs.Localities.{localities, joined}
use Rattle.names.specs.declared.Locality.{Locality}
use Rattle.names.specs.declared.Localities.{Localities}
use Rattle.images.specs.Net.{slot_with}
use Rattle.images.specs.Read.{node_with}
use Rattle.images.specs.declared.Action.{Action}
use Rattle.images.specs.declared.Script.{Script}
use Rattle.images.specs.declared.Slot.{Slot}
use Rattle.images.specs.declared.Net.{Net}
use Rattle.products.specs.Body.{body_of, fresh, live_process}
use Rattle.products.specs.Products.{is_in, is_newloc, makes_second, continued_by, second_slot}
use Rattle.rules.specs.Roots.{rolled_by}
use Rattle.rules.specs.View.{view}
use Rattle.requests.specs.Checks.{refusal}
use Rattle.requests.specs.Answers.{forward_checks}
use Rattle.requests.specs.Requests.{asked, answer_of}
use Rattle.requests.specs.declared.Request.{Request}
use Rattle.requests.specs.declared.Answer.{Answer}
use Rattle.step.specs.Lent.{Outcome}
use Rattle.step.specs.Change.{Put, Change, put, nowhere, stepped, stepped_to}

-- "The process becomes past and keeps its contents": with the keys it made, the tuple it used and the locality it made
abbrev pub past_slot : Slot → Request → Slot
past_slot x r =
    record {
      kind = 2;
      locality = x.locality;
      node = x.node;
      count = x.count;
      first = r.first;
      second = r.second;
      used = r.used;
      place = r.place;
      contents = x.contents;
      refs = x.refs;
    }

-- an out, an eval and a split make a second thing; an in uses "the tuple, which becomes consumed"
unfoldable pub forward_other : Action → Slot → Slot → Request → Put
forward_other a x t r =
    pick (makes_second a.kind) (put r.second (second_slot a (body_of x)))
    (pick (is_in a.kind) (put r.used (fresh 4 (body_of t))) nowhere)

-- "the new locality, now present"
unfoldable pub present_after : ℕ → Localities → Locality → Localities
present_after kind present l = pick (is_newloc kind && is_locality l) (joined present l) present

-- the step of the process x at the node a, which meets the tuple t
unfoldable pub forward_done : Action → Slot → Slot → Localities → Request → Change
forward_done a x t present r =
    record {
      answer = Answer.Done;
      undone = 0;
      touched = localities 0;
      event = put r.key (past_slot x r);
      first = put r.first (live_process (continued_by a r.key (body_of x) t.contents r.place));
      other = forward_other a x t r;
      present = present_after a.kind present r.place;
    }

-- the step of the process that the request names, in this net, at the node a
unfoldable pub forward_in : Action → Net → Request → Change
forward_in a n r = forward_done a (slot_with n r.key) (slot_with n r.used) n.present r

-- document 01's answer: the first of the checks 4 to 11 that does not hold, and done where all do
unfoldable pub forward_answer : Script → Net → Request → Answer
forward_answer s n r = answer_of (refusal (forward_checks (rolled_by s) (view s n) (asked r)))

unfoldable pub forward_change : Script → Net → Request → Change
forward_change s n r =
    stepped n.present (forward_answer s n r)
    (forward_done (node_with s (slot_with n r.key).node) (slot_with n r.key) (slot_with n r.used) n.present r)

-- what a call of code 0 gives
unfoldable pub forward_outcome : Script → Net → Request → Outcome
forward_outcome s n r = stepped_to n (forward_change s n r)
