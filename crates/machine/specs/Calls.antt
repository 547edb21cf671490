-- One call on bytes, as a customer reads it: script, net and request are any byte strings; the answer, undone and touched; and the bytes of the
-- net after it. Document 01, "Requests and what comes back".
-- In order: the images as they are read (`script_in`, `net_in`) and whether they are good (`good_script`, `good_net`, `image_answer`, `GoodImages`); a request on good images, by the
-- theory's outcome (`served`); a reply (`Reply`), a refusal that leaves the net (`refused_with`); the reply to a call (`reply`).
-- Assumes nothing.
use Rattle.std.specs.Prelude.{ℕ, ◌≡◌, Bool, true, ◌&&◌, List, Option, Some, None, is_some, unwrap_or}
use Rattle.laws.specs.Choice.{pick}
use Rattle.names.specs.Localities.{localities}
use Rattle.images.specs.Net.{empty_net}
use Rattle.images.specs.Read.{nil_script, read_script, read_net}
use Rattle.images.specs.declared.Script.{Script}
use Rattle.images.specs.declared.Net.{Net}
use Rattle.rules.specs.Instance.{rules_of}
use Rattle.rules.specs.Roots.{rolled_by}
use Rattle.rules.specs.Same.{is_accepted}
use Rattle.rules.specs.View.{view}
use Rattle.rules.specs.Image.{image_of}
use Rattle.requests.specs.Answers as Theory
use Rattle.requests.specs.Requests.{asked, is_done, answer_of, refusal, read_request}
use Rattle.requests.specs.declared.Request.{Request}
use Rattle.requests.specs.declared.Answer.{Answer}
use Rattle.requests.specs.declared.Told.{Told}
use Rattle.step.specs.Lent.{Outcome, told, lent_after}

-- ---- the images

-- the script that the bytes hold; of nil nodes where they hold none
abbrev pub script_in : List ℕ → Script
script_in b = unwrap_or (read_script b) nil_script

-- the net that they hold; the empty one where they hold none
abbrev pub net_in : List ℕ → Net
net_in b = unwrap_or (read_net b) empty_net

-- 1: "script's length or form"
abbrev pub good_script : List ℕ → Bool
good_script b = is_some (read_script b)

-- 2: "net not accepted"
unfoldable pub good_net : Script → List ℕ → Bool
good_net s b = is_some (read_net b) && is_accepted s (view s (net_in b))

unfoldable pub image_answer : List ℕ → List ℕ → Answer
image_answer script net = pick (good_script script) (pick (good_net (script_in script) net) Answer.Done Answer.BadNet) Answer.BadScript

-- neither 1 nor 2 is the answer
abbrev pub GoodImages : List ℕ → List ℕ → Type 0
GoodImages script net = is_done (image_answer script net) ≡ true

-- ---- a request on good images

-- what the theory says of it, in the machine's types
unfoldable pub told_by : (s : Script) → Theory.Outcome (rules_of s) → Outcome
told_by s o =
    record { answer = answer_of o.answer; undone = o.undone; touched = localities o.touched; net = image_of s o.net }

abbrev pub served : Script → Net → Request → Outcome
served s n r = told_by s (Theory.outcome (rolled_by s) (view s n) (asked r))

-- ---- a call

pub record Reply : Type 0 where
  pub told : Told
  pub net : List ℕ

-- "any refusal leaves the net, with undone 0 and touched 0"
abbrev pub refused_with : Answer → List ℕ → Reply
refused_with a net = record { told = refusal a; net = net }

-- 3: "request not 6 bytes; code above 3; key above 63; others neither 255 nor in range"
abbrev pub reply_to : Script → Net → List ℕ → Option Request → Reply
reply_to s n net (Some r) = record { told = told (served s n r); net = lent_after (served s n r) net }
reply_to s n net None = refused_with Answer.BadRequest net

-- "Checks run in number order": those of the images, and then those of the request
unfoldable pub reply : List ℕ → List ℕ → List ℕ → Reply
reply script net request =
    pick (is_done (image_answer script net)) (reply_to (script_in script) (net_in net) net (read_request request))
    (refused_with (image_answer script net) net)
