-- What a rollback and a roll give: document 01's answer from check 4 on, how many events were undone, the localities touched, and the net.
-- In order: a set of events undone (`undone_all`, `undone_done`), and an event with its dependents (`rolled_back`); rollback of the named event
-- (`rollback_answer`, `rollback_outcome`); roll by the named live process (`roll_answer`, `roll_outcome`).
-- Assumes nothing.
use Rattle.std.specs.Prelude.{ℕ, ◌≡◌, refl, true}
use Rattle.order.specs.KeySets.{Set, count}
use Rattle.order.specs.Words.{word_of}
use Rattle.names.specs.Names.{key_count, locality_count}
use Rattle.names.specs.Localities.{localities}
use Rattle.images.specs.declared.Script.{Script}
use Rattle.images.specs.declared.Net.{Net}
use Rattle.nets.specs.Net.{dependents}
use Rattle.nets.specs.Undo.{undo_set, touched}
use Rattle.rules.specs.Roots.{rolled_by}
use Rattle.rules.specs.View.{view}
use Rattle.rules.specs.Image.{image_of}
use Rattle.requests.specs.Checks.{refusal}
use Rattle.requests.specs.Answers.{rollback_checks, roll_checks}
use Rattle.requests.specs.Requests.{asked, is_done, answer_of}
use Rattle.requests.specs.declared.Request.{Request}
use Rattle.requests.specs.declared.Answer.{Answer}
use Rattle.step.specs.Lent.{Outcome, done, outcome_by}

-- these events undone: their number, the localities at which that frees a slot, and the net
unfoldable pub undone_all : Script → Net → Set → Outcome
undone_all s n D =
    done (count key_count D) (localities (word_of locality_count (touched (view s n) (undo_set (view s n) D)))) (image_of s (undo_set (view s n) D))

pub undone_done : (s : Script) (n : Net) (D : Set) → is_done (undone_all s n D).answer ≡ true
unfolding undone_all
undone_done s n D = refl

-- "Rollback undoes all dependents."
abbrev pub rolled_back : Script → Net → ℕ → Outcome
rolled_back s n e = undone_all s n (dependents (view s n) e)

-- "2 rollback of the named event": the first of the checks 4 to 6 that does not hold, and done where all do
unfoldable pub rollback_answer : Script → Net → Request → Answer
rollback_answer s n r = answer_of (refusal (rollback_checks (rolled_by s) (view s n) (asked r)))

unfoldable pub rollback_outcome : Script → Net → Request → Outcome
rollback_outcome s n r = outcome_by n (rollback_answer s n r) (rolled_back s n r.key.0)

-- "3 roll by the named live process": the first of the checks 4 to 7 that does not hold; the event is the one that its reference holds
unfoldable pub roll_answer : Script → Net → Request → Answer
roll_answer s n r = answer_of (refusal (roll_checks (rolled_by s) (view s n) (asked r)))

unfoldable pub roll_outcome : Script → Net → Request → Outcome
roll_outcome s n r =
    outcome_by n (roll_answer s n r) (rolled_back s n (rolled_by s ((view s n).slot r.key.0).body))
