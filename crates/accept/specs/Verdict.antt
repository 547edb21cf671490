-- Which nets are accepted (`Ok tt`), and of those that are not, which clause is the first that does not hold (`Err` and its fault).
-- Document 01, "Which nets are accepted". The clauses are the theory's tests (`nets`, `Accepting`), of the net that the image holds.
-- Assumes nothing.
use Rattle.std.specs.Prelude.{Bool, Result, Ok, Err}
use Rattle.laws.specs.Choice.{pick, ◌⇒◌}
use Rattle.laws.specs.Checks.{all}
use Rattle.order.specs.Peeling.{acyclic}
use Rattle.names.specs.Names.{key_count, locality_count}
use Rattle.images.specs.declared.Script.{Script}
use Rattle.images.specs.declared.Net as Image
use Rattle.nets.specs.Net.{Net, events, depends}
use Rattle.nets.specs.Accepting.{agreed, once_each, tuples_right, localities_right, roots_right}
use Rattle.rules.specs.Instance.{rules_of}
use Rattle.rules.specs.Same.{same_body}
use Rattle.rules.specs.View.{view}
use Rattle.accept.specs.declared.Fault.{Fault}

-- every event agrees with its rule, and so does what it made
unfoldable pub all_agree : (s : Script) → Net (rules_of s) → Bool
all_agree s n = all key_count (λ e. events n e ⇒ agreed same_body n e)

unfoldable pub verdict : (s : Script) → Net (rules_of s) → Result (Unit {0}) Fault
verdict s n =
    pick (all_agree s n)
    (pick (once_each locality_count n)
    (pick (tuples_right n)
    (pick (localities_right locality_count n)
    (pick (roots_right n) (pick (acyclic key_count (depends n) (events n)) (Ok tt) (Err Fault.Cycle)) (Err Fault.WrongRoot))
    (Err Fault.WrongLocality))
    (Err Fault.WrongTuple))
    (Err Fault.Twice))
    (Err Fault.Disagrees)

-- of a net that was taken apart
abbrev pub verdict_of : Script → Image.Net → Result (Unit {0}) Fault
verdict_of s n = verdict s (view s n)
