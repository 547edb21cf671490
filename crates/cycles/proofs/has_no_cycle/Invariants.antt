use Rattle.cycles.specs.Following.{Peeled}
use Rattle.cycles.proofs.has_no_cycle.Given as goal

abbrev pub invariant-loop : goal.invariant-loop
invariant-loop l = Peeled l.rows l.initial.left l.left
