use Rattle.cycles.specs.Laws.{Passing}
use Rattle.cycles.specs.Laws.{Kept}
use Rattle.cycles.proofs.peels_away.Given as goal

abbrev pub invariant-loop-to_come : goal.invariant-loop-to_come
invariant-loop-to_come l = Passing l.rows l.left l.rest l.to_come

abbrev pub decreases-loop-to_come : goal.decreases-loop-to_come
decreases-loop-to_come l = l.to_come.0

abbrev pub invariant-loop-turn : goal.invariant-loop-turn
invariant-loop-turn l = Kept l.rows l.initial.left l._turn l.left
