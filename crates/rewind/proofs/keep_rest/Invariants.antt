use Rattle.rewind.specs.Moved.{Moved}
use Rattle.rewind.proofs.keep_rest.Given as goal

abbrev pub invariant-loop-i : goal.invariant-loop-i
invariant-loop-i l = Moved l.initial.input l.from l.i l.input
