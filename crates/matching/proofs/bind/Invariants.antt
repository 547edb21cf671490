use Rattle.std.proofs.Common.{◌≡◌}
use Rattle.matching.specs.Match.{bind_up_to}
use Rattle.matching.proofs.bind.Given as goal

abbrev pub invariant-loop-j : goal.invariant-loop-j
invariant-loop-j l = l.next ≡ bind_up_to l.j l.initial.next l.a l.tuple
