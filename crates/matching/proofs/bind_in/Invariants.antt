use Rattle.std.proofs.Common.{◌≡◌}
use Rattle.matching.specs.Bound.{bound_up_to}
use Rattle.matching.proofs.bind_in.Given as goal

abbrev pub invariant-loop-j : goal.invariant-loop-j
invariant-loop-j l = l.net ≡ bound_up_to l.j l.a l.met l.k l.initial.net
