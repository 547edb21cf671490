use Rattle.std.proofs.Common.{◌≡◌}
use Rattle.images.specs.Read.{net_of}
use Rattle.traces.specs.Marks.{rows_below}
use Rattle.traces.proofs.rows_of.Given as goal

abbrev pub invariant-loop-i : goal.invariant-loop-i
invariant-loop-i l = l.rows ≡ rows_below l.deeds (net_of l.net) l.events l.takers l.readers l.i
