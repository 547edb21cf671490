use Rattle.std.proofs.Common.{◌≡◌}
use Rattle.images.specs.Read.{net_of}
use Rattle.traces.specs.Marks.{deeds_below}
use Rattle.traces.proofs.deeds_of.Given as goal

abbrev pub invariant-loop-i : goal.invariant-loop-i
invariant-loop-i l = l.deeds ≡ deeds_below l.script (net_of l.net) l.i
