use Rattle.std.proofs.Common.{◌≡◌}
use Rattle.images.specs.Read.{net_of}
use Rattle.traces.specs.Traces.{users_below}
use Rattle.traces.proofs.users_of.Given as goal

abbrev pub invariant-loop-k : goal.invariant-loop-k
invariant-loop-k l = l.users ≡ users_below l.k l.deed l.deeds (net_of l.net)
