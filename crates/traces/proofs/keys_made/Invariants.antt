use Rattle.std.proofs.Common.{◌≡◌}
use Rattle.images.specs.Read.{net_of}
use Rattle.traces.specs.Traces.{made_at, key_marks}
use Rattle.traces.proofs.keys_made.Given as goal

abbrev pub invariant-loop-i : goal.invariant-loop-i
invariant-loop-i l = l.m ≡ key_marks l.i (made_at (net_of l.net))
