use Rattle.std.proofs.Common.{◌≡◌}
use Rattle.images.specs.Read.{net_of}
use Rattle.order.specs.Words.{word_of}
use Rattle.names.specs.KeySets.{keys}
use Rattle.traces.specs.Traces.{is_event}
use Rattle.traces.proofs.events_of.Given as goal

abbrev pub invariant-loop-k : goal.invariant-loop-k
invariant-loop-k l = l.events ≡ keys (word_of l.k (is_event (net_of l.net)))
