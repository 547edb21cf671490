use Rattle.std.proofs.Common.{◌≡◌, ℕ, ◌<◌, true}
use Rattle.names.specs.Names.{key}
use Rattle.images.specs.Net.{slot_at, slot_with}
use Rattle.images.specs.Read.{net_of}
use Rattle.traces.specs.Traces.{deed_at}
use Rattle.accept.specs.Whole.{tuple_right}
use Rattle.accept.proofs.whole.tuples_right.Given as goal

abbrev pub invariant-loop-k : goal.invariant-loop-k
invariant-loop-k l = (i : ℕ) → i < l.k → tuple_right (deed_at l.deeds i) (key i) (slot_at (net_of l.net) i) (slot_with (net_of l.net) (slot_at (net_of l.net) i).used) l.taken ≡ true
