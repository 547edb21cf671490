use Rattle.std.proofs.Common.{◌≡◌, ℕ, ◌<◌, true}
use Rattle.names.specs.Names.{key}
use Rattle.names.specs.KeySets.{is_in}
use Rattle.images.specs.Net.{slot_at}
use Rattle.images.specs.Read.{net_of}
use Rattle.accept.specs.Whole.{root_right}
use Rattle.accept.proofs.whole.roots_right.Given as goal

abbrev pub invariant-loop-k : goal.invariant-loop-k
invariant-loop-k l = (i : ℕ) → i < l.k → root_right (net_of l.net).present (is_in l.made (key i)) (slot_at (net_of l.net) i) ≡ true
