use mathlib.Core.Path.{◌≡◌}
use Prim.Native.Nat.{ℕ, ◌<◌}
use lib.ListN.{length, get_or}
use Rattle.images.specs.Head.{part_at}
use Rattle.images.specs.Net.{slot0}
use Rattle.images.specs.Read.{slot_of}
use Rattle.images.proofs.net_image.net_of.Given as goal

abbrev pub invariant-loop-i : goal.invariant-loop-i
invariant-loop-i l = (length l.slots ≡ 64) × ((k : ℕ) → k < l.i → get_or l.slots k slot0 ≡ slot_of (part_at 56 l.b k))
