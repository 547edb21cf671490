use Rattle.std.proofs.Common.{◌≡◌, ℕ, ◌<◌, length, get_or}
use Rattle.images.specs.Head.{part_at}
use Rattle.images.specs.Script.{action0}
use Rattle.images.specs.Read.{action_of}
use Rattle.images.proofs.script_image.script_of.Given as goal

abbrev pub invariant-loop-i : goal.invariant-loop-i
invariant-loop-i l = (length l.nodes ≡ 64) × ((k : ℕ) → k < l.i → get_or l.nodes k action0 ≡ action_of (part_at 32 l.script k))
