use mathlib.Core.Path.{◌≡◌}
use mathlib.Core.List.{◌++◌}
use Prim.Native.Nat.{◌+◌, ◌*◌}
use lib.ListN.{length, take}
use Rattle.laws.specs.Lists.{tab}
use Rattle.laws.specs.Parts.{flat}
use Rattle.images.specs.Head.{head_bytes}
use Rattle.images.specs.Net.{slot_at, slot_bytes}
use Rattle.images.proofs.net_image.write_image.Given as goal

abbrev pub invariant-loop-i : goal.invariant-loop-i
invariant-loop-i l =
    (length l.d ≡ 3600) × (take (16 + 56 * l.i) l.d ≡ head_bytes 78 l.n.present.0 ++ flat (tab l.i (λ k. slot_bytes (slot_at l.n k))))
