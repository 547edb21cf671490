use mathlib.Core.Path.{◌≡◌}
use Prim.Native.Nat.{◌*◌}
use lib.ListN.{length, take, get_or}
use Rattle.laws.specs.Lists.{tab}
use Rattle.laws.specs.Parts.{flat}
use Rattle.laws.specs.Words.{word}
use Rattle.images.specs.Net.{datum0}
use Rattle.images.proofs.net_image.write_numbers.Given as goal

abbrev pub invariant-loop-j : goal.invariant-loop-j
invariant-loop-j l =
    (length l.p ≡ 32) × (take (4 * l.j) l.p ≡ flat (tab l.j (λ i. word (get_or l.contents i datum0).number)))
