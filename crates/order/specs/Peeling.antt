-- Whether there is a cycle, computed: n rounds, each of which takes away every last member. All is gone exactly when there is none.
--
-- In order: `last`, which tests `Last`; `peel`, which keeps the other members; `acyclic`, which tests `Acyclic` where the edges are among S:
-- the laws are in proofs/Peeling.
-- Assumes nothing.
use Rattle.std.specs.Prelude.{Bool, ◌&&◌}
use Rattle.std.proofs.Math.Bool.{not}
use Prim.Native.Nat.{ℕ}
use Rattle.order.specs.KeySets.{Set, ◌∩◌, ◌∖◌, any}
use Rattle.order.specs.Graphs.{Graph}
use Rattle.order.specs.Dependents.{rounds}

-- a member on which no member depends directly
unfoldable pub last : ℕ → Graph → Set → ℕ → Bool
last n d S x = S x && not (any n (d x ∩ S))

-- S without its last members
unfoldable pub peel : ℕ → Graph → Set → Set
peel n d S = S ∖ last n d S

-- peeling leaves nothing of S
unfoldable pub acyclic : ℕ → Graph → Set → Bool
acyclic n d S = not (any n (rounds n (peel n d) S))
