-- How many bytes an image has, and a part of one. Document 01: "then 64 nodes of 32 bytes from 16", "then 64 slots of 56 bytes from 16".
-- The length of lent bytes is mostly their type (`ScriptBytes`, `NetBytes`, `NodeBytes`, `SlotBytes` in src/). Contracts say these names where a part
-- begins (`head_size`, `node_size`, `slot_size`) and of a slot that is lent as a slice (`SlotSized`), laws of a script's and a net's bytes (`Scripted`,
-- `Sized`): an image with other parts changes them here, and the types with them.
-- Assumes nothing.
use Rattle.std.specs.Prelude.{ℕ, ◌+◌, ◌*◌, ◌≡◌, true, List, eqb, length}
use Rattle.std.proofs.Common.{eqb-true}
use Rattle.laws.specs.Choice.{and_left}
use Rattle.names.specs.Names.{key_count, node_count}
use Rattle.images.specs.Read.{script_formed, net_formed}

abbrev pub head_size : ℕ
head_size = 16

abbrev pub node_size : ℕ
node_size = 32

abbrev pub slot_size : ℕ
slot_size = 56

-- the bytes of one node
abbrev pub NodeSized : List ℕ → Type 0
NodeSized p = length p ≡ node_size

-- the bytes of one slot
abbrev pub SlotSized : List ℕ → Type 0
SlotSized p = length p ≡ slot_size

-- as many bytes as a look-up of a node needs: the head, and 32 for each node
abbrev pub Scripted : List ℕ → Type 0
Scripted b = length b ≡ head_size + node_size * node_count

-- the head, and 56 bytes for each key that the net has
abbrev pub Sized : List ℕ → Type 0
Sized b = length b ≡ head_size + slot_size * key_count

-- ---- an image has them
pub script_sized : (b : List ℕ) → script_formed b ≡ true → Scripted b
unfolding script_formed
script_sized b f = eqb-true (length b) 2064 (and_left (eqb (length b) 2064) _ f)

pub net_sized : (b : List ℕ) → net_formed b ≡ true → Sized b
unfolding net_formed
net_sized b f = eqb-true (length b) 3600 (and_left (eqb (length b) 3600) _ f)
