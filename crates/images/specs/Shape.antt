-- A value of the code's types: its arrays have their lengths, and its numbers fit. Owning a value tells this (proofs/Owned.antt), and
-- reading gives it; a theorem on values asks for it.
-- Assumes nothing.
use Rattle.std.specs.Prelude.{◌≡◌, ℕ, ◌<◌, length}
use Rattle.names.specs.Names.{key_count, node_count}
use Rattle.images.specs.Script.{field_at, action_at}
use Rattle.images.specs.Net.{datum_at, slot_at}
use Rattle.images.specs.declared.Action.{Action}
use Rattle.images.specs.declared.Script.{Script}
use Rattle.images.specs.declared.Slot.{Slot}
use Rattle.images.specs.declared.Net.{Net}

-- a number of 32 bits
abbrev pub Word : ℕ → Type 0
Word x = x < 4294967296

pub record ShapedAction (a : Action) : Type 0 where
  pub fields : length a.fields ≡ 4
  pub numbers : (j : ℕ) → j < 4 → Word (field_at a j).number

pub record ShapedScript (s : Script) : Type 0 where
  pub nodes : length s.nodes ≡ node_count
  pub at : (i : ℕ) → i < node_count → ShapedAction (action_at s i)

pub record ShapedSlot (s : Slot) : Type 0 where
  pub contents : length s.contents ≡ 8
  pub refs : length s.refs ≡ 4
  pub numbers : (j : ℕ) → j < 8 → Word (datum_at s j).number

pub record ShapedNet (n : Net) : Type 0 where
  pub present : Word n.present.0
  pub slots : length n.slots ≡ key_count
  pub at : (i : ℕ) → i < key_count → ShapedSlot (slot_at n i)
