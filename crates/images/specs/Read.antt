-- Reading: an image taken apart, and whether it has the form. Nobody has to believe these: Round proves that they undo writing.
-- Assumes nothing.
use Rattle.std.specs.Prelude.{ℕ, ◌+◌, ◌*◌, List, Bool, ◌&&◌, eqb, length, replicate, Option, Some, None}
use Rattle.laws.specs.Choice.{pick}
use Rattle.laws.specs.Lists.{tab}
use Rattle.laws.specs.Checks.{all}
use Rattle.laws.specs.Words.{word_at}
use Rattle.names.specs.Names.{key_count, node_count, key, locality, node, reference, is_node}
use Rattle.names.specs.declared.Node.{Node}
use Rattle.names.specs.Localities.{localities}
use Rattle.images.specs.Head.{byte, part_at, head_formed, rest_zero}
use Rattle.images.specs.Script.{action_in_range, field0, action_at}
use Rattle.images.specs.Net.{is_tuple, slot_in_range}
use Rattle.images.specs.declared.Field.{Field}
use Rattle.images.specs.declared.Action.{Action}
use Rattle.images.specs.declared.Script.{Script}
use Rattle.images.specs.declared.Datum.{Datum}
use Rattle.images.specs.declared.Slot.{Slot}
use Rattle.images.specs.declared.Net.{Net}

-- ---- a node
abbrev pub field_of : List ℕ → ℕ → Field
field_of p j = record { tag = byte p (8 + j); number = word_at p (12 + 4 * j) }

unfoldable pub action_of : List ℕ → Action
action_of p =
    record {
      kind = byte p 0;
      next = node (byte p 1);
      other = node (byte p 2);
      target = record { tag = byte p 3; number = byte p 4 };
      reference = reference (byte p 5);
      count = byte p 6;
      fields = tab 4 (field_of p);
    }

unfoldable pub action_formed : List ℕ → Bool
action_formed p = rest_zero 32 p && action_in_range (action_of p)

-- ---- a script
unfoldable pub script_of : List ℕ → Script
script_of b = record { nodes = tab node_count (λ i. action_of (part_at 32 b i)) }

unfoldable pub nodes_formed : List ℕ → Bool
nodes_formed b = all node_count (λ i. action_formed (part_at 32 b i))

unfoldable pub script_formed : List ℕ → Bool
script_formed b =
    eqb (length b) 2064 && (head_formed 83 b && (eqb (word_at b 8) 0 && nodes_formed b))

abbrev pub nil_action : Action
nil_action =
    record { kind = 0; next = node 0; other = node 0; target = field0; reference = reference 255; count = 0; fields = replicate 4 field0 }

-- the node of this number; where there is no such node, nil
abbrev pub node_with : Script → Node → Action
node_with s k = pick (is_node k) (action_at s k.0) nil_action

-- a script of nil nodes
abbrev pub nil_script : Script
nil_script = record { nodes = replicate node_count nil_action }

unfoldable pub read_script : List ℕ → Option Script
read_script b = pick (script_formed b) (Some (script_of b)) None

-- ---- a slot
abbrev pub datum_of : List ℕ → ℕ → Datum
datum_of p j = record { tag = byte p (8 + j); number = word_at p (16 + 4 * j) }

unfoldable pub slot_of : List ℕ → Slot
slot_of p =
    record {
      kind = byte p 0;
      locality = locality (byte p 1);
      node = node (pick (is_tuple (byte p 0)) 0 (byte p 2));
      count = pick (is_tuple (byte p 0)) (byte p 2) 0;
      first = key (byte p 3);
      second = key (byte p 4);
      used = key (byte p 5);
      place = locality (byte p 6);
      contents = tab 8 (datum_of p);
      refs = tab 4 (λ j. key (byte p (48 + j)));
    }

unfoldable pub slot_formed : List ℕ → Bool
slot_formed p = rest_zero 56 p && slot_in_range (slot_of p)

-- ---- a net
unfoldable pub net_of : List ℕ → Net
net_of b = record { present = localities (word_at b 8); slots = tab key_count (λ i. slot_of (part_at 56 b i)) }

unfoldable pub slots_formed : List ℕ → Bool
slots_formed b = all key_count (λ i. slot_formed (part_at 56 b i))

unfoldable pub net_formed : List ℕ → Bool
net_formed b = eqb (length b) 3600 && (head_formed 78 b && slots_formed b)

unfoldable pub read_net : List ℕ → Option Net
read_net b = pick (net_formed b) (Some (net_of b)) None
