-- A net or a script that a function is passed, or that a call returns, is a value of its type: 64 slots or nodes, each with its arrays
-- whole and its numbers within 32 bits.
-- Assumes nothing.
use mathlib.Core.Path.{◌≡◌, subst, sym}
use mathlib.Core.List.{List}
use Prim.Native.Nat.{ℕ, ◌<◌}
use lib.ListN.{length}
use mir.Val.{Val}
use denote.Shadow.{shadow}
use Rattle.laws.proofs.Owned.{each_own, length_own}
use Rattle.names.specs.Names.{key_count, node_count}
use Rattle.names.specs.contracts.Key as key
use Rattle.images.specs.Script.{field0, action0, action_at}
use Rattle.images.specs.Net.{datum0, slot0, slot_at}
use Rattle.images.specs.Shape.{ShapedAction, ShapedScript, ShapedSlot, ShapedNet}
use Rattle.images.specs.declared.Action.{Action}
use Rattle.images.specs.declared.Script.{Script}
use Rattle.images.specs.declared.Slot.{Slot}
use Rattle.images.specs.declared.Net.{Net}
use Rattle.images.specs.contracts.Field as field
use Rattle.images.specs.contracts.Action as action
use Rattle.images.specs.contracts.Script as script
use Rattle.images.specs.contracts.Datum as datum
use Rattle.images.specs.contracts.Slot as slot
use Rattle.images.specs.contracts.Net as net

-- an index below what an array's length is
within : {A : Type 0} (xs : List A) (k i : ℕ) → length xs ≡ k → i < k → i < length xs
within xs k i e l = subst (λ (m : ℕ). i < m) (sym e) l

shaped_action : (a : Action) (vs : List Val) → shadow ((action.the_field).row.own_val ((action.the_field).into a) vs) → ShapedAction a
shaped_action a vs p =
    let f = p.1.1.1.1.1.1.1.1.0 in
    let e : length a.fields ≡ 4 = length_own field.the_row 4 a.fields _ f in
    record {
      fields = e;
      numbers =
          λ j l.
          let q = each_own field.the_row a.fields _ f.1.1 j field0 (within a.fields 4 j e l) in
          q.1.1.1.1.0.1;
    }

-- a node or a slot that a function is passed by itself
pub shaped_own_action : (a : Action) (vs : List Val) → shadow ((action.the_row).own_val a vs) → ShapedAction a
shaped_own_action a vs p = shaped_action a vs p

pub shaped_script : (s : Script) (vs : List Val) → shadow ((script.the_row).own_val s vs) → ShapedScript s
shaped_script s vs p =
    let a = p.1.1.0 in
    let e : length s.nodes ≡ node_count = length_own action.the_row 64 s.nodes _ a in
    record {
      nodes = e;
      at =
          λ i l.
          let q = each_own action.the_row s.nodes _ a.1.1 i action0 (within s.nodes node_count i e l) in
          shaped_action (action_at s i) q.0 q.1;
    }

shaped_slot : (s : Slot) (vs : List Val) → shadow ((slot.the_field).row.own_val ((slot.the_field).into s) vs) → ShapedSlot s
shaped_slot s vs p =
    let c = p.1.1.1.1.1.1.1.1.1.1.0 in
    let e : length s.contents ≡ 8 = length_own datum.the_row 8 s.contents _ c in
    record {
      contents = e;
      refs = length_own key.the_row 4 s.refs _ p.1.1.1.1.1.1.1.1.1.1.1.0;
      numbers =
          λ j l.
          let q = each_own datum.the_row s.contents _ c.1.1 j datum0 (within s.contents 8 j e l) in
          q.1.1.1.1.0.1;
    }

pub shaped_own_slot : (s : Slot) (vs : List Val) → shadow ((slot.the_row).own_val s vs) → ShapedSlot s
shaped_own_slot s vs p = shaped_slot s vs p

pub shaped_net : (n : Net) (vs : List Val) → shadow ((net.the_row).own_val n vs) → ShapedNet n
shaped_net n vs p =
    let a = p.1.1.1.0 in
    let e : length n.slots ≡ key_count = length_own slot.the_row 64 n.slots _ a in
    record {
      present = p.1.1.0.1.1.0.1;
      slots = e;
      at =
          λ i l.
          let q = each_own slot.the_row n.slots _ a.1.1 i slot0 (within n.slots key_count i e l) in
          shaped_slot (slot_at n i) q.0 q.1;
    }
