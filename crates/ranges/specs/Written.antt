-- A change written into a net keeps what holds of every slot, where it holds of the slots that are put.
-- In order: `Each` of a net's slots, and of the slots found by their keys (`slot_with_lem`); `Puts`, of the slots of a change; one slot put
-- (`put_keeps`), all of them (`applied_keeps`); with the range (`range_each`, `applied_in_range`) and with the shape (`applied_shaped`).
-- Assumes nothing.
use Rattle.std.specs.Prelude.{ℕ, ◌<◌, ◌≡◌, true, length}
use Rattle.std.proofs.Common.{◌∙◌, ltb-true}
use Rattle.laws.specs.Choice.{cases}
use Rattle.laws.specs.Checks.{all_of, all_at}
use Rattle.names.specs.Names.{key_count, is_key}
use Rattle.names.specs.declared.Key.{Key}
use Rattle.images.specs.Net.{slot0, slot_at, slot_with, free_slot, slot_in_range, net_in_range}
use Rattle.images.specs.Shape.{Word, ShapedSlot, ShapedNet}
use Rattle.images.specs.declared.Slot.{Slot}
use Rattle.images.specs.declared.Net.{Net}
use Rattle.rules.specs.Laws.{set_keeps}
use Rattle.step.specs.Change.{Put, Change, put_in, applied}
use Rattle.step.specs.Written.{put_length}

-- ---- every slot of a net, and of a change

abbrev pub Each : (Slot → Type 0) → Net → Type 0
Each P n = (i : ℕ) → i < key_count → P (slot_at n i)

-- what is put at a key; at 255 nothing is
abbrev pub OfPut : (Slot → Type 0) → Put → Type 0
OfPut P p = is_key p.key ≡ true → P p.slot

pub record Puts (P : Slot → Type 0) (c : Change) : Type 0 where
  pub event : OfPut P c.event
  pub first : OfPut P c.first
  pub other : OfPut P c.other

module _ (P : Slot → Type 0) where
  pub slot_with_lem : (n : Net) → Each P n → P free_slot → (k : Key) → P (slot_with n k)
  slot_with_lem n each none k = cases (is_key k) (λ t. rw t (each k.0 (ltb-true k.0 key_count t))) (λ t. rw t none)

  pub put_keeps : (n : Net) (p : Put) → Each P n → OfPut P p → Each P (put_in n p)
  unfolding put_in
  put_keeps n p each new i l =
      cases (is_key p.key) (λ t. rw t (set_keeps P n.slots p.key.0 p.slot i slot0 (new t) (each i l)))
      (λ t. rw t (each i l))

  pub applied_keeps : (n : Net) (c : Change) → Each P n → Puts P c → Each P (applied n c)
  unfolding applied
  applied_keeps n c each puts =
      let one = put_in n c.event in
      put_keeps (put_in one c.first) c.other (put_keeps one c.first (put_keeps n c.event each puts.event) puts.first) puts.other

-- ---- the range

abbrev pub InRange : Slot → Type 0
InRange x = slot_in_range x ≡ true

pub range_each : (n : Net) → net_in_range n ≡ true → Each InRange n
unfolding net_in_range
range_each n h = all_at key_count (λ i. slot_in_range (slot_at n i)) h

pub applied_in_range : (n : Net) (c : Change) → net_in_range n ≡ true → Puts InRange c → net_in_range (applied n c) ≡ true
unfolding net_in_range
applied_in_range n c h puts =
    all_of key_count (λ i. slot_in_range (slot_at (applied n c) i)) (applied_keeps InRange n c (range_each n h) puts)

-- ---- the shape

applied_length : (n : Net) (c : Change) → length (applied n c).slots ≡ length n.slots
unfolding applied
applied_length n c =
    let one = put_in n c.event in
    let two = put_in one c.first in
    put_length two c.other ∙ put_length one c.first ∙ put_length n c.event

applied_word : (n : Net) (c : Change) → Word c.present.0 → Word (applied n c).present.0
unfolding applied
applied_word n c h = h

pub applied_shaped : (n : Net) (c : Change) → ShapedNet n → Word c.present.0 → Puts ShapedSlot c → ShapedNet (applied n c)
applied_shaped n c w present puts =
    record {
      present = applied_word n c present;
      slots = applied_length n c ∙ w.slots;
      at = applied_keeps ShapedSlot n c w.at puts;
    }
