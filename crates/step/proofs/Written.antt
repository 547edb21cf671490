-- A change written into a net, seen as a net of the theory: its slots (`applied_slot`).
-- Assumes nothing.
use Rattle.std.specs.Prelude.{ℕ, ◌≡◌}
use Rattle.std.proofs.Math.Path.{refl, ap}
use Rattle.std.proofs.Common.{◌∙◌}
use Rattle.std.proofs.Math.ListN.{length}
use Rattle.laws.specs.Choice.{pick}
use Rattle.names.specs.Names.{key_count}
use Rattle.images.specs.declared.Script.{Script}
use Rattle.images.specs.declared.Net as Images
use Rattle.rules.specs.View.{view, slot_view}
use Rattle.step.specs.Change.{Change, put_in, applied}
use Rattle.step.specs.Written.{is_at, put_length, put_view}

module _ (s : Script) where
  same_slots : (n : Images.Net) (c : Change) (k : ℕ) → (view s (applied n c)).slot k ≡ (view s (put_in (put_in (put_in n c.event) c.first) c.other)).slot k
  unfolding view applied
  same_slots n c k = refl

  -- what stands at a key once the change is written: what was put there last
  pub applied_slot : (n : Images.Net) (c : Change) → length n.slots ≡ key_count → (k : ℕ) → (view s (applied n c)).slot k ≡ pick (is_at c.other k) (slot_view s c.other.slot) (pick (is_at c.first k) (slot_view s c.first.slot) (pick (is_at c.event k) (slot_view s c.event.slot) ((view s n).slot k)))
  applied_slot n c whole k =
      let one = put_in n c.event in
      let two = put_in one c.first in
      let whole₁ = put_length n c.event ∙ whole in
      let whole₂ = put_length one c.first ∙ whole₁ in
      same_slots n c k ∙ put_view s two c.other whole₂ k ∙
      ap (pick (is_at c.other k) (slot_view s c.other.slot))
      (put_view s one c.first whole₁ k ∙
      ap (pick (is_at c.first k) (slot_view s c.first.slot)) (put_view s n c.event whole k))
