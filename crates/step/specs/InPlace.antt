-- A change written in place, put after put into the bytes of a net: what it leaves are the bytes of the net once the change is written.
-- In order: the bytes after a change (`change_bytes`); of a net's bytes (`put_bytes_lem`, `change_bytes_lem`); they stay as many (`slot_kept`).
-- Assumes nothing.
use Rattle.std.specs.Prelude.{ℕ, ◌≡◌, refl, List, length}
use Rattle.std.proofs.Common.{ap, ◌∙◌}
use Rattle.laws.specs.Choice.{cases}
use Rattle.names.specs.Names.{key_count, is_key}
use Rattle.names.specs.declared.Key.{Key}
use Rattle.images.specs.Net.{net_bytes}
use Rattle.images.specs.InPlace.{slot_put, present_put, length_slot_put, slot_put_net, present_put_net}
use Rattle.images.specs.declared.Slot.{Slot}
use Rattle.images.specs.declared.Net.{Net}
use Rattle.step.specs.Change.{Put, Change, put_in, applied}
use Rattle.step.specs.Written.{put_length}

-- ---- a change

abbrev pub put_bytes : Put → List ℕ → List ℕ
put_bytes p b = slot_put p.key p.slot b

-- the bytes once a change is written into them
unfoldable pub change_bytes : Change → List ℕ → List ℕ
change_bytes c b = present_put c.present (put_bytes c.other (put_bytes c.first (put_bytes c.event b)))

pub put_bytes_lem : (n : Net) → length n.slots ≡ key_count → (p : Put) → put_bytes p (net_bytes n) ≡ net_bytes (put_in n p)
unfolding put_in
put_bytes_lem n whole p =
    slot_put_net n whole p.key p.slot ∙ ap net_bytes (cases (is_key p.key) (λ h. rw h refl) (λ h. rw h refl))

-- of a net's bytes they are those of the net with the change
pub change_bytes_lem : (n : Net) → length n.slots ≡ key_count → (c : Change) → change_bytes c (net_bytes n) ≡ net_bytes (applied n c)
unfolding change_bytes applied
change_bytes_lem n whole c =
    let one : Net = put_in n c.event in
    let two : Net = put_in one c.first in
    let whole₁ : length one.slots ≡ key_count = put_length n c.event ∙ whole in
    let whole₂ : length two.slots ≡ key_count = put_length one c.first ∙ whole₁ in
    ap (λ (b : List ℕ). present_put c.present (put_bytes c.other (put_bytes c.first b))) (put_bytes_lem n whole c.event) ∙
    ap (λ (b : List ℕ). present_put c.present (put_bytes c.other b)) (put_bytes_lem one whole₁ c.first) ∙
    ap (present_put c.present) (put_bytes_lem two whole₂ c.other) ∙ present_put_net (put_in two c.other) c.present

-- ---- a slot written keeps the length

pub slot_kept : (k : Key) (x : Slot) (b c : List ℕ) → c ≡ slot_put k x b → length b ≡ 3600 → length c ≡ 3600
slot_kept k x b c e h = ap length e ∙ length_slot_put k x b h
