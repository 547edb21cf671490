-- How many bytes each piece of an image has, and the slot's pieces one after the other, as the code writes them.
-- Assumes nothing.
use Rattle.std.specs.Prelude.{ℕ, ◌+◌, ◌*◌, ◌≡◌, refl, List, [], ◌∷◌, ◌++◌, length}
use Rattle.std.proofs.Common.{ap, ap₂, sym, ◌∙◌, append_assoc, length-append}
use Rattle.laws.specs.Lists.{tab}
use Rattle.laws.specs.Parts.{flat, length_flat}
use Rattle.laws.specs.Words.{word, bytes_of, length_bytes}
use Rattle.names.specs.Names.{key_count, node_count}
use Rattle.images.specs.Head.{head_bytes, pair_bytes}
use Rattle.images.specs.Script.{action_bytes, action_at, script_bytes}
use Rattle.images.specs.Net.{first_bytes, slot_bytes, slot_at, datum_at, ref_at, net_bytes}
use Rattle.images.specs.declared.Action.{Action}
use Rattle.images.specs.declared.Script.{Script}
use Rattle.images.specs.declared.Slot.{Slot}
use Rattle.images.specs.declared.Net.{Net}

pub length_head : (letter w : ℕ) → length (head_bytes letter w) ≡ 16
unfolding head_bytes bytes_of
length_head letter w = refl

pub length_numbers : (k : ℕ) (num : ℕ → ℕ) → length (flat (tab k (λ j. word (num j)))) ≡ 4 * k
length_numbers k num = length_flat 4 k (λ j. word (num j)) (λ j h. length_bytes 4 (num j))

pub length_action : (a : Action) → length (action_bytes a) ≡ 32
unfolding action_bytes pair_bytes tab flat bytes_of
length_action a = refl

pub length_slot : (s : Slot) → length (slot_bytes s) ≡ 56
unfolding slot_bytes pair_bytes tab flat bytes_of
length_slot s = refl

pub length_script : (s : Script) → length (script_bytes s) ≡ 2064
unfolding script_bytes
length_script s =
    length-append (head_bytes 83 0) (flat (tab node_count (λ i. action_bytes (action_at s i)))) ∙
    ap₂ (λ m n. m + n) (length_head 83 0) (length_flat 32 node_count (λ i. action_bytes (action_at s i)) (λ i h. length_action (action_at s i)))

pub length_net : (n : Net) → length (net_bytes n) ≡ 3600
unfolding net_bytes
length_net n =
    length-append (head_bytes 78 n.present.0) (flat (tab key_count (λ i. slot_bytes (slot_at n i)))) ∙
    ap₂ (λ a b. a + b) (length_head 78 n.present.0) (length_flat 56 key_count (λ i. slot_bytes (slot_at n i)) (λ i h. length_slot (slot_at n i)))

-- a slot's bytes in the four pieces that the code writes
pub slot_pieces : (s : Slot) → first_bytes s ++ (tab 8 (λ j. (datum_at s j).tag) ++ (flat (tab 8 (λ j. word (datum_at s j).number)) ++ (tab 4 (λ j. (ref_at s j).0) ++ (0 ∷ 0 ∷ 0 ∷ 0 ∷ [])))) ≡ slot_bytes s
unfolding slot_bytes pair_bytes
slot_pieces s = ap (λ (r : List ℕ). first_bytes s ++ r) (sym (append_assoc (tab 8 (λ j. (datum_at s j).tag)) (flat (tab 8 (λ j. word (datum_at s j).number))) (tab 4 (λ j. (ref_at s j).0) ++ (0 ∷ 0 ∷ 0 ∷ 0 ∷ []))))
