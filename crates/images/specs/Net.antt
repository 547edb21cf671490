-- The net image: the bytes of a net, and which nets are in range. Document 01, "Net, 3,600 bytes".
-- Which of the nets in range are accepted is another matter, and not said here.
-- Assumes nothing.
use Rattle.std.specs.Prelude.{ℕ, List, [], ◌∷◌, ◌++◌, Bool, true, ◌&&◌, eqb, ltb, leb, length, get_or, replicate, Result, Ok, Err}
use Rattle.laws.specs.Choice.{pick}
use Rattle.laws.specs.Lists.{tab}
use Rattle.laws.specs.Checks.{all}
use Rattle.laws.specs.Parts.{flat}
use Rattle.names.specs.Names.{key_count, locality_count, none, key, locality, node, is_key_or_none, is_locality, is_locality_or_none, is_node}
use Rattle.names.specs.Localities.{localities}
use Rattle.names.specs.declared.Key.{Key}
use Rattle.images.specs.Head.{head_bytes, pair_bytes}
use Rattle.images.specs.declared.Datum.{Datum}
use Rattle.images.specs.declared.Slot.{Slot}
use Rattle.images.specs.declared.Net.{Net}
use Rattle.images.specs.declared.WrongLength.{WrongLength}

-- ---- what stands where nothing does: zeros, and empty arrays
abbrev pub datum0 : Datum
datum0 = record { tag = 0; number = 0 }

abbrev pub slot0 : Slot
slot0 =
    record { kind = 0; locality = locality 0; node = node 0; count = 0; first = key 0; second = key 0; used = key 0; place = locality 0; contents = []; refs = [] }

abbrev pub datum_at : Slot → ℕ → Datum
datum_at s j = get_or s.contents j datum0

abbrev pub ref_at : Slot → ℕ → Key
ref_at s j = get_or s.refs j (key 0)

abbrev pub slot_at : Net → ℕ → Slot
slot_at n i = get_or n.slots i slot0

-- "A free slot is all 0."
abbrev pub free_slot : Slot
free_slot =
    record { kind = 0; locality = locality 0; node = node 0; count = 0; first = key 0; second = key 0; used = key 0; place = locality 0; contents = replicate 8 datum0; refs = replicate 4 (key 0) }

-- a key as a place in a table; some place where there is no such key
abbrev pub index_of : Key → ℕ
index_of k = pick (ltb k.0 key_count) k.0 0

-- the slot with this key; where there is no such key, nothing is held
abbrev pub slot_with : Net → Key → Slot
slot_with n k = pick (ltb k.0 key_count) (slot_at n k.0) free_slot

-- a record is of one of the kinds 1 to 4
abbrev pub is_free : Slot → Bool
is_free s = pick (eqb s.kind 0) true (ltb 4 s.kind)

abbrev pub empty_net : Net
empty_net = record { present = localities 0; slots = replicate key_count free_slot }

-- ---- the bytes of a net
-- kinds: "0 free, 1 live process, 2 past process, 3 live tuple, 4 consumed tuple"
abbrev pub is_tuple : ℕ → Bool
is_tuple k = leb 3 k

-- "2 node, or field count"
abbrev pub node_or_count : Slot → ℕ
node_or_count s = pick (is_tuple s.kind) s.count s.node.0

-- "Slot: 0 kind; 1 locality; 2 node, or field count 1..4; 3 and 4 keys made; 5 tuple used; 6 locality made; 8..15 eight tags; 16..47
-- eight 32-bit numbers; 48..51 references."
abbrev pub first_bytes : Slot → List ℕ
first_bytes s = s.kind ∷ s.locality.0 ∷ node_or_count s ∷ s.first.0 ∷ s.second.0 ∷ s.used.0 ∷ s.place.0 ∷ 0 ∷ []

unfoldable pub slot_bytes : Slot → List ℕ
slot_bytes s =
    first_bytes s ++
    (pair_bytes 8 (λ j. (datum_at s j).tag) (λ j. (datum_at s j).number) ++ (tab 4 (λ j. (ref_at s j).0) ++ (0 ∷ 0 ∷ 0 ∷ 0 ∷ [])))

-- "'RTN', version 1 at 4..5, set of present localities at 8..11, then 64 slots of 56 bytes from 16; slot n is key n."
unfoldable pub net_bytes : Net → List ℕ
net_bytes n = head_bytes 78 n.present.0 ++ flat (tab key_count (λ i. slot_bytes (slot_at n i)))

-- a net written into lent bytes: where they are not as many as an image has, they stay as they were
unfoldable pub net_written : Net → List ℕ → List ℕ
net_written n d = pick (eqb (length d) 3600) (net_bytes n) d

abbrev pub wrong_length : WrongLength
wrong_length = record {}

unfoldable pub written_into : List ℕ → Result Unit WrongLength
written_into d = pick (eqb (length d) 3600) (Ok tt) (Err wrong_length)

-- ---- which nets are in range
-- tags: "0 unset, 1 value, 2 locality"; "unset has number 0, and a locality number is below 32"
unfoldable pub is_unset : Datum → Bool
is_unset d = eqb d.tag 0 && eqb d.number 0

unfoldable pub is_set : Datum → Bool
is_set d = pick (eqb d.tag 1) true (eqb d.tag 2 && ltb d.number locality_count)

unfoldable pub is_datum : Datum → Bool
is_datum d = pick (eqb d.tag 0) (eqb d.number 0) (is_set d)

-- "Every process carries its eight variables."
unfoldable pub variables_in_range : List Datum → Bool
variables_in_range ds = all 8 (λ j. is_datum (get_or ds j datum0))

-- "A tuple uses the first tags and numbers as its fields, none unset, the others 0."
unfoldable pub field_or_blank : ℕ → ℕ → Datum → Bool
field_or_blank count j d = pick (ltb j count) (is_set d) (is_unset d)

unfoldable pub data_fill : ℕ → List Datum → Bool
data_fill count ds = all 8 (λ j. field_or_blank count j (get_or ds j datum0))

-- "bytes 3..6 and 48..51 are 255 where nothing is held": the four of 3..6 are this byte, and the four of 48..51
unfoldable pub made_are : ℕ → Slot → Bool
made_are b s = eqb s.first.0 b && (eqb s.second.0 b && (eqb s.used.0 b && eqb s.place.0 b))

unfoldable pub refs_are : ℕ → List Key → Bool
refs_are b rs = all 4 (λ j. eqb (get_or rs j (key 0)).0 b)

unfoldable pub made_in_range : Slot → Bool
made_in_range s = is_key_or_none s.first && (is_key_or_none s.second && (is_key_or_none s.used && is_locality_or_none s.place))

unfoldable pub refs_in_range : List Key → Bool
refs_in_range rs = all 4 (λ j. is_key_or_none (get_or rs j (key 0)))

unfoldable pub free_in_range : Slot → Bool
free_in_range s =
    eqb s.locality.0 0 && (eqb s.node.0 0 && (eqb s.count 0 && (made_are 0 s && (refs_are 0 s.refs && data_fill 0 s.contents))))

-- a process, live or past, but for what it made
unfoldable pub process_in_range : Slot → Bool
process_in_range s =
    is_locality s.locality && (is_node s.node && (eqb s.count 0 && (refs_in_range s.refs && variables_in_range s.contents)))

-- a tuple, live or consumed, holds nothing and has 1 to 4 fields
unfoldable pub tuple_in_range : Slot → Bool
tuple_in_range s =
    is_locality s.locality &&
    (eqb s.node.0 0 && (leb 1 s.count && (leb s.count 4 && (made_are none s && (refs_are none s.refs && data_fill s.count s.contents)))))

unfoldable pub slot_in_range : Slot → Bool
slot_in_range s =
    pick (eqb s.kind 0) (free_in_range s)
    (pick (eqb s.kind 1) (made_are none s && process_in_range s)
    (pick (eqb s.kind 2) (made_in_range s && process_in_range s) (leb s.kind 4 && tuple_in_range s)))

unfoldable pub net_in_range : Net → Bool
net_in_range n = all key_count (λ i. slot_in_range (slot_at n i))
