-- What never changes while a key is held: where the record is, its node or its number of fields, its variables or fields, its references.
-- The rest of a slot is what steps change: its kind, and what it made and used.
-- Assumes nothing.
use Rattle.std.specs.Prelude.{ℕ, List, Bool}
use Rattle.names.specs.Names.{none, key, locality}
use Rattle.names.specs.declared.Key.{Key}
use Rattle.names.specs.declared.Locality.{Locality}
use Rattle.names.specs.declared.Node.{Node}
use Rattle.images.specs.Net.{process_in_range, tuple_in_range}
use Rattle.images.specs.declared.Datum.{Datum}
use Rattle.images.specs.declared.Slot.{Slot}

pub record Body : Type 0 where
  pub locality : Locality
  pub node : Node
  pub count : ℕ
  pub contents : List Datum
  pub refs : List Key

-- a slot's history forgotten: past or live, consumed or live, it is the same record
abbrev pub body_of : Slot → Body
body_of s =
    record { locality = s.locality; node = s.node; count = s.count; contents = s.contents; refs = s.refs }

-- a new slot that holds the record: "bytes 3..6 are 255 where nothing is held"
abbrev pub fresh : ℕ → Body → Slot
fresh kind b =
    record {
      kind = kind;
      locality = b.locality;
      node = b.node;
      count = b.count;
      first = key none;
      second = key none;
      used = key none;
      place = locality none;
      contents = b.contents;
      refs = b.refs;
    }

-- kinds: "1 live process", "3 live tuple"
abbrev pub live_process : Body → Slot
live_process b = fresh 1 b

abbrev pub live_tuple : Body → Slot
live_tuple b = fresh 3 b

-- the record is a process's, or a tuple's, in range
abbrev pub is_process : Body → Bool
is_process b = process_in_range (live_process b)

abbrev pub is_tuple : Body → Bool
is_tuple b = tuple_in_range (live_tuple b)
