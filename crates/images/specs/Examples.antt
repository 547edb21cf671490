-- The definitions run: the bytes of document 01's script T and net A, written out by hand, read as they should. Shown by computing.
-- Assumes nothing.
use Rattle.std.specs.Prelude.{ℕ, ◌-◌, ◌≡◌, refl, List, [], ◌∷◌, ◌++◌, length, replicate, Some}
use Rattle.laws.specs.Lists.{tab}
use Rattle.laws.specs.Checks.{all}
use Rattle.laws.specs.Parts.{flat}
use Rattle.laws.specs.Words.{number, word_at}
use Rattle.names.specs.Names.{none, key, locality, node, reference}
use Rattle.names.specs.Localities.{localities}
use Rattle.images.specs.Head.{head_formed, rest_zero}
use Rattle.images.specs.Script.{field0, node_in_place, target_in_place, reference_in_place, field_in_range, count_in_place, field_in_place, fields_in_place, same_formal, fresh_formal, formals_distinct, places_in_row, fields_in_row, action_in_range}
use Rattle.images.specs.Net.{datum0, free_slot, is_unset, is_set, is_datum, variables_in_range, field_or_blank, data_fill, made_are, refs_are, made_in_range, refs_in_range, free_in_range, process_in_range, tuple_in_range, slot_in_range}
use Rattle.images.specs.Read.{action_of, action_formed, nodes_formed, script_of, script_formed, nil_action, read_script, slot_of, slot_formed, slots_formed, net_of, net_formed, read_net}
use Rattle.images.specs.declared.Field.{Field}
use Rattle.images.specs.declared.Action.{Action}
use Rattle.images.specs.declared.Script.{Script}
use Rattle.images.specs.declared.Slot.{Slot}
use Rattle.images.specs.declared.Net.{Net}

-- bytes, and zeros up to a part's size
abbrev filled : ℕ → List ℕ → List ℕ
filled size l = l ++ replicate (size - length l) 0

-- ---- script T

-- "0 nil"
abbrev nil_bytes : List ℕ
nil_bytes = filled 32 (0 ∷ 0 ∷ 0 ∷ 0 ∷ 0 ∷ 255 ∷ [])

abbrev nodes_t : List (List ℕ)
nodes_t =
    nil_bytes ∷
    -- "1 out ⟨1⟩@0, reference 0, next 2"
    filled 32 (1 ∷ 2 ∷ 0 ∷ 2 ∷ 0 ∷ 0 ∷ 1 ∷ 0 ∷ 1 ∷ 0 ∷ 0 ∷ 0 ∷ 1 ∷ []) ∷
    -- "2 in ⟨2⟩@0, next 3"
    filled 32 (2 ∷ 3 ∷ 0 ∷ 2 ∷ 0 ∷ 255 ∷ 1 ∷ 0 ∷ 1 ∷ 0 ∷ 0 ∷ 0 ∷ 2 ∷ []) ∷
    -- "3 roll 0"
    filled 32 (7 ∷ 0 ∷ 0 ∷ 0 ∷ 0 ∷ 0 ∷ []) ∷
    -- "4 read ⟨7⟩@0, next 0"
    filled 32 (3 ∷ 0 ∷ 0 ∷ 2 ∷ 0 ∷ 255 ∷ 1 ∷ 0 ∷ 1 ∷ 0 ∷ 0 ∷ 0 ∷ 7 ∷ []) ∷
    -- "5 in ⟨7⟩@0, next 0"
    filled 32 (2 ∷ 0 ∷ 0 ∷ 2 ∷ 0 ∷ 255 ∷ 1 ∷ 0 ∷ 1 ∷ 0 ∷ 0 ∷ 0 ∷ 7 ∷ []) ∷
    -- "6 newloc variable 0, next 7"
    filled 32 (4 ∷ 7 ∷ 0 ∷ 3 ∷ 0 ∷ 255 ∷ []) ∷
    -- "7 eval other 0 @variable 0, next 0"
    filled 32 (5 ∷ 0 ∷ 0 ∷ 3 ∷ 0 ∷ 255 ∷ []) ∷
    -- "8 split 4, 5"
    filled 32 (6 ∷ 4 ∷ 5 ∷ 0 ∷ 0 ∷ 255 ∷ []) ∷
    -- "9 read ⟨formal value 1, formal locality 2⟩@0, next 0"
    filled 32 (3 ∷ 0 ∷ 0 ∷ 2 ∷ 0 ∷ 255 ∷ 2 ∷ 0 ∷ 4 ∷ 5 ∷ 0 ∷ 0 ∷ 1 ∷ 0 ∷ 0 ∷ 0 ∷ 2 ∷ []) ∷
    -- "Others nil."
    replicate 54 nil_bytes

pub bytes_t : List ℕ
bytes_t = filled 16 (82 ∷ 84 ∷ 83 ∷ 0 ∷ 1 ∷ []) ++ flat nodes_t

abbrev pub field : ℕ → ℕ → Field
field t x = record { tag = t; number = x }

-- kind, next, other, target, reference, fields
abbrev pub action : ℕ → ℕ → ℕ → Field → ℕ → List Field → Action
action k n o t r fs =
    record {
      kind = k;
      next = node n;
      other = node o;
      target = t;
      reference = reference r;
      count = length fs;
      fields = fs ++ replicate (4 - length fs) field0;
    }

-- a value, a locality and a variable as a field
abbrev value : ℕ → Field
value x = field 1 x

abbrev at : ℕ → Field
at l = field 2 l

abbrev inside : ℕ → Field
inside v = field 3 v

abbrev pub script_t : Script
script_t =
    record {
      nodes =
          nil_action ∷ action 1 2 0 (at 0) 0 (value 1 ∷ []) ∷ action 2 3 0 (at 0) none (value 2 ∷ []) ∷ action 7 0 0 field0 0 [] ∷
          action 3 0 0 (at 0) none (value 7 ∷ []) ∷ action 2 0 0 (at 0) none (value 7 ∷ []) ∷ action 4 7 0 (inside 0) none [] ∷
          action 5 0 0 (inside 0) none [] ∷ action 6 4 5 field0 none [] ∷ action 3 0 0 (at 0) none (field 4 1 ∷ field 5 2 ∷ []) ∷
          replicate 54 nil_action;
    }

pub reads-T : read_script bytes_t ≡ Some script_t
unfolding bytes_t flat read_script script_formed head_formed word_at number nodes_formed action_formed rest_zero script_of action_of tab all action_in_range places_in_row fields_in_row node_in_place target_in_place reference_in_place field_in_range count_in_place field_in_place fields_in_place same_formal fresh_formal formals_distinct
reads-T = refl

-- ---- net A: "locality 0, key 0 at node 1, key 1 tuple ⟨2⟩"

abbrev four_none : List ℕ
four_none = 255 ∷ 255 ∷ 255 ∷ 255 ∷ []

pub bytes_a : List ℕ
bytes_a =
    filled 16 (82 ∷ 84 ∷ 78 ∷ 0 ∷ 1 ∷ 0 ∷ 0 ∷ 0 ∷ 1 ∷ []) ++ filled 48 (1 ∷ 0 ∷ 1 ∷ four_none) ++ filled 8 four_none ++
    filled 48 (3 ∷ 0 ∷ 1 ∷ (four_none ++ (0 ∷ 1 ∷ 0 ∷ 0 ∷ 0 ∷ 0 ∷ 0 ∷ 0 ∷ 0 ∷ 2 ∷ []))) ++
    filled 8 four_none ++ replicate 3472 0

abbrev process_a : Slot
process_a =
    record {
      kind = 1;
      locality = locality 0;
      node = node 1;
      count = 0;
      first = key none;
      second = key none;
      used = key none;
      place = locality none;
      contents = replicate 8 datum0;
      refs = replicate 4 (key none);
    }

abbrev tuple_a : Slot
tuple_a =
    record {
      kind = 3;
      locality = locality 0;
      node = node 0;
      count = 1;
      first = key none;
      second = key none;
      used = key none;
      place = locality none;
      contents = record { tag = 1; number = 2 } ∷ replicate 7 datum0;
      refs = replicate 4 (key none);
    }

abbrev pub net_a : Net
net_a = record { present = localities 1; slots = process_a ∷ tuple_a ∷ replicate 62 free_slot }

pub reads-A : read_net bytes_a ≡ Some net_a
unfolding bytes_a read_net net_formed head_formed word_at number slots_formed slot_formed rest_zero net_of slot_of tab all slot_in_range free_in_range process_in_range tuple_in_range made_are made_in_range refs_are refs_in_range variables_in_range data_fill field_or_blank is_datum is_set is_unset
reads-A = refl
