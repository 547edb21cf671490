-- Script T of document 01, its rules, and the nets of the cases.
-- Assumes nothing.
use Rattle.std.specs.Prelude.{ℕ, ◌≡◌, refl, List, [], ◌∷◌, true, ltb, get_or, replicate}
use Rattle.laws.specs.Checks.{all}
use Rattle.names.specs.Names.{none, key, locality, node}
use Rattle.names.specs.declared.Key.{Key}
use Rattle.images.specs.Script.{node_in_place, target_in_place, reference_in_place, field_in_range, count_in_place, field_in_place, fields_in_place, same_formal, fresh_formal, formals_distinct, places_in_row, fields_in_row, action_in_range, script_in_range}
use Rattle.images.specs.Net.{datum0}
use Rattle.images.specs.Shape.{ShapedScript}
use Rattle.images.specs.Examples.{script_t}
use Rattle.images.specs.declared.Datum.{Datum}
use Rattle.nets.specs.Rules.{Rules, Lawful}
use Rattle.nets.specs.Net.{live, past, tuple, consumed, Slot, Net, free_slot, fresh}
use Rattle.products.specs.Body.{Body}
use Rattle.rules.specs.Instance.{rules_of, lawful_of}
use Rattle.rules.specs.Roots.{rolled_by}
use Rattle.cases.specs.Shaped.{shaped_script}

pub range-T : script_in_range script_t ≡ true
unfolding script_in_range all action_in_range places_in_row fields_in_row node_in_place target_in_place reference_in_place field_in_range count_in_place field_in_place fields_in_place same_formal fresh_formal formals_distinct
range-T = refl

pub shaped-T : ShapedScript script_t
unfolding all
shaped-T = shaped_script script_t refl refl

abbrev pub T : Rules
T = rules_of script_t

abbrev pub T-lawful : Lawful T
T-lawful = lawful_of script_t shaped-T range-T

-- the key that a roll's reference holds
abbrev pub rolled : Body → ℕ
rolled = rolled_by script_t

-- ---- records and nets

-- a live process at a node and a locality, with these variables and references; and one with nothing set and nothing held
abbrev pub process_with : ℕ → ℕ → List Datum → List Key → Slot T
process_with p l vars refs =
    fresh live (record { locality = locality l; node = node p; count = 0; contents = vars; refs = refs })

abbrev pub process : ℕ → ℕ → Slot T
process p l = process_with p l (replicate 8 datum0) (replicate 4 (key none))

-- the process as an event: the keys it made, the tuple it used, the locality it made
abbrev pub did : Slot T → ℕ → ℕ → ℕ → ℕ → Slot T
did s a b t l = record { kind = past; body = s.body; first = a; second = b; used = t; place = l }

-- the tuple, consumed
abbrev pub taken : Slot T → Slot T
taken s = fresh consumed s.body

abbrev pub value : ℕ → Datum
value x = record { tag = 1; number = x }

abbrev pub place : ℕ → Datum
place l = record { tag = 2; number = l }

-- a live tuple of one field, and of two
abbrev pub tuple_of : Datum → ℕ → Slot T
tuple_of d l =
    fresh tuple
    (record { locality = locality l; node = node 0; count = 1; contents = d ∷ replicate 7 datum0; refs = replicate 4 (key none) })

abbrev pub pair_of : Datum → Datum → ℕ → Slot T
pair_of d e l =
    fresh tuple
    (record { locality = locality l; node = node 0; count = 2; contents = d ∷ e ∷ replicate 6 datum0; refs = replicate 4 (key none) })

-- so many localities from 0 on are present, and the slots from key 0 on are these
abbrev pub net : ℕ → List (Slot T) → Net T
net k slots = record { present = λ l. ltb l k; slot = λ i. get_or slots i free_slot }

-- "A: locality 0, key 0 at node 1, key 1 tuple ⟨2⟩"
abbrev pub slots_a : List (Slot T)
slots_a = process 1 0 ∷ tuple_of (value 2) 0 ∷ []

abbrev pub net_a : Net T
net_a = net 1 slots_a

-- "B: localities 0, 1, 2; key 0 tuple ⟨7⟩ at 0; key 1 node 4 at 1; key 2 node 5 at 2"
abbrev pub slots_b : List (Slot T)
slots_b = tuple_of (value 7) 0 ∷ process 4 1 ∷ process 5 2 ∷ []

abbrev pub net_b : Net T
net_b = net 3 slots_b

-- "C: as B, key 2 at node 4"
abbrev pub slots_c : List (Slot T)
slots_c = tuple_of (value 7) 0 ∷ process 4 1 ∷ process 4 2 ∷ []

abbrev pub net_c : Net T
net_c = net 3 slots_c

-- "D: key 0 node 6 at 0"
abbrev pub slots_d : List (Slot T)
slots_d = process 6 0 ∷ []

abbrev pub net_d : Net T
net_d = net 1 slots_d

-- "Node 8 at key 0"
abbrev pub net_e : Net T
net_e = net 1 (process 8 0 ∷ [])

-- "Node 9 against ⟨5, locality 0⟩", and "against ⟨5, 5⟩"
abbrev pub net_f : Net T
net_f = net 1 (process 9 0 ∷ pair_of (value 5) (place 0) 0 ∷ [])

abbrev pub net_g : Net T
net_g = net 1 (process 9 0 ∷ pair_of (value 5) (value 5) 0 ∷ [])
