-- Nets that a careless test of acceptance lets pass: each is refused, for the one clause that says so.
-- In order: a small script and its rules; an event that made itself; an in before a read of its tuple, and two of them crossed; an eval that
-- made one key twice; an out at an absent locality.
-- Assumes nothing.
use Rattle.std.specs.Prelude.{ℕ, ◌≡◌, refl, List, [], ◌∷◌, Bool, true, false, ◌||◌, eqb, get_or, replicate}
use Rattle.std.proofs.Common.{sym, true≢false}
use Rattle.laws.specs.Checks.{all}
use Rattle.order.specs.Graphs.{here, step}
use Rattle.names.specs.Names.{none, key, locality, node}
use Rattle.images.specs.Script.{node_in_place, target_in_place, reference_in_place, field_in_range, count_in_place, field_in_place, fields_in_place, same_formal, fresh_formal, formals_distinct, places_in_row, fields_in_row, action_in_range, script_in_range}
use Rattle.images.specs.Net.{datum0, refs_are, process_in_range, tuple_in_range, refs_in_range, variables_in_range, is_datum, is_set, is_unset, made_are, data_fill, field_or_blank}
use Rattle.images.specs.Read.{nil_action}
use Rattle.images.specs.Examples.{field, action}
use Rattle.images.specs.declared.Field.{Field}
use Rattle.images.specs.declared.Action.{Action}
use Rattle.images.specs.declared.Script.{Script}
use Rattle.images.specs.declared.Datum.{Datum}
use Rattle.matching.specs.Evaluate
use Rattle.matching.specs.Evaluate.{target_of, actual, fields_ready}
use Rattle.matching.specs.Match.{meets, place_meets, field_meets, bound, bind_up_to, bind_one}
use Rattle.nets.specs.Rules.{Rules}
use Rattle.nets.specs.Net.{Kind, live, past, tuple, consumed, Slot, Net, free_slot, fresh, made_key, took_tuple, read_tuple, made_locality, depends}
use Rattle.nets.specs.Rule.{product}
use Rattle.nets.specs.Accepted.{Accepted}
use Rattle.products.specs.Body.{Body}
use Rattle.products.specs.Products.{fits, variables_after, references_after, continued_by, process_by, ready_by, second_by, target_by, tuple_by}
use Rattle.laws.specs.Lists.{tab}
use Rattle.order.specs.KeySets.{any}
use Rattle.order.specs.Dependents
use Rattle.order.specs.Distinct
use Rattle.order.specs.Peeling
use Rattle.order.specs.Peeling.{acyclic}
use Rattle.nets.specs.Accepting.{accepted, formed, same_slot, agreed, ruled, placed, fitting, once_each, tuples_right, localities_right, roots_right}
use Rattle.rules.specs.Same.{is_accepted, same_body, same_list}
use Rattle.rules.specs.Roots.{rooted}
use Rattle.rules.specs.Instance.{act_of, rules_of}

-- ---- the script

-- a node without a reference: kind, next, other, target, fields
abbrev act : ℕ → ℕ → ℕ → Field → List Field → Action
act k n o t fs = action k n o t none fs

-- 0 nil; 1 newloc variable 0, next 1; 2 in ⟨7⟩@0, next 3; 3 read ⟨7⟩@0; 4 eval 0 @0; 5 out ⟨1⟩@5; 6 in ⟨7⟩@0, next 7; 7 read ⟨8⟩@0;
-- 8 in ⟨8⟩@0, next 3; others nil
abbrev script : Script
script =
    record {
      nodes =
          nil_action ∷ act 4 1 0 (field 3 0) [] ∷ act 2 3 0 (field 2 0) (field 1 7 ∷ []) ∷ act 3 0 0 (field 2 0) (field 1 7 ∷ []) ∷
          act 5 0 0 (field 2 0) [] ∷ act 1 0 0 (field 2 5) (field 1 1 ∷ []) ∷ act 2 7 0 (field 2 0) (field 1 7 ∷ []) ∷
          act 3 0 0 (field 2 0) (field 1 8 ∷ []) ∷ act 2 3 0 (field 2 0) (field 1 8 ∷ []) ∷ replicate 55 nil_action;
    }

-- the script has its form, so that what is refused is the net
pub range : script_in_range script ≡ true
unfolding script_in_range all action_in_range places_in_row fields_in_row node_in_place target_in_place reference_in_place field_in_range count_in_place field_in_place fields_in_place same_formal fresh_formal formals_distinct
range = refl

abbrev S : Rules
S = rules_of script

-- ---- records

abbrev at : ℕ → ℕ → List Datum → Body
at p l vars = record { locality = locality l; node = node p; count = 0; contents = vars; refs = replicate 4 (key none) }

abbrev nothing : List Datum
nothing = replicate 8 datum0

abbrev event : Body → ℕ → ℕ → ℕ → ℕ → Slot S
event b x y t l = record { kind = past; body = b; first = x; second = y; used = t; place = l }

abbrev tuple_at : Kind → ℕ → ℕ → Slot S
tuple_at c x l =
    fresh c
    (record { locality = locality l; node = node 0; count = 1; contents = record { tag = 1; number = x } ∷ replicate 7 datum0; refs = replicate 4 (key none) })

abbrev net : (ℕ → Bool) → List (Slot S) → Net S
net present slots = record { present = present; slot = λ i. get_or slots i free_slot }

abbrev ended : ℕ → Slot S
ended l = fresh live (at 0 l nothing)

-- ---- the nets

-- "present {0, 8}; key 0 an event at a newloc node (variable 0, next itself) at locality 8, variable 0 = locality 8, byte 3 = 0,
-- byte 6 = 8. It made itself."
abbrev self_made : Net S
self_made = net (λ l. eqb l 0 || eqb l 8) (event (at 1 8 (record { tag = 2; number = 8 } ∷ replicate 7 datum0)) 0 none none 8 ∷ [])

pub self_made_refused : Accepted self_made → ⊥
unfolding depends made_key
self_made_refused ok = ok.no_cycle 0 0 refl here

-- "an in of tuple 1 whose continuation is a past read of tuple 1"
abbrev read_after : Net S
read_after = net (λ l. eqb l 0) (event (at 2 0 nothing) 2 none 1 none ∷ tuple_at consumed 7 0 ∷ event (at 3 0 nothing) 3 none 1 none ∷ ended 0 ∷ [])

pub read_after_refused : Accepted read_after → ⊥
unfolding depends made_key took_tuple read_tuple act_of
read_after_refused ok = ok.no_cycle 0 2 refl (step refl here)

-- "crossed: A in t1 then read t2, B in t2 then read t1"
abbrev crossed : Net S
crossed =
    net (λ l. eqb l 0)
    (event (at 6 0 nothing) 1 none 4 none ∷ event (at 7 0 nothing) 2 none 5 none ∷ ended 0 ∷ free_slot ∷ tuple_at consumed 7 0 ∷
    tuple_at consumed 8 0 ∷ event (at 8 0 nothing) 7 none 5 none ∷ event (at 3 0 nothing) 8 none 4 none ∷ ended 0 ∷ [])

pub crossed_refused : Accepted crossed → ⊥
unfolding depends made_key took_tuple read_tuple act_of
crossed_refused ok = ok.no_cycle 0 1 refl (step {f = 6} refl (step {f = 7} refl (step refl here)))

-- "An eval with next = other, target its own locality, no reference, and byte 3 = byte 4"
abbrev made_twice : Net S
made_twice = net (λ l. eqb l 0) (event (at 4 0 nothing) 1 1 none none ∷ ended 0 ∷ [])

pub made_twice_refused : Accepted made_twice → ⊥
made_twice_refused ok = (ok.agrees 0 refl).rule.places.apart refl

-- "A past out at an absent literal locality 5 with its tuple there"
abbrev nowhere : Net S
nowhere = net (λ l. eqb l 0) (event (at 5 0 nothing) 1 2 none none ∷ ended 0 ∷ tuple_at tuple 1 5 ∷ [])

pub nowhere_refused : Accepted nowhere → ⊥
unfolding act_of target_by target_of actual
nowhere_refused ok = true≢false (sym ((ok.agrees 0 refl).rule.there refl))

-- ---- the same by the test of acceptance, which computes

abbrev tested : Net S → Bool
tested n = is_accepted script n

self_made_tested : tested self_made ≡ false
unfolding accepted formed same_slot agreed ruled placed fitting once_each Distinct.distinct tuples_right localities_right roots_right same_body same_list acyclic Dependents.rounds Peeling.peel Peeling.last depends made_key took_tuple read_tuple made_locality any all product act_of target_by target_of actual ready_by fits continued_by second_by tuple_by process_by variables_after references_after meets place_meets field_meets bound bind_up_to bind_one fields_ready Evaluate.is_ready rooted refs_are process_in_range tuple_in_range refs_in_range variables_in_range is_datum is_set is_unset made_are data_fill field_or_blank tab
self_made_tested = refl

read_after_tested : tested read_after ≡ false
unfolding accepted formed same_slot agreed ruled placed fitting once_each Distinct.distinct tuples_right localities_right roots_right same_body same_list acyclic Dependents.rounds Peeling.peel Peeling.last depends made_key took_tuple read_tuple made_locality any all product act_of target_by target_of actual ready_by fits continued_by second_by tuple_by process_by variables_after references_after meets place_meets field_meets bound bind_up_to bind_one fields_ready Evaluate.is_ready rooted refs_are process_in_range tuple_in_range refs_in_range variables_in_range is_datum is_set is_unset made_are data_fill field_or_blank tab
read_after_tested = refl

crossed_tested : tested crossed ≡ false
unfolding accepted formed same_slot agreed ruled placed fitting once_each Distinct.distinct tuples_right localities_right roots_right same_body same_list acyclic Dependents.rounds Peeling.peel Peeling.last depends made_key took_tuple read_tuple made_locality any all product act_of target_by target_of actual ready_by fits continued_by second_by tuple_by process_by variables_after references_after meets place_meets field_meets bound bind_up_to bind_one fields_ready Evaluate.is_ready rooted refs_are process_in_range tuple_in_range refs_in_range variables_in_range is_datum is_set is_unset made_are data_fill field_or_blank tab
crossed_tested = refl

made_twice_tested : tested made_twice ≡ false
unfolding accepted formed same_slot agreed ruled placed fitting once_each Distinct.distinct tuples_right localities_right roots_right same_body same_list acyclic Dependents.rounds Peeling.peel Peeling.last depends made_key took_tuple read_tuple made_locality any all product act_of target_by target_of actual ready_by fits continued_by second_by tuple_by process_by variables_after references_after meets place_meets field_meets bound bind_up_to bind_one fields_ready Evaluate.is_ready rooted refs_are process_in_range tuple_in_range refs_in_range variables_in_range is_datum is_set is_unset made_are data_fill field_or_blank tab
made_twice_tested = refl

nowhere_tested : tested nowhere ≡ false
unfolding accepted formed same_slot agreed ruled placed fitting once_each Distinct.distinct tuples_right localities_right roots_right same_body same_list acyclic Dependents.rounds Peeling.peel Peeling.last depends made_key took_tuple read_tuple made_locality any all product act_of target_by target_of actual ready_by fits continued_by second_by tuple_by process_by variables_after references_after meets place_meets field_meets bound bind_up_to bind_one fields_ready Evaluate.is_ready rooted refs_are process_in_range tuple_in_range refs_in_range variables_in_range is_datum is_set is_unset made_are data_fill field_or_blank tab
nowhere_tested = refl
