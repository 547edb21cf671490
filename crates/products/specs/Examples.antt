-- What each rule makes, worked out by hand for a small script, and held against the definitions by computing. Nothing in the theory of
-- nets tells one set of rules from another, so these lines, the cases and the second program do.
-- Assumes nothing.
use Rattle.std.specs.Prelude.{ℕ, ◌-◌, ◌≡◌, refl, List, [], ◌∷◌, ◌++◌, true, false, length, replicate}
use Rattle.laws.specs.Lists.{tab}
use Rattle.laws.specs.Checks.{all}
use Rattle.names.specs.Names.{none, key, locality, node}
use Rattle.names.specs.declared.Key.{Key}
use Rattle.images.specs.Script.{field0}
use Rattle.images.specs.Examples.{field, action}
use Rattle.images.specs.Net.{datum0}
use Rattle.images.specs.declared.Script.{Script}
use Rattle.images.specs.declared.Datum.{Datum}
use Rattle.matching.specs.Evaluate
use Rattle.matching.specs.Evaluate.{target_of, actual, fields_ready}
use Rattle.matching.specs.Match.{meets, place_meets, field_meets, bound, bind_up_to, bind_one}
use Rattle.products.specs.Body.{Body}
use Rattle.products.specs.Products.{target, is_ready, fits, variables_after, references_after, continuation, second_made, continued_by, process_by, ready_by, second_by, target_by, tuple_by}

-- 0 out ⟨6, locality 1, variable 0⟩@2 with reference 1; 1 in ⟨!x3, !u4⟩@variable 1 with reference 2; 2 read ⟨variable 0, locality 3⟩@2;
-- 3 newloc variable 5 with reference 0; 4 eval 7 @variable 1 with reference 3; 5 split 8, 9; each goes on at 10
abbrev script : Script
script =
    record {
      nodes =
          action 1 10 0 (field 2 2) 1 (field 1 6 ∷ field 2 1 ∷ field 3 0 ∷ []) ∷ action 2 10 0 (field 3 1) 2 (field 4 3 ∷ field 5 4 ∷ []) ∷
          action 3 10 0 (field 2 2) none (field 3 0 ∷ field 2 3 ∷ []) ∷ action 4 10 0 (field 3 5) 0 [] ∷ action 5 10 7 (field 3 1) 3 [] ∷
          action 6 8 9 field0 none [] ∷ [];
    }

abbrev value : ℕ → Datum
value x = record { tag = 1; number = x }

abbrev place : ℕ → Datum
place l = record { tag = 2; number = l }

-- variable 0 holds 40 and variable 1 locality 9; references 0 and 1 hold keys 50 and 51
abbrev vars : List Datum
vars = value 40 ∷ place 9 ∷ replicate 6 datum0

abbrev refs : ℕ → ℕ → ℕ → ℕ → List Key
refs a b c d = key a ∷ key b ∷ key c ∷ key d ∷ []

-- a process of the script at locality 4, and what its rule makes of its node, variables and references
abbrev at : ℕ → Body
at p = record { locality = locality 4; node = node p; count = 0; contents = vars; refs = refs 50 51 none none }

abbrev goes : ℕ → List Datum → List Key → Body
goes p v r = record { locality = locality 4; node = node p; count = 0; contents = v; refs = r }

abbrev tuple : List Datum → ℕ → Body
tuple ds l =
    record { locality = locality l; node = node 0; count = length ds; contents = ds ++ replicate (8 - length ds) datum0; refs = replicate 4 (key none) }

-- the event's key is 20; a tuple ⟨8, locality 12⟩ is met, locality 30 is made
abbrev met : Body
met = tuple (value 8 ∷ place 12 ∷ []) 9

abbrev next : ℕ → Body
next p = continuation script (key 20) (at p) met (locality 30)

-- "the node's reference, if any, takes the old key"
out_goes_on : next 0 ≡ goes 10 vars (refs 50 20 none none)
unfolding continued_by variables_after references_after
out_goes_on = refl

-- "out: 4 new tuple at the target"
out_makes : second_made script (at 0) ≡ tuple (value 6 ∷ place 1 ∷ value 40 ∷ []) 2
unfolding second_by tuple_by target_by target_of actual tab
out_makes = refl

-- "an in or read binds its formals"; an in takes its reference too
in_goes_on : next 1 ≡ goes 10 (value 40 ∷ place 9 ∷ datum0 ∷ value 8 ∷ place 12 ∷ replicate 3 datum0) (refs 50 51 20 none)
unfolding continued_by variables_after references_after bound bind_up_to bind_one
in_goes_on = refl

in_at : target script (at 1) ≡ 9
unfolding target_by target_of actual
in_at = refl

in_meets : fits script (at 1) met ≡ true
unfolding fits meets place_meets field_meets all actual
in_meets = refl

-- a read with no reference and no formal changes nothing
read_goes_on : next 2 ≡ goes 10 vars (refs 50 51 none none)
unfolding continued_by variables_after references_after bound bind_up_to bind_one
read_goes_on = refl

-- an actual matches the same kind and number alone: ⟨40, locality 3⟩, and neither ⟨40, 3⟩ nor ⟨41, locality 3⟩ nor one field more
read_meets : fits script (at 2) (tuple (value 40 ∷ place 3 ∷ []) 2) ≡ true
unfolding fits meets place_meets field_meets all actual
read_meets = refl

read_differs_in_kind : fits script (at 2) (tuple (value 40 ∷ value 3 ∷ []) 2) ≡ false
unfolding fits meets place_meets field_meets all actual
read_differs_in_kind = refl

read_differs_in_number : fits script (at 2) (tuple (value 41 ∷ place 3 ∷ []) 2) ≡ false
unfolding fits meets place_meets field_meets all actual
read_differs_in_number = refl

read_differs_in_count : fits script (at 2) (tuple (value 40 ∷ place 3 ∷ value 0 ∷ []) 2) ≡ false
unfolding fits meets place_meets field_meets all actual
read_differs_in_count = refl

-- "newloc binds its variable"
newloc_goes_on : next 3 ≡ goes 10 (value 40 ∷ place 9 ∷ replicate 3 datum0 ++ place 30 ∷ replicate 2 datum0) (refs 20 51 none none)
unfolding continued_by variables_after references_after
newloc_goes_on = refl

eval_goes_on : next 4 ≡ goes 10 vars (refs 50 51 none 20)
unfolding continued_by variables_after references_after
eval_goes_on = refl

-- "a process at the target, node other, variables and references as before the step, without the new reference"
eval_makes : second_made script (at 4) ≡ record { locality = locality 9; node = node 7; count = 0; contents = vars; refs = refs 50 51 none none }
unfolding second_by process_by target_by target_of actual
eval_makes = refl

-- "split: 3 left, 4 right, both unchanged otherwise"
split_goes_left : next 5 ≡ goes 8 vars (refs 50 51 none none)
unfolding continued_by variables_after references_after
split_goes_left = refl

split_goes_right : second_made script (at 5) ≡ goes 9 vars (refs 50 51 none none)
unfolding second_by process_by
split_goes_right = refl

-- an unset variable as an actual field is not ready, and as a target neither
unset : Body
unset = record { locality = locality 4; node = node 2; count = 0; contents = replicate 8 datum0; refs = refs none none none none }

read_not_ready : is_ready script unset ≡ false
unfolding unset ready_by target_of actual fields_ready Evaluate.is_ready all
read_not_ready = refl
