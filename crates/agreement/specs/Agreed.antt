-- The lengths of what a step makes: contents with all their places make contents with all their places (`Whole`, `whole_next` and its kin). That the code's test
-- of an event is the theory's is in proofs/Agreed.
-- Assumes nothing.
use Prim.Native.Nat.{ℕ, zero, suc}
use Rattle.std.specs.Prelude.{◌≡◌, Bool, true, false, ltb, length, get_or}
use Rattle.std.proofs.Math.Path.{refl}
use Rattle.std.proofs.Common.{◌∙◌, length-set}
use mathlib.Core.List.{List}
use Rattle.laws.specs.Choice.{pick}
use Rattle.laws.specs.Lists.{length_tab}
use Rattle.names.specs.Names.{variable_count, reference_count}
use Rattle.names.specs.declared.Key.{Key}
use Rattle.names.specs.declared.Locality.{Locality}
use Rattle.images.specs.Script.{field_at}
use Rattle.images.specs.Net.{datum0}
use Rattle.images.specs.declared.Action.{Action}
use Rattle.images.specs.declared.Datum.{Datum}
use Rattle.matching.specs.Evaluate.{is_formal}
use Rattle.matching.specs.Match.{with_variable, bind_one, bind_up_to, bound}
use Rattle.products.specs.Body.{Body}
use Rattle.products.specs.Products.{is_newloc, meets_tuple, variables_after, references_after, continued_by, tuple_by, process_by}

pick_length : {A : Type 0} (b : Bool) (xs ys : List A) (k : ℕ) → length xs ≡ k → length ys ≡ k → length (pick b xs ys) ≡ k
pick_length true xs ys k p q = p
pick_length false xs ys k p q = q

-- ---- the lengths of what is made

with_length : (vars : List Datum) (v : ℕ) (d : Datum) → length (with_variable vars v d) ≡ length vars
with_length vars v d = pick_length (ltb v variable_count) _ vars (length vars) (length-set vars v d) refl

bind_length : (k : ℕ) (vars : List Datum) (a : Action) (fields : List Datum) → length (bind_up_to k vars a fields) ≡ length vars
unfolding bind_up_to bind_one
bind_length zero vars a fields = refl
bind_length (suc k) vars a fields =
    let before = bind_up_to k vars a fields in
    pick_length (is_formal (field_at a k)) _ before (length before) (with_length before (field_at a k).number (get_or fields k datum0)) refl ∙
    bind_length k vars a fields

variables_length : (a : Action) (vars fields : List Datum) (l : Locality) → length (variables_after a vars fields l) ≡ length vars
unfolding variables_after bound
variables_length a vars fields l =
    pick_length (meets_tuple a.kind) _ _ (length vars) (bind_length 4 vars a fields)
    (pick_length (is_newloc a.kind) _ vars (length vars) (with_length vars a.target.number (record { tag = 2; number = l.0 })) refl)

references_length : (a : Action) (k : Key) (refs : List Key) → length (references_after a k refs) ≡ length refs
unfolding references_after
references_length a k refs =
    pick_length (ltb a.reference.0 reference_count) _ refs (length refs) (length-set refs a.reference.0 k) refl

-- contents with all their places: eight variables or fields, four references
abbrev pub Whole : Body → Type 0
Whole b = (length b.contents ≡ 8) × (length b.refs ≡ 4)

pub whole_next : (a : Action) (k : Key) (b : Body) (fields : List Datum) (l : Locality) → Whole b → Whole (continued_by a k b fields l)
unfolding continued_by
whole_next a k b fields l w = (variables_length a b.contents fields l ∙ w.0, references_length a k b.refs ∙ w.1)

pub whole_tuple : (a : Action) (b : Body) → Whole (tuple_by a b)
unfolding tuple_by
whole_tuple a b = (length_tab 8 _, refl)

pub whole_process : (a : Action) (b : Body) → Whole b → Whole (process_by a b)
unfolding process_by
whole_process a b w = w
