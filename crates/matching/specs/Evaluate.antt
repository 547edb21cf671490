-- What a field stands for, with a process's variables as they stand, and where a process acts.
-- Document 01, "Forward rules": "Fields are evaluated with the variables as they stand."
-- Assumes nothing.
use Rattle.std.specs.Prelude.{ℕ, List, Bool, true, ◌&&◌, not, eqb, ltb, leb, get_or, Option, Some, None}
use Rattle.laws.specs.Choice.{pick}
use Rattle.laws.specs.Checks.{all}
use Rattle.names.specs.Names.{variable_count, locality_count, locality, variable}
use Rattle.names.specs.declared.Locality.{Locality}
use Rattle.names.specs.declared.Variable.{Variable}
use Rattle.images.specs.Script.{field_at}
use Rattle.images.specs.Net.{datum0}
use Rattle.images.specs.declared.Field.{Field}
use Rattle.images.specs.declared.Action.{Action}
use Rattle.images.specs.declared.Datum.{Datum}

-- field tags: "1 value, 2 literal locality, 3 variable"; "4 formal for a value, 5 formal for a locality"
abbrev pub is_variable : Field → Bool
is_variable f = eqb f.tag 3

abbrev pub is_formal : Field → Bool
is_formal f = leb 4 f.tag

-- the variable that a formal binds: none where the field is no formal, or names none
abbrev pub formal_of : Field → Option Variable
formal_of f = pick (is_formal f && ltb f.number variable_count) (Some (variable f.number)) None

-- the variable of this number
abbrev pub variable_of : List Datum → ℕ → Datum
variable_of vars v = pick (ltb v variable_count) (get_or vars v datum0) datum0

-- a value and a literal locality stand for themselves (a datum's tags 1 and 2 are a field's), a variable for what it holds
unfoldable pub actual : List Datum → Field → Datum
actual vars f = pick (is_variable f) (variable_of vars f.number) (record { tag = f.tag; number = f.number })

unfoldable pub evaluated : List Datum → Field → Option Datum
evaluated vars f = pick (eqb (actual vars f).tag 0) None (Some (actual vars f))

-- "target or actual variable unset, target no locality" (check 7): a target is evaluated as a field is
abbrev pub place_of : Datum → Option Locality
place_of d = pick (eqb d.tag 2 && ltb d.number locality_count) (Some (locality d.number)) None

unfoldable pub target_of : List Datum → Field → Option Locality
target_of vars f = place_of (actual vars f)

-- a formal needs no value; any other field has to be set
abbrev pub has_value : List Datum → Field → Bool
has_value vars f = pick (is_formal f) true (not (eqb (actual vars f).tag 0))

-- the fields below the count that are no formals are set
unfoldable pub is_ready : List Datum → ℕ → ℕ → Field → Bool
is_ready vars count j f = pick (ltb j count) (has_value vars f) true

unfoldable pub fields_ready : List Datum → Action → Bool
fields_ready vars a = all 4 (λ j. is_ready vars a.count j (field_at a j))
