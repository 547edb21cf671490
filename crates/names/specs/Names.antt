-- Names from bytes. Document 01, "Names and images": "Keys, localities, variables and nodes are four disjoint sets of names: keys 0..63,
-- localities 0..31, variables 0..7, nodes 0..63. There are also references 0..3, which hold keys. 255 means 'none' where said."
-- Assumes nothing.
use Rattle.std.specs.Prelude.{ℕ, Bool, true, ltb, eqb, Option, Some, None}
use Rattle.laws.specs.Choice.{pick}
use Rattle.names.specs.declared.Key.{Key}
use Rattle.names.specs.declared.Locality.{Locality}
use Rattle.names.specs.declared.Variable.{Variable}
use Rattle.names.specs.declared.Node.{Node}
use Rattle.names.specs.declared.Reference.{Reference}

-- ---- how many there are of each; the mark for none; the first locality that a step may make
abbrev pub key_count : ℕ
key_count = 64

abbrev pub locality_count : ℕ
locality_count = 32

abbrev pub first_made : ℕ
first_made = 8

abbrev pub variable_count : ℕ
variable_count = 8

abbrev pub node_count : ℕ
node_count = 64

abbrev pub reference_count : ℕ
reference_count = 4

abbrev pub none : ℕ
none = 255

-- ---- a name of each kind
abbrev pub key : ℕ → Key
key b = record { 0 = b }

abbrev pub locality : ℕ → Locality
locality b = record { 0 = b }

abbrev pub variable : ℕ → Variable
variable b = record { 0 = b }

abbrev pub node : ℕ → Node
node b = record { 0 = b }

abbrev pub reference : ℕ → Reference
reference b = record { 0 = b }

-- ---- ranges
-- a byte below a count, or 255
abbrev pub below_or_none : ℕ → ℕ → Bool
below_or_none count b = pick (eqb b none) true (ltb b count)

abbrev pub is_key : Key → Bool
is_key k = ltb k.0 key_count

abbrev pub is_key_or_none : Key → Bool
is_key_or_none k = below_or_none key_count k.0

abbrev pub is_locality : Locality → Bool
is_locality l = ltb l.0 locality_count

abbrev pub is_locality_or_none : Locality → Bool
is_locality_or_none l = below_or_none locality_count l.0

abbrev pub is_node : Node → Bool
is_node n = ltb n.0 node_count

abbrev pub is_reference_or_none : Reference → Bool
is_reference_or_none r = below_or_none reference_count r.0

-- ---- names from bytes
-- the name of a number below the limit
abbrev pub name_of : {A : Type 0} → (ℕ → A) → ℕ → ℕ → Option A
name_of named limit b = pick (ltb b limit) (Some (named b)) None

-- a name, or the mark for none
abbrev pub name_or_none : {A : Type 0} → (ℕ → A) → ℕ → ℕ → Option A
name_or_none named limit b = pick (below_or_none limit b) (Some (named b)) None

abbrev pub key_of : ℕ → Option Key
key_of = name_of key key_count

abbrev pub key_or_none : ℕ → Option Key
key_or_none = name_or_none key key_count

abbrev pub locality_of : ℕ → Option Locality
locality_of = name_of locality locality_count

abbrev pub locality_or_none : ℕ → Option Locality
locality_or_none = name_or_none locality locality_count

abbrev pub variable_of : ℕ → Option Variable
variable_of = name_of variable variable_count

abbrev pub node_of : ℕ → Option Node
node_of = name_of node node_count
