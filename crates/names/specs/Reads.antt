-- What a name that was read from a byte or a number says of it, and what a refusal says.
-- In order: the two laws of any kind of name (`read`, `not_read`); then both for keys, localities, variables and nodes.
-- Assumes nothing.
use Rattle.std.specs.Prelude.{ℕ, ◌≡◌, refl, Bool, true, false, ltb, Some, None}
use Rattle.laws.specs.Choice.{pick}
use Rattle.names.specs.Names.{key_count, locality_count, variable_count, node_count, below_or_none, key, locality, variable, node, key_of, key_or_none, locality_of, locality_or_none, variable_of, node_of}
use Rattle.names.specs.declared.Key.{Key}
use Rattle.names.specs.declared.Locality.{Locality}
use Rattle.names.specs.declared.Variable.{Variable}
use Rattle.names.specs.declared.Node.{Node}

-- what was found is what stands there, and the test held
pub read : {A : Type 0} (t : Bool) (a x : A) → Some x ≡ pick t (Some a) None → (x ≡ a) × (t ≡ true)
read true a x e = (cc, refl)
read false a x e = cc

-- after a refusal the test did not hold
pub not_read : {A : Type 0} (t : Bool) (a : A) → None ≡ pick t (Some a) None → t ≡ false
not_read true a e = cc
not_read false a e = refl

-- ---- keys

pub key_read : (b : ℕ) (k : Key) → Some k ≡ key_of b → (k ≡ key b) × (ltb b key_count ≡ true)
key_read b k e = read (ltb b key_count) (key b) k e

pub key_bad : (b : ℕ) → None ≡ key_of b → ltb b key_count ≡ false
key_bad b e = not_read (ltb b key_count) (key b) e

pub key_or_none_read : (b : ℕ) (k : Key) → Some k ≡ key_or_none b → (k ≡ key b) × (below_or_none key_count b ≡ true)
key_or_none_read b k e = read (below_or_none key_count b) (key b) k e

pub key_or_none_bad : (b : ℕ) → None ≡ key_or_none b → below_or_none key_count b ≡ false
key_or_none_bad b e = not_read (below_or_none key_count b) (key b) e

-- ---- localities

pub locality_read : (x : ℕ) (l : Locality) → Some l ≡ locality_of x → (l ≡ locality x) × (ltb x locality_count ≡ true)
locality_read x l e = read (ltb x locality_count) (locality x) l e

pub locality_bad : (x : ℕ) → None ≡ locality_of x → ltb x locality_count ≡ false
locality_bad x e = not_read (ltb x locality_count) (locality x) e

pub locality_or_none_read : (b : ℕ) (l : Locality) → Some l ≡ locality_or_none b → (l ≡ locality b) × (below_or_none locality_count b ≡ true)
locality_or_none_read b l e = read (below_or_none locality_count b) (locality b) l e

pub locality_or_none_bad : (b : ℕ) → None ≡ locality_or_none b → below_or_none locality_count b ≡ false
locality_or_none_bad b e = not_read (below_or_none locality_count b) (locality b) e

-- ---- variables

pub variable_read : (x : ℕ) (v : Variable) → Some v ≡ variable_of x → (v ≡ variable x) × (ltb x variable_count ≡ true)
variable_read x v e = read (ltb x variable_count) (variable x) v e

pub variable_bad : (x : ℕ) → None ≡ variable_of x → ltb x variable_count ≡ false
variable_bad x e = not_read (ltb x variable_count) (variable x) e

-- ---- nodes

pub node_read : (b : ℕ) (n : Node) → Some n ≡ node_of b → (n ≡ node b) × (ltb b node_count ≡ true)
node_read b n e = read (ltb b node_count) (node b) n e

pub node_bad : (b : ℕ) → None ≡ node_of b → ltb b node_count ≡ false
node_bad b e = not_read (ltb b node_count) (node b) e
