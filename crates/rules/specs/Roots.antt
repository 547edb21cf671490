-- What a record names and holds, and what one that nobody made may.
-- Assumes nothing.
use Rattle.std.specs.Prelude.{ℕ, List, Bool, true, ◌&&◌, eqb, ltb, get_or}
use Rattle.laws.specs.Choice.{pick}
use Rattle.laws.specs.Checks.{all}
use Rattle.order.specs.KeySets.{any}
use Rattle.names.specs.Names.{key_count, first_made, reference_count, none, key}
use Rattle.images.specs.Net.{datum0, refs_are}
use Rattle.images.specs.declared.Datum.{Datum}
use Rattle.images.specs.declared.Script.{Script}
use Rattle.products.specs.Body.{Body}
use Rattle.products.specs.Products.{action}

-- a variable or a field that holds this locality
abbrev pub is_place : ℕ → Datum → Bool
is_place m d = eqb d.tag 2 && eqb d.number m

unfoldable pub names : Body → ℕ → Bool
names b m = any 8 (λ j. is_place m (get_or b.contents j datum0))

-- a reference that holds this key
unfoldable pub refers : Body → ℕ → Bool
refers b r = ltb r key_count && any 4 (λ j. eqb (get_or b.refs j (key 0)).0 r)

-- "A record nobody made lives at a present locality 0..7, names only localities 0..7 (present or not) and holds no reference."
abbrev pub is_home : Datum → Bool
is_home d = pick (eqb d.tag 2) (ltb d.number first_made) true

abbrev pub all_home : List Datum → Bool
all_home ds = all 8 (λ j. is_home (get_or ds j datum0))

unfoldable pub rooted : Body → Bool
rooted b = ltb b.locality.0 first_made && (all_home b.contents && refs_are none b.refs)

-- the key that the node's reference holds, or none: what a roll rolls back
abbrev pub rolled_by : Script → Body → ℕ
rolled_by s b = pick (ltb (action s b).reference.0 reference_count) (get_or b.refs (action s b).reference.0 (key none)).0 none
