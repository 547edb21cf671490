-- The shape of an array that is a field, for any element type: owning it tells its length (`array_length`) and the same of each of its
-- elements (`each_at`). A struct's own shape law is these two, applied to its fields.
-- Assumes nothing.
use mathlib.Core.Path.{◌≡◌, ◌∙◌, sym}
use mathlib.Core.List.{List, [], ◌∷◌, map}
use Prim.Native.Nat.{ℕ, zero, suc, ◌<◌}
use native.Mathlib.Nat.{le_of_suc-le-suc, not-suc-le-zero}
use lib.ListN.{length, get_or, length-map}
use mir.Val.{Val}
use denote.Shadow.{shadow}
use denote.Array.{Array, each}
use denote.RattleType.{RattleType}
use denote.Struct.Field.{Field, array_field}

pub array_length : (F : Field) (k : ℕ) (xs : List F.Value) (vs : List Val) → shadow ((array_field F k).row.own_val (map F.into xs) vs) → length xs ≡ k
array_length F k xs vs p = sym (length-map xs F.into) ∙ p.1.0.1

pub each_at : (F : Field) (xs : List F.Value) (us : List Val) → shadow (each F.row.Denot F.row.own_val (map F.into xs) us) → (i : ℕ) (d : F.Value) → i < length xs → (v : List Val) × shadow (F.row.own_val (F.into (get_or xs i d)) v)
each_at F [] us p i d h = absurd (not-suc-le-zero h)
each_at F (x ∷ xs) [] p i d h = absurd p
each_at F (x ∷ xs) (u ∷ us) p zero d h = (u ∷ [], p.0)
each_at F (x ∷ xs) (u ∷ us) p (suc i) d h = each_at F xs us p.1 i d (le_of_suc-le-suc h)

-- the same of an array that stands in a struct at its own row: the elements themselves are owned, without a way into the row
pub length_own : (R : RattleType) (k : ℕ) (xs : List R.Denot) (vs : List Val) → shadow ((Array R k).own_val xs vs) → length xs ≡ k
length_own R k xs vs p = p.1.0.1

pub each_own : (R : RattleType) (xs : List R.Denot) (us : List Val) → shadow (each R.Denot R.own_val xs us) → (i : ℕ) (d : R.Denot) → i < length xs → (v : List Val) × shadow (R.own_val (get_or xs i d) v)
each_own R [] us p i d h = absurd (not-suc-le-zero h)
each_own R (x ∷ xs) [] p i d h = absurd p
each_own R (x ∷ xs) (u ∷ us) p zero d h = (u ∷ [], p.0)
each_own R (x ∷ xs) (u ∷ us) p (suc i) d h = each_own R xs us p.1 i d (le_of_suc-le-suc h)
