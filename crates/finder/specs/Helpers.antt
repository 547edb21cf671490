-- Which names are left. Document 01, "Helpers": "the least free key, and least absent locality from 8; 'none' exactly when none is left". A key freed
-- by undoing is free: what counts is what the slot holds.
-- In order: `free_key`, and what a search over the keys comes to (`free_first`); `absent_locality`, and what a search from locality 8 on comes to
-- (`absent_first`, `absent_not`, `absent_given`). `Laws` says both of the net that the image stands for.
-- Assumes nothing.
use Rattle.std.specs.Prelude.{ℕ, ◌<◌, ◌≤◌, ◌≡◌, refl, Bool, false, ◌&&◌, Option, unwrap_or}
use Rattle.std.proofs.Math.Path.{ap}
use Rattle.std.proofs.Common.{arith, lt-ltb, le-leb}
use Rattle.std.proofs.Math.Bool.{true, not}
use Rattle.order.specs.KeySets.{Set}
use Rattle.names.specs.Names.{key_count, locality_count, first_made, none, key, locality}
use Rattle.names.specs.Localities.{holds}
use Rattle.names.specs.declared.Key.{Key}
use Rattle.names.specs.declared.Locality.{Locality}
use Rattle.names.specs.declared.Localities.{Localities}
use Rattle.images.specs.Net.{is_free, slot_at}
use Rattle.images.specs.declared.Net.{Net}
use Rattle.rules.specs.Instance.{makeable, below_made}
use Rattle.finder.specs.Least.{least_or_none, First, first_same, given_first}

unfoldable pub free_key : Net → Key
free_key n = key (least_or_none key_count (λ k. is_free (slot_at n k)))

module _ (n : Net) where
  abbrev free_at : ℕ → Bool
  free_at k = is_free (slot_at n k)

  -- what a search over the keys comes to
  pub free_first : (r : Option ℕ) → First 0 key_count free_at r → key (unwrap_or r none) ≡ free_key n
  unfolding free_key
  free_first r h = ap key (given_first 0 key_count free_at (λ j l. absurd (omega (arith, l))) r h)

-- a locality from 8 on that is not present
abbrev pub is_absent : Localities → ℕ → Bool
is_absent present l = makeable l && not (holds present (locality l))

unfoldable pub absent_locality : Localities → Locality
absent_locality present = locality (least_or_none locality_count (is_absent present))

module _ (present : Localities) where
  -- those below 8 need not be looked at
  pub absent_first : (j : ℕ) → j < first_made → is_absent present j ≡ false
  absent_first j l = rw (below_made j l)

  pub absent_not : (l : ℕ) → holds present (locality l) ≡ true → is_absent present l ≡ false
  absent_not l h = rw h (and_no (makeable l))
    where
      and_no : (b : Bool) → (b && false) ≡ false
      and_no true = refl
      and_no false = refl

  absent_from : (l : ℕ) → first_made ≤ l → l < locality_count → is_absent present l ≡ not (holds present (locality l))
  absent_from l from below = rw (le-leb first_made l from, lt-ltb l locality_count below)

  -- what a search of those from 8 on comes to
  pub absent_given : (r : Option ℕ) → First first_made locality_count (λ l. not (holds present (locality l))) r → locality (unwrap_or r none) ≡ absent_locality present
  unfolding absent_locality
  absent_given r h =
      let test : Set = λ l. not (holds present (locality l)) in
      ap locality
      (given_first first_made locality_count (is_absent present) absent_first r
      (first_same first_made locality_count (is_absent present) test absent_from r h))
