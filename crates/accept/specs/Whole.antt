-- Clauses about the net as a whole, as the code tests them. Nothing here must be believed: `Told` proves these tests the theory's.
-- Assumes nothing.
use Rattle.std.specs.Prelude.{ℕ, Bool, true, ◌&&◌, ◌||◌, not, List, eqb}
use Rattle.laws.specs.Choice.{pick, sameb, ◌⇒◌}
use Rattle.laws.specs.Checks.{all}
use Rattle.names.specs.Names.{key_count, locality_count, key, locality, is_locality}
use Rattle.names.specs.Localities.{holds}
use Rattle.names.specs.KeySets.{is_in}
use Rattle.names.specs.declared.Key.{Key}
use Rattle.names.specs.declared.Keys.{Keys}
use Rattle.names.specs.declared.Locality.{Locality}
use Rattle.names.specs.declared.Localities.{Localities}
use Rattle.images.specs.Net.{slot_at, slot_with, is_free}
use Rattle.images.specs.declared.Slot.{Slot}
use Rattle.images.specs.declared.Net.{Net}
use Rattle.products.specs.Body.{body_of}
use Rattle.rules.specs.Instance.{makeable}
use Rattle.rules.specs.Roots.{rooted}
use Rattle.traces.specs.Traces.{deed_at}

-- a consumed tuple was taken; what an in took is no live tuple
unfoldable pub tuple_right : ℕ → Key → Slot → Slot → Keys → Bool
tuple_right deed k x t taken = pick (eqb x.kind 4) (is_in taken k) (eqb deed 2 ⇒ not (eqb t.kind 3))

unfoldable pub tuples_right : List ℕ → Net → Keys → Bool
tuples_right ds n taken = all key_count (λ k. tuple_right (deed_at ds k) (key k) (slot_at n k) (slot_with n (slot_at n k).used) taken)

unfoldable pub locality_right : Localities → Localities → Locality → Bool
locality_right present made l = sameb (holds present l) (holds made l)

-- "Localities 8..31 are present exactly when made."
unfoldable pub localities_right : Localities → Localities → Bool
localities_right present made = all locality_count (λ l. makeable l ⇒ locality_right present made (locality l))

unfoldable pub root_right : Localities → Bool → Slot → Bool
root_right present made x =
    pick (is_free x) true (made || (rooted (body_of x) && (is_locality x.locality && holds present x.locality)))

unfoldable pub roots_right : Net → Keys → Bool
roots_right n made = all key_count (λ k. root_right n.present (is_in made (key k)) (slot_at n k))
