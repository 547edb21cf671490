-- Questions on bytes that change nothing: the finder and the two helpers. Document 01, **Finder** and **Helpers**.
-- In order: the finder (`found_in`); the least free key (`free_key_in`) and the least absent locality from 8 (`free_locality_in`).
-- Assumes nothing.
use Rattle.std.specs.Prelude.{ℕ, List}
use Rattle.laws.specs.Choice.{pick}
use Rattle.names.specs.Names.{none, key, locality}
use Rattle.names.specs.declared.Key.{Key}
use Rattle.names.specs.declared.Locality.{Locality}
use Rattle.requests.specs.Requests.{is_done}
use Rattle.requests.specs.declared.Answer.{Answer}
use Rattle.finder.specs.Finder.{found, found_of}
use Rattle.finder.specs.Helpers.{free_key, absent_locality}
use Rattle.finder.specs.declared.Found.{Found}
use Rattle.machine.specs.Calls.{script_in, net_in, image_answer}

-- "script, net and a key give the least key of a live tuple at the target that matches an in or read"; "A refusal returns key 255"
unfoldable pub found_in : List ℕ → List ℕ → ℕ → Found Key
found_in script net k =
    pick (is_done (image_answer script net)) (found_of (script_in script) (net_in net) (key k)) (found (image_answer script net) (key none))

-- "the least free key"; "'none' exactly when none is left, as answer 0 with 255; answers 1 and 2 as above, with 255"
unfoldable pub free_key_in : List ℕ → List ℕ → Found Key
free_key_in script net =
    pick (is_done (image_answer script net)) (found Answer.Done (free_key (net_in net))) (found (image_answer script net) (key none))

-- "and least absent locality from 8"
unfoldable pub free_locality_in : List ℕ → List ℕ → Found Locality
free_locality_in script net =
    pick (is_done (image_answer script net)) (found Answer.Done (absent_locality (net_in net).present))
    (found (image_answer script net) (locality none))
