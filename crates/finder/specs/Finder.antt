-- What the finder gives. Document 01, "Finder": "script, net and a key give the least key of a live tuple at the target that matches an in or read;
-- answers 1, 2, 3 (key above 63), 4, 5 (not in or read), 7, 8; and 9 exactly when no such tuple exists. A refusal returns key 255; the net is
-- unchanged." Checks 1 and 2 are the images' and acceptance's, and come before these.
-- In order: the tuple meets the process (`meeting`); the checks before the search (`before_search`), and all of them (`finder_checks`); the answer and
-- the key that the code gives (`found_of`).
-- Assumes nothing.
use Rattle.std.specs.Prelude.{ℕ, Bool, ◌&&◌, List, [], ◌∷◌, ◌++◌, eqb, ltb}
use Rattle.laws.specs.Choice.{pick, ◌⇒◌}
use Rattle.order.specs.KeySets.{any}
use Rattle.names.specs.Names.{key_count, none, key}
use Rattle.names.specs.declared.Key.{Key}
use Rattle.images.specs.declared.Script.{Script}
use Rattle.images.specs.declared.Net as Images
use Rattle.nets.specs.Rules.{Rules, Act, uses, aims}
use Rattle.nets.specs.Net.{is_live, is_live_tuple, Slot, Net}
use Rattle.rules.specs.View.{view}
use Rattle.requests.specs.Checks.{Check, check, refusal}
use Rattle.requests.specs.Requests.{answer_of, is_done}
use Rattle.requests.specs.declared.Answer.{Answer}
use Rattle.finder.specs.Least.{least}
use Rattle.finder.specs.declared.Found.{Found}

module _ {R : Rules} (n : Net R) (k : ℕ) where
  abbrev pub slot : Slot R
  slot = n.slot k

  abbrev pub act : Act
  act = R.act slot.body

  -- "a live tuple at the target that matches"
  unfoldable pub meeting : ℕ → Bool
  meeting t =
      is_live_tuple (n.slot t).kind &&
      (eqb (R.at (n.slot t).body) (R.target slot.body) && R.fits slot.body (n.slot t).body)

  -- "3 (key above 63), 4, 5 (not in or read), 7, 8"
  unfoldable pub before_search : List Check
  before_search =
      check 3 (ltb k key_count) ∷ check 4 (is_live slot.kind) ∷ check 5 (uses act) ∷ check 7 (R.ready slot.body) ∷
      check 8 (aims act ⇒ n.present (R.target slot.body)) ∷ []

  -- "and 9 exactly when no such tuple exists"
  unfoldable pub finder_checks : List Check
  finder_checks = before_search ++ check 9 (any key_count meeting) ∷ []

  -- "the least key"
  unfoldable pub least_meeting : ℕ
  least_meeting = least key_count meeting

-- ---- as the code gives it

abbrev pub found : {N : Type 0} → Answer → N → Found N
found a name = record { answer = a; name = name }

-- "A refusal returns key 255"
abbrev pub found_by : Answer → ℕ → Found Key
found_by a k = found a (key (pick (is_done a) k none))

unfoldable pub found_of : Script → Images.Net → Key → Found Key
found_of s n k = found_by (answer_of (refusal (finder_checks (view s n) k.0))) (least_meeting (view s n) k.0)
