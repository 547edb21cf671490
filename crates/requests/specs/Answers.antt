-- What a request is answered: the checks of each code in their order, and what a call that is done gives. Document 01, "Requests and what
-- comes back". Checks 1 and 2 are the images' and acceptance's, and come before these.
-- Assumes nothing.
use Rattle.std.specs.Prelude.{ℕ, List, [], ◌∷◌, Bool, true, false, ◌&&◌, ◌||◌, not, eqb, ltb, leb}
use Rattle.laws.specs.Choice.{pick, sameb, ◌⇒◌}
use Rattle.laws.specs.Checks.{all}
use Rattle.order.specs.KeySets.{any}
use Rattle.order.specs.Words.{word_of}
use Rattle.names.specs.Names.{key_count, locality_count, none, below_or_none}
use Rattle.nets.specs.Rules.{Rules, Act, number, acts, uses, aims, is_newloc, is_split, second_of, is_there}
use Rattle.nets.specs.Net.{is_free, is_live, is_past, is_live_tuple, Slot, Net, makes, reads}
use Rattle.nets.specs.Forward as Forward
use Rattle.nets.specs.Forward.{forward}
use Rattle.nets.specs.Undo as Undo
use Rattle.nets.specs.Undo.{undo, rollback, touched}
use Rattle.requests.specs.Checks.{Check, check, refusal}

-- "Six bytes: code, key, tuple key, first and second fresh key, fresh locality."
pub record Request : Type 0 where
  pub code : ℕ
  pub key : ℕ
  pub used : ℕ
  pub first : ℕ
  pub second : ℕ
  pub place : ℕ

-- what a call gives: its answer, undone, touched as a word, and the net
pub record Outcome (R : Rules) : Type 0 where
  pub answer : ℕ
  pub undone : ℕ
  pub touched : ℕ
  pub net : Net R

-- 3: "code above 3; key above 63; others neither 255 nor in range"
unfoldable pub in_range : Request → Bool
in_range r =
    leb r.code 3 &&
    (ltb r.key key_count &&
    (below_or_none key_count r.used &&
    (below_or_none key_count r.first && (below_or_none key_count r.second && below_or_none locality_count r.place))))

-- 6: "an unneeded place not 255, or a needed one 255"
abbrev pub as_needed : Bool → ℕ → Bool
as_needed need p = sameb need (not (eqb p none))

-- "codes 1 to 3 none of these"
unfoldable pub no_places : Request → Bool
no_places r = as_needed false r.used && (as_needed false r.first && (as_needed false r.second && as_needed false r.place))

-- "Forward out, eval and split need both fresh keys; in and read the tuple key and the first; newloc the first and the locality"
unfoldable pub places_of : Act → Request → Bool
places_of a r =
    as_needed (uses a) r.used &&
    (as_needed true r.first && (as_needed (is_there (second_of a)) r.second && as_needed (is_newloc a) r.place))

-- the roll's reference, as the key that it holds
module _ {R : Rules} (rolled : R.Body → ℕ) where
  module _ (n : Net R) (r : Request) where
    abbrev pub slot : Slot R
    slot = n.slot r.key

    abbrev pub act : Act
    act = R.act slot.body

    -- 9: "tuple key not a live tuple at the target"
    unfoldable pub tuple_there : Bool
    tuple_there = is_live_tuple (n.slot r.used).kind && eqb (R.at (n.slot r.used).body) (R.target slot.body)

    -- 11: "a fresh key not free, both equal, or fresh locality below 8 or present"
    unfoldable pub fresh_free : Bool
    fresh_free =
        is_free (n.slot r.first).kind &&
        ((is_there (second_of act) ⇒ (is_free (n.slot r.second).kind && not (eqb r.first r.second))) &&
        (is_newloc act ⇒ (R.makeable r.place && not (n.present r.place))))

    -- 12: "A past process may be undone when all keys it made are live, a tuple it made is in no past read, and, for a past read, its
    -- tuple is live."
    unfoldable pub made_stays : ℕ → Bool
    made_stays k =
        makes n r.key k ⇒
        ((is_live (n.slot k).kind || is_live_tuple (n.slot k).kind) && not (any key_count (λ f. reads n f k)))

    unfoldable pub can_undo : Bool
    can_undo = all key_count made_stays && all key_count (λ k. reads n r.key k ⇒ is_live_tuple (n.slot k).kind)

    -- ---- the checks of each code

    unfoldable pub forward_checks : List Check
    forward_checks =
        check 4 (is_live slot.kind) ∷ check 5 (acts act) ∷ check 6 (places_of act r) ∷ check 7 (R.ready slot.body) ∷
        check 8 (aims act ⇒ n.present (R.target slot.body)) ∷ check 9 (uses act ⇒ tuple_there) ∷
        check 10 (uses act ⇒ R.fits slot.body (n.slot r.used).body) ∷ check 11 fresh_free ∷ []

    unfoldable pub backward_checks : List Check
    backward_checks = check 4 (is_past slot.kind) ∷ check 6 (no_places r) ∷ check 12 can_undo ∷ []

    unfoldable pub rollback_checks : List Check
    rollback_checks = check 4 (is_past slot.kind) ∷ check 5 (not (is_split act)) ∷ check 6 (no_places r) ∷ []

    unfoldable pub roll_checks : List Check
    roll_checks =
        check 4 (is_live slot.kind) ∷ check 5 (eqb (number act) 7) ∷ check 6 (no_places r) ∷
        check 7 (not (eqb (rolled slot.body) none)) ∷ []

    -- "Codes: 0 forward, 1 backward, 2 rollback of the named event, 3 roll by the named live process."
    unfoldable pub checks_of : List Check
    checks_of =
        check 3 (in_range r) ∷
        pick (eqb r.code 0) forward_checks
        (pick (eqb r.code 1) backward_checks (pick (eqb r.code 2) rollback_checks roll_checks))

    unfoldable pub answer : ℕ
    answer = refusal checks_of

    -- ---- what is done

    abbrev pub places : Forward.Request
    places = record { key = r.key; used = r.used; first = r.first; second = r.second; place = r.place }

    -- the event that a call of code 2 or 3 rolls back
    unfoldable pub event : ℕ
    event = pick (eqb r.code 3) (rolled slot.body) r.key

    unfoldable pub net_after : Net R
    net_after = pick (eqb r.code 0) (forward n places) (pick (eqb r.code 1) (undo n r.key) (rollback n event))

    -- "Undone is their number": a forward step undoes none, a backward step one
    unfoldable pub undone : ℕ
    undone = pick (eqb r.code 0) 0 (pick (eqb r.code 1) 1 (Undo.undone n event))

    -- "Touched is a 32-bit set: the localities at which a slot became free in the call; 0 for a forward step."
    unfoldable pub touched_word : ℕ
    touched_word = word_of locality_count (touched n net_after)

    -- "any refusal leaves the net, with undone 0 and touched 0"
    unfoldable pub outcome : Outcome R
    outcome =
        pick (eqb answer 0) (record { answer = 0; undone = undone; touched = touched_word; net = net_after })
        (record { answer = answer; undone = 0; touched = 0; net = n })
