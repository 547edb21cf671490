-- The checks as the code makes them, on the slots that a request names. Nothing here must be believed: `Tested` proves them to be the checks
-- of `requests`, of the net that the slots are from.
-- In order: each test of a forward step, and these in their order (`forward_tests`); the match as the code answers it (`template_answer`), and what that
-- answer says (`answer_met`, `answer_not_met`).
-- Assumes nothing.
use Rattle.std.specs.Prelude.{ℕ, Bool, true, false, ◌&&◌, not, ◌≡◌, List, [], ◌∷◌, eqb, Result, Ok, Err}
use Rattle.laws.specs.Choice.{pick, cases, ◌⇒◌}
use Rattle.names.specs.Localities.{holds}
use Rattle.names.specs.declared.Locality.{Locality}
use Rattle.names.specs.declared.Localities.{Localities}
use Rattle.images.specs.Net.{is_free}
use Rattle.images.specs.declared.Action.{Action}
use Rattle.images.specs.declared.Datum.{Datum}
use Rattle.images.specs.declared.Slot.{Slot}
use Rattle.matching.specs.Match.{meets, match_of, matches_meets, differs_not}
use Rattle.matching.specs.declared.Mismatch.{Mismatch}
use Rattle.products.specs.Products.{is_step, is_newloc, meets_tuple, makes_second, target_there, ready_by}
use Rattle.products.specs.Acting.{acts_at}
use Rattle.rules.specs.Instance.{makeable}
use Rattle.requests.specs.Checks as C
use Rattle.requests.specs.Checks.{check}
use Rattle.requests.specs.Answers.{as_needed}
use Rattle.requests.specs.declared.Request.{Request}

-- 6: "an unneeded place not 255, or a needed one 255"
unfoldable pub places_by : ℕ → Request → Bool
places_by kind r =
    as_needed (meets_tuple kind) r.used.0 &&
    (as_needed true r.first.0 && (as_needed (makes_second kind) r.second.0 && as_needed (is_newloc kind) r.place.0))

-- 9: "tuple key not a live tuple at the target"
unfoldable pub tuple_there : ℕ → Slot → Locality → Bool
tuple_there kind t l = meets_tuple kind ⇒ (eqb t.kind 3 && eqb t.locality.0 l.0)

-- 10: "no match"
unfoldable pub template_met : Action → List Datum → Slot → Bool
template_met a vars t = meets_tuple a.kind ⇒ meets vars a t.count t.contents

-- 11: "a fresh key not free, both equal, or fresh locality below 8 or present", by whether the slots of the two keys are free
unfoldable pub second_fresh : ℕ → Bool → Request → Bool
second_fresh kind free r = makes_second kind ⇒ (free && not (eqb r.first.0 r.second.0))

unfoldable pub place_fresh : ℕ → Localities → Locality → Bool
place_fresh kind present l = is_newloc kind ⇒ (makeable l.0 && not (holds present l))

unfoldable pub names_fresh : ℕ → Bool → Bool → Localities → Request → Bool
names_fresh kind one two present r = one && (second_fresh kind two r && place_fresh kind present r.place)

-- checks 4 to 11, of the process x at the node a, with the tuple t and the slots of the fresh keys
unfoldable pub forward_tests : Action → Slot → Slot → Slot → Slot → Localities → Request → List C.Check
forward_tests a x t first second present r =
    check 4 (eqb x.kind 1) ∷ check 5 (is_step a.kind) ∷ check 6 (places_by a.kind r) ∷ check 7 (ready_by a x.contents) ∷
    check 8 (target_there a.kind present (acts_at a x.locality x.contents)) ∷
    check 9 (tuple_there a.kind t (acts_at a x.locality x.contents)) ∷ check 10 (template_met a x.contents t) ∷
    check 11 (names_fresh a.kind (is_free first) (is_free second) present r) ∷ []

-- ---- the match, as an answer

unfoldable pub template_answer : Action → List Datum → Slot → Result Unit Mismatch
template_answer a vars t = pick (meets_tuple a.kind) (match_of vars a t) (Ok tt)

module _ (a : Action) (vars : List Datum) (t : Slot) where
  pub answer_met : template_answer a vars t ≡ Ok tt → template_met a vars t ≡ true
  unfolding template_answer template_met
  answer_met e = cases (meets_tuple a.kind) (λ m. rw m (matches_meets vars a t (rw m at e))) (λ m. rw m)

  pub answer_not_met : {d : Mismatch} → template_answer a vars t ≡ Err d → template_met a vars t ≡ false
  unfolding template_answer template_met
  answer_not_met e = cases (meets_tuple a.kind) (λ m. rw m (differs_not vars a t (rw m at e))) (λ m. (cc (rw m at e)))
