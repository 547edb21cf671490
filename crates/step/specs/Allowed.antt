-- What the checks of a forward step find, and what that says.
-- In order: the tests of the slots that a request names (`forward_found`); where the step acts, or the answer of the first that fails (`allowed_by`), from
-- the tests (`refused_by`, `allowed_at`), and back (`at_found`, `refused_found`); check by check (`refuses_process` to `refuses_names`, `allows`), all of them in `finding`;
-- what a step that none refuses found (`Found`, `found`): the slots that it changes are three (`apart_first`, `apart_used`, `apart_taken`).
-- Assumes nothing.
use Rattle.std.specs.Prelude.{ℕ, ◌<◌, ◌≡◌, refl, Bool, List, eqb, ltb, leb, Some, None, Result, Ok, Err}
use Rattle.std.proofs.Math.Path.{ap, sym}
use Rattle.std.proofs.Common.{◌∙◌, subst, arith}
use Rattle.std.proofs.Math.Bool.{true, false}
use borrow.Author.Tests.{eqb-true, lt-ltb, ltb-true, not-true}
use Rattle.laws.specs.Choice.{pick, cases, and_left, and_right, told}
use Rattle.names.specs.Names.{key_count, none, is_key, below_or_none}
use Rattle.names.specs.declared.Key.{Key}
use Rattle.names.specs.declared.Locality.{Locality}
use Rattle.images.specs.Net.{slot_at, slot_with, is_free}
use Rattle.images.specs.declared.Action.{Action}
use Rattle.images.specs.declared.Net.{Net}
use Rattle.images.specs.declared.Slot.{Slot}
use Rattle.matching.specs.Match.{mismatch}
use Rattle.products.specs.Products.{is_step, meets_tuple, target_there, ready_by}
use Rattle.products.specs.Acting.{acts_at, readiness, ready_acts, unset_false}
use Rattle.requests.specs.Checks.{Check, refusal, all_hold}
use Rattle.requests.specs.Answers.{in_range, as_needed}
use Rattle.requests.specs.Requests.{asked, is_done, answer_of, done_zero}
use Rattle.requests.specs.declared.Request.{Request}
use Rattle.requests.specs.declared.Answer.{Answer}
use Rattle.step.specs.Tests.{places_by, tuple_there, names_fresh, forward_tests, template_answer, answer_met, answer_not_met}

-- the tests of the process at the node a, with what stands at the keys of the request
unfoldable pub forward_found : Action → Net → Request → List Check
forward_found a n r =
    forward_tests a (slot_with n r.key) (slot_with n r.used) (slot_with n r.first) (slot_with n r.second) n.present r

-- where the step acts
abbrev pub acts_in : Action → Net → Request → Locality
acts_in a n r = acts_at a (slot_with n r.key).locality (slot_with n r.key).contents

unfoldable pub allowed_by : Action → Net → Request → Result Locality Answer
allowed_by a n r =
    pick (is_done (answer_of (refusal (forward_found a n r)))) (Ok (acts_in a n r)) (Err (answer_of (refusal (forward_found a n r))))

module _ (a : Action) (n : Net) (r : Request) where
  abbrev o : Answer
  o = answer_of (refusal (forward_found a n r))

  pub refused_by : (k : ℕ) → refusal (forward_found a n r) ≡ k → is_done (answer_of k) ≡ false → Err (answer_of k) ≡ allowed_by a n r
  unfolding allowed_by
  refused_by k e h =
      let no_way : is_done o ≡ false = ap (λ (j : ℕ). is_done (answer_of j)) e ∙ h in
      rw no_way (ap (λ (j : ℕ). Err (answer_of j)) (sym e))

  pub allowed_at : (l : Locality) → refusal (forward_found a n r) ≡ 0 → l ≡ acts_in a n r → Ok l ≡ allowed_by a n r
  unfolding allowed_by
  allowed_at l e is =
      let way : is_done o ≡ true = ap (λ (j : ℕ). is_done (answer_of j)) e in
      rw way (ap Ok is)

  pub at_found : (l : Locality) → allowed_by a n r ≡ Ok l → (is_done o ≡ true) × (l ≡ acts_in a n r)
  unfolding allowed_by
  at_found l e =
      cases (is_done o)
      (λ h. (h, let b : Ok (acts_in a n r) ≡ Ok l = rw h at e in cc))
      (λ h. let b : Err o ≡ Ok l = rw h at e in cc)

  pub refused_found : (q : Answer) → allowed_by a n r ≡ Err q → (q ≡ o) × (is_done o ≡ false)
  unfolding allowed_by
  refused_found q e =
      cases (is_done o)
      (λ h. let b : Ok (acts_in a n r) ≡ Err q = rw h at e in absurd (cc))
      (λ h. (let b : Err o ≡ Err q = rw h at e in cc, h))

  -- ---- check by check, in their order: the answer where this one does not hold, and where all do

  abbrev x : Slot
  x = slot_with n r.key

  abbrev t : Slot
  t = slot_with n r.used

  pub refuses_process : eqb x.kind 1 ≡ false → Err Answer.WrongProcess ≡ allowed_by a n r
  unfolding forward_found forward_tests refusal
  refuses_process h = refused_by 4 (rw h) refl

  module _ (live : eqb x.kind 1 ≡ true) where
    pub refuses_node : is_step a.kind ≡ false → Err Answer.WrongNode ≡ allowed_by a n r
    unfolding forward_found forward_tests refusal
    refuses_node h = refused_by 5 (rw (live, h)) refl

    module _ (steps : is_step a.kind ≡ true) where
      pub refuses_places : places_by a.kind r ≡ false → Err Answer.WrongPlaces ≡ allowed_by a n r
      unfolding forward_found forward_tests refusal
      refuses_places h = refused_by 6 (rw (live, steps, h)) refl

      module _ (given : places_by a.kind r ≡ true) where
        pub refuses_unset : readiness a x.locality x.contents ≡ None → Err Answer.Unset ≡ allowed_by a n r
        unfolding forward_found forward_tests refusal
        refuses_unset h = refused_by 7 (rw (live, steps, given, unset_false a x.locality x.contents h)) refl

        module _ (l : Locality) (at : readiness a x.locality x.contents ≡ Some l) where
          ready : ready_by a x.contents ≡ true
          ready = (ready_acts a x.locality x.contents l at).0

          at_is : l ≡ acts_in a n r
          at_is = (ready_acts a x.locality x.contents l at).1

          pub refuses_target : target_there a.kind n.present l ≡ false → Err Answer.TargetAbsent ≡ allowed_by a n r
          unfolding forward_found forward_tests refusal
          refuses_target h = refused_by 8 (rw (live, steps, given, ready, ← at_is, h)) refl

          module _ (target : target_there a.kind n.present l ≡ true) where
            pub refuses_tuple : tuple_there a.kind t l ≡ false → Err Answer.NoTuple ≡ allowed_by a n r
            unfolding forward_found forward_tests refusal
            refuses_tuple h = refused_by 9 (rw (live, steps, given, ready, ← at_is, target, h)) refl

            module _ (tuple : tuple_there a.kind t l ≡ true) where
              pub refuses_match : template_answer a x.contents t ≡ Err mismatch → Err Answer.NoMatch ≡ allowed_by a n r
              unfolding forward_found forward_tests refusal
              refuses_match h = refused_by 10 (rw (live, steps, given, ready, ← at_is, target, tuple, answer_not_met a x.contents t h)) refl

              module _ (met : template_answer a x.contents t ≡ Ok tt) where
                pub refuses_names : names_fresh a.kind (is_free (slot_with n r.first)) (is_free (slot_with n r.second)) n.present r ≡ false → Err Answer.NotFresh ≡ allowed_by a n r
                unfolding forward_found forward_tests refusal
                refuses_names h = refused_by 11 (rw (live, steps, given, ready, ← at_is, target, tuple, answer_met a x.contents t met, h)) refl

                pub allows : names_fresh a.kind (is_free (slot_with n r.first)) (is_free (slot_with n r.second)) n.present r ≡ true → Ok l ≡ allowed_by a n r
                unfolding forward_found forward_tests refusal
                allows h = allowed_at l (rw (live, steps, given, ready, ← at_is, target, tuple, answer_met a x.contents t met, h)) at_is

  -- ---- what a step that none refuses found

  pub record Found : Type 0 where
    pub is_live_lem : (slot_with n r.key).kind ≡ 1
    pub given : places_by a.kind r ≡ true
    pub there : tuple_there a.kind (slot_with n r.used) (acts_in a n r) ≡ true
    pub fresh : names_fresh a.kind (is_free (slot_with n r.first)) (is_free (slot_with n r.second)) n.present r ≡ true

  pub found : is_done o ≡ true → Found
  unfolding forward_found forward_tests
  found h =
      let hold = all_hold (forward_found a n r) ((λ z. omega (arith, z)), ((λ z. omega (arith, z)), ((λ z. omega (arith, z)), ((λ z. omega (arith, z)), ((λ z. omega (arith, z)), ((λ z. omega (arith, z)), ((λ z. omega (arith, z)), ((λ z. omega (arith, z)), tt)))))))) (done_zero (refusal (forward_found a n r)) h) in
      record {
        is_live_lem = eqb-true (slot_with n r.key).kind 1 hold.0;
        given = hold.1.1.0;
        there = hold.1.1.1.1.1.0;
        fresh = hold.1.1.1.1.1.1.1.0;
      }

  module _ (g : Found) where
    -- a record is not where nothing is held
    first_free : is_free (slot_with n r.first) ≡ true
    unfolding names_fresh
    first_free = and_left (is_free (slot_with n r.first)) _ g.fresh

    free_kind : (k : ℕ) → pick (eqb k 0) true (ltb 4 k) ≡ true → (k ≡ 1 → ⊥) × (k ≡ 3 → ⊥)
    free_kind k h =
        cases (eqb k 0)
        (λ z. let e : k ≡ 0 = eqb-true k 0 z in ((λ q. omega (arith, e, q)), (λ q. omega (arith, e, q))))
        (λ z. let l : 4 < k = ltb-true 4 k (rw z at h) in ((λ q. omega (arith, l, q)), (λ q. omega (arith, l, q))))

    pub apart_first : r.key.0 ≡ r.first.0 → ⊥
    apart_first e =
        (free_kind (slot_with n r.first).kind first_free).0 (ap (λ (k : Key). (slot_with n k).kind) (λ i. record { 0 = sym e i }) ∙ g.is_live_lem)

    module _ (m : meets_tuple a.kind ≡ true) where
      a_tuple : (slot_with n r.used).kind ≡ 3
      unfolding tuple_there
      a_tuple = eqb-true (slot_with n r.used).kind 3 (and_left (eqb (slot_with n r.used).kind 3) _ (told (meets_tuple a.kind) _ g.there m))

      pub apart_used : r.used.0 ≡ r.first.0 → ⊥
      apart_used e =
          (free_kind (slot_with n r.first).kind first_free).1 (ap (λ (k : Key). (slot_with n k).kind) (λ i. record { 0 = sym e i }) ∙ a_tuple)

      pub apart_taken : r.used.0 ≡ r.key.0 → ⊥
      apart_taken e =
          let same : (slot_with n r.used).kind ≡ (slot_with n r.key).kind = ap (λ (k : Key). (slot_with n k).kind) (λ i. record { 0 = e i }) in
          omega (arith, same, a_tuple, g.is_live_lem)

-- a needed place that is in range is a key
pub used_key : (kind : ℕ) (r : Request) → in_range (asked r) ≡ true → places_by kind r ≡ true → meets_tuple kind ≡ true → is_key r.used ≡ true
unfolding in_range places_by
used_key kind r range given m =
    let rest = and_right (ltb r.key.0 key_count) _ (and_right (leb r.code 3) _ range) in
    let below : below_or_none key_count r.used.0 ≡ true = and_left (below_or_none key_count r.used.0) _ rest in
    let needed : as_needed (meets_tuple kind) r.used.0 ≡ true = and_left (as_needed (meets_tuple kind) r.used.0) _ given in
    let some : eqb r.used.0 none ≡ false = not-true (eqb r.used.0 none) (subst (λ (b : Bool). as_needed b r.used.0 ≡ true) m needed) in
    rw some at below

pub in_range_key : (r : Request) → in_range (asked r) ≡ true → r.key.0 < key_count
unfolding in_range
in_range_key r range = ltb-true r.key.0 key_count (and_left (ltb r.key.0 key_count) _ (and_right (leb r.code 3) _ range))

-- a key is looked up where it is
pub slot_with_lem : (n : Net) (k : Key) → k.0 < key_count → slot_at n k.0 ≡ slot_with n k
slot_with_lem n k l = rw (lt-ltb k.0 key_count l) refl

-- what the code finds, check by check, and what it asks of the request's keys
pub ruleset finding = (
  refuses_process,
  refuses_node,
  refuses_places,
  refuses_unset,
  refuses_target,
  refuses_tuple,
  refuses_match,
  refuses_names,
  allows,
  used_key,
  in_range_key,
  slot_with_lem,
)
