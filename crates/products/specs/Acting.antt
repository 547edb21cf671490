-- Where a step acts: "at the target", or, where its node has none, where the process is; and what it makes there. Nothing here must be believed:
-- it is the target and the second thing of `Products`, as the code finds them.
-- In order: where a node acts (`acting_at`, `acts_at`); check 7 as an answer that carries it (`readiness`), and what that says (`ready_acts`, `unset_false`); check 8 of it
-- (`acts_there`, `acts_target`); the second thing made there (`tuple_at`, `process_at`, `second_at`), which is the rule's (`second_acts`).
-- Assumes nothing.
use Rattle.std.specs.Prelude.{ℕ, ◌≡◌, List, true, false, eqb, replicate, Option, Some, None}
use Rattle.std.proofs.Math.Path.{refl, ap, sym}
use Rattle.std.proofs.Common.{◌∙◌, arith, eqb-true, ne_eqb}
use Rattle.laws.specs.Choice.{pick, cases, or_right}
use Rattle.laws.specs.Lists.{tab}
use Rattle.names.specs.Names.{reference_count, none, key, locality, node}
use Rattle.names.specs.declared.Locality.{Locality}
use Rattle.names.specs.declared.Localities.{Localities}
use Rattle.images.specs.Script.{field_at}
use Rattle.images.specs.declared.Action.{Action}
use Rattle.images.specs.declared.Datum.{Datum}
use Rattle.images.specs.declared.Slot.{Slot}
use Rattle.matching.specs.Evaluate.{target_of, fields_ready}
use Rattle.products.specs.Body.{Body, live_process, live_tuple}
use Rattle.products.specs.Products.{is_out, is_eval, meets_tuple, makes_second, has_target, has_fields, number_of, is_found, target_by, ready_by, target_there, field_made, tuple_by, process_by, second_slot}

-- ---- where a node acts

unfoldable pub acting_at : Action → Locality → List Datum → Option Locality
acting_at a own vars = pick (has_target a.kind) (target_of vars a.target) (Some own)

unfoldable pub acts_at : Action → Locality → List Datum → Locality
acts_at a own vars = pick (has_target a.kind) (locality (target_by a vars)) own

-- ---- check 7 as an answer

unfoldable pub readiness : Action → Locality → List Datum → Option Locality
readiness a own vars = pick (ready_by a vars) (Some (acts_at a own vars)) None

module _ (a : Action) (own : Locality) (vars : List Datum) where
  pub ready_acts : (l : Locality) → readiness a own vars ≡ Some l → (ready_by a vars ≡ true) × (l ≡ acts_at a own vars)
  unfolding readiness
  ready_acts l e =
      cases (ready_by a vars)
      (λ t. let b : Some (acts_at a own vars) ≡ Some l = rw t at e in (t, cc))
      (λ t. let b : None ≡ Some l = rw t at e in cc)

  pub unset_false : readiness a own vars ≡ None → ready_by a vars ≡ false
  unfolding readiness
  unset_false e =
      cases (ready_by a vars)
      (λ t. let b : Some (acts_at a own vars) ≡ None = rw t at e in cc)
      (λ t. t)

  -- what the code finds on its way there
  found : (l : Locality) → Some l ≡ acting_at a own vars
      → (pick (has_target a.kind) (is_found (target_of vars a.target)) true ≡ true) × (l ≡ acts_at a own vars)
  unfolding acting_at acts_at target_by
  found l e =
      cases (has_target a.kind)
      (λ t.
      let b : Some l ≡ target_of vars a.target = rw t at e in
      (rw t (sym (ap is_found b)), rw t (ap (λ (z : Option Locality). locality (number_of z)) b)))
      (λ t.
      let b : Some l ≡ Some own = rw t at e in
      (rw t refl, rw t (ap (λ (z : Option Locality). locality (number_of z)) b)))

  pub ready_missing : None ≡ acting_at a own vars → None ≡ readiness a own vars
  unfolding readiness ready_by acting_at
  ready_missing e =
      cases (has_target a.kind)
      (λ t.
      let b : None ≡ target_of vars a.target = rw t at e in
      rw (t, sym (ap is_found b)) refl)
      (λ t. let b : None ≡ Some own = rw t at e in cc)

  module _ (l : Locality) (e : Some l ≡ acting_at a own vars) where
    pub ready_not : pick (has_fields a.kind) (fields_ready vars a) true ≡ false → None ≡ readiness a own vars
    unfolding readiness ready_by
    ready_not h = rw ((found l e).0, h) refl

    pub ready_at : pick (has_fields a.kind) (fields_ready vars a) true ≡ true → Some l ≡ readiness a own vars
    unfolding readiness ready_by
    ready_at h = rw ((found l e).0, h) (ap Some (found l e).1)

  -- ---- the target, where there is one

  pub acts_target : has_target a.kind ≡ true → acts_at a own vars ≡ locality (target_by a vars)
  unfolding acts_at
  acts_target t = rw t refl

  pub acts_own : has_target a.kind ≡ false → acts_at a own vars ≡ own
  unfolding acts_at
  acts_own t = rw t refl

  pub acts_there : (present : Localities) → target_there a.kind present (acts_at a own vars) ≡ target_there a.kind present (locality (target_by a vars))
  unfolding target_there
  acts_there present =
      cases (has_target a.kind) (λ t. ap (λ (l : Locality). target_there a.kind present l) (acts_target t)) (λ t. rw t)

-- ---- the second thing made, there

-- the tuple that an out makes of these variables
unfoldable pub tuple_of : Action → List Datum → Locality → Slot
tuple_of a vars l =
    live_tuple
    (record { locality = l; node = node 0; count = a.count; contents = tab 8 (λ j. field_made vars a.count j (field_at a j)); refs = replicate reference_count (key none) })

unfoldable pub tuple_at : Action → Body → Locality → Slot
tuple_at a b l = tuple_of a b.contents l

unfoldable pub process_at : Action → Body → Locality → Slot
process_at a b l = live_process (record { locality = l; node = a.other; count = 0; contents = b.contents; refs = b.refs })

unfoldable pub second_at : Action → Body → Locality → Slot
second_at a b l = pick (is_out a.kind) (tuple_at a b l) (process_at a b l)

-- an out and an eval have a target; a split has none
pub second_acts : (a : Action) (b : Body) → makes_second a.kind ≡ true → second_at a b (acts_at a b.locality b.contents) ≡ second_slot a b
unfolding second_at second_slot tuple_at tuple_of process_at tuple_by process_by acts_at
second_acts a b h =
    cases (is_out a.kind) (λ o. rw o refl)
    (λ o. cases (is_eval a.kind)
    (λ e.
    let aims : has_target a.kind ≡ true = or_right (is_out a.kind) _ (or_right (meets_tuple a.kind) _ e) in
    rw (aims, o, e) refl)
    (λ e.
    let split : a.kind ≡ 6 = eqb-true a.kind 6 (rw (o, e) at h) in
    let takes : eqb a.kind 2 ≡ false = ne_eqb a.kind 2 (λ z. apart (sym z ∙ split)) in
    let reads : eqb a.kind 3 ≡ false = ne_eqb a.kind 3 (λ z. apart₂ (sym z ∙ split)) in
    let aims : has_target a.kind ≡ false = rw (o, takes, reads, e) refl in
    rw (aims, o, e) refl))
  where
    apart : ◌≡◌ {A = ℕ} 2 6 → ⊥
    apart z = omega arith

    apart₂ : ◌≡◌ {A = ℕ} 3 6 → ⊥
    apart₂ z = omega arith
