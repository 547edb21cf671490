-- 004, Table III, as a relation, and that the test of Match is true exactly when it holds. A field in range has a tag of 1 to 5.
-- In order: one field (`Meets`, `field_meets_iff`); a whole template (`Matches`, `meets_iff`).
-- Assumes nothing.
use Rattle.std.specs.Prelude.{ℕ, ◌<◌, ◌≤◌, ◌≡◌, ◌↔◌, List, true, eqb, ltb, get_or}
use Rattle.std.proofs.Common.{ap, arith}
use borrow.Author.Tests.{eqb-true, eqb-false, eq-eqb, ne_eqb, lt-ltb, ltb-true}
use Rattle.laws.specs.Choice.{pick, cases, and_left, and_right, and_both}
use Rattle.laws.specs.Checks.{all_of, all_at}
use Rattle.images.specs.Script.{field_at}
use Rattle.images.specs.Net.{datum0}
use Rattle.images.specs.declared.Field.{Field}
use Rattle.images.specs.declared.Action.{Action}
use Rattle.images.specs.declared.Datum.{Datum}
use Rattle.matching.specs.Evaluate.{actual}
use Rattle.matching.specs.Match.{field_meets, place_meets, meets}

-- one field of a template against one of a tuple, with the process's variables as they stand
pub data Meets (vars : List Datum) (f : Field) (d : Datum) : Type 0 where
  -- match(v, v) and match(l, l)
  same : f.tag ≤ 3 → actual vars f ≡ d → Meets vars f d
  -- match(!x, v) = [v/x]
  value : f.tag ≡ 4 → d.tag ≡ 1 → Meets vars f d
  -- match(!u, l) = [l/u]
  locality : f.tag ≡ 5 → d.tag ≡ 2 → Meets vars f d

module _ (vars : List Datum) (f : Field) (d : Datum) (range : f.tag ≤ 5) where
  meets_said : field_meets vars f d ≡ true → Meets vars f d
  unfolding field_meets
  meets_said h =
      cases (eqb f.tag 4)
      (λ e4. value (eqb-true f.tag 4 e4) (eqb-true d.tag 1 (rw e4 at h)))
      (λ n4. cases (eqb f.tag 5)
      (λ e5. locality (eqb-true f.tag 5 e5) (eqb-true d.tag 2 (rw (n4, e5) at h)))
      (λ n5.
      let b = rw (n4, n5) at h in
      let t = eqb-true (actual vars f).tag d.tag (and_left (eqb (actual vars f).tag d.tag) _ b) in
      let x = eqb-true (actual vars f).number d.number (and_right (eqb (actual vars f).tag d.tag) _ b) in
      same (omega (arith, eqb-false f.tag 4 n4, eqb-false f.tag 5 n5)) (λ i. record { tag = t i; number = x i })))

  said_meets : Meets vars f d → field_meets vars f d ≡ true
  unfolding field_meets
  said_meets (same l e) =
      let n4 = ne_eqb f.tag 4 (λ (q : f.tag ≡ 4). omega arith) in
      let n5 = ne_eqb f.tag 5 (λ (q : f.tag ≡ 5). omega arith) in
      let t = eq-eqb (actual vars f).tag d.tag (ap (λ (x : Datum). x.tag) e) in
      let x = eq-eqb (actual vars f).number d.number (ap (λ (x : Datum). x.number) e) in
      rw (n4, n5, t, x)
  said_meets (value l e) = rw (eq-eqb f.tag 4 l) (eq-eqb d.tag 1 e)
  said_meets (locality l e) =
      let n4 = ne_eqb f.tag 4 (λ (q : f.tag ≡ 4). omega arith) in
      rw (n4, eq-eqb f.tag 5 l) (eq-eqb d.tag 2 e)

  pub field_meets_iff : (field_meets vars f d ≡ true) ↔ Meets vars f d
  field_meets_iff = (meets_said, said_meets)

-- "Same field count is needed to match", and each field meets its own
pub record Matches (vars : List Datum) (a : Action) (count : ℕ) (fields : List Datum) : Type 0 where
  pub counts : a.count ≡ count
  pub each : (j : ℕ) → j < a.count → Meets vars (field_at a j) (get_or fields j datum0)

module _ (vars : List Datum) (a : Action) (count : ℕ) (fields : List Datum) (few : a.count ≤ 4) (range : (j : ℕ) → (field_at a j).tag ≤ 5) where
  pub meets_iff : (meets vars a count fields ≡ true) ↔ Matches vars a count fields
  unfolding meets place_meets
  meets_iff = (
    λ h.
        let same = and_left (eqb a.count count) _ h in
        let each = and_right (eqb a.count count) _ h in
        record {
          counts = eqb-true a.count count same;
          each =
              λ j l.
              (field_meets_iff vars (field_at a j) (get_or fields j datum0) (range j)).0
              (rw (lt-ltb j a.count l) at
              (all_at 4 (λ j. pick (ltb j a.count) (field_meets vars (field_at a j) (get_or fields j datum0)) true) each j (omega arith)));
        },
    λ m.
        and_both (eqb a.count count) _ (eq-eqb a.count count m.counts)
        (all_of 4 _
        (λ j l.
        cases (ltb j a.count)
        (λ t. rw t ((field_meets_iff vars (field_at a j) (get_or fields j datum0) (range j)).1 (m.each j (ltb-true j a.count t))))
        (λ t. rw t))),
  )
