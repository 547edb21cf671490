-- What the table's rows say of a node in range, as statements, and what follows for each kind.
-- In order: a node's places (`Ranged`, `ranged`); any node of a script in range (`node_cases`); small numbers (`target_small`, `field_small`, `count_few`);
-- places that a kind uses (`next_node`, `other_node`, `out_count`, `out_tags`) and one that it does not (`split_reference`).
-- Assumes nothing.
use Rattle.std.specs.Prelude.{ℕ, ◌<◌, ◌≤◌, ◌≡◌, refl, ◌⊎◌, Bool, true, ◌||◌, eqb, ltb, leb, get_or}
use Rattle.std.proofs.Common.{◌∙◌, subst, inl, inr, arith, eqb-true, ltb-true, leb-true}
use Rattle.std.proofs.Math.Logic.{by_cases}
use Rattle.std.proofs.Math.Decide.{dec_lt}
use Rattle.std.proofs.Math.ListN.{get_or-eq_default}
use Rattle.laws.specs.Choice.{cases, and_left, and_right, sameb, sameb_eq}
use Rattle.laws.specs.Checks.{all, all_at}
use Rattle.names.specs.Names.{node_count, none}
use Rattle.images.specs.Script.{action0, field0, action_at, field_at, row_of, node_in_place, target_in_place, reference_in_place, field_in_range, count_in_place, field_in_place, fields_in_place, places_in_row, fields_in_row, action_in_range, script_in_range}
use Rattle.images.specs.Shape.{ShapedScript}
use Rattle.images.specs.declared.TargetUse.{TargetUse}
use Rattle.images.specs.declared.Field.{Field}
use Rattle.images.specs.declared.Action.{Action}
use Rattle.images.specs.declared.Script.{Script}
use Rattle.products.specs.Products.{is_step, is_out, is_eval, is_split}

pub record Ranged (a : Action) : Type 0 where
  pub kind : a.kind < 8
  pub next : node_in_place (row_of a.kind).next a.next.0 ≡ true
  pub other : node_in_place (row_of a.kind).other a.other.0 ≡ true
  pub target : target_in_place (row_of a.kind).target a.target ≡ true
  pub reference : reference_in_place (row_of a.kind).reference a.reference.0 ≡ true
  pub count : count_in_place (row_of a.kind).fields a.count ≡ true
  pub fields : (j : ℕ) → j < 4 → field_in_place (row_of a.kind).fields a.count j (field_at a j) ≡ true

pub ranged : (a : Action) → action_in_range a ≡ true → Ranged a
unfolding action_in_range places_in_row fields_in_row fields_in_place
ranged a h =
    let r = row_of a.kind in
    let both = and_right (ltb a.kind 8) _ h in
    let places = and_left (places_in_row r a) _ both in
    let after_next = and_right (node_in_place r.next a.next.0) _ places in
    let after-other = and_right (node_in_place r.other a.other.0) _ after_next in
    let fields = and_right (places_in_row r a) _ both in
    let after-count = and_right (count_in_place r.fields a.count) _ fields in
    record {
      kind = ltb-true a.kind 8 (and_left (ltb a.kind 8) _ h);
      next = and_left (node_in_place r.next a.next.0) _ places;
      other = and_left (node_in_place r.other a.other.0) _ after_next;
      target = and_left (target_in_place r.target a.target) _ after-other;
      reference = and_right (target_in_place r.target a.target) _ after-other;
      count = and_left (count_in_place r.fields a.count) _ fields;
      fields =
          all_at 4 (λ j. field_in_place r.fields a.count j (get_or a.fields j field0))
          (and_left (fields_in_place r.fields a.count a.fields) _ after-count);
    }

-- a node of a script in range is in range, and past the last stands nothing
pub node_cases : (s : Script) → ShapedScript s → script_in_range s ≡ true → (i : ℕ) → Ranged (action_at s i) ⊎ (action_at s i ≡ action0)
unfolding script_in_range
node_cases s w r i =
    by_cases (dec_lt i node_count)
    (λ l. inl (ranged (action_at s i) (all_at node_count (λ i. action_in_range (action_at s i)) r i l)))
    (λ l. inr (get_or-eq_default s.nodes action0 {n = i} (omega (arith, w.nodes))))

-- ---- small numbers

small_target : (need : TargetUse) (f : Field) → target_in_place need f ≡ true → f.number < 8
unfolding target_in_place
small_target TargetUse.Unused f p = omega (arith, eqb-true f.number 0 (and_right (eqb f.tag 0) _ p))
small_target TargetUse.Given f p = ltb-true f.number 8 (and_right (leb f.tag 3) _ (and_right (leb 2 f.tag) _ p))
small_target TargetUse.Bound f p = ltb-true f.number 8 (and_right (eqb f.tag 3) _ p)

pub target_small : (a : Action) → Ranged a → a.target.number < 8
target_small a w = small_target (row_of a.kind).target a.target w.target

small_field : (top count j : ℕ) (f : Field) → field_in_place top count j f ≡ true → (f.tag ≡ 1 → ⊥) → f.number < 8
unfolding field_in_place field_in_range
small_field top count j f p v =
    cases (ltb j count)
    (λ t.
    let q = and_right (leb f.tag top) _ (and_right (leb 1 f.tag) _ (rw t at p)) in
    cases (eqb f.tag 1) (λ e. absurd (v (eqb-true f.tag 1 e))) (λ n. ltb-true f.number 8 (rw n at q)))
    (λ t. omega (arith, eqb-true f.number 0 (and_right (eqb f.tag 0) _ (rw t at p))))

pub field_small : (a : Action) → Ranged a → (j : ℕ) → j < 4 → ((field_at a j).tag ≡ 1 → ⊥) → (field_at a j).number < 8
field_small a w j l = small_field (row_of a.kind).fields a.count j (field_at a j) (w.fields j l)

few : (top c : ℕ) → count_in_place top c ≡ true → c ≤ 4
unfolding count_in_place
few top c p =
    cases (eqb top 0) (λ e. omega (arith, eqb-true c 0 (rw e at p))) (λ n. leb-true c 4 (and_right (leb 1 c) _ (rw n at p)))

pub count_few : (a : Action) → Ranged a → a.count ≤ 4
count_few a w = few (row_of a.kind).fields a.count w.count

-- ---- places by kind

used_node : (u : Bool) (n : ℕ) → u ≡ true → node_in_place u n ≡ true → n < node_count
unfolding node_in_place
used_node u n e p = ltb-true n node_count (rw e at p)

-- the rows whose next, or other, is used: one test over the table
next_rule : (k : ℕ) → k < 8 → (row_of k).next ≡ is_step k
unfolding all
next_rule k h = sameb_eq _ _ (all_at 8 (λ k. sameb (row_of k).next (is_step k)) refl k h)

other_rule : (k : ℕ) → k < 8 → (row_of k).other ≡ (is_eval k || is_split k)
unfolding all
other_rule k h = sameb_eq _ _ (all_at 8 (λ k. sameb (row_of k).other (is_eval k || is_split k)) refl k h)

pub next_node : (a : Action) → Ranged a → is_step a.kind ≡ true → a.next.0 < node_count
next_node a w h = used_node (row_of a.kind).next a.next.0 (next_rule a.kind w.kind ∙ h) w.next

pub other_node : (a : Action) → Ranged a → (is_eval a.kind || is_split a.kind) ≡ true → a.other.0 < node_count
other_node a w h = used_node (row_of a.kind).other a.other.0 (other_rule a.kind w.kind ∙ h) w.other

pub split_reference : (a : Action) → Ranged a → is_split a.kind ≡ true → a.reference.0 ≡ none
unfolding reference_in_place
split_reference a w h =
    eqb-true a.reference.0 none
    (subst (λ (k : ℕ). reference_in_place (row_of k).reference a.reference.0 ≡ true) (eqb-true a.kind 6 h) w.reference)

pub out_count : (a : Action) → Ranged a → is_out a.kind ≡ true → 1 ≤ a.count
unfolding count_in_place
out_count a w h =
    leb-true 1 a.count
    (and_left (leb 1 a.count) _
    (subst (λ (k : ℕ). count_in_place (row_of k).fields a.count ≡ true) (eqb-true a.kind 1 h) w.count))

-- the fields of an out are no formals
pub out_tags : (a : Action) → Ranged a → is_out a.kind ≡ true → (j : ℕ) → j < 4 → (field_at a j).tag ≤ 3
unfolding field_in_place field_in_range
out_tags a w h j l =
    let f = field_at a j in
    let p = subst (λ (k : ℕ). field_in_place (row_of k).fields a.count j f ≡ true) (eqb-true a.kind 1 h) (w.fields j l) in
    cases (ltb j a.count)
    (λ t. leb-true f.tag 3 (and_left (leb f.tag 3) _ (and_right (leb 1 f.tag) _ (rw t at p))))
    (λ t. omega (arith, eqb-true f.tag 0 (and_left (eqb f.tag 0) _ (rw t at p))))
