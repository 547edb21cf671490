-- An action has four fields, so what an out puts past them is blank (`fields_filled`).
-- Assumes nothing.
use Rattle.std.specs.Prelude.{ℕ, ◌<◌, ◌≤◌, ◌≡◌, List, ltb, length, get_or}
use Rattle.std.proofs.Math.Path.{ap, sym}
use Rattle.std.proofs.Common.{◌∙◌, arith, ltb-true, ltb-false}
use Rattle.std.proofs.Math.ListN.{get_or-eq_default}
use Rattle.laws.specs.Choice.{cases}
use Rattle.laws.specs.Lists.{tab, tab_of}
use Rattle.images.specs.Script.{field0, field_at}
use Rattle.images.specs.Net.{datum0}
use Rattle.images.specs.declared.Action.{Action}
use Rattle.images.specs.declared.Field.{Field}
use Rattle.images.specs.declared.Datum.{Datum}
use Rattle.matching.specs.Evaluate.{actual}
use Rattle.products.specs.Products.{field_made}

module _ (a : Action) (vars : List Datum) (four : length a.fields ≡ 4) where
  past_fields : (j : ℕ) → 4 ≤ j → field_made vars a.count j (field_at a j) ≡ datum0
  unfolding actual
  past_fields j h =
      let blank : field_at a j ≡ field0 = get_or-eq_default a.fields field0 {n = j} (omega (arith, four)) in
      ap (λ (f : Field). field_made vars a.count j f) blank ∙ cases (ltb j a.count) (λ t. rw t) (λ t. rw t)

  -- so fields that are made up to the fourth, and unset from there on, are an out's
  pub fields_filled : (made : List Datum) → length made ≡ 8
      → ((j : ℕ) → j < 4 → get_or made j datum0 ≡ field_made vars a.count j (field_at a j))
      → ((j : ℕ) → 4 ≤ j → get_or made j datum0 ≡ datum0) → made ≡ tab 8 (λ j. field_made vars a.count j (field_at a j))
  fields_filled made eight below past =
      tab_of 8 _ made datum0 eight
      (λ j h. cases (ltb j 4) (λ t. below j (ltb-true j 4 t)) (λ f. let h : 4 ≤ j = ltb-false j 4 f in past j h ∙ sym (past_fields j h)))
