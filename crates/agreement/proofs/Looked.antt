-- The tests of an event as the code makes them are those of `Agreement`, since what check 7 found is where it acted (`applies_is`, `second_is`); so an event
-- agrees where all of them hold (`by_tests`), and not where it was not ready (`unready`).
-- Assumes nothing.
use Rattle.std.specs.Prelude.{◌≡◌, Bool, true, false, ◌&&◌, Some, None}
use Rattle.std.proofs.Math.Path.{ap, sym}
use Rattle.std.proofs.Common.{◌∙◌}
use Rattle.std.proofs.Math.Bool.{and-false}
use Rattle.laws.specs.Choice.{pick, cases, or_left, or_right, ◌⇒◌}
use Rattle.names.specs.Names.{locality}
use Rattle.names.specs.declared.Key.{Key}
use Rattle.names.specs.declared.Locality.{Locality}
use Rattle.images.specs.Net.{slot_with}
use Rattle.images.specs.declared.Action.{Action}
use Rattle.images.specs.declared.Slot.{Slot}
use Rattle.images.specs.declared.Net.{Net}
use Rattle.products.specs.Body.{body_of}
use Rattle.products.specs.Products.{is_step, is_out, is_eval, meets_tuple, makes_second, target_by, target_there, ready_by}
use Rattle.products.specs.Acting.{acts_at, readiness, ready_acts, unset_false, acts_there, acts_target, second_at, second_acts}
use Rattle.agreement.specs.Agreement.{placed_by, tuple_fits, ruled_by, stands_as, first_stands, second_stands, products_stand, agrees_by}
use Rattle.agreement.specs.Looked.{applies_at, second_stands_at, agrees_in}

-- ---- where it acted

module _ (a : Action) (x : Slot) (l : Locality) (ready : ready_by a x.contents ≡ true) (is_l : l ≡ acts_at a x.locality x.contents) where
  pub applies_is : (n : Net) → applies_at a x l n ≡ ruled_by a n.present x (slot_with n x.used)
  unfolding applies_at ruled_by
  applies_is n =
      let there : target_there a.kind n.present l ≡ target_there a.kind n.present (locality (target_by a x.contents)) =
      ap (target_there a.kind n.present) is_l ∙ acts_there a x.locality x.contents n.present in
      let met : (meets_tuple a.kind ⇒ tuple_fits a x.contents l (slot_with n x.used)) ≡ (meets_tuple a.kind ⇒ tuple_fits a x.contents (locality (target_by a x.contents)) (slot_with n x.used)) =
      cases (meets_tuple a.kind)
      (λ m.
      ap (λ (z : Locality). meets_tuple a.kind ⇒ tuple_fits a x.contents z (slot_with n x.used))
      (is_l ∙ acts_target a x.locality x.contents (or_right (is_out a.kind) _ (or_left (meets_tuple a.kind) (is_eval a.kind) m))))
      (λ m. rw m) in
      λ i. is_step a.kind && (placed_by a.kind x && (sym ready i && (there i && met i)))

  pub second_is : (second : Slot) → second_stands_at a x l second ≡ second_stands a x second
  unfolding second_stands_at second_stands
  second_is second =
      cases (makes_second a.kind)
      (λ m.
      ap (λ (z : Slot). makes_second a.kind ⇒ pick (is_out a.kind) (stands_as second z 4) (stands_as second z 2))
      (ap (second_at a (body_of x)) is_l ∙ second_acts a (body_of x) m))
      (λ m. rw m)

-- ---- an event x at the node a, by the answers to its tests

module _ (a : Action) (k : Key) (x : Slot) (n : Net) where
  pub unready : readiness a x.locality x.contents ≡ None → agrees_in a k x n ≡ false
  unfolding agrees_by ruled_by
  unready e = rw (unset_false a x.locality x.contents e, and-false (placed_by a.kind x), and-false (is_step a.kind))

  module _ {l : Locality} (e : readiness a x.locality x.contents ≡ Some l) where
    abbrev rule : Bool
    rule = applies_at a x l n

    abbrev first : Action → Bool
    first b = first_stands b k x (slot_with n x.used) (slot_with n x.first)

    abbrev second : Action → Bool
    second b = second_stands_at b x l (slot_with n x.second)

    pub by_tests : (rule && (first a && second a)) ≡ agrees_in a k x n
    unfolding agrees_by products_stand
    by_tests =
        let found = ready_acts a x.locality x.contents l e in
        λ i. applies_is a x l found.0 found.1 n i && (first a && second_is a x l found.0 found.1 (slot_with n x.second) i)
