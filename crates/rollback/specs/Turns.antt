-- What one backward step more touches. From the laws of undoing alone (`order`, `Undoing`).
-- Assumes nothing.
use Rattle.std.specs.Prelude.{◌≡◌, List, [], ◌∷◌, ◌++◌, ℕ}
use Rattle.std.proofs.Math.Path.{sym, ap, fun_ext}
use Rattle.std.proofs.Common.{◌∙◌}
use Rattle.std.proofs.Math.Bool.{or-false, or_assoc}
use Rattle.order.specs.KeySets.{Set, only, ◌∪◌}
use Rattle.order.specs.Undoing.{Undoing, Undoes, stay, back, touched_by}

module _ (n : ℕ) (U : Undoing n) where
  open U use {Net, touched}

  -- what one step more touches is added
  pub touched_last : {a b : Net} {ks : List ℕ} → Undoes n U a ks b → (k : ℕ) → touched_by n U a (ks ++ (k ∷ [])) ≡ touched_by n U a ks ∪ touched b (only k)
  unfolding touched_by
  touched_last {a = a} stay k = fun_ext (λ y. or-false (touched a (only k) y))
  touched_last {a = a} (back {x = x} {ks = ks} u r) k =
      ap (λ (T : Set). touched a (only x) ∪ T) (touched_last r k) ∙ fun_ext (λ y. sym (or_assoc (touched a (only x) y) _ _))
