use Rattle.std.specs.Prelude.{◌≡◌, refl, ℕ, List, [], ◌∷◌, Bool, ◌&&◌, length, get_or}
use Rattle.std.specs.List.{list_all}
use Rattle.std.proofs.Common.{arith, ap, ◌∙◌}
use Rattle.std.proofs.lemmas.Grind.{common_steps}
use Rattle.laws.specs.Checks.{all}
use Rattle.images.specs.Net.{datum0}
use Rattle.images.specs.declared.Datum.{Datum}
use Rattle.images.specs.declared.Slot.{Slot}
use Rattle.images.specs.Shape.{ShapedSlot}
use Rattle.images.proofs.Owned.{shaped_own_slot}
use Rattle.rules.specs.Roots.{is_home, all_home, rooted}
use Rattle.rules.proofs.is_rooted.Goals as goal

-- a test of each element is the test at each index
each_index : (f : Datum → Bool) (ds : List Datum) → list_all f ds ≡ all (length ds) (λ j. f (get_or ds j datum0))
unfolding all
each_index f [] = refl
each_index f (d ∷ ds) = ap (λ (b : Bool). f d && b) (each_index f ds)

homes : (x : Slot) → ShapedSlot x → list_all is_home x.contents ≡ all_home x.contents
homes x shaped =
    each_index is_home x.contents ∙ ap (λ (k : ℕ). all k (λ j. is_home (get_or x.contents j datum0))) shaped.contents

pub returns-then-all_home : goal.returns-then-all_home
unfolding rooted
returns-then-all_home c = let h = homes c.args.x (shaped_own_slot c.args.x _ c.well_formed.0) in grind (arith, common_steps)

pub returns-else-all_home : goal.returns-else-all_home
unfolding rooted
returns-else-all_home c = let h = homes c.args.x (shaped_own_slot c.args.x _ c.well_formed.0) in grind (arith, common_steps)
