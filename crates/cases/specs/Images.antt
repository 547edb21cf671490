-- The image of net A, taken apart, is the net A of the cases: at every locality and key. So bytes, values and nets of the theory meet.
-- Assumes nothing.
use Rattle.std.specs.Prelude.{◌≡◌, refl}
use Rattle.laws.specs.Lists.{tab}
use Rattle.laws.specs.Sets.{member}
use Rattle.images.specs.Examples.{script_t}
use Rattle.images.specs.Examples as E
use Rattle.rules.specs.View.{kind_as, view}
use Rattle.cases.specs.Script.{net_a}
use Rattle.cases.specs.Table.{shown}

pub image_of-A : shown (view script_t E.net_a) ≡ shown net_a
unfolding tab view kind_as member
image_of-A = refl
