use Rattle.std.specs.Prelude.{◌≡◌, ◌&&◌, eqb}
use Rattle.std.proofs.Common.{rules}
use mathlib.Core.Path.{◌∙◌}
use Rattle.images.specs.Net.{slot_with}
use Rattle.images.specs.Read.{net_of}
use Rattle.step.specs.Way.{user_of, used_by}
use Rattle.step.proofs.Back.{used_asked}
use Rattle.step.proofs.backward.user_of.Goals as goal

pub returns : goal.returns
unfolding user_of
returns c =
    let n = net_of c.args.net.now in
    c.least_key.ensures (used_by n c.args.t)
    (λ k b below says.
    let asked : b ≡ (eqb (slot_with n k).used.0 c.args.t.0 && eqb (slot_with n k).kind 2) = search rules in
    asked ∙ used_asked n c.args.t k below)
