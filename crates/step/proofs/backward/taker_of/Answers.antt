use Rattle.std.specs.Prelude.{◌≡◌, ◌&&◌, eqb}
use Rattle.std.proofs.Common.{rules}
use mathlib.Core.Path.{◌∙◌}
use Rattle.images.specs.Net.{slot_with}
use Rattle.images.specs.Read.{script_of, net_of}
use Rattle.step.specs.Way.{taker_of, taken_by, took}
use Rattle.step.proofs.Back.{taken_asked}
use Rattle.step.proofs.backward.taker_of.Goals as goal

pub returns : goal.returns
unfolding taker_of
returns c =
    let s = script_of c.args.script.now in
    let n = net_of c.args.net.now in
    c.least_key.ensures (taken_by s n c.args.t)
    (λ k b below says.
    let asked : b ≡ (eqb (slot_with n k).used.0 c.args.t.0 && took s (slot_with n k)) = search rules in
    asked ∙ taken_asked n c.args.t k below s)
