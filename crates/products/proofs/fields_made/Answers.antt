use native.Mathlib.Omega.{arith}
use Rattle.images.proofs.Owned.{shaped_own_action}
use Rattle.products.specs.Fields.{fields_filled}
use Rattle.products.proofs.fields_made.Goals as goal

pub returns : goal.returns
returns c =
    let a = c.args.a in
    let filled = c.loop-j.invariant in
    fields_filled a c.args.vars (shaped_own_action a _ c.well_formed.0).fields _ filled.eight (λ j h. filled.made j (omega arith)) (λ j h. filled.unset j (omega arith))
