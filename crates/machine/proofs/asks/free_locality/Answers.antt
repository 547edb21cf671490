use mathlib.Core.Path.{refl, ◌∙◌}
use Rattle.images.specs.Read.{net_of}
use Rattle.machine.specs.Asked.{locality_no, locality_yes}
use Rattle.machine.proofs.asks.free_locality.Goals as goal

pub returns-in-Ok : goal.returns-in-Ok
returns-in-Ok c =
    let (good, same, net_same) = c.in-Ok.ensures in
    locality_yes _ _ _ refl good _ (c.present_in.ensures ∙ (λ i. (net_of (net_same i)).present)) _ c.absent_locality.ensures

pub returns-in-Err : goal.returns-in-Err
returns-in-Err c = locality_no _ _ _ c.in-Err.ensures.0 c.in-Err.ensures.1 _ refl
