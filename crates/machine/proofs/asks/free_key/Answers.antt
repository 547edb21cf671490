use mathlib.Core.Path.{refl, ◌∙◌}
use Rattle.images.specs.Read.{net_of}
use Rattle.finder.specs.Helpers.{free_key}
use Rattle.machine.specs.Asked.{key_no, key_yes}
use Rattle.machine.proofs.asks.free_key.Goals as goal

pub returns-in-Ok : goal.returns-in-Ok
returns-in-Ok c =
    let (good, same, net_same) = c.in-Ok.ensures in
    key_yes _ _ _ refl good _ (c.free_key.ensures ∙ (λ i. free_key (net_of (net_same i))))

pub returns-in-Err : goal.returns-in-Err
returns-in-Err c = key_no _ _ _ c.in-Err.ensures.0 c.in-Err.ensures.1 _ refl
