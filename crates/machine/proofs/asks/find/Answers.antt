use mathlib.Core.Path.{refl, ◌∙◌}
use Rattle.names.specs.Names.{key}
use Rattle.images.specs.Read.{script_of, net_of}
use Rattle.finder.specs.Finder.{found_of}
use Rattle.machine.specs.Asked.{find_no, find_yes}
use Rattle.machine.proofs.asks.find.Goals as goal

pub returns-in-Ok : goal.returns-in-Ok
returns-in-Ok c =
    let (good, same, net_same) = c.in-Ok.ensures in
    find_yes _ _ _ refl good _ _ (c.find.ensures ∙ (λ i. found_of (script_of (same i)) (net_of (net_same i)) (key c.args.key)))

pub returns-in-Err : goal.returns-in-Err
returns-in-Err c = find_no _ _ _ c.in-Err.ensures.0 c.in-Err.ensures.1 _ _ refl
