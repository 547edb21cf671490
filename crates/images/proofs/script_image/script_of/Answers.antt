use Rattle.std.proofs.Common.{List, ap, arith}
use Rattle.laws.specs.Lists.{tab_of}
use Rattle.images.specs.Head.{part_at}
use Rattle.images.specs.Script.{action0}
use Rattle.images.specs.Read.{action_of, script_of}
use Rattle.images.specs.declared.Action.{Action}
use Rattle.images.proofs.script_image.script_of.Goals as goal

pub returns : goal.returns
unfolding script_of
returns c =
    let l = c.loop-i in
    ap (λ (xs : List Action). record { nodes = xs })
    (tab_of 64 (λ i. action_of (part_at 32 c.args.script.now i)) l.nodes action0 l.invariant.0 (λ i h. l.invariant.1 i (omega arith)))
