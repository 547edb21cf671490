use Prim.Native.Nat.{◌+◌, ◌*◌, ◌-◌}
use Rattle.order.specs.KeySets.{◌∈◌, count}
use Rattle.names.specs.Names.{key_count}
use Rattle.images.specs.Read.{script_of, net_of}
use Rattle.images.specs.Shape.{ShapedScript}
use Rattle.nets.specs.Net.{events, dependents}
use Rattle.rules.specs.View.{view}
use Rattle.step.specs.Lent.{Good, Lent}
use Rattle.rollback.specs.InPlace.{Walking}
use Rattle.rollback.proofs.undo_dependents.Given as goal

abbrev pub invariant-loop-f : goal.invariant-loop-f
invariant-loop-f l =
    Lent l.script l.net ×
    ((w : ShapedScript (script_of l.script)) (good : Good (script_of l.script) (net_of l.initial.net)) (past : l.e.0 ∈ events (view (script_of l.script) (net_of l.initial.net)))
    → Walking (script_of l.script) w (net_of l.initial.net) good l.e past l.undone l.touched l.k l.net)

abbrev pub decreases-loop-f : goal.decreases-loop-f
decreases-loop-f l =
    (key_count + 1) * (key_count - l.undone) + count key_count (dependents (view (script_of l.script) (net_of l.net)) l.k.0)
