use mathlib.Core.Path.{◌∙◌, sym, subst}
use Rattle.cycles.proofs.has_no_cycle.Goals.{then-is_empty-2, else-is_empty-2}
use Rattle.cycles.specs.Following.{Peeled, peeled_first, peeled_next, peeled_empty, peeled_same}
use Rattle.cycles.proofs.has_no_cycle.Goals as goal

pub loop-init : goal.loop-init
loop-init c = peeled_first c.args.rows c.args.keys

pub returns-then-is_empty : goal.returns-then-is_empty
returns-then-is_empty c = sym (peeled_empty c.args.rows c.args.keys _ c.loop.invariant (sym c.is_empty.ensures ∙ c.if-is_empty.true))

pub loop-preserved : goal.loop-preserved
loop-preserved c =
    let l = c.loop in
    let k = c.look_at-k.ensures in
    let rows = c.args.rows in
    let s = c.args.keys in
    elim c.if-is_empty-2.branch [
      | then-is_empty-2 w ↦ peeled_next rows s l.left l.invariant _ _ _ k.0 k.1 c.both-dependent.ensures (sym c.is_empty-in-loop.ensures ∙ w.if-is_empty-2.true) (w.left-is ∙ w.without-left.ensures)
      | else-is_empty-2 w ↦ subst (Peeled rows s) (sym w.left-is) l.invariant
    ]

pub returns : goal.returns
returns c = c.peels_away.ensures ∙ peeled_same c.args.rows c.args.keys _ c.loop.invariant
