use Rattle.std.proofs.Common.{◌≡◌, ◌∙◌, arith, eq-eqb, ne_eqb}
use Rattle.images.specs.Read.{net_of}
use Rattle.traces.specs.Marks.{deeds_start, deeds_none, deeds_more, deeds_all}
use Rattle.traces.proofs.deeds_of.Goals as goal
use Rattle.traces.proofs.deeds_of.Goals.{then-x-eq-PAST, else-x-eq-PAST}

pub loop-i-init : goal.loop-i-init
loop-i-init c = deeds_start c.args.script.now (net_of c.args.net.now)

pub loop-i-preserved : goal.loop-i-preserved
loop-i-preserved c =
    let l = c.loop-i in
    let a = c.args in
    let is = c.slot_at-x.ensures in
    elim c.if-x-eq-PAST.branch [
      | then-x-eq-PAST w ↦ w.deeds-is ∙ deeds_more a.script.now (net_of a.net.now) l.i l.deeds l.invariant _ is _ (eq-eqb _ _ w.if-x-eq-PAST.true) c.loop-i-test.true w.node_in.ensures
      | else-x-eq-PAST w ↦ w.deeds-is ∙ deeds_none a.script.now (net_of a.net.now) l.i l.deeds l.invariant _ is (ne_eqb _ _ w.if-x-eq-PAST.false)
    ]

pub returns : goal.returns
returns c =
    let l = c.loop-i in
    let e : l.i ≡ 64 = omega arith in
    rw e at l.invariant ∙ deeds_all _ _
