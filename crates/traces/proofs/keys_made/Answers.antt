use Rattle.std.proofs.Common.{◌≡◌, ◌∙◌, sym, arith, eq-eqb, ne_eqb}
use Rattle.images.specs.Read.{net_of}
use Rattle.traces.specs.Marks.{keys_start, made_none, made_more}
use Rattle.traces.proofs.keys_made.Goals as goal
use Rattle.traces.proofs.keys_made.Goals.{then-x-eq-PAST, else-x-eq-PAST}

pub loop-i-init : goal.loop-i-init
loop-i-init c = sym (keys_start _)

pub loop-i-preserved : goal.loop-i-preserved
loop-i-preserved c =
    let l = c.loop-i in
    let n = net_of c.args.net.now in
    let is = c.slot_at-x.ensures in
    elim c.if-x-eq-PAST.branch [
      | then-x-eq-PAST w ↦ w.m-is ∙ w.mark_keys-m.ensures ∙ made_more n l.i l.m l.invariant _ is (eq-eqb _ _ w.if-x-eq-PAST.true)
      | else-x-eq-PAST w ↦ w.m-is ∙ made_none n l.i l.m l.invariant _ is (ne_eqb _ _ w.if-x-eq-PAST.false)
    ]

pub returns : goal.returns
returns c =
    let l = c.loop-i in
    let e : l.i ≡ 64 = omega arith in
    rw e at l.invariant
