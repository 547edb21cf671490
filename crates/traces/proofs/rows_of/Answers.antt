use Rattle.std.proofs.Common.{◌≡◌, ◌∙◌, arith, eq-eqb, ne_eqb}
use Rattle.images.specs.Read.{net_of}
use Rattle.traces.specs.Traces.{deed_at}
use Rattle.traces.specs.Marks.{row_looked, rows_start, rows_none, rows_more, rows_all}
use Rattle.traces.proofs.rows_of.Goals as goal
use Rattle.traces.proofs.rows_of.Goals.{then-x-eq-PAST, else-x-eq-PAST}

pub loop-i-init : goal.loop-i-init
loop-i-init c =
    let a = c.args in
    rows_start a.deeds (net_of a.net.now) a.events c.users_of-takers.result c.users_of-readers.result

pub loop-i-preserved : goal.loop-i-preserved
loop-i-preserved c =
    let l = c.loop-i in
    let a = c.args in
    let n = net_of a.net.now in
    let takers = c.users_of-takers.result in
    let readers = c.users_of-readers.result in
    let x = c.slot_at-x in
    elim c.if-x-eq-PAST.branch [
      | then-x-eq-PAST w ↦ w.rows-is ∙ rows_more a.deeds n a.events takers readers l.i l.rows l.invariant x.result x.ensures _ (eq-eqb _ _ w.if-x-eq-PAST.true) c.loop-i-test.true
          (row_looked (deed_at a.deeds l.i) x.result a.events takers readers w.index_of-f.ensures w.index_of-g.ensures w.index_of.ensures w.after_key-one.ensures w.after_key-two.ensures w.after_read-three.ensures w.either.ensures w.either-then-x-eq-PAST.ensures)
      | else-x-eq-PAST w ↦ w.rows-is ∙ rows_none a.deeds n a.events takers readers l.i l.rows l.invariant x.result x.ensures (ne_eqb _ _ w.if-x-eq-PAST.false)
    ]

pub returns : goal.returns
returns c =
    let l = c.loop-i in
    let e : l.i ≡ 64 = omega arith in
    rw e at l.invariant ∙ rows_all _ _ _ _ _ c.users_of-takers.ensures c.users_of-readers.ensures
