use Rattle.std.proofs.Common.{◌≡◌, ◌∙◌, sym, eq-eqb, ne_eqb, arith}
use Rattle.traces.specs.Marks.{marks_start, named_none, named_more}
use Rattle.traces.proofs.marks_of.Goals as goal
use Rattle.traces.proofs.marks_of.Goals.{then-deeds-i, else-deeds-i}

pub loop-i-init : goal.loop-i-init
loop-i-init g c = λ named h. rw c.of_word.ensures (sym (marks_start _ g.S.NameSet.word_of g.S.Name.Name.number_of _ g.met.S.NameSet.word_back _))

pub loop-i-preserved : goal.loop-i-preserved
loop-i-preserved g c =
    let l = c.loop-i in
    let a = c.args in
    λ named h.
    elim c.if-deeds-i.branch [
      | then-deeds-i w ↦ w.m-is ∙ w.mark-m.ensures ∙ named_more _ _ _ _ g.met.S.NameSet.word_back a.deed a.deeds named l.i l.m (l.invariant named h) (eq-eqb _ _ w.if-deeds-i.true) _ (h l.i _ c.loop-i-test.true w.name.ensures)
      | else-deeds-i w ↦ w.m-is ∙ named_none _ g.S.NameSet.word_of g.S.Name.Name.number_of _ g.met.S.NameSet.word_back a.deed a.deeds named l.i l.m (l.invariant named h) (ne_eqb _ _ w.if-deeds-i.false)
    ]

pub returns : goal.returns
returns g c =
    let l = c.loop-i in
    let e : l.i ≡ 64 = omega arith in
    rw e at l.invariant
