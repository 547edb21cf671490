use Rattle.std.proofs.Common.{◌≡◌, ◌∙◌, sym, refl, arith, eq-eqb, ne_eqb, below_more}
use Rattle.laws.specs.Checks.{all_of, all_not}
use Rattle.images.specs.Read.{net_of}
use Rattle.accept.specs.Whole.{tuples_right}
use Rattle.accept.proofs.Told.{consumed_tuple, no_tuple, taken_tuple}
use Rattle.accept.proofs.whole.tuples_right.Goals as goal
use Rattle.accept.proofs.whole.tuples_right.Goals.{then-x-eq-CONSUMED+else-not-has, else-x-eq-CONSUMED+else-deeds-i-eq-IN, else-deeds-i-eq-IN-via-then-deeds-i-eq-IN+else-kind_in-eq-TUPLE, else-deeds-i-eq-IN-via-else-deeds-i-eq-IN}

pub returns-then-not-has : goal.returns-then-not-has
unfolding tuples_right
returns-then-not-has c =
    let a = c.args in
    sym (all_not 64 _ c.loop-k.k c.loop-k-test.true (consumed_tuple a.deeds (net_of a.net.now) a.taken c.loop-k.k c.slot_at-x.ensures c.if-x-eq-CONSUMED.true c.has.ensures c.if-not-has.true))

pub returns-then-kind_in-eq-TUPLE : goal.returns-then-kind_in-eq-TUPLE
unfolding tuples_right
returns-then-kind_in-eq-TUPLE c =
    let a = c.args in
    sym (all_not 64 _ c.loop-k.k c.loop-k-test.true (taken_tuple a.deeds (net_of a.net.now) a.taken c.loop-k.k c.slot_at-x.ensures c.if-x-eq-CONSUMED.false c.if-deeds-i-eq-IN.true refl (eq-eqb _ _ (sym c.kind_in.ensures ∙ c.if-kind_in-eq-TUPLE.true))))

pub loop-k-preserved : goal.loop-k-preserved
loop-k-preserved c =
    let a = c.args in
    let n = net_of a.net.now in
    let k = c.loop-k.k in
    let is = c.slot_at-x.ensures in
    below_more _ _ c.loop-k.invariant (elim c.if-x-eq-CONSUMED.branch [
      | then-x-eq-CONSUMED+else-not-has w ↦ consumed_tuple a.deeds n a.taken k is w.if-x-eq-CONSUMED.true w.has.ensures w.if-not-has.false
      | else-x-eq-CONSUMED+else-deeds-i-eq-IN w ↦ elim w.else-deeds-i-eq-IN.branch [
        | else-deeds-i-eq-IN-via-then-deeds-i-eq-IN+else-kind_in-eq-TUPLE v ↦ taken_tuple a.deeds n a.taken k is w.if-x-eq-CONSUMED.false v.if-deeds-i-eq-IN.true refl (ne_eqb _ _ (λ e. v.if-kind_in-eq-TUPLE.false (v.kind_in.ensures ∙ e)))
        | else-deeds-i-eq-IN-via-else-deeds-i-eq-IN v ↦ no_tuple a.deeds n a.taken k is w.if-x-eq-CONSUMED.false v.if-deeds-i-eq-IN.false
      ]
    ])

pub returns : goal.returns
unfolding tuples_right
returns c =
    let e : c.loop-k.k ≡ 64 = omega arith in
    sym (all_of 64 _ (rw e at c.loop-k.invariant))
