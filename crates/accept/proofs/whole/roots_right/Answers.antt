use Rattle.std.proofs.Common.{◌≡◌, ◌∙◌, sym, arith, below_more}
use Rattle.laws.specs.Checks.{all_of, all_not}
use Rattle.images.specs.Read.{net_of}
use Rattle.accept.specs.Whole.{roots_right}
use Rattle.accept.proofs.Told.{root_at}
use Rattle.accept.proofs.whole.roots_right.Goals as goal

pub returns-then-not-root_right : goal.returns-then-not-root_right
unfolding roots_right
returns-then-not-root_right c =
    let a = c.args in
    sym (all_not 64 _ c.loop-k.k c.loop-k-test.true (root_at (net_of a.net.now) a.made c.loop-k.k c.present_in-present.ensures c.slot_at-x.ensures c.has.ensures c.root_right.ensures ∙ c.if-not-root_right.true))

pub loop-k-preserved : goal.loop-k-preserved
loop-k-preserved c =
    let a = c.args in
    below_more _ _ c.loop-k.invariant (root_at (net_of a.net.now) a.made c.loop-k.k c.present_in-present.ensures c.slot_at-x.ensures c.has.ensures c.root_right.ensures ∙ c.if-not-root_right.false)

pub returns : goal.returns
unfolding roots_right
returns c =
    let e : c.loop-k.k ≡ 64 = omega arith in
    sym (all_of 64 _ (rw e at c.loop-k.invariant))
