use Rattle.std.proofs.Common.{ℕ, ◌≡◌, ◌-◌, ◌%◌, take, drop, refl, subst, arith}
use Rattle.rewind.specs.Moved.{moved_none, moved_more}
use Rattle.rewind.proofs.keep_rest.Goals as goal

pub loop-i-init : goal.loop-i-init
loop-i-init c = moved_none _ _

pub bounds-input-from : goal.bounds-input-from
bounds-input-from c = omega (arith, c.loop-i.invariant.kept, c.requires, c.loop-i-test.true)

pub bounds-input-i : goal.bounds-input-i
bounds-input-i c = omega (arith, c.loop-i.invariant.kept, c.requires, c.loop-i-test.true)

pub loop-i-preserved : goal.loop-i-preserved
loop-i-preserved c = moved_more _ _ _ _ (omega (arith, c.requires, c.loop-i-test.true)) c.loop-i.invariant

pub returns : goal.returns
returns c =
    let e : c.loop-i.i ≡ c.args.whole % 6 = omega (arith, c.loop-i.auto.i-end, c.loop-i-test.false) in
    record {
      count = refl;
      moved = subst (λ (k : ℕ). take k c.loop-i.input ≡ take k (drop (c.args.whole - c.args.whole % 6) c.args.input.now)) e c.loop-i.invariant.front;
    }
