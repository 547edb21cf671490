use Prim.Native.Nat.{ℕ}
use Rattle.std.specs.Prelude.{◌≡◌, false}
use mathlib.Core.Path.{sym, ◌∙◌}
use native.Mathlib.Omega.{arith}
use borrow.Author.Count.{below_more}
use Rattle.names.specs.Names.{key}
use Rattle.step.specs.Way.{least_here, least_none}
use Rattle.step.proofs.backward.least_key.Goals as goal

pub returns-then-passes : goal.returns-then-passes
returns-then-passes g c p says =
    let yes = sym (says (key c.loop-i.i) _ c.loop-i-test.true c.passes.ensures) ∙ c.if-passes.true in
    least_here p c.loop-i.i c.loop-i-test.true (c.loop-i.invariant p says) yes

pub loop-i-preserved : goal.loop-i-preserved
loop-i-preserved g c p says =
    let no_more = sym (says (key c.loop-i.i) _ c.loop-i-test.true c.passes.ensures) ∙ c.if-passes.false in
    below_more (λ (j : ℕ). p j ≡ false) c.loop-i.i (c.loop-i.invariant p says) no_more

pub returns : goal.returns
returns g c p says = least_none p (λ j l. c.loop-i.invariant p says j (omega (arith, l, c.loop-i-test.false)))
