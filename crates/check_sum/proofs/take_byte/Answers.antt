use Rattle.std.proofs.Common.{refl, ap, ◌∙◌, ℕ, add-one, arith}
use Rattle.std.specs.Prelude.{bit_xor}
use Rattle.check_sum.specs.Crc.{bit_taken, bits_taken, byte_taken}
use Rattle.check_sum.proofs.take_byte.Goals as goal

pub loop-init : goal.loop-init
unfolding bits_taken
loop-init c = refl

pub loop-preserved : goal.loop-preserved
unfolding bits_taken
loop-preserved c = rw (add-one c.loop.counter) (c.take_bit-next.ensures ∙ ap bit_taken c.loop.invariant)

pub returns : goal.returns
unfolding byte_taken
returns c = c.loop.invariant ∙ ap (λ (k : ℕ). bits_taken k (bit_xor c.args.sum c.args.b)) (omega (arith, c.loop.auto.counter-end, c.loop-test.false))
