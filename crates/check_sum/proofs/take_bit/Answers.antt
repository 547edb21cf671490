use Rattle.std.proofs.Common.{refl, sym, ◌∙◌, ◌%◌, eq-eqb, ne_eqb}
use Rattle.laws.specs.Sets.{and_one}
use Rattle.check_sum.specs.Crc.{bit_taken}
use Rattle.check_sum.proofs.take_bit.Goals as goal

pub returns-then-sum-eq1 : goal.returns-then-sum-eq1
unfolding bit_taken
returns-then-sum-eq1 c = rw (eq-eqb _ 1 (sym (and_one c.args.sum) ∙ c.if-sum-eq1.true)) refl

pub returns-else-sum-eq1 : goal.returns-else-sum-eq1
unfolding bit_taken
returns-else-sum-eq1 c = rw (ne_eqb (c.args.sum % 2) 1 (λ e. c.if-sum-eq1.false (and_one c.args.sum ∙ e))) refl
