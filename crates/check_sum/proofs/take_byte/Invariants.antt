use Rattle.std.proofs.Common.{◌≡◌}
use Rattle.check_sum.specs.Crc.{bits_taken}
use Rattle.check_sum.proofs.take_byte.Given as goal

abbrev pub invariant-loop : goal.invariant-loop
invariant-loop l = l.next ≡ bits_taken l.counter l.initial.next
