use Rattle.std.proofs.Common.{◌≡◌, take}
use Rattle.check_sum.specs.Crc.{taken}
use Rattle.check_sum.proofs.crc.Given as goal

abbrev pub invariant-loop-b : goal.invariant-loop-b
invariant-loop-b l = l.sum ≡ taken 4294967295 (take l.b-index l.bytes)
