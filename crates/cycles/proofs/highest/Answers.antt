use mathlib.Core.Path.{refl}
use Rattle.cycles.specs.Highest.{some_zeros, highest_bit}
use Rattle.std.proofs.Common.{rules}
use Rattle.cycles.proofs.highest.Goals as goal

pub overflow_sub-result : goal.overflow_sub-result
overflow_sub-result c = some_zeros c.args.set (search rules) c.requires

pub returns : goal.returns
returns c = highest_bit c.args.set _ (search rules) c.requires refl
