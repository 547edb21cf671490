use Rattle.std.proofs.Common.{arith, sym}
use Rattle.std.proofs.lemmas.Grind.{common_steps}
use Rattle.images.specs.Formed.{tuple_here}
use Rattle.images.proofs.net_image.tuple_in_range.Goals as goal

pub returns-then-refs_are : goal.returns-then-refs_are
returns-then-refs_are c = rw (sym (tuple_here c.args.p.now c.requires)) (grind (arith, common_steps))

pub returns-else-refs_are : goal.returns-else-refs_are
returns-else-refs_are c = rw (sym (tuple_here c.args.p.now c.requires)) (grind (arith, common_steps))
