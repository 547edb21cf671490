use Rattle.std.proofs.Common.{arith, sym}
use Rattle.std.proofs.lemmas.Grind.{common_steps}
use Rattle.images.specs.Formed.{process_here}
use Rattle.images.proofs.net_image.process_in_range.Goals as goal

pub returns-then-refs_in_range : goal.returns-then-refs_in_range
returns-then-refs_in_range c = rw (sym (process_here c.args.p.now c.requires)) (grind (arith, common_steps))

pub returns-else-refs_in_range : goal.returns-else-refs_in_range
returns-else-refs_in_range c = rw (sym (process_here c.args.p.now c.requires)) (grind (arith, common_steps))
