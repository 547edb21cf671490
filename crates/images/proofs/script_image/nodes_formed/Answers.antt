use Rattle.std.proofs.Common.{rules}
use Rattle.images.specs.Read.{nodes_formed}
use Rattle.images.proofs.Ranges.{all_below}
use Rattle.images.proofs.script_image.nodes_formed.Goals as goal

pub returns : goal.returns
unfolding nodes_formed
returns c = all_below 64 _ c.all.ensures.ran (λ x b q k. search rules)
