use Rattle.std.proofs.Common.{rules}
use Rattle.images.specs.Read.{slots_formed}
use Rattle.images.proofs.Ranges.{all_below}
use Rattle.images.proofs.net_image.slots_formed.Goals as goal

pub returns : goal.returns
unfolding slots_formed
returns c = all_below 64 _ c.all.ensures.ran (λ x b q k. search rules)
