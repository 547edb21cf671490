use Rattle.std.proofs.Common.{rules}
use Rattle.images.specs.Net.{refs_are}
use Rattle.images.proofs.Ranges.{all_below}
use Rattle.images.proofs.net_image.refs_are.Goals as goal

pub returns : goal.returns
unfolding refs_are
returns c = all_below 4 _ c.all.ensures.ran (λ x b q k. search rules)
