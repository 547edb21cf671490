use Rattle.std.proofs.Common.{rules}
use Rattle.images.specs.Script.{fresh_formal}
use Rattle.images.proofs.Ranges.{all_below}
use Rattle.images.proofs.script_image.fresh_formal.Goals as goal

pub returns : goal.returns
unfolding fresh_formal
returns c = all_below c.args.j _ c.all.ensures.ran (λ x b q k. search rules)
