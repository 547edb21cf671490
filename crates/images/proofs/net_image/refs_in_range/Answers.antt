use Rattle.std.proofs.Common.{◌∙◌}
use Rattle.images.specs.Formed.{refs_all}
use Rattle.images.proofs.net_image.refs_in_range.Goals as goal

pub returns : goal.returns
returns c = c.keys_or_none.ensures ∙ refs_all c.args.p.now c.told-p
