use Rattle.std.proofs.Common.{◌∙◌}
use Rattle.images.specs.After.{kind_byte}
use Rattle.images.proofs.net_image.kind_in.Goals as goal

pub returns : goal.returns
returns c = c.byte_in.ensures ∙ kind_byte c.args.b.now c.args.k
