use Rattle.std.proofs.Common.{◌∙◌, ap}
use Rattle.names.specs.Names.{locality}
use Rattle.images.specs.After.{home_byte}
use Rattle.images.proofs.net_image.locality_in.Goals as goal

pub returns : goal.returns
returns c = ap locality (c.byte_in.ensures ∙ home_byte c.args.b.now c.args.k)
