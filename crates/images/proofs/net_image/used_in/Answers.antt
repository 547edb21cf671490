use Rattle.std.proofs.Common.{◌∙◌, ap}
use Rattle.names.specs.Names.{key}
use Rattle.images.specs.After.{used_byte}
use Rattle.images.proofs.net_image.used_in.Goals as goal

pub returns : goal.returns
returns c = ap key (c.byte_in.ensures ∙ used_byte c.args.b.now c.args.k)
