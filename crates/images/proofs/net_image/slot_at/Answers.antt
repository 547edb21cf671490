use Rattle.std.proofs.Common.{◌∙◌, ap}
use Rattle.images.specs.Read.{slot_of}
use Rattle.images.specs.InPlace.{slot_part}
use Rattle.images.proofs.net_image.slot_at.Goals as goal

pub returns : goal.returns
returns c = c.slot_of.ensures ∙ ap slot_of c.slot_bytes.ensures ∙ slot_part c.args.b.now c.args.i c.requires
