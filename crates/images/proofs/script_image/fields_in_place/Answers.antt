use Rattle.std.proofs.Common.{rules}
use Rattle.images.specs.Script.{fields_in_place}
use Rattle.images.proofs.Ranges.{all_below}
use Rattle.images.proofs.script_image.fields_in_place.Goals as goal

pub returns : goal.returns
unfolding fields_in_place
returns c = all_below 4 _ c.all.ensures.ran (λ x b q k. search rules)
