use Rattle.std.proofs.Common.{rules, ◌∙◌}
use Rattle.images.specs.Net.{field_or_blank}
use Rattle.images.specs.Read.{datum_of}
use Rattle.images.specs.Formed.{data_here}
use Rattle.images.proofs.Ranges.{all_below}
use Rattle.images.proofs.net_image.data_fill.Goals as goal

pub returns : goal.returns
returns c =
    all_below 8 (λ j. field_or_blank c.args.count j (datum_of c.args.p.now j)) c.all.ensures.ran (λ x b q k. search rules) ∙
    data_here c.args.p.now c.args.count
