use Rattle.std.proofs.Common.{rules, ◌∙◌}
use Rattle.images.specs.Net.{is_datum}
use Rattle.images.specs.Read.{datum_of}
use Rattle.images.specs.Formed.{variables_here}
use Rattle.images.proofs.Ranges.{all_below}
use Rattle.images.proofs.net_image.variables_in_range.Goals as goal

pub returns : goal.returns
returns c =
    all_below 8 (λ j. is_datum (datum_of c.args.p.now j)) c.all.ensures.ran (λ x b q k. search rules) ∙ variables_here c.args.p.now
