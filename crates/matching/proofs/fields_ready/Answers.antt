use Rattle.std.proofs.Common.{rules, tests}
use Rattle.images.proofs.Ranges.{all_below}
use Rattle.matching.specs.Evaluate.{is_ready, fields_ready}
use Rattle.matching.proofs.fields_ready.Goals as goal

pub returns : goal.returns
unfolding fields_ready is_ready
returns c = all_below 4 _ c.all.ensures.ran (λ x b q k. search (rules, tests))
