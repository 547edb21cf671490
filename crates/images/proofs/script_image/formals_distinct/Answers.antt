use Rattle.std.proofs.Common.{rules}
use Rattle.images.specs.Script.{fresh_formal, formals_distinct}
use Rattle.images.proofs.Ranges.{all_below}
use Rattle.images.proofs.script_image.formals_distinct.Goals as goal

pub returns : goal.returns
unfolding formals_distinct
returns c = all_below 4 (fresh_formal c.args.fields) c.all.ensures.ran (λ x b q k. search rules)
