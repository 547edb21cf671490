use Rattle.std.proofs.Common.{rules, ◌∙◌}
use Prim.Native.Nat.{◌*◌}
use Rattle.std.specs.Prelude.{eqb}
use Rattle.laws.specs.Words.{word_at}
use Rattle.images.specs.Formed.{words_here}
use Rattle.images.proofs.Ranges.{all_below}
use Rattle.images.proofs.net_image.free_in_range.Goals as goal

pub returns : goal.returns
returns c =
    all_below 13 (λ j. eqb (word_at c.args.p.now (4 * j)) 0) c.all.ensures.ran (λ x b q k. search rules) ∙
    words_here c.args.p.now c.fits-p c.told-p c.requires.1 c.requires.0
