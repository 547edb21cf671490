use Rattle.std.proofs.Common.{rules}
use mathlib.Core.Path.{refl, ◌∙◌}
use Rattle.laws.specs.Parts.{put_around}
use Rattle.images.specs.Round.{slot_keeping}
use Rattle.laws.specs.Words.{bytes_of}
use Rattle.images.proofs.net_image.write_around.Goals as goal

pub returns : goal.returns
unfolding bytes_of
returns c =
    put_around 8 44 4 c.args.p.now _ _ _ _ c.requires.slot_sized c.write_first.ensures c.write_word.ensures refl ∙
    slot_keeping c.args.p.now (λ i. search rules) c.requires.slot_sized c.args.s c.requires.kept.0 c.requires.kept.1
