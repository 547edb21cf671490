use Rattle.images.specs.Net.{datum_at}
use mathlib.Core.Path.{refl, ◌∙◌}
use Rattle.laws.specs.Lists.{tab}
use Rattle.laws.specs.Parts.{put_four}
use Rattle.images.specs.Layout.{length_numbers, slot_pieces}
use Rattle.images.proofs.net_image.write_slot.Goals as goal

pub returns : goal.returns
unfolding tab
returns c =
    put_four 8 8 32 8 c.args.p.now _ _ _ _ _ _ _ _ c.requires
    c.write_first.ensures c.write_tags.ensures c.write_numbers.ensures c.write_refs.ensures
    refl refl (length_numbers 8 (λ j. (datum_at c.args.s j).number)) refl ∙
    slot_pieces c.args.s
