use mathlib.Core.Path.{refl}
use Rattle.laws.specs.Parts.{put_four}
use Rattle.laws.specs.Words.{bytes_of}
use Rattle.images.specs.Head.{head_bytes}
use Rattle.images.proofs.head.write_head.Goals as goal

pub returns : goal.returns
unfolding head_bytes bytes_of
returns c =
    put_four 4 4 4 4 c.args.p.now _ _ _ _ _ _ _ _ c.requires
    c.copy_from_slice.ensures.after c.write_word.ensures c.write_word-2.ensures c.write_word-3.ensures refl refl refl refl
