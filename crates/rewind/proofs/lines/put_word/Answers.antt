use Rattle.std.proofs.Common.{arith, ◌/◌}
use Rattle.rewind.specs.Lines.{hex_word, length_four, puts_more, puts_length}
use Rattle.rewind.proofs.lines.put_word.Goals as goal

pub put_four-requires-2 : goal.put_four-requires-2
put_four-requires-2 g c = omega (arith, c.requires, puts_length c.put_four.ensures, length_four (c.args.w / 65536))

pub returns : goal.returns
unfolding hex_word
returns g c = puts_more c.put_four.ensures c.put_four-2.ensures
