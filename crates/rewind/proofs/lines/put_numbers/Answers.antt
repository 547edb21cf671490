use Rattle.std.proofs.Common.{arith}
use Rattle.rewind.specs.Lines.{numbers_of, decimal_short, length_word, puts_more, puts_length}
use Rattle.rewind.proofs.lines.put_numbers.Goals as goal

pub put-requires-2 : goal.put-requires-2
put-requires-2 g c = omega (arith, c.requires.1, puts_length c.put.ensures, puts_length c.put_decimal.ensures, decimal_short c.args.undone)

pub put_word-requires : goal.put_word-requires
put_word-requires g c = omega (arith, c.requires.1, puts_length c.put.ensures, puts_length c.put_decimal.ensures, decimal_short c.args.undone, puts_length c.put-2.ensures)

pub put-requires-3 : goal.put-requires-3
put-requires-3 g c = omega (arith, c.requires.1, puts_length c.put.ensures, puts_length c.put_decimal.ensures, decimal_short c.args.undone, puts_length c.put-2.ensures, puts_length c.put_word.ensures, length_word c.args.touched.0)

pub returns : goal.returns
unfolding numbers_of
returns g c = puts_more (puts_more (puts_more (puts_more c.put.ensures c.put_decimal.ensures) c.put-2.ensures) c.put_word.ensures) c.put-3.ensures
