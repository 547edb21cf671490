use Rattle.std.proofs.Common.{sym, ap, ◌∙◌, ◌++◌, ℕ, arith}
use Rattle.rewind.specs.Lines.{decimal, number_short, numbers_of, line_of, decimal_short, line_nothing, puts_more, puts_same, puts_length}
use Rattle.rewind.proofs.lines.put_line.Goals as goal

pub put_decimal-requires : goal.put_decimal-requires
put_decimal-requires g c = omega (arith, c.from.ensures, number_short c.args.t.answer, c.requires.1)

pub put_nothing-requires : goal.put_nothing-requires
put_nothing-requires g c = omega (arith, c.requires.1, puts_length c.put_decimal.ensures, decimal_short c.from.result)

pub returns-then-tells_nothing : goal.returns-then-tells_nothing
returns-then-tells_nothing g c =
    puts_same (line_nothing c.args.t c.from.result c.from.ensures (sym c.tells_nothing.ensures ∙ c.if-tells_nothing.true)) (puts_more c.put_decimal.ensures c.put_nothing.ensures)

pub put_numbers-requires : goal.put_numbers-requires
put_numbers-requires g c = omega (arith, c.requires.0, c.requires.1, puts_length c.put_decimal.ensures, decimal_short c.from.result)

pub returns-else-tells_nothing : goal.returns-else-tells_nothing
unfolding line_of
returns-else-tells_nothing g c =
    puts_same (ap (λ (k : ℕ). decimal k ++ numbers_of c.args.t.undone c.args.t.touched.0) c.from.ensures) (puts_more c.put_decimal.ensures c.put_numbers.ensures)
