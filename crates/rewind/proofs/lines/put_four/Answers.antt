use Rattle.std.proofs.Common.{◌∷◌, []}
use Rattle.rewind.specs.Lines.{hex_four, puts_more, puts_same}
use Rattle.rewind.proofs.lines.put_four.Goals as goal

pub returns : goal.returns
unfolding hex_four
returns g c =
    puts_same (λ i. c.hex_digit.ensures i ∷ c.hex_digit-2.ensures i ∷ c.hex_digit-3.ensures i ∷ c.hex_digit-4.ensures i ∷ [])
    (puts_more (puts_more (puts_more c.put.ensures c.put-2.ensures) c.put-3.ensures) c.put-4.ensures)
