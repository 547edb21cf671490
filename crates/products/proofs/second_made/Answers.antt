use borrow.Author.Tests.{eq-eqb, ne_eqb}
use Rattle.products.specs.Acting.{second_at, tuple_at}
use Rattle.products.proofs.second_made.Goals as goal

pub returns-then-a-eq-OUT : goal.returns-then-a-eq-OUT
unfolding second_at tuple_at
returns-then-a-eq-OUT c = rw (eq-eqb _ _ c.if-a-eq-OUT.true, c.tuple_made.ensures)

pub returns : goal.returns
unfolding second_at
returns c = rw (ne_eqb _ _ c.if-a-eq-OUT.false, c.process_made.ensures)
