use mathlib.Core.Path.{sym}
use borrow.Author.Tests.{eq-eqb, ne_eqb}
use Rattle.products.specs.Products.{variables_after}
use Rattle.products.proofs.variables_after.Goals as goal

pub returns-then-meets_tuple : goal.returns-then-meets_tuple
unfolding variables_after
returns-then-meets_tuple c = rw (sym c.if-meets_tuple.ensures, c.bind.ensures)

pub returns-then-a-eq-NEWLOC : goal.returns-then-a-eq-NEWLOC
unfolding variables_after
returns-then-a-eq-NEWLOC c = rw (sym c.if-meets_tuple.ensures, eq-eqb _ _ c.if-a-eq-NEWLOC.true, c.with_place.ensures)

pub returns : goal.returns
unfolding variables_after
returns c = rw (sym c.if-meets_tuple.ensures, ne_eqb _ _ c.if-a-eq-NEWLOC.false)
