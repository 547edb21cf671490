use mathlib.Core.Path.{sym}
use Rattle.products.specs.Acting.{acting_at}
use Rattle.products.proofs.acting_at.Goals as goal

pub returns-then-has_target : goal.returns-then-has_target
unfolding acting_at
returns-then-has_target c = rw (sym c.if-has_target.ensures, c.find_target.ensures)

pub returns-else-has_target : goal.returns-else-has_target
unfolding acting_at
returns-else-has_target c = rw (sym c.if-has_target.ensures)
