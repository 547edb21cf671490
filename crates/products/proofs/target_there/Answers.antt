use mathlib.Core.Path.{sym}
use Rattle.products.specs.Products.{target_there}
use Rattle.products.proofs.target_there.Goals as goal

pub returns-then-not-has_target : goal.returns-then-not-has_target
unfolding target_there
returns-then-not-has_target c = rw (c.has_target.ensures, sym c.if-not-has_target.ensures)

pub returns-then-is_name : goal.returns-then-is_name
unfolding target_there
returns-then-is_name c = rw (sym c.if-not-has_target.ensures, sym c.if-is_name.ensures, c.has.ensures)

pub returns-else-is_name : goal.returns-else-is_name
unfolding target_there
returns-else-is_name c = rw (sym c.if-not-has_target.ensures, c.is_name.ensures, sym c.if-is_name.ensures)
