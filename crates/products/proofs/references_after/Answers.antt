use borrow.Author.Tests.{lt-ltb, le-ltb}
use Rattle.products.specs.Products.{references_after}
use Rattle.products.proofs.references_after.Goals as goal

pub returns-then-i-lt-COUNT : goal.returns-then-i-lt-COUNT
unfolding references_after
returns-then-i-lt-COUNT c = rw (lt-ltb _ _ c.if-i-lt-COUNT.true)

pub returns-else-i-lt-COUNT : goal.returns-else-i-lt-COUNT
unfolding references_after
returns-else-i-lt-COUNT c = rw (le-ltb _ _ c.if-i-lt-COUNT.false)
