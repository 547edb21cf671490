use Rattle.products.specs.Products.{continued_by}
use Rattle.products.proofs.continuation.Goals as goal

pub returns : goal.returns
unfolding continued_by
returns c = rw (c.live_process.ensures, c.variables_after-contents.ensures, c.references_after-refs.ensures)
