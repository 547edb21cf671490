use Rattle.products.specs.Acting.{tuple_of}
use Rattle.products.proofs.tuple_made.Goals as goal

pub returns : goal.returns
unfolding tuple_of
returns c = rw c.fields_made-contents.ensures
