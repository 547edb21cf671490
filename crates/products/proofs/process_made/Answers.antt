use Rattle.products.specs.Acting.{process_at}
use Rattle.products.proofs.process_made.Goals as goal

pub returns : goal.returns
unfolding process_at
returns c = c.live_process.ensures
