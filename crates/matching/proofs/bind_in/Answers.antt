use Rattle.matching.specs.Bound.{bound_put}
use Rattle.std.proofs.Common.{rules}
use Rattle.matching.proofs.bind_in.Goals as goal

pub returns : goal.returns
unfolding bound_put
returns c = rw (← c.action_of-a.ensures) (search rules)
