use Rattle.laws.specs.Sets.{member, and_one}
use Rattle.names.proofs.NameSet.has.Goals as goal

pub returns : goal.returns
unfolding member
returns g c = rw (and_one, c.word.ensures.value, c.number.ensures)
