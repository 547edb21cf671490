use Rattle.accept.proofs.Told.{shifted_same}
use Rattle.std.proofs.Common.{rules}
use Rattle.accept.proofs.whole.localities_right.Goals as goal

pub returns : goal.returns
returns c = shifted_same c.args.present c.args.made (search rules) (search rules)
