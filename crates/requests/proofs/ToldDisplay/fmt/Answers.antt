use Rattle.std.proofs.Common.{false}
use Rattle.std.specs.Fmt.{digits}
use Rattle.requests.specs.Text.{told_text, laid_out}
use Rattle.requests.proofs.ToldDisplay.fmt.Goals as goal

pub returns-clause-writes : goal.returns-clause-writes
unfolding told_text
returns-clause-writes g c =
    rw (c.laid_out.ensures, c.in_radix.ensures, c.from.ensures, laid_out (digits 16 false c.args.self.now.touched.0)) at c.write.ensures.writes
