use borrow.Author.Tests.{lt-ltb, le-ltb}
use Rattle.rewind.specs.Lines.{decimal, puts_more}
use Rattle.rewind.proofs.lines.put_decimal.Goals as goal

pub returns-then-n-lt10 : goal.returns-then-n-lt10
unfolding decimal
returns-then-n-lt10 g c = rw (lt-ltb c.args.n 10 c.if-n-lt10.true) c.put.ensures

pub returns-else-n-lt10 : goal.returns-else-n-lt10
unfolding decimal
returns-else-n-lt10 g c = rw (le-ltb c.args.n 10 c.if-n-lt10.false) (puts_more c.put-else-n-lt10.ensures c.put-else-n-lt10-2.ensures)
