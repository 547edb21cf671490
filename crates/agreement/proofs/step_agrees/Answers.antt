use mathlib.Core.Path.{sym}
use Rattle.std.proofs.Common.{arith}
use Rattle.std.proofs.lemmas.Grind.{common_steps}
use Rattle.images.specs.Read.{net_of}
use Rattle.agreement.proofs.Looked.{unready, by_tests}
use Rattle.agreement.proofs.step_agrees.Goals as goal

pub returns-in_default : goal.returns-in_default
returns-in_default c = sym (unready _ c.args.k c.args.x (net_of c.args.net.now) (sym c.in_default.ensures))

pub returns-then-first_stands : goal.returns-then-first_stands
returns-then-first_stands c = let all = by_tests _ c.args.k c.args.x (net_of c.args.net.now) (sym c.in-Some.ensures) in grind (arith, common_steps)

pub returns-else-first_stands : goal.returns-else-first_stands
returns-else-first_stands c = let all = by_tests _ c.args.k c.args.x (net_of c.args.net.now) (sym c.in-Some.ensures) in grind (arith, common_steps)
