use Rattle.std.proofs.Common.{arith}
use Rattle.std.proofs.lemmas.Grind.{common_steps}
use Rattle.agreement.specs.Agreement.{agrees_at}
use Rattle.agreement.specs.Looked.{its_node}
use Rattle.agreement.proofs.event_agrees.Goals as goal

pub returns-then-is_name : goal.returns-then-is_name
unfolding agrees_at
returns-then-is_name c = let a = its_node c.args.script.now c.slot_at-x.result.node c.if-is_name.ensures in grind (arith, common_steps)

pub returns-else-is_name : goal.returns-else-is_name
unfolding agrees_at
returns-else-is_name c = grind (arith, common_steps)
