use Rattle.machine.specs.Called.{call_refused}
use Rattle.machine.specs.OnBytes.{net_size}
use Rattle.machine.proofs.call.Goals as goal

pub returns-in-Err : goal.returns-in-Err
returns-in-Err c = call_refused c.args.script.now c.args.net.now _ c.in-Err.ensures.0 c.args.request.now c.in-Err.ensures.1 _ c.refused.ensures

pub returns-in_default : goal.returns-in_default
returns-in_default c = absurd (c.in_default.ensures.cases (net_size c.args.script.now c.args.net.now c.in-Ok.ensures.0))
