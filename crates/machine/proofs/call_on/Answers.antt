use mathlib.Core.Path.{sym, ◌∙◌}
use Rattle.machine.specs.Calls.{script_in, net_in}
use Rattle.machine.specs.Called.{read_in_range, request_bad, request_good, good_replies}
use Rattle.machine.proofs.call_on.Goals as goal

pub returns-in_default : goal.returns-in_default
returns-in_default c = good_replies c.args.script.now c.args.net.now c.args.request.now c.requires _ _ (request_bad (script_in c.args.script.now) (net_in c.args.net.now) c.args.net.now c.args.request.now (sym c.in_default.is ∙ c.read_request.ensures) _ c.refused.ensures)

pub serve-requires : goal.serve-requires
serve-requires c = (c.requires, read_in_range c.args.request.now _ (sym c.in-Some.is ∙ c.read_request.ensures))

pub returns : goal.returns
returns c = good_replies c.args.script.now c.args.net.now c.args.request.now c.requires _ _ (request_good (script_in c.args.script.now) (net_in c.args.net.now) c.args.net.now c.args.request.now _ (sym c.in-Some.is ∙ c.read_request.ensures) _ _ (c.serve.ensures.value, c.serve.ensures.net_after))
