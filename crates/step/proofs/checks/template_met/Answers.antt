use mathlib.Core.Path.{ap, sym, ◌∙◌}
use Rattle.std.specs.Prelude.{◌≡◌, true}
use borrow.Author.Tests.{ltb-true}
use Rattle.images.specs.Net.{slot_with}
use Rattle.images.specs.Read.{action_of, slot_of, net_of}
use Rattle.images.specs.InPlace.{slot_part}
use Rattle.images.specs.declared.Action.{Action}
use Rattle.matching.specs.Match.{match_of}
use Rattle.products.specs.Products.{meets_tuple}
use Rattle.step.specs.Tests.{template_answer}
use Rattle.step.proofs.Back.{at_key}
use Rattle.step.proofs.checks.template_met.Goals as goal

pub returns : goal.returns
unfolding template_answer
returns c =
    let met : meets_tuple (action_of c.args.node.now).kind ≡ true =
    sym (ap (λ (z : Action). meets_tuple z.kind) c.action_of-a.ensures) ∙ sym c.meets_tuple.ensures ∙ c.if-not-meets_tuple.false in
    let below = ltb-true c.args.used.0 64 (c.requires met) in
    let tuple : slot_of c.slot_bytes-tuple.result.now ≡ slot_with (net_of c.args.net.now) c.args.used =
    ap slot_of c.slot_bytes-tuple.ensures ∙ slot_part c.args.net.now c.args.used.0 below ∙ sym (at_key (net_of c.args.net.now) c.args.used.0 below) in
    rw met (c.match_tuple.ensures ∙ ap (match_of c.args.vars (action_of c.args.node.now)) tuple)
