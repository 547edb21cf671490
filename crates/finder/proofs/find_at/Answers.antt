use mathlib.Core.Path.{◌∙◌, sym}
use Rattle.images.specs.Read.{net_of}
use Rattle.finder.specs.Searched.{no_template, unready, no_target, searching}
use Rattle.finder.proofs.find_at.Goals as goal

pub returns-then-not-meets_tuple : goal.returns-then-not-meets_tuple
returns-then-not-meets_tuple c = c.refused.ensures ∙ no_template c.action_of-a.ensures c.args.x (net_of c.args.net.now) (sym c.meets_tuple.ensures ∙ c.if-not-meets_tuple.true)

pub returns-in_default : goal.returns-in_default
returns-in_default c = c.refused-in_default.ensures ∙ unready c.action_of-a.ensures c.args.x (net_of c.args.net.now) (sym c.meets_tuple.ensures ∙ c.if-not-meets_tuple.false) (sym c.evaluable.ensures ∙ c.in_default.is)

pub returns-then-not-target_there : goal.returns-then-not-target_there
returns-then-not-target_there c = c.refused-then-not-target_there.ensures ∙ no_target c.action_of-a.ensures c.args.x (net_of c.args.net.now) (sym c.meets_tuple.ensures ∙ c.if-not-meets_tuple.false) (sym c.evaluable.ensures ∙ c.in-Some.is) c.present_in.ensures (sym c.target_there.ensures ∙ c.if-not-target_there.true)

pub returns : goal.returns
returns c = searching c.action_of-a.ensures c.args.x (net_of c.args.net.now) (sym c.meets_tuple.ensures ∙ c.if-not-meets_tuple.false) (sym c.evaluable.ensures ∙ c.in-Some.is) c.present_in.ensures (sym c.target_there.ensures ∙ c.if-not-target_there.false) c.search.ensures
