use mathlib.Core.Path.{◌∙◌, sym}
use Rattle.images.specs.Read.{net_of}
use Rattle.finder.specs.Searched.{no_key, no_live_process, no_node, at_node}
use Rattle.finder.proofs.find.Goals as goal

pub returns-in_default : goal.returns-in_default
returns-in_default c = c.refused.ensures ∙ no_key c.args.script.now (net_of c.args.net.now) c.args.key (sym c.of_byte.ensures ∙ c.in_default.is)

pub returns-then-x-ne-LIVE : goal.returns-then-x-ne-LIVE
returns-then-x-ne-LIVE c = c.refused-then-x-ne-LIVE.ensures ∙ no_live_process c.args.script.now (net_of c.args.net.now) c.args.key (sym c.of_byte.ensures ∙ c.in-Some.is) c.slot_at-x.ensures c.if-x-ne-LIVE.true

pub returns-in_default-of_byte : goal.returns-in_default-of_byte
returns-in_default-of_byte c = c.refused-in_default-of_byte.ensures ∙ no_node c.args.script.now (net_of c.args.net.now) c.args.key (sym c.of_byte.ensures ∙ c.in-Some.is) c.slot_at-x.ensures c.if-x-ne-LIVE.false (sym c.of_byte-2.ensures ∙ c.in_default-of_byte.is)

pub returns : goal.returns
returns c = at_node c.args.script.now (net_of c.args.net.now) c.args.key (sym c.of_byte.ensures ∙ c.in-Some.is) c.slot_at-x.ensures c.if-x-ne-LIVE.false (sym c.of_byte-2.ensures ∙ c.in-Some-of_byte.is) c.node_bytes.ensures c.find_at.ensures
