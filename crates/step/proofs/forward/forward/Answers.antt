use mathlib.Core.Path.{refl}
use Rattle.step.proofs.Forwarded.{has_node, node_here, forward_refused, forward_done_lem}
use Rattle.step.proofs.forward.forward.Goals as goal

pub node_bytes-node-requires : goal.node_bytes-node-requires
node_bytes-node-requires c = has_node c.args.script.now c.args.net.now c.requires.0 c.args.r c.requires.1 _ c.slot_in-x.ensures

pub returns-in-Err : goal.returns-in-Err
returns-in-Err c =
    let g = c.args in
    let here = node_here g.script.now g.net.now c.requires.0 g.r c.requires.1 _ c.slot_in-x.ensures _ c.node_bytes-node.ensures in
    let h = forward_refused g.script.now g.net.now c.requires.0 g.r c.requires.1 c.fits-script c.fits-net _ (cc) _ c.refused.ensures in
    record { value = h.0; net_after = h.1 }

pub returns-in-Ok : goal.returns-in-Ok
returns-in-Ok c =
    let g = c.args in
    let here = node_here g.script.now g.net.now c.requires.0 g.r c.requires.1 _ c.slot_in-x.ensures _ c.node_bytes-node.ensures in
    let h = forward_done_lem g.script.now g.net.now c.requires.0 g.r c.requires.1 c.fits-script c.fits-net {l = c.in-Ok.at} (cc) _ refl _ (cc) in
    record { value = h.0; net_after = h.1 }
