use Rattle.std.proofs.Common.{rules}
use Rattle.images.specs.Read.{net_of, action_of}
use Rattle.step.specs.Allowed.{at_found, found}
use Rattle.step.specs.Next.{forward_written}
use Rattle.step.proofs.forward.write_forward.Goals as goal

pub returns : goal.returns
returns c =
    let g = c.args in
    let a = action_of g.node.now in
    let (allowed, at) = at_found a (net_of g.net.now) g.r g.at c.requires.allowed in
    forward_written a g.net.now (search rules) (λ i. search rules) g.r c.requires.in_form (found a (net_of g.net.now) g.r allowed) g.at at _ _ _ _ _ _
    c.put_event.ensures c.put_next.ensures c.bind_next.ensures c.put_second.ensures c.put_taken.ensures c.put_made.ensures
