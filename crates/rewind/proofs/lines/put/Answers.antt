use Rattle.rewind.proofs.lines.put.Goals as goal

pub returns : goal.returns
returns g c = record { text = c.push.ensures.items }
