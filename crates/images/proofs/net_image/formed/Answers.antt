use Rattle.std.proofs.Common.{arith}
use Rattle.std.proofs.lemmas.Grind.{common_steps}
use Rattle.images.specs.Read.{net_formed}
use Rattle.images.proofs.net_image.formed.Goals as goal
use Rattle.images.proofs.net_image.formed.Goals.{else-head_formed-via-then-head_formed+else-slots_formed, else-head_formed-via-else-head_formed}

pub returns-else-head_formed : goal.returns-else-head_formed
unfolding net_formed
returns-else-head_formed c =
    elim c.else-head_formed.branch [
      | else-head_formed-via-then-head_formed+else-slots_formed w ↦ grind (arith, common_steps)
      | else-head_formed-via-else-head_formed w ↦ grind (arith, common_steps)
    ]
