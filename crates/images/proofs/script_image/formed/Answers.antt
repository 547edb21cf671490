use Rattle.std.proofs.Common.{rules}
use Rattle.images.specs.Read.{script_formed}
use Rattle.images.proofs.script_image.formed.Goals as goal
use Rattle.images.proofs.script_image.formed.Goals.{else-head_formed-via-then-head_formed+then-word_at-eq0+else-nodes_formed, else-head_formed-via-then-head_formed+else-word_at-eq0, else-head_formed-via-else-head_formed}

pub returns-else-head_formed : goal.returns-else-head_formed
unfolding script_formed
returns-else-head_formed c =
    elim c.else-head_formed.branch [
      | else-head_formed-via-then-head_formed+then-word_at-eq0+else-nodes_formed w ↦ search rules
      | else-head_formed-via-then-head_formed+else-word_at-eq0 w ↦ search rules
      | else-head_formed-via-else-head_formed w ↦ search rules
    ]
