use Rattle.std.proofs.Common.{◌∙◌, sym, ap, ltb-true}
use Rattle.images.specs.Read.{action_of}
use Rattle.images.specs.InPlace.{node_part}
use Rattle.images.proofs.script_image.node_in.Goals as goal

pub returns-then-is_name : goal.returns-then-is_name
returns-then-is_name c =
    let yes = sym c.is_name.ensures ∙ c.if-is_name.true in
    rw yes (c.action_of.ensures ∙ ap action_of c.node_bytes.ensures ∙ node_part _ _ (ltb-true _ 64 yes))
