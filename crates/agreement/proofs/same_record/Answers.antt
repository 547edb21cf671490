use Rattle.std.proofs.Common.{◌≡◌, ◌∙◌, arith}
use Rattle.std.proofs.lemmas.Grind.{common_steps}
use Rattle.images.proofs.Owned.{shaped_own_slot}
use Rattle.agreement.specs.Agreement.{same_record, same_data, same_refs}
use Rattle.agreement.proofs.Alike.{data_alike, refs_alike}
use Rattle.agreement.proofs.same_record.Goals as goal
use Rattle.agreement.proofs.same_record.Goals.{then-x-y, else-x-y}

pub returns-then-eq-3 : goal.returns-then-eq-3
unfolding same_record
returns-then-eq-3 c =
    let x = c.args.x in
    let y = c.args.y in
    let in_x = shaped_own_slot x _ c.well_formed.0 in
    let in_y = shaped_own_slot y _ c.well_formed.1.0 in
    let refs : c.eq-then-eq-3.result ≡ same_refs x.refs y.refs = c.eq-then-eq-3.ensures ∙ refs_alike _ _ in_x.refs in_y.refs in
    elim c.if-x-y.branch [
      | then-x-y w ↦
          let contents : w.eq-then-x-y.result ≡ same_data x.contents y.contents = w.eq-then-x-y.ensures ∙ data_alike _ _ in_x.contents in_y.contents in
          grind (arith, common_steps)
      | else-x-y w ↦ cc
    ]

pub returns-else-eq-3 : goal.returns-else-eq-3
unfolding same_record
returns-else-eq-3 c =
    let x = c.args.x in
    let y = c.args.y in
    let in_x = shaped_own_slot x _ c.well_formed.0 in
    let in_y = shaped_own_slot y _ c.well_formed.1.0 in
    elim c.if-x-y.branch [
      | then-x-y w ↦
          let contents : w.eq-then-x-y.result ≡ same_data x.contents y.contents = w.eq-then-x-y.ensures ∙ data_alike _ _ in_x.contents in_y.contents in
          grind (arith, common_steps)
      | else-x-y w ↦ grind (arith, common_steps)
    ]
