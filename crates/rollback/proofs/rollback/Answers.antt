use Rattle.rollback.proofs.Checked.{rollback_refused, rollback_undoes, rollback_gives}
use Rattle.rollback.proofs.rollback.Goals as goal

pub undo_dependents-requires : goal.undo_dependents-requires
undo_dependents-requires c =
    (c.requires, rollback_undoes c.args.script.now c.args.net.now c.requires c.fits-script c.fits-net c.args.r _ _ c.slot_in-x.ensures c.node_in-a.ensures _ c.rollback_answer.ensures _ c.in-Ok.is)

pub returns-in-Ok : goal.returns-in-Ok
returns-in-Ok c =
    let h = rollback_gives c.args.script.now c.args.net.now c.requires c.fits-script c.fits-net c.args.r _ _ c.slot_in-x.ensures c.node_in-a.ensures _ c.rollback_answer.ensures _ c.in-Ok.is _ _ (c.undo_dependents.ensures.value, c.undo_dependents.ensures.net_after) in
    record { value = h.0; net_after = h.1 }

pub returns-in-Err : goal.returns-in-Err
returns-in-Err c =
    let h = rollback_refused c.args.script.now c.args.net.now c.requires c.fits-script c.fits-net c.args.r _ _ c.slot_in-x.ensures c.node_in-a.ensures _ c.rollback_answer.ensures _ c.in-Err.is _ c.refused.ensures in
    record { value = h.0; net_after = h.1 }
