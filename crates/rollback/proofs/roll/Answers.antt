use Rattle.rollback.proofs.Checked.{roll_refused, roll_undoes, roll_gives}
use Rattle.rollback.proofs.roll.Goals as goal

pub undo_dependents-requires : goal.undo_dependents-requires
undo_dependents-requires c =
    (c.requires, roll_undoes c.args.script.now c.args.net.now c.requires c.fits-script c.fits-net c.args.r _ _ c.slot_in-x.ensures c.node_in-a.ensures _ c.roll_answer.ensures _ c.in-Ok.is)

pub returns-in-Ok : goal.returns-in-Ok
returns-in-Ok c =
    let h = roll_gives c.args.script.now c.args.net.now c.requires c.fits-script c.fits-net c.args.r _ _ c.slot_in-x.ensures c.node_in-a.ensures _ c.roll_answer.ensures _ c.in-Ok.is _ _ (c.undo_dependents.ensures.value, c.undo_dependents.ensures.net_after) in
    record { value = h.0; net_after = h.1 }

pub returns-in-Err : goal.returns-in-Err
returns-in-Err c =
    let h = roll_refused c.args.script.now c.args.net.now c.requires c.fits-script c.fits-net c.args.r _ _ c.slot_in-x.ensures c.node_in-a.ensures _ c.roll_answer.ensures _ c.in-Err.is _ c.refused.ensures in
    record { value = h.0; net_after = h.1 }
