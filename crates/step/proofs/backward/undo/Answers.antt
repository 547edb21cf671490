use Rattle.step.proofs.Back.{undo_below, undo_keeps, undo_touches, undo_writes}
use Rattle.step.proofs.backward.undo.Goals as goal

pub slot_at-x-requires : goal.slot_at-x-requires
slot_at-x-requires c = undo_below c.args.script.now c.args.net.now c.requires.0 c.args.k c.requires.1

pub put_keeping-requires : goal.put_keeping-requires
put_keeping-requires c = (undo_keeps c.args.script.now c.args.net.now c.requires.0 c.args.k c.requires.1 _ c.slot_at-x.ensures _ c.as_new.ensures).1

pub returns : goal.returns
returns c = record {
  value = undo_touches c.args.script.now c.args.net.now c.requires.0 c.args.k c.requires.1 _ c.slot_at-x.ensures _ _ c.freed_at-one.ensures c.freed_at-touched.ensures;
  net_after = undo_writes c.args.script.now c.args.net.now c.requires.0 c.args.k c.requires.1 _ c.slot_at-x.ensures (λ i. c.fits-script i) _ c.node_in-a.ensures _ _ _ _ _ _ _ _ c.as_new.ensures c.put_keeping.ensures c.free_slot.ensures c.put_slot.ensures c.put_back.ensures c.present_in.ensures c.present_before-before.ensures c.put_present.ensures;
}
