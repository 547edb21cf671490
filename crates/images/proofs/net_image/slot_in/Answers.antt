use Rattle.std.proofs.Common.{◌∙◌, sym, ltb-true}
use Rattle.images.proofs.net_image.slot_in.Goals as goal

pub slot_at-requires : goal.slot_at-requires
slot_at-requires c = ltb-true _ 64 (sym c.is_name.ensures ∙ c.if-is_name.true)

pub returns-then-is_name : goal.returns-then-is_name
returns-then-is_name c = rw (sym c.is_name.ensures ∙ c.if-is_name.true) c.slot_at.ensures

pub returns : goal.returns
returns c = rw (sym c.is_name.ensures ∙ c.if-is_name.false, c.free_slot.ensures)
