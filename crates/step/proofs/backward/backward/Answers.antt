use Rattle.std.proofs.Common.{rules}
use mathlib.Core.Path.{sym, ◌∙◌}
use Rattle.step.proofs.Back.{refuses_process, refuses_places, refuses_undoing, may_undo, undoing_served}
use Rattle.step.proofs.backward.backward.Goals as goal

pub returns-then-not-is_past : goal.returns-then-not-is_past
returns-then-not-is_past c =
    let h = refuses_process c.args.script.now c.args.net.now c.requires c.fits-script (λ i. search rules) c.args.r _ c.slot_in.ensures (sym c.is_past.ensures ∙ c.if-not-is_past.true) _ c.refused.ensures in
    record { value = h.0; net_after = h.1 }

pub returns-then-not-none_placed : goal.returns-then-not-none_placed
returns-then-not-none_placed c =
    let h = refuses_places c.args.script.now c.args.net.now c.requires c.fits-script (λ i. search rules) c.args.r _ c.slot_in.ensures (sym c.is_past.ensures ∙ c.if-not-is_past.false) (sym c.none_placed.ensures ∙ c.if-not-none_placed.true) _ c.refused-then-not-none_placed.ensures in
    record { value = h.0; net_after = h.1 }

pub returns-in_default : goal.returns-in_default
returns-in_default c =
    let h = refuses_undoing c.args.script.now c.args.net.now c.requires c.fits-script (λ i. search rules) c.args.r _ c.slot_in.ensures (sym c.is_past.ensures ∙ c.if-not-is_past.false) (sym c.none_placed.ensures ∙ c.if-not-none_placed.false) _ c.in_the_way.ensures _ c.in_default.is _ c.refused-in_default.ensures in
    record { value = h.0; net_after = h.1 }

pub undo-touched-requires : goal.undo-touched-requires
undo-touched-requires c = (c.requires, may_undo c.args.script.now c.args.net.now c.requires c.fits-script (λ i. search rules) c.args.r _ c.slot_in.ensures (sym c.is_past.ensures ∙ c.if-not-is_past.false) _ c.in_the_way.ensures c.in-None.is)

pub returns : goal.returns
returns c =
    let h = undoing_served c.args.script.now c.args.net.now c.requires c.fits-script (λ i. search rules) c.args.r _ c.slot_in.ensures (sym c.is_past.ensures ∙ c.if-not-is_past.false) (sym c.none_placed.ensures ∙ c.if-not-none_placed.false) _ c.in_the_way.ensures c.in-None.is _ c.undo-touched.ensures.value _ c.undo-touched.ensures.net_after in
    record { value = h.0; net_after = h.1 }
