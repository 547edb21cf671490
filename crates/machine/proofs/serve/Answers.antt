use Rattle.std.specs.Prelude.{ℕ}
use Rattle.requests.specs.declared.Code.{Code}
use Rattle.machine.specs.OnBytes.{is_code, code_there, lent, forward_serves, backward_serves, rollback_serves, roll_serves}
use Rattle.machine.proofs.serve.Goals as goal

pub rollback-requires : goal.rollback-requires
rollback-requires c = lent c.args.script.now c.args.net.now c.requires.0

pub returns-in-Some-Rollback : goal.returns-in-Some-Rollback
returns-in-Some-Rollback c =
    let h = rollback_serves c.args.script.now c.args.net.now c.requires.0 c.fits-script c.fits-net c.args.r c.requires.1 _ _ (is_code _ _ _ Code.Rollback 2 c.of_byte.ensures c.in-Some-Rollback.is c.in-Some-Rollback.field-0-is) (c.rollback.ensures.value, c.rollback.ensures.net_after) in
    record { value = h.0; net_after = h.1 }

pub roll-requires : goal.roll-requires
roll-requires c = lent c.args.script.now c.args.net.now c.requires.0

pub returns-in-Some-Roll : goal.returns-in-Some-Roll
returns-in-Some-Roll c =
    let number = λ (k : ℕ). is_code _ _ _ Code.Roll k c.of_byte.ensures c.in-Some-Roll.is c.in-Some-Roll.field-0-is in
    let h = roll_serves c.args.script.now c.args.net.now c.requires.0 c.fits-script c.fits-net c.args.r c.requires.1 _ _ (number 0) (number 1) (number 2) (c.roll.ensures.value, c.roll.ensures.net_after) in
    record { value = h.0; net_after = h.1 }

pub forward-requires : goal.forward-requires
forward-requires c = (lent c.args.script.now c.args.net.now c.requires.0, c.requires.1)

pub returns-in-Some-Forward : goal.returns-in-Some-Forward
returns-in-Some-Forward c =
    let h = forward_serves c.args.script.now c.args.net.now c.requires.0 c.fits-script c.fits-net c.args.r c.requires.1 _ _ (is_code _ _ _ Code.Forward 0 c.of_byte.ensures c.in-Some-Forward.is c.in-Some-Forward.field-0-is) (c.forward.ensures.value, c.forward.ensures.net_after) in
    record { value = h.0; net_after = h.1 }

pub backward-requires : goal.backward-requires
backward-requires c = lent c.args.script.now c.args.net.now c.requires.0

pub returns-in-Some-Backward : goal.returns-in-Some-Backward
returns-in-Some-Backward c =
    let h = backward_serves c.args.script.now c.args.net.now c.requires.0 c.fits-script c.fits-net c.args.r c.requires.1 _ _ (is_code _ _ _ Code.Backward 1 c.of_byte.ensures c.in-Some-Backward.is c.in-Some-Backward.field-0-is) (c.backward.ensures.value, c.backward.ensures.net_after) in
    record { value = h.0; net_after = h.1 }

pub returns-in-None : goal.returns-in-None
returns-in-None c = absurd (code_there c.args.r _ c.requires.1 c.of_byte.ensures c.in-None.is)
