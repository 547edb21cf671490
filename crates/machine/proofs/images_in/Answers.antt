use mathlib.Core.Path.{refl, sym, ap}
use mathlib.Core.Bool.{true, false}
use Rattle.images.specs.Read.{script_formed, net_formed}
use Rattle.images.specs.Round.{shaped_net}
use Rattle.requests.specs.Requests.{is_done}
use Rattle.machine.specs.Called.{accepts, image_no_script, image_no_net, image_by, script_long, net_long, says, verdict_same}
use Rattle.machine.proofs.images_in.Goals as goal
use Rattle.machine.proofs.images_in.Goals.{in_default-via-in-Ok+else-script_formed, in_default-via-in_default, in_default-try_from-via-in-Ok-try_from+else-net_formed, in_default-try_from-via-in_default-try_from}

pub returns-in_default : goal.returns-in_default
returns-in_default c =
    elim c.in_default.branch [
      | in_default-via-in-Ok+else-script_formed w ↦ (image_no_script _ _ (says script_formed w.in-Ok.ensures.1.same w.script_formed.ensures w.if-script_formed.false), refl)
      | in_default-via-in_default w ↦ (image_no_script _ _ (script_long _ w.in_default.ensures.1), refl)
    ]

pub returns-in_default-try_from : goal.returns-in_default-try_from
returns-in_default-try_from c =
    let form = says script_formed c.in-Ok.ensures.1.same c.script_formed.ensures c.if-script_formed.true in
    elim c.in_default-try_from.branch [
      | in_default-try_from-via-in-Ok-try_from+else-net_formed w ↦ (image_no_net _ _ form (says net_formed w.in-Ok-try_from.ensures.1.same w.net_formed.ensures w.if-net_formed.false), refl)
      | in_default-try_from-via-in_default-try_from w ↦ (image_no_net _ _ form (net_long _ w.in_default-try_from.ensures.1), refl)
    ]

pub returns-in-Ok-accept : goal.returns-in-Ok-accept
returns-in-Ok-accept c =
    let same = c.in-Ok.ensures.1.same in
    let net_same = c.in-Ok-try_from.ensures.1.same in
    let done =
    image_by _ _ (says script_formed same c.script_formed.ensures c.if-script_formed.true)
    (says net_formed net_same c.net_formed.ensures c.if-net_formed.true)
    (shaped_net c.args.net.now (λ i. (c.type_inv.net i).fits)) _ (verdict_same same net_same c.accept.ensures) true
    (sym (ap accepts c.in-Ok-accept.is)) in
    (ap is_done (sym done), same, net_same)

pub returns-in-Err : goal.returns-in-Err
returns-in-Err c =
    let same = c.in-Ok.ensures.1.same in
    let net_same = c.in-Ok-try_from.ensures.1.same in (
      image_by _ _ (says script_formed same c.script_formed.ensures c.if-script_formed.true)
          (says net_formed net_same c.net_formed.ensures c.if-net_formed.true)
          (shaped_net c.args.net.now (λ i. (c.type_inv.net i).fits)) _ (verdict_same same net_same c.accept.ensures) false
          (sym (ap accepts c.in-Err.is)),
      refl,
    )
