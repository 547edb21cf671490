use mathlib.Core.Path.{◌≡◌, ◌∙◌, sym, ap}
use Rattle.std.proofs.Common.{arith}
use Rattle.std.proofs.lemmas.Grind.{common_steps}
use Rattle.images.specs.Net.{slot_with}
use Rattle.images.specs.Read.{net_of, slot_of}
use Rattle.matching.specs.Match.{differs_not, matches_meets}
use Rattle.agreement.specs.Agreement.{tuple_fits}
use Rattle.agreement.specs.Looked.{its_tuple}
use Rattle.agreement.proofs.tuple_fits.Goals as goal

pub returns-then-not-is_name : goal.returns-then-not-is_name
unfolding tuple_fits
returns-then-not-is_name c = rw (sym c.if-not-is_name.ensures)

pub returns-then-not-is_tuple : goal.returns-then-not-is_tuple
unfolding tuple_fits
returns-then-not-is_tuple c =
    let t : c.slot_of-t.result ≡ slot_with (net_of c.args.net.now) c.args.x.used = c.slot_of-t.ensures ∙ ap slot_of c.slot_bytes-tuple.ensures ∙ its_tuple _ _ c.if-not-is_name.ensures in
    grind (arith, common_steps)

pub returns-in_default : goal.returns-in_default
unfolding tuple_fits
returns-in_default c =
    let t : c.slot_of-t.result ≡ slot_with (net_of c.args.net.now) c.args.x.used = c.slot_of-t.ensures ∙ ap slot_of c.slot_bytes-tuple.ensures ∙ its_tuple _ _ c.if-not-is_name.ensures in
    let m = differs_not c.args.x.contents _ _ (sym c.in_default.ensures) in
    grind (arith, common_steps)

pub returns : goal.returns
unfolding tuple_fits
returns c =
    let t : c.slot_of-t.result ≡ slot_with (net_of c.args.net.now) c.args.x.used = c.slot_of-t.ensures ∙ ap slot_of c.slot_bytes-tuple.ensures ∙ its_tuple _ _ c.if-not-is_name.ensures in
    let m = matches_meets c.args.x.contents _ _ (sym c.in-Ok.ensures) in
    grind (arith, common_steps)
