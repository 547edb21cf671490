use Rattle.std.proofs.Common.{◌≡◌, true, false, ◌&&◌, arith}
use Rattle.accept.proofs.Told.{verdict_disagrees, verdict_twice, verdict_tuple, verdict_locality, verdict_root, verdict_cycle, verdict_accepted}
use Rattle.accept.proofs.accept.Goals as goal

pub returns-then-not-events_agree : goal.returns-then-not-events_agree
returns-then-not-events_agree c =
    let a = c.args in
    verdict_disagrees a.script.now a.net.now _ c.events_agree.ensures c.if-not-events_agree.true

pub returns-then-not-taken : goal.returns-then-not-taken
returns-then-not-taken c =
    let a = c.args in
    let once : (c.keys_made-made.result.once && (c.localities_made-places.result.once && c.tuples_taken-taken.result.once)) ≡ false = grind arith in
    verdict_twice a.script.now a.net.now _ c.events_agree.ensures c.if-not-events_agree.false _ _ _ _ c.deeds_of-deeds.ensures c.keys_made-made.ensures c.localities_made-places.ensures c.tuples_taken-taken.ensures once

pub returns-then-not-tuples_right : goal.returns-then-not-tuples_right
returns-then-not-tuples_right c =
    let a = c.args in
    let once : (c.keys_made-made.result.once && (c.localities_made-places.result.once && c.tuples_taken-taken.result.once)) ≡ true = grind arith in
    verdict_tuple a.script.now a.net.now _ c.events_agree.ensures c.if-not-events_agree.false _ _ _ _ c.deeds_of-deeds.ensures c.keys_made-made.ensures c.localities_made-places.ensures c.tuples_taken-taken.ensures once
    c.tuples_right.ensures c.if-not-tuples_right.true

pub returns-then-not-localities_right : goal.returns-then-not-localities_right
returns-then-not-localities_right c =
    let a = c.args in
    let once : (c.keys_made-made.result.once && (c.localities_made-places.result.once && c.tuples_taken-taken.result.once)) ≡ true = grind arith in
    verdict_locality a.script.now a.net.now _ c.events_agree.ensures c.if-not-events_agree.false _ _ _ _ c.deeds_of-deeds.ensures c.keys_made-made.ensures c.localities_made-places.ensures c.tuples_taken-taken.ensures once
    c.tuples_right.ensures c.if-not-tuples_right.false c.present_in.ensures c.localities_right.ensures c.if-not-localities_right.true

pub returns-then-not-roots_right : goal.returns-then-not-roots_right
returns-then-not-roots_right c =
    let a = c.args in
    let once : (c.keys_made-made.result.once && (c.localities_made-places.result.once && c.tuples_taken-taken.result.once)) ≡ true = grind arith in
    verdict_root a.script.now a.net.now _ c.events_agree.ensures c.if-not-events_agree.false _ _ _ _ c.deeds_of-deeds.ensures c.keys_made-made.ensures c.localities_made-places.ensures c.tuples_taken-taken.ensures once
    c.tuples_right.ensures c.if-not-tuples_right.false c.present_in.ensures c.localities_right.ensures c.if-not-localities_right.false c.roots_right.ensures c.if-not-roots_right.true

pub returns-then-not-has_no_cycle : goal.returns-then-not-has_no_cycle
returns-then-not-has_no_cycle c =
    let a = c.args in
    let once : (c.keys_made-made.result.once && (c.localities_made-places.result.once && c.tuples_taken-taken.result.once)) ≡ true = grind arith in
    verdict_cycle a.script.now a.net.now _ c.events_agree.ensures c.if-not-events_agree.false _ _ _ _ c.deeds_of-deeds.ensures c.keys_made-made.ensures c.localities_made-places.ensures c.tuples_taken-taken.ensures once
    c.tuples_right.ensures c.if-not-tuples_right.false c.present_in.ensures c.localities_right.ensures c.if-not-localities_right.false c.roots_right.ensures c.if-not-roots_right.false
    _ _ c.events_of-events.ensures c.rows_of-rows.ensures c.has_no_cycle.ensures c.if-not-has_no_cycle.true

pub returns : goal.returns
returns c =
    let a = c.args in
    let once : (c.keys_made-made.result.once && (c.localities_made-places.result.once && c.tuples_taken-taken.result.once)) ≡ true = grind arith in
    verdict_accepted a.script.now a.net.now _ c.events_agree.ensures c.if-not-events_agree.false _ _ _ _ c.deeds_of-deeds.ensures c.keys_made-made.ensures c.localities_made-places.ensures c.tuples_taken-taken.ensures once
    c.tuples_right.ensures c.if-not-tuples_right.false c.present_in.ensures c.localities_right.ensures c.if-not-localities_right.false c.roots_right.ensures c.if-not-roots_right.false
    _ _ c.events_of-events.ensures c.rows_of-rows.ensures c.has_no_cycle.ensures c.if-not-has_no_cycle.false
