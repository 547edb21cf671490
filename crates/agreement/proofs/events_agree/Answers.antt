use mathlib.Core.Path.{sym}
use native.Mathlib.Omega.{arith}
use borrow.Author.Count.{below_more}
use Rattle.laws.specs.Checks.{all_of, all_not}
use Rattle.names.specs.Names.{key_count}
use Rattle.agreement.specs.Looked.{no_event, event_told}
use Rattle.agreement.proofs.events_agree.Goals as goal
use Rattle.agreement.proofs.events_agree.Goals.{else-x-eq-PAST-via-then-x-eq-PAST+else-not-event_agrees, else-x-eq-PAST-via-else-x-eq-PAST}

pub returns-then-not-event_agrees : goal.returns-then-not-event_agrees
returns-then-not-event_agrees c =
    sym (all_not key_count _ c.loop-k.k c.loop-k-test.true
    (event_told _ _ _ c.slot_at-x.ensures c.if-x-eq-PAST.true c.event_agrees.ensures c.if-not-event_agrees.true))

pub loop-k-preserved : goal.loop-k-preserved
loop-k-preserved c =
    below_more _ _ c.loop-k.invariant
    (elim c.else-x-eq-PAST.branch [
      | else-x-eq-PAST-via-then-x-eq-PAST+else-not-event_agrees w ↦
          event_told _ _ _ c.slot_at-x.ensures w.if-x-eq-PAST.true w.event_agrees.ensures w.if-not-event_agrees.false
      | else-x-eq-PAST-via-else-x-eq-PAST w ↦ no_event _ _ _ c.slot_at-x.ensures w.if-x-eq-PAST.false
    ])

pub returns : goal.returns
returns c = sym (all_of key_count _ (λ i h. c.loop-k.invariant i (omega arith)))
