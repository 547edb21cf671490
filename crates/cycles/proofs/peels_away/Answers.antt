use mathlib.Core.Path.{◌∙◌, sym}
use native.Mathlib.Omega.{arith}
use borrow.Author.Tests.{eqb-true, eqb-false}
use Rattle.cycles.specs.Highest.{without_less}
use Rattle.cycles.specs.Laws.{passing_first, passing_next, passing_done, kept_first, kept_next, kept_empty, kept_stuck, kept_last}
use Rattle.std.proofs.Common.{rules}
use Rattle.cycles.proofs.peels_away.Goals as goal

pub loop-turn-init : goal.loop-turn-init
loop-turn-init c = kept_first _ _ (search rules)

pub returns-then-is_empty : goal.returns-then-is_empty
returns-then-is_empty c = sym (kept_empty _ _ _ _ c.loop-turn.invariant (sym c.is_empty.ensures ∙ c.if-is_empty.true))

pub loop-to_come-init : goal.loop-to_come-init
loop-to_come-init c = passing_first _ _

pub loop-to_come-smaller : goal.loop-to_come-smaller
loop-to_come-smaller c = without_less _ _ _ c.highest-k.ensures c.without-to_come.ensures

pub loop-to_come-preserved : goal.loop-to_come-preserved
loop-to_come-preserved c =
    let w = c.loop-to_come.invariant in
    passing_next _ _ _ _ w _ c.highest-k.ensures _ _ c.take_last-rest.ensures c.without-to_come.ensures

pub returns-then-eq : goal.returns-then-eq
returns-then-eq c =
    let p = c.loop-to_come in
    let done = passing_done _ _ _ _ p.invariant (sym c.is_empty-in-loop-to_come.ensures ∙ c.loop-to_come-test.false) in
    let w = c.loop-turn.invariant in
    let some = sym c.is_empty.ensures ∙ c.if-is_empty.false in
    sym (kept_stuck _ _ _ _ p.rest w some done (eqb-true _ _ (sym c.eq.ensures ∙ c.if-eq.true)))

pub loop-turn-preserved : goal.loop-turn-preserved
loop-turn-preserved c =
    let p = c.loop-to_come in
    let done = passing_done _ _ _ _ p.invariant (sym c.is_empty-in-loop-to_come.ensures ∙ c.loop-to_come-test.false) in
    let w = c.loop-turn.invariant in
    kept_next _ _ _ _ p.rest w done (eqb-false _ _ (sym c.eq.ensures ∙ c.if-eq.false))

pub returns : goal.returns
returns c =
    let w = c.loop-turn.invariant in
    let e = kept_last _ _ _ _ w (omega arith) in
    c.is_empty-2.ensures ∙ e ∙ sym (kept_empty _ _ _ _ w e)
