use Rattle.std.proofs.Common.{◌∙◌, sym, get_or, arith}
use borrow.Author.Tests.{eq-eqb, ne_eqb, lt-ltb}
use Rattle.laws.specs.Checks.{all_of, all_not}
use Rattle.images.specs.Script.{field_at}
use Rattle.images.specs.Net.{datum0}
use Rattle.matching.specs.Match.{place_meets, meets, a_match, no_match}
use Rattle.matching.proofs.match_tuple.Goals as goal

pub returns-then-a-t : goal.returns-then-a-t
unfolding meets
returns-then-a-t c =
    rw (← c.action_of-a.ensures, ← c.slot_of-t.ensures) (no_match _ _ _ (rw (ne_eqb _ _ c.if-a-t.true)))

pub returns-then-not-field_meets : goal.returns-then-not-field_meets
unfolding meets place_meets
returns-then-not-field_meets c =
    let a = c.action_of-a.result in
    let t = c.slot_of-t.result in
    rw (← c.action_of-a.ensures, ← c.slot_of-t.ensures)
    (no_match _ a t
    (rw (eq-eqb _ _ c.if-a-t.false)
    (all_not 4 (λ j. place_meets c.args.vars a.count j (field_at a j) (get_or t.contents j datum0)) c.loop-j.j c.loop-j-test.true
    (rw (lt-ltb _ _ c.if-j-a.true) (sym c.field_meets.ensures ∙ c.if-not-field_meets.true)))))

pub returns : goal.returns
unfolding meets
returns c =
    rw (← c.action_of-a.ensures, ← c.slot_of-t.ensures)
    (a_match _ _ _ (rw (eq-eqb _ _ c.if-a-t.false) (all_of 4 _ (λ i h. c.loop-j.invariant i (omega arith)))))
