use Rattle.std.proofs.Common.{◌≡◌, ◌∙◌, ap, sym, arith, eq-eqb, ne_eqb}
use Rattle.images.specs.Read.{net_of}
use Rattle.images.specs.declared.Slot.{Slot}
use Rattle.traces.specs.Marks.{at_key, users_start, users_none, users_away, users_more}
use Rattle.traces.proofs.users_of.Goals as goal
use Rattle.traces.proofs.users_of.Goals.{then-deeds-k+then-is_name, then-deeds-k+else-is_name, else-deeds-k}

pub loop-k-init : goal.loop-k-init
loop-k-init c = users_start _ _ _

pub loop-k-preserved : goal.loop-k-preserved
loop-k-preserved c =
    let l = c.loop-k in
    let a = c.args in
    let n = net_of a.net.now in
    let here = at_key n l.k c.loop-k-test.true in
    elim c.if-deeds-k.branch [
      | then-deeds-k+then-is_name w ↦ w.users-is ∙ users_more a.deed a.deeds n l.k l.users l.invariant (eq-eqb _ _ w.if-deeds-k.true) _ (w.used_in-tuple.ensures ∙ ap (λ (x : Slot). x.used) here) (sym w.is_name.ensures ∙ w.if-is_name.true) _ w.with.ensures
      | then-deeds-k+else-is_name w ↦ w.users-is ∙ users_away a.deed a.deeds n l.k l.users l.invariant _ (w.used_in-tuple.ensures ∙ ap (λ (x : Slot). x.used) here) (sym w.is_name.ensures ∙ w.if-is_name.false)
      | else-deeds-k w ↦ w.users-is ∙ users_none a.deed a.deeds n l.k l.users l.invariant (ne_eqb _ _ w.if-deeds-k.false)
    ]

pub returns : goal.returns
returns c =
    let l = c.loop-k in
    let e : l.k ≡ 64 = omega arith in
    rw e at l.invariant
