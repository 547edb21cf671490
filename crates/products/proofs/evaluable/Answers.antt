use mathlib.Core.Path.{◌∙◌, sym}
use Rattle.products.specs.Acting.{readiness, ready_missing, ready_not, ready_at}
use Rattle.products.proofs.evaluable.Goals as goal

pub returns-in_err-l : goal.returns-in_err-l
returns-in_err-l c =
    c.from_residual.ensures ∙
    ready_missing c.action_of-a.result _ _ c.in_err-l.ensures ∙
    (λ i. readiness (c.action_of-a.ensures i) c.args.own c.args.vars)

pub returns-then-not-fields_found : goal.returns-then-not-fields_found
returns-then-not-fields_found c =
    ready_not c.action_of-a.result _ _ _ c.in_ok-l.ensures (sym c.if-not-fields_found.ensures) ∙
    (λ i. readiness (c.action_of-a.ensures i) c.args.own c.args.vars)

pub returns : goal.returns
returns c =
    ready_at c.action_of-a.result _ _ _ c.in_ok-l.ensures (sym c.if-not-fields_found.ensures) ∙
    (λ i. readiness (c.action_of-a.ensures i) c.args.own c.args.vars)
