use Rattle.std.proofs.Common.{◌≡◌, ◌∙◌, true, false, rules, tests}
use Rattle.std.proofs.lemmas.Iterator.{first_from_Range}
use Rattle.images.specs.Head.{part_at}
use Rattle.images.specs.Read.{action_of, slot_of, net_of}
use Rattle.finder.specs.Searched.{meets_at, meets_in, turns, first_met, none_met}
use Rattle.finder.proofs.search.Goals as goal

pub returns : goal.returns
returns c =
    let a = action_of c.args.node.now in
    let b = c.args.net.now in
    let h =
    first_from_Range _ _ _ _ (λ j. meets_at a c.args.vars c.args.at (slot_of (part_at 56 b j)) ≡ true)
    (λ j. meets_at a c.args.vars c.args.at (slot_of (part_at 56 b j)) ≡ false) c.find-met.ensures.ran
    (λ x q k. search (rules, tests)) (λ x q k. (search rules, search (rules, tests))) in
    first_met (meets_in a c.args.vars c.args.at (net_of b)) c.in-Some.is (turns a c.args.vars c.args.at b _ h)

pub returns-in_default : goal.returns-in_default
returns-in_default c =
    let a = action_of c.args.node.now in
    let b = c.args.net.now in
    let h =
    first_from_Range _ _ _ _ (λ j. meets_at a c.args.vars c.args.at (slot_of (part_at 56 b j)) ≡ true)
    (λ j. meets_at a c.args.vars c.args.at (slot_of (part_at 56 b j)) ≡ false) c.find-met.ensures.ran
    (λ x q k. search (rules, tests)) (λ x q k. (search rules, search (rules, tests))) in
    c.refused.ensures ∙ none_met (meets_in a c.args.vars c.args.at (net_of b)) c.in_default.is (turns a c.args.vars c.args.at b _ h)
