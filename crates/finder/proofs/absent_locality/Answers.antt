use Rattle.std.proofs.Common.{◌≡◌, ap, ◌∙◌, true, false, not, rules, tests}
use Rattle.std.proofs.lemmas.Iterator.{first_from_Range}
use Rattle.names.specs.Names.{locality}
use Rattle.names.specs.Localities.{holds}
use Rattle.finder.specs.Helpers.{absent_given}
use Rattle.finder.proofs.absent_locality.Goals as goal

pub returns : goal.returns
returns c =
    let p = c.args.present in
    let h =
    first_from_Range _ _ _ _ (λ l. not (holds p (locality l)) ≡ true) (λ l. not (holds p (locality l)) ≡ false) c.find-absent.ensures.ran
    (λ x q k. search (rules, tests)) (λ x q k. (search rules, search (rules, tests))) in
    ap locality c.unwrap_or.ensures ∙ absent_given p _ h
