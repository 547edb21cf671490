use Rattle.std.proofs.Common.{◌≡◌, ap, ◌∙◌, true, false, rules, tests}
use Rattle.std.proofs.lemmas.Iterator.{first_from_Range}
use Rattle.names.specs.Names.{key}
use Rattle.images.specs.Net.{is_free, slot_at}
use Rattle.images.specs.Read.{net_of}
use Rattle.finder.specs.Helpers.{free_first}
use Rattle.finder.proofs.free_key.Goals as goal

pub returns : goal.returns
returns c =
    let n = net_of c.args.net.now in
    let h =
    first_from_Range _ _ _ _ (λ k. is_free (slot_at n k) ≡ true) (λ k. is_free (slot_at n k) ≡ false) c.find-free.ensures.ran
    (λ x q k. search (rules, tests)) (λ x q k. (search rules, search (rules, tests))) in
    ap key c.unwrap_or.ensures ∙ free_first n _ h
