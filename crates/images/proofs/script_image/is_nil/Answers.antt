use Rattle.std.proofs.Common.{ℕ, Bool, eqb, eqb-true, ◌*◌, ◌∙◌, sym, rules}
use Rattle.laws.specs.Checks.{all_at}
use Rattle.laws.specs.Words.{word_at}
use Rattle.images.specs.Formed.{nil_word, nil_here}
use Rattle.images.proofs.Ranges.{all_below}
use Rattle.images.proofs.script_image.is_nil.Goals as goal

pub returns : goal.returns
returns c =
    let p = c.args.p.now in
    let is : ℕ → Bool = λ i. eqb (word_at p (4 * i)) (nil_word i) in
    λ yes.
    nil_here p c.fits-p c.told-p
    (λ i h. eqb-true _ _ (all_at 8 is (sym (all_below 8 is c.all.ensures.ran (λ x b q k. search rules)) ∙ yes) i h))
