use Rattle.std.proofs.Common.{ℕ, ◌+◌, ◌*◌, List, ◌∙◌, sym, ap₂, arith, ltb-true, take, drop, ap}
use Rattle.laws.specs.Parts.{put, part_size}
use Rattle.names.specs.Reads.{read, not_read}
use Rattle.images.specs.Changed.{variable_put, variable_set}
use Rattle.images.proofs.net_image.put_variable.Goals as goal

pub returns-in_default : goal.returns-in_default
unfolding variable_put
returns-in_default c = rw (not_read _ _ (sym c.in_default.is ∙ c.place_of.ensures))

pub slice_bounds-set_variable-end : goal.slice_bounds-set_variable-end
slice_bounds-set_variable-end c =
    let (is, there) = read _ _ _ (sym c.in-Some.is ∙ c.place_of.ensures) in
    omega (arith, is, ltb-true c.args.k.0 64 there, c.told-b)

pub returns : goal.returns
unfolding variable_put
returns c =
    let (is, there) = read _ _ _ (sym c.in-Some.is ∙ c.place_of.ensures) in
    let at = 16 + 56 * c.args.k.0 in
    let b = c.args.b.now in
    rw (is, there)
    (ap₂ (λ (n : ℕ) (y : List ℕ). put at n b y) (part_size at 56)
    (c.set_variable.ensures ∙ rw is (ap (λ (n : ℕ). variable_set c.args.v.0 c.args.d (take n (drop at b))) (part_size at 56))))
