use Rattle.std.proofs.Common.{ℕ, ◌+◌, ◌*◌, List, ◌∙◌, sym, ap₂, arith, ltb-true, take, drop, ap}
use Rattle.laws.specs.Parts.{put, part_size}
use Rattle.names.specs.Reads.{read, not_read}
use Rattle.images.specs.Changed.{reference_put, reference_set}
use Rattle.images.proofs.net_image.put_reference.Goals as goal

pub returns-in_default : goal.returns-in_default
unfolding reference_put
returns-in_default c = rw (not_read _ _ (sym c.in_default.is ∙ c.place_of.ensures))

pub slice_bounds-set_reference-end : goal.slice_bounds-set_reference-end
slice_bounds-set_reference-end c =
    let (is, there) = read _ _ _ (sym c.in-Some.is ∙ c.place_of.ensures) in
    omega (arith, is, ltb-true c.args.k.0 64 there, c.told-b)

pub returns : goal.returns
unfolding reference_put
returns c =
    let (is, there) = read _ _ _ (sym c.in-Some.is ∙ c.place_of.ensures) in
    let at = 16 + 56 * c.args.k.0 in
    let b = c.args.b.now in
    rw (is, there)
    (ap₂ (λ (n : ℕ) (y : List ℕ). put at n b y) (part_size at 56)
    (c.set_reference.ensures ∙ rw is (ap (λ (n : ℕ). reference_set c.args.i.0 c.args.e (take n (drop at b))) (part_size at 56))))
