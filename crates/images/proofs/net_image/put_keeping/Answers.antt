use Rattle.std.proofs.Common.{ℕ, ◌+◌, ◌*◌, List, ◌∙◌, sym, ap₂, arith, ltb-true, ap, rules}
use Rattle.laws.specs.Parts.{put, part_size}
use Rattle.names.specs.Reads.{read, not_read}
use Rattle.images.specs.InPlace.{slot_put, slot_lent}
use Rattle.images.specs.declared.Slot.{Slot}
use Rattle.images.proofs.net_image.put_keeping.Goals as goal

pub returns-in_default : goal.returns-in_default
unfolding slot_put
returns-in_default c = rw (not_read _ _ (sym c.in_default.is ∙ c.place_of.ensures))

pub slice_bounds-write_around-end : goal.slice_bounds-write_around-end
slice_bounds-write_around-end c =
    let (is, there) = read _ _ _ (sym c.in-Some.is ∙ c.place_of.ensures) in
    omega (arith, is, ltb-true c.args.k.0 64 there, c.told-d)

pub write_around-requires : goal.write_around-requires
write_around-requires c =
    let (is, there) = read _ _ _ (sym c.in-Some.is ∙ c.place_of.ensures) in
    let slot = slot_lent c.args.d.now c.args.k there in
    record {
      slot_sized = search rules;
      kept = rw is (c.requires.0 ∙ ap (λ (x : Slot). x.contents) slot, c.requires.1 ∙ ap (λ (x : Slot). x.refs) slot);
    }

pub returns : goal.returns
unfolding slot_put
returns c =
    let (is, there) = read _ _ _ (sym c.in-Some.is ∙ c.place_of.ensures) in
    let at = 16 + 56 * c.args.k.0 in
    let d = c.args.d.now in
    rw (is, there) (ap₂ (λ (n : ℕ) (y : List ℕ). put at n d y) (part_size at 56) c.write_around.ensures)
