use Rattle.std.proofs.Common.{ℕ, ◌+◌, ◌∙◌, sym, ap, get_or}
use Rattle.images.specs.After.{slot_byte_lem}
use Rattle.images.proofs.net_image.byte_in.Goals as goal

pub returns-then-is_name : goal.returns-then-is_name
returns-then-is_name c =
    let b = c.args.b.now in
    let h = sym c.is_name.ensures ∙ c.if-is_name.true in
    rw h (ap (λ (i : ℕ). get_or b (i + c.args.place) 0) c.start.ensures ∙ sym (slot_byte_lem b c.args.k h c.args.place c.requires))
