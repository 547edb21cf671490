use Rattle.std.proofs.Common.{ℕ, ◌≡◌, ◌∙◌, ◌∷◌, [], ◌/◌, ◌%◌, ap₂, arith}
use Rattle.laws.specs.Words.{bytes_of}
use Rattle.laws.proofs.write_word.Goals as goal

pub returns : goal.returns
unfolding bytes_of
returns c =
    let x = c.args.x in
    let third : x / 65536 ≡ x / 256 / 256 = omega arith in
    let fourth : x / 16777216 ≡ x / 256 / 256 / 256 = omega arith in
    c.copy_from_slice.ensures.after ∙ c.to_le_bytes.ensures ∙
    ap₂ (λ (y z : ℕ). x % 256 ∷ x / 256 % 256 ∷ y % 256 ∷ z % 256 ∷ []) third fourth
