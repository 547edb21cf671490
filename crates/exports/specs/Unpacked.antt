-- The bits of a packed word give back what was packed, so that no two replies share a word.
-- Assumes nothing.
use Rattle.std.specs.Prelude.{ℕ, ◌<◌, ◌/◌, ◌%◌, ◌≡◌}
use Rattle.std.proofs.Common.{arith}
use Rattle.exports.specs.Packed.{packed}

-- bits 0 to 7
pub answer_of_lem : (a n t : ℕ) → a < 256 → packed a n t % 256 ≡ a
answer_of_lem a n t h = omega (arith, h)

-- bits 8 to 15
pub name_of : (a n t : ℕ) → a < 256 → n < 256 → packed a n t / 256 % 256 ≡ n
name_of a n t h k = omega (arith, h, k)

-- bits 32 to 63
pub touched_of : (a n t : ℕ) → a < 256 → n < 256 → packed a n t / 4294967296 ≡ t
touched_of a n t h k = omega (arith, h, k)
