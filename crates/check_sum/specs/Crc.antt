-- CRC-32: a word is halved for each bit, and where a bit fell out the polynomial is added without carry.
-- In order: a bit (`bit_taken`), a byte (`byte_taken`), bytes from a sum on (`taken`), and the check sum (`crc_of`); one more byte (`taken_more`).
-- Assumes nothing.
use Rattle.std.specs.Prelude.{◌≡◌, refl, ℕ, zero, suc, ◌/◌, ◌%◌, eqb, List, [], ◌∷◌, ◌++◌}
use Rattle.std.specs.Prelude.{bit_xor}
use Rattle.laws.specs.Choice.{pick}

unfoldable pub bit_taken : ℕ → ℕ
bit_taken sum = pick (eqb (sum % 2) 1) (bit_xor (sum / 2) 3988292384) (sum / 2)

-- so many bits
unfoldable pub bits_taken : ℕ → ℕ → ℕ
bits_taken zero sum = sum
bits_taken (suc k) sum = bit_taken (bits_taken k sum)

unfoldable pub byte_taken : ℕ → ℕ → ℕ
byte_taken sum b = bits_taken 8 (bit_xor sum b)

-- the bytes, one after the other
unfoldable pub taken : ℕ → List ℕ → ℕ
taken sum [] = sum
taken sum (b ∷ bs) = taken (byte_taken sum b) bs

unfoldable pub crc_of : List ℕ → ℕ
crc_of bs = bit_xor (taken 4294967295 bs) 4294967295

pub taken_more : (sum : ℕ) (bs : List ℕ) (b : ℕ) → taken sum (bs ++ (b ∷ [])) ≡ byte_taken (taken sum bs) b
unfolding taken
taken_more sum [] b = refl
taken_more sum (c ∷ bs) b = taken_more (byte_taken sum c) bs b
