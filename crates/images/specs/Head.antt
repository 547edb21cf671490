-- What a script image and a net image share: a head of 16 bytes and then parts of one size; and pairs of a tag and a number inside a part.
-- Document 01, "Names and images": "Numbers are little-endian; a byte not described is 0."
-- Assumes nothing.
use Rattle.std.specs.Prelude.{ℕ, ◌+◌, ◌-◌, ◌*◌, List, [], ◌∷◌, ◌++◌, Bool, ◌&&◌, eqb, get_or, take, drop}
use Rattle.laws.specs.Lists.{tab}
use Rattle.laws.specs.Parts.{flat}
use Rattle.laws.specs.Words.{word, word_at, number}

-- byte i of a list of bytes
abbrev pub byte : List ℕ → ℕ → ℕ
byte b i = get_or b i 0

-- "Bytes 0..2 'RTS', 4..5 version 1" and "'RTN', version 1 at 4..5, set of present localities at 8..11": the mark's third letter, and
-- the word at 8, which a script leaves 0
unfoldable pub head_bytes : ℕ → ℕ → List ℕ
head_bytes letter w = 82 ∷ 84 ∷ letter ∷ 0 ∷ 1 ∷ 0 ∷ 0 ∷ 0 ∷ (word w ++ (0 ∷ 0 ∷ 0 ∷ 0 ∷ []))

-- part i of an image whose parts have this size
abbrev pub part_at : ℕ → List ℕ → ℕ → List ℕ
part_at size b i = take size (drop (16 + size * i) b)

-- k tags, and then their k numbers of 32 bits
unfoldable pub pair_bytes : ℕ → (ℕ → ℕ) → (ℕ → ℕ) → List ℕ
pair_bytes k tag num = tab k tag ++ flat (tab k (λ j. word (num j)))

-- ---- what reading asks of a head: its mark, its version and its last word
unfoldable pub head_formed : ℕ → List ℕ → Bool
head_formed letter b = eqb (word_at b 0) (number (82 ∷ 84 ∷ letter ∷ 0 ∷ [])) && (eqb (word_at b 4) 1 && eqb (word_at b 12) 0)

-- what reading asks of a part of this size: byte 7 and the last four are 0, as every kind of part leaves them
unfoldable pub rest_zero : ℕ → List ℕ → Bool
rest_zero size p = eqb (byte p 7) 0 && eqb (word_at p (size - 4)) 0
