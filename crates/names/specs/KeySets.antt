-- Sets of keys as a 64-bit word: bit n is key n. The laws of members are in `laws` (`Sets`), at any width.
-- Assumes nothing.
use Rattle.std.specs.Prelude.{ℕ, Bool, eqb}
use Rattle.std.specs.Int.Bits.{bit_or, bit_and}
use Rattle.laws.specs.Sets as S
use Rattle.names.specs.Names.{key_count}
use Rattle.names.specs.declared.Key.{Key}
use Rattle.names.specs.declared.Keys.{Keys}

abbrev pub keys : ℕ → Keys
keys w = record { 0 = w }

abbrev pub is_in : Keys → Key → Bool
is_in s k = S.member s.0 k.0

abbrev pub including : Keys → Key → Keys
including s k = keys (S.including s.0 k.0)

abbrev pub excluding : Keys → Key → Keys
excluding s k = keys (S.excluding key_count s.0 k.0)

-- the keys of either, and of both
abbrev pub either : Keys → Keys → Keys
either s t = keys (bit_or s.0 t.0)

abbrev pub both : Keys → Keys → Keys
both s t = keys (bit_and s.0 t.0)

abbrev pub is_empty : Keys → Bool
is_empty s = eqb s.0 0
