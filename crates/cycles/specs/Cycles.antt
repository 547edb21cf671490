-- A graph over keys as a word for each key, and how the code takes keys away from it.
-- In order: the keys of a word (`members`); the edges among given keys (`edges`); one key taken where it may be (`after_taking`); once over
-- the keys below i, from the last (`after_pass`).
-- Assumes nothing.
use Rattle.std.specs.Prelude.{ℕ, zero, suc, ◌&&◌, List, ltb, get_or}
use Rattle.laws.specs.Choice.{pick}
use Rattle.laws.specs.Sets.{member}
use Rattle.order.specs.KeySets.{Set}
use Rattle.order.specs.Graphs.{Graph}
use Rattle.names.specs.Names.{key_count, key}
use Rattle.names.specs.KeySets.{keys, is_in, excluding, both, is_empty}
use Rattle.names.specs.declared.Key.{Key}
use Rattle.names.specs.declared.Keys.{Keys}

-- the keys of a word
abbrev pub members : Keys → Set
members s k = ltb k key_count && member s.0 k

abbrev pub row_at : List Keys → ℕ → Keys
row_at rows e = get_or rows e (keys 0)

-- an edge from e to f: both are among the keys, and row e holds f
abbrev pub edges : List Keys → Keys → Graph
edges rows s e f = members s e && (members s f && member (row_at rows e).0 f)

-- what is left once the key is taken, which may be where no key that is left depends on it
unfoldable pub after_taking : Keys → Keys → Key → Keys
after_taking row left k = pick (is_in left k) (pick (is_empty (both row left)) (excluding left k) left) left

-- once over the keys below i, from the last to the first
unfoldable pub after_pass : List Keys → ℕ → Keys → Keys
after_pass rows zero left = left
after_pass rows (suc i) left = after_pass rows i (after_taking (row_at rows i) left (key i))
