-- A key's place in a table is one.
-- Assumes nothing.
use Rattle.std.specs.Prelude.{◌<◌}
use Rattle.std.proofs.Common.{arith, ltb-true}
use Rattle.laws.specs.Choice.{cases}
use Rattle.names.specs.Names.{key_count, is_key}
use Rattle.names.specs.declared.Key.{Key}
use Rattle.images.specs.Net.{index_of}

pub index_below : (k : Key) → index_of k < key_count
index_below k = cases (is_key k) (λ t. rw t (ltb-true k.0 key_count t)) (λ t. rw t (omega arith))
