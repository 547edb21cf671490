-- Sets of localities as a 32-bit word. Document 01, "Net": "bit n is locality n".
-- The laws of members are in `laws` (`Sets`), at any width.
-- Assumes nothing.
use Rattle.std.specs.Prelude.{ℕ, Bool}
use Rattle.laws.specs.Sets.{member, including, excluding}
use Rattle.names.specs.Names.{locality_count}
use Rattle.names.specs.declared.Locality.{Locality}
use Rattle.names.specs.declared.Localities.{Localities}

abbrev pub localities : ℕ → Localities
localities w = record { 0 = w }

abbrev pub holds : Localities → Locality → Bool
holds s l = member s.0 l.0

abbrev pub joined : Localities → Locality → Localities
joined s l = localities (including s.0 l.0)

abbrev pub parted : Localities → Locality → Localities
parted s l = localities (excluding locality_count s.0 l.0)
