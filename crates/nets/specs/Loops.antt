-- The request that repeats an event (`again`), of which proofs/Loops has the loops.
-- Assumes nothing.
use Rattle.std.specs.Prelude.{ℕ}
use Rattle.nets.specs.Rules.{Rules}
use Rattle.nets.specs.Net.{Net}
use Rattle.nets.specs.Forward.{Request}

-- the request that repeats an event has what its record holds
abbrev pub again : {R : Rules} → Net R → ℕ → Request
again n x =
    let s = n.slot x in
    record { key = x; used = s.used; first = s.first; second = s.second; place = s.place }
