-- What forward steps reach from accepted nets with no past process (`Reached`): the accepted nets, says proofs/Reached.
-- Assumes nothing.
use Rattle.std.specs.Prelude.{ℕ}
use Rattle.order.specs.KeySets.{◌∉◌}
use Rattle.nets.specs.Rules.{Rules}
use Rattle.nets.specs.Net.{Net, events}
use Rattle.nets.specs.Forward.{Forwards}
use Rattle.nets.specs.Accepted.{Accepted}

-- an accepted net with no past process, and forward steps from there
pub record Reached {R : Rules} (n : Net R) : Type 0 where
  pub from : Net R
  pub accepted : Accepted from
  pub no_past : (x : ℕ) → x ∉ events from
  pub steps : Forwards from n
