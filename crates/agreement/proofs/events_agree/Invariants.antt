use Rattle.std.proofs.Common.{◌≡◌, true, ℕ, ◌<◌}
use Rattle.images.specs.Read.{net_of, script_of}
use Rattle.agreement.specs.Agreement.{slot_agrees}
use Rattle.agreement.proofs.events_agree.Given as goal

abbrev pub invariant-loop-k : goal.invariant-loop-k
invariant-loop-k l = (i : ℕ) → i < l.k → slot_agrees (script_of l.script) (net_of l.net) i ≡ true
