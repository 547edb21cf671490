-- What a contract says of a call on the lent bytes of good images (`Serves`).
-- Assumes nothing.
use Rattle.std.specs.Prelude.{ℕ, ◌≡◌, List}
use Rattle.requests.specs.declared.Told.{Told}
use Rattle.step.specs.Lent.{Outcome, told, lent_after}

-- what is told of an outcome, and the bytes that it leaves
abbrev pub Serves : Told → List ℕ → Outcome → List ℕ → Type 0
Serves t last o net = (t ≡ told o) × (last ≡ lent_after o net)
