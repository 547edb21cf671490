use Prim.Native.Nat.{ℕ, ◌<◌}
use Rattle.std.specs.Prelude.{◌≡◌, false, Bool}
use Rattle.names.specs.Names.{key_count}
use Rattle.names.specs.declared.Key.{Key}
use Rattle.step.proofs.backward.least_key.Given as goal

-- a test of numbers that says what this one answers held for no key so far
abbrev pub invariant-loop-i : goal.invariant-loop-i
invariant-loop-i g l =
    (p : ℕ → Bool) → ((k : Key) (b : Bool) → k.0 < key_count → goal.F-post g l.passes k b → b ≡ p k.0) → (j : ℕ) → j < l.i → p j ≡ false
