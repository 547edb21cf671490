-- 004, Lemma 4, of the rules as the tables have them.
-- Assumes nothing.
use Rattle.std.specs.Prelude.{◌≡◌, ◌↔◌, true, ℕ}
use Rattle.images.specs.Script.{script_in_range}
use Rattle.images.specs.Shape.{ShapedScript}
use Rattle.images.specs.declared.Script.{Script}
use Rattle.nets.specs.Net.{Net}
use Rattle.nets.specs.Accepted.{Accepted}
use Rattle.nets.proofs.Demands.{loop_forward, loop_backward}
use Rattle.rules.specs.Instance.{rules_of, lawful_of}
use Rattle.tables.specs.Table.{Step}
use Rattle.tables.specs.Reversals.{Back}
use Rattle.tables.proofs.Forwards.{step_forward, forward_step}
use Rattle.tables.proofs.Backwards.{backward_iff}

module _ (s : Script) (w : ShapedScript s) (range : script_in_range s ≡ true) where
  -- "(Loop lemma): For all well-formed nets N and M, the following holds: N ↦ M if and only if M ⇝ N."
  pub loop : (n m : Net (rules_of s)) → Accepted n → Accepted m → Step s n m ↔ ((k : ℕ) × Back s m k n)
  loop n m good fine = (
    λ p. (backward_iff s w range m fine n).1 (loop_forward (lawful_of s w range) n good m (step_forward s w range n m p)),
    λ q. forward_step s w range n m (loop_backward (lawful_of s w range) m fine n ((backward_iff s w range m fine n).0 q)),
  )
