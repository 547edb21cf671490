-- The theory of nets, of every script in range: what it proves of any rules, it proves of these. Each theorem under the demand or the
-- sentence of document 01 that it answers; `nets`, `Demands`, has them all, over any rules.
-- Assumes nothing.
use Rattle.std.specs.Prelude.{ℕ, ◌≤◌, ◌<◌, ◌≡◌, ◌↔◌, true}
use Rattle.order.specs.KeySets.{◌∈◌, empty, count}
use Rattle.order.specs.Graphs.{Reach, Last}
use Rattle.images.specs.Script.{script_in_range}
use Rattle.images.specs.Shape.{ShapedScript}
use Rattle.images.specs.declared.Script.{Script}
use Rattle.nets.specs.Net.{Net, free_slot, events, held, makes_locality, is_made, depends, dependents}
use Rattle.nets.specs.Forward.{Request, forward, Can}
use Rattle.nets.specs.Undo.{undo, rollback, undone, touched, Undoable}
use Rattle.nets.specs.Accepted.{Accepted}
use Rattle.nets.specs.Origins.{Alone, Reference}
use Rattle.nets.specs.Loops.{again}
use Rattle.nets.specs.Rollback.{AnyOrder}
use Rattle.nets.specs.Reached.{Reached}
use Rattle.nets.proofs.Demands as D
use Rattle.rules.specs.Instance.{rules_of, lawful_of}
use Rattle.rules.specs.Roots.{refers}

module _ (s : Script) (w : ShapedScript s) (range : script_in_range s ≡ true) (n : Net (rules_of s)) (ok : Accepted n) where
  -- demand 2: "A step and its backward step restore every byte; a backward step and the same request forward do too."
  pub forward_then_back : (r : Request) → Can n r → undo (forward n r) r.key ≡ n
  forward_then_back = D.forward_then_back (lawful_of s w range) n ok

  pub undo_again : (x : ℕ) → Undoable n x → Can (undo n x) (again n x)
  undo_again = D.undo_again (lawful_of s w range) n ok

  pub back_then_forward : (x : ℕ) → Undoable n x → forward (undo n x) (again n x) ≡ n
  back_then_forward = D.back_then_forward (lawful_of s w range) n ok

  -- steps and rollbacks keep acceptance
  pub forward_accepted : (r : Request) → Can n r → Accepted (forward n r)
  forward_accepted = D.forward_accepted (lawful_of s w range) n ok

  pub undo_accepted : (x : ℕ) → Undoable n x → Accepted (undo n x)
  undo_accepted = D.undo_accepted (lawful_of s w range) n ok

  pub rollback_accepted : (e : ℕ) → e ∈ events n → Accepted (rollback n e)
  rollback_accepted = D.rollback_accepted (lawful_of s w range) n ok

  pub roll_accepted : (k r : ℕ) → k ∈ held n → refers (n.slot k).body r ≡ true → Accepted (rollback n r)
  roll_accepted = D.roll_accepted (lawful_of s w range) n ok

  -- undoable exactly when nothing depends directly
  pub undoable_iff : (x : ℕ) → Undoable n x ↔ Last (depends n) (events n) x
  undoable_iff = D.undoable_iff (lawful_of s w range) n ok

  -- "That a made locality is empty when its newloc may be undone is a consequence to prove"; and its own continuation alone names it
  pub made_locality_alone : (x l : ℕ) → makes_locality n x l ≡ true → Undoable n x → Alone n x l
  made_locality_alone = D.made_locality_alone (lawful_of s w range) n ok

  -- a reference that is held names an event that is no split, and a dependent of it made the holder
  pub reference_held : (k r : ℕ) → k ∈ held n → refers (n.slot k).body r ≡ true → Reference n k r
  reference_held = D.reference_held (lawful_of s w range) n ok

  -- so a roll frees its own process
  pub roll_frees : (k r : ℕ) → k ∈ held n → refers (n.slot k).body r ≡ true → (rollback n r).slot k ≡ free_slot
  roll_frees = D.roll_frees (lawful_of s w range) n ok

  -- demand 3: never sticks, one count, one net, which is the rollback's, and none left out
  pub any_order : (e : ℕ) → e ∈ events n → AnyOrder n e
  any_order = D.any_order (lawful_of s w range) n ok

  -- "Dependents of e: all reached in any number of direct steps, e included."
  pub dependents_reached : (e f : ℕ) → (f ∈ dependents n e) ↔ Reach (depends n) e f
  dependents_reached = D.dependents_reached (lawful_of s w range) n ok

  -- "*Touched*: .. 0 for a forward step"
  pub forward_touches : (r : Request) → Can n r → touched n (forward n r) ≡ empty
  forward_touches = D.forward_touches (lawful_of s w range) n ok

  -- "*Undone* is their number, at most 63", and at most the number of made keys
  pub undone_below : (e : ℕ) → e ∈ events n → undone n e < 64
  undone_below = D.undone_below (lawful_of s w range) n ok

  pub undone_made : (e : ℕ) → e ∈ events n → undone n e ≤ count 64 (is_made n)
  undone_made = D.undone_made (lawful_of s w range) n ok

-- "Proved: the accepted nets are exactly those that forward steps reach from accepted nets with no past process (004, Definition 1)."
pub accepted_iff_reached : (s : Script) (w : ShapedScript s) (range : script_in_range s ≡ true) (n : Net (rules_of s)) → Accepted n ↔ Reached n
accepted_iff_reached s w range n = D.accepted_iff_reached (lawful_of s w range) n
