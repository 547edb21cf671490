-- Demand 3 of an event (`AnyOrder`), which proofs/Rollback proves of accepted nets.
-- Assumes nothing.
use Rattle.std.specs.Prelude.{◌≡◌, List, ℕ, length}
use Rattle.order.specs.KeySets.{◌∈◌, ◌⊆◌, members}
use Rattle.nets.specs.Rules.{Rules}
use Rattle.nets.specs.Net.{Net, events, dependents}
use Rattle.nets.specs.Undo.{rollback, undone, touched, Undoable, Undoes, UndoesAll, touched_by}

module _ {R : Rules} where
  -- "Undo the steps that depend on it, itself included, by single backward steps, choosing any allowed one each time."
  pub record AnyOrder (n : Net R) (e : ℕ) : Type 0 where
    -- "This never sticks": whatever was undone, while a dependent is past, one of them may be undone
    pub never_sticks : (ks : List ℕ) (m : Net R) → Undoes n ks m → (f : ℕ) → f ∈ dependents n e → f ∈ events m
        → (x : ℕ) × (x ∈ dependents n e) × Undoable m x
    -- so it can be done
    pub possible : (ks : List ℕ) × (m : Net R) × UndoesAll n (dependents n e) ks m
    -- "always takes the same count"
    pub same_count : (ks : List ℕ) (m : Net R) → UndoesAll n (dependents n e) ks m → length ks ≡ undone n e
    -- "and ends in the same bytes, which are what one rollback gives and reports"
    pub same_end : (ks : List ℕ) (m : Net R) → UndoesAll n (dependents n e) ks m → m ≡ rollback n e
    pub same_touched : (ks : List ℕ) (m : Net R) → UndoesAll n (dependents n e) ks m → touched_by n ks ≡ touched n (rollback n e)
    -- "No list of backward steps alone that undoes the action can leave out any of them."
    pub none_left_out : (ks : List ℕ) (m : Net R) → Undoes n ks m → e ∈ members ks → dependents n e ⊆ members ks
