-- Undoing: of a set of events at once, of one event, and of a list in turn. Document 01, "Backward steps and dependence".
--
-- In order: what a set of events made and took (`made_by`, `taken_by`, `locality_by`); `undo_set`, in which freeing wins; `undo` of one event;
-- `rollback` and `undone`; when an event may be undone (`Undoable`), and backward steps as a relation of nets (`Backward`); what a change
-- of nets `touched`; single backward steps in a row (`Undoes`), and what they touch together (`touched_by`).
-- Assumes nothing.
use Rattle.std.specs.Prelude.{◌≡◌, ◌⊎◌, Bool, true, false, not, ◌&&◌, ◌||◌, List, [], ◌∷◌, ℕ, eqb}
use Rattle.laws.specs.Choice.{pick}
use Rattle.order.specs.KeySets.{Set, ◌∈◌, ◌∉◌, ◌⊆◌, ◌∩◌, ◌∪◌, empty, only, members, any, count}
use Rattle.nets.specs.Rules.{Rules}
use Rattle.nets.specs.Net.{live, tuple, is_free, is_past, is_consumed, Slot, Net, free_slot, forget, events, held, makes, takes, reads, makes_locality, dependents}

module _ {R : Rules} where
  -- ---- a set of events

  -- some event of S made the key, took the tuple, made the locality
  unfoldable pub made_by : Net R → Set → Set
  made_by n S k = any R.keys (S ∩ (λ e. makes n e k))

  unfoldable pub taken_by : Net R → Set → Set
  taken_by n S k = any R.keys (S ∩ (λ e. takes n e k))

  unfoldable pub locality_by : Net R → Set → Set
  locality_by n S l = any R.keys (S ∩ (λ e. makes_locality n e l))

  -- a record that is live again: an event of S, or a consumed tuple that an event of S took
  unfoldable pub again_by : Net R → Set → Set
  again_by n S k = (is_past (n.slot k).kind && S k) || (is_consumed (n.slot k).kind && taken_by n S k)

  -- what becomes of a slot: one that was made is free, whatever else is said of it; one that is live again forgets what happened to it
  abbrev pub turned : Bool → Bool → Slot R → Slot R
  turned made again s = pick made free_slot (pick again (forget s) s)

  -- "Then what it made becomes free or absent, a consumed tuple is live again, and it is live as before", for all of S at once.
  unfoldable pub undo_set : Net R → Set → Net R
  undo_set n S =
      record {
        present = λ l. n.present l && not (locality_by n S l);
        slot = λ k. turned (made_by n S k) (again_by n S k) (n.slot k);
      }

  -- ---- one event, and an event with its dependents

  abbrev pub undo : Net R → ℕ → Net R
  undo n x = undo_set n (only x)

  -- "Rollback undoes all dependents."
  abbrev pub rollback : Net R → ℕ → Net R
  rollback n e = undo_set n (dependents n e)

  -- "*Undone* is their number"
  abbrev pub undone : Net R → ℕ → ℕ
  undone n e = count R.keys (dependents n e)

  -- "A past process may be undone when all keys it made are live, a tuple it made is in no past read, and, for a past read, its tuple is
  -- live."
  pub record Undoable (n : Net R) (x : ℕ) : Type 0 where
    pub is_past_lem : x ∈ events n
    pub made_live : (k : ℕ) → makes n x k ≡ true → ((n.slot k).kind ≡ live) ⊎ ((n.slot k).kind ≡ tuple)
    pub unread : (k f : ℕ) → makes n x k ≡ true → reads n f k ≡ false
    pub read_live : (k : ℕ) → reads n x k ≡ true → (n.slot k).kind ≡ tuple

  -- some backward step that is allowed leads from n to m
  pub record Backward (n m : Net R) : Type 0 where
    pub event : ℕ
    pub can : Undoable n event
    pub ends : m ≡ undo n event

  -- ---- touched

  abbrev pub became_free : Net R → Net R → Set
  became_free n m k = held n k && is_free (m.slot k).kind

  -- "the localities at which a slot became free in the call": between the net before and the net after, by where the slot was before
  unfoldable pub touched : Net R → Net R → Set
  touched n m l = any R.keys (λ k. became_free n m k && eqb (R.at (n.slot k).body) l)

  -- ---- single backward steps

  -- the steps ks, in this order, are each allowed and lead from n to m
  pub data Undoes : Net R → List ℕ → Net R → Type 0 where
    stay : {n : Net R} → Undoes n [] n
    back : {n m : Net R} {x : ℕ} {ks : List ℕ} → Undoable n x → Undoes (undo n x) ks m → Undoes n (x ∷ ks) m

  -- they undo members of D alone, and all of them
  pub record UndoesAll (n : Net R) (D : Set) (ks : List ℕ) (m : Net R) : Type 0 where
    pub undoes : Undoes n ks m
    pub inside : members ks ⊆ D
    pub none : (f : ℕ) → f ∈ D → f ∉ events m

  -- what each of the steps touches, together
  unfoldable pub touched_by : Net R → List ℕ → Set
  touched_by n [] = empty
  touched_by n (x ∷ ks) = touched n (undo n x) ∪ touched_by (undo n x) ks
