-- Undoing events in any order: nobody is undone without its dependents (`undo_none_left_out`); `any_order`, the theorem.
-- Assumes nothing.
use Rattle.std.specs.Prelude.{List, ℕ}
use Rattle.order.specs.KeySets.{◌∈◌, ◌⊆◌, members}
use Rattle.order.specs.Graphs.{among_closed, among_founded, Closed, closed_reach}
use Rattle.order.specs.Taking.{taken_in, none_left_out}
use Rattle.order.specs.Undoing.{Undoing, Undoes, AnyOrder, dependents_of, over, undoes_taken, undo_never_sticks, undo_all, undo_count, undo_end, undo_touched}
use Rattle.order.proofs.Dependents.{dependents_iff, dependents_closed, dependents_inside}

module _ (n : ℕ) (U : Undoing n) where
  open U use {Net, Accepted, events, depends, Undoable, undo_set, touched}

  pub undo_none_left_out : {a b : Net} {ks : List ℕ} → Accepted a → Undoes n U a ks b → (e : ℕ) → e ∈ members ks → dependents_of n U a e ⊆ members ks
  undo_none_left_out {a = a} ok r e m f h =
      let t = undoes_taken n U ok r in
      let reach = (dependents_iff n (depends a) (over n U a ok) e f).0 h in
      let past : f ∈ events a = closed_reach (events a) (among_closed (U.among a ok)) reach (taken_in t e m) in
      none_left_out (among_founded (U.among a ok)) t reach past m

  pub any_order : (a : Net) → Accepted a → (e : ℕ) → e ∈ events a → AnyOrder n U a e
  any_order a ok e past =
      let D = dependents_of n U a e in
      let closed : Closed (depends a) D = dependents_closed n (depends a) (over n U a ok) e in
      let there : D ⊆ events a = dependents_inside n (depends a) (over n U a ok) (events a) (among_closed (U.among a ok)) e past in
      record {
        possible = undo_all n U a ok D closed;
        never_sticks = λ ks b r. undo_never_sticks n U a ok D closed r;
        none_left_out = λ ks b r. undo_none_left_out ok r e;
        same_count = λ ks b w. undo_count n U ok there w;
        same_end = λ ks b w. undo_end n U ok there w;
        same_touched = λ ks b w. undo_touched n U ok there w;
      }
