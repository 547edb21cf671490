-- What is proved of nets, over any rules and any number of keys: each theorem under the sentence that it answers.
--
-- In order: accepted is reached, and tested; undoing of sets; forward steps; backward steps, both loops, and what may be undone; made
-- localities; references; demand 3, and what a rollback reports.
-- Assumes nothing.
use Rattle.std.specs.Prelude.{◌≡◌, ◌↔◌, Bool, true, ◌&&◌, ℕ, ◌≤◌, ◌<◌, eqb}
use Rattle.std.proofs.Common.{sym}
use Rattle.order.specs.KeySets.{Set, ◌∈◌, ◌∪◌, empty, any, count}
use Rattle.order.specs.Graphs.{Reach, Closed, Last}
use Rattle.order.proofs.Dependents.{dependents_iff}
use Rattle.nets.specs.Rules.{Rules, Lawful, aims}
use Rattle.nets.specs.Net.{Net, free_slot, events, held, makes_locality, is_made, depends, dependents, MadeAfter}
use Rattle.nets.specs.Forward.{Request, forward, Can, Forward}
use Rattle.nets.specs.Undo.{made_by, undo_set, undo, rollback, undone, touched, Undoable, Backward}
use Rattle.nets.specs.Accepted.{Bounded, Accepted}
use Rattle.nets.proofs.Events.{over, undoable_last, last_undoable}
use Rattle.nets.specs.Origins.{concerns, Alone, Reference}
use Rattle.nets.proofs.Origins.{target_concerns}
use Rattle.nets.proofs.Origins as O
use Rattle.nets.proofs.Undone.{closed_whole, undo_union, touched_made}
use Rattle.nets.proofs.Backward as B
use Rattle.nets.proofs.Onward as F
use Rattle.nets.specs.Loops.{again}
use Rattle.nets.proofs.Loops as L
use Rattle.nets.specs.Rollback.{AnyOrder}
use Rattle.nets.proofs.Rollback as K
use Rattle.nets.specs.Reached.{Reached}
use Rattle.nets.proofs.Reached as P
use Rattle.nets.specs.Accepting.{accepted}
use Rattle.nets.proofs.AcceptedTest.{accepted_test}

-- "Proved: the accepted nets are exactly those that forward steps reach from accepted nets with no past process (004, Definition 1)."
pub accepted_iff_reached : {R : Rules} → Lawful R → (n : Net R) → Accepted n ↔ Reached n
accepted_iff_reached lawful n = P.accepted_iff lawful n

-- The test of acceptance says so: true exactly when the net is accepted. It needs a test of equal contents, and a number above all
-- localities that need a maker.
pub accepted_iff_tested : {R : Rules} (same : R.Body → R.Body → Bool) (same-iff : (a b : R.Body) → (same a b ≡ true) ↔ (a ≡ b)) (L : ℕ)
    → ((l : ℕ) → l ∈ R.makeable → l < L) → (n : Net R) → Bounded n → (accepted same L n ≡ true) ↔ Accepted n
accepted_iff_tested same same-iff L few n bound = accepted_test same same-iff L few n bound

-- Undoing a set that holds its dependents, and then another, is undoing both together.
pub undo_both : {R : Rules} (n : Net R) (S T : Set) → Closed (depends n) S → undo_set (undo_set n S) T ≡ undo_set n (S ∪ T)
undo_both n S T c = sym (undo_union n S T (closed_whole n S c))

module _ {R : Rules} (lawful : Lawful R) (n : Net R) (ok : Accepted n) where
  -- ---- forward steps

  -- A forward step keeps acceptance.
  pub forward_accepted : (r : Request) → Can n r → Accepted (forward n r)
  forward_accepted r can = F.forward_accepted lawful n ok r can

  -- Demand 2: "A step and its backward step restore every byte": the backward step is allowed, and gives the net back.
  pub forward_undoable : (r : Request) → Can n r → Undoable (forward n r) r.key
  forward_undoable r can = F.forward_undoable lawful n ok r can

  pub forward_then_back : (r : Request) → Can n r → undo (forward n r) r.key ≡ n
  forward_then_back r can = L.forward_undo lawful n ok r can

  -- "0 for a forward step"
  pub forward_touches : (r : Request) → Can n r → touched n (forward n r) ≡ empty
  forward_touches r can = F.forward_touches lawful n ok r can

  -- ---- backward steps

  -- A backward step keeps acceptance.
  pub undo_accepted : (x : ℕ) → Undoable n x → Accepted (undo n x)
  undo_accepted x u = B.undo_accepted lawful n ok x u

  -- Demand 2: "a backward step and the same request forward do too": the request is allowed, and gives the net back.
  pub undo_again : (x : ℕ) → Undoable n x → Can (undo n x) (again n x)
  undo_again x u = L.again_can lawful n ok x u

  pub back_then_forward : (x : ℕ) → Undoable n x → forward (undo n x) (again n x) ≡ n
  back_then_forward x u = L.undo_forward lawful n ok x u

  -- Both loops, of steps as relations: what goes forward comes back, and what comes back goes forward.
  pub loop_forward : (m : Net R) → Forward n m → Backward m n
  loop_forward m s = L.loop_forward lawful n ok m s

  pub loop_backward : (m : Net R) → Backward n m → Forward m n
  loop_backward m s = L.loop_backward lawful n ok m s

  -- The backward rules say what dependence says: an event may be undone exactly when no event depends on it directly.
  pub undoable_iff : (x : ℕ) → Undoable n x ↔ Last (depends n) (events n) x
  undoable_iff x = (undoable_last n ok x, last_undoable n ok x)

  -- ---- made localities

  -- A locality that needs a maker is present where a record lives at it or names it.
  pub named_present : (l k : ℕ) → l ∈ R.makeable → k ∈ held n → concerns R l (n.slot k).body ≡ true → l ∈ n.present
  named_present l k m h c = O.locality_present lawful n ok l k m h c

  module _ (x l : ℕ) (made : makes_locality n x l ≡ true) where
    -- Every record that lives at or names a made locality was made by a dependent of its newloc.
    pub made_locality_record : (k : ℕ) → k ∈ held n → concerns R l (n.slot k).body ≡ true → MadeAfter n x k
    made_locality_record k h c = O.locality_from lawful n ok x l made k h c

    -- Every event that lives at it, names it or has it as its target is a dependent.
    pub made_locality_event : (f : ℕ) → f ∈ events n → concerns R l (n.slot f).body ≡ true → Reach (depends n) x f
    made_locality_event f p c = O.locality_event lawful n ok x l made f p c

    pub made_locality_target : (f : ℕ) → f ∈ events n → aims (R.act (n.slot f).body) ≡ true → R.target (n.slot f).body ≡ l
        → Reach (depends n) x f
    made_locality_target f p a e =
        O.locality_event lawful n ok x l made f p (target_concerns lawful l (n.slot f).body (O.locality_needs lawful n ok x l made) a e)

    -- "That a made locality is empty when its newloc may be undone is a consequence to prove"; and nothing but the newloc's own
    -- continuation names it.
    pub made_locality_alone : Undoable n x → Alone n x l
    made_locality_alone u = O.left_alone lawful n ok x l made u

  -- ---- references

  -- A reference that is held names an event that is no split, and a dependent of that event made its holder.
  pub reference_held : (k r : ℕ) → k ∈ held n → R.refers (n.slot k).body r ≡ true → Reference n k r
  reference_held k r h q = O.reference_from lawful n ok k r h q

  -- So a roll needs no check of the key that it holds, and frees its own process.
  pub roll_frees : (k r : ℕ) → k ∈ held n → R.refers (n.slot k).body r ≡ true → (rollback n r).slot k ≡ free_slot
  roll_frees k r h q = K.rollback_frees lawful n ok r k (O.reference_from lawful n ok k r h q).after

  -- A roll keeps acceptance: the key that it holds is an event.
  pub roll_accepted : (k r : ℕ) → k ∈ held n → R.refers (n.slot k).body r ≡ true → Accepted (rollback n r)
  roll_accepted k r h q = K.rollback_accepted lawful n ok r (O.reference_from lawful n ok k r h q).past

  -- ---- demand 3

  -- "Dependents of e: all reached in any number of direct steps, e included."
  pub dependents_reached : (e f : ℕ) → (f ∈ dependents n e) ↔ Reach (depends n) e f
  dependents_reached e f = dependents_iff R.keys (depends n) (over n ok) e f

  module _ (e : ℕ) (past : e ∈ events n) where
    -- "Take any accepted net and any finished action in it": whoever chooses the backward steps, they are one rollback. Of splits too.
    pub any_order : AnyOrder n e
    any_order = K.any_order lawful n ok e past

    -- A rollback keeps acceptance.
    pub rollback_accepted : Accepted (rollback n e)
    rollback_accepted = K.rollback_accepted lawful n ok e past

    -- "*Undone* is their number, at most 63": below the number of keys, and at most the number of made keys.
    pub undone_below : undone n e < R.keys
    undone_below = K.undone_below lawful n ok e past

    pub undone_made : undone n e ≤ count R.keys (is_made n)
    undone_made = K.undone_made lawful n ok e past

  -- "*Touched*: the localities at which a slot became free in the call" are those of what the events made.
  pub touched_is : (S : Set) (l : ℕ) → touched n (undo_set n S) l ≡ any R.keys (λ k. made_by n S k && eqb (R.at (n.slot k).body) l)
  touched_is S l = touched_made n ok S l
