-- Rollback: the laws of undoing hold of accepted nets, so that any order of single backward steps is one rollback; and how many it undoes.
--
-- In order: a set whose members each have an own member of another (`count_inject`); the laws (`undoing`, in the words of `order`); for demand 3
-- of an event (`AnyOrder`, in specs/) steps in a row, in those words and back (`steps_there`, `steps_back`); acceptance along backward steps
-- (`undoes_accepted`); demand 3, proved (`any_order`); a rollback keeps acceptance (`rollback_accepted`) and frees what dependents made (`rollback_frees`);
-- some key is no event (`not_all_past`), each event makes a key that no other makes, so undone is below the number of keys
-- (`undone_below`) and at most the number of made keys (`undone_made`).
-- Assumes nothing.
use Rattle.std.specs.Prelude.{◌≡◌, true, ℕ, zero, suc, ◌≤◌, ◌<◌}
use Rattle.std.proofs.Math.Path.{refl, ap}
use Rattle.std.proofs.Common.{sym, ◌∙◌, zero-le, arith, eqb-true, ne_eqb}
use mathlib.Core.List.{List, [], ◌∷◌}
use Rattle.laws.specs.Choice.{cases, clash, and_both}
use Rattle.order.specs.KeySets.{Set, ◌∈◌, ◌⊆◌, only, ◌∪◌, ◌∩◌, ◌∖◌, in_minus, any_of, count, count_le, count_subset, count_strict, count_minus}
use Rattle.order.specs.Graphs.{last_from, among_closed}
use Rattle.order.proofs.Dependents.{dependents_iff, dependents_inside}
use Rattle.order.specs.Undoing.{Undoing}
use Rattle.order.specs.Undoing as U
use Rattle.order.proofs.Undoing as V
use Rattle.nets.specs.Rules.{Rules, Lawful}
use Rattle.nets.specs.Net.{Net, free_slot, events, makes, is_made, depends, dependents, MadeAfter}
use Rattle.nets.specs.Undo.{made_by, undo_set, undo, rollback, undone, touched, Undoable, Undoes, stay, back, UndoesAll, touched_by}
use Rattle.nets.specs.Accepted.{Accepted}
use Rattle.nets.specs.Rollback.{AnyOrder}
use Rattle.nets.specs.Records.{live_not_past, made_past, made_first}
use Rattle.nets.proofs.Events.{among, over, undoable_last, last_undoable}
use Rattle.nets.proofs.Undone.{made_freed, Whole, undo_none, undo_union, touched_none, touched_union}
use Rattle.nets.proofs.Backward.{made_no_event, undo_accepted, undo_events, undo_depends}

-- ---- counting

-- a set whose members each have an own member of another is not larger
pub count_inject : (k n : ℕ) (S T : Set) (f : ℕ → ℕ) → ((x : ℕ) → x < k → x ∈ S → (f x < n) × (f x ∈ T))
    → ((x y : ℕ) → x ∈ S → y ∈ S → f x ≡ f y → x ≡ y) → count k S ≤ count n T
unfolding count
count_inject zero n S T f there apart = zero-le
count_inject (suc k) n S T f there apart =
    cases (S k)
    (λ p.
    let (l, m) = there k (omega arith) p in
    let rest =
    count_inject k n S (T ∖ only (f k)) f
    (λ x b q.
    let (lx, mx) = there x (omega arith) q in
    (lx, in_minus T (only (f k)) (f x) mx (ne_eqb (f x) (f k) (λ e. omega (arith, apart x k q p e)))))
    apart in
    rw p (omega (arith, count_minus n T (f k) l m)))
    (λ p. rw p (omega (arith, count_inject k n S T f (λ x b q. there x (omega arith) q) apart)))

-- ---- the laws

module _ {R : Rules} (lawful : Lawful R) (n : Net R) (ok : Accepted n) (x : ℕ) (u : Undoable n x) where
  -- an event that may be undone made no event
  pub only_whole : Whole n (only x)
  only_whole e f m h p =
      clash (makes n x f) (ap (λ (j : ℕ). makes n j f) (sym (eqb-true e x m)) ∙ h) (made_no_event lawful n ok x u f p)

module _ {R : Rules} (lawful : Lawful R) where
  abbrev pub undoing : Undoing R.keys
  undoing =
      record {
        Net = Net R;
        Accepted = Accepted;
        events = events;
        depends = depends;
        Undoable = Undoable;
        undo_set = undo_set;
        touched = λ n S. touched n (undo_set n S);
        among = among;
        no_cycle = λ n ok. ok.no_cycle;
        undoable_iff = λ n x ok. (undoable_last n ok x, last_undoable n ok x);
        undo_accepted = λ n x ok u. undo_accepted lawful n ok x u;
        undo_events = λ n x ok u. undo_events lawful n ok x u;
        undo_depends = λ n x ok u. undo_depends lawful n ok x u;
        undo_none = undo_none;
        undo_more = λ n x S ok u. undo_union n (only x) S (only_whole lawful n ok x u);
        touched_none = λ n. ap (touched n) (undo_none n) ∙ touched_none n;
        touched_more = λ n x S ok u. touched_union n (only x) S (only_whole lawful n ok x u);
      }

-- ---- demand 3

module _ {R : Rules} (lawful : Lawful R) where
  steps_there : {n m : Net R} {ks : List ℕ} → Undoes n ks m → U.Undoes R.keys (undoing lawful) n ks m
  steps_there stay = U.stay
  steps_there (back u r) = U.back u (steps_there r)

  steps_back : {n m : Net R} {ks : List ℕ} → U.Undoes R.keys (undoing lawful) n ks m → Undoes n ks m
  steps_back U.stay = stay
  steps_back (U.back u r) = back u (steps_back r)

  all_there : {n m : Net R} {D : Set} {ks : List ℕ} → UndoesAll n D ks m → U.UndoesAll R.keys (undoing lawful) n D ks m
  all_there w = record { undoes = steps_there w.undoes; inside = w.inside; none = w.none }

  touched_there : (n : Net R) (ks : List ℕ) → touched_by n ks ≡ U.touched_by R.keys (undoing lawful) n ks
  unfolding touched_by U.touched_by
  touched_there n [] = refl
  touched_there n (x ∷ ks) = ap (λ (T : Set). touched n (undo n x) ∪ T) (touched_there (undo n x) ks)

  pub undoes_accepted : {n m : Net R} {ks : List ℕ} → Accepted n → Undoes n ks m → Accepted m
  undoes_accepted ok r = U.undoes_accepted R.keys (undoing lawful) ok (steps_there r)

  pub any_order : (n : Net R) → Accepted n → (e : ℕ) → e ∈ events n → AnyOrder n e
  any_order n ok e p =
      let o = V.any_order R.keys (undoing lawful) n ok e p in
      record {
        never_sticks = λ ks m r. o.never_sticks ks m (steps_there r);
        possible = let (ks, m, w) = o.possible in (ks, m, record { undoes = steps_back w.undoes; inside = w.inside; none = w.none });
        same_count = λ ks m w. o.same_count ks m (all_there w);
        same_end = λ ks m w. o.same_end ks m (all_there w);
        same_touched = λ ks m w. touched_there n ks ∙ o.same_touched ks m (all_there w);
        none_left_out = λ ks m r. o.none_left_out ks m (steps_there r);
      }

  pub rollback_accepted : (n : Net R) → Accepted n → (e : ℕ) → e ∈ events n → Accepted (rollback n e)
  rollback_accepted n ok e p =
      let o = any_order n ok e p in
      let (ks, m, w) = o.possible in
      rw (o.same_end ks m w) at (undoes_accepted ok w.undoes)

  -- what a dependent made is free after the rollback
  pub rollback_frees : (n : Net R) → Accepted n → (e k : ℕ) → MadeAfter n e k → (rollback n e).slot k ≡ free_slot
  unfolding made_by
  rollback_frees n ok e k (g, m, r) =
      made_freed n (dependents n e) k
      (any_of R.keys (dependents n e ∩ (λ g. makes n g k)) g ((among n ok).below g (made_past k (n.slot g) m))
      (and_both (dependents n e g) _ ((dependents_iff R.keys (depends n) (over n ok) e g).1 r) m))

  -- ---- how many are undone

  module _ (n : Net R) (ok : Accepted n) where
    -- the dependents of an event are events
    pub dependents_past : (e : ℕ) → e ∈ events n → dependents n e ⊆ events n
    dependents_past e p = dependents_inside R.keys (depends n) (over n ok) (events n) (among_closed (among n ok)) e p

    -- some key is no event: what a last event made
    pub not_all_past : (e : ℕ) → e ∈ events n → count R.keys (events n) < R.keys
    not_all_past e p =
        let (x, l, r) = last_from R.keys (depends n) (over n ok) ok.no_cycle (events n) e p in
        let first = (ok.agrees x l.member).rule.places.first in
        let out = live_not_past (n.slot (n.slot x).first).kind ((last_undoable n ok x l).made_live (n.slot x).first (made_first (n.slot x) l.member first)) in
        omega (arith, count_strict R.keys (events n) (λ k. true) (λ y b h. refl) (n.slot x).first first out refl, count_le R.keys (λ k. true))

    pub undone_below : (e : ℕ) → e ∈ events n → undone n e < R.keys
    undone_below e p =
        omega (arith, count_subset R.keys (dependents n e) (events n) (λ f l. dependents_past e p f), not_all_past e p)

    -- each event makes a key, its continuation's, that no other makes
    pub undone_made : (e : ℕ) → e ∈ events n → undone n e ≤ count R.keys (is_made n)
    undone_made e p =
        count_inject R.keys R.keys (dependents n e) (is_made n) (λ f. (n.slot f).first)
        (λ f l m. (first_below f m, any_of R.keys (λ g. makes n g (n.slot f).first) f l (first_made_lem f m)))
        (λ f g m m' q. ok.key_once f g (n.slot f).first (first_made_lem f m) (ap (makes n g) q ∙ first_made_lem g m'))
      where
        first_below : (f : ℕ) → f ∈ dependents n e → (n.slot f).first < R.keys
        first_below f m = (ok.agrees f (dependents_past e p f m)).rule.places.first

        first_made_lem : (f : ℕ) → f ∈ dependents n e → makes n f (n.slot f).first ≡ true
        first_made_lem f m = made_first (n.slot f) (dependents_past e p f m) (first_below f m)
