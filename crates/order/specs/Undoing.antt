-- Undoing events, from its laws alone: whoever chooses, and in whatever order, single backward steps that undo a closed set of events are
-- one undoing of the set.
--
-- In order: `Undoing`, what a net, its events, their dependence and their undoing must satisfy; `Undoes`, backward steps in a row
-- (`undoes_trans`), and `UndoesAll` of a set D; `rollback`; `AnyOrder`, which is the statement; steps take last events away (`undoes_accepted`,
-- `undoes_taken`, `undoes_older`), and wherever that can be done they can (`taken_undoes`); steps in a row are one undoing of a set (`undoes_set`,
-- `undoes_touched`); for a closed D they never stick (`undo_never_sticks`) and exist (`undo_all`), and for any D they have one count, one end
-- and one touched set (`undo_count`, `undo_end`, `undo_touched`).
--
-- Not here: the theorem (proofs/Undoing); what a net is, and that its rules obey these laws; forward steps (`Replay`).
-- Assumes nothing.
use Rattle.std.specs.Prelude.{◌≡◌, refl, ◌↔◌, List, [], ◌∷◌, ◌++◌, ℕ, length}
use Rattle.std.proofs.Math.Path.{sym, ap}
use Rattle.std.proofs.Common.{◌∙◌}
use Rattle.order.specs.KeySets.{Set, ◌∈◌, ◌∉◌, ◌⊆◌, empty, only, ◌∪◌, ◌∖◌, members, count}
use Rattle.order.specs.Graphs.{Graph, Fewer, Acyclic, Over, Among, among_over, Closed, Last}
use Rattle.order.specs.Dependents.{dependents}
use Rattle.order.specs.Taking.{Taken, TakenAll, done, next, taken_fewer, last_fewer, never_sticks, all_taken, same_count, take_all}

pub record Undoing (n : ℕ) : Type 1 where
  pub Net : Type 0
  pub Accepted : Net → Type 0
  -- the past processes, by key
  pub events : Net → Set
  -- the second depends directly on the first
  pub depends : Net → Graph
  pub Undoable : Net → ℕ → Type 0
  -- a set of events undone at once, and the localities at which that frees a slot
  pub undo_set : Net → Set → Net
  pub touched : Net → Set → Set
  pub among : (a : Net) → Accepted a → Among n (depends a) (events a)
  pub no_cycle : (a : Net) → Accepted a → Acyclic (depends a)
  -- an event may be undone exactly when nothing depends on it directly
  pub undoable_iff : (a : Net) (x : ℕ) → Accepted a → Undoable a x ↔ Last (depends a) (events a) x
  -- a backward step leads to an accepted net, whose events are the others, which depend on each other as before
  pub undo_accepted : (a : Net) (x : ℕ) → Accepted a → Undoable a x → Accepted (undo_set a (only x))
  pub undo_events : (a : Net) (x : ℕ) → Accepted a → Undoable a x → events (undo_set a (only x)) ≡ events a ∖ only x
  pub undo_depends : (a : Net) (x : ℕ) → Accepted a → Undoable a x → (e f : ℕ) → e ∈ events (undo_set a (only x)) → f ∈ events (undo_set a (only x)) → depends (undo_set a (only x)) e f ≡ depends a e f
  -- undoing one and then a set is undoing them together
  pub undo_none : (a : Net) → undo_set a empty ≡ a
  pub undo_more : (a : Net) (x : ℕ) (S : Set) → Accepted a → Undoable a x → undo_set a (only x ∪ S) ≡ undo_set (undo_set a (only x)) S
  pub touched_none : (a : Net) → touched a empty ≡ empty
  pub touched_more : (a : Net) (x : ℕ) (S : Set) → Accepted a → Undoable a x → touched a (only x ∪ S) ≡ touched a (only x) ∪ touched (undo_set a (only x)) S

module _ (n : ℕ) (U : Undoing n) where
  open U use {Net, Accepted, events, depends, Undoable, undo_set, touched}

  -- one event undone
  abbrev pub undo : Net → ℕ → Net
  undo a x = undo_set a (only x)

  -- single backward steps of the listed events, in turn, each allowed when its turn comes
  pub data Undoes : Net → List ℕ → Net → Type 0 where
    stay : {a : Net} → Undoes a [] a
    back : {a b : Net} {x : ℕ} {ks : List ℕ} → Undoable a x → Undoes (undo a x) ks b → Undoes a (x ∷ ks) b

  -- events of D alone, and all of them
  pub record UndoesAll (a : Net) (D : Set) (ks : List ℕ) (b : Net) : Type 0 where
    pub undoes : Undoes a ks b
    pub inside : members ks ⊆ D
    pub none : (f : ℕ) → f ∈ D → f ∉ events b

  pub undoes_trans : {a b c : Net} {ks js : List ℕ} → Undoes a ks b → Undoes b js c → Undoes a (ks ++ js) c
  undoes_trans stay q = q
  undoes_trans (back u r) q = back u (undoes_trans r q)

  -- what the steps touch, together, each in the net that it meets
  unfoldable pub touched_by : Net → List ℕ → Set
  touched_by a [] = empty
  touched_by a (x ∷ ks) = touched a (only x) ∪ touched_by (undo a x) ks

  abbrev pub dependents_of : Net → ℕ → Set
  dependents_of a e = dependents n (depends a) e

  -- Document 01: "Rollback undoes all dependents."
  abbrev pub rollback : Net → ℕ → Net
  rollback a e = undo_set a (dependents_of a e)

  -- Demand 3 of an event e: its dependents can be undone one by one; whoever chooses the steps, they never stick; if they undo e they leave
  -- out no dependent; and where they undo the dependents alone and all, they are as many, and end and touch as one rollback does
  pub record AnyOrder (a : Net) (e : ℕ) : Type 0 where
    pub possible : (ks : List ℕ) × (b : Net) × UndoesAll a (dependents_of a e) ks b
    pub never_sticks : (ks : List ℕ) (b : Net) → Undoes a ks b → (f : ℕ) → f ∈ dependents_of a e → f ∈ events b → (x : ℕ) × (x ∈ dependents_of a e) × Undoable b x
    pub none_left_out : (ks : List ℕ) (b : Net) → Undoes a ks b → e ∈ members ks → dependents_of a e ⊆ members ks
    pub same_count : (ks : List ℕ) (b : Net) → UndoesAll a (dependents_of a e) ks b → length ks ≡ count n (dependents_of a e)
    pub same_end : (ks : List ℕ) (b : Net) → UndoesAll a (dependents_of a e) ks b → b ≡ rollback a e
    pub same_touched : (ks : List ℕ) (b : Net) → UndoesAll a (dependents_of a e) ks b → touched_by a ks ≡ touched a (dependents_of a e)

  -- ---- backward steps take last events away

  pub undoes_accepted : {a b : Net} {ks : List ℕ} → Accepted a → Undoes a ks b → Accepted b
  undoes_accepted ok stay = ok
  undoes_accepted {a = a} ok (back {x = x} u r) = undoes_accepted (U.undo_accepted a x ok u) r

  pub undoes_taken : {a b : Net} {ks : List ℕ} → Accepted a → Undoes a ks b → Taken (depends a) (events a) ks (events b)
  undoes_taken ok stay = done
  undoes_taken {a = a} ok (back {x = x} u r) =
      next ((U.undoable_iff a x ok).0 u)
      (rw (U.undo_events a x ok u) at
      (taken_fewer (λ e f p q s. U.undo_depends a x ok u e f p q ∙ s) (undoes_taken (U.undo_accepted a x ok u) r)))

  -- dependence in what is left was there before
  older : (a : Net) (x : ℕ) → Accepted a → Undoable a x → Fewer (depends (undo a x)) (depends a)
  older a x ok u e f s =
      let among = U.among (undo a x) (U.undo_accepted a x ok u) in
      sym (U.undo_depends a x ok u e f (among.source e f s) (among.target e f s)) ∙ s

  pub undoes_older : {a b : Net} {ks : List ℕ} → Accepted a → Undoes a ks b → Fewer (depends b) (depends a)
  undoes_older ok stay e f s = s
  undoes_older {a = a} ok (back {x = x} u r) e f s = older a x ok u e f (undoes_older (U.undo_accepted a x ok u) r e f s)

  -- whatever can be taken in a graph that has all dependence of a can be undone in a
  pub taken_undoes : {d : Graph} {S R : Set} {ks : List ℕ} → Taken d S ks R → (a : Net) → Accepted a → S ≡ events a → Fewer (depends a) d → (b : Net) × Undoes a ks b × (R ≡ events b)
  taken_undoes done a ok same h = (a, stay, same)
  taken_undoes {S = S} (next {x = x} l t) a ok same h =
      let u : Undoable a x = (U.undoable_iff a x ok).1 (rw same at (last_fewer (λ e f p q. h e f) l)) in
      let left : S ∖ only x ≡ events (undo a x) = ap (λ (T : Set). T ∖ only x) same ∙ sym (U.undo_events a x ok u) in
      first u (taken_undoes t (undo a x) (U.undo_accepted a x ok u) left (λ e f s. h e f (older a x ok u e f s)))
    where
      first : {a : Net} {x : ℕ} {R : Set} {ks : List ℕ} → Undoable a x → (b : Net) × Undoes (undo a x) ks b × (R ≡ events b) → (b : Net) × Undoes a (x ∷ ks) b × (R ≡ events b)
      first u (b, r, end) = (b, back u r, end)

  -- ---- steps in a row are one undoing of a set

  pub undoes_set : {a b : Net} {ks : List ℕ} → Accepted a → Undoes a ks b → b ≡ undo_set a (members ks)
  undoes_set {a = a} ok stay = sym (U.undo_none a)
  undoes_set {a = a} ok (back {x = x} {ks = ks} u r) =
      undoes_set (U.undo_accepted a x ok u) r ∙ sym (U.undo_more a x (members ks) ok u)

  pub undoes_touched : {a b : Net} {ks : List ℕ} → Accepted a → Undoes a ks b → touched_by a ks ≡ touched a (members ks)
  unfolding touched_by
  undoes_touched {a = a} ok stay = sym (U.touched_none a)
  undoes_touched {a = a} ok (back {x = x} {ks = ks} u r) =
      ap (λ (T : Set). touched a (only x) ∪ T) (undoes_touched (U.undo_accepted a x ok u) r) ∙ sym (U.touched_more a x (members ks) ok u)

  -- ---- a set of events, undone in any order

  -- what depends on one another in an accepted net are its keys
  pub over : (a : Net) → Accepted a → Over n (depends a)
  over a ok = among_over (U.among a ok)

  module _ (a : Net) (ok : Accepted a) (D : Set) (closed : Closed (depends a) D) where
    -- as long as an event of D is left, one of D may be undone
    pub undo_never_sticks : {b : Net} {ks : List ℕ} → Undoes a ks b → (f : ℕ) → f ∈ D → f ∈ events b → (x : ℕ) × (x ∈ D) × Undoable b x
    undo_never_sticks {b = b} r f m left =
        let okb = undoes_accepted ok r in
        let still : Closed (depends b) D = λ e g s. closed e g (undoes_older ok r e g s) in
        let (x, p, l) = never_sticks n (depends b) (over b okb) (U.no_cycle b okb) D (events b) still f m left in
        (x, p, (U.undoable_iff b x okb).1 l)

    pub undo_all : (ks : List ℕ) × (b : Net) × UndoesAll a D ks b
    undo_all =
        let (ks, R, t) = take_all n (depends a) (over a ok) (U.no_cycle a ok) D closed (events a) (U.among a ok).below in
        let (b, r, end) = taken_undoes t.taken a ok refl (λ e f s. s) in
        (ks, b, record { undoes = r; inside = t.inside; none = λ f m. rw end at (t.none f m) })

  module _ {a b : Net} {D : Set} {ks : List ℕ} (ok : Accepted a) (there : D ⊆ events a) (w : UndoesAll a D ks b) where
    as_taken : TakenAll (depends a) (events a) D ks (events b)
    as_taken = record { taken = undoes_taken ok w.undoes; inside = w.inside; none = w.none }

    pub undo_count : length ks ≡ count n D
    undo_count = same_count n (U.among a ok).below there as_taken

    pub undo_end : b ≡ undo_set a D
    undo_end = undoes_set ok w.undoes ∙ ap (undo_set a) (all_taken there as_taken)

    pub undo_touched : touched_by a ks ≡ touched a D
    undo_touched = undoes_touched ok w.undoes ∙ ap (touched a) (all_taken there as_taken)
