-- Undoing sets of events: what becomes of each slot, sets one after the other, and what is touched. Of any net, accepted or not, where not
-- said otherwise.
--
-- In order: what undoing a set says (`made_freed`, `made_absent`, `tuple_again`, `event_again`); what becomes of a slot (`Turn`, `turn`);
-- events that are left keep their records (`kept`, `left_alone`), and records but for what happened to them stay (`forget_kept`); undoing
-- no event (`undo_none`); one set and then another are both together (`undo_union`) if the first is `Whole`, as a closed set is
-- (`closed_whole`); touched by no change (`touched_none`), by two changes (`touched_union`), and touched said by what the set made
-- (`touched_made`).
-- Assumes nothing.
use Rattle.std.specs.Prelude.{◌≡◌, Bool, ◌&&◌, ◌||◌, ℕ, ◌<◌}
use Rattle.std.proofs.Math.Path.{refl, ap, ap₂, fun_ext}
use Rattle.std.proofs.Common.{sym, ◌∙◌}
use Rattle.std.proofs.Math.Bool.{true, false, not, and-true, and-false, or-false}
use Rattle.std.proofs.Math.Dec.{eqb}
use Rattle.std.proofs.lemmas.Bool.{not-true}
use Rattle.laws.specs.Choice.{pick, cases, clash, and_left, and_right, and_both, or_left, or_right, or_cases, fails, agree}
use Rattle.order.specs.KeySets.{Set, ◌∈◌, ◌∉◌, ◌∪◌, ◌∩◌, empty, any, any_of, any_some, any_not, any_ext, any_union, any_empty}
use Rattle.order.specs.Graphs.{Closed}
use Rattle.nets.specs.Rules.{Rules}
use Rattle.nets.specs.Net.{made_key_lem, live, tuple, consumed, is_free, is_past, is_consumed, Slot, Net, free_slot, fresh, forget, events, held, made_key, took_tuple, made_locality, makes, makes_locality, depends}
use Rattle.nets.specs.Undo.{made_by, taken_by, locality_by, again_by, turned, undo_set, became_free, touched}
use Rattle.nets.specs.Accepted.{Accepted}
use Rattle.nets.specs.Records.{kind_eq, body_eq, past_kind, forget_again, forget_body, forget_free, forget_not_past, forget_past, forget_consumed, OfEvents, made_past, took_past, locality_past}
use Rattle.nets.proofs.Events.{cause_depends, made_held}

-- ---- tests

again_or : (p c s t u v : Bool) → ((p && (s || t)) || (c && (u || v))) ≡ (((p && s) || (c && u)) || ((p && t) || (c && v)))
again_or true c true t u v = refl
again_or true true false true true v = refl
again_or true true false true false v = refl
again_or true true false false true v = refl
again_or true true false false false v = refl
again_or true false false true u v = refl
again_or true false false false u v = refl
again_or false true s t true v = refl
again_or false true s t false v = refl
again_or false false s t u v = refl

absent_or : (a b c : Bool) → (a && not (b || c)) ≡ (a && not b && not c)
absent_or false b c = refl
absent_or true true c = refl
absent_or true false c = refl

module _ {R : Rules} where
  module _ (n : Net R) (S : Set) where
    abbrev m : Net R
    m = undo_set n S

    slot_is : (k : ℕ) → m.slot k ≡ turned (made_by n S k) (again_by n S k) (n.slot k)
    unfolding undo_set
    slot_is k = refl

    -- ---- what undoing a set says

    -- "what it made becomes free or absent"
    pub made_freed : (k : ℕ) → made_by n S k ≡ true → m.slot k ≡ free_slot
    made_freed k b = slot_is k ∙ ap (λ (a : Bool). turned a (again_by n S k) (n.slot k)) b

    pub made_absent : (l : ℕ) → locality_by n S l ≡ true → l ∉ m.present
    unfolding undo_set
    made_absent l b = ap (λ (a : Bool). n.present l && not a) b ∙ and-false (n.present l)

    tuple_is_again : (k : ℕ) → (n.slot k).kind ≡ consumed → taken_by n S k ≡ true → again_by n S k ≡ true
    unfolding again_by
    tuple_is_again k c t = rw (c, t)

    event_is_again : (e : ℕ) → e ∈ events n → e ∈ S → again_by n S e ≡ true
    unfolding again_by
    event_is_again e p h = rw (past_kind (n.slot e).kind p, h)

    again_forgets : (k : ℕ) → made_by n S k ≡ false → again_by n S k ≡ true → m.slot k ≡ forget (n.slot k)
    again_forgets k b a = slot_is k ∙ ap₂ (λ (a b : Bool). turned a b (n.slot k)) b a

    -- "a consumed tuple is live again", unless it becomes free
    pub tuple_again : (k : ℕ) → (n.slot k).kind ≡ consumed → taken_by n S k ≡ true → made_by n S k ≡ false
        → m.slot k ≡ fresh tuple (n.slot k).body
    tuple_again k c t b = again_forgets k b (tuple_is_again k c t) ∙ forget_consumed (n.slot k) c

    -- "and it is live as before", with the contents that it kept, unless it becomes free
    pub event_again : (e : ℕ) → e ∈ events n → e ∈ S → made_by n S e ≡ false → m.slot e ≡ fresh live (n.slot e).body
    event_again e p h b = again_forgets e b (event_is_again e p h) ∙ forget_past (n.slot e) (past_kind (n.slot e).kind p)

    -- ---- what becomes of a slot

    pub data Turn (k : ℕ) : Type 0 where
      freed : made_by n S k ≡ true → m.slot k ≡ free_slot → Turn k
      again : made_by n S k ≡ false → again_by n S k ≡ true → m.slot k ≡ forget (n.slot k) → Turn k
      same : made_by n S k ≡ false → again_by n S k ≡ false → m.slot k ≡ n.slot k → Turn k

    pub turn : (k : ℕ) → Turn k
    turn k =
        cases (made_by n S k) (λ p. freed p (made_freed k p))
        (λ p. cases (again_by n S k) (λ q. again p q (again_forgets k p q)) (λ q. same p q (rw (slot_is k, p, q))))

    -- an event of the net after is one of the net before, with the same record
    pub kept : (e : ℕ) → e ∈ events m → m.slot e ≡ n.slot e
    kept e p = each (turn e)
      where
        each : Turn e → m.slot e ≡ n.slot e
        each (freed b q) = clash (events m e) p (ap is_past (kind_eq q))
        each (again b a q) = clash (events m e) p (ap is_past (kind_eq q) ∙ forget_not_past (n.slot e))
        each (same b a q) = q

    pub kept_event : (e : ℕ) → e ∈ events m → e ∈ events n
    kept_event e p = sym (ap is_past (kind_eq (kept e p))) ∙ p

    event_not_again : (e : ℕ) → e ∈ events n → e ∉ S → again_by n S e ≡ false
    unfolding again_by
    event_not_again e p out = rw (past_kind (n.slot e).kind p, out)

    -- an event that is not of S and that S did not make stays as it is
    pub left_alone : (e : ℕ) → e ∈ events n → e ∉ S → made_by n S e ≡ false → m.slot e ≡ n.slot e
    left_alone e p out b = each (turn e)
      where
        each : Turn e → m.slot e ≡ n.slot e
        each (freed b' q) = clash (made_by n S e) b' b
        each (again b' a q) = clash (again_by n S e) a (event_not_again e p out)
        each (same b' a q) = q

    -- what S did not make is there still, but for what happened to it
    pub forget_kept : (k : ℕ) → made_by n S k ≡ false → forget (m.slot k) ≡ forget (n.slot k)
    forget_kept k b = each (turn k)
      where
        each : Turn k → forget (m.slot k) ≡ forget (n.slot k)
        each (freed b' q) = clash (made_by n S k) b' b
        each (again b' a q) = ap forget q ∙ forget_again (n.slot k)
        each (same b' a q) = ap forget q

    pub body_kept : (k : ℕ) → made_by n S k ≡ false → (m.slot k).body ≡ (n.slot k).body
    body_kept k b =
        sym (forget_body (m.slot k)) ∙ body_eq (forget_kept k b) ∙ forget_body (n.slot k)

    -- it becomes free exactly by being made by S
    pub free_kept : (k : ℕ) → made_by n S k ≡ false → is_free (m.slot k).kind ≡ is_free (n.slot k).kind
    free_kept k b =
        sym (forget_free (m.slot k)) ∙ ap is_free (kind_eq (forget_kept k b)) ∙ forget_free (n.slot k)

  -- ---- no event

  pub undo_none : (n : Net R) → undo_set n empty ≡ n
  unfolding undo_set locality_by made_by taken_by again_by
  undo_none n = λ i. record { present = λ l. present l i; slot = λ k. slot k i }
    where
      present : (l : ℕ) → (undo_set n empty).present l ≡ n.present l
      present l = rw (any_empty R.keys (λ e. makes_locality n e l)) (and-true (n.present l))

      none : (p c : Bool) (s : Slot R) → pick ((p && false) || (c && false)) (forget s) s ≡ s
      none true true s = refl
      none true false s = refl
      none false true s = refl
      none false false s = refl

      slot : (k : ℕ) → (undo_set n empty).slot k ≡ n.slot k
      slot k =
          rw (any_empty R.keys (λ e. makes n e k))
          (none (is_past (n.slot k).kind) (is_consumed (n.slot k).kind) (n.slot k))

  -- ---- one set and then another

  -- an event that S made is of S
  abbrev pub Whole : Net R → Set → Type 0
  Whole n S = (e f : ℕ) → e ∈ S → makes n e f ≡ true → f ∈ events n → f ∈ S

  pub closed_whole : (n : Net R) (S : Set) → Closed (depends n) S → Whole n S
  closed_whole n S c e f m h p = c e f (cause_depends n e f p (made_key_lem h)) m

  -- undone for one reason and then for another; the second time the slot may be seen as it was before, where it is still so
  turned_twice : (m₁ m₂ a₁ a₂ a : Bool) (s : Slot R) → (m₁ ≡ false → a₁ ≡ false → a₂ ≡ a)
      → turned (m₁ || m₂) (a₁ || a) s ≡ turned m₂ a₂ (turned m₁ a₁ s)
  turned_twice true true a₁ a₂ a s h = refl
  turned_twice true false a₁ true a s h = refl
  turned_twice true false a₁ false a s h = refl
  turned_twice false true a₁ a₂ a s h = refl
  turned_twice false false true true a s h = sym (forget_again s)
  turned_twice false false true false a s h = refl
  turned_twice false false false a₂ a s h = rw (h refl refl)

  module _ (n : Net R) (S T : Set) (whole : Whole n S) where
    -- an event of T that is not of S was not made by S
    unmade : (e : ℕ) → e ∈ events n → e ∉ S → made_by n S e ≡ false
    unfolding made_by
    unmade e p out =
        fails (made_by n S e)
        (λ b.
        let (g, l, h) = any_some R.keys (S ∩ (λ g. makes n g e)) b in
        clash (S e) (whole g e (and_left (S g) _ h) (and_right (S g) _ h) p) out)

    -- what records of events of S or T say is what those of S say, or those of T after S is undone
    said_by_both : (Q : Slot R → Bool) → OfEvents Q
        → any R.keys ((S ∪ T) ∩ (λ e. Q (n.slot e))) ≡ (any R.keys (S ∩ (λ e. Q (n.slot e))) || any R.keys (T ∩ (λ e. Q ((undo_set n S).slot e))))
    said_by_both Q of = agree (any N both) (any N first || any N second) there back
      where
        N : ℕ
        N = R.keys

        both : Set
        both = (S ∪ T) ∩ (λ e. Q (n.slot e))

        first : Set
        first = S ∩ (λ e. Q (n.slot e))

        second : Set
        second = T ∩ (λ e. Q ((undo_set n S).slot e))

        by_second : (e : ℕ) → e < N → e ∉ S → e ∈ T → Q (n.slot e) ≡ true → any N second ≡ true
        by_second e l out t q =
            any_of N second e l
            (and_both (T e) _ t (ap Q (left_alone n S e (of (n.slot e) q) out (unmade e (of (n.slot e) q) out)) ∙ q))

        there : any N both ≡ true → (any N first || any N second) ≡ true
        there h =
            let (e, l, b) = any_some N both h in
            let q : Q (n.slot e) ≡ true = and_right (S e || T e) _ b in
            cases (S e) (λ s. or_left (any N first) _ (any_of N first e l (and_both (S e) _ s q)))
            (λ s. or_cases (S e) (T e) (and_left (S e || T e) _ b) (λ z. clash (S e) z s) (λ t. or_right (any N first) _ (by_second e l s t q)))

        back : (any N first || any N second) ≡ true → any N both ≡ true
        back h =
            or_cases (any N first) (any N second) h
            (λ p.
            let (e, l, b) = any_some N first p in
            any_of N both e l (and_both (S e || T e) _ (or_left (S e) _ (and_left (S e) _ b)) (and_right (S e) _ b)))
            (λ p.
            let (e, l, b) = any_some N second p in
            let q : Q ((undo_set n S).slot e) ≡ true = and_right (T e) _ b in
            any_of N both e l
            (and_both (S e || T e) _ (or_right (S e) _ (and_left (T e) _ b)) (sym (ap Q (kept n S e (of ((undo_set n S).slot e) q))) ∙ q)))

    made_by_both : (k : ℕ) → made_by n (S ∪ T) k ≡ (made_by n S k || made_by (undo_set n S) T k)
    unfolding made_by
    made_by_both k = said_by_both (made_key k) (made_past k)

    locality_by_both : (l : ℕ) → locality_by n (S ∪ T) l ≡ (locality_by n S l || locality_by (undo_set n S) T l)
    unfolding locality_by
    locality_by_both l = said_by_both (made_locality l) (locality_past l)

    taken_by_both : (k : ℕ) → taken_by n (S ∪ T) k ≡ (taken_by n S k || taken_by (undo_set n S) T k)
    unfolding taken_by
    taken_by_both k = said_by_both (took_tuple k) (took_past k)

    -- live again for T, by how the slot was before S was undone
    abbrev later : ℕ → Slot R → Bool
    later k s = (is_past s.kind && T k) || (is_consumed s.kind && taken_by (undo_set n S) T k)

    again_by_both : (k : ℕ) → again_by n (S ∪ T) k ≡ (again_by n S k || later k (n.slot k))
    unfolding again_by
    again_by_both k =
        rw (taken_by_both k)
        (again_or (is_past (n.slot k).kind) (is_consumed (n.slot k).kind) (S k) (T k) (taken_by n S k) (taken_by (undo_set n S) T k))

    again_later : (k : ℕ) → made_by n S k ≡ false → again_by n S k ≡ false → again_by (undo_set n S) T k ≡ later k (n.slot k)
    unfolding again_by
    again_later k p q = ap (later k) (slot_is n S k ∙ ap₂ (λ a b. turned a b (n.slot k)) p q)

    slot_union : (k : ℕ) → (undo_set n (S ∪ T)).slot k ≡ (undo_set (undo_set n S) T).slot k
    slot_union k =
        slot_is n (S ∪ T) k ∙ ap₂ (λ a b. turned a b (n.slot k)) (made_by_both k) (again_by_both k) ∙
        turned_twice (made_by n S k) (made_by (undo_set n S) T k) (again_by n S k) (again_by (undo_set n S) T k) (later k (n.slot k)) (n.slot k) (again_later k) ∙
        ap (turned (made_by (undo_set n S) T k) (again_by (undo_set n S) T k)) (sym (slot_is n S k)) ∙
        sym (slot_is (undo_set n S) T k)

    present_union : (l : ℕ) → (undo_set n (S ∪ T)).present l ≡ (undo_set (undo_set n S) T).present l
    unfolding undo_set
    present_union l =
        ap (λ (b : Bool). n.present l && not b) (locality_by_both l) ∙
        absent_or (n.present l) (locality_by n S l) (locality_by (undo_set n S) T l)

    pub undo_union : undo_set n (S ∪ T) ≡ undo_set (undo_set n S) T
    undo_union = λ i. record { present = λ l. present_union l i; slot = λ k. slot_union k i }

  -- ---- touched

  pub touched_none : (n : Net R) → touched n n ≡ empty
  unfolding touched
  touched_none n =
      fun_ext
      (λ l.
      any_not R.keys (λ k. became_free n n k && eqb (R.at (n.slot k).body) l)
      (λ k b. never (is_free (n.slot k).kind) (eqb (R.at (n.slot k).body) l)))
    where
      never : (f a : Bool) → (not f && f && a) ≡ false
      never true a = refl
      never false a = refl

  -- over a net between: what is free there stays free, and what is held there was held before with the same contents
  pub touched_over : (n m o : Net R) → ((k : ℕ) → is_free (m.slot k).kind ≡ true → is_free (o.slot k).kind ≡ true)
      → ((k : ℕ) → is_free (m.slot k).kind ≡ false → (is_free (n.slot k).kind ≡ false) × ((m.slot k).body ≡ (n.slot k).body))
      → touched n o ≡ touched n m ∪ touched m o
  unfolding touched
  touched_over n m o stays was =
      fun_ext
      (λ l.
      any_ext R.keys (λ k. became_free n o k && eqb (R.at (n.slot k).body) l)
      ((λ k. became_free n m k && eqb (R.at (n.slot k).body) l) ∪ (λ k. became_free m o k && eqb (R.at (m.slot k).body) l))
      (λ k b.
      cases (is_free (m.slot k).kind)
      (λ f. rw (f, stays k f) (sym (or-false _)))
      (λ f. let (g, e) = was k f in rw (f, g, e))) ∙
      any_union R.keys (λ k. became_free n m k && eqb (R.at (n.slot k).body) l) (λ k. became_free m o k && eqb (R.at (m.slot k).body) l))

  module _ (n : Net R) (S : Set) where
    stays_free : (k : ℕ) → is_free (n.slot k).kind ≡ true → is_free ((undo_set n S).slot k).kind ≡ true
    stays_free k f =
        cases (made_by n S k) (λ b. ap is_free (kind_eq (made_freed n S k b))) (λ b. free_kept n S k b ∙ f)

    was_held : (k : ℕ) → is_free ((undo_set n S).slot k).kind ≡ false
        → (is_free (n.slot k).kind ≡ false) × (((undo_set n S).slot k).body ≡ (n.slot k).body)
    was_held k f =
        cases (made_by n S k)
        (λ b. clash (is_free ((undo_set n S).slot k).kind) (ap is_free (kind_eq (made_freed n S k b))) f)
        (λ b. (sym (free_kept n S k b) ∙ f, body_kept n S k b))

  pub touched_union : (n : Net R) (S T : Set) → Whole n S
      → touched n (undo_set n (S ∪ T)) ≡ touched n (undo_set n S) ∪ touched (undo_set n S) (undo_set (undo_set n S) T)
  touched_union n S T whole =
      ap (touched n) (undo_union n S T whole) ∙
      touched_over n (undo_set n S) (undo_set (undo_set n S) T) (stays_free (undo_set n S) T) (was_held n S)

  -- in an accepted net: the localities of what the set made
  pub touched_made : (n : Net R) → Accepted n → (S : Set) (l : ℕ)
      → touched n (undo_set n S) l ≡ any R.keys (λ k. made_by n S k && eqb (R.at (n.slot k).body) l)
  unfolding touched made_by
  touched_made n ok S l =
      any_ext R.keys (λ k. became_free n (undo_set n S) k && eqb (R.at (n.slot k).body) l) (λ k. made_by n S k && eqb (R.at (n.slot k).body) l)
      (λ k b. ap (λ (a : Bool). a && eqb (R.at (n.slot k).body) l) (agree (became_free n (undo_set n S) k) (made_by n S k) (there k) (back k)))
    where
      there : (k : ℕ) → became_free n (undo_set n S) k ≡ true → made_by n S k ≡ true
      there k h =
          cases (made_by n S k) (λ b. b)
          (λ b.
          clash (is_free (n.slot k).kind) (sym (free_kept n S k b) ∙ and_right (held n k) _ h)
          (not-true (is_free (n.slot k).kind) (and_left (held n k) _ h)))

      back : (k : ℕ) → made_by n S k ≡ true → became_free n (undo_set n S) k ≡ true
      back k b =
          let (e, l, h) = any_some R.keys (S ∩ (λ e. makes n e k)) b in
          and_both (held n k) _ (made_held n ok e k (and_right (S e) _ h)) (ap is_free (kind_eq (made_freed n S k b)))
