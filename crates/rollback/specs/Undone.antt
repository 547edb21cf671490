-- How the code undoes an event with its dependents: from the event it goes to one that is in the way, and on, until nothing is; that one is undone, and
-- the walk begins anew, until it is the event itself. In the end count, touched and net are those of the dependents undone at once.
--
-- In order: `Rolled`, what each undoing keeps; before the first (`rolled_first`); the net is accepted (`net_accepted`); who is met on the way is a dependent and
-- still an event (`Met`, `met_first`, `met_event`), and so is whoever is in its way (`met_next`), of which fewer depend (`met_less`); where nothing is, it may be undone
-- (`met_undoable`), fewer were undone than there are keys (`met_few`), and one more is (`rolled_next`), the event itself still standing if it was another (`still_stands`); once
-- the event itself is undone, all is done (`rolled_all`).
-- Assumes nothing.
use Rattle.std.specs.Prelude.{◌≡◌, refl, Bool, true, false, ◌||◌, List, [], ◌∷◌, ◌++◌, ℕ, ◌+◌, ◌<◌, length, Some, None}
use Rattle.std.proofs.Math.Path.{sym, ap}
use Rattle.std.proofs.Common.{ap₂, ◌∙◌, subst, arith, length-append, pow_pos, eqb-true, ne_eqb}
use Rattle.std.proofs.lemmas.Bool.{false≢true}
use Rattle.std.specs.Int.Bits.{bit_or}
use Rattle.std.proofs.lemmas.Nat.{or_lt}
use Rattle.laws.specs.Choice.{clash, fails, or_left, or_right, or_cases}
use Rattle.laws.specs.Sets.{member_or, member_empty}
use Rattle.order.specs.KeySets.{Set, ◌∈◌, ◌∉◌, ◌⊆◌, empty, only, only_self, ◌∪◌, ◌∖◌, members, members_append, minus_out, in_minus, count, count_le, count_strict}
use Rattle.order.specs.Words.{word_of, word_of_is, word_of_in, word_of_lt}
use Rattle.order.specs.Graphs.{reach_fewer}
use Rattle.order.proofs.Dependents.{dependents_iff, dependents_self, dependents_closed, dependents_of_lem}
use Rattle.order.specs.Taking.{taken_left, taken_length}
use Rattle.order.specs.Undoing.{Undoing, Undoes, UndoesAll, stay, back, touched_by, undoes_trans, undoes_accepted, undoes_taken, undoes_older, undo_count, undo_end, undo_touched}
use Rattle.order.proofs.Undoing.{undo_none_left_out}
use Rattle.names.specs.Names.{key_count, locality_count}
use Rattle.names.specs.Localities.{localities}
use Rattle.names.specs.declared.Key.{Key}
use Rattle.names.specs.declared.Localities.{Localities}
use Rattle.images.specs.Net.{net_in_range}
use Rattle.images.specs.Shape.{ShapedScript, ShapedNet}
use Rattle.images.specs.declared.Script.{Script}
use Rattle.images.specs.declared.Net as Images
use Rattle.nets.specs.Net.{Net, events, depends, dependents}
use Rattle.nets.proofs.Events.{among, over}
use Rattle.nets.specs.Undo.{undo, undo_set, touched, Undoable}
use Rattle.nets.specs.Accepted.{Accepted}
use Rattle.nets.proofs.Rollback.{undoing, dependents_past}
use Rattle.rules.specs.Instance.{rules_of, lawful_of}
use Rattle.rules.specs.View.{view}
use Rattle.rules.specs.Image.{image_of, image_view}
use Rattle.step.specs.Lent.{Good, done}
use Rattle.step.specs.Change.{Change, applied}
use Rattle.step.specs.Backward.{undone_at}
use Rattle.step.proofs.Undone as Step
use Rattle.step.specs.Way.{way_of, way_behind, clear_undoable}
use Rattle.ranges.specs.Backward.{accepted_taken, undone_in_range, undone_shaped}
use Rattle.rollback.specs.Rollback.{undone_all, rolled_back}
use Rattle.rollback.specs.Turns.{touched_last}

module _ (s : Script) (w : ShapedScript s) (n : Images.Net) (good : Good s n) (e : Key) (past : e.0 ∈ events (view s n)) where
  abbrev U : Undoing (rules_of s).keys
  U = undoing (lawful_of s w good.script)

  abbrev D : Set
  D = dependents (view s n) e.0

  -- ---- what each undoing keeps

  -- after these dependents were undone, in this order, with these localities touched
  pub record Rolled (turn : ℕ) (freed : Localities) (ks : List ℕ) (net : Images.Net) : Type 0 where
    pub shaped : ShapedNet net
    pub in_range_lem : net_in_range net ≡ true
    pub steps : Undoes (rules_of s).keys U (view s n) ks (view s net)
    pub inside : members ks ⊆ D
    pub undone : turn ≡ length ks
    pub word : freed.0 ≡ word_of locality_count (touched_by (rules_of s).keys U (view s n) ks)

  pub rolled_first : ShapedNet n → Rolled 0 (localities 0) [] n
  unfolding touched_by
  rolled_first v =
      record {
        shaped = v;
        in_range_lem = good.net;
        steps = stay;
        inside = λ x m. absurd (false≢true m);
        undone = refl;
        word = word_of_is locality_count empty 0 (pow_pos locality_count) (λ x l. member_empty x);
      }

  module _ (turn : ℕ) (freed : Localities) (ks : List ℕ) (net : Images.Net) (g : Rolled turn freed ks net) where
    abbrev W : Net (rules_of s)
    W = view s net

    pub net_accepted : Accepted W
    net_accepted = undoes_accepted (rules_of s).keys U good.accepted g.steps

    events_are : (x : ℕ) → events W x ≡ (events (view s n) ∖ members ks) x
    events_are x = ap (λ (T : Set). T x) (taken_left (undoes_taken (rules_of s).keys U good.accepted g.steps))

    not_undone : (x : ℕ) → x ∈ events W → x ∉ members ks
    not_undone x m = minus_out (events (view s n)) (members ks) x (sym (events_are x) ∙ m)

    -- ---- on the way

    module _ (stands : e.0 ∈ events W) where
      -- met on the way from the event: one of its dependents in the net as it is
      abbrev Met : Key → Type 0
      Met k = k.0 ∈ dependents W e.0

      module _ (k : Key) (m : Met k) where
        pub met_event : k.0 ∈ events W
        met_event = dependents_past (lawful_of s w good.script) W net_accepted e.0 stands k.0 m

        below : k.0 < key_count
        below = (among W net_accepted).below k.0 met_event

        -- a dependent now was one before
        met_inside : k.0 ∈ D
        met_inside =
            let now = (dependents_iff key_count (depends W) (over W net_accepted) e.0 k.0).0 m in
            (dependents_iff key_count (depends (view s n)) (over (view s n) good.accepted) e.0 k.0).1
            (reach_fewer (undoes_older (rules_of s).keys U good.accepted g.steps) now)

        module _ (f : Key) (behind : way_of s net k ≡ Some f) where
          after : depends W k.0 f.0 ≡ true
          after = (way_behind s w net net_accepted k met_event f behind).1

          pub met_next : Met f
          met_next = dependents_closed key_count (depends W) (over W net_accepted) e.0 k.0 f.0 after m

          pub met_less : count key_count (dependents W f.0) < count key_count (dependents W k.0)
          met_less =
              let wide = over W net_accepted in
              let first = dependents_closed key_count (depends W) wide k.0 k.0 f.0 after (dependents_self key_count (depends W) wide k.0) in
              count_strict key_count (dependents W f.0) (dependents W k.0)
              (λ y l. dependents_of_lem key_count (depends W) wide k.0 f.0 first y)
              k.0 below
              (fails (dependents W f.0 k.0)
              (λ h. absurd (net_accepted.no_cycle k.0 f.0 after ((dependents_iff key_count (depends W) wide f.0 k.0).0 h))))
              (dependents_self key_count (depends W) wide k.0)

        pub met_few : turn < key_count
        met_few =
            omega (
              arith,
              g.undone,
              taken_length key_count (among (view s n) good.accepted).below (undoes_taken (rules_of s).keys U good.accepted g.steps),
              count_strict key_count (members ks) D (λ y l. g.inside y) k.0 below (not_undone k.0 met_event) met_inside,
              count_le key_count D,
            )

        pub met_undoable : way_of s net k ≡ None → Undoable W k.0
        met_undoable = clear_undoable s w net net_accepted k met_event

        -- ---- one more is undone

        abbrev c : Change
        c = undone_at s net k

        module _ (u : Undoable W k.0) where
          viewed : view s (applied net c) ≡ undo W k.0
          viewed = Step.undo_is s w good.script net g.shaped.slots net_accepted k u

          steps_too : Undoes (rules_of s).keys U (view s n) (ks ++ (k.0 ∷ [])) (view s (applied net c))
          steps_too =
              subst (Undoes (rules_of s).keys U (view s n) (ks ++ (k.0 ∷ []))) (sym viewed)
              (undoes_trans (rules_of s).keys U g.steps (back u stay))

          pub rolled_next : (more : Localities) → more ≡ localities (bit_or freed.0 c.touched.0) → Rolled (turn + 1) more (ks ++ (k.0 ∷ [])) (applied net c)
          rolled_next more is-more =
              record {
                shaped = undone_shaped s net g.shaped k;
                in_range_lem = undone_in_range s net g.in_range_lem (accepted_taken s W net_accepted) k u.is_past_lem;
                steps = steps_too;
                inside = inside_too;
                undone = ap (λ (j : ℕ). j + 1) g.undone ∙ sym (length-append ks (k.0 ∷ []));
                word = ap (λ (z : Localities). z.0) is-more ∙ touched_word_lem;
              }
            where
              inside_too : members (ks ++ (k.0 ∷ [])) ⊆ D
              inside_too x h =
                  or_cases (members ks x) (only k.0 x || false) (sym (ap (λ (T : Set). T x) (members_append ks (k.0 ∷ []))) ∙ h) (g.inside x)
                  (λ p. or_cases (only k.0 x) false p (λ q. rw (eqb-true x k.0 q) met_inside) (λ q. absurd (false≢true q)))

              before : Set
              before = touched_by (rules_of s).keys U (view s n) ks

              now : Set
              now = touched W (undo W k.0)

              touched_word_lem : bit_or freed.0 c.touched.0 ≡ word_of locality_count (touched_by (rules_of s).keys U (view s n) (ks ++ (k.0 ∷ [])))
              touched_word_lem =
                  ap₂ bit_or g.word (Step.undo_touched s w good.script net g.shaped.slots net_accepted k u) ∙
                  word_of_is locality_count (before ∪ now) (bit_or (word_of locality_count before) (word_of locality_count now))
                  (or_lt locality_count (word_of locality_count before) (word_of locality_count now) (word_of_lt locality_count before) (word_of_lt locality_count now))
                  (λ l b.
                  member_or (word_of locality_count before) (word_of locality_count now) l ∙
                  ap₂ (λ (y z : Bool). y || z) (word_of_in locality_count before l b) (word_of_in locality_count now l b)) ∙
                  ap (word_of locality_count) (sym (touched_last (rules_of s).keys U g.steps k.0))

          -- an undoing of another leaves the event itself
          pub still_stands : (k.0 ≡ e.0 → ⊥) → e.0 ∈ events (view s (applied net c))
          still_stands other =
              ap (λ (m : Net (rules_of s)). events m e.0) viewed ∙ ap (λ (T : Set). T e.0) (U.undo_events W k.0 net_accepted u) ∙
              in_minus (events W) (only k.0) e.0 stands (ne_eqb e.0 k.0 (λ q. other (sym q)))

      pub met_first : Met e
      met_first = dependents_self key_count (depends W) (over W net_accepted) e.0

    -- ---- the event itself is undone

    pub rolled_all : e.0 ∈ members ks → done turn freed net ≡ rolled_back s n e.0
    unfolding undone_all
    rolled_all there =
        let counted : turn ≡ count key_count D = g.undone ∙ undo_count (rules_of s).keys U good.accepted events_all all_undone in
        let ends : view s net ≡ undo_set (view s n) D = undo_end (rules_of s).keys U good.accepted events_all all_undone in
        let word : freed.0 ≡ word_of locality_count (touched (view s n) (undo_set (view s n) D)) =
        g.word ∙ ap (word_of locality_count) (undo_touched (rules_of s).keys U good.accepted events_all all_undone) in
        let image : net ≡ image_of s (undo_set (view s n) D) = sym (image_view s net g.shaped g.in_range_lem) ∙ ap (image_of s) ends in
        λ i. done (counted i) (localities (word i)) (image i)
      where
        events_all : D ⊆ events (view s n)
        events_all = dependents_past (lawful_of s w good.script) (view s n) good.accepted e.0 past

        all_undone : UndoesAll (rules_of s).keys U (view s n) D ks (view s net)
        all_undone =
            record {
              undoes = g.steps;
              inside = g.inside;
              none =
                  λ f m.
                  fails (events W f)
                  (λ h. clash (members ks f) (undo_none_left_out (rules_of s).keys U good.accepted g.steps e.0 there f m) (not_undone f h));
            }

-- who is last in a list is in it
pub last_in : (ks : List ℕ) (k e : ℕ) → k ≡ e → e ∈ members (ks ++ (k ∷ []))
last_in ks k e is =
    ap (λ (T : Set). T e) (members_append ks (k ∷ [])) ∙ or_right (members ks e) _ (or_left (only k e) _ (subst (λ (j : ℕ). e ∈ only j) (sym is) (only_self e)))
