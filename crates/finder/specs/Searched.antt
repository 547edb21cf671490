-- The finder's checks and its search as the code makes them, on the bytes of a node and of a net; and that they are those of `Finder`, of the net that
-- the bytes are. Nothing here must be believed.
-- In order: one turn of the search (`meets_at`, `meets_in`), the search (`searched`), and checks 5 to 9 with it (`found_at`); a list of checks by its parts
-- (`stops`, `goes_on`). Each is told by the answers to its tests, in their order: the search (`turns`, `first_met`, `none_met`), checks 5 to 8
-- (`no_template` to `searching`), checks 3 and 4 and the node (`no_key` to `at_node`), since the tests are the finder's (`by_slots`).
-- Assumes nothing.
use Rattle.std.specs.Prelude.{ℕ, ◌<◌, ◌≡◌, Bool, true, false, ◌&&◌, List, [], ◌∷◌, ◌++◌, eqb, ltb, Option, Some, None}
use Rattle.std.proofs.Math.Path.{refl, ap, sym, subst}
use Rattle.std.proofs.Common.{◌∙◌, arith}
use Rattle.std.proofs.Math.ListN.{length, get_or-eq_default}
use borrow.Author.Tests.{eq-eqb, ne_eqb, ltb-true, ltb-false}
use Rattle.laws.specs.Choice.{pick, cases, or_left, or_right, ◌⇒◌}
use Rattle.laws.specs.Lists.{length_tab}
use Rattle.order.specs.KeySets.{Set, any, any_of, any_not, any_ext}
use Rattle.names.specs.Names.{key_count, node_count, none, key, key_of, node_of, locality}
use Rattle.names.specs.Reads.{key_read, key_bad, node_read, node_bad}
use Rattle.names.specs.declared.Key.{Key}
use Rattle.names.specs.declared.Locality.{Locality}
use Rattle.names.specs.declared.Localities.{Localities}
use Rattle.names.specs.declared.Node.{Node}
use Rattle.images.specs.Head.{part_at}
use Rattle.images.specs.Script.{action0, action_at}
use Rattle.images.specs.Net.{slot_at, slot_with, free_slot}
use Rattle.images.specs.Read.{action_of, script_of, slot_of, net_of}
use Rattle.images.specs.InPlace.{slot_part, node_part}
use Rattle.images.specs.declared.Action.{Action}
use Rattle.images.specs.declared.Datum.{Datum}
use Rattle.images.specs.declared.Script.{Script}
use Rattle.images.specs.declared.Slot as Image
use Rattle.images.specs.declared.Net as Images
use Rattle.matching.specs.Match.{meets}
use Rattle.nets.specs.Rules.{Rules, uses, aims}
use Rattle.nets.specs.Net as N
use Rattle.nets.specs.Net.{is_live}
use Rattle.products.specs.Products.{is_out, is_eval, meets_tuple, target_by, target_there, ready_by, fits}
use Rattle.products.specs.Acting.{readiness, ready_acts, unset_false, acts_target}
use Rattle.rules.specs.Instance.{act_of, rules_of}
use Rattle.rules.specs.Acts.{uses_is, aims_is}
use Rattle.rules.specs.View.{view, view_slot, view_with, view_present, live_is, tuple_is}
use Rattle.requests.specs.Checks.{Check, check, refusal, Hold, Numbered}
use Rattle.requests.specs.Requests.{answer_of}
use Rattle.requests.specs.declared.Answer.TheVariants as Answer
use Rattle.finder.specs.Least.{least, Least, least_is, least_same, First, first_same, first_least, first_nowhere}
use Rattle.finder.specs.Finder.{meeting, before_search, finder_checks, least_meeting, found, found_by, found_of}
use Rattle.finder.specs.declared.Found.{Found}

-- the slot t holds a live tuple at l that meets the template
unfoldable pub meets_at : Action → List Datum → Locality → Image.Slot → Bool
meets_at a vars l t = eqb t.kind 3 && (eqb t.locality.0 l.0 && meets vars a t.count t.contents)

-- the keys of a net at which there is one
abbrev pub meets_in : Action → List Datum → Locality → Images.Net → Set
meets_in a vars l n j = meets_at a vars l (slot_at n j)

-- "and 9 exactly when no such tuple exists"
unfoldable pub searched : Set → Found Key
searched p = found_by (answer_of (refusal (check 9 (any key_count p) ∷ []))) (least key_count p)

-- checks 5 to 9, of the process x at the node a that acts at l
abbrev tests : Action → Image.Slot → Locality → Images.Net → List Check
tests a x l n =
    check 5 (meets_tuple a.kind) ∷ check 7 (ready_by a x.contents) ∷ check 8 (target_there a.kind n.present l) ∷
    check 9 (any key_count (meets_in a x.contents l n)) ∷ []

unfoldable pub found_at : Action → Image.Slot → Images.Net → Found Key
found_at a x n =
    found_by (answer_of (refusal (tests a x (locality (target_by a x.contents)) n)))
    (least key_count (meets_in a x.contents (locality (target_by a x.contents)) n))

-- ---- a list of checks by its parts

-- a refusal does not look further
pub stops : (cs ds : List Check) → (refusal cs ≡ 0 → ⊥) → refusal (cs ++ ds) ≡ refusal cs
unfolding refusal
stops [] ds some = absurd (some refl)
stops (c ∷ cs) ds some = cases c.holds (λ t. rw t (stops cs ds (rw t at some))) (λ t. rw t)

pub goes_on : (cs ds : List Check) → Hold cs → refusal (cs ++ ds) ≡ refusal ds
unfolding refusal
goes_on [] ds h = refl
goes_on (c ∷ cs) ds h = rw h.0 (goes_on cs ds h.1)

pub before_numbered : {R : Rules} (n : N.Net R) (k : ℕ) → Numbered (before_search n k)
unfolding before_search
before_numbered n k =
    ((λ z. omega (arith, z)), ((λ z. omega (arith, z)), ((λ z. omega (arith, z)), ((λ z. omega (arith, z)), ((λ z. omega (arith, z)), tt)))))

-- ---- the search

-- a turn looks at the bytes of a slot
pub turns : (a : Action) (vars : List Datum) (l : Locality) (b : List ℕ) (r : Option ℕ) → First 0 key_count (λ j. meets_at a vars l (slot_of (part_at 56 b j))) r
    → First 0 key_count (meets_in a vars l (net_of b)) r
turns a vars l b =
    first_same 0 key_count (meets_in a vars l (net_of b)) (λ j. meets_at a vars l (slot_of (part_at 56 b j)))
    (λ j from below. ap (meets_at a vars l) (sym (slot_part b j below)))

module _ (p : Set) where
  nothing_before : (j : ℕ) → j < 0 → p j ≡ false
  nothing_before j l = absurd (omega (arith, l))

  -- it came to a tuple that meets
  pub first_met : {r : Option ℕ} {t : ℕ} → r ≡ Some t → First 0 key_count p r → found Answer.Done (key t) ≡ searched p
  unfolding searched refusal
  first_met {r} {t} e h =
      let it : Least key_count p t = first_least 0 key_count p nothing_before t (subst (First 0 key_count p) e h) in
      sym
      (ap (λ (b : Bool). found_by (answer_of (refusal (check 9 b ∷ []))) (least key_count p)) (any_of key_count p t it.below it.holds) ∙
      ap (λ (m : ℕ). found Answer.Done (key m)) (least_is key_count p t it))

  -- and to none
  pub none_met : {r : Option ℕ} → r ≡ None → First 0 key_count p r → found Answer.NoTuple (key none) ≡ searched p
  unfolding searched refusal
  none_met e h =
      sym
      (ap (λ (b : Bool). found_by (answer_of (refusal (check 9 b ∷ []))) (least key_count p))
      (any_not key_count p (first_nowhere 0 key_count p nothing_before (subst (First 0 key_count p) e h))))

-- ---- checks 5 to 8, with the node d as it was read

module _ {a d : Action} (is-a : d ≡ a) (x : Image.Slot) (n : Images.Net) where
  abbrev target : Locality
  target = locality (target_by a x.contents)

  abbrev p : Set
  p = meets_in a x.contents target n

  template : {v : Bool} → meets_tuple d.kind ≡ v → v ≡ meets_tuple a.kind
  template h = sym h ∙ ap (λ (y : Action). meets_tuple y.kind) is-a

  pub no_template : meets_tuple d.kind ≡ false → found Answer.WrongNode (key none) ≡ found_at a x n
  unfolding found_at refusal
  no_template h =
      λ i.
      found_by
      (answer_of
      (refusal
      (check 5 (template h i) ∷ check 7 (ready_by a x.contents) ∷ check 8 (target_there a.kind n.present target) ∷
      check 9 (any key_count p) ∷ [])))
      (least key_count p)

  module _ (m : meets_tuple d.kind ≡ true) where
    pub unready : readiness a x.locality x.contents ≡ None → found Answer.Unset (key none) ≡ found_at a x n
    unfolding found_at refusal
    unready e =
        λ i.
        found_by
        (answer_of
        (refusal
        (check 5 (template m i) ∷ check 7 (sym (unset_false a x.locality x.contents e) i) ∷
        check 8 (target_there a.kind n.present target) ∷ check 9 (any key_count p) ∷ [])))
        (least key_count p)

    module _ {l : Locality} (e : readiness a x.locality x.contents ≡ Some l) {present : Localities} (is-p : present ≡ n.present) where
      ready : true ≡ ready_by a x.contents
      ready = sym (ready_acts a x.locality x.contents l e).0

      is_l : l ≡ target
      is_l =
          (ready_acts a x.locality x.contents l e).1 ∙
          acts_target a x.locality x.contents (or_right (is_out a.kind) _ (or_left (meets_tuple a.kind) (is_eval a.kind) (sym (template m))))

      there : {v : Bool} → target_there d.kind present l ≡ v → v ≡ target_there a.kind n.present target
      there h = sym h ∙ (λ i. target_there (is-a i).kind (is-p i) (is_l i))

      pub no_target : target_there d.kind present l ≡ false → found Answer.TargetAbsent (key none) ≡ found_at a x n
      unfolding found_at refusal
      no_target h =
          λ i.
          found_by
          (answer_of (refusal (check 5 (template m i) ∷ check 7 (ready i) ∷ check 8 (there h i) ∷ check 9 (any key_count p) ∷ [])))
          (least key_count p)

      pub searching : target_there d.kind present l ≡ true → {r : Found Key} → r ≡ searched (meets_in a x.contents l n) → r ≡ found_at a x n
      unfolding found_at searched refusal
      searching h is-r =
          is-r ∙ ap (λ (z : Locality). searched (meets_in a x.contents z n)) is_l ∙
          (λ i.
          found_by
          (answer_of (refusal (check 5 (template m i) ∷ check 7 (ready i) ∷ check 8 (there h i) ∷ check 9 (any key_count p) ∷ [])))
          (least key_count p))

-- ---- the tests are the finder's

module _ (s : Script) (n : Images.Net) (k : Key) where
  abbrev W : N.Net (rules_of s)
  W = view s n

  abbrev held : Image.Slot
  held = slot_with n k

  abbrev node : Action
  node = action_at s held.node.0

  abbrev aim : Locality
  aim = locality (target_by node held.contents)

  live_check : eqb held.kind 1 ≡ is_live (W.slot k.0).kind
  live_check = sym (ap (λ (z : N.Slot (rules_of s)). is_live z.kind) (view_with s n k) ∙ live_is held.kind)

  act_is : (rules_of s).act (W.slot k.0).body ≡ act_of node.kind
  act_is = ap (λ (z : N.Slot (rules_of s)). (rules_of s).act z.body) (view_with s n k)

  uses_check : meets_tuple node.kind ≡ uses ((rules_of s).act (W.slot k.0).body)
  uses_check = sym (ap uses act_is ∙ uses_is node.kind)

  ready_check : ready_by node held.contents ≡ (rules_of s).ready (W.slot k.0).body
  ready_check = rw (view_with s n k)

  target_check : target_there node.kind n.present aim ≡ (aims ((rules_of s).act (W.slot k.0).body) ⇒ W.present ((rules_of s).target (W.slot k.0).body))
  unfolding target_there
  target_check = rw (act_is, aims_is node.kind, view_with s n k, view_present s n (target_by node held.contents))

  turn_check : (j : ℕ) → j < key_count → meets_in node held.contents aim n j ≡ meeting W k.0 j
  unfolding meets_at meeting fits
  turn_check j l = rw (view_with s n k, view_slot s n j l, tuple_is (slot_at n j).kind)

  by_slots : found_by (answer_of (refusal (check 3 (ltb k.0 key_count) ∷ check 4 (eqb held.kind 1) ∷ tests node held aim n))) (least key_count (meets_in node held.contents aim n)) ≡ found_of s n k
  unfolding found_of finder_checks before_search least_meeting
  by_slots =
      λ i.
      found_by
      (answer_of
      (refusal
      (check 3 (ltb k.0 key_count) ∷ check 4 (live_check i) ∷ check 5 (uses_check i) ∷ check 7 (ready_check i) ∷
      check 8 (target_check i) ∷
      check 9 (any_ext key_count (meets_in node held.contents aim n) (meeting W k.0) turn_check i) ∷ [])))
      (least_same key_count (meets_in node held.contents aim n) (meeting W k.0) turn_check i)

-- ---- checks 3 and 4, and the node

module _ (b : List ℕ) (n : Images.Net) (k : Key) where
  abbrev s : Script
  s = script_of b

  -- the checks that were not come to
  abbrev rest : List Check
  rest = tests (node s n k) (held s n k) (aim s n k) n

  abbrev least_one : ℕ
  least_one = least key_count (meets_in (node s n k) (held s n k).contents (aim s n k) n)

  pub no_key : key_of k.0 ≡ None → found Answer.BadRequest (key none) ≡ found_of s n k
  unfolding refusal
  no_key e =
      ap (λ (c : Bool). found_by (answer_of (refusal (check 3 c ∷ check 4 (eqb (held s n k).kind 1) ∷ rest))) least_one)
      (sym (key_bad k.0 (sym e))) ∙
      by_slots s n k

  module _ {u : Key} (read : key_of k.0 ≡ Some u) {x : Image.Slot} (is_x : x ≡ slot_at n u.0) where
    is_key : true ≡ ltb k.0 key_count
    is_key = sym (key_read k.0 u (sym read)).1

    its_slot : x ≡ held s n k
    its_slot =
        is_x ∙ ap (λ (y : Key). slot_at n y.0) (key_read k.0 u (sym read)).0 ∙
        ap (λ (h : Bool). pick h (slot_at n k.0) free_slot) is_key

    kind : {v : Bool} → eqb x.kind 1 ≡ v → v ≡ eqb (held s n k).kind 1
    kind h = sym h ∙ ap (λ (y : Image.Slot). eqb y.kind 1) its_slot

    pub no_live_process : (x.kind ≡ 1 → ⊥) → found Answer.WrongProcess (key none) ≡ found_of s n k
    unfolding refusal
    no_live_process h =
        (λ i. found_by (answer_of (refusal (check 3 (is_key i) ∷ check 4 (kind (ne_eqb x.kind 1 h) i) ∷ rest))) least_one) ∙
        by_slots s n k

    module _ (live : x.kind ≡ 1) where
      after : found_by (answer_of (refusal rest)) least_one ≡ found_of s n k
      unfolding refusal
      after =
          (λ i. found_by (answer_of (refusal (check 3 (is_key i) ∷ check 4 (kind (eq-eqb x.kind 1 live) i) ∷ rest))) least_one) ∙
          by_slots s n k

      -- past the last node there is none, and what stands there meets nothing
      nothing_there : node_of x.node.0 ≡ None → meets_tuple (node s n k).kind ≡ false
      unfolding script_of
      nothing_there e =
          let past = ltb-false x.node.0 node_count (node_bad x.node.0 (sym e)) in
          let many : length s.nodes ≡ node_count = length_tab node_count _ in
          ap (λ (y : Image.Slot). meets_tuple (action_at s y.node.0).kind) (sym its_slot) ∙
          ap (λ (y : Action). meets_tuple y.kind) (get_or-eq_default s.nodes action0 {n = x.node.0} (omega (arith, many, past)))

      pub no_node : node_of x.node.0 ≡ None → found Answer.WrongNode (key none) ≡ found_of s n k
      unfolding found_at
      no_node e = no_template {a = node s n k} refl (held s n k) n (nothing_there e) ∙ after

      pub at_node : {m : Node} → node_of x.node.0 ≡ Some m → {lent : List ℕ} → lent ≡ part_at 32 b m.0 → {r : Found Key}
          → r ≡ found_at (action_of lent) x n → r ≡ found_of s n k
      unfolding found_at
      at_node {m} e {lent} is_lent is-r =
          let it = node_read x.node.0 m (sym e) in
          is-r ∙ ap (λ (p : List ℕ). found_at (action_of p) x n) is_lent ∙
          ap (λ (y : Node). found_at (action_of (part_at 32 b y.0)) x n) it.0 ∙
          ap (λ (y : Action). found_at y x n) (node_part b x.node.0 (ltb-true x.node.0 node_count it.1)) ∙
          ap (λ (y : Image.Slot). found_at (action_at s y.node.0) y n) its_slot ∙
          after
