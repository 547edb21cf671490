-- That the code's test of an event and of what it made (`Agreement`) is the theory's (`nets`, `Accepting`): of every script with all its
-- nodes, and every net whose slots have eight variables or fields and four references.
--
-- In order: conjunctions that stop early (`and_none`, `and_where`, `implied`); a node's kind, one by one (`each_kind`); lists of one
-- length (`all_same`); the same contents (`contents_are`); a record as it was made
-- (`stands_live`, `stands_tuple`) and as it was met (`met_kind`, `met_body`); the two keys that an event made (`two_made`); an event's places and
-- rule (`placed_is`, `fitting_is`, `ruled_is`), what it made (`products_are`), all of it (`event_is`); a slot (`agrees_is`).
-- Assumes nothing.
use Prim.Native.Nat.{ℕ, zero, suc, ◌<◌}
use Rattle.std.specs.Prelude.{◌≡◌, Bool, true, false, ◌&&◌, ◌||◌, not, ltb, length, get_or}
use Rattle.std.proofs.Math.Path.{refl, ap, ap₂, sym}
use Rattle.std.proofs.Common.{◌∙◌, subst, arith}
use Rattle.std.proofs.Math.Bool.{and-false}
use mathlib.Core.List.{List, [], ◌∷◌}
use Rattle.std.proofs.Math.Dec.{eqb}
use Rattle.std.proofs.Math.ListN.{get_or-eq_default}
use borrow.Author.Tests.{eqb-true, eqb-false, eq-eqb, ne_eqb, ltb-true, ltb-false, lt-ltb, le-ltb, not-true}
use Rattle.laws.specs.Choice.{pick, cases, clash, and_left, and_right, and_both, or_left, or_right, or_cases, ◌⇒◌, told, tells, agree}
use Rattle.laws.specs.Checks.{all, all_of, all_at}
use Rattle.names.specs.Names.{none, key_count, node_count, key, locality, is_node}
use Rattle.names.specs.declared.Key.{Key}
use Rattle.images.specs.Script.{action0, action_at}
use Rattle.images.specs.Net.{datum0, slot_at, slot_with, free_slot, made_are}
use Rattle.images.specs.declared.Action.{Action}
use Rattle.images.specs.declared.Script.{Script}
use Rattle.images.specs.declared.Slot as Image
use Rattle.images.specs.declared.Net as Images
use Rattle.matching.specs.Match.{meets}
use Rattle.nets.specs.Rules.{Second, nothing, aTuple, aProcess, second_of}
use Rattle.nets.specs.Net.{live, tuple, is_past, is_live_tuple, Slot, Net, fresh, forget, events, made_key}
use Rattle.nets.specs.Rule.{met, besides, product}
use Rattle.nets.specs.Accepting.{placed, fitting, ruled, same_slot, agreed}
use Rattle.products.specs.Body.{Body, body_of, live_process, live_tuple}
use Rattle.products.specs.Products.{is_step, is_out, is_eval, is_split, makes_second, target_by, target_there, ready_by, target, fits, continued_by, tuple_by, process_by, second_by, second_slot}
use Rattle.rules.specs.Acts.{acts_is, uses_is, aims_is, newloc_is, there_is}
use Rattle.rules.specs.Instance.{act_of, makeable, rules_of, next}
use Rattle.rules.specs.View.{kind_as, past_is, slot_view, view, view_slot, view_with, view_present}
use Rattle.rules.specs.Same.{same_list, same_datum, same_key, same_body}
use Rattle.agreement.specs.Agreement.{placed_by, tuple_fits, ruled_by, same_data, same_refs, same_record, stands_as, first_stands, second_stands, products_stand, agrees_by, agrees_at, slot_agrees}
use Rattle.agreement.specs.Agreed.{Whole, whole_next, whole_tuple, whole_process}

-- ---- conjunctions that stop early

and_none : (a b : Bool) → a ≡ false → (a && b) ≡ false
and_none true b h = clash false (sym h) refl
and_none false b h = refl

-- what comes after a test matters where it holds
and_where : (a b c : Bool) → (a ≡ true → b ≡ c) → (a && b) ≡ (a && c)
and_where true b c h = h refl
and_where false b c h = refl

implied : (a b c : Bool) → (a ≡ true → b ≡ c) → (a ⇒ b) ≡ (a ⇒ c)
implied true b c h = h refl
implied false b c h = refl

-- ---- a node's kind and its act

-- a number past the kinds is none of them
abbrev beyond_kinds : ℕ → ℕ
beyond_kinds k = suc (suc (suc (suc (suc (suc (suc (suc k)))))))

no_kind : (k m : ℕ) → m < 8 → eqb (beyond_kinds k) m ≡ false
no_kind k m h = ne_eqb (beyond_kinds k) m (λ e. omega arith)

-- kinds one by one, and the numbers past them
each_kind : (P : ℕ → Type 0) → P 0 → P 1 → P 2 → P 3 → P 4 → P 5 → P 6 → P 7 → ((k : ℕ) → P (beyond_kinds k)) → (k : ℕ) → P k
each_kind P p0 p1 p2 p3 p4 p5 p6 p7 more zero = p0
each_kind P p0 p1 p2 p3 p4 p5 p6 p7 more (suc zero) = p1
each_kind P p0 p1 p2 p3 p4 p5 p6 p7 more (suc (suc zero)) = p2
each_kind P p0 p1 p2 p3 p4 p5 p6 p7 more (suc (suc (suc zero))) = p3
each_kind P p0 p1 p2 p3 p4 p5 p6 p7 more (suc (suc (suc (suc zero)))) = p4
each_kind P p0 p1 p2 p3 p4 p5 p6 p7 more (suc (suc (suc (suc (suc zero))))) = p5
each_kind P p0 p1 p2 p3 p4 p5 p6 p7 more (suc (suc (suc (suc (suc (suc zero)))))) = p6
each_kind P p0 p1 p2 p3 p4 p5 p6 p7 more (suc (suc (suc (suc (suc (suc (suc zero))))))) = p7
each_kind P p0 p1 p2 p3 p4 p5 p6 p7 more (suc (suc (suc (suc (suc (suc (suc (suc k)))))))) = more k

-- an out makes a tuple, an eval or a split a process
second_is : (k : ℕ) → second_of (act_of k) ≡ pick (is_out k) aTuple (pick (is_eval k || is_split k) aProcess nothing)
unfolding act_of
second_is =
    each_kind (λ k. second_of (act_of k) ≡ pick (is_out k) aTuple (pick (is_eval k || is_split k) aProcess nothing)) refl refl refl refl refl refl refl refl
    (λ k.
    let out = no_kind k 1 (omega arith) in
    let eval = no_kind k 5 (omega arith) in
    let split = no_kind k 6 (omega arith) in
    sym (λ i. pick (out i) aTuple (pick (eval i || split i) aProcess nothing)))

-- ---- lists of one length

-- place by place they are the same exactly when they are as lists
module _ {A : Type 0} (same : A → A → Bool) (d : A) where
  all_same : (k : ℕ) (xs ys : List A) → length xs ≡ k → length ys ≡ k → all k (λ j. same (get_or xs j d) (get_or ys j d)) ≡ same_list same xs ys
  unfolding all same_list
  all_same zero [] [] p q = refl
  all_same zero [] (y ∷ ys) p q = absurd (omega arith)
  all_same zero (x ∷ xs) ys p q = absurd (omega arith)
  all_same (suc k) [] ys p q = absurd (omega arith)
  all_same (suc k) (x ∷ xs) [] p q = absurd (omega arith)
  all_same (suc k) (x ∷ xs) (y ∷ ys) p q = ap (λ (b : Bool). same x y && b) (all_same k xs ys (omega arith) (omega arith))

-- an out makes a tuple besides, any other kind that makes anything a process
made_by_out : (a : Action) (b : Body) → is_out a.kind ≡ true → second_by a b ≡ tuple_by a b
unfolding second_by
made_by_out a b o = rw o

made_by_other : (a : Action) (b : Body) → is_out a.kind ≡ false → second_by a b ≡ process_by a b
unfolding second_by
made_by_other a b o = rw o

-- ---- the same contents

contents_are : (x y : Image.Slot) → Whole (body_of x) → Whole (body_of y) → same_record x y ≡ same_body (body_of x) (body_of y)
unfolding same_record same_data same_refs same_body
contents_are x y v w =
    ap₂ (λ (d r : Bool). eqb x.locality.0 y.locality.0 && (eqb x.node.0 y.node.0 && (eqb x.count y.count && (d && r))))
    (all_same same_datum datum0 8 x.contents y.contents v.0 w.0)
    (all_same same_key (key 0) 4 x.refs y.refs v.1 w.1)

-- ---- a record as it was made

-- the slot, if it were of another kind
abbrev of_kind : ℕ → Image.Slot → Image.Slot
of_kind k x =
    record { kind = k; locality = x.locality; node = x.node; count = x.count; first = x.first; second = x.second; used = x.used; place = x.place; contents = x.contents; refs = x.refs }

module _ (s : Script) (x : Image.Slot) where
  -- a number that is no kind of a slot
  no_slot : (k m : ℕ) → m < 5 → eqb (suc (suc (suc (suc (suc k))))) m ≡ false
  no_slot k m h = ne_eqb (suc (suc (suc (suc (suc k))))) m (λ e. omega arith)

  -- history forgotten, it is the record that was made: live as it was made, or past
  live_as : (b : Body) (k : ℕ) → (same_body (body_of x) b && pick (eqb k 1) (made_are none x) (eqb k 2)) ≡ same_slot {R = rules_of s} same_body (forget (slot_view s (of_kind k x))) (fresh live b)
  unfolding kind_as same_slot made_are
  live_as b zero = and-false (same_body (body_of x) b)
  live_as b (suc zero) = refl
  live_as b (suc (suc zero)) = refl
  live_as b (suc (suc (suc zero))) = and-false (same_body (body_of x) b)
  live_as b (suc (suc (suc (suc zero)))) = and-false (same_body (body_of x) b)
  live_as b (suc (suc (suc (suc (suc k))))) =
      rw (no_slot k 1 (omega arith), no_slot k 2 (omega arith)) (and-false (same_body (body_of x) b))

  -- a live tuple, or consumed
  tuple_as : (b : Body) (k : ℕ) → (same_body (body_of x) b && pick (eqb k 3) (made_are none x) (eqb k 4)) ≡ same_slot {R = rules_of s} same_body (forget (slot_view s (of_kind k x))) (fresh tuple b)
  unfolding kind_as same_slot made_are
  tuple_as b zero = and-false (same_body (body_of x) b)
  tuple_as b (suc zero) = and-false (same_body (body_of x) b)
  tuple_as b (suc (suc zero)) = and-false (same_body (body_of x) b)
  tuple_as b (suc (suc (suc zero))) = refl
  tuple_as b (suc (suc (suc (suc zero)))) = refl
  tuple_as b (suc (suc (suc (suc (suc k))))) =
      rw (no_slot k 3 (omega arith), no_slot k 4 (omega arith)) (and-false (same_body (body_of x) b))

  stands_live : (b : Body) → Whole (body_of x) → Whole b → stands_as x (live_process b) 2 ≡ same_slot {R = rules_of s} same_body (forget (slot_view s x)) (fresh live b)
  unfolding stands_as
  stands_live b v w =
      ap (λ (d : Bool). d && pick (eqb x.kind 1) (made_are none x) (eqb x.kind 2)) (contents_are x (live_process b) v w) ∙ live_as b x.kind

  stands_tuple : (b : Body) → Whole (body_of x) → Whole b → stands_as x (live_tuple b) 4 ≡ same_slot {R = rules_of s} same_body (forget (slot_view s x)) (fresh tuple b)
  unfolding stands_as
  stands_tuple b v w =
      ap (λ (d : Bool). d && pick (eqb x.kind 3) (made_are none x) (eqb x.kind 4)) (contents_are x (live_tuple b) v w) ∙ tuple_as b x.kind

  -- as it stood when it was met: a live tuple, if it is live or consumed now, with the same contents
  met_kind : (k : ℕ) → is_live_tuple (forget (slot_view s (of_kind k x))).kind ≡ (eqb k 3 || eqb k 4)
  unfolding kind_as
  met_kind zero = refl
  met_kind (suc zero) = refl
  met_kind (suc (suc zero)) = refl
  met_kind (suc (suc (suc zero))) = refl
  met_kind (suc (suc (suc (suc zero)))) = refl
  met_kind (suc (suc (suc (suc (suc k))))) = sym (ap₂ (λ a b. a || b) (no_slot k 3 (omega arith)) (no_slot k 4 (omega arith)))

  met_body : (k : ℕ) → (forget (slot_view s (of_kind k x))).body ≡ body_of x
  unfolding kind_as
  met_body zero = refl
  met_body (suc zero) = refl
  met_body (suc (suc zero)) = refl
  met_body (suc (suc (suc zero))) = refl
  met_body (suc (suc (suc (suc zero)))) = refl
  met_body (suc (suc (suc (suc (suc k))))) = refl

-- ---- the two keys that an event made

-- a test at each key that it made is one at the first, and one at the second where that is a key
two_made : (N : ℕ) (m P : ℕ → Bool) (f g : ℕ) → ((k : ℕ) → k < N → m k ≡ (eqb f k || eqb g k)) → f < N → all N (λ k. m k ⇒ P k) ≡ (P f && (ltb g N ⇒ P g))
two_made N m P f g says low =
    agree (all N (λ k. m k ⇒ P k)) (P f && (ltb g N ⇒ P g))
    (λ h.
    and_both (P f) _
    (told (m f) (P f) (all_at N (λ k. m k ⇒ P k) h f low) (says f low ∙ or_left (eqb f f) (eqb g f) (eq-eqb f f refl)))
    (tells (ltb g N) (P g)
    (λ l.
    let q = ltb-true g N l in
    told (m g) (P g) (all_at N (λ k. m k ⇒ P k) h g q) (says g q ∙ or_right (eqb f g) (eqb g g) (eq-eqb g g refl)))))
    (λ h.
    all_of N (λ k. m k ⇒ P k)
    (λ k l.
    tells (m k) (P k)
    (λ e.
    or_cases (eqb f k) (eqb g k) (sym (says k l) ∙ e)
    (λ p. subst (λ (j : ℕ). P j ≡ true) (eqb-true f k p) (and_left (P f) _ h))
    (λ p.
    let z = eqb-true g k p in
    subst (λ (j : ℕ). P j ≡ true) z (told (ltb g N) (P g) (and_right (P f) _ h) (lt-ltb g N (subst (λ (j : ℕ). j < N) (sym z) l)))))))

-- a key where one is needed, none where not
key_where : (b : Bool) (k : ℕ) → pick b (ltb k key_count) (eqb k none) ≡ true → ltb k key_count ≡ b
key_where true k h = h
key_where false k h = le-ltb k key_count (omega (arith, eqb-true k none h))

-- ---- an event

-- the theory's test of the event with this key and this record
abbrev agreed_by : (s : Script) → Images.Net → ℕ → Slot (rules_of s) → Bool
agreed_by s n k z =
    ruled (view s n) z &&
    all key_count (λ j. made_key j z ⇒ same_slot {R = rules_of s} same_body (forget ((view s n).slot j)) (product k z (met (view s n) z).body j))

module _ (s : Script) (n : Images.Net) (x : Image.Slot) where
  -- its node, and the tuple that it used
  abbrev a : Action
  a = action_at s x.node.0

  abbrev t : Image.Slot
  t = slot_with n x.used

  abbrev seen : Net (rules_of s)
  seen = view s n

  -- by what its kind makes and uses, which places are right
  abbrev places_by : Bool → Bool → Bool → Bool
  places_by two meets makes =
      ltb x.first.0 key_count &&
      (pick two (ltb x.second.0 key_count) (eqb x.second.0 none) &&
      (not (eqb x.first.0 x.second.0) &&
      (pick meets (ltb x.used.0 key_count) (eqb x.used.0 none) && pick makes (makeable x.place.0) (eqb x.place.0 none))))

  placed_is : placed_by a.kind x ≡ placed (slot_view s x)
  unfolding placed_by placed
  placed_is = sym (λ i. places_by (there_is a.kind i) (uses_is a.kind i) (newloc_is a.kind i))

  -- the tuple met, as it stood then
  met_is : met seen (slot_view s x) ≡ forget (slot_view s t)
  met_is = ap forget (view_with s n x.used)

  body_met : (met seen (slot_view s x)).body ≡ body_of t
  body_met = ap (λ (m : Slot (rules_of s)). m.body) met_is ∙ met_body s t t.kind

  -- a tuple, or none, with these contents fits
  abbrev fits_by : Bool → Body → Bool
  fits_by found b =
      found && (eqb b.locality.0 (target s (body_of x)) && meets x.contents a b.count b.contents)

  fitting_is : tuple_fits a x.contents (locality (target_by a x.contents)) t ≡ fitting seen (slot_view s x)
  unfolding tuple_fits fitting fits
  fitting_is =
      sym (ap (λ (m : Slot (rules_of s)). fits_by (is_live_tuple m.kind) m.body) met_is ∙ ap₂ fits_by (met_kind s t t.kind) (met_body s t t.kind))

  ruled_is : ruled_by a n.present x t ≡ ruled seen (slot_view s x)
  unfolding ruled_by ruled target_there
  ruled_is =
      let step = sym (acts_is a.kind) in
      let aim = sym (aims_is a.kind) in
      let there = sym (view_present s n (target_by a x.contents)) in
      let use-tuple = sym (uses_is a.kind) in
      λ i. step i && (placed_is i && (ready_by a x.contents && ((aim i ⇒ there i) && (use-tuple i ⇒ fitting_is i))))

  -- a node past the script's is none, and does nothing
  no_node : length s.nodes ≡ node_count → is_node x.node ≡ false → ruled_by a n.present x t ≡ false
  unfolding ruled_by
  no_node nodes h =
      let e : a ≡ action0 = get_or-eq_default s.nodes action0 {n = x.node.0} (omega (arith, nodes, ltb-false x.node.0 node_count h)) in
      and_none (is_step a.kind) _ (ap (λ (c : Action). is_step c.kind) e)

  places_of : ruled_by a n.present x t ≡ true → placed_by a.kind x ≡ true
  unfolding ruled_by
  places_of r = and_left (placed_by a.kind x) _ (and_right (is_step a.kind) _ r)

  -- ---- what it made

  module _ (k : ℕ) (whole : (l : Key) → Whole (body_of (slot_with n l))) (mine : Whole (body_of x)) where
    -- what stands at a key is what the process with key k and this record made there
    abbrev stands_at : ℕ → Bool
    stands_at j = same_slot {R = rules_of s} same_body (forget (seen.slot j)) (product k (slot_view s x) (met seen (slot_view s x)).body j)

    first_stands_lem : first_stands a (key k) x t (slot_with n x.first) ≡ stands_at x.first.0
    unfolding product
    first_stands_lem =
        let made = continued_by a (key k) (body_of x) t.contents x.place in
        let is_made : product {R = rules_of s} k (slot_view s x) (met seen (slot_view s x)).body x.first.0 ≡ fresh live made =
        rw (eq-eqb x.first.0 x.first.0 refl) (ap (λ (b : Body). fresh {R = rules_of s} live (next s k (body_of x) b x.place.0)) body_met) in
        stands_live s (slot_with n x.first) made (whole x.first) (whole_next a (key k) (body_of x) t.contents x.place mine) ∙
        sym (ap₂ (same_slot {R = rules_of s} same_body) (ap forget (view_with s n x.first)) is_made)

    -- by the kind of the node, what is made besides
    besides_stands : (u : Image.Slot) → Whole (body_of u) → (makes_second a.kind ⇒ same_slot {R = rules_of s} same_body (forget (slot_view s u)) (besides (second_of (act_of a.kind)) (body_of x))) ≡ second_stands a x u
    unfolding second_stands second_slot
    besides_stands u w =
        ap (λ (c : Second). makes_second a.kind ⇒ same_slot {R = rules_of s} same_body (forget (slot_view s u)) (besides c (body_of x))) (second_is a.kind) ∙
        cases (is_out a.kind)
        (λ o.
        rw o
        (ap (λ (b : Body). same_slot {R = rules_of s} same_body (forget (slot_view s u)) (fresh tuple b)) (made_by_out a (body_of x) o) ∙
        sym (stands_tuple s u (tuple_by a (body_of x)) w (whole_tuple a (body_of x)))))
        (λ o.
        cases (is_eval a.kind || is_split a.kind)
        (λ e.
        rw (o, e)
        (ap (λ (b : Body). same_slot {R = rules_of s} same_body (forget (slot_view s u)) (fresh live b)) (made_by_other a (body_of x) o) ∙
        sym (stands_live s u (process_by a (body_of x)) w (whole_process a (body_of x) mine))))
        (λ e. rw (o, e)))

    second_stands_lem : (x.first.0 ≡ x.second.0 → ⊥) → second_stands a x (slot_with n x.second) ≡ (makes_second a.kind ⇒ stands_at x.second.0)
    unfolding product
    second_stands_lem apart =
        let is_made : product {R = rules_of s} k (slot_view s x) (met seen (slot_view s x)).body x.second.0 ≡ besides (second_of (act_of a.kind)) (body_of x) =
        rw (ne_eqb x.second.0 x.first.0 (λ e. apart (sym e))) in
        sym
        (ap₂ (λ (y z : Slot (rules_of s)). makes_second a.kind ⇒ same_slot {R = rules_of s} same_body (forget y) z) (view_with s n x.second) is_made ∙
        besides_stands (slot_with n x.second) (whole x.second))

    -- where its places are right: the first key is one, the second is one if the kind makes it, and they are two
    first_key : placed_by a.kind x ≡ true → x.first.0 < key_count
    unfolding placed_by
    first_key right = ltb-true x.first.0 key_count (and_left (ltb x.first.0 key_count) _ right)

    second_key : placed_by a.kind x ≡ true → ltb x.second.0 key_count ≡ makes_second a.kind
    unfolding placed_by
    second_key right =
        key_where (makes_second a.kind) x.second.0
        (and_left (pick (makes_second a.kind) (ltb x.second.0 key_count) (eqb x.second.0 none)) _
        (and_right (ltb x.first.0 key_count) _ right))

    two_keys : placed_by a.kind x ≡ true → x.first.0 ≡ x.second.0 → ⊥
    unfolding placed_by
    two_keys right =
        let after_first = and_right (ltb x.first.0 key_count) _ right in
        let after-second = and_right (pick (makes_second a.kind) (ltb x.second.0 key_count) (eqb x.second.0 none)) _ after_first in
        eqb-false x.first.0 x.second.0 (not-true (eqb x.first.0 x.second.0) (and_left (not (eqb x.first.0 x.second.0)) _ after-second))

    made_keys : is_past (kind_as x.kind) ≡ true → (j : ℕ) → j < key_count → made_key j (slot_view s x) ≡ (eqb x.first.0 j || eqb x.second.0 j)
    unfolding made_key
    made_keys past j l = rw (past, lt-ltb j key_count l)

    products_are : is_past (kind_as x.kind) ≡ true → placed_by a.kind x ≡ true → products_stand a (key k) x t (slot_with n x.first) (slot_with n x.second) ≡ all key_count (λ j. made_key j (slot_view s x) ⇒ stands_at j)
    unfolding products_stand
    products_are past right =
        ap₂ (λ b c. b && c) first_stands_lem
        (second_stands_lem (two_keys right) ∙ ap (λ (b : Bool). b ⇒ stands_at x.second.0) (sym (second_key right))) ∙
        sym (two_made key_count (λ j. made_key j (slot_view s x)) stands_at x.first.0 x.second.0 (made_keys past) (first_key right))

    -- ---- the event as a whole

    event_is : length s.nodes ≡ node_count → is_past (kind_as x.kind) ≡ true → agrees_at s n (key k) x ≡ agreed_by s n k (slot_view s x)
    unfolding agrees_at agrees_by
    event_is nodes past =
        let right = ruled_by a n.present x t in
        let stand = products_stand a (key k) x t (slot_with n x.first) (slot_with n x.second) in
        let made = all key_count (λ j. made_key j (slot_view s x) ⇒ stands_at j) in
        cases (is_node x.node) (λ h. ap (λ (b : Bool). b && (right && stand)) h)
        (λ h. and_none (is_node x.node) (right && stand) h ∙ sym (and_none right stand (no_node nodes h))) ∙
        and_where right stand made (λ r. products_are past (places_of r)) ∙
        ap (λ (b : Bool). b && made) ruled_is

-- ---- a slot

-- a net's slot or a free one, each with all its places
whole_either : (b : Bool) (x y : Image.Slot) → (b ≡ true → Whole (body_of x)) → Whole (body_of y) → Whole (body_of (pick b x y))
whole_either true x y p q = p refl
whole_either false x y p q = q

module _ (s : Script) (n : Images.Net) (nodes : length s.nodes ≡ node_count) (eight : (i : ℕ) → i < key_count → length (slot_at n i).contents ≡ 8) (four : (i : ℕ) → i < key_count → length (slot_at n i).refs ≡ 4) where
  whole_with : (l : Key) → Whole (body_of (slot_with n l))
  whole_with l =
      whole_either (ltb l.0 key_count) (slot_at n l.0) free_slot
      (λ h. let q = ltb-true l.0 key_count h in (eight l.0 q, four l.0 q))
      (refl, refl)

  -- the code's test at a key is the theory's
  pub agrees_is : (k : ℕ) → k < key_count → slot_agrees s n k ≡ (events (view s n) k ⇒ agreed {R = rules_of s} same_body (view s n) k)
  unfolding slot_agrees agreed
  agrees_is k h =
      let x = slot_at n k in
      let here = view_slot s n k h in
      let past : is_past ((view s n).slot k).kind ≡ eqb x.kind 2 = ap (λ (z : Slot (rules_of s)). is_past z.kind) here ∙ past_is x.kind in
      implied (eqb x.kind 2) (agrees_at s n (key k) x) (agreed_by s n k ((view s n).slot k))
      (λ e. event_is s n x k whole_with (eight k h, four k h) nodes (past_is x.kind ∙ e) ∙ sym (ap (agreed_by s n k) here)) ∙
      ap (λ (b : Bool). b ⇒ agreed_by s n k ((view s n).slot k)) (sym past)
