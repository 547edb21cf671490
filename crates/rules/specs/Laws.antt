-- The laws of products that the theory of nets asks of its rules: what a product is, names and holds.
-- In order: stores in a list; nodes of a script in range; the target; names; references; the form of what is made.
-- Assumes nothing.
use Prim.Native.Nat.{ℕ, zero, suc, ◌<◌, ◌≤◌}
use Rattle.std.specs.Prelude.{◌≡◌, ◌⊎◌, List, [], ◌∷◌, false, ◌&&◌, get_or, set, replicate}
use Rattle.std.proofs.Math.Path.{refl, ap}
use Rattle.std.proofs.Common.{sym, subst, ⊎_elim, arith}
use Rattle.std.proofs.Math.Logic.{inl, inr}
use Rattle.std.proofs.Math.Bool.{true}
use Rattle.std.proofs.Math.Dec.{eqb, ltb}
use Rattle.std.proofs.lemmas.List.{get_or-replicate}
use borrow.Author.Tests.{eqb-true, eq-eqb, ne_eqb, ltb-true}
use Rattle.laws.specs.Choice.{pick, cases, clash, and_left, and_right, and_both}
use Rattle.laws.specs.Checks.{all, all_at}
use Rattle.laws.specs.Lists.{tab, get_d_tab}
use Rattle.order.specs.KeySets.{any_of, any_some, any_not}
use Rattle.names.specs.Names.{key_count, key, reference_count}
use Rattle.names.specs.declared.Key.{Key}
use Rattle.names.specs.declared.Locality.{Locality}
use Rattle.images.specs.Script.{action0, field_at, script_in_range}
use Rattle.images.specs.Net.{datum0, refs_are}
use Rattle.images.specs.Shape.{ShapedScript}
use Rattle.images.specs.declared.Field.{Field}
use Rattle.images.specs.declared.Action.{Action}
use Rattle.images.specs.declared.Script.{Script}
use Rattle.images.specs.declared.Datum.{Datum}
use Rattle.matching.specs.Evaluate.{actual, variable_of, place_of, target_of, is_variable, is_formal}
use Rattle.matching.specs.Match.{bind_one, bind_up_to, bound, with_variable}
use Rattle.products.specs.Body.{Body}
use Rattle.products.specs.Products.{is_out, is_newloc, is_split, meets_tuple, action, kind_of, target, number_of, variables_after, references_after, continuation, tuple_made, process_made, second_made, continued_by, process_by, second_by, target_by, tuple_by}
use Rattle.rules.specs.Nodes.{Ranged, node_cases, target_small, field_small, count_few, split_reference}
use Rattle.rules.specs.Roots.{is_place, names, refers, is_home, rooted}

-- ---- stores in a list

set_either : {A : Type 0} (l : List A) (i : ℕ) (v : A) (j : ℕ) (d : A) → (get_or (set l i v) j d ≡ v) ⊎ (get_or (set l i v) j d ≡ get_or l j d)
set_either [] i v j d = inr refl
set_either (x ∷ xs) zero v zero d = inl refl
set_either (x ∷ xs) zero v (suc j) d = inr refl
set_either (x ∷ xs) (suc i) v zero d = inr refl
set_either (x ∷ xs) (suc i) v (suc j) d = set_either xs i v j d

-- what holds of each element and of what is stored holds of each element then
pub set_keeps : {A : Type 0} (P : A → Type 0) (l : List A) (i : ℕ) (v : A) (j : ℕ) (d : A) → P v → P (get_or l j d) → P (get_or (set l i v) j d)
set_keeps P l i v j d p q = ⊎_elim (λ (e : get_or (set l i v) j d ≡ v). subst P (sym e) p) (λ (e : get_or (set l i v) j d ≡ get_or l j d). subst P (sym e) q) (set_either l i v j d)

pub with_keeps : (P : Datum → Type 0) (vars : List Datum) (v : ℕ) (d : Datum) (j : ℕ) → P d → P (get_or vars j datum0) → P (get_or (with_variable vars v d) j datum0)
with_keeps P vars v d j p q =
    cases (ltb v 8) (λ t. rw t (set_keeps P vars v d j datum0 p q)) (λ t. rw t q)

bind_keeps : (P : Datum → Type 0) (vars : List Datum) (f : Field) (d : Datum) (j : ℕ) → P d → P (get_or vars j datum0) → P (get_or (bind_one vars f d) j datum0)
unfolding bind_one
bind_keeps P vars f d j p q =
    cases (is_formal f) (λ t. rw t (with_keeps P vars f.number d j p q)) (λ t. rw t q)

up_to_keeps : (P : Datum → Type 0) (k : ℕ) (vars : List Datum) (a : Action) (fields : List Datum) (j : ℕ) → ((i : ℕ) → i < k → P (get_or fields i datum0)) → P (get_or vars j datum0) → P (get_or (bind_up_to k vars a fields) j datum0)
unfolding bind_up_to
up_to_keeps P zero vars a fields j p q = q
up_to_keeps P (suc k) vars a fields j p q =
    bind_keeps P (bind_up_to k vars a fields) (field_at a k) (get_or fields k datum0) j (p k (omega arith))
    (up_to_keeps P k vars a fields j (λ i l. p i (omega arith)) q)

-- what holds of each variable and of each of the tuple's first four fields holds of each variable that is bound
pub bound_keeps : (P : Datum → Type 0) (vars : List Datum) (a : Action) (fields : List Datum) (j : ℕ) → ((i : ℕ) → i < 4 → P (get_or fields i datum0)) → P (get_or vars j datum0) → P (get_or (bound vars a fields) j datum0)
unfolding bound
bound_keeps P vars a fields j p q = up_to_keeps P 4 vars a fields j p q

-- ---- the variables after a step, by kind

abbrev pub placed : Locality → Datum
placed l = record { tag = 2; number = l.0 }

module _ (a : Action) (vars fields : List Datum) (l : Locality) where
  pub after_bound : meets_tuple a.kind ≡ true → variables_after a vars fields l ≡ bound vars a fields
  unfolding variables_after
  after_bound u = rw u

  pub after_made_lem : meets_tuple a.kind ≡ false → is_newloc a.kind ≡ true → variables_after a vars fields l ≡ with_variable vars a.target.number (placed l)
  unfolding variables_after
  after_made_lem u v = rw (u, v)

  pub after_same : meets_tuple a.kind ≡ false → is_newloc a.kind ≡ false → variables_after a vars fields l ≡ vars
  unfolding variables_after
  after_same u v = rw (u, v)

-- ---- names

names_at : (b : Body) (m j : ℕ) → j < 8 → is_place m (get_or b.contents j datum0) ≡ true → names b m ≡ true
unfolding names
names_at b m j l h = any_of 8 (λ j. is_place m (get_or b.contents j datum0)) j l h

pub rooted_at : (b : Body) → rooted b ≡ true → b.locality.0 < 8
unfolding rooted
rooted_at b r = ltb-true b.locality.0 8 (and_left (ltb b.locality.0 8) _ r)

pub rooted_names : (b : Body) (m : ℕ) → rooted b ≡ true → names b m ≡ true → m < 8
unfolding rooted names
rooted_names b m r h =
    let (j, l, p) = any_some 8 (λ j. is_place m (get_or b.contents j datum0)) h in
    let d = get_or b.contents j datum0 in
    let homes = and_left (all 8 (λ j. is_home (get_or b.contents j datum0))) _ (and_right (ltb b.locality.0 8) _ r) in
    let home = all_at 8 (λ j. is_home (get_or b.contents j datum0)) homes j l in
    let t = and_left (eqb d.tag 2) _ p in
    let e = eqb-true d.number m (and_right (eqb d.tag 2) _ p) in
    omega (arith, ltb-true d.number 8 (rw t at home))

pub rooted_refers : (b : Body) (r : ℕ) → rooted b ≡ true → refers b r ≡ false
unfolding rooted refers refs_are
rooted_refers b r h =
    cases (ltb r 64)
    (λ t.
    let refs = and_right (all 8 (λ j. is_home (get_or b.contents j datum0))) _ (and_right (ltb b.locality.0 8) _ h) in
    rw t
    (any_not 4 (λ j. eqb (get_or b.refs j (key 0)).0 r)
    (λ j l.
    let e = eqb-true (get_or b.refs j (key 0)).0 255 (all_at 4 (λ j. eqb (get_or b.refs j (key 0)).0 255) refs j l) in
    ne_eqb (get_or b.refs j (key 0)).0 r (λ (q : (get_or b.refs j (key 0)).0 ≡ r). omega (arith, ltb-true r 64 t)))))
    (λ t. rw t)

-- ---- the target

module _ (s : Script) (w : ShapedScript s) (range : script_in_range s ≡ true) (b : Body) where
  abbrev a : Action
  a = action s b

  target_number : a.target.number < 8
  target_number =
      ⊎_elim (target_small a) (λ (e : a ≡ action0). subst (λ (x : Action). x.target.number < 8) (sym e) (omega arith))
      (node_cases s w range b.node.0)

  -- a variable below 8 that holds a locality names it
  variable_names : (v m : ℕ) → is_place m (variable_of b.contents v) ≡ true → names b m ≡ true
  variable_names v m h =
      cases (ltb v 8) (λ t. names_at b m v (ltb-true v 8 t) (rw t at h)) (λ t. clash (is_place m datum0) (rw t at h) refl)

  -- what a field stands for is a small locality, or one that a variable holds
  actual_names : (f : Field) (m : ℕ) → ((f.tag ≡ 1 → ⊥) → f.number < 8) → 8 ≤ m → is_place m (actual b.contents f) ≡ true → names b m ≡ true
  unfolding actual
  actual_names f m small l h =
      cases (is_variable f) (λ t. variable_names f.number m (rw t at h))
      (λ t.
      let p = rw t at h in
      let two = eqb-true f.tag 2 (and_left (eqb f.tag 2) _ p) in
      let e = eqb-true f.number m (and_right (eqb f.tag 2) _ p) in
      absurd (omega (arith, small (λ (q : f.tag ≡ 1). omega arith))))

  -- a made locality that is a target is named
  pub target_named : 8 ≤ target s b → names b (target s b) ≡ true
  unfolding target_by target_of
  target_named l = go (actual b.contents a.target) refl l
    where
      go : (d : Datum) → actual b.contents a.target ≡ d → 8 ≤ number_of (place_of d) → names b (number_of (place_of d)) ≡ true
      go d e =
          cases (eqb d.tag 2 && ltb d.number 32)
          (λ t.
          rw t (λ l.
          actual_names a.target d.number (λ _. target_number) l
          (subst (λ (x : Datum). is_place d.number x ≡ true) (sym e)
          (and_both (eqb d.tag 2) _ (and_left (eqb d.tag 2) _ t) (eq-eqb d.number d.number refl)))))
          (λ t. rw t (λ l. absurd (omega arith)))

  -- ---- what products name

  -- what the continuation names the process named, or the tuple it met did, or it is the locality made
  abbrev pub NamedBefore : Body → Locality → ℕ → Type 0
  NamedBefore t l m =
      (names b m ≡ true) ⊎ (((meets_tuple (kind_of s b) ≡ true) × (names t m ≡ true)) ⊎ ((is_newloc (kind_of s b) ≡ true) × (l.0 ≡ m)))

  after_names : (t : Body) (l : Locality) (m j : ℕ) → j < 8 → is_place m (get_or (variables_after a b.contents t.contents l) j datum0) ≡ true → NamedBefore t l m
  after_names t l m j q =
      let P : Datum → Type 0 = λ d. is_place m d ≡ true → NamedBefore t l m in
      let old : P (get_or b.contents j datum0) = λ p. inl (names_at b m j q p) in
      let Q : List Datum → Type 0 = λ vars. P (get_or vars j datum0) in
      cases (meets_tuple a.kind)
      (λ u.
      subst Q (sym (after_bound a b.contents t.contents l u))
      (bound_keeps P b.contents a t.contents j (λ i r p. inr (inl (u, names_at t m i (omega arith) p))) old))
      (λ u. cases (is_newloc a.kind)
      (λ v.
      subst Q (sym (after_made_lem a b.contents t.contents l u v))
      (with_keeps P b.contents a.target.number (placed l) j (λ p. inr (inr (v, eqb-true l.0 m p))) old))
      (λ v. subst Q (sym (after_same a b.contents t.contents l u v)) old))

  pub continuation_names : (k : Key) (t : Body) (l : Locality) (m : ℕ) → names (continuation s k b t l) m ≡ true → NamedBefore t l m
  unfolding names continued_by
  continuation_names k t l m h =
      let (j, q, p) = any_some 8 (λ j. is_place m (get_or (variables_after a b.contents t.contents l) j datum0)) h in
      after_names t l m j q p

  field_number : (j : ℕ) → j < 4 → ((field_at a j).tag ≡ 1 → ⊥) → (field_at a j).number < 8
  field_number j l =
      ⊎_elim (λ (r : Ranged a). field_small a r j l)
      (λ (e : a ≡ action0). subst (λ (x : Action). ((field_at x j).tag ≡ 1 → ⊥) → (field_at x j).number < 8) (sym e) (λ _. omega arith))
      (node_cases s w range b.node.0)

  few_fields : a.count ≤ 4
  few_fields =
      ⊎_elim (count_few a) (λ (e : a ≡ action0). subst (λ (x : Action). x.count ≤ 4) (sym e) (omega arith))
      (node_cases s w range b.node.0)

  tuple_names : (m : ℕ) → 8 ≤ m → names (tuple_made s b) m ≡ true → names b m ≡ true
  unfolding names tuple_by
  tuple_names m l h =
      let f : ℕ → Datum = λ j. pick (ltb j a.count) (actual b.contents (field_at a j)) datum0 in
      let (j, q, p) = any_some 8 (λ j. is_place m (get_or (tab 8 f) j datum0)) h in
      let p' = rw (get_d_tab 8 f j datum0 q) at p in
      cases (ltb j a.count)
      (λ t. actual_names (field_at a j) m (field_number j (omega (arith, ltb-true j a.count t, few_fields))) l (rw t at p'))
      (λ t. clash (is_place m datum0) (rw t at p') refl)

  process_names : (m : ℕ) → names (process_made s b) m ≡ true → names b m ≡ true
  unfolding names process_by
  process_names m h = h

  -- a locality from 8 that the second thing made names, the process named
  pub second_names : (m : ℕ) → 8 ≤ m → names (second_made s b) m ≡ true → names b m ≡ true
  unfolding second_by
  second_names m l h =
      cases (is_out (kind_of s b)) (λ t. tuple_names m l (rw t at h)) (λ t. process_names m (rw t at h))

  -- ---- what products refer to

  -- a reference that the continuation holds the process held, or it is the process itself, and that is no split
  abbrev pub ReferredBefore : Key → ℕ → Type 0
  ReferredBefore k r = (refers b r ≡ true) ⊎ ((k.0 ≡ r) × (is_split (kind_of s b) ≡ false))

  no_split : ltb a.reference.0 reference_count ≡ true → is_split (kind_of s b) ≡ false
  no_split t =
      ⊎_elim
      (λ (r : Ranged a).
      cases (is_split (kind_of s b))
      (λ (u : is_split (kind_of s b) ≡ true). absurd (omega (arith, split_reference a r u, ltb-true a.reference.0 4 t)))
      (λ u. u))
      (λ (e : a ≡ action0). ap (λ (x : Action). is_split x.kind) e)
      (node_cases s w range b.node.0)

  held_at : (r j : ℕ) → ltb r key_count ≡ true → j < 4 → eqb (get_or b.refs j (key 0)).0 r ≡ true → refers b r ≡ true
  unfolding refers
  held_at r j t l h = and_both (ltb r key_count) _ t (any_of 4 (λ j. eqb (get_or b.refs j (key 0)).0 r) j l h)

  after_refers : (k : Key) (r j : ℕ) → ltb r key_count ≡ true → j < 4 → eqb (get_or (references_after a k b.refs) j (key 0)).0 r ≡ true → ReferredBefore k r
  unfolding references_after
  after_refers k r j below q =
      let P : Key → Type 0 = λ x. eqb x.0 r ≡ true → ReferredBefore k r in
      let old : P (get_or b.refs j (key 0)) = λ p. inl (held_at r j below q p) in
      cases (ltb a.reference.0 reference_count)
      (λ u. rw u (set_keeps P b.refs a.reference.0 k j (key 0) (λ p. inr (eqb-true k.0 r p, no_split u)) old))
      (λ u. rw u old)

  pub continuation_refers : (k : Key) (t : Body) (l : Locality) (r : ℕ) → refers (continuation s k b t l) r ≡ true → ReferredBefore k r
  unfolding refers continued_by
  continuation_refers k t l r h =
      let (j, q, p) = any_some 4 (λ j. eqb (get_or (references_after a k b.refs) j (key 0)).0 r) (and_right (ltb r key_count) _ h) in
      after_refers k r j (and_left (ltb r key_count) _ h) q p

  tuple_refers : (r : ℕ) → refers (tuple_made s b) r ≡ true → refers b r ≡ true
  unfolding refers tuple_by
  tuple_refers r h =
      let below = ltb-true r key_count (and_left (ltb r key_count) _ h) in
      let (j, q, p) = any_some 4 (λ j. eqb (get_or (replicate 4 (key 255)) j (key 0)).0 r) (and_right (ltb r key_count) _ h) in
      let e = eqb-true (get_or (replicate 4 (key 255)) j (key 0)).0 r p in
      absurd (omega (arith, ap (λ (x : Key). x.0) (get_or-replicate 4 j (key 255) (key 0) q)))

  process_refers : (r : ℕ) → refers (process_made s b) r ≡ true → refers b r ≡ true
  unfolding refers process_by
  process_refers r h = h

  pub second_refers : (r : ℕ) → refers (second_made s b) r ≡ true → refers b r ≡ true
  unfolding second_by
  second_refers r h =
      cases (is_out (kind_of s b)) (λ t. tuple_refers r (rw t at h)) (λ t. process_refers r (rw t at h))
