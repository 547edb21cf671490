-- What is made is in range: a continuation and a spawned process are processes, what an out makes is a tuple.
-- In order: data and references in range, after a step; what a ready process is; the three products (`continuation_process`, `made_tuple`,
-- `made_process`).
-- Assumes nothing.
use Prim.Native.Nat.{ℕ, ◌<◌, ◌≤◌}
use Rattle.std.specs.Prelude.{◌≡◌, Bool, ◌&&◌, ◌||◌, ltb, leb, get_or}
use Rattle.std.proofs.Math.Path.{refl, subst}
use Rattle.std.proofs.Common.{ap, sym, ⊎_elim, arith}
use mathlib.Core.List.{List}
use Rattle.std.proofs.Math.Bool.{true, false}
use Rattle.std.proofs.Math.Dec.{eqb}
use borrow.Author.Tests.{eqb-true, eqb-false, eq-eqb, ne_eqb, ltb-true, lt-ltb, le-leb, lt-leb, not-true}
use Rattle.laws.specs.Choice.{pick, cases, clash, and_left, and_right, and_both}
use Rattle.laws.specs.Lists.{tab, get_d_tab}
use Rattle.laws.specs.Checks.{all, all_of, all_at}
use Rattle.names.specs.Names.{key_count, node_count, none, key, locality, reference_count, is_key_or_none, is_locality, is_node}
use Rattle.names.specs.declared.Key.{Key}
use Rattle.names.specs.declared.Locality.{Locality}
use Rattle.images.specs.Script.{action0, field_at, script_in_range}
use Rattle.images.specs.Net.{datum0, is_unset, is_set, is_datum, variables_in_range, field_or_blank, data_fill, made_are, refs_are, refs_in_range, process_in_range, tuple_in_range}
use Rattle.images.specs.Shape.{ShapedScript}
use Rattle.images.specs.declared.Field.{Field}
use Rattle.images.specs.declared.Action.{Action}
use Rattle.images.specs.declared.Script.{Script}
use Rattle.images.specs.declared.Datum.{Datum}
use Rattle.matching.specs.Evaluate.{actual, variable_of, place_of, target_of, is_variable, is_formal, fields_ready}
use Rattle.matching.specs.Evaluate
use Rattle.products.specs.Body.{Body, is_process, is_tuple}
use Rattle.products.specs.Products.{is_step, is_out, is_newloc, is_eval, is_split, meets_tuple, has_target, action, kind_of, target, number_of, is_found, is_ready, variables_after, references_after, continuation, tuple_made, process_made, continued_by, process_by, ready_by, target_by, tuple_by}
use Rattle.rules.specs.Nodes.{Ranged, node_cases, field_small, count_few, next_node, other_node, out_count, out_tags}
use Rattle.rules.specs.Laws.{placed, after_bound, after_made_lem, after_same, bound_keeps, with_keeps, set_keeps}

-- ---- data in range

set_datum : (d : Datum) → is_set d ≡ true → is_datum d ≡ true
unfolding is_datum is_set
set_datum d h = cases (eqb d.tag 0) (λ e. clash (is_set d) h (unset d (eqb-true d.tag 0 e))) (λ n. rw n h)
  where
    unset : (d : Datum) → d.tag ≡ 0 → is_set d ≡ false
    unset d e = rw (ne_eqb d.tag 1 (λ (q : d.tag ≡ 1). omega arith), ne_eqb d.tag 2 (λ (q : d.tag ≡ 2). omega arith))

unset_datum : (d : Datum) → is_unset d ≡ true → is_datum d ≡ true
unfolding is_datum is_unset
unset_datum d h = rw (and_left (eqb d.tag 0) _ h) (and_right (eqb d.tag 0) _ h)

-- a datum that is not unset is set
datum_set : (d : Datum) → is_datum d ≡ true → eqb d.tag 0 ≡ false → is_set d ≡ true
unfolding is_datum
datum_set d h n = rw n at h

fill_datum : (count j : ℕ) (d : Datum) → field_or_blank count j d ≡ true → is_datum d ≡ true
unfolding field_or_blank
fill_datum count j d h = cases (ltb j count) (λ t. set_datum d (rw t at h)) (λ t. unset_datum d (rw t at h))

placed_datum : (l : Locality) → l.0 < 32 → is_datum (placed l) ≡ true
unfolding is_datum is_set
placed_datum l h = lt-ltb l.0 32 h

key_held : (k : Key) → k.0 < key_count → is_key_or_none k ≡ true
key_held k h = rw (ne_eqb k.0 255 (λ (q : k.0 ≡ 255). omega arith)) (lt-ltb k.0 key_count h)

-- ---- a process in range, piece by piece

record Process (b : Body) : Type 0 where
  locality : is_locality b.locality ≡ true
  node : is_node b.node ≡ true
  count : eqb b.count 0 ≡ true
  refs : refs_in_range b.refs ≡ true
  contents : variables_in_range b.contents ≡ true

process : (b : Body) → is_process b ≡ true → Process b
unfolding process_in_range
process b h =
    let after-locality = and_right (is_locality b.locality) _ h in
    let after-node = and_right (is_node b.node) _ after-locality in
    let after-count = and_right (eqb b.count 0) _ after-node in
    record {
      locality = and_left (is_locality b.locality) _ h;
      node = and_left (is_node b.node) _ after-locality;
      count = and_left (eqb b.count 0) _ after-node;
      refs = and_left (refs_in_range b.refs) _ after-count;
      contents = and_right (refs_in_range b.refs) _ after-count;
    }

is_process_lem : (b : Body) → Process b → is_process b ≡ true
unfolding process_in_range
is_process_lem b p =
    and_both (is_locality b.locality) _ p.locality
    (and_both (is_node b.node) _ p.node
    (and_both (eqb b.count 0) _ p.count (and_both (refs_in_range b.refs) _ p.refs p.contents)))

variable_datum : (b : Body) → Process b → (j : ℕ) → j < 8 → is_datum (get_or b.contents j datum0) ≡ true
unfolding variables_in_range
variable_datum b p j l = all_at 8 (λ j. is_datum (get_or b.contents j datum0)) p.contents j l

field_datum : (t : Body) → is_tuple t ≡ true → (i : ℕ) → i < 4 → is_datum (get_or t.contents i datum0) ≡ true
unfolding tuple_in_range data_fill
field_datum t h i l =
    let fill = and_right (refs_are none t.refs) _ (and_right (made_are none _) _ (and_right (leb t.count 4) _ (and_right (leb 1 t.count) _ (and_right (eqb t.node.0 0) _ (and_right (is_locality t.locality) _ h))))) in
    fill_datum t.count i (get_or t.contents i datum0) (all_at 8 (λ j. field_or_blank t.count j (get_or t.contents j datum0)) fill i (omega arith))

-- ---- what a step makes

place_below : (d : Datum) → number_of (place_of d) < 32
place_below d =
    cases (eqb d.tag 2 && ltb d.number 32)
    (λ t. rw t (ltb-true d.number 32 (and_right (eqb d.tag 2) _ t)))
    (λ t. rw t (omega arith))

-- a target is below 32, found or not
pub target_below : (s : Script) (b : Body) → target s b < 32
unfolding target_by target_of
target_below s b = place_below (actual b.contents (action s b).target)

module _ (s : Script) (w : ShapedScript s) (range : script_in_range s ≡ true) (b : Body) (good : is_process b ≡ true) (step : is_step (kind_of s b) ≡ true) where
  abbrev a : Action
  a = action s b

  -- past the last node there is no step
  in_range_lem : Ranged a
  in_range_lem =
      ⊎_elim (λ (r : Ranged a). r)
      (λ (e : a ≡ action0). absurd (clash (is_step a.kind) step (ap (λ (x : Action). is_step x.kind) e)))
      (node_cases s w range b.node.0)

  refs_after : (k : Key) → k.0 < key_count → refs_in_range (references_after a k b.refs) ≡ true
  unfolding refs_in_range references_after
  refs_after k h =
      let old = all_at 4 (λ j. is_key_or_none (get_or b.refs j (key 0))) (process b good).refs in
      all_of 4 (λ j. is_key_or_none (get_or (references_after a k b.refs) j (key 0)))
      (λ j l.
      cases (ltb a.reference.0 reference_count)
      (λ t. rw t (set_keeps (λ x. is_key_or_none x ≡ true) b.refs a.reference.0 k j (key 0) (key_held k h) (old j l)))
      (λ t. rw t (old j l)))

  variables_after_lem : (t : Body) (l : Locality) → (meets_tuple a.kind ≡ true → is_tuple t ≡ true) → (is_newloc a.kind ≡ true → l.0 < 32) → variables_in_range (variables_after a b.contents t.contents l) ≡ true
  unfolding variables_in_range
  variables_after_lem t l tuple place =
      all_of 8 (λ j. is_datum (get_or (variables_after a b.contents t.contents l) j datum0))
      (λ j q.
      let P : Datum → Type 0 = λ d. is_datum d ≡ true in
      let Q : List Datum → Type 0 = λ vars. P (get_or vars j datum0) in
      let old = variable_datum b (process b good) j q in
      cases (meets_tuple a.kind)
      (λ u.
      subst Q (sym (after_bound a b.contents t.contents l u))
      (bound_keeps P b.contents a t.contents j (field_datum t (tuple u)) old))
      (λ u. cases (is_newloc a.kind)
      (λ v.
      subst Q (sym (after_made_lem a b.contents t.contents l u v))
      (with_keeps P b.contents a.target.number (placed l) j (placed_datum l (place v)) old))
      (λ v. subst Q (sym (after_same a b.contents t.contents l u v)) old)))

  pub continuation_process : (k : Key) (t : Body) (l : Locality) → k.0 < key_count → (meets_tuple (kind_of s b) ≡ true → is_tuple t ≡ true) → (is_newloc (kind_of s b) ≡ true → l.0 < 32) → is_process (continuation s k b t l) ≡ true
  unfolding continued_by
  continuation_process k t l h tuple place =
      is_process_lem (continuation s k b t l)
      (record {
        locality = (process b good).locality;
        node = lt-ltb a.next.0 node_count (next_node a in_range_lem step);
        count = refl;
        refs = refs_after k h;
        contents = variables_after_lem t l tuple place;
      })

  made_locality_lem : is_locality (pick (is_eval (kind_of s b)) (locality (target s b)) b.locality) ≡ true
  made_locality_lem =
      cases (is_eval (kind_of s b)) (λ t. rw t (lt-ltb (target s b) 32 (target_below s b))) (λ t. rw t (process b good).locality)

  -- what an eval spawns, and the right side of a split
  pub made_process : (is_eval (kind_of s b) || is_split (kind_of s b)) ≡ true → is_process (process_made s b) ≡ true
  unfolding process_by
  made_process k =
      is_process_lem (process_made s b)
      (record {
        locality = made_locality_lem;
        node = lt-ltb a.other.0 node_count (other_node a in_range_lem k);
        count = refl;
        refs = (process b good).refs;
        contents = (process b good).contents;
      })

  module _ (out : is_out (kind_of s b) ≡ true) (ready : is_ready s b ≡ true) where
    fields_ready_lem : fields_ready b.contents a ≡ true
    unfolding ready_by
    fields_ready_lem =
        let h = and_right (pick (has_target a.kind) (is_found (target_of b.contents a.target)) true) _ ready in
        subst (λ (u : Bool). pick (u || meets_tuple a.kind) (fields_ready b.contents a) true ≡ true) out h

    -- each field of an out that counts stands for something
    field_there : (j : ℕ) → j < a.count → eqb (actual b.contents (field_at a j)).tag 0 ≡ false
    unfolding fields_ready Evaluate.is_ready
    field_there j l =
        let few = count_few a in_range_lem in
        let f = field_at a j in
        let h = all_at 4 (λ j. Evaluate.is_ready b.contents a.count j (field_at a j)) fields_ready_lem j (omega arith) in
        let n : is_formal f ≡ false = lt-leb 4 f.tag (omega (arith, out_tags a in_range_lem out j (omega arith))) in
        not-true _ (rw (lt-ltb j a.count l, n) at h)

    literal_set : (f : Field) → f.tag ≤ 3 → ((f.tag ≡ 1 → ⊥) → f.number < 8) → is_variable f ≡ false → eqb f.tag 0 ≡ false → is_set (record { tag = f.tag; number = f.number }) ≡ true
    unfolding is_set
    literal_set f l small v n =
        cases (eqb f.tag 1) (λ e. rw e)
        (λ m.
        let two : f.tag ≡ 2 = omega (arith, eqb-false f.tag 3 v, eqb-false f.tag 0 n, eqb-false f.tag 1 m) in
        rw (m, eq-eqb f.tag 2 two) (lt-ltb f.number 32 (omega (arith, small (eqb-false f.tag 1 m)))))

    actual_set : (f : Field) → f.tag ≤ 3 → ((f.tag ≡ 1 → ⊥) → f.number < 8) → eqb (actual b.contents f).tag 0 ≡ false → is_set (actual b.contents f) ≡ true
    unfolding actual
    actual_set f l small n =
        cases (is_variable f)
        (λ v. rw v (variable_set_lem f.number (rw v at n)))
        (λ v. rw v (literal_set f l small v (rw v at n)))
      where
        variable_set_lem : (x : ℕ) → eqb (variable_of b.contents x).tag 0 ≡ false → is_set (variable_of b.contents x) ≡ true
        variable_set_lem x m =
            cases (ltb x 8)
            (λ t. rw t (datum_set (get_or b.contents x datum0) (variable_datum b (process b good) x (ltb-true x 8 t)) (rw t at m)))
            (λ t. clash (eqb 0 0) refl (rw t at m))

    made_fill : data_fill a.count (tab 8 (λ j. pick (ltb j a.count) (actual b.contents (field_at a j)) datum0)) ≡ true
    unfolding data_fill field_or_blank is_unset
    made_fill =
        let f : ℕ → Datum = λ j. pick (ltb j a.count) (actual b.contents (field_at a j)) datum0 in
        let few = count_few a in_range_lem in
        all_of 8 (λ j. field_or_blank a.count j (get_or (tab 8 f) j datum0))
        (λ j q.
        subst (λ (d : Datum). field_or_blank a.count j d ≡ true) (sym (get_d_tab 8 f j datum0 q))
        (cases (ltb j a.count)
        (λ t.
        let l = ltb-true j a.count t in
        rw t (actual_set (field_at a j) (out_tags a in_range_lem out j (omega arith)) (field_small a in_range_lem j (omega arith)) (field_there j l)))
        (λ t. rw t)))

    -- what an out makes
    pub made_tuple : is_tuple (tuple_made s b) ≡ true
    unfolding tuple_in_range tuple_by made_are refs_are all
    made_tuple =
        and_both (is_locality (locality (target s b))) _ (lt-ltb (target s b) 32 (target_below s b))
        (and_both (leb 1 a.count) _ (le-leb 1 a.count (out_count a in_range_lem out))
        (and_both (leb a.count 4) _ (le-leb a.count 4 (count_few a in_range_lem)) made_fill))
