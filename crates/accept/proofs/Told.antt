-- The tests that the code makes of the net as a whole (`Whole`) are the theory's (`nets`, `Accepting`), of the net that the image holds; so
-- what the code answers is the verdict.
--
-- In order: tests together (`all_and`, `picked`, `either_both` and their kin); what the code looks at: two sets of localities (`shifted_same`), a
-- root (`root_at`), a tuple (`consumed_tuple` and its kin); agreement (`agree_told`), by which events that use a tuple have its key (`used_told`);
-- made and taken once (`once_told`); tuples, localities and roots (`tuples_told`, `localities_told`, `roots_told`); dependence (`cycle_told`);
-- arrays of a net that was taken apart (`whole_contents`, `whole_refs`); the code's answers, one by one (`verdict_disagrees` and its kin).
-- Assumes nothing.
use Rattle.std.specs.Prelude.{ℕ, ◌+◌, ◌-◌, ◌/◌, ◌%◌, ◌^◌, ◌<◌, ◌≤◌, ◌≡◌, refl, Bool, false, ◌&&◌, ◌||◌, List, eqb, ltb, leb, length, Ok, Err}
use Rattle.std.proofs.Math.Nat.{div-div-eq-div-mul}
use Rattle.std.proofs.Common.{mul_comm, ap₂, ◌∙◌, subst, arith, pow-add, eqb-true, eq-eqb, ne_eqb, ltb-true, ltb-false, lt-ltb, le-leb, leb-true}
use Rattle.std.proofs.Math.Path.{ap, sym, fun_ext}
use Rattle.std.proofs.Math.Bool.{true, not, and-true}
use Rattle.laws.specs.Choice.{pick, cases, fails, and_left, and_right, and_both, agree, sameb, sameb_eq, ◌⇒◌, told, tells}
use Rattle.laws.specs.Lists.{length_tab}
use Rattle.laws.specs.Checks.{all, all_of, all_at, all_ext}
use Rattle.laws.specs.Sets.{member, same_members}
use Rattle.order.specs.KeySets.{◌∈◌, any}
use Rattle.order.specs.Peeling.{acyclic}
use Rattle.names.specs.Names.{key_count, locality_count, node_count, key, locality}
use Rattle.names.specs.Localities.{holds}
use Rattle.names.specs.KeySets.{is_in}
use Rattle.names.specs.declared.Keys.{Keys}
use Rattle.names.specs.declared.Localities.{Localities}
use Rattle.images.specs.Net.{slot_at, slot_with}
use Rattle.images.specs.Net as I
use Rattle.images.specs.Head.{byte, part_at}
use Rattle.images.specs.Read.{datum_of, slot_of, script_of, net_of}
use Rattle.images.specs.InPlace.{slot_part}
use Rattle.images.specs.declared.Script.{Script}
use Rattle.images.specs.declared.Slot as Image
use Rattle.images.specs.declared.Net as Images
use Rattle.nets.specs.Rules.{acts, uses, none, second_of, is_there}
use Rattle.nets.specs.Net.{is_free, is_past, is_live_tuple, is_consumed, Slot, Net, events, takes, is_made, depends}
use Rattle.nets.specs.Records.{took_past}
use Rattle.nets.proofs.Events.{bounded_event}
use Rattle.nets.specs.Accepting.{placed, ruled, agreed, once_each}
use Rattle.nets.specs.Accepting as A
use Rattle.products.specs.Body.{body_of}
use Rattle.rules.specs.Instance.{makeable, rules_of}
use Rattle.rules.specs.Roots.{rooted}
use Rattle.rules.specs.Same.{same_body}
use Rattle.rules.specs.View.{view, view_slot, view_with, view_present, beyond, tuple_is, consumed_is, free_is}
use Rattle.agreement.specs.Agreement.{slot_agrees}
use Rattle.agreement.proofs.Agreed.{agrees_is}
use Rattle.traces.specs.Traces.{deeds_of, deed_at, events_of, keys_made, localities_made, tuples_taken, rows_of}
use Rattle.traces.specs.Marks.{whole_script}
use Rattle.traces.specs.Traced.{Used, event_at, taken_at, events_in_lem, keys_once, keys_in, localities_once, localities_in, taken_once, taken_in, edges_depend}
use Rattle.traces.specs.declared.Marks.{Marks}
use Rattle.cycles.specs.Cycles.{edges, members}
use Rattle.accept.specs.Whole as W
use Rattle.accept.specs.Verdict.{all_agree, verdict, verdict_of}
use Rattle.accept.specs.Laws.{first_of}
use Rattle.accept.specs.declared.Fault.{Fault}

-- ---- tests together

-- two tests at each number
all_and : (k : ℕ) (f g : ℕ → Bool) → all k (λ i. f i && g i) ≡ (all k f && all k g)
all_and k f g =
    agree (all k (λ i. f i && g i)) (all k f && all k g)
    (λ h.
    and_both (all k f) _ (all_of k f (λ i l. and_left (f i) _ (all_at k (λ i. f i && g i) h i l)))
    (all_of k g (λ i l. and_right (f i) _ (all_at k (λ i. f i && g i) h i l))))
    (λ h.
    all_of k (λ i. f i && g i)
    (λ i l. and_both (f i) _ (all_at k f (and_left (all k f) _ h) i l) (all_at k g (and_right (all k f) _ h) i l)))

-- the side that was picked holds
picked : (a b c : Bool) → pick a b c ≡ true → a ≡ true → b ≡ true
picked a b c h p = subst (λ (d : Bool). pick d b c ≡ true) p h

not_picked : (a b c : Bool) → pick a b c ≡ true → a ≡ false → c ≡ true
not_picked a b c h p = subst (λ (d : Bool). pick d b c ≡ true) p h

-- one test or the other is both, where only one asks anything
either_both : (c t d b : Bool) → (c ≡ true → d ≡ false) → pick c t (d ⇒ b) ≡ ((c ⇒ t) && (d ⇒ b))
either_both true t d b h = sym (ap (λ (e : Bool). t && (e ⇒ b)) (h refl) ∙ and-true t)
either_both false t d b h = refl

-- nothing is asked of what is free
free_or : (f b : Bool) → pick f true b ≡ (not f ⇒ b)
free_or true b = refl
free_or false b = refl

-- ---- what the code looks at

-- the members of a word from 8 on are those of the word shifted down
member_shifted : (w k : ℕ) → member (w / 2 ^ 8) k ≡ member w (k + 8)
unfolding member
member_shifted w k =
    ap (λ (q : ℕ). eqb (q % 2) 1)
    (div-div-eq-div-mul w (2 ^ 8) (2 ^ k) ∙ ap (λ (p : ℕ). w / p) (mul_comm (2 ^ 8) (2 ^ k) ∙ sym (pow-add 2 k 8)))

-- so two words that are one once shifted down agree on the localities 8..31, and two that agree there are
pub shifted_same : (present made : Localities) → present.0 < 2 ^ 32 → made.0 < 2 ^ 32 → eqb (present.0 / 2 ^ 8) (made.0 / 2 ^ 8) ≡ W.localities_right present made
unfolding W.localities_right W.locality_right
shifted_same present made p-fits m-fits =
    agree (eqb high₁ high₂) (all locality_count right)
    (λ t. all_of locality_count right (λ l _. tells (makeable l) _ (λ m. same_at l (leb-true 8 l (and_left (leb 8 l) _ m)) (eqb-true high₁ high₂ t))))
    (λ t.
    eq-eqb high₁ high₂
    (same_members 24 high₁ high₂ (omega (arith, p-fits)) (omega (arith, m-fits))
    (λ k l. member_shifted present.0 k ∙ sameb_eq _ _ (told (makeable (k + 8)) _ (all_at locality_count right t (k + 8) (omega arith)) (made_from k l)) ∙ sym (member_shifted made.0 k))))
  where
    high₁ : ℕ
    high₁ = present.0 / 2 ^ 8

    high₂ : ℕ
    high₂ = made.0 / 2 ^ 8

    right : ℕ → Bool
    right l = makeable l ⇒ sameb (member present.0 l) (member made.0 l)

    made_from : (k : ℕ) → k < 24 → makeable (k + 8) ≡ true
    made_from k l = and_both (leb 8 (k + 8)) _ (le-leb 8 (k + 8) (omega arith)) (lt-ltb (k + 8) 32 (omega arith))

    same_self : (b : Bool) → sameb b b ≡ true
    same_self true = refl
    same_self false = refl

    same_at : (l : ℕ) → 8 ≤ l → high₁ ≡ high₂ → sameb (member present.0 l) (member made.0 l) ≡ true
    same_at l h e =
        let k = l - 8 in
        let is : k + 8 ≡ l = omega arith in
        let one : member present.0 l ≡ member made.0 l =
        ap (member present.0) (sym is) ∙ sym (member_shifted present.0 k) ∙ ap (λ (w : ℕ). member w k) e ∙ member_shifted made.0 k ∙ ap (member made.0) is in
        ap (λ (b : Bool). sameb b (member made.0 l)) one ∙ same_self (member made.0 l)

-- a root, at a slot that was looked up
pub root_at : (n : Images.Net) (made : Keys) (k : ℕ) {present : Localities} {m r : Bool} {x : Image.Slot} → present ≡ n.present → x ≡ slot_at n k → m ≡ is_in made (key k)
    → r ≡ W.root_right present m x → W.root_right n.present (is_in made (key k)) (slot_at n k) ≡ r
root_at n made k is-p is_x is_m is-r = sym (is-r ∙ (λ i. W.root_right (is-p i) (is_m i) (is_x i)))

-- tuples, at a slot that was looked up: a consumed one was taken; what an in took is no live one; of any other slot nothing is asked
module _ (ds : List ℕ) (n : Images.Net) (taken : Keys) (k : ℕ) {x : Image.Slot} (is : x ≡ slot_at n k) where
  abbrev tuple_at : Bool
  tuple_at = W.tuple_right (deed_at ds k) (key k) (slot_at n k) (slot_with n (slot_at n k).used) taken

  abbrev took_gone : Bool
  took_gone = eqb (deed_at ds k) 2 ⇒ not (eqb (slot_with n (slot_at n k).used).kind 3)

  kind_is : (slot_at n k).kind ≡ x.kind
  kind_is = sym (ap (λ (y : Image.Slot). y.kind) is)

  pub consumed_tuple : {b r : Bool} → x.kind ≡ 4 → b ≡ is_in taken (key k) → b ≡ r → tuple_at ≡ r
  unfolding W.tuple_right
  consumed_tuple consumed answered is-r =
      ap (λ (c : Bool). pick c (is_in taken (key k)) took_gone) (eq-eqb (slot_at n k).kind 4 (kind_is ∙ consumed)) ∙ sym answered ∙ is-r

  not_consumed : (x.kind ≡ 4 → ⊥) → tuple_at ≡ took_gone
  unfolding W.tuple_right
  not_consumed other = ap (λ (c : Bool). pick c (is_in taken (key k)) took_gone) (ne_eqb (slot_at n k).kind 4 (λ e. other (sym kind_is ∙ e)))

  pub no_tuple : (x.kind ≡ 4 → ⊥) → (deed_at ds k ≡ 2 → ⊥) → tuple_at ≡ true
  no_tuple other no-in =
      not_consumed other ∙ ap (λ (c : Bool). c ⇒ not (eqb (slot_with n (slot_at n k).used).kind 3)) (ne_eqb (deed_at ds k) 2 no-in)

  pub taken_tuple : {t : Image.Slot} {live : Bool} → (x.kind ≡ 4 → ⊥) → deed_at ds k ≡ 2 → t ≡ slot_with n x.used → eqb t.kind 3 ≡ live → tuple_at ≡ not live
  taken_tuple {t} other by_in is-t is_live_lem =
      let found : t ≡ slot_with n (slot_at n k).used = is-t ∙ ap (λ (y : Image.Slot). slot_with n y.used) is in
      not_consumed other ∙ (λ i. eq-eqb (deed_at ds k) 2 by_in i ⇒ not (eqb (sym found i).kind 3)) ∙ ap not is_live_lem

module _ (s : Script) (n : Images.Net) where
  -- the net that the image holds, and what its events did
  abbrev seen : Net (rules_of s)
  seen = view s n

  abbrev deeds : List ℕ
  deeds = deeds_of s n

  -- ---- agreement

  agree_told : length s.nodes ≡ node_count → ((i : ℕ) → i < key_count → length (slot_at n i).contents ≡ 8) → ((i : ℕ) → i < key_count → length (slot_at n i).refs ≡ 4) → all key_count (slot_agrees s n) ≡ all_agree s seen
  unfolding all_agree
  agree_told nodes eight four =
      all_ext key_count (slot_agrees s n) (λ e. events seen e ⇒ agreed same_body seen e) (agrees_is s n nodes eight four)

  -- an event that agrees with its rule has its places
  event_placed : all_agree s seen ≡ true → (e : ℕ) → e ∈ events seen → placed (seen.slot e) ≡ true
  unfolding all_agree agreed ruled
  event_placed h e p =
      let good : agreed same_body seen e ≡ true =
      told (events seen e) _ (all_at key_count (λ e. events seen e ⇒ agreed same_body seen e) h e (bounded_event seen (beyond s n) e p)) p in
      and_left (placed (seen.slot e)) _
      (and_right (acts ((rules_of s).act (seen.slot e).body)) _ (and_left (ruled seen (seen.slot e)) _ good))

  -- so it has the key of the tuple that it used, or none
  uses_right : all_agree s seen ≡ true → (e : ℕ) → e ∈ events seen → pick (uses ((rules_of s).act (seen.slot e).body)) (ltb (seen.slot e).used key_count) (eqb (seen.slot e).used none) ≡ true
  unfolding placed
  uses_right h e p =
      let z = seen.slot e in
      let a = (rules_of s).act z.body in
      and_left (pick (uses a) (ltb z.used key_count) (eqb z.used none)) _
      (and_right (not (eqb z.first z.second)) _
      (and_right (pick (is_there (second_of a)) (ltb z.second key_count) (eqb z.second none)) _
      (and_right (ltb z.first key_count) _ (event_placed h e p))))

  used_told : all_agree s seen ≡ true → Used seen
  used_told h =
      record {
        used = λ e p u. ltb-true (seen.slot e).used key_count (picked _ _ _ (uses_right h e p) u);
        no_used = λ e p u. eqb-true (seen.slot e).used none (not_picked _ _ _ (uses_right h e p) u);
      }

  -- ---- made once, taken once

  once_told : ((keys_made n).once && ((localities_made deeds n).once && (tuples_taken deeds n).once)) ≡ once_each locality_count seen
  unfolding once_each
  once_told = λ i. keys_once s n i && (localities_once s n i && taken_once s n i)

  -- ---- tuples

  -- a consumed tuple, by its kind; whether the record at k is an in's; whether what it used is a live tuple
  consumed_at : (k : ℕ) → k < key_count → eqb (slot_at n k).kind 4 ≡ is_consumed (seen.slot k).kind
  consumed_at k l =
      sym (ap (λ (z : Slot (rules_of s)). is_consumed z.kind) (view_slot s n k l) ∙ consumed_is (slot_at n k).kind)

  took_at : (k : ℕ) → k < key_count → eqb (deed_at deeds k) 2 ≡ takes seen k (seen.slot k).used
  took_at k l =
      let u = (slot_at n k).used.0 in
      sym (ap (λ (b : Bool). eqb (deed_at deeds k) 2 && b) (eq-eqb u u refl) ∙ and-true (eqb (deed_at deeds k) 2)) ∙
      taken_at s n k u l ∙
      ap (λ (z : Slot (rules_of s)). takes seen k z.used) (sym (view_slot s n k l))

  live_at : (k : ℕ) → k < key_count → eqb (slot_with n (slot_at n k).used).kind 3 ≡ is_live_tuple (seen.slot (seen.slot k).used).kind
  live_at k l =
      let u = (slot_at n k).used in
      sym
      (ap (λ (z : Slot (rules_of s)). is_live_tuple (seen.slot z.used).kind) (view_slot s n k l) ∙
      ap (λ (z : Slot (rules_of s)). is_live_tuple z.kind) (view_with s n u) ∙
      tuple_is (slot_with n u).kind)

  -- a consumed tuple is no event
  consumed_idle : (k : ℕ) → k < key_count → eqb (slot_at n k).kind 4 ≡ true → eqb (deed_at deeds k) 2 ≡ false
  consumed_idle k l c =
      fails (eqb (deed_at deeds k) 2)
      (λ h.
      let past = took_past (seen.slot k).used (seen.slot k) (sym (took_at k l) ∙ h) in
      omega (arith, eqb-true (slot_at n k).kind 2 (event_at s n k l ∙ past), eqb-true (slot_at n k).kind 4 c))

  abbrev consumed_taken : ℕ → Bool
  consumed_taken k = is_consumed (seen.slot k).kind ⇒ any key_count (λ f. takes seen f k)

  abbrev taken_gone : ℕ → Bool
  taken_gone f = takes seen f (seen.slot f).used ⇒ not (is_live_tuple (seen.slot (seen.slot f).used).kind)

  tuple_told : (k : ℕ) → k < key_count → W.tuple_right (deed_at deeds k) (key k) (slot_at n k) (slot_with n (slot_at n k).used) (tuples_taken deeds n).names ≡ (consumed_taken k && taken_gone k)
  unfolding W.tuple_right
  tuple_told k l =
      either_both (eqb (slot_at n k).kind 4) (is_in (tuples_taken deeds n).names (key k)) (eqb (deed_at deeds k) 2) (not (eqb (slot_with n (slot_at n k).used).kind 3)) (consumed_idle k l) ∙
      (λ i. (consumed_at k l i ⇒ taken_in s n k l i) && (took_at k l i ⇒ not (live_at k l i)))

  tuples_told : W.tuples_right deeds n (tuples_taken deeds n).names ≡ A.tuples_right seen
  unfolding W.tuples_right A.tuples_right
  tuples_told = all_ext key_count _ (λ k. consumed_taken k && taken_gone k) tuple_told ∙ all_and key_count consumed_taken taken_gone

  -- ---- localities

  present_at : (l : ℕ) → l < locality_count → holds n.present (locality l) ≡ seen.present l
  present_at l b = sym (view_present s n l ∙ ap (λ (c : Bool). c && member n.present.0 l) (lt-ltb l locality_count b))

  localities_told : W.localities_right n.present (localities_made deeds n).names ≡ A.localities_right locality_count seen
  unfolding W.localities_right W.locality_right A.localities_right
  localities_told =
      all_ext locality_count _ _ (λ l b. λ i. makeable l ⇒ sameb (present_at l b i) (localities_in s n l b i))

  -- ---- records that nobody made

  root_told : (k : ℕ) → k < key_count → W.root_right n.present (is_in (keys_made n).names (key k)) (slot_at n k) ≡ (not (is_free (seen.slot k).kind) ⇒ (is_made seen k || (rooted (seen.slot k).body && seen.present (seen.slot k).body.locality.0)))
  unfolding W.root_right
  root_told k l =
      let x = slot_at n k in
      let free = sym (free_is x.kind) in
      let there = sym (view_present s n x.locality.0) in
      free_or (I.is_free x) _ ∙
      (λ i. not (free i) ⇒ (keys_in s n k l i || (rooted (body_of x) && there i))) ∙
      ap (λ (z : Slot (rules_of s)). not (is_free z.kind) ⇒ (is_made seen k || (rooted z.body && seen.present z.body.locality.0))) (sym (view_slot s n k l))

  roots_told : W.roots_right n (keys_made n).names ≡ A.roots_right seen
  unfolding W.roots_right A.roots_right
  roots_told = all_ext key_count _ _ root_told

  -- ---- dependence

  members_told : (k : ℕ) → members (events_of n) k ≡ events seen k
  members_told k =
      cases (ltb k key_count) (λ p. ap (λ (b : Bool). b && is_in (events_of n) (key k)) p ∙ events_in_lem s n k (ltb-true k key_count p))
      (λ p.
      ap (λ (b : Bool). b && is_in (events_of n) (key k)) p ∙
      sym (ap (λ (z : Slot (rules_of s)). is_past z.kind) (beyond s n k (ltb-false k key_count p))))

  cycle_told : all_agree s seen ≡ true → acyclic key_count (edges (rows_of deeds n (events_of n)) (events_of n)) (members (events_of n)) ≡ acyclic key_count (depends seen) (events seen)
  cycle_told h =
      ap₂ (acyclic key_count) (fun_ext (λ e. fun_ext (λ f. edges_depend s n (used_told h) e f))) (fun_ext members_told)

-- ---- the code's answers

-- the slots of a net that was taken apart have their arrays whole
whole_contents : (b : List ℕ) (i : ℕ) → i < key_count → length (slot_at (net_of b) i).contents ≡ 8
unfolding slot_of
whole_contents b i l =
    ap (λ (x : Image.Slot). length x.contents) (sym (slot_part b i l)) ∙ length_tab 8 (datum_of (part_at 56 b i))

whole_refs : (b : List ℕ) (i : ℕ) → i < key_count → length (slot_at (net_of b) i).refs ≡ 4
unfolding slot_of
whole_refs b i l =
    ap (λ (x : Image.Slot). length x.refs) (sym (slot_part b i l)) ∙ length_tab 4 (λ j. key (byte (part_at 56 b i) (48 + j)))

module _ (script net : List ℕ) (agrees : Bool) (tested : agrees ≡ all key_count (slot_agrees (script_of script) (net_of net))) where
  abbrev s : Script
  s = script_of script

  abbrev n : Images.Net
  n = net_of net

  by_agreement : all key_count (slot_agrees s n) ≡ all_agree s (view s n)
  by_agreement = agree_told s n (whole_script script) (whole_contents net) (whole_refs net)

  pub verdict_disagrees : agrees ≡ false → Err Fault.Disagrees ≡ verdict_of s n
  unfolding verdict
  verdict_disagrees h = rw (sym by_agreement ∙ sym tested ∙ h)

  module _ (yes : agrees ≡ true) (ds : List ℕ) (made : Marks Keys) (places : Marks Localities) (taken : Marks Keys) (did : ds ≡ deeds_of s n) (keys-are : made ≡ keys_made n) (places-are : places ≡ localities_made ds n) (taken-are : taken ≡ tuples_taken ds n) where
    all_agree_lem : all_agree s (view s n) ≡ true
    all_agree_lem = sym by_agreement ∙ sym tested ∙ yes

    -- what the code found, by what the events did
    places_found : places ≡ localities_made (deeds_of s n) n
    places_found = places-are ∙ ap (λ (d : List ℕ). localities_made d n) did

    taken_found : taken ≡ tuples_taken (deeds_of s n) n
    taken_found = taken-are ∙ ap (λ (d : List ℕ). tuples_taken d n) did

    -- the code's tests of the net as a whole, and the theory's last
    abbrev tuples_test : Bool
    tuples_test = W.tuples_right ds n taken.names

    abbrev localities_test : Bool
    localities_test = W.localities_right n.present places.names

    abbrev roots_test : Bool
    roots_test = W.roots_right n made.names

    abbrev order_test : Bool
    order_test = acyclic key_count (depends (view s n)) (events (view s n))

    once_found : (made.once && (places.once && taken.once)) ≡ once_each locality_count (view s n)
    once_found = (λ i. (keys-are i).once && ((places_found i).once && (taken_found i).once)) ∙ once_told s n

    tuples_found : tuples_test ≡ A.tuples_right (view s n)
    tuples_found = (λ i. W.tuples_right (did i) n (taken_found i).names) ∙ tuples_told s n

    localities_found : localities_test ≡ A.localities_right locality_count (view s n)
    localities_found = ap (λ (m : Marks Localities). W.localities_right n.present m.names) places_found ∙ localities_told s n

    roots_found : roots_test ≡ A.roots_right (view s n)
    roots_found = ap (λ (m : Marks Keys). W.roots_right n m.names) keys-are ∙ roots_told s n

    -- the verdict, by the tests that the code made; the last is the theory's
    by_tests : (t l r : Bool) → t ≡ tuples_test → l ≡ localities_test → r ≡ roots_test → first_of true (made.once && (places.once && taken.once)) t l r order_test ≡ verdict_of s n
    unfolding verdict
    by_tests t l r et el er =
        let yes-all = sym all_agree_lem in
        let tuples = et ∙ tuples_found in
        let localities = el ∙ localities_found in
        let roots = er ∙ roots_found in
        λ i. first_of (yes-all i) (once_found i) (tuples i) (localities i) (roots i) order_test

    pub verdict_twice : (made.once && (places.once && taken.once)) ≡ false → Err Fault.Twice ≡ verdict_of s n
    verdict_twice h =
        sym (λ i. first_of true (h i) tuples_test localities_test roots_test order_test) ∙
        by_tests tuples_test localities_test roots_test refl refl refl

    pub verdict_key_twice : made.once ≡ false → Err Fault.Twice ≡ verdict_of s n
    verdict_key_twice h = verdict_twice (λ i. h i && (places.once && taken.once))

    pub verdict_locality_twice : made.once ≡ true → places.once ≡ false → Err Fault.Twice ≡ verdict_of s n
    verdict_locality_twice m h = verdict_twice (λ i. m i && (h i && taken.once))

    pub verdict_tuple_twice : made.once ≡ true → places.once ≡ true → taken.once ≡ false → Err Fault.Twice ≡ verdict_of s n
    verdict_tuple_twice m p h = verdict_twice (λ i. m i && (p i && h i))

    module _ (once_all : (made.once && (places.once && taken.once)) ≡ true) where
      pub verdict_tuple : {b : Bool} → b ≡ tuples_test → b ≡ false → Err Fault.WrongTuple ≡ verdict_of s n
      verdict_tuple {b} e h =
          sym (λ i. first_of true (once_all i) (h i) localities_test roots_test order_test) ∙
          by_tests b localities_test roots_test e refl refl

      -- the present set was looked up
      looked_up : {present : Localities} {c : Bool} → present ≡ n.present → c ≡ W.localities_right present places.names → c ≡ localities_test
      looked_up there f = f ∙ ap (λ (l : Localities). W.localities_right l places.names) there

      pub verdict_locality : {present : Localities} {b c : Bool} → b ≡ tuples_test → b ≡ true → present ≡ n.present → c ≡ W.localities_right present places.names → c ≡ false → Err Fault.WrongLocality ≡ verdict_of s n
      verdict_locality {b = b} {c = c} e h there f k =
          sym (λ i. first_of true (once_all i) (h i) (k i) roots_test order_test) ∙ by_tests b c roots_test e (looked_up there f) refl

      module _ {present : Localities} {b c : Bool} (e : b ≡ tuples_test) (h : b ≡ true) (there : present ≡ n.present) (f : c ≡ W.localities_right present places.names) (k : c ≡ true) where
        pub verdict_root : {d : Bool} → d ≡ roots_test → d ≡ false → Err Fault.WrongRoot ≡ verdict_of s n
        verdict_root {d} g q = sym (λ i. first_of true (once_all i) (h i) (k i) (q i) order_test) ∙ by_tests b c d e (looked_up there f) g

        module _ {d : Bool} (g : d ≡ roots_test) (q : d ≡ true) (evs : Keys) (rows : List Keys) (evs-are : evs ≡ events_of n) (rows_are : rows ≡ rows_of ds n evs) where
          order_found : acyclic key_count (edges rows evs) (members evs) ≡ order_test
          order_found =
              let rows-found : rows ≡ rows_of (deeds_of s n) n (events_of n) = rows_are ∙ (λ i. rows_of (did i) n (evs-are i)) in
              (λ i. acyclic key_count (edges (rows-found i) (evs-are i)) (members (evs-are i))) ∙ cycle_told s n all_agree_lem

          pub verdict_cycle : {o : Bool} → o ≡ acyclic key_count (edges rows evs) (members evs) → o ≡ false → Err Fault.Cycle ≡ verdict_of s n
          verdict_cycle u z =
              let order = sym order_found ∙ sym u ∙ z in
              sym (λ i. first_of true (once_all i) (h i) (k i) (q i) (order i)) ∙ by_tests b c d e (looked_up there f) g

          pub verdict_accepted : {o : Bool} → o ≡ acyclic key_count (edges rows evs) (members evs) → o ≡ true → Ok tt ≡ verdict_of s n
          verdict_accepted u z =
              let order = sym order_found ∙ sym u ∙ z in
              sym (λ i. first_of true (once_all i) (h i) (k i) (q i) (order i)) ∙ by_tests b c d e (looked_up there f) g
