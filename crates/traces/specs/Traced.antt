-- What the code finds of the events of a net is what the theory says of its view: who made and used what, whether once, and who depends on whom.
--
-- In order: what the rows of dependence say, over any rules (`Used`, `placed_used`, `in_row`, `row_depends`); what an event's record says
-- (`event_at`, `made_at_lem`, `taken_at`, `read_at`, `place_at_lem`); the sets that the code finds (`events_in_lem`, `keys_once`, `keys_in`,
-- `localities_once`, `localities_in`, `taken_once`, `taken_in`); who depends on an event (`rows_depend`), as a
-- graph among the events (`edges_depend`).
-- Assumes nothing.
use Rattle.std.specs.Prelude.{◌≡◌, refl, Bool, true, false, ◌&&◌, ◌||◌, List, ℕ, ◌≤◌, ◌<◌, ltb, get_or}
use Rattle.std.proofs.Common.{sym, ◌∙◌, ⊎_elim, arith}
use Rattle.std.proofs.Math.Path.{ap, ap₂}
use Rattle.std.proofs.Math.Bool.{and-true, and-false, and_assoc}
use Rattle.std.specs.Int.Bits.{bit_or}
use Rattle.std.proofs.Math.Dec.{eqb}
use borrow.Author.Tests.{eqb-true, eq-eqb, ne_eqb, ltb-true, ltb-false, lt-ltb}
use Rattle.laws.specs.Choice.{pick, cases, and_left, and_right, and_both, or_left, or_right, or_cases, agree}
use Rattle.laws.specs.Lists.{get_d_tab}
use Rattle.laws.specs.Sets.{member, member_or, member_empty}
use Rattle.order.specs.KeySets.{Set, ◌∈◌, any, any_ext}
use Rattle.order.specs.Distinct.{gathered, distinct, distinct_ext}
use Rattle.order.specs.Words.{word_of_in, word_including}
use Rattle.names.specs.Names.{key_count, locality_count, key, locality}
use Rattle.names.specs.KeySets.{keys, is_in, either}
use Rattle.names.specs.Localities.{holds}
use Rattle.names.specs.declared.Keys.{Keys}
use Rattle.images.specs.Net.{slot_at}
use Rattle.images.specs.declared.Script.{Script}
use Rattle.images.specs.declared.Slot as Image
use Rattle.images.specs.declared.Net as Images
use Rattle.nets.specs.Rules.{Rules, none, number, uses, is_take, is_read, read_uses}
use Rattle.nets.specs.Net.{is_past, Slot, Net, events, made_key, took_tuple, read_tuple, made_locality, makes, takes, reads, makes_locality, is_made, is_made_locality, depends, Cause, made_key_lem, made_tuple, read_before}
use Rattle.nets.specs.Rule.{Places}
use Rattle.nets.specs.Records.{made_below, made_cases, made_first, made_second, took_past, took_is, took_of, read_past, read_act, read_is, read_of}
use Rattle.nets.proofs.Events.{cause_depends, depends_cause, cause_past}
use Rattle.products.specs.Body.{body_of}
use Rattle.products.specs.Products.{kind_of}
use Rattle.rules.specs.Instance.{rules_of, act, same_kind}
use Rattle.rules.specs.View.{kind_as, past_is, view, view_slot, beyond}
use Rattle.traces.specs.Traces.{deed_of, deeds_of, deed_at, is_event, events_of, made_at, used_at, place_at, marks, keys_made, localities_made, tuples_taken, keys_at, users_at, users_below, users_of, after_key, after_read, row_of, row_at, rows_of}

-- ---- what a row says, over any rules

-- an event that uses a tuple has its key, and one that does not has none
pub record Used {R : Rules} (n : Net R) : Type 0 where
  pub used : (e : ℕ) → e ∈ events n → uses (R.act (n.slot e).body) ≡ true → (n.slot e).used < R.keys
  pub no_used : (e : ℕ) → e ∈ events n → uses (R.act (n.slot e).body) ≡ false → (n.slot e).used ≡ none

pub placed_used : {R : Rules} (n : Net R) → ((e : ℕ) → e ∈ events n → Places (n.slot e)) → Used n
placed_used n places = record { used = λ e p. (places e p).used; no_used = λ e p. (places e p).no_used }

module _ {R : Rules} (n : Net R) where
  -- f depends on who made the key k: f is its event, or used that tuple
  abbrev after_made : ℕ → ℕ → Bool
  after_made k f = ltb k R.keys && ((eqb f k && events n k) || (takes n f k || reads n f k))

  -- f is in the row of e, whose record is x: it depends on who made one of the two keys, or took the tuple that e read
  abbrev in_row : Slot R → ℕ → ℕ → Bool
  in_row x e f =
      (after_made x.first f || after_made x.second f) || (reads n e x.used && (ltb x.used R.keys && takes n f x.used))

  -- the event of a key that e made, or a user of that tuple, depends on e
  after_depends : (e k f : ℕ) → makes n e k ≡ true → after_made k f ≡ true → depends n e f ≡ true
  after_depends e k f made h =
      or_cases (eqb f k && events n k) _ (and_right (ltb k R.keys) _ h)
      (λ p.
      let is : f ≡ k = eqb-true f k (and_left (eqb f k) _ p) in
      cause_depends n e f (ap (events n) is ∙ and_right (eqb f k) _ p) (made_key_lem (ap (makes n e) is ∙ made)))
      (λ p.
      or_cases (takes n f k) (reads n f k) p
      (λ t. cause_depends n e f (took_past k (n.slot f) t) (made_tuple (ap (makes n e) (took_is k (n.slot f) t) ∙ made)))
      (λ t. cause_depends n e f (read_past k (n.slot f) t) (made_tuple (ap (makes n e) (read_is k (n.slot f) t) ∙ made))))

  row_cause : (e f : ℕ) → e ∈ events n → in_row (n.slot e) e f ≡ true → depends n e f ≡ true
  row_cause e f p h =
      or_cases (after_made (n.slot e).first f || after_made (n.slot e).second f) _ h
      (λ q.
      or_cases (after_made (n.slot e).first f) (after_made (n.slot e).second f) q
      (λ a.
      after_depends e (n.slot e).first f
      (made_first (n.slot e) p (ltb-true (n.slot e).first R.keys (and_left (ltb (n.slot e).first R.keys) _ a))) a)
      (λ a.
      after_depends e (n.slot e).second f
      (made_second (n.slot e) p (ltb-true (n.slot e).second R.keys (and_left (ltb (n.slot e).second R.keys) _ a))) a))
      (λ q.
      let took : takes n f (n.slot e).used ≡ true =
      and_right (ltb (n.slot e).used R.keys) _ (and_right (reads n e (n.slot e).used) _ q) in
      let is : (n.slot f).used ≡ (n.slot e).used = took_is (n.slot e).used (n.slot f) took in
      cause_depends n e f (took_past (n.slot e).used (n.slot f) took)
      (read_before (ap (reads n e) is ∙ and_left (reads n e (n.slot e).used) _ q) (ap (takes n f) is ∙ took)))

  -- a key that e made
  in_made : (e k f : ℕ) → makes n e k ≡ true → after_made k f ≡ true → in_row (n.slot e) e f ≡ true
  in_made e k f made h =
      or_left (after_made (n.slot e).first f || after_made (n.slot e).second f) _
      (⊎_elim (λ (is : (n.slot e).first ≡ k). or_left (after_made (n.slot e).first f) _ (ap (λ (j : ℕ). after_made j f) is ∙ h))
      (λ (is : (n.slot e).second ≡ k). or_right (after_made (n.slot e).first f) _ (ap (λ (j : ℕ). after_made j f) is ∙ h))
      (made_cases k (n.slot e) made))

  module _ (good : Used n) where
    -- an event whose byte 5 holds a key took or read it
    user : (f : ℕ) → f ∈ events n → (n.slot f).used < R.keys → (takes n f (n.slot f).used || reads n f (n.slot f).used) ≡ true
    user f p l =
        cases (uses (R.act (n.slot f).body))
        (λ u.
        or_cases (is_take (R.act (n.slot f).body)) (is_read (R.act (n.slot f).body)) u
        (λ q. or_left (takes n f (n.slot f).used) _ (took_of (n.slot f) p q))
        (λ q. or_right (takes n f (n.slot f).used) _ (read_of (n.slot f) p q)))
        (λ u. absurd (omega (arith, good.no_used f p u, R.few)))

    cause_row : (e f : ℕ) → f ∈ events n → Cause n e f → in_row (n.slot e) e f ≡ true
    cause_row e f p (made_key_lem h) =
        in_made e f f h
        (and_both (ltb f R.keys) _ (lt-ltb f R.keys (made_below f (n.slot e) h))
        (or_left (eqb f f && events n f) _ (and_both (eqb f f) _ (eq-eqb f f refl) p)))
    cause_row e f p (made_tuple h) =
        let l = made_below (n.slot f).used (n.slot e) h in
        in_made e (n.slot f).used f h
        (and_both (ltb (n.slot f).used R.keys) _ (lt-ltb (n.slot f).used R.keys l)
        (or_right (eqb f (n.slot f).used && events n (n.slot f).used) _ (user f p l)))
    cause_row e f p (read_before h t) =
        let is : (n.slot e).used ≡ (n.slot f).used = read_is (n.slot f).used (n.slot e) h in
        let l = good.used e (read_past (n.slot f).used (n.slot e) h) (read_uses (R.act (n.slot e).body) (read_act (n.slot f).used (n.slot e) h)) in
        or_right (after_made (n.slot e).first f || after_made (n.slot e).second f) _
        (and_both (reads n e (n.slot e).used) _ (ap (reads n e) is ∙ h)
        (and_both (ltb (n.slot e).used R.keys) _ (lt-ltb (n.slot e).used R.keys l) (ap (takes n f) is ∙ t)))

    -- the members of an event's row are those that depend on it directly
    row_depends : (e f : ℕ) → (events n e && in_row (n.slot e) e f) ≡ depends n e f
    row_depends e f =
        agree (events n e && in_row (n.slot e) e f) (depends n e f)
        (λ h. row_cause e f (and_left (events n e) _ h) (and_right (events n e) _ h))
        (λ h.
        let (p, why) = depends_cause n e f h in
        and_both (events n e) _ (cause_past n e f why) (cause_row e f p why))

-- ---- what an event's record says

module _ (s : Script) where
  -- a deed is the kind of an event's node
  deed_is : (x : Image.Slot) (d : ℕ) → 1 ≤ d → d < 8 → eqb (deed_of s x) d ≡ (is_past (kind_as x.kind) && eqb (number (act s (body_of x))) d)
  unfolding deed_of
  deed_is x d l h =
      cases (eqb x.kind 2) (λ p. rw (past_is x.kind, p) (sym (same_kind (kind_of s (body_of x)) d l h)))
      (λ p. rw (past_is x.kind, p) (ne_eqb 0 d (λ z. omega arith)))

  deed_and : (x : Image.Slot) (d : ℕ) (q : Bool) → 1 ≤ d → d < 8 → (eqb (deed_of s x) d && q) ≡ (is_past (kind_as x.kind) && (eqb (number (act s (body_of x))) d && q))
  deed_and x d q l h =
      ap (λ (b : Bool). b && q) (deed_is x d l h) ∙ and_assoc (is_past (kind_as x.kind)) (eqb (number (act s (body_of x))) d) q

module _ (s : Script) (n : Images.Net) where
  pub event_at : (e : ℕ) → e < key_count → is_event n e ≡ events (view s n) e
  event_at e l =
      sym (ap (λ (x : Slot (rules_of s)). is_past x.kind) (view_slot s n e l) ∙ past_is (slot_at n e).kind)

  pub made_at_lem : (e k : ℕ) → e < key_count → made_at n e k ≡ makes (view s n) e k
  unfolding made_key
  made_at_lem e k l =
      ap (λ (b : Bool). b && (ltb k key_count && (eqb (slot_at n e).first.0 k || eqb (slot_at n e).second.0 k))) (sym (past_is (slot_at n e).kind)) ∙
      ap (λ (x : Slot (rules_of s)). made_key k x) (sym (view_slot s n e l))

  -- the deed with this key
  deed_at_lem : (e : ℕ) → e < key_count → deed_at (deeds_of s n) e ≡ deed_of s (slot_at n e)
  unfolding deeds_of
  deed_at_lem e l = get_d_tab key_count (λ e. deed_of s (slot_at n e)) e 0 l

  deed_at_and : (e d : ℕ) (q : Bool) → e < key_count → 1 ≤ d → d < 8 → (eqb (deed_at (deeds_of s n) e) d && q) ≡ (is_past (kind_as (slot_at n e).kind) && (eqb (number (act s (body_of (slot_at n e)))) d && q))
  deed_at_and e d q l a b = ap (λ (x : ℕ). eqb x d && q) (deed_at_lem e l) ∙ deed_and s (slot_at n e) d q a b

  pub taken_at : (e t : ℕ) → e < key_count → used_at 2 (deeds_of s n) n e t ≡ takes (view s n) e t
  unfolding took_tuple
  taken_at e t l =
      deed_at_and e 2 (eqb (slot_at n e).used.0 t) l (omega arith) (omega arith) ∙
      ap (λ (x : Slot (rules_of s)). took_tuple t x) (sym (view_slot s n e l))

  pub read_at : (e t : ℕ) → e < key_count → used_at 3 (deeds_of s n) n e t ≡ reads (view s n) e t
  unfolding read_tuple
  read_at e t l =
      deed_at_and e 3 (eqb (slot_at n e).used.0 t) l (omega arith) (omega arith) ∙
      ap (λ (x : Slot (rules_of s)). read_tuple t x) (sym (view_slot s n e l))

  pub place_at_lem : (e m : ℕ) → e < key_count → place_at (deeds_of s n) n e m ≡ makes_locality (view s n) e m
  unfolding made_locality
  place_at_lem e m l =
      deed_at_and e 4 (eqb (slot_at n e).place.0 m) l (omega arith) (omega arith) ∙
      ap (λ (x : Slot (rules_of s)). made_locality m x) (sym (view_slot s n e l))

  -- ---- the sets that the code finds

  pub events_in_lem : (k : ℕ) → k < key_count → is_in (events_of n) (key k) ≡ events (view s n) k
  unfolding events_of
  events_in_lem k l = word_of_in key_count (is_event n) k l ∙ event_at k l

  pub keys_once : (keys_made n).once ≡ distinct key_count key_count (makes (view s n))
  unfolding marks
  keys_once = distinct_ext key_count key_count (made_at n) (makes (view s n)) (λ e k l _. made_at_lem e k l)

  pub keys_in : (k : ℕ) → k < key_count → is_in (keys_made n).names (key k) ≡ is_made (view s n) k
  unfolding marks
  keys_in k l =
      word_of_in key_count (gathered key_count (made_at n)) k l ∙
      any_ext key_count (λ e. made_at n e k) (λ e. makes (view s n) e k) (λ e m. made_at_lem e k m)

  pub localities_once : (localities_made (deeds_of s n) n).once ≡ distinct locality_count key_count (makes_locality (view s n))
  unfolding marks
  localities_once =
      distinct_ext locality_count key_count (place_at (deeds_of s n) n) (makes_locality (view s n)) (λ e m l _. place_at_lem e m l)

  pub localities_in : (m : ℕ) → m < locality_count → holds (localities_made (deeds_of s n) n).names (locality m) ≡ is_made_locality (view s n) m
  unfolding marks
  localities_in m l =
      word_of_in locality_count (gathered key_count (place_at (deeds_of s n) n)) m l ∙
      any_ext key_count (λ e. place_at (deeds_of s n) n e m) (λ e. makes_locality (view s n) e m) (λ e k. place_at_lem e m k)

  pub taken_once : (tuples_taken (deeds_of s n) n).once ≡ distinct key_count key_count (takes (view s n))
  unfolding marks
  taken_once = distinct_ext key_count key_count (used_at 2 (deeds_of s n) n) (takes (view s n)) (λ e t l _. taken_at e t l)

  pub taken_in : (t : ℕ) → t < key_count → is_in (tuples_taken (deeds_of s n) n).names (key t) ≡ any key_count (λ f. takes (view s n) f t)
  unfolding marks
  taken_in t l =
      word_of_in key_count (gathered key_count (used_at 2 (deeds_of s n) n)) t l ∙
      any_ext key_count (λ f. used_at 2 (deeds_of s n) n f t) (λ f. takes (view s n) f t) (λ f m. taken_at f t m)

-- ---- who depends on an event

-- what the code's tests say of f: it depends on who made the key k
module _ (ds : List ℕ) (n : Images.Net) where
  abbrev after : ℕ → ℕ → Bool
  after k f = ltb k key_count && ((eqb f k && is_event n k) || (used_at 2 ds n f k || used_at 3 ds n f k))

  users_in : (d k f : ℕ) → k < key_count → f < key_count → member (keys_at (users_of d ds n) k).0 f ≡ used_at d ds n f k
  unfolding users_below
  users_in d k f l m =
      ap (λ (s : Keys). member s.0 f) (get_d_tab key_count (users_at d ds n key_count) k (keys 0) l) ∙
      word_of_in key_count (λ f. used_at d ds n f k) f m

  either_in : (k f : ℕ) → k < key_count → f < key_count → is_in (either (keys_at (users_of 2 ds n) k) (keys_at (users_of 3 ds n) k)) (key f) ≡ (used_at 2 ds n f k || used_at 3 ds n f k)
  either_in k f l m =
      member_or (keys_at (users_of 2 ds n) k).0 (keys_at (users_of 3 ds n) k).0 f ∙
      ap₂ (λ (a b : Bool). a || b) (users_in 2 k f l m) (users_in 3 k f l m)

  after_key_in : (k f : ℕ) → f < key_count → is_in (after_key (events_of n) (users_of 2 ds n) (users_of 3 ds n) (key k)) (key f) ≡ after k f
  unfolding after_key events_of
  after_key_in k f m =
      cases (ltb k key_count)
      (λ p.
      let l = ltb-true k key_count p in
      let event : is_in (events_of n) (key k) ≡ is_event n k = word_of_in key_count (is_event n) k l in
      cases (is_event n k)
      (λ q.
      rw (p, event ∙ q, q, and-true (eqb f k))
      (ap (λ (T : Set). T f) (word_including (bit_or (keys_at (users_of 2 ds n) k).0 (keys_at (users_of 3 ds n) k).0) k) ∙
      ap (λ (b : Bool). eqb f k || b) (either_in k f l m)))
      (λ q. rw (p, event ∙ q, q, and-false (eqb f k)) (either_in k f l m)))
      (λ p. rw p (member_empty f))

  after_read_in : (d t f : ℕ) → f < key_count → is_in (after_read d (users_of 2 ds n) (key t)) (key f) ≡ (eqb d 3 && (ltb t key_count && used_at 2 ds n f t))
  unfolding after_read
  after_read_in d t f m =
      cases (eqb d 3)
      (λ p.
      cases (ltb t key_count) (λ q. rw (p, q) (users_in 2 t f (ltb-true t key_count q) m)) (λ q. rw (p, q) (member_empty f)))
      (λ p. rw p (member_empty f))

  -- the row of e, if e is an event
  row_in : (e f : ℕ) → f < key_count → is_in (row_of (deed_at ds e) (slot_at n e) (events_of n) (users_of 2 ds n) (users_of 3 ds n)) (key f) ≡ ((after (slot_at n e).first.0 f || after (slot_at n e).second.0 f) || (eqb (deed_at ds e) 3 && (ltb (slot_at n e).used.0 key_count && used_at 2 ds n f (slot_at n e).used.0)))
  unfolding row_of
  row_in e f m =
      let us = users_of 2 ds n in
      let vs = users_of 3 ds n in
      let a = after_key (events_of n) us vs (slot_at n e).first in
      let b = after_key (events_of n) us vs (slot_at n e).second in
      let r = after_read (deed_at ds e) us (slot_at n e).used in
      member_or (bit_or a.0 b.0) r.0 f ∙
      ap₂ (λ (x y : Bool). x || y)
      (member_or a.0 b.0 f ∙
      ap₂ (λ (x y : Bool). x || y) (after_key_in (slot_at n e).first.0 f m) (after_key_in (slot_at n e).second.0 f m))
      (after_read_in (deed_at ds e) (slot_at n e).used.0 f m)

  -- the row that the code finds, if e is an event
  row_of_event : (e f : ℕ) → e < key_count → is_event n e ≡ true → is_in (get_or (rows_of ds n (events_of n)) e (keys 0)) (key f) ≡ is_in (row_of (deed_at ds e) (slot_at n e) (events_of n) (users_of 2 ds n) (users_of 3 ds n)) (key f)
  unfolding rows_of row_at
  row_of_event e f l p =
      let row = row_of (deed_at ds e) (slot_at n e) (events_of n) (users_of 2 ds n) (users_of 3 ds n) in
      ap (λ (s : Keys). member s.0 f)
      (get_d_tab key_count (row_at ds n (events_of n) (users_of 2 ds n) (users_of 3 ds n)) e (keys 0) l ∙ ap (λ (b : Bool). pick b row (keys 0)) p)

module _ (s : Script) (n : Images.Net) where
  -- the same by the theory
  after_is : (k f : ℕ) → f < key_count → after (deeds_of s n) n k f ≡ after_made (view s n) k f
  after_is k f m =
      cases (ltb k key_count)
      (λ p.
      rw p
      (ap₂ (λ (x y : Bool). (eqb f k && x) || y) (event_at s n k (ltb-true k key_count p))
      (ap₂ (λ (x y : Bool). x || y) (taken_at s n f k m) (read_at s n f k m))))
      (λ p. rw p)

  read_is_deed : (e : ℕ) → e < key_count → eqb (deed_at (deeds_of s n) e) 3 ≡ reads (view s n) e (slot_at n e).used.0
  read_is_deed e l =
      sym (ap (λ (b : Bool). eqb (deed_at (deeds_of s n) e) 3 && b) (eq-eqb (slot_at n e).used.0 (slot_at n e).used.0 refl) ∙ and-true (eqb (deed_at (deeds_of s n) e) 3)) ∙
      read_at s n e (slot_at n e).used.0 l

  row_is : (e f : ℕ) → e < key_count → f < key_count → e ∈ events (view s n) → is_in (get_or (rows_of (deeds_of s n) n (events_of n)) e (keys 0)) (key f) ≡ in_row (view s n) ((view s n).slot e) e f
  row_is e f l m p =
      row_of_event (deeds_of s n) n e f l (event_at s n e l ∙ p) ∙
      row_in (deeds_of s n) n e f m ∙
      ap₂ (λ (x y : Bool). x || y)
      (ap₂ (λ (x y : Bool). x || y) (after_is (slot_at n e).first.0 f m) (after_is (slot_at n e).second.0 f m))
      (ap₂ (λ (x y : Bool). x && (ltb (slot_at n e).used.0 key_count && y)) (read_is_deed e l) (taken_at s n f (slot_at n e).used.0 m)) ∙
      ap (λ (x : Slot (rules_of s)). in_row (view s n) x e f) (sym (view_slot s n e l))

  -- f depends directly on e exactly when e is an event and f is in its row
  pub rows_depend : Used (view s n) → (e f : ℕ) → e < key_count → f < key_count → (events (view s n) e && is_in (get_or (rows_of (deeds_of s n) n (events_of n)) e (keys 0)) (key f)) ≡ depends (view s n) e f
  rows_depend good e f l m =
      when_both (events (view s n) e) (row_is e f l m) ∙ row_depends (view s n) good e f
    where
      when_both : (a : Bool) {b c : Bool} → (a ≡ true → b ≡ c) → (a && b) ≡ (a && c)
      when_both true h = h refl
      when_both false h = refl

  -- an event is a member of the events' word below the number of keys
  pub event_in : (k : ℕ) → (ltb k key_count && is_in (events_of n) (key k)) ≡ events (view s n) k
  event_in k =
      cases (ltb k key_count) (λ p. rw p (events_in_lem s n k (ltb-true k key_count p)))
      (λ p. rw p (sym (ap (λ (x : Slot (rules_of s)). is_past x.kind) (beyond s n k (ltb-false k key_count p)))))

  -- so the graph of the rows among the events is dependence, at all numbers
  pub edges_depend : Used (view s n) → (e f : ℕ) → ((ltb e key_count && is_in (events_of n) (key e)) && ((ltb f key_count && is_in (events_of n) (key f)) && is_in (get_or (rows_of (deeds_of s n) n (events_of n)) e (keys 0)) (key f))) ≡ depends (view s n) e f
  edges_depend good e f =
      ap₂ (λ (x y : Bool). x && (y && row)) (event_in e) (event_in f) ∙
      agree (events (view s n) e && (events (view s n) f && row)) (depends (view s n) e f)
      (λ h.
      let p = and_left (events (view s n) e) _ h in
      let q = and_right (events (view s n) e) _ h in
      sym (rows_depend good e f (below e p) (below f (and_left (events (view s n) f) _ q))) ∙
      and_both (events (view s n) e) row p (and_right (events (view s n) f) _ q))
      (λ h.
      let (q, why) = depends_cause (view s n) e f h in
      let p = cause_past (view s n) e f why in
      and_both (events (view s n) e) _ p
      (and_both (events (view s n) f) _ q (and_right (events (view s n) e) row (rows_depend good e f (below e p) (below f q) ∙ h))))
    where
      row : Bool
      row = is_in (get_or (rows_of (deeds_of s n) n (events_of n)) e (keys 0)) (key f)

      below : (k : ℕ) → k ∈ events (view s n) → k < key_count
      below k p = ltb-true k key_count (and_left (ltb k key_count) _ (event_in k ∙ p))
