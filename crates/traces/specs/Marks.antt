-- What each turn of a loop over the events finds: the laws that its proof applies, over plain variables.
--
-- In order: a slot that was looked up by its key (`at_key`), which holds an event or none (`event_is`); the kind of a node that was looked up
-- (`no_node`, `node_kind`, `whole_script`); the deeds, with one slot more (`deeds_start`, `deeds_none`, `deeds_more`, `deeds_all`); numbers that
-- rows speak of, and whether each was spoken of once, at any width W (`Seen`, `seen`, `saw`), with one row more, of no number, one, or two
-- (`seen_none`, `seen_one`, `seen_two`); events as a set, with no slot yet and one more (`event_start`, `event_none`, `event_more`); marks of names
-- of any kind, with no row yet and one more (`marks_start`, `marks_none`, `marks_one`), or one event more that speaks of one name (`named_none`,
-- `named_more`); marks of keys, with no row yet and one more (`keys_start`, `keys_none`, `keys_one`, `keys_two`), and what one event more made or
-- used (`made_none`, `made_more`, `used_none`, `used_more`); marks of localities (`places_start`, `place_none`, `place_more`); users of tuples, with
-- no event yet and one slot more (`users_start`, `users_none`, `users_away`, `users_more`); a row from what was looked up (`key_looked`,
-- `read_looked`, `row_looked`); the rows of dependence, with one slot more (`rows_start`, `rows_none`, `rows_more`, `rows_all`).
-- Assumes nothing.
use Rattle.std.specs.Prelude.{◌≡◌, Bool, not, ◌&&◌, ◌||◌, ◌≢◌, ℕ, ◌+◌, ◌≤◌, ◌<◌, eqb, ltb, length, replicate}
use Rattle.std.proofs.Math.Path.{refl, sym, ap}
use Rattle.std.proofs.Common.{ap₂, ◌∙◌, not-suc-le-zero, arith, pow_pos}
use Rattle.std.proofs.Math.Bool.{true, false, and-true, and-false, or-false}
use mathlib.Core.List.{List}
use Rattle.std.proofs.Math.ListN.{set, get_or-replicate, get_or-eq_default}
use Rattle.std.proofs.lemmas.List.{length-replicate}
use borrow.Author.Tests.{eqb-true, eqb-false, eq-eqb, ne_eqb, ltb-true, ltb-false, lt-ltb}
use Rattle.laws.specs.Choice.{pick, cases, agree}
use Rattle.laws.specs.Lists.{tab, tab_of, tab_ext, length_tab, get_d_tab}
use Rattle.laws.specs.Sets.{member, including, member_including_other, member_empty}
use Rattle.order.specs.KeySets.{Set, only, ◌∪◌, ◌∩◌, any, any_not}
use Rattle.order.specs.Distinct.{gathered, gathered_next, distinct, distinct_next, row_none, row_one, row_two}
use Rattle.order.specs.Words.{word_of, word_of_in, word_of_is, word_of_next, word_of_ext, word_of_more}
use Rattle.names.specs.Names.{key_count, locality_count, node_count, key, is_key, is_node}
use Rattle.names.specs.KeySets.{keys, either}
use Rattle.names.specs.Localities.{localities}
use Rattle.names.specs.declared.Key.{Key}
use Rattle.names.specs.declared.Keys.{Keys}
use Rattle.names.specs.declared.Localities.{Localities}
use Rattle.names.specs.declared.Locality.{Locality}
use Rattle.names.specs.declared.Node.{Node}
use Rattle.images.specs.Script.{action0, action_at}
use Rattle.images.specs.Net.{slot_at, slot_with, index_of}
use Rattle.images.specs.Head.{part_at}
use Rattle.images.specs.Read.{action_of, script_of, node_with}
use Rattle.images.specs.declared.Action.{Action}
use Rattle.images.specs.declared.Script.{Script}
use Rattle.images.specs.declared.Slot.{Slot}
use Rattle.images.specs.declared.Net.{Net}
use Rattle.traces.specs.Traces.{deed_of, deeds_of, deed_at, is_event, made_at, named_at, used_at, place_at, marked, marked_key, marked_keys, marked_place, marks, key_marks, place_marks, keys_at, users_at, users_below, users_of, after_key_by, after_read_by, after_key, after_read, row_of, row_at, rows_of}
use Rattle.traces.specs.declared.Marks.{Marks}
use Rattle.traces.specs.Fill.{store_tab, filled, filled_start, filled_blank, filled_store, filled_all}

-- ---- what each event did

-- the slot with a key is the one at its number
pub at_key : (n : Net) (e : ℕ) → e < key_count → slot_with n (key e) ≡ slot_at n e
at_key n e l = rw (lt-ltb e key_count l)

-- a slot that was looked up holds an event or none
event_is : (n : Net) (e : ℕ) (x : Slot) {b : Bool} → x ≡ slot_at n e → eqb x.kind 2 ≡ b → is_event n e ≡ b
event_is n e x is p = sym (ap (λ (y : Slot). eqb y.kind 2) is) ∙ p

-- a number that is no node's does nothing
no_node : (s : Script) (i : ℕ) → length s.nodes ≡ node_count → node_count ≤ i → (action_at s i).kind ≡ 0
no_node s i e h = ap (λ (a : Action). a.kind) (get_or-eq_default s.nodes action0 (omega (arith, e)))

node_kind : (s : Script) → length s.nodes ≡ node_count → (k : Node) → (node_with s k).kind ≡ (action_at s k.0).kind
node_kind s whole k =
    cases (is_node k) (λ t. rw t) (λ t. rw t (sym (no_node s k.0 whole (ltb-false k.0 node_count t))))

-- a script that was taken apart has all its nodes
pub whole_script : (b : List ℕ) → length (script_of b).nodes ≡ node_count
unfolding script_of
whole_script b = length_tab node_count (λ i. action_of (part_at 32 b i))

-- the deeds of the first slots, of the script that the image b holds
module _ (b : List ℕ) (n : Net) where
  abbrev deed : ℕ → ℕ
  deed e = deed_of (script_of b) (slot_at n e)

  abbrev pub deeds_below : ℕ → List ℕ
  deeds_below e = filled key_count (λ e. deed_of (script_of b) (slot_at n e)) 0 e

  pub deeds_start : replicate key_count 0 ≡ deeds_below 0
  deeds_start = filled_start key_count deed 0

  pub deeds_all : deeds_below key_count ≡ deeds_of (script_of b) n
  unfolding deeds_of
  deeds_all = filled_all key_count deed 0

  -- with one slot more, which holds no event or holds one, whose node was looked up
  module _ (e : ℕ) (ds : List ℕ) (h : ds ≡ deeds_below e) (x : Slot) (is : x ≡ slot_at n e) where
    pub deeds_none : eqb x.kind 2 ≡ false → ds ≡ deeds_below (e + 1)
    unfolding deed_of
    deeds_none p =
        h ∙
        filled_blank key_count deed 0 e
        (ap (λ (c : Bool). pick c (action_at (script_of b) (slot_at n e).node.0).kind 0) (event_is n e x is p))

    pub deeds_more : (a : Action) → eqb x.kind 2 ≡ true → e < key_count → a ≡ node_with (script_of b) x.node → set ds e a.kind ≡ deeds_below (e + 1)
    unfolding deed_of
    deeds_more a p l found =
        let by : a.kind ≡ (action_at (script_of b) (slot_at n e).node.0).kind =
        ap (λ (y : Action). y.kind) found ∙ node_kind (script_of b) (whole_script b) x.node ∙
        ap (λ (y : Slot). (action_at (script_of b) y.node.0).kind) is in
        let did : a.kind ≡ deed e =
        by ∙ sym (ap (λ (c : Bool). pick c (action_at (script_of b) (slot_at n e).node.0).kind 0) (event_is n e x is p)) in
        ap (λ (l : List ℕ). set l e a.kind) h ∙ filled_store key_count deed 0 e a.kind l did

same_number : (a b : ℕ) → eqb a b ≡ eqb b a
same_number a b = agree (eqb a b) (eqb b a) (λ t. eq-eqb b a (sym (eqb-true a b t))) (λ t. eq-eqb a b (sym (eqb-true b a t)))

-- ---- numbers spoken of, at any width

-- whether each was spoken of once, and all of them as a word
record Seen : Type 0 where
  once : Bool
  word : ℕ

-- the first i rows together, and whether no two share a number
abbrev seen : ℕ → ℕ → (ℕ → Set) → Seen
seen W i Q = record { once = distinct W i Q; word = word_of W (gathered i Q) }

-- one number more
abbrev saw : ℕ → Seen → ℕ → Seen
saw W m a = pick (ltb a W) (record { once = m.once && not (member m.word a); word = including m.word a }) m

module _ (W i : ℕ) (Q : ℕ → Set) where
  -- what the rows before hold
  abbrev G : Set
  G = gathered i Q

  -- the row i has a number in common with them or not, and holds the numbers of R
  once_next : (b : Bool) → any W (Q i ∩ G) ≡ b → distinct W (i + 1) Q ≡ (distinct W i Q && not b)
  once_next b e = distinct_next W i Q ∙ ap (λ (x : Bool). distinct W i Q && not x) e

  word_next : (R : Set) → ((k : ℕ) → k < W → Q i k ≡ R k) → word_of W (gathered (i + 1) Q) ≡ word_of W (R ∪ G)
  word_next R h =
      word_of_ext W (gathered (i + 1) Q) (R ∪ G) (λ k l. gathered_next i Q k ∙ ap (λ (x : Bool). x || G k) (h k l))

  seen_none : ((k : ℕ) → k < W → Q i k ≡ false) → seen W (i + 1) Q ≡ seen W i Q
  seen_none h =
      let once : distinct W (i + 1) Q ≡ distinct W i Q = once_next false (row_none W (Q i) G h) ∙ and-true (distinct W i Q) in
      let word : word_of W (gathered (i + 1) Q) ≡ word_of W G = word_next (λ k. false) h in
      λ t. record { once = once t; word = word t }

  -- a row of one number, which is seen again if it was seen before
  seen_in : (a : ℕ) → a < W → ((k : ℕ) → k < W → Q i k ≡ eqb k a) → seen W (i + 1) Q ≡ record { once = distinct W i Q && not (member (word_of W G) a); word = including (word_of W G) a }
  seen_in a l h =
      let once = once_next (member (word_of W G) a) (row_one W (Q i) G a l h ∙ sym (word_of_in W G a l)) in
      let word = word_next (only a) h ∙ sym (word_of_more W G a l) in
      λ t. record { once = once t; word = word t }

  seen_one : (a : ℕ) → ((k : ℕ) → k < W → Q i k ≡ eqb k a) → seen W (i + 1) Q ≡ saw W (seen W i Q) a
  seen_one a h =
      cases (ltb a W) (λ p. rw p (seen_in a (ltb-true a W p) h))
      (λ p. rw p (seen_none (λ k l. h k l ∙ ne_eqb k a (λ e. omega (arith, ltb-false a W p)))))

  -- a row of two numbers
  seen_both : (a b : ℕ) → a < W → b < W → b ≢ a → ((k : ℕ) → k < W → Q i k ≡ (eqb k a || eqb k b)) → seen W (i + 1) Q ≡ record { once = (distinct W i Q && not (member (word_of W G) a)) && not (member (including (word_of W G) a) b); word = including (including (word_of W G) a) b }
  seen_both a b l m d h =
      let w = word_of W G in
      let again : (G a || G b) ≡ (member w a || member (including w a) b) =
      ap₂ (λ (x y : Bool). x || y) (sym (word_of_in W G a l)) (sym (member_including_other w a b d ∙ word_of_in W G b m)) in
      let once = once_next _ (row_two W (Q i) G a b l m h ∙ again) ∙ neither (distinct W i Q) (member w a) (member (including w a) b) in
      let word : word_of W (gathered (i + 1) Q) ≡ including (including w a) b =
      word_next (only a ∪ only b) h ∙ word_of_ext W (only a ∪ only b ∪ G) (only b ∪ (only a ∪ G)) (λ k _. swap (eqb k a) (eqb k b) (G k)) ∙
      sym (ap (λ (v : ℕ). including v b) (word_of_more W G a l) ∙ word_of_more W (only a ∪ G) b m) in
      λ t. record { once = once t; word = word t }
    where
      neither : (x y z : Bool) → (x && not (y || z)) ≡ ((x && not y) && not z)
      neither false y z = refl
      neither true true z = refl
      neither true false z = refl

      swap : (x y z : Bool) → ((x || y) || z) ≡ (y || (x || z))
      swap true true z = refl
      swap true false z = refl
      swap false true z = refl
      swap false false z = refl

  seen_two : (a b : ℕ) → b ≢ a → ((k : ℕ) → k < W → Q i k ≡ (eqb k a || eqb k b)) → seen W (i + 1) Q ≡ saw W (saw W (seen W i Q) a) b
  seen_two a b d h =
      cases (ltb a W)
      (λ p.
      cases (ltb b W) (λ q. rw (p, q) (seen_both a b (ltb-true a W p) (ltb-true b W q) d h))
      (λ q. rw (p, q) (seen_in a (ltb-true a W p) (λ k l. h k l ∙ rw (ne_eqb k b (λ e. omega (arith, ltb-false b W q))) (or-false (eqb k a))))))
      (λ p. rw p (seen_one b (λ k l. h k l ∙ rw (ne_eqb k a (λ e. omega (arith, ltb-false a W p))))))

-- ---- events as a set

-- none yet
pub event_start : (n : Net) → keys 0 ≡ keys (word_of 0 (is_event n))
unfolding word_of
event_start n = refl

-- with one slot more, whose kind was looked up: it holds no event or holds one
module _ (n : Net) (e : ℕ) (s : Keys) (h : s ≡ keys (word_of e (is_event n))) (kind : ℕ) (is : kind ≡ (slot_at n e).kind) where
  pub event_none : eqb kind 2 ≡ false → s ≡ keys (word_of (e + 1) (is_event n))
  event_none p = h ∙ sym (ap keys (word_of_next e (is_event n) ∙ rw (← is, p)))

  pub event_more : eqb kind 2 ≡ true → keys (including s.0 e) ≡ keys (word_of (e + 1) (is_event n))
  event_more p =
      ap (λ (y : Keys). keys (including y.0 e)) h ∙
      sym (ap keys (word_of_next e (is_event n) ∙ rw (← is, p)))

-- ---- marks of names

no_numbers : (W : ℕ) (Q : ℕ → Set) → word_of W (gathered 0 Q) ≡ 0
no_numbers W Q =
    sym
    (word_of_is W (gathered 0 Q) 0 (pow_pos W)
    (λ k _. member_empty k ∙ sym (any_not 0 (λ e. Q e k) (λ x l. absurd (not-suc-le-zero l)))))

-- of any kind, whose sets are words
module _ {A N : Type 0} (set_of : ℕ → A) (word : A → ℕ) (number_of : N → ℕ) (limit : ℕ) (back : (w : ℕ) → word (set_of w) ≡ w) where
  -- the same as marks
  abbrev marks_as : Seen → Marks A
  marks_as m = record { once = m.once; names = set_of m.word }

  marked_lem : (m : Seen) (a : N) → marks_as (saw limit m (number_of a)) ≡ marked set_of word number_of limit (marks_as m) a
  unfolding marked
  marked_lem m a = cases (ltb (number_of a) limit) (λ p. rw (p, back m.word)) (λ p. rw p)

  pub marks_start : (Q : ℕ → Set) → marks set_of limit 0 Q ≡ record { once = true; names = set_of 0 }
  unfolding marks distinct
  marks_start Q = λ t. record { once = true; names = set_of (no_numbers limit Q t) }

  module _ (i : ℕ) (Q : ℕ → Set) where
    pub marks_none : ((k : ℕ) → k < limit → Q i k ≡ false) → marks set_of limit (i + 1) Q ≡ marks set_of limit i Q
    unfolding marks
    marks_none h = ap marks_as (seen_none limit i Q h)

    pub marks_one : (a : N) → ((k : ℕ) → k < limit → Q i k ≡ eqb (number_of a) k) → marks set_of limit (i + 1) Q ≡ marked set_of word number_of limit (marks set_of limit i Q) a
    unfolding marks
    marks_one a h =
        ap marks_as (seen_one limit i Q (number_of a) (λ k l. h k l ∙ same_number (number_of a) k)) ∙ marked_lem (seen limit i Q) a

  -- the names that events of the deed d speak of, with one more slot
  module _ (d : ℕ) (ds : List ℕ) (name : ℕ → ℕ) (e : ℕ) (m : Marks A) (h : m ≡ marks set_of limit e (named_at d ds name)) where
    pub named_none : eqb (deed_at ds e) d ≡ false → m ≡ marks set_of limit (e + 1) (named_at d ds name)
    named_none p = h ∙ sym (marks_none e (named_at d ds name) (λ k l. rw p))

    pub named_more : eqb (deed_at ds e) d ≡ true → (a : N) → number_of a ≡ name e → marked set_of word number_of limit m a ≡ marks set_of limit (e + 1) (named_at d ds name)
    named_more p a is =
        ap (λ (y : Marks A). marked set_of word number_of limit y a) h ∙
        sym (marks_one e (named_at d ds name) a (λ k l. rw (p, is)))

-- of keys
abbrev word_back : (w : ℕ) → (keys w).0 ≡ w
word_back w = refl

pub keys_start : (Q : ℕ → Set) → key_marks 0 Q ≡ record { once = true; names = keys 0 }
keys_start = marks_start keys (λ s. s.0) (λ (k : Key). k.0) key_count word_back

-- the same as marks
abbrev as_keys : Seen → Marks Keys
as_keys m = record { once = m.once; names = keys m.word }

one_more : (m : Seen) (a : Key) → as_keys (saw key_count m a.0) ≡ marked_key (as_keys m) a
one_more = marked_lem keys (λ s. s.0) (λ (k : Key). k.0) key_count word_back

module _ (i : ℕ) (Q : ℕ → Set) where
  pub keys_none : ((k : ℕ) → k < key_count → Q i k ≡ false) → key_marks (i + 1) Q ≡ key_marks i Q
  keys_none = marks_none keys (λ s. s.0) (λ (k : Key). k.0) key_count word_back i Q

  pub keys_one : (a : Key) → ((k : ℕ) → k < key_count → Q i k ≡ eqb a.0 k) → key_marks (i + 1) Q ≡ marked_key (key_marks i Q) a
  keys_one = marks_one keys (λ s. s.0) (λ (k : Key). k.0) key_count word_back i Q

  -- "3 and 4 keys made"
  pub keys_two : (a b : Key) → ((k : ℕ) → k < key_count → Q i k ≡ (eqb a.0 k || eqb b.0 k)) → key_marks (i + 1) Q ≡ marked_keys (key_marks i Q) a b
  unfolding marks marked_keys
  keys_two a b h =
      cases (eqb a.0 b.0) (λ p. rw p (keys_one a (λ k l. h k l ∙ rw (← eqb-true a.0 b.0 p) (or_self (eqb a.0 k)))))
      (λ p. rw p (apart (λ e. eqb-false a.0 b.0 p (sym e))))
    where
      or_self : (x : Bool) → (x || x) ≡ x
      or_self true = refl
      or_self false = refl

      apart : b.0 ≢ a.0 → key_marks (i + 1) Q ≡ marked_key (marked_key (key_marks i Q) a) b
      apart d =
          ap as_keys
          (seen_two key_count i Q a.0 b.0 d
          (λ k l. h k l ∙ ap₂ (λ (x y : Bool). x || y) (same_number a.0 k) (same_number b.0 k))) ∙
          one_more (saw key_count (seen key_count i Q) a.0) b ∙
          ap (λ (m : Marks Keys). marked_key m b) (one_more (seen key_count i Q) a)

-- the keys that events made, with one more slot, which holds no event or holds one
module _ (n : Net) (e : ℕ) (m : Marks Keys) (h : m ≡ key_marks e (made_at n)) (x : Slot) (is : x ≡ slot_at n e) where
  pub made_none : eqb x.kind 2 ≡ false → m ≡ key_marks (e + 1) (made_at n)
  made_none p = h ∙ sym (keys_none e (made_at n) (λ k l. rw (event_is n e x is p)))

  pub made_more : eqb x.kind 2 ≡ true → marked_keys m x.first x.second ≡ key_marks (e + 1) (made_at n)
  made_more p =
      (λ i. marked_keys (h i) (is i).first (is i).second) ∙
      sym (keys_two e (made_at n) (slot_at n e).first (slot_at n e).second (λ k l. rw (event_is n e x is p, lt-ltb k key_count l)))

-- the tuples that events used whose deed is d, with one more slot
module _ (d : ℕ) (ds : List ℕ) (n : Net) (e : ℕ) (m : Marks Keys) (h : m ≡ key_marks e (used_at d ds n)) where
  pub used_none : eqb (deed_at ds e) d ≡ false → m ≡ key_marks (e + 1) (used_at d ds n)
  used_none = named_none keys (λ s. s.0) (λ (k : Key). k.0) key_count word_back d ds (λ e. (slot_at n e).used.0) e m h

  pub used_more : eqb (deed_at ds e) d ≡ true → (t : Key) → t ≡ (slot_at n e).used → marked_key m t ≡ key_marks (e + 1) (used_at d ds n)
  used_more p t is =
      named_more keys (λ s. s.0) (λ (k : Key). k.0) key_count word_back d ds (λ e. (slot_at n e).used.0) e m h p t (ap (λ (k : Key). k.0) is)

-- ---- marks of localities

abbrev place_back : (w : ℕ) → (localities w).0 ≡ w
place_back w = refl

pub places_start : (Q : ℕ → Set) → place_marks 0 Q ≡ record { once = true; names = localities 0 }
places_start = marks_start localities (λ s. s.0) (λ (l : Locality). l.0) locality_count place_back

-- the localities that newlocs made, with one more slot
module _ (ds : List ℕ) (n : Net) (e : ℕ) (m : Marks Localities) (h : m ≡ place_marks e (place_at ds n)) where
  pub place_none : eqb (deed_at ds e) 4 ≡ false → m ≡ place_marks (e + 1) (place_at ds n)
  place_none = named_none localities (λ s. s.0) (λ (l : Locality). l.0) locality_count place_back 4 ds (λ e. (slot_at n e).place.0) e m h

  pub place_more : eqb (deed_at ds e) 4 ≡ true → (l : Locality) → l ≡ (slot_at n e).place → marked_place m l ≡ place_marks (e + 1) (place_at ds n)
  place_more p l is =
      named_more localities (λ s. s.0) (λ (l : Locality). l.0) locality_count place_back 4 ds (λ e. (slot_at n e).place.0) e m h p l (ap (λ (k : Locality). k.0) is)

-- ---- users of tuples

module _ (d : ℕ) (ds : List ℕ) (n : Net) where
  -- the users of a tuple, with one event more
  users_next : (e t : ℕ) → users_at d ds n (e + 1) t ≡ pick (used_at d ds n e t) (keys (including (users_at d ds n e t).0 e)) (users_at d ds n e t)
  users_next e t =
      ap keys (word_of_next e (λ f. used_at d ds n f t)) ∙ cases (used_at d ds n e t) (λ p. rw p) (λ p. rw p)

  pub users_start : replicate key_count (keys 0) ≡ users_below 0 d ds n
  unfolding users_below word_of
  users_start =
      tab_of key_count (users_at d ds n 0) (replicate key_count (keys 0)) (keys 0) (length-replicate key_count (keys 0)) (λ t l. get_or-replicate key_count t (keys 0) (keys 0) l)

  -- one event more that used no tuple, or only the tuple u
  same_users : (e : ℕ) → ((t : ℕ) → t < key_count → used_at d ds n e t ≡ false) → users_below e d ds n ≡ users_below (e + 1) d ds n
  unfolding users_below
  same_users e h = sym (tab_ext key_count (users_at d ds n (e + 1)) (users_at d ds n e) (λ t l. users_next e t ∙ rw (h t l)))

  more_users : (e u : ℕ) → u < key_count → used_at d ds n e u ≡ true → ((t : ℕ) → t ≢ u → used_at d ds n e t ≡ false) → set (users_below e d ds n) u (keys (including (keys_at (users_below e d ds n) u).0 e)) ≡ users_below (e + 1) d ds n
  unfolding users_below
  more_users e u l h g =
      let there = ap (λ (s : Keys). keys (including s.0 e)) (get_d_tab key_count (users_at d ds n e) u (keys 0) l) in
      store_tab key_count (users_at d ds n e) (users_at d ds n (e + 1)) u _ (keys 0) l (there ∙ sym (users_next e u ∙ rw h))
      (λ t z. sym (users_next e t ∙ rw (g t z)))

  -- one slot more: of another deed, or one that used what is no tuple, or the tuple that was looked up
  module _ (e : ℕ) (us : List Keys) (h : us ≡ users_below e d ds n) where
    pub users_none : eqb (deed_at ds e) d ≡ false → us ≡ users_below (e + 1) d ds n
    users_none p = h ∙ same_users e (λ t l. rw p)

    pub users_away : (t : Key) → t ≡ (slot_at n e).used → is_key t ≡ false → us ≡ users_below (e + 1) d ds n
    users_away t is q =
        let u = (slot_at n e).used.0 in
        let far : ltb u key_count ≡ false = sym (ap is_key is) ∙ q in
        h ∙ same_users e (λ t l. rw (ne_eqb u t (λ z. omega (arith, ltb-false u key_count far))) (and-false (eqb (deed_at ds e) d)))

    pub users_more : eqb (deed_at ds e) d ≡ true → (t : Key) → t ≡ (slot_at n e).used → is_key t ≡ true → (more : Keys) → more ≡ keys (including (keys_at us t.0).0 e) → set us t.0 more ≡ users_below (e + 1) d ds n
    users_more p t is q more given =
        let u = (slot_at n e).used.0 in
        let near : ltb u key_count ≡ true = sym (ap is_key is) ∙ q in
        ap (set us t.0) given ∙ (λ i. set (h i) (is i).0 (keys (including (keys_at (h i) (is i).0).0 e))) ∙
        more_users e u (ltb-true u key_count near) (rw p (eq-eqb u u refl)) (λ t z. rw p (ne_eqb u t (λ y. z (sym y))))

-- ---- who depends on whom

-- a row from the sets that the code looked up
module _ (takers readers : List Keys) (k : Key) where
  pub key_looked : (i : ℕ) (events : Keys) → i ≡ index_of k → after_key_by events (keys_at takers i) (keys_at readers i) k ≡ after_key events takers readers k
  unfolding after_key_by after_key
  key_looked i events e = cases (is_key k) (λ t. rw (e, t)) (λ t. rw t)

  pub read_looked : (i deed : ℕ) → i ≡ index_of k → after_read_by deed (keys_at takers i) k ≡ after_read deed takers k
  unfolding after_read_by after_read
  read_looked i deed e = cases (is_key k) (λ t. rw (e, t)) (λ t. rw t)

pub row_looked : (deed : ℕ) (x : Slot) (events : Keys) (takers readers : List Keys) {f g u : ℕ} {one two three made row : Keys} → f ≡ index_of x.first → g ≡ index_of x.second → u ≡ index_of x.used
    → one ≡ after_key_by events (keys_at takers f) (keys_at readers f) x.first → two ≡ after_key_by events (keys_at takers g) (keys_at readers g) x.second → three ≡ after_read_by deed (keys_at takers u) x.used
    → made ≡ either one two → row ≡ either made three → row ≡ row_of deed x events takers readers
unfolding row_of
row_looked deed x events takers readers {f} {g} {u} {one} {two} {three} {made} {row} is_f is-g is-u is_one is-two is-three is_made is_row =
    let first : one ≡ after_key events takers readers x.first = is_one ∙ key_looked takers readers x.first f events is_f in
    let second : two ≡ after_key events takers readers x.second = is-two ∙ key_looked takers readers x.second g events is-g in
    let third : three ≡ after_read deed takers x.used = is-three ∙ read_looked takers readers x.used u deed is-u in
    is_row ∙ ap (λ (m : Keys). either m three) is_made ∙ (λ i. either (either (first i) (second i)) (third i))

-- the rows of the first slots, by the takers and readers of the tuples
module _ (ds : List ℕ) (n : Net) (events : Keys) (takers readers : List Keys) where
  abbrev pub rows_below : ℕ → List Keys
  rows_below e = filled key_count (row_at ds n events takers readers) (keys 0) e

  pub rows_start : replicate key_count (keys 0) ≡ rows_below 0
  rows_start = filled_start key_count (row_at ds n events takers readers) (keys 0)

  pub rows_all : takers ≡ users_of 2 ds n → readers ≡ users_of 3 ds n → rows_below key_count ≡ rows_of ds n events
  unfolding rows_of
  rows_all t r =
      filled_all key_count (row_at ds n events takers readers) (keys 0) ∙ (λ i. tab key_count (row_at ds n events (t i) (r i)))

  -- with one slot more, which holds no event or holds one
  module _ (e : ℕ) (rows : List Keys) (h : rows ≡ rows_below e) (x : Slot) (is : x ≡ slot_at n e) where
    pub rows_none : eqb x.kind 2 ≡ false → rows ≡ rows_below (e + 1)
    unfolding row_at
    rows_none p =
        h ∙
        filled_blank key_count (row_at ds n events takers readers) (keys 0) e
        (ap (λ (c : Bool). pick c (row_of (deed_at ds e) (slot_at n e) events takers readers) (keys 0)) (event_is n e x is p))

    pub rows_more : (row : Keys) → eqb x.kind 2 ≡ true → e < key_count → row ≡ row_of (deed_at ds e) x events takers readers → set rows e row ≡ rows_below (e + 1)
    unfolding row_at
    rows_more row p l made =
        let by : row ≡ row_at ds n events takers readers e =
        made ∙ ap (λ (y : Slot). row_of (deed_at ds e) y events takers readers) is ∙
        sym (ap (λ (c : Bool). pick c (row_of (deed_at ds e) (slot_at n e) events takers readers) (keys 0)) (event_is n e x is p)) in
        ap (λ (r : List Keys). set r e row) h ∙ filled_store key_count (row_at ds n events takers readers) (keys 0) e row l by
