-- What is in the way of undoing an event: an event that depends on it directly, found by looking at what it made and used.
-- In order: who used a tuple and who took it (`uses_key`, `takes_key`, `took`; `used_by`, `taken_by`), and the least of them (`least_of`, `Least`, `user_of`,
-- `taker_of`); `way_of`, in the code's order; the least, from a search (`least_here`, `least_none`), and what it says (`least_found`, `least_missing`); what a search
-- sees at a slot (`unused_event`, `used_yes`, `untaken_event`, `taken_yes` and their kin); each way out of `way_of` (`Out`, `ways`); what an event used of what another made (`used_made`, `used_second`); what is in the way depends on the event (`way_behind`), and where
-- nothing is, nothing does (`way_clear`); so nothing is in the way exactly of an event that may be undone (`clear_undoable`, `behind_not`,
-- `undoable_clear`).
-- Assumes nothing.
use Rattle.std.specs.Prelude.{ℕ, zero, suc, ◌<◌, ◌≡◌, refl, ◌⊎◌, Bool, true, false, ◌&&◌, not, ltb, length, Option, Some, None}
use Rattle.std.proofs.Math.Path.{ap, sym, subst}
use Rattle.std.proofs.Common.{◌∙◌, inl, inr, ⊎_elim, true≢false, arith, eqb-true, eq-eqb, ne_eqb, ltb-true, ltb-false, lt-ltb, le-ltb}
use Rattle.std.proofs.Math.Dec.{eqb}
use Rattle.std.proofs.Math.ListN.{get_or-eq_default}
use Rattle.std.proofs.lemmas.Bool.{not-true, not-false}
use Rattle.laws.specs.Choice.{pick, cases, clash, fails, and_left, and_right, and_both}
use Rattle.laws.specs.Checks.{first_not, first_at, first_none}
use Rattle.order.specs.KeySets.{◌∈◌}
use Rattle.names.specs.Names.{key_count, node_count, key, is_key, is_node}
use Rattle.names.specs.declared.Key.{Key}
use Rattle.names.specs.declared.Node.{Node}
use Rattle.images.specs.Shape.{ShapedScript}
use Rattle.images.specs.Script.{action0, action_at}
use Rattle.images.specs.Net.{slot_at, slot_with}
use Rattle.images.specs.Read.{node_with}
use Rattle.images.specs.declared.Action.{Action}
use Rattle.images.specs.declared.Script.{Script}
use Rattle.images.specs.declared.Slot.{Slot}
use Rattle.images.specs.declared.Net.{Net}
use Rattle.nets.specs.Rules.{Rules, none, Act, is_read, uses, second_of, is_there}
use Rattle.nets.specs.Rules as R
use Rattle.nets.specs.Net as N
use Rattle.nets.specs.Net.{Kind, live, tuple, consumed, kind_number, is_live, is_past, is_consumed, events, makes, reads, takes, took_tuple, depends, Cause, made_key_lem, made_tuple, read_before}
use Rattle.nets.specs.Rule.{met, product}
use Rattle.nets.specs.Undo.{Undoable}
use Rattle.nets.specs.Accepted.{Accepted}
use Rattle.nets.specs.Records.{kind_eq, made_below, made_cases, made_first, made_second, took_past, took_is, read_act, read_is, read_of, forget_tuple, Made, continuation, the_tuple, the_process}
use Rattle.nets.proofs.Events.{cause_depends, depends_cause, event_below, take_consumed, made_there, made_as, undoable_last, last_undoable}
use Rattle.rules.specs.Instance.{rules_of}
use Rattle.rules.specs.Acts as Acts
use Rattle.rules.specs.View.{view, slot_view, view_slot, view_with, live_is, past_is, consumed_is}

-- ---- what the code looks for

-- the slot holds an event that used the tuple; one at an in node
unfoldable pub uses_key : Slot → Key → Bool
uses_key x t = eqb x.kind 2 && eqb x.used.0 t.0

unfoldable pub takes_key : Script → Slot → Key → Bool
takes_key s x t = eqb x.kind 2 && (eqb x.used.0 t.0 && eqb (node_with s x.node).kind 2)

-- the slot holds an event at an in
abbrev pub took : Script → Slot → Bool
took s x = eqb x.kind 2 && eqb (node_with s x.node).kind 2

unfoldable pub used_by : Net → Key → ℕ → Bool
used_by n t f = uses_key (slot_at n f) t

unfoldable pub taken_by : Script → Net → Key → ℕ → Bool
taken_by s n t f = takes_key s (slot_at n f) t

abbrev first_of : (ℕ → Bool) → ℕ
first_of p = first_not key_count (λ f. not (p f))

-- the least key for which the test holds
unfoldable pub least_of : (ℕ → Bool) → Option Key
least_of p =
    pick (ltb (first_not key_count (λ f. not (p f))) key_count) (Some (key (first_not key_count (λ f. not (p f))))) None

-- the least key at which a test answers yes, by what the test may answer at a key
abbrev pub Least : (Key → Bool → Type 0) → Option Key → Type 0
Least post o = (p : ℕ → Bool) → ((k : Key) (b : Bool) → k.0 < key_count → post k b → b ≡ p k.0) → o ≡ least_of p

unfoldable pub user_of : Net → Key → Option Key
user_of n t = least_of (used_by n t)

unfoldable pub taker_of : Script → Net → Key → Option Key
taker_of s n t = least_of (taken_by s n t)

unfoldable pub way_of : Script → Net → Key → Option Key
way_of s n k =
    pick (eqb (slot_with n (slot_with n k).first).kind 2) (Some (slot_with n k).first)
    (pick (is_key (slot_with n k).second)
    (pick (eqb (slot_with n (slot_with n k).second).kind 1) None
    (pick (eqb (slot_with n (slot_with n k).second).kind 2) (Some (slot_with n k).second) (user_of n (slot_with n k).second)))
    (pick (eqb (node_with s (slot_with n k).node).kind 3)
    (pick (eqb (slot_with n (slot_with n k).used).kind 4) (taker_of s n (slot_with n k).used) None) None))

-- ---- ways

abbrev behind_key : Option Key → ℕ
behind_key None = 0
behind_key (Some f) = f.0

abbrev is_behind : Option Key → Bool
is_behind None = false
is_behind (Some f) = true

pub not_behind : {A : Type 0} {f : Key} → None ≡ Some f → A
not_behind e = absurd (true≢false (sym (ap is_behind e)))

pub behind_same : {f g : Key} → Some f ≡ Some g → f.0 ≡ g.0
behind_same e = ap behind_key e

-- ---- the least

-- a test fails first at some number below n, or at none
first_split {ℓ} : {A : Type ℓ} (n : ℕ) (f : ℕ → Bool) → (first_not n f < n → f (first_not n f) ≡ false → A)
    → (first_not n f ≡ n → ((j : ℕ) → j < n → f j ≡ true) → A) → A
unfolding first_not
first_split zero f found none = none refl (λ j l. absurd (omega (arith, l)))
first_split (suc n) f found none =
    cases (f 0)
    (λ p.
    first_split n (λ i. f (suc i)) (λ l q. found (rw p (omega (arith, l))) (rw p q))
    (λ e all. none (rw p (ap suc e)) (λ j l. below n f j l p all)))
    (λ p. found (rw p (omega arith)) (rw p p))
  where
    below : (n : ℕ) (f : ℕ → Bool) (j : ℕ) → j < suc n → f 0 ≡ true → ((j : ℕ) → j < n → f (suc j) ≡ true) → f j ≡ true
    below n f zero l p all = p
    below n f (suc j) l p all = all j (omega (arith, l))

pub least_here : (p : ℕ → Bool) (i : ℕ) → i < key_count → ((j : ℕ) → j < i → p j ≡ false) → p i ≡ true → Some (key i) ≡ least_of p
unfolding least_of
least_here p i l before h =
    let e : first_of p ≡ i = first_at key_count (λ f. not (p f)) i l (λ j b. ap not (before j b)) (ap not h) in
    sym (ap (λ (j : ℕ). pick (ltb j key_count) (Some (key j)) None) e ∙ ap (λ (b : Bool). pick b (Some (key i)) None) (lt-ltb i key_count l))

pub least_none : (p : ℕ → Bool) → ((j : ℕ) → j < key_count → p j ≡ false) → None ≡ least_of p
unfolding least_of
least_none p h =
    let e : first_of p ≡ key_count = first_none key_count (λ f. not (p f)) (λ j b. ap not (h j b)) in
    sym (ap (λ (j : ℕ). pick (ltb j key_count) (Some (key j)) None) e)

least_at : (p : ℕ → Bool) → first_of p < key_count → Some (key (first_of p)) ≡ least_of p
unfolding least_of
least_at p l = sym (ap (λ (b : Bool). pick b (Some (key (first_of p))) None) (lt-ltb (first_of p) key_count l))

pub least_found : (p : ℕ → Bool) (f : Key) → least_of p ≡ Some f → (f.0 < key_count) × (p f.0 ≡ true)
least_found p f h =
    first_split key_count (λ j. not (p j))
    (λ l q. found l (not-false (p (first_of p)) q))
    (λ e all. not_behind (least_none p (λ j l. not-true (p j) (all j l)) ∙ h))
  where
    found : first_of p < key_count → p (first_of p) ≡ true → (f.0 < key_count) × (p f.0 ≡ true)
    found l q =
        let e : first_of p ≡ f.0 = behind_same (least_at p l ∙ h) in
        (subst (λ (j : ℕ). j < key_count) e l, subst (λ (j : ℕ). p j ≡ true) e q)

pub least_missing : (p : ℕ → Bool) → least_of p ≡ None → (j : ℕ) → j < key_count → p j ≡ false
least_missing p h =
    first_split key_count (λ j. not (p j)) (λ l q. not_behind (sym (least_at p l ∙ h))) (λ e all. λ j l. not-true (p j) (all j l))

-- ---- what a search looks at, slot by slot: of the slot x with the key f

module _ (n : Net) (t : Key) (f : ℕ) (x : Slot) (is : x ≡ slot_at n f) where
  used_slot : used_by n t f ≡ uses_key x t
  unfolding used_by
  used_slot = ap (λ (z : Slot). uses_key z t) (sym is)

  pub unused_event : eqb x.kind 2 ≡ false → used_by n t f ≡ false
  unfolding uses_key
  unused_event h = used_slot ∙ ap (λ (b : Bool). b && eqb x.used.0 t.0) h

  pub unused_other : eqb x.used.0 t.0 ≡ false → used_by n t f ≡ false
  unfolding uses_key
  unused_other h = used_slot ∙ fails _ (λ u. clash (eqb x.used.0 t.0) (and_right (eqb x.kind 2) _ u) h)

  pub used_yes : eqb x.kind 2 ≡ true → eqb x.used.0 t.0 ≡ true → used_by n t f ≡ true
  unfolding uses_key
  used_yes p q = used_slot ∙ and_both (eqb x.kind 2) _ p q

  module _ (s : Script) where
    taken_slot : taken_by s n t f ≡ takes_key s x t
    unfolding taken_by
    taken_slot = ap (λ (z : Slot). takes_key s z t) (sym is)

    pub untaken_event : eqb x.kind 2 ≡ false → taken_by s n t f ≡ false
    unfolding takes_key
    untaken_event h = taken_slot ∙ ap (λ (b : Bool). b && (eqb x.used.0 t.0 && eqb (node_with s x.node).kind 2)) h

    pub untaken_other : eqb x.used.0 t.0 ≡ false → taken_by s n t f ≡ false
    unfolding takes_key
    untaken_other h =
        taken_slot ∙
        fails _ (λ u. clash (eqb x.used.0 t.0) (and_left (eqb x.used.0 t.0) _ (and_right (eqb x.kind 2) _ u)) h)

    pub untaken_node : (a : Action) → a ≡ node_with s x.node → eqb a.kind 2 ≡ false → taken_by s n t f ≡ false
    unfolding takes_key
    untaken_node a e h =
        taken_slot ∙
        fails _
        (λ u.
        clash (eqb (node_with s x.node).kind 2) (and_right (eqb x.used.0 t.0) _ (and_right (eqb x.kind 2) _ u))
        (ap (λ (z : Action). eqb z.kind 2) (sym e) ∙ h))

    pub taken_yes : (a : Action) → a ≡ node_with s x.node → eqb x.kind 2 ≡ true → eqb x.used.0 t.0 ≡ true → eqb a.kind 2 ≡ true
        → taken_by s n t f ≡ true
    unfolding takes_key
    taken_yes a e p q h =
        taken_slot ∙
        and_both (eqb x.kind 2) _ p
        (and_both (eqb x.used.0 t.0) _ q (ap (λ (z : Action). eqb z.kind 2) (sym e) ∙ h))

-- ---- each way out

-- the answer o, from the tests a to f in the code's order and from what each leads to
data Out (a b c d e f : Bool) (one two user taker o : Option Key) : Type 0 where
  by_first : a ≡ true → one ≡ o → Out a b c d e f one two user taker o
  second_live : a ≡ false → b ≡ true → c ≡ true → None ≡ o → Out a b c d e f one two user taker o
  by_second : a ≡ false → b ≡ true → c ≡ false → d ≡ true → two ≡ o → Out a b c d e f one two user taker o
  by_user : a ≡ false → b ≡ true → c ≡ false → d ≡ false → user ≡ o → Out a b c d e f one two user taker o
  by_taker : a ≡ false → b ≡ false → e ≡ true → f ≡ true → taker ≡ o → Out a b c d e f one two user taker o
  not_taken : a ≡ false → b ≡ false → e ≡ true → f ≡ false → None ≡ o → Out a b c d e f one two user taker o
  no_read : a ≡ false → b ≡ false → e ≡ false → None ≡ o → Out a b c d e f one two user taker o

outs : (a b c d e f : Bool) (one two user taker o : Option Key)
    → pick a one (pick b (pick c None (pick d two user)) (pick e (pick f taker None) None)) ≡ o
    → Out a b c d e f one two user taker o
outs true b c d e f one two user taker o h = by_first refl h
outs false true true d e f one two user taker o h = second_live refl refl refl h
outs false true false true e f one two user taker o h = by_second refl refl refl refl h
outs false true false false e f one two user taker o h = by_user refl refl refl refl h
outs false false c d true true one two user taker o h = by_taker refl refl refl refl h
outs false false c d true false one two user taker o h = not_taken refl refl refl refl h
outs false false c d false f one two user taker o h = no_read refl refl refl h

-- ---- in the theory

not_both : {A : Type 0} → live ≡ tuple → A
not_both e = absurd (apart (ap kind_number e))
  where
    apart : ◌≡◌ {A = ℕ} (kind_number live) (kind_number tuple) → ⊥
    apart z = omega arith

-- a read makes its continuation alone
read_alone : (a : Act) → is_read a ≡ true → is_there (second_of a) ≡ false
read_alone R.nil h = refl
read_alone R.out h = absurd (true≢false (sym h))
read_alone R.take h = refl
read_alone R.read h = refl
read_alone R.newloc h = refl
read_alone R.eval h = absurd (true≢false (sym h))
read_alone R.split h = absurd (true≢false (sym h))
read_alone R.roll h = refl

tuple_not_live : (c : Kind) → (c ≡ tuple) ⊎ (c ≡ consumed) → is_live c ≡ false
tuple_not_live c (inl p) = rw p
tuple_not_live c (inr p) = rw p

module _ {R : Rules} (n : N.Net R) (ok : Accepted n) where
  -- an event that used what another made used a tuple
  used_made : (e f : ℕ) → f ∈ events n → makes n e (n.slot f).used ≡ true → (met n (n.slot f)).kind ≡ tuple
  used_made e f p m =
      cases (uses (R.act (n.slot f).body)) (λ u. (ok.agrees f p).rule.meets u)
      (λ u. absurd (omega (arith, (ok.agrees f p).rule.places.no_used u, made_below (n.slot f).used (n.slot e) m, R.few)))

  -- which the other made at its second key
  used_second : (e f : ℕ) → f ∈ events n → makes n e (n.slot f).used ≡ true → (n.slot f).used ≡ (n.slot e).second
  used_second e f p m = way (made_as n ok e (n.slot f).used m)
    where
      is : (product e (n.slot e) (met n (n.slot e)).body (n.slot f).used).kind ≡ tuple
      is = sym (kind_eq (made_there n ok e (n.slot f).used m)) ∙ used_made e f p m

      way : Made e (n.slot e) (met n (n.slot e)).body (n.slot f).used → (n.slot f).used ≡ (n.slot e).second
      way (continuation z q) = not_both (sym (kind_eq q) ∙ is)
      way (the_tuple z c q) = z
      way (the_process z c q) = not_both (sym (kind_eq q) ∙ is)

-- ---- a node, by its number

node_is : (s : Script) (k : Node) → is_node k ≡ true → node_with s k ≡ action_at s k.0
node_is s k h = rw h

no_node : (s : Script) → length s.nodes ≡ node_count → (k : Node) → is_node k ≡ false → ((node_with s k).kind ≡ 0) × ((action_at s k.0).kind ≡ 0)
no_node s nodes k h = (
  rw h,
  ap (λ (a : Action). a.kind) (get_or-eq_default s.nodes action0 {n = k.0} (omega (arith, nodes, ltb-false k.0 node_count h))),
)

kind_is : (s : Script) → length s.nodes ≡ node_count → (k : Node) → (node_with s k).kind ≡ (action_at s k.0).kind
kind_is s nodes k =
    cases (is_node k) (λ h. ap (λ (a : Action). a.kind) (node_is s k h))
    (λ h. (no_node s nodes k h).0 ∙ sym (no_node s nodes k h).1)

-- ---- of images

swapped : (p q o : Bool) → (p && (q && o)) ≡ (p && (o && q))
swapped false q o = refl
swapped true true true = refl
swapped true true false = refl
swapped true false true = refl
swapped true false false = refl

module _ (s : Script) (w : ShapedScript s) (n : Net) where
  abbrev W : N.Net (rules_of s)
  W = view s n

  -- ---- what stands at a key

  past_at : (j : Key) → events W j.0 ≡ eqb (slot_with n j).kind 2
  past_at j = ap (λ (z : N.Slot (rules_of s)). is_past z.kind) (view_with s n j) ∙ past_is (slot_with n j).kind

  live_at : (j : Key) → is_live (W.slot j.0).kind ≡ eqb (slot_with n j).kind 1
  live_at j = ap (λ (z : N.Slot (rules_of s)). is_live z.kind) (view_with s n j) ∙ live_is (slot_with n j).kind

  consumed_at : (j : Key) → is_consumed (W.slot j.0).kind ≡ eqb (slot_with n j).kind 4
  consumed_at j = ap (λ (z : N.Slot (rules_of s)). is_consumed z.kind) (view_with s n j) ∙ consumed_is (slot_with n j).kind

  -- ---- who used a tuple, and who took it

  pub used_is : (t : Key) (f : ℕ) → f < key_count → used_by n t f ≡ (events W f && eqb (W.slot f).used t.0)
  unfolding used_by uses_key
  used_is t f l =
      sym
      (ap (λ (z : N.Slot (rules_of s)). is_past z.kind && eqb z.used t.0) (view_slot s n f l) ∙
      ap (λ (b : Bool). b && eqb (slot_at n f).used.0 t.0) (past_is (slot_at n f).kind))

  took_slot : (y : Slot) (k : ℕ) → took_tuple k (slot_view s y) ≡ takes_key s y (key k)
  unfolding took_tuple takes_key
  took_slot y k =
      rw (past_is y.kind, Acts.take_is (action_at s y.node.0).kind, kind_is s w.nodes y.node)
      (swapped (eqb y.kind 2) (eqb (action_at s y.node.0).kind 2) (eqb y.used.0 k))

  pub taken_is : (t : Key) (f : ℕ) → f < key_count → taken_by s n t f ≡ takes W f t.0
  unfolding taken_by
  taken_is t f l = sym (ap (took_tuple t.0) (view_slot s n f l) ∙ took_slot (slot_at n f) t.0)

  -- ---- an event of an accepted net

  module _ (ok : Accepted (view s n)) (k : Key) (past : k.0 ∈ events (view s n)) where
    abbrev x : Slot
    x = slot_with n k

    abbrev event : N.Slot (rules_of s)
    event = W.slot k.0

    abbrev Outs : Option Key → Type 0
    Outs o =
        Out (eqb (slot_with n x.first).kind 2) (is_key x.second) (eqb (slot_with n x.second).kind 1)
        (eqb (slot_with n x.second).kind 2) (eqb (node_with s x.node).kind 3) (eqb (slot_with n x.used).kind 4)
        (Some x.first) (Some x.second) (user_of n x.second) (taker_of s n x.used) o

    ways : (o : Option Key) → way_of s n k ≡ o → Outs o
    unfolding way_of
    ways o h = outs _ _ _ _ _ _ _ _ _ _ o h

    slot_is : event ≡ slot_view s x
    slot_is = view_with s n k

    first_at_event : event.first ≡ x.first.0
    first_at_event = ap (λ (z : N.Slot (rules_of s)). z.first) slot_is

    second_at_event : event.second ≡ x.second.0
    second_at_event = ap (λ (z : N.Slot (rules_of s)). z.second) slot_is

    used_at_event : event.used ≡ x.used.0
    used_at_event = ap (λ (z : N.Slot (rules_of s)). z.used) slot_is

    act_at_event : is_read ((rules_of s).act event.body) ≡ eqb (node_with s x.node).kind 3
    act_at_event =
        ap (λ (z : N.Slot (rules_of s)). is_read ((rules_of s).act z.body)) slot_is ∙ Acts.read_is (action_at s x.node.0).kind ∙
        ap (λ (j : ℕ). eqb j 3) (sym (kind_is s w.nodes x.node))

    makes_first : makes W k.0 x.first.0 ≡ true
    makes_first =
        subst (λ (j : ℕ). makes W k.0 j ≡ true) first_at_event (made_first event past (ok.agrees k.0 past).rule.places.first)

    makes_second_lem : is_key x.second ≡ true → makes W k.0 x.second.0 ≡ true
    makes_second_lem h =
        subst (λ (j : ℕ). makes W k.0 j ≡ true) second_at_event
        (made_second event past (subst (λ (j : ℕ). j < key_count) (sym second_at_event) (ltb-true x.second.0 key_count h)))

    reads_used : eqb (node_with s x.node).kind 3 ≡ true → reads W k.0 x.used.0 ≡ true
    reads_used h = subst (λ (j : ℕ). reads W k.0 j ≡ true) used_at_event (read_of event past (act_at_event ∙ h))

    -- ---- what is in the way is an event that depends on it

    abbrev After : ℕ → Type 0
    After f = (f ∈ events W) × (depends W k.0 f ≡ true)

    after : (f : ℕ) → f ∈ events W → Cause W k.0 f → After f
    after f p c = (p, cause_depends W k.0 f p c)

    after_user : (f : ℕ) → is_key x.second ≡ true → f < key_count → used_by n x.second f ≡ true → After f
    after_user f b l u =
        let both : (events W f && eqb (W.slot f).used x.second.0) ≡ true = sym (used_is x.second f l) ∙ u in
        let e : (W.slot f).used ≡ x.second.0 = eqb-true (W.slot f).used x.second.0 (and_right (events W f) _ both) in
        after f (and_left (events W f) _ both) (made_tuple (ap (makes W k.0) e ∙ makes_second_lem b))

    after_taker : (f : ℕ) → eqb (node_with s x.node).kind 3 ≡ true → f < key_count → taken_by s n x.used f ≡ true → After f
    after_taker f r l u =
        let t : takes W f x.used.0 ≡ true = sym (taken_is x.used f l) ∙ u in
        let e : (W.slot f).used ≡ x.used.0 = took_is x.used.0 (W.slot f) t in
        after f (took_past x.used.0 (W.slot f) t)
        (read_before (ap (reads W k.0) e ∙ reads_used r) (ap (takes W f) e ∙ t))

    pub way_behind : (f : Key) → way_of s n k ≡ Some f → (f.0 ∈ events (view s n)) × (depends (view s n) k.0 f.0 ≡ true)
    unfolding user_of taker_of
    way_behind f h = found (ways (Some f) h)
      where
        found : Outs (Some f) → After f.0
        found (by_first a e) = subst After (behind_same e) (after x.first.0 (past_at x.first ∙ a) (made_key_lem makes_first))
        found (second_live a b c e) = not_behind e
        found (by_second a b c d e) =
            subst After (behind_same e) (after x.second.0 (past_at x.second ∙ d) (made_key_lem (makes_second_lem b)))
        found (by_user a b c d e) = let (l, u) = least_found (used_by n x.second) f e in after_user f.0 b l u
        found (by_taker a b r c e) = let (l, u) = least_found (taken_by s n x.used) f e in after_taker f.0 r l u
        found (not_taken a b r c e) = not_behind e
        found (no_read a b r e) = not_behind e

    -- ---- where nothing is in the way, nothing depends on it

    no_first : Outs None → events W x.first.0 ≡ false
    no_first (by_first a e) = not_behind (sym e)
    no_first (second_live a b c e) = past_at x.first ∙ a
    no_first (by_second a b c d e) = past_at x.first ∙ a
    no_first (by_user a b c d e) = past_at x.first ∙ a
    no_first (by_taker a b r c e) = past_at x.first ∙ a
    no_first (not_taken a b r c e) = past_at x.first ∙ a
    no_first (no_read a b r e) = past_at x.first ∙ a

    live_no_event : (c : ℕ) → eqb c 1 ≡ true → eqb c 2 ≡ false
    live_no_event c h = let e = eqb-true c 1 h in ne_eqb c 2 (λ q. omega arith)

    no_second : is_key x.second ≡ true → Outs None → events W x.second.0 ≡ false
    no_second h (by_first a e) = not_behind (sym e)
    no_second h (second_live a b c e) = past_at x.second ∙ live_no_event (slot_with n x.second).kind c
    no_second h (by_second a b c d e) = not_behind (sym e)
    no_second h (by_user a b c d e) = past_at x.second ∙ d
    no_second h (by_taker a b r c e) = clash (is_key x.second) h b
    no_second h (not_taken a b r c e) = clash (is_key x.second) h b
    no_second h (no_read a b r e) = clash (is_key x.second) h b

    -- a tuple at the second key was not used
    no_user : is_key x.second ≡ true → is_live (W.slot x.second.0).kind ≡ false → Outs None → (f : ℕ) → f < key_count
        → used_by n x.second f ≡ false
    unfolding user_of
    no_user h q (by_first a e) f l = not_behind (sym e)
    no_user h q (second_live a b c e) f l = clash (is_live (W.slot x.second.0).kind) (live_at x.second ∙ c) q
    no_user h q (by_second a b c d e) f l = not_behind (sym e)
    no_user h q (by_user a b c d e) f l = least_missing (used_by n x.second) e f l
    no_user h q (by_taker a b r c e) f l = clash (is_key x.second) h b
    no_user h q (not_taken a b r c e) f l = clash (is_key x.second) h b
    no_user h q (no_read a b r e) f l = clash (is_key x.second) h b

    -- a consumed tuple that it read was not taken
    no_taker : is_key x.second ≡ false → eqb (node_with s x.node).kind 3 ≡ true → eqb (slot_with n x.used).kind 4 ≡ true → Outs None
        → (f : ℕ) → f < key_count → taken_by s n x.used f ≡ false
    unfolding taker_of
    no_taker h p q (by_first a e) f l = not_behind (sym e)
    no_taker h p q (second_live a b c e) f l = clash (is_key x.second) b h
    no_taker h p q (by_second a b c d e) f l = clash (is_key x.second) b h
    no_taker h p q (by_user a b c d e) f l = clash (is_key x.second) b h
    no_taker h p q (by_taker a b r c e) f l = least_missing (taken_by s n x.used) e f l
    no_taker h p q (not_taken a b r c e) f l = clash (eqb (slot_with n x.used).kind 4) q c
    no_taker h p q (no_read a b r e) f l = clash (eqb (node_with s x.node).kind 3) p r

    second_key : (j : ℕ) → j ≡ x.second.0 → makes W k.0 j ≡ true → is_key x.second ≡ true
    second_key j e m = lt-ltb x.second.0 key_count (subst (λ (i : ℕ). i < key_count) e (made_below j event m))

    no_cause : Outs None → (f : ℕ) → f ∈ events W → Cause W k.0 f → ⊥
    no_cause o f p (made_key_lem m) =
        ⊎_elim
        (λ (q : event.first ≡ f).
        clash (events W f) p (ap (events W) (sym q ∙ first_at_event) ∙ no_first o))
        (λ (q : event.second ≡ f).
        let e : f ≡ x.second.0 = sym q ∙ second_at_event in
        clash (events W f) p (ap (events W) e ∙ no_second (second_key f e m) o))
        (made_cases f event m)
    no_cause o f p (made_tuple m) =
        let e : (W.slot f).used ≡ x.second.0 = used_second W ok k.0 f p m ∙ second_at_event in
        let c : is_live (W.slot x.second.0).kind ≡ false =
        ap (λ (j : ℕ). is_live (W.slot j).kind) (sym e) ∙
        tuple_not_live (W.slot (W.slot f).used).kind (forget_tuple (W.slot (W.slot f).used) (used_made W ok k.0 f p m)) in
        let l : f < key_count = event_below W ok f p in
        clash (used_by n x.second f)
        (used_is x.second f l ∙ and_both (events W f) _ p (eq-eqb (W.slot f).used x.second.0 e))
        (no_user (second_key (W.slot f).used e m) c o f l)
    no_cause o f p (read_before r t) =
        let act : is_read ((rules_of s).act event.body) ≡ true = read_act (W.slot f).used event r in
        let e : (W.slot f).used ≡ x.used.0 = sym (read_is (W.slot f).used event r) ∙ used_at_event in
        let alone : event.second ≡ none = (ok.agrees k.0 past).rule.places.no_second (read_alone ((rules_of s).act event.body) act) in
        let not_key : is_key x.second ≡ false = le-ltb x.second.0 key_count (omega (arith, alone, second_at_event)) in
        let gone : eqb (slot_with n x.used).kind 4 ≡ true =
        sym (consumed_at x.used) ∙ ap (λ (j : ℕ). is_consumed (W.slot j).kind) (sym e) ∙
        ap is_consumed (take_consumed W ok f (W.slot f).used t) in
        let l : f < key_count = event_below W ok f p in
        clash (taken_by s n x.used f) (taken_is x.used f l ∙ ap (takes W f) (sym e) ∙ t)
        (no_taker not_key (sym act_at_event ∙ act) gone o f l)

    pub way_clear : way_of s n k ≡ None → (f : ℕ) → depends (view s n) k.0 f ≡ false
    way_clear h f =
        fails (depends W k.0 f)
        (λ d. let (p, c) = depends_cause W k.0 f d in no_cause (ways None h) f p c)

    -- ---- whether it may be undone

    pub clear_undoable : way_of s n k ≡ None → Undoable (view s n) k.0
    clear_undoable h =
        last_undoable W ok k.0 (record { member = past; none = λ f d. clash (depends W k.0 f) d (way_clear h f) })

    pub behind_not : (f : Key) → way_of s n k ≡ Some f → Undoable (view s n) k.0 → ⊥
    behind_not f h u =
        let (p, d) = way_behind f h in clash (events W f.0) p ((undoable_last W ok k.0 u).none f.0 d)

    pub undoable_clear : Undoable (view s n) k.0 → way_of s n k ≡ None
    undoable_clear u = found (way_of s n k) refl
      where
        found : (o : Option Key) → way_of s n k ≡ o → way_of s n k ≡ None
        found None e = e
        found (Some f) e = absurd (behind_not f e u)
