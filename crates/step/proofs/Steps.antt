-- The forward step of the code is the theory's: where it is done, the net that it leaves is what the rule gives.
-- In order: the process and its node (`act`); what the checks say of the keys (`held_unmade`, `unmade`); what is made (`at_first`,
-- `second_product`); its slots, by where the key is (`forward_slot`); its localities (`forward_present`); the step (`forward_is`).
-- Assumes nothing.
use Rattle.std.specs.Prelude.{ℕ, ◌<◌, ◌≡◌, Bool, ◌||◌, leb, length}
use Rattle.std.proofs.Math.Path.{refl, ap, ap₂, sym, subst}
use Rattle.std.proofs.Common.{◌∙◌, ⊎_elim, arith}
use Rattle.std.proofs.Math.Logic.{by_cases}
use Rattle.std.proofs.Math.Bool.{true, false, true≢false, or-false}
use Rattle.std.proofs.Math.Decide.{dec_lt}
use Rattle.std.proofs.Math.Dec.{eqb}
use borrow.Author.Tests.{eqb-true, eqb-false, eq-eqb, ne_eqb, lt-ltb}
use Rattle.laws.specs.Choice.{pick, cases, clash, fails, and_right, or_left, or_cases}
use Rattle.names.specs.Names.{key_count, node_count, is_key, is_node, is_locality}
use Rattle.images.specs.Script.{action_at}
use Rattle.images.specs.Net.{slot_with}
use Rattle.images.specs.Read.{node_with}
use Rattle.images.specs.declared.Action.{Action}
use Rattle.images.specs.declared.Script.{Script}
use Rattle.images.specs.declared.Slot as Image
use Rattle.images.specs.declared.Net as Images
use Rattle.nets.specs.Rules.{Act, is_take, is_newloc, acts, second_of, is_there}
use Rattle.nets.specs.Net.{live, past, tuple, consumed, Slot, Net, fresh, is_free, is_live_tuple, made_key, took_tuple, made_locality}
use Rattle.nets.specs.Rule.{met, product, besides}
use Rattle.nets.specs.Forward as F
use Rattle.nets.specs.Forward.{done, after, forward, Can}
use Rattle.nets.specs.Records.{forget_body, made_below, made_cases, made_first, made_second}
use Rattle.products.specs.Body.{Body, body_of, live_process}
use Rattle.products.specs.Products
use Rattle.products.specs.Products.{makes_second, meets_tuple, continued_by, second_slot, second_by}
use Rattle.rules.specs.Instance.{act_of, rules_of}
use Rattle.rules.specs.Acts
use Rattle.rules.specs.Acts.{take_is, newloc_is, there_is, uses_is}
use Rattle.rules.specs.Roots.{rolled_by}
use Rattle.rules.specs.View.{view, slot_view, view_with, view_present, beyond, kind_as}
use Rattle.requests.specs.Checks.{refusal}
use Rattle.requests.specs.Answers.{in_range, places, forward_checks}
use Rattle.requests.specs.Laws.{forward_can}
use Rattle.requests.specs.Requests.{asked}
use Rattle.requests.specs.declared.Request as Code
use Rattle.step.specs.Change.{Change, applied}
use Rattle.step.specs.Tested.{node_is, no_node}
use Rattle.step.specs.Forward.{forward_other, present_after, forward_done}
use Rattle.step.specs.Written.{is_at, applied_present, joined_view, eqb_swap}
use Rattle.step.proofs.Written.{applied_slot}

module _ (s : Script) (nodes : length s.nodes ≡ node_count) (n : Images.Net) (whole : length n.slots ≡ key_count)
    (r : Code.Request) (range : in_range (asked r) ≡ true) (holds : refusal (forward_checks (rolled_by s) (view s n) (asked r)) ≡ 0) where
  abbrev W : Net (rules_of s)
  W = view s n

  abbrev q : F.Request
  q = places (rolled_by s) W (asked r)

  can : Can W q
  can = forward_can (rolled_by s) refl refl W (asked r) range holds

  abbrev x : Image.Slot
  x = slot_with n r.key

  abbrev t : Image.Slot
  t = slot_with n r.used

  abbrev a : Action
  a = node_with s x.node

  -- the event as the step leaves it
  abbrev d : Slot (rules_of s)
  d = done W q

  -- the process's record, and its node
  body_is : (W.slot r.key.0).body ≡ body_of x
  body_is = ap (λ (z : Slot (rules_of s)). z.body) (view_with s n r.key)

  act_is : (rules_of s).act d.body ≡ act_of (action_at s x.node.0).kind
  act_is = ap (rules_of s).act body_is

  at_node : action_at s x.node.0 ≡ a
  at_node =
      cases (is_node x.node) (λ h. sym (node_is s x.node h))
      (λ h.
      let no : acts ((rules_of s).act d.body) ≡ false = ap acts act_is ∙ ap (λ (k : ℕ). acts (act_of k)) (no_node s nodes x.node h).1 ∙ Acts.acts_is 0 in
      clash (acts ((rules_of s).act d.body)) can.rule.acting no)

  act : (rules_of s).act d.body ≡ act_of a.kind
  act = act_is ∙ ap (λ (b : Action). act_of b.kind) at_node

  -- ---- what the checks say of the keys

  -- a key that holds a record is a key
  held_below : (k : ℕ) → is_free (W.slot k).kind ≡ false → k < key_count
  held_below k h =
      by_cases (dec_lt k key_count) (λ l. l)
      (λ l. clash (is_free (W.slot k).kind) (ap (λ (z : Slot (rules_of s)). is_free z.kind) (beyond s n k (omega arith))) h)

  first_below : r.first.0 < key_count
  first_below = can.rule.places.first

  is_first : is_key r.first ≡ true
  is_first = lt-ltb r.first.0 key_count first_below

  -- the process is live, so it is at no fresh key
  process_held : is_free (W.slot r.key.0).kind ≡ false
  process_held = ap is_free can.is_live_lem

  is_process_lem : is_key r.key ≡ true
  is_process_lem = lt-ltb r.key.0 key_count (held_below r.key.0 process_held)

  made_free : (k : ℕ) → made_key k d ≡ true → is_free (W.slot k).kind ≡ true
  made_free k h = ap is_free (can.fresh_keys k h)

  -- a held key is not made
  held_unmade : (k : ℕ) → is_free (W.slot k).kind ≡ false → made_key k d ≡ false
  held_unmade k h = fails (made_key k d) (λ m. clash (is_free (W.slot k).kind) (made_free k m) h)

  first_made_lem : (k : ℕ) → eqb k r.first.0 ≡ true → made_key k d ≡ true
  first_made_lem k e = subst (λ (j : ℕ). made_key j d ≡ true) (sym (eqb-true k r.first.0 e)) (made_first d refl first_below)

  -- a key that is neither of the two is not made
  unmade : (k : ℕ) → eqb k r.first.0 ≡ false → (k < key_count → eqb k r.second.0 ≡ false) → made_key k d ≡ false
  unmade k e f =
      fails (made_key k d)
      (λ m.
      ⊎_elim (λ (z : r.first.0 ≡ k). eqb-false k r.first.0 e (sym z)) (λ (z : r.second.0 ≡ k). eqb-false k r.second.0 (f (made_below k d m)) (sym z))
      (made_cases k d m))

  -- ---- what is made

  -- the continuation
  abbrev next : Body
  next = continued_by a r.key (body_of x) t.contents r.place

  met_is : (met W d).body ≡ body_of t
  met_is = forget_body (W.slot r.used.0) ∙ ap (λ (z : Slot (rules_of s)). z.body) (view_with s n r.used)

  next_is : (rules_of s).next r.key.0 d.body (met W d).body r.place.0 ≡ next
  next_is =
      ap₂ (λ (b m : Body). (rules_of s).next r.key.0 b m r.place.0) body_is met_is ∙
      ap (λ (b : Action). continued_by b r.key (body_of x) t.contents r.place) at_node

  at_first : (k : ℕ) → eqb k r.first.0 ≡ true → product r.key.0 d (met W d).body k ≡ slot_view s (live_process next)
  unfolding product kind_as
  at_first k e = rw e (ap (fresh live) next_is)

  -- what is made besides: a live tuple, or a live process
  at_second : makes_second a.kind ≡ true → besides {R = rules_of s} (second_of (act_of a.kind)) (body_of x) ≡ slot_view s (second_slot a (body_of x))
  unfolding second_slot second_by kind_as act_of
  at_second h =
      let by_node : second_by (action_at s x.node.0) (body_of x) ≡ second_by a (body_of x) = ap (λ (b : Action). second_by b (body_of x)) at_node in
      cases (Products.is_out a.kind)
      (λ o.
      ap (λ (k : ℕ). besides {R = rules_of s} (second_of (act_of k)) (body_of x)) (eqb-true a.kind 1 o) ∙ ap (fresh tuple) by_node ∙ rw o)
      (λ o.
      or_cases (Products.is_out a.kind) _ h (λ p. clash (Products.is_out a.kind) p o)
      (λ p.
      or_cases (Products.is_eval a.kind) (Products.is_split a.kind) p
      (λ v. ap (λ (k : ℕ). besides {R = rules_of s} (second_of (act_of k)) (body_of x)) (eqb-true a.kind 5 v) ∙ ap (fresh live) by_node ∙ rw o)
      (λ v. ap (λ (k : ℕ). besides {R = rules_of s} (second_of (act_of k)) (body_of x)) (eqb-true a.kind 6 v) ∙ ap (fresh live) by_node ∙ rw o)))

  second_product : (k : ℕ) → eqb k r.first.0 ≡ false → makes_second a.kind ≡ true → product r.key.0 d (met W d).body k ≡ slot_view s (second_slot a (body_of x))
  unfolding product
  second_product k e h =
      rw e (ap₂ (λ (c : Act) (b : Body). besides {R = rules_of s} (second_of c) b) act body_is ∙ at_second h)

  -- ---- slot by slot

  abbrev c : Change
  c = forward_done a x t n.present r

  -- what stands at a key, by what was put there
  stands : (k : ℕ) (o f e : Bool) → is_at c.other k ≡ o → is_at c.first k ≡ f → is_at c.event k ≡ e → (view s (applied n c)).slot k ≡ pick o (slot_view s c.other.slot) (pick f (slot_view s c.first.slot) (pick e (slot_view s c.event.slot) (W.slot k)))
  stands k o f e p q u = applied_slot s n c whole k ∙ rw (p, q, u)

  first_at : (k : ℕ) → is_at c.first k ≡ eqb k r.first.0
  unfolding forward_done
  first_at k = rw is_first

  event_at : (k : ℕ) → is_at c.event k ≡ eqb k r.key.0
  unfolding forward_done
  event_at k = rw is_process_lem

  -- the event itself
  event_is : slot_view s c.event.slot ≡ d
  unfolding forward_done kind_as
  event_is = ap (λ (b : Body). record { kind = past; body = b; first = r.first.0; second = r.second.0; used = r.used.0; place = r.place.0 }) (sym body_is)

  -- at the first key stands the continuation
  by_first : (k : ℕ) → eqb k r.first.0 ≡ true → is_at c.other k ≡ false → (view s (applied n c)).slot k ≡ after W r.key.0 d k
  unfolding forward_done
  by_first k e o =
      stands k false true (is_at c.event k) o (first_at k ∙ e) refl ∙ sym (rw (first_made_lem k e) (at_first k e))

  -- where nothing is made or taken, the event stands at its key, and all else as it was
  by_rest : (k : ℕ) → eqb k r.first.0 ≡ false → made_key k d ≡ false → took_tuple k d ≡ false → is_at c.other k ≡ false → (view s (applied n c)).slot k ≡ after W r.key.0 d k
  by_rest k e m w o =
      stands k false false (eqb k r.key.0) o (first_at k ∙ e) (event_at k) ∙
      sym (rw (m, w) (ap (λ (z : Slot (rules_of s)). pick (eqb k r.key.0) z (W.slot k)) (sym event_is)))

  -- only an in takes
  untaken : Products.is_in a.kind ≡ false → (k : ℕ) → took_tuple k d ≡ false
  unfolding took_tuple
  untaken h k = rw (ap is_take act ∙ take_is a.kind ∙ h)

  -- with what is made besides
  with_second : makes_second a.kind ≡ true → Products.is_in a.kind ≡ false → (k : ℕ) → (view s (applied n c)).slot k ≡ after W r.key.0 d k
  unfolding forward_done forward_other
  with_second h no-in k =
      let there : r.second.0 < key_count = can.rule.places.second (ap (λ (z : Act). is_there (second_of z)) act ∙ there_is a.kind ∙ h) in
      let other : is_at c.other k ≡ eqb k r.second.0 = rw (h, lt-ltb r.second.0 key_count there) in
      cases (eqb k r.second.0)
      (λ z.
      let not_first : eqb k r.first.0 ≡ false = ne_eqb k r.first.0 (λ w. can.rule.places.apart (sym w ∙ eqb-true k r.second.0 z)) in
      let made : made_key k d ≡ true = subst (λ (j : ℕ). made_key j d ≡ true) (sym (eqb-true k r.second.0 z)) (made_second d refl there) in
      stands k true (is_at c.first k) (is_at c.event k) (other ∙ z) refl refl ∙ rw h (sym (rw made (second_product k not_first h))))
      (λ z.
      cases (eqb k r.first.0) (λ e. by_first k e (other ∙ z))
      (λ e. by_rest k e (unmade k e (λ _. z)) (untaken no-in k) (other ∙ z)))

  -- without, the second place is none's
  no_second : makes_second a.kind ≡ false → (k : ℕ) → k < key_count → eqb k r.second.0 ≡ false
  no_second h k l =
      ne_eqb k r.second.0
      (λ e. omega (arith, can.rule.places.no_second (ap (λ (z : Act). is_there (second_of z)) act ∙ there_is a.kind ∙ h)))

  -- an in takes its tuple
  with_tuple : makes_second a.kind ≡ false → Products.is_in a.kind ≡ true → (k : ℕ) → (view s (applied n c)).slot k ≡ after W r.key.0 d k
  unfolding forward_done forward_other took_tuple kind_as
  with_tuple h is_in_lem k =
      let takes : is_take ((rules_of s).act d.body) ≡ true = ap is_take act ∙ take_is a.kind ∙ is_in_lem in
      let live_tuple_lem : (W.slot r.used.0).kind ≡ tuple = can.tuple_live (or_left (is_take ((rules_of s).act d.body)) _ takes) in
      let held : is_free (W.slot r.used.0).kind ≡ false = ap is_free live_tuple_lem in
      let other : is_at c.other k ≡ eqb k r.used.0 = rw (h, is_in_lem, lt-ltb r.used.0 key_count (held_below r.used.0 held)) in
      cases (eqb k r.used.0)
      (λ z.
      let at-k = eqb-true k r.used.0 z in
      let unmade-k : made_key k d ≡ false = held_unmade k (ap (λ (j : ℕ). is_free (W.slot j).kind) at-k ∙ held) in
      let not_key : eqb k r.key.0 ≡ false = ne_eqb k r.key.0 (λ e. true≢false (sym (ap is_live_tuple live_tuple_lem) ∙ ap (λ (j : ℕ). is_live_tuple (W.slot j).kind) (sym at-k ∙ e) ∙ ap is_live_tuple can.is_live_lem)) in
      let eaten : eqb r.used.0 k ≡ true = eq-eqb r.used.0 k (sym at-k) in
      let the-body : body_of t ≡ (W.slot k).body = sym (ap (λ (j : ℕ). (W.slot j).body) at-k ∙ ap (λ (y : Slot (rules_of s)). y.body) (view_with s n r.used)) in
      let left : (view s (applied n c)).slot k ≡ slot_view s c.other.slot = stands k true (is_at c.first k) (is_at c.event k) (other ∙ z) refl refl in
      let what : slot_view s c.other.slot ≡ fresh consumed (W.slot k).body = rw (h, is_in_lem) (ap (fresh consumed) the-body) in
      let right : after W r.key.0 d k ≡ fresh consumed (W.slot k).body = rw (unmade-k, not_key, takes, eaten) in
      left ∙ what ∙ sym right)
      (λ z.
      let not-eaten : eqb r.used.0 k ≡ false = ne_eqb r.used.0 k (λ e. eqb-false k r.used.0 z (sym e)) in
      cases (eqb k r.first.0) (λ e. by_first k e (other ∙ z))
      (λ e. by_rest k e (unmade k e (no_second h k)) (rw (takes, not-eaten)) (other ∙ z)))

  -- a read and a newloc change nothing more
  with_none : makes_second a.kind ≡ false → Products.is_in a.kind ≡ false → (k : ℕ) → (view s (applied n c)).slot k ≡ after W r.key.0 d k
  unfolding forward_done forward_other
  with_none h no-in k =
      let other : is_at c.other k ≡ false = rw (h, no-in) in
      cases (eqb k r.first.0) (λ e. by_first k e other)
      (λ e. by_rest k e (unmade k e (no_second h k)) (untaken no-in k) other)

  in_alone : makes_second a.kind ≡ true → Products.is_in a.kind ≡ false
  in_alone h =
      ne_eqb a.kind 2
      (λ e. true≢false (sym h ∙ ap makes_second e))

  pub forward_slot : (k : ℕ) → (view s (applied n c)).slot k ≡ (forward W q).slot k
  unfolding forward
  forward_slot k =
      cases (makes_second a.kind) (λ h. with_second h (in_alone h) k)
      (λ h. cases (Products.is_in a.kind) (λ i. with_tuple h i k) (λ i. with_none h i k))

  -- ---- localities

  pub forward_present : (l : ℕ) → (view s (applied n c)).present l ≡ (forward W q).present l
  unfolding forward_done present_after forward made_locality
  forward_present l =
      let is_newloc_lem : is_newloc ((rules_of s).act d.body) ≡ Products.is_newloc a.kind = ap is_newloc act ∙ newloc_is a.kind in
      applied_present s n c l ∙
      cases (Products.is_newloc a.kind)
      (λ h.
      let place : is_locality r.place ≡ true = and_right (leb 8 r.place.0) _ (can.rule.places.place (is_newloc_lem ∙ h)) in
      rw (h, place) (joined_view n.present r.place place l) ∙
      ap₂ (λ (b e : Bool). b || e) (sym (view_present s n l)) (eqb_swap l r.place.0) ∙ sym (rw (is_newloc_lem, h)))
      (λ h. rw h (sym (view_present s n l) ∙ sym (rw (is_newloc_lem, h) (or-false (W.present l)))))

  -- ---- the step

  pub forward_is : view s (applied n c) ≡ forward W q
  forward_is = λ i. record { present = λ l. forward_present l i; slot = λ k. forward_slot k i }
