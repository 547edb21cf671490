-- The backward step of the code is the theory's undoing of one event: of an accepted net and an event that may be undone, what it leaves and
-- reports is what the theory says.
-- In order: the event and its places; its slots, by where the key is (`undo_slot`); its localities (`undo_present`); the net (`undo_is`); what
-- it touched (`undo_touched`).
-- Assumes nothing.
use Prim.Native.Nat.{ℕ, ◌<◌, ◌^◌}
use Rattle.std.specs.Prelude.{◌≡◌, Bool, ◌&&◌, ◌||◌, ltb, leb, length}
use Rattle.std.proofs.Math.Path.{refl, ap, ap₂, sym, subst}
use Rattle.std.proofs.Common.{◌∙◌, arith, pow_pos}
use Rattle.std.proofs.Math.Logic.{⊎_elim}
use Rattle.std.proofs.Math.Bool.{true, false, not, true≢false, and-true, and-false}
use Rattle.std.proofs.Math.Dec.{eqb}
use borrow.Author.Tests.{eqb-true, eq-eqb, ne_eqb, ltb-true, lt-ltb}
use Rattle.laws.specs.Choice.{pick, cases, clash, fails, agree, and_left, and_right, and_both, or_left, or_right, or_cases}
use Rattle.laws.specs.Sets.{member, member_empty, including_lt}
use Rattle.order.specs.KeySets.{only, any, any_of, any_some, any_only, any_ext}
use Rattle.order.specs.Words.{word_of, word_of_is, word_including}
use Rattle.names.specs.Names.{key_count, locality_count, is_key, is_node, is_locality}
use Rattle.names.specs.Localities.{localities}
use Rattle.names.specs.declared.Key.{Key}
use Rattle.names.specs.declared.Localities.{Localities}
use Rattle.images.specs.Script.{action_at, script_in_range}
use Rattle.images.specs.Shape.{ShapedScript}
use Rattle.images.specs.Net as I
use Rattle.images.specs.Net.{slot_with}
use Rattle.images.specs.Read.{node_with}
use Rattle.images.specs.declared.Action.{Action}
use Rattle.images.specs.declared.Script.{Script}
use Rattle.images.specs.declared.Slot as Image
use Rattle.images.specs.declared.Net as Images
use Rattle.nets.specs.Rules.{Act, is_take, is_newloc, acts, second_of, is_there, take_uses}
use Rattle.nets.specs.Net.{Kind, live, tuple, consumed, Slot, Net, free_slot, fresh, forget, is_consumed, made_locality, makes, takes}
use Rattle.nets.specs.Rule.{Places}
use Rattle.nets.specs.Accepted.{Formed, Accepted}
use Rattle.nets.specs.Undo.{made_by, undo, touched, Undoable}
use Rattle.nets.proofs.Demands.{touched_is}
use Rattle.nets.specs.Records.{past_kind, forget_past, forget_consumed, made_below, made_cases, made_first, made_second, took_act, took_is, took_of}
use Rattle.nets.proofs.Events as E
use Rattle.nets.proofs.Events.{take_consumed}
use Rattle.nets.proofs.Backward as B
use Rattle.products.specs.Body.{Body, body_of}
use Rattle.products.specs.Products
use Rattle.rules.specs.Instance.{act_of, makeable, rules_of, lawful_of}
use Rattle.rules.specs.Acts
use Rattle.rules.specs.Acts.{take_is, newloc_is, there_is}
use Rattle.rules.specs.View.{view, slot_view, view_with, view_present, free_view, kind_as}
use Rattle.step.specs.Change.{Change, applied}
use Rattle.step.specs.Tested.{node_is, no_node}
use Rattle.step.specs.Backward.{back_put, present_before, freed_at, backward_done, undone_at}
use Rattle.step.specs.Written.{is_at, applied_present, parted_view, eqb_swap}
use Rattle.step.proofs.Written.{applied_slot}

module _ (s : Script) (w : ShapedScript s) (in-form : script_in_range s ≡ true) (n : Images.Net) (whole : length n.slots ≡ key_count)
    (ok : Accepted (view s n)) (k : Key) (u : Undoable (view s n) k.0) where
  abbrev W : Net (rules_of s)
  W = view s n

  abbrev e : ℕ
  e = k.0

  abbrev event : Slot (rules_of s)
  event = W.slot e

  abbrev x : Image.Slot
  x = slot_with n k

  abbrev a : Action
  a = node_with s x.node

  abbrev t : Image.Slot
  t = slot_with n x.used

  -- ---- the event and its places

  slot_is : event ≡ slot_view s x
  slot_is = view_with s n k

  first_is : event.first ≡ x.first.0
  first_is = ap (λ (z : Slot (rules_of s)). z.first) slot_is

  second_is : event.second ≡ x.second.0
  second_is = ap (λ (z : Slot (rules_of s)). z.second) slot_is

  used_is : event.used ≡ x.used.0
  used_is = ap (λ (z : Slot (rules_of s)). z.used) slot_is

  place_is : event.place ≡ x.place.0
  place_is = ap (λ (z : Slot (rules_of s)). z.place) slot_is

  rule_places : Places event
  rule_places = (ok.agrees e u.is_past_lem).rule.places

  act_is : (rules_of s).act event.body ≡ act_of (action_at s x.node.0).kind
  act_is = ap (λ (z : Slot (rules_of s)). (rules_of s).act z.body) slot_is

  at_node : action_at s x.node.0 ≡ a
  at_node =
      cases (is_node x.node) (λ h. sym (node_is s x.node h))
      (λ h.
      clash (acts ((rules_of s).act event.body)) (ok.agrees e u.is_past_lem).rule.acting
      (ap acts act_is ∙ ap (λ (j : ℕ). acts (act_of j)) (no_node s w.nodes x.node h).1 ∙ Acts.acts_is 0))

  act : (rules_of s).act event.body ≡ act_of a.kind
  act = act_is ∙ ap (λ (b : Action). act_of b.kind) at_node

  first_below : x.first.0 < key_count
  first_below = subst (λ (j : ℕ). j < key_count) first_is rule_places.first

  first_key : is_key x.first ≡ true
  first_key = lt-ltb x.first.0 key_count first_below

  -- the event is at a key
  event_below : e < key_count
  event_below = E.event_below W ok e u.is_past_lem

  -- who is at one of its two keys was made by it
  first_made_lem : (j : ℕ) → eqb j x.first.0 ≡ true → makes W e j ≡ true
  first_made_lem j h =
      subst (λ (i : ℕ). makes W e i ≡ true) (first_is ∙ sym (eqb-true j x.first.0 h)) (made_first event u.is_past_lem rule_places.first)

  second_made_lem : (j : ℕ) → is_key x.second ≡ true → eqb j x.second.0 ≡ true → makes W e j ≡ true
  second_made_lem j l h =
      subst (λ (i : ℕ). makes W e i ≡ true) (second_is ∙ sym (eqb-true j x.second.0 h))
      (made_second event u.is_past_lem (subst (λ (i : ℕ). i < key_count) (sym second_is) (ltb-true x.second.0 key_count l)))

  -- ---- what is put

  abbrev c : Change
  c = undone_at s n k

  stands : (j : ℕ) (o f g : Bool) → is_at c.other j ≡ o → is_at c.first j ≡ f → is_at c.event j ≡ g → (view s (applied n c)).slot j ≡ pick o (slot_view s c.other.slot) (pick f (slot_view s c.first.slot) (pick g (slot_view s c.event.slot) (W.slot j)))
  stands j o f g p q v = applied_slot s n c whole j ∙ rw (p, q, v)

  first_at : (j : ℕ) → is_at c.first j ≡ eqb j x.first.0
  unfolding backward_done
  first_at j = ap (λ (b : Bool). b && eqb j x.first.0) first_key

  event_at : (j : ℕ) → is_at c.event j ≡ eqb j e
  unfolding backward_done
  event_at j = ap (λ (b : Bool). b && eqb j e) (lt-ltb e key_count event_below)

  -- the third slot: that of the second key, or the tuple that was taken
  other_second : (j : ℕ) → is_key x.second ≡ true → is_at c.other j ≡ eqb j x.second.0
  unfolding backward_done back_put
  other_second j h = rw (h, h)

  other_tuple : (j : ℕ) → is_key x.second ≡ false → Products.is_in a.kind ≡ true → is_at c.other j ≡ (is_key x.used && eqb j x.used.0)
  unfolding backward_done back_put
  other_tuple j h i = rw (h, i)

  other_none : (j : ℕ) → is_key x.second ≡ false → Products.is_in a.kind ≡ false → is_at c.other j ≡ false
  unfolding backward_done back_put
  other_none j h i = rw (h, i)

  -- where the event is an in
  is_take_lem : Products.is_in a.kind ≡ is_take ((rules_of s).act event.body)
  is_take_lem = sym (ap is_take act ∙ take_is a.kind)

  -- nothing else is put at a key that the event neither made second nor took
  other_elsewhere : (j : ℕ) → (is_key x.second ≡ true → eqb j x.second.0 ≡ false) → (Products.is_in a.kind ≡ true → eqb j x.used.0 ≡ false) → is_at c.other j ≡ false
  other_elsewhere j f g =
      cases (is_key x.second) (λ h. other_second j h ∙ f h)
      (λ h.
      cases (Products.is_in a.kind)
      (λ i. other_tuple j h i ∙ ap (λ (b : Bool). is_key x.used && b) (g i) ∙ and-false (is_key x.used))
      (λ i. other_none j h i))

  -- the tuple it used is not one of its keys, nor itself
  used_unmade : (j : ℕ) → makes W e j ≡ true → eqb j x.used.0 ≡ false
  used_unmade j m =
      ne_eqb j x.used.0
      (λ z.
      clash (makes W e event.used) (subst (λ (i : ℕ). makes W e i ≡ true) (z ∙ sym used_is) m)
      (B.used_elsewhere (lawful_of s w in-form) W ok e u e u.is_past_lem))

  -- ---- slot by slot

  undone : (j : ℕ) → B.Way (lawful_of s w in-form) W ok e u j → (view s (applied n c)).slot j ≡ (undo W e).slot j
  unfolding backward_done back_put kind_as
  undone j (B.made_free m q) =
      ⊎_elim
      (λ (z : event.first ≡ j).
      let at_first : eqb j x.first.0 ≡ true = eq-eqb j x.first.0 (sym z ∙ first_is) in
      let other : is_at c.other j ≡ false =
      other_elsewhere j (λ l. ne_eqb j x.second.0 (λ v. rule_places.apart (z ∙ v ∙ sym second_is))) (λ i. used_unmade j m) in
      stands j false true (is_at c.event j) other (first_at j ∙ at_first) refl ∙ free_view s ∙ sym q)
      (λ (z : event.second ≡ j).
      let there : is_key x.second ≡ true = lt-ltb x.second.0 key_count (subst (λ (i : ℕ). i < key_count) (sym z ∙ second_is) (made_below j event m)) in
      let at_second : eqb j x.second.0 ≡ true = eq-eqb j x.second.0 (sym z ∙ second_is) in
      let left : (view s (applied n c)).slot j ≡ slot_view s c.other.slot = stands j true (is_at c.first j) (is_at c.event j) (other_second j there ∙ at_second) refl refl in
      let what : slot_view s c.other.slot ≡ free_slot = rw there (free_view s) in
      left ∙ what ∙ sym q)
      (made_cases j event m)
  undone j (B.itself z q) =
      let unmade : makes W e j ≡ false = subst (λ (i : ℕ). makes W e i ≡ false) (sym z) (B.made_no_event (lawful_of s w in-form) W ok e u e u.is_past_lem) in
      let not_first : eqb j x.first.0 ≡ false = fails (eqb j x.first.0) (λ h. clash (makes W e j) (first_made_lem j h) unmade) in
      let other : is_at c.other j ≡ false =
      other_elsewhere j (λ l. fails (eqb j x.second.0) (λ h. clash (makes W e j) (second_made_lem j l h) unmade)) (λ i. not_used i) in
      let left : (view s (applied n c)).slot j ≡ slot_view s c.event.slot = stands j false false true other (first_at j ∙ not_first) (event_at j ∙ eq-eqb j e z) in
      let what : slot_view s c.event.slot ≡ fresh live event.body = ap (λ (b : Body). fresh live b) (sym (ap (λ (y : Slot (rules_of s)). y.body) slot_is)) in
      left ∙ what ∙ sym (forget_past event (past_kind event.kind u.is_past_lem)) ∙ ap (λ (i : ℕ). forget (W.slot i)) (sym z) ∙ sym q
    where
      -- an in used a tuple, and the event is none
      not_used : Products.is_in a.kind ≡ true → eqb j x.used.0 ≡ false
      not_used i =
          ne_eqb j x.used.0
          (λ v.
          let consumed-there = take_consumed W ok e event.used (took_of event u.is_past_lem (sym is_take_lem ∙ i)) in
          true≢false
          (sym (ap is_consumed consumed-there) ∙ ap (λ (i : ℕ). is_consumed (W.slot i).kind) (used_is ∙ sym v ∙ z) ∙ ap is_consumed (past_kind event.kind u.is_past_lem)))
  undone j (B.given_back v q) =
      let is_in_lem : Products.is_in a.kind ≡ true = is_take_lem ∙ took_act j event v in
      let at-used : x.used.0 ≡ j = sym used_is ∙ took_is j event v in
      let no_second : is_key x.second ≡ false = fails (is_key x.second) (λ l. none_second is_in_lem l) in
      let consumed-there : (W.slot j).kind ≡ consumed = take_consumed W ok e j v in
      let held : is_key x.used ≡ true = lt-ltb x.used.0 key_count (subst (λ (i : ℕ). i < key_count) used_is (rule_places.used (take_uses ((rules_of s).act event.body) (took_act j event v)))) in
      let at_j : is_at c.other j ≡ true = other_tuple j no_second is_in_lem ∙ and_both (is_key x.used) _ held (eq-eqb j x.used.0 (sym at-used)) in
      let the-body : body_of t ≡ (W.slot j).body = sym (ap (λ (i : ℕ). (W.slot i).body) (sym at-used) ∙ ap (λ (y : Slot (rules_of s)). y.body) (view_with s n x.used)) in
      let left : (view s (applied n c)).slot j ≡ slot_view s c.other.slot = stands j true (is_at c.first j) (is_at c.event j) at_j refl refl in
      let what : slot_view s c.other.slot ≡ fresh tuple (W.slot j).body = rw (no_second, is_in_lem) (ap (λ (b : Body). fresh tuple b) the-body) in
      left ∙ what ∙ sym (forget_consumed (W.slot j) consumed-there) ∙ sym q
    where
      -- an in makes nothing besides
      none_second : Products.is_in a.kind ≡ true → is_key x.second ≡ true → ⊥
      none_second i l =
          let alone : is_there (second_of ((rules_of s).act event.body)) ≡ false = ap (λ (z : Act). is_there (second_of z)) act ∙ there_is a.kind ∙ ap Products.makes_second (eqb-true a.kind 2 i) in
          omega (arith, rule_places.no_second alone, second_is, ltb-true x.second.0 key_count l)
  undone j (B.untouched m z v q) =
      let not_first : eqb j x.first.0 ≡ false = fails (eqb j x.first.0) (λ h. clash (makes W e j) (first_made_lem j h) m) in
      let other : is_at c.other j ≡ false =
      other_elsewhere j (λ l. fails (eqb j x.second.0) (λ h. clash (makes W e j) (second_made_lem j l h) m)) (λ i. fails (eqb j x.used.0) (λ h. clash (takes W e j) (taken i h) v)) in
      stands j false false false other (first_at j ∙ not_first) (event_at j ∙ ne_eqb j e z) ∙ sym q
    where
      taken : Products.is_in a.kind ≡ true → eqb j x.used.0 ≡ true → takes W e j ≡ true
      taken i h =
          subst (λ (y : ℕ). takes W e y ≡ true) (used_is ∙ sym (eqb-true j x.used.0 h)) (took_of event u.is_past_lem (sym is_take_lem ∙ i))

  pub undo_slot : (j : ℕ) → (view s (applied n c)).slot j ≡ (undo W e).slot j
  undo_slot j = undone j (B.way (lawful_of s w in-form) W ok e u j)

  -- ---- localities

  pub undo_present : (l : ℕ) → (view s (applied n c)).present l ≡ (undo W e).present l
  unfolding backward_done present_before made_locality
  undo_present l =
      let newloc : is_newloc ((rules_of s).act event.body) ≡ Products.is_newloc a.kind = ap is_newloc act ∙ newloc_is a.kind in
      applied_present s n c l ∙
      cases (Products.is_newloc a.kind)
      (λ h.
      let place : is_locality x.place ≡ true = and_right (leb 8 x.place.0) _ (subst (λ (i : ℕ). makeable i ≡ true) place_is (rule_places.place (newloc ∙ h))) in
      rw (h, place) (parted_view n.present x.place place l) ∙
      ap₂ (λ (b o : Bool). b && not o) (sym (view_present s n l)) (eqb_swap l x.place.0 ∙ ap (λ (i : ℕ). eqb i l) (sym place_is)) ∙
      sym (B.present_is (lawful_of s w in-form) W ok e u l ∙ rw (u.is_past_lem, newloc, h)))
      (λ h.
      rw h
      (sym (view_present s n l) ∙ sym (B.present_is (lawful_of s w in-form) W ok e u l ∙ rw (u.is_past_lem, newloc, h) (and-true (W.present l)))))

  pub undo_is : view s (applied n c) ≡ undo W e
  undo_is = λ i. record { present = λ l. undo_present l i; slot = λ j. undo_slot j i }

  -- ---- what is touched

  abbrev f : Image.Slot
  f = slot_with n x.first

  abbrev g : Image.Slot
  g = slot_with n x.second

  -- what an event that may be undone made is live, and lives at a locality
  lives : (j : ℕ) → makes W e j ≡ true → ltb ((rules_of s).at (W.slot j).body) locality_count ≡ true
  unfolding I.process_in_range I.tuple_in_range
  lives j m =
      ⊎_elim (λ (h : (W.slot j).kind ≡ live). and_left (ltb ((rules_of s).at (W.slot j).body) locality_count) _ (subst (λ (d : Kind). Formed d (W.slot j)) h (ok.formed j)).1)
      (λ (h : (W.slot j).kind ≡ tuple). and_left (ltb ((rules_of s).at (W.slot j).body) locality_count) _ (subst (λ (d : Kind). Formed d (W.slot j)) h (ok.formed j)).1)
      (u.made_live j m)

  -- where what stands at a key of the image lives
  at_key : (i : Key) → (rules_of s).at (W.slot i.0).body ≡ (slot_with n i).locality.0
  at_key i = ap (λ (z : Slot (rules_of s)). (rules_of s).at z.body) (view_with s n i)

  first_lives : is_locality f.locality ≡ true
  first_lives = ap (λ (l : ℕ). ltb l locality_count) (sym (at_key x.first)) ∙ lives x.first.0 (first_made_lem x.first.0 (eq-eqb x.first.0 x.first.0 refl))

  second_lives : is_key x.second ≡ true → is_locality g.locality ≡ true
  second_lives h =
      ap (λ (l : ℕ). ltb l locality_count) (sym (at_key x.second)) ∙
      lives x.second.0 (second_made_lem x.second.0 h (eq-eqb x.second.0 x.second.0 refl))

  -- a set of localities with where a slot became free
  freed_in : (v : Localities) (i : Key) (y : Image.Slot) (l : ℕ) → member (freed_at v i y).0 l ≡ ((is_key i && (is_locality y.locality && eqb l y.locality.0)) || member v.0 l)
  unfolding freed_at
  freed_in v i y l =
      cases (is_key i)
      (λ a. cases (is_locality y.locality) (λ b. rw (a, b) (ap (λ (S : ℕ → Bool). S l) (word_including v.0 y.locality.0))) (λ b. rw (a, b)))
      (λ a. rw a)

  freed_lt : (v : Localities) (i : Key) (y : Image.Slot) → v.0 < 2 ^ locality_count → (freed_at v i y).0 < 2 ^ locality_count
  unfolding freed_at
  freed_lt v i y h =
      cases (is_key i)
      (λ a. cases (is_locality y.locality) (λ b. rw (a, b) (including_lt locality_count v.0 y.locality.0 h (ltb-true y.locality.0 locality_count b))) (λ b. rw (a, b) h))
      (λ a. rw a h)

  -- the localities of the slots that become free
  freed_there : (l : ℕ) → member c.touched.0 l ≡ true → any key_count (λ j. makes W e j && eqb ((rules_of s).at (W.slot j).body) l) ≡ true
  unfolding backward_done
  freed_there l h =
      or_cases (is_key x.second && (is_locality g.locality && eqb l g.locality.0)) _ (sym (freed_in (freed_at (localities 0) x.first f) x.second g l) ∙ h)
      (λ p.
      let held = and_left (is_key x.second) _ p in
      by_key x.second (ltb-true x.second.0 key_count held) (second_made_lem x.second.0 held (eq-eqb x.second.0 x.second.0 refl))
      (and_right (is_locality g.locality) _ (and_right (is_key x.second) _ p)))
      (λ p.
      or_cases (is_key x.first && (is_locality f.locality && eqb l f.locality.0)) _ (sym (freed_in (localities 0) x.first f l) ∙ p)
      (λ q.
      by_key x.first first_below (first_made_lem x.first.0 (eq-eqb x.first.0 x.first.0 refl))
      (and_right (is_locality f.locality) _ (and_right (is_key x.first) _ q)))
      (λ q. clash (member 0 l) q (member_empty l)))
    where
      by_key : (i : Key) → i.0 < key_count → makes W e i.0 ≡ true → eqb l (slot_with n i).locality.0 ≡ true → any key_count (λ j. makes W e j && eqb ((rules_of s).at (W.slot j).body) l) ≡ true
      by_key i b m q =
          any_of key_count (λ j. makes W e j && eqb ((rules_of s).at (W.slot j).body) l) i.0 b
          (and_both (makes W e i.0) _ m (eq-eqb ((rules_of s).at (W.slot i.0).body) l (at_key i ∙ sym (eqb-true l (slot_with n i).locality.0 q))))

  freed_back : (l : ℕ) → any key_count (λ j. makes W e j && eqb ((rules_of s).at (W.slot j).body) l) ≡ true → member c.touched.0 l ≡ true
  unfolding backward_done
  freed_back l h =
      let (j, b, p) = any_some key_count (λ j. makes W e j && eqb ((rules_of s).at (W.slot j).body) l) h in
      let m = and_left (makes W e j) _ p in
      let here = eqb-true ((rules_of s).at (W.slot j).body) l (and_right (makes W e j) _ p) in
      freed_in (freed_at (localities 0) x.first f) x.second g l ∙
      ⊎_elim
      (λ (z : event.first ≡ j).
      or_right (is_key x.second && (is_locality g.locality && eqb l g.locality.0)) _
      (freed_in (localities 0) x.first f l ∙
      or_left (is_key x.first && (is_locality f.locality && eqb l f.locality.0)) _
      (and_both (is_key x.first) _ first_key (and_both (is_locality f.locality) _ first_lives (at_l x.first (sym first_is ∙ z) here)))))
      (λ (z : event.second ≡ j).
      let held : is_key x.second ≡ true = lt-ltb x.second.0 key_count (subst (λ (i : ℕ). i < key_count) (sym z ∙ second_is) (made_below j event m)) in
      or_left (is_key x.second && (is_locality g.locality && eqb l g.locality.0)) _
      (and_both (is_key x.second) _ held (and_both (is_locality g.locality) _ (second_lives held) (at_l x.second (sym second_is ∙ z) here))))
      (made_cases j event m)
    where
      at_l : {j : ℕ} (i : Key) → i.0 ≡ j → (rules_of s).at (W.slot j).body ≡ l → eqb l (slot_with n i).locality.0 ≡ true
      at_l i z here =
          eq-eqb l (slot_with n i).locality.0 (sym here ∙ ap (λ (y : ℕ). (rules_of s).at (W.slot y).body) (sym z) ∙ at_key i)

  touched_small : c.touched.0 < 2 ^ locality_count
  unfolding backward_done
  touched_small = freed_lt (freed_at (localities 0) x.first f) x.second g (freed_lt (localities 0) x.first f (pow_pos locality_count))

  made_by_lem : (j : ℕ) → made_by W (only e) j ≡ makes W e j
  unfolding made_by
  made_by_lem j = any_only key_count (λ y. makes W y j) e event_below

  -- "the localities at which a slot became free in the call"
  pub undo_touched : c.touched.0 ≡ word_of locality_count (touched W (undo W e))
  undo_touched =
      word_of_is locality_count (touched W (undo W e)) c.touched.0 touched_small
      (λ l b. agree (member c.touched.0 l) (any key_count (λ j. makes W e j && eqb ((rules_of s).at (W.slot j).body) l)) (freed_there l) (freed_back l) ∙ sym (those l))
    where
      those : (l : ℕ) → touched W (undo W e) l ≡ any key_count (λ j. makes W e j && eqb ((rules_of s).at (W.slot j).body) l)
      those l =
          touched_is (lawful_of s w in-form) W ok (only e) l ∙
          any_ext key_count (λ j. made_by W (only e) j && eqb ((rules_of s).at (W.slot j).body) l) (λ j. makes W e j && eqb ((rules_of s).at (W.slot j).body) l)
          (λ j b. ap (λ (o : Bool). o && eqb ((rules_of s).at (W.slot j).body) l) (made_by_lem j))

  pub undo_undone : c.undone ≡ 1
  unfolding backward_done
  undo_undone = refl
