-- What a forward step writes, one after the other, each from what stands in the bytes at its turn: together they are its change.
-- In order: the reference (`refer_put`), the continuation before anything is bound (`next_slot`, `next_put`), newloc's variable (`bound_place`), what is bound (`bound_next`),
-- the second thing made (`second_put`), the tuple that is taken (`taken_put`); the continuation is the rule's (`next_is`); the third slot is the change's (`other_is`), and by
-- whether there is one (`seconds`); all of it (`forward_written`).
-- Assumes nothing.
use Rattle.std.specs.Prelude.{ℕ, ◌≡◌, Bool, true, ltb, length, set}
use Rattle.std.proofs.Math.Path.{refl, ap}
use Rattle.std.proofs.Common.{sym, ◌∙◌, subst, eqb-true, lt-ltb, ltb-true}
use Rattle.std.proofs.Math.Bool.{false}
use mathlib.Core.List.{List}
use Rattle.laws.specs.Choice.{pick, cases, clash, fails, or_left}
use Rattle.laws.specs.Words.{Bytes}
use Rattle.names.specs.Names.{key_count, reference_count, variable_count, variable}
use Rattle.names.specs.declared.Locality.{Locality}
use Rattle.names.specs.declared.Localities.{Localities}
use Rattle.images.specs.Net.{slot_with, slot_bytes}
use Rattle.images.specs.Read.{slot_of, net_of}
use Rattle.images.specs.Shape.{ShapedSlot}
use Rattle.images.specs.Round.{shaped_net}
use Rattle.images.specs.Sizes.{Sized}
use Rattle.images.specs.InPlace.{slot_put, present_put, length_slot_put}
use Rattle.images.specs.Changed.{with_contents, with_refs, variable_put, variable_put_lem, reference_put, reference_put_lem}
use Rattle.images.specs.After.{slot_other, present_other, slot_there, contents_there, refs_there, locality_there}
use Rattle.images.specs.declared.Action.{Action}
use Rattle.images.specs.declared.Datum.{Datum}
use Rattle.images.specs.declared.Slot.{Slot}
use Rattle.matching.specs.Bound.{bound_put, bound_put_lem}
use Rattle.products.specs.Body.{body_of, fresh, live_process}
use Rattle.products.specs.Products.{is_out, is_in, is_newloc, meets_tuple, makes_second, made_datum, variables_after, references_after, continued_by}
use Rattle.products.specs.Acting.{acts_at, tuple_of, tuple_at, process_at, second_at, second_acts}
use Rattle.requests.specs.Answers.{in_range}
use Rattle.requests.specs.Requests.{asked}
use Rattle.requests.specs.declared.Request.{Request}
use Rattle.step.specs.Change.{Put, put, nowhere}
use Rattle.step.specs.Forward.{past_slot, forward_other, present_after, forward_done, forward_in}
use Rattle.step.specs.InPlace.{put_bytes, change_bytes}
use Rattle.step.specs.Allowed.{Found, acts_in, apart_first, apart_used, apart_taken, in_range_key}

-- ---- what is written

-- "the node's reference, if any, takes the old key"
unfoldable pub refer_put : Action → Request → List ℕ → List ℕ
refer_put a r b = pick (ltb a.reference.0 reference_count) (reference_put r.first a.reference r.key b) b

-- the record of the process, live, at the next node
abbrev pub next_slot : Action → Slot → Slot
next_slot a x = live_process (record { locality = x.locality; node = a.next; count = 0; contents = x.contents; refs = x.refs })

unfoldable pub next_put : Action → Request → List ℕ → List ℕ
next_put a r b = refer_put a r (slot_put r.first (next_slot a (slot_with (net_of b) r.key)) b)

-- "newloc binds its variable"
unfoldable pub bound_place : Action → Request → List ℕ → List ℕ
bound_place a r b =
    pick (ltb a.target.number variable_count) (variable_put r.first (variable a.target.number) (made_datum r.place) b) b

unfoldable pub bound_next : Action → Request → List ℕ → List ℕ
bound_next a r b =
    pick (meets_tuple a.kind) (bound_put a (slot_with (net_of b) r.used).contents r.first b) (pick (is_newloc a.kind) (bound_place a r b) b)

unfoldable pub second_put : Action → Slot → Locality → Request → Put
second_put a x l r = pick (makes_second a.kind) (put r.second (second_at a (body_of x) l)) nowhere

unfoldable pub taken_put : Action → Slot → Request → Put
taken_put a t r = pick (is_in a.kind) (put r.used (fresh 4 (body_of t))) nowhere

-- ---- the continuation

module _ (a : Action) (r : Request) (b : List ℕ) (sized : Sized b) (x : Slot) (eight : length x.contents ≡ 8) (four : length x.refs ≡ 4) where
  refer_is : refer_put a r (slot_put r.first (next_slot a x) b) ≡ slot_put r.first (with_refs (next_slot a x) (references_after a r.key x.refs)) b
  unfolding refer_put references_after
  refer_is =
      cases (ltb a.reference.0 reference_count)
      (λ t. rw t (reference_put_lem r.first b sized (next_slot a x) four a.reference (ltb-true a.reference.0 4 t) r.key))
      (λ t. rw t refl)

  abbrev y : Slot
  y = with_refs (next_slot a x) (references_after a r.key x.refs)

  place_is : bound_place a r (slot_put r.first y b) ≡ slot_put r.first (with_contents y (pick (ltb a.target.number variable_count) (set x.contents a.target.number (made_datum r.place)) x.contents)) b
  unfolding bound_place
  place_is =
      cases (ltb a.target.number variable_count)
      (λ t. rw t (variable_put_lem r.first b sized y eight (variable a.target.number) (ltb-true a.target.number 8 t) (made_datum r.place)))
      (λ t. rw t refl)

  pub next_is : (met : List Datum) → (meets_tuple a.kind ≡ true → (slot_with (net_of (slot_put r.first y b)) r.used).contents ≡ met)
      → bound_next a r (slot_put r.first y b) ≡ slot_put r.first (live_process (continued_by a r.key (body_of x) met r.place)) b
  unfolding bound_next continued_by variables_after
  next_is met same =
      cases (meets_tuple a.kind)
      (λ m.
      rw m
      (ap (λ (fields : List Datum). bound_put a fields r.first (slot_put r.first y b)) (same m) ∙ bound_put_lem a met r.first b sized y eight))
      (λ m. cases (is_newloc a.kind) (λ h. rw (m, h) place_is) (λ h. rw (m, h) refl))

-- ---- the third slot

-- an in makes no second thing
in_makes_none : (k : ℕ) → makes_second k ≡ true → is_in k ≡ false
in_makes_none k h =
    cases (is_in k) (λ t. let e : k ≡ 2 = eqb-true k 2 t in absurd (apart (subst (λ (j : ℕ). makes_second j ≡ true) e h))) (λ t. t)
  where
    apart : makes_second 2 ≡ true → ⊥
    apart z = clash (makes_second 2) z refl

pub puts_nothing : (b : List ℕ) → put_bytes nowhere b ≡ b
unfolding slot_put
puts_nothing b = refl

pub other_is : (a : Action) (x t : Slot) (r : Request) (b : List ℕ)
    → put_bytes (taken_put a t r) (put_bytes (second_put a x (acts_at a x.locality x.contents) r) b) ≡ put_bytes (forward_other a x t r) b
unfolding taken_put second_put forward_other
other_is a x t r b =
    cases (makes_second a.kind)
    (λ m.
    rw (m, in_makes_none a.kind m)
    (puts_nothing (slot_put r.second (second_at a (body_of x) (acts_at a x.locality x.contents)) b) ∙
    ap (λ (y : Slot). slot_put r.second y b) (second_acts a (body_of x) m)))
    (λ m. rw m (ap (put_bytes (pick (is_in a.kind) (put r.used (fresh 4 (body_of t))) nowhere)) (puts_nothing b)))

-- the second thing, by whether it is a tuple
module _ (a : Action) (x : Slot) (l : Locality) where
  pub tuple_second : is_out a.kind ≡ true → tuple_of a x.contents l ≡ second_at a (body_of x) l
  unfolding second_at tuple_at tuple_of
  tuple_second h = rw h refl

  pub process_second : is_out a.kind ≡ false → process_at a (body_of x) l ≡ second_at a (body_of x) l
  unfolding second_at
  process_second h = rw h refl

-- what is written where there is no second thing, and what it is where there is one
pub ruleset seconds = (puts_nothing, tuple_second, process_second)

-- ---- all of it

-- the second thing carries the variables and references of the process, and no more of it
second_same : (a : Action) (l : Locality) (x z : Slot) → x.contents ≡ z.contents → x.refs ≡ z.refs → second_at a (body_of x) l ≡ second_at a (body_of z) l
unfolding second_at tuple_at process_at
second_same a l x z c q =
    λ i.
    pick (is_out a.kind)
    (tuple_of a (c i) l)
    (live_process (record { locality = l; node = a.other; count = 0; contents = c i; refs = q i }))

module _ (a : Action) (b : List ℕ) (sized : Sized b) (bytes : Bytes b) (r : Request) (range : in_range (asked r) ≡ true) (g : Found a (net_of b) r) (l : Locality)
    (is_l : l ≡ acts_in a (net_of b) r) where
  abbrev x : Slot
  x = slot_with (net_of b) r.key

  abbrev t : Slot
  t = slot_with (net_of b) r.used

  abbrev e : Slot
  e = past_slot x r

  here : ltb r.key.0 key_count ≡ true
  here = lt-ltb r.key.0 key_count (in_range_key r range)

  shaped_x : ShapedSlot x
  shaped_x =
      subst ShapedSlot (sym (rw here refl)) ((shaped_net b bytes).at r.key.0 (in_range_key r range))

  shaped_e : ShapedSlot e
  shaped_e = record { contents = shaped_x.contents; refs = shaped_x.refs; numbers = shaped_x.numbers }

  abbrev B1 : List ℕ
  B1 = slot_put r.key e b

  sized₁ : Sized B1
  sized₁ = length_slot_put r.key e b sized

  -- the event, where it lies
  x₁_is : slot_with (net_of B1) r.key ≡ slot_of (slot_bytes e)
  x₁_is = slot_there b sized r.key e here

  x₁_next : next_slot a (slot_with (net_of B1) r.key) ≡ next_slot a x
  x₁_next =
      ap (next_slot a) x₁_is ∙
      (λ i. live_process (record { locality = locality_there e shaped_e i; node = a.next; count = 0; contents = contents_there e shaped_e i; refs = refs_there e shaped_e i }))

  abbrev f : Slot
  f = live_process (continued_by a r.key (body_of x) t.contents r.place)

  abbrev B3 : List ℕ
  B3 = slot_put r.first f B1

  sized₃ : Sized B3
  sized₃ = length_slot_put r.first f B1 sized₁

  met_is : (y : Slot) → meets_tuple a.kind ≡ true → slot_with (net_of (slot_put r.first y B1)) r.used ≡ t
  met_is y m =
      slot_other B1 sized₁ r.first y r.used (apart_used a (net_of b) r g m) ∙
      slot_other b sized r.key e r.used (apart_taken a (net_of b) r g m)

  next_written : bound_next a r (next_put a r B1) ≡ B3
  unfolding next_put
  next_written =
      ap (λ (z : Slot). bound_next a r (refer_put a r (slot_put r.first z B1))) x₁_next ∙
      ap (bound_next a r) (refer_is a r B1 sized₁ x shaped_x.contents shaped_x.refs) ∙
      next_is a r B1 sized₁ x shaped_x.contents shaped_x.refs t.contents (λ m. ap (λ (z : Slot). z.contents) (met_is _ m))

  x₃_is : slot_with (net_of B3) r.key ≡ slot_of (slot_bytes e)
  x₃_is = slot_other B1 sized₁ r.first f r.key (apart_first a (net_of b) r g) ∙ x₁_is

  second_written : put_bytes (second_put a (slot_with (net_of B3) r.key) l r) B3 ≡ put_bytes (second_put a x (acts_in a (net_of b) r) r) B3
  unfolding second_put
  second_written =
      ap (λ (z : Slot). put_bytes (pick (makes_second a.kind) (put r.second z) nowhere) B3)
      (second_same a l (slot_with (net_of B3) r.key) x (ap (λ (z : Slot). z.contents) x₃_is ∙ contents_there e shaped_e) (ap (λ (z : Slot). z.refs) x₃_is ∙ refs_there e shaped_e)) ∙
      ap (λ (q : Locality). put_bytes (pick (makes_second a.kind) (put r.second (second_at a (body_of x) q)) nowhere) B3) is_l

  abbrev B4 : List ℕ
  B4 = put_bytes (second_put a x (acts_in a (net_of b) r) r) B3

  -- where an in takes its tuple, nothing else was made
  taken_written : put_bytes (taken_put a (slot_with (net_of B4) r.used) r) B4 ≡ put_bytes (taken_put a t r) B4
  unfolding taken_put second_put
  taken_written =
      cases (is_in a.kind)
      (λ h.
      let none_made : makes_second a.kind ≡ false = fails (makes_second a.kind) (λ m. clash (is_in a.kind) h (in_makes_none a.kind m)) in
      let same : slot_with (net_of B4) r.used ≡ t =
      ap (λ (m : Bool). slot_with (net_of (put_bytes (pick m (put r.second (second_at a (body_of x) (acts_in a (net_of b) r))) nowhere) B3)) r.used) none_made ∙
      ap (λ (q : List ℕ). slot_with (net_of q) r.used) (puts_nothing B3) ∙ met_is f (or_left (is_in a.kind) _ h) in
      ap (λ (z : Slot). put_bytes (pick (is_in a.kind) (put r.used (fresh 4 (body_of z))) nowhere) B4) same)
      (λ h. rw h refl)

  abbrev B5 : List ℕ
  B5 = put_bytes (forward_other a x t r) B3

  other_written : put_bytes (taken_put a t r) B4 ≡ B5
  other_written = other_is a x t r B3

  present_is : (net_of B5).present ≡ (net_of b).present
  present_is =
      present_other B3 sized₃ (forward_other a x t r).key (forward_other a x t r).slot ∙ present_other B1 sized₁ r.first f ∙ present_other b sized r.key e

  pub forward_written : (b₁ b₂ b₃ b₄ b₅ b₆ : List ℕ) → b₁ ≡ B1 → b₂ ≡ next_put a r b₁ → b₃ ≡ bound_next a r b₂ → b₄ ≡ put_bytes (second_put a (slot_with (net_of b₃) r.key) l r) b₃
      → b₅ ≡ put_bytes (taken_put a (slot_with (net_of b₄) r.used) r) b₄ → b₆ ≡ present_put (present_after a.kind (net_of b₅).present r.place) b₅
      → b₆ ≡ change_bytes (forward_in a (net_of b) r) b
  unfolding forward_in forward_done change_bytes
  forward_written b₁ b₂ b₃ b₄ b₅ b₆ is₁ is₂ is₃ is₄ is₅ is₆ =
      let s₃ : b₃ ≡ B3 = is₃ ∙ ap (bound_next a r) (is₂ ∙ ap (next_put a r) is₁) ∙ next_written in
      let s₄ : b₄ ≡ B4 = is₄ ∙ ap (λ (q : List ℕ). put_bytes (second_put a (slot_with (net_of q) r.key) l r) q) s₃ ∙ second_written in
      let s₅ : b₅ ≡ B5 = is₅ ∙ ap (λ (q : List ℕ). put_bytes (taken_put a (slot_with (net_of q) r.used) r) q) s₄ ∙ taken_written ∙ other_written in
      is₆ ∙ ap (λ (q : List ℕ). present_put (present_after a.kind (net_of q).present r.place) q) s₅ ∙
      ap (λ (p : Localities). present_put (present_after a.kind p r.place) B5) present_is
