-- The checks say what the steps ask: a forward request is answered 0 exactly when the step is allowed, a backward one exactly when its
-- event may be undone. (Check 3 first: the request is in range.)
-- In order: a request in range, place by place (`Ranged`); forward (`forward_can`, `can_forward`); backward (`undo_can`, `can_undo_lem`).
-- Assumes nothing.
use Rattle.std.specs.Prelude.{ℕ, ◌<◌, ◌≤◌, ◌≡◌, ◌⊎◌, Bool, false, ◌&&◌, ◌||◌, eqb, ltb, leb}
use Rattle.std.proofs.Math.Path.{refl, ap, subst}
use Rattle.std.proofs.Common.{sym, ◌∙◌, inl, inr, ⊎_elim}
use Rattle.std.proofs.Math.Bool.{true, not}
use native.Mathlib.Omega.{arith}
use borrow.Author.Tests.{eqb-true, eq-eqb, ne_eqb, ltb-true, lt-ltb, not-true, not-false}
use Rattle.laws.specs.Choice.{cases, clash, and_left, and_right, and_both, or_left, or_right, or_cases, fails, ◌⇒◌, told, tells}
use Rattle.laws.specs.Checks.{all, all_of, all_at}
use Rattle.order.specs.KeySets.{◌∈◌, any, any_of, any_not}
use Rattle.names.specs.Names.{key_count, locality_count, none, below_or_none}
use Rattle.nets.specs.Rules.{Rules, Act, acts, uses, aims, is_newloc, second_of, is_there}
use Rattle.nets.specs.Net.{Kind, free, live, tuple, consumed, is_free, is_live, is_live_tuple, Slot, Net, forget_as, events, made_key, read_tuple, makes, reads}
use Rattle.nets.specs.Rule.{met, Places, Rule}
use Rattle.nets.specs.Forward as Forward
use Rattle.nets.specs.Forward.{done, forward, Can}
use Rattle.nets.specs.Undo.{Undoable}
use Rattle.nets.specs.Accepted.{Accepted}
use Rattle.nets.specs.Records.{same_kind}
use Rattle.nets.proofs.Events.{event_below, held_below, read_tuple_lem}
use Rattle.requests.specs.Checks.{refusal, none_fails, all_hold}
use Rattle.requests.specs.Answers.{Request, in_range, as_needed, places_of, places, tuple_there, fresh_free, made_stays, can_undo, forward_checks}

-- ---- places

-- a needed place that is in range is below the count; one that is not needed is 255
needed_below : (count p : ℕ) → below_or_none count p ≡ true → as_needed true p ≡ true → p < count
needed_below count p r h = ltb-true p count (rw (not-true (eqb p none) h) at r)

unneeded : (p : ℕ) → as_needed false p ≡ true → p ≡ none
unneeded p h = eqb-true p none (not-false (eqb p none) (not-true (not (eqb p none)) h))

module _ (need : Bool) (p : ℕ) (h : as_needed need p ≡ true) where
  place_there : (count : ℕ) → below_or_none count p ≡ true → need ≡ true → p < count
  place_there count r t = needed_below count p r (subst (λ (b : Bool). as_needed b p ≡ true) t h)

  place_none : need ≡ false → p ≡ none
  place_none t = unneeded p (subst (λ (b : Bool). as_needed b p ≡ true) t h)

needed : (need : Bool) (p count : ℕ) → count ≤ none → (need ≡ true → p < count) → (need ≡ false → p ≡ none) → as_needed need p ≡ true
needed true p count few there gone =
    let l = there refl in rw (ne_eqb p none (λ (e : p ≡ none). omega arith))
needed false p count few there gone = rw (eq-eqb p none (gone refl))

-- the six bytes in range
record Ranged (r : Request) : Type 0 where
  used : below_or_none key_count r.used ≡ true
  first : below_or_none key_count r.first ≡ true
  second : below_or_none key_count r.second ≡ true
  place : below_or_none locality_count r.place ≡ true

ranged : (r : Request) → in_range r ≡ true → Ranged r
unfolding in_range
ranged r h =
    let after-key = and_right (ltb r.key key_count) _ (and_right (leb r.code 3) _ h) in
    let after-used = and_right (below_or_none key_count r.used) _ after-key in
    let after_first = and_right (below_or_none key_count r.first) _ after-used in
    record {
      used = and_left (below_or_none key_count r.used) _ after-key;
      first = and_left (below_or_none key_count r.first) _ after-used;
      second = and_left (below_or_none key_count r.second) _ after_first;
      place = and_right (below_or_none key_count r.second) _ after_first;
    }

-- ---- forward

module _ {R : Rules} (rolled : R.Body → ℕ) (keys : R.keys ≡ key_count) (unmade : R.makeable none ≡ false) (n : Net R) (r : Request) (range : in_range r ≡ true) where
  abbrev x : Slot R
  x = n.slot r.key

  abbrev a : Act
  a = R.act x.body

  abbrev q : Forward.Request
  q = places rolled n r

  -- the checks, one by one
  record Passed : Type 0 where
    is_live_lem : is_live x.kind ≡ true
    acting : acts a ≡ true
    place : places_of a r ≡ true
    ready : R.ready x.body ≡ true
    there : (aims a ⇒ n.present (R.target x.body)) ≡ true
    tuple : (uses a ⇒ tuple_there rolled n r) ≡ true
    fits : (uses a ⇒ R.fits x.body (n.slot r.used).body) ≡ true
    fresh : fresh_free rolled n r ≡ true

  passed : refusal (forward_checks rolled n r) ≡ 0 → Passed
  unfolding forward_checks
  passed h =
      let (c4, (c5, (c6, (c7, (c8, (c9, (c10, (c11, _)))))))) =
      all_hold (forward_checks rolled n r)
      (λ e. omega arith, (λ e. omega arith, (λ e. omega arith, (λ e. omega arith, (λ e. omega arith, (λ e. omega arith, (λ e. omega arith, (λ e. omega arith, tt)))))))) h in
      record { is_live_lem = c4; acting = c5; place = c6; ready = c7; there = c8; tuple = c9; fits = c10; fresh = c11 }

  -- a key of the request that is in range is one of the net's
  below_keys : (p : ℕ) → p < key_count → p < R.keys
  below_keys p l = omega (arith, keys)

  module _ (c : Passed) where
    w : Ranged r
    w = ranged r range

    used_place : as_needed (uses a) r.used ≡ true
    unfolding places_of
    used_place = and_left (as_needed (uses a) r.used) _ c.place

    first_place : as_needed true r.first ≡ true
    unfolding places_of
    first_place = and_left (as_needed true r.first) _ (and_right (as_needed (uses a) r.used) _ c.place)

    second_place : as_needed (is_there (second_of a)) r.second ≡ true
    unfolding places_of
    second_place =
        and_left (as_needed (is_there (second_of a)) r.second) _
        (and_right (as_needed true r.first) _ (and_right (as_needed (uses a) r.used) _ c.place))

    new_place : as_needed (is_newloc a) r.place ≡ true
    unfolding places_of
    new_place =
        and_right (as_needed (is_there (second_of a)) r.second) _
        (and_right (as_needed true r.first) _ (and_right (as_needed (uses a) r.used) _ c.place))

    first_free : is_free (n.slot r.first).kind ≡ true
    unfolding fresh_free
    first_free = and_left (is_free (n.slot r.first).kind) _ c.fresh

    second_free : is_there (second_of a) ≡ true → (is_free (n.slot r.second).kind && not (eqb r.first r.second)) ≡ true
    unfolding fresh_free
    second_free t =
        told (is_there (second_of a)) _
        (and_left (is_there (second_of a) ⇒ (is_free (n.slot r.second).kind && not (eqb r.first r.second))) _
        (and_right (is_free (n.slot r.first).kind) _ c.fresh)) t

    place_free : is_newloc a ≡ true → (R.makeable r.place && not (n.present r.place)) ≡ true
    unfolding fresh_free
    place_free t =
        told (is_newloc a) _
        (and_right (is_there (second_of a) ⇒ (is_free (n.slot r.second).kind && not (eqb r.first r.second))) _
        (and_right (is_free (n.slot r.first).kind) _ c.fresh)) t

    first_below : r.first < key_count
    first_below = needed_below key_count r.first w.first first_place

    apart : r.first ≡ r.second → ⊥
    apart e =
        cases (is_there (second_of a))
        (λ t. clash (eqb r.first r.second) (eq-eqb r.first r.second e) (not-true _ (and_right (is_free (n.slot r.second).kind) _ (second_free t))))
        (λ t. omega (arith, first_below, place_none (is_there (second_of a)) r.second second_place t))

    the_places : Places (done n q)
    the_places =
        record {
          first = below_keys r.first first_below;
          second = λ t. below_keys r.second (place_there (is_there (second_of a)) r.second second_place key_count w.second t);
          no_second = place_none (is_there (second_of a)) r.second second_place;
          apart = apart;
          used = λ t. below_keys r.used (place_there (uses a) r.used used_place key_count w.used t);
          no_used = place_none (uses a) r.used used_place;
          place = λ t. and_left (R.makeable r.place) _ (place_free t);
          no_place = place_none (is_newloc a) r.place new_place;
        }

    -- the tuple, where one is met: live, at the target
    there_tuple : uses a ≡ true → (n.slot r.used).kind ≡ tuple
    unfolding tuple_there
    there_tuple t =
        same_kind (n.slot r.used).kind tuple (and_left (is_live_tuple (n.slot r.used).kind) _ (told (uses a) _ c.tuple t))

    there_at : uses a ≡ true → R.at (n.slot r.used).body ≡ R.target x.body
    unfolding tuple_there
    there_at t =
        eqb-true (R.at (n.slot r.used).body) (R.target x.body)
        (and_right (is_live_tuple (n.slot r.used).kind) _ (told (uses a) _ c.tuple t))

    -- what was met is what stands there
    met_is : uses a ≡ true → met n (done n q) ≡ n.slot r.used
    met_is t = ap (λ (d : Kind). forget_as d (n.slot r.used)) (there_tuple t)

    the_rule : Rule n (done n q)
    the_rule =
        record {
          acting = c.acting;
          places = the_places;
          ready = c.ready;
          there = told (aims a) _ c.there;
          meets = λ t. ap (λ (s : Slot R). s.kind) (met_is t) ∙ there_tuple t;
          here = λ t. ap (λ (s : Slot R). R.at s.body) (met_is t) ∙ there_at t;
          fits = λ t. ap (λ (s : Slot R). R.fits x.body s.body) (met_is t) ∙ told (uses a) _ c.fits t;
        }

    -- a key that the event holds is one of its fresh keys, and free
    fresh_key : (k : ℕ) → made_key k (done n q) ≡ true → (n.slot k).kind ≡ free
    unfolding made_key
    fresh_key k h =
        let below = ltb-true k R.keys (and_left (ltb k R.keys) _ h) in
        or_cases (eqb r.first k) (eqb r.second k) (and_right (ltb k R.keys) _ h)
        (λ e. subst (λ (m : ℕ). (n.slot m).kind ≡ free) (eqb-true r.first k e) (same_kind (n.slot r.first).kind free first_free))
        (λ e.
        let s = eqb-true r.second k e in
        cases (is_there (second_of a))
        (λ t. subst (λ (m : ℕ). (n.slot m).kind ≡ free) s (same_kind (n.slot r.second).kind free (and_left (is_free (n.slot r.second).kind) _ (second_free t))))
        (λ t. absurd (omega (arith, keys, place_none (is_there (second_of a)) r.second second_place t))))

    the_can : Can n q
    the_can =
        record {
          is_live_lem = same_kind x.kind live c.is_live_lem;
          rule = the_rule;
          tuple_live = there_tuple;
          fresh_keys = fresh_key;
          fresh_place = λ t. not-true (n.present r.place) (and_right (R.makeable r.place) _ (place_free t));
        }

  -- "0 done": the step is allowed
  pub forward_can : refusal (forward_checks rolled n r) ≡ 0 → Can n q
  forward_can h = the_can (passed h)

  module _ (can : Can n q) where
    abbrev P : Places (done n q)
    P = can.rule.places

    same_body_lem : uses a ≡ true → met n (done n q) ≡ n.slot r.used
    same_body_lem t = ap (λ (d : Kind). forget_as d (n.slot r.used)) (can.tuple_live t)

    holds_places : places_of a r ≡ true
    unfolding places_of
    holds_places =
        and_both (as_needed (uses a) r.used) _ (needed (uses a) r.used R.keys R.few P.used P.no_used)
        (and_both (as_needed true r.first) _ (needed true r.first R.keys R.few (λ _. P.first) (λ e. clash true refl e))
        (and_both (as_needed (is_there (second_of a)) r.second) _
        (needed (is_there (second_of a)) r.second R.keys R.few P.second P.no_second)
        (needed (is_newloc a) r.place locality_count (omega arith) (λ t. place_small t) P.no_place)))
      where
        -- a place that is needed is not 255, and in range
        place_small : is_newloc a ≡ true → r.place < locality_count
        place_small t =
            cases (eqb r.place none)
            (λ e. clash (R.makeable none) (subst (λ (l : ℕ). R.makeable l ≡ true) (eqb-true r.place none e) (P.place t)) unmade)
            (λ e. ltb-true r.place locality_count (rw e at (ranged r range).place))

    made_first : made_key r.first (done n q) ≡ true
    unfolding made_key
    made_first =
        and_both (ltb r.first R.keys) _ (lt-ltb r.first R.keys P.first)
        (or_left (eqb r.first r.first) _ (eq-eqb r.first r.first refl))

    made_second : is_there (second_of a) ≡ true → made_key r.second (done n q) ≡ true
    unfolding made_key
    made_second t =
        and_both (ltb r.second R.keys) _ (lt-ltb r.second R.keys (P.second t))
        (or_right (eqb r.first r.second) _ (eq-eqb r.second r.second refl))

    holds_fresh : fresh_free rolled n r ≡ true
    unfolding fresh_free
    holds_fresh =
        and_both (is_free (n.slot r.first).kind) _ (ap is_free (can.fresh_keys r.first made_first))
        (and_both (is_there (second_of a) ⇒ (is_free (n.slot r.second).kind && not (eqb r.first r.second))) _
        (tells (is_there (second_of a)) _
        (λ t.
        and_both (is_free (n.slot r.second).kind) _ (ap is_free (can.fresh_keys r.second (made_second t)))
        (ap not (ne_eqb r.first r.second P.apart))))
        (tells (is_newloc a) _ (λ t. and_both (R.makeable r.place) _ (P.place t) (ap not (can.fresh_place t)))))

    holds_tuple : (uses a ⇒ tuple_there rolled n r) ≡ true
    unfolding tuple_there
    holds_tuple =
        tells (uses a) _
        (λ t.
        and_both (is_live_tuple (n.slot r.used).kind) _ (ap is_live_tuple (can.tuple_live t))
        (eq-eqb (R.at (n.slot r.used).body) (R.target x.body)
        (sym (ap (λ (s : Slot R). R.at s.body) (same_body_lem t)) ∙ can.rule.here t)))

    holds_fits : (uses a ⇒ R.fits x.body (n.slot r.used).body) ≡ true
    holds_fits =
        tells (uses a) _ (λ t. sym (ap (λ (s : Slot R). R.fits x.body s.body) (same_body_lem t)) ∙ can.rule.fits t)

  -- and a step that is allowed is not refused
  pub can_forward : Can n q → refusal (forward_checks rolled n r) ≡ 0
  unfolding forward_checks
  can_forward can =
      none_fails (forward_checks rolled n r) (
        ap is_live can.is_live_lem,
        (
          can.rule.acting,
          (
            holds_places can,
            (
              can.rule.ready,
              (tells (aims a) _ can.rule.there, (holds_tuple can, (holds_fits can, (holds_fresh can, tt)))),
            ),
          ),
        ),
      )

-- ---- backward

module _ {R : Rules} (rolled : R.Body → ℕ) (keys : R.keys ≡ key_count) (n : Net R) (ok : Accepted n) (r : Request) where
  abbrev e : ℕ
  e = r.key

  below : (f : ℕ) → f ∈ events n → f < key_count
  below f h = omega (arith, keys, event_below n ok f h)

  reader_below : (f k : ℕ) → reads n f k ≡ true → f < key_count
  unfolding read_tuple
  reader_below f k h = below f (and_left (events n f) _ h)

  -- the tuple of a past read is one of the net's keys
  read_below : (f k : ℕ) → reads n f k ≡ true → k < key_count
  read_below f k h =
      ⊎_elim (λ (t : (n.slot k).kind ≡ tuple). omega (arith, keys, held_below n ok k (ap (λ (c : Kind). not (is_free c)) t)))
      (λ (t : (n.slot k).kind ≡ consumed). omega (arith, keys, held_below n ok k (ap (λ (c : Kind). not (is_free c)) t)))
      (read_tuple_lem n ok f k h)

  made_below : (k : ℕ) → makes n e k ≡ true → k < key_count
  unfolding made_key
  made_below k h = omega (arith, keys, ltb-true k R.keys (and_left (ltb k R.keys) _ (and_right (events n e) _ h)))

  abbrev stays : ℕ → Bool
  stays k = (is_live (n.slot k).kind || is_live_tuple (n.slot k).kind) && not (any key_count (λ f. reads n f k))

  abbrev stays_read : ℕ → Bool
  stays_read k = reads n e k ⇒ is_live_tuple (n.slot k).kind

  live_or_tuple : (c : Kind) → (is_live c || is_live_tuple c) ≡ true → (c ≡ live) ⊎ (c ≡ tuple)
  live_or_tuple c h = or_cases (is_live c) (is_live_tuple c) h (λ t. inl (same_kind c live t)) (λ t. inr (same_kind c tuple t))

  is_one : (c : Kind) → (c ≡ live) ⊎ (c ≡ tuple) → (is_live c || is_live_tuple c) ≡ true
  is_one c =
      ⊎_elim (λ (t : c ≡ live). ap (λ (d : Kind). is_live d || is_live_tuple d) t) (λ (t : c ≡ tuple). ap (λ (d : Kind). is_live d || is_live_tuple d) t)

  -- "12: code 1, and not undoable": the check holds exactly when the event may be undone
  pub undo_can : events n e ≡ true → can_undo rolled n r ≡ true → Undoable n e
  unfolding can_undo made_stays
  undo_can p h =
      let made = all_at key_count (λ k. makes n e k ⇒ stays k) (and_left (all key_count (λ k. makes n e k ⇒ stays k)) _ h) in
      let read = all_at key_count stays_read (and_right (all key_count (λ k. makes n e k ⇒ stays k)) _ h) in
      let stay : (k : ℕ) → makes n e k ≡ true → stays k ≡ true = λ k m. told (makes n e k) (stays k) (made k (made_below k m)) m in
      record {
        is_past_lem = p;
        made_live = λ k m. live_or_tuple (n.slot k).kind (and_left (is_live (n.slot k).kind || is_live_tuple (n.slot k).kind) _ (stay k m));
        unread =
            λ k f m.
            fails (reads n f k)
            (λ q.
            clash (any key_count (λ f. reads n f k)) (any_of key_count (λ f. reads n f k) f (reader_below f k q) q)
            (not-true _ (and_right (is_live (n.slot k).kind || is_live_tuple (n.slot k).kind) _ (stay k m))));
        read_live = λ k q. same_kind (n.slot k).kind tuple (told (reads n e k) _ (read k (read_below e k q)) q);
      }

  pub can_undo_lem : Undoable n e → can_undo rolled n r ≡ true
  unfolding can_undo made_stays
  can_undo_lem u =
      and_both (all key_count (λ k. makes n e k ⇒ stays k)) _
      (all_of key_count (λ k. makes n e k ⇒ stays k)
      (λ k l.
      tells (makes n e k) (stays k)
      (λ m.
      and_both (is_live (n.slot k).kind || is_live_tuple (n.slot k).kind) _ (is_one (n.slot k).kind (u.made_live k m))
      (ap not (any_not key_count (λ f. reads n f k) (λ f l. u.unread k f m))))))
      (all_of key_count stays_read (λ k l. tells (reads n e k) _ (λ q. ap is_live_tuple (u.read_live k q))))
