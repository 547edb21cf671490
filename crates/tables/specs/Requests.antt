-- From the premises of a rule to a request that is allowed, and back: over any rules, for each way in which a kind needs places.
--
-- In order: requests that name two fresh keys (`asks_two`, `can_two`), a tuple and a fresh key (`asks_tuple`, `can_tuple`), a fresh key and a locality
-- (`asks_new`, `can_new`); a request that is allowed names just the places of its kind (`exact_two`, `exact_tuple`, `exact_new`), and its fresh
-- keys are free (`first_free`, `second_free`).
-- Assumes nothing.
use Rattle.std.specs.Prelude.{◌≡◌, refl, true, false, ℕ, ◌<◌, eqb}
use Rattle.std.proofs.Common.{sym, ap, ◌∙◌, subst, inr, arith, eqb-true}
use Rattle.laws.specs.Choice.{clash, or_cases}
use Rattle.order.specs.KeySets.{◌∈◌, ◌∉◌}
use Rattle.nets.specs.Rules.{Rules, Act, none, acts, aims, uses, is_newloc, second_of, is_there}
use Rattle.nets.specs.Net.{free, live, tuple, Slot, Net, forget, made_key}
use Rattle.nets.specs.Rule.{Rule}
use Rattle.nets.specs.Forward.{Request, done, Can}
use Rattle.nets.specs.Records.{forget_live, made_first, made_second}
use Rattle.tables.specs.Terms.{Holds, memory, Free}
use Rattle.tables.specs.Memories.{made_two, made_one}

-- two fresh keys; a tuple and a fresh key; a fresh key and a locality
abbrev pub asks_two : ℕ → ℕ → ℕ → Request
asks_two k k' k'' = record { key = k; used = none; first = k'; second = k''; place = none }

abbrev pub asks_tuple : ℕ → ℕ → ℕ → Request
asks_tuple k h k' = record { key = k; used = h; first = k'; second = none; place = none }

abbrev pub asks_new : ℕ → ℕ → ℕ → Request
asks_new k k' l = record { key = k; used = none; first = k'; second = none; place = l }

-- ---- from premises to a request

module _ {R : Rules} (n : Net R) (k : ℕ) (b : R.Body) (a : Act) (holds : Holds n k live b) (act : R.act b ≡ a) (acting : acts a ≡ true) where
  abbrev act_there : R.act (n.slot k).body ≡ a
  act_there = ap R.act holds.body ∙ act

  pub can_two : (k' k'' : ℕ) → uses a ≡ false → is_newloc a ≡ false → is_there (second_of a) ≡ true → R.ready b ≡ true
      → (aims a ≡ true → R.target b ∈ n.present) → Free n k' → Free n k'' → (k' ≡ k'' → ⊥) → Can n (asks_two k k' k'')
  can_two k' k'' unused stays makes ready aim f' f'' apart =
      record {
        is_live_lem = holds.kind;
        rule = subst (λ (x : R.Body). Rule n (memory x k' k'' none none)) (sym holds.body) rule;
        tuple_live = λ h. clash (uses (R.act (n.slot k).body)) h (ap uses act_there ∙ unused);
        fresh_keys =
            λ j h.
            or_cases (eqb j k') (eqb j k'') (sym (made_two R (n.slot k).body k' k'' none none f'.is_key f''.is_key j) ∙ h)
            (λ p. ap (λ x. (n.slot x).kind) (eqb-true j k' p) ∙ f'.is_free_lem) (λ p. ap (λ x. (n.slot x).kind) (eqb-true j k'' p) ∙ f''.is_free_lem);
        fresh_place = λ h. clash (is_newloc (R.act (n.slot k).body)) h (ap is_newloc act_there ∙ stays);
      }
    where
      rule : Rule n (memory b k' k'' none none)
      rule =
          record {
            acting = ap acts act ∙ acting;
            places =
                record {
                  first = f'.is_key;
                  second = λ h. f''.is_key;
                  no_second = λ h. clash (is_there (second_of (R.act b))) (ap (λ x. is_there (second_of x)) act ∙ makes) h;
                  apart = apart;
                  used = λ h. clash (uses (R.act b)) h (ap uses act ∙ unused);
                  no_used = λ h. refl;
                  place = λ h. clash (is_newloc (R.act b)) h (ap is_newloc act ∙ stays);
                  no_place = λ h. refl;
                };
            ready = ready;
            there = λ h. aim (sym (ap aims act) ∙ h);
            meets = λ h. clash (uses (R.act b)) h (ap uses act ∙ unused);
            here = λ h. clash (uses (R.act b)) h (ap uses act ∙ unused);
            fits = λ h. clash (uses (R.act b)) h (ap uses act ∙ unused);
          }

  -- a key is not none
  not_none : (k' : ℕ) → k' < R.keys → k' ≡ none → ⊥
  not_none k' p e = omega (arith, p, e, R.few)

  -- the one key that is made is free
  one_free : (k' h l : ℕ) → Free n k' → (j : ℕ) → made_key j (memory {R = R} (n.slot k).body k' none h l) ≡ true → (n.slot j).kind ≡ free
  one_free k' h l f' j p =
      ap (λ x. (n.slot x).kind) (eqb-true j k' (sym (made_one R (n.slot k).body k' none h l f'.is_key j) ∙ p)) ∙ f'.is_free_lem

  pub can_tuple : (h k' : ℕ) (t : R.Body) → uses a ≡ true → is_newloc a ≡ false → is_there (second_of a) ≡ false → R.ready b ≡ true
      → R.target b ∈ n.present → h < R.keys → Holds n h tuple t → R.at t ≡ R.target b → R.fits b t ≡ true → Free n k' → Can n (asks_tuple k h k')
  can_tuple h k' t needs stays alone ready aim key held here fits f' =
      record {
        is_live_lem = holds.kind;
        rule = subst (λ (x : R.Body). Rule n (memory x k' none h none)) (sym holds.body) rule;
        tuple_live = λ u. held.kind;
        fresh_keys = one_free k' h none f';
        fresh_place = λ u. clash (is_newloc (R.act (n.slot k).body)) u (ap is_newloc act_there ∙ stays);
      }
    where
      met_is : (forget (n.slot h)).body ≡ t
      met_is = ap (λ (x : Slot R). x.body) (forget_live (n.slot h) (inr held.kind)) ∙ held.body

      rule : Rule n (memory b k' none h none)
      rule =
          record {
            acting = ap acts act ∙ acting;
            places =
                record {
                  first = f'.is_key;
                  second = λ u. clash (is_there (second_of (R.act b))) u (ap (λ x. is_there (second_of x)) act ∙ alone);
                  no_second = λ u. refl;
                  apart = not_none k' f'.is_key;
                  used = λ u. key;
                  no_used = λ u. clash (uses (R.act b)) (ap uses act ∙ needs) u;
                  place = λ u. clash (is_newloc (R.act b)) u (ap is_newloc act ∙ stays);
                  no_place = λ u. refl;
                };
            ready = ready;
            there = λ u. aim;
            meets = λ u. ap (λ (x : Slot R). x.kind) (forget_live (n.slot h) (inr held.kind)) ∙ held.kind;
            here = λ u. ap R.at met_is ∙ here;
            fits = λ u. ap (R.fits b) met_is ∙ fits;
          }

  pub can_new : (k' l : ℕ) → uses a ≡ false → aims a ≡ false → is_newloc a ≡ true → is_there (second_of a) ≡ false → R.ready b ≡ true
      → R.makeable l ≡ true → l ∉ n.present → Free n k' → Can n (asks_new k k' l)
  can_new k' l unused aimless makes alone ready may absent f' =
      record {
        is_live_lem = holds.kind;
        rule = subst (λ (x : R.Body). Rule n (memory x k' none none l)) (sym holds.body) rule;
        tuple_live = λ u. clash (uses (R.act (n.slot k).body)) u (ap uses act_there ∙ unused);
        fresh_keys = one_free k' none l f';
        fresh_place = λ u. absent;
      }
    where
      rule : Rule n (memory b k' none none l)
      rule =
          record {
            acting = ap acts act ∙ acting;
            places =
                record {
                  first = f'.is_key;
                  second = λ u. clash (is_there (second_of (R.act b))) u (ap (λ x. is_there (second_of x)) act ∙ alone);
                  no_second = λ u. refl;
                  apart = not_none k' f'.is_key;
                  used = λ u. clash (uses (R.act b)) u (ap uses act ∙ unused);
                  no_used = λ u. refl;
                  place = λ u. may;
                  no_place = λ u. clash (is_newloc (R.act b)) (ap is_newloc act ∙ makes) u;
                };
            ready = ready;
            there = λ u. clash (aims (R.act b)) u (ap aims act ∙ aimless);
            meets = λ u. clash (uses (R.act b)) u (ap uses act ∙ unused);
            here = λ u. clash (uses (R.act b)) u (ap uses act ∙ unused);
            fits = λ u. clash (uses (R.act b)) u (ap uses act ∙ unused);
          }

-- ---- and back

module _ {R : Rules} (n : Net R) (r : Request) (can : Can n r) (a : Act) (act : R.act (n.slot r.key).body ≡ a) where
  pub exact_two : uses a ≡ false → is_newloc a ≡ false → r ≡ asks_two r.key r.first r.second
  exact_two unused stays =
      let p = can.rule.places.no_used (ap uses act ∙ unused) in
      let q = can.rule.places.no_place (ap is_newloc act ∙ stays) in
      λ i. record { key = r.key; used = p i; first = r.first; second = r.second; place = q i }

  pub exact_tuple : is_there (second_of a) ≡ false → is_newloc a ≡ false → r ≡ asks_tuple r.key r.used r.first
  exact_tuple alone stays =
      let p = can.rule.places.no_second (ap (λ x. is_there (second_of x)) act ∙ alone) in
      let q = can.rule.places.no_place (ap is_newloc act ∙ stays) in
      λ i. record { key = r.key; used = r.used; first = r.first; second = p i; place = q i }

  pub exact_new : is_there (second_of a) ≡ false → uses a ≡ false → r ≡ asks_new r.key r.first r.place
  exact_new alone unused =
      let p = can.rule.places.no_second (ap (λ x. is_there (second_of x)) act ∙ alone) in
      let q = can.rule.places.no_used (ap uses act ∙ unused) in
      λ i. record { key = r.key; used = q i; first = r.first; second = p i; place = r.place }

module _ {R : Rules} (n : Net R) (r : Request) (can : Can n r) where
  pub first_free : Free n r.first
  first_free =
      let l = can.rule.places.first in
      record { is_key = l; is_free_lem = can.fresh_keys r.first (made_first (done n r) refl l) }

  pub second_free : is_there (second_of (R.act (n.slot r.key).body)) ≡ true → Free n r.second
  second_free makes =
      let l = can.rule.places.second makes in
      record { is_key = l; is_free_lem = can.fresh_keys r.second (made_second (done n r) refl l) }
