-- The test of acceptance is true exactly when the net is accepted.
--
-- In order: tests together; of each test, what it says (`.._says`) and when it holds (`.._holds`); the law (`accepted_test`).
-- Assumes nothing.
use Rattle.std.specs.Prelude.{◌≡◌, ◌↔◌, Bool, ◌&&◌, ◌||◌, ℕ, ◌<◌, ltb}
use Rattle.std.proofs.Math.Path.{refl, ap, subst}
use Rattle.std.proofs.Common.{sym, ◌∙◌, true≢false, arith}
use Rattle.std.proofs.Math.Logic.{by_cases}
use Rattle.std.proofs.Math.Bool.{true, false, not}
use Rattle.std.proofs.lemmas.Bool.{false≢true}
use Rattle.std.proofs.Math.Decide.{dec_lt}
use Rattle.std.proofs.Math.Dec.{eqb}
use borrow.Author.Tests.{eqb-true, eq-eqb, not-true, eqb-false, ne_eqb, ltb-true, lt-ltb}
use Rattle.laws.specs.Choice.{cases, clash, and_left, and_right, and_both, sameb, sameb_eq, pick, or_left, or_right, or_cases, fails, ◌⇒◌, told, tells}
use Rattle.laws.specs.Checks.{all, all_of, all_at}
use Rattle.order.specs.KeySets.{◌∈◌, ◌∉◌, any, any_of, any_some}
use Rattle.order.specs.Distinct.{distinct, distinct_apart, apart_distinct}
use Rattle.order.proofs.Peeling.{acyclic_iff}
use Rattle.nets.specs.Rules.{Rules, take_uses, none, acts, aims, uses, is_newloc, second_of, is_there}
use Rattle.nets.specs.Net.{is_held, kind_number, is_live_tuple, Kind, free, live, past, tuple, consumed, is_consumed, Slot, Net, free_slot, fresh, forget, events, held, made_key, took_tuple, made_locality, makes, takes, makes_locality, is_made, is_made_locality, depends}
use Rattle.nets.specs.Rule.{met, product, Places, Rule}
use Rattle.nets.specs.Accepted.{Bounded, Formed, Agrees, Root, Accepted}
use Rattle.nets.specs.Records.{same_kind, OfEvents, same_slot_lem, made_past, made_below, took_past, took_act, took_is, locality_past, locality_makeable}
use Rattle.nets.proofs.Events.{bounded_held, bounded_event, bounded_among}
use Rattle.nets.specs.Accepting.{ruled, once_each, tuples_right, localities_right, roots_right, same_slot, formed_as, formed, agreed, accepted, placed, fitting}

-- ---- tests together

and_three : {a b c : Bool} → a ≡ true → b ≡ true → c ≡ true → (a && (b && c)) ≡ true
and_three {a} {b} {c} p q r = and_both a _ p (and_both b _ q r)

pick_says : (a b c : Bool) → pick a b c ≡ true → (a ≡ true → b ≡ true) × (a ≡ false → c ≡ true)
pick_says true b c h = (λ p. h, λ p. absurd (true≢false p))
pick_says false b c h = (λ p. absurd (false≢true p), λ p. h)

pick_holds : (a b c : Bool) → (a ≡ true → b ≡ true) → (a ≡ false → c ≡ true) → pick a b c ≡ true
pick_holds true b c p q = p refl
pick_holds false b c p q = q refl

module _ {R : Rules} where
  -- ---- a rule

  placed_says : (s : Slot R) → placed s ≡ true → Places s
  unfolding placed
  placed_says s h =
      let h₁ = and_right (ltb s.first R.keys) _ h in
      let two = pick (is_there (second_of (R.act s.body))) (ltb s.second R.keys) (eqb s.second none) in
      let h₂ = and_right two _ h₁ in
      let h₃ = and_right (not (eqb s.first s.second)) _ h₂ in
      let met-one = pick (uses (R.act s.body)) (ltb s.used R.keys) (eqb s.used none) in
      let q₂ = pick_says (is_there (second_of (R.act s.body))) _ _ (and_left two _ h₁) in
      let q₃ = pick_says (uses (R.act s.body)) _ _ (and_left met-one _ h₃) in
      let q₄ = pick_says (is_newloc (R.act s.body)) _ _ (and_right met-one _ h₃) in
      record {
        first = ltb-true s.first R.keys (and_left (ltb s.first R.keys) _ h);
        second = λ p. ltb-true s.second R.keys (q₂.0 p);
        no_second = λ p. eqb-true s.second none (q₂.1 p);
        apart = eqb-false s.first s.second (not-true (eqb s.first s.second) (and_left (not (eqb s.first s.second)) _ h₂));
        used = λ p. ltb-true s.used R.keys (q₃.0 p);
        no_used = λ p. eqb-true s.used none (q₃.1 p);
        place = q₄.0;
        no_place = λ p. eqb-true s.place none (q₄.1 p);
      }

  placed_holds : (s : Slot R) → Places s → placed s ≡ true
  unfolding placed
  placed_holds s f =
      and_three (lt-ltb s.first R.keys f.first)
      (pick_holds (is_there (second_of (R.act s.body))) _ _ (λ p. lt-ltb s.second R.keys (f.second p)) (λ p. eq-eqb s.second none (f.no_second p)))
      (and_three (ap not (ne_eqb s.first s.second f.apart))
      (pick_holds (uses (R.act s.body)) _ _ (λ p. lt-ltb s.used R.keys (f.used p)) (λ p. eq-eqb s.used none (f.no_used p)))
      (pick_holds (is_newloc (R.act s.body)) _ _ f.place (λ p. eq-eqb s.place none (f.no_place p))))

  ruled_says : (n : Net R) (s : Slot R) → ruled n s ≡ true → Rule n s
  unfolding ruled fitting
  ruled_says n s h =
      let h₁ = and_right (acts (R.act s.body)) _ h in
      let h₂ = and_right (placed s) _ h₁ in
      let h₃ = and_right (R.ready s.body) _ h₂ in
      let aimed = aims (R.act s.body) ⇒ n.present (R.target s.body) in
      let tuple-fits : uses (R.act s.body) ≡ true → fitting n s ≡ true = told (uses (R.act s.body)) _ (and_right aimed _ h₃) in
      let at_target : uses (R.act s.body) ≡ true → (eqb (R.at (met n s).body) (R.target s.body) && R.fits s.body (met n s).body) ≡ true = λ u. and_right (is_live_tuple (met n s).kind) _ (tuple-fits u) in
      record {
        acting = and_left (acts (R.act s.body)) _ h;
        places = placed_says s (and_left (placed s) _ h₁);
        ready = and_left (R.ready s.body) _ h₂;
        there = told (aims (R.act s.body)) _ (and_left aimed _ h₃);
        meets = λ u. same_kind (met n s).kind tuple (and_left (is_live_tuple (met n s).kind) _ (tuple-fits u));
        here = λ u. eqb-true (R.at (met n s).body) (R.target s.body) (and_left (eqb (R.at (met n s).body) (R.target s.body)) _ (at_target u));
        fits = λ u. and_right (eqb (R.at (met n s).body) (R.target s.body)) _ (at_target u);
      }

  ruled_holds : (n : Net R) (s : Slot R) → Rule n s → ruled n s ≡ true
  unfolding ruled fitting
  ruled_holds n s r =
      and_three r.acting (placed_holds s r.places)
      (and_three r.ready (tells (aims (R.act s.body)) _ r.there)
      (tells (uses (R.act s.body)) _
      (λ u.
      and_three (ap is_live_tuple (r.meets u)) (eq-eqb (R.at (met n s).body) (R.target s.body) (r.here u)) (r.fits u))))

module _ {R : Rules} (same : R.Body → R.Body → Bool) (same-iff : (a b : R.Body) → (same a b ≡ true) ↔ (a ≡ b)) where
  -- ---- the same record

  same_says : (s t : Slot R) → same_slot same s t ≡ true → s ≡ t
  unfolding same_slot
  same_says s t h =
      let h₁ = and_right (eqb (kind_number s.kind) (kind_number t.kind)) _ h in
      let h₂ = and_right (same s.body t.body) _ h₁ in
      let h₃ = and_right (eqb s.first t.first) _ h₂ in
      let h₄ = and_right (eqb s.second t.second) _ h₃ in
      same_slot_lem s t (same_kind s.kind t.kind (and_left (eqb (kind_number s.kind) (kind_number t.kind)) _ h))
      ((same-iff s.body t.body).0 (and_left (same s.body t.body) _ h₁))
      (eqb-true s.first t.first (and_left (eqb s.first t.first) _ h₂))
      (eqb-true s.second t.second (and_left (eqb s.second t.second) _ h₃))
      (eqb-true s.used t.used (and_left (eqb s.used t.used) _ h₄))
      (eqb-true s.place t.place (and_right (eqb s.used t.used) _ h₄))

  same_self : (s : Slot R) → same_slot same s s ≡ true
  unfolding same_slot
  same_self s =
      and_three (eq-eqb (kind_number s.kind) (kind_number s.kind) refl) ((same-iff s.body s.body).1 refl)
      (and_three (eq-eqb s.first s.first refl) (eq-eqb s.second s.second refl)
      (and_both (eqb s.used s.used) _ (eq-eqb s.used s.used refl) (eq-eqb s.place s.place refl)))

  same_holds : (s t : Slot R) → s ≡ t → same_slot same s t ≡ true
  same_holds s t e = ap (same_slot same s) (sym e) ∙ same_self s

  -- ---- the form of a slot

  formed_says : (c : Kind) (s : Slot R) → formed_as same c s ≡ true → Formed c s
  formed_says free s h = same_says s free_slot h
  formed_says live s h = (same_says s (fresh live s.body) (and_left (same_slot same s (fresh live s.body)) _ h), and_right (same_slot same s (fresh live s.body)) _ h)
  formed_says past s h = h
  formed_says tuple s h = (same_says s (fresh tuple s.body) (and_left (same_slot same s (fresh tuple s.body)) _ h), and_right (same_slot same s (fresh tuple s.body)) _ h)
  formed_says consumed s h = (same_says s (fresh consumed s.body) (and_left (same_slot same s (fresh consumed s.body)) _ h), and_right (same_slot same s (fresh consumed s.body)) _ h)

  formed_holds : (c : Kind) (s : Slot R) → Formed c s → formed_as same c s ≡ true
  formed_holds free s h = same_holds s free_slot h
  formed_holds live s h = and_both (same_slot same s (fresh live s.body)) _ (same_holds s (fresh live s.body) h.0) h.1
  formed_holds past s h = h
  formed_holds tuple s h = and_both (same_slot same s (fresh tuple s.body)) _ (same_holds s (fresh tuple s.body) h.0) h.1
  formed_holds consumed s h = and_both (same_slot same s (fresh consumed s.body)) _ (same_holds s (fresh consumed s.body) h.0) h.1

  -- ---- an event and what it made

  agreed_says : (n : Net R) (e : ℕ) → agreed same n e ≡ true → Agrees n e (n.slot e)
  unfolding agreed
  agreed_says n e h =
      record {
        rule = ruled_says n (n.slot e) (and_left (ruled n (n.slot e)) _ h);
        made = λ k m.
            same_says (forget (n.slot k)) (product e (n.slot e) (met n (n.slot e)).body k)
            (told (makes n e k) _
            (all_at R.keys (λ k. makes n e k ⇒ same_slot same (forget (n.slot k)) (product e (n.slot e) (met n (n.slot e)).body k))
            (and_right (ruled n (n.slot e)) _ h) k (made_below k (n.slot e) m)) m);
      }

  agreed_holds : (n : Net R) (e : ℕ) → Agrees n e (n.slot e) → agreed same n e ≡ true
  unfolding agreed
  agreed_holds n e a =
      and_both (ruled n (n.slot e)) _ (ruled_holds n (n.slot e) a.rule)
      (all_of R.keys _ (λ k l. tells (makes n e k) _ (λ m. same_holds _ _ (a.made k m))))

-- ---- the net as a whole

module _ {R : Rules} where
  module _ (n : Net R) (bound : Bounded n) where
    -- who says the same is the same: said of the events below the number of keys, and of numbers below K, that is all
    once_says : (K : ℕ) (Q : ℕ → Slot R → Bool) → ((k : ℕ) → OfEvents (Q k)) → ((e k : ℕ) → Q k (n.slot e) ≡ true → k < K)
        → distinct K R.keys (λ e k. Q k (n.slot e)) ≡ true → (e f k : ℕ) → Q k (n.slot e) ≡ true → Q k (n.slot f) ≡ true → e ≡ f
    once_says K Q of below h e f k p q =
        distinct_apart K R.keys (λ e k. Q k (n.slot e)) h e f k (bounded_event n bound e (of k (n.slot e) p))
        (bounded_event n bound f (of k (n.slot f) q)) (below e k p) p q

    once_holds : (K : ℕ) (Q : ℕ → Slot R → Bool) → ((e f k : ℕ) → Q k (n.slot e) ≡ true → Q k (n.slot f) ≡ true → e ≡ f)
        → distinct K R.keys (λ e k. Q k (n.slot e)) ≡ true
    once_holds K Q h = apart_distinct K R.keys (λ e k. Q k (n.slot e)) (λ e f k _ _ _. h e f k)

    roots_says : roots_right n ≡ true → (k : ℕ) → k ∈ held n → k ∉ is_made n → Root n (n.slot k)
    unfolding roots_right
    roots_says h k p m =
        let either =
        told (held n k) _
        (all_at R.keys (λ k. held n k ⇒ (is_made n k || (R.rooted (n.slot k).body && n.present (R.at (n.slot k).body)))) h k (bounded_held n bound k p)) p in
        or_cases (is_made n k) _ either (λ q. clash (is_made n k) q m)
        (λ q.
        record {
          rooted = and_left (R.rooted (n.slot k).body) _ q;
          lives = and_right (R.rooted (n.slot k).body) _ q;
        })

    roots_holds : ((k : ℕ) → k ∈ held n → k ∉ is_made n → Root n (n.slot k)) → roots_right n ≡ true
    unfolding roots_right
    roots_holds h =
        all_of R.keys _ (λ k l. tells (held n k) _ (λ p.
        cases (is_made n k) (λ m. or_left (is_made n k) _ m)
        (λ m. or_right (is_made n k) _ (and_both (R.rooted (n.slot k).body) _ (h k p m).rooted (h k p m).lives))))

    localities_says : (L : ℕ) → ((l : ℕ) → l ∈ R.makeable → l < L) → localities_right L n ≡ true → (l : ℕ) → l ∈ R.makeable
        → n.present l ≡ is_made_locality n l
    unfolding localities_right
    localities_says L few h l m =
        sameb_eq (n.present l) (is_made_locality n l)
        (told (R.makeable l) _
        (all_at L (λ l. R.makeable l ⇒ sameb (n.present l) (is_made_locality n l)) h l (few l m)) m)

    localities_holds : (L : ℕ) → ((l : ℕ) → l ∈ R.makeable → n.present l ≡ is_made_locality n l) → localities_right L n ≡ true
    unfolding localities_right
    localities_holds L h =
        all_of L _ (λ l b. tells (R.makeable l) _ (λ m.
        ap (λ (a : Bool). sameb a (is_made_locality n l)) (h l m) ∙ same_test (is_made_locality n l)))
      where
        same_test : (a : Bool) → sameb a a ≡ true
        same_test true = refl
        same_test false = refl

    consumed_says : tuples_right n ≡ true → (k : ℕ) → (n.slot k).kind ≡ consumed → (f : ℕ) × (takes n f k ≡ true)
    unfolding tuples_right
    consumed_says h k c =
        let all-k = and_left (all R.keys (λ k. is_consumed (n.slot k).kind ⇒ any R.keys (λ f. takes n f k))) _ h in
        let some =
        told (is_consumed (n.slot k).kind) _
        (all_at R.keys (λ k. is_consumed (n.slot k).kind ⇒ any R.keys (λ f. takes n f k)) all-k k (bounded_held n bound k (ap is_held c))) (ap is_consumed c) in
        let (f, l, t) = any_some R.keys (λ f. takes n f k) some in
        (f, t)

    untaken_says : tuples_right n ≡ true → (f k : ℕ) → (n.slot k).kind ≡ tuple → takes n f k ≡ false
    unfolding tuples_right
    untaken_says h f k c =
        fails (takes n f k)
        (λ t.
        let z = took_is k (n.slot f) t in
        let all-f = and_right (all R.keys (λ k. is_consumed (n.slot k).kind ⇒ any R.keys (λ f. takes n f k))) _ h in
        let one =
        told (takes n f (n.slot f).used) _
        (all_at R.keys (λ f. takes n f (n.slot f).used ⇒ not (is_live_tuple (n.slot (n.slot f).used).kind)) all-f f (bounded_event n bound f (took_past k (n.slot f) t)))
        (ap (takes n f) z ∙ t) in
        clash (is_live_tuple (n.slot k).kind) (ap is_live_tuple c)
        (ap (λ (j : ℕ). is_live_tuple (n.slot j).kind) (sym z) ∙ not-true (is_live_tuple (n.slot (n.slot f).used).kind) one))

    tuples_holds : ((k : ℕ) → (n.slot k).kind ≡ consumed → (f : ℕ) × (takes n f k ≡ true))
        → ((f k : ℕ) → (n.slot k).kind ≡ tuple → takes n f k ≡ false) → tuples_right n ≡ true
    unfolding tuples_right
    tuples_holds used unused =
        and_both (all R.keys (λ k. is_consumed (n.slot k).kind ⇒ any R.keys (λ f. takes n f k))) _
        (all_of R.keys _ (λ k l. tells (is_consumed (n.slot k).kind) _ (λ c.
        let (f, t) = used k (same_kind (n.slot k).kind consumed (consumed_kind (n.slot k).kind c)) in
        any_of R.keys (λ f. takes n f k) f (bounded_event n bound f (took_past k (n.slot f) t)) t)))
        (all_of R.keys _ (λ f l. tells (takes n f (n.slot f).used) _ (λ t.
        ap not
        (fails (is_live_tuple (n.slot (n.slot f).used).kind)
        (λ c. clash (takes n f (n.slot f).used) t (unused f (n.slot f).used (same_kind (n.slot (n.slot f).used).kind tuple c)))))))
      where
        consumed_kind : (c : Kind) → is_consumed c ≡ true → eqb (kind_number c) 4 ≡ true
        consumed_kind free h = absurd (false≢true h)
        consumed_kind live h = absurd (false≢true h)
        consumed_kind past h = absurd (false≢true h)
        consumed_kind tuple h = absurd (false≢true h)
        consumed_kind consumed h = refl

-- ---- acceptance

module _ {R : Rules} (same : R.Body → R.Body → Bool) (same-iff : (a b : R.Body) → (same a b ≡ true) ↔ (a ≡ b)) (L : ℕ) (few : (l : ℕ) → l ∈ R.makeable → l < L) where
  module _ (n : Net R) (bound : Bounded n) where
    agreement : all R.keys (λ e. events n e ⇒ agreed same n e) ≡ true → (e : ℕ) → e ∈ events n → Agrees n e (n.slot e)
    agreement h e p =
        agreed_says same same-iff n e
        (told (events n e) _ (all_at R.keys (λ e. events n e ⇒ agreed same n e) h e (bounded_event n bound e p)) p)

    says : accepted same L n ≡ true → Accepted n
    unfolding accepted once_each formed
    says h =
        let forms = all R.keys (λ k. formed same (n.slot k)) in
        let agree = all R.keys (λ e. events n e ⇒ agreed same n e) in
        let h₁ = and_right forms _ h in
        let h₂ = and_right agree _ h₁ in
        let h₃ = and_right (once_each L n) _ h₂ in
        let h₄ = and_right (tuples_right n) _ h₃ in
        let h₅ = and_right (localities_right L n) _ h₄ in
        let once = and_left (once_each L n) _ h₂ in
        let once₁ = and_right (distinct R.keys R.keys (makes n)) _ once in
        record {
          bound = bound;
          formed = λ k.
              by_cases (dec_lt k R.keys)
              (λ l. formed_says same same-iff (n.slot k).kind (n.slot k) (all_at R.keys (λ k. formed same (n.slot k)) (and_left forms _ h) k l))
              (λ l. free_formed k (bound k (omega arith)));
          agrees = agreement (and_left agree _ h₁);
          key_once = once_says n bound R.keys made_key made_past (λ e k. made_below k (n.slot e)) (and_left (distinct R.keys R.keys (makes n)) _ once);
          locality_once =
              once_says n bound L made_locality locality_past
              (λ e l p. few l (locality_makeable l (n.slot e) (agreement (and_left agree _ h₁) e (locality_past l (n.slot e) p)).rule.places p))
              (and_left (distinct L R.keys (makes_locality n)) _ once₁);
          consumed_taken_lem = consumed_says n bound (and_left (tuples_right n) _ h₃);
          taken_once =
              once_says n bound R.keys took_tuple took_past
              (λ f k p.
              let places = (agreement (and_left agree _ h₁) f (took_past k (n.slot f) p)).rule.places in
              let below = places.used (take_uses (R.act (n.slot f).body) (took_act k (n.slot f) p)) in
              subst (λ (j : ℕ). j < R.keys) (took_is k (n.slot f) p) below)
              (and_right (distinct L R.keys (makes_locality n)) _ once₁);
          live_untaken = untaken_says n bound (and_left (tuples_right n) _ h₃);
          present_made = localities_says n bound L few (and_left (localities_right L n) _ h₄);
          roots = roots_says n bound (and_left (roots_right n) _ h₅);
          no_cycle = (acyclic_iff R.keys (depends n) (events n) (bounded_among n bound)).0 (and_right (roots_right n) _ h₅);
        }
      where
        free_formed : (k : ℕ) → n.slot k ≡ free_slot → Formed (n.slot k).kind (n.slot k)
        free_formed k e = rw e refl

    holds : Accepted n → accepted same L n ≡ true
    unfolding accepted once_each formed
    holds ok =
        and_three (all_of R.keys _ (λ k l. formed_holds same same-iff (n.slot k).kind (n.slot k) (ok.formed k)))
        (all_of R.keys _ (λ e l. tells (events n e) _ (λ p. agreed_holds same same-iff n e (ok.agrees e p))))
        (and_three
        (and_three (once_holds n bound R.keys made_key ok.key_once) (once_holds n bound L made_locality ok.locality_once)
        (once_holds n bound R.keys took_tuple ok.taken_once))
        (tuples_holds n bound ok.consumed_taken_lem ok.live_untaken)
        (and_three (localities_holds n bound L ok.present_made) (roots_holds n bound ok.roots)
        ((acyclic_iff R.keys (depends n) (events n) (bounded_among n bound)).1 ok.no_cycle)))

    -- of a net in which nothing is held from the number of keys on
    pub accepted_test : (accepted same L n ≡ true) ↔ Accepted n
    accepted_test = (says, holds)
