-- Laws of single records: forgetting, what an event's record says, and what a rule makes.
--
-- In order: kinds (`same_kind`, `past_kind`, `live_not_past` and the like); `forget` twice, and what it keeps; records with the same parts
-- (`same_slot_lem`); what each test on a record says and what makes it true (`OfEvents`, `made_..`, `took_..`, `read_..`, `locality_..`); what
-- stands at a key that was made (`Made`, `made_way`); a rule and an agreement carried over to another net (`rule_over`, `agrees_over`).
-- Assumes nothing.
use Rattle.std.specs.Prelude.{◌≡◌, ◌⊎◌, Bool, true, ℕ, ◌<◌, ltb}
use Rattle.std.proofs.Math.Path.{refl, sym}
use Rattle.std.proofs.Common.{◌∙◌, ap, subst, true≢false, arith}
use Rattle.std.proofs.Math.Logic.{inl, inr}
use Rattle.std.proofs.Math.Bool.{false}
use Rattle.std.proofs.Math.Dec.{eqb}
use borrow.Author.Tests.{eqb-true, eqb-false, eq-eqb, ltb-true, lt-ltb}
use Rattle.laws.specs.Choice.{pick, cases, and_left, and_right, and_both, or_left, or_right, or_cases}
use Rattle.order.specs.KeySets.{◌∈◌}
use Rattle.nets.specs.Rules.{Rules, aims, is_take, is_read, is_newloc, Second, nothing, aTuple, aProcess, second_of, is_there}
use Rattle.nets.specs.Net.{Kind, kind_number, is_held, free, live, past, tuple, consumed, is_free, is_past, is_consumed, Slot, Net, fresh, forget_as, forget, made_key, took_tuple, read_tuple, made_locality}
use Rattle.nets.specs.Rule.{met, product, Places, Rule}
use Rattle.nets.specs.Accepted.{Formed, Agrees}

-- ---- kinds

abbrev kind_of : ℕ → Kind
kind_of k = pick (eqb k 0) free (pick (eqb k 1) live (pick (eqb k 2) past (pick (eqb k 3) tuple consumed)))

kind_again : (c : Kind) → kind_of (kind_number c) ≡ c
kind_again free = refl
kind_again live = refl
kind_again past = refl
kind_again tuple = refl
kind_again consumed = refl

pub same_kind : (c d : Kind) → eqb (kind_number c) (kind_number d) ≡ true → c ≡ d
same_kind c d h = sym (kind_again c) ∙ ap kind_of (eqb-true (kind_number c) (kind_number d) h) ∙ kind_again d

pub past_kind : (c : Kind) → is_past c ≡ true → c ≡ past
past_kind c h = same_kind c past h

pub live_not_past : (c : Kind) → (c ≡ live) ⊎ (c ≡ tuple) → is_past c ≡ false
live_not_past c (inl p) = rw p
live_not_past c (inr p) = rw p

pub live_not_consumed : (c : Kind) → (c ≡ live) ⊎ (c ≡ tuple) → is_consumed c ≡ false
live_not_consumed c (inl p) = rw p
live_not_consumed c (inr p) = rw p

pub live_held : (c : Kind) → (c ≡ live) ⊎ (c ≡ tuple) → is_free c ≡ false
live_held c (inl p) = rw p
live_held c (inr p) = rw p

pub past_held : (c : Kind) → is_past c ≡ true → is_held c ≡ true
past_held c h = rw (past_kind c h)

module _ {R : Rules} where
  pub kind_eq : {s t : Slot R} → s ≡ t → s.kind ≡ t.kind
  kind_eq e = ap (λ (s : Slot R). s.kind) e

  pub body_eq : {s t : Slot R} → s ≡ t → s.body ≡ t.body
  body_eq e = ap (λ (s : Slot R). s.body) e

  -- ---- forgetting

  pub forget_again : (s : Slot R) → forget (forget s) ≡ forget s
  forget_again s = each s.kind refl
    where
      each : (c : Kind) → s.kind ≡ c → forget (forget_as c s) ≡ forget_as c s
      each free e = ap (λ (d : Kind). forget_as d s) e
      each live e = ap (λ (d : Kind). forget_as d s) e
      each past e = refl
      each tuple e = ap (λ (d : Kind). forget_as d s) e
      each consumed e = refl

  -- the contents are kept
  pub forget_body : (s : Slot R) → (forget s).body ≡ s.body
  forget_body s = each s.kind
    where
      each : (c : Kind) → (forget_as c s).body ≡ s.body
      each free = refl
      each live = refl
      each past = refl
      each tuple = refl
      each consumed = refl

  pub forget_free : (s : Slot R) → is_free (forget s).kind ≡ is_free s.kind
  forget_free s = each s.kind refl
    where
      each : (c : Kind) → s.kind ≡ c → is_free (forget_as c s).kind ≡ is_free c
      each free e = ap is_free e
      each live e = ap is_free e
      each past e = refl
      each tuple e = ap is_free e
      each consumed e = refl

  pub forget_not_past : (s : Slot R) → is_past (forget s).kind ≡ false
  forget_not_past s = each s.kind refl
    where
      each : (c : Kind) → s.kind ≡ c → is_past (forget_as c s).kind ≡ false
      each free e = ap is_past e
      each live e = ap is_past e
      each past e = refl
      each tuple e = ap is_past e
      each consumed e = refl

  pub forget_not_consumed : (s : Slot R) → is_consumed (forget s).kind ≡ false
  forget_not_consumed s = each s.kind refl
    where
      each : (c : Kind) → s.kind ≡ c → is_consumed (forget_as c s).kind ≡ false
      each free e = ap is_consumed e
      each live e = ap is_consumed e
      each past e = refl
      each tuple e = ap is_consumed e
      each consumed e = refl

  -- a tuple is what was one
  pub forget_tuple : (s : Slot R) → (forget s).kind ≡ tuple → (s.kind ≡ tuple) ⊎ (s.kind ≡ consumed)
  forget_tuple s = each s.kind refl
    where
      each : (c : Kind) → s.kind ≡ c → (forget_as c s).kind ≡ tuple → (c ≡ tuple) ⊎ (c ≡ consumed)
      each free e h = absurd (true≢false cc)
      each live e h = absurd (true≢false cc)
      each past e h = absurd (true≢false cc)
      each tuple e h = inl refl
      each consumed e h = inr refl

  -- a live record has nothing to forget
  pub forget_live : (s : Slot R) → (s.kind ≡ live) ⊎ (s.kind ≡ tuple) → forget s ≡ s
  forget_live s (inl e) = ap (λ (d : Kind). forget_as d s) e
  forget_live s (inr e) = ap (λ (d : Kind). forget_as d s) e

  pub forget_past : (s : Slot R) → s.kind ≡ past → forget s ≡ fresh live s.body
  forget_past s e = ap (λ (d : Kind). forget_as d s) e

  pub forget_consumed : (s : Slot R) → s.kind ≡ consumed → forget s ≡ fresh tuple s.body
  forget_consumed s e = ap (λ (d : Kind). forget_as d s) e

  pub forget_formed : (s : Slot R) → Formed s.kind s → Formed (forget s).kind (forget s)
  forget_formed s = each s.kind refl
    where
      each : (c : Kind) → s.kind ≡ c → Formed c s → Formed (forget_as c s).kind (forget_as c s)
      each free e h = subst (λ (d : Kind). Formed d s) (sym e) h
      each live e h = subst (λ (d : Kind). Formed d s) (sym e) h
      each past e h = (refl, h)
      each tuple e h = subst (λ (d : Kind). Formed d s) (sym e) h
      each consumed e h = (refl, h.1)

  pub same_slot_lem : (s t : Slot R) → s.kind ≡ t.kind → s.body ≡ t.body → s.first ≡ t.first → s.second ≡ t.second
      → s.used ≡ t.used → s.place ≡ t.place → s ≡ t
  same_slot_lem s t p q a b c d = λ i. record { kind = p i; body = q i; first = a i; second = b i; used = c i; place = d i }

  -- ---- what an event's record says

  -- only the record of an event passes the test
  abbrev pub OfEvents : (Slot R → Bool) → Type 0
  OfEvents Q = (s : Slot R) → Q s ≡ true → is_past s.kind ≡ true

  pub made_past : (k : ℕ) (s : Slot R) → made_key k s ≡ true → is_past s.kind ≡ true
  unfolding made_key
  made_past k s h = and_left (is_past s.kind) _ h

  pub took_past : (k : ℕ) (s : Slot R) → took_tuple k s ≡ true → is_past s.kind ≡ true
  unfolding took_tuple
  took_past k s h = and_left (is_past s.kind) _ h

  pub read_past : (k : ℕ) (s : Slot R) → read_tuple k s ≡ true → is_past s.kind ≡ true
  unfolding read_tuple
  read_past k s h = and_left (is_past s.kind) _ h

  pub locality_past : (l : ℕ) (s : Slot R) → made_locality l s ≡ true → is_past s.kind ≡ true
  unfolding made_locality
  locality_past l s h = and_left (is_past s.kind) _ h

  pub made_below : (k : ℕ) (s : Slot R) → made_key k s ≡ true → k < R.keys
  unfolding made_key
  made_below k s h = ltb-true k R.keys (and_left (ltb k R.keys) _ (and_right (is_past s.kind) _ h))

  pub made_cases : (k : ℕ) (s : Slot R) → made_key k s ≡ true → (s.first ≡ k) ⊎ (s.second ≡ k)
  unfolding made_key
  made_cases k s h =
      or_cases (eqb s.first k) (eqb s.second k) (and_right (ltb k R.keys) _ (and_right (is_past s.kind) _ h))
      (λ p. inl (eqb-true s.first k p)) (λ p. inr (eqb-true s.second k p))

  pub made_first : (s : Slot R) → is_past s.kind ≡ true → s.first < R.keys → made_key s.first s ≡ true
  unfolding made_key
  made_first s p l =
      and_both (is_past s.kind) _ p
      (and_both (ltb s.first R.keys) _ (lt-ltb s.first R.keys l)
      (or_left (eqb s.first s.first) _ (eq-eqb s.first s.first refl)))

  pub made_second : (s : Slot R) → is_past s.kind ≡ true → s.second < R.keys → made_key s.second s ≡ true
  unfolding made_key
  made_second s p l =
      and_both (is_past s.kind) _ p
      (and_both (ltb s.second R.keys) _ (lt-ltb s.second R.keys l)
      (or_right (eqb s.first s.second) _ (eq-eqb s.second s.second refl)))

  pub took_act : (k : ℕ) (s : Slot R) → took_tuple k s ≡ true → is_take (R.act s.body) ≡ true
  unfolding took_tuple
  took_act k s h = and_left (is_take (R.act s.body)) _ (and_right (is_past s.kind) _ h)

  pub took_is : (k : ℕ) (s : Slot R) → took_tuple k s ≡ true → s.used ≡ k
  unfolding took_tuple
  took_is k s h = eqb-true s.used k (and_right (is_take (R.act s.body)) (eqb s.used k) (and_right (is_past s.kind) _ h))

  pub took_of : (s : Slot R) → is_past s.kind ≡ true → is_take (R.act s.body) ≡ true → took_tuple s.used s ≡ true
  unfolding took_tuple
  took_of s p q =
      and_both (is_past s.kind) _ p (and_both (is_take (R.act s.body)) _ q (eq-eqb s.used s.used refl))

  pub read_act : (k : ℕ) (s : Slot R) → read_tuple k s ≡ true → is_read (R.act s.body) ≡ true
  unfolding read_tuple
  read_act k s h = and_left (is_read (R.act s.body)) _ (and_right (is_past s.kind) _ h)

  pub read_is : (k : ℕ) (s : Slot R) → read_tuple k s ≡ true → s.used ≡ k
  unfolding read_tuple
  read_is k s h = eqb-true s.used k (and_right (is_read (R.act s.body)) (eqb s.used k) (and_right (is_past s.kind) _ h))

  pub read_of : (s : Slot R) → is_past s.kind ≡ true → is_read (R.act s.body) ≡ true → read_tuple s.used s ≡ true
  unfolding read_tuple
  read_of s p q =
      and_both (is_past s.kind) _ p (and_both (is_read (R.act s.body)) _ q (eq-eqb s.used s.used refl))

  pub locality_act : (l : ℕ) (s : Slot R) → made_locality l s ≡ true → is_newloc (R.act s.body) ≡ true
  unfolding made_locality
  locality_act l s h = and_left (is_newloc (R.act s.body)) _ (and_right (is_past s.kind) _ h)

  pub locality_is : (l : ℕ) (s : Slot R) → made_locality l s ≡ true → s.place ≡ l
  unfolding made_locality
  locality_is l s h =
      eqb-true s.place l (and_right (is_newloc (R.act s.body)) (eqb s.place l) (and_right (is_past s.kind) _ h))

  pub locality_of_lem : (s : Slot R) → is_past s.kind ≡ true → is_newloc (R.act s.body) ≡ true → made_locality s.place s ≡ true
  unfolding made_locality
  locality_of_lem s p q =
      and_both (is_past s.kind) _ p (and_both (is_newloc (R.act s.body)) _ q (eq-eqb s.place s.place refl))

  -- only a locality that needs a maker is made
  pub locality_makeable : (l : ℕ) (s : Slot R) → Places s → made_locality l s ≡ true → l ∈ R.makeable
  locality_makeable l s f h = ap R.makeable (sym (locality_is l s h)) ∙ f.place (locality_act l s h)

  -- ---- what stands at a key that was made

  -- a continuation, a tuple, or a process besides
  pub data Made (e : ℕ) (s : Slot R) (t : R.Body) (k : ℕ) : Type 0 where
    continuation : k ≡ s.first → product e s t k ≡ fresh live (R.next e s.body t s.place) → Made e s t k
    the_tuple : k ≡ s.second → second_of (R.act s.body) ≡ aTuple → product e s t k ≡ fresh tuple (R.second s.body) → Made e s t k
    the_process : k ≡ s.second → second_of (R.act s.body) ≡ aProcess → product e s t k ≡ fresh live (R.second s.body) → Made e s t k

  pub made_way : (e : ℕ) (s : Slot R) (t : R.Body) (k : ℕ) → Places s → made_key k s ≡ true → Made e s t k
  unfolding product
  made_way e s t k f h =
      cases (eqb k s.first) (λ p. continuation (eqb-true k s.first p) (rw p))
      (λ p. second p (second_of (R.act s.body)) refl (other p (made_cases k s h)))
    where
      other : eqb k s.first ≡ false → (s.first ≡ k) ⊎ (s.second ≡ k) → k ≡ s.second
      other p (inl q) = absurd (eqb-false k s.first p (sym q))
      other p (inr q) = sym q

      second : eqb k s.first ≡ false → (c : Second) → second_of (R.act s.body) ≡ c → k ≡ s.second → Made e s t k
      second p nothing q z = absurd (omega (arith, f.no_second (ap is_there q), made_below k s h, R.few))
      second p aTuple q z = the_tuple z q (rw (p, q))
      second p aProcess q z = the_process z q (rw (p, q))

  -- and each is live
  pub made_live_kind : (e : ℕ) (s : Slot R) (t : R.Body) (k : ℕ) → Made e s t k
      → ((product e s t k).kind ≡ live) ⊎ ((product e s t k).kind ≡ tuple)
  made_live_kind e s t k (continuation z q) = inl (kind_eq q)
  made_live_kind e s t k (the_tuple z c q) = inr (kind_eq q)
  made_live_kind e s t k (the_process z c q) = inl (kind_eq q)

  -- ---- agreement in another net

  -- a rule asks a net for the tuple met and for its target, and nothing else
  pub rule_over : (n m : Net R) (s : Slot R) → met m s ≡ met n s → (aims (R.act s.body) ≡ true → R.target s.body ∈ m.present)
      → Rule n s → Rule m s
  rule_over n m s e t r =
      record {
        acting = r.acting;
        places = r.places;
        ready = r.ready;
        there = t;
        meets = λ u. kind_eq e ∙ r.meets u;
        here = λ u. ap (λ (s : Slot R). R.at s.body) e ∙ r.here u;
        fits = λ u. ap (λ (t : Slot R). R.fits s.body t.body) e ∙ r.fits u;
      }

  pub agrees_over : (n m : Net R) (e : ℕ) (s : Slot R) → met m s ≡ met n s
      → (aims (R.act s.body) ≡ true → R.target s.body ∈ m.present)
      → ((k : ℕ) → made_key k s ≡ true → forget (m.slot k) ≡ forget (n.slot k)) → Agrees n e s → Agrees m e s
  agrees_over n m e s q t f a =
      record {
        rule = rule_over n m s q t a.rule;
        made = λ k h. f k h ∙ a.made k h ∙ ap (λ (t : Slot R). product e s t.body k) (sym q);
      }
