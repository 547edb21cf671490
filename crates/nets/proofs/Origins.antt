-- Where the contents of records come from: made localities and references lead back to the event that brought them in.
--
-- In order: something that contents carry (`Carried`), and that whoever carries it was made by a dependent of an event that brought it in
-- (`carried`); made localities: who lives at or names one (`locality_from`, `locality_event`), that it is present (`locality_present`), and
-- that it is left alone when its newloc may be undone (`left_alone`); references (`reference_from`). What `concerns` a locality, `Alone` and
-- `Reference` are in specs/.
-- Assumes nothing.
use Rattle.std.specs.Prelude.{◌≡◌, ◌⊎◌, Bool, true, false, not, ℕ, eqb}
use Rattle.std.proofs.Common.{sym, ◌∙◌, ap, inl, inr, ⊎_elim, arith, eqb-true, eq-eqb}
use Rattle.laws.specs.Choice.{cases, clash, or_left, or_right, or_cases, fails}
use Rattle.order.specs.KeySets.{◌∈◌, any_of, any_some}
use Rattle.order.specs.Graphs.{Reach, here, reach_more, induction, last_reach, founded_reach, among_founded}
use Rattle.nets.specs.Rules.{Rules, Lawful, uses, aims, is_newloc, is_split, newloc_alone}
use Rattle.nets.specs.Net.{made_key_lem, made_tuple, Kind, is_free, Slot, Net, events, held, makes, makes_locality, is_made, depends, MadeAfter}
use Rattle.nets.specs.Rule.{met, product}
use Rattle.nets.specs.Undo.{Undoable}
use Rattle.nets.specs.Accepted.{Accepted}
use Rattle.nets.specs.Origins.{concerns, Alone, Reference}
use Rattle.nets.specs.Records.{forget_body, forget_free, made_past, made_below, made_cases, locality_past, locality_act, locality_of_lem, locality_makeable, Made, continuation, the_tuple, the_process}
use Rattle.nets.proofs.Events.{cause_depends, event_below, event_held, among, over, made_there, made_as, undoable_last}

module _ {R : Rules} where
  -- Q is something that contents carry: no record that nobody made does, a continuation has it from its process, from the tuple met or from
  -- an event of X, which brings it in, and what is made besides has it from its process.
  pub record Carried (n : Net R) (Q : R.Body → Bool) (X : ℕ → Type 0) : Type 0 where
    pub rooted : (b : R.Body) → R.rooted b ≡ true → Q b ≡ false
    pub next : (f : ℕ) → f ∈ events n → Q (R.next f (n.slot f).body (met n (n.slot f)).body (n.slot f).place) ≡ true
        → (Q (n.slot f).body ≡ true) ⊎ (((uses (R.act (n.slot f).body) ≡ true) × (Q (met n (n.slot f)).body ≡ true)) ⊎ X f)
    pub second : (b : R.Body) → Q (R.second b) ≡ true → Q b ≡ true

  module _ (n : Net R) (ok : Accepted n) (Q : R.Body → Bool) (X : ℕ → Type 0) (C : Carried n Q X) where
    -- e depends on an event that brought it in
    abbrev Sourced : ℕ → Type 0
    Sourced e = (x : ℕ) × X x × Reach (depends n) x e

    abbrev Follows : ℕ → Type 0
    Follows e = (k : ℕ) → makes n e k ≡ true → Q (n.slot k).body ≡ true → Sourced e

    more : (e f : ℕ) → depends n e f ≡ true → Sourced e → Sourced f
    more e f s (x, b, r) = (x, b, reach_more r s)

    maker : (k : ℕ) → k ∈ held n → Q (n.slot k).body ≡ true → (g : ℕ) × (makes n g k ≡ true)
    maker k h q =
        cases (is_made n k) (λ m. let (g, l, mg) = any_some R.keys (λ e. makes n e k) m in (g, mg))
        (λ m. clash (Q (n.slot k).body) q (C.rooted (n.slot k).body (ok.roots k h m).rooted))

    follow : (f : ℕ) → ((e : ℕ) → depends n e f ≡ true → Follows e) → Follows f
    follow f earlier k m q = by_product (made_as n ok f k m)
      where
        past : f ∈ events n
        past = made_past k (n.slot f) m

        -- it stands at k as it was made
        stood : Q (product f (n.slot f) (met n (n.slot f)).body k).body ≡ true
        stood = ap (λ (s : Slot R). Q s.body) (sym (made_there n ok f k m)) ∙ ap Q (forget_body (n.slot k)) ∙ q

        own : Q (n.slot f).body ≡ true → Sourced f
        own h =
            let (g, mg) = maker f (event_held n ok f past) h in
            let s = cause_depends n g f past (made_key_lem mg) in
            more g f s (earlier g s f mg h)

        from_tuple : uses (R.act (n.slot f).body) ≡ true → Q (met n (n.slot f)).body ≡ true → Sourced f
        from_tuple u h =
            let t = (n.slot f).used in
            let there : t ∈ held n = ap not (sym (forget_free (n.slot t)) ∙ ap (λ (c : Kind). is_free c) ((ok.agrees f past).rule.meets u)) in
            let ht : Q (n.slot t).body ≡ true = sym (ap Q (forget_body (n.slot t))) ∙ h in
            let (g, mg) = maker t there ht in
            let s = cause_depends n g f past (made_tuple mg) in
            more g f s (earlier g s t mg ht)

        by_next : (Q (n.slot f).body ≡ true) ⊎ (((uses (R.act (n.slot f).body) ≡ true) × (Q (met n (n.slot f)).body ≡ true)) ⊎ X f)
            → Sourced f
        by_next (inl h) = own h
        by_next (inr (inl (u, h))) = from_tuple u h
        by_next (inr (inr b)) = (f, b, here)

        by_product : Made f (n.slot f) (met n (n.slot f)).body k → Sourced f
        by_product (continuation z e) = by_next (C.next f past (ap (λ (s : Slot R). Q s.body) (sym e) ∙ stood))
        by_product (the_tuple z c e) = own (C.second (n.slot f).body (ap (λ (s : Slot R). Q s.body) (sym e) ∙ stood))
        by_product (the_process z c e) = own (C.second (n.slot f).body (ap (λ (s : Slot R). Q s.body) (sym e) ∙ stood))

    -- whoever carries it was made, by an event that depends on one which brought it in
    pub carried : (k : ℕ) → k ∈ held n → Q (n.slot k).body ≡ true → (g : ℕ) × (makes n g k ≡ true) × Sourced g
    carried k h q =
        let (g, m) = maker k h q in
        (g, m, induction R.keys (depends n) (over n ok) ok.no_cycle Follows follow g k m q)

module _ (R : Rules) where
  -- ---- made localities

  lives_concerns : (l : ℕ) (b : R.Body) → R.at b ≡ l → concerns R l b ≡ true
  lives_concerns l b e = or_right (R.names b l) (eqb (R.at b) l) (eq-eqb (R.at b) l e)

module _ {R : Rules} (lawful : Lawful R) where
  -- what targets a locality that needs a maker names it
  pub target_concerns : (l : ℕ) (b : R.Body) → l ∈ R.makeable → aims (R.act b) ≡ true → R.target b ≡ l → concerns R l b ≡ true
  target_concerns l b m a e =
      or_left (R.names b l) _ (ap (R.names b) (sym e) ∙ lawful.target_names b a (ap R.makeable e ∙ m))

  -- a record that nobody made has nothing to do with it
  root_concerns : (l : ℕ) → l ∈ R.makeable → (b : R.Body) → R.rooted b ≡ true → concerns R l b ≡ false
  root_concerns l m b h =
      fails (concerns R l b)
      (λ c.
      or_cases (R.names b l) (eqb (R.at b) l) c (λ q. clash (R.makeable l) m (lawful.rooted_names b l h q))
      (λ q. clash (R.makeable l) m (ap R.makeable (sym (eqb-true (R.at b) l q)) ∙ lawful.rooted_at b h)))

  -- a continuation has to do with it through its process, through the tuple met, or by the newloc that made it
  next_concerns : (l : ℕ) → l ∈ R.makeable → (k : ℕ) (b t : R.Body) (p : ℕ) → concerns R l (R.next k b t p) ≡ true
      → (concerns R l b ≡ true) ⊎ (((uses (R.act b) ≡ true) × (concerns R l t ≡ true)) ⊎ ((is_newloc (R.act b) ≡ true) × (p ≡ l)))
  next_concerns l m k b t p c =
      or_cases (R.names (R.next k b t p) l) (eqb (R.at (R.next k b t p)) l) c (λ q. named (lawful.next_names k b t p l m q))
      (λ q. inl (lives_concerns R l b (sym (lawful.next_at k b t p) ∙ eqb-true (R.at (R.next k b t p)) l q)))
    where
      named : (R.names b l ≡ true) ⊎ (((uses (R.act b) ≡ true) × (R.names t l ≡ true)) ⊎ ((is_newloc (R.act b) ≡ true) × (p ≡ l)))
          → (concerns R l b ≡ true) ⊎ (((uses (R.act b) ≡ true) × (concerns R l t ≡ true)) ⊎ ((is_newloc (R.act b) ≡ true) × (p ≡ l)))
      named (inl q) = inl (or_left (R.names b l) _ q)
      named (inr (inl (u, q))) = inr (inl (u, or_left (R.names t l) _ q))
      named (inr (inr w)) = inr (inr w)

  -- what is made besides, through its process alone
  second_concerns : (l : ℕ) → l ∈ R.makeable → (b : R.Body) → concerns R l (R.second b) ≡ true → concerns R l b ≡ true
  second_concerns l m b c =
      or_cases (R.names (R.second b) l) (eqb (R.at (R.second b)) l) c
      (λ q. or_left (R.names b l) _ (lawful.second_names b l m q))
      (λ q. lives (eqb-true (R.at (R.second b)) l q) (lawful.second_at_lem b))
    where
      lives : R.at (R.second b) ≡ l
          → (R.at (R.second b) ≡ R.at b) ⊎ ((aims (R.act b) ≡ true) × (R.at (R.second b) ≡ R.target b)) → concerns R l b ≡ true
      lives e (inl q) = lives_concerns R l b (sym q ∙ e)
      lives e (inr (a, q)) = target_concerns l b m a (sym q ∙ e)

module _ {R : Rules} (lawful : Lawful R) where
  concerns_carried : (n : Net R) (l : ℕ) → l ∈ R.makeable → Carried n (concerns R l) (λ x. makes_locality n x l ≡ true)
  concerns_carried n l m = record { rooted = root_concerns lawful l m; next = onward; second = second_concerns lawful l m }
    where
      made : (f : ℕ) → f ∈ events n → is_newloc (R.act (n.slot f).body) ≡ true → (n.slot f).place ≡ l → makes_locality n f l ≡ true
      made f p w e = ap (λ (j : ℕ). makes_locality n f j) (sym e) ∙ locality_of_lem (n.slot f) p w

      onward : (f : ℕ) → f ∈ events n → concerns R l (R.next f (n.slot f).body (met n (n.slot f)).body (n.slot f).place) ≡ true
          → (concerns R l (n.slot f).body ≡ true) ⊎ (((uses (R.act (n.slot f).body) ≡ true) × (concerns R l (met n (n.slot f)).body ≡ true)) ⊎ (makes_locality n f l ≡ true))
      onward f p c =
          ⊎_elim (λ q. inl q) (λ q. inr (⊎_elim (λ w. inl w) (λ w. inr (made f p w.0 w.1)) q))
          (next_concerns lawful l m f (n.slot f).body (met n (n.slot f)).body (n.slot f).place c)

  module _ (n : Net R) (ok : Accepted n) where
    -- every locality that needs a maker and that a record lives at or names has one, and is present
    pub locality_present : (l k : ℕ) → l ∈ R.makeable → k ∈ held n → concerns R l (n.slot k).body ≡ true → l ∈ n.present
    locality_present l k m h c =
        let (g, mg, (x, b, r)) = carried n ok (concerns R l) (λ x. makes_locality n x l ≡ true) (concerns_carried n l m) k h c in
        ok.present_made l m ∙
        any_of R.keys (λ e. makes_locality n e l) x (event_below n ok x (locality_past l (n.slot x) b)) b

    module _ (x l : ℕ) (b : makes_locality n x l ≡ true) where
      past : x ∈ events n
      past = locality_past l (n.slot x) b

      pub locality_needs : l ∈ R.makeable
      locality_needs = locality_makeable l (n.slot x) (ok.agrees x past).rule.places b

      -- every record that lives at or names the locality was made by a dependent of its newloc
      pub locality_from : (k : ℕ) → k ∈ held n → concerns R l (n.slot k).body ≡ true → MadeAfter n x k
      locality_from k h c =
          let (g, mg, (y, by, r)) = carried n ok (concerns R l) (λ x. makes_locality n x l ≡ true) (concerns_carried n l locality_needs) k h c in
          (g, mg, rw (ok.locality_once y x l by b) at r)

      -- and every event that does is itself a dependent
      pub locality_event : (f : ℕ) → f ∈ events n → concerns R l (n.slot f).body ≡ true → Reach (depends n) x f
      locality_event f p c =
          let (g, mg, r) = locality_from f (event_held n ok f p) c in
          reach_more r (cause_depends n g f p (made_key_lem mg))

      -- the newloc itself has nothing to do with its locality
      itself_not : concerns R l (n.slot x).body ≡ true → ⊥
      itself_not c =
          let (g, mg, r) = locality_from x (event_held n ok x past) c in
          ok.no_cycle g x (cause_depends n g x past (made_key_lem mg)) r

      module _ (u : Undoable n x) where
        -- when the newloc may be undone, who lives at or names the locality is its continuation
        own_continuation : (k : ℕ) → k ∈ held n → concerns R l (n.slot k).body ≡ true → (makes n x k ≡ true) × (k ≡ (n.slot x).first)
        own_continuation k h c =
            let (g, mg, r) = locality_from k h c in
            let mx : makes n x k ≡ true = rw (← last_reach (among n ok) (undoable_last n ok x u) r) at mg in
            (mx, first mx (made_cases k (n.slot x) mx))
          where
            first : makes n x k ≡ true → ((n.slot x).first ≡ k) ⊎ ((n.slot x).second ≡ k) → k ≡ (n.slot x).first
            first mx (inl e) = sym e
            first mx (inr e) =
                let alone = newloc_alone (R.act (n.slot x).body) (locality_act l (n.slot x) b) in
                absurd (omega (arith, (ok.agrees x past).rule.places.no_second alone, made_below k (n.slot x) mx, R.few))

        -- and it does not live there: it is where its newloc is
        continuation_elsewhere : (k : ℕ) → makes n x k ≡ true → k ≡ (n.slot x).first → R.at (n.slot k).body ≡ l → ⊥
        continuation_elsewhere k mx z e = by_product (made_as n ok x k mx)
          where
            by_product : Made x (n.slot x) (met n (n.slot x)).body k → ⊥
            by_product (continuation w q) =
                itself_not
                (lives_concerns R l (n.slot x).body
                (sym (lawful.next_at x (n.slot x).body (met n (n.slot x)).body (n.slot x).place) ∙
                ap (λ (s : Slot R). R.at s.body) (sym q ∙ sym (made_there n ok x k mx)) ∙ ap R.at (forget_body (n.slot k)) ∙ e))
            by_product (the_tuple w c q) = (ok.agrees x past).rule.places.apart (sym z ∙ w)
            by_product (the_process w c q) = (ok.agrees x past).rule.places.apart (sym z ∙ w)

        pub left_alone : Alone n x l
        left_alone =
            record {
              empty = λ k h e.
                  let (mx, z) = own_continuation k h (lives_concerns R l (n.slot k).body e) in
                  continuation_elsewhere k mx z e;
              unnamed = λ k h q. (own_continuation k h (or_left (R.names (n.slot k).body l) _ q)).1;
            }

    -- ---- references

    refers_carried : (r : ℕ) → Carried n (λ b. R.refers b r) (λ x. (is_split (R.act (n.slot x).body) ≡ false) × (x ≡ r))
    refers_carried r =
        record {
          rooted = λ b h. lawful.rooted_refers b r h;
          next = λ f p h.
              ⊎_elim (λ q. inl q) (λ q. inr (inr q))
              (lawful.next_refers f (n.slot f).body (met n (n.slot f)).body (n.slot f).place r h);
          second = λ b h. lawful.second_refers b r h;
        }

    pub reference_from : (k r : ℕ) → k ∈ held n → R.refers (n.slot k).body r ≡ true → Reference n k r
    reference_from k r h q =
        let (g, mg, (x, (s, e), reach)) = carried n ok (λ b. R.refers b r) (λ x. (is_split (R.act (n.slot x).body) ≡ false) × (x ≡ r)) (refers_carried r) k h q in
        let from-r : Reach (depends n) r g = rw e at reach in
        record {
          past = founded_reach (events n) (among_founded (among n ok)) from-r (made_past k (n.slot g) mg);
          no_split = rw e at s;
          after = (g, mg, from-r);
        }
