-- What the finder and the helpers promise, of the net that the image stands for.
-- In order: a check that holds refuses nothing (`passes`, `not_refused`); a found tuple (`Finds`), and the done
-- finder's key is one (`found_least`); nothing is found exactly when nothing meets (`nothing_found`); a refusal's key is none (`refused_none`); a
-- forward step with the tuple found is not refused for it (`found_steps`, `found_no_refusal`); the least free key (`key_free`, `key_none`) and the
-- least absent locality (`locality_absent`, `locality_none`).
-- Assumes nothing.
use Rattle.std.specs.Prelude.{ℕ, ◌<◌, ◌≤◌, ◌↔◌, Bool, false, ◌&&◌, not, List, [], ◌∷◌, leb}
use Rattle.std.proofs.Math.Path.{◌≡◌, refl, ap, sym, subst}
use Rattle.std.proofs.Common.{◌∙◌, arith}
use Rattle.std.proofs.Math.Bool.{true}
use Rattle.std.proofs.Math.Dec.{eqb}
use borrow.Author.Tests.{eqb-true, eqb-false, eq-eqb, lt-ltb, leb-true, le-leb, not-true}
use Rattle.laws.specs.Choice.{pick, cases, clash, fails, and_left, and_right, and_both, ◌⇒◌, told, tells}
use Rattle.laws.specs.Sets.{member}
use Rattle.order.specs.KeySets.{Set, None, any, any_of, any_not}
use Rattle.names.specs.Names.{key_count, locality_count, first_made, none, key, locality}
use Rattle.names.specs.declared.Key.{Key}
use Rattle.names.specs.declared.Locality.{Locality}
use Rattle.images.specs.declared.Script.{Script}
use Rattle.images.specs.declared.Net as Images
use Rattle.images.specs.Net as I
use Rattle.nets.specs.Rules.{Rules, uses}
use Rattle.nets.specs.Net.{is_free, is_live_tuple, Slot, Net}
use Rattle.rules.specs.Instance.{rules_of}
use Rattle.rules.specs.Roots.{rolled_by}
use Rattle.rules.specs.View.{view, view_slot, view_present, free_is}
use Rattle.requests.specs.Checks.{Check, check, refusal, Hold, Numbered, all_hold}
use Rattle.requests.specs.Answers as A
use Rattle.requests.specs.Answers.{forward_checks}
use Rattle.requests.specs.Requests.{answer_of, number, is_done, number_back, done_zero, asked}
use Rattle.requests.specs.declared.Request.{Request}
use Rattle.requests.specs.declared.Answer.{Answer}
use Rattle.finder.specs.Least.{least_or_none, Least, least_split, given_least, given_none, given_same}
use Rattle.finder.specs.Finder.{meeting, before_search, finder_checks, least_meeting, found_of}
use Rattle.finder.specs.Helpers.{free_key, is_absent, absent_locality}
use Rattle.finder.specs.Searched.{stops, goes_on, before_numbered}

-- ---- checks

-- each check with this number holds
abbrev pub passes : ℕ → List Check → Bool
passes c [] = true
passes c (d ∷ ds) = (eqb d.number c ⇒ d.holds) && passes c ds

-- and so none refuses with it
pub not_refused : (cs : List Check) (c : ℕ) → (c ≡ 0 → ⊥) → passes c cs ≡ true → refusal cs ≡ c → ⊥
unfolding refusal
not_refused [] c some p e = some (sym e)
not_refused (d ∷ ds) c some p e =
    let here = eqb d.number c ⇒ d.holds in
    cases d.holds (λ t. not_refused ds c some (and_right here _ p) (rw t at e))
    (λ t. clash d.holds (told (eqb d.number c) d.holds (and_left here _ p) (eq-eqb d.number c (rw t at e))) t)

-- ---- the finder

-- "a live tuple at the target that matches", and the one with the least key
pub record Finds {R : Rules} (n : Net R) (k t : ℕ) : Type 0 where
  pub below : t < key_count
  pub live : is_live_tuple (n.slot t).kind ≡ true
  pub there : R.at (n.slot t).body ≡ R.target (n.slot k).body
  pub matches : R.fits (n.slot k).body (n.slot t).body ≡ true
  pub before : (j : ℕ) → j < t → meeting n k j ≡ false

module _ {R : Rules} (n : Net R) (k : ℕ) where
  finds : (t : ℕ) → Least key_count (meeting n k) t → Finds n k t
  unfolding meeting
  finds t h =
      let rest = and_right (is_live_tuple (n.slot t).kind) _ h.holds in
      let at = eqb (R.at (n.slot t).body) (R.target (n.slot k).body) in
      record {
        below = h.below;
        live = and_left (is_live_tuple (n.slot t).kind) _ h.holds;
        there = eqb-true _ _ (and_left at _ rest);
        matches = and_right at _ rest;
        before = h.before;
      }

  -- where every check holds there is a least tuple that meets
  all_finds : refusal (finder_checks n k) ≡ 0 → Finds n k (least_meeting n k)
  unfolding finder_checks before_search least_meeting
  all_finds e =
      let some : any key_count (meeting n k) ≡ true = (all_hold (finder_checks n k) numbered e).1.1.1.1.1.0 in
      least_split key_count (meeting n k) (finds (least_meeting n k))
      (λ q h. clash (any key_count (meeting n k)) some (any_not key_count (meeting n k) h))
    where
      numbered : Numbered (finder_checks n k)
      numbered =
          ((λ z. omega (arith, z)), ((λ z. omega (arith, z)), ((λ z. omega (arith, z)), ((λ z. omega (arith, z)), ((λ z. omega (arith, z)), ((λ z. omega (arith, z)), tt))))))

  passes_nine : passes 9 (before_search n k) ≡ true
  unfolding before_search
  passes_nine = refl

  -- check 9 refuses exactly when those before it hold and nothing meets
  nine_iff : (refusal (finder_checks n k) ≡ 9) ↔ (Hold (before_search n k) × None key_count (meeting n k))
  unfolding finder_checks refusal
  nine_iff = (
    λ e.
        cases (eqb (refusal (before_search n k)) 0)
        (λ z.
        let hold = all_hold (before_search n k) (before_numbered n k) (eqb-true _ 0 z) in
        let last : refusal (check 9 (any key_count (meeting n k)) ∷ []) ≡ 9 = sym (goes_on (before_search n k) _ hold) ∙ e in
        (hold, λ t l. fails (meeting n k t) (λ m. nine_zero (sym (rw (any_of key_count (meeting n k) t l m) at last)))))
        (λ z. absurd (no_nine (sym (stops (before_search n k) _ (eqb-false _ 0 z)) ∙ e))),
    λ h. goes_on (before_search n k) _ h.0 ∙ rw (any_not key_count (meeting n k) h.1) refl,
  )
    where
      nine_zero : ◌≡◌ {A = ℕ} 9 0 → ⊥
      nine_zero z = omega (arith, z)

      no_nine : refusal (before_search n k) ≡ 9 → ⊥
      no_nine e = not_refused (before_search n k) 9 (λ z. omega (arith, z)) passes_nine e

module _ (s : Script) (n : Images.Net) (k : Key) where
  -- a done finder's key is the least of a live tuple at the target that matches
  pub found_least : is_done (found_of s n k).answer ≡ true → Finds (view s n) k.0 (found_of s n k).name.0
  unfolding found_of
  found_least h =
      let zeroed = done_zero (refusal (finder_checks (view s n) k.0)) h in
      subst (Finds (view s n) k.0) (sym (ap (λ (b : Bool). pick b (least_meeting (view s n) k.0) none) h)) (all_finds (view s n) k.0 zeroed)

  -- "and 9 exactly when no such tuple exists"
  pub nothing_found : ((found_of s n k).answer ≡ Answer.NoTuple) ↔ (Hold (before_search (view s n) k.0) × None key_count (meeting (view s n) k.0))
  unfolding found_of
  nothing_found =
      let m = refusal (finder_checks (view s n) k.0) in (
        λ e. (nine_iff (view s n) k.0).0 (number_back m 9 (λ z. omega (arith, z)) (ap number e)),
        λ h. ap answer_of ((nine_iff (view s n) k.0).1 h),
      )

  -- "A refusal returns key 255"
  pub refused_none : is_done (found_of s n k).answer ≡ false → (found_of s n k).name ≡ key none
  unfolding found_of
  refused_none h = ap (λ (b : Bool). key (pick b (least_meeting (view s n) k.0) none)) h

-- a tuple found is one that a step may use
finds_there : {R : Rules} (rolled : R.Body → ℕ) (n : Net R) (r : A.Request) → Finds n r.key r.used → A.tuple_there rolled n r ≡ true
unfolding A.tuple_there
finds_there rolled n r h = and_both (is_live_tuple (n.slot r.used).kind) _ h.live (eq-eqb _ _ h.there)

module _ (s : Script) (n : Images.Net) (r : Request) (done : is_done (found_of s n r.key).answer ≡ true) (used : r.used ≡ (found_of s n r.key).name) where
  it : Finds (view s n) r.key.0 r.used.0
  it = subst (λ (t : Key). Finds (view s n) r.key.0 t.0) (sym used) (found_least s n r.key done)

  -- checks 9 and 10 of a forward step with the tuple found
  pub found_steps : ((uses (A.act (rolled_by s) (view s n) (asked r)) ⇒ A.tuple_there (rolled_by s) (view s n) (asked r)) ≡ true) × ((uses (A.act (rolled_by s) (view s n) (asked r)) ⇒ (rules_of s).fits ((view s n).slot r.key.0).body ((view s n).slot r.used.0).body) ≡ true)
  found_steps =
      let does = uses (A.act (rolled_by s) (view s n) (asked r)) in
      (tells does _ (λ u. finds_there (rolled_by s) (view s n) (asked r) it), tells does _ (λ u. it.matches))

  -- so neither is the number of its refusal
  pub found_no_refusal : (refusal (forward_checks (rolled_by s) (view s n) (asked r)) ≡ 9 → ⊥) × (refusal (forward_checks (rolled_by s) (view s n) (asked r)) ≡ 10 → ⊥)
  unfolding forward_checks
  found_no_refusal =
      let cs = forward_checks (rolled_by s) (view s n) (asked r) in
      (not_refused cs 9 (λ z. omega (arith, z)) (rw found_steps.0), not_refused cs 10 (λ z. omega (arith, z)) (rw found_steps.1))

-- ---- the helpers

module _ (s : Script) (n : Images.Net) where
  abbrev free_in : ℕ → Bool
  free_in k = is_free ((view s n).slot k).kind

  free_viewed : free_key n ≡ key (least_or_none key_count free_in)
  unfolding free_key
  free_viewed =
      ap key
      (given_same key_count (λ k. I.is_free (I.slot_at n k)) free_in
      (λ k l. sym (ap (λ (x : Slot (rules_of s)). is_free x.kind) (view_slot s n k l) ∙ free_is (I.slot_at n k).kind)))

  -- a key given is below 64 and free, and no lesser one is
  pub key_free : (free_key n ≡ key none → ⊥) → Least key_count (λ k. is_free ((view s n).slot k).kind) (free_key n).0
  key_free some =
      subst (λ (k : Key). Least key_count free_in k.0) (sym free_viewed)
      (given_least key_count (omega arith) free_in (λ e. some (free_viewed ∙ ap key e)))

  -- "'none' exactly when none is left"
  pub key_none : (free_key n ≡ key none) ↔ None key_count (λ k. is_free ((view s n).slot k).kind)
  key_none =
      let exactly = given_none key_count (omega arith) free_in in (
        λ e. exactly.0 (ap (λ (k : Key). k.0) (sym free_viewed ∙ e)),
        λ h. free_viewed ∙ ap key (exactly.1 h),
      )

-- a locality from 8 on that is not present, and the least of these
pub record Absent (present : Set) (l : ℕ) : Type 0 where
  pub from : first_made ≤ l
  pub below : l < locality_count
  pub absent : present l ≡ false
  pub before : (j : ℕ) → first_made ≤ j → j < l → present j ≡ true

module _ (s : Script) (n : Images.Net) where
  -- the set's word says of a locality what the net says
  absent_viewed : (l : ℕ) → l < locality_count → is_absent n.present l ≡ (leb first_made l && not ((view s n).present l))
  absent_viewed l h = rw (view_present s n l, lt-ltb l locality_count h) (ap (λ (b : Bool). b && not (member n.present.0 l)) (and_yes (leb first_made l)))
    where
      and_yes : (b : Bool) → (b && true) ≡ b
      and_yes true = refl
      and_yes false = refl

  absent_true : (l : ℕ) → l < locality_count → is_absent n.present l ≡ true → (first_made ≤ l) × ((view s n).present l ≡ false)
  absent_true l h e =
      let t = sym (absent_viewed l h) ∙ e in
      (leb-true first_made l (and_left (leb first_made l) _ t), not-true _ (and_right (leb first_made l) _ t))

  absent_false : (l : ℕ) → first_made ≤ l → l < locality_count → is_absent n.present l ≡ false → (view s n).present l ≡ true
  absent_false l from h e =
      cases ((view s n).present l) (λ t. t)
      (λ t. clash (is_absent n.present l) (absent_viewed l h ∙ and_both (leb first_made l) _ (le-leb first_made l from) (ap not t)) e)

  -- a locality given is from 8 on, below 32 and absent, and each lesser one from 8 on is present
  pub locality_absent : (absent_locality n.present ≡ locality none → ⊥) → Absent (view s n).present (absent_locality n.present).0
  unfolding absent_locality
  locality_absent some =
      let h = given_least locality_count (omega arith) (is_absent n.present) (λ e. some (ap locality e)) in
      let (from, out) = absent_true _ h.below h.holds in
      record {
        from = from;
        below = h.below;
        absent = out;
        before = λ j f l. absent_false j f (omega (arith, l, h.below)) (h.before j l);
      }

  pub locality_none : (absent_locality n.present ≡ locality none) ↔ ((l : ℕ) → first_made ≤ l → l < locality_count → (view s n).present l ≡ true)
  unfolding absent_locality
  locality_none =
      let exactly = given_none locality_count (omega arith) (is_absent n.present) in (
        λ e l from below. absent_false l from below (exactly.0 (ap (λ (k : Locality). k.0) e) l below),
        λ h. ap locality (exactly.1 (λ l below. fails _ (λ t. let (from, out) = absent_true l below t in clash ((view s n).present l) (h l from below) out))),
      )
