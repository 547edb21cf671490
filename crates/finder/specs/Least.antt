-- The least number below a count at which a test holds.
-- In order: `least`, which is the count where there is none, and `least_or_none`, which is 255 there; what is said of the least (`Least`); the least, from
-- what is said of it (`least_is`, `least_missing`), and what is said, from it (`least_split`); tests that agree (`least_same`); the same with 255
-- (`given_at`, `given_missing`; `given_least`, `given_none`; `given_same`); what a search from a number on comes to (`First`), and the least from it
-- (`first_same`, `first_least`, `first_nowhere`, `given_first`).
-- Assumes nothing.
use Rattle.std.specs.Prelude.{ℕ, zero, suc, ◌<◌, ◌≤◌, ◌≡◌, refl, ◌↔◌, Bool, true, false, not, ltb, Option, Some, None, MatchOption, unwrap_or}
use Rattle.std.proofs.Common.{sym, ap, ◌∙◌, subst, arith, lt-ltb, le-ltb, ltb-true, ltb-false}
use Rattle.std.proofs.lemmas.Bool.{not-true}
use Rattle.laws.specs.Choice.{pick, cases, clash}
use Rattle.laws.specs.Checks.{first_not, first_at, first_none}
use Rattle.order.specs.KeySets as KeySets
use Rattle.order.specs.KeySets.{Set}
use Rattle.names.specs.Names.{none}

abbrev pub least : ℕ → Set → ℕ
least count f = first_not count (λ j. not (f j))

-- "'none' exactly when none is left"
abbrev pub least_or_none : ℕ → Set → ℕ
least_or_none count f = pick (ltb (least count f) count) (least count f) none

-- k is below the count, the test holds there, and at no lesser number
pub record Least (count : ℕ) (f : Set) (k : ℕ) : Type 0 where
  pub below : k < count
  pub holds : f k ≡ true
  pub before : (j : ℕ) → j < k → f j ≡ false

not_false : (b : Bool) → not b ≡ false → b ≡ true
not_false true h = refl
not_false false h = clash true refl h

-- a test fails first at some number below n, or at none
first_split {ℓ} : {A : Type ℓ} (n : ℕ) (f : ℕ → Bool) → (first_not n f < n → f (first_not n f) ≡ false → A)
    → (first_not n f ≡ n → ((j : ℕ) → j < n → f j ≡ true) → A) → A
unfolding first_not
first_split zero f found none = none refl (λ j l. absurd (omega (arith, l)))
first_split (suc n) f found none =
    cases (f 0)
    (λ p.
    first_split n (λ i. f (suc i)) (λ l q. found (rw p (omega (arith, l))) (rw p q))
    (λ e all. none (rw p (ap suc e)) (λ j l. below n f j l p all)))
    (λ p. found (rw p (omega arith)) (rw p p))
  where
    below : (n : ℕ) (f : ℕ → Bool) (j : ℕ) → j < suc n → f 0 ≡ true → ((j : ℕ) → j < n → f (suc j) ≡ true) → f j ≡ true
    below n f zero l p all = p
    below n f (suc j) l p all = all j (omega (arith, l))

-- below the first number at which it fails, a test holds
first_before : (n : ℕ) (f : Set) (j : ℕ) → j < first_not n f → f j ≡ true
unfolding first_not
first_before zero f j l = absurd (omega (arith, l))
first_before (suc n) f zero l = cases (f 0) (λ p. p) (λ p. absurd (omega (arith, rw p at l)))
first_before (suc n) f (suc j) l =
    cases (f 0) (λ p. first_before n (λ i. f (suc i)) j (omega (arith, rw p at l))) (λ p. absurd (omega (arith, rw p at l)))

pub least_is : (count : ℕ) (f : Set) (k : ℕ) → Least count f k → least count f ≡ k
least_is count f k h = first_at count (λ j. not (f j)) k h.below (λ j l. ap not (h.before j l)) (ap not h.holds)

pub least_missing : (count : ℕ) (f : Set) → KeySets.None count f → least count f ≡ count
least_missing count f h = first_none count (λ j. not (f j)) (λ j l. ap not (h j l))

-- there is a least one, or none
pub least_split {ℓ} : {A : Type ℓ} (count : ℕ) (f : Set) → (Least count f (least count f) → A) → (least count f ≡ count → KeySets.None count f → A) → A
least_split count f found missing =
    first_split count (λ j. not (f j))
    (λ l h.
    found
    (record {
      below = l;
      holds = not_false (f (least count f)) h;
      before = λ j q. not-true (f j) (first_before count (λ j. not (f j)) j q);
    }))
    (λ e h. missing e (λ j l. not-true (f j) (h j l)))

pub least_same : (count : ℕ) (f g : Set) → ((j : ℕ) → j < count → f j ≡ g j) → least count f ≡ least count g
least_same count f g same =
    least_split count g
    (λ h.
    least_is count f (least count g)
    (record {
      below = h.below;
      holds = same (least count g) h.below ∙ h.holds;
      before = λ j l. same j (omega (arith, l, h.below)) ∙ h.before j l;
    }))
    (λ e h. least_missing count f (λ j l. same j l ∙ h j l) ∙ sym e)

-- ---- with the mark for none

pub given_at : (count : ℕ) (f : Set) (k : ℕ) → Least count f k → least_or_none count f ≡ k
given_at count f k h = rw (least_is count f k h, lt-ltb k count h.below) refl

pub given_missing : (count : ℕ) (f : Set) → KeySets.None count f → least_or_none count f ≡ none
given_missing count f h = rw (least_missing count f h, le-ltb count count (omega arith)) refl

-- what a search for the test from a number on comes to
abbrev pub First : ℕ → ℕ → Set → Option ℕ → Type 0
First from count f r =
    MatchOption r ((k : ℕ) → from ≤ k → k < count → f k ≡ false)
    (λ i. (from ≤ i) × (i < count) × (f i ≡ true) × ((k : ℕ) → from ≤ k → k < i → f k ≡ false))

-- tests that agree from there on are searched alike
pub first_same : (from count : ℕ) (f g : Set) → ((j : ℕ) → from ≤ j → j < count → f j ≡ g j) → (r : Option ℕ) → First from count g r → First from count f r
first_same from count f g same (Some i) h =
    (h.0, h.1, same i h.0 h.1 ∙ h.2, λ k l b. same k l (omega (arith, b, h.1)) ∙ h.3 k l b)
first_same from count f g same None h = λ k l b. same k l b ∙ h k l b

-- where those before need no look, it is the least
module _ (from count : ℕ) (f : Set) (before : (j : ℕ) → j < from → f j ≡ false) where
  pub first_least : (i : ℕ) → First from count f (Some i) → Least count f i
  first_least i h =
      record {
        below = h.1;
        holds = h.2;
        before = λ j l. cases (ltb j from) (λ p. before j (ltb-true j from p)) (λ p. h.3 j (ltb-false j from p) l);
      }

  pub first_nowhere : First from count f None → KeySets.None count f
  first_nowhere h j l = cases (ltb j from) (λ p. before j (ltb-true j from p)) (λ p. h j (ltb-false j from p) l)

  pub given_first : (r : Option ℕ) → First from count f r → unwrap_or r none ≡ least_or_none count f
  given_first (Some i) h = sym (given_at count f i (first_least i h))
  given_first None h = sym (given_missing count f (first_nowhere h))

module _ (count : ℕ) (few : count ≤ none) (f : Set) where
  -- what is given and is not none is the least
  pub given_least : (least_or_none count f ≡ none → ⊥) → Least count f (least_or_none count f)
  given_least some =
      least_split count f
      (λ h. subst (Least count f) (sym (given_at count f (least count f) h)) h)
      (λ e h. absurd (some (given_missing count f h)))

  pub given_none : (least_or_none count f ≡ none) ↔ KeySets.None count f
  given_none = (
    λ e.
        least_split count f
        (λ h. absurd (omega (arith, h.below, few, sym (given_at count f (least count f) h) ∙ e)))
        (λ q h. h),
    given_missing count f,
  )

pub given_same : (count : ℕ) (f g : Set) → ((j : ℕ) → j < count → f j ≡ g j) → least_or_none count f ≡ least_or_none count g
given_same count f g same = ap (λ (k : ℕ). pick (ltb k count) k none) (least_same count f g same)
