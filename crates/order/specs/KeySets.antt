-- Sets of keys: a test of each number. A bound n says how far is looked; nothing is asked of the numbers from n on.
--
-- In order: the sets (`empty`, `only`, `◌∪◌`, `◌∩◌`, `◌∖◌`, the `members` of a list); equality by members (`same_set`); members of `only` and
-- `◌∖◌`, two sets taken away (`minus_minus`), lists put together (`members_append`); the statements `Subset`, `Some`, `None`, `Below`; `subset`,
-- with `subset_iff`; `any`: one key more (`any_next`), what makes it true (`any_of`, `any_some`, `any_iff`) and false (`any_not`), equal sets,
-- unions, and among no key, one, one more (`any_empty`, `any_only`, `any_more`); an argument by a member or by there being none (`search`);
-- `count`: one key more (`count_next`), at most n (`count_le`), subsets, equal sets, one member less (`count_minus`), some, none, one member
-- more (`count_more`), strict subsets (`count_strict`).
--
-- Not here: members of `◌∪◌` (`laws`, `Choice`: `or_left`, `or_right`, `or_cases`) and of `◌∩◌` (`laws`, `Choice`: `and_both`, `and_left`,
-- `and_right`); a member of `only x` is x (`borrow.Author.Tests`: `eqb-true`); `all` below n (`laws`, `Checks`); a word as a set (`Words`).
-- `any` and `count` look at the top key first, so that what a loop over 0, 1, .. knows at key k is `any k S` and `count k S`.
-- `◌∪◌`, `◌∩◌` and `◌∖◌` bind alike and group to the left; `◌∈◌`, `◌∉◌` and `◌⊆◌` bind looser.
-- Assumes nothing.
use Rattle.std.specs.Prelude.{◌≡◌, refl, ◌↔◌, Bool, true, false, not, ◌&&◌, ◌||◌, List, [], ◌∷◌, ◌++◌, ℕ, zero, suc, ◌+◌, ◌≤◌, ◌<◌, eqb}
use Rattle.std.proofs.Common.{sym, ap, ap₂, ◌∙◌, zero-le, not-suc-le-zero, add-one, arith, eqb-true, eq-eqb, ne_eqb}
use Rattle.std.proofs.Math.Path.{fun_ext}
use Rattle.std.proofs.lemmas.Bool.{false≢true, eqb-false, not-true}
use Rattle.std.proofs.Math.Bool.{and-true, or_assoc, and-or_distrib_right}
use Rattle.laws.specs.Choice.{cases, clash, and_left, and_right, and_both, or_left, or_right, or_cases, fails, agree}
use Rattle.laws.specs.Checks.{all, all_of, all_at}

abbrev pub Set : Type 0
Set = ℕ → Bool

infixl 30 ◌∈◌
abbrev pub ◌∈◌ : ℕ → Set → Type 0
x ∈ S = S x ≡ true

infixl 30 ◌∉◌
abbrev pub ◌∉◌ : ℕ → Set → Type 0
x ∉ S = S x ≡ false

infixl 30 ◌⊆◌
abbrev pub ◌⊆◌ : Set → Set → Type 0
S ⊆ T = (x : ℕ) → x ∈ S → x ∈ T

abbrev pub empty : Set
empty y = false

-- x and nothing else
abbrev pub only : ℕ → Set
only x y = eqb y x

infixl 40 ◌∪◌
abbrev pub ◌∪◌ : Set → Set → Set
(S ∪ T) y = S y || T y

infixl 40 ◌∩◌
abbrev pub ◌∩◌ : Set → Set → Set
(S ∩ T) y = S y && T y

-- S without the members of T; without one key it is `S ∖ only x`
infixl 40 ◌∖◌
abbrev pub ◌∖◌ : Set → Set → Set
(S ∖ T) y = S y && not (T y)

abbrev pub members : List ℕ → Set
members [] = empty
members (x ∷ xs) = only x ∪ members xs

-- sets with the same members are one
pub same_set : (S T : Set) → S ⊆ T → T ⊆ S → S ≡ T
same_set S T there back = fun_ext (λ x. agree (S x) (T x) (there x) (back x))

-- ---- members

pub only_self : (x : ℕ) → x ∈ only x
only_self x = eq-eqb x x refl

pub minus_in : (S T : Set) (y : ℕ) → y ∈ S ∖ T → y ∈ S
minus_in S T y h = and_left (S y) (not (T y)) h

pub minus_out : (S T : Set) (y : ℕ) → y ∈ S ∖ T → y ∉ T
minus_out S T y h = not-true (T y) (and_right (S y) (not (T y)) h)

pub in_minus : (S T : Set) (y : ℕ) → y ∈ S → y ∉ T → y ∈ S ∖ T
in_minus S T y h k = rw (h, k)

-- taking away two sets, one after the other
pub minus_minus : (S T R : Set) → S ∖ T ∖ R ≡ S ∖ (T ∪ R)
minus_minus S T R = fun_ext (λ y. each (S y) (T y) (R y))
  where
    each : (a b c : Bool) → (a && not b && not c) ≡ (a && not (b || c))
    each false b c = refl
    each true true c = refl
    each true false c = refl

pub members_append : (ks js : List ℕ) → members (ks ++ js) ≡ members ks ∪ members js
members_append [] js = refl
members_append (x ∷ ks) js =
    ap (λ (T : Set). only x ∪ T) (members_append ks js) ∙ fun_ext (λ y. sym (or_assoc (eqb y x) (members ks y) (members js y)))

-- ---- what is said of the keys below n

abbrev pub Subset : ℕ → Set → Set → Type 0
Subset n S T = (x : ℕ) → x < n → x ∈ S → x ∈ T

abbrev pub Some : ℕ → Set → Type 0
Some n S = (x : ℕ) × (x < n) × (x ∈ S)

abbrev pub None : ℕ → Set → Type 0
None n S = (x : ℕ) → x < n → x ∉ S

-- all members are below n
abbrev pub Below : ℕ → Set → Type 0
Below n S = (x : ℕ) → x ∈ S → x < n

-- ---- subsets

unfoldable pub subset : ℕ → Set → Set → Bool
subset n S T = all n (λ x. not (S x) || T x)

pub subset_iff : (n : ℕ) (S T : Set) → (subset n S T ≡ true) ↔ Subset n S T
unfolding subset
subset_iff n S T = (
  λ h x l m. or_cases (not (S x)) (T x) (all_at n (λ x. not (S x) || T x) h x l) (λ p. clash (S x) m (not-true (S x) p)) (λ p. p),
  λ h. all_of n (λ x. not (S x) || T x) (λ x l. cases (S x) (λ p. or_right (not (S x)) (T x) (h x l p)) (λ p. rw p)),
)

-- ---- some member

unfoldable pub any : ℕ → Set → Bool
any zero S = false
any (suc k) S = S k || any k S

pub any_next : (k : ℕ) (S : Set) → any (k + 1) S ≡ (S k || any k S)
unfolding any
any_next k S = rw (add-one k)

pub any_of : (n : ℕ) (S : Set) (x : ℕ) → x < n → x ∈ S → any n S ≡ true
unfolding any
any_of zero S x l m = absurd (not-suc-le-zero l)
any_of (suc k) S x l m =
    cases (eqb x k) (λ p. or_left (S k) (any k S) (rw (← eqb-true x k p) m))
    (λ p. or_right (S k) (any k S) (any_of k S x (omega (arith, eqb-false x k p)) m))

pub any_some : (n : ℕ) (S : Set) → any n S ≡ true → Some n S
unfolding any
any_some zero S h = absurd (false≢true h)
any_some (suc k) S h =
    or_cases (S k) (any k S) h (λ p. (k, omega arith, p)) (λ p. let (x, l, m) = any_some k S p in (x, omega arith, m))

pub any_iff : (n : ℕ) (S : Set) → (any n S ≡ true) ↔ Some n S
any_iff n S = (any_some n S, λ s. any_of n S s.0 s.1 s.2)

pub any_not : (n : ℕ) (S : Set) → None n S → any n S ≡ false
any_not n S h = fails (any n S) (λ p. let (x, l, m) = any_some n S p in clash (S x) m (h x l))

pub any_ext : (n : ℕ) (S T : Set) → ((x : ℕ) → x < n → S x ≡ T x) → any n S ≡ any n T
unfolding any
any_ext zero S T h = refl
any_ext (suc k) S T h = ap₂ (λ (a b : Bool). a || b) (h k (omega arith)) (any_ext k S T (λ x l. h x (omega arith)))

pub any_union : (n : ℕ) (S T : Set) → any n (S ∪ T) ≡ (any n S || any n T)
unfolding any
any_union zero S T = refl
any_union (suc k) S T = rw (any_union k S T) (swap (S k) (T k) (any k S) (any k T))
  where
    swap : (a b c d : Bool) → (a || b || (c || d)) ≡ (a || c || (b || d))
    swap true b c d = refl
    swap false true true d = refl
    swap false true false d = refl
    swap false false c d = refl

-- among no key, among one, and among one more
pub any_empty : (n : ℕ) (S : Set) → any n (empty ∩ S) ≡ false
any_empty n S = any_not n (empty ∩ S) (λ x l. refl)

pub any_only : (n : ℕ) (S : Set) (x : ℕ) → x < n → any n (only x ∩ S) ≡ S x
any_only n S x l =
    agree (any n (only x ∩ S)) (S x)
    (λ h. let (y, k, m) = any_some n (only x ∩ S) h in rw (eqb-true y x (and_left (eqb y x) (S y) m)) at (and_right (eqb y x) (S y) m))
    (λ m. any_of n (only x ∩ S) x l (and_both (eqb x x) (S x) (only_self x) m))

pub any_more : (n : ℕ) (S T : Set) (x : ℕ) → x < n → any n ((only x ∪ T) ∩ S) ≡ (S x || any n (T ∩ S))
any_more n S T x l =
    any_ext n ((only x ∪ T) ∩ S) ((only x ∩ S) ∪ (T ∩ S)) (λ y k. and-or_distrib_right (eqb y x) (T y) (S y)) ∙
    any_union n (only x ∩ S) (T ∩ S) ∙ ap (λ (b : Bool). b || any n (T ∩ S)) (any_only n S x l)

-- an argument by a member below n, or by there being none
pub search {ℓ} : {A : Type ℓ} (n : ℕ) (S : Set) → ((x : ℕ) → x < n → x ∈ S → A) → (None n S → A) → A
search n S f g =
    cases (any n S) (λ p. let (x, l, m) = any_some n S p in f x l m)
    (λ p. g (λ x l. fails (S x) (λ m. clash (any n S) (any_of n S x l m) p)))

-- ---- the number of members

-- what a key adds to a count
abbrev pub tally : Bool → ℕ
tally true = 1
tally false = 0

unfoldable pub count : ℕ → Set → ℕ
count zero S = 0
count (suc k) S = tally (S k) + count k S

pub count_next : (k : ℕ) (S : Set) → count (k + 1) S ≡ tally (S k) + count k S
unfolding count
count_next k S = rw (add-one k)

tally_le : (b : Bool) → tally b ≤ 1
tally_le true = omega arith
tally_le false = omega arith

tally_subset : (a b : Bool) → (a ≡ true → b ≡ true) → tally a ≤ tally b
tally_subset true b h = rw (h refl) (omega arith)
tally_subset false b h = zero-le

pub count_le : (n : ℕ) (S : Set) → count n S ≤ n
unfolding count
count_le zero S = zero-le
count_le (suc k) S = omega (arith, tally_le (S k), count_le k S)

pub count_subset : (n : ℕ) (S T : Set) → Subset n S T → count n S ≤ count n T
unfolding count
count_subset zero S T h = zero-le
count_subset (suc k) S T h =
    omega (arith, tally_subset (S k) (T k) (h k (omega arith)), count_subset k S T (λ x l. h x (omega arith)))

pub count_ext : (n : ℕ) (S T : Set) → ((x : ℕ) → x < n → S x ≡ T x) → count n S ≡ count n T
unfolding count
count_ext zero S T h = refl
count_ext (suc k) S T h =
    ap₂ (λ (b : Bool) (m : ℕ). tally b + m) (h k (omega arith)) (count_ext k S T (λ x l. h x (omega arith)))

-- a member taken away is one less
pub count_minus : (n : ℕ) (S : Set) (x : ℕ) → x < n → x ∈ S → count n S ≡ suc (count n (S ∖ only x))
unfolding count
count_minus zero S x l m = absurd (not-suc-le-zero l)
count_minus (suc k) S x l m =
    cases (eqb k x)
    (λ p.
    let top : S k ≡ true = rw (eqb-true k x p) m in
    let rest : count k S ≡ count k (S ∖ only x) =
    count_ext k S (S ∖ only x) (λ y h. sym (rw (ne_eqb y x (omega (arith, eqb-true k x p))) (and-true (S y)))) in
    rw (top, p) (omega arith))
    (λ p. let rest = count_minus k S x (omega (arith, eqb-false k x p)) m in rw (p, and-true (S k)) (omega arith))

pub count_some : (n : ℕ) (S : Set) (x : ℕ) → x < n → x ∈ S → 0 < count n S
count_some n S x l m = omega (arith, count_minus n S x l m)

pub count_none : (n : ℕ) (S : Set) → None n S → count n S ≡ 0
unfolding count
count_none zero S h = refl
count_none (suc k) S h = rw (h k (omega arith), count_none k S (λ x l. h x (omega arith)))

-- a key put in is one more
pub count_more : (n : ℕ) (S : Set) (x : ℕ) → x < n → x ∉ S → count n (only x ∪ S) ≡ suc (count n S)
count_more n S x l out =
    count_minus n (only x ∪ S) x l (or_left (eqb x x) (S x) (only_self x)) ∙ ap suc (count_ext n ((only x ∪ S) ∖ only x) S (λ y k. each y))
  where
    each : (y : ℕ) → ((only x ∪ S) ∖ only x) y ≡ S y
    each y = cases (eqb y x) (λ p. rw (p, eqb-true y x p) (sym out)) (λ p. rw p (and-true (S y)))

-- a subset that leaves out a member is smaller
pub count_strict : (n : ℕ) (S T : Set) → Subset n S T → (x : ℕ) → x < n → x ∉ S → x ∈ T → count n S < count n T
count_strict n S T h x l out m =
    let within : count n S ≤ count n (T ∖ only x) =
    count_subset n S (T ∖ only x)
    (λ y k s. in_minus T (only x) y (h y k s) (ne_eqb y x (λ e. clash (S x) (rw (← e) s) out))) in
    omega (arith, count_minus n T x l m)
