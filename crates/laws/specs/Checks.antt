-- A test at each number below k, and the first number at which it fails.
-- In order: `all`, with what makes it true (`all_of`), false (`all_not`) and what it gives (`all_at`); `first_not`, where a test first
-- fails (`first_at`) or never does (`first_none`).
-- Assumes nothing.
use Rattle.std.specs.Prelude.{◌≡◌, refl, Bool, true, false, ◌&&◌, ℕ, zero, suc, ◌<◌}
use Rattle.std.proofs.Common.{ap, sym, ◌∙◌, suc-le-suc, le_of_suc-le-suc, not-suc-le-zero, arith}
use Rattle.laws.specs.Choice.{pick, cases, clash, and_left, and_right, and_both}

-- f at each of 0, 1, .., k - 1
unfoldable pub all : ℕ → (ℕ → Bool) → Bool
all zero f = true
all (suc k) f = f 0 && all k (λ i. f (suc i))

-- the least number below k at which f is false, or k
unfoldable pub first_not : ℕ → (ℕ → Bool) → ℕ
first_not zero f = 0
first_not (suc k) f = pick (f 0) (suc (first_not k (λ i. f (suc i)))) 0

pub all_of : (k : ℕ) (f : ℕ → Bool) → ((i : ℕ) → i < k → f i ≡ true) → all k f ≡ true
unfolding all
all_of zero f h = refl
all_of (suc k) f h =
    and_both (f 0) (all k (λ i. f (suc i))) (h 0 (omega arith)) (all_of k (λ i. f (suc i)) (λ i l. h (suc i) (suc-le-suc l)))

pub all_at : (k : ℕ) (f : ℕ → Bool) → all k f ≡ true → (i : ℕ) → i < k → f i ≡ true
unfolding all
all_at zero f h i l = absurd (not-suc-le-zero l)
all_at (suc k) f h zero l = and_left (f 0) (all k (λ i. f (suc i))) h
all_at (suc k) f h (suc i) l =
    all_at k (λ i. f (suc i)) (and_right (f 0) (all k (λ i. f (suc i))) h) i (le_of_suc-le-suc l)

pub all_not : (k : ℕ) (f : ℕ → Bool) (i : ℕ) → i < k → f i ≡ false → all k f ≡ false
all_not k f i l e = cases (all k f) (λ t. clash (f i) (all_at k f t i l) e) (λ t. t)

pub all_ext : (k : ℕ) (f g : ℕ → Bool) → ((i : ℕ) → i < k → f i ≡ g i) → all k f ≡ all k g
all_ext k f g h =
    cases (all k g) (λ t. all_of k f (λ i l. h i l ∙ all_at k g t i l) ∙ sym t)
    (λ t. cases (all k f) (λ u. clash (all k g) (all_of k g (λ i l. sym (h i l) ∙ all_at k f u i l)) t) (λ u. u ∙ sym t))

pub first_at : (k : ℕ) (f : ℕ → Bool) (i : ℕ) → i < k → ((j : ℕ) → j < i → f j ≡ true) → f i ≡ false → first_not k f ≡ i
unfolding first_not
first_at zero f i l h e = absurd (not-suc-le-zero l)
first_at (suc k) f zero l h e = simp e
first_at (suc k) f (suc i) l h e =
    simp (h 0 (omega arith))
    (ap suc (first_at k (λ i. f (suc i)) i (le_of_suc-le-suc l) (λ j q. h (suc j) (suc-le-suc q)) e))

pub first_none : (k : ℕ) (f : ℕ → Bool) → ((j : ℕ) → j < k → f j ≡ true) → first_not k f ≡ k
unfolding first_not
first_none zero f h = refl
first_none (suc k) f h =
    simp (h 0 (omega arith)) (ap suc (first_none k (λ i. f (suc i)) (λ j q. h (suc j) (suc-le-suc q))))
