-- A word as a set of keys: `member s` is the set of the places of the bits of s.
-- In order: no bit, one bit set and one bit cleared, as sets (`word_empty`, `word_including`, `word_excluding`); `word_of`, the word of a set below n,
-- with its bound (`word_of_lt`), its members (`word_of_above`, `word_of_in`), and that it is the only such word (`word_of_is`); one place more
-- (`word_of_next`), equal sets (`word_of_ext`), and one member more (`word_of_more`).
-- Not here: `member`, `including`, `excluding` and their laws (`laws`, `Sets`).
-- Assumes nothing.
use Rattle.std.specs.Prelude.{◌≡◌, Bool, ◌||◌, ℕ, zero, suc, ◌+◌, ◌^◌, ◌≤◌, ◌<◌, eqb}
use Rattle.std.proofs.Common.{sym, ap, ◌∙◌, not-suc-le-zero, pow-suc, add-one, arith, pow_pos, eqb-true}
use Rattle.std.proofs.Math.Path.{fun_ext}
use Rattle.std.proofs.Math.Bool.{and-false, and-true}
use Rattle.std.proofs.lemmas.Bool.{eqb-false}
use Rattle.laws.specs.Choice.{pick, cases}
use Rattle.laws.specs.Sets.{member, including, excluding, member_including, member_including_other, including_lt, member_excluding, member_excluding_other, member_empty, same_members}
use Rattle.order.specs.KeySets.{Set, ◌∉◌, empty, only, ◌∪◌, ◌∖◌}

pub word_empty : member 0 ≡ empty
word_empty = fun_ext member_empty

pub word_including : (s x : ℕ) → member (including s x) ≡ only x ∪ member s
word_including s x =
    fun_ext
    (λ y.
    cases (eqb y x) (λ p. rw (p, eqb-true y x p) (member_including s x))
    (λ p. rw p (member_including_other s x y (eqb-false y x p))))

pub word_excluding : (w s x y : ℕ) → x < w → y < w → member (excluding w s x) y ≡ (member s ∖ only x) y
word_excluding w s x y h l =
    cases (eqb y x) (λ p. rw (p, and-false (member s y), eqb-true y x p) (member_excluding w s x h))
    (λ p. rw (p, and-true (member s y)) (member_excluding_other w s x y h l (eqb-false y x p)))

-- the word whose bits are the members of S below n
unfoldable pub word_of : ℕ → Set → ℕ
word_of zero S = 0
word_of (suc k) S = pick (S k) (including (word_of k S) k) (word_of k S)

pub word_of_lt : (n : ℕ) (S : Set) → word_of n S < 2 ^ n
unfolding word_of
word_of_lt zero S = pow_pos 0
word_of_lt (suc k) S =
    let wider : word_of k S < 2 ^ suc k = omega (arith, word_of_lt k S, pow-suc 2 k) in
    cases (S k) (λ p. rw p (including_lt (suc k) (word_of k S) k wider (omega arith))) (λ p. rw p wider)

pub word_of_above : (n : ℕ) (S : Set) (x : ℕ) → n ≤ x → x ∉ member (word_of n S)
unfolding word_of
word_of_above zero S x h = member_empty x
word_of_above (suc k) S x h =
    let old : x ∉ member (word_of k S) = word_of_above k S x (omega arith) in
    cases (S k) (λ p. rw p (member_including_other (word_of k S) k x (λ e. omega arith) ∙ old)) (λ p. rw p old)

pub word_of_in : (n : ℕ) (S : Set) (x : ℕ) → x < n → member (word_of n S) x ≡ S x
unfolding word_of
word_of_in zero S x l = absurd (not-suc-le-zero l)
word_of_in (suc k) S x l =
    cases (eqb x k)
    (λ p. rw (eqb-true x k p) (cases (S k) (λ q. rw q (member_including (word_of k S) k)) (λ q. rw q (word_of_above k S k (omega arith)))))
    (λ p.
    let old : member (word_of k S) x ≡ S x = word_of_in k S x (omega (arith, eqb-false x k p)) in
    cases (S k) (λ q. rw q (member_including_other (word_of k S) k x (eqb-false x k p) ∙ old)) (λ q. rw q old))

pub word_of_is : (n : ℕ) (S : Set) (s : ℕ) → s < 2 ^ n → ((x : ℕ) → x < n → member s x ≡ S x) → s ≡ word_of n S
word_of_is n S s h e = same_members n s (word_of n S) h (word_of_lt n S) (λ x l. e x l ∙ sym (word_of_in n S x l))

pub word_of_next : (k : ℕ) (S : Set) → word_of (k + 1) S ≡ pick (S k) (including (word_of k S) k) (word_of k S)
unfolding word_of
word_of_next k S = rw (add-one k)

pub word_of_ext : (n : ℕ) (S T : Set) → ((x : ℕ) → x < n → S x ≡ T x) → word_of n S ≡ word_of n T
word_of_ext n S T h = word_of_is n T (word_of n S) (word_of_lt n S) (λ x l. word_of_in n S x l ∙ h x l)

-- the word with a bit set is that of the set with its place
pub word_of_more : (n : ℕ) (S : Set) (a : ℕ) → a < n → including (word_of n S) a ≡ word_of n (only a ∪ S)
word_of_more n S a h =
    word_of_is n (only a ∪ S) (including (word_of n S) a) (including_lt n (word_of n S) a (word_of_lt n S) h)
    (λ x l. ap (λ (T : Set). T x) (word_including (word_of n S) a) ∙ ap (λ (b : Bool). eqb x a || b) (word_of_in n S x l))
