-- A word as the set of the places of its bits, at any width w.
-- In order: `member`, `including`, `excluding`; the code's shifts and masks (`one_shl`, `and_one`); the bits of `bit_or`, `bit_and`, a
-- power of two and a complement; members after `including` and `excluding`, at the same place and at another, and of two words' `bit_or` and `bit_and`; two words with the same
-- members are one (`same_members`); the empty set.
-- Not here: `bit_or` and `bit_and` by steps, shifts and bounds (`lib.Bits`), powers of two (`lib.Pow`).
-- Assumes nothing.
use Rattle.std.specs.Prelude.{◌≡◌, refl, Bool, true, false, ◌&&◌, ◌||◌, ◌≢◌, ℕ, zero, suc, ◌+◌, ◌-◌, ◌*◌, ◌/◌, ◌%◌, ◌^◌, ◌<◌, ◌≤◌, min, max, eqb, ltb}
use Rattle.std.proofs.Common.{ap, sym, ◌∙◌, one-mul, mod-eq_of_lt, div-one, pow-suc, le_of_suc-le-suc, not-suc-le-zero, mul_comm, arith, pow_pos, pow-add, eqb-true, eq-eqb, ltb-true, ltb-false}
use Rattle.std.proofs.Math.Nat.{div_self, div-eq_of_lt, zero-div, max-zero, min-zero, div-div-eq-div-mul}
use Rattle.std.proofs.Math.Arith.{digits_mod, lt_of_le-ne}
use Rattle.std.specs.Int.Bits.{bit_or, bit_and, or_step, and_step, and_lt}
use Rattle.std.proofs.lemmas.Nat.{or_shr, and_shr, or_lt, and_le_l, and_mask, shl-shr}
use Rattle.std.proofs.Math.Pow.{pow-lt}
use Rattle.std.proofs.lemmas.Bool.{eqb-false}
use Rattle.laws.specs.Choice.{cases}

-- bit n of s, 0 or 1
abbrev pub bit : ℕ → ℕ → ℕ
bit s n = s / 2 ^ n % 2

-- n is in s
unfoldable pub member : ℕ → ℕ → Bool
member s n = eqb (bit s n) 1

-- s with n
unfoldable pub including : ℕ → ℕ → ℕ
including s n = bit_or s (2 ^ n)

-- s without n, as words of w bits
unfoldable pub excluding : ℕ → ℕ → ℕ → ℕ
excluding w s n = bit_and s (2 ^ w - 1 - 2 ^ n)

-- ---- the code's shifts and masks

-- `1 << n` at w bits
pub one_shl : (w n : ℕ) → n < w → 1 * 2 ^ n % 2 ^ w ≡ 2 ^ n
one_shl w n h = ap (λ (x : ℕ). x % 2 ^ w) (one-mul (2 ^ n)) ∙ mod-eq_of_lt (pow-lt h)

-- `s & 1`
pub and_one : (s : ℕ) → bit_and s 1 ≡ s % 2
and_one s = and_mask s 1

-- ---- bits

pub bit_lt : (s n : ℕ) → bit s n < 2
bit_lt s n = omega arith

or_low : (a b : ℕ) → bit_or a b % 2 ≡ max (a % 2) (b % 2)
or_low a b =
    let h : max (a % 2) (b % 2) < 2 = omega arith in
    ap (λ (x : ℕ). x % 2) (or_step a b) ∙ digits_mod (bit_or (a / 2) (b / 2)) h

and_low : (a b : ℕ) → bit_and a b % 2 ≡ min (a % 2) (b % 2)
and_low a b =
    let h : min (a % 2) (b % 2) < 2 = omega arith in
    ap (λ (x : ℕ). x % 2) (and_step a b) ∙ digits_mod (bit_and (a / 2) (b / 2)) h

pub bit_or_lem : (a b n : ℕ) → bit (bit_or a b) n ≡ max (bit a n) (bit b n)
bit_or_lem a b n = ap (λ (x : ℕ). x % 2) (or_shr a b n) ∙ or_low (a / 2 ^ n) (b / 2 ^ n)

pub bit_and_lem : (a b n : ℕ) → bit (bit_and a b) n ≡ min (bit a n) (bit b n)
bit_and_lem a b n = ap (λ (x : ℕ). x % 2) (and_shr a b n) ∙ and_low (a / 2 ^ n) (b / 2 ^ n)

pub bit_pow_same : (n : ℕ) → bit (2 ^ n) n ≡ 1
bit_pow_same n = ap (λ (x : ℕ). x % 2) (div_self (pow_pos n))

bit_pow_below : (n m : ℕ) → m < n → bit (2 ^ n) m ≡ 0
bit_pow_below n m h =
    let k = n - m - 1 in
    let e : n ≡ k + 1 + m = omega arith in
    let p : 2 ^ n ≡ 2 ^ (k + 1) * 2 ^ m = ap (λ (x : ℕ). 2 ^ x) e ∙ pow-add 2 (k + 1) m in
    let q : 2 ^ n / 2 ^ m ≡ 2 ^ (k + 1) = ap (λ (x : ℕ). x / 2 ^ m) p ∙ shl-shr (2 ^ (k + 1)) m in
    let r : 2 ^ (k + 1) ≡ 2 ^ k * 2 = pow-add 2 k 1 in
    omega (arith, q, r)

bit_pow_above : (n m : ℕ) → n < m → bit (2 ^ n) m ≡ 0
bit_pow_above n m h = ap (λ (x : ℕ). x % 2) (div-eq_of_lt (pow-lt h))

pub bit_pow_other : (n m : ℕ) → m ≢ n → bit (2 ^ n) m ≡ 0
bit_pow_other n m d =
    cases (ltb m n) (λ e. bit_pow_below n m (ltb-true m n e))
    (λ e. bit_pow_above n m (lt_of_le-ne (ltb-false m n e) (λ q. d (sym q))))

bit_zero : (s : ℕ) → bit s 0 ≡ s % 2
bit_zero s = ap (λ (x : ℕ). x % 2) (div-one s)

bit_suc : (s n : ℕ) → bit s (suc n) ≡ bit (s / 2) n
bit_suc s n =
    ap (λ (x : ℕ). x % 2)
    (ap (λ (x : ℕ). s / x) (pow-suc 2 n ∙ mul_comm (2 ^ n) 2) ∙ sym (div-div-eq-div-mul s 2 (2 ^ n)))

odd_complement : (p x : ℕ) → x < p * 2 → (p * 2 - 1 - x) % 2 ≡ 1 - x % 2
odd_complement p x h = omega arith

-- the complement of x among w bits
pub bit_not : (w x n : ℕ) → n < w → x < 2 ^ w → bit (2 ^ w - 1 - x) n ≡ 1 - bit x n
bit_not zero x n h l = absurd (not-suc-le-zero h)
bit_not (suc w) x zero h l =
    let p : 2 ^ suc w ≡ 2 ^ w * 2 = pow-suc 2 w in
    let s : (2 ^ suc w - 1 - x) % 2 ≡ 1 - x % 2 = rw p (odd_complement (2 ^ w) x (rw p at l)) in
    bit_zero _ ∙ s ∙ ap (λ (y : ℕ). 1 - y) (sym (bit_zero x))
bit_not (suc w) x (suc n) h l =
    let p : 2 ^ suc w ≡ 2 ^ w * 2 = pow-suc 2 w in
    let half : (2 ^ suc w - 1 - x) / 2 ≡ 2 ^ w - 1 - x / 2 = omega arith in
    bit_suc _ n ∙ ap (λ (y : ℕ). bit y n) half ∙ bit_not w (x / 2) n (le_of_suc-le-suc h) (omega arith) ∙
    ap (λ (y : ℕ). 1 - y) (sym (bit_suc x n))

pub same_bits : (w s t : ℕ) → s < 2 ^ w → t < 2 ^ w → ((n : ℕ) → n < w → bit s n ≡ bit t n) → s ≡ t
same_bits zero s t hs ht e = omega arith
same_bits (suc w) s t hs ht e =
    let p : 2 ^ suc w ≡ 2 ^ w * 2 = pow-suc 2 w in
    let low : s % 2 ≡ t % 2 = sym (bit_zero s) ∙ e 0 (omega arith) ∙ bit_zero t in
    let high : s / 2 ≡ t / 2 =
    same_bits w (s / 2) (t / 2) (omega arith) (omega arith)
    (λ n h. sym (bit_suc s n) ∙ e (suc n) (omega arith) ∙ bit_suc t n) in
    omega arith

-- ---- members

pub member_including : (s n : ℕ) → member (including s n) n ≡ true
unfolding member including
member_including s n =
    eq-eqb _ 1 (bit_or_lem s (2 ^ n) n ∙ ap (max (bit s n)) (bit_pow_same n) ∙ omega (arith, bit_lt s n))

pub member_including_other : (s n m : ℕ) → m ≢ n → member (including s n) m ≡ member s m
unfolding member including
member_including_other s n m d =
    ap (λ (x : ℕ). eqb x 1) (bit_or_lem s (2 ^ n) m ∙ ap (max (bit s m)) (bit_pow_other n m d) ∙ max-zero (bit s m))

pub including_lt : (w s n : ℕ) → s < 2 ^ w → n < w → including s n < 2 ^ w
unfolding including
including_lt w s n hs hn = or_lt w s (2 ^ n) hs (pow-lt hn)

pub member_excluding : (w s n : ℕ) → n < w → member (excluding w s n) n ≡ false
unfolding member excluding
member_excluding w s n h =
    ap (λ (x : ℕ). eqb x 1)
    (bit_and_lem s _ n ∙
    ap (min (bit s n)) (bit_not w (2 ^ n) n h (pow-lt h) ∙ ap (λ (y : ℕ). 1 - y) (bit_pow_same n)) ∙ min-zero (bit s n))

pub member_excluding_other : (w s n m : ℕ) → n < w → m < w → m ≢ n → member (excluding w s n) m ≡ member s m
unfolding member excluding
member_excluding_other w s n m h l d =
    let e : min (bit s m) (1 - 0) ≡ bit s m = omega (arith, bit_lt s m) in
    ap (λ (x : ℕ). eqb x 1)
    (bit_and_lem s _ m ∙
    ap (min (bit s m)) (bit_not w (2 ^ n) m l (pow-lt h) ∙ ap (λ (y : ℕ). 1 - y) (bit_pow_other n m d)) ∙ e)

-- the same in words of more bits than s has
pub excluding_wide : (v w s n : ℕ) → w ≤ v → n < w → s < 2 ^ w → excluding v s n ≡ excluding w s n
unfolding excluding
excluding_wide v w s n wide h hs =
    same_bits w _ _ (omega (arith, and_le_l s (2 ^ v - 1 - 2 ^ n))) (omega (arith, and_le_l s (2 ^ w - 1 - 2 ^ n))) here
  where
    here : (m : ℕ) → m < w → bit (bit_and s (2 ^ v - 1 - 2 ^ n)) m ≡ bit (bit_and s (2 ^ w - 1 - 2 ^ n)) m
    here m l =
        bit_and_lem s _ m ∙
        ap (min (bit s m)) (bit_not v (2 ^ n) m (omega arith) (pow-lt (omega arith)) ∙ sym (bit_not w (2 ^ n) m l (pow-lt h))) ∙
        sym (bit_and_lem s _ m)

pub excluding_lt : (w s n : ℕ) → s < 2 ^ w → excluding w s n < 2 ^ w
unfolding excluding
excluding_lt w s n hs = and_lt w s _ hs (omega (arith, pow_pos w))

pub member_empty : (n : ℕ) → member 0 n ≡ false
unfolding member
member_empty n = ap (λ (x : ℕ). eqb (x % 2) 1) (zero-div (2 ^ n))

one_or_none : (a b : ℕ) → a < 2 → b < 2 → eqb a 1 ≡ eqb b 1 → a ≡ b
one_or_none a b p q r =
    cases (eqb b 1) (λ e. eqb-true a 1 (r ∙ e) ∙ sym (eqb-true b 1 e))
    (λ e. omega (arith, none a p (eqb-false a 1 (r ∙ e)), none b q (eqb-false b 1 e)))
  where
    none : (x : ℕ) → x < 2 → (x ≡ 1 → ⊥) → x ≡ 0
    none zero l n = refl
    none (suc zero) l n = absurd (n refl)
    none (suc (suc x)) l n = absurd (omega arith)

-- the members of either word, and of both
pub member_or : (s t n : ℕ) → member (bit_or s t) n ≡ (member s n || member t n)
unfolding member
member_or s t n = ap (λ (x : ℕ). eqb x 1) (bit_or_lem s t n) ∙ one_of (bit s n) (bit t n) (bit_lt s n) (bit_lt t n)
  where
    one_of : (a b : ℕ) → a < 2 → b < 2 → eqb (max a b) 1 ≡ (eqb a 1 || eqb b 1)
    one_of zero zero p q = refl
    one_of zero (suc zero) p q = refl
    one_of zero (suc (suc b)) p q = absurd (omega arith)
    one_of (suc zero) zero p q = refl
    one_of (suc zero) (suc zero) p q = refl
    one_of (suc zero) (suc (suc b)) p q = absurd (omega arith)
    one_of (suc (suc a)) b p q = absurd (omega arith)

pub member_and : (s t n : ℕ) → member (bit_and s t) n ≡ (member s n && member t n)
unfolding member
member_and s t n = ap (λ (x : ℕ). eqb x 1) (bit_and_lem s t n) ∙ both_of (bit s n) (bit t n) (bit_lt s n) (bit_lt t n)
  where
    both_of : (a b : ℕ) → a < 2 → b < 2 → eqb (min a b) 1 ≡ (eqb a 1 && eqb b 1)
    both_of zero zero p q = refl
    both_of zero (suc zero) p q = refl
    both_of zero (suc (suc b)) p q = absurd (omega arith)
    both_of (suc zero) zero p q = refl
    both_of (suc zero) (suc zero) p q = refl
    both_of (suc zero) (suc (suc b)) p q = absurd (omega arith)
    both_of (suc (suc a)) b p q = absurd (omega arith)

-- two words with the same members are one
pub same_members : (w s t : ℕ) → s < 2 ^ w → t < 2 ^ w → ((n : ℕ) → n < w → member s n ≡ member t n) → s ≡ t
unfolding member
same_members w s t hs ht e =
    same_bits w s t hs ht (λ n h. one_or_none (bit s n) (bit t n) (bit_lt s n) (bit_lt t n) (e n h))
