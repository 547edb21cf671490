-- A number as its little-endian bytes, at any width.
-- In order: `bytes_of` and `number`; each undoes the other (`number_bytes`, `bytes_number`); bytes in a part; a word is four bytes (`word`,
-- `word_at`), read (`word_at_bytes`) and written (`word_word_at`).
-- Assumes nothing.
use Rattle.std.specs.Prelude.{◌≡◌, refl, List, [], ◌∷◌, ℕ, zero, suc, ◌+◌, ◌*◌, ◌/◌, ◌%◌, ◌^◌, ◌<◌, ◌≤◌, length, get_or, take, drop}
use Rattle.std.proofs.Common.{ap, ap₂, sym, ◌∙◌, pow-suc, add-zero, le_of_suc-le-suc, not-suc-le-zero, arith, length-take, length-drop, length-take-le, get_or-drop}
use Rattle.std.proofs.Math.Nat.{pow-zero}
use Rattle.laws.specs.Lists.{tab, tab_part}

-- the k bytes of x, the low one first
unfoldable pub bytes_of : ℕ → ℕ → List ℕ
bytes_of zero x = []
bytes_of (suc k) x = x % 256 ∷ bytes_of k (x / 256)

-- the number whose bytes these are
unfoldable pub number : List ℕ → ℕ
number [] = 0
number (b ∷ l) = b + number l * 256

-- each element is a byte
abbrev pub Bytes : List ℕ → Type 0
Bytes l = (i : ℕ) → get_or l i 0 < 256

pub length_bytes : (k x : ℕ) → length (bytes_of k x) ≡ k
unfolding bytes_of
length_bytes zero x = refl
length_bytes (suc k) x = ap suc (length_bytes k (x / 256))

pub number_bytes : (k x : ℕ) → x < 256 ^ k → number (bytes_of k x) ≡ x
unfolding bytes_of number
number_bytes zero x h = omega (arith, pow-zero 256)
number_bytes (suc k) x h =
    let p : 256 ^ suc k ≡ 256 ^ k * 256 = pow-suc 256 k in
    let r : number (bytes_of k (x / 256)) ≡ x / 256 = number_bytes k (x / 256) (omega arith) in
    omega arith

pub bytes_number : (l : List ℕ) → Bytes l → bytes_of (length l) (number l) ≡ l
unfolding bytes_of number
bytes_number [] h = refl
bytes_number (b ∷ l) h =
    let p : b < 256 = h 0 in
    let low : (b + number l * 256) % 256 ≡ b = omega arith in
    let high : (b + number l * 256) / 256 ≡ number l = omega arith in
    ap₂ (λ x y. x ∷ y) low (ap (bytes_of (length l)) high ∙ bytes_number l (λ i. h (suc i)))

pub number_lt : (k : ℕ) (l : List ℕ) → length l ≤ k → Bytes l → number l < 256 ^ k
unfolding number
number_lt zero [] e h = omega (arith, pow-zero 256)
number_lt zero (b ∷ l) e h = absurd (not-suc-le-zero e)
number_lt (suc k) [] e h = omega (arith, pow-suc 256 k, number_lt k [] (omega arith) h)
number_lt (suc k) (b ∷ l) e h =
    let p : 256 ^ suc k ≡ 256 ^ k * 256 = pow-suc 256 k in
    let q : b < 256 = h 0 in
    let r : number l < 256 ^ k = number_lt k l (le_of_suc-le-suc e) (λ i. h (suc i)) in
    omega arith

-- bytes stay bytes in a part
pub bytes_drop : (a : ℕ) (l : List ℕ) → Bytes l → Bytes (drop a l)
bytes_drop a l b i = rw (get_or-drop a l i 0) (b (a + i))

pub bytes_take : (k : ℕ) (l : List ℕ) → Bytes l → Bytes (take k l)
bytes_take zero l b i = omega arith
bytes_take (suc k) [] b i = omega arith
bytes_take (suc k) (x ∷ l) b zero = b 0
bytes_take (suc k) (x ∷ l) b (suc i) = bytes_take k l (λ j. b (suc j)) i

-- ---- 32 bits

-- the four bytes of a word
abbrev pub word : ℕ → List ℕ
word x = bytes_of 4 x

-- the word at an index
unfoldable pub word_at : List ℕ → ℕ → ℕ
word_at l at = number (take 4 (drop at l))

-- the word at an index is the number of the four bytes from there on
pub word_at_bytes : (l : List ℕ) (at : ℕ) → at + 4 ≤ length l → word_at l at ≡ number (get_or l at 0 ∷ get_or l (at + 1) 0 ∷ get_or l (at + 2) 0 ∷ get_or l (at + 3) 0 ∷ [])
unfolding word_at tab
word_at_bytes l at h = ap number (sym (tab_part 4 at l 0 h) ∙ ap (λ (i : ℕ). get_or l i 0 ∷ get_or l (at + 1) 0 ∷ get_or l (at + 2) 0 ∷ get_or l (at + 3) 0 ∷ []) (add-zero at))

-- the word of four bytes, written, is these bytes
pub word_word_at : (l : List ℕ) (at : ℕ) → Bytes l → at + 4 ≤ length l → word (word_at l at) ≡ take 4 (drop at l)
unfolding word_at
word_word_at l at b h =
    let e : length (take 4 (drop at l)) ≡ 4 = length-take-le 4 (drop at l) (simp length-drop (omega arith)) in
    rw e at (bytes_number (take 4 (drop at l)) (bytes_take 4 (drop at l) (bytes_drop at l b)))

pub word_at_lt : (l : List ℕ) (at : ℕ) → Bytes l → word_at l at < 256 ^ 4
unfolding word_at
word_at_lt l at b =
    number_lt 4 (take 4 (drop at l)) (omega (arith, length-take 4 (drop at l))) (bytes_take 4 (drop at l) (bytes_drop at l b))
