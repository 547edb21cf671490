-- The text of an answer. Document 01: "prints a line each: answer, undone in decimal, touched as 8 lower-case hex digits".
-- In order: a number below 100 (`decimal`), as an answer's is (`number_short`), a hex digit (`hex_digit`), four and eight of them (`hex_four`, `hex_word`); the numbers beside an answer
-- (`numbers_of`), a line (`line_of`), which is short (`line_short`), and one whose numbers are 0
-- (`line_nothing`); bytes put behind others (`Puts`), and more behind these (`puts_more`).
-- Assumes nothing.
use Rattle.std.specs.Prelude.{ℕ, ◌+◌, ◌/◌, ◌%◌, ◌<◌, ◌≤◌, ◌≡◌, refl, Bool, true, false, ◌&&◌, List, [], ◌∷◌, ◌++◌, ltb, eqb, length}
use Rattle.std.proofs.Common.{sym, ap, ◌∙◌, subst, append_assoc, arith, length-append, eqb-true, ltb-true}
use Rattle.laws.specs.Choice.{pick, cases, clash, and_left, and_right}
use Rattle.requests.specs.Requests.{number, answers, is_number, number_listed}
use Rattle.requests.specs.declared.Answer.{Answer}
use Rattle.requests.specs.declared.Told.{Told}

-- ---- a line

-- a number below 100, without a zero in front
unfoldable pub decimal : ℕ → List ℕ
decimal n = pick (ltb n 10) ((48 + n) ∷ []) ((48 + n / 10) ∷ (48 + n % 10) ∷ [])

-- an answer's number is one of the list's, which are all below 100
abbrev all_short : List Answer → Bool
all_short [] = true
all_short (a ∷ rest) = ltb (number a) 100 && all_short rest

short_in : (k : ℕ) (l : List Answer) → all_short l ≡ true → is_number k l ≡ true → k < 100
short_in k [] s h = clash false h refl
short_in k (a ∷ rest) s h =
    cases (eqb k (number a)) (λ t. omega (arith, eqb-true k (number a) t, ltb-true (number a) 100 (and_left (ltb (number a) 100) _ s)))
    (λ t. short_in k rest (and_right (ltb (number a) 100) _ s) (rw t at h))

pub number_short : (a : Answer) → number a < 100
number_short a = short_in (number a) answers refl (number_listed a)

abbrev pub hex_digit : ℕ → ℕ
hex_digit d = pick (ltb d 10) (48 + d) (87 + d)

-- the lower four digits of a number
unfoldable pub hex_four : ℕ → List ℕ
hex_four w = hex_digit (w / 4096 % 16) ∷ hex_digit (w / 256 % 16) ∷ hex_digit (w / 16 % 16) ∷ hex_digit (w % 16) ∷ []

unfoldable pub hex_word : ℕ → List ℕ
hex_word w = hex_four (w / 65536) ++ hex_four w

-- undone and touched, a space (32) before each, and the line's end (10)
unfoldable pub numbers_of : ℕ → ℕ → List ℕ
numbers_of undone touched = (32 ∷ []) ++ decimal undone ++ (32 ∷ []) ++ hex_word touched ++ (10 ∷ [])

unfoldable pub line_of : Told → List ℕ
line_of t = decimal (number t.answer) ++ numbers_of t.undone t.touched.0

-- the longest line: two digits, a space, two digits, a space, eight digits and the line's end
abbrev pub line_size : ℕ
line_size = 15

-- nothing was undone or touched
abbrev pub tells_nothing : Told → Bool
tells_nothing t = eqb t.undone 0 && eqb t.touched.0 0

pub decimal_short : (n : ℕ) → length (decimal n) ≤ 2
unfolding decimal
decimal_short n = cases (ltb n 10) (λ h. rw h (omega arith)) (λ h. rw h (omega arith))

-- ---- what is put

-- the bytes were put behind those before
pub record Puts (before after bs : List ℕ) : Type 0 where
  pub text : after ≡ before ++ bs

pub puts_more : {xs ys zs us vs : List ℕ} → Puts xs ys us → Puts ys zs vs → Puts xs zs (us ++ vs)
puts_more {xs = xs} {us = us} {vs = vs} p q = record { text = q.text ∙ ap (λ (l : List ℕ). l ++ vs) p.text ∙ append_assoc xs us vs }

-- the same bytes, known otherwise
pub puts_same : {xs ys us vs : List ℕ} → us ≡ vs → Puts xs ys us → Puts xs ys vs
puts_same {xs = xs} {ys = ys} e p = subst (Puts xs ys) e p

pub puts_length : {xs ys us : List ℕ} → Puts xs ys us → length ys ≡ length xs + length us
puts_length {xs = xs} {us = us} p = ap length p.text ∙ length-append xs us

pub length_four : (w : ℕ) → length (hex_four w) ≡ 4
unfolding hex_four
length_four w = refl

pub length_word : (w : ℕ) → length (hex_word w) ≡ 8
unfolding hex_word hex_four
length_word w = refl

pub line_short : (t : Told) → length (line_of t) ≤ line_size
unfolding line_of numbers_of
line_short t =
    simp length-append (omega (arith, decimal_short (number t.answer), decimal_short t.undone, length_word t.touched.0))

-- the numbers that are 0 stand there as their text
pub nothing_text : 32 ∷ 48 ∷ 32 ∷ 48 ∷ 48 ∷ 48 ∷ 48 ∷ 48 ∷ 48 ∷ 48 ∷ 48 ∷ 10 ∷ [] ≡ numbers_of 0 0
unfolding numbers_of decimal hex_word hex_four
nothing_text = refl

pub line_nothing : (t : Told) (k : ℕ) → k ≡ number t.answer → tells_nothing t ≡ true → decimal k ++ numbers_of 0 0 ≡ line_of t
unfolding line_of
line_nothing t k e h =
    let undone : t.undone ≡ 0 = eqb-true t.undone 0 (and_left (eqb t.undone 0) _ h) in
    let touched : t.touched.0 ≡ 0 = eqb-true t.touched.0 0 (and_right (eqb t.undone 0) _ h) in
    λ i. decimal (e i) ++ numbers_of (sym undone i) (sym touched i)
