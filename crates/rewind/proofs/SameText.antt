-- One text, defined twice: a line of the program (`line_of`) is what a call tells, as text (`told_text` of `requests`), and the line's end.
-- In order: so many digits to the base 16, zeros among them (`fixed`), are the digits with zeros in front of them (`padded`); a word's eight
-- (`same_word`); a number below 100 (`same_decimal`); the line (`line_is_told`).
-- Assumes nothing.
use Rattle.std.specs.Prelude.{ℕ, zero, suc, ◌+◌, ◌-◌, ◌/◌, ◌%◌, ◌<◌, ◌≤◌, ◌≡◌, refl, Bool, true, false, cond, List, [], ◌∷◌, ◌++◌, ltb, eqb, length, replicate}
use Rattle.std.specs.Fmt.{digit_glyph, digits, digits_onto}
use Rattle.std.proofs.Common.{sym, ap, ◌∙◌, append_assoc, arith, eqb-true, ltb-true}
use borrow.Author.Tests.{eq-eqb, ltb-false}
use Rattle.std.proofs.lemmas.Fmt.{decimal_digit, decimal_step}
use Rattle.laws.specs.Choice.{pick, cases}
use Rattle.requests.specs.Requests.{number}
use Rattle.requests.specs.Text.{eight_digits, told_text}
use Rattle.requests.specs.declared.Told.{Told}
use Rattle.rewind.specs.Lines.{decimal, number_short, hex_digit, hex_four, hex_word, numbers_of, line_of}

-- ---- digits to the base 16

-- the lower k of them in front of others
abbrev fixed : ℕ → ℕ → List ℕ → List ℕ
fixed zero n rest = rest
fixed (suc k) n rest = fixed k (n / 16) (digit_glyph false (n % 16) ∷ rest)

-- k of them hold the number
abbrev Fits : ℕ → ℕ → Type 0
Fits zero n = n ≡ 0
Fits (suc k) n = Fits k (n / 16)

one_zero : (k : ℕ) (rest : List ℕ) → replicate k 48 ++ (48 ∷ rest) ≡ 48 ∷ (replicate k 48 ++ rest)
one_zero zero rest = refl
one_zero (suc k) rest = ap (λ (ds : List ℕ). 48 ∷ ds) (one_zero k rest)

zeros : (k : ℕ) (rest : List ℕ) → fixed k 0 rest ≡ replicate k 48 ++ rest
zeros zero rest = refl
zeros (suc k) rest = zeros k (48 ∷ rest) ∙ one_zero k rest

-- as many zeros in front as make it so many digits
abbrev with_zeros : ℕ → List ℕ → List ℕ → List ℕ
with_zeros k rest ds = replicate (k + length rest - length ds) 48 ++ ds

-- the digits, by whether there are more than the last one
digits_by : (f n : ℕ) (rest : List ℕ) (b : Bool) → eqb (n / 16) 0 ≡ b
    → digits_onto (suc f) 16 false n rest ≡ cond b (digit_glyph false (n % 16) ∷ rest) (digits_onto f 16 false (n / 16) (digit_glyph false (n % 16) ∷ rest))
digits_by f n rest b e = ap (λ (t : Bool). cond t (digit_glyph false (n % 16) ∷ rest) (digits_onto f 16 false (n / 16) (digit_glyph false (n % 16) ∷ rest))) e

padded_last : (k f n : ℕ) (rest : List ℕ) → eqb (n / 16) 0 ≡ true → with_zeros (suc k) rest (digits_onto (suc f) 16 false n rest) ≡ fixed (suc k) n rest
padded_last k f n rest t =
    let d : ℕ = digit_glyph false (n % 16) in
    let m : suc k + length rest - length (d ∷ rest) ≡ k = omega arith in
    ap (with_zeros (suc k) rest) (digits_by f n rest true t)
    ∙ ap (λ (j : ℕ). replicate j 48 ++ (d ∷ rest)) m
    ∙ sym (zeros k (d ∷ rest))
    ∙ ap (λ (j : ℕ). fixed k j (d ∷ rest)) (sym (eqb-true (n / 16) 0 t))

padded : (k f n : ℕ) (rest : List ℕ) → k ≤ f → Fits (suc k) n → with_zeros (suc k) rest (digits_onto (suc f) 16 false n rest) ≡ fixed (suc k) n rest
padded zero f n rest l h = padded_last zero f n rest (eq-eqb (n / 16) 0 h)
padded (suc k) zero n rest l h = absurd (omega (arith, l))
padded (suc k) (suc f) n rest l h =
    cases (eqb (n / 16) 0)
    (λ t. padded_last (suc k) (suc f) n rest t)
    (λ t.
    let d : ℕ = digit_glyph false (n % 16) in
    let ds : List ℕ = digits_onto (suc f) 16 false (n / 16) (d ∷ rest) in
    let m : suc (suc k) + length rest ≡ suc k + length (d ∷ rest) = omega arith in
    ap (with_zeros (suc (suc k)) rest) (digits_by (suc f) n rest false t)
    ∙ ap (λ (j : ℕ). replicate (j - length ds) 48 ++ ds) m
    ∙ padded k f (n / 16) (d ∷ rest) (omega (arith, l)) h)

all_digits : (w : ℕ) → digits 16 false w ≡ digits_onto 64 16 false w []
unfolding digits
all_digits w = refl

same_pick : (b : Bool) (x y : ℕ) → cond b x y ≡ pick b x y
same_pick true x y = refl
same_pick false x y = refl

same_digit : (a b : ℕ) → a ≡ b → digit_glyph false a ≡ hex_digit b
same_digit a b e = same_pick (ltb a 10) (48 + a) (87 + a) ∙ ap hex_digit e

fixed_word : (w : ℕ) → fixed 8 w [] ≡ hex_word w
unfolding hex_word hex_four
fixed_word w =
    let at : (a b : ℕ) → a ≡ b → digit_glyph false (a % 16) ≡ hex_digit (b % 16) = λ a b e. same_digit (a % 16) (b % 16) (ap (λ (n : ℕ). n % 16) e) in
    let seventh = at (w / 16 / 16 / 16 / 16 / 16 / 16 / 16) (w / 65536 / 4096) (omega arith) in
    let sixth = at (w / 16 / 16 / 16 / 16 / 16 / 16) (w / 65536 / 256) (omega arith) in
    let fifth = at (w / 16 / 16 / 16 / 16 / 16) (w / 65536 / 16) (omega arith) in
    let fourth = at (w / 16 / 16 / 16 / 16) (w / 65536) (omega arith) in
    let third = at (w / 16 / 16 / 16) (w / 4096) (omega arith) in
    let second = at (w / 16 / 16) (w / 256) (omega arith) in
    let first = at (w / 16) (w / 16) refl in
    let lowest = at w w refl in
    λ i. seventh i ∷ sixth i ∷ fifth i ∷ fourth i ∷ third i ∷ second i ∷ first i ∷ lowest i ∷ []

same_word : (w : ℕ) → w < 4294967296 → eight_digits w ≡ hex_word w
same_word w l =
    let short : w / 16 / 16 / 16 / 16 / 16 / 16 / 16 / 16 ≡ 0 = omega arith in
    ap (λ (ds : List ℕ). replicate (8 - length ds) 48 ++ ds) (all_digits w) ∙ padded 7 63 w [] (omega arith) short ∙ fixed_word w

-- ---- the line

same_decimal : (n : ℕ) → n < 100 → digits 10 false n ≡ decimal n
unfolding decimal
same_decimal n l =
    let chosen : Bool → List ℕ = λ b. pick b ((48 + n) ∷ []) ((48 + n / 10) ∷ (48 + n % 10) ∷ []) in
    cases (ltb n 10)
    (λ t. decimal_digit n (ltb-true n 10 t) ∙ sym (ap chosen t))
    (λ t.
    let large : 10 ≤ n = ltb-false n 10 t in
    let front : digits 10 false (n / 10) ≡ (48 + n / 10) ∷ [] = decimal_digit (n / 10) (omega arith) in
    decimal_step n large (omega arith) ∙ ap (λ (ds : List ℕ). ds ++ ((48 + n % 10) ∷ [])) front ∙ sym (ap chosen t))

-- the parts of a text, put together in two orders
regrouped : (a u h : List ℕ) → a ++ ((32 ∷ []) ++ u ++ (32 ∷ []) ++ h ++ (10 ∷ [])) ≡ (a ++ ((32 ∷ []) ++ (u ++ ((32 ∷ []) ++ h)))) ++ (10 ∷ [])
regrouped a u h = simp append_assoc

pub line_is_told : (t : Told) → t.undone < 100 → t.touched.0 < 4294967296 → line_of t ≡ told_text t ++ (10 ∷ [])
unfolding line_of numbers_of told_text
line_is_told t few small =
    let answer = same_decimal (number t.answer) (number_short t.answer) in
    let undone = same_decimal t.undone few in
    let touched = same_word t.touched.0 small in
    regrouped (decimal (number t.answer)) (decimal t.undone) (hex_word t.touched.0)
    ∙ sym (λ i. (answer i ++ ((32 ∷ []) ++ (undone i ++ ((32 ∷ []) ++ touched i)))) ++ (10 ∷ []))
