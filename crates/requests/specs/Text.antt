-- What a call tells, as text.
-- In order: eight hex digits (`eight_digits`), and the text (`told_text`); that the digits are what the options of a hole give (`laid_out`).
-- Assumes nothing.
use Rattle.std.specs.Prelude.{◌≡◌, ℕ, ◌-◌, List, [], ◌∷◌, ◌++◌, false, length, replicate}
use Rattle.std.proofs.Common.{append-nil, arith}
use Rattle.std.specs.Fmt.{decimal, digits, padded_integral, format_spec, char_count}
use Rattle.requests.specs.Requests.{number}
use Rattle.requests.specs.declared.Told.{Told}

-- the digits of a word to the base 16, with zeros in front of them where they are fewer than eight
abbrev pub eight_digits : ℕ → List ℕ
eight_digits w = replicate (8 - length (digits 16 false w)) 48 ++ digits 16 false w

-- the answer's number, undone and touched, a space between two
unfoldable pub told_text : Told → List ℕ
told_text t = decimal (number t.answer) ++ ((32 ∷ []) ++ (decimal t.undone ++ ((32 ∷ []) ++ eight_digits t.touched.0)))

pub laid_out : (ds : List ℕ) → padded_integral (format_spec 32 0 4 8 18446744073709551615) false [] ds ≡ replicate (8 - length ds) 48 ++ ds
unfolding padded_integral char_count
laid_out ds =
    let e : 8 - length ds - 0 - 0 ≡ 8 - length ds = omega arith in
    λ i. replicate (e i) 48 ++ append-nil ds i
