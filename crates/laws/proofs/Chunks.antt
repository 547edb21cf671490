-- A list as chunks of as many elements each: chunk i begins after i of them.
-- Assumes nothing.
use Rattle.std.proofs.Common.{ℕ, zero, suc, ◌≡◌, ◌+◌, ◌*◌, ◌<◌, List, [], get_or, take, drop, arith, ap, ◌∙◌, mul-zero, le_of_suc-le-suc, not-suc-le-zero}
use Rattle.std.proofs.lemmas.List.{drop-drop}
use Rattle.std.specs.Simd.{first_chunks}

pub chunk_at : {A : Type 0} (n k i : ℕ) (xs : List A) → i < k → get_or (first_chunks n k xs) i [] ≡ take n (drop (n * i) xs)
chunk_at n zero i xs l = absurd (not-suc-le-zero l)
chunk_at n (suc k) zero xs l = rw (mul-zero n)
chunk_at n (suc k) (suc i) xs l =
    let e : n + n * i ≡ n * suc i = omega arith in
    chunk_at n k i (drop n xs) (le_of_suc-le-suc l) ∙ ap (take n) (drop-drop (n * i) n xs ∙ ap (λ (m : ℕ). drop m xs) e)
