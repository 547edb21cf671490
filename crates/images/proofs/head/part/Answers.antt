use Rattle.std.proofs.Common.{ℕ, ◌≡◌, ◌+◌, ◌*◌, ◌<◌, ◌≤◌, ◌/◌, ◌-◌, List, [], length, get_or, take, drop, arith, ap, ◌∙◌, length-drop, take_all}
use Rattle.std.proofs.lemmas.List.{drop-drop}
use Rattle.std.proofs.lemmas.Nat.{le-div}
use Rattle.std.specs.Simd.{first_chunks}
use Rattle.laws.proofs.Chunks.{chunk_at}
use Rattle.images.proofs.head.part.Goals as goal

-- chunk i of those behind the first a elements of xs
chunk_behind : {A : Type 0} (a n i : ℕ) (xs ys : List A) → ys ≡ drop a xs → 0 < n → a + n * i + n ≤ length xs
    → get_or (first_chunks n (length ys / n) ys) i [] ≡ take n (drop (a + n * i) xs)
chunk_behind {A = A} a n i xs ys e size within =
    let l : length ys ≡ length xs - a = ap length e ∙ length-drop a xs in
    let below : i + 1 ≤ length ys / n = le-div (i + 1) (length ys) n size (omega arith) in
    let there : i < length ys / n = omega arith in
    chunk_at n (length ys / n) i ys there ∙ ap (λ (zs : List A). take n (drop (n * i) zs)) e ∙ ap (take n) (drop-drop (n * i) a xs)

pub returns : goal.returns
returns g c =
    let xs = c.args.image.now in
    ap (λ parts. get_or parts c.args.i []) c.as_chunks.ensures.front ∙
    chunk_behind 16 g.row.N c.args.i xs (take (length xs - 16) (drop 16 xs))
    (take_all (length xs - 16) (drop 16 xs) (omega (arith, length-drop 16 xs))) c.requires.size c.requires.within
