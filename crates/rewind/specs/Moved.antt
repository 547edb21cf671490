-- Bytes moved to the front of a list, one after the other from the first on.
-- In order: the first i have been moved, and those behind them are as they were (`Moved`); before the first turn (`moved_none`) and a turn (`moved_more`).
-- Assumes nothing.
use Rattle.std.specs.Prelude.{ℕ, ◌+◌, ◌<◌, ◌≤◌, ◌≡◌, refl, List, [], ◌∷◌, ◌++◌, length, get_or, take, drop, set}
use Rattle.std.proofs.Common.{sym, ap₂, ◌∙◌, add-one, arith, length-set, length-drop, take-suc, take-suc-set, get_or-drop, get_or-set_other}

-- xs with its bytes from `from` on brought to its front, i of them, is ys
pub record Moved (xs : List ℕ) (from i : ℕ) (ys : List ℕ) : Type 0 where
  pub kept : length ys ≡ length xs
  pub front : take i ys ≡ take i (drop from xs)
  pub behind : (j : ℕ) → i ≤ j → get_or ys j 0 ≡ get_or xs j 0

pub moved_none : (xs : List ℕ) (from : ℕ) → Moved xs from 0 xs
moved_none xs from = record { kept = refl; front = refl; behind = λ j h. refl }

pub moved_more : (xs : List ℕ) (from i : ℕ) (ys : List ℕ) → from + i < length xs → Moved xs from i ys → Moved xs from (i + 1) (set ys i (get_or ys (from + i) 0))
moved_more xs from i ys h m =
    let b : ℕ = get_or ys (from + i) 0 in
    let is : b ≡ get_or (drop from xs) i 0 = m.behind (from + i) (omega arith) ∙ sym (get_or-drop from xs i 0) in
    let room : i < length (drop from xs) = omega (arith, length-drop from xs) in
    let there : i < length ys = omega (arith, m.kept) in
    record {
      kept = length-set ys i b ∙ m.kept;
      front =
          rw (add-one i)
          (take-suc-set ys i b there ∙ ap₂ (λ (l : List ℕ) (c : ℕ). l ++ (c ∷ [])) m.front is ∙ sym (take-suc (drop from xs) i 0 room));
      behind = λ j l. get_or-set_other ys i j b 0 (λ e. omega (arith, e)) ∙ m.behind j (omega arith);
    }
