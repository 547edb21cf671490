-- Contents and references that are equal place by place are the same at each index, so they are the same records' (`data_alike`, `refs_alike`).
-- Assumes nothing.
use Rattle.std.specs.Prelude.{◌≡◌, refl, List, [], ◌∷◌, Bool, ◌&&◌, ℕ, length, get_or, eqb}
use Rattle.std.proofs.Common.{ap, sym, ◌∙◌, arith}
use lib.Pointwise.{pointwise}
use Rattle.laws.specs.Checks.{all}
use Rattle.names.specs.Names.{key}
use Rattle.names.specs.declared.Key.{Key}
use Rattle.images.specs.Net.{datum0}
use Rattle.images.specs.declared.Datum.{Datum}
use Rattle.agreement.specs.Agreement.{same_data, same_refs}

module _ {A : Type 0} (same : A → A → Bool) (d : A) where
  each_index : (xs ys : List A) → length xs ≡ length ys → pointwise same xs ys ≡ all (length xs) (λ j. same (get_or xs j d) (get_or ys j d))
  unfolding all
  each_index [] [] e = refl
  each_index [] (y ∷ ys) e = absurd (omega arith)
  each_index (x ∷ xs) [] e = absurd (omega arith)
  each_index (x ∷ xs) (y ∷ ys) e = ap (λ (b : Bool). same x y && b) (each_index xs ys (omega arith))

  alike : (k : ℕ) (xs ys : List A) → length xs ≡ k → length ys ≡ k → pointwise same xs ys ≡ all k (λ j. same (get_or xs j d) (get_or ys j d))
  alike k xs ys e f = each_index xs ys (e ∙ sym f) ∙ ap (λ (n : ℕ). all n (λ j. same (get_or xs j d) (get_or ys j d))) e

pub data_alike : (a b : List Datum) → length a ≡ 8 → length b ≡ 8 → pointwise (λ d e. eqb d.tag e.tag && eqb d.number e.number) a b ≡ same_data a b
unfolding same_data
data_alike a b e f = alike _ datum0 8 a b e f

pub refs_alike : (a b : List Key) → length a ≡ 4 → length b ≡ 4 → pointwise (λ k l. eqb k.0 l.0) a b ≡ same_refs a b
unfolding same_refs
refs_alike a b e f = alike _ (key 0) 4 a b e f
