-- There is no cycle exactly when peeling leaves nothing.
--
-- In order: `last` tests `Last` (`last_iff`); `peel` keeps the other members (`peel_iff`); `acyclic` tests `Acyclic` where the edges are among S
-- (`acyclic_iff`).
-- Not here: last members taken away one at a time (`Taking`); where such a loop ends with nothing left, `emptied` says that there is no
-- cycle, and where it sticks with a member left, `last_from` (`Graphs`) says that there is one.
-- Assumes nothing.
use Rattle.std.specs.Prelude.{◌≡◌, ◌↔◌}
use Rattle.std.proofs.Math.Bool.{true, not}
use Prim.Native.Nat.{ℕ, zero, suc, ◌-◌, ◌≤◌, ◌<◌}
use Rattle.std.proofs.Common.{arith}
use Rattle.std.proofs.lemmas.Bool.{not-true}
use Rattle.laws.specs.Choice.{clash, and_left, and_right, and_both, fails}
use Rattle.order.specs.KeySets.{Set, ◌∈◌, ◌∉◌, ◌⊆◌, ◌∩◌, in_minus, minus_in, minus_out}
use Rattle.order.specs.KeySets.{any, any_of, any_not, search, count, count_le, count_some, count_none, count_subset, count_strict}
use Rattle.order.specs.Graphs.{Graph, Reach, Acyclic, Over, Among, among_over, Founded, founded_reach, Last, last_from}
use Rattle.order.specs.Dependents.{rounds}
use Rattle.order.specs.Peeling.{last, peel, acyclic}

module _ (n : ℕ) (d : Graph) (over : Over n d) where
  pub last_iff : (S : Set) (x : ℕ) → (last n d S x ≡ true) ↔ Last d S x
  unfolding last
  last_iff S x = (
    λ h. record { member = and_left (S x) _ h; none = none (and_right (S x) _ h) },
    λ l. and_both (S x) _ l.member (rw (any_not n (d x ∩ S) (λ f k. outside l f))),
  )
    where
      none : not (any n (d x ∩ S)) ≡ true → (f : ℕ) → d x f ≡ true → f ∉ S
      none h f s =
          fails (S f)
          (λ m. clash (any n (d x ∩ S)) (any_of n (d x ∩ S) f (over x f s).1 (and_both (d x f) (S f) s m)) (not-true (any n (d x ∩ S)) h))

      outside : Last d S x → (f : ℕ) → f ∉ d x ∩ S
      outside l f = fails ((d x ∩ S) f) (λ m. clash (S f) (and_right (d x f) (S f) m) (l.none f (and_left (d x f) (S f) m)))

  pub peel_iff : (S : Set) (x : ℕ) → (x ∈ peel n d S) ↔ ((x ∈ S) × (Last d S x → ⊥))
  unfolding peel
  peel_iff S x = (
    λ m. (minus_in S (last n d S) x m, λ l. clash (last n d S x) ((last_iff S x).1 l) (minus_out S (last n d S) x m)),
    λ p. in_minus S (last n d S) x p.0 (fails (last n d S x) (λ l. p.1 ((last_iff S x).0 l))),
  )

  peel_in : (S : Set) → peel n d S ⊆ S
  peel_in S x m = ((peel_iff S x).0 m).0

  -- a member on which a member depends stays
  peel_keeps : (S : Set) (e f : ℕ) → d e f ≡ true → e ∈ S → f ∈ S → e ∈ peel n d S
  peel_keeps S e f s m p = (peel_iff S e).1 (m, λ l. clash (S f) p (l.none f s))

module _ (n : ℕ) (d : Graph) (S : Set) (among : Among n d S) where
  over : Over n d
  over = among_over among

  left : ℕ → Set
  left k = rounds k (peel n d) S

  left_in : (k : ℕ) → left k ⊆ S
  unfolding left rounds
  left_in zero x m = m
  left_in (suc k) x m = left_in k x (peel_in n d over (left k) x m)

  -- ---- a cycle is never peeled

  left_founded : (k : ℕ) → Founded d (left k)
  unfolding left rounds
  left_founded zero e f s m = among.source e f s
  left_founded (suc k) e f s m =
      let before : f ∈ left k = peel_in n d over (left k) f m in
      peel_keeps n d over (left k) e f s (left_founded k e f s before) before

  cycle_left : (k e f : ℕ) → d e f ≡ true → Reach d f e → e ∈ left k
  unfolding left rounds
  cycle_left zero e f s r = among.source e f s
  cycle_left (suc k) e f s r =
      let before : e ∈ left k = cycle_left k e f s r in
      peel_keeps n d over (left k) e f s before (founded_reach (left k) (left_founded k) r before)

  -- ---- without a cycle each round takes somebody

  smaller : Acyclic d → (T : Set) → T ⊆ S → (x : ℕ) → x ∈ T → count n (peel n d T) < count n T
  smaller ac T inside x h =
      let (m, l, r) = last_from n d over ac T x h in
      count_strict n (peel n d T) T (λ y k. peel_in n d over T y) m (among.below m (inside m l.member))
      (fails (peel n d T m) (λ p. ((peel_iff n d over T m).0 p).1 l)) l.member

  fewer : Acyclic d → (k : ℕ) → count n (left k) ≤ n - k
  unfolding left rounds
  fewer ac zero = omega (arith, count_le n S)
  fewer ac (suc k) =
      search n (left k) (λ x l h. omega (arith, fewer ac k, smaller ac (left k) (left_in k) x h))
      (λ none. omega (arith, count_subset n (peel n d (left k)) (left k) (λ x l. peel_in n d over (left k) x), count_none n (left k) none))

  pub acyclic_iff : (acyclic n d S ≡ true) ↔ Acyclic d
  unfolding acyclic left
  acyclic_iff = (
    λ h e f s r. clash (any n (left n)) (any_of n (left n) e (over e f s).0 (cycle_left n e f s r)) (not-true (any n (left n)) h),
    λ ac. rw (any_not n (left n) (λ x l. fails (left n x) (λ m. omega (arith, fewer ac n, count_some n (left n) x l m)))),
  )
