-- What a set of keys reaches, computed: n rounds, each of which adds what depends directly on a member.
--
-- In order: `rounds`, `grow`, `closure`, `dependents`, and the statement `Reached`; n rounds are enough (`closure_closed`); the closure holds
-- the set (`closure_in`) and exactly what it reaches (`closure_iff`), and however it is found, it is this set (`closure_is`). The same of the
-- dependents of one key is in proofs/Dependents.
-- Assumes nothing.
use Rattle.std.specs.Prelude.{◌≡◌, ◌↔◌, true, ◌&&◌, ◌||◌}
use Prim.Native.Nat.{ℕ, zero, suc, ◌≤◌, ◌<◌, zero-le}
use Rattle.std.proofs.Common.{arith}
use Rattle.laws.specs.Choice.{cases, clash, and_left, and_right, and_both, or_left, or_right, or_cases}
use Rattle.order.specs.KeySets.{Set, ◌∈◌, ◌⊆◌, only, ◌∖◌, in_minus, minus_in, minus_out, same_set}
use Rattle.order.specs.KeySets.{any, any_of, any_some, search, count, count_le, count_strict}
use Rattle.order.specs.Graphs.{Graph, Reach, here, reach_more, Over, Closed, closed_reach}

-- k rounds of F, from S on
unfoldable pub rounds : ℕ → (Set → Set) → Set → Set
rounds zero F S = S
rounds (suc k) F S = F (rounds k F S)

-- S and what depends directly on a member of S
unfoldable pub grow : ℕ → Graph → Set → Set
grow n d S f = S f || any n (λ e. S e && d e f)

-- S and all that its members reach
unfoldable pub closure : ℕ → Graph → Set → Set
closure n d S = rounds n (grow n d) S

-- Document 01: "Dependents of e: all reached in any number of direct steps, e included."
unfoldable pub dependents : ℕ → Graph → ℕ → Set
dependents n d e = closure n d (only e)

-- f is reached from a member of S
abbrev pub Reached : Graph → Set → ℕ → Type 0
Reached d S f = (e : ℕ) × (e ∈ S) × Reach d e f

module _ (n : ℕ) (d : Graph) (over : Over n d) where
  -- ---- one round

  keeps : (S : Set) → S ⊆ grow n d S
  unfolding grow
  keeps S f m = or_left (S f) (any n (λ e. S e && d e f)) m

  adds : (S : Set) (e f : ℕ) → d e f ≡ true → e ∈ S → f ∈ grow n d S
  unfolding grow
  adds S e f s m =
      or_right (S f) (any n (λ e. S e && d e f)) (any_of n (λ e. S e && d e f) e (over e f s).0 (and_both (S e) (d e f) m s))

  -- who is there after a round was there before, or depends directly on one who was
  added {ℓ} : {A : Type ℓ} (S : Set) (f : ℕ) → f ∈ grow n d S → (f ∈ S → A) → ((e : ℕ) → e ∈ S → d e f ≡ true → A) → A
  unfolding grow
  added S f h old new =
      or_cases (S f) (any n (λ e. S e && d e f)) h old
      (λ p.
      let (e, l, m) = any_some n (λ e. S e && d e f) p in
      new e (and_left (S e) (d e f) m) (and_right (S e) (d e f) m))

  -- a set is closed, or a round makes it larger
  closed_or {ℓ} : {A : Type ℓ} (S : Set) → (Closed d S → A) → (count n S < count n (grow n d S) → A) → A
  closed_or S closed larger =
      search n (grow n d S ∖ S)
      (λ f l h. larger (count_strict n S (grow n d S) (λ x k. keeps S x) f l (minus_out (grow n d S) S f h) (minus_in (grow n d S) S f h)))
      (λ none.
      closed
      (λ e f s m.
      cases (S f) (λ p. p)
      (λ p. clash ((grow n d S ∖ S) f) (in_minus (grow n d S) S f (adds S e f s m) p) (none f (over e f s).1))))

  grow_closed : (S : Set) → Closed d S → Closed d (grow n d S)
  grow_closed S c e f s h = keeps S f (added S e h (c e f s) (λ a m t. c e f s (c a e t m)))

  -- ---- all rounds

  first_in : (k : ℕ) (S : Set) → S ⊆ rounds k (grow n d) S
  unfolding rounds
  first_in zero S f m = m
  first_in (suc k) S f m = keeps (rounds k (grow n d) S) f (first_in k S f m)

  only_reached : (k : ℕ) (S : Set) (f : ℕ) → f ∈ rounds k (grow n d) S → Reached d S f
  unfolding rounds
  only_reached zero S f m = (f, m, here)
  only_reached (suc k) S f m =
      added (rounds k (grow n d) S) f m (only_reached k S f)
      (λ e m' s. let (a, ma, r) = only_reached k S e m' in (a, ma, reach_more r s))

  -- k rounds close the set, or find k keys
  after {ℓ} : {A : Type ℓ} (k : ℕ) (S : Set) → (Closed d (rounds k (grow n d) S) → A) → (k ≤ count n (rounds k (grow n d) S) → A) → A
  unfolding rounds
  after zero S closed many = many zero-le
  after (suc k) S closed many =
      let T = rounds k (grow n d) S in
      after k S (λ c. closed (grow_closed T c)) (λ h. closed_or T (λ c. closed (grow_closed T c)) (λ l. many (omega arith)))

  pub closure_closed : (S : Set) → Closed d (closure n d S)
  unfolding closure
  closure_closed S =
      let T = rounds n (grow n d) S in
      after n S (λ c. c) (λ h. closed_or T (λ c. c) (λ l. absurd (omega (arith, count_le n (grow n d T)))))

  -- ---- the closure is what is reached

  pub closure_in : (S : Set) → S ⊆ closure n d S
  unfolding closure
  closure_in S = first_in n S

  pub closure_iff : (S : Set) (f : ℕ) → (f ∈ closure n d S) ↔ Reached d S f
  unfolding closure
  closure_iff S f = (only_reached n S f, λ q. closed_reach (closure n d S) (closure_closed S) q.2 (closure_in S q.0 q.1))

  -- a closed set that holds S, and nothing but what S reaches, is the closure: what a loop that marks keys one by one ends with
  pub closure_is : (S T : Set) → S ⊆ T → Closed d T → ((f : ℕ) → f ∈ T → Reached d S f) → T ≡ closure n d S
  closure_is S T first closed reached =
      same_set T (closure n d S) (λ f m. (closure_iff S f).1 (reached f m))
      (λ f m. let (e, me, r) = (closure_iff S f).0 m in closed_reach T closed r (first e me))
