-- The dependents of one key are what it reaches.
--
-- In order: `dependents_iff`, `dependents_self`, `dependents_closed`, `dependents_is`; dependents of a dependent (`dependents_of_lem`); dependents
-- stay in a closed set (`dependents_inside`).
-- Assumes nothing.
use Rattle.std.specs.Prelude.{◌≡◌, ◌↔◌}
use Prim.Native.Nat.{ℕ}
use Rattle.std.proofs.Common.{eqb-true}
use Rattle.order.specs.KeySets.{Set, ◌∈◌, ◌⊆◌, only, only_self, same_set}
use Rattle.order.specs.Graphs.{Graph, Reach, here, reach_trans, reach_more, Over, Closed, closed_reach}
use Rattle.order.specs.Dependents.{dependents, closure_iff}

module _ (n : ℕ) (d : Graph) (over : Over n d) where
  pub dependents_iff : (e f : ℕ) → (f ∈ dependents n d e) ↔ Reach d e f
  unfolding dependents
  dependents_iff e f = (
    λ m. let (a, p, r) = (closure_iff n d over (only e) f).0 m in rw (eqb-true a e p) at r,
    λ r. (closure_iff n d over (only e) f).1 (e, only_self e, r),
  )

  pub dependents_self : (e : ℕ) → e ∈ dependents n d e
  dependents_self e = (dependents_iff e e).1 here

  pub dependents_closed : (e : ℕ) → Closed d (dependents n d e)
  dependents_closed e f g s m = (dependents_iff e g).1 (reach_more ((dependents_iff e f).0 m) s)

  pub dependents_is : (e : ℕ) (T : Set) → e ∈ T → Closed d T → ((f : ℕ) → f ∈ T → Reach d e f) → T ≡ dependents n d e
  dependents_is e T first closed reached =
      same_set T (dependents n d e) (λ f m. (dependents_iff e f).1 (reached f m))
      (λ f m. closed_reach T closed ((dependents_iff e f).0 m) first)

  -- a dependent's dependents are dependents
  pub dependents_of_lem : (e f : ℕ) → f ∈ dependents n d e → dependents n d f ⊆ dependents n d e
  dependents_of_lem e f m g h = (dependents_iff e g).1 (reach_trans ((dependents_iff e f).0 m) ((dependents_iff f g).0 h))

  -- a closed set that has a key has its dependents
  pub dependents_inside : (S : Set) → Closed d S → (e : ℕ) → e ∈ S → dependents n d e ⊆ S
  dependents_inside S c e m f h = closed_reach S c ((dependents_iff e f).0 h) m
