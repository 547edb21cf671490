-- The dependents of an event of a net that is written out, given as a list: the list is checked, and not computed by 64 rounds.
-- Assumes nothing.
use Rattle.std.specs.Prelude.{ℕ, ◌<◌, ◌≤◌, ◌≡◌, refl, List, [], ◌∷◌, Bool, true, false, eqb, length, get_or}
use Rattle.std.proofs.Common.{ap, sym, subst, arith, eqb-true}
use Rattle.std.proofs.Math.Logic.{by_cases}
use Rattle.std.proofs.Math.Decide.{dec_lt}
use Rattle.std.proofs.Math.ListN.{get_or-eq_default}
use Rattle.laws.specs.Choice.{clash, and_left, and_right, or_cases, ◌⇒◌, told}
use Rattle.laws.specs.Checks.{all, all_at}
use Rattle.order.specs.KeySets.{Set, members}
use Rattle.order.specs.Graphs.{Reach, Over}
use Rattle.order.proofs.Dependents as D
use Rattle.nets.specs.Net.{Slot, Net, free_slot, is_past, events, made_key, read_tuple, makes, reads, depends, dependents}
use Rattle.cases.specs.Script.{T}

-- it holds of each key of the list
abbrev pub Each : (ℕ → Type 0) → List ℕ → Type 0
Each P [] = Unit
Each P (x ∷ xs) = P x × Each P xs

module _ (present : Set) (slots : List (Slot T)) (few : length slots ≤ 64) where
  abbrev n : Net T
  n = record { present = present; slot = λ i. get_or slots i free_slot }

  past_below : (e : ℕ) → events n e ≡ true → e < 64
  past_below e h =
      by_cases (dec_lt e (length slots)) (λ l. omega arith)
      (λ l. clash (is_past (get_or slots e free_slot).kind) h (ap (λ (s : Slot T). is_past s.kind) (get_or-eq_default slots free_slot {n = e} (omega arith))))

  maker_below : (e m : ℕ) → makes n e m ≡ true → e < 64
  unfolding made_key
  maker_below e m h = past_below e (and_left (events n e) _ h)

  reader_below : (e m : ℕ) → reads n e m ≡ true → e < 64
  unfolding read_tuple
  reader_below e m h = past_below e (and_left (events n e) _ h)

  over : Over 64 (depends n)
  unfolding depends
  over e f h =
      let u = (n.slot f).used in
      let rest = and_right (events n f) _ h in (
        or_cases (makes n e f) _ rest (maker_below e f)
            (λ q. or_cases (makes n e u) _ q (maker_below e u) (λ r. reader_below e u (and_left (reads n e u) _ r))),
        past_below f (and_left (events n f) _ h),
      )

  each_at : (P : ℕ → Type 0) (xs : List ℕ) → Each P xs → (x : ℕ) → members xs x ≡ true → P x
  each_at P [] ps x h = clash false h refl
  each_at P (y ∷ ys) ps x h =
      or_cases (eqb x y) (members ys x) h (λ e. subst P (sym (eqb-true x y e)) ps.0) (λ q. each_at P ys ps.1 x q)

  -- what depends directly on a key of the list is in the list
  abbrev pub kept : List ℕ → ℕ → Bool
  kept xs e = all 64 (λ f. depends n e f ⇒ members xs f)

  pub dependents_are : (e : ℕ) (xs : List ℕ) → members xs e ≡ true → Each (λ x. kept xs x ≡ true) xs → Each (Reach (depends n) e) xs → members xs ≡ dependents n e
  dependents_are e xs first closed reached =
      D.dependents_is 64 (depends n) over e (members xs) first
      (λ x f d m. told (depends n x f) (members xs f) (all_at 64 (λ f. depends n x f ⇒ members xs f) (each_at (λ x. kept xs x ≡ true) xs closed x m) f (over x f d).1) d)
      (each_at (Reach (depends n) e) xs reached)
