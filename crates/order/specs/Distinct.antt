-- Rows of keys that share no member: what each of some events says, said by no other.
--
-- In order: what the first n rows hold together (`gathered`); that no two of them share a member below K (`distinct`), one row more
-- (`distinct_next`, `gathered_next`), what it means (`distinct_iff`), and rows with the same members (`distinct_ext`); what a row of no
-- member, one, or two has in common with a set (`row_none`, `row_one`, `row_two`).
-- Assumes nothing.
use Rattle.std.specs.Prelude.{◌≡◌, refl, ◌↔◌, ◌⊎◌, Bool, true, false, not, ◌&&◌, ◌||◌, ℕ, zero, suc, ◌+◌, ◌<◌, eqb}
use Rattle.std.proofs.Common.{sym, ap, ◌∙◌, inl, inr, not-suc-le-zero, add-one, arith, eqb-true}
use Rattle.std.proofs.lemmas.Bool.{eqb-false, not-true}
use Rattle.laws.specs.Choice.{cases, clash, and_left, and_right, and_both, fails, agree}
use Rattle.order.specs.KeySets.{Set, only, ◌∩◌, ◌∪◌, any, any_next, any_of, any_some, any_not, any_ext, any_only, any_more}

-- what the rows 0, .., n - 1 hold
abbrev pub gathered : ℕ → (ℕ → Set) → Set
gathered n Q k = any n (λ e. Q e k)

-- each row shares no member below K with those before it
unfoldable pub distinct : ℕ → ℕ → (ℕ → Set) → Bool
distinct K zero Q = true
distinct K (suc e) Q = distinct K e Q && not (any K (Q e ∩ gathered e Q))

pub distinct_next : (K e : ℕ) (Q : ℕ → Set) → distinct K (e + 1) Q ≡ (distinct K e Q && not (any K (Q e ∩ gathered e Q)))
unfolding distinct
distinct_next K e Q = rw (add-one e)

pub gathered_next : (e : ℕ) (Q : ℕ → Set) (k : ℕ) → gathered (e + 1) Q k ≡ (Q e k || gathered e Q k)
gathered_next e Q k = any_next e (λ e. Q e k)

-- whoever says the same is the same
abbrev pub Apart : ℕ → ℕ → (ℕ → Set) → Type 0
Apart K n Q = (e f k : ℕ) → e < n → f < n → k < K → Q e k ≡ true → Q f k ≡ true → e ≡ f

pub distinct_apart : (K n : ℕ) (Q : ℕ → Set) → distinct K n Q ≡ true → Apart K n Q
unfolding distinct
distinct_apart K zero Q h e f k l m b p q = absurd (not-suc-le-zero l)
distinct_apart K (suc n) Q h e f k l m b p q =
    by_last (λ le lf. distinct_apart K n Q (and_left (distinct K n Q) _ h) e f k le lf b p q) (last? e) (last? f)
  where
    last? : (x : ℕ) → (x ≡ n) ⊎ (x ≡ n → ⊥)
    last? x = cases (eqb x n) (λ t. inl (eqb-true x n t)) (λ t. inr (eqb-false x n t))

    -- one that is not the last says nothing that the last says
    not_shared : (x y : ℕ) → y < suc n → x ≡ n → (y ≡ n → ⊥) → Q x k ≡ true → Q y k ≡ true → ⊥
    not_shared x y below z ne s t =
        let before : gathered n Q k ≡ true = any_of n (λ e. Q e k) y (omega (arith, ne)) t in
        clash (any K (Q n ∩ gathered n Q))
        (any_of K (Q n ∩ gathered n Q) k b (and_both (Q n k) _ (ap (λ (j : ℕ). Q j k) (sym z) ∙ s) before))
        (not-true (any K (Q n ∩ gathered n Q)) (and_right (distinct K n Q) _ h))

    by_last : (e < n → f < n → e ≡ f) → (e ≡ n) ⊎ (e ≡ n → ⊥) → (f ≡ n) ⊎ (f ≡ n → ⊥) → e ≡ f
    by_last before (inl z) (inl w) = z ∙ sym w
    by_last before (inl z) (inr w) = absurd (not_shared e f m z w p q)
    by_last before (inr z) (inl w) = absurd (not_shared f e l w z q p)
    by_last before (inr z) (inr w) = before (omega (arith, z)) (omega (arith, w))

pub apart_distinct : (K n : ℕ) (Q : ℕ → Set) → Apart K n Q → distinct K n Q ≡ true
unfolding distinct
apart_distinct K zero Q h = refl
apart_distinct K (suc n) Q h =
    and_both (distinct K n Q) _ (apart_distinct K n Q (λ e f k l m. h e f k (omega arith) (omega arith)))
    (rw (any_not K (Q n ∩ gathered n Q) (λ k b. fails ((Q n ∩ gathered n Q) k) (shared k b))))
  where
    shared : (k : ℕ) → k < K → (Q n k && gathered n Q k) ≡ true → ⊥
    shared k b t =
        let (e, l, m) = any_some n (λ e. Q e k) (and_right (Q n k) _ t) in
        omega (arith, h e n k (omega arith) (omega arith) b m (and_left (Q n k) _ t))

pub distinct_iff : (K n : ℕ) (Q : ℕ → Set) → (distinct K n Q ≡ true) ↔ Apart K n Q
distinct_iff K n Q = (distinct_apart K n Q, apart_distinct K n Q)

-- rows with the same members below K
pub distinct_ext : (K n : ℕ) (Q P : ℕ → Set) → ((e k : ℕ) → e < n → k < K → Q e k ≡ P e k) → distinct K n Q ≡ distinct K n P
distinct_ext K n Q P h =
    agree (distinct K n Q) (distinct K n P)
    (λ t. apart_distinct K n P (λ e f k l m b p q. distinct_apart K n Q t e f k l m b (h e k l b ∙ p) (h f k m b ∙ q)))
    (λ t. apart_distinct K n Q (λ e f k l m b p q. distinct_apart K n P t e f k l m b (sym (h e k l b) ∙ p) (sym (h f k m b) ∙ q)))

-- ---- a row and a set

module _ (K : ℕ) (row S : Set) where
  pub row_none : ((k : ℕ) → k < K → row k ≡ false) → any K (row ∩ S) ≡ false
  row_none h = any_not K (row ∩ S) (λ k l. ap (λ (b : Bool). b && S k) (h k l))

  pub row_one : (a : ℕ) → a < K → ((k : ℕ) → k < K → row k ≡ eqb k a) → any K (row ∩ S) ≡ S a
  row_one a l h = any_ext K (row ∩ S) (only a ∩ S) (λ k b. ap (λ (r : Bool). r && S k) (h k b)) ∙ any_only K S a l

  pub row_two : (a b : ℕ) → a < K → b < K → ((k : ℕ) → k < K → row k ≡ (eqb k a || eqb k b)) → any K (row ∩ S) ≡ (S a || S b)
  row_two a b l m h =
      any_ext K (row ∩ S) ((only a ∪ only b) ∩ S) (λ k q. ap (λ (r : Bool). r && S k) (h k q)) ∙
      any_more K S (only b) a l ∙ ap (λ (r : Bool). S a || r) (any_only K S b m)
