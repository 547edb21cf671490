-- Dependence as a graph on keys: `d e f` says that f depends directly on e.
--
-- In order: `Reach`, put together (`reach_trans`, `reach_more`); `Acyclic`, kept with `Fewer` edges (`acyclic_fewer`) and with one more key on
-- which nothing depends (`acyclic_more`); where the edges are (`Over`, `Among`); sets that hold what depends on their members (`Closed`) or what
-- their members depend on (`Founded`), and what these reach; induction both ways (`induction`, `induction_back`); `Last` members, that every
-- member reaches one (`last_from`), and that a last one reaches itself alone (`last_reach`).
--
-- Not here: what a key reaches, computed (`Dependents`); whether a member is last, and whether there is a cycle, computed (`Peeling`).
-- Assumes nothing.
use Rattle.std.specs.Prelude.{◌≡◌, refl, Bool, true, ℕ, zero, suc, ◌<◌, eqb}
use Rattle.std.proofs.Common.{true≢false, arith, eqb-true}
use Rattle.laws.specs.Choice.{cases, clash, and_left, and_right, and_both, fails}
use Rattle.order.specs.KeySets.{Set, ◌∈◌, ◌∉◌, only, ◌∩◌, ◌∖◌, in_minus, Below, search, count, count_le, count_minus}

abbrev pub Graph : Type 0
Graph = ℕ → ℕ → Bool

-- f is reached from e in any number of direct steps, none included
pub data Reach (d : Graph) : ℕ → ℕ → Type 0 where
  here : {e : ℕ} → Reach d e e
  step : {e f g : ℕ} → d e f ≡ true → Reach d f g → Reach d e g

pub reach_trans : {d : Graph} {e f g : ℕ} → Reach d e f → Reach d f g → Reach d e g
reach_trans here q = q
reach_trans (step s r) q = step s (reach_trans r q)

pub reach_more : {d : Graph} {e f g : ℕ} → Reach d e f → d f g ≡ true → Reach d e g
reach_more r s = reach_trans r (step s here)

-- ---- no cycle

-- nothing reaches itself in one or more direct steps
abbrev pub Acyclic : Graph → Type 0
Acyclic d = (e f : ℕ) → d e f ≡ true → Reach d f e → ⊥

-- every edge of the first is one of the second
abbrev pub Fewer : Graph → Graph → Type 0
Fewer c d = (e f : ℕ) → c e f ≡ true → d e f ≡ true

pub reach_fewer : {c d : Graph} → Fewer c d → {e f : ℕ} → Reach c e f → Reach d e f
reach_fewer h here = here
reach_fewer h (step {e = e} {f = f} s r) = step (h e f s) (reach_fewer h r)

-- fewer edges make no cycle
pub acyclic_fewer : {c d : Graph} → Fewer c d → Acyclic d → Acyclic c
acyclic_fewer h ac e f s r = ac e f (h e f s) (reach_fewer h r)

-- nor does one more key, if nothing depends on it
pub acyclic_more : {c d : Graph} (x : ℕ) → ((f : ℕ) → c x f ≡ true → ⊥) → ((e f : ℕ) → c e f ≡ true → (e ≡ x → ⊥) → (f ≡ x → ⊥) → d e f ≡ true) → Acyclic d → Acyclic c
acyclic_more {c} {d} x none old ac e f s r = ac e f (old e f s (source s) (avoids r (source s))) (within r (source s))
  where
    source : {a b : ℕ} → c a b ≡ true → a ≡ x → ⊥
    source {a} {b} t q = none b (rw (← q) t)

    avoids : {a b : ℕ} → Reach c a b → (b ≡ x → ⊥) → a ≡ x → ⊥
    avoids here q = q
    avoids (step t r) q = source t

    within : {a b : ℕ} → Reach c a b → (b ≡ x → ⊥) → Reach d a b
    within here q = here
    within (step {e = a} {f = b} t r) q = step (old a b t (source t) (avoids r q)) (within r q)

-- ---- where the edges are

-- every edge joins two keys below n
abbrev pub Over : ℕ → Graph → Type 0
Over n d = (e f : ℕ) → d e f ≡ true → (e < n) × (f < n)

-- every edge joins two members of S, which are all below n
pub record Among (n : ℕ) (d : Graph) (S : Set) : Type 0 where
  pub below : Below n S
  pub source : (e f : ℕ) → d e f ≡ true → e ∈ S
  pub target : (e f : ℕ) → d e f ≡ true → f ∈ S

pub among_over : {n : ℕ} {d : Graph} {S : Set} → Among n d S → Over n d
among_over w e f s = (w.below e (w.source e f s), w.below f (w.target e f s))

-- what depends directly on a member is a member
abbrev pub Closed : Graph → Set → Type 0
Closed d S = (e f : ℕ) → d e f ≡ true → e ∈ S → f ∈ S

-- what a member depends on directly is a member
abbrev pub Founded : Graph → Set → Type 0
Founded d S = (e f : ℕ) → d e f ≡ true → f ∈ S → e ∈ S

pub among_closed : {n : ℕ} {d : Graph} {S : Set} → Among n d S → Closed d S
among_closed w e f s m = w.target e f s

pub among_founded : {n : ℕ} {d : Graph} {S : Set} → Among n d S → Founded d S
among_founded w e f s m = w.source e f s

pub closed_reach : {d : Graph} (S : Set) → Closed d S → {e f : ℕ} → Reach d e f → e ∈ S → f ∈ S
closed_reach S c here m = m
closed_reach S c (step {e = e} {f = f} s r) m = closed_reach S c r (c e f s m)

pub founded_reach : {d : Graph} (S : Set) → Founded d S → {e f : ℕ} → Reach d e f → f ∈ S → e ∈ S
founded_reach S h here m = m
founded_reach S h (step {e = e} {f = f} s r) m = h e f s (founded_reach S h r m)

-- ---- induction

-- what holds of f once it holds of all that f depends on directly holds of every key
module _ {ℓ} (n : ℕ) (d : Graph) (over : Over n d) (ac : Acyclic d) (P : ℕ → Type ℓ) (each : (f : ℕ) → ((e : ℕ) → d e f ≡ true → P e) → P f) where
  -- R is what may still be met on the way down from f: all else is reached from f
  down : (k : ℕ) (R : Set) (f : ℕ) → count n R < k → ((e : ℕ) → e ∉ R → Reach d f e) → P f
  down zero R f c met = absurd (omega arith)
  down (suc k) R f c met =
      each f
      (λ e s.
      cases (R e)
      (λ m.
      down k (R ∖ only e) e (omega (arith, count_minus n R e (over e f s).0 m))
      (λ y out.
      cases (eqb y e) (λ p. rw (eqb-true y e p) here)
      (λ p. step s (met y (fails (R y) (λ q. clash ((R ∖ only e) y) (in_minus R (only e) y q p) out))))))
      (λ out. absurd (ac e f s (met e out))))

  pub induction : (f : ℕ) → P f
  induction f = down (suc n) (λ y. true) f (omega (arith, count_le n (λ y. true))) (λ e out. absurd (true≢false out))

abbrev turned : Graph → Graph
turned d e f = d f e

reach_turned : {d : Graph} {e f : ℕ} → Reach (turned d) e f → Reach d f e
reach_turned here = here
reach_turned (step s r) = reach_more (reach_turned r) s

-- what holds of e once it holds of all that depends directly on e holds of every key
pub induction_back {ℓ} : (n : ℕ) (d : Graph) → Over n d → Acyclic d → (P : ℕ → Type ℓ) → ((e : ℕ) → ((f : ℕ) → d e f ≡ true → P f) → P e) → (e : ℕ) → P e
induction_back n d over ac P each =
    induction n (turned d) (λ e f s. ((over f e s).1, (over f e s).0)) (λ e f s r. ac f e s (reach_turned r)) P each

-- ---- last members

-- m is a member, and no member depends on it directly
pub record Last (d : Graph) (S : Set) (m : ℕ) : Type 0 where
  pub member : m ∈ S
  pub none : (f : ℕ) → d m f ≡ true → f ∉ S

-- without a cycle every member reaches a last one
pub last_from : (n : ℕ) (d : Graph) → Over n d → Acyclic d → (S : Set) (x : ℕ) → x ∈ S → (m : ℕ) × Last d S m × Reach d x m
last_from n d over ac S =
    induction_back n d over ac (λ x. x ∈ S → (m : ℕ) × Last d S m × Reach d x m)
    (λ x onward in-S.
    search n (d x ∩ S)
    (λ f l h.
    let s : d x f ≡ true = and_left (d x f) (S f) h in
    let (m, last, r) = onward f s (and_right (d x f) (S f) h) in
    (m, last, step s r))
    (λ none.
    let no : (f : ℕ) → d x f ≡ true → f ∉ S =
    λ f s. fails (S f) (λ q. clash ((d x ∩ S) f) (and_both (d x f) (S f) s q) (none f (over x f s).1)) in
    (x, record { member = in-S; none = no }, here)))

-- a last one of what all edges are among reaches itself alone
pub last_reach : {n : ℕ} {d : Graph} {S : Set} {x f : ℕ} → Among n d S → Last d S x → Reach d x f → x ≡ f
last_reach w l here = refl
last_reach {S = S} {x = x} w l (step {f = f} s r) = clash (S f) (w.target x f s) (l.none f s)
