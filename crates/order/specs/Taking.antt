-- Members taken away one at a time, each a last one of what is left then. Whoever chooses, and in whatever order: a closed set can be taken
-- whole, never sticks on the way, and takes as many turns as it has members.
--
-- In order: `Taken`, put together (`taken_trans`), and `TakenAll` of a set D; what is left (`taken_left`), that what was taken was there
-- (`taken_in`), each once (`taken_length`); graphs with fewer edges (`FewerIn`, `last_fewer`, `taken_fewer`); while some of D is left, some of D
-- can be taken (`never_sticks`); what is taken in all is D (`all_taken`), in as many turns as D has members (`same_count`), each of which leaves
-- less of D (`count_taken`); it can be done (`take_all`); what is left holds what it depends on (`taken_founded`), so nobody is taken without
-- its dependents (`none_left_out`); a cycle is never taken, so where all is taken there is none (`emptied`).
-- Assumes nothing.
use Rattle.std.specs.Prelude.{◌≡◌, refl, true, List, [], ◌∷◌, ◌++◌, ℕ, zero, suc, ◌<◌, eqb, length}
use Rattle.std.proofs.Common.{sym, ap, ◌∙◌, arith, eqb-true, ne_eqb}
use Rattle.std.proofs.Math.Path.{fun_ext}
use Rattle.std.proofs.Math.Bool.{and-true, and-false}
use Rattle.std.proofs.lemmas.Bool.{false≢true}
use Rattle.laws.specs.Choice.{cases, clash, and_left, and_right, and_both, or_cases, fails}
use Rattle.order.specs.KeySets.{Set, ◌∈◌, ◌∉◌, ◌⊆◌, empty, only, only_self, ◌∩◌, ◌∖◌, members, same_set, None, Below}
use Rattle.order.specs.KeySets.{in_minus, minus_in, minus_out, minus_minus, search, count, count_le, count_none, count_more, count_strict}
use Rattle.order.specs.Graphs.{Graph, Reach, Acyclic, Over, Among, Closed, Founded, among_founded, founded_reach, Last, last_from}

-- the listed keys are taken from S in turn, and R is left
pub data Taken (d : Graph) : Set → List ℕ → Set → Type 0 where
  done : {S : Set} → Taken d S [] S
  next : {S R : Set} {x : ℕ} {ks : List ℕ} → Last d S x → Taken d (S ∖ only x) ks R → Taken d S (x ∷ ks) R

-- members of D alone, and all of them
pub record TakenAll (d : Graph) (S D : Set) (ks : List ℕ) (R : Set) : Type 0 where
  pub taken : Taken d S ks R
  pub inside : members ks ⊆ D
  pub none : (f : ℕ) → f ∈ D → f ∉ R

pub taken_trans : {d : Graph} {S R T : Set} {ks js : List ℕ} → Taken d S ks R → Taken d R js T → Taken d S (ks ++ js) T
taken_trans done q = q
taken_trans (next l t) q = next l (taken_trans t q)

-- ---- what is taken and what is left

pub taken_left : {d : Graph} {S R : Set} {ks : List ℕ} → Taken d S ks R → R ≡ S ∖ members ks
taken_left {S = S} done = fun_ext (λ y. sym (and-true (S y)))
taken_left {S = S} (next {x = x} {ks = ks} l t) = taken_left t ∙ minus_minus S (only x) (members ks)

pub taken_in : {d : Graph} {S R : Set} {ks : List ℕ} → Taken d S ks R → members ks ⊆ S
taken_in done y m = absurd (false≢true m)
taken_in {S = S} (next {x = x} {ks = ks} l t) y m =
    or_cases (eqb y x) (members ks y) m (λ p. rw (eqb-true y x p) l.member) (λ p. minus_in S (only x) y (taken_in t y p))

-- each is taken once
pub taken_length : (n : ℕ) {d : Graph} {S R : Set} {ks : List ℕ} → Below n S → Taken d S ks R → length ks ≡ count n (members ks)
taken_length n below done = sym (count_none n empty (λ x l. refl))
taken_length n {S = S} below (next {x = x} {ks = ks} l t) =
    ap suc (taken_length n (λ y m. below y (minus_in S (only x) y m)) t) ∙
    sym
    (count_more n (members ks) x (below x l.member)
    (fails (members ks x) (λ m. clash (eqb x x) (only_self x) (minus_out S (only x) x (taken_in t x m)))))

-- every edge of c between members of S is one of d
abbrev pub FewerIn : Set → Graph → Graph → Type 0
FewerIn S c d = (e f : ℕ) → e ∈ S → f ∈ S → c e f ≡ true → d e f ≡ true

-- what is last, or may be taken, with more edges among what is there is so with fewer
pub last_fewer : {c d : Graph} {S : Set} {x : ℕ} → FewerIn S c d → Last d S x → Last c S x
last_fewer {S = S} {x = x} h l =
    record { member = l.member; none = λ f s. fails (S f) (λ m. clash (S f) m (l.none f (h x f l.member m s))) }

pub taken_fewer : {c d : Graph} {S R : Set} {ks : List ℕ} → FewerIn S c d → Taken d S ks R → Taken c S ks R
taken_fewer h done = done
taken_fewer {S = S} h (next {x = x} l t) =
    next (last_fewer h l) (taken_fewer (λ e f p q. h e f (minus_in S (only x) e p) (minus_in S (only x) f q)) t)

-- ---- a closed set, taken whole

-- while a member of D is left, a member of D can be taken
pub never_sticks : (n : ℕ) (d : Graph) → Over n d → Acyclic d → (D R : Set) → Closed d D → (x : ℕ) → x ∈ D → x ∈ R → (m : ℕ) × (m ∈ D) × Last d R m
never_sticks n d over ac D R closed x p q =
    let (m, l, r) = last_from n d over ac (D ∩ R) x (and_both (D x) (R x) p q) in
    let inside = and_left (D m) (R m) l.member in (
      m,
      inside,
      record {
        member = and_right (D m) (R m) l.member;
        none = λ f s. fails (R f) (λ h. clash ((D ∩ R) f) (and_both (D f) (R f) (closed m f s inside) h) (l.none f s));
      },
    )

pub all_taken : {d : Graph} {S D R : Set} {ks : List ℕ} → D ⊆ S → TakenAll d S D ks R → members ks ≡ D
all_taken {S = S} {D = D} {ks = ks} there t =
    same_set (members ks) D t.inside
    (λ f m.
    cases (members ks f) (λ p. p)
    (λ p. clash ((S ∖ members ks) f) (in_minus S (members ks) f (there f m) p) (rw (taken_left t.taken) at (t.none f m))))

pub same_count : (n : ℕ) {d : Graph} {S D R : Set} {ks : List ℕ} → Below n S → D ⊆ S → TakenAll d S D ks R → length ks ≡ count n D
same_count n below there t = taken_length n below t.taken ∙ ap (count n) (all_taken there t)

all_done : {n : ℕ} {d : Graph} {S D : Set} → Below n S → None n (D ∩ S) → TakenAll d S D [] S
all_done {S = S} {D = D} below none =
    record {
      taken = done;
      inside = λ y h. absurd (false≢true h);
      none = λ f m. fails (S f) (λ q. clash ((D ∩ S) f) (and_both (D f) (S f) m q) (none f (below f q)));
    }

all_next : {d : Graph} {S D R : Set} {x : ℕ} {ks : List ℕ} → x ∈ D → Last d S x → TakenAll d (S ∖ only x) D ks R → TakenAll d S D (x ∷ ks) R
all_next {x = x} {ks = ks} m l t =
    record {
      taken = next l t.taken;
      inside = λ y h. or_cases (eqb y x) (members ks y) h (λ p. rw (eqb-true y x p) m) (t.inside y);
      none = t.none;
    }

-- one of D taken away leaves less of D
pub count_taken : (n : ℕ) (D S : Set) (x : ℕ) → x < n → x ∈ D → x ∈ S → count n (D ∩ (S ∖ only x)) < count n (D ∩ S)
count_taken n D S x l m q =
    count_strict n (D ∩ (S ∖ only x)) (D ∩ S)
    (λ y k h. and_both (D y) (S y) (and_left (D y) ((S ∖ only x) y) h) (minus_in S (only x) y (and_right (D y) ((S ∖ only x) y) h)))
    x l (rw (only_self x, and-false (S x)) (and-false (D x))) (and_both (D x) (S x) m q)

module _ (n : ℕ) (d : Graph) (over : Over n d) (ac : Acyclic d) (D : Set) (closed : Closed d D) where
  take : (k : ℕ) (S : Set) → Below n S → count n (D ∩ S) < k → (ks : List ℕ) × (R : Set) × TakenAll d S D ks R
  take zero S below c = absurd (omega arith)
  take (suc k) S below c =
      search n (D ∩ S)
      (λ f l h.
      let (x, m, is_last) = never_sticks n d over ac D S closed f (and_left (D f) (S f) h) (and_right (D f) (S f) h) in
      let fewer = count_taken n D S x (below x is_last.member) m is_last.member in
      let (ks, R, t) = take k (S ∖ only x) (λ y q. below y (minus_in S (only x) y q)) (omega arith) in
      (x ∷ ks, R, all_next m is_last t))
      (λ none. ([], S, all_done below none))

  pub take_all : (S : Set) → Below n S → (ks : List ℕ) × (R : Set) × TakenAll d S D ks R
  take_all S below = take (suc n) S below (omega (arith, count_le n (D ∩ S)))

-- ---- nobody without its dependents

last_founded : {d : Graph} (S : Set) (x : ℕ) → Founded d S → Last d S x → Founded d (S ∖ only x)
last_founded S x h l e f s m =
    let there = minus_in S (only x) f m in
    in_minus S (only x) e (h e f s there) (ne_eqb e x (λ q. clash (S f) there (l.none f (rw (← q) s))))

pub taken_founded : {d : Graph} {S R : Set} {ks : List ℕ} → Founded d S → Taken d S ks R → Founded d R
taken_founded h done = h
taken_founded {S = S} h (next {x = x} l t) = taken_founded (last_founded S x h l) t

pub none_left_out : {d : Graph} {S R : Set} {ks : List ℕ} → Founded d S → Taken d S ks R → {e f : ℕ} → Reach d e f → f ∈ S → e ∈ members ks → f ∈ members ks
none_left_out {S = S} {R = R} {ks = ks} h t {e = e} {f = f} r there m =
    cases (members ks f) (λ p. p)
    (λ p.
    let left : f ∈ R = rw (taken_left t) (in_minus S (members ks) f there p) in
    let both : e ∈ S ∖ members ks = rw (taken_left t) at (founded_reach R (taken_founded h t) r left) in
    clash (members ks e) m (minus_out S (members ks) e both))

-- ---- a cycle is never taken

cycle_stays : {d : Graph} {S R : Set} {ks : List ℕ} → Founded d S → Taken d S ks R → (e f : ℕ) → d e f ≡ true → Reach d f e → e ∈ S → e ∈ R
cycle_stays h done e f s r m = m
cycle_stays {S = S} h (next {x = x} l t) e f s r m =
    cycle_stays (last_founded S x h l) t e f s r
    (in_minus S (only x) e m (ne_eqb e x (λ q. clash (S f) (founded_reach S h r m) (l.none f (rw (← q) s)))))

-- where all is taken there is no cycle
pub emptied : {n : ℕ} {d : Graph} {S R : Set} {ks : List ℕ} → Among n d S → Taken d S ks R → None n R → Acyclic d
emptied {R = R} w t gone e f s r =
    clash (R e) (cycle_stays (among_founded w) t e f s r (w.source e f s)) (gone e (w.below e (w.source e f s)))
