-- Each key that the code takes away is a last one, and where it takes none there is none to take: so what it ends with tells whether there is
-- a cycle.
--
-- In order: the members of a word (`members_of`, `members_excluding`), words with the same members (`same_keys`) and with none (`none_empty`,
-- `empty_none`); `Leaves`, what last ones taken in turn leave (`leaves_in`, `leaves_trans`); a key is taken or all stays (`taking`,
-- `taking_lt`, `taking_other`); keys that are not left are passed over (`pass_over`), so once over those left is once over the keys
-- (`Passing`: `passing_first`, `passing_left`, `passing_next`, `passing_done`); the edges are among the keys (`edges_among`); a key that is
-- taken is a last one (`last_taken`), and a last one would be (`taken_last`); once over the keys takes last ones (`pass_leaves`,
-- `pass_fewer`, `pass_lt`), and stays the same word only where there is no last one (`pass_stays`, `stuck`); `Kept`, what each turn keeps
-- (`kept_first`, `kept_next`), and what it says where nothing is left (`kept_empty`), where nothing can be taken (`kept_stuck`), and after as
-- many turns as there are keys (`kept_last`).
-- Assumes nothing.
use Rattle.std.specs.Prelude.{◌≡◌, refl, false, ◌&&◌, List, [], ◌∷◌, ◌++◌, eqb, ltb}
use Rattle.std.proofs.Math.Path.{sym, ap, fun_ext}
use Rattle.std.proofs.Common.{◌∙◌, not-suc-le-zero, arith, pow_pos}
use Rattle.std.proofs.Math.Bool.{true}
use Prim.Native.Nat.{ℕ, zero, suc, ◌+◌, ◌^◌, ◌≤◌, ◌<◌}
use Rattle.std.proofs.lemmas.Nat.{and_le_r}
use borrow.Author.Tests.{eqb-true, eqb-false, eq-eqb, ltb-true, lt-ltb}
use Rattle.laws.specs.Choice.{cases, clash, fails, agree, and_left, and_right, and_both}
use Rattle.laws.specs.Sets.{member, member_and, member_empty, member_excluding, member_excluding_other, excluding_lt, same_members}
use Rattle.order.specs.KeySets.{Set, ◌∈◌, ◌⊆◌, only, ◌∖◌, minus_in, minus_out, in_minus, None, search}
use Rattle.order.specs.KeySets.{count, count_le, count_subset, count_minus, count_some, count_strict}
use Rattle.order.specs.Words.{word_excluding}
use Rattle.order.specs.Graphs.{Graph, Acyclic, Among, among_over, Last, last_from}
use Rattle.order.specs.Peeling.{acyclic}
use Rattle.order.proofs.Peeling.{acyclic_iff}
use Rattle.order.specs.Taking.{Taken, done, next, taken_trans, taken_left, emptied}
use Rattle.names.specs.Names.{key_count, key}
use Rattle.names.specs.KeySets.{is_in, excluding, both, is_empty}
use Rattle.names.specs.declared.Key.{Key}
use Rattle.names.specs.declared.Keys.{Keys}
use Rattle.cycles.specs.Cycles.{members, row_at, edges, after_taking, after_pass}
use Rattle.cycles.specs.Highest.{Highest, ToCome, to_come_first, to_come_near, to_come_there, to_come_over, to_come_next, to_come_none, to_come_other}

-- ---- words

-- a key is a member where its bit is set
pub members_of : (s : Keys) (x : ℕ) → x < key_count → members s x ≡ member s.0 x
members_of s x l = rw (lt-ltb x key_count l)

-- a key taken out of the word is taken out of the set
pub members_excluding : (s : Keys) (k : ℕ) → k < key_count → members (excluding s (key k)) ≡ members s ∖ only k
members_excluding s k l =
    fun_ext
    (λ y. cases (ltb y key_count) (λ p. rw p (word_excluding key_count s.0 k y l (ltb-true y key_count p))) (λ p. rw p))

-- words with the same members are one
pub same_keys : (s t : Keys) → s.0 < 2 ^ key_count → t.0 < 2 ^ key_count → ((x : ℕ) → x < key_count → members s x ≡ members t x) → s.0 ≡ t.0
same_keys s t hs ht e =
    same_members key_count s.0 t.0 hs ht (λ x l. sym (members_of s x l) ∙ e x l ∙ members_of t x l)

-- a word is empty exactly when it has no members
pub none_empty : (s : Keys) → s.0 < 2 ^ key_count → None key_count (members s) → is_empty s ≡ true
none_empty s h none =
    eq-eqb s.0 0
    (same_members key_count s.0 0 h (pow_pos key_count) (λ x l. sym (members_of s x l) ∙ none x l ∙ sym (member_empty x)))

pub empty_none : (s : Keys) → is_empty s ≡ true → None key_count (members s)
empty_none s e x l = members_of s x l ∙ ap (λ (w : ℕ). member w x) (eqb-true s.0 0 e) ∙ member_empty x

-- ---- what last ones, taken in turn, leave

-- R is left once some keys are taken from S, each a last one of what is left then
abbrev pub Leaves : Graph → Set → Set → Type 0
Leaves d S R = (ks : List ℕ) × Taken d S ks R

-- what is left was there
pub leaves_in : {d : Graph} {S R : Set} → Leaves d S R → R ⊆ S
leaves_in {S = S} (ks, t) x m = and_left (S x) _ (ap (λ (T : Set). T x) (sym (taken_left t)) ∙ m)

pub leaves_trans : {d : Graph} {S R T : Set} → Leaves d S R → Leaves d R T → Leaves d S T
leaves_trans (ks, t) (js, u) = (ks ++ js, taken_trans t u)

-- ---- one key, and one after the other

-- an argument by the key being taken, or by all staying
pub taking {ℓ} : {A : Type ℓ} (row left : Keys) (k : Key) → (is_in left k ≡ true → is_empty (both row left) ≡ true → after_taking row left k ≡ excluding left k → A) → ((is_in left k ≡ true → is_empty (both row left) ≡ true → ⊥) → after_taking row left k ≡ left → A) → A
unfolding after_taking
taking row left k taken stays =
    cases (is_in left k)
    (λ p.
    cases (is_empty (both row left)) (λ q. taken p q (rw (p, q)))
    (λ q. stays (λ m none. clash (is_empty (both row left)) none q) (rw (p, q))))
    (λ p. stays (λ m none. clash (is_in left k) m p) (rw p))

-- a word of 64 bits stays one
pub taking_lt : (row left : Keys) (k : Key) → left.0 < 2 ^ key_count → (after_taking row left k).0 < 2 ^ key_count
taking_lt row left k h =
    taking row left k (λ p q e. rw e (excluding_lt key_count left.0 k.0 h)) (λ n e. rw e h)

-- another key is left as it was
pub taking_other : (row left : Keys) (k : Key) (x : ℕ) → k.0 < key_count → x < key_count → (x ≡ k.0 → ⊥) → member (after_taking row left k).0 x ≡ member left.0 x
taking_other row left k x h l d =
    taking row left k (λ p q e. ap (λ (s : Keys). member s.0 x) e ∙ member_excluding_other key_count left.0 k.0 x h l d)
    (λ n e. ap (λ (s : Keys). member s.0 x) e)

-- ---- once over those that are left

-- keys that are not left are passed over
pub pass_over : (rows : List Keys) (j i : ℕ) (left : Keys) → j ≤ i → ((x : ℕ) → j ≤ x → x < i → member left.0 x ≡ false) → after_pass rows i left ≡ after_pass rows j left
unfolding after_pass
pass_over rows j zero left h out = let e : j ≡ 0 = omega (arith, h) in rw e refl
pass_over rows j (suc i) left h out =
    cases (eqb j (suc i)) (λ p. rw (eqb-true j (suc i) p) refl)
    (λ p.
    let l : j ≤ i = omega (arith, h, eqb-false j (suc i) p) in
    taking (row_at rows i) left (key i) (λ q none e. clash (member left.0 i) q (out i l (omega arith)))
    (λ n e. ap (after_pass rows i) e ∙ pass_over rows j i left l (λ x a b. out x a (omega (arith, b)))))

-- in the midst of it: of those left some are still to come, and what they leave is what all leave
pub record Passing (rows : List Keys) (start rest toCome : Keys) : Type 0 where
  pub bound : ℕ
  pub come : ToCome bound rest toCome
  pub leave : after_pass rows bound rest ≡ after_pass rows key_count start

pub passing_first : (rows : List Keys) (start : Keys) → Passing rows start start start
passing_first rows start = record { bound = key_count; come = to_come_first start; leave = refl }

module _ (rows : List Keys) (start rest toCome : Keys) (w : Passing rows start rest toCome) where
  -- a key that is to come is left
  pub passing_left : (k : Key) → Highest toCome k → is_in rest k ≡ true
  passing_left k h = to_come_there w.bound rest toCome w.come k h

  -- the greatest to come is looked at
  pub passing_next : (k : Key) → Highest toCome k → (more fewer : Keys) → more ≡ after_taking (row_at rows k.0) rest k → fewer ≡ excluding toCome k → Passing rows start more fewer
  unfolding after_pass
  passing_next k h more fewer em ef =
      record {
        bound = k.0;
        come = to_come_other k.0 rest fewer (to_come_next w.bound rest toCome w.come k h fewer ef) more same;
        leave = ap (after_pass rows k.0) em ∙ sym (pass_over rows (suc k.0) w.bound rest near over) ∙ w.leave;
      }
    where
      near : k.0 < w.bound
      near = to_come_near w.bound rest toCome w.come k h

      over : (x : ℕ) → k.0 < x → x < w.bound → member rest.0 x ≡ false
      over = to_come_over w.bound rest toCome w.come k h

      same : (x : ℕ) → x < k.0 → member rest.0 x ≡ member more.0 x
      same x l =
          sym (taking_other (row_at rows k.0) rest k x h.below (omega (arith, l, h.below)) (λ q. omega (arith, l, q))) ∙
          ap (λ (s : Keys). member s.0 x) (sym em)

  -- once none is to come, the pass is done
  pub passing_done : is_empty toCome ≡ true → rest ≡ after_pass rows key_count start
  unfolding after_pass
  passing_done e =
      sym (pass_over rows 0 w.bound rest (omega arith) (λ x l b. to_come_none w.bound rest toCome w.come e x b)) ∙ w.leave

module _ (rows : List Keys) (s : Keys) where
  abbrev d : Graph
  d = edges rows s

  -- every edge joins two of the keys
  pub edges_among : Among key_count d (members s)
  edges_among =
      record {
        below = λ x m. ltb-true x key_count (and_left (ltb x key_count) _ m);
        source = λ e f h. and_left (members s e) _ h;
        target = λ e f h. and_left (members s f) _ (and_right (members s e) _ h);
      }

  -- a key that is taken is a last one of what is left
  pub last_taken : (left : Keys) (k : ℕ) → k < key_count → is_in left (key k) ≡ true → is_empty (both (row_at rows k) left) ≡ true → Last d (members left) k
  last_taken left k l p q = record { member = members_of left k l ∙ p; none = λ f h. fails (members left f) (after f h) }
    where
      row : Keys
      row = row_at rows k

      after : (f : ℕ) → d k f ≡ true → f ∈ members left → ⊥
      after f h m =
          let depends : member row.0 f ≡ true = and_right (members s f) _ (and_right (members s k) _ h) in
          let there : member left.0 f ≡ true = and_right (ltb f key_count) _ m in
          clash (member (both row left).0 f) (member_and row.0 left.0 f ∙ and_both (member row.0 f) _ depends there)
          (ap (λ (w : ℕ). member w f) (eqb-true (both row left).0 0 q) ∙ member_empty f)

  -- a last one of what is left would be taken
  pub taken_last : (left : Keys) (k : ℕ) → left.0 < 2 ^ key_count → members left ⊆ members s → Last d (members left) k → is_empty (both (row_at rows k) left) ≡ true
  taken_last left k h inside w =
      none_empty (both row left) (omega (arith, and_le_r row.0 left.0)) (λ f l. fails (members (both row left) f) (after f l))
    where
      row : Keys
      row = row_at rows k

      after : (f : ℕ) → f < key_count → f ∈ members (both row left) → ⊥
      after f l m =
          let held : (member row.0 f && member left.0 f) ≡ true =
          sym (member_and row.0 left.0 f) ∙ and_right (ltb f key_count) _ m in
          let there : f ∈ members left = members_of left f l ∙ and_right (member row.0 f) _ held in
          let edge : d k f ≡ true =
          and_both (members s k) _ (inside k w.member) (and_both (members s f) _ (inside f there) (and_left (member row.0 f) _ held)) in
          clash (members left f) there (w.none f edge)

  -- ---- once over the keys

  taking_leaves : (left : Keys) (k : ℕ) → k < key_count → Leaves d (members left) (members (after_taking (row_at rows k) left (key k)))
  taking_leaves left k l =
      taking (row_at rows k) left (key k)
      (λ p q e. (k ∷ [], next (last_taken left k l p q) (rw (e, members_excluding left k l) done))) (λ n e. ([], rw e done))

  -- what is left was left by taking last ones
  pub pass_leaves : (i : ℕ) (left : Keys) → i ≤ key_count → Leaves d (members left) (members (after_pass rows i left))
  unfolding after_pass
  pass_leaves zero left l = ([], done)
  pass_leaves (suc i) left l =
      leaves_trans (taking_leaves left i (omega arith)) (pass_leaves i (after_taking (row_at rows i) left (key i)) (omega arith))

  -- so no more are left than there were
  pub pass_fewer : (i : ℕ) (left : Keys) → i ≤ key_count → count key_count (members (after_pass rows i left)) ≤ count key_count (members left)
  pass_fewer i left l =
      count_subset key_count (members (after_pass rows i left)) (members left) (λ x b. leaves_in (pass_leaves i left l) x)

  -- a word of 64 bits stays one
  pub pass_lt : (i : ℕ) (left : Keys) → left.0 < 2 ^ key_count → (after_pass rows i left).0 < 2 ^ key_count
  unfolding after_pass
  pass_lt zero left h = h
  pass_lt (suc i) left h = pass_lt i (after_taking (row_at rows i) left (key i)) (taking_lt (row_at rows i) left (key i) h)

  -- where the word is the same in the end, no key was taken
  pub pass_stays : (i : ℕ) (left : Keys) → i ≤ key_count → after_pass rows i left ≡ left → (k : ℕ) → k < i → after_taking (row_at rows k) left (key k) ≡ left
  unfolding after_pass
  pass_stays zero left l e k h = absurd (not-suc-le-zero h)
  pass_stays (suc i) left l e k h =
      let t = after_taking (row_at rows i) left (key i) in
      taking (row_at rows i) left (key i)
      (λ p q x.
      let same : count key_count (members (after_pass rows i t)) ≡ count key_count (members left) =
      ap (λ (r : Keys). count key_count (members r)) e in
      absurd (omega (arith, pass_fewer i t (omega arith), one_less left i (omega arith) p t x)))
      (λ n x.
      cases (eqb k i) (λ p. rw (eqb-true k i p) x)
      (λ p. pass_stays i left (omega arith) (rw x at e) k (omega (arith, eqb-false k i p))))
    where
      one_less : (left : Keys) (k : ℕ) → k < key_count → is_in left (key k) ≡ true → (t : Keys) → t ≡ excluding left (key k) → count key_count (members t) < count key_count (members left)
      one_less left k l p t x =
          let rest : count key_count (members t) ≡ count key_count (members left ∖ only k) =
          ap (count key_count) (ap members x ∙ members_excluding left k l) in
          omega (arith, count_minus key_count (members left) k l (members_of left k l ∙ p))

  -- and then no key that is left is a last one
  pub stuck : (left : Keys) → left.0 < 2 ^ key_count → members left ⊆ members s → after_pass rows key_count left ≡ left → (k : ℕ) → Last d (members left) k → ⊥
  stuck left h inside e k w =
      let l : k < key_count = edges_among.below k (inside k w.member) in
      let there : is_in left (key k) ≡ true = sym (members_of left k l) ∙ w.member in
      let stays = pass_stays key_count left (omega arith) e k l in
      taking (row_at rows k) left (key k)
      (λ p q x.
      clash (member left.0 k) there (ap (λ (r : Keys). member r.0 k) (sym stays ∙ x) ∙ member_excluding key_count left.0 k l))
      (λ n x. n there (taken_last left k h inside w))

  -- ---- turn by turn

  -- what is left after so many turns: a word of 64 bits, left by taking last ones, at least one a turn
  pub record Kept (turn : ℕ) (left : Keys) : Type 0 where
    pub word : left.0 < 2 ^ key_count
    pub leaves : Leaves d (members s) (members left)
    pub fewer : count key_count (members left) + turn ≤ key_count

  -- before the first turn all are left
  pub kept_first : s.0 < 2 ^ key_count → Kept 0 s
  kept_first h = record { word = h; leaves = ([], done); fewer = omega (arith, count_le key_count (members s)) }

  -- another word with no other members has fewer
  smaller : (left rest : Keys) → left.0 < 2 ^ key_count → rest.0 < 2 ^ key_count → members rest ⊆ members left → (rest.0 ≡ left.0 → ⊥) → count key_count (members rest) < count key_count (members left)
  smaller left rest hl hr inside other =
      search key_count (L ∖ R) (λ x l m. count_strict key_count R L (λ y b. inside y) x l (minus_out L R x m) (minus_in L R x m))
      (λ none. absurd (other (same_keys rest left hr hl (λ x l. agree (R x) (L x) (inside x) (back none x l)))))
    where
      L : Set
      L = members left

      R : Set
      R = members rest

      back : None key_count (L ∖ R) → (x : ℕ) → x < key_count → x ∈ L → x ∈ R
      back none x l m = cases (R x) (λ p. p) (λ p. clash ((L ∖ R) x) (in_minus L R x m p) (none x l))

  -- a turn that leaves another word takes at least one
  pub kept_next : (turn : ℕ) (left rest : Keys) → Kept turn left → rest ≡ after_pass rows key_count left → (rest.0 ≡ left.0 → ⊥) → Kept (turn + 1) rest
  kept_next turn left rest w e other =
      let h : rest.0 < 2 ^ key_count = rw e (pass_lt key_count left w.word) in
      let t : Leaves d (members left) (members rest) = rw e (pass_leaves key_count left (omega arith)) in
      let less = smaller left rest w.word h (leaves_in t) other in
      record { word = h; leaves = leaves_trans w.leaves t; fewer = omega (arith, less, w.fewer) }

  -- ---- the answers

  -- where nothing is left there is no cycle
  pub kept_empty : (turn : ℕ) (left : Keys) → Kept turn left → is_empty left ≡ true → acyclic key_count d (members s) ≡ true
  kept_empty turn left w e =
      (acyclic_iff key_count d (members s) edges_among).1 (emptied edges_among w.leaves.1 (empty_none left e))

  -- where something is left and a turn takes nothing there is one
  pub kept_stuck : (turn : ℕ) (left rest : Keys) → Kept turn left → is_empty left ≡ false → rest ≡ after_pass rows key_count left → rest.0 ≡ left.0 → acyclic key_count d (members s) ≡ false
  kept_stuck turn left rest w some e same =
      fails (acyclic key_count d (members s))
      (λ h.
      let ac : Acyclic d = (acyclic_iff key_count d (members s) edges_among).0 h in
      let stays : after_pass rows key_count left ≡ left = sym e ∙ (λ i. record { 0 = same i }) in
      search key_count (members left)
      (λ x l m.
      let (k, last, r) = last_from key_count d (among_over edges_among) ac (members left) x m in
      stuck left w.word (leaves_in w.leaves) stays k last)
      (λ none. clash (is_empty left) (none_empty left w.word none) some))

  -- after as many turns as there are keys nothing is left
  pub kept_last : (turn : ℕ) (left : Keys) → Kept turn left → key_count ≤ turn → is_empty left ≡ true
  kept_last turn left w h =
      none_empty left w.word
      (λ x l. fails (members left x) (λ m. omega (arith, w.fewer, h, count_some key_count (members left) x l m)))
