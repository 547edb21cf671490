-- The rules of a script, as the theory of nets asks for them (`rules_of`), and that those of a script in range are lawful (`lawful_of`): what
-- that theory proves of lawful rules it proves of every script in range.
-- Assumes nothing.
use Rattle.std.specs.Prelude.{ℕ, zero, suc, ◌<◌, ◌≤◌, ◌≡◌, ◌⊎◌, Bool, true, false, ◌&&◌, ◌||◌, eqb, ltb, leb, replicate}
use Rattle.std.proofs.Math.Path.{refl}
use Rattle.std.proofs.Common.{ap, ap₂, sym, ◌∙◌, ⊎_elim, arith, eqb-true, ne_eqb, ltb-true, leb-true, le-leb}
use Rattle.std.proofs.Math.Logic.{inl, inr}
use Rattle.std.proofs.lemmas.Bool.{lt-leb}
use Rattle.laws.specs.Choice.{cases, and_left, and_right, and_both, or_left, or_right, or_cases}
use Rattle.names.specs.Names.{key_count, locality_count, first_made, key, locality, node}
use Rattle.images.specs.Script.{script_in_range}
use Rattle.images.specs.Net.{datum0}
use Rattle.images.specs.Shape.{ShapedScript}
use Rattle.images.specs.declared.Script.{Script}
use Rattle.nets.specs.Rules.{Rules, Lawful, Act, number, is_take, is_read, is_newloc, is_split, acts, uses, aims, Second, second_of}
use Rattle.nets.specs.Rules
use Rattle.products.specs.Body.{Body, is_process, is_tuple}
use Rattle.products.specs.Products
use Rattle.products.specs.Products.{is_step, kind_of, target, is_ready, fits, continuation, second_made, tuple_made, process_made, meets_tuple, has_target, continued_by, process_by, second_by, tuple_by}
use Rattle.rules.specs.Roots.{names, refers, rooted}
use Rattle.rules.specs.Laws.{rooted_at, rooted_names, rooted_refers, target_named, continuation_names, second_names, continuation_refers, second_refers}
use Rattle.rules.specs.Forms.{continuation_process, made_tuple, made_process}

-- a node's kind as an act; a number that is no kind does nothing
unfoldable pub act_of : ℕ → Act
act_of zero = Rules.nil
act_of (suc zero) = Rules.out
act_of (suc (suc zero)) = Rules.take
act_of (suc (suc (suc zero))) = Rules.read
act_of (suc (suc (suc (suc zero)))) = Rules.newloc
act_of (suc (suc (suc (suc (suc zero))))) = Rules.eval
act_of (suc (suc (suc (suc (suc (suc zero)))))) = Rules.split
act_of (suc (suc (suc (suc (suc (suc (suc zero))))))) = Rules.roll
act_of (suc (suc (suc (suc (suc (suc (suc (suc k)))))))) = Rules.nil

-- the act's number is the kind's, as far as the kinds go
number_is : (k : ℕ) → (number (act_of k) ≡ k) ⊎ ((number (act_of k) ≡ 0) × (8 ≤ k))
unfolding act_of
number_is zero = inl refl
number_is (suc zero) = inl refl
number_is (suc (suc zero)) = inl refl
number_is (suc (suc (suc zero))) = inl refl
number_is (suc (suc (suc (suc zero)))) = inl refl
number_is (suc (suc (suc (suc (suc zero))))) = inl refl
number_is (suc (suc (suc (suc (suc (suc zero)))))) = inl refl
number_is (suc (suc (suc (suc (suc (suc (suc zero))))))) = inl refl
number_is (suc (suc (suc (suc (suc (suc (suc (suc k)))))))) = inr (refl, omega arith)

-- so a test for one of the kinds 1 to 7 asks the same of both
pub same_kind : (k m : ℕ) → 1 ≤ m → m < 8 → eqb (number (act_of k)) m ≡ eqb k m
same_kind k m p q =
    ⊎_elim (λ (e : number (act_of k) ≡ k). ap (λ (x : ℕ). eqb x m) e)
    (λ (e : (number (act_of k) ≡ 0) × (8 ≤ k)).
    ne_eqb (number (act_of k)) m (λ (z : number (act_of k) ≡ m). omega (arith, e.0)) ∙ sym (ne_eqb k m (λ (z : k ≡ m). omega (arith, e.1))))
    (number_is k)

is_step_lem : (k : ℕ) → acts (act_of k) ≡ true → is_step k ≡ true
is_step_lem k h =
    let l = ltb-true 0 (number (act_of k)) (and_left (ltb 0 (number (act_of k))) _ h) in
    let u = ltb-true (number (act_of k)) 7 (and_right (ltb 0 (number (act_of k))) _ h) in
    ⊎_elim (λ (e : number (act_of k) ≡ k). and_both (leb 1 k) _ (le-leb 1 k (omega arith)) (le-leb k 6 (omega arith)))
    (λ (e : (number (act_of k) ≡ 0) × (8 ≤ k)). absurd (omega (arith, e.0)))
    (number_is k)

uses_is : (k : ℕ) → uses (act_of k) ≡ meets_tuple k
uses_is k = ap₂ (λ a b. a || b) (same_kind k 2 (omega arith) (omega arith)) (same_kind k 3 (omega arith) (omega arith))

-- "a locality 8..31, is made at most once, and no other locality is made"
abbrev pub makeable : ℕ → Bool
makeable l = leb first_made l && ltb l locality_count

pub below_made : (l : ℕ) → l < 8 → makeable l ≡ false
below_made l h = rw (lt-leb 8 l h)

-- the contents of a free slot
abbrev pub void : Body
void = record { locality = locality 0; node = node 0; count = 0; contents = replicate 8 datum0; refs = replicate 4 (key 0) }

-- by act, which second thing is made
apart : ◌≡◌ {A = ℕ} 0 1 → ⊥
apart z = omega arith

tuple_number : (x : Act) → second_of x ≡ Rules.aTuple → eqb (number x) 1 ≡ true
tuple_number Rules.nil e = absurd (apart cc)
tuple_number Rules.out e = refl
tuple_number Rules.take e = absurd (apart cc)
tuple_number Rules.read e = absurd (apart cc)
tuple_number Rules.newloc e = absurd (apart cc)
tuple_number Rules.eval e = absurd (apart cc)
tuple_number Rules.split e = absurd (apart cc)
tuple_number Rules.roll e = absurd (apart cc)

process_number : (x : Act) → second_of x ≡ Rules.aProcess → ((eqb (number x) 5 || eqb (number x) 6) ≡ true) × (eqb (number x) 1 ≡ false)
process_number Rules.nil e = absurd (apart cc)
process_number Rules.out e = absurd (apart cc)
process_number Rules.take e = absurd (apart cc)
process_number Rules.read e = absurd (apart cc)
process_number Rules.newloc e = absurd (apart cc)
process_number Rules.eval e = (refl, refl)
process_number Rules.split e = (refl, refl)
process_number Rules.roll e = absurd (apart cc)

out_act : (k : ℕ) → second_of (act_of k) ≡ Rules.aTuple → Products.is_out k ≡ true
out_act k e = sym (same_kind k 1 (omega arith) (omega arith)) ∙ tuple_number (act_of k) e

process_act : (k : ℕ) → second_of (act_of k) ≡ Rules.aProcess → ((Products.is_eval k || Products.is_split k) ≡ true) × (Products.is_out k ≡ false)
process_act k e =
    let (p, q) = process_number (act_of k) e in (
      ap₂ (λ a b. a || b) (sym (same_kind k 5 (omega arith) (omega arith))) (sym (same_kind k 6 (omega arith) (omega arith))) ∙ p,
      sym (same_kind k 1 (omega arith) (omega arith)) ∙ q,
    )

pub few_keys : key_count ≤ 255
few_keys = omega arith

out_step : (k : ℕ) → Products.is_out k ≡ true → is_step k ≡ true
out_step k h = let e = eqb-true k 1 h in and_both (leb 1 k) _ (le-leb 1 k (omega arith)) (le-leb k 6 (omega arith))

second_step : (k : ℕ) → (Products.is_eval k || Products.is_split k) ≡ true → is_step k ≡ true
second_step k h =
    or_cases (Products.is_eval k) (Products.is_split k) h
    (λ u. let e = eqb-true k 5 u in and_both (leb 1 k) _ (le-leb 1 k (omega arith)) (le-leb k 6 (omega arith)))
    (λ u. let e = eqb-true k 6 u in and_both (leb 1 k) _ (le-leb 1 k (omega arith)) (le-leb k 6 (omega arith)))

out_aims : (k : ℕ) → Products.is_out k ≡ true → aims (act_of k) ≡ true
out_aims k h =
    or_right (uses (act_of k)) _ (or_left (eqb (number (act_of k)) 1) _ (same_kind k 1 (omega arith) (omega arith) ∙ h))

eval_aims : (k : ℕ) → Products.is_eval k ≡ true → aims (act_of k) ≡ true
eval_aims k h =
    or_right (uses (act_of k)) _ (or_right (eqb (number (act_of k)) 1) _ (same_kind k 5 (omega arith) (omega arith) ∙ h))

-- ---- the rules of a script, whatever it is

module _ (s : Script) where
  abbrev pub act : Body → Act
  act b = act_of (kind_of s b)

  abbrev pub next : ℕ → Body → Body → ℕ → Body
  next k b t l = continuation s (key k) b t (locality l)

  abbrev pub rules_of : Rules
  rules_of =
      record {
        keys = key_count;
        few = few_keys;
        Body = Body;
        void = void;
        is_process = is_process;
        is_tuple = is_tuple;
        at = λ b. b.locality.0;
        act = act;
        target = target s;
        ready = is_ready s;
        fits = fits s;
        next = next;
        second = second_made s;
        makeable = makeable;
        rooted = rooted;
        names = names;
        refers = refers;
      }

-- ---- what they obey where the script is in range

module _ (s : Script) (w : ShapedScript s) (range : script_in_range s ≡ true) where
  pub next_process : (k : ℕ) (b t : Body) (l : ℕ) → k < key_count → is_process b ≡ true → acts (act s b) ≡ true → is_ready s b ≡ true → (uses (act s b) ≡ true → (is_tuple t ≡ true) × (fits s b t ≡ true)) → (is_newloc (act s b) ≡ true → makeable l ≡ true) → is_process (next s k b t l) ≡ true
  next_process k b t l h good step ready met made =
      continuation_process s w range b good (is_step_lem (kind_of s b) step) (key k) t (locality l) h
      (λ u. (met (uses_is (kind_of s b) ∙ u)).0)
      (λ u. ltb-true l 32 (and_right (leb 8 l) _ (made (same_kind (kind_of s b) 4 (omega arith) (omega arith) ∙ u))))

  pub second_at_lem : (b : Body) → ((second_made s b).locality.0 ≡ b.locality.0) ⊎ ((aims (act s b) ≡ true) × ((second_made s b).locality.0 ≡ target s b))
  unfolding second_by tuple_by process_by
  second_at_lem b =
      let k = kind_of s b in
      cases (Products.is_out k)
      (λ t. inr (out_aims k t, rw t))
      (λ t. cases (Products.is_eval k) (λ u. inr (eval_aims k u, rw (t, u))) (λ u. inl (rw (t, u))))

  pub target_names : (b : Body) → aims (act s b) ≡ true → makeable (target s b) ≡ true → names b (target s b) ≡ true
  target_names b _ m = target_named s w range b (leb-true 8 (target s b) (and_left (leb 8 (target s b)) _ m))

  pub next_names : (k : ℕ) (b t : Body) (l m : ℕ) → makeable m ≡ true → names (next s k b t l) m ≡ true → (names b m ≡ true) ⊎ (((uses (act s b) ≡ true) × (names t m ≡ true)) ⊎ ((is_newloc (act s b) ≡ true) × (l ≡ m)))
  next_names k b t l m _ h =
      ⊎_elim (λ (p : names b m ≡ true). inl p)
      (λ (q : ((meets_tuple (kind_of s b) ≡ true) × (names t m ≡ true)) ⊎ ((Products.is_newloc (kind_of s b) ≡ true) × (l ≡ m))).
      inr
      (⊎_elim (λ (u : (meets_tuple (kind_of s b) ≡ true) × (names t m ≡ true)). inl (uses_is (kind_of s b) ∙ u.0, u.1))
      (λ (u : (Products.is_newloc (kind_of s b) ≡ true) × (l ≡ m)). inr (same_kind (kind_of s b) 4 (omega arith) (omega arith) ∙ u.0, u.1))
      q))
      (continuation_names s w range b (key k) t (locality l) m h)

  pub next_refers : (k : ℕ) (b t : Body) (l r : ℕ) → refers (next s k b t l) r ≡ true → (refers b r ≡ true) ⊎ ((is_split (act s b) ≡ false) × (k ≡ r))
  next_refers k b t l r h =
      ⊎_elim (λ (p : refers b r ≡ true). inl p)
      (λ (q : (k ≡ r) × (Products.is_split (kind_of s b) ≡ false)). inr (same_kind (kind_of s b) 6 (omega arith) (omega arith) ∙ q.1, q.0))
      (continuation_refers s w range b (key k) t (locality l) r h)

  pub next_at : (k : ℕ) (b t : Body) (l : ℕ) → (next s k b t l).locality.0 ≡ b.locality.0
  unfolding continued_by
  next_at k b t l = refl

  pub second_tuple : (b : Body) → is_process b ≡ true → is_ready s b ≡ true → second_of (act s b) ≡ Rules.aTuple → is_tuple (second_made s b) ≡ true
  unfolding second_by
  second_tuple b good ready e =
      let out = out_act (kind_of s b) e in
      rw out (made_tuple s w range b good (out_step (kind_of s b) out) out ready)

  pub second_process : (b : Body) → is_process b ≡ true → is_ready s b ≡ true → second_of (act s b) ≡ Rules.aProcess → is_process (second_made s b) ≡ true
  unfolding second_by
  second_process b good ready e =
      let (k, no-out) = process_act (kind_of s b) e in
      rw no-out (made_process s w range b good (second_step (kind_of s b) k) k)

  pub second_names_of : (b : Body) (m : ℕ) → makeable m ≡ true → names (second_made s b) m ≡ true → names b m ≡ true
  second_names_of b m u h = second_names s w range b m (leb-true 8 m (and_left (leb 8 m) _ u)) h

  abbrev pub lawful_of : Lawful (rules_of s)
  lawful_of =
      record {
        next_process = next_process;
        second_tuple = second_tuple;
        second_process = second_process;
        next_at = next_at;
        second_at_lem = second_at_lem;
        rooted_at = λ b r. below_made b.locality.0 (rooted_at b r);
        rooted_names = λ b m r h. below_made m (rooted_names b m r h);
        target_names = target_names;
        next_names = next_names;
        second_names = second_names_of;
        rooted_refers = rooted_refers;
        next_refers = next_refers;
        second_refers = second_refers s w range;
      }
