-- A kind of node as an act: each test of an act asks for the kind's number.
-- In order: in, read, newloc and split; what a kind uses, does, aims at and makes besides.
-- Assumes nothing.
use Rattle.std.specs.Prelude.{ℕ, zero, suc, ◌≡◌, refl, Bool, true, false, ◌&&◌, ◌||◌, leb}
use Rattle.std.proofs.Common.{ap, ap₂, sym, ◌∙◌, arith, ne_eqb}
use Rattle.std.proofs.lemmas.Bool.{lt-leb}
use Rattle.nets.specs.Rules.{is_take, is_read, is_newloc, is_split, acts, uses, aims, second_of, is_there}
use Rattle.products.specs.Products
use Rattle.products.specs.Products.{is_step, meets_tuple, makes_second, has_target}
use Rattle.rules.specs.Instance.{act_of, same_kind}

pub take_is : (k : ℕ) → is_take (act_of k) ≡ Products.is_in k
take_is k = same_kind k 2 (omega arith) (omega arith)

pub read_is : (k : ℕ) → is_read (act_of k) ≡ Products.is_read k
read_is k = same_kind k 3 (omega arith) (omega arith)

pub newloc_is : (k : ℕ) → is_newloc (act_of k) ≡ Products.is_newloc k
newloc_is k = same_kind k 4 (omega arith) (omega arith)

pub split_is : (k : ℕ) → is_split (act_of k) ≡ Products.is_split k
split_is k = same_kind k 6 (omega arith) (omega arith)

pub uses_is : (k : ℕ) → uses (act_of k) ≡ meets_tuple k
uses_is k = ap₂ (λ a b. a || b) (take_is k) (read_is k)

-- "a past process is at kinds 1..6"
pub acts_is : (k : ℕ) → acts (act_of k) ≡ is_step k
unfolding act_of
acts_is zero = refl
acts_is (suc zero) = refl
acts_is (suc (suc zero)) = refl
acts_is (suc (suc (suc zero))) = refl
acts_is (suc (suc (suc (suc zero)))) = refl
acts_is (suc (suc (suc (suc (suc zero))))) = refl
acts_is (suc (suc (suc (suc (suc (suc zero)))))) = refl
acts_is (suc (suc (suc (suc (suc (suc (suc zero))))))) = refl
acts_is (suc (suc (suc (suc (suc (suc (suc (suc k)))))))) =
    let n = suc (suc (suc (suc (suc (suc (suc (suc k))))))) in
    sym (ap (λ (b : Bool). leb 1 n && b) (lt-leb n 6 (omega arith)) ∙ and_no (leb 1 n))
  where
    and_no : (b : Bool) → (b && false) ≡ false
    and_no true = refl
    and_no false = refl

-- out, in, read and eval act at a target
pub aims_is : (k : ℕ) → aims (act_of k) ≡ has_target k
aims_is k =
    ap₂ (λ (a b : Bool). a || b) (uses_is k)
    (ap₂ (λ (a b : Bool). a || b) (same_kind k 1 (omega arith) (omega arith)) (same_kind k 5 (omega arith) (omega arith))) ∙
    turned (meets_tuple k) (Products.is_out k) (Products.is_eval k)
  where
    turned : (a b c : Bool) → (a || (b || c)) ≡ (b || (a || c))
    turned true true c = refl
    turned true false c = refl
    turned false true c = refl
    turned false false c = refl

-- out, eval and split make something besides
pub there_is : (k : ℕ) → is_there (second_of (act_of k)) ≡ makes_second k
unfolding act_of
there_is zero = refl
there_is (suc zero) = refl
there_is (suc (suc zero)) = refl
there_is (suc (suc (suc zero))) = refl
there_is (suc (suc (suc (suc zero)))) = refl
there_is (suc (suc (suc (suc (suc zero))))) = refl
there_is (suc (suc (suc (suc (suc (suc zero)))))) = refl
there_is (suc (suc (suc (suc (suc (suc (suc zero))))))) = refl
there_is (suc (suc (suc (suc (suc (suc (suc (suc k)))))))) =
    let n = suc (suc (suc (suc (suc (suc (suc (suc k))))))) in
    sym (rw (ne_eqb n 1 (λ e. omega arith), ne_eqb n 5 (λ e. omega arith), ne_eqb n 6 (λ e. omega arith)))
