-- What `(0..n).all(f)` answers, where the closure computes a test: the test at each number below n.
-- Assumes nothing.
use Rattle.std.specs.Prelude.{◌≡◌, refl, Bool, true, false, ◌&&◌, ℕ, zero, suc, ◌+◌, Option, List}
use Rattle.std.proofs.Common.{ap, ◌∙◌, add-zero, arith}
use Rattle.std.specs.Fn.{Called}
use Rattle.std.specs.Iterator.{YieldsThen}
use Rattle.std.specs.List.{FoldsTo, list_all, range_with_len}
use Rattle.std.specs.Option.{MatchOption}
use Rattle.std.specs.declared.ops.Range.{Range}
use Rattle.std.proofs.iter.Yields.{nat_range_steps}
use Rattle.std.proofs.lemmas.Iterator.{YieldsList-from_range}
use Rattle.std.proofs.lemmas.Iterator.Search.{all_from_yields_List}
use denote.Param.Members.{Mut}
use Rattle.laws.specs.Checks.{all, all_ext}

all_from : (a n : ℕ) (f : ℕ → Bool) → list_all f (range_with_len a n) ≡ all n (λ i. f (a + i))
unfolding all
all_from a zero f = refl
all_from a (suc n) f =
    let next : (i : ℕ) → f (a + 1 + i) ≡ f (a + suc i) = λ i. let e : a + 1 + i ≡ a + suc i = omega arith in ap f e in
    rw (add-zero a) (ap (λ (b : Bool). f a && b) (all_from (a + 1) n f ∙ all_ext n _ _ (λ i h. next i)))

all_range : (n : ℕ) (f : ℕ → Bool) → list_all f (range_with_len 0 n) ≡ all n f
all_range n f = all_from 0 n f ∙ all_ext n _ _ (λ i h. let e : 0 + i ≡ i = omega arith in ap f e)

pub all_below : {F : Type 0} {g : Mut F (ℕ × Unit {0}) Bool} (n : ℕ) (f : ℕ → Bool) {h : F} {u : Range ℕ} {r : Bool}
    → (xs : List ℕ) × (o : Option ℕ) × (j : F) × YieldsThen nat_range_steps (record { start = 0; end = n }) xs o u × FoldsTo (λ p x q. Called g p (x, tt) true q) h xs j × MatchOption o (r ≡ true) (λ x. (r ≡ false) × ((k : F) × Called g j (x, tt) false k))
    → ((x : ℕ) (b : Bool) (q : F) → Called g h (x, tt) b q → (q ≡ h) × (b ≡ f x)) → r ≡ all n f
all_below n f {h = h} {u = u} {r = r} ran calls =
    all_from_yields_List f u h r ran (YieldsList-from_range 0 n n refl (omega arith)) calls ∙ all_range n f
