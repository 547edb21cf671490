-- Checks in number order: the first that fails gives the answer.
-- In order: `Check` and `refusal`; a refusal is 0 exactly when all hold (`all_hold`, `none_fails`), and otherwise the number of the
-- first that does not (`first_fails`), exactly (`refused_iff`).
-- Assumes nothing.
use Rattle.std.specs.Prelude.{ℕ, ◌≡◌, refl, ◌↔◌, List, [], ◌∷◌, ◌++◌, Bool, true, false}
use Rattle.std.proofs.Common.{ap, sym, ◌∙◌}
use Rattle.laws.specs.Choice.{pick, cases}

-- a check of document 01's table: its number, and whether what it asks holds
pub record Check : Type 0 where
  pub number : ℕ
  pub holds : Bool

abbrev pub check : ℕ → Bool → Check
check n b = record { number = n; holds = b }

-- "Checks run in number order": the number of the first that does not hold, 0 where all do
unfoldable pub refusal : List Check → ℕ
refusal [] = 0
refusal (c ∷ cs) = pick c.holds (refusal cs) c.number

-- every check of the list holds
abbrev pub Hold : List Check → Type 0
Hold [] = Unit
Hold (c ∷ cs) = (c.holds ≡ true) × Hold cs

-- no check has the number 0, which is the answer of a call that is done
abbrev pub Numbered : List Check → Type 0
Numbered [] = Unit
Numbered (c ∷ cs) = (c.number ≡ 0 → ⊥) × Numbered cs

pub none_fails : (cs : List Check) → Hold cs → refusal cs ≡ 0
unfolding refusal
none_fails [] h = refl
none_fails (c ∷ cs) h = rw h.0 (none_fails cs h.1)

pub all_hold : (cs : List Check) → Numbered cs → refusal cs ≡ 0 → Hold cs
unfolding refusal
all_hold [] m h = tt
all_hold (c ∷ cs) m h =
    cases c.holds (λ t. (t, all_hold cs m.1 (rw t at h))) (λ t. absurd (m.0 (rw t at h)))

-- the checks before it hold, and it does not: the answer is its number
pub first_fails : (before : List Check) (c : Check) (after : List Check) → Hold before → c.holds ≡ false → refusal (before ++ c ∷ after) ≡ c.number
unfolding refusal
first_fails [] c after h f = rw f
first_fails (d ∷ ds) c after h f = rw h.0 (first_fails ds c after h.1 f)

-- "given exactly when": the answer is a check's number exactly when that check does not hold and all before it do
pub record FirstFails (cs : List Check) (k : ℕ) : Type 0 where
  pub before : List Check
  pub it : Check
  pub after : List Check
  pub place : cs ≡ before ++ it ∷ after
  pub hold : Hold before
  pub fails : it.holds ≡ false
  pub number : it.number ≡ k

pub refused_first : (cs : List Check) (k : ℕ) → (k ≡ 0 → ⊥) → refusal cs ≡ k → FirstFails cs k
unfolding refusal
refused_first [] k some e = absurd (some (sym e))
refused_first (c ∷ cs) k some e =
    cases c.holds
    (λ t.
    let o = refused_first cs k some (rw t at e) in
    record {
      before = c ∷ o.before;
      it = o.it;
      after = o.after;
      place = ap (λ (l : List Check). c ∷ l) o.place;
      hold = (t, o.hold);
      fails = o.fails;
      number = o.number;
    })
    (λ t. record { before = []; it = c; after = cs; place = refl; hold = tt; fails = t; number = rw t at e })

pub refused_iff : (cs : List Check) (k : ℕ) → (k ≡ 0 → ⊥) → (refusal cs ≡ k) ↔ FirstFails cs k
refused_iff cs k some = (
  refused_first cs k some,
  λ o. ap refusal o.place ∙ first_fails o.before o.it o.after o.hold o.fails ∙ o.number,
)
