-- That any two permitted outcomes agree. Document 01, "Strength of the statements": "Each public function's statement determines answer, numbers and
-- every lent byte for any input; that any two permitted outcomes agree is proved".
--
-- Every public statement has one shape: the result is a function of what the call was given, and so is what is lent after it. It is proved once for
-- that shape.
-- In order: an outcome (`Outcome`), what a statement of the shape permits (`Permits`); two permitted outcomes are one (`permitted_agree`), and there
-- is one (`permitted_some`); a function that lends nothing (`result_agrees`); a call on bytes (`call_agrees`).
-- Assumes nothing.
use Rattle.std.specs.Prelude.{ℕ, ◌≡◌, refl, List}
use Rattle.std.proofs.Common.{sym, ◌∙◌}
use Rattle.requests.specs.declared.Told.{Told}
use Rattle.machine.specs.Calls.{reply}

-- what a call leaves: its result (answer and numbers), and all that was lent to it
pub record Outcome (R B : Type 0) : Type 0 where
  pub result : R
  pub lent : B

module _ {X R B : Type 0} (f : X → R) (g : X → B) (x : X) where
  -- given x, the result is f's and what is lent is g's
  abbrev pub Permits : Outcome R B → Type 0
  Permits o = (o.result ≡ f x) × (o.lent ≡ g x)

  pub permitted_agree : (o p : Outcome R B) → Permits o → Permits p → o ≡ p
  permitted_agree o p (r, b) (r', b') = λ i. record { result = (r ∙ sym r') i; lent = (b ∙ sym b') i }

  -- and one outcome is permitted
  pub permitted_some : (o : Outcome R B) × Permits o
  permitted_some = (record { result = f x; lent = g x }, (refl, refl))

-- where nothing is lent, the result is all
pub result_agrees : {X R : Type 0} (f : X → R) (x : X) (r q : R) → r ≡ f x → q ≡ f x → r ≡ q
result_agrees f x r q e d = e ∙ sym d

-- a call on bytes: what it tells, and every byte of the net that was lent to it
pub call_agrees : (S N Q : List ℕ) (o p : Outcome Told (List ℕ))
    → (o.result ≡ (reply S N Q).told) × (o.lent ≡ (reply S N Q).net)
    → (p.result ≡ (reply S N Q).told) × (p.lent ≡ (reply S N Q).net) → o ≡ p
call_agrees S N Q = permitted_agree (λ (b : List ℕ). (reply S b Q).told) (λ (b : List ℕ). (reply S b Q).net) N
