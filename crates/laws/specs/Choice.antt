-- Choosing by a test, and arguing by one.
-- In order: `pick`; a test and what it says (`cases`, `clash`, `fails`); conjunctions (`and_left`, `and_right`, `and_both`); disjunctions
-- (`or_left`, `or_right`, `or_cases`); what is asked only where something holds (`◌⇒◌`, `told`, `tells`); tests that agree (`sameb`, `agree`).
-- Not here: that `ltb`, `leb` and `eqb` say what they test (`borrow.Author.Tests`).
-- Assumes nothing.
use Rattle.std.specs.Prelude.{◌≡◌, refl, Bool, true, false, ◌&&◌, ◌||◌, not}
use Rattle.std.proofs.Common.{sym, ◌∙◌, true≢false}

-- the first where the test holds, the second where it does not
abbrev pub pick : {A : Type 0} → Bool → A → A → A
pick true a b = a
pick false a b = b

-- an argument for each outcome of a test; the test stands first, so that each arm knows its equation
pub cases {ℓ} : {A : Type ℓ} (b : Bool) → (b ≡ true → A) → (b ≡ false → A) → A
cases true f g = f refl
cases false f g = g refl

-- nothing is both
pub clash {ℓ} : {A : Type ℓ} (b : Bool) → b ≡ true → b ≡ false → A
clash b p q = absurd (true≢false (sym p ∙ q))

-- a test that cannot hold
pub fails : (b : Bool) → (b ≡ true → ⊥) → b ≡ false
fails true h = absurd (h refl)
fails false h = refl

-- ---- conjunctions
pub and_left : (a b : Bool) → (a && b) ≡ true → a ≡ true
and_left true b h = refl
and_left false b h = h

pub and_right : (a b : Bool) → (a && b) ≡ true → b ≡ true
and_right true b h = h
and_right false b h = clash false h refl

pub and_both : (a b : Bool) → a ≡ true → b ≡ true → (a && b) ≡ true
and_both true b p q = q
and_both false b p q = p

-- ---- disjunctions
pub or_left : (a b : Bool) → a ≡ true → (a || b) ≡ true
or_left true b p = refl
or_left false b p = clash false p refl

pub or_right : (a b : Bool) → b ≡ true → (a || b) ≡ true
or_right true b p = refl
or_right false b p = p

-- an argument for either side; the disjunction stands first, so that each arm knows its equation
pub or_cases {ℓ} : {A : Type ℓ} (a b : Bool) → (a || b) ≡ true → (a ≡ true → A) → (b ≡ true → A) → A
or_cases true b h f g = f refl
or_cases false b h f g = g h

-- ---- what is asked only where something holds
infixr 25 ◌⇒◌
abbrev pub ◌⇒◌ : Bool → Bool → Bool
true ⇒ b = b
false ⇒ b = true

pub told : (a b : Bool) → (a ⇒ b) ≡ true → a ≡ true → b ≡ true
told true b h p = h
told false b h p = clash false p refl

pub tells : (a b : Bool) → (a ≡ true → b ≡ true) → (a ⇒ b) ≡ true
tells true b h = h refl
tells false b h = refl

-- ---- two tests that agree
pub agree : (a b : Bool) → (a ≡ true → b ≡ true) → (b ≡ true → a ≡ true) → a ≡ b
agree true b f g = sym (f refl)
agree false true f g = g refl
agree false false f g = refl

abbrev pub sameb : Bool → Bool → Bool
sameb true b = b
sameb false b = not b

pub sameb_eq : (a b : Bool) → sameb a b ≡ true → a ≡ b
sameb_eq true true h = refl
sameb_eq true false h = clash false h refl
sameb_eq false true h = clash false h refl
sameb_eq false false h = refl
