-- The greatest key of a word, and so the keys of a word from the last to the first: a word of those still to come, of which the greatest is
-- looked at and taken out.
--
-- In order: `Highest`; it is where the leading zeros end (`some_zeros`, `highest_bit`); without one of its keys a word is less (`fewer_less`, `without_less`); `ToCome`,
-- the keys below a bound are still to come: at first (`to_come_first`), the greatest of them (`to_come_near`, `to_come_there`), those passed
-- over (`to_come_over`), once it was looked at (`to_come_next`), at last (`to_come_none`), and of another word (`to_come_other`).
-- Assumes nothing.
use Rattle.std.specs.Prelude.{◌≡◌, refl, true, false, ℕ, suc, ◌-◌, ◌/◌, ◌%◌, ◌^◌, ◌≤◌, ◌<◌, eqb, ltb}
use Rattle.std.proofs.Common.{sym, ap, ◌∙◌, add_comm, lt_of_lt_of_le, add-one, arith, pow_pos, pow_mono, shr_lt, eqb-true, eq-eqb, ltb-true, ltb-false}
use Rattle.std.proofs.Math.Nat.{div_self, div-eq_of_lt}
use Rattle.std.proofs.Math.Arith.{lt_of_le-ne}
use Rattle.std.proofs.lemmas.Nat.{and_le_l, leading_top}
use Rattle.std.specs.Int.Count.{count_leading_zeros}
use Rattle.std.proofs.Math.Pow.{shr_mono}
use Rattle.std.proofs.lemmas.Bool.{eqb-false}
use Rattle.laws.specs.Choice.{cases, clash}
use Rattle.laws.specs.Sets as Sets
use Rattle.laws.specs.Sets.{member, member_empty, member_excluding, member_excluding_other}
use Rattle.names.specs.Names.{key_count}
use Rattle.names.specs.KeySets.{is_in, excluding, is_empty}
use Rattle.names.specs.declared.Key.{Key}
use Rattle.names.specs.declared.Keys.{Keys}

-- k is the greatest key of the word
pub record Highest (s : Keys) (k : Key) : Type 0 where
  pub below : k.0 < key_count
  pub there : is_in s k ≡ true
  pub above : (x : ℕ) → k.0 < x → x < key_count → member s.0 x ≡ false

-- ---- by the leading zeros

-- a word that is not empty has not only zeros
pub some_zeros : (s : Keys) → s.0 < 2 ^ key_count → is_empty s ≡ false → count_leading_zeros key_count s.0 ≤ 63
some_zeros s h e =
    let (j, ends, low, high) = leading_top key_count s.0 (omega (arith, eqb-false s.0 0 e)) h in
    omega (arith, ends)

-- the greatest key is where they end
pub highest_bit : (s : Keys) (k : Key) → s.0 < 2 ^ key_count → is_empty s ≡ false → k.0 ≡ 63 - count_leading_zeros key_count s.0 → Highest s k
unfolding member
highest_bit s k h e is =
    let (j, ends, low, high) = leading_top key_count s.0 (omega (arith, eqb-false s.0 0 e)) h in
    let same : j ≡ k.0 = omega (arith, ends, is) in
    bits (omega (arith, ends, is)) (rw same at low) (rw same at high)
  where
    bits : k.0 < key_count → 2 ^ k.0 ≤ s.0 → s.0 < 2 ^ suc k.0 → Highest s k
    bits l low high =
        let least : 1 ≤ s.0 / 2 ^ k.0 = rw (div_self (pow_pos k.0)) at (shr_mono k.0 low) in
        let most : s.0 / 2 ^ k.0 < 2 ^ 1 = shr_lt 1 k.0 (rw (add_comm 1 k.0 ∙ add-one k.0) high) in
        let one : s.0 / 2 ^ k.0 ≡ 1 = omega (arith, least, most) in
        record {
          below = l;
          there = eq-eqb _ 1 (ap (λ (x : ℕ). x % 2) one);
          above = λ x a b. ap (λ (y : ℕ). eqb (y % 2) 1) (div-eq_of_lt (lt_of_lt_of_le high (pow_mono a)));
        }

-- a word without one of its keys is less
pub fewer_less : (s t : Keys) (k : Key) → k.0 < key_count → is_in s k ≡ true → t ≡ excluding s k → t.0 < s.0
unfolding Sets.excluding
fewer_less s t k below there e =
    lt_of_le-ne (rw e (and_le_l s.0 (2 ^ key_count - 1 - 2 ^ k.0)))
    (λ same.
    clash (is_in s k) there
    (ap (λ (w : ℕ). member w k.0) (sym same ∙ ap (λ (r : Keys). r.0) e) ∙ member_excluding key_count s.0 k.0 below))

pub without_less : (s t : Keys) (k : Key) → Highest s k → t ≡ excluding s k → t.0 < s.0
without_less s t k h e = fewer_less s t k h.below h.there e

-- ---- the keys of a word, from the last to the first

-- those of the word below the bound are still to come, and no others
pub record ToCome (bound : ℕ) (word toCome : Keys) : Type 0 where
  pub within : bound ≤ key_count
  pub below : (x : ℕ) → x < bound → member toCome.0 x ≡ member word.0 x
  pub passed : (x : ℕ) → bound ≤ x → x < key_count → member toCome.0 x ≡ false

-- at first all are
pub to_come_first : (word : Keys) → ToCome key_count word word
to_come_first word = record { within = omega arith; below = λ x l. refl; passed = λ x l b. absurd (omega (arith, l, b)) }

module _ (bound : ℕ) (word toCome : Keys) (w : ToCome bound word toCome) where
  module _ (k : Key) (h : Highest toCome k) where
    -- the greatest of them is below the bound, and of the word
    pub to_come_near : k.0 < bound
    to_come_near =
        cases (ltb k.0 bound) (ltb-true k.0 bound)
        (λ p. clash (is_in toCome k) h.there (w.passed k.0 (ltb-false k.0 bound p) h.below))

    pub to_come_there : is_in word k ≡ true
    to_come_there = sym (w.below k.0 to_come_near) ∙ h.there

    -- between it and the bound there is none
    pub to_come_over : (x : ℕ) → k.0 < x → x < bound → member word.0 x ≡ false
    to_come_over x a b = sym (w.below x b) ∙ h.above x a (omega (arith, b, w.within))

    -- once it was looked at, those below it are to come
    pub to_come_next : (fewer : Keys) → fewer ≡ excluding toCome k → ToCome k.0 word fewer
    to_come_next fewer e =
        record {
          within = omega (arith, h.below);
          below = λ x l. other x (omega (arith, l, h.below)) (λ q. omega (arith, l, q)) ∙ w.below x (omega (arith, l, to_come_near));
          passed =
              λ x l b.
              cases (eqb x k.0)
              (λ p. rw (eqb-true x k.0 p) (ap (λ (s : Keys). member s.0 k.0) e ∙ member_excluding key_count toCome.0 k.0 h.below))
              (λ p. let d = eqb-false x k.0 p in other x b d ∙ h.above x (omega (arith, l, d)) b);
        }
      where
        other : (x : ℕ) → x < key_count → (x ≡ k.0 → ⊥) → member fewer.0 x ≡ member toCome.0 x
        other x b d =
            ap (λ (s : Keys). member s.0 x) e ∙ member_excluding_other key_count toCome.0 k.0 x h.below b d

  -- where none is to come, the word has none below the bound
  pub to_come_none : is_empty toCome ≡ true → (x : ℕ) → x < bound → member word.0 x ≡ false
  to_come_none e x l =
      sym (w.below x l) ∙ ap (λ (s : ℕ). member s x) (eqb-true toCome.0 0 e) ∙ member_empty x

  -- another word has the same to come where it has the same keys below the bound
  pub to_come_other : (other : Keys) → ((x : ℕ) → x < bound → member word.0 x ≡ member other.0 x) → ToCome bound other toCome
  to_come_other other same = record { within = w.within; below = λ x l. w.below x l ∙ same x l; passed = w.passed }
