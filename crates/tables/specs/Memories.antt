-- What a memory says, and small laws of choices and of nets.
--
-- In order: choices (`eqb_sym`, `pick_either`, `pick_again`, `pick_both`); nets alike at every locality and key are one (`net_ext`); the keys, the tuple and
-- the locality of a memory (`made_two`, `made_one`, `took_this`, `took_none`, `placed_this`, `placed_none`).
-- Assumes nothing.
use Rattle.std.specs.Prelude.{◌≡◌, refl, Bool, true, false, ◌&&◌, ◌||◌, ℕ, ◌<◌, ltb}
use Rattle.std.proofs.Common.{sym, ◌∙◌, arith}
use Rattle.std.proofs.Math.Dec.{eqb}
use borrow.Author.Tests.{eqb-true, eq-eqb, lt-ltb, ltb-true}
use Rattle.laws.specs.Choice.{pick, and_left, and_right, and_both, or_left, or_right, or_cases, agree}
use Rattle.nets.specs.Rules.{Rules, none, is_take, is_newloc}
use Rattle.nets.specs.Net.{Net, made_key, took_tuple, made_locality}
use Rattle.tables.specs.Terms.{memory}

-- ---- choices

pub eqb_sym : (a b : ℕ) → eqb a b ≡ eqb b a
eqb_sym a b = agree (eqb a b) (eqb b a) (λ p. eq-eqb b a (sym (eqb-true a b p))) (λ p. eq-eqb a b (sym (eqb-true b a p)))

-- one of two, or something else
pub pick_either : {A : Type 0} (p q : Bool) (a b c : A) → pick (p || q) (pick p a b) c ≡ pick p a (pick q b c)
pick_either true q a b c = refl
pick_either false true a b c = refl
pick_either false false a b c = refl

pub pick_again : {A : Type 0} (p : Bool) (a b c : A) → pick p (pick p a b) c ≡ pick p a c
pick_again true a b c = refl
pick_again false a b c = refl

pub pick_both : {A : Type 0} (p q : Bool) (a c : A) → pick (p || q) a c ≡ pick p a (pick q a c)
pick_both true q a c = refl
pick_both false q a c = refl

module _ {R : Rules} where
  pub net_ext : (n m : Net R) → ((l : ℕ) → n.present l ≡ m.present l) → ((k : ℕ) → n.slot k ≡ m.slot k) → n ≡ m
  net_ext n m p q = λ i. record { present = λ l. p l i; slot = λ k. q k i }

-- ---- what a memory says

module _ (R : Rules) (b : R.Body) (k' k'' h l : ℕ) where
  -- it made both keys
  pub made_two : k' < R.keys → k'' < R.keys → (j : ℕ) → made_key j (memory {R = R} b k' k'' h l) ≡ (eqb j k' || eqb j k'')
  unfolding made_key
  made_two p q j =
      agree (ltb j R.keys && (eqb k' j || eqb k'' j)) (eqb j k' || eqb j k'')
      (λ t. rw (eqb_sym j k', eqb_sym j k'') (and_right (ltb j R.keys) _ t))
      (λ t.
      or_cases (eqb j k') (eqb j k'') t
      (λ u. and_both (ltb j R.keys) _ (lt-ltb j R.keys (rw (eqb-true j k' u) p)) (or_left (eqb k' j) _ (eqb_sym k' j ∙ u)))
      (λ u. and_both (ltb j R.keys) _ (lt-ltb j R.keys (rw (eqb-true j k'' u) q)) (or_right (eqb k' j) _ (eqb_sym k'' j ∙ u))))

  -- it made its continuation alone
  pub made_one : k' < R.keys → (j : ℕ) → made_key j (memory {R = R} b k' none h l) ≡ eqb j k'
  unfolding made_key
  made_one p j =
      agree (ltb j R.keys && (eqb k' j || eqb none j)) (eqb j k')
      (λ t.
      or_cases (eqb k' j) (eqb none j) (and_right (ltb j R.keys) _ t) (λ u. eqb_sym j k' ∙ u)
      (λ u.
      let e = eqb-true none j u in
      absurd (omega (arith, ltb-true j R.keys (and_left (ltb j R.keys) _ t), R.few))))
      (λ u. and_both (ltb j R.keys) _ (lt-ltb j R.keys (rw (eqb-true j k' u) p)) (or_left (eqb k' j) _ (eqb_sym k' j ∙ u)))

  pub took_this : is_take (R.act b) ≡ true → (j : ℕ) → took_tuple j (memory {R = R} b k' k'' h l) ≡ eqb j h
  unfolding took_tuple
  took_this p j = rw p (eqb_sym h j)

  pub took_none : is_take (R.act b) ≡ false → (j : ℕ) → took_tuple j (memory {R = R} b k' k'' h l) ≡ false
  unfolding took_tuple
  took_none p j = rw p

  pub placed_this : is_newloc (R.act b) ≡ true → (m : ℕ) → made_locality m (memory {R = R} b k' k'' h l) ≡ eqb l m
  unfolding made_locality
  placed_this p m = rw p

  pub placed_none : is_newloc (R.act b) ≡ false → (m : ℕ) → made_locality m (memory {R = R} b k' k'' h l) ≡ false
  unfolding made_locality
  placed_none p m = rw p
