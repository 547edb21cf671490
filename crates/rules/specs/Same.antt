-- A test of equal contents, and with it acceptance of the nets of a script as a test that computes.
-- In order: lists (`same_list`), data, names; `same_body`, true exactly when the contents are equal (`same_body_iff`); `is_accepted`, true
-- exactly when the net is accepted (`accepted_is_tested`).
-- Assumes nothing.
use Rattle.std.specs.Prelude.{◌≡◌, ◌↔◌, Bool, true, ◌&&◌, eqb, leb}
use Rattle.std.proofs.Math.Path.{refl}
use Rattle.std.proofs.Common.{ap, sym, ◌∙◌, eqb-true, eq-eqb, ltb-true}
use mathlib.Core.List.{List, [], ◌∷◌}
use Rattle.std.proofs.Math.Bool.{false}
use Rattle.laws.specs.Choice.{clash, and_left, and_right, and_both}
use Rattle.names.specs.Names.{locality_count}
use Rattle.names.specs.declared.Key.{Key}
use Rattle.images.specs.declared.Datum.{Datum}
use Rattle.images.specs.declared.Script.{Script}
use Rattle.nets.specs.Net.{Net}
use Rattle.nets.specs.Accepted.{Bounded, Accepted}
use Rattle.nets.specs.Accepting.{accepted}
use Rattle.nets.proofs.Demands.{accepted_iff_tested}
use Rattle.products.specs.Body.{Body}
use Rattle.rules.specs.Instance.{rules_of}

-- ---- lists, data and names

unfoldable pub same_list : {A : Type 0} → (A → A → Bool) → List A → List A → Bool
same_list same [] [] = true
same_list same [] (y ∷ ys) = false
same_list same (x ∷ xs) [] = false
same_list same (x ∷ xs) (y ∷ ys) = same x y && same_list same xs ys

-- a test of equality says so of lists where it does of elements
module _ {A : Type 0} (same : A → A → Bool) (says : (x y : A) → same x y ≡ true → x ≡ y) (holds : (x : A) → same x x ≡ true) where
  list_says : (xs ys : List A) → same_list same xs ys ≡ true → xs ≡ ys
  unfolding same_list
  list_says [] [] h = refl
  list_says [] (y ∷ ys) h = clash false h refl
  list_says (x ∷ xs) [] h = clash false h refl
  list_says (x ∷ xs) (y ∷ ys) h =
      let e = says x y (and_left (same x y) _ h) in
      let es = list_says xs ys (and_right (same x y) _ h) in
      λ i. e i ∷ es i

  list_holds : (xs : List A) → same_list same xs xs ≡ true
  unfolding same_list
  list_holds [] = refl
  list_holds (x ∷ xs) = and_both (same x x) _ (holds x) (list_holds xs)

abbrev pub same_datum : Datum → Datum → Bool
same_datum d e = eqb d.tag e.tag && eqb d.number e.number

datum_says : (d e : Datum) → same_datum d e ≡ true → d ≡ e
datum_says d e h =
    let t = eqb-true d.tag e.tag (and_left (eqb d.tag e.tag) _ h) in
    let x = eqb-true d.number e.number (and_right (eqb d.tag e.tag) _ h) in
    λ i. record { tag = t i; number = x i }

datum_holds : (d : Datum) → same_datum d d ≡ true
datum_holds d = and_both (eqb d.tag d.tag) _ (eq-eqb d.tag d.tag refl) (eq-eqb d.number d.number refl)

abbrev pub same_key : Key → Key → Bool
same_key k l = eqb k.0 l.0

key_says : (k l : Key) → same_key k l ≡ true → k ≡ l
key_says k l h = let e = eqb-true k.0 l.0 h in λ i. record { 0 = e i }

key_holds : (k : Key) → same_key k k ≡ true
key_holds k = eq-eqb k.0 k.0 refl

-- ---- contents

unfoldable pub same_body : Body → Body → Bool
same_body a b =
    eqb a.locality.0 b.locality.0 &&
    (eqb a.node.0 b.node.0 &&
    (eqb a.count b.count && (same_list same_datum a.contents b.contents && same_list same_key a.refs b.refs)))

body_says : (a b : Body) → same_body a b ≡ true → a ≡ b
unfolding same_body
body_says a b h =
    let after-locality = and_right (eqb a.locality.0 b.locality.0) _ h in
    let after-node = and_right (eqb a.node.0 b.node.0) _ after-locality in
    let after-count = and_right (eqb a.count b.count) _ after-node in
    let l = eqb-true a.locality.0 b.locality.0 (and_left (eqb a.locality.0 b.locality.0) _ h) in
    let p = eqb-true a.node.0 b.node.0 (and_left (eqb a.node.0 b.node.0) _ after-locality) in
    let c = eqb-true a.count b.count (and_left (eqb a.count b.count) _ after-node) in
    let v = list_says same_datum datum_says datum_holds a.contents b.contents (and_left (same_list same_datum a.contents b.contents) _ after-count) in
    let r = list_says same_key key_says key_holds a.refs b.refs (and_right (same_list same_datum a.contents b.contents) _ after-count) in
    λ i. record { locality = record { 0 = l i }; node = record { 0 = p i }; count = c i; contents = v i; refs = r i }

body_holds : (a : Body) → same_body a a ≡ true
unfolding same_body
body_holds a =
    and_both (eqb a.locality.0 a.locality.0) _ (eq-eqb a.locality.0 a.locality.0 refl)
    (and_both (eqb a.node.0 a.node.0) _ (eq-eqb a.node.0 a.node.0 refl)
    (and_both (eqb a.count a.count) _ (eq-eqb a.count a.count refl)
    (and_both (same_list same_datum a.contents a.contents) _ (list_holds same_datum datum_says datum_holds a.contents)
    (list_holds same_key key_says key_holds a.refs))))

pub same_body_iff : (a b : Body) → (same_body a b ≡ true) ↔ (a ≡ b)
same_body_iff a b = (body_says a b, λ e. ap (same_body a) (sym e) ∙ body_holds a)

-- ---- acceptance

module _ (s : Script) where
  abbrev pub is_accepted : Net (rules_of s) → Bool
  is_accepted n = accepted same_body locality_count n

  pub accepted_is_tested : (n : Net (rules_of s)) → Bounded n → (is_accepted n ≡ true) ↔ Accepted n
  accepted_is_tested =
      accepted_iff_tested same_body same_body_iff locality_count (λ l m. ltb-true l locality_count (and_right (leb 8 l) _ m))
