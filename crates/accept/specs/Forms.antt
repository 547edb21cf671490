-- A slot in range (`images`, `Net`) has the form that acceptance asks of it (`nets`, `Accepting`), kind by kind.
--
-- In order: arrays of blanks (`all_blank`); a free slot (`free_form`), a process (`process_form`) and a tuple (`tuple_form`), each from its
-- range; a slot (`slot_formed_lem`); a net (`net_formed_lem`).
-- Assumes nothing.
use Prim.Native.Nat.{ℕ, zero, suc}
use Rattle.std.specs.Prelude.{◌≡◌, refl, Bool, true, false, ◌&&◌, List, [], ◌∷◌, length, get_or, replicate}
use Rattle.std.proofs.Common.{ap, sym, ◌∙◌, arith}
use Rattle.std.proofs.Math.Dec.{eqb, leb}
use borrow.Author.Tests.{ne_eqb, le-ltb, lt-leb}
use Rattle.laws.specs.Choice.{pick, clash, and_left, and_right, and_both}
use Rattle.laws.specs.Checks.{all, all_of, all_at, all_ext}
use Rattle.names.specs.Names.{key_count, none, key, is_locality}
use Rattle.names.specs.declared.Key.{Key}
use Rattle.images.specs.Net.{datum0, slot_at, is_unset, is_set, field_or_blank, data_fill, made_are, refs_are, made_in_range, free_in_range, process_in_range, tuple_in_range, slot_in_range, net_in_range}
use Rattle.images.specs.Shape.{ShapedNet}
use Rattle.images.specs.declared.Datum.{Datum}
use Rattle.images.specs.declared.Script.{Script}
use Rattle.images.specs.declared.Slot as Image
use Rattle.images.specs.declared.Net as Images
use Rattle.nets.specs.Accepting.{same_slot, formed}
use Rattle.products.specs.Body.{Body, body_of, is_process, is_tuple}
use Rattle.rules.specs.Instance.{rules_of, void}
use Rattle.rules.specs.Same.{same_list, same_datum, same_key, same_body, same_body_iff}
use Rattle.rules.specs.View.{kind_as, slot_view, view, view_slot}

-- ---- arrays of blanks

-- each element is a blank exactly when the array is one of blanks
all_blank : {A : Type 0} (same : A → A → Bool) (d : A) (k : ℕ) (xs : List A) → length xs ≡ k → all k (λ j. same (get_or xs j d) d) ≡ same_list same xs (replicate k d)
unfolding all same_list
all_blank same d zero [] e = refl
all_blank same d zero (x ∷ xs) e = absurd (omega arith)
all_blank same d (suc k) [] e = absurd (omega arith)
all_blank same d (suc k) (x ∷ xs) e = ap (λ (b : Bool). same x d && b) (all_blank same d k xs (omega arith))

refs_blank : (rs : List Key) → length rs ≡ 4 → refs_are 0 rs ≡ same_list same_key rs (replicate 4 (key 0))
unfolding refs_are
refs_blank rs e = all_blank same_key (key 0) 4 rs e

data_blank : (ds : List Datum) → length ds ≡ 8 → data_fill 0 ds ≡ same_list same_datum ds (replicate 8 datum0)
unfolding data_fill field_or_blank is_unset
data_blank ds e =
    all_ext 8 _ (λ j. same_datum (get_or ds j datum0) datum0)
    (λ j _. ap (λ (b : Bool). pick b (is_set (get_or ds j datum0)) (same_datum (get_or ds j datum0) datum0)) (le-ltb j 0 (omega arith))) ∙
    all_blank same_datum datum0 8 ds e

-- ---- a slot, kind by kind

same_self : (b : Body) → same_body b b ≡ true
same_self b = (same_body_iff b b).1 refl

-- the slot, if it were of another kind
abbrev of_kind : ℕ → Image.Slot → Image.Slot
of_kind k x =
    record { kind = k; locality = x.locality; node = x.node; count = x.count; first = x.first; second = x.second; used = x.used; place = x.place; contents = x.contents; refs = x.refs }

module _ (x : Image.Slot) where
  -- "A free slot is all 0."
  free_form : length x.contents ≡ 8 → length x.refs ≡ 4 → free_in_range x ≡ true → (same_body (body_of x) void && made_are 0 x) ≡ true
  unfolding free_in_range same_body
  free_form eight four h =
      let at-0 = eqb x.locality.0 0 in
      let node-0 = eqb x.node.0 0 in
      let none-0 = eqb x.count 0 in
      let h₁ = and_right at-0 _ h in
      let h₂ = and_right node-0 _ h₁ in
      let h₃ = and_right none-0 _ h₂ in
      let h₄ = and_right (made_are 0 x) _ h₃ in
      and_both (same_body (body_of x) void) _
      (and_both at-0 _ (and_left at-0 _ h)
      (and_both node-0 _ (and_left node-0 _ h₁)
      (and_both none-0 _ (and_left none-0 _ h₂)
      (and_both (same_list same_datum x.contents (replicate 8 datum0)) _
      (sym (data_blank x.contents eight) ∙ and_right (refs_are 0 x.refs) _ h₄)
      (sym (refs_blank x.refs four) ∙ and_left (refs_are 0 x.refs) _ h₄)))))
      (and_left (made_are 0 x) _ h₃)

  -- a process's range does not ask what it made
  process_form : process_in_range x ≡ true → is_process (body_of x) ≡ true
  unfolding process_in_range
  process_form h = h

  -- a tuple's asks that it made nothing
  tuple_form : tuple_in_range x ≡ true → (made_are none x ≡ true) × (is_tuple (body_of x) ≡ true)
  unfolding tuple_in_range made_are
  tuple_form h =
      let at_one = is_locality x.locality in
      let node-0 = eqb x.node.0 0 in
      let some = leb 1 x.count in
      let few = leb x.count 4 in
      let h₁ = and_right at_one _ h in
      let h₂ = and_right node-0 _ h₁ in
      let h₃ = and_right some _ h₂ in
      let h₄ = and_right few _ h₃ in (
        and_left (made_are none x) _ h₄,
        and_both at_one _ (and_left at_one _ h)
            (and_both node-0 _ (and_left node-0 _ h₁)
            (and_both some _ (and_left some _ h₂) (and_both few _ (and_left few _ h₃) (and_right (made_are none x) _ h₄)))),
      )

  -- a number past the kinds is in no range
  no_range : (k : ℕ) → slot_in_range (of_kind (suc (suc (suc (suc (suc k))))) x) ≡ false
  unfolding slot_in_range
  no_range k =
      let c = suc (suc (suc (suc (suc k)))) in
      rw (ne_eqb c 0 (λ e. omega arith), ne_eqb c 1 (λ e. omega arith), ne_eqb c 2 (λ e. omega arith), lt-leb c 4 (omega arith))

module _ (s : Script) (x : Image.Slot) (eight : length x.contents ≡ 8) (four : length x.refs ≡ 4) where
  form_as : (k : ℕ) → slot_in_range (of_kind k x) ≡ true → formed {R = rules_of s} same_body (slot_view s (of_kind k x)) ≡ true
  unfolding slot_in_range kind_as formed same_slot made_are
  form_as zero h = free_form (of_kind 0 x) eight four h
  form_as (suc zero) h =
      let made = and_left (made_are none (of_kind 1 x)) _ h in
      and_both (same_body (body_of x) (body_of x) && made_are none (of_kind 1 x)) _ (and_both (same_body (body_of x) (body_of x)) _ (same_self (body_of x)) made)
      (process_form (of_kind 1 x) (and_right (made_are none (of_kind 1 x)) _ h))
  form_as (suc (suc zero)) h = process_form (of_kind 2 x) (and_right (made_in_range (of_kind 2 x)) _ h)
  form_as (suc (suc (suc zero))) h =
      let (made, form) = tuple_form (of_kind 3 x) h in
      and_both (same_body (body_of x) (body_of x) && made_are none (of_kind 3 x)) _ (and_both (same_body (body_of x) (body_of x)) _ (same_self (body_of x)) made) form
  form_as (suc (suc (suc (suc zero)))) h =
      let (made, form) = tuple_form (of_kind 4 x) h in
      and_both (same_body (body_of x) (body_of x) && made_are none (of_kind 4 x)) _ (and_both (same_body (body_of x) (body_of x)) _ (same_self (body_of x)) made) form
  form_as (suc (suc (suc (suc (suc k))))) h = clash (slot_in_range (of_kind (suc (suc (suc (suc (suc k))))) x)) h (no_range x k)

  slot_formed_lem : slot_in_range x ≡ true → formed {R = rules_of s} same_body (slot_view s x) ≡ true
  slot_formed_lem h = form_as x.kind h

-- ---- a net

pub net_formed_lem : (s : Script) (n : Images.Net) → ShapedNet n → net_in_range n ≡ true → all key_count (λ k. formed {R = rules_of s} same_body ((view s n).slot k)) ≡ true
unfolding net_in_range
net_formed_lem s n v range =
    all_of key_count (λ k. formed {R = rules_of s} same_body ((view s n).slot k))
    (λ k l.
    ap (formed {R = rules_of s} same_body) (view_slot s n k l) ∙
    slot_formed_lem s (slot_at n k) (v.at k l).contents (v.at k l).refs (all_at key_count (λ i. slot_in_range (slot_at n i)) range k l))
