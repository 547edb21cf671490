-- Binding where the process lies: "an in or read binds its formals", in the bytes of the net.
-- In order: one field (`bind_put`), the first k (`bound_up_to`) and all (`bound_put`); they stay as many (`length_bound`); in the slot that was written
-- there last they are the variables bound (`bound_put_lem`).
-- Assumes nothing.
use Prim.Native.Nat.{ℕ, zero, suc}
use Rattle.std.proofs.Common.{◌∙◌, length-set, ltb-true}
use Rattle.std.specs.Prelude.{◌≡◌, List, ltb, length, get_or}
use Rattle.std.proofs.Math.Path.{refl, ap}
use Rattle.laws.specs.Choice.{pick, cases}
use Rattle.names.specs.Names.{variable_count, variable}
use Rattle.names.specs.declared.Key.{Key}
use Rattle.images.specs.Script.{field_at}
use Rattle.images.specs.Net.{datum0}
use Rattle.images.specs.Sizes.{Sized}
use Rattle.images.specs.InPlace.{slot_put}
use Rattle.images.specs.Changed.{with_contents, variable_put, length_variable_put, variable_put_lem}
use Rattle.images.specs.declared.Field.{Field}
use Rattle.images.specs.declared.Action.{Action}
use Rattle.images.specs.declared.Datum.{Datum}
use Rattle.images.specs.declared.Slot.{Slot}
use Rattle.matching.specs.Evaluate.{is_formal}
use Rattle.matching.specs.Match.{bind_one, bind_up_to, bound}

-- a formal's variable takes the field
unfoldable pub bind_put : Field → Datum → Key → List ℕ → List ℕ
bind_put f d k b = pick (is_formal f) (pick (ltb f.number variable_count) (variable_put k (variable f.number) d b) b) b

unfoldable pub bound_up_to : ℕ → Action → List Datum → Key → List ℕ → List ℕ
bound_up_to zero a met k b = b
bound_up_to (suc j) a met k b = bind_put (field_at a j) (get_or met j datum0) k (bound_up_to j a met k b)

unfoldable pub bound_put : Action → List Datum → Key → List ℕ → List ℕ
bound_put a met k b = bound_up_to 4 a met k b

-- ---- as many bytes

pub length_bind : (f : Field) (d : Datum) (k : Key) (b : List ℕ) → Sized b → Sized (bind_put f d k b)
unfolding bind_put
length_bind f d k b sized =
    cases (is_formal f)
    (λ t.
    cases (ltb f.number variable_count)
    (λ l. rw (t, l) (length_variable_put k b sized (variable f.number) (ltb-true f.number 8 l) d))
    (λ l. rw (t, l) sized))
    (λ t. rw t sized)

length_up : (j : ℕ) (a : Action) (met : List Datum) (k : Key) (b : List ℕ) → Sized b → Sized (bound_up_to j a met k b)
unfolding bound_up_to
length_up zero a met k b sized = sized
length_up (suc j) a met k b sized =
    length_bind (field_at a j) (get_or met j datum0) k (bound_up_to j a met k b) (length_up j a met k b sized)

pub length_bound : (a : Action) (met : List Datum) (k : Key) (b : List ℕ) → Sized b → Sized (bound_put a met k b)
unfolding bound_put
length_bound a met k b sized = length_up 4 a met k b sized

-- ---- in the slot that was written there last

module _ (k : Key) (b : List ℕ) (sized : Sized b) (y : Slot) where
  bind_in_slot : (f : Field) (d : Datum) → length y.contents ≡ 8 → bind_put f d k (slot_put k y b) ≡ slot_put k (with_contents y (bind_one y.contents f d)) b
  unfolding bind_put bind_one
  bind_in_slot f d eight =
      cases (is_formal f)
      (λ t.
      cases (ltb f.number variable_count)
      (λ l. rw (t, l) (variable_put_lem k b sized y eight (variable f.number) (ltb-true f.number 8 l) d))
      (λ l. rw (t, l) refl))
      (λ t. rw t refl)

  bind_eight : (vars : List Datum) (f : Field) (d : Datum) → length vars ≡ 8 → length (bind_one vars f d) ≡ 8
  unfolding bind_one
  bind_eight vars f d eight =
      cases (is_formal f)
      (λ t. cases (ltb f.number variable_count) (λ l. rw (t, l) (length-set vars f.number d ∙ eight)) (λ l. rw (t, l) eight))
      (λ t. rw t eight)

module _ (a : Action) (met : List Datum) (k : Key) (b : List ℕ) (sized : Sized b) (y : Slot) (eight : length y.contents ≡ 8) where
  up_eight : (j : ℕ) → length (bind_up_to j y.contents a met) ≡ 8
  unfolding bind_up_to
  up_eight zero = eight
  up_eight (suc j) = bind_eight k b sized y (bind_up_to j y.contents a met) (field_at a j) (get_or met j datum0) (up_eight j)

  up_put : (j : ℕ) → bound_up_to j a met k (slot_put k y b) ≡ slot_put k (with_contents y (bind_up_to j y.contents a met)) b
  unfolding bound_up_to bind_up_to
  up_put zero = refl
  up_put (suc j) =
      ap (bind_put (field_at a j) (get_or met j datum0) k) (up_put j) ∙
      bind_in_slot k b sized (with_contents y (bind_up_to j y.contents a met)) (field_at a j) (get_or met j datum0) (up_eight j)

  pub bound_put_lem : bound_put a met k (slot_put k y b) ≡ slot_put k (with_contents y (bound y.contents a met)) b
  unfolding bound_put bound
  bound_put_lem = up_put 4
