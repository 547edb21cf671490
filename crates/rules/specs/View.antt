-- A taken-apart net image as a net of the theory: present localities as a set, slots by key. What never changes while a key is held is the
-- body; the kind and what was made and used is the rest.
-- In order: kinds (`kind_as`), and that a test of a kind asks for its number (`live_is` and its kin); a slot (`slot_view`); a net (`view`); what
-- stands at a key (`view_slot`, `view_with`, `beyond`); a free slot is one (`free_view`).
-- Assumes nothing.
use Rattle.std.specs.Prelude.{ℕ, zero, suc, ◌<◌, ◌≤◌, ◌≡◌, true, false, ◌&&◌, eqb, ltb}
use Rattle.std.proofs.Math.Path.{refl}
use Rattle.std.proofs.Common.{sym, arith, ne_eqb, le-ltb, lt-ltb}
use Rattle.laws.specs.Choice.{pick, cases}
use Rattle.laws.specs.Sets.{member}
use Rattle.names.specs.Names.{key_count, locality_count}
use Rattle.images.specs.Net as I
use Rattle.images.specs.declared.Script.{Script}
use Rattle.images.specs.declared.Slot as Image
use Rattle.images.specs.declared.Net as Images
use Rattle.names.specs.declared.Key.{Key}
use Rattle.nets.specs.Net.{Kind, free, live, past, tuple, consumed, is_free, is_live, is_past, is_live_tuple, is_consumed, Slot, Net, free_slot}
use Rattle.products.specs.Body.{body_of}
use Rattle.rules.specs.Instance.{rules_of}

-- "0 free, 1 live process, 2 past process, 3 live tuple, 4 consumed tuple"
unfoldable pub kind_as : ℕ → Kind
kind_as zero = free
kind_as (suc zero) = live
kind_as (suc (suc zero)) = past
kind_as (suc (suc (suc zero))) = tuple
kind_as (suc (suc (suc (suc zero)))) = consumed
kind_as (suc (suc (suc (suc (suc k))))) = free

-- a number that is no kind
other_kind : (k m : ℕ) → m < 5 → eqb (suc (suc (suc (suc (suc k))))) m ≡ false
other_kind k m h = ne_eqb (suc (suc (suc (suc (suc k))))) m (λ e. omega arith)

pub live_is : (k : ℕ) → is_live (kind_as k) ≡ eqb k 1
unfolding kind_as
live_is zero = refl
live_is (suc zero) = refl
live_is (suc (suc zero)) = refl
live_is (suc (suc (suc zero))) = refl
live_is (suc (suc (suc (suc zero)))) = refl
live_is (suc (suc (suc (suc (suc k))))) = sym (other_kind k 1 (omega arith))

pub past_is : (k : ℕ) → is_past (kind_as k) ≡ eqb k 2
unfolding kind_as
past_is zero = refl
past_is (suc zero) = refl
past_is (suc (suc zero)) = refl
past_is (suc (suc (suc zero))) = refl
past_is (suc (suc (suc (suc zero)))) = refl
past_is (suc (suc (suc (suc (suc k))))) = sym (other_kind k 2 (omega arith))

pub tuple_is : (k : ℕ) → is_live_tuple (kind_as k) ≡ eqb k 3
unfolding kind_as
tuple_is zero = refl
tuple_is (suc zero) = refl
tuple_is (suc (suc zero)) = refl
tuple_is (suc (suc (suc zero))) = refl
tuple_is (suc (suc (suc (suc zero)))) = refl
tuple_is (suc (suc (suc (suc (suc k))))) = sym (other_kind k 3 (omega arith))

pub consumed_is : (k : ℕ) → is_consumed (kind_as k) ≡ eqb k 4
unfolding kind_as
consumed_is zero = refl
consumed_is (suc zero) = refl
consumed_is (suc (suc zero)) = refl
consumed_is (suc (suc (suc zero))) = refl
consumed_is (suc (suc (suc (suc zero)))) = refl
consumed_is (suc (suc (suc (suc (suc k))))) = sym (other_kind k 4 (omega arith))

-- a record is of one of the kinds 1 to 4
pub free_is : (k : ℕ) → is_free (kind_as k) ≡ pick (eqb k 0) true (ltb 4 k)
unfolding kind_as
free_is zero = refl
free_is (suc zero) = refl
free_is (suc (suc zero)) = refl
free_is (suc (suc (suc zero))) = refl
free_is (suc (suc (suc (suc zero)))) = refl
free_is (suc (suc (suc (suc (suc k))))) =
    sym (rw (other_kind k 0 (omega arith)) (lt-ltb 4 (suc (suc (suc (suc (suc k))))) (omega arith)))

module _ (s : Script) where
  abbrev pub slot_view : Image.Slot → Slot (rules_of s)
  slot_view x =
      record {
        kind = kind_as x.kind;
        body = body_of x;
        first = x.first.0;
        second = x.second.0;
        used = x.used.0;
        place = x.place.0;
      }

  -- "bit n is locality n"; "slot n is key n"
  unfoldable pub view : Images.Net → Net (rules_of s)
  view n =
      record {
        present = λ l. ltb l locality_count && member n.present.0 l;
        slot = λ k. pick (ltb k key_count) (slot_view (I.slot_at n k)) free_slot;
      }

  -- "A free slot is all 0."
  pub free_view : slot_view I.free_slot ≡ free_slot
  unfolding kind_as
  free_view = refl

  -- there are no more keys than slots
  pub beyond : (n : Images.Net) (k : ℕ) → key_count ≤ k → (view n).slot k ≡ free_slot
  unfolding view
  beyond n k h = rw (le-ltb k key_count h)

  -- the slot with this key
  pub view_slot : (n : Images.Net) (k : ℕ) → k < key_count → (view n).slot k ≡ slot_view (I.slot_at n k)
  unfolding view
  view_slot n k h = rw (lt-ltb k key_count h)

  pub view_with : (n : Images.Net) (k : Key) → (view n).slot k.0 ≡ slot_view (I.slot_with n k)
  unfolding view
  view_with n k =
      cases (ltb k.0 key_count) (λ t. rw t) (λ t. rw t (sym free_view))

  pub view_present : (n : Images.Net) (l : ℕ) → (view n).present l ≡ (ltb l locality_count && member n.present.0 l)
  unfolding view
  view_present n l = refl
