-- What is looked up in a net's bytes after some were written: a slot written at one key leaves the others and the present set, and is itself there.
-- In order: a byte of a slot (`slot_byte_lem`), and what it says where there may be no such key (`kind_byte`, `home_byte`, `used_byte`); a slot at another key (`slot_other`), the present set (`present_other`); the slot itself, by what it
-- carries (`slot_there`, `contents_there`, `refs_there`, `locality_there`).
-- Assumes nothing.
use Prim.Native.Nat.{ℕ, ◌+◌, ◌-◌, ◌*◌, ◌<◌, ◌≤◌}
use Rattle.std.specs.Prelude.{◌≡◌, ◌⊎◌, ◌≢◌, true, ltb, length, get_or, take, drop}
use Rattle.std.proofs.Math.Path.{refl, ap, sym}
use Rattle.std.proofs.Common.{ap₂, ◌∙◌, ⊎_elim, arith, length-drop, length-append, take-append-drop, length-take-le, drop-drop, get_or-take, get_or-drop}
use Rattle.std.proofs.Math.Logic.{inl, inr}
use mathlib.Core.List.{List, [], ◌∷◌, ◌++◌, append_assoc}
use Rattle.std.proofs.lemmas.List.{take-append-le, drop-append-le}
use Rattle.std.proofs.Math.Seq.{drop-append-add}
use borrow.Author.Tests.{ltb-true, ltb-false}
use Rattle.laws.specs.Choice.{pick, cases}
use Rattle.laws.specs.Lists.{tab, tab_of}
use Rattle.laws.specs.Parts.{flat, put}
use Rattle.laws.specs.Words.{number, bytes_of, word_at}
use Rattle.names.specs.Names.{key_count, key}
use Rattle.names.specs.Localities.{localities}
use Rattle.names.specs.declared.Key.{Key}
use Rattle.images.specs.Head.{byte, part_at, pair_bytes}
use Rattle.images.specs.Net.{datum0, datum_at, ref_at, slot_with, free_slot, first_bytes, slot_bytes}
use Rattle.images.specs.Read.{datum_of, slot_of, net_of}
use Rattle.images.specs.InPlace.{slot_put, slot_part}
use Rattle.images.specs.Changed.{part_there, below_four}
use Rattle.images.specs.Round.{pair_tag, pair_number}
use Rattle.images.specs.Layout.{length_slot}
use Rattle.images.specs.Shape.{ShapedSlot}
use Rattle.images.specs.Sizes.{Sized}
use Rattle.images.specs.declared.Slot.{Slot}

-- a byte of the slot with a key
pub slot_byte_lem : (b : List ℕ) (k : Key) → ltb k.0 key_count ≡ true → (i : ℕ) → i < 56 → byte (part_at 56 b k.0) i ≡ get_or b (16 + 56 * k.0 + i) 0
slot_byte_lem b k h i l =
    get_or-take 56 (drop (16 + 56 * k.0) b) i 0 l ∙ get_or-drop (16 + 56 * k.0) b i 0

-- a byte of the slot with a key, or 0 where there is no such key
byte_with : (f : Slot → ℕ) (i : ℕ) → ((p : List ℕ) → byte p i ≡ f (slot_of p)) → 0 ≡ f free_slot → (b : List ℕ) (k : Key)
    → pick (ltb k.0 key_count) (byte (part_at 56 b k.0) i) 0 ≡ f (slot_with (net_of b) k)
byte_with f i here free b k =
    cases (ltb k.0 key_count) (λ h. rw h (here (part_at 56 b k.0) ∙ ap f (slot_part b k.0 (ltb-true k.0 64 h)))) (λ h. rw h free)

pub kind_byte : (b : List ℕ) (k : Key) → pick (ltb k.0 key_count) (byte (part_at 56 b k.0) 0) 0 ≡ (slot_with (net_of b) k).kind
unfolding slot_of
kind_byte = byte_with (λ y. y.kind) 0 (λ p. refl) refl

pub home_byte : (b : List ℕ) (k : Key) → pick (ltb k.0 key_count) (byte (part_at 56 b k.0) 1) 0 ≡ (slot_with (net_of b) k).locality.0
unfolding slot_of
home_byte = byte_with (λ y. y.locality.0) 1 (λ p. refl) refl

pub used_byte : (b : List ℕ) (k : Key) → pick (ltb k.0 key_count) (byte (part_at 56 b k.0) 5) 0 ≡ (slot_with (net_of b) k).used.0
unfolding slot_of
used_byte = byte_with (λ y. y.used.0) 5 (λ p. refl) refl

-- ---- parts beside one that was written

module _ {A : Type 0} (a c : ℕ) (xs ys : List A) (fits : a + c ≤ length xs) (sized : length ys ≡ c) where
  head_length : length (take a xs) ≡ a
  head_length = length-take-le a xs (omega arith)

  -- what lies within the first part of two
  within : (rest : List A) (e d : ℕ) → e + d ≤ a → take d (drop e (take a xs ++ rest)) ≡ take d (drop e (take a xs))
  within rest e d h =
      ap (take d) (drop-append-le e (take a xs) rest (omega (arith, head_length))) ∙
      take-append-le d (drop e (take a xs)) rest (simp length-drop (omega (arith, head_length)))

  -- a part before it
  pub part_before : (e d : ℕ) → e + d ≤ a → take d (drop e (put a c xs ys)) ≡ take d (drop e xs)
  part_before e d h =
      within (ys ++ drop c (drop a xs)) e d h ∙ sym (within (drop a xs) e d h) ∙ ap (λ (l : List A). take d (drop e l)) (take-append-drop a xs)

  -- a part behind it
  pub part_behind : (e d : ℕ) → a + c ≤ e → take d (drop e (put a c xs ys)) ≡ take d (drop e xs)
  part_behind e d h =
      let front : List A = take a xs ++ ys in
      let size : length front ≡ a + c = length-append (take a xs) ys ∙ ap₂ (λ (m n : ℕ). m + n) head_length sized in
      let seam : e ≡ length front + (e - (a + c)) = omega (arith, size) in
      ap (take d)
      (ap (drop e) (sym (append_assoc (take a xs) ys (drop c (drop a xs)))) ∙
      ap (λ (m : ℕ). drop m (front ++ drop c (drop a xs))) seam ∙ drop-append-add front (drop c (drop a xs)) (e - (a + c)) ∙
      ap (drop (e - (a + c))) (drop-drop c a xs) ∙ drop-drop (e - (a + c)) (a + c) xs ∙ ap (λ (m : ℕ). drop m xs) (there e h))
    where
      there : (e : ℕ) → a + c ≤ e → a + c + (e - (a + c)) ≡ e
      there e h = omega arith

-- ---- a slot written at one key

module _ (b : List ℕ) (sized : Sized b) (k : Key) (y : Slot) where
  -- leaves that of another
  part_other : (i : ℕ) → i ≢ k.0 → part_at 56 (slot_put k y b) i ≡ part_at 56 b i
  unfolding slot_put
  part_other i d =
      cases (ltb k.0 key_count)
      (λ t.
      let below : k.0 < 64 = ltb-true k.0 64 t in
      rw t
      (⊎_elim
      (λ (l : i < k.0). part_before (16 + 56 * k.0) 56 b (slot_bytes y) (omega (arith, below, sized)) (length_slot y) (16 + 56 * i) 56 (omega (arith, l)))
      (λ (l : k.0 < i). part_behind (16 + 56 * k.0) 56 b (slot_bytes y) (omega (arith, below, sized)) (length_slot y) (16 + 56 * i) 56 (omega (arith, l)))
      (apart i k.0 d)))
      (λ t. rw t refl)
    where
      apart : (i j : ℕ) → i ≢ j → (i < j) ⊎ (j < i)
      apart i j d = cases (ltb i j) (λ t. inl (ltb-true i j t)) (λ t. inr (omega (arith, ltb-false i j t, d)))

  pub slot_other : (j : Key) → (j.0 ≡ k.0 → ⊥) → slot_with (net_of (slot_put k y b)) j ≡ slot_with (net_of b) j
  slot_other j d =
      cases (ltb j.0 key_count)
      (λ t.
      let below : j.0 < 64 = ltb-true j.0 64 t in
      rw t (sym (slot_part (slot_put k y b) j.0 below) ∙ ap slot_of (part_other j.0 d) ∙ slot_part b j.0 below))
      (λ t. rw t)

  -- and the present set
  present_same : word_at (slot_put k y b) 8 ≡ word_at b 8
  unfolding word_at slot_put
  present_same =
      cases (ltb k.0 key_count)
      (λ t.
      let below : k.0 < 64 = ltb-true k.0 64 t in
      rw t (ap number (part_before (16 + 56 * k.0) 56 b (slot_bytes y) (omega (arith, below, sized)) (length_slot y) 8 4 (omega arith))))
      (λ t. rw t refl)

  pub present_other : (net_of (slot_put k y b)).present ≡ (net_of b).present
  unfolding net_of
  present_other = ap localities present_same

  -- what is then at the key is what was written
  pub slot_there : ltb k.0 key_count ≡ true → slot_with (net_of (slot_put k y b)) k ≡ slot_of (slot_bytes y)
  unfolding slot_put
  slot_there t =
      let below : k.0 < 64 = ltb-true k.0 64 t in
      rw t
      (sym (slot_part (put (16 + 56 * k.0) 56 b (slot_bytes y)) k.0 below) ∙
      ap slot_of (part_there (16 + 56 * k.0) 56 b (slot_bytes y) (omega (arith, below, sized)) (length_slot y)))

-- ---- and carries what was written

module _ (y : Slot) (w : ShapedSlot y) where
  pub contents_there : (slot_of (slot_bytes y)).contents ≡ y.contents
  unfolding slot_of slot_bytes
  contents_there =
      let t' : List ℕ = tab 4 (λ j. (ref_at y j).0) ++ (0 ∷ 0 ∷ 0 ∷ 0 ∷ []) in
      sym
      (tab_of 8 (datum_of (slot_bytes y)) y.contents datum0 w.contents
      (λ j h.
      let t = pair_tag 8 (λ i. (datum_at y i).tag) (λ i. (datum_at y i).number) (first_bytes y) t' j refl h in
      let n = pair_number 8 (λ i. (datum_at y i).tag) (λ i. (datum_at y i).number) (first_bytes y) t' j refl h (w.numbers j h) in
      sym (λ i. record { tag = t i; number = n i })))

  pub refs_there : (slot_of (slot_bytes y)).refs ≡ y.refs
  unfolding slot_of slot_bytes pair_bytes flat bytes_of tab
  refs_there = sym (tab_of 4 (λ j. key (byte (slot_bytes y) (48 + j))) y.refs (key 0) w.refs (below_four _ refl refl refl refl))

  pub locality_there : (slot_of (slot_bytes y)).locality ≡ y.locality
  unfolding slot_of slot_bytes pair_bytes
  locality_there = refl
