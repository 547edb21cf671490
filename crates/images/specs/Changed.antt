-- A record changed where it lies: one variable, or one reference, of the slot with a key.
-- In order: the 56 bytes of a slot with one of these set (`variable_set`, `reference_set`), which are those of the slot with it (`variable_set_lem`,
-- `reference_set_lem`); the bytes of a net (`variable_put`, `reference_put`), as many as before (`length_variable_put`, `length_reference_put`); in the
-- slot that was written there last (`variable_put_lem`, `reference_put_lem`).
-- Assumes nothing.
use Rattle.std.specs.Prelude.{ℕ, zero, suc, ◌+◌, ◌*◌, ◌<◌, ◌≤◌, ◌≡◌, ltb, get_or, set, take, drop}
use Rattle.std.proofs.Math.Path.{refl, ap}
use Rattle.std.proofs.Common.{ap₂, sym, ◌∙◌, arith, length-drop, length-take-le, take_at, drop_at}
use mathlib.Core.List.{List, ◌++◌}
use Rattle.std.proofs.Math.ListN.{length, length-set}
use borrow.Author.Tests.{ltb-true}
use Rattle.laws.specs.Choice.{pick, cases}
use Rattle.laws.specs.Lists.{tab, tab_of}
use Rattle.laws.specs.Parts.{flat, put, length_put}
use Rattle.laws.specs.Words.{word, bytes_of, length_bytes}
use Rattle.names.specs.Names.{key_count, key}
use Rattle.names.specs.declared.Key.{Key}
use Rattle.names.specs.declared.Variable.{Variable}
use Rattle.names.specs.declared.Reference.{Reference}
use Rattle.images.specs.Head.{part_at, pair_bytes}
use Rattle.images.specs.Net.{datum0, slot_bytes}
use Rattle.images.specs.InPlace.{slot_put}
use Rattle.images.specs.Layout.{length_slot}
use Rattle.images.specs.declared.Datum.{Datum}
use Rattle.images.specs.declared.Slot.{Slot}

-- ---- the bytes of a slot

-- tags from 8 on, and numbers of four bytes from 16 on
abbrev pub variable_set : ℕ → Datum → List ℕ → List ℕ
variable_set v d p = put (16 + 4 * v) 4 (set p (8 + v) d.tag) (word d.number)

-- references from 48 on
abbrev pub reference_set : ℕ → Key → List ℕ → List ℕ
reference_set i k p = set p (48 + i) k.0

-- the slot with other contents, or other references
abbrev pub with_contents : Slot → List Datum → Slot
with_contents y c =
    record {
      kind = y.kind;
      locality = y.locality;
      node = y.node;
      count = y.count;
      first = y.first;
      second = y.second;
      used = y.used;
      place = y.place;
      contents = c;
      refs = y.refs;
    }

abbrev pub with_refs : Slot → List Key → Slot
with_refs y r =
    record {
      kind = y.kind;
      locality = y.locality;
      node = y.node;
      count = y.count;
      first = y.first;
      second = y.second;
      used = y.used;
      place = y.place;
      contents = y.contents;
      refs = r;
    }

below_eight : (P : ℕ → Type 0) → P 0 → P 1 → P 2 → P 3 → P 4 → P 5 → P 6 → P 7 → (j : ℕ) → j < 8 → P j
below_eight P a b c d e f g h zero l = a
below_eight P a b c d e f g h (suc zero) l = b
below_eight P a b c d e f g h (suc (suc zero)) l = c
below_eight P a b c d e f g h (suc (suc (suc zero))) l = d
below_eight P a b c d e f g h (suc (suc (suc (suc zero)))) l = e
below_eight P a b c d e f g h (suc (suc (suc (suc (suc zero))))) l = f
below_eight P a b c d e f g h (suc (suc (suc (suc (suc (suc zero)))))) l = g
below_eight P a b c d e f g h (suc (suc (suc (suc (suc (suc (suc zero))))))) l = h
below_eight P a b c d e f g h (suc (suc (suc (suc (suc (suc (suc (suc j)))))))) l = absurd (omega arith)

pub below_four : (P : ℕ → Type 0) → P 0 → P 1 → P 2 → P 3 → (j : ℕ) → j < 4 → P j
below_four P a b c d zero l = a
below_four P a b c d (suc zero) l = b
below_four P a b c d (suc (suc zero)) l = c
below_four P a b c d (suc (suc (suc zero))) l = d
below_four P a b c d (suc (suc (suc (suc j)))) l = absurd (omega arith)

module _ (y : Slot) where
  -- of eight variables that are written out, each by computing
  variable_each : (f : ℕ → Datum) (d : Datum) (v : ℕ) → v < 8
      → variable_set v d (slot_bytes (with_contents y (tab 8 f))) ≡ slot_bytes (with_contents y (set (tab 8 f) v d))
  unfolding slot_bytes pair_bytes tab flat bytes_of
  variable_each f d =
      below_eight (λ v. variable_set v d (slot_bytes (with_contents y (tab 8 f))) ≡ slot_bytes (with_contents y (set (tab 8 f) v d)))
      refl refl refl refl refl refl refl refl

  pub variable_set_lem : length y.contents ≡ 8 → (v : ℕ) → v < 8 → (d : Datum)
      → variable_set v d (slot_bytes y) ≡ slot_bytes (with_contents y (set y.contents v d))
  variable_set_lem eight v l d =
      let f : ℕ → Datum = λ j. get_or y.contents j datum0 in
      let is : y.contents ≡ tab 8 f = tab_of 8 f y.contents datum0 eight (λ i q. refl) in
      ap (λ (c : List Datum). variable_set v d (slot_bytes (with_contents y c))) is ∙ variable_each f d v l ∙
      ap (λ (c : List Datum). slot_bytes (with_contents y (set c v d))) (sym is)

  reference_each : (f : ℕ → Key) (k : Key) (i : ℕ) → i < 4
      → reference_set i k (slot_bytes (with_refs y (tab 4 f))) ≡ slot_bytes (with_refs y (set (tab 4 f) i k))
  unfolding slot_bytes pair_bytes tab flat bytes_of
  reference_each f k =
      below_four (λ i. reference_set i k (slot_bytes (with_refs y (tab 4 f))) ≡ slot_bytes (with_refs y (set (tab 4 f) i k)))
      refl refl refl refl

  pub reference_set_lem : length y.refs ≡ 4 → (i : ℕ) → i < 4 → (k : Key)
      → reference_set i k (slot_bytes y) ≡ slot_bytes (with_refs y (set y.refs i k))
  reference_set_lem four i l k =
      let f : ℕ → Key = λ j. get_or y.refs j (key 0) in
      let is : y.refs ≡ tab 4 f = tab_of 4 f y.refs (key 0) four (λ j q. refl) in
      ap (λ (r : List Key). reference_set i k (slot_bytes (with_refs y r))) is ∙ reference_each f k i l ∙
      ap (λ (r : List Key). slot_bytes (with_refs y (set r i k))) (sym is)

-- ---- the bytes of a net

-- the bytes once those of the slot with a key are changed; where there is no such key, nothing is
abbrev pub part_put : Key → (List ℕ → List ℕ) → List ℕ → List ℕ
part_put k f b = pick (ltb k.0 key_count) (put (16 + 56 * k.0) 56 b (f (part_at 56 b k.0))) b

unfoldable pub variable_put : Key → Variable → Datum → List ℕ → List ℕ
variable_put k v d b = part_put k (variable_set v.0 d) b

unfoldable pub reference_put : Key → Reference → Key → List ℕ → List ℕ
reference_put k i e b = part_put k (reference_set i.0 e) b

module _ {A : Type 0} where
  -- a part that was written is there, and is written over
  pub part_there : (a c : ℕ) (xs ys : List A) → a ≤ length xs → length ys ≡ c → take c (drop a (put a c xs ys)) ≡ ys
  part_there a c xs ys h e =
      ap (take c) (drop_at (take a xs) (ys ++ drop c (drop a xs)) a (length-take-le a xs h)) ∙ take_at ys (drop c (drop a xs)) c e

  put_over : (a c : ℕ) (xs ys zs : List A) → a ≤ length xs → length ys ≡ c → put a c (put a c xs ys) zs ≡ put a c xs zs
  put_over a c xs ys zs h e =
      let l = length-take-le a xs h in
      ap₂ (λ (f r : List A). f ++ (zs ++ r)) (take_at (take a xs) (ys ++ drop c (drop a xs)) a l)
      (ap (drop c) (drop_at (take a xs) (ys ++ drop c (drop a xs)) a l) ∙ drop_at ys (drop c (drop a xs)) c e)

pub length_variable_set : (v : ℕ) → v < 8 → (d : Datum) (p : List ℕ) → length p ≡ 56 → length (variable_set v d p) ≡ 56
length_variable_set v l d p e =
    let s : length (set p (8 + v) d.tag) ≡ 56 = length-set p (8 + v) d.tag ∙ e in
    length_put (16 + 4 * v) 4 (set p (8 + v) d.tag) (word d.number) (omega (arith, s)) (length_bytes 4 d.number) ∙ s

module _ (k : Key) (b : List ℕ) (sized : length b ≡ 3600) where
  length_part_put : (f : List ℕ → List ℕ) → ((p : List ℕ) → length p ≡ 56 → length (f p) ≡ 56) → length (part_put k f b) ≡ 3600
  length_part_put f same =
      cases (ltb k.0 key_count)
      (λ t.
      let below : k.0 < 64 = ltb-true k.0 64 t in
      let part : length (part_at 56 b k.0) ≡ 56 = length-take-le 56 (drop (16 + 56 * k.0) b) (simp length-drop (omega (arith, below, sized))) in
      rw t (length_put (16 + 56 * k.0) 56 b (f (part_at 56 b k.0)) (omega (arith, below, sized)) (same (part_at 56 b k.0) part) ∙ sized))
      (λ t. rw t sized)

  pub length_variable_put : (v : Variable) → v.0 < 8 → (d : Datum) → length (variable_put k v d b) ≡ 3600
  unfolding variable_put
  length_variable_put v l d = length_part_put (variable_set v.0 d) (length_variable_set v.0 l d)

  pub length_reference_put : (i : Reference) (e : Key) → length (reference_put k i e b) ≡ 3600
  unfolding reference_put
  length_reference_put i e = length_part_put (reference_set i.0 e) (λ p q. length-set p (48 + i.0) e.0 ∙ q)

  part_put_lem : (f : List ℕ → List ℕ) (y z : Slot) → f (slot_bytes y) ≡ slot_bytes z → part_put k f (slot_put k y b) ≡ slot_put k z b
  unfolding slot_put
  part_put_lem f y z e =
      cases (ltb k.0 key_count)
      (λ t.
      let below : k.0 < 64 = ltb-true k.0 64 t in
      let fits : 16 + 56 * k.0 ≤ length b = omega (arith, below, sized) in
      rw t
      (ap (λ (p : List ℕ). put (16 + 56 * k.0) 56 (put (16 + 56 * k.0) 56 b (slot_bytes y)) (f p)) (part_there (16 + 56 * k.0) 56 b (slot_bytes y) fits (length_slot y)) ∙
      put_over (16 + 56 * k.0) 56 b (slot_bytes y) (f (slot_bytes y)) fits (length_slot y) ∙
      ap (put (16 + 56 * k.0) 56 b) e))
      (λ t. rw t)

  pub variable_put_lem : (y : Slot) → length y.contents ≡ 8 → (v : Variable) → v.0 < 8 → (d : Datum)
      → variable_put k v d (slot_put k y b) ≡ slot_put k (with_contents y (set y.contents v.0 d)) b
  unfolding variable_put
  variable_put_lem y eight v l d =
      part_put_lem (variable_set v.0 d) y (with_contents y (set y.contents v.0 d)) (variable_set_lem y eight v.0 l d)

  pub reference_put_lem : (y : Slot) → length y.refs ≡ 4 → (i : Reference) → i.0 < 4 → (e : Key)
      → reference_put k i e (slot_put k y b) ≡ slot_put k (with_refs y (set y.refs i.0 e)) b
  unfolding reference_put
  reference_put_lem y four i l e =
      part_put_lem (reference_set i.0 e) y (with_refs y (set y.refs i.0 e)) (reference_set_lem y four i.0 l e)
