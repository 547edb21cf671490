-- A net image read and written in place: a step looks at few slots of the lent bytes, and writes few.
-- In order: what is looked up is what reading the whole image gives (`slot_part`, `slot_lent`, `node_part`); the bytes once a slot or the
-- present set is written there (`slot_put`, `present_put`), as many as before (`length_slot_put`, `length_present_put`); of a net's bytes they are
-- the bytes of the net with that slot or set (`slot_put_net`, `present_put_net`).
-- Assumes nothing.
use Prim.Native.Nat.{ℕ, zero, suc, ◌+◌, ◌-◌, ◌*◌, ◌<◌}
use Rattle.std.specs.Prelude.{◌≡◌, refl, true, ◌≢◌, ltb, set, get_or, take}
use Rattle.std.proofs.Math.Path.{ap, ap₂, sym}
use Rattle.std.proofs.Common.{◌∙◌, mul-zero, le_of_suc-le-suc, not-suc-le-zero, arith, get_or-set_same, get_or-set_other, ltb-true}
use mathlib.Core.List.{List, ◌++◌, append_assoc}
use Rattle.std.proofs.Math.Nat.{mul-suc, add_comm}
use Rattle.std.proofs.Math.ListN.{length, drop}
use Rattle.std.proofs.Math.Seq.{take-append-add, drop-append-add, drop-append_seam}
use Rattle.laws.specs.Choice.{pick, cases}
use Rattle.laws.specs.Lists.{tab, tab_ext, get_d_tab}
use Rattle.laws.specs.Parts.{flat, put, length_put, part_size}
use Rattle.laws.specs.Words.{word, bytes_of, length_bytes}
use Rattle.names.specs.Names.{key_count, node_count}
use Rattle.names.specs.declared.Key.{Key}
use Rattle.names.specs.declared.Localities.{Localities}
use Rattle.images.specs.Head.{part_at, head_bytes}
use Rattle.images.specs.Script.{action0, action_at}
use Rattle.images.specs.Net.{slot0, slot_at, slot_with, slot_bytes, net_bytes}
use Rattle.images.specs.Read.{action_of, script_of, slot_of, net_of}
use Rattle.images.specs.Layout.{length_head, length_slot}
use Rattle.images.specs.declared.Slot.{Slot}
use Rattle.images.specs.declared.Net.{Net}

-- ---- looked up

pub slot_part : (b : List ℕ) (i : ℕ) → i < key_count → slot_of (part_at 56 b i) ≡ slot_at (net_of b) i
unfolding net_of
slot_part b i h = sym (get_d_tab key_count (λ j. slot_of (part_at 56 b j)) i slot0 h)

-- the slot with a key, read from the bytes that are lent for it
pub slot_lent : (b : List ℕ) (k : Key) → ltb k.0 key_count ≡ true
    → slot_with (net_of b) k ≡ slot_of (take (16 + 56 * k.0 + 56 - (16 + 56 * k.0)) (drop (16 + 56 * k.0) b))
slot_lent b k h =
    let at = 16 + 56 * k.0 in
    rw h (sym (slot_part b k.0 (ltb-true k.0 64 h))) ∙ ap (λ (n : ℕ). slot_of (take n (drop at b))) (sym (part_size at 56))

pub node_part : (b : List ℕ) (i : ℕ) → i < node_count → action_of (part_at 32 b i) ≡ action_at (script_of b) i
unfolding script_of
node_part b i h = sym (get_d_tab node_count (λ j. action_of (part_at 32 b j)) i action0 h)

-- ---- written

-- the bytes once a slot is written at its key; where there is no such key, nothing is
unfoldable pub slot_put : Key → Slot → List ℕ → List ℕ
slot_put k x b = pick (ltb k.0 key_count) (put (16 + 56 * k.0) 56 b (slot_bytes x)) b

-- and once the present set is
unfoldable pub present_put : Localities → List ℕ → List ℕ
present_put p b = put 8 4 b (word p.0)

pub length_slot_put : (k : Key) (x : Slot) (b : List ℕ) → length b ≡ 3600 → length (slot_put k x b) ≡ 3600
unfolding slot_put
length_slot_put k x b e =
    cases (ltb k.0 key_count)
    (λ h.
    let below : k.0 < 64 = ltb-true k.0 64 h in
    rw h (length_put (16 + 56 * k.0) 56 b (slot_bytes x) (omega (arith, below, e)) (length_slot x) ∙ e))
    (λ h. rw h e)

pub length_present_put : (p : Localities) (b : List ℕ) → length b ≡ 3600 → length (present_put p b) ≡ 3600
unfolding present_put
length_present_put p b e = length_put 8 4 b (word p.0) (omega (arith, e)) (length_bytes 4 p.0) ∙ e

module _ {A : Type 0} where
  -- a part behind a list
  put_behind : (x r y : List A) (a c : ℕ) → put (length x + a) c (x ++ r) y ≡ x ++ put a c r y
  put_behind x r y a c =
      ap₂ (λ (f t : List A). f ++ (y ++ drop c t)) (take-append-add x r a) (drop-append-add x r a) ∙
      append_assoc x (take a r) (y ++ drop c (drop a r))

  -- one of the parts that make up a list
  put_part : (c k : ℕ) (g h : ℕ → List A) (i : ℕ) → i < k → ((j : ℕ) → length (g j) ≡ c) → ((j : ℕ) → j ≢ i → h j ≡ g j)
      → put (c * i) c (flat (tab k g)) (h i) ≡ flat (tab k h)
  unfolding flat tab
  put_part c zero g h i l s o = absurd (not-suc-le-zero l)
  put_part c (suc k) g h zero l s o =
      let rest : drop c (g 0 ++ flat (tab k (λ j. g (suc j)))) ≡ flat (tab k (λ j. h (suc j))) =
      ap (λ (m : ℕ). drop m (g 0 ++ flat (tab k (λ j. g (suc j))))) (sym (s 0)) ∙ drop-append_seam (g 0) (flat (tab k (λ j. g (suc j)))) ∙
      ap flat (tab_ext k (λ j. g (suc j)) (λ j. h (suc j)) (λ j q. sym (o (suc j) (λ e. omega (arith, e))))) in
      rw (mul-zero c) (ap (λ (r : List A). h 0 ++ r) rest)
  put_part c (suc k) g h (suc i) l s o =
      let e : c * suc i ≡ length (g 0) + c * i = mul-suc c i ∙ add_comm (c * i) c ∙ ap (λ (n : ℕ). n + c * i) (sym (s 0)) in
      let same : g 0 ≡ h 0 = sym (o 0 (λ z. omega (arith, z))) in
      rw e
      (put_behind (g 0) (flat (tab k (λ j. g (suc j)))) (h (suc i)) (c * i) c ∙
      ap₂ (λ (f r : List A). f ++ r) same
      (put_part c k (λ j. g (suc j)) (λ j. h (suc j)) i (le_of_suc-le-suc l) (λ j. s (suc j)) (λ j d. o (suc j) (λ z. d (omega (arith, z))))))

pub slot_put_net : (n : Net) → length n.slots ≡ key_count → (k : Key) (x : Slot)
    → slot_put k x (net_bytes n) ≡ net_bytes (record { present = n.present; slots = pick (ltb k.0 key_count) (set n.slots k.0 x) n.slots })
unfolding slot_put net_bytes
slot_put_net n len k x =
    cases (ltb k.0 key_count)
    (λ t.
    let below : k.0 < 64 = ltb-true k.0 64 t in
    let head = head_bytes 78 n.present.0 in
    let old : ℕ → List ℕ = λ i. slot_bytes (slot_at n i) in
    let new : ℕ → List ℕ = λ i. slot_bytes (get_or (set n.slots k.0 x) i slot0) in
    let there : new k.0 ≡ slot_bytes x = ap slot_bytes (get_or-set_same n.slots k.0 x slot0 (omega (arith, below, len))) in
    let behind : put (16 + 56 * k.0) 56 (head ++ flat (tab key_count old)) (slot_bytes x) ≡ head ++ put (56 * k.0) 56 (flat (tab key_count old)) (slot_bytes x) =
    ap (λ (m : ℕ). put (m + 56 * k.0) 56 (head ++ flat (tab key_count old)) (slot_bytes x)) (sym (length_head 78 n.present.0)) ∙
    put_behind head (flat (tab key_count old)) (slot_bytes x) (56 * k.0) 56 in
    rw t
    (behind ∙
    ap (λ (r : List ℕ). head ++ r)
    (ap (λ (y : List ℕ). put (56 * k.0) 56 (flat (tab key_count old)) y) (sym there) ∙
    put_part 56 key_count old new k.0 below (λ j. length_slot (slot_at n j)) (λ j d. ap slot_bytes (get_or-set_other n.slots k.0 j x slot0 d)))))
    (λ t. rw t)

pub present_put_net : (n : Net) (p : Localities) → present_put p (net_bytes n) ≡ net_bytes (record { present = p; slots = n.slots })
unfolding present_put net_bytes head_bytes bytes_of
present_put_net n p = refl
