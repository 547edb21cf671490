-- What is written is bytes: the image of a net in range holds numbers below 256, so that a call leaves bytes.
--
-- In order: lists of bytes put together (`bytes_append`, `bytes_table`, `bytes_parts`); a slot in range has small numbers (`Small`, `small`); the
-- bytes of a slot (`bytes_slot`) and of a net (`bytes_net`).
-- Assumes nothing.
use Rattle.std.specs.Prelude.{ℕ, zero, suc, ◌/◌, ◌<◌, ◌≤◌, ◌≡◌, true, ◌&&◌, List, [], ◌∷◌, ◌++◌, eqb, ltb, leb, get_or}
use Rattle.std.proofs.Common.{suc-le-suc, arith, eqb-true, ltb-true, leb-true}
use Rattle.laws.specs.Choice.{cases, and_left, and_right}
use Rattle.laws.specs.Checks.{all_at}
use Rattle.laws.specs.Lists.{tab}
use Rattle.laws.specs.Parts.{flat}
use Rattle.laws.specs.Words.{bytes_of, word, Bytes}
use Rattle.names.specs.Names.{key_count, locality_count, none, key, below_or_none, is_key_or_none, is_locality, is_node}
use Rattle.images.specs.Head.{head_bytes, pair_bytes}
use Rattle.images.specs.Net.{datum0, datum_at, ref_at, slot_at, is_tuple, node_or_count, first_bytes, slot_bytes, net_bytes, is_unset, is_set, is_datum, variables_in_range, field_or_blank, data_fill, made_are, refs_are, made_in_range, refs_in_range, free_in_range, process_in_range, tuple_in_range, slot_in_range, net_in_range}
use Rattle.images.specs.declared.Datum.{Datum}
use Rattle.images.specs.declared.Slot.{Slot}
use Rattle.images.specs.declared.Net.{Net}
use Rattle.rules.specs.Image.{kind_few}

-- ---- lists of bytes

-- element by element
abbrev Each : List ℕ → Type 0
Each [] = Unit
Each (x ∷ l) = (x < 256) × Each l

bytes_each : (l : List ℕ) → Each l → Bytes l
bytes_each [] h i = omega arith
bytes_each (x ∷ l) h zero = h.0
bytes_each (x ∷ l) h (suc i) = bytes_each l h.1 i

bytes_append : (k l : List ℕ) → Bytes k → Bytes l → Bytes (k ++ l)
bytes_append [] l a b i = b i
bytes_append (x ∷ k) l a b zero = a 0
bytes_append (x ∷ k) l a b (suc i) = bytes_append k l (λ j. a (suc j)) b i

bytes_table : (k : ℕ) (f : ℕ → ℕ) → ((i : ℕ) → i < k → f i < 256) → Bytes (tab k f)
unfolding tab
bytes_table zero f h i = omega arith
bytes_table (suc k) f h zero = h 0 (omega arith)
bytes_table (suc k) f h (suc i) = bytes_table k (λ j. f (suc j)) (λ j l. h (suc j) (suc-le-suc l)) i

bytes_parts : (k : ℕ) (g : ℕ → List ℕ) → ((i : ℕ) → i < k → Bytes (g i)) → Bytes (flat (tab k g))
unfolding tab flat
bytes_parts zero g h = λ i. omega arith
bytes_parts (suc k) g h =
    bytes_append (g 0) (flat (tab k (λ j. g (suc j)))) (h 0 (omega arith)) (bytes_parts k (λ j. g (suc j)) (λ j l. h (suc j) (suc-le-suc l)))

bytes_number : (k x : ℕ) → Bytes (bytes_of k x)
unfolding bytes_of
bytes_number zero x i = omega arith
bytes_number (suc k) x zero = omega arith
bytes_number (suc k) x (suc i) = bytes_number k (x / 256) i

bytes_zeros : Bytes (0 ∷ 0 ∷ 0 ∷ 0 ∷ [])
bytes_zeros = bytes_each (0 ∷ 0 ∷ 0 ∷ 0 ∷ []) (omega arith, (omega arith, (omega arith, (omega arith, tt))))

-- ---- a slot in range has small numbers

small_or_none : (count b : ℕ) → count ≤ 255 → below_or_none count b ≡ true → b < 256
small_or_none count b few h =
    cases (eqb b none) (λ e. omega (arith, eqb-true b none e)) (λ e. omega (arith, ltb-true b count (rw e at h)))

small_equal : (b c : ℕ) → c ≤ 255 → eqb b c ≡ true → b < 256
small_equal b c few h = omega (arith, eqb-true b c h)

-- the four of bytes 3 to 6
record Made (x : Slot) : Type 0 where
  first : x.first.0 < 256
  second : x.second.0 < 256
  used : x.used.0 < 256
  place : x.place.0 < 256

made_equal : (b : ℕ) (x : Slot) → b ≤ 255 → made_are b x ≡ true → Made x
unfolding made_are
made_equal b x few h =
    let h₁ = and_right (eqb x.first.0 b) _ h in
    let h₂ = and_right (eqb x.second.0 b) _ h₁ in
    record {
      first = small_equal x.first.0 b few (and_left (eqb x.first.0 b) _ h);
      second = small_equal x.second.0 b few (and_left (eqb x.second.0 b) _ h₁);
      used = small_equal x.used.0 b few (and_left (eqb x.used.0 b) _ h₂);
      place = small_equal x.place.0 b few (and_right (eqb x.used.0 b) _ h₂);
    }

made_range : (x : Slot) → made_in_range x ≡ true → Made x
unfolding made_in_range
made_range x h =
    let h₁ = and_right (is_key_or_none x.first) _ h in
    let h₂ = and_right (is_key_or_none x.second) _ h₁ in
    record {
      first = small_or_none key_count x.first.0 (omega arith) (and_left (is_key_or_none x.first) _ h);
      second = small_or_none key_count x.second.0 (omega arith) (and_left (is_key_or_none x.second) _ h₁);
      used = small_or_none key_count x.used.0 (omega arith) (and_left (is_key_or_none x.used) _ h₂);
      place = small_or_none locality_count x.place.0 (omega arith) (and_right (is_key_or_none x.used) _ h₂);
    }

set_tag : (d : Datum) → is_set d ≡ true → d.tag < 256
unfolding is_set
set_tag d h =
    cases (eqb d.tag 1) (λ e. omega (arith, eqb-true d.tag 1 e))
    (λ e. omega (arith, eqb-true d.tag 2 (and_left (eqb d.tag 2) (ltb d.number locality_count) (rw e at h))))

unset_tag : (d : Datum) → is_unset d ≡ true → d.tag < 256
unfolding is_unset
unset_tag d h = omega (arith, eqb-true d.tag 0 (and_left (eqb d.tag 0) _ h))

datum_tag : (d : Datum) → is_datum d ≡ true → d.tag < 256
unfolding is_datum
datum_tag d h = cases (eqb d.tag 0) (λ e. omega (arith, eqb-true d.tag 0 e)) (λ e. set_tag d (rw e at h))

-- tags and references, by index
abbrev Tags : Slot → Type 0
Tags x = (j : ℕ) → j < 8 → (datum_at x j).tag < 256

abbrev Refs : Slot → Type 0
Refs x = (j : ℕ) → j < 4 → (ref_at x j).0 < 256

variable_tags : (x : Slot) → variables_in_range x.contents ≡ true → Tags x
unfolding variables_in_range
variable_tags x h j l = datum_tag (datum_at x j) (all_at 8 (λ j. is_datum (get_or x.contents j datum0)) h j l)

filled_tags : (count : ℕ) (x : Slot) → data_fill count x.contents ≡ true → Tags x
unfolding data_fill field_or_blank
filled_tags count x h j l =
    let at = all_at 8 (λ j. field_or_blank count j (get_or x.contents j datum0)) h j l in
    cases (ltb j count) (λ t. set_tag (datum_at x j) (rw t at at)) (λ t. unset_tag (datum_at x j) (rw t at at))

equal_refs : (b : ℕ) (x : Slot) → b ≤ 255 → refs_are b x.refs ≡ true → Refs x
unfolding refs_are
equal_refs b x few h j l = small_equal (ref_at x j).0 b few (all_at 4 (λ j. eqb (get_or x.refs j (key 0)).0 b) h j l)

range_refs : (x : Slot) → refs_in_range x.refs ≡ true → Refs x
unfolding refs_in_range
range_refs x h j l = small_or_none key_count (ref_at x j).0 (omega arith) (all_at 4 (λ j. is_key_or_none (get_or x.refs j (key 0))) h j l)

-- what a slot's bytes are made of, but for its words
record Small (x : Slot) : Type 0 where
  locality : x.locality.0 < 256
  node : x.node.0 < 256
  count : x.count < 256
  made : Made x
  refs : Refs x
  tags : Tags x

small_free : (x : Slot) → free_in_range x ≡ true → Small x
unfolding free_in_range
small_free x h =
    let h₁ = and_right (eqb x.locality.0 0) _ h in
    let h₂ = and_right (eqb x.node.0 0) _ h₁ in
    let h₃ = and_right (eqb x.count 0) _ h₂ in
    let h₄ = and_right (made_are 0 x) _ h₃ in
    record {
      locality = small_equal x.locality.0 0 (omega arith) (and_left (eqb x.locality.0 0) _ h);
      node = small_equal x.node.0 0 (omega arith) (and_left (eqb x.node.0 0) _ h₁);
      count = small_equal x.count 0 (omega arith) (and_left (eqb x.count 0) _ h₂);
      made = made_equal 0 x (omega arith) (and_left (made_are 0 x) _ h₃);
      refs = equal_refs 0 x (omega arith) (and_left (refs_are 0 x.refs) _ h₄);
      tags = filled_tags 0 x (and_right (refs_are 0 x.refs) _ h₄);
    }

small_process : (x : Slot) → Made x → process_in_range x ≡ true → Small x
unfolding process_in_range
small_process x m h =
    let h₁ = and_right (is_locality x.locality) _ h in
    let h₂ = and_right (is_node x.node) _ h₁ in
    let h₃ = and_right (eqb x.count 0) _ h₂ in
    record {
      locality = omega (arith, ltb-true x.locality.0 locality_count (and_left (is_locality x.locality) _ h));
      node = omega (arith, ltb-true x.node.0 64 (and_left (is_node x.node) _ h₁));
      count = small_equal x.count 0 (omega arith) (and_left (eqb x.count 0) _ h₂);
      made = m;
      refs = range_refs x (and_left (refs_in_range x.refs) _ h₃);
      tags = variable_tags x (and_right (refs_in_range x.refs) _ h₃);
    }

small_tuple : (x : Slot) → tuple_in_range x ≡ true → Small x
unfolding tuple_in_range
small_tuple x h =
    let h₁ = and_right (is_locality x.locality) _ h in
    let h₂ = and_right (eqb x.node.0 0) _ h₁ in
    let h₃ = and_right (leb 1 x.count) _ h₂ in
    let h₄ = and_right (leb x.count 4) _ h₃ in
    let h₅ = and_right (made_are none x) _ h₄ in
    record {
      locality = omega (arith, ltb-true x.locality.0 locality_count (and_left (is_locality x.locality) _ h));
      node = small_equal x.node.0 0 (omega arith) (and_left (eqb x.node.0 0) _ h₁);
      count = omega (arith, leb-true x.count 4 (and_left (leb x.count 4) _ h₃));
      made = made_equal none x (omega arith) (and_left (made_are none x) _ h₄);
      refs = equal_refs none x (omega arith) (and_left (refs_are none x.refs) _ h₅);
      tags = filled_tags x.count x (and_right (refs_are none x.refs) _ h₅);
    }

small : (x : Slot) → slot_in_range x ≡ true → Small x
unfolding slot_in_range
small x h =
    cases (eqb x.kind 0) (λ e. small_free x (rw e at h))
    (λ n0. cases (eqb x.kind 1)
    (λ e.
    let q : (made_are none x && process_in_range x) ≡ true = rw (n0, e) at h in
    small_process x (made_equal none x (omega arith) (and_left (made_are none x) _ q)) (and_right (made_are none x) _ q))
    (λ n1. cases (eqb x.kind 2)
    (λ e.
    let q : (made_in_range x && process_in_range x) ≡ true = rw (n0, n1, e) at h in
    small_process x (made_range x (and_left (made_in_range x) _ q)) (and_right (made_in_range x) _ q))
    (λ n2. small_tuple x (and_right (leb x.kind 4) (tuple_in_range x) (rw (n0, n1, n2) at h)))))

-- ---- the bytes of a slot, and of a net

bytes_pairs : (k : ℕ) (tag num : ℕ → ℕ) → ((j : ℕ) → j < k → tag j < 256) → Bytes (pair_bytes k tag num)
unfolding pair_bytes
bytes_pairs k tag num h =
    bytes_append (tab k tag) (flat (tab k (λ j. word (num j)))) (bytes_table k tag h)
    (bytes_parts k (λ j. word (num j)) (λ j l. bytes_number 4 (num j)))

bytes_first : (x : Slot) → x.kind ≤ 4 → Small x → Bytes (first_bytes x)
bytes_first x k w =
    let number : node_or_count x < 256 = cases (is_tuple x.kind) (λ t. rw t w.count) (λ t. rw t w.node) in
    bytes_each (first_bytes x)
    (omega arith, (w.locality, (number, (w.made.first, (w.made.second, (w.made.used, (w.made.place, (omega arith, tt))))))))

bytes_slot : (x : Slot) → slot_in_range x ≡ true → Bytes (slot_bytes x)
unfolding slot_bytes
bytes_slot x h =
    let w = small x h in
    let pairs = pair_bytes 8 (λ j. (datum_at x j).tag) (λ j. (datum_at x j).number) in
    let refs = tab 4 (λ j. (ref_at x j).0) in
    let zeros : List ℕ = 0 ∷ 0 ∷ 0 ∷ 0 ∷ [] in
    bytes_append (first_bytes x) (pairs ++ (refs ++ zeros)) (bytes_first x (kind_few x h) w)
    (bytes_append pairs (refs ++ zeros) (bytes_pairs 8 (λ j. (datum_at x j).tag) (λ j. (datum_at x j).number) w.tags)
    (bytes_append refs zeros (bytes_table 4 (λ j. (ref_at x j).0) w.refs) bytes_zeros))

bytes_head : (w : ℕ) → Bytes (head_bytes 78 w)
unfolding head_bytes
bytes_head w =
    bytes_append (82 ∷ 84 ∷ 78 ∷ 0 ∷ 1 ∷ 0 ∷ 0 ∷ 0 ∷ []) (word w ++ (0 ∷ 0 ∷ 0 ∷ 0 ∷ []))
    (bytes_each (82 ∷ 84 ∷ 78 ∷ 0 ∷ 1 ∷ 0 ∷ 0 ∷ 0 ∷ [])
    (omega arith, (omega arith, (omega arith, (omega arith, (omega arith, (omega arith, (omega arith, (omega arith, tt)))))))))
    (bytes_append (word w) (0 ∷ 0 ∷ 0 ∷ 0 ∷ []) (bytes_number 4 w) bytes_zeros)

pub bytes_net : (n : Net) → net_in_range n ≡ true → Bytes (net_bytes n)
unfolding net_bytes net_in_range
bytes_net n h =
    bytes_append (head_bytes 78 n.present.0) (flat (tab key_count (λ i. slot_bytes (slot_at n i)))) (bytes_head n.present.0)
    (bytes_parts key_count (λ i. slot_bytes (slot_at n i)) (λ i l. bytes_slot (slot_at n i) (all_at key_count (λ i. slot_in_range (slot_at n i)) h i l)))
