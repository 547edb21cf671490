-- Reading undoes writing, and writing undoes reading: of a head, of pairs, of a node, of a slot, then of an image in parts (`PartLaws`,
-- once for both), of a script and of a net. The theorems that callers cite are in Reading.
-- Assumes nothing.
use Rattle.std.specs.Prelude.{◌≡◌, Bool, false, ◌&&◌, eqb, leb, length, get_or, take, drop}
use Rattle.std.proofs.Math.Path.{refl, ap, sym}
use Rattle.std.proofs.Common.{ap₂, ◌∙◌, subst, mul-suc, mul-le-mul_left, arith, length-append, length-drop, take-add, drop-drop, length-take-le}
use mathlib.Core.List.{List, [], ◌∷◌, ◌++◌, append_assoc, append-nil}
use Rattle.std.proofs.Math.Bool.{true}
use Prim.Native.Nat.{ℕ, zero, suc, ◌+◌, ◌-◌, ◌*◌, ◌<◌, ◌≤◌}
use borrow.Author.Tests.{eqb-true, eqb-false, eq-eqb, ne_eqb, leb-true, leb-false}
use Rattle.laws.specs.Choice.{pick, cases, and_left, and_right, and_both}
use Rattle.laws.specs.Lists.{tab, tab_of, tab_ext, tab_part, length_tab, get_d_tab, get_d_tab_in}
use Rattle.laws.specs.Checks.{all, all_of, all_at}
use Rattle.laws.specs.Parts.{flat, flat_parts, part_flat_in, whole, pieces_three, pieces_four}
use Rattle.laws.specs.Words.{word, bytes_of, number, word_at, Bytes, length_bytes, number_bytes, bytes_number, bytes_take, bytes_drop, word_word_at, word_at_lt}
use Rattle.images.specs.Head.{byte, head_bytes, head_formed, part_at, pair_bytes, rest_zero}
use Rattle.images.specs.Layout.{length_head, length_action, length_slot, length_script, length_net}
use Rattle.images.specs.Shape.{Word, ShapedAction, ShapedScript, ShapedSlot, ShapedNet}
use Rattle.names.specs.Names.{key_count, node_count, none, key, node, is_locality, is_node}
use Rattle.images.specs.Script
use Rattle.images.specs.Script.{action_bytes, script_bytes, action_in_range, script_in_range, field_at, action_at, field0, action0}
use Rattle.images.specs.Net
use Rattle.images.specs.Net.{slot_bytes, net_bytes, slot_in_range, net_in_range, free_in_range, process_in_range, tuple_in_range, made_are, made_in_range, is_tuple, node_or_count, datum_at, ref_at, slot_at, datum0, slot0}
use Rattle.images.specs.Read.{field_of, action_of, action_formed, nodes_formed, script_of, script_formed, datum_of, slot_of, slot_formed, slots_formed, net_of, net_formed}
use Rattle.names.specs.declared.Key.{Key}
use Rattle.images.specs.declared.Field.{Field}
use Rattle.images.specs.declared.Datum.{Datum}
use Rattle.images.specs.declared.Action.{Action}
use Rattle.images.specs.declared.Script.{Script}
use Rattle.images.specs.declared.Slot.{Slot}
use Rattle.images.specs.declared.Net.{Net}

-- ---- the head

pub word_again : (x : ℕ) → Word x → number (word x) ≡ x
word_again x h = number_bytes 4 x h

pub word_at_word : (b : List ℕ) (at : ℕ) → Bytes b → Word (word_at b at)
word_at_word b at h = word_at_lt b at h

pub head_again : (letter w : ℕ) (t : List ℕ) → head_formed letter (head_bytes letter w ++ t) ≡ true
unfolding head_formed head_bytes bytes_of word_at number
head_again letter w t = simp (eq-eqb (number (82 ∷ 84 ∷ letter ∷ 0 ∷ [])) _ refl)

pub head_word_again : (letter w : ℕ) (t : List ℕ) → Word w → word_at (head_bytes letter w ++ t) 8 ≡ w
unfolding head_bytes word_at bytes_of
head_word_again letter w t h = word_again w h

-- the four words of a head
quarters : (b : List ℕ) → Bytes b → 16 ≤ length b → take 16 b ≡ flat (tab 4 (λ i. word (word_at b (0 + 4 * i))))
quarters b h l =
    sym (flat_parts 4 4 0 b) ∙ ap flat (tab_ext 4 _ _ (λ i q. sym (word_word_at b (0 + 4 * i) h (omega arith))))

mark_bytes : (letter : ℕ) → letter < 256 → Bytes (82 ∷ 84 ∷ letter ∷ 0 ∷ [])
mark_bytes letter h zero = omega arith
mark_bytes letter h (suc zero) = omega arith
mark_bytes letter h (suc (suc zero)) = h
mark_bytes letter h (suc (suc (suc zero))) = omega arith
mark_bytes letter h (suc (suc (suc (suc i)))) = omega arith

head_words : (letter w : ℕ) → (82 ∷ 84 ∷ letter ∷ 0 ∷ []) ++ (word 1 ++ (word w ++ (word 0 ++ []))) ≡ head_bytes letter w
unfolding head_bytes bytes_of
head_words letter w = refl

pub head_back : (letter : ℕ) (b : List ℕ) → letter < 256 → Bytes b → 16 ≤ length b → head_formed letter b ≡ true → take 16 b ≡ head_bytes letter (word_at b 8)
unfolding head_formed head_bytes flat tab
head_back letter b r h l f =
    let mark = eqb-true (word_at b 0) _ (and_left _ _ f) in
    let rest = and_right (eqb (word_at b 0) (number (82 ∷ 84 ∷ letter ∷ 0 ∷ []))) _ f in
    let version = eqb-true (word_at b 4) 1 (and_left _ _ rest) in
    let last = eqb-true (word_at b 12) 0 (and_right (eqb (word_at b 4) 1) _ rest) in
    quarters b h l ∙
    rw (mark, version, last)
    (ap (λ (m : List ℕ). m ++ (word 1 ++ (word (word_at b 8) ++ (word 0 ++ []))))
    (bytes_number (82 ∷ 84 ∷ letter ∷ 0 ∷ []) (mark_bytes letter r)) ∙
    head_words letter (word_at b 8))

-- ---- pairs of a tag and a number

pub pair_tag : (k : ℕ) (tag num : ℕ → ℕ) (h t : List ℕ) (j : ℕ) → length h ≡ 8 → j < k → byte (h ++ (pair_bytes k tag num ++ t)) (8 + j) ≡ tag j
unfolding pair_bytes
pair_tag k tag num h t j e l =
    rw (append_assoc (tab k tag) (flat (tab k (λ i. word (num i)))) t, ← e)
    (get_d_tab_in k tag h (flat (tab k (λ i. word (num i))) ++ t) j 0 l)

pub pair_number : (k : ℕ) (tag num : ℕ → ℕ) (h t : List ℕ) (j : ℕ) → length h ≡ 8 → j < k → Word (num j) → word_at (h ++ (pair_bytes k tag num ++ t)) (8 + k + 4 * j) ≡ num j
unfolding pair_bytes word_at
pair_number k tag num h t j e l w =
    let n : length (h ++ tab k tag) ≡ 8 + k = length-append h (tab k tag) ∙ ap₂ (λ a b. a + b) e (length_tab k tag) in
    let regroup : h ++ (tab k tag ++ flat (tab k (λ i. word (num i))) ++ t) ≡ (h ++ tab k tag) ++ (flat (tab k (λ i. word (num i))) ++ t) =
    simp append_assoc in
    rw (regroup, ← n)
    (ap number (part_flat_in 4 k (λ i. word (num i)) (h ++ tab k tag) t j l (λ i q. length_bytes 4 (num i))) ∙ word_again (num j) w)

pub pairs_back : (k : ℕ) (b : List ℕ) → Bytes b → 8 + (k + 4 * k) ≤ length b → pair_bytes k (λ j. byte b (8 + j)) (λ j. word_at b (8 + k + 4 * j)) ≡ take (k + 4 * k) (drop 8 b)
unfolding pair_bytes
pairs_back k b h l =
    ap₂ (λ x y. x ++ y) (tab_part k 8 b 0 (omega arith))
    (ap flat (tab_ext k _ _ (λ j q. word_word_at b (8 + k + 4 * j) h (omega arith))) ∙ flat_parts 4 k (8 + k) b ∙
    ap (take (4 * k)) (sym (drop-drop k 8 b))) ∙
    sym (take-add k (4 * k) (drop 8 b))

-- ---- pieces of a part

first_back : (p : List ℕ) → 8 ≤ length p → byte p 7 ≡ 0 → byte p 0 ∷ byte p 1 ∷ byte p 2 ∷ byte p 3 ∷ byte p 4 ∷ byte p 5 ∷ byte p 6 ∷ 0 ∷ [] ≡ take 8 p
unfolding tab
first_back p l e =
    ap (λ (z : ℕ). byte p 0 ∷ byte p 1 ∷ byte p 2 ∷ byte p 3 ∷ byte p 4 ∷ byte p 5 ∷ byte p 6 ∷ z ∷ []) (sym e) ∙ tab_part 8 0 p 0 l

zeros_back : (p : List ℕ) (at : ℕ) → Bytes p → at + 4 ≤ length p → word_at p at ≡ 0 → 0 ∷ 0 ∷ 0 ∷ 0 ∷ [] ≡ take 4 (drop at p)
unfolding bytes_of
zeros_back p at b l e = ap word (sym e) ∙ word_word_at p at b l

rest_seven : (size : ℕ) (p : List ℕ) → rest_zero size p ≡ true → byte p 7 ≡ 0
unfolding rest_zero
rest_seven size p r = eqb-true (byte p 7) 0 (and_left (eqb (byte p 7) 0) _ r)

rest_last : (size : ℕ) (p : List ℕ) → rest_zero size p ≡ true → word_at p (size - 4) ≡ 0
unfolding rest_zero
rest_last size p r = eqb-true (word_at p (size - 4)) 0 (and_right (eqb (byte p 7) 0) _ r)

-- ---- a node

module _ (a : Action) (w : ShapedAction a) where
  pub fields_again : tab 4 (field_of (action_bytes a)) ≡ a.fields
  unfolding action_bytes
  fields_again =
      sym
      (tab_of 4 (field_of (action_bytes a)) a.fields field0 w.fields
      (λ j h.
      let t = pair_tag 4 (λ i. (field_at a i).tag) (λ i. (field_at a i).number) (Script.first_bytes a) (0 ∷ 0 ∷ 0 ∷ 0 ∷ []) j refl h in
      let n = pair_number 4 (λ i. (field_at a i).tag) (λ i. (field_at a i).number) (Script.first_bytes a) (0 ∷ 0 ∷ 0 ∷ 0 ∷ []) j refl h (w.numbers j h) in
      sym (λ i. record { tag = t i; number = n i })))

  pub action_again : action_of (action_bytes a) ≡ a
  unfolding action_of action_bytes
  action_again =
      λ i.
      record {
        kind = a.kind;
        next = a.next;
        other = a.other;
        target = a.target;
        reference = a.reference;
        count = a.count;
        fields = fields_again i;
      }

pub action_rest : (a : Action) → rest_zero 32 (action_bytes a) ≡ true
unfolding rest_zero action_bytes pair_bytes tab flat bytes_of word_at number
action_rest a = refl

action_pairs : (p : List ℕ) → pair_bytes 4 (λ j. (field_at (action_of p) j).tag) (λ j. (field_at (action_of p) j).number) ≡ pair_bytes 4 (λ j. byte p (8 + j)) (λ j. word_at p (8 + 4 + 4 * j))
unfolding action_of pair_bytes tab flat
action_pairs p = refl

-- a part of 32 bytes whose unused bytes are 0 is the writing of what it reads as
pub action_back : (p : List ℕ) → Bytes p → length p ≡ 32 → rest_zero 32 p ≡ true → action_bytes (action_of p) ≡ p
unfolding action_bytes action_of
action_back p b l r =
    ap₂ (λ x y. x ++ y) (first_back p (omega arith) (rest_seven 32 p r))
    (ap₂ (λ x y. x ++ y) (action_pairs p ∙ pairs_back 4 p b (omega arith)) (zeros_back p 28 b (omega arith) (rest_last 32 p r))) ∙
    pieces_three 8 20 4 p l

-- ---- a slot

below_four : (P : ℕ → Type 0) → P 0 → P 1 → P 2 → P 3 → (j : ℕ) → j < 4 → P j
below_four P a b c d zero h = a
below_four P a b c d (suc zero) h = b
below_four P a b c d (suc (suc zero)) h = c
below_four P a b c d (suc (suc (suc zero))) h = d
below_four P a b c d (suc (suc (suc (suc j)))) h = absurd (omega arith)

module _ (s : Slot) (r : slot_in_range s ≡ true) where
  -- a tuple has no node, and a process or a free slot no count
  tuple_node : is_tuple s.kind ≡ true → s.node.0 ≡ 0
  unfolding slot_in_range tuple_in_range
  tuple_node t =
      let k : 3 ≤ s.kind = leb-true 3 s.kind t in
      let n0 = ne_eqb s.kind 0 (λ (e : s.kind ≡ 0). omega arith) in
      let n1 = ne_eqb s.kind 1 (λ (e : s.kind ≡ 1). omega arith) in
      let n2 = ne_eqb s.kind 2 (λ (e : s.kind ≡ 2). omega arith) in
      let h : tuple_in_range s ≡ true = and_right (leb s.kind 4) _ (rw (n0, n1, n2) at r) in
      eqb-true s.node.0 0 (and_left (eqb s.node.0 0) _ (and_right (is_locality s.locality) _ h))

  free_count : free_in_range s ≡ true → s.count ≡ 0
  unfolding free_in_range
  free_count h =
      eqb-true s.count 0
      (and_left (eqb s.count 0) _ (and_right (eqb s.node.0 0) _ (and_right (eqb s.locality.0 0) _ h)))

  process_count : process_in_range s ≡ true → s.count ≡ 0
  unfolding process_in_range
  process_count h =
      eqb-true s.count 0
      (and_left (eqb s.count 0) _ (and_right (is_node s.node) _ (and_right (is_locality s.locality) _ h)))

  plain_count : is_tuple s.kind ≡ false → s.count ≡ 0
  unfolding slot_in_range
  plain_count t =
      let k : s.kind < 3 = leb-false 3 s.kind t in
      cases (eqb s.kind 0)
      (λ e. free_count (rw e at r))
      (λ n0. cases (eqb s.kind 1)
      (λ e. process_count (and_right (made_are none s) _ (rw (n0, e) at r)))
      (λ n1. cases (eqb s.kind 2)
      (λ e. process_count (and_right (made_in_range s) _ (rw (n0, n1, e) at r)))
      (λ n2. absurd (omega (arith, eqb-false s.kind 0 n0, eqb-false s.kind 1 n1, eqb-false s.kind 2 n2)))))

  node_again : node (pick (is_tuple s.kind) 0 (node_or_count s)) ≡ s.node
  node_again =
      cases (is_tuple s.kind) (λ t. rw t (λ i. record { 0 = sym (tuple_node t) i })) (λ t. rw t refl)

  count_again : pick (is_tuple s.kind) (node_or_count s) 0 ≡ s.count
  count_again = cases (is_tuple s.kind) (λ t. rw t refl) (λ t. rw t (sym (plain_count t)))

  module _ (w : ShapedSlot s) where
    contents_again : tab 8 (datum_of (slot_bytes s)) ≡ s.contents
    unfolding slot_bytes
    contents_again =
        let t' : List ℕ = tab 4 (λ j. (ref_at s j).0) ++ (0 ∷ 0 ∷ 0 ∷ 0 ∷ []) in
        sym
        (tab_of 8 (datum_of (slot_bytes s)) s.contents datum0 w.contents
        (λ j h.
        let t = pair_tag 8 (λ i. (datum_at s i).tag) (λ i. (datum_at s i).number) (Net.first_bytes s) t' j refl h in
        let n = pair_number 8 (λ i. (datum_at s i).tag) (λ i. (datum_at s i).number) (Net.first_bytes s) t' j refl h (w.numbers j h) in
        sym (λ i. record { tag = t i; number = n i })))

    refs_again : tab 4 (λ j. key (byte (slot_bytes s) (48 + j))) ≡ s.refs
    unfolding slot_bytes pair_bytes flat bytes_of tab
    refs_again = sym (tab_of 4 (λ j. key (byte (slot_bytes s) (48 + j))) s.refs (key 0) w.refs (below_four _ refl refl refl refl))

    pub slot_again : slot_of (slot_bytes s) ≡ s
    unfolding slot_of slot_bytes
    slot_again =
        λ i.
        record {
          kind = s.kind;
          locality = s.locality;
          node = node_again i;
          count = count_again i;
          first = s.first;
          second = s.second;
          used = s.used;
          place = s.place;
          contents = contents_again i;
          refs = refs_again i;
        }

pub slot_rest : (s : Slot) → rest_zero 56 (slot_bytes s) ≡ true
unfolding rest_zero slot_bytes pair_bytes tab flat bytes_of word_at number
slot_rest s = refl

-- byte 2 of what was read is the byte that stood there
second_back : (t : Bool) (x : ℕ) → pick t (pick t x 0) (pick t 0 x) ≡ x
second_back true x = refl
second_back false x = refl

slot_first : (p : List ℕ) → Net.first_bytes (slot_of p) ≡ byte p 0 ∷ byte p 1 ∷ byte p 2 ∷ byte p 3 ∷ byte p 4 ∷ byte p 5 ∷ byte p 6 ∷ 0 ∷ []
unfolding slot_of
slot_first p =
    ap (λ (z : ℕ). byte p 0 ∷ byte p 1 ∷ z ∷ byte p 3 ∷ byte p 4 ∷ byte p 5 ∷ byte p 6 ∷ 0 ∷ [])
    (second_back (is_tuple (byte p 0)) (byte p 2))

slot_pairs : (p : List ℕ) → pair_bytes 8 (λ j. (datum_at (slot_of p) j).tag) (λ j. (datum_at (slot_of p) j).number) ≡ pair_bytes 8 (λ j. byte p (8 + j)) (λ j. word_at p (8 + 8 + 4 * j))
unfolding slot_of pair_bytes tab flat
slot_pairs p = refl

slot_refs : (p : List ℕ) → tab 4 (λ j. (ref_at (slot_of p) j).0) ≡ tab 4 (λ j. byte p (48 + j))
unfolding slot_of tab
slot_refs p = refl

-- a part of 56 bytes whose unused bytes are 0 is the writing of what it reads as
pub slot_back : (p : List ℕ) → Bytes p → length p ≡ 56 → rest_zero 56 p ≡ true → slot_bytes (slot_of p) ≡ p
unfolding slot_bytes
slot_back p b l r =
    ap₂ (λ x y. x ++ y) (slot_first p ∙ first_back p (omega arith) (rest_seven 56 p r))
    (ap₂ (λ x y. x ++ y) (slot_pairs p ∙ pairs_back 8 p b (omega arith))
    (ap₂ (λ x y. x ++ y) (slot_refs p ∙ tab_part 4 48 p 0 (omega arith)) (zeros_back p 52 b (omega arith) (rest_last 56 p r)))) ∙
    pieces_four 8 40 4 4 p l

-- a slot with the contents and the references of such a part: the bytes that hold these are those that stand there
pub slot_keeping : (p : List ℕ) → Bytes p → length p ≡ 56 → (s : Slot) → s.contents ≡ (slot_of p).contents → s.refs ≡ (slot_of p).refs
    → Net.first_bytes s ++ (take 44 (drop 8 p) ++ (0 ∷ 0 ∷ 0 ∷ 0 ∷ [])) ≡ slot_bytes s
unfolding slot_bytes
slot_keeping p b l s same-contents same-refs =
    let zeros : List ℕ = 0 ∷ 0 ∷ 0 ∷ 0 ∷ [] in
    let contents : pair_bytes 8 (λ j. (datum_at s j).tag) (λ j. (datum_at s j).number) ≡ take 40 (drop 8 p) =
    ap (λ (c : List Datum). pair_bytes 8 (λ j. (get_or c j datum0).tag) (λ j. (get_or c j datum0).number)) same-contents ∙ slot_pairs p ∙
    pairs_back 8 p b (omega arith) in
    let refs : tab 4 (λ j. (ref_at s j).0) ≡ take 4 (drop 48 p) =
    ap (λ (c : List Key). tab 4 (λ j. (get_or c j (key 0)).0)) same-refs ∙ slot_refs p ∙ tab_part 4 48 p 0 (omega arith) in
    let both : take 44 (drop 8 p) ≡ take 40 (drop 8 p) ++ take 4 (drop 48 p) =
    take-add 40 4 (drop 8 p) ∙ ap (λ (r : List ℕ). take 40 (drop 8 p) ++ take 4 r) (drop-drop 40 8 p) in
    ap (λ (r : List ℕ). Net.first_bytes s ++ r)
    (ap (λ (r : List ℕ). r ++ zeros) both ∙ append_assoc (take 40 (drop 8 p)) (take 4 (drop 48 p)) zeros ∙
    sym (ap₂ (λ (x y : List ℕ). x ++ (y ++ zeros)) contents refs))

bytes_part : (size : ℕ) (b : List ℕ) (i : ℕ) → Bytes b → Bytes (part_at size b i)
bytes_part size b i h = bytes_take size (drop (16 + size * i) b) (bytes_drop (16 + size * i) b h)

room : (c k i : ℕ) → i < k → (n : ℕ) → n ≡ 16 + c * k → c ≤ n - (16 + c * i)
room c k i q n e =
    let u : c * suc i ≤ c * k = mul-le-mul_left c q in
    let v : c * suc i ≡ c * i + c = mul-suc c i in
    omega arith

-- ---- an image: what holds of its parts holds of it, said once for nodes and slots

record PartLaws (A : Type 0) : Type 1 where
  size : ℕ
  write : A → List ℕ
  read : List ℕ → A
  in_range : A → Bool
  Shaped : A → Type 0
  length_write : (a : A) → length (write a) ≡ size
  rest_write : (a : A) → rest_zero size (write a) ≡ true
  read_write : (a : A) → Shaped a → in_range a ≡ true → read (write a) ≡ a
  write_read : (p : List ℕ) → Bytes p → length p ≡ size → rest_zero size p ≡ true → write (read p) ≡ p

module _ {A : Type 0} (P : PartLaws A) (k : ℕ) (d : A) where
  abbrev formed : List ℕ → Bool
  formed p = rest_zero P.size p && P.in_range (P.read p)

  -- what was written
  module _ (h : List ℕ) (e : length h ≡ 16) (xs : List A) (l : length xs ≡ k) (shaped : (i : ℕ) → i < k → P.Shaped (get_or xs i d)) (range : (i : ℕ) → i < k → P.in_range (get_or xs i d) ≡ true) where
    abbrev image : List ℕ
    image = h ++ flat (tab k (λ i. P.write (get_or xs i d)))

    part_written : (i : ℕ) → i < k → part_at P.size image i ≡ P.write (get_or xs i d)
    part_written i q =
        let c = P.size in
        let g : ℕ → List ℕ = λ j. P.write (get_or xs j d) in
        ap (λ (n : ℕ). take c (drop (n + c * i) image)) (sym e) ∙
        ap (λ (r : List ℕ). take c (drop (length h + c * i) (h ++ r))) (sym (append-nil (flat (tab k g)))) ∙
        part_flat_in c k g h [] i q (λ j u. P.length_write (get_or xs j d))

    parts_again : tab k (λ i. P.read (part_at P.size image i)) ≡ xs
    parts_again =
        sym
        (tab_of k _ xs d l
        (λ i q. sym (ap P.read (part_written i q) ∙ P.read_write (get_or xs i d) (shaped i q) (range i q))))

    parts_formed : all k (λ i. formed (part_at P.size image i)) ≡ true
    parts_formed =
        all_of k _
        (λ i q.
        let x = get_or xs i d in
        ap formed (part_written i q) ∙
        and_both (rest_zero P.size (P.write x)) _ (P.rest_write x)
        (ap P.in_range (P.read_write x (shaped i q) (range i q)) ∙ range i q))

  -- what is read
  module _ (b : List ℕ) (h : Bytes b) (l : length b ≡ 16 + P.size * k) (f : all k (λ i. formed (part_at P.size b i)) ≡ true) where
    abbrev reading : List A
    reading = tab k (λ i. P.read (part_at P.size b i))

    read_at : (i : ℕ) → i < k → get_or reading i d ≡ P.read (part_at P.size b i)
    read_at i q = get_d_tab k (λ i. P.read (part_at P.size b i)) i d q

    part_size : (i : ℕ) → i < k → length (part_at P.size b i) ≡ P.size
    part_size i q = length-take-le P.size (drop (16 + P.size * i) b) (simp length-drop (room P.size k i q (length b) l))

    image_back : (t : List ℕ) → take 16 b ≡ t → t ++ flat (tab k (λ i. P.write (get_or reading i d))) ≡ b
    image_back t e =
        ap₂ (λ x y. x ++ y) (sym e)
        (ap flat
        (tab_ext k _ (part_at P.size b)
        (λ i q.
        let p = part_at P.size b i in
        ap P.write (read_at i q) ∙
        P.write_read p (bytes_part P.size b i h) (part_size i q)
        (and_left (rest_zero P.size p) _ (all_at k _ f i q))))) ∙
        whole P.size k 16 b l

    parts_in_range : (i : ℕ) → i < k → P.in_range (get_or reading i d) ≡ true
    parts_in_range i q =
        let p = part_at P.size b i in
        ap P.in_range (read_at i q) ∙ and_right (rest_zero P.size p) _ (all_at k _ f i q)

abbrev node_laws : PartLaws Action
node_laws =
    record {
      size = 32;
      write = action_bytes;
      read = action_of;
      in_range = action_in_range;
      Shaped = ShapedAction;
      length_write = length_action;
      rest_write = action_rest;
      read_write = λ a w r. action_again a w;
      write_read = action_back;
    }

abbrev slot_laws : PartLaws Slot
slot_laws =
    record {
      size = 56;
      write = slot_bytes;
      read = slot_of;
      in_range = slot_in_range;
      Shaped = ShapedSlot;
      length_write = length_slot;
      rest_write = slot_rest;
      read_write = λ s w r. slot_again s r w;
      write_read = slot_back;
    }

-- ---- the script

module _ (s : Script) (w : ShapedScript s) (r : script_in_range s ≡ true) where
  script_range : (i : ℕ) → i < node_count → action_in_range (action_at s i) ≡ true
  unfolding script_in_range
  script_range = all_at node_count (λ i. action_in_range (action_at s i)) r

  pub script_again : script_of (script_bytes s) ≡ s
  unfolding script_of script_bytes
  script_again =
      λ i. record { nodes = parts_again node_laws node_count action0 (head_bytes 83 0) (length_head 83 0) s.nodes w.nodes w.at script_range i }

  pub script_formed_lem : script_formed (script_bytes s) ≡ true
  unfolding script_formed nodes_formed action_formed script_bytes
  script_formed_lem =
      let t = flat (tab node_count (λ i. action_bytes (action_at s i))) in
      and_both (eqb (length (script_bytes s)) 2064) _ (eq-eqb (length (script_bytes s)) 2064 (length_script s))
      (and_both (head_formed 83 (script_bytes s)) _ (head_again 83 0 t)
      (and_both (eqb (word_at (script_bytes s) 8) 0) _ (eq-eqb _ 0 (head_word_again 83 0 t (omega arith)))
      (parts_formed node_laws node_count action0 (head_bytes 83 0) (length_head 83 0) s.nodes w.nodes w.at script_range)))

module _ (b : List ℕ) (h : Bytes b) (f : script_formed b ≡ true) where
  script_length : length b ≡ 2064
  unfolding script_formed
  script_length = eqb-true (length b) 2064 (and_left (eqb (length b) 2064) _ f)

  script_head : head_formed 83 b ≡ true
  unfolding script_formed
  script_head = and_left (head_formed 83 b) _ (and_right (eqb (length b) 2064) _ f)

  script_word : word_at b 8 ≡ 0
  unfolding script_formed
  script_word =
      eqb-true (word_at b 8) 0
      (and_left (eqb (word_at b 8) 0) _ (and_right (head_formed 83 b) _ (and_right (eqb (length b) 2064) _ f)))

  script_parts : all node_count (λ i. rest_zero 32 (part_at 32 b i) && action_in_range (action_of (part_at 32 b i))) ≡ true
  unfolding script_formed nodes_formed action_formed
  script_parts =
      and_right (eqb (word_at b 8) 0) _ (and_right (head_formed 83 b) _ (and_right (eqb (length b) 2064) _ f))

  pub script_back : script_bytes (script_of b) ≡ b
  unfolding script_bytes script_of
  script_back =
      image_back node_laws node_count action0 b h script_length script_parts (head_bytes 83 0)
      (head_back 83 b (omega arith) h (omega (arith, script_length)) script_head ∙ ap (head_bytes 83) script_word)

  pub script_in_range_lem : script_in_range (script_of b) ≡ true
  unfolding script_in_range script_of
  script_in_range_lem = all_of node_count _ (parts_in_range node_laws node_count action0 b h script_length script_parts)

shaped_action : (p : List ℕ) → Bytes p → ShapedAction (action_of p)
unfolding action_of
shaped_action p h =
    record {
      fields = length_tab 4 (field_of p);
      numbers = λ j q. subst (λ (f : Field). Word f.number) (sym (get_d_tab 4 (field_of p) j field0 q)) (word_at_word p (12 + 4 * j) h);
    }

pub shaped_script : (b : List ℕ) → Bytes b → ShapedScript (script_of b)
unfolding script_of
shaped_script b h =
    record {
      nodes = length_tab node_count (λ i. action_of (part_at 32 b i));
      at =
          λ i q.
          subst ShapedAction (sym (get_d_tab node_count (λ i. action_of (part_at 32 b i)) i action0 q))
          (shaped_action (part_at 32 b i) (bytes_part 32 b i h));
    }

-- ---- the net

module _ (n : Net) (w : ShapedNet n) (r : net_in_range n ≡ true) where
  net_range : (i : ℕ) → i < key_count → slot_in_range (slot_at n i) ≡ true
  unfolding net_in_range
  net_range = all_at key_count (λ i. slot_in_range (slot_at n i)) r

  pub net_again : net_of (net_bytes n) ≡ n
  unfolding net_of net_bytes
  net_again =
      let h = head_bytes 78 n.present.0 in
      let t = flat (tab key_count (λ i. slot_bytes (slot_at n i))) in
      λ i.
      record {
        present = record { 0 = head_word_again 78 n.present.0 t w.present i };
        slots = parts_again slot_laws key_count slot0 h (length_head 78 n.present.0) n.slots w.slots w.at net_range i;
      }

  pub net_formed_lem : net_formed (net_bytes n) ≡ true
  unfolding net_formed slots_formed slot_formed net_bytes
  net_formed_lem =
      let h = head_bytes 78 n.present.0 in
      and_both (eqb (length (net_bytes n)) 3600) _ (eq-eqb (length (net_bytes n)) 3600 (length_net n))
      (and_both (head_formed 78 (net_bytes n)) _ (head_again 78 n.present.0 (flat (tab key_count (λ i. slot_bytes (slot_at n i)))))
      (parts_formed slot_laws key_count slot0 h (length_head 78 n.present.0) n.slots w.slots w.at net_range))

module _ (b : List ℕ) (h : Bytes b) (f : net_formed b ≡ true) where
  net_length : length b ≡ 3600
  unfolding net_formed
  net_length = eqb-true (length b) 3600 (and_left (eqb (length b) 3600) _ f)

  net_head : head_formed 78 b ≡ true
  unfolding net_formed
  net_head = and_left (head_formed 78 b) _ (and_right (eqb (length b) 3600) _ f)

  net_parts : all key_count (λ i. rest_zero 56 (part_at 56 b i) && slot_in_range (slot_of (part_at 56 b i))) ≡ true
  unfolding net_formed slots_formed slot_formed
  net_parts = and_right (head_formed 78 b) _ (and_right (eqb (length b) 3600) _ f)

  pub net_back : net_bytes (net_of b) ≡ b
  unfolding net_bytes net_of
  net_back =
      image_back slot_laws key_count slot0 b h net_length net_parts (head_bytes 78 (word_at b 8))
      (head_back 78 b (omega arith) h (omega (arith, net_length)) net_head)

  pub net_in_range_lem : net_in_range (net_of b) ≡ true
  unfolding net_in_range net_of
  net_in_range_lem = all_of key_count _ (parts_in_range slot_laws key_count slot0 b h net_length net_parts)

shaped_slot : (p : List ℕ) → Bytes p → ShapedSlot (slot_of p)
unfolding slot_of
shaped_slot p h =
    record {
      contents = length_tab 8 (datum_of p);
      refs = length_tab 4 (λ j. key (byte p (48 + j)));
      numbers = λ j q. subst (λ (x : Datum). Word x.number) (sym (get_d_tab 8 (datum_of p) j datum0 q)) (word_at_word p (16 + 4 * j) h);
    }

pub shaped_net : (b : List ℕ) → Bytes b → ShapedNet (net_of b)
unfolding net_of
shaped_net b h =
    record {
      present = word_at_word b 8 h;
      slots = length_tab key_count (λ i. slot_of (part_at 56 b i));
      at =
          λ i q.
          subst ShapedSlot (sym (get_d_tab key_count (λ i. slot_of (part_at 56 b i)) i slot0 q))
          (shaped_slot (part_at 56 b i) (bytes_part 56 b i h));
    }
