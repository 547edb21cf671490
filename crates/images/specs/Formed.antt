-- The form of a part, as tests on its bytes where they stand: what the code asks of the 56 bytes of a slot is what is asked of the slot.
-- In order: variables and fields (`variables_here`, `data_here`), references (`refs_here`, `refers_here`, `refs_all`, `refers_all`), what was made
-- (`makes_all`), a process (`process_here`) and a tuple (`tuple_here`); a node that is nil, known by its eight words (`nil_word`, `nil_later`, `nil_here`), and a free slot, known by its
-- thirteen (`words_here`).
-- Assumes nothing.
use Rattle.std.specs.Prelude.{ℕ, zero, suc, ◌+◌, ◌*◌, ◌<◌, ◌≤◌, ◌≡◌, Bool, ◌&&◌, ltb, length, get_or, take, drop}
use Rattle.std.proofs.Common.{arith, ◌∙◌, take_all, below_more}
use Rattle.std.proofs.Math.Path.{refl, ap, sym}
use mathlib.Core.List.{List}
use Rattle.std.proofs.Math.Bool.{false, true, and-true}
use Rattle.std.proofs.Math.Dec.{eqb, leb}
use borrow.Author.Tests.{le-leb, lt-leb, ne_eqb, eq-eqb, eqb-true, le-ltb, ltb-true, ltb-false}
use Rattle.std.specs.List.{list_all}
use Rattle.laws.specs.Choice.{pick, cases, agree, and_left, and_right}
use Rattle.laws.specs.Checks.{all, all_of, all_at, all_ext}
use Rattle.laws.specs.Lists.{tab, tab_ext, get_d_tab, tab_part}
use Rattle.laws.specs.Parts.{flat, flat_parts}
use Rattle.laws.specs.Words.{Bytes, word, bytes_of, word_at, number, word_at_bytes, word_word_at}
use Rattle.names.specs.Names.{key_count, none, below_or_none, key, locality, node, is_key_or_none, is_locality, is_node}
use Rattle.images.specs.Head.{byte, pair_bytes, rest_zero}
use Rattle.images.specs.Script.{action_bytes, node_in_place, target_in_place, reference_in_place, is_blank, count_in_place, field_in_place, fields_in_place, same_formal, fresh_formal, formals_distinct, places_in_row, fields_in_row, action_in_range}
use Rattle.images.specs.Net.{datum0, free_slot, slot_bytes, is_unset, is_datum, field_or_blank, variables_in_range, data_fill, made_are, refs_are, refs_in_range, free_in_range, process_in_range, tuple_in_range}
use Rattle.images.specs.Read.{datum_of, slot_of, action_of, action_formed, nil_action}

module _ (p : List ℕ) where
  datum_here : (j : ℕ) → j < 8 → datum_of p j ≡ get_or (slot_of p).contents j datum0
  unfolding slot_of
  datum_here j l = sym (get_d_tab 8 (datum_of p) j datum0 l)

  pub variables_here : all 8 (λ j. is_datum (datum_of p j)) ≡ variables_in_range (slot_of p).contents
  unfolding variables_in_range
  variables_here = all_ext 8 _ _ (λ j l. ap is_datum (datum_here j l))

  pub data_here : (count : ℕ) → all 8 (λ j. field_or_blank count j (datum_of p j)) ≡ data_fill count (slot_of p).contents
  unfolding data_fill
  data_here count = all_ext 8 _ _ (λ j l. ap (field_or_blank count j) (datum_here j l))

  pub refs_here : (is_key_or_none (key (byte p 48)) && (is_key_or_none (key (byte p 49)) && (is_key_or_none (key (byte p 50)) && is_key_or_none (key (byte p 51))))) ≡ refs_in_range (slot_of p).refs
  unfolding refs_in_range slot_of tab all
  refs_here =
      ap (λ (b : Bool). is_key_or_none (key (byte p 48)) && (is_key_or_none (key (byte p 49)) && (is_key_or_none (key (byte p 50)) && b)))
      (sym (and-true (is_key_or_none (key (byte p 51)))))

  pub refers_here : (b : ℕ) → (eqb (byte p 48) b && (eqb (byte p 49) b && (eqb (byte p 50) b && eqb (byte p 51) b))) ≡ refs_are b (slot_of p).refs
  unfolding refs_are slot_of tab all
  refers_here b = ap (λ (t : Bool). eqb (byte p 48) b && (eqb (byte p 49) b && (eqb (byte p 50) b && t))) (sym (and-true (eqb (byte p 51) b)))

  -- four bytes of a slot, one after the other: its references, and what it made and used
  pub refs_all : length p ≡ 56 → list_all (below_or_none key_count) (take 4 (drop 48 p)) ≡ refs_in_range (slot_of p).refs
  unfolding refs_in_range slot_of tab all
  refs_all e = ap (list_all (below_or_none key_count)) (sym (tab_part 4 48 p 0 (omega (arith, e))))

  pub refers_all : length p ≡ 56 → (b : ℕ) → list_all (λ x. eqb x b) (take 4 (drop 48 p)) ≡ refs_are b (slot_of p).refs
  unfolding refs_are slot_of tab all
  refers_all e b = ap (list_all (λ x. eqb x b)) (sym (tab_part 4 48 p 0 (omega (arith, e))))

  pub makes_all : length p ≡ 56 → (b : ℕ) → list_all (λ x. eqb x b) (take 4 (drop 3 p)) ≡ made_are b (slot_of p)
  unfolding made_are slot_of tab
  makes_all e b =
      ap (list_all (λ x. eqb x b)) (sym (tab_part 4 3 p 0 (omega (arith, e)))) ∙
      ap (λ (t : Bool). eqb (byte p 3) b && (eqb (byte p 4) b && (eqb (byte p 5) b && t))) (and-true (eqb (byte p 6) b))

  free_here : byte p 0 ≡ 0
      → (eqb (byte p 1) 0 && (eqb (byte p 2) 0 && (made_are 0 (slot_of p) && (refs_are 0 (slot_of p).refs && data_fill 0 (slot_of p).contents)))) ≡ free_in_range (slot_of p)
  unfolding free_in_range slot_of
  free_here e = rw e

  pub process_here : byte p 0 < 3
      → (is_locality (locality (byte p 1)) && (is_node (node (byte p 2)) && (refs_in_range (slot_of p).refs && variables_in_range (slot_of p).contents))) ≡ process_in_range (slot_of p)
  unfolding process_in_range slot_of
  process_here l =
      let e : leb 3 (byte p 0) ≡ false = lt-leb 3 (byte p 0) l in
      rw e

  pub tuple_here : 3 ≤ byte p 0
      → (is_locality (locality (byte p 1)) && (leb 1 (byte p 2) && (leb (byte p 2) 4 && (made_are none (slot_of p) && (refs_are none (slot_of p).refs && data_fill (byte p 2) (slot_of p).contents))))) ≡ tuple_in_range (slot_of p)
  unfolding tuple_in_range slot_of
  tuple_here l =
      let e : leb 3 (byte p 0) ≡ true = le-leb 3 (byte p 0) l in
      rw e

-- ---- words

-- a part is its words
words_are : (k : ℕ) (f : ℕ → ℕ) (p : List ℕ) → Bytes p → length p ≡ 4 * k → ((i : ℕ) → i < k → word_at p (4 * i) ≡ f i) → p ≡ flat (tab k (λ i. word (f i)))
words_are k f p b l h =
    let parts : flat (tab k (λ i. take 4 (drop (0 + 4 * i) p))) ≡ flat (tab k (λ i. word (f i))) =
    ap flat
    (tab_ext k (λ i. take 4 (drop (0 + 4 * i) p)) (λ i. word (f i))
    (λ i q. let e : 0 + 4 * i ≡ 4 * i = omega arith in ap (λ (a : ℕ). take 4 (drop a p)) e ∙ sym (word_word_at p (4 * i) b (omega (arith, l, q))) ∙ ap word (h i q))) in
    sym (take_all (4 * k) p (omega (arith, l))) ∙ sym (flat_parts 4 k 0 p) ∙ parts

-- ---- a node that is nil

-- its words: all are 0 but for the second, which has none as its reference
abbrev pub nil_word : ℕ → ℕ
nil_word i = pick (eqb i 1) 65280 0

pub nil_later : (i : ℕ) → 2 ≤ i → 0 ≡ nil_word i
nil_later i l =
    let e : eqb i 1 ≡ false = ne_eqb i 1 (λ z. omega (arith, z, l)) in
    rw e

nil_bytes_lem : flat (tab 8 (λ i. word (nil_word i))) ≡ action_bytes nil_action
unfolding flat tab bytes_of action_bytes pair_bytes
nil_bytes_lem = refl

nil_formed : action_formed (action_bytes nil_action) ≡ true
unfolding action_formed action_bytes pair_bytes flat tab bytes_of rest_zero word_at number action_in_range action_of places_in_row node_in_place target_in_place reference_in_place fields_in_row count_in_place fields_in_place all field_in_place formals_distinct fresh_formal same_formal is_blank
nil_formed = refl

pub nil_here : (p : List ℕ) → Bytes p → length p ≡ 32 → ((i : ℕ) → i < 8 → word_at p (4 * i) ≡ nil_word i) → action_formed p ≡ true
nil_here p b l h = ap action_formed (words_are 8 nil_word p b l h ∙ nil_bytes_lem) ∙ nil_formed

-- ---- a slot that is free

free_bytes : flat (tab 14 (λ i. word 0)) ≡ slot_bytes free_slot
unfolding flat tab bytes_of slot_bytes pair_bytes
free_bytes = refl

free_again : free_in_range (slot_of (slot_bytes free_slot)) ≡ true
unfolding free_in_range slot_of slot_bytes pair_bytes flat tab bytes_of word_at number made_are refs_are data_fill field_or_blank is_unset all
free_again = refl

module _ (p : List ℕ) (b : Bytes p) (l : length p ≡ 56) (rest : rest_zero 56 p ≡ true) where
  -- by its words
  words_free : ((i : ℕ) → i < 13 → word_at p (4 * i) ≡ 0) → free_in_range (slot_of p) ≡ true
  unfolding rest_zero
  words_free h =
      let last : word_at p (4 * 13) ≡ 0 = eqb-true (word_at p 52) 0 (and_right (eqb (byte p 7) 0) _ rest) in
      ap (λ (q : List ℕ). free_in_range (slot_of q))
      (words_are 14 (λ i. 0) p b l (below_more (λ i. word_at p (4 * i) ≡ 0) 13 h last) ∙ free_bytes) ∙
      free_again

  -- and its words, where it is free
  module _ (kind : byte p 0 ≡ 0) (free : free_in_range (slot_of p) ≡ true) where
    tests : (eqb (byte p 1) 0 && (eqb (byte p 2) 0 && (made_are 0 (slot_of p) && (refs_are 0 (slot_of p).refs && data_fill 0 (slot_of p).contents)))) ≡ true
    tests = free_here p kind ∙ free

    made : (eqb (byte p 3) 0 && (eqb (byte p 4) 0 && (eqb (byte p 5) 0 && eqb (byte p 6) 0))) ≡ true
    unfolding made_are slot_of
    made = and_left (made_are 0 (slot_of p)) _ (and_right (eqb (byte p 2) 0) _ (and_right (eqb (byte p 1) 0) _ tests))

    held : (refs_are 0 (slot_of p).refs && data_fill 0 (slot_of p).contents) ≡ true
    held = and_right (made_are 0 (slot_of p)) _ (and_right (eqb (byte p 2) 0) _ (and_right (eqb (byte p 1) 0) _ tests))

    refs : (eqb (byte p 48) 0 && (eqb (byte p 49) 0 && (eqb (byte p 50) 0 && eqb (byte p 51) 0))) ≡ true
    refs = refers_here p 0 ∙ and_left (refs_are 0 (slot_of p).refs) _ held

    unset : (j : ℕ) → j < 8 → (byte p (8 + j) ≡ 0) × (word_at p (16 + 4 * j) ≡ 0)
    unfolding field_or_blank is_unset
    unset j h =
        let e : field_or_blank 0 j (datum_of p j) ≡ true =
        all_at 8 (λ i. field_or_blank 0 i (datum_of p i)) (data_here p 0 ∙ and_right (refs_are 0 (slot_of p).refs) _ held) j h in
        let u : is_unset (datum_of p j) ≡ true = rw (le-ltb j 0 (omega arith)) at e in
        (eqb-true (byte p (8 + j)) 0 (and_left (eqb (byte p (8 + j)) 0) _ u), eqb-true (word_at p (16 + 4 * j)) 0 (and_right (eqb (byte p (8 + j)) 0) _ u))

    four : (at : ℕ) → at + 4 ≤ 56 → byte p at ≡ 0 → byte p (at + 1) ≡ 0 → byte p (at + 2) ≡ 0 → byte p (at + 3) ≡ 0 → word_at p at ≡ 0
    unfolding number
    four at h b₀ b₁ b₂ b₃ = word_at_bytes p at (omega (arith, h, l)) ∙ rw (b₀, b₁, b₂, b₃) refl

    -- four tests of a byte, as equations
    each : (at : ℕ) → (eqb (byte p at) 0 && (eqb (byte p (at + 1)) 0 && (eqb (byte p (at + 2)) 0 && eqb (byte p (at + 3)) 0))) ≡ true
        → (byte p at ≡ 0) × (byte p (at + 1) ≡ 0) × (byte p (at + 2) ≡ 0) × (byte p (at + 3) ≡ 0)
    each at t =
        let u = and_right (eqb (byte p at) 0) _ t in
        let v = and_right (eqb (byte p (at + 1)) 0) _ u in (
          eqb-true (byte p at) 0 (and_left (eqb (byte p at) 0) _ t),
          eqb-true (byte p (at + 1)) 0 (and_left (eqb (byte p (at + 1)) 0) _ u),
          eqb-true (byte p (at + 2)) 0 (and_left (eqb (byte p (at + 2)) 0) _ v),
          eqb-true (byte p (at + 3)) 0 (and_right (eqb (byte p (at + 2)) 0) _ v),
        )

    seven : byte p 7 ≡ 0
    unfolding rest_zero
    seven = eqb-true (byte p 7) 0 (and_left (eqb (byte p 7) 0) _ rest)

    free_words : (i : ℕ) → i < 13 → word_at p (4 * i) ≡ 0
    free_words zero h =
        four 0 (omega arith) kind (eqb-true (byte p 1) 0 (and_left (eqb (byte p 1) 0) _ tests))
        (eqb-true (byte p 2) 0 (and_left (eqb (byte p 2) 0) _ (and_right (eqb (byte p 1) 0) _ tests))) (each 3 made).0
    free_words (suc zero) h = four 4 (omega arith) (each 3 made).1 (each 3 made).2 (each 3 made).3 seven
    free_words (suc (suc zero)) h =
        four 8 (omega arith) (unset 0 (omega arith)).0 (unset 1 (omega arith)).0 (unset 2 (omega arith)).0 (unset 3 (omega arith)).0
    free_words (suc (suc (suc zero))) h =
        four 12 (omega arith) (unset 4 (omega arith)).0 (unset 5 (omega arith)).0 (unset 6 (omega arith)).0 (unset 7 (omega arith)).0
    free_words (suc (suc (suc (suc j)))) h =
        cases (ltb j 8)
        (λ t.
        let e : 4 * suc (suc (suc (suc j))) ≡ 16 + 4 * j = omega arith in
        ap (word_at p) e ∙ (unset j (ltb-true j 8 t)).1)
        (λ t.
        let e : 4 * suc (suc (suc (suc j))) ≡ 48 = omega (arith, ltb-false j 8 t, h) in
        ap (word_at p) e ∙ four 48 (omega arith) (each 48 refs).0 (each 48 refs).1 (each 48 refs).2 (each 48 refs).3)

  -- so a free slot is known by its first thirteen words; the last is among the bytes that no slot uses
  pub words_here : byte p 0 ≡ 0 → all 13 (λ i. eqb (word_at p (4 * i)) 0) ≡ free_in_range (slot_of p)
  words_here kind =
      agree (all 13 (λ i. eqb (word_at p (4 * i)) 0)) (free_in_range (slot_of p))
      (λ t. words_free (λ i h. eqb-true (word_at p (4 * i)) 0 (all_at 13 (λ j. eqb (word_at p (4 * j)) 0) t i h)))
      (λ t. all_of 13 (λ j. eqb (word_at p (4 * j)) 0) (λ i h. eq-eqb (word_at p (4 * i)) 0 (free_words kind t i h)))
