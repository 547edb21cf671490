-- The nets that the cases start from are ones that an image holds: each of their records is in range and of the code's types, and they are accepted.
--
-- In order: a record that fits an image, as one test (`fits`); a net that is written out (`Within`, `bounded`, `within`, `kept_list`); that the nets of the
-- last cases are accepted (`accepted-E`, `accepted-F`, `accepted-G`); each net that a case begins with (`kept-A` to `kept-G`); nets that show alike have one
-- image (`image_shown`), so that the net at the end of a case may begin another (`kept_shown`).
-- Assumes nothing.
use Rattle.std.specs.Prelude.{ℕ, suc, ◌-◌, ◌<◌, ◌≤◌, ◌≡◌, refl, List, [], ◌∷◌, Bool, true, false, ◌&&◌, eqb, ltb, leb, length, get_or}
use Rattle.std.proofs.Common.{sym, ◌∙◌, arith, eqb-true, ltb-true, leb-true, le-ltb}
use Rattle.std.proofs.Math.Path.{ap, subst}
use Rattle.std.proofs.Math.Logic.{by_cases}
use Rattle.std.proofs.Math.Decide.{dec_lt}
use Rattle.std.proofs.Math.ListN.{get_or-eq_default}
use Rattle.laws.specs.Choice.{and_left, and_right}
use Rattle.laws.specs.Checks.{all, all_of, all_at}
use Rattle.laws.specs.Lists.{tab_ext, length_tab, get_d_tab}
use Rattle.order.specs.KeySets.{Set}
use Rattle.order.specs.Words.{word_of_lt, word_of_ext}
use Rattle.names.specs.Names.{key_count, locality_count}
use Rattle.names.specs.Localities.{localities}
use Rattle.images.specs.Net as I
use Rattle.images.specs.Net.{datum_at, is_unset, is_set, is_datum, variables_in_range, field_or_blank, data_fill, made_are, refs_are, refs_in_range, free_in_range, process_in_range, tuple_in_range, slot_in_range, net_in_range}
use Rattle.images.specs.Shape.{ShapedSlot, ShapedNet}
use Rattle.images.specs.Examples.{script_t}
use Rattle.images.specs.declared.Slot as Image
use Rattle.nets.specs.Net.{Kind, live, tuple, consumed, Slot, Net, free_slot, fresh}
use Rattle.nets.specs.Accepted.{Bounded, Accepted}
use Rattle.products.specs.Body.{Body}
use Rattle.rules.specs.Roots.{rooted}
use Rattle.rules.specs.View.{view}
use Rattle.rules.specs.Image.{slot_image, image_of, view_image}
use Rattle.machine.specs.After.{Kept}
use Rattle.cases.specs.Script.{T, process, pair_of, value, place, net, slots_a, slots_b, slots_c, slots_d, net_a, net_b, net_c, net_d, net_e, net_f, net_g}
use Rattle.cases.specs.Table.{Shown, shown}
use Rattle.cases.specs.Accepted.{Start, start_accepted, accepted-A, accepted-B, accepted-C, accepted-D}

-- ---- a record that fits an image

-- eight variables or fields and four references, with numbers of 32 bits
abbrev is_whole : Image.Slot → Bool
is_whole x = eqb (length x.contents) 8 && (eqb (length x.refs) 4 && all 8 (λ j. ltb (datum_at x j).number 4294967296))

abbrev fits : Slot T → Bool
fits x = slot_in_range (slot_image script_t x) && is_whole (slot_image script_t x)

whole_shaped : (x : Image.Slot) → is_whole x ≡ true → ShapedSlot x
whole_shaped x h =
    let rest = and_right (eqb (length x.contents) 8) _ h in
    record {
      contents = eqb-true (length x.contents) 8 (and_left (eqb (length x.contents) 8) _ h);
      refs = eqb-true (length x.refs) 4 (and_left (eqb (length x.refs) 4) _ rest);
      numbers =
          λ j q.
          ltb-true (datum_at x j).number 4294967296
          (all_at 8 (λ j. ltb (datum_at x j).number 4294967296) (and_right (eqb (length x.refs) 4) _ rest) j q);
    }

-- a slot that holds nothing does
free_fits : fits free_slot ≡ true
unfolding slot_in_range free_in_range made_are refs_are data_fill field_or_blank is_unset all
free_fits = refl

-- ---- a net that is written out

abbrev listed : List (Slot T) → ℕ → Slot T
listed slots i = get_or slots i free_slot

abbrev all_fit : List (Slot T) → Bool
all_fit slots = all (length slots) (λ i. fits (listed slots i))

-- nothing is present from the number of localities on
abbrev pub Within : Net T → Type 0
Within m = (l : ℕ) → locality_count ≤ l → m.present l ≡ false

-- the keys from 5 on are free
pub bounded : (m : Net T) → ((j : ℕ) → m.slot (suc (suc (suc (suc (suc j))))) ≡ free_slot) → Bounded m
bounded m h k l =
    let e : suc (suc (suc (suc (suc (k - 5))))) ≡ k = omega arith in
    subst (λ (i : ℕ). m.slot i ≡ free_slot) e (h (k - 5))

pub within : (count : ℕ) → leb count locality_count ≡ true → (l : ℕ) → locality_count ≤ l → ltb l count ≡ false
within count few l h = le-ltb l count (omega (arith, leb-true count locality_count few))

each_fits : (slots : List (Slot T)) → all_fit slots ≡ true → (i : ℕ) → fits (listed slots i) ≡ true
each_fits slots h i =
    by_cases (dec_lt i (length slots)) (λ l. all_at (length slots) (λ i. fits (listed slots i)) h i l)
    (λ l. ap fits (get_or-eq_default slots free_slot {n = i} (omega arith)) ∙ free_fits)

-- what stands at a key in the image
image_slot : (m : Net T) (k : ℕ) → k < key_count → I.slot_at (image_of script_t m) k ≡ slot_image script_t (m.slot k)
unfolding image_of
image_slot m k h = get_d_tab key_count (λ k. slot_image script_t (m.slot k)) k I.slot0 h

module _ (m : Net T) (each : (i : ℕ) → fits (m.slot i) ≡ true) where
  image_shaped : ShapedNet (image_of script_t m)
  unfolding image_of
  image_shaped =
      record {
        present = word_of_lt locality_count m.present;
        slots = length_tab key_count (λ k. slot_image script_t (m.slot k));
        at =
            λ i l.
            subst ShapedSlot (sym (image_slot m i l))
            (whole_shaped (slot_image script_t (m.slot i)) (and_right (slot_in_range (slot_image script_t (m.slot i))) _ (each i)));
      }

  image_range : net_in_range (image_of script_t m) ≡ true
  unfolding net_in_range
  image_range =
      all_of key_count _ (λ i l. ap slot_in_range (image_slot m i l) ∙ and_left (slot_in_range (slot_image script_t (m.slot i))) _ (each i))

kept_list : (count : ℕ) (slots : List (Slot T)) → leb count locality_count ≡ true → all_fit slots ≡ true → Accepted (net count slots) → Kept script_t (net count slots)
kept_list count slots few fit ok =
    let m = net count slots in
    let each = each_fits slots fit in
    record {
      shaped = image_shaped m each;
      range = image_range m each;
      viewed = view_image script_t m ok.bound (within count few);
      accepted = ok;
    }

-- ---- the last cases' nets are accepted

apart : ◌≡◌ {A = ℕ} 0 1 → ⊥
apart z = omega arith

-- locality 0 alone needs no maker
low : (l : ℕ) → T.makeable l ≡ true → ltb l 1 ≡ false
low l h = le-ltb l 1 (omega (arith, leb-true 8 l (and_left (leb 8 l) _ h)))

of_process : (present : Set) (b : Body) → T.is_process b ≡ true → T.rooted b ≡ true → present (T.at b) ≡ true → Start present (fresh live b)
of_process present b p r l =
    record { formed = (refl, p); live_record = refl; whole = λ (e : ◌≡◌ {A = Kind} live consumed). apart cc; rooted = r; lives = l }

of_tuple : (present : Set) (b : Body) → T.is_tuple b ≡ true → T.rooted b ≡ true → present (T.at b) ≡ true → Start present (fresh tuple b)
of_tuple present b p r l =
    record { formed = (refl, p); live_record = refl; whole = λ (e : ◌≡◌ {A = Kind} tuple consumed). apart cc; rooted = r; lives = l }

abbrev slots_e : List (Slot T)
slots_e = process 8 0 ∷ []

abbrev slots_f : List (Slot T)
slots_f = process 9 0 ∷ pair_of (value 5) (place 0) 0 ∷ []

abbrev slots_g : List (Slot T)
slots_g = process 9 0 ∷ pair_of (value 5) (value 5) 0 ∷ []

pub accepted-E : Accepted net_e
unfolding process_in_range tuple_in_range refs_in_range variables_in_range is_datum is_set is_unset refs_are made_are data_fill field_or_blank rooted all
accepted-E = start_accepted (λ l. ltb l 1) slots_e (omega arith) low (of_process _ _ refl refl refl, tt)

pub accepted-F : Accepted net_f
unfolding process_in_range tuple_in_range refs_in_range variables_in_range is_datum is_set is_unset refs_are made_are data_fill field_or_blank rooted all
accepted-F = start_accepted (λ l. ltb l 1) slots_f (omega arith) low (of_process _ _ refl refl refl, (of_tuple _ _ refl refl refl, tt))

pub accepted-G : Accepted net_g
unfolding process_in_range tuple_in_range refs_in_range variables_in_range is_datum is_set is_unset refs_are made_are data_fill field_or_blank rooted all
accepted-G = start_accepted (λ l. ltb l 1) slots_g (omega arith) low (of_process _ _ refl refl refl, (of_tuple _ _ refl refl refl, tt))

-- ---- each net that a case begins with

pub kept-A : Kept script_t net_a
unfolding slot_in_range process_in_range tuple_in_range refs_in_range variables_in_range is_datum is_set is_unset refs_are made_are data_fill field_or_blank all
kept-A = kept_list 1 slots_a refl refl accepted-A

pub kept-B : Kept script_t net_b
unfolding slot_in_range process_in_range tuple_in_range refs_in_range variables_in_range is_datum is_set is_unset refs_are made_are data_fill field_or_blank all
kept-B = kept_list 3 slots_b refl refl accepted-B

pub kept-C : Kept script_t net_c
unfolding slot_in_range process_in_range tuple_in_range refs_in_range variables_in_range is_datum is_set is_unset refs_are made_are data_fill field_or_blank all
kept-C = kept_list 3 slots_c refl refl accepted-C

pub kept-D : Kept script_t net_d
unfolding slot_in_range process_in_range tuple_in_range refs_in_range variables_in_range is_datum is_set is_unset refs_are made_are data_fill field_or_blank all
kept-D = kept_list 1 slots_d refl refl accepted-D

pub kept-E : Kept script_t net_e
unfolding slot_in_range process_in_range tuple_in_range refs_in_range variables_in_range is_datum is_set is_unset refs_are made_are data_fill field_or_blank all
kept-E = kept_list 1 slots_e refl refl accepted-E

pub kept-F : Kept script_t net_f
unfolding slot_in_range process_in_range tuple_in_range refs_in_range variables_in_range is_datum is_set is_unset refs_are made_are data_fill field_or_blank all
kept-F = kept_list 1 slots_f refl refl accepted-F

pub kept-G : Kept script_t net_g
unfolding slot_in_range process_in_range tuple_in_range refs_in_range variables_in_range is_datum is_set is_unset refs_are made_are data_fill field_or_blank all
kept-G = kept_list 1 slots_g refl refl accepted-G

-- ---- nets that show alike

module _ (m n : Net T) (e : shown m ≡ shown n) where
  same_present : (l : ℕ) → l < locality_count → m.present l ≡ n.present l
  same_present l h =
      sym (get_d_tab locality_count m.present l false h) ∙ ap (λ (x : Shown). get_or x.present l false) e ∙
      get_d_tab locality_count n.present l false h

  same_slot_lem : (k : ℕ) → k < key_count → m.slot k ≡ n.slot k
  same_slot_lem k h =
      sym (get_d_tab key_count m.slot k free_slot h) ∙ ap (λ (x : Shown). get_or x.slots k free_slot) e ∙
      get_d_tab key_count n.slot k free_slot h

  -- an image has what is shown of a net, and no more
  pub image_shown : image_of script_t m ≡ image_of script_t n
  unfolding image_of
  image_shown =
      let present = word_of_ext locality_count m.present n.present same_present in
      let slots =
      tab_ext key_count (λ k. slot_image script_t (m.slot k)) (λ k. slot_image script_t (n.slot k)) (λ k h. ap (slot_image script_t) (same_slot_lem k h)) in
      λ i. record { present = localities (present i); slots = slots i }

  -- so two nets that are shown whole are one
  pub kept_shown : Kept script_t m → Bounded n → Within n → Kept script_t n
  kept_shown k few small =
      let same : m ≡ n = sym k.viewed ∙ ap (view script_t) image_shown ∙ view_image script_t n few small in
      subst (Kept script_t) same k
