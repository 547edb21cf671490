-- The image of a net of the theory: the way back from `view`. A net in range is the image of its view, so its view determines it.
-- In order: a slot (`slot_image`, `slot_again`); a net (`image_of`); it undoes the view of a net in range (`image_view`), so two nets in range with
-- the same view are one (`view_inject`); and the view undoes it, of a net with no more keys and localities than an image has (`view_image`).
-- Assumes nothing.
use Rattle.std.specs.Prelude.{ℕ, zero, suc, ◌<◌, ◌≤◌, ◌≡◌, refl, Bool, true, false, ◌&&◌, eqb, ltb, leb}
use Rattle.std.proofs.Common.{ap, ◌∙◌, arith, eqb-true, leb-true, ltb-true, ltb-false, lt-ltb}
use Rattle.std.proofs.Math.Path.{sym}
use Rattle.laws.specs.Choice.{cases, and_left}
use Rattle.laws.specs.Checks.{all_at}
use Rattle.laws.specs.Lists.{tab, tab_of, get_d_tab}
use Rattle.laws.specs.Sets.{member}
use Rattle.order.specs.Words.{word_of, word_of_is, word_of_in}
use Rattle.names.specs.Names.{key_count, locality_count, key, locality}
use Rattle.names.specs.Localities.{localities}
use Rattle.images.specs.Net as I
use Rattle.images.specs.Net.{slot_in_range, net_in_range, tuple_in_range}
use Rattle.images.specs.Shape.{ShapedNet}
use Rattle.images.specs.declared.Script.{Script}
use Rattle.images.specs.declared.Slot as Image
use Rattle.images.specs.declared.Net as Images
use Rattle.nets.specs.Net.{Kind, free, live, past, tuple, consumed, kind_number, Slot, Net}
use Rattle.nets.specs.Accepted.{Bounded}
use Rattle.rules.specs.Instance.{rules_of}
use Rattle.rules.specs.View.{kind_as, slot_view, view, view_slot, view_present, beyond}

-- ---- kinds

-- a number that is a kind's is that of the kind it stands for
kind_again : (k : ℕ) → k ≤ 4 → kind_number (kind_as k) ≡ k
unfolding kind_as
kind_again zero h = refl
kind_again (suc zero) h = refl
kind_again (suc (suc zero)) h = refl
kind_again (suc (suc (suc zero))) h = refl
kind_again (suc (suc (suc (suc zero)))) h = refl
kind_again (suc (suc (suc (suc (suc k))))) h = absurd (omega arith)

number_again : (c : Kind) → kind_as (kind_number c) ≡ c
unfolding kind_as
number_again free = refl
number_again live = refl
number_again past = refl
number_again tuple = refl
number_again consumed = refl

-- a slot in range is of one of the five kinds
pub kind_few : (x : Image.Slot) → slot_in_range x ≡ true → x.kind ≤ 4
unfolding slot_in_range
kind_few x h =
    cases (eqb x.kind 0) (λ e. omega (arith, eqb-true x.kind 0 e))
    (λ n0. cases (eqb x.kind 1) (λ e. omega (arith, eqb-true x.kind 1 e))
    (λ n1. cases (eqb x.kind 2) (λ e. omega (arith, eqb-true x.kind 2 e))
    (λ n2. leb-true x.kind 4 (and_left (leb x.kind 4) (tuple_in_range x) (rw (n0, n1, n2) at h)))))

module _ (s : Script) where
  -- ---- slots

  abbrev pub slot_image : Slot (rules_of s) → Image.Slot
  slot_image x =
      record {
        kind = kind_number x.kind;
        locality = x.body.locality;
        node = x.body.node;
        count = x.body.count;
        first = key x.first;
        second = key x.second;
        used = key x.used;
        place = locality x.place;
        contents = x.body.contents;
        refs = x.body.refs;
      }

  pub slot_again : (x : Image.Slot) → slot_in_range x ≡ true → slot_image (slot_view s x) ≡ x
  slot_again x h =
      let k = kind_again x.kind (kind_few x h) in
      λ i.
      record {
        kind = k i;
        locality = x.locality;
        node = x.node;
        count = x.count;
        first = x.first;
        second = x.second;
        used = x.used;
        place = x.place;
        contents = x.contents;
        refs = x.refs;
      }

  -- ---- nets

  -- "bit n is locality n"; "slot n is key n"
  unfoldable pub image_of : Net (rules_of s) → Images.Net
  image_of m = record { present = localities (word_of locality_count m.present); slots = tab key_count (λ k. slot_image (m.slot k)) }

  present_again : (n : Images.Net) → ShapedNet n → word_of locality_count (view s n).present ≡ n.present.0
  present_again n w =
      sym
      (word_of_is locality_count (view s n).present n.present.0 w.present
      (λ l h. sym (view_present s n l ∙ ap (λ (b : Bool). b && member n.present.0 l) (lt-ltb l locality_count h))))

  slots_again : (n : Images.Net) → ShapedNet n → net_in_range n ≡ true → tab key_count (λ k. slot_image ((view s n).slot k)) ≡ n.slots
  unfolding net_in_range
  slots_again n w r =
      sym
      (tab_of key_count (λ k. slot_image ((view s n).slot k)) n.slots I.slot0 w.slots
      (λ i h.
      sym
      (ap slot_image (view_slot s n i h) ∙ slot_again (I.slot_at n i) (all_at key_count (λ i. slot_in_range (I.slot_at n i)) r i h))))

  -- a net in range is the image of its view
  pub image_view : (n : Images.Net) → ShapedNet n → net_in_range n ≡ true → image_of (view s n) ≡ n
  unfolding image_of
  image_view n w r =
      let p = present_again n w in
      let q = slots_again n w r in
      λ i. record { present = localities (p i); slots = q i }

  -- so nets in range are told apart by their views
  pub view_inject : (n m : Images.Net) → ShapedNet n → ShapedNet m → net_in_range n ≡ true → net_in_range m ≡ true → view s n ≡ view s m → n ≡ m
  view_inject n m wn wm rn rm e = sym (image_view n wn rn) ∙ ap image_of e ∙ image_view m wm rm

  -- ---- the other way round

  view_again : (x : Slot (rules_of s)) → slot_view s (slot_image x) ≡ x
  view_again x =
      let c = number_again x.kind in
      λ i. record { kind = c i; body = x.body; first = x.first; second = x.second; used = x.used; place = x.place }

  image_slot : (m : Net (rules_of s)) (k : ℕ) → k < key_count → I.slot_at (image_of m) k ≡ slot_image (m.slot k)
  unfolding image_of
  image_slot m k h = get_d_tab key_count (λ k. slot_image (m.slot k)) k I.slot0 h

  image_present : (m : Net (rules_of s)) (l : ℕ) → l < locality_count → member (image_of m).present.0 l ≡ m.present l
  unfolding image_of
  image_present m l h = word_of_in locality_count m.present l h

  -- a net with the image's keys and localities is the view of its image
  pub view_image : (m : Net (rules_of s)) → Bounded m → ((l : ℕ) → locality_count ≤ l → m.present l ≡ false) → view s (image_of m) ≡ m
  view_image m few small = λ i. record { present = λ l. here l i; slot = λ k. there k i }
    where
      here : (l : ℕ) → (view s (image_of m)).present l ≡ m.present l
      here l =
          view_present s (image_of m) l ∙
          cases (ltb l locality_count) (λ t. rw t (image_present m l (ltb-true l locality_count t)))
          (λ t. rw t (sym (small l (ltb-false l locality_count t))))

      there : (k : ℕ) → (view s (image_of m)).slot k ≡ m.slot k
      there k =
          cases (ltb k key_count)
          (λ t.
          let h = ltb-true k key_count t in
          view_slot s (image_of m) k h ∙ ap (slot_view s) (image_slot m k h) ∙ view_again (m.slot k))
          (λ t.
          let h = ltb-false k key_count t in
          beyond s (image_of m) k h ∙ sym (few k h))
