-- A change written into a net, seen as a net of the theory.
-- In order: a slot put at a key (`put_view`, `put_length`); a change (`applied_present`; its slots are in proofs/Written); localities with one more
-- (`joined_view`) or one less (`parted_view`); equality
-- asked the other way round (`eqb_swap`).
-- Assumes nothing.
use Rattle.std.specs.Prelude.{ℕ, ◌<◌, ◌≡◌, Bool, ◌&&◌, ◌||◌, not, eqb, set}
use Rattle.std.proofs.Math.Path.{refl, ap, subst}
use Rattle.std.proofs.Common.{sym, ◌∙◌, length-set, get_or-set_other, eqb-true, eq-eqb, ne_eqb, ltb-true}
use Rattle.std.proofs.Math.Bool.{true, or-true, or-false}
use Rattle.std.proofs.Math.Dec.{ltb}
use Rattle.std.proofs.Math.ListN.{length, get_or}
use Rattle.std.proofs.Math.Seq.{get_or-set_same}
use Rattle.std.proofs.lemmas.Bool.{eqb-false}
use Rattle.laws.specs.Choice.{pick, cases}
use Rattle.laws.specs.Sets.{member}
use Rattle.order.specs.Words.{word_including, word_excluding}
use Rattle.names.specs.Names.{key_count, locality_count, is_key, is_locality}
use Rattle.names.specs.Localities.{joined, parted}
use Rattle.names.specs.declared.Locality.{Locality}
use Rattle.names.specs.declared.Localities.{Localities}
use Rattle.images.specs.Net as I
use Rattle.images.specs.declared.Script.{Script}
use Rattle.images.specs.declared.Net as Images
use Rattle.rules.specs.View.{view, slot_view}
use Rattle.step.specs.Change.{Put, Change, put_in, applied}

-- the slot is put at this key
abbrev pub is_at : Put → ℕ → Bool
is_at p k = is_key p.key && eqb k p.key.0

pub put_length : (n : Images.Net) (p : Put) → length (put_in n p).slots ≡ length n.slots
unfolding put_in
put_length n p =
    cases (is_key p.key) (λ t. rw t (length-set n.slots p.key.0 p.slot)) (λ t. rw t)

module _ (s : Script) where
  pub put_view : (n : Images.Net) (p : Put) → length n.slots ≡ key_count → (k : ℕ) → (view s (put_in n p)).slot k ≡ pick (is_at p k) (slot_view s p.slot) ((view s n).slot k)
  unfolding put_in view
  put_view n p whole k =
      cases (is_key p.key)
      (λ t.
      let within : p.key.0 < length n.slots = subst (λ (m : ℕ). p.key.0 < m) (sym whole) (ltb-true p.key.0 key_count t) in
      cases (eqb k p.key.0)
      (λ e.
      let below : ltb k key_count ≡ true = ap (λ (j : ℕ). ltb j key_count) (eqb-true k p.key.0 e) ∙ t in
      rw (t, e, below)
      (ap (slot_view s) (ap (λ (j : ℕ). get_or (set n.slots p.key.0 p.slot) j I.slot0) (eqb-true k p.key.0 e) ∙ get_or-set_same n.slots p.key.0 p.slot I.slot0 within)))
      (λ e.
      rw (t, e)
      (cases (ltb k key_count)
      (λ l. rw l (ap (slot_view s) (get_or-set_other n.slots p.key.0 k p.slot I.slot0 (eqb-false k p.key.0 e))))
      (λ l. rw l))))
      (λ t. rw t)

  pub applied_present : (n : Images.Net) (c : Change) (l : ℕ) → (view s (applied n c)).present l ≡ (ltb l locality_count && member c.present.0 l)
  unfolding view applied
  applied_present n c l = refl

-- ---- localities

pub joined_view : (w : Localities) (p : Locality) → is_locality p ≡ true → (l : ℕ) → (ltb l locality_count && member (joined w p).0 l) ≡ ((ltb l locality_count && member w.0 l) || eqb l p.0)
joined_view w p h l =
    ap (λ (b : Bool). ltb l locality_count && b) (ap (λ (f : ℕ → Bool). f l) (word_including w.0 p.0)) ∙
    cases (eqb l p.0)
    (λ e.
    let below : ltb l locality_count ≡ true = ap (λ (j : ℕ). ltb j locality_count) (eqb-true l p.0 e) ∙ h in
    rw (e, below) (sym (or-true (member w.0 l))))
    (λ e. rw e (sym (or-false (ltb l locality_count && member w.0 l))))

pub parted_view : (w : Localities) (p : Locality) → is_locality p ≡ true → (l : ℕ) → (ltb l locality_count && member (parted w p).0 l) ≡ ((ltb l locality_count && member w.0 l) && not (eqb l p.0))
parted_view w p h l =
    cases (ltb l locality_count)
    (λ t. rw (t, word_excluding locality_count w.0 p.0 l (ltb-true p.0 locality_count h) (ltb-true l locality_count t)))
    (λ t. rw t)

-- equality asked the other way round
pub eqb_swap : (i j : ℕ) → eqb i j ≡ eqb j i
eqb_swap i j =
    cases (eqb i j) (λ e. e ∙ sym (eq-eqb j i (sym (eqb-true i j e)))) (λ e. e ∙ sym (ne_eqb j i (λ z. eqb-false i j e (sym z))))
