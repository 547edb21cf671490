-- What the undoing of one event does to a net, as slots that are put one by one: over any rules, for each way in which a kind makes things.
--
-- In order: what a set of one event made, took and placed is what its memory says (`made_is`, `taken_is`, `locality_is`), so the localities and the slots
-- after it is undone (`remains`, `leaves`, `again_is`, `undo_is`, `undo_kept`); the undoing of an event that made two keys (`undo_two`), took a tuple
-- (`undo_take`), did neither (`undo_one`), made a locality (`undo_new`).
-- Assumes nothing.
use Rattle.std.specs.Prelude.{◌≡◌, Bool, true, false, ◌&&◌, ◌||◌, ℕ, ◌<◌}
use Rattle.std.proofs.Common.{sym, ◌∙◌, eqb-true}
use Rattle.std.proofs.Math.Path.{ap, ap₂}
use Rattle.std.proofs.Math.Bool.{not, and-true, and-false}
use Rattle.std.proofs.Math.Dec.{eqb}
use Rattle.laws.specs.Choice.{pick, cases}
use Rattle.order.specs.KeySets.{only, any_only}
use Rattle.nets.specs.Rules.{Rules, none, is_take, is_newloc}
use Rattle.nets.specs.Net.{live, tuple, consumed, is_past, is_consumed, Slot, Net, free_slot, fresh, forget, made_key, took_tuple, made_locality, makes, takes, makes_locality}
use Rattle.nets.specs.Undo.{made_by, taken_by, locality_by, again_by, undo_set, undo}
use Rattle.nets.specs.Records.{forget_consumed}
use Rattle.tables.specs.Terms.{memory, put, without_locality, Holds}
use Rattle.tables.specs.Memories.{net_ext, pick_both, made_two, made_one, took_this, took_none, placed_this, placed_none}

module _ {R : Rules} where
  module _ (n : Net R) (k : ℕ) (inside : k < R.keys) (b : R.Body) (k' k'' h l : ℕ) (e : n.slot k ≡ memory b k' k'' h l) where
    -- what is said of one event alone is what its memory says
    made_is : (j : ℕ) → made_by n (only k) j ≡ made_key j (memory {R = R} b k' k'' h l)
    unfolding made_by
    made_is j = any_only R.keys (λ f. makes n f j) k inside ∙ ap (made_key j) e

    taken_is : (j : ℕ) → taken_by n (only k) j ≡ took_tuple j (memory {R = R} b k' k'' h l)
    unfolding taken_by
    taken_is j = any_only R.keys (λ f. takes n f j) k inside ∙ ap (took_tuple j) e

    locality_is : (m : ℕ) → locality_by n (only k) m ≡ made_locality m (memory {R = R} b k' k'' h l)
    unfolding locality_by
    locality_is m = any_only R.keys (λ f. makes_locality n f m) k inside ∙ ap (made_locality m) e

    remains : is_newloc (R.act b) ≡ false → (m : ℕ) → (undo n k).present m ≡ n.present m
    unfolding undo_set
    remains p m = ap (λ (x : Bool). n.present m && not x) (locality_is m ∙ placed_none R b k' k'' h l p m) ∙ and-true (n.present m)

    leaves : is_newloc (R.act b) ≡ true → (m : ℕ) → (undo n k).present m ≡ (n.present m && not (eqb l m))
    unfolding undo_set
    leaves p m = ap (λ (x : Bool). n.present m && not x) (locality_is m ∙ placed_this R b k' k'' h l p m)

    -- what is live again: the event, or a consumed tuple that it took
    again_is : (took : Bool) (j : ℕ) → took_tuple j (memory {R = R} b k' k'' h l) ≡ took
        → pick (again_by n (only k) j) (forget (n.slot j)) (n.slot j)
        ≡ pick (eqb j k) (fresh live b) (pick (is_consumed (n.slot j).kind && took) (forget (n.slot j)) (n.slot j))
    unfolding again_by
    again_is took j p =
        cases (eqb j k)
        (λ t.
        let q : n.slot j ≡ memory b k' k'' h l = ap n.slot (eqb-true j k t) ∙ e in
        ap (λ (z : Slot R). pick ((is_past z.kind && eqb j k) || (is_consumed z.kind && taken_by n (only k) j)) (forget z) z) q ∙ rw t)
        (λ t. rw (t, taken_is j ∙ p, and-false (is_past (n.slot j).kind)))

    undo_is : (made took : Bool) (j : ℕ) → made_key j (memory {R = R} b k' k'' h l) ≡ made → took_tuple j (memory {R = R} b k' k'' h l) ≡ took
        → (undo n k).slot j ≡ pick made free_slot (pick (eqb j k) (fresh live b) (pick (is_consumed (n.slot j).kind && took) (forget (n.slot j)) (n.slot j)))
    unfolding undo_set
    undo_is made took j p q =
        ap₂ (λ (x : Bool) (z : Slot R). pick x free_slot z) (made_is j ∙ p) (again_is took j q)

    -- nothing was taken
    undo_kept : (made : Bool) (j : ℕ) → is_take (R.act b) ≡ false → made_key j (memory {R = R} b k' k'' h l) ≡ made
        → (undo n k).slot j ≡ pick made free_slot (pick (eqb j k) (fresh live b) (n.slot j))
    undo_kept made j u p =
        undo_is made false j p (took_none R b k' k'' h l u j) ∙
        ap (λ (x : Bool). pick made free_slot (pick (eqb j k) (fresh live b) (pick x (forget (n.slot j)) (n.slot j)))) (and-false (is_consumed (n.slot j).kind))

  -- a kind that makes two keys
  pub undo_two : (n : Net R) (k : ℕ) → k < R.keys → (b : R.Body) (k' k'' : ℕ) → n.slot k ≡ memory b k' k'' none none → k' < R.keys → k'' < R.keys
      → is_take (R.act b) ≡ false → is_newloc (R.act b) ≡ false → undo n k ≡ put k' free_slot (put k'' free_slot (put k (fresh live b) n))
  undo_two n k i b k' k'' e p q u v =
      net_ext _ _ (remains n k i b k' k'' none none e v)
      (λ j.
      undo_kept n k i b k' k'' none none e (eqb j k' || eqb j k'') j u (made_two R b k' k'' none none p q j) ∙
      pick_both (eqb j k') (eqb j k'') _ _)

  -- a kind that takes a tuple
  pub undo_take : (n : Net R) (k : ℕ) → k < R.keys → (b : R.Body) (k' h : ℕ) → n.slot k ≡ memory b k' none h none → k' < R.keys
      → is_take (R.act b) ≡ true → is_newloc (R.act b) ≡ false → (t : R.Body) → Holds n h consumed t
      → undo n k ≡ put k' free_slot (put k (fresh live b) (put h (fresh tuple t) n))
  undo_take n k i b k' h e p u v t c =
      net_ext _ _ (remains n k i b k' none h none e v)
      (λ j.
      undo_is n k i b k' none h none e (eqb j k') (eqb j h) j (made_one R b k' none h none p j) (took_this R b k' none h none u j) ∙
      ap (λ (z : Slot R). pick (eqb j k') free_slot (pick (eqb j k) (fresh live b) z)) (given j))
    where
      back : (z : Slot R) → z.kind ≡ consumed → z.body ≡ t → forget z ≡ fresh tuple t
      back z p q = forget_consumed z p ∙ ap (fresh tuple) q

      given : (j : ℕ) → pick (is_consumed (n.slot j).kind && eqb j h) (forget (n.slot j)) (n.slot j) ≡ pick (eqb j h) (fresh tuple t) (n.slot j)
      given j =
          cases (eqb j h)
          (λ o.
          let same = eqb-true j h o in
          let gone : (n.slot j).kind ≡ consumed = ap (λ x. (n.slot x).kind) same ∙ c.kind in
          let held : (n.slot j).body ≡ t = ap (λ x. (n.slot x).body) same ∙ c.body in
          ap₂ (λ (x y : Bool). pick (x && y) (forget (n.slot j)) (n.slot j)) (ap is_consumed gone) o ∙ back (n.slot j) gone held ∙
          ap (λ (y : Bool). pick y (fresh tuple t) (n.slot j)) (sym o))
          (λ o. rw (o, and-false (is_consumed (n.slot j).kind)))

  -- a kind that makes its continuation alone, and takes nothing
  slot_back : (n : Net R) (k : ℕ) → k < R.keys → (b : R.Body) (k' h l : ℕ) → n.slot k ≡ memory b k' none h l → k' < R.keys
      → is_take (R.act b) ≡ false → (j : ℕ) → (undo n k).slot j ≡ (put k' free_slot (put k (fresh live b) n)).slot j
  slot_back n k i b k' h l e p u j = undo_kept n k i b k' none h l e (eqb j k') j u (made_one R b k' none h l p j)

  pub undo_one : (n : Net R) (k : ℕ) → k < R.keys → (b : R.Body) (k' h : ℕ) → n.slot k ≡ memory b k' none h none → k' < R.keys
      → is_take (R.act b) ≡ false → is_newloc (R.act b) ≡ false → undo n k ≡ put k' free_slot (put k (fresh live b) n)
  undo_one n k i b k' h e p u v = net_ext _ _ (remains n k i b k' none h none e v) (slot_back n k i b k' h none e p u)

  -- and a locality
  pub undo_new : (n : Net R) (k : ℕ) → k < R.keys → (b : R.Body) (k' l : ℕ) → n.slot k ≡ memory b k' none none l → k' < R.keys
      → is_take (R.act b) ≡ false → is_newloc (R.act b) ≡ true → undo n k ≡ without_locality l (put k' free_slot (put k (fresh live b) n))
  undo_new n k i b k' l e p u v = net_ext _ _ (leaves n k i b k' none none l e v) (slot_back n k i b k' none l e p u)
