-- What a forward step does to a net, as slots that are put one by one: over any rules, for each way in which a kind makes things.
--
-- In order: the localities and the slots after a step (`stays`, `comes`, `slot_is`); steps that make two keys (`two_is`), take a tuple (`take_is`), do
-- neither (`one_is`), make a locality (`new_is`). The contents of the process are b, its act is a, what it makes is c, and d besides.
-- Assumes nothing.
use Rattle.std.specs.Prelude.{◌≡◌, Bool, true, false, ◌||◌, ℕ, ◌<◌, eqb}
use Rattle.std.proofs.Math.Path.{ap}
use Rattle.std.proofs.Common.{◌∙◌, inr, eqb-true}
use Rattle.std.proofs.Math.Bool.{or-false}
use Rattle.laws.specs.Choice.{pick, cases}
use Rattle.nets.specs.Rules.{Rules, Act, none, is_take, is_newloc, second_of}
use Rattle.nets.specs.Net.{live, tuple, consumed, Slot, Net, fresh, forget, made_key, took_tuple, made_locality}
use Rattle.nets.specs.Rule.{besides, product}
use Rattle.nets.specs.Forward.{Request, after, forward}
use Rattle.nets.specs.Records.{forget_live}
use Rattle.tables.specs.Terms.{Holds, memory, put, with_locality}
use Rattle.tables.specs.Memories.{net_ext, pick_either, pick_again, made_two, made_one, took_this, took_none, placed_this, placed_none}
use Rattle.tables.specs.Requests.{asks_two, asks_tuple, asks_new}

module _ {R : Rules} (n : Net R) (k : ℕ) (b : R.Body) (a : Act) (body : (n.slot k).body ≡ b) (act : R.act b ≡ a) where
  -- ---- localities and slots after a step

  module _ (k' k'' h l : ℕ) where
    abbrev r : Request
    r = record { key = k; used = h; first = k'; second = k''; place = l }

    abbrev its : Slot R
    its = memory b k' k'' h l

    stays : is_newloc a ≡ false → (m : ℕ) → (forward n r).present m ≡ n.present m
    unfolding forward
    stays p m =
        ap (λ (x : R.Body). n.present m || made_locality m (memory {R = R} x k' k'' h l)) body ∙
        ap (λ (x : Bool). n.present m || x) (placed_none R b k' k'' h l (ap is_newloc act ∙ p) m) ∙ or-false (n.present m)

    comes : is_newloc a ≡ true → (m : ℕ) → (forward n r).present m ≡ (n.present m || eqb l m)
    unfolding forward
    comes p m =
        ap (λ (x : R.Body). n.present m || made_locality m (memory {R = R} x k' k'' h l)) body ∙
        ap (λ (x : Bool). n.present m || x) (placed_this R b k' k'' h l (ap is_newloc act ∙ p) m)

    slot_is : (c : R.Body) → R.next k b (forget (n.slot h)).body l ≡ c → (made took : Bool) (j : ℕ) → made_key j its ≡ made → took_tuple j its ≡ took
        → (forward n r).slot j
        ≡ pick made (pick (eqb j k') (fresh live c) (besides (second_of a) b)) (pick (eqb j k) its (pick took (fresh consumed (n.slot j).body) (n.slot j)))
    unfolding forward product
    slot_is c next made took j p q = ap (λ (x : R.Body). after n k (memory x k' k'' h l) j) body ∙ rw (p, q, act, next)

    -- a kind that makes its continuation alone
    slot_one : (c : R.Body) → R.next k b (forget (n.slot h)).body l ≡ c → (took : Bool) (j : ℕ) → made_key j its ≡ eqb j k' → took_tuple j its ≡ took
        → (forward n r).slot j ≡ pick (eqb j k') (fresh live c) (pick (eqb j k) its (pick took (fresh consumed (n.slot j).body) (n.slot j)))
    slot_one c next took j p q = slot_is c next (eqb j k') took j p q ∙ pick_again (eqb j k') (fresh live c) (besides (second_of a) b) _

  -- ---- the net after a step, by what the kind makes

  pub two_is : (k' k'' : ℕ) (c : R.Body) (d : Slot R) → k' < R.keys → k'' < R.keys → is_take a ≡ false → is_newloc a ≡ false
      → R.next k b (forget (n.slot none)).body none ≡ c → besides (second_of a) b ≡ d
      → forward n (asks_two k k' k'') ≡ put k' (fresh live c) (put k'' d (put k (memory b k' k'' none none) n))
  two_is k' k'' c d p q u v next second =
      net_ext _ _ (stays k' k'' none none v)
      (λ j.
      slot_is k' k'' none none c next (eqb j k' || eqb j k'') false j (made_two R b k' k'' none none p q j) (took_none R b k' k'' none none (ap is_take act ∙ u) j) ∙
      pick_either (eqb j k') (eqb j k'') _ _ _) ∙
      ap (λ (x : Slot R). put k' (fresh live c) (put k'' x (put k (memory b k' k'' none none) n))) second

  -- the tuple that is met, where it is live
  met_is : (h : ℕ) (t c : R.Body) → Holds n h tuple t → R.next k b t none ≡ c → R.next k b (forget (n.slot h)).body none ≡ c
  met_is h t c held next =
      ap (λ (x : R.Body). R.next k b x none) (ap (λ (x : Slot R). x.body) (forget_live (n.slot h) (inr held.kind)) ∙ held.body) ∙ next

  pub take_is : (h k' : ℕ) (t c : R.Body) → k' < R.keys → is_take a ≡ true → is_newloc a ≡ false → Holds n h tuple t → R.next k b t none ≡ c
      → forward n (asks_tuple k h k') ≡ put k' (fresh live c) (put k (memory b k' none h none) (put h (fresh consumed t) n))
  take_is h k' t c p u v held next =
      net_ext _ _ (stays k' none h none v)
      (λ j.
      slot_one k' none h none c (met_is h t c held next) (eqb j h) j (made_one R b k' none h none p j) (took_this R b k' none h none (ap is_take act ∙ u) j) ∙
      ap (λ (x : Slot R). pick (eqb j k') (fresh live c) (pick (eqb j k) (memory b k' none h none) x)) (gone j))
    where
      gone : (j : ℕ) → pick (eqb j h) (fresh consumed (n.slot j).body) (n.slot j) ≡ pick (eqb j h) (fresh consumed t) (n.slot j)
      gone j =
          cases (eqb j h)
          (λ q. ap (λ (x : R.Body). pick (eqb j h) (fresh consumed x) (n.slot j)) (ap (λ x. (n.slot x).body) (eqb-true j h q) ∙ held.body))
          (λ q. rw q)

  pub one_is : (h k' : ℕ) (t c : R.Body) → k' < R.keys → is_take a ≡ false → is_newloc a ≡ false → Holds n h tuple t → R.next k b t none ≡ c
      → forward n (asks_tuple k h k') ≡ put k' (fresh live c) (put k (memory b k' none h none) n)
  one_is h k' t c p u v held next =
      net_ext _ _ (stays k' none h none v)
      (λ j.
      slot_one k' none h none c (met_is h t c held next) false j (made_one R b k' none h none p j) (took_none R b k' none h none (ap is_take act ∙ u) j))

  pub new_is : (k' l : ℕ) (c : R.Body) → k' < R.keys → is_take a ≡ false → is_newloc a ≡ true → R.next k b (forget (n.slot none)).body l ≡ c
      → forward n (asks_new k k' l) ≡ with_locality l (put k' (fresh live c) (put k (memory b k' none none l) n))
  new_is k' l c p u v next =
      net_ext _ _ (comes k' none none l v)
      (λ j. slot_one k' none none l c next false j (made_one R b k' none none l p j) (took_none R b k' none none l (ap is_take act ∙ u) j))
