-- From the premises of a reversal to an event that may be undone, and back: over any rules, in accepted nets.
--
-- In order: what may go (`MayGo`); the memory of an event that made two keys (`undoable_two`) or one (`undoable_one`), and what stands where it says, make it
-- undoable; an undoable event's record is a memory of its kind (`memory_two`, `memory_tuple`, `memory_new`), and what it made stands there as it was made
-- (`first_there`, `second_there`, `second_unread`); the tuple that it used (`used_here`, `taken_there`, `still_there`).
-- Assumes nothing.
use Rattle.std.specs.Prelude.{◌≡◌, refl, ◌⊎◌, true, false, ℕ, ◌<◌, eqb}
use Rattle.std.proofs.Common.{sym, ap, ◌∙◌, subst, inl, inr, ⊎_elim, true≢false, eqb-true, eq-eqb, ne_eqb}
use Rattle.laws.specs.Choice.{clash, or_cases, fails}
use Rattle.order.specs.KeySets.{◌∈◌}
use Rattle.nets.specs.Rules.{Rules, none, uses, is_take, is_read, is_newloc, second_of, is_there}
use Rattle.nets.specs.Net.{live, tuple, consumed, is_past, Slot, Net, fresh, events, made_key, read_tuple, makes, reads}
use Rattle.nets.specs.Rule.{met, besides, product, Places}
use Rattle.nets.specs.Undo.{Undoable}
use Rattle.nets.specs.Accepted.{Accepted}
use Rattle.nets.specs.Records.{past_kind, forget_body, forget_live, same_slot_lem, made_first, made_second, took_of, read_of, read_act, read_is}
use Rattle.nets.proofs.Events.{event_below, read_tuple_lem, take_consumed, made_there}
use Rattle.tables.specs.Terms.{Holds, memory}
use Rattle.tables.specs.Memories.{made_two, made_one}

-- ---- from premises to an undoable event

-- what was made may go: a live process, or a live tuple that nobody has read
abbrev pub MayGo : {R : Rules} → Net R → ℕ → Type 0
MayGo n j = ((n.slot j).kind ≡ live) ⊎ (((n.slot j).kind ≡ tuple) × ((f : ℕ) → reads n f j ≡ false))

module _ {R : Rules} (n : Net R) (ok : Accepted n) where
  may_live : (j : ℕ) → MayGo n j → ((n.slot j).kind ≡ live) ⊎ ((n.slot j).kind ≡ tuple)
  may_live j (inl p) = inl p
  may_live j (inr p) = inr p.0

  -- nobody reads a process
  may_unread : (j : ℕ) → MayGo n j → (f : ℕ) → reads n f j ≡ false
  may_unread j (inr p) f = p.1 f
  may_unread j (inl p) f =
      fails (reads n f j)
      (λ r.
      ⊎_elim (λ (q : (n.slot j).kind ≡ tuple). absurd (true≢false cc)) (λ (q : (n.slot j).kind ≡ consumed). absurd (true≢false cc))
      (read_tuple_lem n ok f j r))

  module _ (k : ℕ) (b : R.Body) (k' k'' h l : ℕ) (e : n.slot k ≡ memory b k' k'' h l) where
    pub is_event_lem : k ∈ events n
    is_event_lem = ap (λ (z : Slot R). is_past z.kind) e

    pub is_key : k < R.keys
    is_key = event_below n ok k is_event_lem

    pub places : Places (memory {R = R} b k' k'' h l)
    places = subst Places e (ok.agrees k is_event_lem).rule.places

    read_there : (is_read (R.act b) ≡ true → (n.slot h).kind ≡ tuple) → (j : ℕ) → reads n k j ≡ true → (n.slot j).kind ≡ tuple
    read_there there j r =
        let q : read_tuple j (memory {R = R} b k' k'' h l) ≡ true = sym (ap (read_tuple j) e) ∙ r in
        ap (λ x. (n.slot x).kind) (sym (read_is j (memory {R = R} b k' k'' h l) q)) ∙ there (read_act j (memory {R = R} b k' k'' h l) q)

    undoable : ((j : ℕ) → makes n k j ≡ true → MayGo n j) → (is_read (R.act b) ≡ true → (n.slot h).kind ≡ tuple) → Undoable n k
    undoable goes there =
        record {
          is_past_lem = is_event_lem;
          made_live = λ j p. may_live j (goes j p);
          unread = λ j f p. may_unread j (goes j p) f;
          read_live = read_there there;
        }

    pub undoable_two : is_there (second_of (R.act b)) ≡ true → is_read (R.act b) ≡ false → (n.slot k').kind ≡ live → MayGo n k'' → Undoable n k
    undoable_two makes_two no_read first second =
        undoable
        (λ j p.
        or_cases (eqb j k') (eqb j k'') (sym (ap (made_key j) e ∙ made_two R b k' k'' h l places.first (places.second makes_two) j) ∙ p)
        (λ q. subst (MayGo n) (sym (eqb-true j k' q)) (inl first)) (λ q. subst (MayGo n) (sym (eqb-true j k'' q)) second))
        (λ r. clash (is_read (R.act b)) r no_read)

  pub undoable_one : (k : ℕ) (b : R.Body) (k' h l : ℕ) → n.slot k ≡ memory b k' none h l → (n.slot k').kind ≡ live
      → (is_read (R.act b) ≡ true → (n.slot h).kind ≡ tuple) → Undoable n k
  undoable_one k b k' h l e first there =
      undoable k b k' none h l e
      (λ j p.
      subst (MayGo n) (sym (eqb-true j k' (sym (ap (made_key j) e ∙ made_one R b k' none h l (places k b k' none h l e).first j) ∙ p))) (inl first))
      there

-- ---- and back

-- what stands at the two keys of a memory
module _ {R : Rules} where
  first_product : (k : ℕ) (s : Slot R) (t : R.Body) → product k s t s.first ≡ fresh live (R.next k s.body t s.place)
  unfolding product
  first_product k s t = rw (eq-eqb s.first s.first refl)

  second_product : (k : ℕ) (s : Slot R) (t : R.Body) → (s.first ≡ s.second → ⊥) → product k s t s.second ≡ besides (second_of (R.act s.body)) s.body
  unfolding product
  second_product k s t apart = rw (ne_eqb s.second s.first (λ e. apart (sym e)))

module _ {R : Rules} (n : Net R) (ok : Accepted n) (k : ℕ) (u : Undoable n k) where
  abbrev s : Slot R
  s = n.slot k

  abbrev its : Places (n.slot k)
  its = (ok.agrees k u.is_past_lem).rule.places

  pub memory_two : uses (R.act s.body) ≡ false → is_newloc (R.act s.body) ≡ false → n.slot k ≡ memory s.body s.first s.second none none
  memory_two p q =
      same_slot_lem s (memory s.body s.first s.second none none) (past_kind s.kind u.is_past_lem) refl refl refl (its.no_used p) (its.no_place q)

  pub memory_tuple : is_there (second_of (R.act s.body)) ≡ false → is_newloc (R.act s.body) ≡ false
      → n.slot k ≡ memory s.body s.first none s.used none
  memory_tuple p q =
      same_slot_lem s (memory s.body s.first none s.used none) (past_kind s.kind u.is_past_lem) refl refl (its.no_second p) refl (its.no_place q)

  pub memory_new : is_there (second_of (R.act s.body)) ≡ false → uses (R.act s.body) ≡ false → n.slot k ≡ memory s.body s.first none none s.place
  memory_new p q =
      same_slot_lem s (memory s.body s.first none none s.place) (past_kind s.kind u.is_past_lem) refl refl (its.no_second p) (its.no_used q) refl

  -- what it made stands as it was made
  stands : (j : ℕ) → makes n k j ≡ true → n.slot j ≡ product k s (met n s).body j
  stands j p = sym (forget_live (n.slot j) (u.made_live j p)) ∙ made_there n ok k j p

  pub first_there : Holds n s.first live (R.next k s.body (met n s).body s.place)
  first_there =
      let e = stands s.first (made_first s u.is_past_lem its.first) ∙ first_product k s (met n s).body in
      record { kind = ap (λ (z : Slot R). z.kind) e; body = ap (λ (z : Slot R). z.body) e }

  pub second_there : is_there (second_of (R.act s.body)) ≡ true → n.slot s.second ≡ besides (second_of (R.act s.body)) s.body
  second_there p = stands s.second (made_second s u.is_past_lem (its.second p)) ∙ second_product k s (met n s).body its.apart

  pub second_unread : is_there (second_of (R.act s.body)) ≡ true → (f : ℕ) → reads n f s.second ≡ false
  second_unread p f = u.unread s.second f (made_second s u.is_past_lem (its.second p))

  -- the tuple that it used is where it acted
  pub used_here : uses (R.act s.body) ≡ true → R.at (n.slot s.used).body ≡ R.target s.body
  used_here p = ap R.at (sym (forget_body (n.slot s.used))) ∙ (ok.agrees k u.is_past_lem).rule.here p

  pub taken_there : is_take (R.act s.body) ≡ true → Holds n s.used consumed (n.slot s.used).body
  taken_there p = record { kind = take_consumed n ok k s.used (took_of s u.is_past_lem p); body = refl }

  pub still_there : is_read (R.act s.body) ≡ true → Holds n s.used tuple (n.slot s.used).body
  still_there p = record { kind = u.read_live s.used (read_of s u.is_past_lem p); body = refl }
