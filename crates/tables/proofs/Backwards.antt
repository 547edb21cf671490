-- The backward steps are exactly the reversals of the table, in every accepted net.
--
-- In order: each reversal undoes an event that may be undone (`back_undo`); each event that may be undone gives the reversal of its kind (`undo_back`,
-- and `undoable_back` of the net that the undoing makes); so they are the same (`back_iff`), and the same relation of nets (`backward_iff`).
-- Acceptance is needed, as 004 takes its nets to be well formed: that a memory has the places of its kind, that what it made stands there as the rule makes
-- it, that only tuples are read, that the tuple of an in is consumed, that a made locality is left alone.
-- Assumes nothing.
use Rattle.std.specs.Prelude.{◌≡◌, refl, ◌↔◌, true, ℕ}
use Rattle.std.proofs.Common.{sym, ap, ◌∙◌, inl, inr, arith}
use Rattle.std.proofs.lemmas.Bool.{false≢true}
use Rattle.names.specs.Names.{none}
use Rattle.images.specs.Script.{script_in_range}
use Rattle.images.specs.Shape.{ShapedScript}
use Rattle.images.specs.declared.Script.{Script}
use Rattle.nets.specs.Rules.{Rules, Act, number, acts, uses, is_take, second_of, is_there}
use Rattle.nets.specs.Rules
use Rattle.nets.specs.Net.{Kind, live, tuple, Slot, Net, fresh}
use Rattle.nets.specs.Rule.{met, besides}
use Rattle.nets.specs.Undo.{undo, Undoable, Backward}
use Rattle.nets.specs.Accepted.{Accepted}
use Rattle.nets.specs.Records.{locality_of_lem}
use Rattle.nets.proofs.Origins.{left_alone}
use Rattle.products.specs.Body.{Body}
use Rattle.products.specs.Products.{kind_of}
use Rattle.rules.specs.Instance.{rules_of, lawful_of, act_of}
use Rattle.tables.specs.Terms.{Holds}
use Rattle.tables.specs.Reversals.{Back, OutRev, InRev, ReadRev, NewRev, EvalRev, SplitRev}
use Rattle.tables.specs.Frees.{undo_two, undo_take, undo_one, undo_new}
use Rattle.tables.specs.Undoables.{is_key, places, undoable_two, undoable_one, memory_two, memory_tuple, memory_new, first_there, second_there, second_unread, used_here, taken_there, still_there}
use Rattle.tables.specs.Kinds.{is_out_lem, is_in_lem, is_read_lem, is_newloc_lem, is_eval_lem, is_split_lem, kind_is, out_next, new_next, eval_next, split_next, out_second, eval_second, split_second}

module _ (s : Script) (w : ShapedScript s) (range : script_in_range s ≡ true) where
  abbrev R : Rules
  R = rules_of s

  module _ (n : Net (rules_of s)) (ok : Accepted n) (k : ℕ) (m : Net (rules_of s)) where
    -- ---- each reversal undoes

    pub back_undo : Back s n k m → Undoable n k × (m ≡ undo n k)
    back_undo (OutRev k' k'' b goes e kind made unread z) =
        let act = is_out_lem (kind_of s b) kind in
        let two = ap (λ x. is_there (second_of x)) act in
        let p = places n ok k b k' k'' none none e in (
          undoable_two n ok k b k' k'' none none e two (ap Rules.is_read act) goes.kind (inr (made.kind, unread)),
          z ∙ sym (undo_two n k (is_key n ok k b k' k'' none none e) b k' k'' e p.first (p.second two) (ap is_take act) (ap Rules.is_newloc act)),
        )
    back_undo (InRev k' h q b t goes e kind gone here z) =
        let act = is_in_lem (kind_of s b) kind in
        let p = places n ok k b k' none h none e in (
          undoable_one n ok k b k' h none e goes.kind (λ r. absurd (false≢true (sym (ap Rules.is_read act) ∙ r))),
          z ∙ sym (undo_take n k (is_key n ok k b k' none h none e) b k' h e p.first (ap is_take act) (ap Rules.is_newloc act) t gone),
        )
    back_undo (ReadRev k' h q b t goes e kind there here z) =
        let act = is_read_lem (kind_of s b) kind in
        let p = places n ok k b k' none h none e in (
          undoable_one n ok k b k' h none e goes.kind (λ r. there.kind),
          z ∙ sym (undo_one n k (is_key n ok k b k' none h none e) b k' h e p.first (ap is_take act) (ap Rules.is_newloc act)),
        )
    back_undo (NewRev k' l' b goes e kind alone z) =
        let act = is_newloc_lem (kind_of s b) kind in
        let p = places n ok k b k' none none l' e in (
          undoable_one n ok k b k' none l' e goes.kind (λ r. absurd (false≢true (sym (ap Rules.is_read act) ∙ r))),
          z ∙ sym (undo_new n k (is_key n ok k b k' none none l' e) b k' l' e p.first (ap is_take act) (ap Rules.is_newloc act)),
        )
    back_undo (EvalRev k' k'' b goes e kind made z) =
        let act = is_eval_lem (kind_of s b) kind in
        let two = ap (λ x. is_there (second_of x)) act in
        let p = places n ok k b k' k'' none none e in (
          undoable_two n ok k b k' k'' none none e two (ap Rules.is_read act) goes.kind (inl made.kind),
          z ∙ sym (undo_two n k (is_key n ok k b k' k'' none none e) b k' k'' e p.first (p.second two) (ap is_take act) (ap Rules.is_newloc act)),
        )
    back_undo (SplitRev k₁ k₂ b e kind left right z) =
        let act = is_split_lem (kind_of s b) kind in
        let two = ap (λ x. is_there (second_of x)) act in
        let p = places n ok k b k₁ k₂ none none e in (
          undoable_two n ok k b k₁ k₂ none none e two (ap Rules.is_read act) left.kind (inl right.kind),
          z ∙ sym (undo_two n k (is_key n ok k b k₁ k₂ none none e) b k₁ k₂ e p.first (p.second two) (ap is_take act) (ap Rules.is_newloc act)),
        )

    -- ---- each undoing is a reversal

    module _ (u : Undoable n k) (z : m ≡ undo n k) where
      abbrev b : Body
      b = (n.slot k).body

      abbrev k' : ℕ
      k' = (n.slot k).first

      abbrev k'' : ℕ
      k'' = (n.slot k).second

      abbrev h : ℕ
      h = (n.slot k).used

      abbrev l' : ℕ
      l' = (n.slot k).place

      -- the contents of the tuple that it met
      abbrev t : Body
      t = (met n (n.slot k)).body

      -- the continuation, written out for its kind
      goes_on : (c : Body) → R.next k b t l' ≡ c → Holds n k' live c
      goes_on c e = record { kind = (first_there n ok k u).kind; body = (first_there n ok k u).body ∙ e }

      -- what was made besides, written out for its kind
      made_too : (a : Act) (c : Kind) (d : Body) → act_of (kind_of s b) ≡ a → is_there (second_of a) ≡ true → besides {R = R} (second_of a) b ≡ fresh c d → Holds n k'' c d
      made_too a c d act two e =
          let f = second_there n ok k u (ap (λ x. is_there (second_of x)) act ∙ two) ∙ ap (λ x. besides {R = R} (second_of x) b) act ∙ e in
          record { kind = ap (λ (y : Slot R). y.kind) f; body = ap (λ (y : Slot R). y.body) f }

      by_act : (a : Act) → act_of (kind_of s b) ≡ a → Back s n k m
      by_act Rules.nil act = absurd (false≢true (sym (ap acts act) ∙ (ok.agrees k u.is_past_lem).rule.acting))
      by_act Rules.out act =
          let kind = kind_is (kind_of s b) 1 (ap number act) (omega arith) in
          let two = ap (λ x. is_there (second_of x)) act in
          let e = memory_two n ok k u (ap uses act) (ap Rules.is_newloc act) in
          let p = places n ok k b k' k'' none none e in
          OutRev k' k'' b (goes_on _ (out_next s b k t l' kind)) e kind (made_too Rules.out tuple _ act refl (ap (fresh tuple) (out_second s b kind)))
          (second_unread n ok k u two)
          (z ∙ undo_two n k (is_key n ok k b k' k'' none none e) b k' k'' e p.first (p.second two) (ap is_take act) (ap Rules.is_newloc act))
      by_act Rules.take act =
          let kind = kind_is (kind_of s b) 2 (ap number act) (omega arith) in
          let e = memory_tuple n ok k u (ap (λ x. is_there (second_of x)) act) (ap Rules.is_newloc act) in
          let p = places n ok k b k' none h none e in
          let gone = taken_there n ok k u (ap is_take act) in
          InRev k' h _ b (n.slot h).body (goes_on _ refl) e kind gone (used_here n ok k u (ap uses act))
          (z ∙ undo_take n k (is_key n ok k b k' none h none e) b k' h e p.first (ap is_take act) (ap Rules.is_newloc act) (n.slot h).body gone)
      by_act Rules.read act =
          let kind = kind_is (kind_of s b) 3 (ap number act) (omega arith) in
          let e = memory_tuple n ok k u (ap (λ x. is_there (second_of x)) act) (ap Rules.is_newloc act) in
          let p = places n ok k b k' none h none e in
          ReadRev k' h _ b (n.slot h).body (goes_on _ refl) e kind (still_there n ok k u (ap Rules.is_read act)) (used_here n ok k u (ap uses act))
          (z ∙ undo_one n k (is_key n ok k b k' none h none e) b k' h e p.first (ap is_take act) (ap Rules.is_newloc act))
      by_act Rules.newloc act =
          let kind = kind_is (kind_of s b) 4 (ap number act) (omega arith) in
          let e = memory_new n ok k u (ap (λ x. is_there (second_of x)) act) (ap uses act) in
          let p = places n ok k b k' none none l' e in
          NewRev k' l' b (goes_on _ (new_next s b k t l' kind)) e kind
          (left_alone (lawful_of s w range) n ok k l' (locality_of_lem (n.slot k) u.is_past_lem (ap Rules.is_newloc act)) u)
          (z ∙ undo_new n k (is_key n ok k b k' none none l' e) b k' l' e p.first (ap is_take act) (ap Rules.is_newloc act))
      by_act Rules.eval act =
          let kind = kind_is (kind_of s b) 5 (ap number act) (omega arith) in
          let two = ap (λ x. is_there (second_of x)) act in
          let e = memory_two n ok k u (ap uses act) (ap Rules.is_newloc act) in
          let p = places n ok k b k' k'' none none e in
          EvalRev k' k'' b (goes_on _ (eval_next s b k t l' kind)) e kind (made_too Rules.eval live _ act refl (ap (fresh live) (eval_second s b kind)))
          (z ∙ undo_two n k (is_key n ok k b k' k'' none none e) b k' k'' e p.first (p.second two) (ap is_take act) (ap Rules.is_newloc act))
      by_act Rules.split act =
          let kind = kind_is (kind_of s b) 6 (ap number act) (omega arith) in
          let two = ap (λ x. is_there (second_of x)) act in
          let e = memory_two n ok k u (ap uses act) (ap Rules.is_newloc act) in
          let p = places n ok k b k' k'' none none e in
          SplitRev k' k'' b e kind (goes_on _ (split_next s b k t l' w range kind)) (made_too Rules.split live _ act refl (ap (fresh live) (split_second s b kind)))
          (z ∙ undo_two n k (is_key n ok k b k' k'' none none e) b k' k'' e p.first (p.second two) (ap is_take act) (ap Rules.is_newloc act))
      by_act Rules.roll act = absurd (false≢true (sym (ap acts act) ∙ (ok.agrees k u.is_past_lem).rule.acting))

    pub undo_back : Undoable n k → m ≡ undo n k → Back s n k m
    undo_back u z = by_act u z (act_of (kind_of s (n.slot k).body)) refl

    pub back_iff : Back s n k m ↔ (Undoable n k × (m ≡ undo n k))
    back_iff = (back_undo, λ p. undo_back p.0 p.1)

  -- what undoing makes of an event that may be undone
  pub undoable_back : (n : Net (rules_of s)) → Accepted n → (k : ℕ) → Undoable n k → Back s n k (undo n k)
  undoable_back n ok k u = undo_back n ok k (undo n k) u refl

  pub backward_iff : (n : Net (rules_of s)) → Accepted n → (m : Net (rules_of s)) → ((k : ℕ) × Back s n k m) ↔ Backward n m
  backward_iff n ok m = (
    λ p. let (u, z) = back_undo n ok p.0 m p.1 in record { event = p.0; can = u; ends = z },
    λ q. (q.event, undo_back n ok q.event m q.can q.ends),
  )
