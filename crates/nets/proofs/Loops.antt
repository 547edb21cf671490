-- Both loops of an accepted net: a forward step and then its undoing, and an undoing and then the same request forward, give the net back.
--
-- In order: forward and back (`forward_undo`); what the request that repeats an event (`again`) gives once the event is undone (`undo_forward`), and
-- that it is allowed (`again_can`); both as relations of nets (`loop_forward`, `loop_backward`).
-- Assumes nothing.
use Rattle.std.specs.Prelude.{◌≡◌, ◌⊎◌, Bool, false, not, ◌&&◌, ◌||◌, ℕ, eqb}
use Rattle.std.proofs.Math.Path.{refl, sym, ap, ap₂}
use Rattle.std.proofs.Common.{◌∙◌, subst, inl, inr, eqb-true}
use Rattle.std.proofs.Math.Bool.{true, and-true, and-false, or-false}
use Rattle.std.proofs.lemmas.Bool.{eqb-false}
use Rattle.laws.specs.Choice.{cases, clash, or_right, or_cases, fails}
use Rattle.order.specs.KeySets.{◌∈◌, ◌∉◌, only, any_of}
use Rattle.nets.specs.Rules.{Rules, Lawful, uses, is_take, is_read, is_newloc, aims_stay}
use Rattle.nets.specs.Net.{is_held, Kind, live, tuple, consumed, Slot, Net, free_slot, fresh, forget, held, made_key, took_tuple, made_locality, makes, takes, makes_locality}
use Rattle.nets.specs.Rule.{met, product, Rule}
use Rattle.nets.specs.Forward.{Request, done, after, forward, Can, Forward}
use Rattle.nets.specs.Undo.{undo, Undoable, Backward}
use Rattle.nets.specs.Accepted.{Formed, Accepted}
use Rattle.nets.specs.Loops.{again}
use Rattle.nets.specs.Records.{kind_eq, past_kind, same_slot_lem, forget_live, forget_past, took_of, read_of, locality_act, locality_of_lem, locality_makeable, rule_over}
use Rattle.nets.proofs.Events.{event_below, take_consumed}
use Rattle.nets.proofs.Undone.{body_kept}
use Rattle.nets.proofs.Backward as B
use Rattle.nets.proofs.Onward as O

-- ---- forward, and back

module _ {R : Rules} (lawful : Lawful R) (n : Net R) (ok : Accepted n) (r : Request) (can : Can n r) where
  abbrev m : Net R
  m = forward n r

  abbrev m_ok : Accepted m
  m_ok = O.forward_accepted lawful n ok r can

  abbrev m_back : Undoable m r.key
  m_back = O.forward_undoable lawful n ok r can

  -- what was live is itself again
  live_again : (k : ℕ) → ((n.slot k).kind ≡ live) ⊎ ((n.slot k).kind ≡ tuple) → k ∈ held n → forget (m.slot k) ≡ n.slot k
  live_again k l h = O.stays lawful n ok r can k (O.held_not_new lawful n ok r can k h) ∙ forget_live (n.slot k) l

  slot_back : (k : ℕ) → (undo m r.key).slot k ≡ n.slot k
  slot_back k = each (B.way lawful m m_ok r.key m_back k)
    where
      new_again : makes m r.key k ≡ false → takes m r.key k ≡ false → (k ≡ r.key → ⊥) → O.Way lawful n ok r can k → m.slot k ≡ n.slot k
      new_again h w z (O.new v f q) = clash (makes m r.key k) (O.said_x lawful n ok r can (made_key k) v) h
      new_again h w z (O.itself e l q) = absurd (z e)
      new_again h w z (O.eaten v l q) = clash (takes m r.key k) (O.said_x lawful n ok r can (took_tuple k) v) w
      new_again h w z (O.untouched v e l q) = q

      each : B.Way lawful m m_ok r.key m_back k → (undo m r.key).slot k ≡ n.slot k
      each (B.made_free h q) =
          q ∙ sym (subst (λ (c : Kind). Formed c (n.slot k)) (can.fresh_keys k (O.by_x lawful n ok r can (made_key k) r.key refl h)) (ok.formed k))
      each (B.itself z q) =
          let l : (n.slot k).kind ≡ live = ap (λ (j : ℕ). (n.slot j).kind) z ∙ can.is_live_lem in
          q ∙ live_again k (inl l) (ap is_held l)
      each (B.given_back w q) =
          let l = O.took_live lawful n ok r can k (O.by_x lawful n ok r can (took_tuple k) r.key refl w) in
          q ∙ live_again k (inr l) (ap is_held l)
      each (B.untouched h z w q) = q ∙ new_again h w z (O.way lawful n ok r can k)

  present_back : (l : ℕ) → (undo m r.key).present l ≡ n.present l
  present_back l =
      B.present_is lawful m m_ok r.key m_back l ∙
      ap₂ (λ (a b : Bool). a && not b) (O.present_new lawful n ok r can l) (ap (made_locality l) (O.slot_x lawful n ok r can)) ∙
      cases (made_locality l (done n r)) (λ h. rw (h, O.new_absent lawful n ok r can l h))
      (λ h. rw (h, or-false (n.present l)) (and-true (n.present l)))

  pub forward_undo : undo m r.key ≡ n
  forward_undo = λ i. record { present = λ l. present_back l i; slot = λ k. slot_back k i }

-- ---- back, and forward again

module _ {R : Rules} (lawful : Lawful R) (n : Net R) (ok : Accepted n) (x : ℕ) (u : Undoable n x) where
  abbrev n' : Net R
  n' = undo n x

  abbrev s : Slot R
  s = n.slot x

  -- the event is the one that it was
  done_again : done n' (again n x) ≡ s
  done_again =
      same_slot_lem (done n' (again n x)) s (sym (past_kind s.kind u.is_past_lem))
      (body_kept n (only x) x (B.unmade lawful n ok x u x (B.made_no_event lawful n ok x u x u.is_past_lem))) refl refl refl refl

  -- and it meets the tuple that it met
  met_again : met n' s ≡ met n s
  met_again = B.stays lawful n ok x u s.used (B.used_elsewhere lawful n ok x u x u.is_past_lem)

  made_again : (k : ℕ) → makes n x k ≡ true → product x s (met n' s).body k ≡ n.slot k
  made_again k h =
      ap (λ (t : Slot R). product x s t.body k) met_again ∙ sym ((ok.agrees x u.is_past_lem).made k h) ∙
      forget_live (n.slot k) (u.made_live k h)

  -- the tuple that it took is consumed again
  eaten_again : (k : ℕ) → takes n x k ≡ true → makes n x k ≡ false → fresh consumed (n'.slot k).body ≡ n.slot k
  eaten_again k w h =
      ap (fresh consumed) (body_kept n (only x) k (B.unmade lawful n ok x u k h)) ∙
      sym (subst (λ (c : Kind). Formed c (n.slot k)) (take_consumed n ok x k w) (ok.formed k)).0

  rest : (k : ℕ) → makes n x k ≡ false → (k ≡ x → ⊥) → takes n x k ≡ false → B.Way lawful n ok x u k → n'.slot k ≡ n.slot k
  rest k h z w (B.made_free v q) = clash (makes n x k) v h
  rest k h z w (B.itself e q) = absurd (z e)
  rest k h z w (B.given_back v q) = clash (takes n x k) v w
  rest k h z w (B.untouched v e l q) = q

  after_again : (k : ℕ) → after n' x s k ≡ n.slot k
  after_again k =
      cases (makes n x k) (λ h. rw h (made_again k h))
      (λ h.
      cases (eqb k x) (λ e. rw (h, e) (ap n.slot (sym (eqb-true k x e))))
      (λ e.
      cases (takes n x k) (λ w. rw (h, e, w) (eaten_again k w h))
      (λ w. rw (h, e, w) (rest k h (eqb-false k x e) w (B.way lawful n ok x u k)))))

  slot_again : (k : ℕ) → (forward n' (again n x)).slot k ≡ n.slot k
  unfolding forward
  slot_again k = ap (λ (d : Slot R). after n' x d k) done_again ∙ after_again k

  present_again : (l : ℕ) → (forward n' (again n x)).present l ≡ n.present l
  unfolding forward
  present_again l =
      ap₂ (λ (a : Bool) (d : Slot R). a || made_locality l d) (B.present_is lawful n ok x u l) done_again ∙
      cases (makes_locality n x l)
      (λ h.
      rw h
      (or_right (n.present l && false) true refl ∙
      sym
      (ok.present_made l (locality_makeable l s (ok.agrees x u.is_past_lem).rule.places h) ∙
      any_of R.keys (λ e. makes_locality n e l) x (event_below n ok x u.is_past_lem) h)))
      (λ h. rw h (or-false (n.present l && true) ∙ and-true (n.present l)))

  pub undo_forward : forward n' (again n x) ≡ n
  undo_forward = λ i. record { present = λ l. present_again l i; slot = λ k. slot_again k i }

  -- ---- the request is allowed

  rule_again : Rule n' s
  rule_again =
      rule_over n n' s met_again
      (λ a.
      B.present_still lawful n ok x u (R.target s.body) ((ok.agrees x u.is_past_lem).rule.there a)
      (fails (makes_locality n x (R.target s.body))
      (λ h. clash (is_newloc (R.act s.body)) (locality_act (R.target s.body) s h) (aims_stay (R.act s.body) a))))
      (ok.agrees x u.is_past_lem).rule

  tuple_again : uses (R.act s.body) ≡ true → (n'.slot s.used).kind ≡ tuple
  tuple_again h = each (B.way lawful n ok x u s.used)
    where
      -- it was live as a tuple, or is so again
      was : (met n s).kind ≡ tuple
      was = (ok.agrees x u.is_past_lem).rule.meets h

      each : B.Way lawful n ok x u s.used → (n'.slot s.used).kind ≡ tuple
      each (B.made_free v q) = clash (makes n x s.used) v (B.used_elsewhere lawful n ok x u x u.is_past_lem)
      each (B.itself e q) = kind_eq q ∙ was
      each (B.given_back v q) = kind_eq q ∙ was
      each (B.untouched v e w q) =
          kind_eq q ∙
          or_cases (is_take (R.act s.body)) (is_read (R.act s.body)) h (λ a. clash (takes n x s.used) (took_of s u.is_past_lem a) w)
          (λ a. u.read_live s.used (read_of s u.is_past_lem a))

  pub again_can : Can n' (again n x)
  again_can =
      record {
        is_live_lem = live_self (B.way lawful n ok x u x);
        rule = rw done_again rule_again;
        tuple_live = λ h. tuple_again (ap (λ (d : Slot R). uses (R.act d.body)) (sym done_again) ∙ h);
        fresh_keys = λ k h. kind_eq (freed k (ap (made_key k) (sym done_again) ∙ h));
        fresh_place = λ h. absent (ap (λ (d : Slot R). is_newloc (R.act d.body)) (sym done_again) ∙ h);
      }
    where
      live_self : B.Way lawful n ok x u x → (n'.slot x).kind ≡ live
      live_self (B.made_free h q) = clash (makes n x x) h (B.made_no_event lawful n ok x u x u.is_past_lem)
      live_self (B.itself e q) = kind_eq (q ∙ forget_past s (past_kind s.kind u.is_past_lem))
      live_self (B.given_back w q) = kind_eq (q ∙ forget_past s (past_kind s.kind u.is_past_lem))
      live_self (B.untouched h z w q) = absurd (z refl)

      freed : (k : ℕ) → makes n x k ≡ true → n'.slot k ≡ free_slot
      freed k h = B.slot_made lawful n ok x u k h

      absent : is_newloc (R.act s.body) ≡ true → s.place ∉ n'.present
      absent h = B.present_is lawful n ok x u s.place ∙ rw (locality_of_lem s u.is_past_lem h) (and-false (n.present s.place))

  pub redo : Forward n' n
  redo = record { request = again n x; can = again_can; ends = sym undo_forward }

-- ---- as relations of nets

module _ {R : Rules} (lawful : Lawful R) (n : Net R) (ok : Accepted n) where
  pub loop_forward : (m : Net R) → Forward n m → Backward m n
  loop_forward m s =
      record {
        event = s.request.key;
        can = rw s.ends (O.forward_undoable lawful n ok s.request s.can);
        ends = sym (forward_undo lawful n ok s.request s.can) ∙ ap (λ (a : Net R). undo a s.request.key) (sym s.ends);
      }

  pub loop_backward : (m : Net R) → Backward n m → Forward m n
  loop_backward m s = rw s.ends (redo lawful n ok s.event s.can)
