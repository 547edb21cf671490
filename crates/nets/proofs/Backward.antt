-- The backward step of an accepted net: what it changes, and that it keeps acceptance.
--
-- In order: what becomes of a slot (`Way`, `way`) and of the localities (`present_is`); the events and the dependence that are left
-- (`undo_events`, `undo_depends`); what an event's record says, it says still (`said_before`, `said_still`); agreement is kept
-- (`agrees_still`); acceptance is kept (`undo_accepted`).
-- Assumes nothing.
use Rattle.std.specs.Prelude.{◌≡◌, refl, Bool, true, false, ◌&&◌, ℕ, ◌≤◌, ◌<◌}
use Rattle.std.proofs.Common.{sym, ◌∙◌, true≢false, eqb-true, ne_eqb}
use Rattle.std.proofs.Math.Path.{ap, fun_ext}
use Rattle.std.proofs.Math.Bool.{not}
use Rattle.std.proofs.Math.Dec.{eqb}
use Rattle.std.proofs.lemmas.Bool.{eqb-false, not-true}
use Rattle.laws.specs.Choice.{clash, and_left, and_right, and_both, or_left, or_right, or_cases, fails, agree}
use Rattle.order.specs.KeySets.{◌∈◌, ◌∉◌, ◌∖◌, only, only_self, minus_in, minus_out, any_of, any_some, any_only}
use Rattle.order.specs.Graphs.{acyclic_fewer, last_reach}
use Rattle.nets.specs.Rules.{Rules, Lawful, aims}
use Rattle.nets.specs.Net.{is_held, made_tuple, tuple, consumed, is_past, is_consumed, Slot, Net, free_slot, forget, events, held, made_key, took_tuple, made_locality, makes, takes, makes_locality, is_made, is_made_locality, depends}
use Rattle.nets.specs.Undo.{made_by, taken_by, locality_by, again_by, undo_set, undo, Undoable}
use Rattle.nets.specs.Accepted.{Formed, Agrees, Root, Accepted}
use Rattle.nets.specs.Records.{kind_eq, live_not_past, live_not_consumed, forget_not_past, forget_not_consumed, forget_formed, OfEvents, made_past, took_past, locality_past, agrees_over}
use Rattle.nets.proofs.Events.{depends_cause, cause_depends, cause_past, event_below, event_held, among, take_consumed, undoable_last}
use Rattle.nets.proofs.Origins.{target_concerns, locality_needs, locality_event}
use Rattle.nets.proofs.Undone.{Turn, freed, again, same, turn, kept, kept_event, left_alone, forget_kept, body_kept, made_freed}

module _ {R : Rules} (lawful : Lawful R) (n : Net R) (ok : Accepted n) (x : ℕ) (u : Undoable n x) where
  abbrev n' : Net R
  n' = undo n x

  x_below : x < R.keys
  x_below = event_below n ok x u.is_past_lem

  -- ---- the set of one event

  made_is : (k : ℕ) → made_by n (only x) k ≡ makes n x k
  unfolding made_by
  made_is k = any_only R.keys (λ e. makes n e k) x x_below

  taken_is : (k : ℕ) → taken_by n (only x) k ≡ takes n x k
  unfolding taken_by
  taken_is k = any_only R.keys (λ e. takes n e k) x x_below

  pub present_is : (l : ℕ) → n'.present l ≡ (n.present l && not (makes_locality n x l))
  unfolding undo_set locality_by
  present_is l = ap (λ (b : Bool). n.present l && not b) (any_only R.keys (λ e. makes_locality n e l) x x_below)

  -- what it made is live
  made_not_past : (k : ℕ) → makes n x k ≡ true → k ∉ events n
  made_not_past k h = live_not_past (n.slot k).kind (u.made_live k h)

  pub made_no_event : (e : ℕ) → e ∈ events n → makes n x e ≡ false
  made_no_event e p = fails (makes n x e) (λ h. clash (events n e) p (made_not_past e h))

  -- ---- what becomes of a slot

  pub data Way (k : ℕ) : Type 0 where
    made_free : makes n x k ≡ true → n'.slot k ≡ free_slot → Way k
    itself : k ≡ x → n'.slot k ≡ forget (n.slot k) → Way k
    given_back : takes n x k ≡ true → n'.slot k ≡ forget (n.slot k) → Way k
    untouched : makes n x k ≡ false → (k ≡ x → ⊥) → takes n x k ≡ false → n'.slot k ≡ n.slot k → Way k

  again_itself : again_by n (only x) x ≡ true
  unfolding again_by
  again_itself =
      or_left (is_past (n.slot x).kind && eqb x x) _ (and_both (is_past (n.slot x).kind) _ u.is_past_lem (only_self x))

  again_taken : (k : ℕ) → takes n x k ≡ true → again_by n (only x) k ≡ true
  unfolding again_by
  again_taken k h =
      or_right (is_past (n.slot k).kind && eqb k x) _
      (and_both (is_consumed (n.slot k).kind) _ (ap is_consumed (take_consumed n ok x k h)) (taken_is k ∙ h))

  by_again : (k : ℕ) → again_by n (only x) k ≡ true → n'.slot k ≡ forget (n.slot k) → Way k
  unfolding again_by
  by_again k a q =
      or_cases (is_past (n.slot k).kind && eqb k x) _ a
      (λ h. itself (eqb-true k x (and_right (is_past (n.slot k).kind) _ h)) q)
      (λ h. given_back (sym (taken_is k) ∙ and_right (is_consumed (n.slot k).kind) _ h) q)

  pub way : (k : ℕ) → Way k
  way k = each (turn n (only x) k)
    where
      each : Turn n (only x) k → Way k
      each (freed b q) = made_free (sym (made_is k) ∙ b) q
      each (again b a q) = by_again k a q
      each (same b a q) =
          untouched (sym (made_is k) ∙ b) (λ e. clash (again_by n (only x) k) (ap (again_by n (only x)) e ∙ again_itself) a)
          (fails (takes n x k) (λ t. clash (again_by n (only x) k) (again_taken k t) a)) q

  pub unmade : (k : ℕ) → makes n x k ≡ false → made_by n (only x) k ≡ false
  unmade k h = made_is k ∙ h

  pub slot_made : (k : ℕ) → makes n x k ≡ true → n'.slot k ≡ free_slot
  slot_made k h = made_freed n (only x) k (made_is k ∙ h)

  pub stays : (k : ℕ) → makes n x k ≡ false → forget (n'.slot k) ≡ forget (n.slot k)
  stays k h = forget_kept n (only x) k (unmade k h)

  -- ---- the events that are left

  pub still : (e : ℕ) → e ∈ events n → (e ≡ x → ⊥) → n'.slot e ≡ n.slot e
  still e p ne = left_alone n (only x) e p (ne_eqb e x ne) (unmade e (made_no_event e p))

  pub not_x : (e : ℕ) → e ∈ events n' → e ≡ x → ⊥
  not_x e p z = each (way e)
    where
      each : Way e → ⊥
      each (made_free h q) = clash (makes n x e) h (made_no_event e (ap (events n) z ∙ u.is_past_lem))
      each (itself y q) = clash (events n' e) p (ap is_past (kind_eq q) ∙ forget_not_past (n.slot e))
      each (given_back h q) = clash (events n' e) p (ap is_past (kind_eq q) ∙ forget_not_past (n.slot e))
      each (untouched h y t q) = y z

  pub undo_events : events n' ≡ events n ∖ only x
  undo_events =
      fun_ext
      (λ e.
      agree (events n' e) ((events n ∖ only x) e)
      (λ p. and_both (events n e) _ (kept_event n (only x) e p) (rw (ne_eqb e x (not_x e p))))
      (λ p.
      let old = minus_in (events n) (only x) e p in
      ap is_past (kind_eq (still e old (eqb-false e x (minus_out (events n) (only x) e p)))) ∙ old))

  pub undo_depends : (e f : ℕ) → e ∈ events n' → f ∈ events n' → depends n' e f ≡ depends n e f
  unfolding depends
  undo_depends e f p q = rw (kept n (only x) e p, kept n (only x) f q)

  depends_before : (e f : ℕ) → depends n' e f ≡ true → depends n e f ≡ true
  depends_before e f s =
      let c = depends_cause n' e f s in
      sym (undo_depends e f (cause_past n' e f c.1) c.0) ∙ s

  -- what an event's record says, it said before
  said_before : (Q : Slot R → Bool) → OfEvents Q → (e : ℕ) → Q (n'.slot e) ≡ true → Q (n.slot e) ≡ true
  said_before Q of e h = ap Q (sym (kept n (only x) e (of (n'.slot e) h))) ∙ h

  -- and says still, but for x
  said_still : (Q : Slot R → Bool) → OfEvents Q → (e : ℕ) → (e ≡ x → ⊥) → Q (n.slot e) ≡ true → Q (n'.slot e) ≡ true
  said_still Q of e ne h = ap Q (still e (of (n.slot e) h) ne) ∙ h

  said_not_x : (Q : Slot R → Bool) → OfEvents Q → (e : ℕ) → Q (n'.slot e) ≡ true → e ≡ x → ⊥
  said_not_x Q of e h = not_x e (of (n'.slot e) h)

  -- ---- agreement

  -- what another event made or used, x did not make
  made_elsewhere : (e k : ℕ) → makes n e k ≡ true → (e ≡ x → ⊥) → makes n x k ≡ false
  made_elsewhere e k h ne = fails (makes n x k) (λ m. ne (ok.key_once e x k h m))

  pub used_elsewhere : (e : ℕ) → e ∈ events n → makes n x (n.slot e).used ≡ false
  used_elsewhere e p =
      fails (makes n x (n.slot e).used)
      (λ m. clash (events n e) p ((undoable_last n ok x u).none e (cause_depends n x e p (made_tuple m))))

  -- nor its target
  target_elsewhere : (e : ℕ) → e ∈ events n → (e ≡ x → ⊥) → aims (R.act (n.slot e).body) ≡ true
      → makes_locality n x (R.target (n.slot e).body) ≡ false
  target_elsewhere e p ne a =
      let l = R.target (n.slot e).body in
      fails (makes_locality n x l)
      (λ m.
      ne
      (sym
      (last_reach (among n ok) (undoable_last n ok x u)
      (locality_event lawful n ok x l m e p (target_concerns lawful l (n.slot e).body (locality_needs lawful n ok x l m) a refl)))))

  pub present_still : (l : ℕ) → l ∈ n.present → makes_locality n x l ≡ false → l ∈ n'.present
  present_still l p h = present_is l ∙ and_both (n.present l) _ p (rw h)

  agrees_still : (e : ℕ) → e ∈ events n → (e ≡ x → ⊥) → Agrees n' e (n.slot e)
  agrees_still e p ne =
      agrees_over n n' e (n.slot e) (stays (n.slot e).used (used_elsewhere e p))
      (λ a. present_still (R.target (n.slot e).body) ((ok.agrees e p).rule.there a) (target_elsewhere e p ne a))
      (λ k h. stays k (made_elsewhere e k h ne)) (ok.agrees e p)

  -- ---- acceptance

  pub undo_accepted : Accepted n'
  undo_accepted =
      record {
        bound = λ k b. bound k b (turn n (only x) k);
        formed = λ k. formed k (turn n (only x) k);
        agrees = λ e p. rw (kept n (only x) e p) (agrees_still e (kept_event n (only x) e p) (not_x e p));
        key_once = λ e f k p q. ok.key_once e f k (said_before (made_key k) (made_past k) e p) (said_before (made_key k) (made_past k) f q);
        locality_once = λ e f l p q. ok.locality_once e f l (said_before (made_locality l) (locality_past l) e p) (said_before (made_locality l) (locality_past l) f q);
        consumed_taken_lem = λ k h. taken k h (way k);
        taken_once = λ f g k p q. ok.taken_once f g k (said_before (took_tuple k) (took_past k) f p) (said_before (took_tuple k) (took_past k) g q);
        live_untaken = λ f k h. fails (takes n' f k) (λ t. untaken f k h t (way k));
        present_made = present_made;
        roots = λ k h m. roots k h m (way k);
        no_cycle = acyclic_fewer depends_before ok.no_cycle;
      }
    where
      bound : (k : ℕ) → R.keys ≤ k → Turn n (only x) k → n'.slot k ≡ free_slot
      bound k b (freed m q) = q
      bound k b (again m a q) = q ∙ ap forget (ok.bound k b)
      bound k b (same m a q) = q ∙ ok.bound k b

      formed : (k : ℕ) → Turn n (only x) k → Formed (n'.slot k).kind (n'.slot k)
      formed k (freed m q) = rw q refl
      formed k (again m a q) = rw q (forget_formed (n.slot k) (ok.formed k))
      formed k (same m a q) = rw q (ok.formed k)

      taken : (k : ℕ) → (n'.slot k).kind ≡ consumed → Way k → (f : ℕ) × (takes n' f k ≡ true)
      taken k h (made_free m q) = absurd (true≢false (sym (ap is_consumed h) ∙ ap is_consumed (kind_eq q)))
      taken k h (itself z q) = absurd (true≢false (sym (ap is_consumed h) ∙ ap is_consumed (kind_eq q) ∙ forget_not_consumed (n.slot k)))
      taken k h (given_back t q) = absurd (true≢false (sym (ap is_consumed h) ∙ ap is_consumed (kind_eq q) ∙ forget_not_consumed (n.slot k)))
      taken k h (untouched m z t q) =
          let (f, tf) = ok.consumed_taken_lem k (kind_eq (sym q) ∙ h) in
          (f, said_still (took_tuple k) (took_past k) f (λ e. clash (takes n x k) (ap (λ (j : ℕ). takes n j k) (sym e) ∙ tf) t) tf)

      untaken : (f k : ℕ) → (n'.slot k).kind ≡ tuple → takes n' f k ≡ true → Way k → ⊥
      untaken f k h t (made_free m q) = let z = kind_eq q in true≢false cc
      untaken f k h t (itself z q) =
          let c = take_consumed n ok f k (said_before (took_tuple k) (took_past k) f t) in
          true≢false (sym u.is_past_lem ∙ ap (events n) (sym z) ∙ ap is_past c)
      untaken f k h t (given_back m q) =
          said_not_x (took_tuple k) (took_past k) f t (ok.taken_once f x k (said_before (took_tuple k) (took_past k) f t) m)
      untaken f k h t (untouched m z w q) =
          clash (takes n f k) (said_before (took_tuple k) (took_past k) f t)
          (ok.live_untaken f k (kind_eq (sym q) ∙ h))

      present_made : (l : ℕ) → l ∈ R.makeable → n'.present l ≡ is_made_locality n' l
      present_made l m =
          present_is l ∙ ap (λ (b : Bool). b && not (makes_locality n x l)) (ok.present_made l m) ∙
          agree (is_made_locality n l && not (makes_locality n x l)) (is_made_locality n' l) there back
        where
          there : (is_made_locality n l && not (makes_locality n x l)) ≡ true → is_made_locality n' l ≡ true
          there h =
              let (e, b, me) = any_some R.keys (λ e. makes_locality n e l) (and_left (is_made_locality n l) _ h) in
              any_of R.keys (λ e. makes_locality n' e l) e b
              (said_still (made_locality l) (locality_past l) e
              (λ z.
              clash (makes_locality n x l) (ap (λ (j : ℕ). makes_locality n j l) (sym z) ∙ me)
              (not-true (makes_locality n x l) (and_right (is_made_locality n l) _ h))) me)

          back : is_made_locality n' l ≡ true → (is_made_locality n l && not (makes_locality n x l)) ≡ true
          back h =
              let (e, b, me) = any_some R.keys (λ e. makes_locality n' e l) h in
              let old = said_before (made_locality l) (locality_past l) e me in
              and_both (is_made_locality n l) _ (any_of R.keys (λ e. makes_locality n e l) e b old)
              (rw
              (fails (makes_locality n x l)
              (λ q. said_not_x (made_locality l) (locality_past l) e me (ok.locality_once e x l old q))))

      -- a record that nobody made now was made by nobody, unless x made it
      nobody : (k : ℕ) → makes n x k ≡ false → k ∉ is_made n' → k ∉ is_made n
      nobody k h b =
          fails (is_made n k)
          (λ q.
          let (e, l, me) = any_some R.keys (λ e. makes n e k) q in
          clash (is_made n' k)
          (any_of R.keys (λ e. makes n' e k) e l
          (said_still (made_key k) (made_past k) e (λ z. clash (makes n x k) (ap (λ (j : ℕ). makes n j k) (sym z) ∙ me) h) me))
          b)

      root_still : (k : ℕ) → makes n x k ≡ false → k ∈ held n → k ∉ is_made n' → Root n' (n'.slot k)
      root_still k h p b =
          let r = ok.roots k p (nobody k h b) in
          let e = body_kept n (only x) k (unmade k h) in
          record {
            rooted = rw e r.rooted;
            lives = rw e
                (present_still (R.at (n.slot k).body) r.lives
                (fails (makes_locality n x (R.at (n.slot k).body))
                (λ m.
                clash (R.makeable (R.at (n.slot k).body)) (locality_needs lawful n ok x (R.at (n.slot k).body) m)
                (lawful.rooted_at (n.slot k).body r.rooted))));
          }

      roots : (k : ℕ) → k ∈ held n' → k ∉ is_made n' → Way k → Root n' (n'.slot k)
      roots k h b (made_free m q) = clash (held n' k) h (ap is_held (kind_eq q))
      roots k h b (itself z q) =
          let p : k ∈ events n = ap (events n) z ∙ u.is_past_lem in
          root_still k (made_no_event k p) (event_held n ok k p) b
      roots k h b (given_back t q) =
          let c = take_consumed n ok x k t in
          root_still k (fails (makes n x k) (λ m. clash (is_consumed (n.slot k).kind) (ap is_consumed c) (live_not_consumed (n.slot k).kind (u.made_live k m))))
          (ap is_held c) b
      roots k h b (untouched m z t q) = root_still k m (ap is_held (kind_eq (sym q)) ∙ h) b
