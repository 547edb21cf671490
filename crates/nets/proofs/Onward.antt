-- The forward step of an accepted net: what it changes, that it keeps acceptance, and that its event may be undone.
--
-- In order: what becomes of a slot (`Way`, `way`); records but for what happened to them stay (`stays`), events keep theirs (`still`,
-- `event_before`); what events' records say (`said_before`, `said_still`, `said_once`); the new event agrees with its rule (`agrees_new`)
-- and the others still do (`agrees_still`); nothing depends on the new event (`nothing_after`); acceptance is kept (`forward_accepted`);
-- the step can be taken back (`forward_undoable`), and touches nothing (`forward_touches`).
-- Assumes nothing.
use Rattle.std.specs.Prelude.{◌≡◌, ◌⊎◌, Bool, false, ◌&&◌, ◌||◌, ℕ, ◌≤◌, ◌<◌}
use Rattle.std.proofs.Math.Path.{refl, ap, fun_ext}
use Rattle.std.proofs.Common.{sym, ◌∙◌, subst, inl, inr, ⊎_elim, true≢false, arith, eqb-true, eq-eqb}
use Rattle.std.proofs.Math.Bool.{true}
use Rattle.std.proofs.Math.Dec.{eqb}
use Rattle.std.proofs.lemmas.Bool.{eqb-false, not-true}
use Rattle.laws.specs.Choice.{cases, clash, and_left, and_right, or_left, or_right, or_cases, fails, agree}
use Rattle.order.specs.KeySets.{◌∈◌, ◌∉◌, empty, any_of, any_some, any_not}
use Rattle.order.specs.Graphs.{acyclic_more}
use Rattle.nets.specs.Rules.{Rules, Lawful, uses, take_uses, read_uses, take_not_read}
use Rattle.nets.specs.Net.{is_held, Cause, made_key_lem, made_tuple, read_before, Kind, free, live, tuple, consumed, is_free, is_past, is_consumed, Slot, Net, free_slot, fresh, forget, events, held, made_key, took_tuple, read_tuple, made_locality, makes, takes, makes_locality, is_made, is_made_locality, depends}
use Rattle.nets.specs.Rule.{met, product}
use Rattle.nets.specs.Forward.{Request, done, after, forward, Can}
use Rattle.nets.specs.Undo.{Undoable, became_free, touched}
use Rattle.nets.specs.Accepted.{Formed, Agrees, Root, Accepted}
use Rattle.nets.specs.Records.{kind_eq, body_eq, live_not_past, live_not_consumed, forget_body, forget_free, forget_live, OfEvents, made_past, made_below, took_past, took_act, took_is, read_act, read_is, locality_past, locality_is, locality_act, locality_makeable, Made, continuation, the_tuple, the_process, made_way, made_live_kind, rule_over, agrees_over}
use Rattle.nets.proofs.Events.{depends_cause, cause_past, held_below, event_below, event_held, take_consumed, read_tuple_lem, take_or_read, made_held, last_undoable}

module _ {R : Rules} (lawful : Lawful R) (n : Net R) (ok : Accepted n) (r : Request) (can : Can n r) where
  abbrev m : Net R
  m = forward n r

  abbrev x : ℕ
  x = r.key

  -- the new event
  abbrev d : Slot R
  d = done n r

  abbrev t : R.Body
  t = (met n d).body

  x_held : x ∈ held n
  x_held = ap is_held can.is_live_lem

  x_below : x < R.keys
  x_below = held_below n ok x x_held

  -- ---- what becomes of a slot

  pub data Way (k : ℕ) : Type 0 where
    new : made_key k d ≡ true → (n.slot k).kind ≡ free → m.slot k ≡ product x d t k → Way k
    itself : k ≡ x → (n.slot k).kind ≡ live → m.slot k ≡ d → Way k
    eaten : took_tuple k d ≡ true → (n.slot k).kind ≡ tuple → m.slot k ≡ fresh consumed (n.slot k).body → Way k
    untouched : made_key k d ≡ false → (k ≡ x → ⊥) → took_tuple k d ≡ false → m.slot k ≡ n.slot k → Way k

  slot_is : (k : ℕ) → m.slot k ≡ after n x d k
  unfolding forward
  slot_is k = refl

  -- what is taken was live
  pub took_live : (k : ℕ) → took_tuple k d ≡ true → (n.slot k).kind ≡ tuple
  took_live k h =
      ap (λ (j : ℕ). (n.slot j).kind) (sym (took_is k d h)) ∙ can.tuple_live (take_uses (R.act d.body) (took_act k d h))

  pub way : (k : ℕ) → Way k
  way k =
      cases (made_key k d) (λ h. new h (can.fresh_keys k h) (rw (slot_is k, h)))
      (λ h.
      cases (eqb k x)
      (λ e. itself (eqb-true k x e) (ap (λ (j : ℕ). (n.slot j).kind) (eqb-true k x e) ∙ can.is_live_lem) (rw (slot_is k, h, e)))
      (λ e.
      cases (took_tuple k d) (λ w. eaten w (took_live k w) (rw (slot_is k, h, e, w)))
      (λ w. untouched h (eqb-false k x e) w (rw (slot_is k, h, e, w)))))

  -- ---- records, but for what happened to them

  live_fresh : (k : ℕ) → (n.slot k).kind ≡ live → fresh live (n.slot k).body ≡ n.slot k
  live_fresh k e = sym (subst (λ (c : Kind). Formed c (n.slot k)) e (ok.formed k)).0

  tuple_fresh : (k : ℕ) → (n.slot k).kind ≡ tuple → fresh tuple (n.slot k).body ≡ n.slot k
  tuple_fresh k e = sym (subst (λ (c : Kind). Formed c (n.slot k)) e (ok.formed k)).0

  pub stays : (k : ℕ) → made_key k d ≡ false → forget (m.slot k) ≡ forget (n.slot k)
  stays k h = each (way k)
    where
      each : Way k → forget (m.slot k) ≡ forget (n.slot k)
      each (new w f q) = clash (made_key k d) w h
      each (itself z l q) =
          ap forget q ∙ ap (λ (j : ℕ). fresh live (n.slot j).body) (sym z) ∙ live_fresh k l ∙ sym (forget_live (n.slot k) (inl l))
      each (eaten w l q) = ap forget q ∙ tuple_fresh k l ∙ sym (forget_live (n.slot k) (inr l))
      each (untouched w z l q) = ap forget q

  -- a held key is not a new one
  pub held_not_new : (k : ℕ) → k ∈ held n → made_key k d ≡ false
  held_not_new k h =
      fails (made_key k d) (λ w. clash (held n k) h (ap is_held (can.fresh_keys k w)))

  body_stays : (k : ℕ) → k ∈ held n → (m.slot k).body ≡ (n.slot k).body
  body_stays k h =
      sym (forget_body (m.slot k)) ∙ body_eq (stays k (held_not_new k h)) ∙ forget_body (n.slot k)

  pub slot_x : m.slot x ≡ d
  slot_x = rw (slot_is x, held_not_new x x_held, eq-eqb x x refl)

  -- ---- events

  pub still : (e : ℕ) → e ∈ events n → m.slot e ≡ n.slot e
  still e p = each (way e)
    where
      each : Way e → m.slot e ≡ n.slot e
      each (new w f q) = absurd (true≢false (sym p ∙ ap is_past f))
      each (itself z l q) = absurd (true≢false (sym p ∙ ap is_past l))
      each (eaten w l q) = absurd (true≢false (sym p ∙ ap is_past l))
      each (untouched w z l q) = q

  made_kind : (k : ℕ) → made_key k d ≡ true → ((product x d t k).kind ≡ live) ⊎ ((product x d t k).kind ≡ tuple)
  made_kind k h = made_live_kind x d t k (made_way x d t k can.rule.places h)

  pub event_before : (e : ℕ) → e ∈ events m → (e ≡ x → ⊥) → e ∈ events n
  event_before e p ne = each (way e)
    where
      each : Way e → e ∈ events n
      each (new w f q) =
          clash (events m e) p (ap is_past (kind_eq q) ∙ live_not_past (product x d t e).kind (made_kind e w))
      each (itself z l q) = absurd (ne z)
      each (eaten w l q) = clash (events m e) p (ap is_past (kind_eq q))
      each (untouched w z l q) = sym (ap is_past (kind_eq q)) ∙ p

  is_x : (e : ℕ) → (e ≡ x) ⊎ (e ≡ x → ⊥)
  is_x e = cases (eqb e x) (λ q. inl (eqb-true e x q)) (λ q. inr (eqb-false e x q))

  -- ---- what events' records say

  said_before : (Q : Slot R → Bool) → OfEvents Q → (e : ℕ) → Q (m.slot e) ≡ true → (e ≡ x → ⊥) → Q (n.slot e) ≡ true
  said_before Q of e q ne = sym (ap Q (still e (event_before e (of (m.slot e) q) ne))) ∙ q

  said_still : (Q : Slot R → Bool) → OfEvents Q → (e : ℕ) → Q (n.slot e) ≡ true → Q (m.slot e) ≡ true
  said_still Q of e q = ap Q (still e (of (n.slot e) q)) ∙ q

  pub said_x : (Q : Slot R → Bool) → Q d ≡ true → Q (m.slot x) ≡ true
  said_x Q q = ap Q slot_x ∙ q

  pub by_x : (Q : Slot R → Bool) (e : ℕ) → e ≡ x → Q (m.slot e) ≡ true → Q d ≡ true
  by_x Q e z q = sym (ap Q (ap m.slot z ∙ slot_x)) ∙ q

  -- what was said once is, where the new event says nothing that another says
  said_once : (Q : Slot R → Bool) → OfEvents Q → (Q d ≡ true → (g : ℕ) → Q (n.slot g) ≡ true → ⊥)
      → ((f g : ℕ) → Q (n.slot f) ≡ true → Q (n.slot g) ≡ true → f ≡ g) → (f g : ℕ) → Q (m.slot f) ≡ true → Q (m.slot g) ≡ true
      → f ≡ g
  said_once Q of apart old f g qf qg = each (is_x f) (is_x g)
    where
      each : (f ≡ x) ⊎ (f ≡ x → ⊥) → (g ≡ x) ⊎ (g ≡ x → ⊥) → f ≡ g
      each (inl zf) (inl zg) = zf ∙ sym zg
      each (inl zf) (inr ng) = absurd (apart (by_x Q f zf qf) g (said_before Q of g qg ng))
      each (inr nf) (inl zg) = absurd (apart (by_x Q g zg qg) f (said_before Q of f qf nf))
      each (inr nf) (inr ng) = old f g (said_before Q of f qf nf) (said_before Q of g qg ng)

  -- ---- agreement

  -- what is used is not new
  used_not_new : (e : ℕ) → e ∈ events n → made_key (n.slot e).used d ≡ false
  used_not_new e p =
      fails (made_key (n.slot e).used d)
      (λ w.
      let f = can.fresh_keys (n.slot e).used w in
      ⊎_elim (λ q. let c = take_consumed n ok e (n.slot e).used q in true≢false cc)
      (λ q. ⊎_elim (λ c. true≢false cc) (λ c. true≢false cc) (read_tuple_lem n ok e (n.slot e).used q))
      (take_or_read n ok e p (made_below (n.slot e).used d w)))

  own_not_new : made_key r.used d ≡ false
  own_not_new =
      fails (made_key r.used d)
      (λ w.
      let f = can.fresh_keys r.used w in
      cases (uses (R.act d.body)) (λ u. let l = can.tuple_live u in true≢false cc)
      (λ u. omega (arith, can.rule.places.no_used u, made_below r.used d w, R.few)))

  present_still : (l : ℕ) → l ∈ n.present → l ∈ m.present
  unfolding forward
  present_still l p = or_left (n.present l) _ p

  agrees_still : (e : ℕ) → e ∈ events n → Agrees m e (n.slot e)
  agrees_still e p =
      agrees_over n m e (n.slot e) (stays (n.slot e).used (used_not_new e p))
      (λ a. present_still (R.target (n.slot e).body) ((ok.agrees e p).rule.there a))
      (λ k h. stays k (held_not_new k (made_held n ok e k h))) (ok.agrees e p)

  agrees_new : Agrees m x d
  agrees_new =
      record {
        rule = rule_over n m d met_stays (λ a. present_still (R.target d.body) (can.rule.there a)) can.rule;
        made = λ k h. ap forget (slot_new k h) ∙ forget_live (product x d t k) (made_kind k h) ∙ ap (λ (s : Slot R). product x d s.body k) (sym met_stays);
      }
    where
      met_stays : met m d ≡ met n d
      met_stays = stays r.used own_not_new

      slot_new : (k : ℕ) → made_key k d ≡ true → m.slot k ≡ product x d t k
      slot_new k h = rw (slot_is k, h)

  -- ---- nothing depends on the new event

  nothing_after : (f : ℕ) → depends m x f ≡ true → ⊥
  nothing_after f s = each (depends_cause m x f s).1
    where
      past_f : f ∈ events m
      past_f = (depends_cause m x f s).0

      not_made : (k : ℕ) → k ∈ events n → makes m x k ≡ true → ⊥
      not_made k p h = clash (made_key k d) (by_x (made_key k) x refl h) (held_not_new k (event_held n ok k p))

      unused : (f ≡ x) ⊎ (f ≡ x → ⊥) → makes m x (m.slot f).used ≡ true → ⊥
      unused (inl z) h =
          let e : (m.slot f).used ≡ r.used = ap (λ (s : Slot R). s.used) (ap m.slot z ∙ slot_x) in
          clash (made_key r.used d) (ap (λ (j : ℕ). made_key j d) (sym e) ∙ by_x (made_key (m.slot f).used) x refl h) own_not_new
      unused (inr ne) h =
          let p = event_before f past_f ne in
          let e : (m.slot f).used ≡ (n.slot f).used = ap (λ (s : Slot R). s.used) (still f p) in
          clash (made_key (n.slot f).used d) (ap (λ (j : ℕ). made_key j d) (sym e) ∙ by_x (made_key (m.slot f).used) x refl h) (used_not_new f p)

      not_read : (f ≡ x) ⊎ (f ≡ x → ⊥) → read_tuple (m.slot f).used d ≡ true → takes m f (m.slot f).used ≡ true → ⊥
      not_read (inl z) h w =
          take_not_read (R.act d.body) (took_act (m.slot f).used d (by_x (took_tuple (m.slot f).used) f z w)) (read_act (m.slot f).used d h)
      not_read (inr ne) h w =
          let c = take_consumed n ok f (m.slot f).used (said_before (took_tuple (m.slot f).used) (took_past (m.slot f).used) f w ne) in
          let l = can.tuple_live (read_uses (R.act d.body) (read_act (m.slot f).used d h)) in
          let e = read_is (m.slot f).used d h in
          true≢false (sym (ap is_consumed c) ∙ ap (λ (j : ℕ). is_consumed (n.slot j).kind) (sym e) ∙ ap is_consumed l)

      each : Cause m x f → ⊥
      each (made_key_lem h) =
          ⊎_elim (λ z. clash (made_key x d) (ap (λ (j : ℕ). made_key j d) (sym z) ∙ by_x (made_key f) x refl h) (held_not_new x x_held))
          (λ ne. not_made f (event_before f past_f ne) h) (is_x f)
      each (made_tuple h) = unused (is_x f) h
      each (read_before h w) = not_read (is_x f) (by_x (read_tuple (m.slot f).used) x refl h) w

  depends_before : (e f : ℕ) → depends m e f ≡ true → (e ≡ x → ⊥) → (f ≡ x → ⊥) → depends n e f ≡ true
  unfolding depends
  depends_before e f s ne nf =
      let c = depends_cause m e f s in
      rw (still e (event_before e (cause_past m e f c.1) ne), still f (event_before f c.0 nf)) at s

  -- ---- acceptance

  -- what is made has its form
  new_formed : (k : ℕ) → made_key k d ≡ true → Formed (product x d t k).kind (product x d t k)
  new_formed k h = each (made_way x d t k can.rule.places h)
    where
      process : R.is_process d.body ≡ true
      process = (subst (λ (c : Kind). Formed c (n.slot x)) can.is_live_lem (ok.formed x)).1

      tuple_met : uses (R.act d.body) ≡ true → R.is_tuple t ≡ true
      tuple_met u =
          ap R.is_tuple (forget_body (n.slot r.used)) ∙
          (subst (λ (c : Kind). Formed c (n.slot r.used)) (can.tuple_live u) (ok.formed r.used)).1

      each : Made x d t k → Formed (product x d t k).kind (product x d t k)
      each (continuation z q) =
          rw q (
            refl,
            lawful.next_process x d.body t d.place x_below process can.rule.acting can.rule.ready
                (λ u. (tuple_met u, can.rule.fits u)) can.rule.places.place,
          )
      each (the_tuple z c q) = rw q (refl, lawful.second_tuple d.body process can.rule.ready c)
      each (the_process z c q) = rw q (refl, lawful.second_process d.body process can.rule.ready c)

  pub present_new : (l : ℕ) → m.present l ≡ (n.present l || made_locality l d)
  unfolding forward
  present_new l = refl

  pub new_absent : (l : ℕ) → made_locality l d ≡ true → l ∉ n.present
  new_absent l h = ap n.present (sym (locality_is l d h)) ∙ can.fresh_place (locality_act l d h)

  made_present : (l g : ℕ) → l ∈ R.makeable → makes_locality n g l ≡ true → l ∈ n.present
  made_present l g b q =
      ok.present_made l b ∙
      any_of R.keys (λ e. makes_locality n e l) g (event_below n ok g (locality_past l (n.slot g) q)) q

  pub forward_accepted : Accepted m
  forward_accepted =
      record {
        bound = λ k b. bound k b (way k);
        formed = λ k. formed k (way k);
        agrees = λ e p. agrees e p (is_x e);
        key_once = λ e f k. said_once (made_key k) (made_past k) (λ h g q. clash (made_key k d) h (held_not_new k (made_held n ok g k q))) (λ e f. ok.key_once e f k) e f;
        locality_once = λ e f l. said_once (made_locality l) (locality_past l) (λ h g q. clash (n.present l) (made_present l g (locality_makeable l d can.rule.places h) q) (new_absent l h)) (λ e f. ok.locality_once e f l) e f;
        consumed_taken_lem = λ k h. taken k h (way k);
        taken_once = λ f g k. said_once (took_tuple k) (took_past k) (λ h g q. clash (takes n g k) q (ok.live_untaken g k (took_live k h))) (λ f g. ok.taken_once f g k) f g;
        live_untaken = λ f k h. fails (takes m f k) (λ w. untaken f k h w (is_x f) (way k));
        present_made = present_made;
        roots = λ k h b. roots k h b (way k);
        no_cycle = acyclic_more x nothing_after depends_before ok.no_cycle;
      }
    where
      bound : (k : ℕ) → R.keys ≤ k → Way k → m.slot k ≡ free_slot
      bound k b (new w f q) = absurd (omega (arith, made_below k d w))
      bound k b (itself z l q) = absurd (omega (arith, x_below))
      bound k b (eaten w l q) = absurd (omega (arith, held_below n ok k (ap is_held l)))
      bound k b (untouched w z l q) = q ∙ ok.bound k b

      formed : (k : ℕ) → Way k → Formed (m.slot k).kind (m.slot k)
      formed k (new w f q) = rw q (new_formed k w)
      formed k (itself z l q) = rw q (subst (λ (c : Kind). Formed c (n.slot x)) can.is_live_lem (ok.formed x)).1
      formed k (eaten w l q) = rw q (refl, (subst (λ (c : Kind). Formed c (n.slot k)) l (ok.formed k)).1)
      formed k (untouched w z l q) = rw q (ok.formed k)

      agrees : (e : ℕ) → e ∈ events m → (e ≡ x) ⊎ (e ≡ x → ⊥) → Agrees m e (m.slot e)
      agrees e p (inl z) = subst (λ (j : ℕ). Agrees m j (m.slot j)) (sym z) (rw slot_x agrees_new)
      agrees e p (inr ne) = let old = event_before e p ne in rw (still e old) (agrees_still e old)

      taken : (k : ℕ) → (m.slot k).kind ≡ consumed → Way k → (f : ℕ) × (takes m f k ≡ true)
      taken k h (new w f q) =
          clash (is_consumed (m.slot k).kind) (ap is_consumed h)
          (ap is_consumed (kind_eq q) ∙ live_not_consumed (product x d t k).kind (made_kind k w))
      taken k h (itself z l q) = clash (is_consumed (m.slot k).kind) (ap is_consumed h) (ap is_consumed (kind_eq q))
      taken k h (eaten w l q) = (x, said_x (took_tuple k) w)
      taken k h (untouched w z l q) =
          let (f, tf) = ok.consumed_taken_lem k (kind_eq (sym q) ∙ h) in
          (f, said_still (took_tuple k) (took_past k) f tf)

      -- what is taken after the step is no live tuple
      not_live : (k : ℕ) → took_tuple k d ≡ true → (m.slot k).kind ≡ tuple → Way k → ⊥
      not_live k w h (new v f q) = let l = took_live k w in true≢false cc
      not_live k w h (itself z l q) = let l' = took_live k w in true≢false cc
      not_live k w h (eaten v l q) = let c = kind_eq q in true≢false cc
      not_live k w h (untouched v z l q) = clash (took_tuple k d) w l

      not_consumed : (k : ℕ) → (n.slot k).kind ≡ consumed → (m.slot k).kind ≡ tuple → Way k → ⊥
      not_consumed k c h (new v f q) = true≢false cc
      not_consumed k c h (itself z l q) = true≢false cc
      not_consumed k c h (eaten v l q) = true≢false cc
      not_consumed k c h (untouched v z l q) = let e = kind_eq q in true≢false cc

      untaken : (f k : ℕ) → (m.slot k).kind ≡ tuple → takes m f k ≡ true → (f ≡ x) ⊎ (f ≡ x → ⊥) → Way k → ⊥
      untaken f k h w (inl z) v = not_live k (by_x (took_tuple k) f z w) h v
      untaken f k h w (inr ne) v = not_consumed k (take_consumed n ok f k (said_before (took_tuple k) (took_past k) f w ne)) h v

      present_made : (l : ℕ) → l ∈ R.makeable → m.present l ≡ is_made_locality m l
      present_made l b = present_new l ∙ agree (n.present l || made_locality l d) (is_made_locality m l) there back
        where
          there : (n.present l || made_locality l d) ≡ true → is_made_locality m l ≡ true
          there h =
              or_cases (n.present l) (made_locality l d) h
              (λ p.
              let (e, le, me) = any_some R.keys (λ e. makes_locality n e l) (sym (ok.present_made l b) ∙ p) in
              any_of R.keys (λ e. makes_locality m e l) e le (said_still (made_locality l) (locality_past l) e me))
              (λ p. any_of R.keys (λ e. makes_locality m e l) x x_below (said_x (made_locality l) p))

          back : is_made_locality m l ≡ true → (n.present l || made_locality l d) ≡ true
          back h =
              let (e, le, me) = any_some R.keys (λ e. makes_locality m e l) h in
              ⊎_elim (λ z. or_right (n.present l) _ (by_x (made_locality l) e z me))
              (λ ne. or_left (n.present l) _ (made_present l e b (said_before (made_locality l) (locality_past l) e me ne)))
              (is_x e)

      nobody : (k : ℕ) → k ∉ is_made m → k ∉ is_made n
      nobody k b =
          fails (is_made n k)
          (λ q.
          let (e, l, me) = any_some R.keys (λ e. makes n e k) q in
          clash (is_made m k) (any_of R.keys (λ e. makes m e k) e l (said_still (made_key k) (made_past k) e me)) b)

      root_still : (k : ℕ) → k ∈ held n → k ∉ is_made m → Root m (m.slot k)
      root_still k h b =
          let o = ok.roots k h (nobody k b) in
          record {
            rooted = rw (body_stays k h) o.rooted;
            lives = rw (body_stays k h) (present_still (R.at (n.slot k).body) o.lives);
          }

      roots : (k : ℕ) → k ∈ held m → k ∉ is_made m → Way k → Root m (m.slot k)
      roots k h b (new w f q) = clash (is_made m k) (any_of R.keys (λ e. makes m e k) x x_below (said_x (made_key k) w)) b
      roots k h b (itself z l q) = root_still k (ap is_held l) b
      roots k h b (eaten w l q) = root_still k (ap is_held l) b
      roots k h b (untouched w z l q) = root_still k (ap is_held (kind_eq (sym q)) ∙ h) b

  -- the step can be taken back
  pub forward_undoable : Undoable m x
  forward_undoable =
      last_undoable m forward_accepted x
      (record { member = ap is_past (kind_eq slot_x); none = λ f s. absurd (nothing_after f s) })

  -- "0 for a forward step": no slot becomes free
  pub forward_touches : touched n m ≡ empty
  unfolding touched
  forward_touches =
      fun_ext
      (λ l.
      any_not R.keys (λ k. became_free n m k && eqb (R.at (n.slot k).body) l)
      (λ k b. ap (λ (a : Bool). a && eqb (R.at (n.slot k).body) l) (fails (became_free n m k) (λ h. stays_held k (and_left (held n k) _ h) (and_right (held n k) _ h)))))
    where
      stays_held : (k : ℕ) → k ∈ held n → is_free (m.slot k).kind ≡ true → ⊥
      stays_held k h f =
          clash (is_free (n.slot k).kind)
          (sym (forget_free (n.slot k)) ∙ ap is_free (kind_eq (sym (stays k (held_not_new k h)))) ∙ forget_free (m.slot k) ∙ f)
          (not-true (is_free (n.slot k).kind) h)
