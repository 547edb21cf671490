-- What holds of the events of an accepted net, and when an event may be undone.
--
-- In order: the three clauses of dependence, as a test and as a statement (`cause_depends`, `depends_cause`); keys that are held are keys
-- (`held_below`, `event_below`), and all dependence is among the events (`among`); tuples that are used (`used_tuple`, `take_consumed`,
-- `read_tuple_lem`, `take_or_read`); what was made is held (`made_there`, `made_held`); an event may be undone exactly when nothing depends on
-- it directly (`undoable_last`, `last_undoable`).
-- Assumes nothing.
use Rattle.std.specs.Prelude.{◌≡◌, refl, ◌⊎◌, true, false, not, ℕ, ◌<◌}
use Rattle.std.proofs.Common.{sym, ◌∙◌, ap, inl, inr, ⊎_elim, arith}
use Rattle.std.proofs.Math.Logic.{by_cases}
use Rattle.std.proofs.Math.Decide.{dec_lt}
use Rattle.laws.specs.Choice.{cases, clash, and_left, and_right, and_both, or_left, or_right, or_cases, fails}
use Rattle.order.specs.KeySets.{◌∈◌}
use Rattle.order.specs.Graphs.{Among, among_over, Over, Last}
use Rattle.nets.specs.Rules.{Rules, uses, is_take, is_read, take_uses, read_uses}
use Rattle.nets.specs.Net.{is_held, Cause, made_key_lem, made_tuple, read_before, Kind, free, live, past, tuple, consumed, is_free, is_past, is_consumed, Net, forget, events, held, makes, takes, reads, depends}
use Rattle.nets.specs.Rule.{met, product}
use Rattle.nets.specs.Undo.{Undoable}
use Rattle.nets.specs.Accepted.{Bounded, Accepted}
use Rattle.nets.specs.Records.{kind_eq, past_held, live_not_past, live_not_consumed, live_held, forget_free, forget_tuple, made_past, made_below, took_past, took_act, took_is, took_of, read_past, read_act, read_is, read_of, Made, made_way, made_live_kind}

module _ {R : Rules} where
  -- ---- dependence, clause by clause

  pub cause_depends : (n : Net R) (e f : ℕ) → f ∈ events n → Cause n e f → depends n e f ≡ true
  unfolding depends
  cause_depends n e f p (made_key_lem h) = and_both (events n f) _ p (or_left (makes n e f) _ h)
  cause_depends n e f p (made_tuple h) =
      and_both (events n f) _ p (or_right (makes n e f) _ (or_left (makes n e (n.slot f).used) _ h))
  cause_depends n e f p (read_before h k) =
      and_both (events n f) _ p
      (or_right (makes n e f) _
      (or_right (makes n e (n.slot f).used) _ (and_both (reads n e (n.slot f).used) _ h k)))

  pub depends_cause : (n : Net R) (e f : ℕ) → depends n e f ≡ true → (f ∈ events n) × Cause n e f
  unfolding depends
  depends_cause n e f h = (
    and_left (events n f) _ h,
    or_cases (makes n e f) _ (and_right (events n f) _ h) (λ p. made_key_lem p)
        (λ q.
        or_cases (makes n e (n.slot f).used) _ q (λ p. made_tuple p)
        (λ p. read_before (and_left (reads n e (n.slot f).used) _ p) (and_right (reads n e (n.slot f).used) _ p))),
  )

  pub cause_past : (n : Net R) (e f : ℕ) → Cause n e f → e ∈ events n
  cause_past n e f (made_key_lem h) = made_past f (n.slot e) h
  cause_past n e f (made_tuple h) = made_past (n.slot f).used (n.slot e) h
  cause_past n e f (read_before h k) = read_past (n.slot f).used (n.slot e) h

  -- ---- keys

  -- where nothing is held from the number of keys on, all that is held, and all dependence, is below it
  module _ (n : Net R) (bound : Bounded n) where
    pub bounded_held : (k : ℕ) → k ∈ held n → k < R.keys
    bounded_held k h =
        by_cases (dec_lt k R.keys) (λ l. l) (λ l. clash (held n k) h (ap is_held (kind_eq (bound k (omega arith)))))

    pub bounded_event : (e : ℕ) → e ∈ events n → e < R.keys
    bounded_event e p = bounded_held e (past_held (n.slot e).kind p)

    pub bounded_among : Among R.keys (depends n) (events n)
    bounded_among =
        record {
          below = bounded_event;
          source = λ e f s. cause_past n e f (depends_cause n e f s).1;
          target = λ e f s. (depends_cause n e f s).0;
        }

  module _ (n : Net R) (ok : Accepted n) where
    pub held_below : (k : ℕ) → k ∈ held n → k < R.keys
    held_below = bounded_held n ok.bound

    pub event_held : (e : ℕ) → e ∈ events n → e ∈ held n
    event_held e p = past_held (n.slot e).kind p

    pub event_below : (e : ℕ) → e ∈ events n → e < R.keys
    event_below = bounded_event n ok.bound

    -- all dependence is among the events
    pub among : Among R.keys (depends n) (events n)
    among = bounded_among n ok.bound

    pub over : Over R.keys (depends n)
    over = among_over among

    -- ---- tuples that are used

    pub used_tuple : (f : ℕ) → f ∈ events n → uses (R.act (n.slot f).body) ≡ true
        → ((n.slot (n.slot f).used).kind ≡ tuple) ⊎ ((n.slot (n.slot f).used).kind ≡ consumed)
    used_tuple f p u = forget_tuple (n.slot (n.slot f).used) ((ok.agrees f p).rule.meets u)

    pub take_consumed : (f k : ℕ) → takes n f k ≡ true → (n.slot k).kind ≡ consumed
    take_consumed f k h =
        ⊎_elim (λ q. clash (takes n f k) h (ok.live_untaken f k (ap kind_at (sym is) ∙ q))) (λ q. ap kind_at (sym is) ∙ q)
        (used_tuple f (took_past k (n.slot f) h) (take_uses (R.act (n.slot f).body) (took_act k (n.slot f) h)))
      where
        kind_at : ℕ → Kind
        kind_at j = (n.slot j).kind

        is : (n.slot f).used ≡ k
        is = took_is k (n.slot f) h

    pub read_tuple_lem : (f k : ℕ) → reads n f k ≡ true → ((n.slot k).kind ≡ tuple) ⊎ ((n.slot k).kind ≡ consumed)
    read_tuple_lem f k h =
        rw (← read_is k (n.slot f) h)
        (used_tuple f (read_past k (n.slot f) h) (read_uses (R.act (n.slot f).body) (read_act k (n.slot f) h)))

    -- an event whose byte 5 holds a key took or read it
    pub take_or_read : (f : ℕ) → f ∈ events n → (n.slot f).used < R.keys
        → (takes n f (n.slot f).used ≡ true) ⊎ (reads n f (n.slot f).used ≡ true)
    take_or_read f p l =
        cases (uses (R.act (n.slot f).body))
        (λ u.
        or_cases (is_take (R.act (n.slot f).body)) (is_read (R.act (n.slot f).body)) u (λ q. inl (took_of (n.slot f) p q))
        (λ q. inr (read_of (n.slot f) p q)))
        (λ u. absurd (omega (arith, (ok.agrees f p).rule.places.no_used u, R.few)))

    -- ---- what was made is held, and stands there as it was made but for what happened since

    pub made_there : (e k : ℕ) → makes n e k ≡ true → forget (n.slot k) ≡ product e (n.slot e) (met n (n.slot e)).body k
    made_there e k h = (ok.agrees e (made_past k (n.slot e) h)).made k h

    pub made_as : (e k : ℕ) → makes n e k ≡ true → Made e (n.slot e) (met n (n.slot e)).body k
    made_as e k h =
        made_way e (n.slot e) (met n (n.slot e)).body k (ok.agrees e (made_past k (n.slot e) h)).rule.places h

    pub made_held : (e k : ℕ) → makes n e k ≡ true → k ∈ held n
    made_held e k h =
        ap not
        (sym (forget_free (n.slot k)) ∙ ap is_free (kind_eq (made_there e k h)) ∙
        live_held (product e (n.slot e) (met n (n.slot e)).body k).kind
        (made_live_kind e (n.slot e) (met n (n.slot e)).body k (made_as e k h)))

    -- ---- an event may be undone exactly when nothing depends on it directly

    pub undoable_last : (x : ℕ) → Undoable n x → Last (depends n) (events n) x
    undoable_last x u =
        record {
          member = u.is_past_lem;
          none = λ f s. fails (events n f) (λ p. no_cause f p (depends_cause n x f s).1);
        }
      where
        not_consumed : (k : ℕ) → makes n x k ≡ true → is_consumed (n.slot k).kind ≡ false
        not_consumed k h = live_not_consumed (n.slot k).kind (u.made_live k h)

        no_cause : (f : ℕ) → f ∈ events n → Cause n x f → ⊥
        no_cause f p (made_key_lem h) = clash (events n f) p (live_not_past (n.slot f).kind (u.made_live f h))
        no_cause f p (made_tuple h) =
            ⊎_elim
            (λ t. clash (is_consumed (n.slot (n.slot f).used).kind) (ap is_consumed (take_consumed f (n.slot f).used t)) (not_consumed (n.slot f).used h))
            (λ r. clash (reads n f (n.slot f).used) r (u.unread (n.slot f).used f h))
            (take_or_read f p (made_below (n.slot f).used (n.slot x) h))
        no_cause f p (read_before h k) =
            clash (is_consumed (n.slot (n.slot f).used).kind) (ap is_consumed (take_consumed f (n.slot f).used k))
            (ap is_consumed (u.read_live (n.slot f).used h))

    pub last_undoable : (x : ℕ) → Last (depends n) (events n) x → Undoable n x
    last_undoable x l =
        record {
          is_past_lem = l.member;
          made_live = λ k h. live_of k h (n.slot k).kind refl;
          unread = λ k f h. fails (reads n f k) (λ r. used_by_lem k f h (read_past k (n.slot f) r) (read_is k (n.slot f) r));
          read_live = λ k r. ⊎_elim (λ p. p) (λ p. absurd (after_read_lem k r (ok.consumed_taken_lem k p))) (read_tuple_lem x k r);
        }
      where
        none_after : (f : ℕ) → f ∈ events n → Cause n x f → ⊥
        none_after f p c = clash (events n f) p (l.none f (cause_depends n x f p c))

        used_by_lem : (k f : ℕ) → makes n x k ≡ true → f ∈ events n → (n.slot f).used ≡ k → ⊥
        used_by_lem k f h p e = none_after f p (made_tuple (rw e h))

        live_of : (k : ℕ) → makes n x k ≡ true → (c : Kind) → (n.slot k).kind ≡ c → (c ≡ live) ⊎ (c ≡ tuple)
        live_of k h free e = clash (held n k) (made_held x k h) (ap is_held e)
        live_of k h live e = inl refl
        live_of k h past e = absurd (none_after k (ap is_past e) (made_key_lem h))
        live_of k h tuple e = inr refl
        live_of k h consumed e =
            let (f, t) = ok.consumed_taken_lem k e in
            absurd (used_by_lem k f h (took_past k (n.slot f) t) (took_is k (n.slot f) t))

        after_read_lem : (k : ℕ) → reads n x k ≡ true → (f : ℕ) × (takes n f k ≡ true) → ⊥
        after_read_lem k r (f, t) =
            let e = took_is k (n.slot f) t in
            none_after f (took_past k (n.slot f) t) (read_before (ap (reads n x) e ∙ r) (ap (takes n f) e ∙ t))
