-- The laws are not about nothing: smallest rules that obey them, and an accepted net with a past that they are about.
--
-- In order: rules under which a process is a list of acts, all at locality 0 (`lists`, `lists_lawful`); a net with one process (`before`); its out (`once`)
-- and then its in of its own tuple (`twice`); that they are accepted; that the in is a dependent of the out (`out_undone`), and what its
-- rollback touches (`out_touched`); that the test of acceptance computes, to yes and to no (`twice_tested`, `torn_tested`).
-- Assumes nothing.
use Rattle.std.specs.Prelude.{◌≡◌, refl, ◌⊎◌, Bool, true, false, ◌&&◌, List, [], ◌∷◌, ℕ, zero, suc, ◌≤◌, eqb}
use Rattle.std.proofs.Common.{sym, ◌∙◌, inl, inr, true≢false, arith, eqb-true, ne_eqb}
use Rattle.std.proofs.lemmas.Bool.{false≢true}
use Rattle.laws.specs.Choice.{pick, clash, fails}
use Rattle.laws.specs.Checks.{all}
use Rattle.order.specs.KeySets.{any, any_not, count}
use Rattle.order.specs.Dependents as D
use Rattle.order.specs.Peeling.{last, peel, acyclic}
use Rattle.order.specs.Distinct
use Rattle.nets.specs.Rules.{Rules, Lawful, none, Act, number, nil, out, take}
use Rattle.nets.specs.Net.{free, live, consumed, Slot, Net, free_slot, fresh, forget, made_key, took_tuple, read_tuple, made_locality, events, makes, takes, makes_locality, depends}
use Rattle.nets.specs.Rule.{product}
use Rattle.nets.specs.Forward.{Request, done, forward, Can}
use Rattle.nets.specs.Undo.{undone, rollback, touched, undo_set, made_by, taken_by, again_by, locality_by}
use Rattle.nets.specs.Accepted.{Formed, Accepted}
use Rattle.nets.specs.Records.{OfEvents, made_past, made_below, made_cases, took_past, locality_past}
use Rattle.nets.proofs.Events.{depends_cause}
use Rattle.nets.proofs.Onward.{forward_accepted}
use Rattle.nets.specs.Accepting.{placed, fitting, ruled, once_each, tuples_right, localities_right, roots_right, same_slot, formed, agreed, accepted}

abbrev head_of : List Act → Act
head_of [] = nil
head_of (a ∷ l) = a

abbrev tail_of : List Act → List Act
tail_of [] = []
tail_of (a ∷ l) = l

-- a process is what it has still to do; every template matches
abbrev pub lists : Rules
lists =
    record {
      keys = 4;
      few = omega arith;
      Body = List Act;
      void = [];
      is_process = λ b. true;
      is_tuple = λ b. true;
      at = λ b. 0;
      act = head_of;
      target = λ b. 0;
      ready = λ b. true;
      fits = λ b t. true;
      next = λ k b t l. tail_of b;
      second = λ b. [];
      makeable = eqb 8;
      rooted = λ b. true;
      names = λ b m. false;
      refers = λ b r. false;
    }

-- they obey the laws
abbrev pub lists_lawful : Lawful lists
lists_lawful =
    record {
      next_process = λ k b t l _ _ _ _ _ _. refl;
      second_tuple = λ b _ _ _. refl;
      second_process = λ b _ _ _. refl;
      next_at = λ k b t l. refl;
      second_at_lem = λ b. inl refl;
      rooted_at = λ b _. refl;
      rooted_names = λ b m _ h. absurd (false≢true h);
      target_names = λ b _ h. absurd (false≢true h);
      next_names = λ k b t l m _ h. absurd (false≢true h);
      second_names = λ b m _ h. absurd (false≢true h);
      rooted_refers = λ b r _. refl;
      next_refers = λ k b t l r h. absurd (false≢true h);
      second_refers = λ b r h. absurd (false≢true h);
    }

-- ---- one process, that will put a tuple and take it

abbrev slots_before : ℕ → Slot lists
slots_before zero = fresh live (out ∷ take ∷ [])
slots_before (suc k) = free_slot

abbrev pub before : Net lists
before = record { present = eqb 0; slot = slots_before }

no_past : (e : ℕ) → events before e ≡ false
no_past zero = refl
no_past (suc e) = refl

nobody : (Q : Slot lists → Bool) → OfEvents Q → (e : ℕ) → Q (before.slot e) ≡ false
nobody Q of e = fails (Q (before.slot e)) (λ h. clash (events before e) (of (before.slot e) h) (no_past e))

pub before_accepted : Accepted before
before_accepted =
    record {
      bound = bound;
      formed = formed;
      agrees = λ e p. clash (events before e) p (no_past e);
      key_once = λ e f k p q. clash (makes before e k) p (nobody (made_key k) (made_past k) e);
      locality_once = λ e f l p q. clash (makes_locality before e l) p (nobody (made_locality l) (locality_past l) e);
      consumed_taken_lem = λ k c. absurd (unconsumed k c);
      taken_once = λ f g k p q. clash (takes before f k) p (nobody (took_tuple k) (took_past k) f);
      live_untaken = λ f k h. nobody (took_tuple k) (took_past k) f;
      present_made = λ l m.
          ne_eqb 0 l (λ z. omega (arith, eqb-true 8 l m)) ∙
          sym (any_not 4 (λ e. makes_locality before e l) (λ e b. nobody (made_locality l) (locality_past l) e));
      roots = λ k h m. record { rooted = refl; lives = refl };
      no_cycle = λ e f s r. clash (events before f) (depends_cause before e f s).0 (no_past f);
    }
  where
    bound : (k : ℕ) → 4 ≤ k → before.slot k ≡ free_slot
    bound zero b = absurd (omega arith)
    bound (suc k) b = refl

    formed : (k : ℕ) → Formed (before.slot k).kind (before.slot k)
    formed zero = (refl, refl)
    formed (suc k) = refl

    unconsumed : (k : ℕ) → (before.slot k).kind ≡ consumed → ⊥
    unconsumed zero c = true≢false cc
    unconsumed (suc k) c = true≢false cc

-- ---- its out

abbrev putting : Request
putting = record { key = 0; used = none; first = 1; second = 2; place = none }

pub can_put : Can before putting
can_put =
    record {
      is_live_lem = refl;
      rule = record {
        acting = refl;
        places = record {
          first = omega arith;
          second = λ h. omega arith;
          no_second = λ h. absurd (true≢false h);
          apart = λ h. omega arith;
          used = λ h. absurd (false≢true h);
          no_used = λ h. refl;
          place = λ h. absurd (false≢true h);
          no_place = λ h. refl;
        };
        ready = refl;
        there = λ h. refl;
        meets = λ h. absurd (false≢true h);
        here = λ h. absurd (false≢true h);
        fits = λ h. absurd (false≢true h);
      };
      tuple_live = λ h. absurd (false≢true h);
      fresh_keys = λ k h. fresh_key k (made_cases k (done before putting) h);
      fresh_place = λ h. absurd (false≢true h);
    }
  where
    fresh_key : (k : ℕ) → (1 ≡ k) ⊎ (2 ≡ k) → (before.slot k).kind ≡ free
    fresh_key k (inl e) = rw (← e) refl
    fresh_key k (inr e) = rw (← e) refl

abbrev pub once : Net lists
once = forward before putting

pub once_accepted : Accepted once
once_accepted = forward_accepted lists_lawful before before_accepted putting can_put

-- ---- and its in

abbrev taking : Request
taking = record { key = 1; used = 2; first = 3; second = none; place = none }

pub can_take : Can once taking
unfolding forward product made_key took_tuple made_locality
can_take =
    record {
      is_live_lem = refl;
      rule = record {
        acting = refl;
        places = record {
          first = omega arith;
          second = λ h. absurd (false≢true h);
          no_second = λ h. refl;
          apart = λ h. omega arith;
          used = λ h. omega arith;
          no_used = λ h. absurd (true≢false h);
          place = λ h. absurd (false≢true h);
          no_place = λ h. refl;
        };
        ready = refl;
        there = λ h. refl;
        meets = λ h. refl;
        here = λ h. refl;
        fits = λ h. refl;
      };
      tuple_live = λ h. refl;
      fresh_keys = λ k h. fresh_key k h (made_cases k (done once taking) h);
      fresh_place = λ h. absurd (false≢true h);
    }
  where
    fresh_key : (k : ℕ) → made_key k (done once taking) ≡ true → (3 ≡ k) ⊎ (none ≡ k) → (once.slot k).kind ≡ free
    fresh_key k h (inl e) = rw (← e) refl
    fresh_key k h (inr e) = absurd (omega (arith, made_below k (done once taking) h))

abbrev pub twice : Net lists
twice = forward once taking

pub twice_accepted : Accepted twice
twice_accepted = forward_accepted lists_lawful once once_accepted taking can_take

-- the in depends on the out: its own process and its tuple are the out's
pub out_undone : undone twice 0 ≡ 2
unfolding forward product made_key took_tuple read_tuple made_locality depends any count D.dependents D.closure D.rounds D.grow
out_undone = refl

pub out_touched : touched twice (rollback twice 0) 0 ≡ true
unfolding forward product made_key took_tuple read_tuple made_locality depends any D.dependents D.closure D.rounds D.grow touched undo_set made_by taken_by again_by locality_by
out_touched = refl

-- ---- the test of acceptance computes

abbrev same_acts : List Act → List Act → Bool
same_acts [] [] = true
same_acts [] (b ∷ m) = false
same_acts (a ∷ l) [] = false
same_acts (a ∷ l) (b ∷ m) = eqb (number a) (number b) && same_acts l m

pub twice_tested : accepted same_acts 9 twice ≡ true
unfolding accepted formed agreed ruled placed fitting same_slot once_each Distinct.distinct tuples_right localities_right roots_right acyclic peel last D.rounds all any depends forward product made_key took_tuple read_tuple made_locality
twice_tested = refl

-- the tuple that the in took, live again while the in is past
abbrev torn : Net lists
torn = record { present = twice.present; slot = λ k. pick (eqb k 2) (forget (twice.slot k)) (twice.slot k) }

pub torn_tested : accepted same_acts 9 torn ≡ false
unfolding accepted formed agreed ruled placed fitting same_slot once_each Distinct.distinct tuples_right localities_right roots_right acyclic peel last D.rounds all any depends forward product made_key took_tuple read_tuple made_locality
torn_tested = refl
