-- The theory is about something: the nets of document 01's cases are accepted, before and after their steps.
-- In order: a net with no past process that is written out (`starts`); the cases' nets; after steps.
-- Assumes nothing.
use Rattle.std.specs.Prelude.{ℕ, zero, suc, ◌<◌, ◌≤◌, ◌≡◌, refl, List, [], ◌∷◌, true, false, ltb, leb, length, get_or}
use Rattle.std.proofs.Common.{ap, sym, ◌∙◌, subst, arith, leb-true, le-ltb}
use Rattle.std.proofs.Math.Logic.{by_cases}
use Rattle.std.proofs.Math.Decide.{dec_lt}
use Rattle.std.proofs.Math.ListN.{get_or-eq_default}
use Rattle.laws.specs.Choice.{clash, and_left}
use Rattle.order.specs.KeySets.{Set, ◌∈◌, any, any_not}
use Rattle.nets.specs.Net.{Kind, free, live, tuple, consumed, Slot, Net, free_slot, fresh, is_past, held, made_key, took_tuple, read_tuple, made_locality, makes, takes, makes_locality, depends}
use Rattle.nets.specs.Accepted.{Formed, Root, Accepted}
use Rattle.images.specs.Net.{process_in_range, tuple_in_range, refs_in_range, variables_in_range, is_datum, is_set, is_unset, refs_are, made_are, data_fill, field_or_blank}
use Rattle.laws.specs.Lists.{tab}
use Rattle.matching.specs.Evaluate
use Rattle.matching.specs.Match
use Rattle.products.specs.Body.{Body}
use Rattle.products.specs.Products
use Rattle.rules.specs.Instance.{act_of}
use Rattle.rules.specs.Roots.{rooted}
use Rattle.nets.specs.Rule.{product}
use Rattle.nets.specs.Forward.{forward}
use Rattle.nets.proofs.Demands.{forward_accepted}
use Rattle.requests.specs.Checks.{refusal}
use Rattle.requests.specs.Answers.{Request, in_range, places, places_of, tuple_there, fresh_free, forward_checks}
use Rattle.requests.specs.Laws.{forward_can}
use Rattle.cases.specs.Table.{request}
use Rattle.laws.specs.Checks.{all}
use Rattle.cases.specs.Script.{T, T-lawful, rolled, slots_a, slots_b, slots_c, slots_d, net_a, net_b, net_c, net_d}

apart : ◌≡◌ {A = ℕ} 0 1 → ⊥
apart z = omega arith

-- a record that a net may start from: live, in range, rooted, at a present locality
pub record Start (present : Set) (s : Slot T) : Type 0 where
  pub formed : Formed s.kind s
  pub live_record : is_past s.kind ≡ false
  pub whole : s.kind ≡ consumed → ⊥
  pub rooted : T.rooted s.body ≡ true
  pub lives : present (T.at s.body) ≡ true

abbrev pub Starts : Set → List (Slot T) → Type 0
Starts present [] = Unit
Starts present (s ∷ ss) = Start present s × Starts present ss

start_at : (present : Set) (slots : List (Slot T)) → Starts present slots → (k : ℕ) → k < length slots → Start present (get_or slots k free_slot)
start_at present [] ps k l = absurd (omega arith)
start_at present (s ∷ ss) ps zero l = ps.0
start_at present (s ∷ ss) ps (suc k) l = start_at present ss ps.1 k (omega arith)

module _ (present : Set) (slots : List (Slot T)) (few : length slots ≤ 64) (made : (l : ℕ) → T.makeable l ≡ true → present l ≡ false) (starts : Starts present slots) where
  abbrev n : Net T
  n = record { present = present; slot = λ i. get_or slots i free_slot }

  beyond : (k : ℕ) → length slots ≤ k → n.slot k ≡ free_slot
  beyond k l = get_or-eq_default slots free_slot {n = k} l

  no_past : (e : ℕ) → is_past (n.slot e).kind ≡ false
  no_past e =
      by_cases (dec_lt e (length slots)) (λ l. (start_at present slots starts e l).live_record)
      (λ l. ap (λ (s : Slot T). is_past s.kind) (beyond e (omega arith)))

  no_makes : (e k : ℕ) → makes n e k ≡ false
  unfolding made_key
  no_makes e k = rw (no_past e)

  no_takes : (e k : ℕ) → takes n e k ≡ false
  unfolding took_tuple
  no_takes e k = rw (no_past e)

  no_makes_locality : (e l : ℕ) → makes_locality n e l ≡ false
  unfolding made_locality
  no_makes_locality e l = rw (no_past e)

  no_depends : (e f : ℕ) → depends n e f ≡ false
  unfolding depends
  no_depends e f = rw (no_past f)

  formed : (k : ℕ) → Formed (n.slot k).kind (n.slot k)
  formed k =
      by_cases (dec_lt k (length slots)) (λ l. (start_at present slots starts k l).formed)
      (λ l. subst (λ (s : Slot T). Formed s.kind s) (sym (beyond k (omega arith))) refl)

  root : (k : ℕ) → k ∈ held n → Root n (n.slot k)
  root k h =
      by_cases (dec_lt k (length slots))
      (λ l. record { rooted = (start_at present slots starts k l).rooted; lives = (start_at present slots starts k l).lives })
      (λ l. clash false (subst (λ (s : Slot T). held (record { present = present; slot = λ _. s }) k ≡ true) (beyond k (omega arith)) h) refl)

  not_consumed : (k : ℕ) → (n.slot k).kind ≡ consumed → ⊥
  not_consumed k e =
      by_cases (dec_lt k (length slots)) (λ l. (start_at present slots starts k l).whole e)
      (λ l. free_whole (sym (ap (λ (s : Slot T). s.kind) (beyond k (omega arith))) ∙ e))
    where
      free_whole : ◌≡◌ {A = Kind} free consumed → ⊥
      free_whole z = let w : ◌≡◌ {A = ℕ} 0 1 = cc in omega arith

  pub start_accepted : Accepted n
  start_accepted =
      record {
        bound = λ k l. beyond k (omega arith);
        formed = formed;
        agrees = λ e p. clash (is_past (n.slot e).kind) p (no_past e);
        key_once = λ e f k p q. clash (makes n e k) p (no_makes e k);
        locality_once = λ e f l p q. clash (makes_locality n e l) p (no_makes_locality e l);
        consumed_taken_lem = λ k e. absurd (not_consumed k e);
        taken_once = λ f g k p q. clash (takes n f k) p (no_takes f k);
        live_untaken = λ f k e. no_takes f k;
        present_made = λ l m. made l m ∙ sym (any_not 64 (λ e. makes_locality n e l) (λ e q. no_makes_locality e l));
        roots = λ k h u. root k h;
        no_cycle = λ e f d r. clash (depends n e f) d (no_depends e f);
      }

-- ---- the cases' nets

-- the first k localities, up to 8, need no maker
low : (k : ℕ) → k ≤ 8 → (l : ℕ) → T.makeable l ≡ true → ltb l k ≡ false
low k h l m = le-ltb l k (omega (arith, leb-true 8 l (and_left (leb 8 l) _ m)))

of_process : (present : Set) (b : Body) → T.is_process b ≡ true → T.rooted b ≡ true → present (T.at b) ≡ true → Start present (fresh live b)
of_process present b p r l =
    record { formed = (refl, p); live_record = refl; whole = λ (e : ◌≡◌ {A = Kind} live consumed). apart cc; rooted = r; lives = l }

of_tuple : (present : Set) (b : Body) → T.is_tuple b ≡ true → T.rooted b ≡ true → present (T.at b) ≡ true → Start present (fresh tuple b)
of_tuple present b p r l =
    record { formed = (refl, p); live_record = refl; whole = λ (e : ◌≡◌ {A = Kind} tuple consumed). apart cc; rooted = r; lives = l }

abbrev first : ℕ → Set
first k l = ltb l k

pub accepted-A : Accepted net_a
unfolding process_in_range tuple_in_range refs_in_range variables_in_range is_datum is_set is_unset refs_are made_are data_fill field_or_blank rooted all
accepted-A = start_accepted (first 1) slots_a (omega arith) (low 1 (omega arith)) (of_process _ _ refl refl refl, (of_tuple _ _ refl refl refl, tt))

pub accepted-B : Accepted net_b
unfolding process_in_range tuple_in_range refs_in_range variables_in_range is_datum is_set is_unset refs_are made_are data_fill field_or_blank rooted all
accepted-B =
    start_accepted (first 3) slots_b (omega arith) (low 3 (omega arith))
    (of_tuple _ _ refl refl refl, (of_process _ _ refl refl refl, (of_process _ _ refl refl refl, tt)))

pub accepted-C : Accepted net_c
unfolding process_in_range tuple_in_range refs_in_range variables_in_range is_datum is_set is_unset refs_are made_are data_fill field_or_blank rooted all
accepted-C =
    start_accepted (first 3) slots_c (omega arith) (low 3 (omega arith))
    (of_tuple _ _ refl refl refl, (of_process _ _ refl refl refl, (of_process _ _ refl refl refl, tt)))

pub accepted-D : Accepted net_d
unfolding process_in_range tuple_in_range refs_in_range variables_in_range is_datum is_set is_unset refs_are made_are data_fill field_or_blank rooted all
accepted-D = start_accepted (first 1) slots_d (omega arith) (low 1 (omega arith)) (of_process _ _ refl refl refl, tt)

-- ---- after steps

-- the net after a forward request that is answered 0
abbrev pub stepped : Net T → Request → Net T
stepped m r = forward m (places rolled m r)

step_accepted : (m : Net T) → Accepted m → (r : Request) → in_range r ≡ true → refusal (forward_checks rolled m r) ≡ 0 → Accepted (stepped m r)
step_accepted m ok r range done = forward_accepted T-lawful m ok (places rolled m r) (forward_can rolled refl refl m r range done)

pub accepted-A₁ : Accepted (stepped net_a (request 0 0 255 2 3 255))
unfolding in_range refusal forward_checks places_of tuple_there fresh_free Products.target_by Products.fits Evaluate.target_of Evaluate.actual Products.ready_by Evaluate.fields_ready Evaluate.is_ready Match.meets Match.place_meets Match.field_meets Match.bound Match.bind_up_to Match.bind_one all act_of made_key took_tuple read_tuple made_locality forward product Products.continued_by Products.variables_after Products.references_after Products.second_by Products.tuple_by Products.process_by tab any
accepted-A₁ = step_accepted net_a accepted-A (request 0 0 255 2 3 255) refl refl

pub accepted-A₂ : Accepted (stepped (stepped net_a (request 0 0 255 2 3 255)) (request 0 2 1 4 255 255))
unfolding in_range refusal forward_checks places_of tuple_there fresh_free Products.target_by Products.fits Evaluate.target_of Evaluate.actual Products.ready_by Evaluate.fields_ready Evaluate.is_ready Match.meets Match.place_meets Match.field_meets Match.bound Match.bind_up_to Match.bind_one all act_of made_key took_tuple read_tuple made_locality forward product Products.continued_by Products.variables_after Products.references_after Products.second_by Products.tuple_by Products.process_by tab any
accepted-A₂ = step_accepted (stepped net_a (request 0 0 255 2 3 255)) accepted-A₁ (request 0 2 1 4 255 255) refl refl

pub accepted-B₁ : Accepted (stepped net_b (request 0 1 0 3 255 255))
unfolding in_range refusal forward_checks places_of tuple_there fresh_free Products.target_by Products.fits Evaluate.target_of Evaluate.actual Products.ready_by Evaluate.fields_ready Evaluate.is_ready Match.meets Match.place_meets Match.field_meets Match.bound Match.bind_up_to Match.bind_one all act_of made_key took_tuple read_tuple made_locality forward product Products.continued_by Products.variables_after Products.references_after Products.second_by Products.tuple_by Products.process_by tab any
accepted-B₁ = step_accepted net_b accepted-B (request 0 1 0 3 255 255) refl refl

pub accepted-B₂ : Accepted (stepped (stepped net_b (request 0 1 0 3 255 255)) (request 0 2 0 4 255 255))
unfolding in_range refusal forward_checks places_of tuple_there fresh_free Products.target_by Products.fits Evaluate.target_of Evaluate.actual Products.ready_by Evaluate.fields_ready Evaluate.is_ready Match.meets Match.place_meets Match.field_meets Match.bound Match.bind_up_to Match.bind_one all act_of made_key took_tuple read_tuple made_locality forward product Products.continued_by Products.variables_after Products.references_after Products.second_by Products.tuple_by Products.process_by tab any
accepted-B₂ = step_accepted (stepped net_b (request 0 1 0 3 255 255)) accepted-B₁ (request 0 2 0 4 255 255) refl refl

pub accepted-C₁ : Accepted (stepped net_c (request 0 1 0 3 255 255))
unfolding in_range refusal forward_checks places_of tuple_there fresh_free Products.target_by Products.fits Evaluate.target_of Evaluate.actual Products.ready_by Evaluate.fields_ready Evaluate.is_ready Match.meets Match.place_meets Match.field_meets Match.bound Match.bind_up_to Match.bind_one all act_of made_key took_tuple read_tuple made_locality forward product Products.continued_by Products.variables_after Products.references_after Products.second_by Products.tuple_by Products.process_by tab any
accepted-C₁ = step_accepted net_c accepted-C (request 0 1 0 3 255 255) refl refl

pub accepted-C₂ : Accepted (stepped (stepped net_c (request 0 1 0 3 255 255)) (request 0 2 0 4 255 255))
unfolding in_range refusal forward_checks places_of tuple_there fresh_free Products.target_by Products.fits Evaluate.target_of Evaluate.actual Products.ready_by Evaluate.fields_ready Evaluate.is_ready Match.meets Match.place_meets Match.field_meets Match.bound Match.bind_up_to Match.bind_one all act_of made_key took_tuple read_tuple made_locality forward product Products.continued_by Products.variables_after Products.references_after Products.second_by Products.tuple_by Products.process_by tab any
accepted-C₂ = step_accepted (stepped net_c (request 0 1 0 3 255 255)) accepted-C₁ (request 0 2 0 4 255 255) refl refl

pub accepted-D₁ : Accepted (stepped net_d (request 0 0 255 1 255 8))
unfolding in_range refusal forward_checks places_of tuple_there fresh_free Products.target_by Products.fits Evaluate.target_of Evaluate.actual Products.ready_by Evaluate.fields_ready Evaluate.is_ready Match.meets Match.place_meets Match.field_meets Match.bound Match.bind_up_to Match.bind_one all act_of made_key took_tuple read_tuple made_locality forward product Products.continued_by Products.variables_after Products.references_after Products.second_by Products.tuple_by Products.process_by tab any
accepted-D₁ = step_accepted net_d accepted-D (request 0 0 255 1 255 8) refl refl

pub accepted-D₂ : Accepted (stepped (stepped net_d (request 0 0 255 1 255 8)) (request 0 1 255 2 3 255))
unfolding in_range refusal forward_checks places_of tuple_there fresh_free Products.target_by Products.fits Evaluate.target_of Evaluate.actual Products.ready_by Evaluate.fields_ready Evaluate.is_ready Match.meets Match.place_meets Match.field_meets Match.bound Match.bind_up_to Match.bind_one all act_of made_key took_tuple read_tuple made_locality forward product Products.continued_by Products.variables_after Products.references_after Products.second_by Products.tuple_by Products.process_by tab any
accepted-D₂ = step_accepted (stepped net_d (request 0 0 255 1 255 8)) accepted-D₁ (request 0 1 255 2 3 255) refl refl
