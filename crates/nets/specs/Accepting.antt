-- Which nets are accepted, as a test that computes. Nothing here must be believed: `Accepted` is the statement, and `AcceptedTest` proves
-- the test true exactly when it holds. It needs a test of equal contents (`same`), and a number L above all localities that need a maker.
--
-- In order: an event's places and rule (`placed`, `fitting`, `ruled`); said by one event alone (`once_each`); tuples,
-- localities and roots as they must be (`tuples_right`, `localities_right`, `roots_right`); records that are the same (`same_slot`); the form
-- of a slot (`formed`); an event and what it made (`agreed`); `accepted`.
-- Assumes nothing.
use Rattle.std.specs.Prelude.{Bool, not, ◌&&◌, ◌||◌, ℕ, eqb, ltb}
use Rattle.laws.specs.Choice.{pick, sameb, ◌⇒◌}
use Rattle.laws.specs.Checks.{all}
use Rattle.order.specs.KeySets.{any}
use Rattle.order.specs.Distinct.{distinct}
use Rattle.order.specs.Peeling.{acyclic}
use Rattle.nets.specs.Rules.{Rules, none, acts, aims, uses, is_newloc, second_of, is_there}
use Rattle.nets.specs.Net.{is_live_tuple, kind_number, Kind, free, live, past, tuple, consumed, Net, events, is_consumed, Slot, free_slot, fresh, forget, held, makes, takes, makes_locality, is_made, is_made_locality, depends}
use Rattle.nets.specs.Rule.{met, product}

module _ {R : Rules} where
  -- ---- an event and its rule

  unfoldable pub placed : Slot R → Bool
  placed s =
      ltb s.first R.keys &&
      (pick (is_there (second_of (R.act s.body))) (ltb s.second R.keys) (eqb s.second none) &&
      (not (eqb s.first s.second) &&
      (pick (uses (R.act s.body)) (ltb s.used R.keys) (eqb s.used none) &&
      pick (is_newloc (R.act s.body)) (R.makeable s.place) (eqb s.place none))))

  -- the tuple met is one, at the target, and matches
  unfoldable pub fitting : Net R → Slot R → Bool
  fitting n s =
      is_live_tuple (met n s).kind && (eqb (R.at (met n s).body) (R.target s.body) && R.fits s.body (met n s).body)

  unfoldable pub ruled : Net R → Slot R → Bool
  ruled n s =
      acts (R.act s.body) &&
      (placed s &&
      (R.ready s.body &&
      ((aims (R.act s.body) ⇒ n.present (R.target s.body)) && (uses (R.act s.body) ⇒ fitting n s))))

  -- ---- the net as a whole

  -- a key is made at most once, a locality too, and a tuple taken: no two events say the same; all localities that are made are below L
  unfoldable pub once_each : ℕ → Net R → Bool
  once_each L n =
      distinct R.keys R.keys (makes n) &&
      (distinct L R.keys (makes_locality n) && distinct R.keys R.keys (takes n))

  -- a consumed tuple was taken, and what was taken is no live tuple
  unfoldable pub tuples_right : Net R → Bool
  tuples_right n =
      all R.keys (λ k. is_consumed (n.slot k).kind ⇒ any R.keys (λ f. takes n f k)) &&
      all R.keys (λ f. takes n f (n.slot f).used ⇒ not (is_live_tuple (n.slot (n.slot f).used).kind))

  -- localities that need a maker, all of them below L, are present exactly when made
  unfoldable pub localities_right : ℕ → Net R → Bool
  localities_right L n = all L (λ l. R.makeable l ⇒ sameb (n.present l) (is_made_locality n l))

  -- a record that nobody made is a root
  unfoldable pub roots_right : Net R → Bool
  roots_right n =
      all R.keys
      (λ k. held n k ⇒ (is_made n k || (R.rooted (n.slot k).body && n.present (R.at (n.slot k).body))))

module _ {R : Rules} (same : R.Body → R.Body → Bool) where
  -- ---- records

  unfoldable pub same_slot : Slot R → Slot R → Bool
  same_slot s t =
      eqb (kind_number s.kind) (kind_number t.kind) &&
      (same s.body t.body && (eqb s.first t.first && (eqb s.second t.second && (eqb s.used t.used && eqb s.place t.place))))

  abbrev pub formed_as : Kind → Slot R → Bool
  formed_as free s = same_slot s free_slot
  formed_as live s = same_slot s (fresh live s.body) && R.is_process s.body
  formed_as past s = R.is_process s.body
  formed_as tuple s = same_slot s (fresh tuple s.body) && R.is_tuple s.body
  formed_as consumed s = same_slot s (fresh consumed s.body) && R.is_tuple s.body

  unfoldable pub formed : Slot R → Bool
  formed s = formed_as s.kind s

  unfoldable pub agreed : Net R → ℕ → Bool
  agreed n e =
      ruled n (n.slot e) &&
      all R.keys (λ k. makes n e k ⇒ same_slot (forget (n.slot k)) (product e (n.slot e) (met n (n.slot e)).body k))

  -- ---- acceptance

  unfoldable pub accepted : ℕ → Net R → Bool
  accepted L n =
      all R.keys (λ k. formed (n.slot k)) &&
      (all R.keys (λ e. events n e ⇒ agreed n e) &&
      (once_each L n && (tuples_right n && (localities_right L n && (roots_right n && acyclic R.keys (depends n) (events n))))))
