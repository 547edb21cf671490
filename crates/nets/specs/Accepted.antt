-- Which nets are accepted. Document 01, "Which nets are accepted": each clause stands under its sentence.
--
-- In order: the number of slots (`Bounded`) and the form of each (`Formed`); an event and what it made (`Agrees`); a record that nobody
-- made (`Root`); `Accepted`.
-- Assumes nothing.
use Rattle.std.specs.Prelude.{◌≡◌, true, false, ℕ, ◌≤◌}
use Rattle.order.specs.KeySets.{◌∈◌, ◌∉◌}
use Rattle.order.specs.Graphs.{Acyclic}
use Rattle.nets.specs.Rules.{Rules}
use Rattle.nets.specs.Net.{Kind, free, live, past, tuple, consumed, Slot, Net, free_slot, fresh, forget, events, held, made_key, makes, takes, makes_locality, is_made, is_made_locality, depends}
use Rattle.nets.specs.Rule.{met, product, Rule}

module _ {R : Rules} where
  -- "64 slots": from the number of keys on nothing is held
  abbrev pub Bounded : Net R → Type 0
  Bounded n = (k : ℕ) → R.keys ≤ k → n.slot k ≡ free_slot

  -- "A free slot is all 0. Otherwise bytes 3..6 are 255 where nothing is held": tuples and live processes hold nothing there.
  abbrev pub Formed : Kind → Slot R → Type 0
  Formed free s = s ≡ free_slot
  Formed live s = (s ≡ fresh live s.body) × (R.is_process s.body ≡ true)
  Formed past s = R.is_process s.body ≡ true
  Formed tuple s = (s ≡ fresh tuple s.body) × (R.is_tuple s.body ≡ true)
  Formed consumed s = (s ≡ fresh consumed s.body) × (R.is_tuple s.body ≡ true)

  -- the event with key e and record s: its rule applies, and what it made is what the rule makes, but for what happened to it since
  pub record Agrees (n : Net R) (e : ℕ) (s : Slot R) : Type 0 where
    pub rule : Rule n s
    pub made : (k : ℕ) → made_key k s ≡ true → forget (n.slot k) ≡ product e s (met n s).body k

  -- what a record that nobody made must be
  pub record Root (n : Net R) (s : Slot R) : Type 0 where
    pub rooted : R.rooted s.body ≡ true
    pub lives : R.at s.body ∈ n.present

  pub record Accepted (n : Net R) : Type 0 where
    -- "Length, mark, version and form"
    pub bound : Bounded n
    pub formed : (k : ℕ) → Formed (n.slot k).kind (n.slot k)
    -- "each past record and what it made agree with the rule above, targets present; a past process is at kinds 1..6"
    pub agrees : (e : ℕ) → e ∈ events n → Agrees n e (n.slot e)
    -- "a key, or a locality 8..31, is made at most once, and no other locality is made" (the last is in `Places`, as is that the two
    -- keys of one event are not one)
    pub key_once : (e f k : ℕ) → makes n e k ≡ true → makes n f k ≡ true → e ≡ f
    pub locality_once : (e f l : ℕ) → makes_locality n e l ≡ true → makes_locality n f l ≡ true → e ≡ f
    -- "a consumed tuple is used by exactly one past in, a live one by none, a past read uses a live or consumed tuple" (the last is in
    -- `Rule`, for an in too)
    pub consumed_taken_lem : (k : ℕ) → (n.slot k).kind ≡ consumed → (f : ℕ) × (takes n f k ≡ true)
    pub taken_once : (f g k : ℕ) → takes n f k ≡ true → takes n g k ≡ true → f ≡ g
    pub live_untaken : (f k : ℕ) → (n.slot k).kind ≡ tuple → takes n f k ≡ false
    -- "Localities 8..31 are present exactly when made."
    pub present_made : (l : ℕ) → l ∈ R.makeable → n.present l ≡ is_made_locality n l
    -- "A record nobody made lives at a present locality 0..7, names only localities 0..7 (present or not) and holds no reference."
    pub roots : (k : ℕ) → k ∈ held n → k ∉ is_made n → Root n (n.slot k)
    -- "Dependence has no cycle": nothing reaches itself in one or more direct steps
    pub no_cycle : Acyclic (depends n)
