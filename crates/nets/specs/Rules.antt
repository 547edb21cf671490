-- What nets must know of a script: what a record's contents say and what a rule makes (`Rules`), and the small laws that these obey where
-- the script has its form (`Lawful`). Which scripts there are, how a field is evaluated and a template matched is not said here: definitions
-- above are over any `Rules`, theorems over lawful ones.
--
-- In order: `none`; the kinds of nodes (`Act`), their numbers and what each kind needs (`acts`, `aims`, `uses`, `second_of`); `Rules`; `Lawful`;
-- what the kinds have to do with each other (`take_uses`, `read_uses`, `take_not_read`, `newloc_alone`, `aims_stay`).
-- Assumes nothing.
use Rattle.std.specs.Prelude.{◌≡◌, refl, ◌⊎◌, Bool, true, false, ◌&&◌, ◌||◌, ℕ, ◌≤◌, ◌<◌, eqb, ltb}
use Rattle.std.proofs.lemmas.Bool.{false≢true}
use Rattle.order.specs.KeySets.{Set}
use Rattle.laws.specs.Choice.{or_left, or_right}

-- "255 means 'none' where said."
abbrev pub none : ℕ
none = 255

-- ---- kinds of nodes

-- "Kinds: 0 nil, 1 out, 2 in, 3 read, 4 newloc, 5 eval, 6 split, 7 roll." An in is called `take`: `in` is a word of this language.
pub data Act : Type 0 where
  nil out take read newloc eval split roll : Act

abbrev pub number : Act → ℕ
number nil = 0
number out = 1
number take = 2
number read = 3
number newloc = 4
number eval = 5
number split = 6
number roll = 7

abbrev pub is_take : Act → Bool
is_take a = eqb (number a) 2

abbrev pub is_read : Act → Bool
is_read a = eqb (number a) 3

abbrev pub is_newloc : Act → Bool
is_newloc a = eqb (number a) 4

abbrev pub is_split : Act → Bool
is_split a = eqb (number a) 6

-- "a past process is at kinds 1..6"
abbrev pub acts : Act → Bool
acts a = ltb 0 (number a) && ltb (number a) 7

-- an in or a read uses a tuple
abbrev pub uses : Act → Bool
uses a = is_take a || is_read a

-- out, in, read and eval act at a target; newloc's target is the variable that it binds
abbrev pub aims : Act → Bool
aims a = uses a || (eqb (number a) 1 || eqb (number a) 5)

-- what a rule makes besides the continuation
pub data Second : Type 0 where
  nothing aTuple aProcess : Second

-- "out: byte 3 continuation, 4 new tuple at the target"; "eval: 3 continuation, 4 a process at the target"; "split: 3 left, 4 right"
abbrev pub second_of : Act → Second
second_of nil = nothing
second_of out = aTuple
second_of take = nothing
second_of read = nothing
second_of newloc = nothing
second_of eval = aProcess
second_of split = aProcess
second_of roll = nothing

abbrev pub is_there : Second → Bool
is_there nothing = false
is_there aTuple = true
is_there aProcess = true

-- ---- the rules

pub record Rules : Type 1 where
  -- how many keys there are; none is not one of them
  pub keys : ℕ
  pub few : keys ≤ none
  -- The contents of a record, which never change while its key is held: of a process its locality, node, variables and references, of a
  -- tuple its locality and fields. Those of a free slot are all 0.
  pub Body : Type 0
  pub void : Body
  -- the contents have the form of a process's, or of a tuple's
  pub is_process : Body → Bool
  pub is_tuple : Body → Bool
  -- where the record is; what the process does next, and where
  pub at : Body → ℕ
  pub act : Body → Act
  pub target : Body → ℕ
  -- target and actual fields can be evaluated: no variable is unset, and the target is a locality
  pub ready : Body → Bool
  -- the tuple matches the process's template
  pub fits : Body → Body → Bool
  -- What a rule makes. The continuation of the process with this key and these contents, from the tuple met, with the locality made; and
  -- the tuple or process that it makes besides.
  pub next : ℕ → Body → Body → ℕ → Body
  pub second : Body → Body
  -- the localities that need a maker and that a newloc may make: 8..31
  pub makeable : Set
  -- "names only localities 0..7 and holds no reference", and lives at one of 0..7: what a record that nobody made may be
  pub rooted : Body → Bool
  -- the localities that the contents name, and the keys that their references hold
  pub names : Body → Set
  pub refers : Body → Set

-- What the rules of a script that has its form obey.
pub record Lawful (R : Rules) : Type 0 where
  -- What is made has its form.
  pub next_process : (k : ℕ) (b t : R.Body) (l : ℕ) → k < R.keys → R.is_process b ≡ true → acts (R.act b) ≡ true → R.ready b ≡ true
      → (uses (R.act b) ≡ true → (R.is_tuple t ≡ true) × (R.fits b t ≡ true)) → (is_newloc (R.act b) ≡ true → R.makeable l ≡ true)
      → R.is_process (R.next k b t l) ≡ true
  pub second_tuple : (b : R.Body) → R.is_process b ≡ true → R.ready b ≡ true → second_of (R.act b) ≡ aTuple → R.is_tuple (R.second b) ≡ true
  pub second_process : (b : R.Body) → R.is_process b ≡ true → R.ready b ≡ true → second_of (R.act b) ≡ aProcess → R.is_process (R.second b) ≡ true
  -- The continuation is at the same locality, what is made besides at the same or at the target.
  pub next_at : (k : ℕ) (b t : R.Body) (l : ℕ) → R.at (R.next k b t l) ≡ R.at b
  pub second_at_lem : (b : R.Body) → (R.at (R.second b) ≡ R.at b) ⊎ ((aims (R.act b) ≡ true) × (R.at (R.second b) ≡ R.target b))
  -- A locality that needs a maker comes into contents from the process, from the tuple met, or by newloc; a target that needs a maker is
  -- named by a variable.
  pub rooted_at : (b : R.Body) → R.rooted b ≡ true → R.makeable (R.at b) ≡ false
  pub rooted_names : (b : R.Body) (m : ℕ) → R.rooted b ≡ true → R.names b m ≡ true → R.makeable m ≡ false
  pub target_names : (b : R.Body) → aims (R.act b) ≡ true → R.makeable (R.target b) ≡ true → R.names b (R.target b) ≡ true
  pub next_names : (k : ℕ) (b t : R.Body) (l m : ℕ) → R.makeable m ≡ true → R.names (R.next k b t l) m ≡ true
      → (R.names b m ≡ true) ⊎ (((uses (R.act b) ≡ true) × (R.names t m ≡ true)) ⊎ ((is_newloc (R.act b) ≡ true) × (l ≡ m)))
  pub second_names : (b : R.Body) (m : ℕ) → R.makeable m ≡ true → R.names (R.second b) m ≡ true → R.names b m ≡ true
  -- "the node's reference, if any, takes the old key": in the continuation alone, and a split has no reference.
  pub rooted_refers : (b : R.Body) (r : ℕ) → R.rooted b ≡ true → R.refers b r ≡ false
  pub next_refers : (k : ℕ) (b t : R.Body) (l r : ℕ) → R.refers (R.next k b t l) r ≡ true
      → (R.refers b r ≡ true) ⊎ ((is_split (R.act b) ≡ false) × (k ≡ r))
  pub second_refers : (b : R.Body) (r : ℕ) → R.refers (R.second b) r ≡ true → R.refers b r ≡ true

-- ---- what the kinds have to do with each other

pub take_uses : (a : Act) → is_take a ≡ true → uses a ≡ true
take_uses a h = or_left (is_take a) (is_read a) h

pub read_uses : (a : Act) → is_read a ≡ true → uses a ≡ true
read_uses a h = or_right (is_take a) (is_read a) h

pub take_not_read : (a : Act) → is_take a ≡ true → is_read a ≡ true → ⊥
take_not_read nil p q = false≢true p
take_not_read out p q = false≢true p
take_not_read take p q = false≢true q
take_not_read read p q = false≢true p
take_not_read newloc p q = false≢true p
take_not_read eval p q = false≢true p
take_not_read split p q = false≢true p
take_not_read roll p q = false≢true p

-- a newloc makes its continuation alone
pub newloc_alone : (a : Act) → is_newloc a ≡ true → is_there (second_of a) ≡ false
newloc_alone nil h = refl
newloc_alone out h = absurd (false≢true h)
newloc_alone take h = refl
newloc_alone read h = refl
newloc_alone newloc h = refl
newloc_alone eval h = absurd (false≢true h)
newloc_alone split h = absurd (false≢true h)
newloc_alone roll h = refl

-- what acts at a target makes no locality
pub aims_stay : (a : Act) → aims a ≡ true → is_newloc a ≡ false
aims_stay nil h = refl
aims_stay out h = refl
aims_stay take h = refl
aims_stay read h = refl
aims_stay newloc h = absurd (false≢true h)
aims_stay eval h = refl
aims_stay split h = refl
aims_stay roll h = refl
