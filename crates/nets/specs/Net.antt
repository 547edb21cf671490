-- Nets of keyed records, what a past process's record says, and dependence. Document 01, "Net" and "Backward steps and dependence".
--
-- In order: kinds of slots (`Kind`); `Slot`, its `body` (what never changes while the key is held) and its history; records as they are
-- made (`fresh`) and the forgetting of history (`forget`); `Net`, its `events`; what an event's record says, as tests on a slot (`made_key`,
-- `took_tuple`, `read_tuple`, `made_locality`) and on a net (`makes`, `takes`, `reads`, `makes_locality`); direct dependence as a test
-- (`depends`) and as a statement (`Cause`; `Events` has the law that they agree); `dependents`, and what a dependent made (`MadeAfter`).
-- Assumes nothing.
use Rattle.std.specs.Prelude.{◌≡◌, Bool, true, not, ◌&&◌, ◌||◌, ℕ, eqb, ltb}
use Rattle.order.specs.KeySets.{Set, any}
use Rattle.order.specs.Graphs.{Graph, Reach}
use Rattle.order.specs.Dependents as D
use Rattle.nets.specs.Rules.{Rules, none, is_take, is_read, is_newloc}

-- ---- slots

-- "0 free, 1 live process, 2 past process, 3 live tuple, 4 consumed tuple"
pub data Kind : Type 0 where
  free live past tuple consumed : Kind

abbrev pub kind_number : Kind → ℕ
kind_number free = 0
kind_number live = 1
kind_number past = 2
kind_number tuple = 3
kind_number consumed = 4

abbrev pub is_free : Kind → Bool
is_free c = eqb (kind_number c) 0

abbrev pub is_held : Kind → Bool
is_held c = not (is_free c)

abbrev pub is_live : Kind → Bool
is_live c = eqb (kind_number c) 1

abbrev pub is_past : Kind → Bool
is_past c = eqb (kind_number c) 2

abbrev pub is_live_tuple : Kind → Bool
is_live_tuple c = eqb (kind_number c) 3

abbrev pub is_consumed : Kind → Bool
is_consumed c = eqb (kind_number c) 4

-- "Slot: 0 kind; 1 locality; 2 node, or field count; 3 and 4 keys made; 5 tuple used; 6 locality made; eight tags; eight numbers; references":
-- locality, node or fields, variables and references are the body, the other four the history.
pub record Slot (R : Rules) : Type 0 where
  pub kind : Kind
  pub body : R.Body
  pub first : ℕ
  pub second : ℕ
  pub used : ℕ
  pub place : ℕ

-- "set of present localities", "slot n is key n"
pub record Net (R : Rules) : Type 0 where
  pub present : Set
  pub slot : ℕ → Slot R

module _ {R : Rules} where
  -- "A free slot is all 0."
  abbrev pub free_slot : Slot R
  free_slot = record { kind = free; body = R.void; first = 0; second = 0; used = 0; place = 0 }

  -- a record as it is made: "bytes 3..6 are 255 where nothing is held"
  abbrev pub fresh : Kind → R.Body → Slot R
  fresh c b = record { kind = c; body = b; first = none; second = none; used = none; place = none }

  -- a record without what happened to it: a past process is live as before, a consumed tuple is live again
  abbrev pub forget_as : Kind → Slot R → Slot R
  forget_as free s = s
  forget_as live s = s
  forget_as past s = fresh live s.body
  forget_as tuple s = s
  forget_as consumed s = fresh tuple s.body

  abbrev pub forget : Slot R → Slot R
  forget s = forget_as s.kind s

  -- ---- what a net holds

  -- "event" is short for past process
  abbrev pub events : Net R → Set
  events n e = is_past (n.slot e).kind

  -- the keys that hold a record
  abbrev pub held : Net R → Set
  held n k = is_held (n.slot k).kind

  -- ---- what an event's record says

  -- "3 and 4 keys made"
  unfoldable pub made_key : ℕ → Slot R → Bool
  made_key k s = is_past s.kind && (ltb k R.keys && (eqb s.first k || eqb s.second k))

  -- "5 tuple used", by an in
  unfoldable pub took_tuple : ℕ → Slot R → Bool
  took_tuple k s = is_past s.kind && (is_take (R.act s.body) && eqb s.used k)

  -- "5 tuple used", by a read
  unfoldable pub read_tuple : ℕ → Slot R → Bool
  read_tuple k s = is_past s.kind && (is_read (R.act s.body) && eqb s.used k)

  -- "6 locality made"
  unfoldable pub made_locality : ℕ → Slot R → Bool
  made_locality l s = is_past s.kind && (is_newloc (R.act s.body) && eqb s.place l)

  abbrev pub makes : Net R → ℕ → Set
  makes n e k = made_key k (n.slot e)

  abbrev pub takes : Net R → ℕ → Set
  takes n f k = took_tuple k (n.slot f)

  abbrev pub reads : Net R → ℕ → Set
  reads n f k = read_tuple k (n.slot f)

  abbrev pub makes_locality : Net R → ℕ → Set
  makes_locality n e l = made_locality l (n.slot e)

  -- some event made the key, or the locality
  abbrev pub is_made : Net R → Set
  is_made n k = any R.keys (λ e. makes n e k)

  abbrev pub is_made_locality : Net R → Set
  is_made_locality n l = any R.keys (λ e. makes_locality n e l)

  -- ---- dependence

  -- "Event f depends directly on event e when e made f's key; or e made the tuple that f used; or f is an in of the tuple that the past
  -- read e used."
  unfoldable pub depends : Net R → Graph
  depends n e f =
      events n f &&
      (makes n e f || (makes n e (n.slot f).used || (reads n e (n.slot f).used && takes n f (n.slot f).used)))

  -- the same as a statement, clause by clause
  pub data Cause (n : Net R) (e f : ℕ) : Type 0 where
    made_key_lem : makes n e f ≡ true → Cause n e f
    made_tuple : makes n e (n.slot f).used ≡ true → Cause n e f
    read_before : reads n e (n.slot f).used ≡ true → takes n f (n.slot f).used ≡ true → Cause n e f

  -- "Dependents of e: all reached in any number of direct steps, e included."
  abbrev pub dependents : Net R → ℕ → Set
  dependents n e = D.dependents R.keys (depends n) e

  -- a dependent of e made the key k
  abbrev pub MadeAfter : Net R → ℕ → ℕ → Type 0
  MadeAfter n e k = (g : ℕ) × (makes n g k ≡ true) × Reach (depends n) e g
