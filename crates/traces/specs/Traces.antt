-- What the events of a net made and used, as the code finds it. Nothing here must be believed: `Traced` proves these the theory's.
-- In order: what each event did (`deed_of`); events as a set (`events_of`); what an event made or used (`made_at`), of events that speak of one name
-- each the name (`Names`, `named_at`, `used_at`, `place_at`); a name more that events speak of, in any set of names (`marked`, `marked_key`,
-- `marked_keys`), and all of them (`marks`, `keys_made`, `localities_made`, `tuples_taken`); users of tuples (`users_of`); who depends on an event
-- (`row_of`, `rows_of`).
-- Assumes nothing.
use Rattle.std.specs.Prelude.{ℕ, ◌≡◌, ◌<◌, ◌&&◌, ◌||◌, not, List, eqb, ltb, get_or}
use Rattle.laws.specs.Choice.{pick}
use Rattle.laws.specs.Lists.{tab}
use Rattle.order.specs.KeySets.{Set}
use Rattle.order.specs.Distinct.{gathered, distinct}
use Rattle.order.specs.Words.{word_of}
use Rattle.laws.specs.Sets as S
use Rattle.names.specs.Names.{key_count, locality_count, is_key}
use Rattle.names.specs.Localities.{localities}
use Rattle.names.specs.KeySets.{keys, is_in, including, either}
use Rattle.names.specs.declared.Key.{Key}
use Rattle.names.specs.declared.Keys.{Keys}
use Rattle.names.specs.declared.Localities.{Localities}
use Rattle.names.specs.declared.Locality.{Locality}
use Rattle.images.specs.Script.{action_at}
use Rattle.images.specs.Net.{slot_at}
use Rattle.images.specs.declared.Script.{Script}
use Rattle.images.specs.declared.Slot.{Slot}
use Rattle.images.specs.declared.Net.{Net}
use Rattle.traces.specs.declared.Marks.{Marks}

-- ---- what each event did

-- the kind of an event's node; 0, which is nil's, where the slot holds no event
unfoldable pub deed_of : Script → Slot → ℕ
deed_of s x = pick (eqb x.kind 2) (action_at s x.node.0).kind 0

unfoldable pub deeds_of : Script → Net → List ℕ
deeds_of s n = tab key_count (λ e. deed_of s (slot_at n e))

abbrev pub deed_at : List ℕ → ℕ → ℕ
deed_at ds e = get_or ds e 0

abbrev pub is_event : Net → Set
is_event n e = eqb (slot_at n e).kind 2

unfoldable pub events_of : Net → Keys
events_of n = keys (word_of key_count (is_event n))

-- ---- what an event made or used

-- e made the key k
abbrev pub made_at : Net → ℕ → Set
made_at n e k = is_event n e && (ltb k key_count && (eqb (slot_at n e).first.0 k || eqb (slot_at n e).second.0 k))

-- what is called at each event gives the name that it speaks of
abbrev pub Names : {N : Type 0} → (ℕ → N → Type 0) → (N → ℕ) → (ℕ → ℕ) → Type 0
Names gives number_of name = (e : ℕ) (a : _) → e < key_count → gives e a → number_of a ≡ name e

-- e, whose deed is d, speaks of the name a, where each event speaks of one
abbrev pub named_at : ℕ → List ℕ → (ℕ → ℕ) → ℕ → Set
named_at d ds name e a = eqb (deed_at ds e) d && eqb (name e) a

-- e, whose deed is d, used the tuple t
abbrev pub used_at : ℕ → List ℕ → Net → ℕ → Set
used_at d ds n = named_at d ds (λ e. (slot_at n e).used.0)

-- e is a newloc that made the locality l
abbrev pub place_at : List ℕ → Net → ℕ → Set
place_at ds n = named_at 4 ds (λ e. (slot_at n e).place.0)

-- ---- made once, taken once

-- over any set of names: a set for each word and a word for each set, a number for each name, and how many names there are
unfoldable pub marked : {A N : Type 0} → (ℕ → A) → (A → ℕ) → (N → ℕ) → ℕ → Marks A → N → Marks A
marked set_of word_of number_of limit m n =
    pick (ltb (number_of n) limit)
    (record { once = m.once && not (S.member (word_of m.names) (number_of n)); names = set_of (S.including (word_of m.names) (number_of n)) })
    m

abbrev pub marked_key : Marks Keys → Key → Marks Keys
marked_key = marked keys (λ s. s.0) (λ k. k.0) key_count

abbrev pub marked_place : Marks Localities → Locality → Marks Localities
marked_place = marked localities (λ s. s.0) (λ l. l.0) locality_count

unfoldable pub marked_keys : Marks Keys → Key → Key → Marks Keys
marked_keys m a b = pick (eqb a.0 b.0) (marked_key m a) (marked_key (marked_key m a) b)

-- the first i rows together, and whether no two share a name
unfoldable pub marks : {A : Type 0} → (ℕ → A) → ℕ → ℕ → (ℕ → Set) → Marks A
marks set_of limit i Q = record { once = distinct limit i Q; names = set_of (word_of limit (gathered i Q)) }

abbrev pub key_marks : ℕ → (ℕ → Set) → Marks Keys
key_marks = marks keys key_count

abbrev pub place_marks : ℕ → (ℕ → Set) → Marks Localities
place_marks = marks localities locality_count

abbrev pub keys_made : Net → Marks Keys
keys_made n = key_marks key_count (made_at n)

abbrev pub localities_made : List ℕ → Net → Marks Localities
localities_made ds n = place_marks key_count (place_at ds n)

abbrev pub tuples_taken : List ℕ → Net → Marks Keys
tuples_taken ds n = key_marks key_count (used_at 2 ds n)

-- ---- who depends on whom

-- the set that stands for the tuple of key i
abbrev pub keys_at : List Keys → ℕ → Keys
keys_at us i = get_or us i (keys 0)

-- those of the first i events that used the tuple t and whose deed is d
abbrev pub users_at : ℕ → List ℕ → Net → ℕ → ℕ → Keys
users_at d ds n i t = keys (word_of i (λ f. used_at d ds n f t))

-- for each tuple
unfoldable pub users_below : ℕ → ℕ → List ℕ → Net → List Keys
users_below i d ds n = tab key_count (users_at d ds n i)

abbrev pub users_of : ℕ → List ℕ → Net → List Keys
users_of d ds n = users_below key_count d ds n

-- the same from the sets of those that took and read the tuple of that key
unfoldable pub after_key_by : Keys → Keys → Keys → Key → Keys
after_key_by events takes reads k =
    pick (is_key k) (pick (is_in events k) (including (either takes reads) k) (either takes reads)) (keys 0)

unfoldable pub after_read_by : ℕ → Keys → Key → Keys
after_read_by deed takes t = pick (eqb deed 3) (pick (is_key t) takes (keys 0)) (keys 0)

-- what depends on who made the key: the event of that key, and the users of that tuple
unfoldable pub after_key : Keys → List Keys → List Keys → Key → Keys
after_key events takers readers k =
    pick (is_key k)
    (pick (is_in events k) (including (either (keys_at takers k.0) (keys_at readers k.0)) k) (either (keys_at takers k.0) (keys_at readers k.0)))
    (keys 0)

-- what depends on a read of the tuple: who took it
unfoldable pub after_read : ℕ → List Keys → Key → Keys
after_read deed takers t = pick (eqb deed 3) (pick (is_key t) (keys_at takers t.0) (keys 0)) (keys 0)

unfoldable pub row_of : ℕ → Slot → Keys → List Keys → List Keys → Keys
row_of deed x events takers readers =
    either (either (after_key events takers readers x.first) (after_key events takers readers x.second)) (after_read deed takers x.used)

-- the row of an event; of a slot that holds none, an empty one
unfoldable pub row_at : List ℕ → Net → Keys → List Keys → List Keys → ℕ → Keys
row_at ds n events takers readers e = pick (is_event n e) (row_of (deed_at ds e) (slot_at n e) events takers readers) (keys 0)

unfoldable pub rows_of : List ℕ → Net → Keys → List Keys
rows_of ds n events = tab key_count (row_at ds n events (users_of 2 ds n) (users_of 3 ds n))
