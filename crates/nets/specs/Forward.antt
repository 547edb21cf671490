-- The forward step. Document 01, "Forward rules" and "Requests and what comes back".
--
-- In order: `Request`; the event that it makes of its process (`done`); the net after the step (`forward`); when the step is allowed
-- (`Can`); steps as a relation of nets (`Forward`), and in a row (`Forwards`).
-- Assumes nothing.
use Rattle.std.specs.Prelude.{◌≡◌, true, ◌||◌, ℕ, eqb}
use Rattle.laws.specs.Choice.{pick}
use Rattle.order.specs.KeySets.{◌∉◌}
use Rattle.nets.specs.Rules.{Rules, uses, is_newloc}
use Rattle.nets.specs.Net.{free, live, past, tuple, consumed, Slot, Net, fresh, made_key, took_tuple, made_locality}
use Rattle.nets.specs.Rule.{met, product, Rule}

-- "code, key, tuple key, first and second fresh key, fresh locality", each 255 where the kind needs none
pub record Request : Type 0 where
  pub key : ℕ
  pub used : ℕ
  pub first : ℕ
  pub second : ℕ
  pub place : ℕ

module _ {R : Rules} where
  -- "The process becomes past and keeps its contents."
  abbrev pub done : Net R → Request → Slot R
  done n r =
      record { kind = past; body = (n.slot r.key).body; first = r.first; second = r.second; used = r.used; place = r.place }

  -- the slots of a net after the event d with key x: what it made, itself, the tuple that it took, and all else as it was
  abbrev pub after : Net R → ℕ → Slot R → ℕ → Slot R
  after n x d k =
      pick (made_key k d) (product x d (met n d).body k)
      (pick (eqb k x) d (pick (took_tuple k d) (fresh consumed (n.slot k).body) (n.slot k)))

  -- "in: the tuple, which becomes consumed. read: the same, the tuple stays live. newloc: the new locality, now present."
  unfoldable pub forward : Net R → Request → Net R
  forward n r = record { present = λ l. n.present l || made_locality l (done n r); slot = after n r.key (done n r) }

  pub record Can (n : Net R) (r : Request) : Type 0 where
    -- not refused by 4: the key is a live process
    pub is_live_lem : (n.slot r.key).kind ≡ live
    -- nor by 5, 6, 7, 8 and 10; nor by 9 for a tuple elsewhere, nor by 11 for equal keys or a locality below 8
    pub rule : Rule n (done n r)
    -- nor by 9: it is a live tuple
    pub tuple_live : uses (R.act (n.slot r.key).body) ≡ true → (n.slot r.used).kind ≡ tuple
    -- nor by 11: fresh keys are free, a fresh locality is absent
    pub fresh_keys : (k : ℕ) → made_key k (done n r) ≡ true → (n.slot k).kind ≡ free
    pub fresh_place : is_newloc (R.act (n.slot r.key).body) ≡ true → r.place ∉ n.present

  -- some forward step that is allowed leads from n to m
  pub record Forward (n m : Net R) : Type 0 where
    pub request : Request
    pub can : Can n request
    pub ends : m ≡ forward n request

  -- and steps in a row
  pub data Forwards : Net R → Net R → Type 0 where
    start : {n : Net R} → Forwards n n
    more : {n m o : Net R} → Forwards n m → Forward m o → Forwards n o
