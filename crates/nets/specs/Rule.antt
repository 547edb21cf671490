-- What a rule asks and what it makes: said once, for the step that is taken and for the event that must agree with it. Document 01,
-- "Forward rules".
--
-- In order: the tuple met (`met`), be it live or consumed now (`met_either`); the products (`besides`, `product`); which places a kind needs
-- (`Places`); what a rule asks (`Rule`).
-- Assumes nothing.
use Rattle.std.specs.Prelude.{◌≡◌, ◌⊎◌, true, false, ℕ, ◌<◌, eqb}
use Rattle.std.proofs.Common.{ap, ◌∙◌, ⊎_elim}
use Rattle.laws.specs.Choice.{pick}
use Rattle.order.specs.KeySets.{◌∈◌}
use Rattle.nets.specs.Rules.{Rules, none, acts, aims, uses, is_newloc, Second, nothing, aTuple, aProcess, second_of, is_there}
use Rattle.nets.specs.Net.{Kind, live, tuple, consumed, Slot, Net, free_slot, fresh, forget_as, forget}

module _ {R : Rules} where
  -- the tuple that the record's process used, as it stood then
  abbrev pub met : Net R → Slot R → Slot R
  met n s = forget (n.slot s.used)

  -- "a past read uses a live or consumed tuple": either way it met a live one
  pub met_either : (n : Net R) (s : Slot R) → ((n.slot s.used).kind ≡ tuple) ⊎ ((n.slot s.used).kind ≡ consumed) → (met n s).kind ≡ tuple
  met_either n s either = ⊎_elim (λ h. as_it_stood h ∙ h) (λ h. as_it_stood h) either
    where
      as_it_stood : {c : Kind} → (n.slot s.used).kind ≡ c → (met n s).kind ≡ (forget_as c (n.slot s.used)).kind
      as_it_stood h = ap (λ (c : Kind). (forget_as c (n.slot s.used)).kind) h

  -- ---- what a rule makes

  -- a new live tuple, or a new live process
  abbrev pub besides : Second → R.Body → Slot R
  besides nothing b = free_slot
  besides aTuple b = fresh tuple (R.second b)
  besides aProcess b = fresh live (R.second b)

  -- What the process with key e and record s makes at the key k, from the tuple t: "Its continuation is a new live process" at the first
  -- key, and what its kind makes besides is at the second.
  unfoldable pub product : ℕ → Slot R → R.Body → ℕ → Slot R
  product e s t k =
      pick (eqb k s.first) (fresh live (R.next e s.body t s.place))
      (besides (second_of (R.act s.body)) s.body)

  -- ---- what a rule asks

  -- "out, eval and split need both fresh keys (for bytes 3 and 4); in and read the tuple key and the first; newloc the first and the
  -- locality": what a kind needs is there, the two keys are not one, and elsewhere stands 255.
  pub record Places (s : Slot R) : Type 0 where
    pub first : s.first < R.keys
    pub second : is_there (second_of (R.act s.body)) ≡ true → s.second < R.keys
    pub no_second : is_there (second_of (R.act s.body)) ≡ false → s.second ≡ none
    pub apart : s.first ≡ s.second → ⊥
    pub used : uses (R.act s.body) ≡ true → s.used < R.keys
    pub no_used : uses (R.act s.body) ≡ false → s.used ≡ none
    pub place : is_newloc (R.act s.body) ≡ true → R.makeable s.place ≡ true
    pub no_place : is_newloc (R.act s.body) ≡ false → s.place ≡ none

  -- the rule of the record's kind applies in the net, to these places
  pub record Rule (n : Net R) (s : Slot R) : Type 0 where
    -- "a past process is at kinds 1..6"
    pub acting : acts (R.act s.body) ≡ true
    pub places : Places s
    -- fields and target can be evaluated
    pub ready : R.ready s.body ≡ true
    -- "targets present"
    pub there : aims (R.act s.body) ≡ true → R.target s.body ∈ n.present
    -- the tuple is one, at the target, and matches
    pub meets : uses (R.act s.body) ≡ true → (met n s).kind ≡ tuple
    pub here : uses (R.act s.body) ≡ true → R.at (met n s).body ≡ R.target s.body
    pub fits : uses (R.act s.body) ≡ true → R.fits s.body (met n s).body ≡ true
