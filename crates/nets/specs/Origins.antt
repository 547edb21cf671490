-- What is said of the contents of records: who has to do with a made locality, and what a held reference is.
--
-- In order: who lives at a locality or names it (`concerns`); a made locality left alone (`Alone`); a reference that is held (`Reference`).
-- The laws are in proofs/Origins.
-- Assumes nothing.
use Rattle.std.specs.Prelude.{◌≡◌, Bool, true, false, ◌||◌, ℕ, eqb}
use Rattle.order.specs.KeySets.{◌∈◌}
use Rattle.nets.specs.Rules.{Rules, is_split}
use Rattle.nets.specs.Net.{Net, events, held, MadeAfter}

module _ (R : Rules) where
  -- the contents name the locality, or the record lives at it
  abbrev pub concerns : ℕ → R.Body → Bool
  concerns l b = R.names b l || eqb (R.at b) l

module _ {R : Rules} where
  -- a made locality is left alone: nothing lives at it, and nothing but its newloc's own continuation names it
  pub record Alone (n : Net R) (x l : ℕ) : Type 0 where
    pub empty : (k : ℕ) → k ∈ held n → R.at (n.slot k).body ≡ l → ⊥
    pub unnamed : (k : ℕ) → k ∈ held n → R.names (n.slot k).body l ≡ true → k ≡ (n.slot x).first

  -- a reference to r, held at k: r is an event, no split, and a dependent of r made its holder
  pub record Reference (n : Net R) (k r : ℕ) : Type 0 where
    pub past : r ∈ events n
    pub no_split : is_split (R.act (n.slot r).body) ≡ false
    pub after : MadeAfter n r k
