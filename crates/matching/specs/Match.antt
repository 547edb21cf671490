-- When a template meets a tuple, and what that binds. 004, Table III; document 01, "Forward rules": "Same field count is needed to match.
-- Actual fields match the same kind and number; a formal for a value only a value, for a locality only a locality."
-- Assumes nothing.
use Rattle.std.specs.Prelude.{ℕ, zero, suc, ◌+◌, Bool, ◌&&◌, eqb, get_or, Result, Ok, Err}
use Rattle.std.proofs.Math.Path.{◌≡◌}
use mathlib.Core.List.{List}
use Rattle.std.proofs.Math.Bool.{true, false}
use Rattle.std.proofs.Math.Dec.{ltb}
use Rattle.std.proofs.Math.ListN.{set}
use Rattle.laws.specs.Choice.{pick, cases}
use Rattle.laws.specs.Checks.{all}
use Rattle.names.specs.Names.{variable_count}
use Rattle.images.specs.Script.{field_at}
use Rattle.images.specs.Net.{datum0}
use Rattle.images.specs.declared.Field.{Field}
use Rattle.images.specs.declared.Action.{Action}
use Rattle.images.specs.declared.Datum.{Datum}
use Rattle.images.specs.declared.Slot.{Slot}
use Rattle.matching.specs.Evaluate.{actual, is_formal}
use Rattle.matching.specs.declared.Mismatch.{Mismatch}

-- one field of a template against one of a tuple
unfoldable pub field_meets : List Datum → Field → Datum → Bool
field_meets vars f d =
    pick (eqb f.tag 4) (eqb d.tag 1)
    (pick (eqb f.tag 5) (eqb d.tag 2) (eqb (actual vars f).tag d.tag && eqb (actual vars f).number d.number))

unfoldable pub place_meets : List Datum → ℕ → ℕ → Field → Datum → Bool
place_meets vars count j f d = pick (ltb j count) (field_meets vars f d) true

-- the template of a node against a tuple with so many fields
unfoldable pub meets : List Datum → Action → ℕ → List Datum → Bool
meets vars a count fields = eqb a.count count && all 4 (λ j. place_meets vars a.count j (field_at a j) (get_or fields j datum0))

-- "an in or read binds its formals": each formal's variable takes the tuple's field
abbrev pub with_variable : List Datum → ℕ → Datum → List Datum
with_variable vars v d = pick (ltb v variable_count) (set vars v d) vars

unfoldable pub bind_one : List Datum → Field → Datum → List Datum
bind_one vars f d = pick (is_formal f) (with_variable vars f.number d) vars

-- the first k fields bound
unfoldable pub bind_up_to : ℕ → List Datum → Action → List Datum → List Datum
bind_up_to zero vars a fields = vars
bind_up_to (suc k) vars a fields = bind_one (bind_up_to k vars a fields) (field_at a k) (get_or fields k datum0)

unfoldable pub bound : List Datum → Action → List Datum → List Datum
bound vars a fields = bind_up_to 4 vars a fields

-- ---- the template of a node against a tuple, as an answer
abbrev pub mismatch : Mismatch
mismatch = record {}

unfoldable pub match_of : List Datum → Action → Slot → Result (Unit {0}) Mismatch
match_of vars a t = pick (meets vars a t.count t.contents) (Ok tt) (Err mismatch)

module _ (vars : List Datum) (a : Action) (t : Slot) where
  pub a_match : meets vars a t.count t.contents ≡ true → Ok tt ≡ match_of vars a t
  unfolding match_of
  a_match h = rw h

  pub no_match : meets vars a t.count t.contents ≡ false → Err mismatch ≡ match_of vars a t
  unfolding match_of
  no_match h = rw h

  -- what the answer says
  pub matches_meets : match_of vars a t ≡ Ok tt → meets vars a t.count t.contents ≡ true
  unfolding match_of
  matches_meets e = cases (meets vars a t.count t.contents) (λ q. q) (λ q. let b : Err mismatch ≡ Ok tt = rw q at e in cc)

  pub differs_not : match_of vars a t ≡ Err mismatch → meets vars a t.count t.contents ≡ false
  unfolding match_of
  differs_not e = cases (meets vars a t.count t.contents) (λ q. let b : Ok tt ≡ Err mismatch = rw q at e in cc) (λ q. q)
