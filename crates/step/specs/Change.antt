-- What a step changes, and the net once that is written.
-- In order: a slot and where it goes (`Put`); a change (`Change`); a slot at a key (`put`) or none (`nowhere`); a refusal (`refused`); a step by its answer (`stepped`,
-- `stepped_yes`, `stepped_no`); a change written (`put_in`, `applied`), as an outcome (`stepped_to`).
-- Assumes nothing.
use Rattle.std.specs.Prelude.{ℕ, ◌≡◌, true, false, set}
use Rattle.std.proofs.Math.Path.{ap}
use Rattle.std.proofs.Common.{sym, ◌∙◌}
use Rattle.laws.specs.Choice.{pick}
use Rattle.names.specs.Names.{none, key, is_key}
use Rattle.names.specs.Localities.{localities}
use Rattle.names.specs.declared.Key.{Key}
use Rattle.names.specs.declared.Localities.{Localities}
use Rattle.images.specs.Net.{free_slot}
use Rattle.images.specs.declared.Slot.{Slot}
use Rattle.images.specs.declared.Net.{Net}
use Rattle.requests.specs.Requests.{is_done}
use Rattle.requests.specs.declared.Answer.{Answer}
use Rattle.step.specs.Lent.{Outcome}

-- a slot, and the key that it is put at; none where nothing is put
pub record Put : Type 0 where
  pub key : Key
  pub slot : Slot

-- what a step answers and changes: how many events were undone, the localities at which a slot became free, the three slots that may change
-- (the process itself, what is at its first key, and one more), and the localities that are then present
pub record Change : Type 0 where
  pub answer : Answer
  pub undone : ℕ
  pub touched : Localities
  pub event : Put
  pub first : Put
  pub other : Put
  pub present : Localities

abbrev pub put : Key → Slot → Put
put k x = record { key = k; slot = x }

abbrev pub nowhere : Put
nowhere = put (key none) free_slot

-- "any refusal leaves the net, with undone 0 and touched 0"
unfoldable pub refused : Localities → Answer → Change
refused present a =
    record {
      answer = a;
      undone = 0;
      touched = localities 0;
      event = nowhere;
      first = nowhere;
      other = nowhere;
      present = present;
    }

-- a step by its answer: this change where that is done, and otherwise a refusal
unfoldable pub stepped : Localities → Answer → Change → Change
stepped present o c = pick (is_done o) c (refused present o)

module _ (present : Localities) (o a : Answer) (is-a : a ≡ o) (c d : Change) where
  pub stepped_yes : is_done a ≡ true → d ≡ c → d ≡ stepped present o c
  unfolding stepped
  stepped_yes h e = rw (sym (ap is_done is-a) ∙ h) e

  pub stepped_no : is_done a ≡ false → d ≡ refused present a → d ≡ stepped present o c
  unfolding stepped
  stepped_no h e = rw (sym (ap is_done is-a) ∙ h) (e ∙ ap (refused present) is-a)

-- the net with a slot put at its key
unfoldable pub put_in : Net → Put → Net
put_in n p = pick (is_key p.key) (record { present = n.present; slots = set n.slots p.key.0 p.slot }) n

-- the net once the change is written
unfoldable pub applied : Net → Change → Net
applied n c = record { present = c.present; slots = (put_in (put_in (put_in n c.event) c.first) c.other).slots }

-- a step as an outcome: its change is written
abbrev pub stepped_to : Net → Change → Outcome
stepped_to n c = record { answer = c.answer; undone = c.undone; touched = c.touched; net = applied n c }
