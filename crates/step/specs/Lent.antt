-- Images that are good, as they are lent, and what a call on them gives.
-- In order: images that are in their form and accepted (`Good`), and lent bytes that hold such images (`Lent`); an outcome (`Outcome`), what is told of it
-- and written (`told`, `Gives`), and the lent net after it (`lent_after`); a refusal (`refused`), a call that is done (`done`, `told_done`), and a call by its answer
-- (`outcome_by`, `by_yes`, `by_no`).
-- Assumes nothing.
use Rattle.std.specs.Prelude.{ℕ, ◌≡◌, refl, true, List}
use Rattle.std.proofs.Math.Path.{sym, ap}
use Rattle.std.proofs.Common.{◌∙◌}
use Rattle.std.proofs.Math.Bool.{false}
use Rattle.laws.specs.Choice.{pick}
use Rattle.names.specs.Localities.{localities}
use Rattle.names.specs.declared.Localities.{Localities}
use Rattle.images.specs.Script.{script_in_range}
use Rattle.images.specs.Net.{net_in_range, net_bytes}
use Rattle.images.specs.Read.{script_of, net_of, net_formed}
use Rattle.images.specs.Sizes.{Scripted}
use Rattle.images.specs.declared.Script.{Script}
use Rattle.images.specs.declared.Net.{Net}
use Rattle.nets.specs.Accepted.{Accepted}
use Rattle.rules.specs.View.{view}
use Rattle.requests.specs.Requests.{is_done}
use Rattle.requests.specs.Requests as Requests
use Rattle.requests.specs.declared.Answer.{Answer}
use Rattle.requests.specs.declared.Told.{Told}

-- both images have their form, and the net is accepted
pub record Good (s : Script) (n : Net) : Type 0 where
  pub script : script_in_range s ≡ true
  pub net : net_in_range n ≡ true
  pub accepted : Accepted (view s n)

-- bytes of the sizes of images, the net's in their form, that hold such images
pub record Lent (script net : List ℕ) : Type 0 where
  pub size : Scripted script
  pub formed : net_formed net ≡ true
  pub good : Good (script_of script) (net_of net)

-- ---- outcomes

-- what a call answers, how many events it undid, the localities at which a slot became free, and the net after it
pub record Outcome : Type 0 where
  pub answer : Answer
  pub undone : ℕ
  pub touched : Localities
  pub net : Net

abbrev pub told : Outcome → Told
told o = record { answer = o.answer; undone = o.undone; touched = o.touched }

-- what is told of it, and the lent bytes that are its net's
abbrev pub Gives : Told → List ℕ → Outcome → Type 0
Gives t last o = (t ≡ told o) × (last ≡ net_bytes o.net)

-- the lent net: the outcome's where the call is done, and otherwise as it was
unfoldable pub lent_after : Outcome → List ℕ → List ℕ
lent_after o net = pick (is_done o.answer) (net_bytes o.net) net

-- "any refusal leaves the net, with undone 0 and touched 0"
abbrev pub refused : Net → Answer → Outcome
refused n a = record { answer = a; undone = 0; touched = localities 0; net = n }

abbrev pub done : ℕ → Localities → Net → Outcome
done undone touched n = record { answer = Answer.Done; undone = undone; touched = touched; net = n }

abbrev pub told_done : ℕ → Localities → Told
told_done undone touched = record { answer = Answer.Done; undone = undone; touched = touched }

-- what is done where no check refuses, and otherwise the refusal
unfoldable pub outcome_by : Net → Answer → Outcome → Outcome
outcome_by n a o = pick (is_done a) o (refused n a)

module _ (n : Net) (b : Answer) (o : Outcome) (net : List ℕ) (a : Answer) (is : a ≡ b) (t : Told) where
  pub by_yes : is_done a ≡ true → is_done o.answer ≡ true → (last : List ℕ) → Gives t last o
      → (t ≡ told (outcome_by n b o)) × (last ≡ lent_after (outcome_by n b o) net)
  unfolding outcome_by lent_after
  by_yes h d last (said, bytes) = rw (sym (ap is_done is) ∙ h) (said, rw d bytes)

  pub by_no : is_done a ≡ false → t ≡ Requests.refusal a → (t ≡ told (outcome_by n b o)) × (net ≡ lent_after (outcome_by n b o) net)
  unfolding outcome_by lent_after
  by_no h said =
      let g : is_done b ≡ false = sym (ap is_done is) ∙ h in
      rw g (said ∙ ap Requests.refusal is, rw g refl)
