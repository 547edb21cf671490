-- A change on the lent bytes of good images, as the outcome of a call: one that is refused (`change_refused`), and one that is written (`change_written`).
-- Assumes nothing.
use Rattle.std.specs.Prelude.{ℕ, ◌≡◌, refl, true, false, List}
use Rattle.std.proofs.Common.{sym, ◌∙◌}
use Rattle.std.proofs.Math.Path.{ap, subst}
use Rattle.laws.specs.Words.{Bytes}
use Rattle.names.specs.declared.Localities.{Localities}
use Rattle.images.specs.Net.{net_bytes}
use Rattle.images.specs.Read.{net_of}
use Rattle.images.specs.Round.{net_back, shaped_net}
use Rattle.images.specs.declared.Net.{Net}
use Rattle.requests.specs.Requests.{is_done, refusal}
use Rattle.requests.specs.declared.Answer.{Answer}
use Rattle.requests.specs.declared.Told.{Told}
use Rattle.step.specs.Lent.{Lent, lent_after}
use Rattle.step.specs.Change.{Change, refused, applied, stepped_to}
use Rattle.step.specs.InPlace.{change_bytes, change_bytes_lem}
use Rattle.step.specs.Stepped.{Serves}

module _ (S N : List ℕ) (lent : Lent S N) (bytes : Bytes N) where
  abbrev n : Net
  n = net_of N

  pub change_refused : (c : Change) (present : Localities) (o : Answer) → is_done o ≡ false → refused present o ≡ c → (z : Told) → z ≡ refusal o
      → Serves z N (stepped_to n c) N
  unfolding refused lent_after
  change_refused c present o h e z is-z = subst (λ (d : Change). Serves z N (stepped_to n d) N) e (is-z, rw h refl)

  -- its bytes, once it is written, are those of the net with it
  pub change_written : (c d : Change) → is_done d.answer ≡ true → d ≡ c → (z : Told) → z ≡ record { answer = d.answer; undone = d.undone; touched = d.touched }
      → (last : List ℕ) → last ≡ change_bytes d N → Serves z last (stepped_to n c) N
  unfolding lent_after
  change_written c d h e z is-z last is_last =
      let written : last ≡ net_bytes (applied n d) =
      is_last ∙ ap (change_bytes d) (sym (net_back N bytes lent.formed)) ∙ change_bytes_lem n (shaped_net N bytes).slots d in
      subst (λ (d : Change). Serves z last (stepped_to n d) N) e (is-z, rw h written)
