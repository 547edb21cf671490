-- A request on the lent bytes of good images: what a step, a rollback or a roll gives there is the theory's outcome on what is read from them.
-- In order: the lengths of good images (`script_size`, `net_size`) and what they hold (`script_of_lem`, `net_of_lem`), as a request's code asks for it (`lent`); each code
-- of a request (`forward_serves`, `backward_serves`, `rollback_serves`, `roll_serves`), by its byte (`is_code`, `code_there`).
-- Assumes nothing.
use Rattle.std.specs.Prelude.{ℕ, ◌≡◌, refl, List, eqb, leb, true, false, Option, Some, None}
use Rattle.std.proofs.Common.{sym, ap, ◌∙◌, subst}
use Rattle.laws.specs.Choice.{and_left}
use Rattle.laws.specs.Words.{Bytes}
use Rattle.images.specs.Read.{script_of, script_formed, net_of, net_formed}
use Rattle.images.specs.Sizes.{Scripted, Sized, script_sized, net_sized}
use Rattle.images.specs.declared.Script.{Script}
use Rattle.images.specs.declared.Net.{Net}
use Rattle.requests.specs.Answers.{in_range}
use Rattle.requests.specs.Requests.{code_number, code, code_of, code_is, asked}
use Rattle.requests.specs.declared.Code.{Code}
use Rattle.requests.specs.declared.Request.{Request}
use Rattle.requests.specs.declared.Told.{Told}
use Rattle.step.specs.Lent.{Good, Lent, Outcome}
use Rattle.step.specs.Stepped.{Serves}
use Rattle.step.specs.Forward.{forward_outcome}
use Rattle.step.specs.Backward.{backward_outcome}
use Rattle.rollback.specs.Rollback.{rollback_outcome, roll_outcome}
use Rattle.machine.specs.Calls.{script_in, net_in, GoodImages, served}
use Rattle.machine.specs.Called.{script_formed_lem, net_formed_lem, script_in_lem, net_in_lem, images_good, good_images}
use Rattle.machine.specs.Bytes.{Held, good_held, held_script, held_net}
use Rattle.machine.specs.Served.{forward_served, backward_served, rollback_served, roll_served}

-- the byte of a code is this number, or is not; and one in range has a code
pub is_code : (b : ℕ) (o : Option Code) (d c : Code) (k : ℕ) → o ≡ code_of b → o ≡ Some d → d ≡ c → eqb b k ≡ eqb (code_number c) k
is_code b o d c k e there is = ap (λ (n : ℕ). eqb n k) (sym (code_is b d (sym there ∙ e)) ∙ ap code_number is)

pub code_there : (r : Request) (o : Option Code) → in_range (asked r) ≡ true → o ≡ code_of r.code → o ≡ None → ⊥
unfolding in_range
code_there r o range e there = let bad : None ≡ Some (code r.code) = sym there ∙ e ∙ rw (and_left (leb r.code 3) _ range) refl in cc

module _ (S N : List ℕ) (good : GoodImages S N) where
  formed : script_formed S ≡ true
  formed = script_formed_lem S (images_good S N good).0

  formed_net : net_formed N ≡ true
  formed_net = net_formed_lem N (script_in S) (images_good S N good).1

  pub script_size : Scripted S
  script_size = script_sized S formed

  pub net_size : Sized N
  net_size = net_sized N formed_net

  -- what the bytes hold is what is read
  pub script_of_lem : script_of S ≡ script_in S
  script_of_lem = sym (script_in_lem S formed)

  pub net_of_lem : net_of N ≡ net_in N
  net_of_lem = sym (net_in_lem N formed_net)

  pub lent : Lent S N
  lent =
      record {
        size = script_size;
        formed = formed_net;
        good =
            subst (λ (z : Script). Good z (net_of N)) (sym script_of_lem)
            (subst (λ (m : Net). Good (script_in S) m) (sym net_of_lem) (good_images S N good));
      }

  -- ---- by the code of the request

  module _ (bS : Bytes S) (bN : Bytes N) (r : Request) (range : in_range (asked r) ≡ true) (z : Told) (last : List ℕ) where
    abbrev s : Script
    s = script_in S

    abbrev n : Net
    n = net_in N

    held : Held S N
    held = good_held S N good bS bN

    -- what is given of the images that the bytes hold, by its law on what is read
    serves : (o : Script → Net → Request → Outcome) → o s n r ≡ served s n r → Serves z last (o (script_of S) (net_of N) r) N → Serves z last (served s n r) N
    serves o e = subst (λ (q : Outcome). Serves z last q N) ((λ i. o (script_of_lem i) (net_of_lem i) r) ∙ e)

    pub forward_serves : eqb r.code 0 ≡ true → Serves z last (forward_outcome (script_of S) (net_of N) r) N → Serves z last (served s n r) N
    forward_serves code =
        serves forward_outcome (forward_served s (held_script S N held) n (held_net S N held) (good_images S N good) r range code)

    pub backward_serves : eqb r.code 1 ≡ true → Serves z last (backward_outcome (script_of S) (net_of N) r) N → Serves z last (served s n r) N
    backward_serves code =
        serves backward_outcome (backward_served s (held_script S N held) n (held_net S N held) (good_images S N good) r range code)

    pub rollback_serves : eqb r.code 2 ≡ true → Serves z last (rollback_outcome (script_of S) (net_of N) r) N → Serves z last (served s n r) N
    rollback_serves code =
        serves rollback_outcome (rollback_served s (held_script S N held) n (held_net S N held) (good_images S N good) r range code)

    pub roll_serves : eqb r.code 0 ≡ false → eqb r.code 1 ≡ false → eqb r.code 2 ≡ false
        → Serves z last (roll_outcome (script_of S) (net_of N) r) N → Serves z last (served s n r) N
    roll_serves one two three =
        serves roll_outcome
        (roll_served s (held_script S N held) n (held_net S N held) (good_images S N good) r range one two three)
