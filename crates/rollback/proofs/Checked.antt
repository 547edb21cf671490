-- The checks of a rollback and a roll, from what was looked up, and what a done one says of the event (`rollback_found`, `rollback_found_event`, `roll_found`,
-- `roll_found_event`, `roll_found_held`); and so, in the lent bytes of good images, what a call is that its checks refuse (`rollback_refused`, `roll_refused`),
-- which event one undoes that none refuses (`rollback_undoes`, `roll_undoes`), and that it gives the outcome (`rollback_gives`, `roll_gives`).
-- Assumes nothing.
use Rattle.std.proofs.Common.{◌∙◌}
use Rattle.std.specs.Prelude.{ℕ, ◌≡◌, refl, List, Result, Ok, Err}
use Rattle.std.proofs.Math.Path.{sym, ap, subst}
use Rattle.std.proofs.Math.Bool.{true}
use Rattle.laws.specs.Words.{Bytes}
use Rattle.order.specs.KeySets.{◌∈◌}
use Rattle.names.specs.declared.Key.{Key}
use Rattle.images.specs.Net.{slot_with}
use Rattle.images.specs.Read.{script_of, net_of, node_with}
use Rattle.images.specs.Round.{shaped_script, shaped_net}
use Rattle.images.specs.Shape.{ShapedScript, ShapedNet}
use Rattle.images.specs.declared.Action.{Action}
use Rattle.images.specs.declared.Script.{Script}
use Rattle.images.specs.declared.Slot as Image
use Rattle.images.specs.declared.Net as Images
use Rattle.nets.specs.Net.{events, dependents}
use Rattle.rules.specs.Roots.{rolled_by}
use Rattle.rules.specs.View.{view}
use Rattle.requests.specs.Checks.{refusal}
use Rattle.requests.specs.Requests.{is_done, answer_of}
use Rattle.requests.specs.Requests as Requests
use Rattle.requests.specs.declared.Request.{Request}
use Rattle.requests.specs.declared.Answer.{Answer}
use Rattle.requests.specs.declared.Told.{Told}
use Rattle.step.specs.Lent.{Good, Lent, Gives, by_yes, by_no}
use Rattle.step.specs.Stepped.{Serves}
use Rattle.rollback.specs.Rollback.{undone_done, rolled_back, rollback_answer, rollback_outcome, roll_answer, roll_outcome}
use Rattle.rollback.specs.InPlace.{gives_same}
use Rattle.rollback.specs.Checked.{held_by, rollback_tests, roll_tests, answered, answered_yes, answered_no, rollback_checked, roll_checked, rollback_event, roll_event, roll_held}

module _ (s : Script) (w : ShapedScript s) (n : Images.Net) (v : ShapedNet n) (r : Request) (x : Image.Slot) (a : Action)
    (is_x : x ≡ slot_with n r.key) (is-a : a ≡ node_with s x.node) (o : Answer) where
  the_node : a ≡ node_with s (slot_with n r.key).node
  the_node = is-a ∙ ap (λ (z : Image.Slot). node_with s z.node) is_x

  pub rollback_found : o ≡ answer_of (refusal (rollback_tests a x r)) → o ≡ rollback_answer s n r
  rollback_found e = e ∙ (λ i. answer_of (refusal (rollback_tests (the_node i) (is_x i) r))) ∙ rollback_checked s w.nodes n v r

  pub rollback_found_event : o ≡ answer_of (refusal (rollback_tests a x r)) → is_done o ≡ true → r.key.0 ∈ events (view s n)
  rollback_found_event e h = rollback_event s w.nodes n v r (sym (ap is_done (rollback_found e)) ∙ h)

  module _ (e : Key) (is-e : e ≡ held_by a x) (is-o : o ≡ answer_of (refusal (roll_tests a x e r))) where
    the_key : e ≡ held_by (node_with s (slot_with n r.key).node) (slot_with n r.key)
    the_key = is-e ∙ (λ i. held_by (the_node i) (is_x i))

    pub roll_found : o ≡ roll_answer s n r
    roll_found = is-o ∙ (λ i. answer_of (refusal (roll_tests (the_node i) (is_x i) (the_key i) r))) ∙ roll_checked s w.nodes n v r

    module _ (good : Good s n) (h : is_done o ≡ true) where
      done : is_done (roll_answer s n r) ≡ true
      done = sym (ap is_done roll_found) ∙ h

      pub roll_found_event : e.0 ∈ events (view s n)
      roll_found_event =
          subst (λ (k : Key). k.0 ∈ events (view s n)) (sym the_key) (roll_event s w.nodes n v r w good done)

      pub roll_found_held : e.0 ≡ rolled_by s ((view s n).slot r.key.0).body
      roll_found_held = ap (λ (k : Key). k.0) the_key ∙ roll_held s w.nodes n v r w good done

-- ---- in the lent bytes of good images

module _ (S N : List ℕ) (lent : Lent S N) (bS : Bytes S) (bN : Bytes N) (r : Request) (x : Image.Slot) (a : Action)
    (is_x : x ≡ slot_with (net_of N) r.key) (is-a : a ≡ node_with (script_of S) x.node) where
  abbrev s : Script
  s = script_of S

  abbrev n : Images.Net
  n = net_of N

  w : ShapedScript s
  w = shaped_script S bS

  v : ShapedNet n
  v = shaped_net N bN

  -- rollback
  module _ (t : Result Unit Answer) (is : t ≡ answered tt (refusal (rollback_tests a x r))) where
    abbrev number : ℕ
    number = refusal (rollback_tests a x r)

    pub rollback_refused : (o : Answer) → t ≡ Err o → (z : Told) → z ≡ Requests.refusal o → Serves z N (rollback_outcome s n r) N
    unfolding rollback_outcome
    rollback_refused o e z is_z =
        let no = answered_no tt number o (sym e ∙ is) in
        by_no n (rollback_answer s n r) (rolled_back s n r.key.0) N o (rollback_found s w n v r x a is_x is-a o no.1) z no.0 is_z

    module _ (u : Unit) (e : t ≡ Ok u) where
      yes : is_done (answer_of number) ≡ true
      yes = (answered_yes tt number u (sym e ∙ is)).0

      pub rollback_undoes : r.key.0 ∈ events (view s n)
      rollback_undoes = rollback_found_event s w n v r x a is_x is-a (answer_of number) refl yes

      pub rollback_gives : (z : Told) (last : List ℕ) → Gives z last (rolled_back s n r.key.0) → Serves z last (rollback_outcome s n r) N
      unfolding rollback_outcome
      rollback_gives z last g =
          by_yes n (rollback_answer s n r) (rolled_back s n r.key.0) N (answer_of number)
          (rollback_found s w n v r x a is_x is-a (answer_of number) refl) z yes (undone_done s n _) last g

  -- roll
  module _ (t : Result Key Answer) (is : t ≡ answered (held_by a x) (refusal (roll_tests a x (held_by a x) r))) where
    abbrev roll_number : ℕ
    roll_number = refusal (roll_tests a x (held_by a x) r)

    abbrev named : ℕ
    named = rolled_by s ((view s n).slot r.key.0).body

    pub roll_refused : (o : Answer) → t ≡ Err o → (z : Told) → z ≡ Requests.refusal o → Serves z N (roll_outcome s n r) N
    unfolding roll_outcome
    roll_refused o e z is_z =
        let no = answered_no (held_by a x) roll_number o (sym e ∙ is) in
        by_no n (roll_answer s n r) (rolled_back s n named) N o (roll_found s w n v r x a is_x is-a o (held_by a x) refl no.1) z no.0 is_z

    module _ (k : Key) (e : t ≡ Ok k) where
      found : (is_done (answer_of roll_number) ≡ true) × (k ≡ held_by a x)
      found = answered_yes (held_by a x) roll_number k (sym e ∙ is)

      -- the number of the checks of k
      is_number : k ≡ held_by a x → answer_of roll_number ≡ answer_of (refusal (roll_tests a x k r))
      is_number q = ap (λ (j : Key). answer_of (refusal (roll_tests a x j r))) (sym q)

      pub roll_undoes : k.0 ∈ events (view s n)
      roll_undoes = roll_found_event s w n v r x a is_x is-a (answer_of roll_number) k found.1 (is_number found.1) lent.good found.0

      pub roll_gives : (z : Told) (last : List ℕ) → Gives z last (rolled_back s n k.0) → Serves z last (roll_outcome s n r) N
      unfolding roll_outcome
      roll_gives z last g =
          let held : k.0 ≡ named = roll_found_held s w n v r x a is_x is-a (answer_of roll_number) k found.1 (is_number found.1) lent.good found.0 in
          by_yes n (roll_answer s n r) (rolled_back s n named) N (answer_of roll_number)
          (roll_found s w n v r x a is_x is-a (answer_of roll_number) k found.1 (is_number found.1)) z found.0 (undone_done s n _) last
          (gives_same s n _ _ (ap (dependents (view s n)) held) z last g)
