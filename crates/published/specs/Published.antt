-- Demand 2, against the published rules themselves: "A forward or backward step gives exactly the net that the published reversible Klaim rules, as
-- document 01 reads them, give for that request." The rules of 004's Tables X and VII are the relations `Step` and `Back` (`tables`), one constructor each.
--
-- In order: a forward call that leads to a net (`ForwardCall`); some forward call leads to a net exactly when a rule of Table X does (`forward_published`);
-- the backward call of an event leads to a net exactly when the reversal of Table VII of that event does (`backward_published`).
-- Assumes nothing.
use Rattle.std.specs.Prelude.{ℕ, ◌≡◌, ◌↔◌, List}
use Rattle.std.proofs.Common.{sym, ◌∙◌}
use Rattle.laws.specs.Words.{Bytes}
use Rattle.nets.specs.Net.{Net}
use Rattle.nets.specs.Forward as Forward
use Rattle.nets.specs.Forward.{Forward, forward}
use Rattle.nets.specs.Undo.{undo, Undoable}
use Rattle.rules.specs.Instance.{rules_of}
use Rattle.requests.specs.Answers as Theory
use Rattle.tables.specs.Table.{Step}
use Rattle.tables.specs.Reversals.{Back}
use Rattle.tables.proofs.Forwards.{step_iff}
use Rattle.tables.proofs.Backwards.{back_iff}
use Rattle.machine.specs.Calls.{script_in}
use Rattle.machine.specs.Bytes.{Held, held_good, held_script}
use Rattle.machine.specs.Demands.{Done, Images, view_in, bytes_after, forward_request, backward_request, Demand2, demand_2}

-- a forward call, of some places, is done and leads to the net m
pub record ForwardCall (S N : List ℕ) (m : Net (rules_of (script_in S))) : Type 0 where
  pub places : Forward.Request
  pub done : Done S N (forward_request places)
  pub leads : view_in S (bytes_after S N (forward_request places)) ≡ m

module _ (S N : List ℕ) (bS : Bytes S) (bN : Bytes N) (good : Images S N) where
  abbrev n : Net (rules_of (script_in S))
  n = view_in S N

  held : Held S N
  held = record { script_bytes_lem = bS; net_bytes_lem = bN; script = good.0; net = good.1 }

  two : Demand2 S N
  two = demand_2 S N bS bN

  -- the net that a done call leads to, in the words of the rules
  forward_leads : (p : Forward.Request) → Done S N (forward_request p) → view_in S (bytes_after S N (forward_request p)) ≡ forward n p
  unfolding Theory.net_after
  forward_leads p d = (two.done_images (forward_request p) d).viewed

  backward_leads : (k : ℕ) → Done S N (backward_request k) → view_in S (bytes_after S N (backward_request k)) ≡ undo n k
  unfolding Theory.net_after
  backward_leads k d = (two.done_images (backward_request k) d).viewed

  module _ (m : Net (rules_of (script_in S))) where
    -- Table X: some forward call leads to m exactly when a rule does
    pub forward_published : ForwardCall S N m ↔ Step (script_in S) n m
    forward_published = (there, back_again)
      where
        iff : Step (script_in S) n m ↔ Forward n m
        iff = step_iff (script_in S) (held_script S N held) (held_good S N held).script n m

        there : ForwardCall S N m → Step (script_in S) n m
        there c =
            iff.1
            (record {
              request = c.places;
              can = (two.forward_exactly good c.places).0 c.done;
              ends = sym c.leads ∙ forward_leads c.places c.done;
            })

        back_again : Step (script_in S) n m → ForwardCall S N m
        back_again r =
            let f = iff.0 r in
            let d = (two.forward_exactly good f.request).1 f.can in
            record { places = f.request; done = d; leads = forward_leads f.request d ∙ sym f.ends }

    -- Table VII: the backward call of the event k leads to m exactly when its reversal does
    pub backward_published : (k : ℕ) → (Done S N (backward_request k) × (view_in S (bytes_after S N (backward_request k)) ≡ m)) ↔ Back (script_in S) n k m
    backward_published k = (there, back_again)
      where
        iff : Back (script_in S) n k m ↔ (Undoable n k × (m ≡ undo n k))
        iff = back_iff (script_in S) (held_script S N held) (held_good S N held).script n (held_good S N held).accepted k m

        there : Done S N (backward_request k) × (view_in S (bytes_after S N (backward_request k)) ≡ m) → Back (script_in S) n k m
        there (d, e) = iff.1 ((two.backward_exactly good k).0 d, sym e ∙ backward_leads k d)

        back_again : Back (script_in S) n k m → Done S N (backward_request k) × (view_in S (bytes_after S N (backward_request k)) ≡ m)
        back_again b =
            let (u, e) = iff.0 b in
            let d = (two.backward_exactly good k).1 u in
            (d, backward_leads k d ∙ sym e)
