-- The net after a call that is done is one that an image holds, and accepted: steps and rollbacks of the theory, back in an image.
--
-- In order: such a net (`Kept`), from an image with that view (`kept_of`); what a forward step (`forward_kept`), a backward step (`undo_kept`),
-- backward steps in a row (`undoes_kept`) and a rollback (`rollback_kept`) leave.
-- Assumes nothing.
use Rattle.std.specs.Prelude.{ℕ, ◌≡◌, true, List}
use Rattle.std.proofs.Common.{sym, ap, ◌∙◌, subst}
use Rattle.order.specs.KeySets.{◌∈◌}
use Rattle.names.specs.Names.{key}
use Rattle.images.specs.Script.{script_in_range}
use Rattle.images.specs.Net.{net_in_range}
use Rattle.images.specs.Shape.{ShapedScript, ShapedNet}
use Rattle.images.specs.declared.Script.{Script}
use Rattle.images.specs.declared.Net as Images
use Rattle.nets.specs.Net.{Net, events}
use Rattle.nets.specs.Forward.{forward, Can}
use Rattle.nets.specs.Undo.{undo, rollback, Undoable, Undoes, stay, back}
use Rattle.nets.specs.Accepted.{Accepted}
use Rattle.rules.specs.Instance.{rules_of}
use Rattle.rules.specs.Roots.{rolled_by}
use Rattle.rules.specs.View.{view}
use Rattle.rules.specs.Image.{image_of, image_view}
use Rattle.rules.specs.Theorems.{forward_accepted, undo_accepted, any_order}
use Rattle.requests.specs.Answers.{in_range, places}
use Rattle.requests.specs.Requests.{asked}
use Rattle.requests.specs.declared.Request.{Request}
use Rattle.step.specs.Lent.{Good}
use Rattle.step.specs.Change.{applied}
use Rattle.step.specs.Forward.{forward_change}
use Rattle.step.specs.Backward.{undone_at}
use Rattle.step.specs.Laws.{forward_done_lem}
use Rattle.step.proofs.Laws.{forward_gives}
use Rattle.step.proofs.Undone.{undo_is}
use Rattle.ranges.specs.Forward.{forward_in_range, forward_shaped}
use Rattle.ranges.specs.Backward.{accepted_taken, undone_in_range, undone_shaped}

-- a net of the theory that its image holds, in range and of the code's types, and that is accepted
pub record Kept (s : Script) (m : Net (rules_of s)) : Type 0 where
  pub shaped : ShapedNet (image_of s m)
  pub range : net_in_range (image_of s m) ≡ true
  pub viewed : view s (image_of s m) ≡ m
  pub accepted : Accepted m

pub kept_of : (s : Script) (n : Images.Net) → ShapedNet n → net_in_range n ≡ true → (m : Net (rules_of s)) → view s n ≡ m → Accepted m → Kept s m
kept_of s n v r m e ok =
    let is : image_of s m ≡ n = ap (image_of s) (sym e) ∙ image_view s n v r in
    record { shaped = subst ShapedNet (sym is) v; range = ap net_in_range is ∙ r; viewed = ap (view s) is ∙ e; accepted = ok }

module _ (s : Script) (w : ShapedScript s) (range : script_in_range s ≡ true) where
  -- what a kept net's image is good for
  kept_good : (m : Net (rules_of s)) → Kept s m → Good s (image_of s m)
  kept_good m k = record { script = range; net = k.range; accepted = subst Accepted (sym k.viewed) k.accepted }

  module _ (n : Images.Net) (v : ShapedNet n) (good : Good s n) where
    pub forward_kept : (r : Request) → in_range (asked r) ≡ true → Can (view s n) (places (rolled_by s) (view s n) (asked r))
        → Kept s (forward (view s n) (places (rolled_by s) (view s n) (asked r)))
    forward_kept r in-form can =
        kept_of s (applied n (forward_change s n r)) (forward_shaped s w n v r in-form) (forward_in_range s w range n v good.net r in-form)
        (forward (view s n) (places (rolled_by s) (view s n) (asked r)))
        (forward_gives s w n v.slots r in-form ((forward_done_lem s w n v.slots r in-form).1 can))
        (forward_accepted s w range (view s n) good.accepted (places (rolled_by s) (view s n) (asked r)) can)

    pub undo_kept : (x : ℕ) → Undoable (view s n) x → Kept s (undo (view s n) x)
    undo_kept x u =
        kept_of s (applied n (undone_at s n (key x))) (undone_shaped s n v (key x))
        (undone_in_range s n good.net (accepted_taken s (view s n) good.accepted) (key x) u.is_past_lem) (undo (view s n) x)
        (undo_is s w range n v.slots good.accepted (key x) u) (undo_accepted s w range (view s n) good.accepted x u)

  undo_next : (m : Net (rules_of s)) → Kept s m → (x : ℕ) → Undoable m x → Kept s (undo m x)
  undo_next m k x u =
      subst (λ (a : Net (rules_of s)). Kept s (undo a x)) k.viewed
      (undo_kept (image_of s m) k.shaped (kept_good m k) x (subst (λ (a : Net (rules_of s)). Undoable a x) (sym k.viewed) u))

  pub undoes_kept : {n m : Net (rules_of s)} {ks : List ℕ} → Kept s n → Undoes n ks m → Kept s m
  undoes_kept k stay = k
  undoes_kept {n = n} k (back {x = x} u r) = undoes_kept (undo_next n k x u) r

  pub rollback_kept : (n : Net (rules_of s)) → Kept s n → (e : ℕ) → e ∈ events n → Kept s (rollback n e)
  rollback_kept n k e p =
      let o = any_order s w range n k.accepted e p in
      let (ks, m, all) = o.possible in
      subst (Kept s) (o.same_end ks m all) (undoes_kept k all.undoes)
