-- What a step promises, in the words of the theory alone: nothing of how the code finds out shows through.
-- In order: a refusal changes nothing (`refused_stays`); a forward step is done exactly when its rule allows it (`forward_done_lem`); a backward step, by the
-- undoing of its event (`Undoes`). That these are so of what the code changes (`forward_gives`, `undo_promised`) is in proofs/Laws.
-- Document 01's row of each refusal is in `requests` (`Checks`, `refused_iff`).
-- Assumes nothing.
use Rattle.std.specs.Prelude.{ℕ, ◌≡◌, ◌↔◌, true, false, length}
use Rattle.std.proofs.Math.Path.{refl, ap}
use Rattle.order.specs.Words.{word_of}
use Rattle.names.specs.Names.{key_count, locality_count}
use Rattle.names.specs.declared.Key.{Key}
use Rattle.images.specs.Shape.{ShapedScript}
use Rattle.images.specs.declared.Script.{Script}
use Rattle.images.specs.declared.Net as Images
use Rattle.nets.specs.Forward.{Can}
use Rattle.nets.specs.Undo.{undo, touched, Undoable}
use Rattle.rules.specs.Roots.{rolled_by}
use Rattle.rules.specs.View.{view}
use Rattle.requests.specs.Checks.{refusal}
use Rattle.requests.specs.Answers.{in_range, places, forward_checks}
use Rattle.requests.specs.Laws.{forward_can, can_forward}
pub use Rattle.requests.specs.Requests.{done_number, done_zero}
use Rattle.requests.specs.Requests.{asked, is_done, answer_of}
use Rattle.requests.specs.declared.Request.{Request}
use Rattle.requests.specs.declared.Answer.{Answer}
use Rattle.step.specs.Change.{Change, refused, stepped, put_in, applied}
use Rattle.step.specs.Forward.{forward_answer, forward_change}
pub use Rattle.step.specs.Backward.{undoing}

-- ---- a refusal

-- "any refusal leaves the net, with undone 0 and touched 0"
pub refused_stays : (n : Images.Net) (o : Answer) → applied n (refused n.present o) ≡ n
unfolding applied refused put_in
refused_stays n o = refl

-- ---- a forward step

module _ (s : Script) (w : ShapedScript s) (n : Images.Net) (whole : length n.slots ≡ key_count) (r : Request) (range : in_range (asked r) ≡ true) where
  -- it is done exactly when its rule allows it
  pub forward_done_lem : (is_done (forward_answer s n r) ≡ true) ↔ Can (view s n) (places (rolled_by s) (view s n) (asked r))
  unfolding forward_answer
  forward_done_lem = (
    λ h. forward_can (rolled_by s) refl refl (view s n) (asked r) range (done_zero (refusal (forward_checks (rolled_by s) (view s n) (asked r))) h),
    λ can. ap (λ (k : ℕ). is_done (answer_of k)) (can_forward (rolled_by s) refl refl (view s n) (asked r) range can),
  )

  -- otherwise it is as it was
  pub forward_stays : is_done (forward_answer s n r) ≡ false → applied n (forward_change s n r) ≡ n
  unfolding forward_change stepped
  forward_stays h = rw h (refused_stays n (forward_answer s n r))

-- ---- a backward step

-- What is changed by undoing the event k: where it may be undone, the step is done, and leaves and reports what the theory's undoing of that
-- one event says; where it may not, the step is refused and changes nothing.
pub record Undoes (s : Script) (n : Images.Net) (k : Key) (c : Change) : Type 0 where
  pub done : Undoable (view s n) k.0 → is_done c.answer ≡ true
  pub allowed : is_done c.answer ≡ true → Undoable (view s n) k.0
  pub net : Undoable (view s n) k.0 → view s (applied n c) ≡ undo (view s n) k.0
  pub undone : Undoable (view s n) k.0 → c.undone ≡ 1
  pub touched_word_lem : Undoable (view s n) k.0 → c.touched.0 ≡ word_of locality_count (touched (view s n) (undo (view s n) k.0))
  pub stays : is_done c.answer ≡ false → applied n c ≡ n
