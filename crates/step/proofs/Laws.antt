-- What a step promises, of the net that it leaves: a forward step gives the net that the rule gives (`forward_gives`); a backward step of an accepted net is the
-- undoing of its event (`undo_promised`).
-- Assumes nothing.
use Rattle.std.specs.Prelude.{ℕ, ◌≡◌, true, false, length}
use Rattle.std.proofs.Math.Path.{refl, ap}
use Rattle.std.proofs.Common.{sym, ◌∙◌, arith}
use Rattle.laws.specs.Choice.{cases}
use Rattle.names.specs.Names.{key_count}
use Rattle.names.specs.declared.Key.{Key}
use Rattle.images.specs.Script.{script_in_range}
use Rattle.images.specs.Shape.{ShapedScript}
use Rattle.images.specs.declared.Script.{Script}
use Rattle.images.specs.declared.Net as Images
use Rattle.nets.specs.Accepted.{Accepted}
use Rattle.nets.specs.Forward.{forward}
use Rattle.nets.specs.Undo.{Undoable}
use Rattle.rules.specs.Roots.{rolled_by}
use Rattle.rules.specs.View.{view}
use Rattle.requests.specs.Checks.{refusal, all_hold, none_fails}
use Rattle.requests.specs.Answers.{in_range, places, no_places, forward_checks, backward_checks}
use Rattle.requests.specs.Laws.{undo_can, can_undo_lem}
use Rattle.requests.specs.Requests.{done_zero}
use Rattle.requests.specs.Requests.{asked, is_done, answer_of}
use Rattle.requests.specs.declared.Request.{Request}
use Rattle.step.specs.Change.{Change, refused, stepped, applied}
use Rattle.step.specs.Forward.{forward_answer, forward_change}
use Rattle.step.specs.Backward.{backward_answer, backward_done, undone_at, backward_change}
use Rattle.step.specs.Backward.{undoing}
use Rattle.step.proofs.Steps.{forward_is}
use Rattle.step.proofs.Undone.{undo_is, undo_touched, undo_undone}
use Rattle.step.specs.Laws.{refused_stays, Undoes}

-- ---- a forward step

module _ (s : Script) (w : ShapedScript s) (n : Images.Net) (whole : length n.slots ≡ key_count) (r : Request) (range : in_range (asked r) ≡ true) where
  -- and then the net is the rule's: demand 2
  pub forward_gives : is_done (forward_answer s n r) ≡ true → view s (applied n (forward_change s n r)) ≡ forward (view s n) (places (rolled_by s) (view s n) (asked r))
  unfolding forward_change forward_answer stepped
  forward_gives h =
      let all : refusal (forward_checks (rolled_by s) (view s n) (asked r)) ≡ 0 = done_zero (refusal (forward_checks (rolled_by s) (view s n) (asked r))) h in
      rw h (forward_is s w.nodes n whole r range all)

-- ---- a backward step

module _ (s : Script) (w : ShapedScript s) (in-form : script_in_range s ≡ true) (n : Images.Net) (whole : length n.slots ≡ key_count)
    (ok : Accepted (view s n)) (k : Key) where
  abbrev r : Request
  r = undoing k

  none_given : no_places (asked r) ≡ true
  unfolding no_places
  none_given = refl

  may : is_done (backward_answer s n r) ≡ true → Undoable (view s n) k.0
  unfolding backward_answer backward_checks
  may h =
      let zeroed : refusal (backward_checks (rolled_by s) (view s n) (asked r)) ≡ 0 = done_zero (refusal (backward_checks (rolled_by s) (view s n) (asked r))) h in
      let hold = all_hold (backward_checks (rolled_by s) (view s n) (asked r)) ((λ z. omega (arith, z)), ((λ z. omega (arith, z)), ((λ z. omega (arith, z)), tt))) zeroed in
      undo_can (rolled_by s) refl (view s n) ok (asked r) hold.0 hold.1.1.0

  can : Undoable (view s n) k.0 → is_done (backward_answer s n r) ≡ true
  unfolding backward_answer backward_checks
  can u =
      ap (λ (j : ℕ). is_done (answer_of j))
      (none_fails (backward_checks (rolled_by s) (view s n) (asked r)) (u.is_past_lem, (none_given, (can_undo_lem (rolled_by s) refl (view s n) ok (asked r) u, tt))))

  changed : Undoable (view s n) k.0 → backward_change s n r ≡ undone_at s n k
  unfolding backward_change stepped
  changed u = rw (can u)

  answered : is_done (backward_change s n r).answer ≡ is_done (backward_answer s n r)
  unfolding backward_change stepped refused backward_done
  answered = cases (is_done (backward_answer s n r)) (λ h. rw h) (λ h. rw h h)

  stays : is_done (backward_answer s n r) ≡ false → applied n (backward_change s n r) ≡ n
  unfolding backward_change stepped
  stays h = rw h (refused_stays n (backward_answer s n r))

  pub undo_promised : Undoes s n k (backward_change s n r)
  undo_promised =
      record {
        done = λ u. answered ∙ can u;
        allowed = λ h. may (sym answered ∙ h);
        net = λ u. ap (λ (c : Change). view s (applied n c)) (changed u) ∙ undo_is s w in-form n whole ok k u;
        undone = λ u. ap (λ (c : Change). c.undone) (changed u) ∙ undo_undone s w in-form n whole ok k u;
        touched_word_lem = λ u. ap (λ (c : Change). c.touched.0) (changed u) ∙ undo_touched s w in-form n whole ok k u;
        stays = λ h. stays (sym answered ∙ h);
      }
