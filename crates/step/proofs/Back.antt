-- The backward step on lent bytes: what its loops and returns look up, and what its writes leave.
-- In order: what the searches over the keys ask (`at_key`, `used_asked`, `taken_asked`); a record that keeps what it carries (`kept`); of an event that may be undone,
-- the tuple that an in took is neither the event nor what it made (`used_not_event`, `used_not_first`); undoing on lent bytes (`undo_sized`, `undo_below`, `undo_keeps`,
-- `undo_touches`, `undo_writes`); the step, return by return (`refuses_process`, `refuses_places`, `refuses_undoing`, `may_undo`, `undoing_served`).
-- Assumes nothing.
use Rattle.std.specs.Prelude.{ℕ, ◌<◌, ◌≡◌, Bool, false, ◌&&◌, List, Option, Some, None}
use Rattle.std.proofs.Math.Path.{refl, ap}
use Rattle.std.proofs.Common.{sym, ◌∙◌, subst, true≢false}
use Rattle.std.proofs.Math.Bool.{true, and_comm}
use Rattle.std.proofs.Math.Dec.{eqb}
use borrow.Author.Tests.{eq-eqb, lt-ltb}
use Rattle.laws.specs.Choice.{cases, fails, and_both}
use Rattle.laws.specs.Words.{Bytes}
use Rattle.order.specs.KeySets.{◌∈◌}
use Rattle.names.specs.Names.{key_count, key}
use Rattle.names.specs.Localities.{localities}
use Rattle.names.specs.declared.Key.{Key}
use Rattle.names.specs.declared.Localities.{Localities}
use Rattle.images.specs.Shape.{ShapedScript}
use Rattle.images.specs.Net.{free_slot, slot_at, slot_with}
use Rattle.images.specs.Read.{script_of, node_with, net_of}
use Rattle.images.specs.Sizes.{Sized, net_sized}
use Rattle.images.specs.InPlace.{slot_put, present_put}
use Rattle.images.specs.After.{slot_other, present_other}
use Rattle.images.specs.Round.{shaped_script}
use Rattle.images.specs.declared.Action.{Action}
use Rattle.images.specs.declared.Script.{Script}
use Rattle.images.specs.declared.Slot.{Slot}
use Rattle.images.specs.declared.Net.{Net}
use Rattle.nets.specs.Net as Nets
use Rattle.nets.specs.Net.{consumed, is_past, is_consumed, events, makes, takes}
use Rattle.nets.specs.Undo.{Undoable}
use Rattle.nets.specs.Accepted.{Accepted}
use Rattle.nets.specs.Records.{made_first, live_not_consumed}
use Rattle.nets.proofs.Events.{event_below, take_consumed}
use Rattle.products.specs.Body.{body_of, fresh}
use Rattle.products.specs.Products.{is_in}
use Rattle.rules.specs.Instance.{rules_of}
use Rattle.rules.specs.Roots.{rolled_by}
use Rattle.rules.specs.View.{view, view_with, past_is}
use Rattle.requests.specs.Checks as Checks
use Rattle.requests.specs.Answers.{no_places, can_undo, backward_checks}
use Rattle.requests.specs.Laws.{undo_can, can_undo_lem}
use Rattle.requests.specs.Requests.{asked, is_done, refusal}
use Rattle.requests.specs.declared.Request.{Request}
use Rattle.requests.specs.declared.Answer.{Answer}
use Rattle.requests.specs.declared.Told.{Told}
use Rattle.step.specs.Lent.{Lent}
use Rattle.step.specs.Change.{refused, stepped_yes, stepped_no}
use Rattle.step.specs.Backward.{back_put, present_before, freed_at, backward_done, backward_answer, undone_at, backward_change, backward_outcome}
use Rattle.step.specs.InPlace.{put_bytes, change_bytes, slot_kept}
use Rattle.step.specs.Stepped.{Serves}
use Rattle.step.proofs.Stepped.{change_refused, change_written}
use Rattle.step.specs.Way.{uses_key, takes_key, took, used_by, taken_by, way_of, taken_is, clear_undoable, behind_not}

-- ---- the search over the keys

-- the slot with a key below the limit
pub at_key : (n : Net) (f : ℕ) → f < key_count → slot_with n (key f) ≡ slot_at n f
at_key n f l = rw (lt-ltb f key_count l)

-- what the code asks of a key is what the search is for
taken_first : (p q o : Bool) → (q && (p && o)) ≡ (p && (q && o))
taken_first true q o = refl
taken_first false true o = refl
taken_first false false o = refl

module _ (n : Net) (t k : Key) (below : k.0 < key_count) where
  pub used_asked : (eqb (slot_with n k).used.0 t.0 && eqb (slot_with n k).kind 2) ≡ used_by n t k.0
  unfolding used_by uses_key
  used_asked =
      ap (λ (x : Slot). eqb x.used.0 t.0 && eqb x.kind 2) (at_key n k.0 below) ∙
      and_comm (eqb (slot_at n k.0).used.0 t.0) (eqb (slot_at n k.0).kind 2)

  pub taken_asked : (s : Script) → (eqb (slot_with n k).used.0 t.0 && took s (slot_with n k)) ≡ taken_by s n t k.0
  unfolding taken_by takes_key
  taken_asked s =
      ap (λ (x : Slot). eqb x.used.0 t.0 && took s x) (at_key n k.0 below) ∙
      taken_first (eqb (slot_at n k.0).kind 2) (eqb (slot_at n k.0).used.0 t.0) (eqb (node_with s (slot_at n k.0).node).kind 2)

-- ---- a record that is put back

-- the record as it would be made keeps what the one that stands there carries
pub kept : (kind : ℕ) (y z old : Slot) → y ≡ old → z ≡ fresh kind (body_of y) → (z.contents ≡ old.contents) × (z.refs ≡ old.refs)
kept kind y z old is_y is-z = (
  ap (λ (v : Slot). v.contents) is-z ∙ ap (λ (v : Slot). v.contents) is_y,
  ap (λ (v : Slot). v.refs) is-z ∙ ap (λ (v : Slot). v.refs) is_y,
)

-- ---- an event that may be undone

module _ (s : Script) (w : ShapedScript s) (n : Net) (ok : Accepted (view s n)) (k : Key) (u : Undoable (view s n) k.0) where
  abbrev W : Nets.Net (rules_of s)
  W = view s n

  abbrev x₀ : Slot
  x₀ = slot_with n k

  -- it is at a key
  pub event_at_key : k.0 < key_count
  event_at_key = event_below W ok k.0 u.is_past_lem

  event_past : eqb (slot_with n k).kind 2 ≡ true
  event_past = sym (ap (λ (z : Nets.Slot (rules_of s)). is_past z.kind) (view_with s n k) ∙ past_is (slot_with n k).kind) ∙ u.is_past_lem

  -- an in took what it used, which is consumed
  used_taken : is_in (node_with s (slot_with n k).node).kind ≡ true → takes W k.0 (slot_with n k).used.0 ≡ true
  used_taken i =
      sym (taken_is s w n x₀.used k.0 event_at_key) ∙ sym (taken_asked n x₀.used k event_at_key s) ∙
      and_both (eqb x₀.used.0 x₀.used.0) _ (eq-eqb x₀.used.0 x₀.used.0 refl) (and_both (eqb x₀.kind 2) _ event_past i)

  used_consumed : is_in (node_with s (slot_with n k).node).kind ≡ true → (W.slot (slot_with n k).used.0).kind ≡ consumed
  used_consumed i = take_consumed W ok k.0 x₀.used.0 (used_taken i)

  -- so it is not the event, nor what the event made
  pub used_not_event : is_in (node_with s (slot_with n k).node).kind ≡ true → (slot_with n k).used.0 ≡ k.0 → ⊥
  used_not_event i e =
      true≢false (sym u.is_past_lem ∙ ap (λ (j : ℕ). is_past (W.slot j).kind) (sym e) ∙ ap is_past (used_consumed i))

  makes_first : makes W k.0 (slot_with n k).first.0 ≡ true
  makes_first =
      subst (λ (j : ℕ). makes W k.0 j ≡ true) (ap (λ (z : Nets.Slot (rules_of s)). z.first) (view_with s n k))
      (made_first (W.slot k.0) u.is_past_lem (ok.agrees k.0 u.is_past_lem).rule.places.first)

  pub used_not_first : is_in (node_with s (slot_with n k).node).kind ≡ true → (slot_with n k).used.0 ≡ (slot_with n k).first.0 → ⊥
  used_not_first i e =
      true≢false
      (sym (ap is_consumed (used_consumed i)) ∙ ap (λ (j : ℕ). is_consumed (W.slot j).kind) e ∙
      live_not_consumed (W.slot x₀.first.0).kind (u.made_live x₀.first.0 makes_first))

-- only where an in is undone does the tuple matter
back_other : (kind : ℕ) (second used : Key) (t o : Slot) → is_in kind ≡ false → back_put kind second used t ≡ back_put kind second used o
unfolding back_put
back_other kind second used t o i = rw i refl

pub back_same : (kind : ℕ) (second used : Key) (t o : Slot) → (is_in kind ≡ true → t ≡ o) → back_put kind second used t ≡ back_put kind second used o
back_same kind second used t o same = cases (is_in kind) (λ i. ap (back_put kind second used) (same i)) (back_other kind second used t o)

-- ---- undoing, on lent bytes

module _ (S N : List ℕ) (lent : Lent S N) (k : Key) (u : Undoable (view (script_of S) (net_of N)) k.0) where
  abbrev s₀ : Script
  s₀ = script_of S

  abbrev n₀ : Net
  n₀ = net_of N

  pub undo_sized : Sized N
  undo_sized = net_sized N lent.formed

  pub undo_below : k.0 < key_count
  undo_below = event_below (view (script_of S) (net_of N)) lent.good.accepted k.0 u.is_past_lem

  -- of the slot that was looked up
  module _ (x : Slot) (is_x : x ≡ slot_at (net_of N) k.0) where
    looked_up : x ≡ slot_with (net_of N) k
    looked_up = is_x ∙ sym (at_key n₀ k.0 undo_below)

    pub undo_keeps : (z : Slot) → z ≡ fresh 1 (body_of x) → (Sized N) × ((z.contents ≡ (slot_with (net_of N) k).contents) × (z.refs ≡ (slot_with (net_of N) k).refs))
    undo_keeps z is-z = (undo_sized, kept 1 x z (slot_with n₀ k) looked_up is-z)

    pub undo_touches : (one both : Localities) → one ≡ freed_at (localities 0) x.first (slot_with (net_of N) x.first)
        → both ≡ freed_at one x.second (slot_with (net_of N) x.second) → both ≡ (undone_at (script_of S) (net_of N) k).touched
    unfolding backward_done
    undo_touches one both is_one is-both =
        is-both ∙ ap (λ (z : Localities). freed_at z x.second (slot_with n₀ x.second)) is_one ∙
        ap (λ (y : Slot). freed_at (freed_at (localities 0) y.first (slot_with n₀ y.first)) y.second (slot_with n₀ y.second)) looked_up

    module _ (bytes : Bytes S) (a : Action) (is-a : a ≡ node_with (script_of S) x.node) (e f : Slot) (b₁ b₂ b₃ b₄ : List ℕ) (present p : Localities)
        (is-e : e ≡ fresh 1 (body_of x)) (is₁ : b₁ ≡ slot_put k e N) (is_f : f ≡ free_slot) (is₂ : b₂ ≡ slot_put x.first f b₁)
        (is₃ : b₃ ≡ put_bytes (back_put a.kind x.second x.used (slot_with (net_of b₂) x.used)) b₂) where
      size₁ : Sized b₁
      size₁ = slot_kept k e N b₁ is₁ undo_sized

      size₂ : Sized b₂
      size₂ = slot_kept x.first f b₁ b₂ is₂ size₁

      an_in : is_in a.kind ≡ true → is_in (node_with (script_of S) (slot_with (net_of N) k).node).kind ≡ true
      an_in i = ap (λ (y : Slot). is_in (node_with s₀ y.node).kind) (sym looked_up) ∙ ap (λ (z : Action). is_in z.kind) (sym is-a) ∙ i

      -- the tuple that an in took stands there as before
      same_tuple : is_in a.kind ≡ true → slot_with (net_of b₂) x.used ≡ slot_with (net_of N) x.used
      same_tuple i =
          ap (λ (b : List ℕ). slot_with (net_of b) x.used) is₂ ∙
          slot_other b₁ size₁ x.first f x.used
          (λ z.
          used_not_first s₀ (shaped_script S bytes) n₀ lent.good.accepted k u (an_in i)
          (ap (λ (y : Slot). y.used.0) (sym looked_up) ∙ z ∙ ap (λ (y : Slot). y.first.0) looked_up)) ∙
          ap (λ (b : List ℕ). slot_with (net_of b) x.used) is₁ ∙
          slot_other N undo_sized k e x.used
          (λ z.
          used_not_event s₀ (shaped_script S bytes) n₀ lent.good.accepted k u (an_in i)
          (ap (λ (y : Slot). y.used.0) (sym looked_up) ∙ z))

      -- and so does the present set
      same_present : (net_of b₃).present ≡ (net_of N).present
      same_present =
          ap (λ (b : List ℕ). (net_of b).present) is₃ ∙
          present_other b₂ size₂ (back_put a.kind x.second x.used (slot_with (net_of b₂) x.used)).key
          (back_put a.kind x.second x.used (slot_with (net_of b₂) x.used)).slot ∙
          ap (λ (b : List ℕ). (net_of b).present) is₂ ∙ present_other b₁ size₁ x.first f ∙
          ap (λ (b : List ℕ). (net_of b).present) is₁ ∙ present_other N undo_sized k e

      pub undo_writes : present ≡ (net_of b₃).present → p ≡ present_before a.kind present x.place → b₄ ≡ present_put p b₃
          → b₄ ≡ change_bytes (undone_at (script_of S) (net_of N) k) N
      unfolding change_bytes backward_done
      undo_writes is-present is-p is₄ =
          let t₀ : Slot = slot_with n₀ x.used in
          let s₁ : b₁ ≡ slot_put k (fresh 1 (body_of x)) N = is₁ ∙ ap (λ (z : Slot). slot_put k z N) is-e in
          let s₂ : b₂ ≡ slot_put x.first free_slot (slot_put k (fresh 1 (body_of x)) N) = is₂ ∙ (λ i. slot_put x.first (is_f i) (s₁ i)) in
          let s₃ : b₃ ≡ put_bytes (back_put a.kind x.second x.used t₀) (slot_put x.first free_slot (slot_put k (fresh 1 (body_of x)) N)) =
          is₃ ∙ (λ i. put_bytes (back_same a.kind x.second x.used (slot_with (net_of b₂) x.used) t₀ same_tuple i) (s₂ i)) in
          let set : p ≡ present_before a.kind n₀.present x.place =
          is-p ∙ ap (λ (l : Localities). present_before a.kind l x.place) (is-present ∙ same_present) in
          let done : b₄ ≡ change_bytes (backward_done a x (slot_with n₀ x.first) (slot_with n₀ x.second) t₀ n₀.present k) N =
          is₄ ∙ (λ i. present_put (set i) (s₃ i)) in
          done ∙
          ap (λ (z : Action). change_bytes (backward_done z x (slot_with n₀ x.first) (slot_with n₀ x.second) t₀ n₀.present k) N) is-a ∙
          ap (λ (y : Slot). change_bytes (backward_done (node_with s₀ y.node) y (slot_with n₀ y.first) (slot_with n₀ y.second) (slot_with n₀ y.used) n₀.present k) N) looked_up

-- ---- the step

module _ (S N : List ℕ) (lent : Lent S N) (script : Bytes S) (net : Bytes N) (r : Request) where
  abbrev s₁ : Script
  s₁ = script_of S

  abbrev n₁ : Net
  n₁ = net_of N

  abbrev shaped : ShapedScript (script_of S)
  shaped = shaped_script S script

  abbrev accepted : Accepted (view (script_of S) (net_of N))
  accepted = lent.good.accepted

  -- a refusal of the checks, served
  refuses : (o : Answer) → is_done o ≡ false → o ≡ backward_answer (script_of S) (net_of N) r → (z : Told) → z ≡ refusal o
      → Serves z N (backward_outcome (script_of S) (net_of N) r) N
  unfolding backward_outcome backward_change
  refuses o h is-o z is-z =
      change_refused S N lent net (backward_change s₁ n₁ r) n₁.present o h
      (stepped_no n₁.present (backward_answer s₁ n₁ r) o is-o (undone_at s₁ n₁ r.key) (refused n₁.present o) h refl) z is-z

  -- each check by the code's test, in the code's order: the slot that was looked up, the request, and what is in the way
  module _ (x : Slot) (is_x : x ≡ slot_with (net_of N) r.key) where
    past_test : is_past ((view (script_of S) (net_of N)).slot r.key.0).kind ≡ eqb x.kind 2
    past_test =
        ap (λ (z : Nets.Slot (rules_of s₁)). is_past z.kind) (view_with s₁ n₁ r.key) ∙ past_is (slot_with n₁ r.key).kind ∙
        ap (λ (y : Slot). eqb y.kind 2) (sym is_x)

    answers_process : eqb x.kind 2 ≡ false → Answer.WrongProcess ≡ backward_answer (script_of S) (net_of N) r
    unfolding backward_answer backward_checks Checks.refusal
    answers_process h = rw (past_test ∙ h)

    pub refuses_process : eqb x.kind 2 ≡ false → (z : Told) → z ≡ refusal Answer.WrongProcess → Serves z N (backward_outcome (script_of S) (net_of N) r) N
    refuses_process h = refuses Answer.WrongProcess refl (answers_process h)

    module _ (p : eqb x.kind 2 ≡ true) where
      past : r.key.0 ∈ events (view (script_of S) (net_of N))
      past = past_test ∙ p

      answers_places : no_places (asked r) ≡ false → Answer.WrongPlaces ≡ backward_answer (script_of S) (net_of N) r
      unfolding backward_answer backward_checks Checks.refusal
      answers_places h = rw (past, h)

      pub refuses_places : no_places (asked r) ≡ false → (z : Told) → z ≡ refusal Answer.WrongPlaces → Serves z N (backward_outcome (script_of S) (net_of N) r) N
      refuses_places h = refuses Answer.WrongPlaces refl (answers_places h)

      pub may_undo : (o : Option Key) → o ≡ way_of (script_of S) (net_of N) r.key → o ≡ None → Undoable (view (script_of S) (net_of N)) r.key.0
      may_undo o is-o e = clear_undoable s₁ shaped n₁ accepted r.key past (sym is-o ∙ e)

      module _ (q : no_places (asked r) ≡ true) (o : Option Key) (is-o : o ≡ way_of (script_of S) (net_of N) r.key) where
        answers_undoing : can_undo (rolled_by (script_of S)) (view (script_of S) (net_of N)) (asked r) ≡ false → Answer.NotUndoable ≡ backward_answer (script_of S) (net_of N) r
        unfolding backward_answer backward_checks Checks.refusal
        answers_undoing h = rw (past, q, h)

        answers_done : can_undo (rolled_by (script_of S)) (view (script_of S) (net_of N)) (asked r) ≡ true → Answer.Done ≡ backward_answer (script_of S) (net_of N) r
        unfolding backward_answer backward_checks Checks.refusal
        answers_done h = rw (past, q, h)

        pub refuses_undoing : (f : Key) → o ≡ Some f → (z : Told) → z ≡ refusal Answer.NotUndoable → Serves z N (backward_outcome (script_of S) (net_of N) r) N
        refuses_undoing f e =
            refuses Answer.NotUndoable refl
            (answers_undoing
            (fails (can_undo (rolled_by s₁) (view s₁ n₁) (asked r))
            (λ h. behind_not s₁ shaped n₁ accepted r.key past f (sym is-o ∙ e) (undo_can (rolled_by s₁) refl (view s₁ n₁) accepted (asked r) past h))))

        pub undoing_served : o ≡ None → (touched : Localities) → touched ≡ (undone_at (script_of S) (net_of N) r.key).touched → (last : List ℕ)
            → last ≡ change_bytes (undone_at (script_of S) (net_of N) r.key) N → Serves (record { answer = Answer.Done; undone = 1; touched = touched }) last (backward_outcome (script_of S) (net_of N) r) N
        unfolding backward_outcome backward_change backward_done
        undoing_served e touched is-touched last is_last =
            change_written S N lent net (backward_change s₁ n₁ r) (undone_at s₁ n₁ r.key) refl
            (stepped_yes n₁.present (backward_answer s₁ n₁ r) Answer.Done (answers_done (can_undo_lem (rolled_by s₁) refl (view s₁ n₁) accepted (asked r) (may_undo o is-o e))) (undone_at s₁ n₁ r.key) (undone_at s₁ n₁ r.key) refl refl)
            (record { answer = Answer.Done; undone = 1; touched = touched }) (λ i. record { answer = Answer.Done; undone = 1; touched = is-touched i }) last is_last
