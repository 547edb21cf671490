-- Why the demands hold of byte strings: each code by itself, and both loops, for `Demands`. Nothing here must be believed.
--
-- In order: a step that is allowed is in range (`can_range`); forward (`forward_when`, `forward_can`, `forward_bytes`, `forward_view`), backward
-- (`backward_when` and its kin), rollback (`rollback_when` and its kin); a slot's bytes (`again_is`); a step and its backward step
-- (`step_back`), a backward step and the same request forward (`back_step`).
-- Assumes nothing.
use Rattle.std.specs.Prelude.{ℕ, ◌+◌, ◌*◌, ◌<◌, ◌≡◌, true, false, List, [], ◌∷◌, eqb, ltb, leb, get_or, drop}
use Rattle.std.proofs.Math.Path.{refl, ap}
use Rattle.std.proofs.Common.{sym, ◌∙◌, subst, arith, get_or-take, get_or-drop, eq-eqb, ltb-true, lt-ltb}
use Rattle.std.proofs.Math.Bool.{not}
use Rattle.laws.specs.Choice.{cases, and_right, and_both}
use Rattle.laws.specs.Lists.{get_d_tab}
use Rattle.order.specs.KeySets.{◌∈◌}
use Rattle.order.specs.Words.{word_of}
use Rattle.names.specs.Names.{key_count, locality_count, none, below_or_none}
use Rattle.images.specs.Head.{byte, part_at}
use Rattle.images.specs.Net as I
use Rattle.images.specs.Net.{net_bytes}
use Rattle.images.specs.Read.{net_of, slot_of}
use Rattle.images.specs.declared.Script.{Script}
use Rattle.images.specs.declared.Net as Images
use Rattle.nets.specs.Rules.{uses, is_newloc, is_split, second_of, is_there}
use Rattle.nets.specs.Net.{is_held, Slot, Net, events}
use Rattle.nets.specs.Rule.{Places}
use Rattle.nets.specs.Forward as Forward
use Rattle.nets.specs.Forward.{done, forward, Can}
use Rattle.nets.specs.Undo as Undo
use Rattle.nets.specs.Undo.{undo, rollback, touched, Undoable}
use Rattle.nets.specs.Accepted.{Accepted}
use Rattle.nets.proofs.Events.{held_below, event_below}
use Rattle.nets.specs.Loops.{again}
use Rattle.nets.proofs.Demands as Nets
use Rattle.rules.specs.Instance.{rules_of, lawful_of}
use Rattle.rules.specs.Roots.{rolled_by}
use Rattle.rules.specs.View.{view, slot_view, view_slot}
use Rattle.rules.specs.Image.{image_of}
use Rattle.rules.specs.Theorems.{forward_then_back, undo_again, back_then_forward}
use Rattle.requests.specs.Checks.{none_fails}
use Rattle.requests.specs.Answers as Theory
use Rattle.requests.specs.Answers.{in_range, no_places, backward_checks, rollback_checks}
use Rattle.requests.specs.Laws.{can_forward, can_undo_lem}
use Rattle.requests.specs.Requests.{asked, asked_by, number, request_of}
use Rattle.step.specs.Lent.{Good}
use Rattle.machine.specs.Calls.{script_in, net_in, Reply, reply}
use Rattle.machine.specs.Called.{net_formed_lem, net_in_lem}
use Rattle.machine.specs.Bytes.{answer_forward, answer_backward, answer_rollback, Held, held_good, held_script, held_net, net_again, doing, done_when, in_range_lem, forward_allowed, backward_allowed, next_bytes, next_held, next_view}

-- a call's answer
abbrev told : List ℕ → List ℕ → List ℕ → ℕ
told S N Q = number (reply S N Q).told.answer

-- ---- requests

-- short for the requests of `Demands`: of a forward step, and one that names a key alone
abbrev step_request : Forward.Request → List ℕ
step_request p = 0 ∷ p.key ∷ p.used ∷ p.first ∷ p.second ∷ p.place ∷ []

abbrev plain_request : ℕ → ℕ → List ℕ
plain_request code k = code ∷ k ∷ 255 ∷ 255 ∷ 255 ∷ 255 ∷ []

below_in : (count b : ℕ) → b < count → below_or_none count b ≡ true
below_in count b h = cases (eqb b none) (λ e. rw e refl) (λ e. rw e (lt-ltb b count h))

none_in : (count b : ℕ) → b ≡ none → below_or_none count b ≡ true
none_in count b h = rw (eq-eqb b none h) refl

-- a step that is allowed names keys and a locality in range
module _ (s : Script) (m : Net (rules_of s)) (ok : Accepted m) (p : Forward.Request) (can : Can m p) where
  abbrev P : Places (done m p)
  P = can.rule.places

  key_below : p.key < key_count
  key_below = held_below m ok p.key (ap is_held can.is_live_lem)

  used_in : below_or_none key_count p.used ≡ true
  used_in =
      cases (uses ((rules_of s).act (m.slot p.key).body)) (λ t. below_in key_count p.used (P.used t))
      (λ t. none_in key_count p.used (P.no_used t))

  second_in : below_or_none key_count p.second ≡ true
  second_in =
      cases (is_there (second_of ((rules_of s).act (m.slot p.key).body))) (λ t. below_in key_count p.second (P.second t))
      (λ t. none_in key_count p.second (P.no_second t))

  place_in : below_or_none locality_count p.place ≡ true
  place_in =
      cases (is_newloc ((rules_of s).act (m.slot p.key).body))
      (λ t. below_in locality_count p.place (ltb-true p.place locality_count (and_right (leb 8 p.place) _ (P.place t))))
      (λ t. none_in locality_count p.place (P.no_place t))

  can_range : in_range (asked_by (step_request p)) ≡ true
  unfolding in_range
  can_range =
      and_both (ltb p.key key_count) _ (lt-ltb p.key key_count key_below)
      (and_both (below_or_none key_count p.used) _ used_in
      (and_both (below_or_none key_count p.first) _ (below_in key_count p.first P.first)
      (and_both (below_or_none key_count p.second) _ second_in place_in)))

-- a request that names a key alone is in range where the key is
plain_range : (code k : ℕ) → leb code 3 ≡ true → k < key_count → in_range (asked_by (plain_request code k)) ≡ true
unfolding in_range
plain_range code k c h = rw (c, lt-ltb k key_count h) refl

plain_none : (code k : ℕ) → no_places (asked_by (plain_request code k)) ≡ true
unfolding no_places
plain_none code k = refl

-- ---- each code

module _ (S N : List ℕ) (h : Held S N) where
  abbrev s : Script
  s = script_in S

  abbrev n : Images.Net
  n = net_in N

  abbrev W : Net (rules_of s)
  W = view s n

  ok : Accepted W
  ok = (held_good S N h).accepted

  -- forward
  module _ (p : Forward.Request) where
    abbrev Q : List ℕ
    Q = step_request p

    pub forward_when : Can W p → told S N Q ≡ 0
    forward_when can =
        let range = can_range s W ok p can in
        done_when S N Q h.script h.net range
        (answer_forward s n (asked (request_of Q)) range refl ∙ can_forward (rolled_by s) refl refl W (asked (request_of Q)) range can)

    module _ (z : told S N Q ≡ 0) where
      pub forward_can : Can W p
      forward_can =
          let d = doing S N Q z in
          forward_allowed s (held_script S N h) n (held_net S N h) (held_good S N h) (request_of Q) (in_range_lem S N Q d.request) refl d.allowed

      pub forward_bytes : (reply S N Q).net ≡ net_bytes (image_of s (forward W p))
      unfolding Theory.net_after
      forward_bytes = next_bytes S N Q h.script_bytes_lem h.net_bytes_lem (doing S N Q z)

      pub forward_held : Held S (reply S N Q).net
      forward_held = next_held S N Q h.script_bytes_lem h.net_bytes_lem (doing S N Q z)

      pub forward_view : view s (net_in (reply S N Q).net) ≡ forward W p
      unfolding Theory.net_after
      forward_view = next_view S N Q h.script_bytes_lem h.net_bytes_lem (doing S N Q z)

  -- backward
  module _ (k : ℕ) where
    abbrev B : List ℕ
    B = plain_request 1 k

    pub backward_when : Undoable W k → told S N B ≡ 0
    unfolding backward_checks
    backward_when u =
        let range = plain_range 1 k refl (event_below W ok k u.is_past_lem) in
        let r = asked (request_of B) in
        done_when S N B h.script h.net range
        (answer_backward s n r range refl refl ∙
        none_fails (backward_checks (rolled_by s) W r) (u.is_past_lem, (plain_none 1 k, (can_undo_lem (rolled_by s) refl W ok r u, tt))))

    module _ (z : told S N B ≡ 0) where
      pub backward_can : Undoable W k
      backward_can =
          let d = doing S N B z in
          backward_allowed s (held_script S N h) n (held_net S N h) (held_good S N h) (request_of B) (in_range_lem S N B d.request) refl refl d.allowed

      pub backward_bytes : (reply S N B).net ≡ net_bytes (image_of s (undo W k))
      unfolding Theory.net_after
      backward_bytes = next_bytes S N B h.script_bytes_lem h.net_bytes_lem (doing S N B z)

      pub backward_held : Held S (reply S N B).net
      backward_held = next_held S N B h.script_bytes_lem h.net_bytes_lem (doing S N B z)

      pub backward_view : view s (net_in (reply S N B).net) ≡ undo W k
      unfolding Theory.net_after
      backward_view = next_view S N B h.script_bytes_lem h.net_bytes_lem (doing S N B z)

      pub backward_touched : (reply S N B).told.touched.0 ≡ word_of locality_count (touched W (undo W k))
      unfolding Theory.touched_word Theory.net_after
      backward_touched = ap (λ (o : Reply). o.told.touched.0) (doing S N B z).replied

  -- rollback
  module _ (e : ℕ) where
    abbrev C : List ℕ
    C = plain_request 2 e

    pub rollback_when : e ∈ events W → is_split ((rules_of s).act (W.slot e).body) ≡ false → told S N C ≡ 0
    unfolding rollback_checks
    rollback_when p q =
        let range = plain_range 2 e refl (event_below W ok e p) in
        let r = asked (request_of C) in
        done_when S N C h.script h.net range
        (answer_rollback s n r range refl refl refl ∙
        none_fails (rollback_checks (rolled_by s) W r) (p, (ap not q, (plain_none 2 e, tt))))

    module _ (z : told S N C ≡ 0) where
      pub rollback_bytes : (reply S N C).net ≡ net_bytes (image_of s (rollback W e))
      unfolding Theory.net_after Theory.event
      rollback_bytes = next_bytes S N C h.script_bytes_lem h.net_bytes_lem (doing S N C z)

      pub rollback_undone : (reply S N C).told.undone ≡ Undo.undone W e
      unfolding Theory.undone Theory.event
      rollback_undone = ap (λ (o : Reply). o.told.undone) (doing S N C z).replied

      pub rollback_touched : (reply S N C).told.touched.0 ≡ word_of locality_count (touched W (rollback W e))
      unfolding Theory.touched_word Theory.net_after Theory.event
      rollback_touched = ap (λ (o : Reply). o.told.touched.0) (doing S N C z).replied

-- ---- a slot's bytes

-- "64 slots of 56 bytes from 16; slot n is key n"
abbrev slot_byte : List ℕ → ℕ → ℕ → ℕ
slot_byte N k j = get_or N (16 + 56 * k + j) 0

-- the request that repeats the event k: "3 and 4 keys made; 5 tuple used; 6 locality made"
abbrev repeated : List ℕ → ℕ → List ℕ
repeated N k = 0 ∷ k ∷ slot_byte N k 5 ∷ slot_byte N k 3 ∷ slot_byte N k 4 ∷ slot_byte N k 6 ∷ []

part_byte : (N : List ℕ) (k j : ℕ) → j < 56 → byte (part_at 56 N k) j ≡ slot_byte N k j
part_byte N k j l = get_or-take 56 (drop (16 + 56 * k) N) j 0 l ∙ get_or-drop (16 + 56 * k) N j 0

module _ (S N : List ℕ) (h : Held S N) (k : ℕ) (l : k < key_count) where
  slot_is : (view (script_in S) (net_in N)).slot k ≡ slot_view (script_in S) (slot_of (part_at 56 N k))
  unfolding net_of
  slot_is =
      view_slot (script_in S) (net_in N) k l ∙
      ap (λ (n : Images.Net). slot_view (script_in S) (I.slot_at n k)) (net_in_lem N (net_formed_lem N (script_in S) h.net)) ∙
      ap (slot_view (script_in S)) (get_d_tab key_count (λ i. slot_of (part_at 56 N i)) k I.slot0 l)

  -- it is the request that the theory repeats
  again_is : step_request (again (view (script_in S) (net_in N)) k) ≡ repeated N k
  unfolding slot_of
  again_is =
      ap (λ (x : Slot (rules_of (script_in S))). 0 ∷ k ∷ x.used ∷ x.first ∷ x.second ∷ x.place ∷ []) slot_is ∙
      (λ i.
      0 ∷ k ∷ part_byte N k 5 (omega arith) i ∷ part_byte N k 3 (omega arith) i ∷ part_byte N k 4 (omega arith) i ∷
      part_byte N k 6 (omega arith) i ∷ [])

-- ---- both loops

module _ (S N : List ℕ) (h : Held S N) where
  abbrev theory : Net (rules_of (script_in S))
  theory = view (script_in S) (net_in N)

  good : Good (script_in S) (net_in N)
  good = held_good S N h

  -- the bytes of the image of this net
  abbrev bytes : Net (rules_of (script_in S)) → List ℕ
  bytes m = net_bytes (image_of (script_in S) m)

  home : bytes theory ≡ N
  home = net_again (script_in S) N h.net_bytes_lem h.net

  -- "A step and its backward step restore every byte"
  module _ (p : Forward.Request) (z : told S N (step_request p) ≡ 0) where
    abbrev N₁ : List ℕ
    N₁ = (reply S N (step_request p)).net

    h₁ : Held S N₁
    h₁ = forward_held S N h p z

    pub step_back_done : told S N₁ (plain_request 1 p.key) ≡ 0
    step_back_done =
        backward_when S N₁ h₁ p.key
        (subst (λ (m : Net (rules_of (script_in S))). Undoable m p.key) (sym (forward_view S N h p z))
        (Nets.forward_undoable (lawful_of (script_in S) (held_script S N h) good.script) theory good.accepted p (forward_can S N h p z)))

    pub step_back : (reply S N₁ (plain_request 1 p.key)).net ≡ N
    step_back =
        backward_bytes S N₁ h₁ p.key step_back_done ∙
        ap (λ (m : Net (rules_of (script_in S))). bytes (undo m p.key)) (forward_view S N h p z) ∙
        ap bytes (forward_then_back (script_in S) (held_script S N h) good.script theory good.accepted p (forward_can S N h p z)) ∙ home

  -- "a backward step and the same request forward do too"
  module _ (k : ℕ) (z : told S N (plain_request 1 k) ≡ 0) where
    abbrev N₂ : List ℕ
    N₂ = (reply S N (plain_request 1 k)).net

    h₂ : Held S N₂
    h₂ = backward_held S N h k z

    u : Undoable theory k
    u = backward_can S N h k z

    same : step_request (again theory k) ≡ repeated N k
    same = again_is S N h k (event_below theory good.accepted k u.is_past_lem)

    again_done : told S N₂ (step_request (again theory k)) ≡ 0
    again_done =
        forward_when S N₂ h₂ (again theory k)
        (subst (λ (m : Net (rules_of (script_in S))). Can m (again theory k)) (sym (backward_view S N h k z))
        (undo_again (script_in S) (held_script S N h) good.script theory good.accepted k u))

    again_bytes : (reply S N₂ (step_request (again theory k))).net ≡ N
    again_bytes =
        forward_bytes S N₂ h₂ (again theory k) again_done ∙
        ap (λ (m : Net (rules_of (script_in S))). bytes (forward m (again theory k))) (backward_view S N h k z) ∙
        ap bytes (back_then_forward (script_in S) (held_script S N h) good.script theory good.accepted k u) ∙ home

    pub back_step_done : told S N₂ (repeated N k) ≡ 0
    back_step_done = subst (λ (q : List ℕ). told S N₂ q ≡ 0) same again_done

    pub back_step : (reply S N₂ (repeated N k)).net ≡ N
    back_step = subst (λ (q : List ℕ). (reply S N₂ q).net ≡ N) same again_bytes
