-- The three demands, of byte strings in and out: for each demand its relations and its statement, and at the end that all three are met.
--
-- S is a script, N a net and Q a request, each any list of numbers; `Bytes` says that each number is below 256. `reply S N Q` (`Calls`) is what
-- the machine replies: what it tells (answer, undone, touched), and the bytes of the net after the call.
--
-- In order: what is said of a call (`answer`, `Done`, `bytes_after`, `undone`, `touched`) and of images (`Images`, `view_in`); demand 1 (`call_checks`,
-- `Demand1`); demand 2 (`forward_request`, `backward_request`, `repeat_request`, `image_in`, `After`, `Demand2`); demand 3 (`rollback_request`, `Undoes`,
-- `events_in`, `dependents_in`, `is_split_in`, `UndoesAll`, `touched_by`, `Demand3`). Then the proofs: `demand_1`, `demand_2`, steps in a row on bytes and in
-- the theory (`steps_there`, `steps_here`, `steps_touched`), `demand_3`; and of every call, how many it undoes (`undone_few`).
-- Assumes nothing.
use Rattle.std.specs.Prelude.{ℕ, ◌+◌, ◌*◌, ◌≤◌, ◌≡◌, ◌↔◌, Bool, true, false, ◌&&◌, List, [], ◌∷◌, eqb, length, get_or}
use Rattle.std.proofs.Math.Path.{refl, ap, ap₂}
use Rattle.std.proofs.Common.{sym, ◌∙◌, subst, arith, eqb-true}
use Rattle.std.proofs.lemmas.Bool.{eqb-false}
use Rattle.laws.specs.Choice.{pick, cases}
use Rattle.laws.specs.Sets.{member}
use Rattle.laws.specs.Words.{Bytes}
use Rattle.order.specs.KeySets.{Set, ◌∈◌, ◌∉◌, ◌⊆◌, ◌∪◌, empty, members}
use Rattle.order.specs.Words.{word_of}
use Rattle.names.specs.Names.{locality_count}
use Rattle.images.specs.Net.{net_bytes}
use Rattle.nets.specs.Rules.{is_split}
use Rattle.nets.specs.Net.{Net, events, dependents}
use Rattle.nets.specs.Forward as Forward
use Rattle.nets.specs.Forward.{forward, Can}
use Rattle.nets.specs.Rollback.{AnyOrder}
use Rattle.nets.specs.Undo as Nets
use Rattle.nets.specs.Undo.{undo, Undoable}
use Rattle.rules.specs.Instance.{rules_of}
use Rattle.rules.specs.Roots.{rolled_by}
use Rattle.rules.specs.View.{view}
use Rattle.rules.specs.Image.{image_of}
use Rattle.rules.specs.Theorems.{any_order}
use Rattle.requests.specs.Checks.{Check, check, refusal, Hold, Numbered, FirstFails, refused_iff, all_hold, none_fails}
use Rattle.requests.specs.Answers as Theory
use Rattle.requests.specs.Answers.{Request, in_range, net_after, forward_checks, backward_checks, rollback_checks, roll_checks}
use Rattle.requests.specs.Requests.{asked_by, number, answers, is_number, number_listed, request_of}
use Rattle.machine.specs.Calls.{script_in, net_in, good_script, good_net, reply}
use Rattle.machine.specs.Bytes as Why
use Rattle.machine.specs.Bytes.{Held}
use Rattle.machine.specs.Codes as Codes

-- ---- what is said of a call, and of images

-- document 01's number of the answer
abbrev pub answer : (S N Q : List ℕ) → ℕ
answer S N Q = number (reply S N Q).told.answer

-- "0: done"
abbrev pub Done : (S N Q : List ℕ) → Type 0
Done S N Q = answer S N Q ≡ 0

abbrev pub bytes_after : (S N Q : List ℕ) → List ℕ
bytes_after S N Q = (reply S N Q).net

abbrev pub undone : (S N Q : List ℕ) → ℕ
undone S N Q = (reply S N Q).told.undone

-- "a 32-bit set": bit n is locality n
abbrev pub touched : (S N Q : List ℕ) → Set
touched S N Q = member (reply S N Q).told.touched.0

-- the script has its length and form, and the net is accepted
abbrev pub Images : (S N : List ℕ) → Type 0
Images S N = (good_script S ≡ true) × (good_net (script_in S) N ≡ true)

-- the net that the bytes hold, as the rules speak of it
abbrev pub view_in : (S N : List ℕ) → Net (rules_of (script_in S))
view_in S N = view (script_in S) (net_in N)

-- ==== Demand 1
-- "Script, net and request may be any byte strings. Every call ends and gives one answer from document 01's list, in its order of checks. A refusal
-- leaves every byte of the net as found and reports nothing undone and nothing touched."

-- 3: "request not 6 bytes; code above 3; key above 63; others neither 255 nor in range"
abbrev pub good_request : List ℕ → Bool
good_request Q = eqb (length Q) 6 && in_range (asked_by Q)

-- 4 to 12, by the code: "0 forward, 1 backward, 2 rollback of the named event, 3 roll by the named live process"
abbrev pub code_checks : (S N : List ℕ) → Request → List Check
code_checks S N r =
    let rolled = rolled_by (script_in S) in
    let n = view_in S N in
    pick (eqb r.code 0) (forward_checks rolled n r)
    (pick (eqb r.code 1) (backward_checks rolled n r) (pick (eqb r.code 2) (rollback_checks rolled n r) (roll_checks rolled n r)))

-- "Checks run in number order": 1 "script's length or form", 2 "net not accepted", 3, and those of the code
abbrev pub call_checks : (S N Q : List ℕ) → List Check
call_checks S N Q =
    check 1 (good_script S) ∷ check 2 (good_net (script_in S) N) ∷ check 3 (good_request Q) ∷ code_checks S N (asked_by Q)

-- "Every call ends": `reply` is a function of the three byte strings.
pub record Demand1 (S N Q : List ℕ) : Type 0 where
  -- "gives one answer from document 01's list, in its order of checks": the number of the first check that does not hold, 0 where all do
  pub answer_listed : is_number (answer S N Q) answers ≡ true
  pub answer_first : answer S N Q ≡ refusal (call_checks S N Q)
  -- "given exactly when": done where all checks hold, and i where check i does not hold and all before it do
  pub done_when : Done S N Q ↔ Hold (call_checks S N Q)
  pub refused_when : (i : ℕ) → (i ≡ 0 → ⊥) → (answer S N Q ≡ i) ↔ FirstFails (call_checks S N Q) i
  -- "A refusal leaves every byte of the net as found and reports nothing undone and nothing touched."
  pub refusal_leaves : (Done S N Q → ⊥) → (bytes_after S N Q ≡ N) × (undone S N Q ≡ 0) × ((reply S N Q).told.touched.0 ≡ 0)

-- ==== Demand 2
-- "A forward or backward step gives exactly the net that the published reversible Klaim rules, as document 01 reads them, give for that request. A
-- step and its backward step restore every byte; a backward step and the same request forward do too."
-- `Can` and `forward`, `Undoable` and `undo` (`nets`) are the rules; that they are those of 004's Tables VII and X is in `tables`, and of these calls in `published`.

-- "Six bytes: code, key, tuple key, first and second fresh key, fresh locality", with code 0; and with code 1, which needs none but the key
abbrev pub forward_request : Forward.Request → List ℕ
forward_request p = 0 ∷ p.key ∷ p.used ∷ p.first ∷ p.second ∷ p.place ∷ []

abbrev pub backward_request : ℕ → List ℕ
backward_request k = 1 ∷ k ∷ 255 ∷ 255 ∷ 255 ∷ 255 ∷ []

-- "64 slots of 56 bytes from 16; slot n is key n"; "3 and 4 keys made; 5 tuple used; 6 locality made": the request that repeats the event k of N
abbrev pub slot_byte : List ℕ → ℕ → ℕ → ℕ
slot_byte N k j = get_or N (16 + 56 * k + j) 0

abbrev pub repeat_request : List ℕ → ℕ → List ℕ
repeat_request N k = 0 ∷ k ∷ slot_byte N k 5 ∷ slot_byte N k 3 ∷ slot_byte N k 4 ∷ slot_byte N k 6 ∷ []

-- a net of the rules in bytes
abbrev pub image_in : (S : List ℕ) → Net (rules_of (script_in S)) → List ℕ
image_in S m = net_bytes (image_of (script_in S) m)

-- what a call that is done leaves: bytes, an accepted net, and it is the net that the rules give
pub record After (S N Q : List ℕ) : Type 0 where
  pub bytes : Bytes (bytes_after S N Q)
  pub images : Images S (bytes_after S N Q)
  pub viewed : view_in S (bytes_after S N Q) ≡ net_after (rolled_by (script_in S)) (view_in S N) (asked_by Q)

pub record Demand2 (S N : List ℕ) : Type 0 where
  -- "A forward or backward step gives exactly the net that the .. rules .. give for that request": done exactly when the rule applies, and then
  -- with its net
  pub forward_exactly : Images S N → (p : Forward.Request) → Done S N (forward_request p) ↔ Can (view_in S N) p
  pub forward_gives : (p : Forward.Request) → Done S N (forward_request p) → bytes_after S N (forward_request p) ≡ image_in S (forward (view_in S N) p)
  pub backward_exactly : Images S N → (k : ℕ) → Done S N (backward_request k) ↔ Undoable (view_in S N) k
  pub backward_gives : (k : ℕ) → Done S N (backward_request k) → bytes_after S N (backward_request k) ≡ image_in S (undo (view_in S N) k)
  -- whatever is done, of any code, leaves images
  pub done_images : (Q : List ℕ) → Done S N Q → After S N Q
  -- "A step and its backward step restore every byte"
  pub step_then_back : (p : Forward.Request) → Done S N (forward_request p)
      → Done S (bytes_after S N (forward_request p)) (backward_request p.key)
      × (bytes_after S (bytes_after S N (forward_request p)) (backward_request p.key) ≡ N)
  -- "a backward step and the same request forward do too"
  pub back_then_step : (k : ℕ) → Done S N (backward_request k)
      → Done S (bytes_after S N (backward_request k)) (repeat_request N k)
      × (bytes_after S (bytes_after S N (backward_request k)) (repeat_request N k) ≡ N)

-- ==== Demand 3
-- "Take any accepted net and any finished action in it but a split. Undo the steps that depend on it, itself included, by single backward steps,
-- choosing any allowed one each time. This never sticks, always takes the same count, and ends in the same bytes, which are what one rollback
-- gives and reports. No list of backward steps alone that undoes the action can leave out any of them."

abbrev pub rollback_request : ℕ → List ℕ
rollback_request e = 2 ∷ e ∷ 255 ∷ 255 ∷ 255 ∷ 255 ∷ []

-- "single backward steps, choosing any allowed one each time": of the keys ks, in this order, each done, from the bytes N to the bytes M
pub data Undoes (S : List ℕ) : List ℕ → List ℕ → List ℕ → Type 0 where
  stay : {N : List ℕ} → Undoes S N [] N
  back : {N M : List ℕ} {x : ℕ} {ks : List ℕ} → Done S N (backward_request x) → Undoes S (bytes_after S N (backward_request x)) ks M → Undoes S N (x ∷ ks) M

-- "finished action": a past process
abbrev pub events_in : (S N : List ℕ) → Set
events_in S N = events (view_in S N)

-- "the steps that depend on it, itself included"
abbrev pub dependents_in : (S N : List ℕ) → ℕ → Set
dependents_in S N e = dependents (view_in S N) e

abbrev pub is_split_in : (S N : List ℕ) → ℕ → Bool
is_split_in S N e = is_split ((rules_of (script_in S)).act ((view_in S N).slot e).body)

-- they undo dependents of e alone, and all of them
pub record UndoesAll (S N : List ℕ) (e : ℕ) (ks M : List ℕ) : Type 0 where
  pub undoes : Undoes S N ks M
  pub inside : members ks ⊆ dependents_in S N e
  pub none : (f : ℕ) → f ∈ dependents_in S N e → f ∉ events_in S M

-- what each of the steps touches, together
abbrev pub touched_by : (S N ks : List ℕ) → Set
touched_by S N [] = empty
touched_by S N (x ∷ ks) = touched S N (backward_request x) ∪ touched_by S (bytes_after S N (backward_request x)) ks

pub record Demand3 (S N : List ℕ) (e : ℕ) : Type 0 where
  -- "This never sticks": whatever was undone, while a dependent is past, a backward step of one of them is done
  pub never_sticks : (ks M : List ℕ) → Undoes S N ks M → (f : ℕ) → f ∈ dependents_in S N e → f ∈ events_in S M
      → (x : ℕ) × (x ∈ dependents_in S N e) × Done S M (backward_request x)
  -- so all of them can be undone
  pub possible : (ks : List ℕ) × (M : List ℕ) × UndoesAll S N e ks M
  -- "always takes the same count, and ends in the same bytes, which are what one rollback gives and reports"
  pub rollback_done : Done S N (rollback_request e)
  pub same_count : (ks M : List ℕ) → UndoesAll S N e ks M → length ks ≡ undone S N (rollback_request e)
  pub same_bytes : (ks M : List ℕ) → UndoesAll S N e ks M → M ≡ bytes_after S N (rollback_request e)
  pub same_touched : (ks M : List ℕ) → UndoesAll S N e ks M → touched_by S N ks ≡ touched S N (rollback_request e)
  -- "No list of backward steps alone that undoes the action can leave out any of them."
  pub none_left_out : (ks M : List ℕ) → Undoes S N ks M → e ∈ members ks → dependents_in S N e ⊆ members ks
  -- document 01: "*Undone* is their number, at most 63."
  pub few : undone S N (rollback_request e) ≤ 63

-- ==== Proofs

-- ---- demand 1

module _ (S N Q : List ℕ) where
  abbrev r : Request
  r = asked_by Q

  -- check 3 holds, so the theory's answer is the first of the code's checks that does not
  code_answer : in_range r ≡ true → Theory.answer (rolled_by (script_in S)) (view_in S N) r ≡ refusal (code_checks S N r)
  unfolding Theory.answer Theory.checks_of refusal
  code_answer h = rw h refl

  first : answer S N Q ≡ refusal (call_checks S N Q)
  unfolding refusal
  first = each (Why.call S N Q)
    where
      each : Why.Call S N Q → answer S N Q ≡ refusal (call_checks S N Q)
      each (Why.bad_script_lem g e) = Why.told_as S N Q _ e ∙ rw g refl
      each (Why.bad_net_lem g h e) = Why.told_as S N Q _ e ∙ rw (g, h) refl
      each (Why.bad_request g h k e) = Why.told_as S N Q _ e ∙ rw (g, h, k) refl
      each (Why.all_read g h k e) =
          let range = Why.in_range_lem S N Q k in
          Why.told_as S N Q _ e ∙ Why.served_number (script_in S) (net_in N) (request_of Q) ∙ code_answer range ∙ rw (g, h, k) refl

  -- no check has the number 0
  code_numbered : Numbered (code_checks S N r)
  code_numbered =
      cases (eqb r.code 0) (λ a. rw a (Why.forward_numbered (script_in S) (net_in N) r))
      (λ a. cases (eqb r.code 1) (λ b. rw (a, b) (Why.backward_numbered (script_in S) (net_in N) r))
      (λ b. cases (eqb r.code 2) (λ c. rw (a, b, c) (Why.rollback_numbered (script_in S) (net_in N) r)) (λ c. rw (a, b, c) (Why.roll_numbered (script_in S) (net_in N) r))))

  all_numbered : Numbered (call_checks S N Q)
  all_numbered = (λ e. omega arith, (λ e. omega arith, (λ e. omega arith, code_numbered)))

  -- of any lists of numbers, bytes or not
  pub demand_1 : Demand1 S N Q
  demand_1 =
      record {
        answer_listed = number_listed (reply S N Q).told.answer;
        answer_first = first;
        done_when = (λ d. all_hold (call_checks S N Q) all_numbered (sym first ∙ d), λ h. first ∙ none_fails (call_checks S N Q) h);
        refused_when =
            λ i some.
            let iff = refused_iff (call_checks S N Q) i some in
            (λ e. iff.0 (sym first ∙ e), λ o. first ∙ iff.1 o);
        refusal_leaves = λ some. let w = Why.left S N Q some in (w.net, w.undone, w.touched);
      }

-- ---- demand 2

module _ (S N : List ℕ) (bS : Bytes S) (bN : Bytes N) where
  images_held : Images S N → Held S N
  images_held i = record { script_bytes_lem = bS; net_bytes_lem = bN; script = i.0; net = i.1 }

  -- a call that is done had good images
  done_held : (Q : List ℕ) → Done S N Q → Held S N
  done_held Q z = Why.doing_held S N Q bS bN (Why.doing S N Q z)

  after : (Q : List ℕ) → Done S N Q → After S N Q
  after Q z =
      let d = Why.doing S N Q z in
      let h = Why.next_held S N Q bS bN d in
      record { bytes = h.net_bytes_lem; images = (h.script, h.net); viewed = Why.next_view S N Q bS bN d }

  pub demand_2 : Demand2 S N
  demand_2 =
      record {
        forward_exactly = λ i p. let h = images_held i in (Codes.forward_can S N h p, Codes.forward_when S N h p);
        forward_gives = λ p z. Codes.forward_bytes S N (done_held (forward_request p) z) p z;
        backward_exactly = λ i k. let h = images_held i in (Codes.backward_can S N h k, Codes.backward_when S N h k);
        backward_gives = λ k z. Codes.backward_bytes S N (done_held (backward_request k) z) k z;
        done_images = after;
        step_then_back = λ p z. let h = done_held (forward_request p) z in (Codes.step_back_done S N h p z, Codes.step_back S N h p z);
        back_then_step = λ k z. let h = done_held (backward_request k) z in (Codes.back_step_done S N h k z, Codes.back_step S N h k z);
      }

-- ---- demand 3

-- a net of the script's rules
abbrev NetOf : List ℕ → Type 0
NetOf S = Net (rules_of (script_in S))

module _ (S : List ℕ) where
  -- each step leaves good images
  steps_held : {N M ks : List ℕ} → Held S N → Undoes S N ks M → Held S M
  steps_held h stay = h
  steps_held {N = N} h (back {x = x} d r) = steps_held (Codes.backward_held S N h x d) r

  -- steps on bytes are steps of the theory
  steps_there : {N M ks : List ℕ} → Held S N → Undoes S N ks M → Nets.Undoes (view_in S N) ks (view_in S M)
  steps_there h stay = Nets.stay
  steps_there {N = N} {M = M} h (back {x = x} {ks = ks} d r) =
      Nets.back (Codes.backward_can S N h x d)
      (subst (λ (m : NetOf S). Nets.Undoes m ks (view_in S M)) (Codes.backward_view S N h x d) (steps_there (Codes.backward_held S N h x d) r))

  -- and the other way round
  steps_here : {a b : NetOf S} {ks : List ℕ} → Nets.Undoes a ks b → (N : List ℕ) → Held S N → view_in S N ≡ a → (M : List ℕ) × Undoes S N ks M × (view_in S M ≡ b)
  steps_here Nets.stay N h e = (N, stay, e)
  steps_here (Nets.back {x = x} u r) N h e =
      let d : Done S N (backward_request x) = Codes.backward_when S N h x (subst (λ (m : NetOf S). Undoable m x) (sym e) u) in
      let (M, q, end) =
      steps_here r (bytes_after S N (backward_request x)) (Codes.backward_held S N h x d) (Codes.backward_view S N h x d ∙ ap (λ (m : NetOf S). undo m x) e) in
      (M, back d q, end)

  -- what they touch together
  steps_touched : {N M ks : List ℕ} → Held S N → Undoes S N ks M → touched_by S N ks ≡ member (word_of locality_count (Nets.touched_by (view_in S N) ks))
  unfolding Nets.touched_by
  steps_touched h stay = Why.word_none locality_count
  steps_touched {N = N} h (back {x = x} {ks = ks} d r) =
      ap₂ (λ (A B : Set). A ∪ B) (ap member (Codes.backward_touched S N h x d))
      (steps_touched (Codes.backward_held S N h x d) r ∙
      ap (λ (m : NetOf S). member (word_of locality_count (Nets.touched_by m ks))) (Codes.backward_view S N h x d)) ∙
      Why.word_union locality_count (Nets.touched (view_in S N) (undo (view_in S N) x)) (Nets.touched_by (undo (view_in S N) x) ks)

module _ (S N : List ℕ) (bS : Bytes S) (bN : Bytes N) (i : Images S N) (e : ℕ) (past : e ∈ events_in S N) (whole : is_split_in S N e ≡ false) where
  h : Held S N
  h = images_held S N bS bN i

  done : Done S N (rollback_request e)
  done = Codes.rollback_when S N h e past whole

  -- demand 3 of the theory
  order : AnyOrder (view_in S N) e
  order =
      let good = Why.held_good S N h in
      any_order (script_in S) (Why.held_script S N h) good.script (view_in S N) good.accepted e past

  all_there : {ks M : List ℕ} → UndoesAll S N e ks M → Nets.UndoesAll (view_in S N) (dependents_in S N e) ks (view_in S M)
  all_there w = record { undoes = steps_there S h w.undoes; inside = w.inside; none = w.none }

  all_here : (ks : List ℕ) × (m : NetOf S) × Nets.UndoesAll (view_in S N) (dependents_in S N e) ks m → (ks : List ℕ) × (M : List ℕ) × UndoesAll S N e ks M
  all_here (ks, m, w) =
      let (M, q, end) = steps_here S w.undoes N h refl in
      (ks, M, record { undoes = q; inside = w.inside; none = λ f d. ap (λ (a : NetOf S). events a f) end ∙ w.none f d })

  ends : (ks M : List ℕ) → UndoesAll S N e ks M → M ≡ bytes_after S N (rollback_request e)
  ends ks M w =
      let g = steps_held S h w.undoes in
      sym (Why.net_again (script_in S) M g.net_bytes_lem g.net) ∙
      ap (λ (m : NetOf S). image_in S m) (order.same_end ks (view_in S M) (all_there w)) ∙ sym (Codes.rollback_bytes S N h e done)

  touches : (ks M : List ℕ) → UndoesAll S N e ks M → touched_by S N ks ≡ touched S N (rollback_request e)
  touches ks M w =
      steps_touched S h w.undoes ∙
      ap (λ (T : Set). member (word_of locality_count T)) (order.same_touched ks (view_in S M) (all_there w)) ∙
      ap member (sym (Codes.rollback_touched S N h e done))

  pub demand_3 : Demand3 S N e
  demand_3 =
      record {
        never_sticks =
            λ ks M q f d left.
            let (x, m, u) = order.never_sticks ks (view_in S M) (steps_there S h q) f d left in
            (x, m, Codes.backward_when S M (steps_held S h q) x u);
        possible = all_here order.possible;
        rollback_done = done;
        same_count = λ ks M w. order.same_count ks (view_in S M) (all_there w) ∙ sym (Codes.rollback_undone S N h e done);
        same_bytes = ends;
        same_touched = touches;
        none_left_out = λ ks M q. order.none_left_out ks (view_in S M) (steps_there S h q);
        few = Why.next_undone S N (rollback_request e) bS bN (Why.doing S N (rollback_request e) done);
      }

-- "*Undone* is their number, at most 63": of any call
pub undone_few : (S N Q : List ℕ) → Bytes S → Bytes N → undone S N Q ≤ 63
undone_few S N Q bS bN =
    cases (eqb (answer S N Q) 0) (λ t. Why.next_undone S N Q bS bN (Why.doing S N Q (eqb-true (answer S N Q) 0 t)))
    (λ t. omega (arith, (Why.left S N Q (eqb-false (answer S N Q) 0 t)).undone))
