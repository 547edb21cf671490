-- Calls on bytes in a row, and the law that they are the theory's: no byte is computed.
--
-- In order: the six bytes of a request (`request_bytes`), what a reply tells (`result_in`), calls in a row (`run_bytes`, `end_bytes`); the theory's
-- requests in a row under any script (`run_on`, `end_on`), and a net's bytes (`image_bytes`); a reply that is an outcome's (`Follows`). Then the proofs: the
-- theory's outcome, out of range, done and refused (`outcome_bad`, `outcome_done`, `outcome_refused`); the images are read (`script_in_lem`, `net_in_lem`); the reply
-- to each (`bad_follows`, `done_follows`, `refused_follows`), and so to one call (`one_call`); calls in a row (`run_on_bytes`, `end_on_bytes`), after which
-- the net is again one that an image holds (`end_kept`).
-- Assumes nothing.
use Rattle.std.specs.Prelude.{ℕ, ◌≡◌, true, eqb, Option, Some, is_some, unwrap_or}
use Rattle.std.proofs.Math.Path.{refl, ap, ap₂, subst}
use Rattle.std.proofs.Common.{sym, ◌∙◌}
use Rattle.std.proofs.Math.Bool.{false}
use mathlib.Core.List.{List, [], ◌∷◌}
use borrow.Author.Tests.{eqb-true}
use Rattle.laws.specs.Choice.{cases, clash, and_both}
use Rattle.images.specs.Script.{script_bytes, script_in_range}
use Rattle.images.specs.Net.{net_bytes, empty_net}
use Rattle.images.specs.Read.{nil_script, read_script, read_net}
use Rattle.images.specs.Round.{script_again, script_formed_lem, net_again, net_formed_lem}
use Rattle.images.specs.Shape.{ShapedScript}
use Rattle.images.specs.declared.Script.{Script}
use Rattle.images.specs.declared.Net as Images
use Rattle.nets.specs.Net.{Net}
use Rattle.nets.specs.Accepted.{Accepted}
use Rattle.rules.specs.Instance.{rules_of}
use Rattle.rules.specs.Roots.{rolled_by}
use Rattle.rules.specs.Same.{accepted_is_tested}
use Rattle.rules.specs.View.{view, beyond}
use Rattle.rules.specs.Image.{image_of}
use Rattle.requests.specs.Checks.{refusal}
use Rattle.requests.specs.Answers as Theory
use Rattle.requests.specs.Answers.{Request, Outcome, in_range, outcome}
use Rattle.requests.specs.Requests.{number, is_done, answer_of, done_number, request_of}
use Rattle.requests.specs.declared.Answer.{Answer}
use Rattle.step.specs.Lent.{Good, told, lent_after}
use Rattle.machine.specs.Calls.{script_in, net_in, good_script, good_net, told_by, Reply, refused_with, reply_to, reply}
use Rattle.machine.specs.After.{Kept}
use Rattle.machine.specs.Bytes.{served_number, Call, bad_script_lem, bad_net_lem, bad_request, all_read, call, after_kept}
use Rattle.cases.specs.Table.{Result, line}

-- ---- calls on bytes

-- "Six bytes: code, key, tuple key, first and second fresh key, fresh locality."
abbrev pub request_bytes : Request → List ℕ
request_bytes r = r.code ∷ r.key ∷ r.used ∷ r.first ∷ r.second ∷ r.place ∷ []

abbrev pub requests_bytes : List Request → List (List ℕ)
requests_bytes [] = []
requests_bytes (r ∷ rs) = request_bytes r ∷ requests_bytes rs

-- answer by its number, undone, and touched as a word
abbrev pub result_in : Reply → Result
result_in a = line (number a.told.answer) a.told.undone a.told.touched.0

-- the calls in turn, each on the bytes that the one before it left: what each replies, and the bytes at the end
unfoldable pub run_bytes : (S N : List ℕ) → List (List ℕ) → List Result
run_bytes S N [] = []
run_bytes S N (Q ∷ Qs) = result_in (reply S N Q) ∷ run_bytes S (reply S N Q).net Qs

unfoldable pub end_bytes : (S N : List ℕ) → List (List ℕ) → List ℕ
end_bytes S N [] = N
end_bytes S N (Q ∷ Qs) = end_bytes S (reply S N Q).net Qs

-- ---- the theory's, under any script

module _ (s : Script) where
  abbrev pub result_on : Outcome (rules_of s) → Result
  result_on o = line o.answer o.undone o.touched

  unfoldable pub run_on : Net (rules_of s) → List Request → List Result
  run_on m [] = []
  run_on m (r ∷ rs) = result_on (outcome (rolled_by s) m r) ∷ run_on (outcome (rolled_by s) m r).net rs

  unfoldable pub end_on : Net (rules_of s) → List Request → Net (rules_of s)
  end_on m [] = m
  end_on m (r ∷ rs) = end_on (outcome (rolled_by s) m r).net rs

  -- the bytes of a net
  abbrev pub image_bytes : Net (rules_of s) → List ℕ
  image_bytes m = net_bytes (image_of s m)

-- a reply has the answer, undone, touched and net of an outcome, and an image holds the net
pub record Follows (s : Script) (o : Outcome (rules_of s)) (a : Reply) : Type 0 where
  pub answer : number a.told.answer ≡ o.answer
  pub undone : a.told.undone ≡ o.undone
  pub touched : a.told.touched.0 ≡ o.touched
  pub net : a.net ≡ image_bytes s o.net
  pub kept : Kept s o.net

-- ---- what the theory says

-- "any refusal leaves the net, with undone 0 and touched 0"
abbrev refused_there : (s : Script) → Net (rules_of s) → ℕ → Outcome (rules_of s)
refused_there s m k = record { answer = k; undone = 0; touched = 0; net = m }

module _ (s : Script) (m : Net (rules_of s)) (r : Request) where
  abbrev answer_there : ℕ
  answer_there = Theory.answer (rolled_by s) m r

  abbrev done_there : Outcome (rules_of s)
  done_there =
      record { answer = 0; undone = Theory.undone (rolled_by s) m r; touched = Theory.touched_word (rolled_by s) m r; net = Theory.net_after (rolled_by s) m r }

  -- check 3 is the first
  outcome_bad : in_range r ≡ false → outcome (rolled_by s) m r ≡ refused_there s m 3
  unfolding outcome Theory.answer Theory.checks_of refusal
  outcome_bad h = rw h refl

  outcome_done : eqb answer_there 0 ≡ true → outcome (rolled_by s) m r ≡ done_there
  unfolding outcome
  outcome_done h = rw h refl

  outcome_refused : eqb answer_there 0 ≡ false → outcome (rolled_by s) m r ≡ refused_there s m answer_there
  unfolding outcome
  outcome_refused h = rw h refl

-- ---- one call

module _ (s : Script) (w : ShapedScript s) (range : script_in_range s ≡ true) where
  script_in_lem : read_script (script_bytes s) ≡ Some s
  unfolding read_script
  script_in_lem = rw (script_formed_lem s w range, script_again s w range)

  script_good : good_script (script_bytes s) ≡ true
  script_good = ap (λ (x : Option Script). is_some x) script_in_lem

  module _ (m : Net (rules_of s)) (k : Kept s m) where
    abbrev N : List ℕ
    N = image_bytes s m

    net_in_lem : read_net N ≡ Some (image_of s m)
    unfolding read_net
    net_in_lem = rw (net_formed_lem (image_of s m) k.shaped k.range, net_again (image_of s m) k.shaped k.range)

    seen : view s (net_in N) ≡ m
    seen = ap (λ (a : Option Images.Net). view s (unwrap_or a empty_net)) net_in_lem ∙ k.viewed

    net_held : good_net s N ≡ true
    unfolding good_net
    net_held =
        and_both (is_some (read_net N)) _ (ap (λ (a : Option Images.Net). is_some a) net_in_lem)
        ((accepted_is_tested s (view s (net_in N)) (beyond s (net_in N))).1 (subst Accepted (sym seen) k.accepted))

    net_good : good_net (script_in (script_bytes s)) N ≡ true
    net_good = ap (λ (x : Option Script). good_net (unwrap_or x nil_script) N) script_in_lem ∙ net_held

    good : Good s (image_of s m)
    good = record { script = range; net = k.range; accepted = subst Accepted (sym k.viewed) k.accepted }

    module _ (r : Request) where
      abbrev o : Outcome (rules_of s)
      o = outcome (rolled_by s) m r

      abbrev a : Reply
      a = reply (script_bytes s) N (request_bytes r)

      -- what is replied to a request in range whose outcome is this
      abbrev reply_by : Outcome (rules_of s) → Reply
      reply_by x = record { told = told (told_by s x); net = lent_after (told_by s x) N }

      -- both images are read, so the request is served on them
      reply_read : a ≡ reply_to (script_in (script_bytes s)) (net_in N) N (Some (request_of (request_bytes r))) → a ≡ reply_by o
      reply_read e =
          e ∙
          ap₂ (λ (x : Option Script) (y : Option Images.Net). reply_to (unwrap_or x nil_script) (unwrap_or y empty_net) N (Some (request_of (request_bytes r)))) script_in_lem net_in_lem ∙
          ap (λ (v : Net (rules_of s)). reply_by (outcome (rolled_by s) v r)) k.viewed

      -- the number that is told is the theory's
      number_there : number (answer_of o.answer) ≡ answer_there s m r
      unfolding told_by
      number_there =
          subst (λ (v : Net (rules_of s)). number (answer_of (outcome (rolled_by s) v r).answer) ≡ answer_there s v r) k.viewed
          (served_number s (image_of s m) (request_of (request_bytes r)))

      bad_follows : Follows s (refused_there s m 3) (refused_with Answer.BadRequest N)
      bad_follows = record { answer = refl; undone = refl; touched = refl; net = refl; kept = k }

      -- a call that is done is written over the whole image
      done_follows : in_range r ≡ true → eqb (answer_there s m r) 0 ≡ true → Follows s (done_there s m r) (reply_by (done_there s m r))
      unfolding told_by lent_after
      done_follows h z =
          let zero-there : answer_there s m r ≡ 0 = eqb-true (answer_there s m r) 0 z in
          record {
            answer = refl;
            undone = refl;
            touched = refl;
            net = refl;
            kept =
                subst (λ (v : Net (rules_of s)). Kept s (Theory.net_after (rolled_by s) v r)) k.viewed
                (after_kept s w (image_of s m) k.shaped good (request_of (request_bytes r)) h
                (subst (λ (v : Net (rules_of s)). answer_there s v r ≡ 0) (sym k.viewed) zero-there));
          }

      refused_follows : eqb (answer_there s m r) 0 ≡ false
          → Follows s (refused_there s m (answer_there s m r)) (reply_by (refused_there s m (answer_there s m r)))
      unfolding told_by lent_after
      refused_follows z =
          let not_done : is_done (answer_of (answer_there s m r)) ≡ false = done_number (answer_there s m r) ∙ z in
          record {
            answer = ap (λ (x : Outcome (rules_of s)). number (answer_of x.answer)) (sym (outcome_refused s m r z)) ∙ number_there;
            undone = refl;
            touched = refl;
            net = rw not_done refl;
            kept = k;
          }

      -- the reply to a call on a script's and a net's bytes is the theory's outcome, for any six numbers
      pub one_call : Follows s (outcome (rolled_by s) m r) (reply (script_bytes s) (image_bytes s m) (request_bytes r))
      one_call = each (call (script_bytes s) N (request_bytes r))
        where
          -- as the outcome that it is known to be
          by : (x : Outcome (rules_of s)) → o ≡ x → (b : Reply) → a ≡ b → Follows s x b → Follows s o a
          by x e b q f = subst (Follows s o) (sym q) (subst (λ (y : Outcome (rules_of s)). Follows s y b) (sym e) f)

          served : in_range r ≡ true → a ≡ reply_by o → Follows s o a
          served h q =
              cases (eqb (answer_there s m r) 0)
              (λ z.
              let e = outcome_done s m r z in
              by (done_there s m r) e (reply_by (done_there s m r)) (q ∙ ap reply_by e) (done_follows h z))
              (λ z.
              let e = outcome_refused s m r z in
              by (refused_there s m (answer_there s m r)) e (reply_by (refused_there s m (answer_there s m r))) (q ∙ ap reply_by e) (refused_follows z))

          each : Call (script_bytes s) N (request_bytes r) → Follows s o a
          each (bad_script_lem g e) = clash (good_script (script_bytes s)) script_good g
          each (bad_net_lem g h e) = clash (good_net (script_in (script_bytes s)) N) net_good h
          each (bad_request g h q e) = by (refused_there s m 3) (outcome_bad s m r q) (refused_with Answer.BadRequest N) e bad_follows
          each (all_read g h q e) = served q (reply_read e)

  -- ---- calls in a row

  pub run_on_bytes : (m : Net (rules_of s)) → Kept s m → (rs : List Request) → run_bytes (script_bytes s) (image_bytes s m) (requests_bytes rs) ≡ run_on s m rs
  unfolding run_bytes run_on
  run_on_bytes m k [] = refl
  run_on_bytes m k (r ∷ rs) =
      let f = one_call m k r in
      ap₂ (λ (x : Result) (xs : List Result). x ∷ xs) (λ i. line (f.answer i) (f.undone i) (f.touched i))
      (ap (λ (N : List ℕ). run_bytes (script_bytes s) N (requests_bytes rs)) f.net ∙ run_on_bytes (outcome (rolled_by s) m r).net f.kept rs)

  pub end_on_bytes : (m : Net (rules_of s)) → Kept s m → (rs : List Request) → end_bytes (script_bytes s) (image_bytes s m) (requests_bytes rs) ≡ image_bytes s (end_on s m rs)
  unfolding end_bytes end_on
  end_on_bytes m k [] = refl
  end_on_bytes m k (r ∷ rs) =
      let f = one_call m k r in
      ap (λ (N : List ℕ). end_bytes (script_bytes s) N (requests_bytes rs)) f.net ∙ end_on_bytes (outcome (rolled_by s) m r).net f.kept rs

  pub end_kept : (m : Net (rules_of s)) → Kept s m → (rs : List Request) → Kept s (end_on s m rs)
  unfolding end_on
  end_kept m k [] = k
  end_kept m k (r ∷ rs) = end_kept (outcome (rolled_by s) m r).net (one_call m k r).kept rs
