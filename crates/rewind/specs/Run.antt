-- A run of requests on good images: request by request, what a call answers on the net that the one before left.
-- In order: the run (`Run`), a request more (`next`), the first k requests of a chunk (`answered`); a call leaves good images (`reply_held`) and
-- undoes few (`reply_few`), so the next request finds them good (`answered_held`); the code's output and net against the run (`run_of`): what one
-- request puts there (`one_more`), the loop's first and next turn (`run_first`, `run_next`).
-- Assumes nothing.
use Rattle.std.specs.Prelude.{ℕ, zero, suc, ◌+◌, ◌*◌, ◌<◌, ◌≤◌, ◌≡◌, refl, List, [], ◌++◌, eqb, length, take, drop}
use Rattle.std.proofs.Common.{sym, ap, ◌∙◌, subst, add-one, arith, eqb-true}
use Rattle.std.proofs.lemmas.Bool.{eqb-false}
use Rattle.laws.specs.Choice.{cases}
use Rattle.requests.specs.Requests.{number}
use Rattle.machine.specs.Calls.{reply}
use Rattle.machine.specs.Bytes.{Held, left, doing, next_held, next_undone}
use Rattle.requests.specs.declared.Told.{Told}
use Rattle.rewind.specs.Lines.{line_of, line_short, Puts, puts_length}

-- ---- requests one after the other

-- the bytes of one
abbrev pub request_size : ℕ
request_size = 6

-- the lines so far, and the bytes of the net
pub record Run : Type 0 where
  pub text : List ℕ
  pub net : List ℕ

-- a request more: the line of what a call tells, and the net that it leaves
abbrev pub next : List ℕ → Run → List ℕ → Run
next script a q = record { text = a.text ++ line_of (reply script a.net q).told; net = (reply script a.net q).net }

abbrev pub request_at : List ℕ → ℕ → List ℕ
request_at b k = take request_size (drop (k * request_size) b)

-- the first k requests of a chunk
unfoldable pub answered : List ℕ → List ℕ → List ℕ → ℕ → Run
answered script net b zero = record { text = []; net = net }
answered script net b (suc k) = next script (answered script net b k) (request_at b k)

-- ---- the images stay good

module _ (S N Q : List ℕ) (h : Held S N) where
  pub reply_held : Held S (reply S N Q).net
  reply_held =
      cases (eqb (number (reply S N Q).told.answer) 0)
      (λ z. next_held S N Q h.script_bytes_lem h.net_bytes_lem (doing S N Q (eqb-true (number (reply S N Q).told.answer) 0 z)))
      (λ z. subst (Held S) (sym (left S N Q (eqb-false (number (reply S N Q).told.answer) 0 z)).net) h)

  -- so that two digits hold what was undone
  pub reply_few : (t : Told) → t ≡ (reply S N Q).told → t.undone < 100
  reply_few t e = omega (arith, ap (λ (z : Told). z.undone) e, few)
    where
      few : (reply S N Q).told.undone ≤ 63
      few =
          cases (eqb (number (reply S N Q).told.answer) 0)
          (λ z. next_undone S N Q h.script_bytes_lem h.net_bytes_lem (doing S N Q (eqb-true (number (reply S N Q).told.answer) 0 z)))
          (λ z. omega (arith, (left S N Q (eqb-false (number (reply S N Q).told.answer) 0 z)).undone))

  pub last_held : (last : List ℕ) → last ≡ (reply S N Q).net → Held S last
  last_held last e = subst (Held S) (sym e) reply_held

pub answered_held : (S N b : List ℕ) → Held S N → (k : ℕ) → Held S (answered S N b k).net
unfolding answered
answered_held S N b h zero = h
answered_held S N b h (suc k) = reply_held S (answered S N b k).net (request_at b k) (answered_held S N b h k)

-- ---- the code against the run

-- the lines that an output holds, and the net
abbrev pub run_of : List ℕ → List ℕ → Run
run_of out net = record { text = out; net = net }

-- the output after one request more, and the net that it left
pub one_more : (S N q xs ys : List ℕ) (t : Told) (last : List ℕ) → t ≡ (reply S N q).told → last ≡ (reply S N q).net → Puts xs ys (line_of t)
    → (run_of ys last ≡ next S (run_of xs N) q) × (length ys ≤ length xs + 15)
one_more S N q xs ys t last is-t is_last p =
    let text : ys ≡ xs ++ line_of (reply S N q).told = p.text ∙ ap (λ (z : Told). xs ++ line_of z) is-t in (
      λ i. record { text = text i; net = is_last i },
      omega (arith, puts_length p, line_short t),
    )

pub run_first : (S N b : List ℕ) → run_of [] N ≡ answered S N b 0
unfolding answered
run_first S N b = refl

-- a turn of the loop over the requests of a chunk
pub run_next : (S N b : List ℕ) (k : ℕ) (q : List ℕ) (a z : Run) → q ≡ request_at b k → a ≡ answered S N b k → z ≡ next S a q → z ≡ answered S N b (k + 1)
unfolding answered
run_next S N b k q a z h e g =
    rw (add-one k) (g ∙ ap (next S a) h ∙ ap (λ (y : Run). next S y (request_at b k)) e)
