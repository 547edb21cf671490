-- The code's requests and answers: document 01's number of each answer, and a request from its bytes.
-- In order: `number`, the list of answers and the answer of a number (`answer_of`), which are each other's inverse (`answer_number`, `number_of`,
-- `number_back`); checks that have an answer's number (`Known`); an answer is done exactly where its number is 0 (`done_number`, `done_zero`), and one
-- of the list (`number_listed`, `listed`); what a call tells that is refused (`refusal`); a code's number and a number's code (`code_number`, `code`,
-- `code_of`), each other's inverse (`code_back`, `code_is`); a request in numbers (`asked`), the one that six bytes are (`asked_by`, `request_of`), and that both
-- agree (`asked_back`); `read_request`, and a request whose code and names were read (`request_read`).
-- Assumes nothing.
use Rattle.std.specs.Prelude.{ℕ, zero, suc, ◌≡◌, refl, ◌⊎◌, List, [], ◌∷◌, Bool, true, false, ◌&&◌, not, eqb, leb, length, get_or, Option, Some, None}
use Rattle.std.proofs.Common.{sym, ap, ◌∙◌, inl, inr, arith, eqb-true, eq-eqb, ne_eqb}
use Rattle.laws.specs.Choice.{pick, cases, clash, and_left, and_right}
use Rattle.std.proofs.lemmas.Bool.{not-true}
use Rattle.std.proofs.lemmas.Bool.Decides.{nat_tests}
use Rattle.names.specs.Names.{key, locality, key_of, key_or_none, locality_or_none}
use Rattle.names.specs.Reads.{read, key_read, key_or_none_read, locality_or_none_read}
use Rattle.names.specs.declared.Key.{Key}
use Rattle.names.specs.declared.Locality.{Locality}
use Rattle.names.specs.Localities.{localities}
use Rattle.requests.specs.Checks as C
use Rattle.requests.specs.Answers as A
use Rattle.requests.specs.declared.Code.{Code}
use Rattle.requests.specs.declared.Request.{Request}
use Rattle.requests.specs.declared.Answer.{Answer}
use Rattle.requests.specs.declared.Told.{Told}

-- ---- answers

abbrev pub number : Answer → ℕ
number Answer.Done = 0
number Answer.BadScript = 1
number Answer.BadNet = 2
number Answer.BadRequest = 3
number Answer.WrongProcess = 4
number Answer.WrongNode = 5
number Answer.WrongPlaces = 6
number Answer.Unset = 7
number Answer.TargetAbsent = 8
number Answer.NoTuple = 9
number Answer.NoMatch = 10
number Answer.NotFresh = 11
number Answer.NotUndoable = 12

abbrev pub is_done : Answer → Bool
is_done a = eqb (number a) 0

-- document 01's table, in its order; a number may be left out
abbrev pub refusals : List Answer
refusals =
    Answer.BadScript ∷ Answer.BadNet ∷ Answer.BadRequest ∷ Answer.WrongProcess ∷ Answer.WrongNode ∷ Answer.WrongPlaces ∷ Answer.Unset ∷
    Answer.TargetAbsent ∷ Answer.NoTuple ∷ Answer.NoMatch ∷ Answer.NotFresh ∷ Answer.NotUndoable ∷ []

abbrev pub answers : List Answer
answers = Answer.Done ∷ refusals

-- the answer of a list that has this number; another stands in where none has
abbrev pub numbered : ℕ → Answer → List Answer → Answer
numbered k other [] = other
numbered k other (a ∷ rest) = pick (eqb k (number a)) a (numbered k other rest)

-- the answer with this number; a number that is none's stands with the last (by cases, so that the answer of a number which is not known stays short)
abbrev pub answer_of : ℕ → Answer
answer_of zero = Answer.Done
answer_of (suc k) = numbered (suc k) Answer.NotUndoable refusals

pub answer_number : (a : Answer) → answer_of (number a) ≡ a
answer_number Answer.Done = refl
answer_number Answer.BadScript = refl
answer_number Answer.BadNet = refl
answer_number Answer.BadRequest = refl
answer_number Answer.WrongProcess = refl
answer_number Answer.WrongNode = refl
answer_number Answer.WrongPlaces = refl
answer_number Answer.Unset = refl
answer_number Answer.TargetAbsent = refl
answer_number Answer.NoTuple = refl
answer_number Answer.NoMatch = refl
answer_number Answer.NotFresh = refl
answer_number Answer.NotUndoable = refl

no_zero : (k : ℕ) → eqb (suc k) 0 ≡ false
no_zero k = ne_eqb (suc k) 0 (λ e. omega arith)

-- a number that some answer of the list has
abbrev pub is_number : ℕ → List Answer → Bool
is_number k [] = false
is_number k (a ∷ rest) = pick (eqb k (number a)) true (is_number k rest)

number_in : (k : ℕ) (other : Answer) (l : List Answer) → is_number k l ≡ true → number (numbered k other l) ≡ k
number_in k other [] h = clash false h refl
number_in k other (a ∷ rest) h =
    cases (eqb k (number a)) (λ t. rw t (sym (eqb-true k (number a) t))) (λ t. rw t (number_in k other rest (rw t at h)))

pub number_of : (k : ℕ) → is_number k answers ≡ true → number (answer_of k) ≡ k
number_of zero h = refl
number_of (suc k) h = number_in (suc k) Answer.NotUndoable refusals (rw (no_zero k) at h)

-- and where it is not the one that stands in, its number is the one asked for
number_back_in : (k : ℕ) (other : Answer) (l : List Answer) → (number (numbered k other l) ≡ number other → ⊥) → number (numbered k other l) ≡ k
number_back_in k other [] h = absurd (h refl)
number_back_in k other (a ∷ rest) h =
    cases (eqb k (number a)) (λ t. rw t (sym (eqb-true k (number a) t))) (λ t. rw t (number_back_in k other rest (rw t at h)))

pub number_back : (k c : ℕ) → (c ≡ number Answer.NotUndoable → ⊥) → number (answer_of k) ≡ c → k ≡ c
number_back zero c h e = e
number_back (suc k) c h e = sym (number_back_in (suc k) Answer.NotUndoable refusals (λ z. h (sym e ∙ z))) ∙ e

-- the refusal of checks which all have the number of an answer has one too
abbrev pub Known : List C.Check → Type 0
Known [] = Unit
Known (c ∷ cs) = (is_number c.number answers ≡ true) × Known cs

pub refusal_known : (cs : List C.Check) → Known cs → is_number (C.refusal cs) answers ≡ true
unfolding C.refusal
refusal_known [] h = refl
refusal_known (c ∷ cs) h = cases c.holds (λ t. rw t (refusal_known cs h.1)) (λ t. rw t h.0)

-- ---- the answer is done exactly where its number is 0

abbrev none_done : List Answer → Bool
none_done [] = true
none_done (a ∷ rest) = not (is_done a) && none_done rest

none_done_lem : (k : ℕ) (other : Answer) (l : List Answer) → is_done other ≡ false → none_done l ≡ true → is_done (numbered k other l) ≡ false
none_done_lem k other [] o h = o
none_done_lem k other (a ∷ rest) o h =
    cases (eqb k (number a)) (λ t. rw t (not-true (is_done a) (and_left (not (is_done a)) _ h)))
    (λ t. rw t (none_done_lem k other rest o (and_right (not (is_done a)) _ h)))

pub done_number : (k : ℕ) → is_done (answer_of k) ≡ eqb k 0
done_number zero = refl
done_number (suc k) = none_done_lem (suc k) Answer.NotUndoable refusals refl refl ∙ sym (no_zero k)

pub done_zero : (k : ℕ) → is_done (answer_of k) ≡ true → k ≡ 0
done_zero k h = eqb-true k 0 (sym (done_number k) ∙ h)

-- ---- every answer is one of the list

abbrev pub Listed : Answer → List Answer → Type 0
Listed a [] = ⊥
Listed a (b ∷ bs) = (a ≡ b) ⊎ Listed a bs

-- answers with the same number are the same
pub same_number : (a b : Answer) → number a ≡ number b → a ≡ b
same_number a b e = sym (answer_number a) ∙ ap answer_of e ∙ answer_number b

listed_in : (a : Answer) (l : List Answer) → is_number (number a) l ≡ true → Listed a l
listed_in a [] h = clash false h refl
listed_in a (b ∷ rest) h =
    cases (eqb (number a) (number b)) (λ t. inl (same_number a b (eqb-true (number a) (number b) t))) (λ t. inr (listed_in a rest (rw t at h)))

pub number_listed : (a : Answer) → is_number (number a) answers ≡ true
number_listed Answer.Done = refl
number_listed Answer.BadScript = refl
number_listed Answer.BadNet = refl
number_listed Answer.BadRequest = refl
number_listed Answer.WrongProcess = refl
number_listed Answer.WrongNode = refl
number_listed Answer.WrongPlaces = refl
number_listed Answer.Unset = refl
number_listed Answer.TargetAbsent = refl
number_listed Answer.NoTuple = refl
number_listed Answer.NoMatch = refl
number_listed Answer.NotFresh = refl
number_listed Answer.NotUndoable = refl

pub listed : (a : Answer) → Listed a answers
listed a = listed_in a answers (number_listed a)

-- "any refusal leaves the net, with undone 0 and touched 0"
abbrev pub refusal : Answer → Told
refusal a = record { answer = a; undone = 0; touched = localities 0 }

-- ---- requests

-- "Codes: 0 forward, 1 backward, 2 rollback of the named event, 3 roll by the named live process."
abbrev pub code_number : Code → ℕ
code_number Code.Forward = 0
code_number Code.Backward = 1
code_number Code.Rollback = 2
code_number Code.Roll = 3

-- the code with this number; a number above 3 stands with the last
abbrev pub code : ℕ → Code
code b = pick (eqb b 0) Code.Forward (pick (eqb b 1) Code.Backward (pick (eqb b 2) Code.Rollback Code.Roll))

abbrev pub code_of : ℕ → Option Code
code_of b = pick (leb b 3) (Some (code b)) None

pub code_back : (b : ℕ) → leb b 3 ≡ true → code_number (code b) ≡ b
code_back b h = grind (arith, nat_tests)

pub code_read : (b : ℕ) (c : Code) → Some c ≡ code_of b → (c ≡ code b) × (leb b 3 ≡ true)
code_read b c e = read (leb b 3) (code b) c e

-- a byte that has a code is the code's number
pub code_is : (b : ℕ) (c : Code) → Some c ≡ code_of b → code_number c ≡ b
code_is b c e = let r = code_read b c e in ap code_number r.0 ∙ code_back b r.1

-- a request in numbers
abbrev pub asked : Request → A.Request
asked r =
    record { code = r.code; key = r.key.0; used = r.used.0; first = r.first.0; second = r.second.0; place = r.place.0 }

-- "Six bytes: code, key, tuple key, first and second fresh key, fresh locality."
abbrev pub asked_by : List ℕ → A.Request
asked_by b =
    record {
      code = get_or b 0 0;
      key = get_or b 1 0;
      used = get_or b 2 0;
      first = get_or b 3 0;
      second = get_or b 4 0;
      place = get_or b 5 0;
    }

abbrev pub request_of : List ℕ → Request
request_of b =
    record {
      code = get_or b 0 0;
      key = key (get_or b 1 0);
      used = key (get_or b 2 0);
      first = key (get_or b 3 0);
      second = key (get_or b 4 0);
      place = locality (get_or b 5 0);
    }

-- it asks what its bytes do
pub asked_back : (b : List ℕ) → asked (request_of b) ≡ asked_by b
asked_back b = refl

-- 3: "request not 6 bytes; code above 3; key above 63; others neither 255 nor in range"
unfoldable pub read_request : List ℕ → Option Request
read_request b =
    pick (eqb (length b) 6) (pick (A.in_range (asked_by b)) (Some (request_of b)) None) None

-- the names that were read are the request's, and its code is the byte
pub request_read : (b : List ℕ) (c : Code) (k u f s : Key) (p : Locality) → length b ≡ 6 → Some c ≡ code_of (get_or b 0 0)
    → Some k ≡ key_of (get_or b 1 0) → Some u ≡ key_or_none (get_or b 2 0) → Some f ≡ key_or_none (get_or b 3 0)
    → Some s ≡ key_or_none (get_or b 4 0) → Some p ≡ locality_or_none (get_or b 5 0)
    → Some (record { code = get_or b 0 0; key = k; used = u; first = f; second = s; place = p }) ≡ read_request b
unfolding read_request A.in_range
request_read b c k u f s p six is_c is-k is-u is_f is-s is-p =
    let code-there = code_read (get_or b 0 0) c is_c in
    let key-there = key_read (get_or b 1 0) k is-k in
    let used-there = key_or_none_read (get_or b 2 0) u is-u in
    let first_there = key_or_none_read (get_or b 3 0) f is_f in
    let second_there = key_or_none_read (get_or b 4 0) s is-s in
    let place_there = locality_or_none_read (get_or b 5 0) p is-p in
    rw (eq-eqb (length b) 6 six, code-there.1, key-there.1, used-there.1, first_there.1, second_there.1, place_there.1)
    (λ i.
    Some (record {
      code = get_or b 0 0;
      key = key-there.0 i;
      used = used-there.0 i;
      first = first_there.0 i;
      second = second_there.0 i;
      place = place_there.0 i;
    }))
