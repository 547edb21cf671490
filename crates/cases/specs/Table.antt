-- Document 01's starred cases: the net that each starts from, its requests in turn, what each is answered, and the net at the end.
-- Assumes nothing.
use Rattle.std.specs.Prelude.{ℕ, ◌≤◌, ◌≡◌, refl, List, [], ◌∷◌, Bool, true, ◌||◌, eqb, length, get_or, replicate}
use Rattle.std.proofs.Common.{arith, ap, sym, ◌∙◌}
use Rattle.laws.specs.Choice.{pick}
use Rattle.laws.specs.Lists.{tab}
use Rattle.laws.specs.Checks.{all}
use Rattle.laws.specs.Sets.{including}
use Rattle.order.specs.KeySets.{Set, members, any, count}
use Rattle.order.specs.Graphs.{Reach, here, step}
use Rattle.order.specs.Dependents
use Rattle.order.specs.Words.{word_of}
use Rattle.names.specs.Names.{key_count, locality_count, key}
use Rattle.nets.specs.Net.{Slot, Net, free_slot, made_key, took_tuple, read_tuple, made_locality, depends, dependents}
use Rattle.nets.specs.Rule.{product}
use Rattle.nets.specs.Forward.{forward}
use Rattle.nets.specs.Undo.{made_by, taken_by, locality_by, again_by, undo_set, touched}
use Rattle.matching.specs.Evaluate
use Rattle.matching.specs.Match
use Rattle.products.specs.Products
use Rattle.rules.specs.Instance.{act_of}
use Rattle.requests.specs.Checks.{refusal}
use Rattle.requests.specs.Answers
use Rattle.requests.specs.Answers.{Request, Outcome, outcome}
use Rattle.images.specs.Net.{datum0}
use Rattle.images.specs.declared.Datum.{Datum}
use Rattle.names.specs.declared.Key.{Key}
use Rattle.cases.specs.Dependents.{Each, kept, dependents_are}
use Rattle.cases.specs.Script.{T, rolled, process, process_with, did, taken, tuple_of, pair_of, value, place, net, net_a, net_b, net_c, net_d, net_e, net_f, net_g}

pub record Result : Type 0 where
  pub answer : ℕ
  pub undone : ℕ
  pub touched : ℕ

-- a line of `rewind`
abbrev pub line : ℕ → ℕ → ℕ → Result
line a u t = record { answer = a; undone = u; touched = t }

-- code, key, tuple key, first and second fresh key, fresh locality; a dash is 255
abbrev pub request : ℕ → ℕ → ℕ → ℕ → ℕ → ℕ → Request
request c k t a b l = record { code = c; key = k; used = t; first = a; second = b; place = l }

abbrev – : ℕ
– = 255

abbrev pub result_of : Outcome T → Result
result_of o = line o.answer o.undone o.touched

-- the requests in turn: what each is answered, and the net at the end
unfoldable pub run : Net T → List Request → List Result
run n [] = []
run n (r ∷ rs) = result_of (outcome rolled n r) ∷ run (outcome rolled n r).net rs

unfoldable pub end : Net T → List Request → Net T
end n [] = n
end n (r ∷ rs) = end (outcome rolled n r).net rs

-- a net as what stands at each locality and key
pub record Shown : Type 0 where
  pub present : List Bool
  pub slots : List (Slot T)

abbrev pub shown : Net T → Shown
shown n = record { present = tab locality_count n.present; slots = tab key_count n.slot }

pub record Case : Type 0 where
  pub start : Net T
  pub requests : List Request
  pub results : List Result
  pub ends : Net T

-- ---- nets after steps, written out

-- A after its out and its in: the out made keys 2 and 3 and is reference 0 of what follows, the in took tuple 1 and made key 4
abbrev held : List Key
held = key 0 ∷ key – ∷ key – ∷ key – ∷ []

abbrev slots_a₂ : List (Slot T)
slots_a₂ =
    did (process 1 0) 2 3 – – ∷ taken (tuple_of (value 2) 0) ∷ did (process_with 2 0 (replicate 8 datum0) held) 4 – 1 – ∷
    tuple_of (value 1) 0 ∷ process_with 3 0 (replicate 8 datum0) held ∷ []

abbrev net_a₂ : Net T
net_a₂ = net 1 slots_a₂

-- B after its read and its in
abbrev slots_b₂ : List (Slot T)
slots_b₂ =
    taken (tuple_of (value 7) 0) ∷ did (process 4 1) 3 – 0 – ∷ did (process 5 2) 4 – 0 – ∷ process 0 1 ∷ process 0 2 ∷ []

abbrev net_b₂ : Net T
net_b₂ = net 3 slots_b₂

-- B after its read alone
abbrev net_b₁ : Net T
net_b₁ = net 3 (tuple_of (value 7) 0 ∷ did (process 4 1) 3 – 0 – ∷ process 5 2 ∷ process 0 1 ∷ [])

-- C after both of its reads, and after the second alone
abbrev slots_c₂ : List (Slot T)
slots_c₂ =
    tuple_of (value 7) 0 ∷ did (process 4 1) 3 – 0 – ∷ did (process 4 2) 4 – 0 – ∷ process 0 1 ∷ process 0 2 ∷ []

abbrev net_c₂ : Net T
net_c₂ = net 3 slots_c₂

abbrev net_c₁ : Net T
net_c₁ = net 3 (tuple_of (value 7) 0 ∷ process 4 1 ∷ did (process 4 2) 4 – 0 – ∷ free_slot ∷ process 0 2 ∷ [])

-- D after its newloc, of locality 8 or of another, and its eval
abbrev knowing : ℕ → List Datum
knowing l = place l ∷ replicate 7 datum0

abbrev with : ℕ → Net T → Net T
with l n = record { present = λ m. n.present m || eqb m l; slot = n.slot }

abbrev net_d₁ : ℕ → Net T
net_d₁ l = with l (net 1 (did (process 6 0) 1 – – l ∷ process_with 7 0 (knowing l) (replicate 4 (key –)) ∷ []))

abbrev slots_d₂ : List (Slot T)
slots_d₂ =
    did (process 6 0) 1 – – 8 ∷ did (process_with 7 0 (knowing 8) (replicate 4 (key –))) 2 3 – – ∷
    process_with 0 0 (knowing 8) (replicate 4 (key –)) ∷ process_with 0 8 (knowing 8) (replicate 4 (key –)) ∷ []

abbrev net_d₂ : Net T
net_d₂ = with 8 (net 1 slots_d₂)

-- a split: left at key 1, right at key 2
abbrev net_e₁ : Net T
net_e₁ = net 1 (did (process 8 0) 1 2 – – ∷ process 4 0 ∷ process 5 0 ∷ [])

-- a read that binds variables 1 and 2
abbrev net_f₁ : Net T
net_f₁ =
    net 1
    (did (process 9 0) 2 – 1 – ∷ pair_of (value 5) (place 0) 0 ∷
    process_with 0 0 (datum0 ∷ value 5 ∷ place 0 ∷ replicate 5 datum0) (replicate 4 (key –)) ∷ [])

-- A with its out at keys 63 and 62
abbrev far : ℕ → Slot T
far k = pick (eqb k 0) (did (process 1 0) 63 62 – –) (pick (eqb k 1) (tuple_of (value 2) 0) (pick (eqb k 62) (tuple_of (value 1) 0) (pick (eqb k 63) (process_with 2 0 (replicate 8 datum0) held) free_slot)))

abbrev net_a₆₃ : Net T
net_a₆₃ = record { present = net_a.present; slot = far }

-- ---- the table

abbrev done : Result
done = line 0 0 0

abbrev refused : ℕ → Result
refused a = line a 0 0

abbrev case : Net T → List Request → List Result → Net T → Case
case n rs os m = record { start = n; requests = rs; results = os; ends = m }

-- "A (004, Example 2) .. Printed below."
abbrev pub a_forward : Case
a_forward = case net_a (request 0 0 – 2 3 – ∷ request 0 2 1 4 – – ∷ []) (done ∷ done ∷ []) net_a₂

abbrev pub a_roll : Case
a_roll = case net_a₂ (request 1 0 – – – – ∷ request 3 4 – – – – ∷ []) (refused 12 ∷ line 0 2 1 ∷ []) net_a

-- "B: .. After (0,1,0,3,-,-), (0,2,0,4,-,-)"
abbrev pub b_forward : Case
b_forward = case net_b (request 0 1 0 3 – – ∷ request 0 2 0 4 – – ∷ []) (done ∷ done ∷ []) net_b₂

-- "backward 1 gives 12; rollback 1 gives B, undone 2, touched 6"
abbrev pub b_rollback_1 : Case
b_rollback_1 = case net_b₂ (request 1 1 – – – – ∷ request 2 1 – – – – ∷ []) (refused 12 ∷ line 0 2 6 ∷ []) net_b

-- "rollback 2 gives undone 1, touched 4, key 1 still past"
abbrev pub b_rollback_2 : Case
b_rollback_2 = case net_b₂ (request 2 2 – – – – ∷ []) (line 0 1 4 ∷ []) net_b₁

-- "C: as B, key 2 at node 4. After both reads rollback 1 undoes 1; key 2 stays past."
abbrev pub c_forward : Case
c_forward = case net_c (request 0 1 0 3 – – ∷ request 0 2 0 4 – – ∷ []) (done ∷ done ∷ []) net_c₂

abbrev pub c_rollback : Case
c_rollback = case net_c₂ (request 2 1 – – – – ∷ []) (line 0 1 2 ∷ []) net_c₁

-- "D: key 0 node 6 at 0. (0,0,-,1,-,8), (0,1,-,2,3,-); rollback 0 gives D, undone 2, touched 257."
abbrev pub d_forward : Case
d_forward = case net_d (request 0 0 – 1 – 8 ∷ request 0 1 – 2 3 – ∷ []) (done ∷ done ∷ []) net_d₂

abbrev pub d_rollback : Case
d_rollback = case net_d₂ (request 2 0 – – – – ∷ []) (line 0 2 257 ∷ []) net_d

-- "First step with fresh locality 7: 11; 31: done; 32: 3."
abbrev pub d_locality_7 : Case
d_locality_7 = case net_d (request 0 0 – 1 – 7 ∷ []) (refused 11 ∷ []) net_d

abbrev pub d_locality_31 : Case
d_locality_31 = case net_d (request 0 0 – 1 – 31 ∷ []) (done ∷ []) (net_d₁ 31)

abbrev pub d_locality_32 : Case
d_locality_32 = case net_d (request 0 0 – 1 – 32 ∷ []) (refused 3 ∷ []) net_d

-- "A, out with fresh 2 and 2: 11. With 0 and 3: 11. With 63 and 62: done. With 64: 3."
abbrev pub a_equal : Case
a_equal = case net_a (request 0 0 – 2 2 – ∷ []) (refused 11 ∷ []) net_a

abbrev pub a_taken : Case
a_taken = case net_a (request 0 0 – 0 3 – ∷ []) (refused 11 ∷ []) net_a

abbrev pub a_far : Case
a_far = case net_a (request 0 0 – 63 62 – ∷ []) (done ∷ []) net_a₆₃

abbrev pub a_out_of_range : Case
a_out_of_range = case net_a (request 0 0 – 64 3 – ∷ request 0 0 – 2 64 – ∷ []) (refused 3 ∷ refused 3 ∷ []) net_a

-- "Node 8 at key 0, fresh 1, 2: done; rollback 0: 5; backward 0: done."
abbrev pub split : Case
split = case net_e (request 0 0 – 1 2 – ∷ []) (done ∷ []) net_e₁

abbrev pub split_back : Case
split_back = case net_e₁ (request 2 0 – – – – ∷ request 1 0 – – – – ∷ []) (refused 5 ∷ line 0 1 1 ∷ []) net_e

-- "Node 9 against ⟨5, locality 0⟩: done; against ⟨5, 5⟩: 10."
abbrev pub read_matches : Case
read_matches = case net_f (request 0 0 1 2 – – ∷ []) (done ∷ []) net_f₁

abbrev pub read_differs : Case
read_differs = case net_g (request 0 0 1 2 – – ∷ []) (refused 10 ∷ []) net_g

abbrev pub table : List Case
table =
    a_forward ∷ a_roll ∷ b_forward ∷ b_rollback_1 ∷ b_rollback_2 ∷ c_forward ∷ c_rollback ∷
    d_forward ∷ d_rollback ∷ d_locality_7 ∷ d_locality_31 ∷ d_locality_32 ∷ a_equal ∷ a_taken ∷
    a_far ∷ a_out_of_range ∷ split ∷ split_back ∷ read_matches ∷ read_differs ∷ []

-- ---- the statement

-- the requests are answered as the case says, and the net at the end is the case's, at every locality and key
pub record Holds (c : Case) : Type 0 where
  pub answers : run c.start c.requests ≡ c.results
  pub ending : shown (end c.start c.requests) ≡ shown c.ends

pub data All : List Case → Type 0 where
  none : All []
  also : {c : Case} {cs : List Case} → Holds c → All cs → All (c ∷ cs)

-- ---- by computing. Where a case rolls back, its dependents are given as a list, which is checked

module _ (c : Case) (present : Set) (slots : List (Slot T)) (few : length slots ≤ 64) where
  abbrev before : Net T
  before = record { present = present; slot = λ i. get_or slots i free_slot }

  rolls_back : (e : ℕ) (xs : List ℕ) → members xs e ≡ true → Each (λ x. kept present slots few xs x ≡ true) xs → Each (Reach (depends before) e) xs → run c.start c.requests ≡ c.results → end c.start c.requests ≡ undo_set before (dependents before e) → shown (undo_set before (members xs)) ≡ shown c.ends → Holds c
  rolls_back e xs first closed reached answers ends net =
      record {
        answers = answers;
        ending = ap shown (ends ∙ ap (undo_set before) (sym (dependents_are present slots few e xs first closed reached))) ∙ net;
      }

a_forward_holds : Holds a_forward
unfolding run end outcome Answers.answer Answers.checks_of Answers.in_range Answers.forward_checks Answers.backward_checks Answers.rollback_checks Answers.roll_checks refusal Answers.places_of Answers.no_places Answers.tuple_there Answers.fresh_free Answers.made_stays Answers.can_undo Answers.event Answers.net_after Answers.undone Answers.touched_word word_of including touched any count Dependents.rounds Dependents.grow Dependents.closure Dependents.dependents depends forward made_by taken_by locality_by again_by undo_set Products.target_by Products.fits Evaluate.target_of Evaluate.actual Products.ready_by Evaluate.fields_ready Evaluate.is_ready Match.meets Match.place_meets Match.field_meets Match.bound Match.bind_up_to Match.bind_one all act_of made_key took_tuple read_tuple made_locality product Products.continued_by Products.variables_after Products.references_after Products.second_by Products.tuple_by Products.process_by tab
a_forward_holds = record { answers = refl; ending = refl }

a_roll_ends : end a_roll.start a_roll.requests ≡ undo_set net_a₂ (dependents net_a₂ 0)
unfolding run end outcome Answers.answer Answers.checks_of Answers.in_range Answers.forward_checks Answers.backward_checks Answers.rollback_checks Answers.roll_checks refusal Answers.places_of Answers.no_places Answers.tuple_there Answers.fresh_free Answers.made_stays Answers.can_undo Answers.event Answers.net_after any depends Products.target_by Products.fits Evaluate.target_of Evaluate.actual Products.ready_by Evaluate.fields_ready Evaluate.is_ready Match.meets Match.place_meets Match.field_meets Match.bound Match.bind_up_to Match.bind_one all act_of made_key took_tuple read_tuple made_locality Products.continued_by Products.variables_after Products.references_after Products.second_by Products.tuple_by Products.process_by tab
a_roll_ends = refl

a_roll_holds : Holds a_roll
unfolding run end outcome Answers.answer Answers.checks_of Answers.in_range Answers.forward_checks Answers.backward_checks Answers.rollback_checks Answers.roll_checks refusal Answers.places_of Answers.no_places Answers.tuple_there Answers.fresh_free Answers.made_stays Answers.can_undo Answers.event Answers.net_after Answers.undone Answers.touched_word word_of including touched any count Dependents.rounds Dependents.grow Dependents.closure Dependents.dependents depends forward made_by taken_by locality_by again_by undo_set Products.target_by Products.fits Evaluate.target_of Evaluate.actual Products.ready_by Evaluate.fields_ready Evaluate.is_ready Match.meets Match.place_meets Match.field_meets Match.bound Match.bind_up_to Match.bind_one all act_of made_key took_tuple read_tuple made_locality product Products.continued_by Products.variables_after Products.references_after Products.second_by Products.tuple_by Products.process_by tab
a_roll_holds = rolls_back a_roll net_a₂.present slots_a₂ (omega arith) 0 (0 ∷ 2 ∷ []) refl (refl, (refl, tt)) (here, (step refl here, tt)) refl a_roll_ends refl

b_forward_holds : Holds b_forward
unfolding run end outcome Answers.answer Answers.checks_of Answers.in_range Answers.forward_checks Answers.backward_checks Answers.rollback_checks Answers.roll_checks refusal Answers.places_of Answers.no_places Answers.tuple_there Answers.fresh_free Answers.made_stays Answers.can_undo Answers.event Answers.net_after Answers.undone Answers.touched_word word_of including touched any count Dependents.rounds Dependents.grow Dependents.closure Dependents.dependents depends forward made_by taken_by locality_by again_by undo_set Products.target_by Products.fits Evaluate.target_of Evaluate.actual Products.ready_by Evaluate.fields_ready Evaluate.is_ready Match.meets Match.place_meets Match.field_meets Match.bound Match.bind_up_to Match.bind_one all act_of made_key took_tuple read_tuple made_locality product Products.continued_by Products.variables_after Products.references_after Products.second_by Products.tuple_by Products.process_by tab
b_forward_holds = record { answers = refl; ending = refl }

b_rollback_1_ends : end b_rollback_1.start b_rollback_1.requests ≡ undo_set net_b₂ (dependents net_b₂ 1)
unfolding run end outcome Answers.answer Answers.checks_of Answers.in_range Answers.forward_checks Answers.backward_checks Answers.rollback_checks Answers.roll_checks refusal Answers.places_of Answers.no_places Answers.tuple_there Answers.fresh_free Answers.made_stays Answers.can_undo Answers.event Answers.net_after any depends Products.target_by Products.fits Evaluate.target_of Evaluate.actual Products.ready_by Evaluate.fields_ready Evaluate.is_ready Match.meets Match.place_meets Match.field_meets Match.bound Match.bind_up_to Match.bind_one all act_of made_key took_tuple read_tuple made_locality Products.continued_by Products.variables_after Products.references_after Products.second_by Products.tuple_by Products.process_by tab
b_rollback_1_ends = refl

b_rollback_1_holds : Holds b_rollback_1
unfolding run end outcome Answers.answer Answers.checks_of Answers.in_range Answers.forward_checks Answers.backward_checks Answers.rollback_checks Answers.roll_checks refusal Answers.places_of Answers.no_places Answers.tuple_there Answers.fresh_free Answers.made_stays Answers.can_undo Answers.event Answers.net_after Answers.undone Answers.touched_word word_of including touched any count Dependents.rounds Dependents.grow Dependents.closure Dependents.dependents depends forward made_by taken_by locality_by again_by undo_set Products.target_by Products.fits Evaluate.target_of Evaluate.actual Products.ready_by Evaluate.fields_ready Evaluate.is_ready Match.meets Match.place_meets Match.field_meets Match.bound Match.bind_up_to Match.bind_one all act_of made_key took_tuple read_tuple made_locality product Products.continued_by Products.variables_after Products.references_after Products.second_by Products.tuple_by Products.process_by tab
b_rollback_1_holds = rolls_back b_rollback_1 net_b₂.present slots_b₂ (omega arith) 1 (1 ∷ 2 ∷ []) refl (refl, (refl, tt)) (here, (step refl here, tt)) refl b_rollback_1_ends refl

b_rollback_2_ends : end b_rollback_2.start b_rollback_2.requests ≡ undo_set net_b₂ (dependents net_b₂ 2)
unfolding run end outcome Answers.answer Answers.checks_of Answers.in_range Answers.forward_checks Answers.backward_checks Answers.rollback_checks Answers.roll_checks refusal Answers.places_of Answers.no_places Answers.tuple_there Answers.fresh_free Answers.made_stays Answers.can_undo Answers.event Answers.net_after any depends Products.target_by Products.fits Evaluate.target_of Evaluate.actual Products.ready_by Evaluate.fields_ready Evaluate.is_ready Match.meets Match.place_meets Match.field_meets Match.bound Match.bind_up_to Match.bind_one all act_of made_key took_tuple read_tuple made_locality Products.continued_by Products.variables_after Products.references_after Products.second_by Products.tuple_by Products.process_by tab
b_rollback_2_ends = refl

b_rollback_2_holds : Holds b_rollback_2
unfolding run end outcome Answers.answer Answers.checks_of Answers.in_range Answers.forward_checks Answers.backward_checks Answers.rollback_checks Answers.roll_checks refusal Answers.places_of Answers.no_places Answers.tuple_there Answers.fresh_free Answers.made_stays Answers.can_undo Answers.event Answers.net_after Answers.undone Answers.touched_word word_of including touched any count Dependents.rounds Dependents.grow Dependents.closure Dependents.dependents depends forward made_by taken_by locality_by again_by undo_set Products.target_by Products.fits Evaluate.target_of Evaluate.actual Products.ready_by Evaluate.fields_ready Evaluate.is_ready Match.meets Match.place_meets Match.field_meets Match.bound Match.bind_up_to Match.bind_one all act_of made_key took_tuple read_tuple made_locality product Products.continued_by Products.variables_after Products.references_after Products.second_by Products.tuple_by Products.process_by tab
b_rollback_2_holds = rolls_back b_rollback_2 net_b₂.present slots_b₂ (omega arith) 2 (2 ∷ []) refl (refl, tt) (here, tt) refl b_rollback_2_ends refl

c_forward_holds : Holds c_forward
unfolding run end outcome Answers.answer Answers.checks_of Answers.in_range Answers.forward_checks Answers.backward_checks Answers.rollback_checks Answers.roll_checks refusal Answers.places_of Answers.no_places Answers.tuple_there Answers.fresh_free Answers.made_stays Answers.can_undo Answers.event Answers.net_after Answers.undone Answers.touched_word word_of including touched any count Dependents.rounds Dependents.grow Dependents.closure Dependents.dependents depends forward made_by taken_by locality_by again_by undo_set Products.target_by Products.fits Evaluate.target_of Evaluate.actual Products.ready_by Evaluate.fields_ready Evaluate.is_ready Match.meets Match.place_meets Match.field_meets Match.bound Match.bind_up_to Match.bind_one all act_of made_key took_tuple read_tuple made_locality product Products.continued_by Products.variables_after Products.references_after Products.second_by Products.tuple_by Products.process_by tab
c_forward_holds = record { answers = refl; ending = refl }

c_rollback_ends : end c_rollback.start c_rollback.requests ≡ undo_set net_c₂ (dependents net_c₂ 1)
unfolding run end outcome Answers.answer Answers.checks_of Answers.in_range Answers.forward_checks Answers.backward_checks Answers.rollback_checks Answers.roll_checks refusal Answers.places_of Answers.no_places Answers.tuple_there Answers.fresh_free Answers.made_stays Answers.can_undo Answers.event Answers.net_after any depends Products.target_by Products.fits Evaluate.target_of Evaluate.actual Products.ready_by Evaluate.fields_ready Evaluate.is_ready Match.meets Match.place_meets Match.field_meets Match.bound Match.bind_up_to Match.bind_one all act_of made_key took_tuple read_tuple made_locality Products.continued_by Products.variables_after Products.references_after Products.second_by Products.tuple_by Products.process_by tab
c_rollback_ends = refl

c_rollback_holds : Holds c_rollback
unfolding run end outcome Answers.answer Answers.checks_of Answers.in_range Answers.forward_checks Answers.backward_checks Answers.rollback_checks Answers.roll_checks refusal Answers.places_of Answers.no_places Answers.tuple_there Answers.fresh_free Answers.made_stays Answers.can_undo Answers.event Answers.net_after Answers.undone Answers.touched_word word_of including touched any count Dependents.rounds Dependents.grow Dependents.closure Dependents.dependents depends forward made_by taken_by locality_by again_by undo_set Products.target_by Products.fits Evaluate.target_of Evaluate.actual Products.ready_by Evaluate.fields_ready Evaluate.is_ready Match.meets Match.place_meets Match.field_meets Match.bound Match.bind_up_to Match.bind_one all act_of made_key took_tuple read_tuple made_locality product Products.continued_by Products.variables_after Products.references_after Products.second_by Products.tuple_by Products.process_by tab
c_rollback_holds = rolls_back c_rollback net_c₂.present slots_c₂ (omega arith) 1 (1 ∷ []) refl (refl, tt) (here, tt) refl c_rollback_ends refl

d_forward_holds : Holds d_forward
unfolding run end outcome Answers.answer Answers.checks_of Answers.in_range Answers.forward_checks Answers.backward_checks Answers.rollback_checks Answers.roll_checks refusal Answers.places_of Answers.no_places Answers.tuple_there Answers.fresh_free Answers.made_stays Answers.can_undo Answers.event Answers.net_after Answers.undone Answers.touched_word word_of including touched any count Dependents.rounds Dependents.grow Dependents.closure Dependents.dependents depends forward made_by taken_by locality_by again_by undo_set Products.target_by Products.fits Evaluate.target_of Evaluate.actual Products.ready_by Evaluate.fields_ready Evaluate.is_ready Match.meets Match.place_meets Match.field_meets Match.bound Match.bind_up_to Match.bind_one all act_of made_key took_tuple read_tuple made_locality product Products.continued_by Products.variables_after Products.references_after Products.second_by Products.tuple_by Products.process_by tab
d_forward_holds = record { answers = refl; ending = refl }

d_rollback_ends : end d_rollback.start d_rollback.requests ≡ undo_set net_d₂ (dependents net_d₂ 0)
unfolding run end outcome Answers.answer Answers.checks_of Answers.in_range Answers.forward_checks Answers.backward_checks Answers.rollback_checks Answers.roll_checks refusal Answers.places_of Answers.no_places Answers.tuple_there Answers.fresh_free Answers.made_stays Answers.can_undo Answers.event Answers.net_after any depends Products.target_by Products.fits Evaluate.target_of Evaluate.actual Products.ready_by Evaluate.fields_ready Evaluate.is_ready Match.meets Match.place_meets Match.field_meets Match.bound Match.bind_up_to Match.bind_one all act_of made_key took_tuple read_tuple made_locality Products.continued_by Products.variables_after Products.references_after Products.second_by Products.tuple_by Products.process_by tab
d_rollback_ends = refl

d_rollback_holds : Holds d_rollback
unfolding run end outcome Answers.answer Answers.checks_of Answers.in_range Answers.forward_checks Answers.backward_checks Answers.rollback_checks Answers.roll_checks refusal Answers.places_of Answers.no_places Answers.tuple_there Answers.fresh_free Answers.made_stays Answers.can_undo Answers.event Answers.net_after Answers.undone Answers.touched_word word_of including touched any count Dependents.rounds Dependents.grow Dependents.closure Dependents.dependents depends forward made_by taken_by locality_by again_by undo_set Products.target_by Products.fits Evaluate.target_of Evaluate.actual Products.ready_by Evaluate.fields_ready Evaluate.is_ready Match.meets Match.place_meets Match.field_meets Match.bound Match.bind_up_to Match.bind_one all act_of made_key took_tuple read_tuple made_locality product Products.continued_by Products.variables_after Products.references_after Products.second_by Products.tuple_by Products.process_by tab
d_rollback_holds = rolls_back d_rollback net_d₂.present slots_d₂ (omega arith) 0 (0 ∷ 1 ∷ []) refl (refl, (refl, tt)) (here, (step refl here, tt)) refl d_rollback_ends refl

d_locality_7_holds : Holds d_locality_7
unfolding run end outcome Answers.answer Answers.checks_of Answers.in_range Answers.forward_checks Answers.backward_checks Answers.rollback_checks Answers.roll_checks refusal Answers.places_of Answers.no_places Answers.tuple_there Answers.fresh_free Answers.made_stays Answers.can_undo Answers.event Answers.net_after Answers.undone Answers.touched_word word_of including touched any count Dependents.rounds Dependents.grow Dependents.closure Dependents.dependents depends forward made_by taken_by locality_by again_by undo_set Products.target_by Products.fits Evaluate.target_of Evaluate.actual Products.ready_by Evaluate.fields_ready Evaluate.is_ready Match.meets Match.place_meets Match.field_meets Match.bound Match.bind_up_to Match.bind_one all act_of made_key took_tuple read_tuple made_locality product Products.continued_by Products.variables_after Products.references_after Products.second_by Products.tuple_by Products.process_by tab
d_locality_7_holds = record { answers = refl; ending = refl }

d_locality_31_holds : Holds d_locality_31
unfolding run end outcome Answers.answer Answers.checks_of Answers.in_range Answers.forward_checks Answers.backward_checks Answers.rollback_checks Answers.roll_checks refusal Answers.places_of Answers.no_places Answers.tuple_there Answers.fresh_free Answers.made_stays Answers.can_undo Answers.event Answers.net_after Answers.undone Answers.touched_word word_of including touched any count Dependents.rounds Dependents.grow Dependents.closure Dependents.dependents depends forward made_by taken_by locality_by again_by undo_set Products.target_by Products.fits Evaluate.target_of Evaluate.actual Products.ready_by Evaluate.fields_ready Evaluate.is_ready Match.meets Match.place_meets Match.field_meets Match.bound Match.bind_up_to Match.bind_one all act_of made_key took_tuple read_tuple made_locality product Products.continued_by Products.variables_after Products.references_after Products.second_by Products.tuple_by Products.process_by tab
d_locality_31_holds = record { answers = refl; ending = refl }

d_locality_32_holds : Holds d_locality_32
unfolding run end outcome Answers.answer Answers.checks_of Answers.in_range Answers.forward_checks Answers.backward_checks Answers.rollback_checks Answers.roll_checks refusal Answers.places_of Answers.no_places Answers.tuple_there Answers.fresh_free Answers.made_stays Answers.can_undo Answers.event Answers.net_after Answers.undone Answers.touched_word word_of including touched any count Dependents.rounds Dependents.grow Dependents.closure Dependents.dependents depends forward made_by taken_by locality_by again_by undo_set Products.target_by Products.fits Evaluate.target_of Evaluate.actual Products.ready_by Evaluate.fields_ready Evaluate.is_ready Match.meets Match.place_meets Match.field_meets Match.bound Match.bind_up_to Match.bind_one all act_of made_key took_tuple read_tuple made_locality product Products.continued_by Products.variables_after Products.references_after Products.second_by Products.tuple_by Products.process_by tab
d_locality_32_holds = record { answers = refl; ending = refl }

a_equal_holds : Holds a_equal
unfolding run end outcome Answers.answer Answers.checks_of Answers.in_range Answers.forward_checks Answers.backward_checks Answers.rollback_checks Answers.roll_checks refusal Answers.places_of Answers.no_places Answers.tuple_there Answers.fresh_free Answers.made_stays Answers.can_undo Answers.event Answers.net_after Answers.undone Answers.touched_word word_of including touched any count Dependents.rounds Dependents.grow Dependents.closure Dependents.dependents depends forward made_by taken_by locality_by again_by undo_set Products.target_by Products.fits Evaluate.target_of Evaluate.actual Products.ready_by Evaluate.fields_ready Evaluate.is_ready Match.meets Match.place_meets Match.field_meets Match.bound Match.bind_up_to Match.bind_one all act_of made_key took_tuple read_tuple made_locality product Products.continued_by Products.variables_after Products.references_after Products.second_by Products.tuple_by Products.process_by tab
a_equal_holds = record { answers = refl; ending = refl }

a_taken_holds : Holds a_taken
unfolding run end outcome Answers.answer Answers.checks_of Answers.in_range Answers.forward_checks Answers.backward_checks Answers.rollback_checks Answers.roll_checks refusal Answers.places_of Answers.no_places Answers.tuple_there Answers.fresh_free Answers.made_stays Answers.can_undo Answers.event Answers.net_after Answers.undone Answers.touched_word word_of including touched any count Dependents.rounds Dependents.grow Dependents.closure Dependents.dependents depends forward made_by taken_by locality_by again_by undo_set Products.target_by Products.fits Evaluate.target_of Evaluate.actual Products.ready_by Evaluate.fields_ready Evaluate.is_ready Match.meets Match.place_meets Match.field_meets Match.bound Match.bind_up_to Match.bind_one all act_of made_key took_tuple read_tuple made_locality product Products.continued_by Products.variables_after Products.references_after Products.second_by Products.tuple_by Products.process_by tab
a_taken_holds = record { answers = refl; ending = refl }

a_far_holds : Holds a_far
unfolding run end outcome Answers.answer Answers.checks_of Answers.in_range Answers.forward_checks Answers.backward_checks Answers.rollback_checks Answers.roll_checks refusal Answers.places_of Answers.no_places Answers.tuple_there Answers.fresh_free Answers.made_stays Answers.can_undo Answers.event Answers.net_after Answers.undone Answers.touched_word word_of including touched any count Dependents.rounds Dependents.grow Dependents.closure Dependents.dependents depends forward made_by taken_by locality_by again_by undo_set Products.target_by Products.fits Evaluate.target_of Evaluate.actual Products.ready_by Evaluate.fields_ready Evaluate.is_ready Match.meets Match.place_meets Match.field_meets Match.bound Match.bind_up_to Match.bind_one all act_of made_key took_tuple read_tuple made_locality product Products.continued_by Products.variables_after Products.references_after Products.second_by Products.tuple_by Products.process_by tab
a_far_holds = record { answers = refl; ending = refl }

a_out_of_range_holds : Holds a_out_of_range
unfolding run end outcome Answers.answer Answers.checks_of Answers.in_range Answers.forward_checks Answers.backward_checks Answers.rollback_checks Answers.roll_checks refusal Answers.places_of Answers.no_places Answers.tuple_there Answers.fresh_free Answers.made_stays Answers.can_undo Answers.event Answers.net_after Answers.undone Answers.touched_word word_of including touched any count Dependents.rounds Dependents.grow Dependents.closure Dependents.dependents depends forward made_by taken_by locality_by again_by undo_set Products.target_by Products.fits Evaluate.target_of Evaluate.actual Products.ready_by Evaluate.fields_ready Evaluate.is_ready Match.meets Match.place_meets Match.field_meets Match.bound Match.bind_up_to Match.bind_one all act_of made_key took_tuple read_tuple made_locality product Products.continued_by Products.variables_after Products.references_after Products.second_by Products.tuple_by Products.process_by tab
a_out_of_range_holds = record { answers = refl; ending = refl }

split_holds : Holds split
unfolding run end outcome Answers.answer Answers.checks_of Answers.in_range Answers.forward_checks Answers.backward_checks Answers.rollback_checks Answers.roll_checks refusal Answers.places_of Answers.no_places Answers.tuple_there Answers.fresh_free Answers.made_stays Answers.can_undo Answers.event Answers.net_after Answers.undone Answers.touched_word word_of including touched any count Dependents.rounds Dependents.grow Dependents.closure Dependents.dependents depends forward made_by taken_by locality_by again_by undo_set Products.target_by Products.fits Evaluate.target_of Evaluate.actual Products.ready_by Evaluate.fields_ready Evaluate.is_ready Match.meets Match.place_meets Match.field_meets Match.bound Match.bind_up_to Match.bind_one all act_of made_key took_tuple read_tuple made_locality product Products.continued_by Products.variables_after Products.references_after Products.second_by Products.tuple_by Products.process_by tab
split_holds = record { answers = refl; ending = refl }

split_back_holds : Holds split_back
unfolding run end outcome Answers.answer Answers.checks_of Answers.in_range Answers.forward_checks Answers.backward_checks Answers.rollback_checks Answers.roll_checks refusal Answers.places_of Answers.no_places Answers.tuple_there Answers.fresh_free Answers.made_stays Answers.can_undo Answers.event Answers.net_after Answers.undone Answers.touched_word word_of including touched any count Dependents.rounds Dependents.grow Dependents.closure Dependents.dependents depends forward made_by taken_by locality_by again_by undo_set Products.target_by Products.fits Evaluate.target_of Evaluate.actual Products.ready_by Evaluate.fields_ready Evaluate.is_ready Match.meets Match.place_meets Match.field_meets Match.bound Match.bind_up_to Match.bind_one all act_of made_key took_tuple read_tuple made_locality product Products.continued_by Products.variables_after Products.references_after Products.second_by Products.tuple_by Products.process_by tab
split_back_holds = record { answers = refl; ending = refl }

read_matches_holds : Holds read_matches
unfolding run end outcome Answers.answer Answers.checks_of Answers.in_range Answers.forward_checks Answers.backward_checks Answers.rollback_checks Answers.roll_checks refusal Answers.places_of Answers.no_places Answers.tuple_there Answers.fresh_free Answers.made_stays Answers.can_undo Answers.event Answers.net_after Answers.undone Answers.touched_word word_of including touched any count Dependents.rounds Dependents.grow Dependents.closure Dependents.dependents depends forward made_by taken_by locality_by again_by undo_set Products.target_by Products.fits Evaluate.target_of Evaluate.actual Products.ready_by Evaluate.fields_ready Evaluate.is_ready Match.meets Match.place_meets Match.field_meets Match.bound Match.bind_up_to Match.bind_one all act_of made_key took_tuple read_tuple made_locality product Products.continued_by Products.variables_after Products.references_after Products.second_by Products.tuple_by Products.process_by tab
read_matches_holds = record { answers = refl; ending = refl }

read_differs_holds : Holds read_differs
unfolding run end outcome Answers.answer Answers.checks_of Answers.in_range Answers.forward_checks Answers.backward_checks Answers.rollback_checks Answers.roll_checks refusal Answers.places_of Answers.no_places Answers.tuple_there Answers.fresh_free Answers.made_stays Answers.can_undo Answers.event Answers.net_after Answers.undone Answers.touched_word word_of including touched any count Dependents.rounds Dependents.grow Dependents.closure Dependents.dependents depends forward made_by taken_by locality_by again_by undo_set Products.target_by Products.fits Evaluate.target_of Evaluate.actual Products.ready_by Evaluate.fields_ready Evaluate.is_ready Match.meets Match.place_meets Match.field_meets Match.bound Match.bind_up_to Match.bind_one all act_of made_key took_tuple read_tuple made_locality product Products.continued_by Products.variables_after Products.references_after Products.second_by Products.tuple_by Products.process_by tab
read_differs_holds = record { answers = refl; ending = refl }

-- every starred case of document 01
pub starred : All table
starred =
    also a_forward_holds (also a_roll_holds (also b_forward_holds (also b_rollback_1_holds (also b_rollback_2_holds (also c_forward_holds (also c_rollback_holds (also d_forward_holds (also d_rollback_holds (also d_locality_7_holds (also d_locality_31_holds (also d_locality_32_holds (also a_equal_holds (also a_taken_holds (also a_far_holds (also a_out_of_range_holds (also split_holds (also split_back_holds (also read_matches_holds (also read_differs_holds none)))))))))))))))))))
