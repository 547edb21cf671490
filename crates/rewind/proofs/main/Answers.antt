use Rattle.std.proofs.Common.{ℕ, ◌≡◌, List, Bool, true, false, not, length, take, refl, sym, ap, ◌∙◌, subst, arith, take_all, rules}
use Rattle.std.proofs.lemmas.Bool.{false≢true}
use Rattle.std.proofs.lemmas.List.{length-take}
use denote.Enum.Bare.{same_true, sameb}
use Rattle.requests.specs.contracts.Answer.{the_type}
use Rattle.requests.specs.declared.Answer.{Answer}
use Rattle.requests.specs.Requests.{is_done}
use Rattle.machine.specs.Calls.{GoodImages}
use Rattle.machine.specs.Called.{answer_good}
use Rattle.machine.specs.OnBytes.{script_size, net_size}
use Rattle.rewind.proofs.main.Goals as goal

not_false : (b : Bool) → false ≡ not b → b ≡ true
not_false true h = refl
not_false false h = absurd (false≢true h)

-- a front that is as long as the whole is the whole
whole : (n c : ℕ) (xs : List ℕ) → length (take n xs) ≡ c → length xs ≡ c → take n xs ≡ xs
whole n c xs h e = take_all n xs (omega (arith, length-take n xs, h, e))

pub answer_all-requires : goal.answer_all-requires
answer_all-requires c =
    let S = c.read_full.new.room in
    let N = c.read_full-2.new.room in
    let n = c.unwrap_or-script_length.result in
    let m = c.unwrap_or-net_length.result in
    let a = c.image_answer-answer.result in
    let done : a ≡ Answer.Done = same_true the_type (search rules) a Answer.Done (not_false (sameb the_type a Answer.Done) (sym c.if-ne.false ∙ c.ne.ensures)) in
    let good : GoodImages (take n S) (take m N) = answer_good (take n S) (take m N) a c.image_answer-answer.ensures (ap is_done done) in
    subst (λ (s : List ℕ). GoodImages s N) (whole n 2064 S (script_size _ _ good) (search rules))
    (subst (λ (t : List ℕ). GoodImages (take n S) t) (whole m 3600 N (net_size _ _ good) (search rules)) good)
