-- What the verdict says. A net in range is accepted exactly when the verdict is that it is; any other verdict names the first clause that does
-- not hold.
--
-- In order: what each verdict says (`Says`); the first clause that fails (`first_of`), and that the verdict says so (`verdict_says`). The law is in proofs/Laws.
-- Assumes nothing.
use Rattle.std.specs.Prelude.{◌≡◌, refl, Bool, true, false, Result, Ok, Err}
use Rattle.laws.specs.Choice.{pick}
use Rattle.order.specs.Peeling.{acyclic}
use Rattle.names.specs.Names.{key_count, locality_count}
use Rattle.images.specs.declared.Script.{Script}
use Rattle.nets.specs.Net.{Net, events, depends}
use Rattle.nets.specs.Accepting.{once_each, tuples_right, localities_right, roots_right}
use Rattle.rules.specs.Instance.{rules_of}
use Rattle.accept.specs.Verdict.{all_agree, verdict}
use Rattle.accept.specs.declared.Fault.{Fault}

-- ---- what each verdict says

-- of six clauses, in their order: those before its own hold, and its own does not
abbrev pub SaysOf : Bool → Bool → Bool → Bool → Bool → Bool → Result (Unit {0}) Fault → Type 0
SaysOf a o t l r c (Ok done) = (a ≡ true) × (o ≡ true) × (t ≡ true) × (l ≡ true) × (r ≡ true) × (c ≡ true)
SaysOf a o t l r c (Err Fault.Disagrees) = a ≡ false
SaysOf a o t l r c (Err Fault.Twice) = (a ≡ true) × (o ≡ false)
SaysOf a o t l r c (Err Fault.WrongTuple) = (a ≡ true) × (o ≡ true) × (t ≡ false)
SaysOf a o t l r c (Err Fault.WrongLocality) = (a ≡ true) × (o ≡ true) × (t ≡ true) × (l ≡ false)
SaysOf a o t l r c (Err Fault.WrongRoot) = (a ≡ true) × (o ≡ true) × (t ≡ true) × (l ≡ true) × (r ≡ false)
SaysOf a o t l r c (Err Fault.Cycle) = (a ≡ true) × (o ≡ true) × (t ≡ true) × (l ≡ true) × (r ≡ true) × (c ≡ false)

-- the clauses of document 01's paragraph, in its order
abbrev pub Says : (s : Script) → Net (rules_of s) → Result (Unit {0}) Fault → Type 0
Says s n =
    SaysOf (all_agree s n) (once_each locality_count n) (tuples_right n) (localities_right locality_count n) (roots_right n) (acyclic key_count (depends n) (events n))

-- the first of the clauses that does not hold
abbrev pub first_of : Bool → Bool → Bool → Bool → Bool → Bool → Result (Unit {0}) Fault
first_of agrees once tuples localities roots ordered =
    pick agrees
    (pick once
    (pick tuples (pick localities (pick roots (pick ordered (Ok tt) (Err Fault.Cycle)) (Err Fault.WrongRoot)) (Err Fault.WrongLocality)) (Err Fault.WrongTuple))
    (Err Fault.Twice))
    (Err Fault.Disagrees)

first_says : (a o t l r c : Bool) → SaysOf a o t l r c (first_of a o t l r c)
first_says false o t l r c = refl
first_says true false t l r c = (refl, refl)
first_says true true false l r c = (refl, refl, refl)
first_says true true true false r c = (refl, refl, refl, refl)
first_says true true true true false c = (refl, refl, refl, refl, refl)
first_says true true true true true false = (refl, refl, refl, refl, refl, refl)
first_says true true true true true true = (refl, refl, refl, refl, refl, refl)

pub verdict_says : (s : Script) (n : Net (rules_of s)) → Says s n (verdict s n)
unfolding verdict
verdict_says s n =
    first_says (all_agree s n) (once_each locality_count n) (tuples_right n) (localities_right locality_count n) (roots_right n) (acyclic key_count (depends n) (events n))
