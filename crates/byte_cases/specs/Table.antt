-- Document 01's starred cases, on bytes: the script, the net and the requests of each case as bytes, and what the machine replies to them.
--
-- In order: a case on bytes (`HoldsOnBytes`), all of a list (`AllOnBytes`). Then the proofs: any case of the table is carried to bytes
-- once an image holds its start (`on_bytes`), and then its end may begin another case (`ends_kept`); the nets after steps that a case begins with;
-- the table (`starred_on_bytes`).
-- Assumes nothing.
use Rattle.std.specs.Prelude.{ℕ, ◌≤◌, ◌≡◌, refl, false, ◌||◌, List, [], ◌∷◌, eqb, ltb}
use Rattle.std.proofs.Common.{ap, ◌∙◌, arith, ne_eqb}
use Rattle.images.specs.Script.{script_bytes}
use Rattle.images.specs.Net.{net_bytes}
use Rattle.images.specs.Examples.{script_t}
use Rattle.nets.specs.Net.{Net}
use Rattle.nets.specs.Accepted.{Bounded}
use Rattle.rules.specs.Image.{image_of}
use Rattle.requests.specs.Answers.{Request, outcome}
use Rattle.machine.specs.After.{Kept}
use Rattle.cases.specs.Script.{T, rolled, shaped-T, range-T}
use Rattle.cases.specs.Table as Theory
use Rattle.cases.specs.Table.{Result, Case, result_of, run, end, shown, Holds, All, table, starred, a_forward, a_roll, b_forward, b_rollback_1, c_forward, c_rollback, d_forward, d_rollback, split, split_back}
use Rattle.byte_cases.specs.Run.{requests_bytes, run_bytes, end_bytes, run_on, end_on, run_on_bytes, end_on_bytes, end_kept}
use Rattle.byte_cases.specs.Starts.{Within, bounded, within, kept-A, kept-B, kept-C, kept-D, kept-E, kept-F, kept-G, image_shown, kept_shown}

-- ---- the statement

abbrev pub bytes_of_t : List ℕ
bytes_of_t = script_bytes script_t

abbrev pub bytes_of_net : Net T → List ℕ
bytes_of_net m = net_bytes (image_of script_t m)

-- the calls are answered as the case says, and the bytes at the end are those of the case's net
pub record HoldsOnBytes (c : Case) : Type 0 where
  pub answers : run_bytes bytes_of_t (bytes_of_net c.start) (requests_bytes c.requests) ≡ c.results
  pub ending : end_bytes bytes_of_t (bytes_of_net c.start) (requests_bytes c.requests) ≡ bytes_of_net c.ends

pub data AllOnBytes : List Case → Type 0 where
  none : AllOnBytes []
  also : {c : Case} {cs : List Case} → HoldsOnBytes c → AllOnBytes cs → AllOnBytes (c ∷ cs)

-- ---- a case carried to bytes

-- the table's runs are those of its script
run_is : (m : Net T) (rs : List Request) → run_on script_t m rs ≡ run m rs
unfolding run_on run
run_is m [] = refl
run_is m (r ∷ rs) = ap (λ (xs : List Result). result_of (outcome rolled m r) ∷ xs) (run_is (outcome rolled m r).net rs)

end_is : (m : Net T) (rs : List Request) → end_on script_t m rs ≡ end m rs
unfolding end_on end
end_is m [] = refl
end_is m (r ∷ rs) = end_is (outcome rolled m r).net rs

module _ (c : Case) (k : Kept script_t c.start) (h : Holds c) where
  -- the net at the end is shown as the case's
  ends_shown : shown (end_on script_t c.start c.requests) ≡ shown c.ends
  ends_shown = ap shown (end_is c.start c.requests) ∙ h.ending

  pub on_bytes : HoldsOnBytes c
  on_bytes =
      record {
        answers = run_on_bytes script_t shaped-T range-T c.start k c.requests ∙ run_is c.start c.requests ∙ h.answers;
        ending =
            end_on_bytes script_t shaped-T range-T c.start k c.requests ∙
            ap net_bytes (image_shown (end_on script_t c.start c.requests) c.ends ends_shown);
      }

  pub ends_kept : Bounded c.ends → Within c.ends → Kept script_t c.ends
  ends_kept few small =
      kept_shown (end_on script_t c.start c.requests) c.ends ends_shown
      (end_kept script_t shaped-T range-T c.start k c.requests) few small

-- ---- what holds of each case of a list

abbrev Each : (Case → Type 0) → List Case → Type 0
Each P [] = Unit
Each P (c ∷ cs) = P c × Each P cs

each_holds : {cs : List Case} → All cs → Each Holds cs
each_holds Theory.none = tt
each_holds (Theory.also h rest) = (h, each_holds rest)

carried : {cs : List Case} → All cs → Each (λ c. Kept script_t c.start) cs → AllOnBytes cs
carried Theory.none ks = none
carried (Theory.also {c = c} h rest) ks = also (on_bytes c ks.0 h) (carried rest ks.1)

-- ---- nets after steps that a case begins with: each is the end of another case

holds : Each Holds table
holds = each_holds starred

kept-A₂ : Kept script_t a_roll.start
kept-A₂ = ends_kept a_forward kept-A holds.0 (bounded a_forward.ends (λ j. refl)) (within 1 refl)

kept-B₂ : Kept script_t b_rollback_1.start
kept-B₂ = ends_kept b_forward kept-B holds.1.1.0 (bounded b_forward.ends (λ j. refl)) (within 3 refl)

kept-C₂ : Kept script_t c_rollback.start
kept-C₂ = ends_kept c_forward kept-C holds.1.1.1.1.1.0 (bounded c_forward.ends (λ j. refl)) (within 3 refl)

-- localities 0 and 8
within-D : (l : ℕ) → 32 ≤ l → (ltb l 1 || eqb l 8) ≡ false
within-D l h = rw (within 1 refl l h) (ne_eqb l 8 (λ e. omega arith))

kept-D₂ : Kept script_t d_rollback.start
kept-D₂ = ends_kept d_forward kept-D holds.1.1.1.1.1.1.1.0 (bounded d_forward.ends (λ j. refl)) within-D

kept-E₁ : Kept script_t split_back.start
kept-E₁ = ends_kept split kept-E holds.1.1.1.1.1.1.1.1.1.1.1.1.1.1.1.1.0 (bounded split.ends (λ j. refl)) (within 1 refl)

-- ---- every starred case of document 01, on bytes

pub starred_on_bytes : AllOnBytes table
starred_on_bytes =
    carried starred
    (kept-A, (kept-A₂, (kept-B, (kept-B₂, (kept-B₂, (kept-C, (kept-C₂, (kept-D, (kept-D₂, (kept-D, (kept-D, (kept-D, (kept-A, (kept-A, (kept-A, (kept-A, (kept-E, (kept-E₁, (kept-F, (kept-G, tt))))))))))))))))))))
