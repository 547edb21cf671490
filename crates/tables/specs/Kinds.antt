-- The kinds of a script's nodes, and what each makes: what the tables write out for a kind is what the one definition for all kinds gives there.
--
-- In order: a kind and its act (`is_out_lem` and so on from the kind, `kind_is` back); nothing is evaluated by newloc and split (`new_ready`,
-- `split_ready`); the continuation (`out_next`, `in_next`, `read_next`, `new_next`, `eval_next`, `split_next`) and what is made besides (`out_second`,
-- `eval_second`, `split_second`).
-- Assumes nothing.
use Rattle.std.specs.Prelude.{◌≡◌, true, ℕ, zero, suc, ◌<◌, eqb}
use Rattle.std.proofs.Common.{ap, arith}
use Rattle.std.proofs.Math.Logic.{⊎_elim}
use Rattle.std.proofs.Math.Bool.{false}
use Rattle.std.proofs.Math.Dec.{ltb}
use borrow.Author.Tests.{eqb-true, eq-eqb, le-ltb}
use Rattle.laws.specs.Choice.{clash}
use Rattle.names.specs.Names.{key, locality, reference_count}
use Rattle.images.specs.Script.{action0, script_in_range}
use Rattle.images.specs.Shape.{ShapedScript}
use Rattle.images.specs.declared.Action.{Action}
use Rattle.images.specs.declared.Script.{Script}
use Rattle.nets.specs.Rules.{number}
use Rattle.nets.specs.Rules
use Rattle.products.specs.Body.{Body}
use Rattle.products.specs.Products.{is_out, is_in, is_read, is_newloc, is_eval, is_split, action, kind_of, is_ready, variables_after, references_after, continuation, tuple_made, second_made, continued_by, process_by, ready_by, second_by}
use Rattle.rules.specs.Nodes.{node_cases, split_reference}
use Rattle.rules.specs.Instance.{act_of}
use Rattle.tables.specs.Table.{following, matched, binding, spawned, left, right}

-- ---- a kind and its act

pub is_out_lem : (k : ℕ) → is_out k ≡ true → act_of k ≡ Rules.out
unfolding act_of
is_out_lem k h = ap act_of (eqb-true k 1 h)

pub is_in_lem : (k : ℕ) → is_in k ≡ true → act_of k ≡ Rules.take
unfolding act_of
is_in_lem k h = ap act_of (eqb-true k 2 h)

pub is_read_lem : (k : ℕ) → is_read k ≡ true → act_of k ≡ Rules.read
unfolding act_of
is_read_lem k h = ap act_of (eqb-true k 3 h)

pub is_newloc_lem : (k : ℕ) → is_newloc k ≡ true → act_of k ≡ Rules.newloc
unfolding act_of
is_newloc_lem k h = ap act_of (eqb-true k 4 h)

pub is_eval_lem : (k : ℕ) → is_eval k ≡ true → act_of k ≡ Rules.eval
unfolding act_of
is_eval_lem k h = ap act_of (eqb-true k 5 h)

pub is_split_lem : (k : ℕ) → is_split k ≡ true → act_of k ≡ Rules.split
unfolding act_of
is_split_lem k h = ap act_of (eqb-true k 6 h)

-- an act but nil is that of one kind
pub kind_is : (k m : ℕ) → number (act_of k) ≡ m → 0 < m → eqb k m ≡ true
unfolding act_of
kind_is k m h p = eq-eqb k m (same k m h p)
  where
    same : (k m : ℕ) → number (act_of k) ≡ m → 0 < m → k ≡ m
    same zero m h p = absurd (omega (arith, h))
    same (suc zero) m h p = h
    same (suc (suc zero)) m h p = h
    same (suc (suc (suc zero))) m h p = h
    same (suc (suc (suc (suc zero)))) m h p = h
    same (suc (suc (suc (suc (suc zero))))) m h p = h
    same (suc (suc (suc (suc (suc (suc zero)))))) m h p = h
    same (suc (suc (suc (suc (suc (suc (suc zero))))))) m h p = h
    same (suc (suc (suc (suc (suc (suc (suc (suc k)))))))) m h p = absurd (omega (arith, h))

module _ (s : Script) (b : Body) where
  -- ---- nothing to evaluate

  pub new_ready : is_newloc (kind_of s b) ≡ true → is_ready s b ≡ true
  unfolding ready_by
  new_ready h = rw (eqb-true (kind_of s b) 4 h)

  pub split_ready : is_split (kind_of s b) ≡ true → is_ready s b ≡ true
  unfolding ready_by
  split_ready h = rw (eqb-true (kind_of s b) 6 h)

  -- ---- the continuation

  module _ (k : ℕ) (t : Body) (l : ℕ) where
    pub out_next : is_out (kind_of s b) ≡ true → continuation s (key k) b t (locality l) ≡ following s k b b.contents
    unfolding continued_by variables_after
    out_next h = rw (eqb-true (kind_of s b) 1 h)

    pub in_next : is_in (kind_of s b) ≡ true → continuation s (key k) b t (locality l) ≡ following s k b (matched s b t)
    unfolding continued_by variables_after
    in_next h = rw (eqb-true (kind_of s b) 2 h)

    pub read_next : is_read (kind_of s b) ≡ true → continuation s (key k) b t (locality l) ≡ following s k b (matched s b t)
    unfolding continued_by variables_after
    read_next h = rw (eqb-true (kind_of s b) 3 h)

    pub new_next : is_newloc (kind_of s b) ≡ true → continuation s (key k) b t (locality l) ≡ following s k b (binding s b l)
    unfolding continued_by variables_after
    new_next h = rw (eqb-true (kind_of s b) 4 h)

    pub eval_next : is_eval (kind_of s b) ≡ true → continuation s (key k) b t (locality l) ≡ following s k b b.contents
    unfolding continued_by variables_after
    eval_next h = rw (eqb-true (kind_of s b) 5 h)

    -- a split has no reference
    pub split_next : ShapedScript s → script_in_range s ≡ true → is_split (kind_of s b) ≡ true → continuation s (key k) b t (locality l) ≡ left s b
    unfolding continued_by variables_after references_after
    split_next w range h = rw (eqb-true (kind_of s b) 6 h, no_reference)
      where
        no_reference : ltb (action s b).reference.0 reference_count ≡ false
        no_reference =
            ⊎_elim (λ r. le-ltb (action s b).reference.0 reference_count (omega (arith, split_reference (action s b) r h)))
            (λ (e : action s b ≡ action0). clash (is_split (kind_of s b)) h (ap (λ (x : Action). is_split x.kind) e))
            (node_cases s w range b.node.0)

  -- ---- what is made besides

  pub out_second : is_out (kind_of s b) ≡ true → second_made s b ≡ tuple_made s b
  unfolding second_by
  out_second h = rw h

  pub eval_second : is_eval (kind_of s b) ≡ true → second_made s b ≡ spawned s b
  unfolding second_by process_by
  eval_second h = rw (eqb-true (kind_of s b) 5 h)

  pub split_second : is_split (kind_of s b) ≡ true → second_made s b ≡ right s b
  unfolding second_by process_by
  split_second h = rw (eqb-true (kind_of s b) 6 h)
