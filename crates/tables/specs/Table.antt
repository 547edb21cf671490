-- The forward rules of 004, Table X (Table VII without references), and its law Split read as a step: one constructor for each rule.
--
-- In order: what goes on in place of a process (`following`, under the variables that are `matched` or that take the new locality by `binding`; `spawned`;
-- `left` and `right`); `Step`, with `Out`, `In`, `Read`, `New`, `Eval` and `Split`.
--
-- How a net stands for a net of 004. l :: k : a.P is a live process at the key k, whose contents b hold its locality l, its node (the action a, with what
-- follows it), the values of the variables and the keys of the references. l :: k : ⟨et⟩ is a live tuple at k, whose contents hold l and et. l :: empty is
-- that l is present: "Existence of the target node l' is guaranteed by requiring a parallel term l' :: empty". All that a rule does not name stays, which is
-- 004's closure under contexts. Keys are names already, so that (νk') is the choice of a free one.
-- A rule's premises stand in this order: the process and the kind of its action; that its fields and its target can be evaluated; its target; the tuple at
-- the target, and the match; what is fresh; last, the net that the rule leads to. Table X prints the memories of out and eval with k'' alone: here they are
-- as in Tables VII and IX, with k'' and k'.
-- Assumes nothing.
use Rattle.std.specs.Prelude.{◌≡◌, List, true, ℕ, ◌<◌}
use Rattle.order.specs.KeySets.{◌∈◌, ◌∉◌}
use Rattle.names.specs.Names.{none, key_count, key, locality}
use Rattle.names.specs.declared.Key.{Key}
use Rattle.names.specs.declared.Locality.{Locality}
use Rattle.names.specs.declared.Node.{Node}
use Rattle.images.specs.declared.Script.{Script}
use Rattle.images.specs.declared.Datum.{Datum}
use Rattle.matching.specs.Match.{bound, with_variable}
use Rattle.nets.specs.Net.{live, tuple, consumed, Net, fresh}
use Rattle.products.specs.Body.{Body}
use Rattle.products.specs.Products.{is_out, is_in, is_read, is_newloc, is_eval, is_split, action, kind_of, target, is_ready, fits, references_after, tuple_made}
use Rattle.rules.specs.Instance.{rules_of, makeable}
use Rattle.tables.specs.Terms.{Holds, memory, Free, put, with_locality}

-- ---- what goes on

-- a process at a locality and a node, with these variables and references
abbrev pub process : Locality → Node → List Datum → List Key → Body
process l p vars refs = record { locality = l; node = p; count = 0; contents = vars; refs = refs }

-- P[k/γ], after the action of the process with key k and contents b, under these variables: "a new live process at the same locality, node next", and
-- "the node's reference, if any, takes the old key"
abbrev pub following : Script → ℕ → Body → List Datum → Body
following s k b vars = process b.locality (action s b).next vars (references_after (action s b) (key k) b.refs)

-- σ: the variables after a match with the tuple t, "an in or read binds its formals"
abbrev pub matched : Script → Body → Body → List Datum
matched s b t = bound b.contents (action s b) t.contents

-- the variables where the locality l is the new one: "newloc binds its variable"
abbrev pub binding : Script → Body → ℕ → List Datum
binding s b l = with_variable b.contents (action s b).target.number (record { tag = 2; number = l })

-- Q of an eval: "a process at the target, node other, variables and references as before the step, without the new reference"
abbrev pub spawned : Script → Body → Body
spawned s b = process (locality (target s b)) (action s b).other b.contents b.refs

-- P and Q of a split: next and other, "both unchanged otherwise"
abbrev pub left : Script → Body → Body
left s b = process b.locality (action s b).next b.contents b.refs

abbrev pub right : Script → Body → Body
right s b = process b.locality (action s b).other b.contents b.refs

-- ---- the table

module _ (s : Script) where
  -- n ↦ m by one of the rules
  pub data Step (n m : Net (rules_of s)) : Type 0 where
    -- (Out) If ⟦t⟧ = et, then
    -- l :: k : out_γ(t)@l'.P ∥ l' :: empty ↦ (νk', k'')(l :: k' : P[k/γ] | [k : out_γ(t)@l'.P; k''; k'] ∥ l' :: k'' : ⟨et⟩).
    -- Document 01: "out: byte 3 continuation, 4 new tuple at the target."
    Out : (k k' k'' : ℕ) (b : Body)
        → Holds n k live b → is_out (kind_of s b) ≡ true
        → is_ready s b ≡ true
        → target s b ∈ n.present
        → Free n k' → Free n k'' → (k' ≡ k'' → ⊥)
        → m ≡ put k' (fresh live (following s k b b.contents)) (put k'' (fresh tuple (tuple_made s b)) (put k (memory b k' k'' none none) n))
        → Step n m
    -- (In) If match(⟦T⟧, et) = σ, then
    -- l :: k : in_γ(T)@l'.P ∥ l' :: h : ⟨et⟩ ↦ (νk')(l :: k' : P[k/γ]σ | [k : in_γ(T)@l'.P; h : ⟨et⟩; k']) ∥ l' :: empty.
    -- Document 01: "in: 3 continuation, 5 the tuple, which becomes consumed." The memory keeps the tuple's key, the consumed record the tuple.
    In : (k h k' : ℕ) (b t : Body)
        → Holds n k live b → is_in (kind_of s b) ≡ true
        → is_ready s b ≡ true
        → target s b ∈ n.present
        → h < key_count → Holds n h tuple t → t.locality.0 ≡ target s b
        → fits s b t ≡ true
        → Free n k'
        → m ≡ put k' (fresh live (following s k b (matched s b t))) (put k (memory b k' none h none) (put h (fresh consumed t) n))
        → Step n m
    -- (Read) If match(⟦T⟧, et) = σ, then
    -- l :: k : read_γ(T)@l'.P ∥ l' :: h : ⟨et⟩ ↦ (νk')(l :: k' : P[k/γ]σ | [k : read_γ(T)@l'.P; h; k']) ∥ l' :: h : ⟨et⟩.
    -- Document 01: "read: the same, the tuple stays live."
    Read : (k h k' : ℕ) (b t : Body)
        → Holds n k live b → is_read (kind_of s b) ≡ true
        → is_ready s b ≡ true
        → target s b ∈ n.present
        → h < key_count → Holds n h tuple t → t.locality.0 ≡ target s b
        → fits s b t ≡ true
        → Free n k'
        → m ≡ put k' (fresh live (following s k b (matched s b t))) (put k (memory b k' none h none) n)
        → Step n m
    -- (New) l :: k : newloc_γ(l').P ↦ (νl')((νk')(l :: k' : P[k/γ] | [k : newloc_γ(l').P; k']) ∥ l' :: empty).
    -- Document 01: "newloc: 3 continuation, 6 the new locality, now present", and the locality is one of 8..31 and absent. What is bound in 004 is a
    -- variable of the node here, and takes the locality.
    New : (k k' l' : ℕ) (b : Body)
        → Holds n k live b → is_newloc (kind_of s b) ≡ true
        → makeable l' ≡ true → l' ∉ n.present
        → Free n k'
        → m ≡ with_locality l' (put k' (fresh live (following s k b (binding s b l'))) (put k (memory b k' none none l') n))
        → Step n m
    -- (Eval) l :: k : eval_γ(Q)@l'.P ∥ l' :: empty ↦ (νk', k'')(l :: k' : P[k/γ] | [k : eval_γ(Q)@l'.P; k''; k'] ∥ l' :: k'' : Q).
    -- Document 01: "eval: 3 continuation, 4 a process at the target, node other, variables and references as before the step, without the new
    -- reference." The target must be known, as the l' of the rule is.
    Eval : (k k' k'' : ℕ) (b : Body)
        → Holds n k live b → is_eval (kind_of s b) ≡ true
        → is_ready s b ≡ true
        → target s b ∈ n.present
        → Free n k' → Free n k'' → (k' ≡ k'' → ⊥)
        → m ≡ put k' (fresh live (following s k b b.contents)) (put k'' (fresh live (spawned s b)) (put k (memory b k' k'' none none) n))
        → Step n m
    -- (Split, from left to right) l :: k : P | Q ≡ (νk₁, k₂) l :: k ≺ (k₁, k₂) | k₁ : P | k₂ : Q.
    -- Document 01: "split: 3 left, 4 right, both unchanged otherwise." The connector is the record of the process that was split.
    Split : (k k₁ k₂ : ℕ) (b : Body)
        → Holds n k live b → is_split (kind_of s b) ≡ true
        → Free n k₁ → Free n k₂ → (k₁ ≡ k₂ → ⊥)
        → m ≡ put k₁ (fresh live (left s b)) (put k₂ (fresh live (right s b)) (put k (memory b k₁ k₂ none none) n))
        → Step n m
