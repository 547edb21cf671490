-- The backward rules of 004, Table VII, and its law Split read from right to left: one constructor for each rule, its premises in the order in which
-- the rule has them.
--
-- In order: `Back`, with `OutRev`, `InRev`, `ReadRev`, `NewRev`, `EvalRev` and `SplitRev`.
-- `Table` says how a net stands for a net of 004. The memories are those of Table IX, which keep the continuation: here, the contents of the process.
-- Assumes nothing.
use Rattle.std.specs.Prelude.{◌≡◌, true, false, ℕ}
use Rattle.names.specs.Names.{none}
use Rattle.images.specs.declared.Script.{Script}
use Rattle.nets.specs.Net.{live, tuple, consumed, Net, free_slot, fresh, reads}
use Rattle.nets.specs.Origins.{Alone}
use Rattle.products.specs.Body.{Body}
use Rattle.products.specs.Products.{is_out, is_in, is_read, is_newloc, is_eval, is_split, kind_of, target, tuple_made}
use Rattle.rules.specs.Instance.{rules_of}
use Rattle.tables.specs.Terms.{Holds, memory, put, without_locality}
use Rattle.tables.specs.Table.{following, binding, spawned, left, right}

module _ (s : Script) where
  -- n ⇝ m by one of the rules, which undoes the event with key k
  pub data Back (n : Net (rules_of s)) (k : ℕ) (m : Net (rules_of s)) : Type 0 where
    -- (OutRev) (νk'')(l :: k' : P | [k : out(t)@l'.P; k''; k'] ∥ l' :: k'' : ⟨et⟩) ⇝ l :: k : out(t)@l'.P ∥ l' :: empty.
    -- The restriction: "k'' occurs only in the out memory and in the tuple. This ensures that read actions that have accessed the tuple, whose resulting
    -- memory would contain k'', have been undone." Document 01: "a tuple it made is in no past read".
    OutRev : (k' k'' : ℕ) (b : Body)
        → Holds n k' live (following s k b b.contents)
        → n.slot k ≡ memory b k' k'' none none → is_out (kind_of s b) ≡ true
        → Holds n k'' tuple (tuple_made s b)
        → ((f : ℕ) → reads n f k'' ≡ false)
        → m ≡ put k' free_slot (put k'' free_slot (put k (fresh live b) n))
        → Back n k m
    -- (InRev) l :: k' : Q | [k : in(T)@l'.P; h : ⟨et⟩; k'] ∥ l' :: empty ⇝ l :: k : in(T)@l'.P ∥ l' :: h : ⟨et⟩.
    -- Document 01: "a consumed tuple is live again".
    InRev : (k' h : ℕ) (q b t : Body)
        → Holds n k' live q
        → n.slot k ≡ memory b k' none h none → is_in (kind_of s b) ≡ true
        → Holds n h consumed t → t.locality.0 ≡ target s b
        → m ≡ put k' free_slot (put k (fresh live b) (put h (fresh tuple t) n))
        → Back n k m
    -- (ReadRev) l :: k' : Q | [k : read(T)@l'.P; h; k'] ∥ l' :: h : ⟨et⟩ ⇝ l :: k : read(T)@l'.P ∥ l' :: h : ⟨et⟩.
    -- Document 01: "for a past read, its tuple is live".
    ReadRev : (k' h : ℕ) (q b t : Body)
        → Holds n k' live q
        → n.slot k ≡ memory b k' none h none → is_read (kind_of s b) ≡ true
        → Holds n h tuple t → t.locality.0 ≡ target s b
        → m ≡ put k' free_slot (put k (fresh live b) n)
        → Back n k m
    -- (NewRev) (νl')(l :: k' : P | [k : newloc(l').P; k'] ∥ l' :: empty) ⇝ l :: k : newloc(l').P.
    -- The restriction: "to ensure that no other locality with the same name exists"; so nothing is at l', and nothing but the continuation names it.
    -- Document 01: "what it made becomes free or absent". It asks no more: "That a made locality is empty when its newloc may be undone is a
    -- consequence to prove."
    NewRev : (k' l' : ℕ) (b : Body)
        → Holds n k' live (following s k b (binding s b l'))
        → n.slot k ≡ memory b k' none none l' → is_newloc (kind_of s b) ≡ true
        → Alone n k l'
        → m ≡ without_locality l' (put k' free_slot (put k (fresh live b) n))
        → Back n k m
    -- (EvalRev) l :: k' : P | [k : eval(Q)@l'.P; k''; k'] ∥ l' :: k'' : Q ⇝ l :: k : eval(Q)@l'.P ∥ l' :: empty.
    -- Document 01: "all keys it made are live".
    EvalRev : (k' k'' : ℕ) (b : Body)
        → Holds n k' live (following s k b b.contents)
        → n.slot k ≡ memory b k' k'' none none → is_eval (kind_of s b) ≡ true
        → Holds n k'' live (spawned s b)
        → m ≡ put k' free_slot (put k'' free_slot (put k (fresh live b) n))
        → Back n k m
    -- (Split, from right to left) l :: k : P | Q ≡ (νk₁, k₂) l :: k ≺ (k₁, k₂) | k₁ : P | k₂ : Q.
    -- Document 01: "it is live as before".
    SplitRev : (k₁ k₂ : ℕ) (b : Body)
        → n.slot k ≡ memory b k₁ k₂ none none → is_split (kind_of s b) ≡ true
        → Holds n k₁ live (left s b)
        → Holds n k₂ live (right s b)
        → m ≡ put k₁ free_slot (put k₂ free_slot (put k (fresh live b) n))
        → Back n k m
