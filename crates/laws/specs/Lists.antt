-- Lists by index: the list of what a function gives at 0, 1, .., k - 1.
-- In order: `tab`; its length and its elements; a list is its table (`tab_of`); one store more (`store_more`); tables that agree
-- (`tab_ext`); a part of a list is a table (`tab_part`); an element of a table inside a list (`get_d_tab_in`); a run of stores that
-- fills the list (`sets_all`).
-- Not here: laws of `take`, `drop`, `set`, `get_or`, `◌++◌` (`lib.Seq`, `lib.ListN`).
-- Assumes nothing.
use Rattle.std.specs.Prelude.{◌≡◌, List, [], ◌∷◌, ◌++◌, length, get_or, set, take, drop}
use Rattle.std.proofs.Math.Path.{refl, ap, ap₂}
use Rattle.std.proofs.Common.{sym, ◌∙◌, subst, append-nil, le_of_suc-le-suc, not-suc-le-zero, arith, length-drop, drop_of_length-le, ext_get_or, get_or-set_same, get_or-set_other, get_or-append-add, length-take-le, get_or-take, get_or-drop, below_more}
use Prim.Native.Nat.{ℕ, zero, suc, ◌+◌, ◌<◌, ◌≤◌, suc-le-suc}
use Rattle.std.proofs.Math.ListN.{get_or-append}
use Rattle.std.proofs.lemmas.List.Edits.{sets, sets-eq}

module _ {A : Type 0} where
  -- f 0, f 1, .., f (k - 1)
  unfoldable pub tab : ℕ → (ℕ → A) → List A
  tab zero f = []
  tab (suc k) f = f 0 ∷ tab k (λ i. f (suc i))

  pub length_tab : (k : ℕ) (f : ℕ → A) → length (tab k f) ≡ k
  unfolding tab
  length_tab zero f = refl
  length_tab (suc k) f = ap suc (length_tab k (λ i. f (suc i)))

  pub get_d_tab : (k : ℕ) (f : ℕ → A) (i : ℕ) (d : A) → i < k → get_or (tab k f) i d ≡ f i
  unfolding tab
  get_d_tab zero f i d h = absurd (not-suc-le-zero h)
  get_d_tab (suc k) f zero d h = refl
  get_d_tab (suc k) f (suc i) d h = get_d_tab k (λ j. f (suc j)) i d (le_of_suc-le-suc h)

  -- a list of k elements, each of them f's, is f's table
  pub tab_of : (k : ℕ) (f : ℕ → A) (l : List A) (d : A) → length l ≡ k → ((i : ℕ) → i < k → get_or l i d ≡ f i) → l ≡ tab k f
  tab_of k f l d e h =
      ext_get_or d l (tab k f) (e ∙ sym (length_tab k f))
      (λ i p. let q : i < k = subst (λ (m : ℕ). i < m) e p in h i q ∙ sym (get_d_tab k f i d q))

  -- what a loop that fills an array knows: each element below i is f's; one store more, and each below i + 1 is
  pub store_more : (f : ℕ → A) (l : List A) (i : ℕ) (v d : A) → i < length l → v ≡ f i → ((j : ℕ) → j < i → get_or l j d ≡ f j) → (j : ℕ) → j < i + 1 → get_or (set l i v) j d ≡ f j
  store_more f l i v d p e h =
      below_more (λ j. get_or (set l i v) j d ≡ f j) i (λ j q. get_or-set_other l i j v d (λ r. omega arith) ∙ h j q)
      (get_or-set_same l i v d p ∙ e)

  pub tab_ext : (k : ℕ) (f g : ℕ → A) → ((i : ℕ) → i < k → f i ≡ g i) → tab k f ≡ tab k g
  unfolding tab
  tab_ext zero f g h = refl
  tab_ext (suc k) f g h =
      ap₂ (λ a l. a ∷ l) (h 0 (omega arith)) (tab_ext k (λ i. f (suc i)) (λ i. g (suc i)) (λ i q. h (suc i) (suc-le-suc q)))

  -- the k elements from index a on
  pub tab_part : (k a : ℕ) (l : List A) (d : A) → a + k ≤ length l → tab k (λ i. get_or l (a + i) d) ≡ take k (drop a l)
  tab_part k a l d h =
      sym
      (tab_of k (λ i. get_or l (a + i) d) (take k (drop a l)) d
      (length-take-le k (drop a l) (simp length-drop (omega arith)))
      (λ i q. get_or-take k (drop a l) i d q ∙ get_or-drop a l i d))

  -- element i of a table that stands behind h
  pub get_d_tab_in : (k : ℕ) (f : ℕ → A) (h t : List A) (i : ℕ) (d : A) → i < k → get_or (h ++ (tab k f ++ t)) (length h + i) d ≡ f i
  get_d_tab_in k f h t i d q =
      get_or-append-add h (tab k f ++ t) i d ∙ get_or-append (tab k f) t d i (rw (length_tab k f) q) ∙ get_d_tab k f i d q

  -- stores at 0, 1, .. that fill the list leave nothing of what was there
  pub sets_all : (vs l : List A) → length l ≡ length vs → sets l 0 vs ≡ vs
  sets_all vs l e =
      sets-eq vs l 0 (omega arith) ∙ ap (λ (r : List A). vs ++ r) (drop_of_length-le l {i = 0 + length vs} (omega arith)) ∙ append-nil vs
