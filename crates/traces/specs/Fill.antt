-- An array that a loop fills from the front, and leaves blank where nothing is to be put.
-- In order: a table with one element stored (`store_tab`); the first i elements of a table and blanks behind them (`filled`), with none yet
-- (`filled_start`), with one more that is blank (`filled_blank`) or stored (`filled_store`), and with all (`filled_all`).
-- Assumes nothing.
use Rattle.std.specs.Prelude.{◌≡◌, Bool, ◌≢◌, List, ℕ, ◌+◌, ◌<◌, eqb, ltb, set, replicate}
use Rattle.std.proofs.Math.Path.{sym, ap}
use Rattle.std.proofs.Common.{◌∙◌, arith, length-set, get_or-set_same, get_or-set_other, eqb-true, ltb-true, lt-ltb, le-ltb}
use Rattle.std.proofs.lemmas.List.{length-replicate}
use Rattle.std.proofs.Math.ListN.{get_or-replicate}
use Rattle.std.proofs.lemmas.Bool.{eqb-false}
use Rattle.laws.specs.Choice.{pick, cases, agree}
use Rattle.laws.specs.Lists.{tab, tab_of, tab_ext, length_tab, get_d_tab}

module _ {A : Type 0} where
  -- a table with one element stored is the table of what agrees elsewhere
  pub store_tab : (k : ℕ) (f g : ℕ → A) (u : ℕ) (v d : A) → u < k → v ≡ g u → ((t : ℕ) → t ≢ u → f t ≡ g t) → set (tab k f) u v ≡ tab k g
  store_tab k f g u v d l e h =
      tab_of k g (set (tab k f) u v) d (length-set (tab k f) u v ∙ length_tab k f)
      (λ t m.
      cases (eqb t u)
      (λ p. rw (eqb-true t u p) (get_or-set_same (tab k f) u v d (rw (length_tab k f) l) ∙ e))
      (λ p. get_or-set_other (tab k f) u t v d (eqb-false t u p) ∙ get_d_tab k f t d m ∙ h t (eqb-false t u p)))

  -- f 0, f 1, .., f (i - 1), and blanks up to k of them
  unfoldable pub filled : ℕ → (ℕ → A) → A → ℕ → List A
  filled k f blank i = tab k (λ j. pick (ltb j i) (f j) blank)

  pub filled_start : (k : ℕ) (f : ℕ → A) (blank : A) → replicate k blank ≡ filled k f blank 0
  unfolding filled
  filled_start k f blank =
      tab_of k (λ j. pick (ltb j 0) (f j) blank) (replicate k blank) blank (length-replicate k blank)
      (λ j l. get_or-replicate k j blank blank l ∙ sym (ap (λ (b : Bool). pick b (f j) blank) (le-ltb j 0 (omega arith))))

  pub filled_all : (k : ℕ) (f : ℕ → A) (blank : A) → filled k f blank k ≡ tab k f
  unfolding filled
  filled_all k f blank =
      tab_ext k (λ j. pick (ltb j k) (f j) blank) f (λ j l. ap (λ (b : Bool). pick b (f j) blank) (lt-ltb j k l))

  module _ (k : ℕ) (f : ℕ → A) (blank : A) (i : ℕ) where
    -- with one element more the others are as they were, and this one is f's
    others : (j : ℕ) → j ≢ i → pick (ltb j i) (f j) blank ≡ pick (ltb j (i + 1)) (f j) blank
    others j d =
        ap (λ (b : Bool). pick b (f j) blank)
        (agree (ltb j i) (ltb j (i + 1)) (λ t. lt-ltb j (i + 1) (omega (arith, ltb-true j i t)))
        (λ t. lt-ltb j i (omega (arith, ltb-true j (i + 1) t, d))))

    this : pick (ltb i (i + 1)) (f i) blank ≡ f i
    this = ap (λ (b : Bool). pick b (f i) blank) (lt-ltb i (i + 1) (omega arith))

    pub filled_blank : f i ≡ blank → filled k f blank i ≡ filled k f blank (i + 1)
    unfolding filled
    filled_blank e =
        let here : pick (ltb i i) (f i) blank ≡ pick (ltb i (i + 1)) (f i) blank =
        ap (λ (b : Bool). pick b (f i) blank) (le-ltb i i (omega arith)) ∙ sym e ∙ sym this in
        tab_ext k (λ j. pick (ltb j i) (f j) blank) (λ j. pick (ltb j (i + 1)) (f j) blank)
        (λ j _. cases (eqb j i) (λ p. rw (eqb-true j i p) here) (λ p. others j (eqb-false j i p)))

    pub filled_store : (v : A) → i < k → v ≡ f i → set (filled k f blank i) i v ≡ filled k f blank (i + 1)
    unfolding filled
    filled_store v l e =
        store_tab k (λ j. pick (ltb j i) (f j) blank) (λ j. pick (ltb j (i + 1)) (f j) blank) i v blank l (e ∙ sym this) others
