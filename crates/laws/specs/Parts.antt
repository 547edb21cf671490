-- A list in parts of one length: put together (`flat`), and cut again.
-- In order: `flat`; its length; a part of what was put together (`part_flat`); what was cut, put together (`flat_parts`); a list in
-- front and the parts after it (`whole`); a list is its pieces (`pieces_three`, `pieces_four`); parts of a list lent one after the other, from its front (`put`, `front_put`, `put_two`,
-- `put_four`), or its first and its last part (`put_around`); one part more (`flat_more`); how many elements a part has (`part_size`).
-- Assumes nothing.
use Rattle.std.specs.Prelude.{◌≡◌, drop}
use Rattle.std.proofs.Math.Path.{ap, ap₂, sym}
use Rattle.std.proofs.Common.{◌∙◌, mul-zero, add_assoc, le_of_suc-le-suc, not-suc-le-zero, add-one, arith, length-drop, take-append-drop, drop_of_length-le, drop-drop, take-add, take_all, length-take-le}
use mathlib.Core.List.{List, [], ◌∷◌, ◌++◌, append-nil, append_assoc}
use Prim.Native.Nat.{ℕ, zero, suc, ◌+◌, ◌-◌, ◌*◌, ◌<◌, ◌≤◌, suc-le-suc}
use Rattle.std.proofs.Math.Nat.{add-zero, mul-suc, add_comm}
use Rattle.std.proofs.Math.ListN.{length, take, length-append}
use Rattle.std.proofs.Math.Seq.{take_at, take-append-add, drop-append-add}
use Rattle.laws.specs.Lists.{tab, tab_ext}

module _ {A : Type 0} where
  -- the lists, one after the other
  unfoldable pub flat : List (List A) → List A
  flat [] = []
  flat (x ∷ xs) = x ++ flat xs

  pub length_flat : (c k : ℕ) (g : ℕ → List A) → ((i : ℕ) → i < k → length (g i) ≡ c) → length (flat (tab k g)) ≡ c * k
  unfolding flat tab
  length_flat c zero g h = sym (mul-zero c)
  length_flat c (suc k) g h =
      let e : length (g 0) ≡ c = h 0 (omega arith) in
      let r : length (flat (tab k (λ i. g (suc i)))) ≡ c * k = length_flat c k (λ i. g (suc i)) (λ i q. h (suc i) (suc-le-suc q)) in
      length-append (g 0) (flat (tab k (λ i. g (suc i)))) ∙ ap₂ (λ m n. m + n) e r ∙ add_comm c (c * k) ∙ sym (mul-suc c k)

  -- part i of what was put together
  pub part_flat : (c k : ℕ) (g : ℕ → List A) (t : List A) (i : ℕ) → i < k → ((j : ℕ) → j < k → length (g j) ≡ c) → take c (drop (c * i) (flat (tab k g) ++ t)) ≡ g i
  unfolding flat tab
  part_flat c zero g t i l h = absurd (not-suc-le-zero l)
  part_flat c (suc k) g t zero l h =
      rw (mul-zero c, append_assoc (g 0) (flat (tab k (λ j. g (suc j)))) t) (take_at (g 0) _ c (h 0 (omega arith)))
  part_flat c (suc k) g t (suc i) l h =
      let r : List A = flat (tab k (λ j. g (suc j))) ++ t in
      let e : c * suc i ≡ length (g 0) + c * i = mul-suc c i ∙ add_comm (c * i) c ∙ ap (λ (n : ℕ). n + c * i) (sym (h 0 (omega arith))) in
      rw (e, append_assoc (g 0) (flat (tab k (λ j. g (suc j)))) t, drop-append-add (g 0) r (c * i))
      (part_flat c k (λ j. g (suc j)) t i (le_of_suc-le-suc l) (λ j q. h (suc j) (suc-le-suc q)))

  -- the same behind a list h
  pub part_flat_in : (c k : ℕ) (g : ℕ → List A) (h t : List A) (i : ℕ) → i < k → ((j : ℕ) → j < k → length (g j) ≡ c) → take c (drop (length h + c * i) (h ++ (flat (tab k g) ++ t))) ≡ g i
  part_flat_in c k g h t i l s =
      ap (λ (r : List A). take c r) (drop-append-add h (flat (tab k g) ++ t) (c * i)) ∙ part_flat c k g t i l s

  -- the parts of a list from index a on, put together
  pub flat_parts : (c k a : ℕ) (l : List A) → flat (tab k (λ i. take c (drop (a + c * i) l))) ≡ take (c * k) (drop a l)
  unfolding flat tab
  flat_parts c zero a l = rw (mul-zero c)
  flat_parts c (suc k) a l =
      let first : take c (drop (a + c * 0) l) ≡ take c (drop a l) = rw (mul-zero c, add-zero a) in
      let rest : flat (tab k (λ i. take c (drop (a + c * suc i) l))) ≡ take (c * k) (drop (a + c) l) =
      ap flat (tab_ext k _ (λ i. take c (drop (a + c + c * i) l)) (λ i q. ap (λ (n : ℕ). take c (drop n l)) (shift i))) ∙ flat_parts c k (a + c) l in
      ap₂ (λ x y. x ++ y) first (rest ∙ ap (take (c * k)) (sym (drop-drop c a l))) ∙ sym (take-add c (c * k) (drop a l)) ∙
      ap (λ (n : ℕ). take n (drop a l)) (add_comm c (c * k) ∙ sym (mul-suc c k))
    where
      shift : (i : ℕ) → a + c * suc i ≡ a + c + c * i
      shift i = ap (λ (n : ℕ). a + n) (mul-suc c i ∙ add_comm (c * i) c) ∙ sym (add_assoc a c (c * i))

  -- a list is its first a elements and the k parts after them
  pub whole : (c k a : ℕ) (l : List A) → length l ≡ a + c * k → take a l ++ flat (tab k (λ i. take c (drop (a + c * i) l))) ≡ l
  whole c k a l e =
      ap (λ (r : List A). take a l ++ r)
      (flat_parts c k a l ∙ take_all (c * k) (drop a l) (simp length-drop (omega arith))) ∙ take-append-drop a l

  -- a list is its pieces
  pub pieces_three : (a b c : ℕ) (l : List A) → length l ≡ a + b + c → take a l ++ (take b (drop a l) ++ take c (drop (a + b) l)) ≡ l
  pieces_three a b c l e =
      let last : take c (drop (a + b) l) ≡ drop b (drop a l) =
      take_all c (drop (a + b) l) (simp length-drop (omega arith)) ∙ sym (drop-drop b a l) in
      rw (last, take-append-drop b (drop a l)) (take-append-drop a l)

  pub pieces_four : (a b c d : ℕ) (l : List A) → length l ≡ a + b + c + d → take a l ++ (take b (drop a l) ++ (take c (drop (a + b) l) ++ take d (drop (a + b + c) l))) ≡ l
  pieces_four a b c d l e =
      let last : take c (drop (a + b) l) ++ take d (drop (a + b + c) l) ≡ take (c + d) (drop (a + b) l) =
      ap (λ (r : List A). take c (drop (a + b) l) ++ take d r) (sym (drop-drop c (a + b) l)) ∙ sym (take-add c d (drop (a + b) l)) in
      rw last (pieces_three a b (c + d) l (omega arith))

  -- ---- parts that are lent one after the other, from the front
  -- what a list holds once the k elements from a on were lent and came back as ys
  abbrev pub put : ℕ → ℕ → List A → List A → List A
  put a k xs ys = take a xs ++ (ys ++ drop k (drop a xs))

  pub length_put : (a k : ℕ) (xs ys : List A) → a + k ≤ length xs → length ys ≡ k → length (put a k xs ys) ≡ length xs
  length_put a k xs ys h e =
      length-append (take a xs) (ys ++ drop k (drop a xs)) ∙
      ap₂ (λ m n. m + n) (length-take-le a xs (omega arith))
      (length-append ys (drop k (drop a xs)) ∙ ap₂ (λ m n. m + n) e (length-drop k (drop a xs) ∙ ap (λ (n : ℕ). n - k) (length-drop a xs))) ∙
      omega arith

  -- the front grows by what came back
  pub front_put : (a k : ℕ) (xs ys front : List A) → take a xs ≡ front → a ≤ length xs → length ys ≡ k → take (a + k) (put a k xs ys) ≡ front ++ ys
  front_put a k xs ys front f h e =
      ap (take (a + k)) (sym (append_assoc (take a xs) ys (drop k (drop a xs)))) ∙
      take_at (take a xs ++ ys) (drop k (drop a xs)) (a + k)
      (length-append (take a xs) ys ∙ ap₂ (λ m n. m + n) (length-take-le a xs h) e) ∙ ap (λ (r : List A). r ++ ys) f

  -- two parts and four parts that fill the list
  pub put_two : (k₀ k₁ : ℕ) (xs y₀ y₁ x₀ x₁ : List A) → length xs ≡ k₀ + k₁ → y₀ ≡ x₀ → y₁ ≡ x₁ → length x₀ ≡ k₀ → length x₁ ≡ k₁ → put k₀ k₁ (put 0 k₀ xs y₀) y₁ ≡ x₀ ++ x₁
  put_two k₀ k₁ xs y₀ y₁ x₀ x₁ h e₀ e₁ l₀ l₁ =
      let m₀ : length y₀ ≡ k₀ = ap length e₀ ∙ l₀ in
      let m₁ : length y₁ ≡ k₁ = ap length e₁ ∙ l₁ in
      let n₀ : length (put 0 k₀ xs y₀) ≡ length xs = length_put 0 k₀ xs y₀ (omega arith) m₀ in
      let n₁ : length (put k₀ k₁ (put 0 k₀ xs y₀) y₁) ≡ length xs = length_put k₀ k₁ (put 0 k₀ xs y₀) y₁ (omega arith) m₁ ∙ n₀ in
      let f₀ : take k₀ (put 0 k₀ xs y₀) ≡ y₀ = take_at y₀ _ k₀ m₀ in
      let f₁ = front_put k₀ k₁ (put 0 k₀ xs y₀) y₁ y₀ f₀ (omega arith) m₁ in
      sym (take_all (k₀ + k₁) (put k₀ k₁ (put 0 k₀ xs y₀) y₁) (omega arith)) ∙ f₁ ∙ ap₂ (λ a b. a ++ b) e₀ e₁

  pub put_four : (k₀ k₁ k₂ k₃ : ℕ) (xs y₀ y₁ y₂ y₃ x₀ x₁ x₂ x₃ : List A) → length xs ≡ k₀ + k₁ + k₂ + k₃ → y₀ ≡ x₀ → y₁ ≡ x₁ → y₂ ≡ x₂ → y₃ ≡ x₃ → length x₀ ≡ k₀ → length x₁ ≡ k₁ → length x₂ ≡ k₂ → length x₃ ≡ k₃ → put (k₀ + k₁ + k₂) k₃ (put (k₀ + k₁) k₂ (put k₀ k₁ (put 0 k₀ xs y₀) y₁) y₂) y₃ ≡ x₀ ++ (x₁ ++ (x₂ ++ x₃))
  put_four k₀ k₁ k₂ k₃ xs y₀ y₁ y₂ y₃ x₀ x₁ x₂ x₃ h e₀ e₁ e₂ e₃ l₀ l₁ l₂ l₃ =
      let m₀ : length y₀ ≡ k₀ = ap length e₀ ∙ l₀ in
      let m₁ : length y₁ ≡ k₁ = ap length e₁ ∙ l₁ in
      let m₂ : length y₂ ≡ k₂ = ap length e₂ ∙ l₂ in
      let m₃ : length y₃ ≡ k₃ = ap length e₃ ∙ l₃ in
      let p₀ : List A = put 0 k₀ xs y₀ in
      let p₁ : List A = put k₀ k₁ p₀ y₁ in
      let p₂ : List A = put (k₀ + k₁) k₂ p₁ y₂ in
      let p₃ : List A = put (k₀ + k₁ + k₂) k₃ p₂ y₃ in
      let n₀ : length p₀ ≡ length xs = length_put 0 k₀ xs y₀ (omega arith) m₀ in
      let n₁ : length p₁ ≡ length xs = length_put k₀ k₁ p₀ y₁ (omega arith) m₁ ∙ n₀ in
      let n₂ : length p₂ ≡ length xs = length_put (k₀ + k₁) k₂ p₁ y₂ (omega arith) m₂ ∙ n₁ in
      let n₃ : length p₃ ≡ length xs = length_put (k₀ + k₁ + k₂) k₃ p₂ y₃ (omega arith) m₃ ∙ n₂ in
      let f₀ : take k₀ p₀ ≡ y₀ = take_at y₀ _ k₀ m₀ in
      let f₁ : take (k₀ + k₁) p₁ ≡ y₀ ++ y₁ = front_put k₀ k₁ p₀ y₁ y₀ f₀ (omega arith) m₁ in
      let f₂ : take (k₀ + k₁ + k₂) p₂ ≡ y₀ ++ y₁ ++ y₂ = front_put (k₀ + k₁) k₂ p₁ y₂ (y₀ ++ y₁) f₁ (omega arith) m₂ in
      let f₃ : take (k₀ + k₁ + k₂ + k₃) p₃ ≡ y₀ ++ y₁ ++ y₂ ++ y₃ = front_put (k₀ + k₁ + k₂) k₃ p₂ y₃ (y₀ ++ y₁ ++ y₂) f₂ (omega arith) m₃ in
      sym (take_all (k₀ + k₁ + k₂ + k₃) p₃ (omega arith)) ∙ f₃ ∙ rw (e₀, e₁, e₂, e₃) (simp append_assoc)

  -- the first and the last part of a list, and what stands between them stays
  pub put_around : (k₀ m k₁ : ℕ) (xs y₀ y₁ x₀ x₁ : List A) → length xs ≡ k₀ + m + k₁ → y₀ ≡ x₀ → y₁ ≡ x₁ → length x₀ ≡ k₀ → put (k₀ + m) k₁ (put 0 k₀ xs y₀) y₁ ≡ x₀ ++ (take m (drop k₀ xs) ++ x₁)
  put_around k₀ m k₁ xs y₀ y₁ x₀ x₁ h e₀ e₁ l₀ =
      let r : List A = drop k₀ xs in
      let m₀ : k₀ ≡ length y₀ = sym (ap length e₀ ∙ l₀) in
      let kept : take (k₀ + m) (y₀ ++ r) ≡ y₀ ++ take m r =
      ap (λ (n : ℕ). take (n + m) (y₀ ++ r)) m₀ ∙ take-append-add y₀ r m in
      let over : drop k₁ (drop (k₀ + m) (y₀ ++ r)) ≡ [] =
      ap (λ (n : ℕ). drop k₁ (drop (n + m) (y₀ ++ r))) m₀ ∙ ap (drop k₁) (drop-append-add y₀ r m) ∙
      drop_of_length-le (drop m r) {i = k₁} (simp length-drop (omega arith)) in
      ap₂ (λ (f t : List A). f ++ (y₁ ++ t)) kept over ∙ ap (λ (t : List A). (y₀ ++ take m r) ++ t) (append-nil y₁) ∙
      append_assoc y₀ (take m r) y₁ ∙ ap₂ (λ (a b : List A). a ++ (take m r ++ b)) e₀ e₁

  -- one part more of a table's parts
  flat_suc : (k : ℕ) (g : ℕ → List A) → flat (tab (suc k) g) ≡ flat (tab k g) ++ g k
  unfolding flat tab
  flat_suc zero g = append-nil (g 0)
  flat_suc (suc k) g =
      ap (λ (r : List A). g 0 ++ r) (flat_suc k (λ i. g (suc i))) ∙
      sym (append_assoc (g 0) (flat (tab k (λ i. g (suc i)))) (g (suc k)))

  pub flat_more : (k : ℕ) (g : ℕ → List A) → flat (tab (k + 1) g) ≡ flat (tab k g) ++ g k
  flat_more k g = rw (add-one k) (flat_suc k g)

-- the code's `&b[a..a + k]` has k elements
pub part_size : (a k : ℕ) → a + k - a ≡ k
part_size a k = omega arith

module _ {A : Type 0} where
  -- a turn of the loop that fills a list with parts of c elements: part j was lent as `&mut xs[at..at + c]`, and came back as ys
  pub length_turn : (at c : ℕ) (xs ys zs : List A) → at + c ≤ length xs → ys ≡ zs → length zs ≡ c → length (put at (at + c - at) xs ys) ≡ length xs
  length_turn at c xs ys zs h e l = rw (part_size at c) (length_put at c xs ys h (ap length e ∙ l))

  pub front_turn : (at c j : ℕ) (g : ℕ → List A) (front xs ys : List A) → at + c ≤ length xs → length (g j) ≡ c → ys ≡ g j → take at xs ≡ front ++ flat (tab j g) → take (at + c) (put at (at + c - at) xs ys) ≡ front ++ flat (tab (j + 1) g)
  front_turn at c j g front xs ys h l e f =
      rw (part_size at c)
      (front_put at c xs ys (front ++ flat (tab j g)) f (omega arith) (ap length e ∙ l) ∙ append_assoc front (flat (tab j g)) ys ∙
      ap (λ (r : List A). front ++ r) (ap (λ (y : List A). flat (tab j g) ++ y) e ∙ sym (flat_more j g)))

  -- before the first turn: the front was lent as `&mut xs[0..k]`
  pub length_first : (k : ℕ) (xs ys zs : List A) → k ≤ length xs → ys ≡ zs → length zs ≡ k → length (put 0 k xs ys) ≡ length xs
  length_first k xs ys zs h e l = length_put 0 k xs ys (omega arith) (ap length e ∙ l)

  pub front_first : (k : ℕ) (g : ℕ → List A) (xs ys zs : List A) → ys ≡ zs → length zs ≡ k → take k (put 0 k xs ys) ≡ zs ++ flat (tab 0 g)
  unfolding flat tab
  front_first k g xs ys zs e l = take_at ys (drop k xs) k (ap length e ∙ l) ∙ e ∙ sym (append-nil zs)
