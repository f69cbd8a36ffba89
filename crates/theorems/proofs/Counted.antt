-- A list that has each number below n once has n elements.
use Rattle.std.proofs.Common.{◌≡◌, ℕ, zero, suc, ◌<◌, ◌≤◌, cond, eqb, ◌≢◌, ◌⊎◌, List, length, get_or, sym, refl, inl, inr, ⊎_elim, arith}
use native.Mathlib.Decide.{dec_lt}
use Rattle.std.proofs.lemmas.Bool.{cases_eq, cases_order, cond-true, cond-false, eq-eqb, ne_eqb}
use Rattle.semantics.specs.Lists.{ListsEach}

-- f, but where f gives n, what it gives at m stands in
abbrev closed : (ℕ → ℕ) → ℕ → ℕ → ℕ → ℕ
closed f m n i = cond (eqb (f i) n) (f m) (f i)

closed_cases : (f : ℕ → ℕ) (m n i : ℕ) → ((f i ≡ n) × (closed f m n i ≡ f m)) ⊎ ((f i ≡ n → ⊥) × (closed f m n i ≡ f i))
closed_cases f m n i =
    ⊎_elim
    (λ e. inl (e, cond-true (eqb (f i) n) (f m) (f i) (eq-eqb (f i) n e)))
    (λ ne. inr (ne, cond-false (eqb (f i) n) (f m) (f i) (ne_eqb (f i) n ne)))
    (cases_eq (f i) n)

abbrev Inside : ℕ → ℕ → (ℕ → ℕ) → Type 0
Inside m n f = (i : ℕ) → i < m → f i < n

abbrev Apart : ℕ → (ℕ → ℕ) → Type 0
Apart m f = (i j : ℕ) → i < m → j < m → f i ≡ f j → i ≡ j

closed_inside : (m n : ℕ) (f : ℕ → ℕ) → Inside (suc m) (suc n) f → Apart (suc m) f → Inside m n (closed f m n)
closed_inside m n f inside apart i h =
    let a = inside i (omega arith) in
    let b = inside m (omega arith) in
    let c = apart i m (omega arith) (omega arith) in
    elim (closed_cases f m n i) [
      | inl k ↦ let other : f m ≢ n = λ e. omega (arith, c (omega arith)) in omega arith
      | inr k ↦ omega arith
    ]

closed_apart : (m n : ℕ) (f : ℕ → ℕ) → Apart (suc m) f → Apart m (closed f m n)
closed_apart m n f apart i j h k e =
    let a = apart i j (omega arith) (omega arith) in
    let b = apart i m (omega arith) (omega arith) in
    let c = apart j m (omega arith) (omega arith) in
    elim (closed_cases f m n i) [
      | inl p ↦ elim (closed_cases f m n j) [ inl q ↦ omega arith | inr q ↦ omega arith ]
      | inr p ↦ elim (closed_cases f m n j) [ inl q ↦ omega arith | inr q ↦ omega arith ]
    ]

-- m different numbers below n are at most n
at_most : (m n : ℕ) (f : ℕ → ℕ) → Inside m n f → Apart m f → m ≤ n
at_most zero n f inside apart = omega arith
at_most (suc m) zero f inside apart = absurd (omega (arith, inside 0 (omega arith)))
at_most (suc m) (suc n) f inside apart =
    let rest = at_most m n (closed f m n) (closed_inside m n f inside apart) (closed_apart m n f apart) in
    omega arith

module _ (n : ℕ) (o : List ℕ) (lists : ListsEach (λ x. x < n) o) where
  -- the place of x in the list
  place : (x : ℕ) → Dec (x < n) → ℕ
  place x (yes h) = (lists.every x h).0
  place x (no h) = 0

  place_within : (x : ℕ) (d : Dec (x < n)) → x < n → place x d < length o
  unfolding place
  place_within x (yes h) k = (lists.every x h).1
  place_within x (no h) k = absurd (h k)

  at_place : (x : ℕ) (d : Dec (x < n)) → x < n → get_or o (place x d) 0 ≡ x
  unfolding place
  at_place x (yes h) k = (lists.every x h).2
  at_place x (no h) k = absurd (h k)

  same_place : Apart (length o) (λ i. get_or o i 0)
  same_place i j h k e =
      elim (cases_order i j) [
        | inl q ↦ q
        | inr (inl b) ↦ absurd (lists.once (get_or o i 0) (i, j, b, k, refl, sym e))
        | inr (inr b) ↦ absurd (lists.once (get_or o j 0) (j, i, b, h, refl, e))
      ]

  pub length_lists : length o ≡ n
  length_lists =
      let low = at_most (length o) n (λ i. get_or o i 0) (λ i h. lists.only (get_or o i 0) (i, h, refl)) same_place in
      let high = at_most n (length o) (λ x. place x (dec_lt x n))
      (λ x h. place_within x (dec_lt x n) h)
      (λ x y h k e.
      let a = at_place x (dec_lt x n) h in
      let b = at_place y (dec_lt y n) k in
      cc) in
      omega arith
