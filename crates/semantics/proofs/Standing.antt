-- What stands in a list of places, and in which order: the laws, and decisions.
use Rattle.std.proofs.Common.{◌≡◌, ℕ, zero, suc, ◌+◌, ◌-◌, ◌<◌, Bool, true, false, eqb, ◌⊎◌, List, [], ◌∷◌, length, get_or, take, drop, sym, refl, ap, ◌∙◌, subst, inl, inr, ⊎_elim, arith}
use native.Mathlib.Decide.{ℕ_discrete, map_dec}
use Rattle.std.proofs.lemmas.Bool.{cases_order, eqb-true, eqb-false}
use Rattle.std.proofs.lemmas.List.{get_or-drop, length-drop}
use Rattle.std.proofs.Math.Bridge.{le_prop}
use Rattle.std.proofs.Math.Logic.{∥∥₁_elim}
use Rattle.std.proofs.Math.Seq.{take-length}
use Rattle.std.specs.List.{IsAnyAnswer}
use Rattle.models.specs.Tells.{Tells}
use Rattle.models.proofs.Telling.{told_again}
use Rattle.semantics.specs.Lists.{Listed, Before, ListsEach}

-- x stands in the list, element by element
pub data In (x : ℕ) : List ℕ → Type 0 where
  here : {a : ℕ} {o : List ℕ} → a ≡ x → In x (a ∷ o)
  there : {a : ℕ} {o : List ℕ} → In x o → In x (a ∷ o)

-- x stands in the list before y, element by element
pub data Ahead (x y : ℕ) : List ℕ → Type 0 where
  now : {a : ℕ} {o : List ℕ} → a ≡ x → In y o → Ahead x y (a ∷ o)
  later : {a : ℕ} {o : List ℕ} → Ahead x y o → Ahead x y (a ∷ o)

pub in_listed : {x : ℕ} {o : List ℕ} → In x o → Listed o x
in_listed (here e) = (0, omega arith, e)
in_listed (there h) = let (i, under, e) = in_listed h in (suc i, omega arith, e)

in_at : (o : List ℕ) (i x : ℕ) → i < length o → get_or o i 0 ≡ x → In x o
in_at [] i x under e = absurd (omega arith)
in_at (a ∷ o) zero x under e = here e
in_at (a ∷ o) (suc i) x under e = there (in_at o i x (omega arith) e)

pub listed_in : (o : List ℕ) (x : ℕ) → Listed o x → In x o
listed_in o x (i, under, e) = in_at o i x under e

pub ahead_before : {x y : ℕ} {o : List ℕ} → Ahead x y o → Before o x y
ahead_before (now e h) = let (j, under, f) = in_listed h in (0, suc j, omega arith, omega arith, e, f)
ahead_before (later h) = let (i, j, less, under, e, f) = ahead_before h in (suc i, suc j, omega arith, omega arith, e, f)

ahead_at : (o : List ℕ) (i j x y : ℕ) → i < j → j < length o → get_or o i 0 ≡ x → get_or o j 0 ≡ y → Ahead x y o
ahead_at [] i j x y less under e f = absurd (omega arith)
ahead_at (a ∷ o) i zero x y less under e f = absurd (omega arith)
ahead_at (a ∷ o) zero (suc j) x y less under e f = now e (in_at o j y (omega arith) f)
ahead_at (a ∷ o) (suc i) (suc j) x y less under e f = later (ahead_at o i j x y (omega arith) (omega arith) e f)

pub before_ahead : (o : List ℕ) (x y : ℕ) → Before o x y → Ahead x y o
before_ahead o x y (i, j, less, under, e, f) = ahead_at o i j x y less under e f

dec_in : (o : List ℕ) (x : ℕ) → Dec (In x o)
dec_in [] x = no (λ h. elim h [ ])
dec_in (a ∷ o) x = from (ℕ_discrete a x) (dec_in o x)
  where
    neither : (a ≡ x → ⊥) → (In x o → ⊥) → In x (a ∷ o) → ⊥
    neither f g (here e) = f e
    neither f g (there h) = g h

    from : Dec (a ≡ x) → Dec (In x o) → Dec (In x (a ∷ o))
    from (yes e) d = yes (here e)
    from (no f) (yes h) = yes (there h)
    from (no f) (no g) = no (neither f g)

dec_ahead : (o : List ℕ) (x y : ℕ) → Dec (Ahead x y o)
dec_ahead [] x y = no (λ h. elim h [ ])
dec_ahead (a ∷ o) x y = from (ℕ_discrete a x) (dec_in o y) (dec_ahead o x y)
  where
    neither : (a ≡ x → In y o → ⊥) → (Ahead x y o → ⊥) → Ahead x y (a ∷ o) → ⊥
    neither f g (now e h) = f e h
    neither f g (later h) = g h

    from : Dec (a ≡ x) → Dec (In y o) → Dec (Ahead x y o) → Dec (Ahead x y (a ∷ o))
    from d k (yes h) = yes (later h)
    from (yes e) (yes h) (no g) = yes (now e h)
    from (yes e) (no f) (no g) = no (neither (λ _. f) g)
    from (no f) k (no g) = no (neither (λ e _. f e) g)

pub dec_listed : (o : List ℕ) (x : ℕ) → Dec (Listed o x)
dec_listed o x = map_dec in_listed (listed_in o x) (dec_in o x)

pub dec_before : (o : List ℕ) (x y : ℕ) → Dec (Before o x y)
dec_before o x y = map_dec ahead_before (before_ahead o x y) (dec_ahead o x y)

pub listed_first : (o : List ℕ) (x y : ℕ) → Before o x y → Listed o x
listed_first o x y (i, j, less, under, e, f) = (i, omega arith, e)

pub listed_second : (o : List ℕ) (x y : ℕ) → Before o x y → Listed o y
listed_second o x y (i, j, less, under, e, f) = (j, under, f)

-- places that differ stand one way or the other
pub either_way : (o : List ℕ) (x y : ℕ) → Listed o x → Listed o y → (x ≡ y → ⊥) → Before o x y ⊎ Before o y x
either_way o x y (i, here_x, e) (j, here_y, f) differ =
    ⊎_elim
    (λ same. absurd (differ (cc)))
    (⊎_elim (λ less. inl (i, j, less, here_y, e, f)) (λ less. inr (j, i, less, here_x, f, e)))
    (cases_order i j)

-- in a list that has nothing twice
module _ (o : List ℕ) (once : (x : ℕ) → Before o x x → ⊥) where
  pub same_position : (i j : ℕ) → i < length o → j < length o → get_or o i 0 ≡ get_or o j 0 → i ≡ j
  same_position i j under_i under_j e =
      ⊎_elim
      (λ same. same)
      (⊎_elim
      (λ less. absurd (once (get_or o i 0) (i, j, less, under_j, refl, sym e)))
      (λ less. absurd (once (get_or o i 0) (j, i, less, under_i, sym e, refl))))
      (cases_order i j)

  pub before_then : (x y z : ℕ) → Before o x y → Before o y z → Before o x z
  before_then x y z (i, j, less, under, e, f) (k, l, more, within, g, h) =
      let same : j ≡ k = same_position j k under (omega arith) (f ∙ sym g) in
      (i, l, omega arith, within, e, h)

  pub not_both_ways : (x y : ℕ) → Before o x y → Before o y x → ⊥
  not_both_ways x y there_y back = once x (before_then x y x there_y back)

pub told_contains : (o : List ℕ) (x : ℕ) (r : Bool) → IsAnyAnswer (λ y b. eqb y x ≡ b) o r → Tells r (Listed o x)
told_contains o x true h = (h.0, h.1, eqb-true _ x (h.2 0))
told_contains o x false h = λ (i, under, e). let unequal = h i 0 (omega arith) under in eqb-false _ x unequal e

-- y stands after x if it stands after the first x
pub told_before : (o : List ℕ) (x y first : ℕ) (r : Bool) → first < length o → get_or o first 0 ≡ x → ((k : ℕ) → k < first → get_or o k 0 ≡ x → ⊥) → Tells r (Listed (take (length o - (first + 1)) (drop (first + 1) o)) y) → Tells r (Before o x y)
told_before o x y first r under at_first none t =
    told_again r (Listed rest y) (Before o x y)
    (λ (j, within, e). (first, first + 1 + j, omega arith, omega (arith, length-drop (first + 1) o), at_first, sym (get_or-drop (first + 1) o j 0) ∙ e))
    (λ (i, j, less, within, e, f).
    let not_less : i < first → ⊥ = λ h. none i h e in
    let back : first + 1 + (j - (first + 1)) ≡ j = omega arith in
    (j - (first + 1), omega (arith, length-drop (first + 1) o), get_or-drop (first + 1) o (j - (first + 1)) 0 ∙ ap (λ k. get_or o k 0) back ∙ f))
    (subst (λ (l : List ℕ). Tells r (Listed l y)) whole t)
  where
    rest : List ℕ
    rest = drop (first + 1) o

    whole : take (length o - (first + 1)) rest ≡ rest
    whole = ap (λ n. take n rest) (sym (length-drop (first + 1) o)) ∙ take-length rest

-- an order whose places are below n lists each if it has each of the first n, and not twice
pub lists_each : (o : List ℕ) (n : ℕ) → ((k : ℕ) → k < length o → get_or o k 0 < n) → ((x : ℕ) → x < n → Listed o x × (Before o x x → ⊥)) → ListsEach (λ x. x < n) o
lists_each o n below each = record {
  every = λ x under. (each x under).0;
  only = λ x (k, within, e). subst (λ (y : ℕ). y < n) e (below k within);
  once = λ x (i, j, less, within, e, f). (each x (subst (λ (y : ℕ). y < n) f (below j within))).1 (i, j, less, within, e, f);
}

pub listed_below : (o : List ℕ) (n : ℕ) → ListsEach (λ x. x < n) o → (k : ℕ) → k < length o → get_or o k 0 < n
listed_below o n each k within = each.only (get_or o k 0) (k, within, refl)

-- what is merely so of a list can be found out
pub listing : {n : ℕ} {o : List ℕ} → ∥ ListsEach (λ x. x < n) o ∥₁ → ListsEach (λ x. x < n) o
listing {n = n} {o = o} merely = record {
  every = λ x under. decided (dec_listed o x) (λ none. ∥∥₁_elim merely ⊥_prop (λ each. none (each.every x under)));
  only = λ x h. ∥∥₁_elim merely le_prop (λ each. each.only x h);
  once = λ x twice. ∥∥₁_elim merely ⊥_prop (λ each. each.once x twice);
}
  where
    ⊥_prop : IsProp ⊥
    ⊥_prop = hlevel

    decided : {P : Type 0} → Dec P → ((P → ⊥) → ⊥) → P
    decided (yes p) f = p
    decided (no q) f = absurd (f q)
