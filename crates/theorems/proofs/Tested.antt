-- Tests by computation, and what each tells. What a `let` binds is computed only if it is read, so a test that follows
-- a failed one is not run.
use Rattle.std.proofs.Common.{◌≡◌, ℕ, zero, suc, ◌<◌, Bool, true, false, not, ◌&&◌, ◌||◌, eqb, ltb, ◌⊎◌, List, [], ◌∷◌, length, get_or, sym, refl, subst, inl, inr, ⊎_elim, arith}
use Rattle.std.proofs.lemmas.Bool.{cases_eq, eqb-true, eqb-false, ltb-true, ltb-false}
use Rattle.models.proofs.Telling.{told_both, told_again}
use Rattle.models.specs.Tells.{Tells}
use Rattle.semantics.specs.Lists.{Listed, Before}

-- the test r tells whether P holds, as a type that shows both
pub record Tested (r : Bool) (P : Type 0) : Type 0 where
  pub tells : Tells r P

passed : (r : Bool) (P : Type 0) → Tells r P → r ≡ true → P
passed true P h e = h
passed false P h e = let z : ◌≡◌ {A = ℕ} 0 1 = cc in absurd (omega arith)

passes : (r : Bool) (P : Type 0) → Tells r P → P → r ≡ true
passes true P h p = refl
passes false P h p = absurd (h p)

decides : (r : Bool) (P : Type 0) → Tells r P → Dec P
decides true P h = yes h
decides false P h = no h

itself : (r : Bool) → Tells r (r ≡ true)
itself true = refl
itself false = λ e. let z : ◌≡◌ {A = ℕ} 0 1 = cc in absurd (omega arith)

same_answer : (a b : Bool) (P : Type 0) → Tells a P → Tells b P → a ≡ b
same_answer true true P h k = refl
same_answer true false P h k = absurd (k h)
same_answer false true P h k = absurd (h k)
same_answer false false P h k = refl

told_either : (a b : Bool) (P Q : Type 0) → Tells a P → Tells b Q → Tells (a || b) (P ⊎ Q)
told_either true b P Q p q = inl p
told_either false true P Q p q = inr q
told_either false false P Q p q = ⊎_elim p q

told_not : (a : Bool) (P : Type 0) → Tells a P → Tells (not a) (P → ⊥)
told_not true P p = λ h. h p
told_not false P p = p

told_if : (a b : Bool) (P Q : Type 0) → Tells a P → Tells b Q → Tells (not a || b) (P → Q)
told_if true true P Q p q = λ h. q
told_if true false P Q p q = λ h. q (h p)
told_if false b P Q p q = λ h. absurd (p h)

told_equal : (a b : ℕ) (r : Bool) → eqb a b ≡ r → Tells r (a ≡ b)
told_equal a b true e = eqb-true a b e
told_equal a b false e = eqb-false a b e

told_below : (a b : ℕ) (r : Bool) → ltb a b ≡ r → Tells r (a < b)
told_below a b true e = ltb-true a b e
told_below a b false e = λ h. omega (arith, ltb-false a b e)

pub from_test : {r : Bool} {P : Type 0} → Tested r P → r ≡ true → P
from_test {r} {P} t = passed r P t.tells

pub to_test : {r : Bool} {P : Type 0} → Tested r P → P → r ≡ true
to_test {r} {P} t = passes r P t.tells

pub decided : {r : Bool} {P : Type 0} → Tested r P → Dec P
decided {r} {P} t = decides r P t.tells

-- two tests of one thing give one answer
pub one_answer : {a b : Bool} {P : Type 0} → Tested a P → Tested b P → a ≡ b
one_answer {a} {b} {P} s t = same_answer a b P s.tells t.tells

pub tested_true : (r : Bool) → Tested r (r ≡ true)
tested_true r = record { tells = itself r }

pub tested_again : {r : Bool} {P Q : Type 0} → (P → Q) → (Q → P) → Tested r P → Tested r Q
tested_again {r} {P} {Q} to back t = record { tells = told_again r P Q to back t.tells }

pub tested_both : {a b : Bool} {P Q : Type 0} → Tested a P → Tested b Q → Tested (a && b) (P × Q)
tested_both {a} {b} {P} {Q} s t = record { tells = told_both a b P Q s.tells t.tells }

pub tested_either : {a b : Bool} {P Q : Type 0} → Tested a P → Tested b Q → Tested (a || b) (P ⊎ Q)
tested_either {a} {b} {P} {Q} s t = record { tells = told_either a b P Q s.tells t.tells }

pub tested_not : {a : Bool} {P : Type 0} → Tested a P → Tested (not a) (P → ⊥)
tested_not {a} {P} t = record { tells = told_not a P t.tells }

pub tested_if : {a b : Bool} {P Q : Type 0} → Tested a P → Tested b Q → Tested (not a || b) (P → Q)
tested_if {a} {b} {P} {Q} s t = record { tells = told_if a b P Q s.tells t.tells }

-- what cannot hold fails the test
pub tested_never : {P : Type 0} → (P → ⊥) → Tested false P
tested_never h = record { tells = h }

pub tested_equal : (a b : ℕ) → Tested (eqb a b) (a ≡ b)
tested_equal a b = record { tells = told_equal a b (eqb a b) refl }

pub tested_below : (a b : ℕ) → Tested (ltb a b) (a < b)
tested_below a b = record { tells = told_below a b (ltb a b) refl }

-- the test p passes at each number below n
abbrev pub all_below : ℕ → (ℕ → Bool) → Bool
all_below zero p = true
all_below (suc n) p =
    let rest = all_below n p in
    p n && rest

-- the test p passes at some number below n
abbrev pub any_below : ℕ → (ℕ → Bool) → Bool
any_below zero p = false
any_below (suc n) p =
    let rest = any_below n p in
    p n || rest

pub tested_all : {p : ℕ → Bool} {P : ℕ → Type 0} → ((x : ℕ) → Tested (p x) (P x)) → (n : ℕ) → Tested (all_below n p) ((x : ℕ) → x < n → P x)
tested_all t zero = record { tells = λ x h. absurd (omega arith) }
tested_all {p} {P} t (suc n) =
    tested_again
    (λ h x k. ⊎_elim (λ e. subst P (sym e) h.0) (λ ne. h.1 x (omega arith)) (cases_eq x n))
    (λ h. (h n (omega arith), λ x k. h x (omega arith)))
    (tested_both (t n) (tested_all t n))

pub tested_some : {p : ℕ → Bool} {P : ℕ → Type 0} → ((x : ℕ) → Tested (p x) (P x)) → (n : ℕ) → Tested (any_below n p) ((x : ℕ) × (x < n) × P x)
tested_some t zero = record { tells = λ h. absurd (omega arith) }
tested_some {p} {P} t (suc n) =
    tested_again
    (⊎_elim (λ h. (n, omega arith, h)) (λ h. (h.0, omega (arith, h.1), h.2)))
    (λ h. ⊎_elim (λ e. inl (subst P e h.2)) (λ ne. inr (h.0, omega (arith, h.1), h.2)) (cases_eq h.0 n))
    (tested_either (t n) (tested_some t n))

-- x stands in the list
abbrev pub listed : List ℕ → ℕ → Bool
listed [] x = false
listed (a ∷ o) x =
    let rest = listed o x in
    eqb a x || rest

-- x stands in the list before y
abbrev pub before : List ℕ → ℕ → ℕ → Bool
before [] x y = false
before (a ∷ o) x y =
    let next = listed o y in
    let rest = before o x y in
    (eqb a x && next) || rest

listed_cases : (a : ℕ) (o : List ℕ) (x i : ℕ) → i < length (a ∷ o) → get_or (a ∷ o) i 0 ≡ x → (a ≡ x) ⊎ Listed o x
listed_cases a o x zero h e = inl e
listed_cases a o x (suc i) h e = inr (i, omega arith, e)

listed_more : (a : ℕ) (o : List ℕ) (x : ℕ) → (a ≡ x) ⊎ Listed o x → Listed (a ∷ o) x
listed_more a o x (inl e) = (0, omega arith, e)
listed_more a o x (inr h) = (suc h.0, omega (arith, h.1), h.2)

pub tested_listed : (o : List ℕ) (x : ℕ) → Tested (listed o x) (Listed o x)
tested_listed [] x = tested_never (λ h. omega (arith, h.1))
tested_listed (a ∷ o) x =
    tested_again (listed_more a o x) (λ h. listed_cases a o x h.0 h.1 h.2)
    (tested_either (tested_equal a x) (tested_listed o x))

before_cases : (a : ℕ) (o : List ℕ) (x y i j : ℕ) → i < j → j < length (a ∷ o) → get_or (a ∷ o) i 0 ≡ x → get_or (a ∷ o) j 0 ≡ y → ((a ≡ x) × Listed o y) ⊎ Before o x y
before_cases a o x y zero zero h k e f = absurd (omega arith)
before_cases a o x y zero (suc j) h k e f = inl (e, (j, omega arith, f))
before_cases a o x y (suc i) zero h k e f = absurd (omega arith)
before_cases a o x y (suc i) (suc j) h k e f = inr (i, j, omega arith, omega arith, e, f)

before_more : (a : ℕ) (o : List ℕ) (x y : ℕ) → ((a ≡ x) × Listed o y) ⊎ Before o x y → Before (a ∷ o) x y
before_more a o x y (inl h) = (0, suc h.1.0, omega arith, omega (arith, h.1.1), h.0, h.1.2)
before_more a o x y (inr h) = (suc h.0, suc h.1, omega (arith, h.2), omega (arith, h.3), h.4, h.5)

pub tested_before : (o : List ℕ) (x y : ℕ) → Tested (before o x y) (Before o x y)
tested_before [] x y = tested_never (λ h. omega (arith, h.3))
tested_before (a ∷ o) x y =
    tested_again (before_more a o x y) (λ h. before_cases a o x y h.0 h.1 h.2 h.3 h.4 h.5)
    (tested_either (tested_both (tested_equal a x) (tested_listed o y)) (tested_before o x y))
