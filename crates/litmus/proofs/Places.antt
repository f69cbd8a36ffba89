-- Five things, each read from one of five.
use Rattle.std.proofs.Common.{ℕ, zero, suc, ◌<◌, List, [], ◌∷◌, length, map, get_or, sym, subst, arith, Some, None, Ok, Err, Option, Result, MatchOption, IfOk, IfErr}
use Rattle.std.specs.Array.{AllZipBelow}
use Rattle.std.specs.Fn.{Called}
use Rattle.std.specs.List.{AllZip, IsAmong}
use Rattle.std.specs.Result.{result_ok}
use denote.Param.Members.{Mut}

-- what stands at one place is related
each_at : {A B : Type 0} (R : A → B → Type 0) (x : A) (y : B) (xs : List A) (ys : List B) (k : ℕ) → k < length xs → AllZip R xs ys → R (get_or xs k x) (get_or ys k y)
each_at R x y [] ys k h e = absurd (omega arith)
each_at R x y (a ∷ xs) [] k h e = absurd e
each_at R x y (a ∷ xs) (b ∷ ys) zero h e = e.0
each_at R x y (a ∷ xs) (b ∷ ys) (suc k) h e = each_at R x y xs ys k (omega arith) e.1

zip_again : {A B : Type 0} (S R : A → B → Type 0) → ((x : A) (y : B) → S x y → R x y) → (xs : List A) (ys : List B) → AllZip S xs ys → AllZip R xs ys
zip_again S R to [] [] e = tt
zip_again S R to [] (y ∷ ys) e = e
zip_again S R to (x ∷ xs) [] e = e
zip_again S R to (x ∷ xs) (y ∷ ys) e = (to x y e.0, zip_again S R to xs ys e.1)

-- calls at each of five items gave what is to be read from it, or one of them gave an error and there is nothing to read
pub all_read : {A B E F : Type 0} {g : Mut F (A × Unit {0}) (Result B E)} (R : A → B → Type 0) (d : B) (xs : List A) (r : Result (List B) E)
    → IfOk r (λ ys. AllZipBelow (λ x y. (p : F) × (q : F) × Called g p (x, tt) (Ok y) q) xs ys 5)
    → IfErr r (λ e. (x : A) × IsAmong xs x × (p : F) × (q : F) × Called g p (x, tt) (Err e) q)
    → ((x : A) (y : B) (p q : F) → Called g p (x, tt) (Ok y) q → R x y)
    → ((x : A) (e : E) (p q : F) → Called g p (x, tt) (Err e) q → (y : B) → R x y → ⊥)
    → MatchOption (result_ok r) ((ys : List B) → AllZip R xs ys → ⊥) (λ ys. AllZip R xs ys)
all_read {A} {B} {E} {F} {g} R d xs (Ok ys) ok err to none = zip_again (λ x y. (p : F) × (q : F) × Called g p (x, tt) (Ok y) q) R (λ x y k. to x y k.0 k.1 k.2) xs ys ok.whole
all_read {A} {B} {E} {F} {g} R d xs (Err e) ok (x, among, p, q, called) to none = λ ys all. none x e p q called (get_or ys among.0 d) (subst (λ (v : A). R v (get_or ys among.0 d)) (sym among.1.1) (each_at R x d xs ys among.0 among.1.0 all))

-- the same with a fact beside it that holds whatever is read
pub with_fact : {B : Type 0} (L : Type 0) (P : B → Type 0) (o : Option B) → L → MatchOption o ((y : B) → P y → ⊥) P → MatchOption o ((y : B) → L × P y → ⊥) (λ y. L × P y)
with_fact L P None l none = λ y h. none y h.1
with_fact L P (Some y) l h = (l, h)

-- a relation of what f makes of each
each_map : {A B C : Type 0} (R : B → C → Type 0) (f : A → B) (xs : List A) (ys : List C) → AllZip (λ x y. R (f x) y) xs ys → AllZip R (map f xs) ys
each_map R f [] [] e = tt
each_map R f [] (y ∷ ys) e = e
each_map R f (x ∷ xs) [] e = e
each_map R f (x ∷ xs) (y ∷ ys) e = (e.0, each_map R f xs ys e.1)

each_of_map : {A B C : Type 0} (R : B → C → Type 0) (f : A → B) (xs : List A) (ys : List C) → AllZip R (map f xs) ys → AllZip (λ x y. R (f x) y) xs ys
each_of_map R f [] [] e = tt
each_of_map R f [] (y ∷ ys) e = e
each_of_map R f (x ∷ xs) [] e = e
each_of_map R f (x ∷ xs) (y ∷ ys) e = (e.0, each_of_map R f xs ys e.1)

pub mapped : {A B C : Type 0} (R : B → C → Type 0) (f : A → B) (xs : List A) (o : Option (List C)) → MatchOption o ((ys : List C) → AllZip (λ x y. R (f x) y) xs ys → ⊥) (λ ys. AllZip (λ x y. R (f x) y) xs ys) → MatchOption o ((ys : List C) → AllZip R (map f xs) ys → ⊥) (λ ys. AllZip R (map f xs) ys)
mapped R f xs None none = λ ys e. none ys (each_of_map R f xs ys e)
mapped R f xs (Some ys) e = each_map R f xs ys e
