-- What holds at each kind holds at all.
use Rattle.std.proofs.Common.{◌≡◌, ℕ, suc, ◌+◌, List, get_or, sym, subst}
use Rattle.std.specs.Array.{IsMapOf, MapsFrom}
use Rattle.std.specs.Fn.{Called}
use denote.Param.Members.{Mut}
use Rattle.models.specs.Facts.{index, all_kinds, EachKind}
use Rattle.models.specs.declared.facts.Kind.{Kind}
use Rattle.models.specs.declared.facts.Kind.TheVariants.{Read, Write, Fence, Arithmetic, Branch}

pub by_kind : (P : Kind → Type 0) → P Read → P Write → P Fence → P Arithmetic → P Branch → (k : Kind) → P k
by_kind P r w f a b Read = r
by_kind P r w f a b Write = w
by_kind P r w f a b Fence = f
by_kind P r w f a b Arithmetic = a
by_kind P r w f a b Branch = b

-- calls that leave the closure as it is: what the first of them gives, and the others
first_call : {F A B : Type 0} {g : Mut F (A × Unit {0}) B} {f : F} (xs : List A) (ys : List B) (R : A → B → Type 0) → ((x : A) (y : B) (q : F) → Called g f (x, tt) y q → (q ≡ f) × R x y) → (d : A) (e : B) (i n : ℕ) → MapsFrom g f xs ys i (suc n) → R (get_or xs i d) (get_or ys i e) × MapsFrom g f xs ys (i + 1) n
first_call {F} {A} {B} {g} {f} xs ys R pure d e i n (q, x, y, at_x, at_y, called, rest) =
    let k = pure x y q called in
    (subst (λ (u : A). R u (get_or ys i e)) (sym (at_x.1 d)) (subst (R x) (sym (at_y.1 e)) k.1), subst (λ (p : F). MapsFrom g p xs ys (i + 1) n) k.0 rest)

-- what a call gives at each kind stands in its place in the array that the calls make
pub each_mapped : {F B : Type 0} {g : Mut F (Kind × Unit {0}) B} {f : F} (ks : List Kind) (ys : List B) (d : B) (R : Kind → B → Type 0) → IsMapOf g f ks ys 5 → ks ≡ all_kinds → ((x : Kind) (y : B) (q : F) → Called g f (x, tt) y q → (q ≡ f) × R x y) → EachKind (λ k. R k (get_or ys (index k) d))
each_mapped {F} {B} {g} {f} ks ys d R m is pure =
    let next = first_call all_kinds ys R pure Read d in
    let read = next 0 4 (subst (λ (l : List Kind). MapsFrom g f l ys 0 5) is m.each) in
    let write = next 1 3 read.1 in
    let fence = next 2 2 write.1 in
    let arithmetic = next 3 1 fence.1 in
    (read.0, (write.0, (fence.0, (arithmetic.0, (next 4 0 arithmetic.1).0))))
