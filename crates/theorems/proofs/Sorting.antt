-- The numbers below n in an order in which every edge of a relation without a cycle goes forward.
use Rattle.std.proofs.Common.{◌≡◌, ℕ, zero, suc, ◌<◌, ◌≤◌, ◌⊎◌, List, [], ◌∷◌, sym, refl, subst, inl, inr, ⊎_elim, arith}
use Rattle.std.proofs.lemmas.Bool.{cases_lt}
use Rattle.semantics.specs.Lists.{Before, ListsEach}
use Rattle.semantics.proofs.Standing.{In, here, there, Ahead, now, later, in_listed, listed_in, ahead_before, before_ahead}

-- one edge after another
pub data Road (R : ℕ → ℕ → Type 0) : ℕ → ℕ → Type 0 where
  one : {x y : ℕ} → R x y → Road R x y
  more : {x y z : ℕ} → R x y → Road R y z → Road R x z

-- an edge, or two by way of m
abbrev ByWay : (ℕ → ℕ → Type 0) → ℕ → ℕ → ℕ → Type 0
ByWay R m x y = R x y ⊎ (R x m × R m y)

-- such roads are roads of the relation itself
direct : {R : ℕ → ℕ → Type 0} (m : ℕ) {x y : ℕ} → Road (ByWay R m) x y → Road R x y
direct m (one (inl r)) = one r
direct m (one (inr p)) = more p.0 (one p.1)
direct m (more (inl r) road) = more r (direct m road)
direct m (more (inr p) road) = more p.0 (more p.1 (direct m road))

pub dec_both : {A B : Type 0} → Dec A → Dec B → Dec (A × B)
dec_both (yes a) (yes b) = yes (a, b)
dec_both (yes a) (no g) = no (λ p. g p.1)
dec_both (no f) d = no (λ p. f p.0)

pub dec_either : {A B : Type 0} → Dec A → Dec B → Dec (A ⊎ B)
dec_either (yes a) d = yes (inl a)
dec_either (no f) (yes b) = yes (inr b)
dec_either (no f) (no g) = no (⊎_elim f g)

-- the first list where A holds, else the second
abbrev pub choose : {A : Type 0} → Dec A → List ℕ → List ℕ → List ℕ
choose (yes a) s t = s
choose (no f) s t = t

second_in : {x y : ℕ} {o : List ℕ} → Ahead x y o → In y o
second_in (now e h) = there h
second_in (later h) = there (second_in h)

moved : {x y : ℕ} {o : List ℕ} → x ≡ y → In x o → In y o
moved e (here f) = here (cc)
moved e (there h) = there (moved e h)

-- nothing stands before the first of a list that has nothing twice
none_before : {x a : ℕ} {o : List ℕ} → ((y : ℕ) → Ahead y y (a ∷ o) → ⊥) → Ahead x a (a ∷ o) → ⊥
none_before {a = a} single (now e h) = single a (now refl h)
none_before {a = a} single (later h) = single a (now refl (second_in h))

ahead_tail : {x y a : ℕ} {o : List ℕ} → ((z : ℕ) → Ahead z z (a ∷ o) → ⊥) → In x o → Ahead x y (a ∷ o) → Ahead x y o
ahead_tail {a = a} single i (now e h) = absurd (single a (now refl (moved (sym e) i)))
ahead_tail single i (later h) = h

-- m is put before the first place of which S holds, or last
module _ {S : ℕ → Type 0} (d : (y : ℕ) → Dec (S y)) (m : ℕ) where
  abbrev put : List ℕ → List ℕ
  put [] = m ∷ []
  put (a ∷ o) = choose (d a) (m ∷ a ∷ o) (a ∷ put o)

  put_new : (o : List ℕ) → In m (put o)
  put_new [] = here refl
  put_new (a ∷ o) = from (d a) (put_new o)
    where
      from : (k : Dec (S a)) → In m (put o) → In m (choose k (m ∷ a ∷ o) (a ∷ put o))
      from (yes s) h = here refl
      from (no f) h = there h

  put_keeps : {x : ℕ} {o : List ℕ} → In x o → In x (put o)
  put_keeps {x} (here {a = a} {o = o} e) = from (d a)
    where
      from : (k : Dec (S a)) → In x (choose k (m ∷ a ∷ o) (a ∷ put o))
      from (yes s) = there (here e)
      from (no f) = here e
  put_keeps {x} (there {a = a} {o = o} h) = from (d a) (put_keeps h)
    where
      from : (k : Dec (S a)) → In x (put o) → In x (choose k (m ∷ a ∷ o) (a ∷ put o))
      from (yes s) i = there (there h)
      from (no f) i = there i

  put_only : {x : ℕ} (o : List ℕ) → In x (put o) → (m ≡ x) ⊎ In x o
  put_only [] (here e) = inl e
  put_only [] (there h) = inr h
  put_only {x} (a ∷ o) h = from (d a) (put_only o) h
    where
      from : (k : Dec (S a)) → (In x (put o) → (m ≡ x) ⊎ In x o) → In x (choose k (m ∷ a ∷ o) (a ∷ put o)) → (m ≡ x) ⊎ In x (a ∷ o)
      from (yes s) rest (here e) = inl e
      from (yes s) rest (there i) = inr i
      from (no f) rest (here e) = inr (here e)
      from (no f) rest (there i) = ⊎_elim inl (λ j. inr (there j)) (rest i)

  put_ahead : {x y : ℕ} {o : List ℕ} → Ahead x y o → Ahead x y (put o)
  put_ahead {x} {y} (now {a = a} {o = o} e h) = from (d a)
    where
      from : (k : Dec (S a)) → Ahead x y (choose k (m ∷ a ∷ o) (a ∷ put o))
      from (yes s) = later (now e h)
      from (no f) = now e (put_keeps h)
  put_ahead {x} {y} (later {a = a} {o = o} h) = from (d a) (put_ahead h)
    where
      from : (k : Dec (S a)) → Ahead x y (put o) → Ahead x y (choose k (m ∷ a ∷ o) (a ∷ put o))
      from (yes s) i = later (later h)
      from (no f) i = later i

  -- m is put in once, and nothing else is
  put_once : {x : ℕ} (o : List ℕ) → (In m o → ⊥) → (Ahead x x o → ⊥) → Ahead x x (put o) → ⊥
  put_once [] new single (now e h) = elim h [ ]
  put_once [] new single (later h) = elim h [ ]
  put_once {x} (a ∷ o) new single h = from (d a) (put_once o (λ i. new (there i)) (λ i. single (later i))) h
    where
      from : (k : Dec (S a)) → (Ahead x x (put o) → ⊥) → Ahead x x (choose k (m ∷ a ∷ o) (a ∷ put o)) → ⊥
      from (yes s) rest (now e i) = new (moved (sym e) i)
      from (yes s) rest (later i) = single i
      from (no f) rest (now e i) = ⊎_elim (λ g. new (here (cc))) (λ j. single (now e j)) (put_only o i)
      from (no f) rest (later i) = rest i

  -- m stands before every place of which S holds
  put_before : {y : ℕ} {o : List ℕ} → In y o → S y → Ahead m y (put o)
  put_before {y} (here {a = a} {o = o} e) s = from (d a)
    where
      from : (k : Dec (S a)) → Ahead m y (choose k (m ∷ a ∷ o) (a ∷ put o))
      from (yes t) = now refl (here e)
      from (no f) = absurd (f (subst S (sym e) s))
  put_before {y} (there {a = a} {o = o} h) s = from (d a) (put_before h s)
    where
      from : (k : Dec (S a)) → Ahead m y (put o) → Ahead m y (choose k (m ∷ a ∷ o) (a ∷ put o))
      from (yes t) i = now refl (there h)
      from (no f) i = later i

  -- m stands after every place that stands before all of which S holds
  put_after : {x : ℕ} {o : List ℕ} → In x o → ((y : ℕ) → Ahead y y o → ⊥) → ((y : ℕ) → In y o → S y → Ahead x y o) → Ahead x m (put o)
  put_after {x} (here {a = a} {o = o} e) single first = from (d a)
    where
      from : (k : Dec (S a)) → Ahead x m (choose k (m ∷ a ∷ o) (a ∷ put o))
      from (yes s) = absurd (none_before single (first a (here refl) s))
      from (no f) = now e (put_new o)
  put_after {x} (there {a = a} {o = o} h) single first =
      from (d a) (put_after h (λ y i. single y (later i)) (λ y i s. ahead_tail single h (first y (there i) s)))
    where
      from : (k : Dec (S a)) → Ahead x m (put o) → Ahead x m (choose k (m ∷ a ∷ o) (a ∷ put o))
      from (yes s) i = absurd (none_before single (first a (here refl) s))
      from (no f) i = later i

-- an order of the numbers below n in which every edge goes forward
record Sorted (n : ℕ) (R : ℕ → ℕ → Type 0) : Type 0 where
  order : List ℕ
  every : (x : ℕ) → x < n → In x order
  only : (x : ℕ) → In x order → x < n
  once : (x : ℕ) → Ahead x x order → ⊥
  forward : (x y : ℕ) → x < n → y < n → R x y → Ahead x y order

-- the last number is taken out, with the edges by way of it put in its place, and then put where it belongs
sort : (n : ℕ) (R : ℕ → ℕ → Type 0) → ((x y : ℕ) → Dec (R x y)) → ((x : ℕ) → Road R x x → ⊥) → Sorted n R
sort zero R d acyclic = record {
  order = [];
  every = λ x h. absurd (omega arith);
  only = λ x h. elim h [ ];
  once = λ x h. elim h [ ];
  forward = λ x y h. absurd (omega arith);
}
sort (suc m) R d acyclic =
    with_last (sort m (ByWay R m) (λ x y. dec_either (d x y) (dec_both (d x m) (d m y))) (λ x road. acyclic x (direct m road)))
  where
    goes : (s : Sorted m (ByWay R m)) (x y : ℕ) → x < suc m → y < suc m → (x < m) ⊎ (m ≤ x) → (y < m) ⊎ (m ≤ y) → R x y → Ahead x y (put (d m) m s.order)
    goes s x y in_x in_y (inl h) (inl k) r = put_ahead (d m) m (s.forward x y h k (inl r))
    goes s x y in_x in_y (inl h) (inr k) r =
        let top : m ≡ y = omega arith in
        let into : R x m = subst (λ z. R x z) (sym top) r in
        subst (λ z. Ahead x z (put (d m) m s.order)) top
        (put_after (d m) m (s.every x h) s.once (λ z i out. s.forward x z h (s.only z i) (inr (into, out))))
    goes s x y in_x in_y (inr h) (inl k) r =
        let top : m ≡ x = omega arith in
        subst (λ z. Ahead z y (put (d m) m s.order)) top (put_before (d m) m (s.every y k) (subst (λ z. R z y) (sym top) r))
    goes s x y in_x in_y (inr h) (inr k) r = let same : y ≡ x = omega arith in absurd (acyclic x (one (subst (λ z. R x z) same r)))

    with_last : Sorted m (ByWay R m) → Sorted (suc m) R
    with_last s = record {
      order = put (d m) m s.order;
      every = λ x h. ⊎_elim (λ below. put_keeps (d m) m (s.every x below)) (λ top. moved (omega arith) (put_new (d m) m s.order)) (cases_lt x m);
      only = λ x h. ⊎_elim (λ e. omega arith) (λ i. let below = s.only x i in omega arith) (put_only (d m) m s.order h);
      once = λ x h. put_once (d m) m s.order (λ i. let below = s.only m i in omega arith) (s.once x) h;
      forward = λ x y h k. goes s x y h k (cases_lt x m) (cases_lt y m);
    }

-- the same, of the lists that the specs have
pub sorting : (n : ℕ) (R : ℕ → ℕ → Type 0) → ((x y : ℕ) → Dec (R x y)) → ((x : ℕ) → Road R x x → ⊥) → (o : List ℕ) × ListsEach (λ x. x < n) o × ((x y : ℕ) → x < n → y < n → R x y → Before o x y)
sorting n R d acyclic =
    let s = sort n R d acyclic in
    let o = s.order in (
      o,
      record {
        every = λ x h. in_listed (s.every x h);
        only = λ x h. s.only x (listed_in o x h);
        once = λ x h. s.once x (before_ahead o x x h);
      },
      λ x y h k r. ahead_before (s.forward x y h k r),
    )
