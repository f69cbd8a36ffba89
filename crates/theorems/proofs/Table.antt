-- The answers on examples, computed.
use Rattle.std.proofs.Common.{◌≡◌, Bool, List, [], ◌∷◌, map, refl, subst}
use Rattle.models.specs.Named.{all_named, formula_of}
use Rattle.models.specs.Trees.{holds}
use Rattle.models.specs.declared.Named.{Named}
use Rattle.std.specs.List.{AllByRecursion}
use Rattle.theorems.specs.Examples.{Example, under, Answers, marks_of, examples, further_examples, Verdicts}
use Rattle.theorems.proofs.Bridging.{bridge}
use Rattle.theorems.proofs.Computed.{dec_kept}
use Rattle.theorems.proofs.Deciding.{decide, decides}
use Rattle.theorems.proofs.Tested.{tested_again}

-- the answer on an example under a named model
abbrev answer : Example → Named → Bool
answer x n = decide x.places x.initial (holds (formula_of n))

abbrev answers : Example → List Bool
answers x = map (answer x) all_named

told : (x : Example) (ns : List Named) → Answers x ns (map (answer x) ns)
told x [] = tt
told x (n ∷ ns) =
    let orders = decides x.places x.initial (holds (formula_of n)) in
    let agree = bridge (under x n) (dec_kept (holds (formula_of n)) x.places) in
    ((tested_again agree.1 agree.0 orders).tells, (orders.tells, told x ns))

all_told : (xs : List Example) → map answers xs ≡ marks_of xs → AllByRecursion (λ x. Answers x all_named x.marks) xs
all_told [] e = tt
all_told (x ∷ xs) e =
    let first : answers x ≡ x.marks = cc in
    let rest : map answers xs ≡ marks_of xs = cc in
    (subst (Answers x all_named) first (told x all_named), all_told xs rest)

-- examples are marked rightly where the marks are what is computed
verdicts : (xs : List Example) (rows : List (List Bool)) → map answers xs ≡ marks_of xs → rows ≡ marks_of xs → Verdicts xs rows
verdicts xs rows e same = record { marked = same; right = all_told xs e }

pub worked : Verdicts examples (marks_of examples)
worked = verdicts examples _ refl refl

pub further_worked : Verdicts further_examples (marks_of further_examples)
further_worked = verdicts further_examples _ refl refl
