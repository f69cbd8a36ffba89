-- Examples, with what is said of each under SC, IBM370, TSO and RMO.
use Rattle.std.specs.Prelude.{◌≡◌, ℕ, Bool, true, false, List, [], ◌∷◌, map, Some, None}
use Rattle.std.specs.List.{AllByRecursion}
use Rattle.models.specs.Named.{all_named, formula_of}
use Rattle.models.specs.Tells.{Tells}
use Rattle.models.specs.Trees.{holds}
use Rattle.models.specs.declared.Named.{Named}
use Rattle.semantics.specs.Events.{Events, events_of}
use Rattle.semantics.specs.HappensBefore.{Allowed}
use Rattle.semantics.specs.declared.Instruction.TheVariants.{Read, Write, Fence, Sum, Difference, Branch}
use Rattle.semantics.specs.declared.Placed.{Placed}
use Rattle.semantics.specs.declared.Stored.TheVariants.{Constant, Register}
use Rattle.theorems.specs.Statements.{Fulfillable}

-- a test, and whether its outcome is allowed under SC, IBM370, TSO and RMO
pub record Example : Type 0 where
  pub places : List Placed
  pub initial : List ℕ
  pub marks : List Bool

-- thread t reads location l into register r, and v is expected
abbrev read : ℕ → ℕ → ℕ → ℕ → Placed
read t r l v = record { thread = t; instruction = Read l r None; expected = Some v }

-- thread t writes v to location l
abbrev write : ℕ → ℕ → ℕ → Placed
write t l v = record { thread = t; instruction = Write l (Constant v) None; expected = None }

-- thread t writes what register r holds to location l
abbrev copy : ℕ → ℕ → ℕ → Placed
copy t l r = record { thread = t; instruction = Write l (Register r) None; expected = None }

abbrev fence : ℕ → Placed
fence t = record { thread = t; instruction = Fence; expected = None }

-- the same with an address register
abbrev read_at : ℕ → ℕ → ℕ → ℕ → ℕ → Placed
read_at t r l v address = record { thread = t; instruction = Read l r (Some address); expected = Some v }

abbrev sum : ℕ → ℕ → ℕ → ℕ → Placed
sum t r p q = record { thread = t; instruction = Sum r p q; expected = None }

abbrev difference : ℕ → ℕ → ℕ → ℕ → Placed
difference t r p q = record { thread = t; instruction = Difference r p q; expected = None }

abbrev branch : ℕ → ℕ → Placed
branch t r = record { thread = t; instruction = Branch r; expected = None }

abbrev a : ℕ
a = 0

abbrev b : ℕ
b = 1

abbrev c : ℕ
c = 2

-- allowed and forbidden
abbrev A : Bool
A = true

abbrev F : Bool
F = false

abbrev marked : Bool → Bool → Bool → Bool → List Bool
marked sc ibm370 tso rmo = sc ∷ ibm370 ∷ tso ∷ rmo ∷ []

-- all initial values are 0
abbrev example : List Placed → List Bool → Example
example ps marks = record { places = ps; initial = 0 ∷ 0 ∷ 0 ∷ 0 ∷ []; marks = marks }

-- an example's outcome under a named model
abbrev pub under : Example → Named → Events
under x n = events_of x.places x.initial (holds (formula_of n))

-- twelve worked examples; b=0 is a read that expects 0, and bars part threads
abbrev pub examples : List Example
examples =
    -- W a 1, b=0 | W b 1, a=0
    example (write 0 a 1 ∷ read 0 0 b 0 ∷ write 1 b 1 ∷ read 1 0 a 0 ∷ []) (marked F A A A)
    -- W a 1, W b 1 | b=1, a=0
    ∷ example (write 0 a 1 ∷ write 0 b 1 ∷ read 1 0 b 1 ∷ read 1 1 a 0 ∷ []) (marked F F F A)
    -- W a 1 | a=1, a=0
    ∷ example (write 0 a 1 ∷ read 1 0 a 1 ∷ read 1 1 a 0 ∷ []) (marked F F F A)
    -- a=1, W b 1 | b=1, W a 1
    ∷ example (read 0 0 a 1 ∷ write 0 b 1 ∷ read 1 0 b 1 ∷ write 1 a 1 ∷ []) (marked F F F A)
    -- the same, each write storing the register just read
    ∷ example (read 0 0 a 1 ∷ copy 0 b 0 ∷ read 1 0 b 1 ∷ copy 1 a 0 ∷ []) (marked F F F F)
    -- the first with a fence between in both threads
    ∷ example (write 0 a 1 ∷ fence 0 ∷ read 0 0 b 0 ∷ write 1 b 1 ∷ fence 1 ∷ read 1 0 a 0 ∷ []) (marked F F F F)
    -- W a 1, a=1, b=0 | W b 1, b=1, a=0
    ∷ example (write 0 a 1 ∷ read 0 0 a 1 ∷ read 0 1 b 0 ∷ write 1 b 1 ∷ read 1 0 b 1 ∷ read 1 1 a 0 ∷ []) (marked F F A A)
    -- W a 1, a=0
    ∷ example (write 0 a 1 ∷ read 0 0 a 0 ∷ []) (marked F F F F)
    -- a=1, W a 1
    ∷ example (read 0 0 a 1 ∷ write 0 a 1 ∷ []) (marked F F F F)
    -- a=7 alone, initial value 7
    ∷ record { places = read 0 0 a 7 ∷ []; initial = 7 ∷ 0 ∷ 0 ∷ 0 ∷ []; marks = marked A A A A }
    -- no instruction
    ∷ example [] (marked A A A A)
    -- W a 1 | W b 1 | a=1, b=0 | b=1, a=0
    ∷ example (write 0 a 1 ∷ write 1 b 1 ∷ read 2 0 a 1 ∷ read 2 1 b 0 ∷ read 3 0 b 1 ∷ read 3 1 a 0 ∷ []) (marked F F F A)
    ∷ []

-- examples that turn on dependencies, on values and on coherence
abbrev pub further_examples : List Example
further_examples =
    -- W a 1, fence, W b 1 | b=1, a=0
    example (write 0 a 1 ∷ fence 0 ∷ write 0 b 1 ∷ read 1 0 b 1 ∷ read 1 1 a 0 ∷ []) (marked F F F A)
    -- the second read has the first one's register as its address register
    ∷ example (write 0 a 1 ∷ fence 0 ∷ write 0 b 1 ∷ read 1 0 b 1 ∷ read_at 1 1 a 0 0 ∷ []) (marked F F F F)
    -- a sum of other registers stands between, with the same target
    ∷ example (write 0 a 1 ∷ fence 0 ∷ write 0 b 1 ∷ read 1 0 b 1 ∷ sum 1 0 1 1 ∷ read_at 1 2 a 0 0 ∷ []) (marked F F F A)
    -- by way of a difference
    ∷ example (write 0 a 1 ∷ fence 0 ∷ write 0 b 1 ∷ read 1 0 b 1 ∷ difference 1 1 0 0 ∷ read_at 1 2 a 0 1 ∷ []) (marked F F F F)
    -- a=1, branch, W b 1 | b=1, W a r0
    ∷ example (read 0 0 a 1 ∷ branch 0 0 ∷ write 0 b 1 ∷ read 1 0 b 1 ∷ copy 1 a 0 ∷ []) (marked F F F F)
    -- a=1, branch, W b 1, W c 1 | c=1, W a r0
    ∷ example (read 0 0 a 1 ∷ branch 0 0 ∷ write 0 b 1 ∷ write 0 c 1 ∷ read 1 0 c 1 ∷ copy 1 a 0 ∷ []) (marked F F F A)
    -- a=1, r1 := r2 - r0, W b r1 | b=255 | W a 1
    ∷ example (read 0 0 a 1 ∷ difference 0 1 2 0 ∷ copy 0 b 1 ∷ read 1 0 b 255 ∷ write 2 a 1 ∷ []) (marked A A A A)
    -- a=255, r1 := r0 + r0, W b r1 | b=254 | W a 255
    ∷ example (read 0 0 a 255 ∷ sum 0 1 0 0 ∷ copy 0 b 1 ∷ read 1 0 b 254 ∷ write 2 a 255 ∷ []) (marked A A A A)
    -- a=1 | W b r0 | b=1 | W a 1: each thread has registers of its own
    ∷ example (read 0 0 a 1 ∷ copy 1 b 0 ∷ read 2 0 b 1 ∷ write 3 a 1 ∷ []) (marked F F F F)
    -- W a 1, W a 2, a=1: a thread sees its own last write
    ∷ example (write 0 a 1 ∷ write 0 a 2 ∷ read 0 0 a 1 ∷ []) (marked F F F F)
    -- W a 1 | W a 2 | a=1, fence, a=2 | a=2, fence, a=1: all threads agree on the order of the writes
    ∷ example (write 0 a 1 ∷ write 1 a 2 ∷ read 2 0 a 1 ∷ fence 2 ∷ read 2 1 a 2 ∷ read 3 0 a 2 ∷ fence 3 ∷ read 3 1 a 1 ∷ []) (marked F F F F)
    ∷ []

-- each answer tells whether the outcome is allowed under the model, by happens-before and by orders
abbrev pub Answers : Example → List Named → List Bool → Type 0
Answers x [] [] = Unit {0}
Answers x [] (v ∷ vs) = ⊥
Answers x (n ∷ ns) [] = ⊥
Answers x (n ∷ ns) (v ∷ vs) = Tells v (Allowed (under x n)) × (Tells v (Fulfillable (under x n)) × Answers x ns vs)

abbrev pub marks_of : List Example → List (List Bool)
marks_of xs = map (λ x. x.marks) xs

-- the rows are the marks of the examples, and each example is marked as it should be
pub record Verdicts (xs : List Example) (rows : List (List Bool)) : Type 0 where
  pub marked : rows ≡ marks_of xs
  pub right : AllByRecursion (λ x. Answers x all_named x.marks) xs
