-- The numbers of refusals, and their texts.
use Rattle.std.specs.Prelude.{ℕ, List, ◌++◌, codes}
use Rattle.std.specs.Fmt.{decimal}
use Rattle.semantics.specs.declared.refusal.Refusal.{Refusal}
use Rattle.semantics.specs.declared.refusal.Refusal.TheVariants.{NoThread, OutOfBounds, Full, FifthWrite, NoRead, Empty}

abbrev pub number_of : Refusal → ℕ
number_of NoThread = 1
number_of OutOfBounds = 2
number_of Full = 3
number_of FifthWrite = 4
number_of NoRead = 5
number_of Empty = 6

-- such as "refused 3"
abbrev pub text_of : Refusal → List ℕ
text_of refusal = codes "refused " ++ decimal (number_of refusal)
