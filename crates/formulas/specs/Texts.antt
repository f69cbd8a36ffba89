-- The formula texts of the named models.
use Rattle.std.specs.Prelude.{ℕ, List, codes}
use Rattle.models.specs.declared.Named.{Named}
use Rattle.models.specs.declared.Named.TheVariants.{Sc, Ibm370, Tso, Rmo}

abbrev pub text_of : Named → List ℕ
text_of Sc = codes "true"
text_of Ibm370 = codes "Write.x & Read.y & SameAddr | Write.x & Write.y | Read.x | Fence.x | Fence.y"
text_of Tso = codes "Write.x & Write.y | Read.x | Fence.x | Fence.y"
text_of Rmo = codes "Write.y & SameAddr | Fence.x | Fence.y | DataDep | ControlDep"
